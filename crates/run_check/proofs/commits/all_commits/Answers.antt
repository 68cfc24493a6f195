use Rattle.std.proofs.Common.{rules, arith, ◌≡◌, ap, sym, ◌∙◌, length, option_copied, Some, None}
use Rattle.std.specs.Prelude.{slice_get}
use Rattle.std.proofs.lemmas.Option.{slice_get_read}
use Rattle.run_check.proofs.CommitsPrinted.{length_none, no_more_clients, no_more_scripts, one_client_more}
use Rattle.run_check.proofs.commits.all_commits.Goals as goal

pub returns-in_default : goal.returns-in_default
returns-in_default c =
    let l = c.loop-client in
    let none : slice_get c.args.scripts.now l.client ≡ None = sym c.get.ensures ∙ ap option_copied c.in_default.is in
    no_more_scripts c.args.scripts.now c.args.clients.now l.client l.commits.items l.invariant (length_none c.args.scripts.now l.client none)

pub loop-client-preserved : goal.loop-client-preserved
loop-client-preserved c =
    let l = c.loop-client in
    let there = sym c.get.ensures ∙ ap option_copied c.in-Some.is in
    let told : slice_get c.args.clients.now l.client ≡ Some c.index-clients-client.result = slice_get_read c.args.clients.now (length c.args.clients.now) l.client c.index-clients-client.result (search rules) (search rules) c.index-clients-client.is in
    one_client_more c.args.scripts.now c.args.clients.now l.client l.commits.items l.invariant c.in-Some.script.now c.index-clients-client.result c.add_commits.new.commits.items there told (search rules)

pub returns : goal.returns
returns c =
    let l = c.loop-client in
    no_more_clients c.args.scripts.now c.args.clients.now l.client l.commits.items l.invariant (search (rules, arith))
