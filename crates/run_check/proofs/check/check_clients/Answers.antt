use Rattle.std.proofs.Common.{rules, arith, ◌≡◌, ◌∙◌, sym, ap, map, option_copied, None, slice_get}
use Rattle.run_check.specs.FirstBad.{found_by}
use Rattle.run_check.specs.OutputView.{output_of}
use Rattle.run_check.specs.Views.{printed_of}
use Rattle.run_check.proofs.ClientsHeard.{IsNext, all_checked, judged_on, next_heard, no_script_less, none_checked_yet, one_checked_more, one_not_checked, replies_there}
use Rattle.run_check.proofs.check.check_clients.Goals as goal
use Rattle.run_check.proofs.check.check_clients.Goals.{After-deref}

pub loop-client-init : goal.loop-client-init
loop-client-init c = λ schema names out lawful is ready.
    none_checked_yet schema names c.args.scripts.now out c.args.output.now is c.args.sessions.now ready

pub returns-in_default : goal.returns-in_default
returns-in_default c = λ schema names out lawful is ready.
    let l = c.loop-client in
    let none : slice_get c.args.scripts.now l.client ≡ None = sym c.get.ensures ∙ ap option_copied c.in_default.is in
    no_script_less schema names c.args.scripts.now out c.args.output.now is l.client none (search (rules, arith))

-- the script of the next client, and its replies
next : (c : After-deref) → IsNext c.args.scripts.now c.args.output.now c.loop-client.client c.in-Some.script.now (map printed_of c.deref.result.now)
next c = record {
  script_is = sym c.get.ensures ∙ ap option_copied c.in-Some.is;
  replies_are = replies_there c.args.output.now.clients.items c.deref-replies-items.result.now c.loop-client.client c.replies-item.result c.deref.result.now c.deref-replies-items.ensures.value (search rules) c.replies-item.is c.deref.ensures.value;
}

pub check_client-requires : goal.check_client-requires
check_client-requires c =
    let l = c.loop-client in
    let (schema, names, out, lawful, is, ready) = c.requires.ready in
    let so_far = l.invariant schema names out lawful is ready in
    record {
      heard = (
        schema,
        found_by schema (output_of c.args.scripts.now c.args.output.now),
        so_far.txns,
        so_far.ready,
        next_heard schema names c.args.scripts.now out c.args.output.now is lawful l.client c.in-Some.script.now (map printed_of c.deref.result.now) (next (goal.at.check_client-requires c).After-deref),
      );
    }

pub returns-in_err-check_client : goal.returns-in_err-check_client
returns-in_err-check_client c = λ schema names out lawful is ready.
    let l = c.loop-client in
    judged_on schema names c.args.scripts.now out c.in_err-check_client.field-0.0 c.from_residual.result
    (one_not_checked schema names c.args.scripts.now out c.args.output.now is lawful l.client l.sessions c.check_client.new.self c.in-Some.script.now (map printed_of c.deref.result.now) (l.invariant schema names out lawful is ready) (next (goal.at.returns-in_err-check_client c).After-deref) c.in_err-check_client.field-0.0
    (c.in_err-check_client.ensures.told schema))
    c.from_residual.ensures.1

pub loop-client-preserved : goal.loop-client-preserved
loop-client-preserved c = λ schema names out lawful is ready.
    let l = c.loop-client in
    one_checked_more schema names c.args.scripts.now out c.args.output.now is lawful l.client l.sessions c.check_client.new.self c.in-Some.script.now (map printed_of c.deref.result.now) (l.invariant schema names out lawful is ready) (next (goal.at.loop-client-preserved c).After-deref) c.in_ok-check_client.field-0
    (c.in_ok-check_client.ensures.told schema)

pub returns : goal.returns
returns c = λ schema names out lawful is ready.
    let l = c.loop-client in
    all_checked schema names c.args.scripts.now out c.args.output.now is l.client l.sessions (l.invariant schema names out lawful is ready) (search (rules, arith))
