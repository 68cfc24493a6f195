use Rattle.std.proofs.Common.{rules, arith, ◌≡◌, ◌<◌, ◌≤◌, ap, refl, sym, ◌∙◌, length, option_copied, None, Some}
use Rattle.std.specs.Prelude.{slice_get}
use Rattle.std.proofs.lemmas.Option.{slice_get_read}
use Rattle.run_check.proofs.CommitsPrinted.{length_none, no_more_lines, no_more_replies, one_more_added}
use Rattle.run_check.proofs.commits.add_commits.Goals as goal

pub returns-in_default-get : goal.returns-in_default-get
returns-in_default-get c =
    let l = c.loop-at in
    no_more_replies c.args.client c.args.script.now c.args.replies.now c.args.commits.now.items l.at l.working l.commits.items l.invariant c.in_default-get.ensures.lookup.3

pub loop-at-preserved : goal.loop-at-preserved
loop-at-preserved c =
    let l = c.loop-at in
    let line = sym c.get.ensures ∙ ap option_copied c.in-Some.is in
    let found = c.in-Some-get.ensures.lookup in
    let within : l.at < length c.args.replies.now = found.3.0 in
    let reply : slice_get c.args.replies.now l.at ≡ Some c.in-Some-get.printed.now = slice_get_read c.args.replies.now (length c.args.replies.now) l.at c.in-Some-get.printed.now refl within found.1 in
    one_more_added c.args.client c.args.script.now c.args.replies.now c.args.commits.now.items l.at l.working l.commits.items l.invariant c.in-Some.line.now c.in-Some-get.printed.now c.after-working.result c.add_commit.new.commits.items line reply c.after-working.ensures c.in_ok-add_commit.ensures

pub unreachable-requires : goal.unreachable-requires
unreachable-requires c =
    let none : slice_get c.args.script.now c.loop-at.at ≡ None = sym c.get.ensures ∙ ap option_copied c.in_default.is in
    let past = length_none c.args.script.now c.loop-at.at none in
    absurd (omega (arith, past))

pub returns : goal.returns
returns c =
    let l = c.loop-at in
    let all : length c.args.script.now ≤ l.at = search (rules, arith) in
    no_more_lines c.args.client c.args.script.now c.args.replies.now c.args.commits.now.items l.at l.working l.commits.items l.invariant all
