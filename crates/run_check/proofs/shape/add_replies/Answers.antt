use Rattle.std.proofs.Common.{rules, arith, ◌≡◌, ◌≤◌, ap, sym, subst, ◌∙◌, List, None, length, option_copied}
use Rattle.std.specs.Prelude.{slice_get}
use Rattle.run_check.specs.Shape.{take_replies}
use Rattle.run_check.specs.declared.mode.Mode.TheVariants.{Idle}
use Rattle.run_check.specs.declared.place.Place.{Place}
use Rattle.run_check.specs.declared.shape.Printed.{Printed}
use Rattle.run_check.specs.Reads.{replies_of}
use Rattle.run_check.specs.Views.{place_of}
use Rattle.run_check.proofs.CommitsPrinted.{length_none}
use Rattle.run_check.proofs.RepliesTaken.{AreReplied, all_replied, no_reply_yet, one_more_reply, reply_refused, stops_bad}
use Rattle.run_check.proofs.shape.add_replies.Goals as goal

pub loop-at-init : goal.loop-at-init
loop-at-init c = subst (λ (replies : List Printed). AreReplied c.args.script.now c.args.start 0 Idle replies c.args.start) (sym c.requires) (no_reply_yet c.args.script.now c.args.start)

pub returns-in_err-printed : goal.returns-in_err-printed
returns-in_err-printed c =
    let l = c.loop-at in
    let there = sym c.get.ensures ∙ ap option_copied c.in-Some.is in
    let line = c.in_err-printed.field-0.0.line in
    let bad = reply_refused c.args.script.now c.args.start l.place l.at l.mode l.replies.items c.in-Some.line.now there l.invariant line (sym c.in_err-printed.ensures) in
    stops_bad (λ (place : Place). replies_of (l.replies, place)) (take_replies Idle c.args.script.now (place_of c.args.start)) c.from_residual.result line c.from_residual.ensures.1 bad

pub loop-at-preserved : goal.loop-at-preserved
loop-at-preserved c =
    let l = c.loop-at in
    let there = sym c.get.ensures ∙ ap option_copied c.in-Some.is in
    one_more_reply c.args.script.now c.args.start l.place l.at l.mode l.replies.items c.in-Some.line.now there l.invariant c.in_ok-printed.behind c.after-mode.result c.in_ok-printed.printed c.push.new.self.items (sym c.in_ok-printed.ensures) c.after-mode.ensures (search rules)

pub unreachable-requires : goal.unreachable-requires
unreachable-requires c =
    let none : slice_get c.args.script.now c.loop-at.at ≡ None = sym c.get.ensures ∙ ap option_copied c.in_default.is in
    let past = length_none c.args.script.now c.loop-at.at none in
    absurd (omega (arith, past))

pub returns : goal.returns
returns c =
    let l = c.loop-at in
    let all : length c.args.script.now ≤ l.at = search (rules, arith) in
    all_replied c.args.script.now c.args.start l.place l.at l.mode l.replies.items all l.invariant
