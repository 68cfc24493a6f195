use Rattle.std.proofs.Common.{rules, arith, ◌≡◌, ◌≤◌, ◌+◌, ap, sym, ◌∙◌, ℕ, length, List, None, option_copied, Err}
use Rattle.std.specs.Prelude.{slice_get}
use Rattle.run_check.specs.Shape.{Read, Printed, shape, take_client}
use Rattle.run_check.specs.Reads.{clients_of, replies_of}
use Rattle.run_check.specs.Views.{place_of}
use Rattle.run_check.proofs.CommitsPrinted.{length_none}
use Rattle.run_check.proofs.RepliesTaken.{all_heard, client_refused, more_follows, one_more_client, stops_bad, stops_on}
use Rattle.run_check.proofs.shape.shape.Goals as goal

pub returns-in_err-replies : goal.returns-in_err-replies
returns-in_err-replies c =
    let l = c.loop-at in
    let word = c.in-Some.word.now in
    let script = c.in-Some-get.script.now in
    let named = sym c.get.ensures ∙ ap option_copied c.in-Some.is in
    let there = sym c.get-in-loop-at.ensures ∙ ap option_copied c.in-Some-get.is in
    stops_on replies_of (take_client (l.at + 1) word script (place_of l.place)) c.in_err-replies.field-0.0 clients_of (shape c.args.words.now c.args.scripts.now c.args.out.now) c.from_residual.result (client_refused c.args.words.now c.args.scripts.now c.args.out.now l.at l.clients.items l.place word script named there l.invariant) c.in_err-replies.ensures c.from_residual.ensures.1

pub loop-at-preserved : goal.loop-at-preserved
loop-at-preserved c =
    let l = c.loop-at in
    let named = sym c.get.ensures ∙ ap option_copied c.in-Some.is in
    let there = sym c.get-in-loop-at.ensures ∙ ap option_copied c.in-Some-get.is in
    one_more_client c.args.words.now c.args.scripts.now c.args.out.now l.at l.clients.items l.place c.in-Some.word.now c.in-Some-get.script.now named there l.invariant c.in_ok-replies.behind c.in_ok-replies.replies c.push.new.self.items c.in_ok-replies.ensures (search rules)

pub returns : goal.returns
returns c =
    let l = c.loop-at in
    let all : length c.args.words.now ≤ l.at = search (rules, arith) in
    let bad : ℕ → Read (List (List Printed)) = λ n. Err n in
    let more = more_follows c.args.words.now c.args.scripts.now c.args.out.now l.at l.clients.items l.place all l.invariant (sym c.is_end.ensures ∙ c.if-is_end.false) in
    stops_bad clients_of (shape c.args.words.now c.args.scripts.now c.args.out.now) (Err c.from.result) c.bad.result.line c.from.ensures (more ∙ ap bad (sym c.bad.ensures))

pub unreachable-requires : goal.unreachable-requires
unreachable-requires c =
    let none : slice_get c.args.words.now c.loop-at.at ≡ None = sym c.get.ensures ∙ ap option_copied c.in_default.is in
    let past = length_none c.args.words.now c.loop-at.at none in
    absurd (omega (arith, past))

pub unreachable-requires-in_default-get : goal.unreachable-requires-in_default-get
unreachable-requires-in_default-get c =
    let none : slice_get c.args.scripts.now c.loop-at.at ≡ None = sym c.get-in-loop-at.ensures ∙ ap option_copied c.in_default-get.is in
    let past = length_none c.args.scripts.now c.loop-at.at none in
    absurd (omega (arith, past, c.requires.named))

pub returns-then-is_end : goal.returns-then-is_end
returns-then-is_end c =
    let l = c.loop-at in
    let all : length c.args.words.now ≤ l.at = search (rules, arith) in
    all_heard c.args.words.now c.args.scripts.now c.args.out.now l.at l.clients.items l.place all l.invariant (sym c.is_end.ensures ∙ c.if-is_end.true)
