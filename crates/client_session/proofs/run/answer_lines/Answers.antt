use Rattle.std.proofs.Common.{rules, arith, ◌≡◌, ◌∙◌, ap, sym, subst, refl, None, ℕ}
use Rattle.std.specs.Prelude.{option_copied, slice_get}
use Rattle.std.proofs.lemmas.Option.{slice_get-get_or}
use Rattle.client_script.specs.declared.line.Line.{Line}
use Rattle.client_session.specs.inner.Carried.{AddsSome, CarriedOn}
use Rattle.client_session.specs.inner.OpenView.{caller_of}
use Rattle.client_script.specs.declared.command.Command.TheVariants as command
use Rattle.client_script.specs.declared.command.TransactionCommand.TheVariants as transaction_line
use Rattle.client_session.proofs.MadeSoFar.{room_carried}
use Rattle.client_session.proofs.OneMoreLine.{from_here, next, holds_now, kept_some, own_later, stops_here, was_err, was_ok}
use Rattle.client_session.proofs.OpenTurns.{later_self, on_err}
use Rattle.client_session.proofs.run.answer_lines.Goals as goal

pub loop-at-init : goal.loop-at-init
loop-at-init g c = from_here c.args.script.now c.args.from c.args.state c.args.transcript.now c.requires.so_far

pub unreachable-requires : goal.unreachable-requires
unreachable-requires g c =
    let none : None ≡ slice_get c.args.script.now c.loop-at.at = sym (ap option_copied c.in_default.is) ∙ c.get.ensures in
    let lt = c.loop-at-test.true in
    let len = c.len-at-end.ensures in
    let d : Line = record { number = 0; command = command.Transaction transaction_line.Read } in
    let some = slice_get-get_or c.args.script.now c.loop-at.at d (search (arith, lt, len)) in
    cc

pub answer_line-next-requires-clause-own : goal.answer_line-next-requires-clause-own
answer_line-next-requires-clause-own g c = own_later c.args.db.now (caller_of c.args.state.«open») (caller_of c.loop-at.state.«open») c.requires.own c.loop-at.invariant.carried.later

pub answer_line-next-requires-clause-holds : goal.answer_line-next-requires-clause-holds
answer_line-next-requires-clause-holds g c = holds_now (caller_of c.args.state.«open») c.args.script.now c.args.from c.loop-at.at c.loop-at.state c.args.transcript.now c.loop-at.transcript c.loop-at.invariant

pub answer_line-next-requires-clause-room : goal.answer_line-next-requires-clause-room
answer_line-next-requires-clause-room g c =
    let lt = c.loop-at-test.true in
    let len = c.len-at-end.ensures in
    room_carried (caller_of c.args.state.«open») c.args.script.now c.args.from c.loop-at.at c.args.transcript.now c.loop-at.state c.loop-at.transcript c.loop-at.invariant (omega (arith, lt, len)) (omega (arith, lt, len))

pub loop-at-preserved : goal.loop-at-preserved
loop-at-preserved g c = next (caller_of c.args.state.«open») c.args.script.now c.args.from c.loop-at.at c.loop-at.state c.answer_line-next.result.0 c.args.transcript.now c.loop-at.transcript c.answer_line-next.new.transcript c.in-Some.line.now (sym c.get.ensures ∙ ap option_copied c.in-Some.is) c.loop-at.invariant (was_ok c.answer_line-next.result.1 (search (rules)) c.answer_line-next.ensures.answered)

pub returns-then-is_err-clause-told : goal.returns-then-is_err-clause-told
returns-then-is_err-clause-told g c = kept_some (caller_of c.args.state.«open») (caller_of c.answer_line-next.result.0.«open») c.args.script.now c.args.from c.loop-at.at c.loop-at.state c.args.transcript.now c.loop-at.transcript c.answer_line-next.new.transcript c.answer_line-next.ensures.caller (was_err c.answer_line-next.result.1 (search (rules)) c.answer_line-next.ensures.kept) c.loop-at.invariant

pub returns-clause-told : goal.returns-clause-told
returns-clause-told g c =
    let end : c.loop-at.at ≡ c.len.result = search (arith, rules) in
    let pass = caller_of c.args.state.«open» in
    let back = caller_of c.loop-at.state.«open» in
    let told = kept_some pass back c.args.script.now c.args.from c.loop-at.at c.loop-at.state c.args.transcript.now c.loop-at.transcript c.loop-at.transcript (later_self back) refl c.loop-at.invariant in
    subst (λ (n : ℕ). AddsSome pass back c.args.script.now c.args.from n c.args.transcript.now c.loop-at.transcript) end told

pub returns-clause-answered : goal.returns-clause-answered
returns-clause-answered g c =
    let end : c.loop-at.at ≡ c.len.result = search (arith, rules) in
    subst (λ (n : ℕ). CarriedOn (caller_of c.args.state.«open») c.args.script.now c.args.from n c.args.transcript.now c.loop-at.state c.loop-at.transcript) end c.loop-at.invariant

pub returns-then-is_err-clause-stopped : goal.returns-then-is_err-clause-stopped
returns-then-is_err-clause-stopped g c = on_err _ (stops_here (caller_of c.args.state.«open») (caller_of c.answer_line-next.result.0.«open») c.args.script.now c.args.from c.loop-at.at c.loop-at.state c.args.transcript.now c.loop-at.transcript c.answer_line-next.new.transcript c.in-Some.line.now (sym c.get.ensures ∙ ap option_copied c.in-Some.is) c.answer_line-next.ensures.caller (was_err c.answer_line-next.result.1 (search (rules)) c.answer_line-next.ensures.kept) (was_err c.answer_line-next.result.1 (search (rules)) c.answer_line-next.ensures.stopped) c.loop-at.invariant)
