use Rattle.std.proofs.Common.{rules, arith, ◌≡◌, ◌∙◌, ◌+◌, ap, sym, Some}
use Rattle.std.specs.Prelude.{slice_get}
use Rattle.client_session.specs.Progress.{Progress}
use Rattle.client_session.proofs.OpenTurns.{on_err}
use Rattle.client_session.proofs.SessionSteps.{held_up_kept, held_up_stepped, line_answered, line_held_up, next_kept, next_stepped, next_told, not_both, room_kept, seen_kept, seen_stopped, seen_told, unfinished_fields, was_stopped}
use Rattle.client_session.proofs.session.Session.step_on.Goals as goal

pub step_kept-told-requires-clause-room : goal.step_kept-told-requires-clause-room
step_kept-told-requires-clause-room g c =
    let f = c.self.inside in
    let one : c.args.next ≡ f.answered + 1 = c.requires.next ∙ sym (ap (λ (x : Progress). x.answered + 1) c.self.view_is) in
    let few = c.ranges.next in
    room_kept f.script f.state f.answered f.transcript f.failed c.self.invariant (omega (arith, one, few))

pub invariant_of-self : goal.invariant_of-self
invariant_of-self g c =
    let f = c.self.inside in
    let more = unfinished_fields c.args.self.now f.client f.script f.state f.answered f.transcript f.failed c.self.view_is c.requires.open in
    seen_kept c.args.self.now f.client f.script f.state c.step_kept-told.new.kept f.answered f.transcript c.step_kept-told.new.transcript f.failed c.step_kept-told.ensures.old c.step_kept-told.ensures.new c.self.view_is c.step_kept-told.ensures.was c.step_kept-told.ensures.is c.self.invariant more c.is_err-self-inside.result (search (rules)) c.step_kept-told.ensures.later (search (rules)) (was_stopped c.step_kept-told.result _ (search (rules)) c.step_kept-told.ensures.closed)

pub returns-in_err-told-clause-told : goal.returns-in_err-told-clause-told
returns-in_err-told-clause-told g c =
    let f = c.self.inside in
    let more = unfinished_fields c.args.self.now f.client f.script f.state f.answered f.transcript f.failed c.self.view_is c.requires.open in
    seen_told c.args.self.now f.client f.script f.state c.step_kept-told.new.kept f.answered f.transcript c.step_kept-told.new.transcript f.failed c.step_kept-told.ensures.old c.step_kept-told.ensures.new c.self.view_is c.step_kept-told.ensures.was c.step_kept-told.ensures.is c.self.invariant more c.is_err-self-inside.result c.step_kept-told.ensures.later (search (rules)) (λ ok. not_both c.is_err-self-inside.result (search (rules)) ok)

pub invariant_of-self-then-branch : goal.invariant_of-self-then-branch
invariant_of-self-then-branch g c =
    let f = c.self.inside in
    let more = unfinished_fields c.args.self.now f.client f.script f.state f.answered f.transcript f.failed c.self.view_is c.requires.open in
    let line = line_answered c.args.db.now.callers c.line_at-line.result.now c.step_kept-told.ensures.old c.step_kept-told.ensures.new f.transcript c.step_kept-told.new.transcript c.step_kept-told.result c.in_ok-told.field-0 (search (rules)) (search (rules)) c.step_kept-told.ensures.answered in
    let there : slice_get f.script f.answered ≡ Some c.line_at-line.result.now = c.line_at-line.ensures in
    let one : c.args.next ≡ f.answered + 1 = c.requires.next ∙ sym (ap (λ (x : Progress). x.answered + 1) c.self.view_is) in
    next_kept c.args.self.now f.client f.script f.state c.step_kept-told.new.kept f.answered f.transcript c.step_kept-told.new.transcript f.failed c.step_kept-told.ensures.old c.step_kept-told.ensures.new c.self.view_is c.step_kept-told.ensures.was c.step_kept-told.ensures.is c.self.invariant more c.args.db.now.callers c.line_at-line.result.now c.args.next c.is_err-self-inside.result one (search (rules)) there line

pub returns-then-branch-clause-told : goal.returns-then-branch-clause-told
returns-then-branch-clause-told g c =
    let f = c.self.inside in
    let more = unfinished_fields c.args.self.now f.client f.script f.state f.answered f.transcript f.failed c.self.view_is c.requires.open in
    let line = line_answered c.args.db.now.callers c.line_at-line.result.now c.step_kept-told.ensures.old c.step_kept-told.ensures.new f.transcript c.step_kept-told.new.transcript c.step_kept-told.result c.in_ok-told.field-0 (search (rules)) (search (rules)) c.step_kept-told.ensures.answered in
    let there : slice_get f.script f.answered ≡ Some c.line_at-line.result.now = c.line_at-line.ensures in
    let one : c.args.next ≡ f.answered + 1 = c.requires.next ∙ sym (ap (λ (x : Progress). x.answered + 1) c.self.view_is) in
    next_told c.args.self.now f.client f.script f.state c.step_kept-told.new.kept f.answered f.transcript c.step_kept-told.new.transcript f.failed c.step_kept-told.ensures.old c.step_kept-told.ensures.new c.self.view_is c.step_kept-told.ensures.was c.step_kept-told.ensures.is c.self.invariant more c.args.db.now.callers c.line_at-line.result.now c.args.next c.is_err-self-inside.result one (search (rules)) there line

pub returns-then-branch-clause-stepped : goal.returns-then-branch-clause-stepped
returns-then-branch-clause-stepped g c =
    let f = c.self.inside in
    let more = unfinished_fields c.args.self.now f.client f.script f.state f.answered f.transcript f.failed c.self.view_is c.requires.open in
    let line = line_answered c.args.db.now.callers c.line_at-line.result.now c.step_kept-told.ensures.old c.step_kept-told.ensures.new f.transcript c.step_kept-told.new.transcript c.step_kept-told.result c.in_ok-told.field-0 (search (rules)) (search (rules)) c.step_kept-told.ensures.answered in
    let there : slice_get f.script f.answered ≡ Some c.line_at-line.result.now = c.line_at-line.ensures in
    let one : c.args.next ≡ f.answered + 1 = c.requires.next ∙ sym (ap (λ (x : Progress). x.answered + 1) c.self.view_is) in
    next_stepped c.args.self.now f.client f.script f.state c.step_kept-told.new.kept f.answered f.transcript c.step_kept-told.new.transcript f.failed c.step_kept-told.ensures.old c.step_kept-told.ensures.new c.self.view_is c.step_kept-told.ensures.was c.step_kept-told.ensures.is c.self.invariant more c.args.db.now.callers c.line_at-line.result.now c.args.next c.is_err-self-inside.result one (search (rules)) there line

pub returns-else-branch-clause-told : goal.returns-else-branch-clause-told
returns-else-branch-clause-told g c =
    let f = c.self.inside in
    let more = unfinished_fields c.args.self.now f.client f.script f.state f.answered f.transcript f.failed c.self.view_is c.requires.open in
    let held = line_held_up c.args.db.now.callers c.line_at-line.result.now c.step_kept-told.ensures.old c.step_kept-told.ensures.new f.transcript c.step_kept-told.new.transcript c.step_kept-told.result c.in_ok-told.field-0 (search (rules)) (search (rules)) c.step_kept-told.ensures.answered in
    seen_told c.args.self.now f.client f.script f.state c.step_kept-told.new.kept f.answered f.transcript c.step_kept-told.new.transcript f.failed c.step_kept-told.ensures.old c.step_kept-told.ensures.new c.self.view_is c.step_kept-told.ensures.was c.step_kept-told.ensures.is c.self.invariant more c.is_err-self-inside.result c.step_kept-told.ensures.later held.1 (λ _. let h = held.0 in let looks = h.looks in looks.own)

pub returns-in_err-told-clause-stopped : goal.returns-in_err-told-clause-stopped
returns-in_err-told-clause-stopped g c =
    let f = c.self.inside in
    let more = unfinished_fields c.args.self.now f.client f.script f.state f.answered f.transcript f.failed c.self.view_is c.requires.open in
    on_err _ (seen_stopped c.args.self.now f.client f.script f.state c.step_kept-told.new.kept f.answered f.transcript c.step_kept-told.new.transcript f.failed c.step_kept-told.ensures.old c.step_kept-told.ensures.new c.self.view_is c.step_kept-told.ensures.was c.step_kept-told.ensures.is c.self.invariant more c.line_at-line.result.now c.is_err-self-inside.result (search (rules)) c.line_at-line.ensures c.step_kept-told.ensures.later (search (rules)) (was_stopped c.step_kept-told.result _ (search (rules)) c.step_kept-told.ensures.closed) (was_stopped c.step_kept-told.result _ (search (rules)) c.step_kept-told.ensures.stopped))

pub invariant_of-self-else-branch : goal.invariant_of-self-else-branch
invariant_of-self-else-branch g c =
    let f = c.self.inside in
    let more = unfinished_fields c.args.self.now f.client f.script f.state f.answered f.transcript f.failed c.self.view_is c.requires.open in
    let held = line_held_up c.args.db.now.callers c.line_at-line.result.now c.step_kept-told.ensures.old c.step_kept-told.ensures.new f.transcript c.step_kept-told.new.transcript c.step_kept-told.result c.in_ok-told.field-0 (search (rules)) (search (rules)) c.step_kept-told.ensures.answered in
    held_up_kept c.args.self.now f.client f.script f.state c.step_kept-told.new.kept f.answered f.transcript c.step_kept-told.new.transcript f.failed c.step_kept-told.ensures.old c.step_kept-told.ensures.new c.self.view_is c.step_kept-told.ensures.was c.step_kept-told.ensures.is c.self.invariant more c.args.db.now.callers c.line_at-line.result.now c.is_err-self-inside.result (search (rules)) held.1 held.0

pub returns-else-branch-clause-stepped : goal.returns-else-branch-clause-stepped
returns-else-branch-clause-stepped g c =
    let f = c.self.inside in
    let more = unfinished_fields c.args.self.now f.client f.script f.state f.answered f.transcript f.failed c.self.view_is c.requires.open in
    let held = line_held_up c.args.db.now.callers c.line_at-line.result.now c.step_kept-told.ensures.old c.step_kept-told.ensures.new f.transcript c.step_kept-told.new.transcript c.step_kept-told.result c.in_ok-told.field-0 (search (rules)) (search (rules)) c.step_kept-told.ensures.answered in
    held_up_stepped c.args.self.now f.client f.script f.state c.step_kept-told.new.kept f.answered f.transcript c.step_kept-told.new.transcript f.failed c.step_kept-told.ensures.old c.step_kept-told.ensures.new c.self.view_is c.step_kept-told.ensures.was c.step_kept-told.ensures.is c.self.invariant more c.args.db.now.callers c.line_at-line.result.now c.is_err-self-inside.result (search (rules)) held.1 held.0 c.line_at-line.ensures
