use Rattle.std.proofs.Common.{rules, arith, ◌≡◌, ◌+◌, ◌<◌, ◌-◌, ℕ, ap, sym, ◌∙◌, length, List, map, get_or, set, subst, Bool, Option, Some, None}
use Rattle.std.specs.Prelude.{if◌then◌else◌}
use Rattle.std.proofs.lemmas.List.{length-map}
use Rattle.run_check.specs.Commits as plain
use Rattle.run_check.specs.declared.commits.Committed.{Committed}
use Rattle.run_check.specs.CommitView.{committed_of}
use Rattle.run_check.proofs.NumbersPlaced.{ArePlaced, all_placed, committed_at, none_placed_yet, number_refused, number_taken}
use Rattle.run_check.proofs.commits.in_order.Goals as goal

abbrev none : Committed
none = record { line = 0; client = 0; number = 0; begun = None; first = 0; end = 0 }

pub loop-at-init : goal.loop-at-init
loop-at-init c = λ scripts.
    none_placed_yet (map (committed_of scripts) c.args.commits.now) (length c.args.commits.now) _ c.new-order.result.items c.resize.new.self.items (sym (length-map c.args.commits.now (committed_of scripts))) c.new-order.ensures.items c.new-order.ensures.len c.in_ok-resize.ensures.items

pub returns-then-not-take_number : goal.returns-then-not-take_number
returns-then-not-take_number c = λ scripts.
    let l = c.loop-at in
    let within : l.at < length c.args.commits.now = search rules in
    number_refused (map (committed_of scripts) c.args.commits.now) l.at l.order.items (l.invariant scripts) (committed_of scripts (get_or c.args.commits.now l.at none)) (committed_at scripts c.args.commits.now l.at none within) (sym c.take_number.ensures.free ∙ c.if-not-take_number.true)

pub loop-at-preserved : goal.loop-at-preserved
loop-at-preserved c = λ scripts.
    let l = c.loop-at in
    let within : l.at < length c.args.commits.now = search rules in
    let taken : List (Option ℕ) = set l.order.items ((get_or c.args.commits.now l.at none).number - 1) (Some l.at) in
    let is : c.take_number.new.order.items ≡ taken =
    c.take_number.ensures.taken ∙ ap (λ (t : Bool). if t then taken else l.order.items) c.if-not-take_number.false in
    let cs : List plain.Committed = map (committed_of scripts) c.args.commits.now in
    subst (λ (order : List (Option ℕ)). ArePlaced cs (l.at + 1) order) (sym is) (number_taken cs l.at l.order.items (l.invariant scripts) (committed_of scripts (get_or c.args.commits.now l.at none)) (committed_at scripts c.args.commits.now l.at none within) (sym c.take_number.ensures.free ∙ c.if-not-take_number.false))

pub returns : goal.returns
returns c = λ scripts.
    let l = c.loop-at in
    let all : l.at ≡ length c.args.commits.now = search (rules, arith) in
    let found = c.in_ok-all_there.ensures in
    all_placed (map (committed_of scripts) c.args.commits.now) l.at l.order.items c.in_ok-all_there.field-0.items (all ∙ sym (length-map c.args.commits.now (committed_of scripts))) (search rules) (l.invariant scripts)
