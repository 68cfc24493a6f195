use Rattle.std.proofs.Common.{rules, ◌≡◌, ◌<◌, ◌∙◌, ℕ, None, get_or, length, map, arith, subst, refl}
use Rattle.std.proofs.lemmas.List.{length-map}
use Rattle.std.proofs.lemmas.Option.{slice_get-get_or}
use Rattle.run_check.specs.declared.commits.Committed as commits
use Rattle.run_check.specs.CommitView.{committed_of}
use Rattle.run_check.specs.inner.HistoryView.{HasMade}
use Rattle.run_check.proofs.LinesMade.{begun, commit_made, order_there}
use Rattle.run_check.proofs.StoreStands.{stands_at_start}
use Rattle.run_check.proofs.history.history_of.Goals as goal

pub loop-at-init : goal.loop-at-init
loop-at-init c = (refl, stands_at_start c.args.schema.now c.in_ok-store.store c.in_ok-store.ensures.empty)

pub commit_made-requires : goal.commit_made-requires
commit_made-requires c =
    let cs = c.args.commits.now in
    let order = c.args.order.now in
    let at = c.loop-at.at in
    let place = get_or order at 0 in
    let none : commits.Committed = record { line = 0; client = 0; number = 0; begun = None; first = 0; «end» = 0 } in
    let within : at < length order = omega (arith, c.loop-at-test.true) in
    let there = slice_get-get_or order at 0 within in
    let here = slice_get-get_or cs place none (subst (λ (n : ℕ). place < n) (length-map cs (committed_of c.args.scripts.now)) (c.requires.within at place there)) in
    let numbered = order_there c.args.scripts.now cs order c.requires at place there (get_or cs place none) here in
    begun c.args.schema.now c.in_ok-store.ensures.lawful (map (committed_of c.args.scripts.now) cs) at c.loop-at.store c.loop-at.invariant (committed_of c.args.scripts.now (get_or cs place none)) numbered

pub loop-at-preserved : goal.loop-at-preserved
loop-at-preserved c =
    let cs = c.args.commits.now in
    let order = c.args.order.now in
    let at = c.loop-at.at in
    let place = get_or order at 0 in
    let none : commits.Committed = record { line = 0; client = 0; number = 0; begun = None; first = 0; «end» = 0 } in
    let within : at < length order = omega (arith, c.loop-at-test.true) in
    let there = slice_get-get_or order at 0 within in
    let here = slice_get-get_or cs place none (subst (λ (n : ℕ). place < n) (length-map cs (committed_of c.args.scripts.now)) (c.requires.within at place there)) in
    let numbered = order_there c.args.scripts.now cs order c.requires at place there (get_or cs place none) here in
    commit_made c.args.schema.now c.in_ok-store.ensures.lawful (map (committed_of c.args.scripts.now) cs) at c.loop-at.store c.loop-at.invariant (committed_of c.args.scripts.now (get_or cs place none)) numbered c.commit_made.new.store c.in_ok-commit_made.ensures

pub returns : goal.returns
returns c =
    let commits = c.args.commits.now in
    let done : c.loop-at.at ≡ length c.args.order.now = omega (arith, c.loop-at-test.false, c.loop-at.auto.at-end) in
    subst (λ (n : ℕ). HasMade c.args.schema.now (map (committed_of c.args.scripts.now) commits) n c.loop-at.store) (done ∙ c.requires.whole ∙ length-map commits (committed_of c.args.scripts.now)) c.loop-at.invariant

pub bounds-commits-place : goal.bounds-commits-place
bounds-commits-place c =
    let cs = c.args.commits.now in
    let order = c.args.order.now in
    let at = c.loop-at.at in
    let within : at < length order = omega (arith, c.loop-at-test.true) in
    let there = slice_get-get_or order at 0 within in
    let low : get_or order at 0 < length cs = subst (λ (n : ℕ). get_or order at 0 < n) (length-map cs (committed_of c.args.scripts.now)) (c.requires.within at (get_or order at 0) there) in
    omega (arith, low)

pub offset_bounds-commits-place : goal.offset_bounds-commits-place
offset_bounds-commits-place c =
    let cs = c.args.commits.now in
    let order = c.args.order.now in
    let at = c.loop-at.at in
    let within : at < length order = omega (arith, c.loop-at-test.true) in
    let there = slice_get-get_or order at 0 within in
    let low : get_or order at 0 < length cs = subst (λ (n : ℕ). get_or order at 0 < n) (length-map cs (committed_of c.args.scripts.now)) (c.requires.within at (get_or order at 0) there) in
    search rules
