use Rattle.std.proofs.Common.{◌≡◌, ◌∙◌, ◌++◌, List, Some, slice_get, sym, ap, subst, arith}
use Rattle.std.specs.Prelude.{option_copied}
use Rattle.std.proofs.lemmas.Option.{slice_get_within}
use Rattle.std.proofs.lemmas.Result.{on_ok_weaker}
use Rattle.mdb_datum.proofs.ListPlaces.{there_within}
use Rattle.client_script.specs.Reply.{Changed, changed_lines}
use Rattle.run_check.specs.inner.EditView.{AreSeen}
use Rattle.run_check.specs.inner.IndexView.{KeyVersions}
use Rattle.run_check.specs.inner.StoreView.{indexes_at}
use Rattle.run_check.proofs.ChangeLines.{key_told, row_there}
use Rattle.run_check.proofs.changes.write_key.Goals as goal

pub returns : goal.returns
returns c = λ old new was now.
    let schema = c.args.schema.now in
    let t = c.in-Some-table.def.now in
    let place = c.in-Some.table.now in
    let id = c.in-Some.id.now in
    let there : slice_get schema place ≡ Some t = ap (slice_get schema) (sym c.from-place.ensures) ∙ sym c.in-Some-table.ensures.found in
    let within = slice_get_within schema place t there in
    let first = there_within old place (omega (arith, within, was.tables)) in
    let last = there_within new place (omega (arith, within, now.tables)) in
    let indexes = c.table-indexes.ensures ∙ ap (indexes_at c.args.store.now) c.from-place.ensures in
    let before = c.row_at-before.ensures first.0 (subst (λ (xs : List KeyVersions). AreSeen t first.0 c.args.first xs) (sym indexes) (was.each place t first.0 there first.1)) in
    let after = c.row_at-after.ensures last.0 (subst (λ (xs : List KeyVersions). AreSeen t last.0 c.args.last xs) (sym indexes) (now.each place t last.0 there last.1)) in
    on_ok_weaker c.write_change.result
    (λ written. written ∙ ap (λ (cs : List Changed). c.args.out.now.items ++ changed_lines cs)
    (key_told schema place t there old new (option_copied c.row_at-before.result) (option_copied c.row_at-after.result) c.args.key.now id c.in-Some.ensures.cases.0
    (before ∙ sym (row_there schema place t there old first.0 id first.1)) (after ∙ sym (row_there schema place t there new last.0 id last.1))))
    c.write_change.ensures
