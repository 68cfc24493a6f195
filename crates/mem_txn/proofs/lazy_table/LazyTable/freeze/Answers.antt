use Rattle.std.proofs.Common.{◌≡◌, ◌∙◌, [], None, unwrap_or, sym, ap, subst}
use Rattle.std.proofs.lemmas.Result.{IfOk-weaker}
use Rattle.std.specs.Arc.{arc_value}
use Rattle.mdb_schema.specs.LawfulSchema.{IsLawfulTable}
use Rattle.table_index.specs.Table.{TableChange, TableRows}
use Rattle.table_index.specs.Watched.{HoldsRows}
use Rattle.mem_txn.specs.inner.DbTxnView.{BeginsAs, changed_or}
use Rattle.mem_txn.specs.inner.Ended.{AreNetsOf, EndsWith, net_tracked}
use Rattle.mem_txn.specs.inner.VersionTables.{unwritten}
use Rattle.mem_txn.proofs.ChangesTold.{nets_since, nets_unwritten}
use Rattle.mem_txn.proofs.EndedTables.{ends_unwritten}
use Rattle.mem_txn.proofs.lazy_table.LazyTable.freeze.Goals as goal

pub returns-in-None-clause-ends : goal.returns-in-None-clause-ends
returns-in-None-clause-ends c =
    let shared = arc_value c.self.inside.shared in
    subst (λ (t : TableChange). EndsWith t shared None) (ap (changed_or shared) (sym c.in-None.is) ∙ c.self.view_is)
    (ends_unwritten shared (subst HoldsRows c.deref-2.ensures c.rows_are_held.ensures))

pub returns-in-None-clause-nets : goal.returns-in-None-clause-nets
returns-in-None-clause-nets c =
    let shared = arc_value c.self.inside.shared in
    let table : IsLawfulTable shared.schema = subst IsLawfulTable (c.def.ensures ∙ ap (λ (t : TableRows). t.schema) c.deref.ensures) c.len.ensures.lawful in
    subst (λ (t : TableChange). AreNetsOf t _) (ap (changed_or shared) (sym c.in-None.is) ∙ c.self.view_is)
    (nets_unwritten shared table (subst HoldsRows c.deref-2.ensures c.rows_are_held.ensures))

pub returns-in-Some-clause-nets : goal.returns-in-Some-clause-nets
returns-in-Some-clause-nets c =
    let shared = arc_value c.self.inside.shared in
    let txn : TableChange = c.in-Some.txn in
    let is : txn ≡ c.args.self = ap (changed_or shared) (sym c.in-Some.is) ∙ c.self.view_is in
    let begun : BeginsAs (unwritten shared) txn = subst (BeginsAs (unwritten shared)) (ap (changed_or shared) c.in-Some.is) c.self.invariant in
    let table : IsLawfulTable shared.schema = subst IsLawfulTable (c.def.ensures ∙ ap (λ (t : TableRows). t.schema) c.deref.ensures) c.len.ensures.lawful in
    IfOk-weaker c.freeze_open.result _ _ (λ e told. subst (λ (t : TableChange). AreNetsOf t (unwrap_or e.nets [])) is
    (nets_since txn shared (unwrap_or e.nets []) table (subst HoldsRows c.deref-2.ensures c.rows_are_held.ensures) begun.schema begun.start
    (told ∙ ap (λ (r : TableRows). net_tracked txn.schema r.rows txn.rows) c.deref-in-Some.ensures))) c.freeze_open.ensures.nets
