use Rattle.std.proofs.Common.{◌∙◌, length, map, sym, ap, subst, arith}
use Rattle.std.proofs.lemmas.List.{length-map}
use Rattle.table_index.specs.Table.{TableRows}
use Rattle.mem_txn.specs.inner.VersionTables.{AreAllWithin, standing}
use Rattle.mem_txn.specs.inner.Versions.{Forest, Version}
use Rattle.mem_txn.proofs.db_txn.next_version.Goals as goal

pub returns-clause-within : goal.returns-clause-within
returns-clause-within c =
    subst (λ (f : Forest). AreAllWithin c.args.tables.ids f) (sym (ap (λ (x : Version). x.trees) c.in_ok-ready.ensures)) c.in_ok-tables.ensures.within

pub freeze-requires-clause-few : goal.freeze-requires-clause-few
freeze-requires-clause-few c =
    let ts = c.args.tables.tables in
    let count = sym (length-map ts standing) ∙ sym (length-map (map standing ts) (λ (t : TableRows). t.schema)) ∙ ap length c.requires.schemas ∙ ap length (sym c.schema.ensures) in
    let few = c.len.ensures.lawful.few in
    omega (arith, count, few)
