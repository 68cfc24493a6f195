-- Tables without rows, one after another.
use Rattle.std.proofs.Common.{◌≡◌, ◌∙◌, ◌+◌, ◌≤◌, ◌++◌, ℕ, List, [], ◌∷◌, map, slice_get, take, Some, refl, sym, ap, subst}
use Rattle.std.specs.Prelude.{All}
use Rattle.std.proofs.lemmas.List.{map-append}
use Rattle.std.proofs.lemmas.List.Elements.{All-append, All-cons, All-nil}
use Rattle.mdb_datum.specs.Row.{Fields}
use Rattle.mdb_schema.specs.Schema.{TableSchema, DbSchema}
use Rattle.radix_node.specs.Cells.{AreApart}
use Rattle.radix_node.specs.Ids.{Counter}
use Rattle.table_index.specs.Table.{TableRows}
use Rattle.table_index.specs.Watched.{HoldsRows}
use Rattle.watch_word.specs.Logs.{Log}
use Rattle.table_index.proofs.SeparateTrees.{new_low}
use Rattle.mem_txn.specs.inner.EmptyTables.{AreEmpty, IsEmptyOf}
use Rattle.mem_txn.specs.inner.Steps.{tables_with}
use Rattle.mem_txn.specs.inner.VersionTables.{AreAllWithin, AreWithin, schemas_of, state_of, trees_of}
use Rattle.mem_txn.proofs.ListLoops.{gathered_more}
use Rattle.mem_txn.proofs.IdsCounted.{forest_more}
use Rattle.mem_txn.proofs.SeparateForests.{more_separate}

pub one_more : (schema : DbSchema) (at : ℕ) (def : TableSchema) (log : Log) (ids ids' : Counter) (ts ts' : List TableRows) (t : TableRows) → slice_get schema at ≡ Some def → AreEmpty (take at schema) ids ts → ids'.book ≡ ids.book → ids.next ≤ ids'.next → IsEmptyOf def log ids ids' t
    → ts' ≡ ts ++ t ∷ [] → AreEmpty (take (at + 1) schema) ids' ts'
one_more schema at def log ids ids' ts ts' t there before same later table joined =
    let schemas : schemas_of ts' ≡ schemas_of ts ++ def ∷ [] =
    ap schemas_of joined ∙ map-append (λ (r : TableRows). r.schema) ts (t ∷ []) ∙ ap (λ (d : TableSchema). schemas_of ts ++ d ∷ []) table.schema in
    let rows : state_of ts' ≡ state_of ts ++ [] ∷ [] =
    ap state_of joined ∙ map-append (λ (r : TableRows). r.rows) ts (t ∷ []) ∙ ap (λ (rs : List Fields). state_of ts ++ rs ∷ []) table.rows in
    let trees : trees_of ts' ≡ trees_of ts ++ t.trees ∷ [] = ap trees_of joined ∙ map-append (λ (r : TableRows). r.trees) ts (t ∷ []) in
    let within : AreWithin ids' t.trees = record { below = table.cells.below; of = table.cells.of } in
    record {
      schemas = gathered_more (λ (d : TableSchema). d) schema (schemas_of ts) (schemas_of ts') at def def (before.schemas ∙ sym (map-same (take at schema))) there refl schemas ∙ map-same (take (at + 1) schema);
      state = gathered_more no_rows schema (state_of ts) (state_of ts') at def [] before.state there refl rows;
      within = subst (AreAllWithin ids') (sym trees) (record {
        within =
            All-append (AreWithin ids') (trees_of ts) (t.trees ∷ []) (forest_more ids ids' ts same later before.within.within)
            (All-cons (AreWithin ids') t.trees [] within (All-nil (AreWithin ids')));
        separate = more_separate ids (trees_of ts) t.trees before.within.within before.within.separate table.cells.separate (λ c index is. new_low log ids ids' t.trees index c table.cells.drawn is);
        apart = All-append (All AreApart) (trees_of ts) (t.trees ∷ []) before.within.apart (All-cons (All AreApart) t.trees [] table.held.apart (All-nil (All AreApart)));
      });
      held = subst (All HoldsRows) (sym joined) (All-append HoldsRows ts (t ∷ []) before.held (All-cons HoldsRows t [] table.held (All-nil HoldsRows)));
    }
  where
    no_rows : TableSchema → List Fields
    no_rows d = []

    map-same : (ds : DbSchema) → map (λ (d : TableSchema). d) ds ≡ ds
    map-same [] = refl
    map-same (d ∷ ds) = ap (λ (es : DbSchema). d ∷ es) (map-same ds)

-- the tables of a schema, with their rows and trees, are they
pub tables_with-parts : (ts : List TableRows) → tables_with (schemas_of ts) (state_of ts) (trees_of ts) ≡ ts
tables_with-parts [] = refl
tables_with-parts (t ∷ ts) = ap (λ (us : List TableRows). t ∷ us) (tables_with-parts ts)

-- the trees hold the rows, also where the schema is that of others
pub held_parts : (schema : DbSchema) (ts : List TableRows) → schemas_of ts ≡ schema → All HoldsRows ts → All HoldsRows (tables_with schema (state_of ts) (trees_of ts))
held_parts schema ts schemas held = subst (λ (d : DbSchema). All HoldsRows (tables_with d (state_of ts) (trees_of ts))) schemas (subst (All HoldsRows) (sym (tables_with-parts ts)) held)
