-- A spot that was looked up in one state, read in another of the same schema.
use Rattle.std.proofs.Common.{◌≡◌, ◌∙◌, ◌<◌, ℕ, List, Some, length, option_map, slice_get, sym, ap, subst}
use Rattle.std.proofs.lemmas.Option.{slice_get-map, slice_get_within}
use Rattle.mdb_schema.specs.Answer.{lookup_of}
use Rattle.mdb_schema.specs.Query.{Query}
use Rattle.mdb_schema.specs.Schema.{DbSchema, TableSchema, table_place}
use Rattle.mdb_schema.specs.State.{State}
use Rattle.mdb_schema.proofs.LookupTests.{looked_there}
use Rattle.table_index.specs.Spot.{SpotOf}
use Rattle.table_index.specs.Table.{TableRows}
use Rattle.table_index.specs.Watched.{cell_of}
use Rattle.watch_word.specs.Logs.{Cell}
use Rattle.mem_txn.specs.CellHistory.{question_cell}
use Rattle.mem_txn.specs.AskedSpots.{IsAsked}
use Rattle.mem_txn.specs.inner.VersionTables.{schemas_of, state_of, trees_of}
use Rattle.mem_txn.proofs.SpotsFound.{spot_cell}

module _ (tables : List TableRows) (schema : DbSchema) (schemas : schemas_of tables ≡ schema) (q : Query) (spot : SpotOf) (asked : IsAsked schema q spot) (place : ℕ) (found : table_place q.table schema ≡ Some place) (t : TableRows) (there : slice_get tables place ≡ Some t) where
  -- the table is the one where the question is looked up
  same_table : t.schema ≡ asked.table
  same_table =
      let first = asked.found in
      let same : asked.place ≡ place = cc in
      let here : slice_get schema place ≡ Some t.schema =
      ap (λ (ts : DbSchema). slice_get ts place) (sym schemas)
      ∙ slice_get-map (λ (r : TableRows). r.schema) tables place
      ∙ ap (option_map (λ (r : TableRows). r.schema)) there in
      let both : Some t.schema ≡ Some asked.table = sym here ∙ ap (slice_get schema) (sym same) ∙ asked.there in
      cc

  -- it has the index of the spot
  pub index_within : spot.index < length t.schema.indexes
  index_within =
      let looked = looked_there t.schema q asked.at (ap (λ (s : TableSchema). lookup_of s q) same_table ∙ asked.looked) in
      subst (λ (n : ℕ). n < length t.schema.indexes) (sym asked.index) (slice_get_within t.schema.indexes asked.at.place asked.at.index looked)

  -- and the cell there is that of the question
  pub cell_again : (s : State) → state_of tables ≡ s → (c : Cell) → cell_of t.trees spot.index spot.exact spot.key ≡ Some c → question_cell schema s (trees_of tables) q ≡ Some c
  cell_again s rows c e =
      let x : SpotOf = record { index = spot.index; key = spot.key; exact = spot.exact; watch = c } in
      spot_cell tables schema s schemas rows q place found t there x asked.watched (record {
        at = asked.at;
        looked = ap (λ (u : TableSchema). lookup_of u q) same_table ∙ asked.looked;
        index = asked.index;
        key = asked.key;
        exact = asked.exact;
        cell = e;
      })
