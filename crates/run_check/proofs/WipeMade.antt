-- A wipe, in the store of the commit that is being made.
use Rattle.std.proofs.Common.{◌≡◌, ◌∙◌, ◌<◌, ◌++◌, ℕ, List, [], ◌∷◌, Bool, true, Option, Some, None, option_map, option_and_then, Ok, Err, length, slice_get, refl, sym, ap, subst, arith}
use Rattle.std.proofs.lemmas.List.Elements.{All-contains}
use Rattle.std.proofs.lemmas.Option.{slice_get_within}
use Rattle.mdb_datum.specs.Bytes.{Bytes}
use Rattle.mdb_datum.specs.Pairs.{rows_of, with_prefix}
use Rattle.mdb_datum.specs.Row.{Fields, Pair}
use Rattle.mdb_datum.proofs.ListPlaces.{there_within}
use Rattle.mdb_schema.specs.Answer.{AskRefusal, Asked, Lookup, is_prefix_name, lookup_of, no_prefix_name, unknown_table}
use Rattle.mdb_schema.specs.Entries.{entries}
use Rattle.mdb_schema.specs.History.{Commit, History, state_at}
use Rattle.mdb_schema.specs.LawfulSchema.{IsLawfulTable}
use Rattle.mdb_schema.specs.Query.{Query}
use Rattle.mdb_schema.specs.Schema.{DbSchema, TableSchema, table_place}
use Rattle.mdb_schema.specs.State.{State, Table, table_at}
use Rattle.mdb_schema.specs.Tests.{◌>>=◌, needed, passed}
use Rattle.mdb_schema.specs.Wipe.{once, removals, wipe, wipe_by_prefix, wiped_rows}
use Rattle.mdb_schema.specs.Write.{Write}
use Rattle.mdb_schema.specs.declared.ask.Ask.TheVariants.{Get}
use Rattle.mdb_schema.proofs.IdKeys.{id_index, id_of-taken}
use Rattle.mdb_schema.proofs.Membership.{Contains-slice_get}
use Rattle.mdb_schema.proofs.Tables.{IsTableAt, rows_lawful, table_at-some}
use Rattle.mdb_schema.proofs.WipeLaws.{listed_rows, listed_rows-within}
use Rattle.run_check.specs.Commits.{wiped}
use Rattle.run_check.specs.declared.lookup.Lookup as code
use Rattle.run_check.specs.declared.store.Store.{Store}
use Rattle.run_check.specs.inner.EditView.{seen_of}
use Rattle.run_check.specs.inner.HistoryView.{IsBegun, IsMaking, Makes, removed_each, with_writes}
use Rattle.run_check.specs.inner.IndexView.{KeyVersions}
use Rattle.run_check.specs.inner.LookupView.{IsLookup, looked_up}
use Rattle.run_check.specs.inner.StoreView.{indexes_at}
use Rattle.run_check.proofs.CommitWrites.{base_lawful, is_sight, rows_there, with_none}
use Rattle.run_check.proofs.MadeOneByOne.{all_once}

abbrev getting : Query → Query
getting q = record q { ask = Get }

-- ---- a wipe that is refused

abbrev wipes_at : Query → Option Table → List Write
wipes_at q o = wiped (needed unknown_table o >>= (λ (t : Table). wiped_rows t.schema t.rows q >>= (λ (gone : List Fields). Ok (removals q.table gone))))

abbrev made : ℕ → TableSchema → List Fields → Table
made place t rows = record { place = place; schema = t; rows = rows }

abbrev rows_at : State → ℕ → TableSchema → Option Table
rows_at s place t = option_map (made place t) (slice_get s place)

abbrev tables_at : DbSchema → State → ℕ → Option Table
tables_at schema s place = option_and_then (rows_at s place) (slice_get schema place)

module _ (schema : DbSchema) (s : State) (q : Query) (why : AskRefusal) where
  by_rows : (place : ℕ) (t : TableSchema) (o : Option (List Fields)) → lookup_of t (getting q) ≡ Err why → wipes_at q (option_map (made place t) o) ≡ []
  by_rows place t None e = refl
  by_rows place t (Some rows) e =
      ap (λ (l : Asked Lookup). wiped ((l >>= (λ (at : Lookup). Ok (once t (rows_of (with_prefix at.key (entries t at.index rows)))))) >>= (λ (gone : List Fields). Ok (removals q.table gone)))) e

  by_schema : (place : ℕ) (o : Option TableSchema) → (needed unknown_table o >>= (λ (t : TableSchema). lookup_of t (getting q))) ≡ Err why → wipes_at q (option_and_then (rows_at s place) o) ≡ []
  by_schema place None e = refl
  by_schema place (Some t) e = by_rows place t (slice_get s place) e

  by_place : (o : Option ℕ) → (needed unknown_table o >>= (λ (place : ℕ). needed unknown_table (slice_get schema place) >>= (λ (t : TableSchema). lookup_of t (getting q)))) ≡ Err why
      → wipes_at q (option_and_then (tables_at schema s) o) ≡ []
  by_place None e = refl
  by_place (Some place) e = by_schema place (slice_get schema place) e

  no_wipe : looked_up schema (getting q) ≡ Err why → wiped (wipe schema s q) ≡ []
  no_wipe e = by_place (table_place q.table schema) e

pub no_wipe_made : (schema : DbSchema) (number : ℕ) (st : Store) (q : Query) (why : AskRefusal) → looked_up schema (record q { ask = Get }) ≡ Err why → Makes schema number (λ s. wiped (wipe schema s q)) st st
no_wipe_made schema number st q why e = λ H c making.
    subst (λ (ws : List Write). IsMaking schema H (with_writes c ws) number st) (sym (no_wipe schema (state_at schema (H ++ c ∷ []) number) q why e)) (with_none schema H c number st making)

-- ---- one by a name that ends in `_prefix`

pub by_prefix : (schema : DbSchema) (s : State) (q : Query) → is_prefix_name q.index ≡ true → wiped (wipe_by_prefix schema s q) ≡ wiped (wipe schema s q)
by_prefix schema s q e =
    ap (λ (b : Bool). wiped (needed unknown_table (table_at schema s q.table) >>= (λ (t : Table). (passed no_prefix_name b >>= (λ (u : Unit {0}). wiped_rows t.schema t.rows q)) >>= (λ (gone : List Fields). Ok (removals q.table gone))))) e

-- ---- where it looks

module _ (schema : DbSchema) (number : ℕ) (st : Store) (begun : IsBegun schema number st) (q : Query) (l : code.Lookup) (look : IsLookup schema q l) where
  pub table_within : l.table < length st.tables.items
  table_within = let making = begun.2 in omega (arith, slice_get_within schema l.table look.table look.there, making.stands.tables)

  pub index_within : l.index < length (indexes_at st l.table)
  index_within = let making = begun.2 in omega (arith, slice_get_within look.table.indexes l.index look.at.index look.index, making.stands.indexes l.table look.table look.there)

-- ---- one that is made

module _ (schema : DbSchema) (number : ℕ) (st new : Store) (q : Query) (l : code.Lookup) (look : IsLookup schema (record q { ask = Get }) l) (listed : List Fields)
    (told : (x : KeyVersions) → slice_get (indexes_at st l.table) l.index ≡ Some x → listed ≡ rows_of (with_prefix l.key.items (seen_of (record { commits = number; own = None }) x))) where
  module _ (H : History) (c : Commit) (making : IsMaking schema H c number st) where
    abbrev t : TableSchema
    t = look.table

    abbrev base : State
    base = state_at schema (H ++ c ∷ []) number

    table_of_rows : (rows : List Fields) → slice_get base l.table ≡ Some rows → removed_each schema q.table listed base ≡ wiped (wipe schema base q)
    table_of_rows rows held =
        let table : Table = record { place = l.table; schema = t; rows = rows } in
        let is : IsTableAt schema base q.table table = record { place = look.named; schema = look.there; rows = held } in
        let x = there_within (indexes_at st l.table) l.index (omega (arith, slice_get_within t.indexes l.index look.at.index look.index, making.stands.indexes l.table t look.there)) in
        let seen = (making.stands.each l.table l.index t look.at.index x.0 look.there look.index x.1).seen (record { commits = number; own = None }) rows (is_sight schema H c number st making) held in
        let lists : listed ≡ listed_rows t rows look.at =
        told x.0 x.1 ∙ ap (λ (k : Bytes). rows_of (with_prefix k (seen_of (record { commits = number; own = None }) x.0))) look.key ∙ ap (λ (es : List Pair). rows_of (with_prefix look.at.key es)) seen in
        let lawful = rows_lawful schema base l.table t rows (base_lawful schema H c number st making) look.there held in
        let lawful_table : IsLawfulTable t = All-contains IsLawfulTable schema t making.lawful.each (Contains-slice_get schema l.table t look.there) in
        let at = id_index t lawful_table in
        let within = listed_rows-within t rows look.at in
        ap (λ (rs : List Fields). removed_each schema q.table rs base) lists
        ∙ all_once schema q.table base table (listed_rows t rows look.at) is lawful.rising (λ r h. id_of-taken t at r (lawful.taken at.index r at.within (within r h))) within
        ∙ sym (ap (wipes_at q) (table_at-some schema base q.table table is)
        ∙ ap (λ (a : Asked Lookup). wiped ((a >>= (λ (f : Lookup). Ok (once t (rows_of (with_prefix f.key (entries t f.index rows)))))) >>= (λ (gone : List Fields). Ok (removals q.table gone)))) look.looked)

    same_writes : removed_each schema q.table listed base ≡ wiped (wipe schema base q)
    same_writes = let rows = rows_there schema H c number st making l.table t look.there in table_of_rows rows.0 rows.1

  pub wipe_made : Makes schema number (removed_each schema q.table listed) st new → Makes schema number (λ s. wiped (wipe schema s q)) st new
  wipe_made each = λ H c making. subst (λ (ws : List Write). IsMaking schema H (with_writes c ws) number new) (same_writes H c making) (each H c making)
