-- A wipe: its rows are rows of the table, each once; each removal is accepted, the rows that are
-- left stand in the place of the table's rows, and the other tables stay.
use Rattle.std.proofs.Common.{◌≡◌, ◌≢◌, ◌∙◌, List, [], Some, Ok, Contains, sym, ap, subst}
use Rattle.std.proofs.lemmas.List.Elements.{All-contains}
use Rattle.mdb_datum.specs.Pairs.{rows_of, with_prefix}
use Rattle.mdb_datum.specs.Bytes.{is_prefix}
use Rattle.mdb_datum.specs.Row.{Fields}
use Rattle.mdb_encode.specs.Bytes.{Bytes}
use Rattle.mdb_schema.specs.Answer.{Lookup, lookup_of, unknown_table, no_prefix_name, is_prefix_name}
use Rattle.mdb_schema.specs.Query.{Query}
use Rattle.mdb_schema.specs.declared.ask.Ask.TheVariants.{Get}
use Rattle.mdb_schema.specs.Entries.{entries}
use Rattle.mdb_schema.specs.History.{after_writes}
use Rattle.mdb_schema.specs.LawfulSchema.{IsLawfulTable, IsLawfulSchema}
use Rattle.mdb_schema.specs.Schema.{TableSchema, DbSchema}
use Rattle.mdb_schema.specs.State.{State, Table, table_at, IsLawfulState}
use Rattle.mdb_schema.specs.Tests.{◌>>=◌, needed, passed}
use Rattle.mdb_schema.specs.Wipe.{once, wiped_rows, wiped_rows_by_prefix, without_rows, removals, wipe, wipe_by_prefix}
use Rattle.mdb_schema.specs.Write.{Write}
use Rattle.mdb_schema.proofs.Chains.{passed_on}
use Rattle.mdb_schema.proofs.ListedRows.{entries-rows, where_key-rows, once-rows, once-distinct, once-contains}
use Rattle.mdb_schema.proofs.Membership.{Contains-slice_get}
use Rattle.mdb_schema.proofs.PassedTests.{needed_some}
use Rattle.mdb_schema.proofs.Removals.{AreRowsOnce, Removes, removals_accepted}
use Rattle.mdb_schema.proofs.RowsById.{AreRising}
use Rattle.mdb_schema.proofs.Tables.{IsTableAt, table_at-there, with_rows, put_rows, table_at-put_rows_some, table_at-other}

-- ---- the rows of a wipe

-- the rows that Get lists
abbrev pub listed_rows : TableSchema → List Fields → Lookup → List Fields
listed_rows t rows at = rows_of (with_prefix at.key (entries t at.index rows))

pub listed_rows-within : (t : TableSchema) (rows : List Fields) (at : Lookup) (x : Fields) → Contains (listed_rows t rows at) x → Contains rows x
listed_rows-within t rows at x h = entries-rows t at.index rows x (where_key-rows (is_prefix at.key) (entries t at.index rows) x h)

module _ (t : TableSchema) (rows : List Fields) (q : Query) (gone : List Fields) (wiped : wiped_rows t rows q ≡ Ok gone) where
  pub wiped_rows-ok : (at : Lookup) × (lookup_of t (record q { ask = Get }) ≡ Ok at) × (once t (listed_rows t rows at) ≡ gone)
  wiped_rows-ok =
      let a = passed_on (lookup_of t (record q { ask = Get })) (λ at. Ok (once t (listed_rows t rows at))) gone wiped in
      let answer : once t (listed_rows t rows a.0) ≡ gone = let h = a.2 in cc in
      (a.0, a.1, answer)

  -- they are rows of the table, each once
  pub wiped_once : AreRowsOnce t rows gone
  wiped_once =
      let w = wiped_rows-ok in
      subst (λ (l : List Fields). AreRowsOnce t rows l) w.2 (record {
        within = λ r h. listed_rows-within t rows w.0 r (once-rows t (listed_rows t rows w.0) r h);
        once = once-distinct t (listed_rows t rows w.0);
      })

  -- and each row that Get lists is one of them
  pub wiped_all : (at : Lookup) → AreRising t rows → lookup_of t (record q { ask = Get }) ≡ Ok at → (x : Fields) → Contains (listed_rows t rows at) x → Contains gone x
  wiped_all at rising found x h =
      let w = wiped_rows-ok in
      let same : w.0 ≡ at = let f = w.1 in cc in
      let here = subst (λ (l : Lookup). Contains (listed_rows t rows l) x) (sym same) h in
      subst (λ (l : List Fields). Contains l x) w.2 (once-contains t rows (listed_rows t rows w.0) rising (listed_rows-within t rows w.0) x here)

-- ---- the state after it

-- the table of a wipe, the rows that it takes out, and its writes
pub record IsWipe (schema : DbSchema) (s : State) (q : Query) (ws : List Write) : Type 0 where
  pub table : Table
  pub gone : List Fields
  pub there : IsTableAt schema s q.table table
  pub listed : wiped_rows table.schema table.rows q ≡ Ok gone
  pub writes : removals q.table gone ≡ ws

module _ (schema : DbSchema) (s : State) (q : Query) (ws : List Write) where
  wipe_of : (table : Table) (gone : List Fields) → needed unknown_table (table_at schema s q.table) ≡ Ok table → wiped_rows table.schema table.rows q ≡ Ok gone → removals q.table gone ≡ ws
      → IsWipe schema s q ws
  wipe_of table gone found listed writes = record {
    table = table;
    gone = gone;
    there = table_at-there schema s q.table table (needed_some unknown_table (table_at schema s q.table) table found);
    listed = listed;
    writes = writes;
  }

  pub wipe-ok : wipe schema s q ≡ Ok ws → IsWipe schema s q ws
  wipe-ok e =
      let a = passed_on (needed unknown_table (table_at schema s q.table)) (λ table. wiped_rows table.schema table.rows q >>= (λ gone. Ok (removals q.table gone))) ws e in
      let b = passed_on (wiped_rows a.0.schema a.0.rows q) (λ gone. Ok (removals q.table gone)) ws a.2 in
      let answer : removals q.table b.0 ≡ ws = let h = b.2 in cc in
      wipe_of a.0 b.0 a.1 b.1 answer

  pub wipe_by_prefix-ok : wipe_by_prefix schema s q ≡ Ok ws → IsWipe schema s q ws
  wipe_by_prefix-ok e =
      let a = passed_on (needed unknown_table (table_at schema s q.table)) (λ table. wiped_rows_by_prefix table.schema table.rows q >>= (λ gone. Ok (removals q.table gone))) ws e in
      let b = passed_on (wiped_rows_by_prefix a.0.schema a.0.rows q) (λ gone. Ok (removals q.table gone)) ws a.2 in
      let n = passed_on (passed no_prefix_name (is_prefix_name q.index)) (λ named. wiped_rows a.0.schema a.0.rows q) b.0 b.1 in
      let answer : removals q.table b.0 ≡ ws = let h = b.2 in cc in
      wipe_of a.0 b.0 a.1 n.2 answer

  -- a wipe of nothing changes nothing
  pub after_wipe-nothing : (w : IsWipe schema s q ws) → w.gone ≡ [] → after_writes schema s ws ≡ s
  after_wipe-nothing w nothing = ap (after_writes schema s) (sym w.writes ∙ ap (removals q.table) nothing)

  module _ (w : IsWipe schema s q ws) (laws : IsLawfulSchema schema) (lawful : IsLawfulState schema s) where
    -- the rows that are left
    abbrev left : List Fields
    left = without_rows w.table.schema w.gone w.table.rows

    -- each removal is accepted
    pub wipe_removes : Removes schema s q.table w.table w.gone
    wipe_removes =
        let t = All-contains IsLawfulTable schema w.table.schema laws.each (Contains-slice_get schema w.table.place w.table.schema w.there.schema) in
        removals_accepted schema q.table s w.table w.gone t lawful w.there (wiped_once w.table.schema w.table.rows q w.gone w.listed)

    -- what is left stands in the place of the table's rows
    pub after_wipe : after_writes schema s ws ≡ put_rows s w.table (without_rows w.table.schema w.gone w.table.rows)
    after_wipe = ap (after_writes schema s) (sym w.writes) ∙ wipe_removes.1

    pub after_wipe-table : table_at schema (after_writes schema s ws) q.table ≡ Some (with_rows w.table (without_rows w.table.schema w.gone w.table.rows))
    after_wipe-table =
        ap (λ (u : State). table_at schema u q.table) after_wipe
        ∙ table_at-put_rows_some schema s q.table w.table left w.there

    -- the other tables stay
    pub after_wipe-other : (other : Bytes) → other ≢ q.table → table_at schema (after_writes schema s ws) other ≡ table_at schema s other
    after_wipe-other other apart =
        ap (λ (u : State). table_at schema u other) after_wipe
        ∙ table_at-other schema s q.table other w.table left w.there apart
