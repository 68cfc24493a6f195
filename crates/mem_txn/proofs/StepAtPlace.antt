-- What one commit makes of the table at a place, and of the table of a name.
use Rattle.std.proofs.Common.{◌≡◌, ◌∙◌, ℕ, zero, suc, List, [], ◌∷◌, Option, Some, None, slice_get, map, length, refl, sym, ap, subst}
use Rattle.std.proofs.lemmas.List.{length-map}
use Rattle.mdb_datum.specs.Row.{Fields}
use Rattle.mdb_encode.specs.Bytes.{Bytes}
use Rattle.mdb_schema.specs.Schema.{DbSchema}
use Rattle.mdb_schema.specs.State.{State, Table, table_at}
use Rattle.mdb_schema.proofs.Tables.{IsTableAt, table_at-some, table_at-there}
use Rattle.radix_node.specs.Cells.{CellTree}
use Rattle.table_index.specs.Table.{TableChange, TableRows}
use Rattle.mem_txn.specs.CellHistory.{Forest, planted, table_in, with_trees}
use Rattle.mem_txn.specs.inner.Steps.{AreTableSteps, IsTableStep, tables_with}
use Rattle.mem_txn.specs.inner.VersionTables.{schemas_of, standing}

-- ---- by place

-- the table at a place has become the one at that place
pub step_at : (first : ℕ) (rows : Bytes → List Fields) (olds news : List TableRows) (place : ℕ) (old : TableRows) → AreTableSteps first rows olds news → slice_get olds place ≡ Some old
    → (new : TableRows) × (slice_get news place ≡ Some new) × IsTableStep first (rows old.schema.name) old new
step_at first rows [] news place old steps e = cc
step_at first rows (t ∷ olds) [] place old steps e = absurd steps
step_at first rows (t ∷ olds) (u ∷ news) zero old steps e =
    let same : t ≡ old = cc in
    (u, refl, subst (λ (x : TableRows). IsTableStep first (rows x.schema.name) x u) same steps.0)
step_at first rows (t ∷ olds) (u ∷ news) (suc place) old steps e = step_at first rows olds news place old steps.1 e

-- a table stands at a place of a schema, with its rows and its trees
pub record IsPlanted (db : DbSchema) (s : State) (forest : Forest) (place : ℕ) (t : TableRows) : Type 0 where
  pub schema : slice_get db place ≡ Some t.schema
  pub rows : slice_get s place ≡ Some t.rows
  pub trees : slice_get forest place ≡ Some t.trees

-- what stands at a place is the table there
pub planted_at : (db : DbSchema) (s : State) (forest : Forest) (place : ℕ) (t : TableRows) → IsPlanted db s forest place t → slice_get (tables_with db s forest) place ≡ Some t
planted_at [] s forest place t is = let none = is.schema in cc
planted_at (u ∷ db) [] forest place t is = let none = is.rows in cc
planted_at (u ∷ db) (rs ∷ s) [] place t is = let none = is.trees in cc
planted_at (u ∷ db) (rs ∷ s) (ts ∷ forest) zero t is =
    let a = is.schema in
    let b = is.rows in
    let c = is.trees in
    let schema : u ≡ t.schema = cc in
    let rows : rs ≡ t.rows = cc in
    let trees : ts ≡ t.trees = cc in
    ap Some (λ i. let r : TableRows = record { schema = schema i; rows = rows i; trees = trees i } in r)
planted_at (u ∷ db) (rs ∷ s) (ts ∷ forest) (suc place) t is = planted_at db s forest place t (record { schema = is.schema; rows = is.rows; trees = is.trees })

-- and the table there stands at that place
pub planted_there : (db : DbSchema) (s : State) (forest : Forest) (place : ℕ) (t : TableRows) → slice_get (tables_with db s forest) place ≡ Some t → IsPlanted db s forest place t
planted_there [] s forest place t e = cc
planted_there (u ∷ db) [] forest place t e = cc
planted_there (u ∷ db) (rs ∷ s) [] place t e = cc
planted_there (u ∷ db) (rs ∷ s) (ts ∷ forest) zero t e =
    let same : (let r : TableRows = record { schema = u; rows = rs; trees = ts } in r) ≡ t = cc in
    record {
      schema = ap (λ (x : TableRows). Some x.schema) same;
      rows = ap (λ (x : TableRows). Some x.rows) same;
      trees = ap (λ (x : TableRows). Some x.trees) same;
    }
planted_there (u ∷ db) (rs ∷ s) (ts ∷ forest) (suc place) t e =
    let at = planted_there db s forest place t e in record { schema = at.schema; rows = at.rows; trees = at.trees }

-- ---- by name

-- a table of a name and its trees, where it stands
pub record IsNamed (db : DbSchema) (s : State) (forest : Forest) (name : Bytes) (t : TableRows) : Type 0 where
  pub table : Table
  pub named : IsTableAt db s name table
  pub there : IsPlanted db s forest table.place t

-- a table with its trees is that table in one of the lists of trees
with_some : (x : Table) (o : Option (List CellTree)) (t : TableRows) → with_trees x o ≡ Some t → (o ≡ Some t.trees) × (x.schema ≡ t.schema) × (x.rows ≡ t.rows)
with_some x None t e = cc
with_some x (Some ts) t e =
    let same : (let w : TableRows = record { schema = x.schema; rows = x.rows; trees = ts } in w) ≡ t = cc in
    (ap (λ (w : TableRows). Some w.trees) same, ap (λ (w : TableRows). w.schema) same, ap (λ (w : TableRows). w.rows) same)

-- a table with trees is a table of the state, with the trees at its place
planted_some : (forest : Forest) (o : Option Table) (t : TableRows) → planted forest o ≡ Some t → (x : Table) × (o ≡ Some x) × (with_trees x (slice_get forest x.place) ≡ Some t)
planted_some forest None t e = cc
planted_some forest (Some x) t e = (x, refl, e)

-- the table of a name in a state and its trees stands at the place of the name
pub named_there : (db : DbSchema) (s : State) (forest : Forest) (name : Bytes) (t : TableRows) → table_in db s forest name ≡ Some t → IsNamed db s forest name t
named_there db s forest name t e =
    let x = planted_some forest (table_at db s name) t e in
    let w = with_some x.0 (slice_get forest x.0.place) t x.2 in
    let is = table_at-there db s name x.0 x.1 in
    record {
      table = x.0;
      named = is;
      there = record { schema = is.schema ∙ ap Some w.1; rows = is.rows ∙ ap Some w.2; trees = w.0 };
    }

-- a table is that of a name where it stands at the place of the name
pub named_in : (db : DbSchema) (s old : State) (forest : Forest) (name : Bytes) (x : Table) (t : TableRows) → IsTableAt db old name x → IsPlanted db s forest x.place t → table_in db s forest name ≡ Some t
named_in db s old forest name x t is there =
    let y : Table = record { place = x.place; schema = t.schema; rows = t.rows } in
    ap (planted forest) (table_at-some db s name y (record { place = is.place; schema = there.schema; rows = there.rows })) ∙ ap (with_trees y) there.trees

-- what the table of a name has become
pub record Becomes (first : ℕ) (written : List Fields) (db : DbSchema) (new : State) (old later : Forest) (name : Bytes) (t : TableRows) : Type 0 where
  pub place : ℕ
  pub after : TableRows
  pub was : slice_get old place ≡ Some t.trees
  pub is : slice_get later place ≡ Some after.trees
  pub there : table_in db new later name ≡ Some after
  pub same : after.schema ≡ t.schema
  pub step : IsTableStep first written t after

-- one commit, by the tables' names
pub becomes : (first : ℕ) (rows : Bytes → List Fields) (db : DbSchema) (old new : State) (forest later : Forest) (name : Bytes) (t : TableRows)
    → AreTableSteps first rows (tables_with db old forest) (tables_with db new later) → table_in db old forest name ≡ Some t → Becomes first (rows t.schema.name) db new forest later name t
becomes first rows db old new forest later name t steps e =
    let at = named_there db old forest name t e in
    let place = at.table.place in
    let next = step_at first rows (tables_with db old forest) (tables_with db new later) place t steps (planted_at db old forest place t at.there) in
    let u = next.0 in
    let there = planted_there db new later place u next.1 in
    let schemas : Some u.schema ≡ Some t.schema = sym there.schema ∙ at.there.schema in
    record {
      place = place;
      after = u;
      was = at.there.trees;
      is = there.trees;
      there = named_in db new old later name at.table u at.named there;
      same = (let s : u.schema ≡ t.schema = cc in s);
      step = next.2;
    }

-- the trees that changes began with are as many as the tables of their schema
pub planted_starts : (tables : List TableChange) (forest : Forest) (db : DbSchema) → map (λ (t : TableChange). t.start) tables ≡ forest → schemas_of (map standing tables) ≡ db → length forest ≡ length db
planted_starts tables forest db starts schemas =
    ap length (sym starts)
    ∙ length-map tables (λ (t : TableChange). t.start)
    ∙ sym (length-map tables standing)
    ∙ sym (length-map (map standing tables) (λ (t : TableRows). t.schema))
    ∙ ap length schemas
