-- The table of a name among tables that stand for a state, and what a question of it is answered.
use Rattle.std.proofs.Common.{◌≡◌, ◌∙◌, ◌<◌, ◌+◌, ◌++◌, ℕ, zero, List, [], ◌∷◌, map, length, take, drop, slice_get, append-nil, Bool, true, false, Option, Some, None, option_map, option_and_then, Result, refl, sym, ap, subst, arith}
use Rattle.std.specs.Prelude.{if◌then◌else◌}
use Rattle.std.specs.Str.{bytes_eq}
use Rattle.std.proofs.Math.Seq.{drop-length}
use Rattle.std.proofs.lemmas.List.{length-map, take_all}
use Rattle.std.proofs.lemmas.Option.{slice_get-map}
use Rattle.mdb_datum.specs.Row.{Fields}
use Rattle.mdb_encode.specs.Bytes.{Bytes}
use Rattle.mdb_schema.specs.Answer.{Asked, ask, ask_rows, unknown_table}
use Rattle.mdb_schema.specs.Query.{Query}
use Rattle.mdb_schema.specs.ErrorsTold.{AnswersAsk}
use Rattle.mdb_schema.specs.Schema.{TableSchema, DbSchema, table_place}
use Rattle.mdb_schema.specs.State.{State, Table, table_at}
use Rattle.mdb_schema.specs.Tests.{◌>>=◌, needed}
use Rattle.mdb_schema.specs.declared.answer.Answer.{Answer}
use Rattle.mdb_schema.specs.declared.ask_error.AskError.{AskError}
use Rattle.mdb_schema.proofs.Tables.{IsTableAt, table_at-some}
use Rattle.table_index.specs.Table.{TableRows, TableChange}
use Rattle.mem_txn.specs.inner.VersionTables.{AnswersAskAt, StandFor, schemas_of, standing, state_of}

-- ---- the place of a name

pub table_place_within : (name : Bytes) (ts : DbSchema) (place : ℕ) → table_place name ts ≡ Some place → place < length ts
table_place_within name [] place e = cc
table_place_within name (u ∷ us) place e = of (bytes_eq u.name name) (table_place name us) refl e (λ at there. table_place_within name us at there)
  where
    of : (b : Bool) (o : Option ℕ) → table_place name us ≡ o → (if b then Some 0 else option_map (λ n. n + 1) o) ≡ Some place
        → ((at : ℕ) → table_place name us ≡ Some at → at < length us) → place < length (u ∷ us)
    of true o g e later = let first : zero ≡ place = cc in omega arith
    of false None g e later = cc
    of false (Some at) g e later = let next : at + 1 ≡ place = cc in let within = later at g in omega arith

-- ---- no table of a name

abbrev made_at : State → ℕ → TableSchema → Option Table
made_at s place t = option_map (λ (rows : List Fields). record { place = place; schema = t; rows = rows }) (slice_get s place)

abbrev at_place : DbSchema → State → ℕ → Option Table
at_place schema s place = option_and_then (made_at s place) (slice_get schema place)

pub table_at-none : (schema : DbSchema) (s : State) (name : Bytes) → table_place name schema ≡ None → table_at schema s name ≡ None
table_at-none schema s name none = ap (option_and_then (at_place schema s)) none

abbrev asked_in : Query → Option Table → Asked Answer
asked_in q o = needed unknown_table o >>= (λ (table : Table). ask_rows table.schema table.rows q)

-- ---- the table of a name

module _ (tables : List TableRows) (schema : DbSchema) (s : State) (schemas : schemas_of tables ≡ schema) (rows : state_of tables ≡ s) (name : Bytes) (place : ℕ) (found : table_place name schema ≡ Some place) where
  pub found_within : place < length tables
  found_within =
      let within = table_place_within name schema place found in
      omega (arith, within, ap length schemas, length-map tables (λ (t : TableRows). t.schema))

  module _ (t : TableRows) (there : slice_get tables place ≡ Some t) where
    pub found_table : IsTableAt schema s name (record { place = place; schema = t.schema; rows = t.rows })
    found_table = record {
      place = found;
      schema =
          ap (λ (ts : DbSchema). slice_get ts place) (sym schemas)
          ∙ slice_get-map (λ (t : TableRows). t.schema) tables place
          ∙ ap (option_map (λ (t : TableRows). t.schema)) there;
      rows =
          ap (λ (u : State). slice_get u place) (sym rows)
          ∙ slice_get-map (λ (t : TableRows). t.rows) tables place
          ∙ ap (option_map (λ (t : TableRows). t.rows)) there;
    }

    pub table_at-found : table_at schema s name ≡ Some (record { place = place; schema = t.schema; rows = t.rows })
    table_at-found = table_at-some schema s name (record { place = place; schema = t.schema; rows = t.rows }) found_table

module _ (tables : List TableRows) (schema : DbSchema) (s : State) (schemas : schemas_of tables ≡ schema) (rows : state_of tables ≡ s) (q : Query) (place : ℕ) (found : table_place q.table schema ≡ Some place) (t : TableRows) (there : slice_get tables place ≡ Some t) where
  pub ask-found : ask schema s q ≡ ask_rows t.schema t.rows q
  ask-found = ap (asked_in q) (table_at-found tables schema s schemas rows q.table place found t there)

  pub answers-found : (result : Result Answer AskError) → AnswersAsk (ask_rows t.schema t.rows q) result → AnswersAsk (ask schema s q) result
  answers-found result told = subst (λ (r : Asked Answer). AnswersAsk r result) (sym ask-found) told

-- ---- tables that are being changed

module _ (tables : List TableChange) (schema : DbSchema) (s : State) (stand : StandFor tables schema s) (place : ℕ) where
  pub stand_within : (name : Bytes) → table_place name schema ≡ Some place → place < length tables
  stand_within name found =
      let within = found_within (map standing tables) schema s stand.schemas stand.rows name place found in
      let count = length-map tables standing in
      omega (arith, within, count)

  pub standing_there : (t : TableChange) → slice_get tables place ≡ Some t → slice_get (map standing tables) place ≡ Some (standing t)
  standing_there t there = slice_get-map standing tables place ∙ ap (option_map standing) there

  pub stand_answers : (q : Query) → table_place q.table schema ≡ Some place → (result : Result Answer AskError) → AnswersAskAt q place result tables → AnswersAsk (ask schema s q) result
  stand_answers q found result a =
      answers-found (map standing tables) schema s stand.schemas stand.rows q place found (standing a.asked) (standing_there a.asked a.there) result a.answers

  pub stand_table : (name : Bytes) → table_place name schema ≡ Some place → (t : TableChange) → slice_get tables place ≡ Some t
      → IsTableAt schema s name (record { place = place; schema = t.schema; rows = t.rows })
  stand_table name found t there = found_table (map standing tables) schema s stand.schemas stand.rows name place found (standing t) (standing_there t there)

  -- its schema is the one that stands there
  pub schema_there : (t : TableChange) → slice_get tables place ≡ Some t → slice_get schema place ≡ Some t.schema
  schema_there t there =
      ap (λ (ts : DbSchema). slice_get ts place) (sym stand.schemas)
      ∙ slice_get-map (λ (r : TableRows). r.schema) (map standing tables) place
      ∙ ap (option_map (λ (r : TableRows). r.schema)) (standing_there t there)

-- a vector whose list was lent as a whole, and is as it was
pub lent_whole : {X : Type 0} (items present : List X) (n : ℕ) → present ≡ items → n ≡ length items → take n (present ++ drop (length present) items) ≡ items
lent_whole {X} items present n same count =
    ap (λ (ys : List X). take n (ys ++ drop (length ys) items)) same
    ∙ ap (λ (ys : List X). take n (items ++ ys)) (drop-length items)
    ∙ ap (take n) (append-nil items)
    ∙ take_all n items (omega (arith, count))
