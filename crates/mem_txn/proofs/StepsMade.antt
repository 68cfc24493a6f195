-- A write to the table at a place is a step of the state for which the tables stand.
use Rattle.std.proofs.Common.{◌≡◌, ◌≤◌, ◌∙◌, ◌+◌, ◌^◌, ◌++◌, ℕ, List, [], ◌∷◌, map, slice_get, slice_set, false, Option, Some, Ok, Err, inl, inr, refl, sym, ap, subst}
use Rattle.std.specs.Prelude.{◌⊎◌, option_to_list}
use Rattle.std.proofs.lemmas.List.{map-set}
use Rattle.std.proofs.lemmas.List.Elements.{All-set, All-contains}
use Rattle.mdb_datum.specs.Row.{Fields}
use Rattle.mdb_encode.specs.Bytes.{Bytes}
use Rattle.mdb_schema.specs.History.{after_writes, state_or}
use Rattle.mdb_schema.specs.ErrorsTold.{write_error}
use Rattle.mdb_schema.specs.Schema.{TableSchema, DbSchema, table_place}
use Rattle.mdb_schema.specs.State.{State, Table, table_at}
use Rattle.mdb_schema.specs.Tests.{◌>>=◌}
use Rattle.mdb_schema.specs.Write.{Write, WriteRefusal, Tested, Changed, Stepped, step, step_in, unknown_table}
use Rattle.mdb_schema.specs.declared.write_error.WriteError.{WriteError}
use Rattle.mdb_schema.specs.declared.write_error.WriteError.TheVariants.{IdsSpent, Memory}
use Rattle.mdb_schema.proofs.LawfulStates.{step_in-from}
use Rattle.mdb_schema.proofs.Membership.{Contains-slice_get}
use Rattle.mdb_schema.proofs.PassedTests.{needed_on}
use Rattle.mdb_schema.proofs.Tables.{IsTableAt, slice_set-same, table_at-some}
use Rattle.table_index.specs.Table.{AreSpent, TableRows, TableChange}
use Rattle.mem_txn.specs.inner.VersionTables.{AnswersAt, AnswersRows, IsSound, StandFor, Tables, schemas_of, standing, state_of}
use Rattle.mem_txn.proofs.SinceBegun.{AddsAt}
use Rattle.mem_txn.proofs.TablesFound.{schema_there, stand_table}

-- ---- writes, one after another

pub after_writes-more : (schema : DbSchema) (s : State) (ws : List Write) (w : Write) → after_writes schema s (ws ++ w ∷ []) ≡ state_or (after_writes schema s ws) (step schema (after_writes schema s ws) w)
after_writes-more schema s [] w = refl
after_writes-more schema s (v ∷ ws) w = after_writes-more schema (state_or s (step schema s v)) ws w

-- ---- another table in one place

module _ (tables : List TableChange) (schema : DbSchema) (s : State) (stand : StandFor tables schema s) (place : ℕ) (t u : TableChange) (there : slice_get tables place ≡ Some t) where
  pub is_sound : t.spoiled ≡ false
  is_sound = All-contains IsSound tables t stand.sound (Contains-slice_get tables place t there)

  pub stand-set : u.schema ≡ t.schema → u.spoiled ≡ false → StandFor (slice_set tables place u) schema (slice_set s place u.rows)
  stand-set same sound = record {
    schemas =
        ap schemas_of (map-set standing tables place u)
        ∙ map-set (λ (r : TableRows). r.schema) (map standing tables) place (standing u)
        ∙ ap (λ (ts : DbSchema). slice_set ts place u.schema) stand.schemas
        ∙ slice_set-same schema place u.schema (schema_there tables schema s stand place t there ∙ ap Some (sym same));
    rows =
        ap state_of (map-set standing tables place u)
        ∙ map-set (λ (r : TableRows). r.rows) (map standing tables) place (standing u)
        ∙ ap (λ (st : State). slice_set st place u.rows) stand.rows;
    sound = All-set IsSound tables place u sound stand.sound;
  }

-- ---- a write

module _ {A : Type 0} (gives : Option Fields → A → Type 0) (put : List Fields) (change : TableSchema → List Fields → Tested Changed)
    (schema : DbSchema) (s : State) (name : Bytes) (place : ℕ) (found : table_place name schema ≡ Some place)
    (old new : Tables) (stand : StandFor old.tables schema s) where
  abbrev change_in : TableChange → Tested Changed
  change_in t = change t.schema t.rows

  abbrev stepped : Stepped
  stepped = step_in schema s name (λ (t : Table). change t.schema t.rows)

  pub table_there : (t : TableChange) → slice_get old.tables place ≡ Some t → IsTableAt schema s name (record { place = place; schema = t.schema; rows = t.rows })
  table_there t there = stand_table old.tables schema s stand place name found t there

  -- it is accepted: the step leaves the state for which the tables now stand
  pub record Accepts (x : A) : Type 0 where
    pub after : State × Option Fields
    pub step : step_in schema s name (λ (t : Table). change t.schema t.rows) ≡ Ok after
    pub given : gives after.1 x
    pub left : StandFor new.tables schema after.0
    pub few : new.ids.next ≤ old.ids.next + 2 ^ 26
    pub later : old.ids.next ≤ new.ids.next
    pub adds : AddsAt (put ++ option_to_list after.1) place old new

  accepts : (x : A) (before after : TableChange) (told : Tested Changed) → slice_get old.tables place ≡ Some before → change_in before ≡ told → AnswersRows gives put told (Ok x) old.ids new.ids before after
      → new.tables ≡ slice_set old.tables place after → Accepts x
  accepts x before after (Err why) there is answers set = absurd answers
  accepts x before after (Ok c) there is answers set =
      let same : after.schema ≡ before.schema = ap (λ (t : TableChange). t.schema) answers.1.changed in
      let sound : after.spoiled ≡ false = ap (λ (t : TableChange). t.spoiled) answers.1.changed ∙ is_sound old.tables schema s stand place before after there in
      let rows : after.rows ≡ c.0 = ap (λ (t : TableChange). t.rows) answers.1.changed in
      record {
        after = (slice_set s place c.0, c.1);
        step = step_in-from schema s name (λ (t : Table). change t.schema t.rows) (record { place = place; schema = before.schema; rows = before.rows }) c (record {
          there = table_there before there;
          change = is;
        });
        given = answers.0;
        left =
            subst (λ (ts : List TableChange). StandFor ts schema (slice_set s place c.0)) (sym set)
            (subst (λ (rs : List Fields). StandFor (slice_set old.tables place after) schema (slice_set s place rs)) rows (stand-set old.tables schema s stand place before after there same sound));
        few = answers.1.few;
        later = answers.1.later;
        adds = record {
          before = before;
          after = after;
          there = there;
          set = set;
          schema = same;
          start = ap (λ (t : TableChange). t.start) answers.1.changed;
          adds = answers.1.adds;
        };
      }

  pub accepted : (x : A) → AnswersAt gives put change_in place (Ok x) old new → Accepts x
  accepted x a = accepts x a.before a.after (change_in a.before) a.there refl a.answers a.set

  -- it is refused: the step is refused so, and nothing has changed; or it found no memory
  pub record Refuses (why : WriteRefusal) (e : WriteError) : Type 0 where
    pub stepped : step_in schema s name (λ (t : Table). change t.schema t.rows) ≡ Err why
    pub error : e ≡ write_error why
    pub unchanged : new.tables ≡ old.tables
    pub ids : new.ids ≡ old.ids

  -- it isn't refused, but there are too few ids, and nothing has changed
  pub record Spends (e : WriteError) : Type 0 where
    pub after : State × Option Fields
    pub step : step_in schema s name (λ (t : Table). change t.schema t.rows) ≡ Ok after
    pub few : AreSpent old.ids.next 1
    pub error : e ≡ IdsSpent
    pub unchanged : new.tables ≡ old.tables
    pub ids : new.ids ≡ old.ids

  abbrev pub Failed : WriteError → Type 0
  Failed e = ((why : WriteRefusal) × Refuses why e) ⊎ (Spends e ⊎ (e ≡ Memory))

  same_tables : (before after : TableChange) → slice_get old.tables place ≡ Some before → after ≡ before → new.tables ≡ slice_set old.tables place after → new.tables ≡ old.tables
  same_tables before after there same set = set ∙ ap (slice_set old.tables place) same ∙ slice_set-same old.tables place before there

  step-refused : (t : TableChange) (why : WriteRefusal) → slice_get old.tables place ≡ Some t → change_in t ≡ Err why → stepped ≡ Err why
  step-refused t why there is =
      let table : Table = record { place = place; schema = t.schema; rows = t.rows } in
      needed_on unknown_table (table_at schema s name) (λ (u : Table). change u.schema u.rows >>= (λ (c : Changed). Ok (slice_set s u.place c.0, c.1))) table (table_at-some schema s name table (table_there t there))
      ∙ ap (λ (r : Tested Changed). r >>= (λ (c : Changed). Ok (slice_set s place c.0, c.1))) is

  refuses : (e : WriteError) (before after : TableChange) (told : Tested Changed) → slice_get old.tables place ≡ Some before → change_in before ≡ told → AnswersRows gives put told (Err e) old.ids new.ids before after
      → new.tables ≡ slice_set old.tables place after → Failed e
  refuses e before after (Ok c) there is (inr memory) set = inr (inr memory)
  refuses e before after (Ok c) there is (inl spent) set =
      inr (inl (record {
        after = (slice_set s place c.0, c.1);
        step = step_in-from schema s name (λ (t : Table). change t.schema t.rows) (record { place = place; schema = before.schema; rows = before.rows }) c (record {
          there = table_there before there;
          change = is;
        });
        few = spent.0.few;
        error = spent.0.error;
        unchanged = same_tables before after there spent.0.same set;
        ids = spent.1;
      }))
  refuses e before after (Err why) there is (inr memory) set = inr (inr memory)
  refuses e before after (Err why) there is (inl answers) set =
      inl (
        why,
        record {
          stepped = step-refused before why there is;
          error = answers.0;
          unchanged = same_tables before after there answers.1 set;
          ids = answers.2;
        },
      )

  pub refused : (e : WriteError) → AnswersAt gives put change_in place (Err e) old new → Failed e
  refused e a = refuses e a.before a.after (change_in a.before) a.there refl a.answers a.set
