-- What writes make of the rows of a table: the row before and the row after, under each `id` key
-- where these differ. A row that is replaced by one with the same members is no change. And what they
-- make of a state: the same of each tracked table.
use Rattle.std.specs.Prelude.{◌≡◌, ◌≢◌, ◌↔◌, ◌++◌, pos, ℕ, zero, suc, List, [], ◌∷◌, map, filter, slice_get, Bool, true, false, not, if◌then◌else◌, Option, Some, None, Ok, All, Contains, codes}
use Rattle.std.specs.List.Sorted.{IsStrictlySortedBy}
use Rattle.mdb_datum.specs.Doc.{FieldList, fields_in, member, object, whole}
use Rattle.mdb_datum.specs.Row.{Fields}
use Rattle.mdb_datum.specs.Same.{has_same_members}
use Rattle.mdb_encode.specs.Bytes.{Bytes, byte_order}
use Rattle.mdb_schema.specs.History.{after_writes}
use Rattle.mdb_schema.specs.Reading.{schema_in}
use Rattle.mdb_schema.specs.Schema.{TableSchema, DbSchema}
use Rattle.mdb_schema.specs.State.{State, IsLawfulState, AreLawfulRows, id_key, row_at, with_row, without_row}
use Rattle.mdb_schema.specs.Write.{Write}

-- of one `id` key: the row before and the row after, if there is one
pub record Net : Type 0 where
  pub before : Option Fields
  pub after : Option Fields

-- a row has come, has gone, or has other members
abbrev pub differ : Option Fields → Option Fields → Bool
differ None None = false
differ None (Some after) = true
differ (Some before) None = true
differ (Some before) (Some after) = not (has_same_members before after)

-- the rows of two lists, rising by `id` key; under a key of both, that of the second list
abbrev pub rows_of_both : TableSchema → List Fields → List Fields → List Fields
rows_of_both t old [] = old
rows_of_both t old (r ∷ new) = with_row t r (rows_of_both t old new)

-- what became of the row of an `id` key
abbrev pub net_at : TableSchema → List Fields → List Fields → Bytes → Net
net_at t old new id = record { before = row_at t id old; after = row_at t id new }

-- what became of each row of the two lists, where that differs, rising by `id` key
abbrev pub net : TableSchema → List Fields → List Fields → List Net
net t old new =
    filter (λ n. differ n.before n.after)
    (map (λ r. net_at t old new (id_key t r)) (rows_of_both t old new))

-- ---- what holds of the net of lawful rows

-- rows differ where they aren't the same
abbrev pub DifferWhereNotSame : Type 0
DifferWhereNotSame = (before after : Option Fields) → (differ before after ≡ true) ↔ (before ≢ after)

-- this is what became of the row of some `id` key, and the row before and the row after differ
abbrev pub IsDifference : TableSchema → List Fields → List Fields → Net → Type 0
IsDifference t old new n = (id : Bytes) × (n ≡ net_at t old new id) × (differ n.before n.after ≡ true)

-- the net has just what became of the row of each `id` key where that differs
abbrev pub NetsAreJustWhatDiffers : Type 0
NetsAreJustWhatDiffers =
    (t : TableSchema) (old new : List Fields) (n : Net) → AreLawfulRows t old → AreLawfulRows t new
    → Contains (net t old new) n ↔ IsDifference t old new n

-- the `id` key of what became of a row: that of the row after, or of the row before where there is none
abbrev pub key_of_either : TableSchema → Option Fields → Option Fields → Bytes
key_of_either t before (Some after) = id_key t after
key_of_either t (Some before) None = id_key t before
key_of_either t None None = []

abbrev pub net_key : TableSchema → Net → Bytes
net_key t n = key_of_either t n.before n.after

-- the keys of the net rise, so that none is told twice
abbrev pub NetsRise : Type 0
NetsRise =
    (t : TableSchema) (old new : List Fields) → AreLawfulRows t old → AreLawfulRows t new
    → IsStrictlySortedBy byte_order (map (net_key t) (net t old new))

-- the rows with a change made
abbrev pub with_net : TableSchema → Net → List Fields → List Fields
with_net t n rows = made n.before n.after
  where
    made : Option Fields → Option Fields → List Fields
    made None None = rows
    made (Some before) None = without_row t (id_key t before) rows
    made before (Some after) = with_row t after rows

-- the rows with changes made, which are of different `id` keys, so that their order is all the same
abbrev pub with_nets : TableSchema → List Net → List Fields → List Fields
with_nets t [] rows = rows
with_nets t (n ∷ ns) rows = with_net t n (with_nets t ns rows)

-- the net, made on the old rows, gives the new ones
abbrev pub NetLeadsToNew : Type 0
NetLeadsToNew =
    (t : TableSchema) (old new : List Fields) → AreLawfulRows t old → AreLawfulRows t new
    → with_nets t (net t old new) old ≡ new

-- there is no net exactly where the rows are the same
abbrev pub NoNetWhereSame : Type 0
NoNetWhereSame =
    (t : TableSchema) (old new : List Fields) → AreLawfulRows t old → AreLawfulRows t new
    → (net t old new ≡ []) ↔ (old ≡ new)

-- so writes that undo each other leave none
abbrev pub NetOfUndone : Type 0
NetOfUndone = (t : TableSchema) (rows : List Fields) → AreLawfulRows t rows → net t rows rows ≡ []

-- ---- of a state

-- a change of a state: the table's place in the schema, and the row before and the row after
pub record Change : Type 0 where
  pub table : ℕ
  pub before : Option Fields
  pub after : Option Fields

abbrev pub change_at : ℕ → Net → Change
change_at place n = record { table = place; before = n.before; after = n.after }

-- what became of the rows of a table at a place, where it is tracked
abbrev pub changes_in : ℕ → TableSchema → List Fields → List Fields → List Change
changes_in place t old new = if t.tracked then map (change_at place) (net t old new) else []

-- the same of the tables from a place on
abbrev pub changes_from : ℕ → DbSchema → State → State → List Change
changes_from place (t ∷ ts) (old ∷ olds) (new ∷ news) =
    changes_in place t old new ++ changes_from (suc place) ts olds news
changes_from place ts olds news = []

-- the changes from a state to another: table by table in the schema's order, which is the byte order
-- of their names, and in each rising by `id` key
abbrev pub changes : DbSchema → State → State → List Change
changes schema old new = changes_from 0 schema old new

-- ---- what holds of the changes from a lawful state to another

-- the state with the change of a row made in the table at a place
abbrev pub with_net_at : DbSchema → ℕ → Net → State → State
with_net_at (t ∷ ts) zero n (rows ∷ s) = with_net t n rows ∷ s
with_net_at (t ∷ ts) (suc place) n (rows ∷ s) = rows ∷ with_net_at ts place n s
with_net_at ts place n s = s

abbrev pub with_change : DbSchema → Change → State → State
with_change schema c s = with_net_at schema c.table (record { before = c.before; after = c.after }) s

-- the state with changes made, whose order is all the same
abbrev pub with_changes : DbSchema → List Change → State → State
with_changes schema [] s = s
with_changes schema (c ∷ cs) s = with_change schema c (with_changes schema cs s)

-- the first state, with the rows of the second in each tracked table
abbrev pub with_tracked : DbSchema → State → State → State
with_tracked (t ∷ ts) (old ∷ olds) (new ∷ news) =
    (if t.tracked then new else old) ∷ with_tracked ts olds news
with_tracked ts olds news = olds

-- the changes, made on the old state, give the new rows in each tracked table, and leave the other
-- tables as they are
abbrev pub ChangesLeadToNew : Type 0
ChangesLeadToNew =
    (schema : DbSchema) (old new : State) → IsLawfulState schema old → IsLawfulState schema new
    → with_changes schema (changes schema old new) old ≡ with_tracked schema old new

-- each tracked table has the same rows in both states
abbrev pub IsSameWhereTracked : DbSchema → State → State → Type 0
IsSameWhereTracked schema old new =
    (place : ℕ) (t : TableSchema) → slice_get schema place ≡ Some t → t.tracked ≡ true
    → slice_get old place ≡ slice_get new place

-- there is no change exactly where the tracked tables have the same rows
abbrev pub NoChangeWhereSame : Type 0
NoChangeWhereSame =
    (schema : DbSchema) (old new : State) → IsLawfulState schema old → IsLawfulState schema new
    → (changes schema old new ≡ []) ↔ IsSameWhereTracked schema old new

-- so writes that undo each other in each tracked table leave none
abbrev pub ChangesOfUndone : Type 0
ChangesOfUndone =
    (schema : DbSchema) (s : State) (ws : List Write) → IsLawfulState schema s
    → IsSameWhereTracked schema s (after_writes schema s ws)
    → changes schema s (after_writes schema s ws) ≡ []

-- no table is tracked
abbrev pub TracksNone : DbSchema → Type 0
TracksNone schema = All (λ (t : TableSchema). t.tracked ≡ false) schema

-- then there is no change, whatever the states are
abbrev pub NoneTracked : Type 0
NoneTracked = (schema : DbSchema) (old new : State) → TracksNone schema → changes schema old new ≡ []

-- a schema of version 1, read from an object whose member `memdb` is 1, tracks none
abbrev pub VersionOneTracksNone : Type 0
VersionOneTracksNone =
    (members : FieldList) (schema : DbSchema)
    → member (codes "memdb") (fields_in members) ≡ Some (whole (pos 1))
    → schema_in (object members) ≡ Ok schema → TracksNone schema
