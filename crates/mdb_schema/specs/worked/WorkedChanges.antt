-- Worked changes: what commits on a tracked table `t` and on `u`, which isn't tracked, are told as; and
-- the order in which changes are told.
use Rattle.std.specs.Prelude.{◌≡◌, pos, negsuc, ℕ, ℤ, List, [], ◌∷◌, true, false, Option, Some, None, codes, refl}
use Rattle.mdb_datum.specs.Doc.{whole, text}
use Rattle.mdb_datum.specs.Row.{Fields}
use Rattle.mdb_encode.specs.Bytes.{Bytes}
use Rattle.mdb_encode.specs.Indexer.{Indexer, str, sint}
use Rattle.mdb_schema.specs.History.{History, state_at, after_writes}
use Rattle.mdb_schema.specs.Net.{Change, changes, with_changes}
use Rattle.mdb_schema.specs.Schema.{DbSchema}
use Rattle.mdb_schema.specs.State.{State, empty_state}
use Rattle.mdb_schema.specs.Write.{Write, put, remove}
use Rattle.mdb_schema.specs.worked.Sample.{only_name}
use Rattle.mdb_schema.specs.worked.TrackedTables.{names_table, two_tables}

-- {"n":N,"name":"b"}
abbrev b_with : ℕ → Fields
b_with n = (codes "n", whole (pos n)) ∷ (codes "name", text (codes "b")) ∷ []

abbrev a : Fields
a = only_name (codes "a")

abbrev b : Fields
b = only_name (codes "b")

abbrev c : Fields
c = only_name (codes "c")

abbrev z : Fields
z = only_name (codes "z")

abbrev t : Bytes
t = codes "t"

-- four commits: the second puts another `b`, an equal `a`, and a `c` that it removes again; the last has
-- no writes
abbrev four_commits : History
four_commits =
    record { caller = 0; writes = put t (b_with 1) ∷ put t a ∷ put (codes "u") z ∷ [] } ∷
    record { caller = 0; writes = put t (b_with 2) ∷ put t c ∷ remove t c ∷ put t a ∷ [] } ∷
    record { caller = 0; writes = remove t a ∷ [] } ∷
    record { caller = 0; writes = [] } ∷ []

abbrev after_commit : ℕ → State
after_commit n = state_at two_tables four_commits n

-- the changes from the state after so many commits to that after so many
abbrev between : ℕ → ℕ → List Change
between before after = changes two_tables (after_commit before) (after_commit after)

-- a change of the table `t`, whose place is 0
abbrev of_t : Option Fields → Option Fields → Change
of_t before after = record { table = 0; before = before; after = after }

-- rows come in the order of their `id` keys, whatever order they were put in; `u` isn't told
pub first_commit : between 0 1 ≡ of_t None (Some a) ∷ of_t None (Some (b_with 1)) ∷ []
first_commit = refl

-- the row that is put again and the one that comes and goes are no changes
pub second_commit : between 1 2 ≡ of_t (Some (b_with 1)) (Some (b_with 2)) ∷ []
second_commit = refl

pub third_commit : between 2 3 ≡ of_t (Some a) None ∷ []
third_commit = refl

-- a commit without writes changes nothing
pub fourth_commit : between 3 4 ≡ []
fourth_commit = refl

-- of all four, only what is left of them
pub all_commits : between 0 4 ≡ of_t None (Some (b_with 2)) ∷ []
all_commits = refl

-- made on the state before, they give the rows of `t`, and leave `u` without its row
pub changes_lead : with_changes two_tables (between 0 1) (after_commit 0) ≡ (a ∷ b_with 1 ∷ []) ∷ [] ∷ []
changes_lead = refl

-- ---- in what order

-- what writes on tables without rows are told as
abbrev told : DbSchema → List Write → List Change
told schema ws =
    changes schema (empty_state schema) (after_writes schema (empty_state schema) ws)

-- a table `s`, which isn't tracked, and then two that are, `t` and `u`
abbrev three_tables : DbSchema
three_tables =
    names_table (codes "s") false ∷ names_table t true ∷ names_table (codes "u") true ∷ []

-- a row that has come to the table at a place
abbrev come_to : ℕ → Fields → Change
come_to place row = record { table = place; before = None; after = Some row }

-- table by table, whatever was written first; the places are those in the whole schema
pub tables_in_turn :
    told three_tables (put (codes "u") c ∷ put t z ∷ put (codes "s") b ∷ put t a ∷ put (codes "u") b ∷ [])
    ≡ come_to 1 a ∷ come_to 1 z ∷ come_to 2 b ∷ come_to 2 c ∷ []
tables_in_turn = refl

-- the one table `t`, tracked, with this index `id`
abbrev with_id : Indexer → DbSchema
with_id i = record {
  name = t;
  tracked = true;
  indexes =
      record { name = codes "id"; unique = true; allow_missing = false; indexer = i } ∷ [];
} ∷ []

-- {"n":N}
abbrev signed : ℤ → Fields
signed n = (codes "n", whole n) ∷ []

-- signed numbers come in their order, -2, -1, 9, 10, and not in that of their texts
pub signed_in_order :
    told (with_id (sint (codes "n") 2))
    (put t (signed (pos 10)) ∷ put t (signed (negsuc 0)) ∷ put t (signed (pos 9)) ∷ put t (signed (negsuc 1)) ∷ [])
    ≡ come_to 0 (signed (negsuc 1)) ∷ come_to 0 (signed (negsuc 0)) ∷ come_to 0 (signed (pos 9)) ∷
    come_to 0 (signed (pos 10)) ∷ []
signed_in_order = refl

-- ---- another spelling of an `id`

-- the rows of `t`, whose `id` is `name` in lower case
abbrev lowered : List Write → State
lowered ws = after_writes (with_id (str (codes "name") true)) ([] ∷ []) ws

abbrev upper_a : Fields
upper_a = only_name (codes "A")

-- the row that it replaces is of the same `id`: one change with both, not one gone and one come
pub other_spelling : changes (with_id (str (codes "name") true)) (lowered (put t a ∷ [])) (lowered (put t a ∷ put t upper_a ∷ [])) ≡ of_t (Some a) (Some upper_a) ∷ []
other_spelling = refl
