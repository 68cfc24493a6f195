-- What a write of one row does to the indexes of a table.
use Rattle.std.specs.Prelude.{◌≡◌, ◌<◌, ◌++◌, ◌&&◌, ◌⊎◌, ◌↔◌, ℕ, List, [], ◌∷◌, map, Bool, true, false, not, Option, Some, None, if◌then◌else◌, is_some, option_to_list, slice_get, unwrap_or, Contains, Result, Ok, Err, MatchResult}
use Rattle.std.specs.FinMap as finite
use Rattle.std.specs.List.{list_any}
use Rattle.std.specs.declared.alloc.Global.{Global}
use Rattle.std.specs.declared.vec.Vec.{Vec}
use Rattle.mdb_datum.specs.Bytes.{Bytes, byte_order}
use Rattle.mdb_datum.specs.Row.{Fields, Pair}
use Rattle.mdb_schema.specs.Edits.{put_all, stale_keys, without_all}
use Rattle.mdb_schema.specs.Entries.{entries}
use Rattle.mdb_schema.specs.ErrorsTold.{write_error}
use Rattle.mdb_schema.specs.Schema.{IndexSchema, TableSchema}
use Rattle.mdb_schema.specs.State.{AreLawfulRows, full_keys, id_key}
use Rattle.mdb_schema.specs.Write.{Changed, Tested, WriteRefusal, is_among, put_row, remove_row}
use Rattle.mdb_schema.specs.declared.write_error.WriteError.{WriteError}
use Rattle.mdb_schema.specs.declared.write_error.WriteError.TheVariants as write_errors
use Rattle.run_check.specs.declared.edit.PutKeys as put_keys
use Rattle.run_check.specs.declared.keys.RowKeys as row_keys
use Rattle.run_check.specs.declared.sight.Own.{Own}
use Rattle.run_check.specs.declared.sight.Sight.{Sight}
use Rattle.run_check.specs.declared.sight.Stamp.{Stamp}
use Rattle.run_check.specs.inner.IndexView.{HasOwn, HasVersion, IsCommit, IsOwn, KeyVersions, MayWrite, pairs_seen, sees}
use Rattle.run_check.specs.inner.KeyView.{AreKeysOf, keys_of}

-- ---- before a write

-- what is seen of an index
abbrev pub seen_of : Sight → KeyVersions → List Pair
seen_of s x = pairs_seen s x.slots

-- the indexes of a table have just the entries of these lawful rows, as they are seen
pub record AreSeen (t : TableSchema) (rows : List Fields) (s : Sight) (xs : List KeyVersions)
    : Type 0 where
  pub lawful : AreLawfulRows t rows
  pub held : map (seen_of s) xs ≡ map (λ (i : IndexSchema). entries t i rows) t.indexes

-- a write of this stamp may come next in each
abbrev pub AreReady : Stamp → List KeyVersions → Type 0
AreReady stamp xs = (at : ℕ) (x : KeyVersions) → slice_get xs at ≡ Some x → MayWrite stamp x

-- ---- keys by the places of indexes

abbrev pub keys_in : List (Vec (Vec ℕ Global) Global) → ℕ → List Bytes
keys_in kss at = unwrap_or (slice_get (map keys_of kss) at) []

-- the full keys of a row that was there, in each index
abbrev pub old_lists : Option row_keys.RowKeys → List (Vec (Vec ℕ Global) Global)
old_lists None = []
old_lists (Some ks) = ks.indexes.items

-- one of the new keys is that of a pair, and none of the old ones
abbrev pub is_taken : List Bytes → List Bytes → List Pair → Bool
is_taken new old es =
    list_any (λ k. is_some (finite.find byte_order k es) && not (is_among old k)) new

-- the same in the index at a place
abbrev pub is_taken_at : Sight → List (Vec (Vec ℕ Global) Global) → List (Vec (Vec ℕ Global) Global)
    → List KeyVersions → ℕ → Bool
is_taken_at s new old xs at =
    is_taken (keys_in new at) (keys_in old at) (unwrap_or (slice_get (map (seen_of s) xs) at) [])

-- the first place that passes a test, of those below a number
abbrev pub IsFirst : (ℕ → Bool) → ℕ → Option ℕ → Type 0
IsFirst test count None = (k : ℕ) → k < count → test k ≡ false
IsFirst test count (Some at) = (at < count) × (test at ≡ true) × ((k : ℕ) → k < at → test k ≡ false)

-- the keys of the row of an `id` key, if there is one
abbrev pub AreOldKeys : TableSchema → Option Fields → Option row_keys.RowKeys → Type 0
AreOldKeys t None found = found ≡ None
AreOldKeys t (Some row) found = (ks : row_keys.RowKeys) × (found ≡ Some ks) × AreKeysOf t row ks

abbrev pub AnswersOldKeys : TableSchema → Option Fields → Result (Option row_keys.RowKeys) WriteError → Type 0
AnswersOldKeys t old result = MatchResult result (AreOldKeys t old) (λ e. e ≡ write_errors.Memory)

-- the keys of a put that is accepted
pub record IsAccepted (t : TableSchema) (row : Fields) (rows : List Fields) (ks : put_keys.PutKeys)
    : Type 0 where
  pub changed : Changed
  pub done : put_row t row rows ≡ Ok changed
  pub new : AreKeysOf t row ks.new
  pub old : AreOldKeys t changed.1 ks.old

-- ---- writes of keys in one index

-- writes of these keys, one after the other, make so much of the pairs wherever they are seen
pub record IsEdited (stamp : Stamp) (edit : List Pair → List Pair) (wrote : List Bytes)
    (old new : KeyVersions) : Type 0 where
  pub seen : (s : Sight) → seen_of s new ≡ (if sees s stamp then edit (seen_of s old) else seen_of s old)
  pub versions : (k : Bytes) (j : ℕ)
      → HasVersion new k j ↔ (HasVersion old k j ⊎ (Contains wrote k × IsCommit stamp j))
  pub own : (k : Bytes) (o : Own)
      → HasOwn new k o ↔ (HasOwn old k o ⊎ (Contains wrote k × IsOwn stamp o))
  pub touched : (j : ℕ) → Contains new.touched j
      ↔ (Contains old.touched j ⊎ (((k : Bytes) × Contains wrote k) × IsCommit stamp j))

-- these keys are out
abbrev pub IsOut : Stamp → List Bytes → KeyVersions → KeyVersions → Type 0
IsOut stamp keys old new = IsEdited stamp (without_all keys) keys old new

-- a row is in under these keys
abbrev pub IsIn : Stamp → Fields → List Bytes → KeyVersions → KeyVersions → Type 0
IsIn stamp row keys old new = IsEdited stamp (put_all keys row) keys old new

-- a row has taken the place of one of the old keys
abbrev pub replacing : Fields → List Bytes → List Bytes → List Pair → List Pair
replacing row new old es = put_all new row (without_all (stale_keys new old) es)

abbrev pub IsReplaced : Stamp → Fields → List Bytes → List Bytes → KeyVersions → KeyVersions → Type 0
IsReplaced stamp row keys stale old new =
    IsEdited stamp (replacing row keys stale) (stale_keys keys stale ++ keys) old new

-- so it is at each place, by the keys there
abbrev pub AreReplaced : Stamp → Fields → List (Vec (Vec ℕ Global) Global)
    → List (Vec (Vec ℕ Global) Global) → List KeyVersions → List KeyVersions → Type 0
AreReplaced stamp row keys stale old new =
    (at : ℕ) (x y : KeyVersions) → slice_get old at ≡ Some x → slice_get new at ≡ Some y
    → IsReplaced stamp row (keys_in keys at) (keys_in stale at) x y

abbrev pub AreOut : Stamp → List (Vec (Vec ℕ Global) Global) → List KeyVersions → List KeyVersions
    → Type 0
AreOut stamp keys old new =
    (at : ℕ) (x y : KeyVersions) → slice_get old at ≡ Some x → slice_get new at ≡ Some y
    → IsOut stamp (keys_in keys at) x y

-- ---- a write of a row

-- a key is a full key of one of these rows
abbrev pub IsKeyOfAny : TableSchema → IndexSchema → List Fields → Bytes → Type 0
IsKeyOfAny t i rows key = (r : Fields) × Contains rows r × Contains (full_keys t i r) key

-- What a write makes of an index of a table with rows, which it puts in and takes out the rows of
-- the last list: `before` becomes `after` wherever the write is seen, and else nothing changes.
pub record IsWrittenIn (t : TableSchema) (i : IndexSchema) (before after touched : List Fields)
    (stamp : Stamp) (old new : KeyVersions) : Type 0 where
  pub seen : (s : Sight) → sees s stamp ≡ true → seen_of s old ≡ entries t i before
      → seen_of s new ≡ entries t i after
  pub unseen : (s : Sight) → sees s stamp ≡ false → seen_of s new ≡ seen_of s old
  pub versions : (k : Bytes) (j : ℕ)
      → HasVersion new k j ↔ (HasVersion old k j ⊎ (IsKeyOfAny t i touched k × IsCommit stamp j))
  pub own : (k : Bytes) (o : Own)
      → HasOwn new k o ↔ (HasOwn old k o ⊎ (IsKeyOfAny t i touched k × IsOwn stamp o))
  pub commits : (j : ℕ) → Contains new.touched j
      ↔ (Contains old.touched j ⊎ (((k : Bytes) × IsKeyOfAny t i touched k) × IsCommit stamp j))

-- a write that is accepted, and puts in these rows, has this outcome
pub record HasChanged (t : TableSchema) (rows put : List Fields) (told : Tested Changed) (stamp : Stamp)
    (old new : List KeyVersions) : Type 0 where
  pub changed : Changed
  pub done : told ≡ Ok changed
  pub each : (at : ℕ) (i : IndexSchema) (x y : KeyVersions) → slice_get t.indexes at ≡ Some i
      → slice_get old at ≡ Some x → slice_get new at ≡ Some y
      → IsWrittenIn t i rows changed.0 (put ++ option_to_list changed.1) stamp x y

-- it is refused so, and nothing has changed; or there was no memory
abbrev pub IsRefusedWrite : Tested Changed → WriteError → List KeyVersions → List KeyVersions → Type 0
IsRefusedWrite told e old new =
    (e ≡ write_errors.Memory)
    ⊎ ((why : WriteRefusal) × (told ≡ Err why) × (e ≡ write_error why) × (new ≡ old))

-- a put of a row: its `id` key, and whether a row was there
abbrev pub AnswersPut : TableSchema → Fields → List Fields → Stamp
    → Result (Vec ℕ Global × Bool) WriteError → List KeyVersions → List KeyVersions → Type 0
AnswersPut t row rows stamp (Ok p) old new =
    (h : HasChanged t rows (row ∷ []) (put_row t row rows) stamp old new)
    × (p.0.items ≡ id_key t row) × (p.1 ≡ is_some h.changed.1)
AnswersPut t row rows stamp (Err e) old new = IsRefusedWrite (put_row t row rows) e old new

-- a removal: the `id` key
abbrev pub AnswersRemove : TableSchema → Fields → List Fields → Stamp
    → Result (Vec ℕ Global) WriteError → List KeyVersions → List KeyVersions → Type 0
AnswersRemove t row rows stamp (Ok id) old new =
    HasChanged t rows [] (remove_row t row rows) stamp old new × (id.items ≡ id_key t row)
AnswersRemove t row rows stamp (Err e) old new = IsRefusedWrite (remove_row t row rows) e old new
