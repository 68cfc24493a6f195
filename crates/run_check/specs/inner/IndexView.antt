-- What has stood in an index, as plain data: the versions of each full key, and the commits that wrote
-- any of these.
use Rattle.std.specs.Prelude.{◌≡◌, ◌+◌, ◌≤◌, ◌<◌, ◌&&◌, ◌⊎◌, ◌↔◌, ◌++◌, ℕ, List, [], ◌∷◌, Bool, false, Option, Some, None, if◌then◌else◌, nat_eq, nat_le, nat_lt, ⊤, Contains, IsTrue, unwrap_or, refl}
use Rattle.std.proofs.Common.{inl, inr}
use Rattle.std.specs.BTreeMap.Range.{IsLeBy, IsLtBy, range_contains}
use base.Stored.{coded_unit}
use Rattle.std.specs.Coded.{Coded, code_by, coded×, coded⊎, coded_ℕ, coded_list}
use Rattle.std.specs.FinMap as finite
use Rattle.std.specs.FinMap.Entries.{where_key}
use Rattle.std.specs.declared.alloc.Global.{Global}
use Rattle.std.specs.Bound as bounds
use Rattle.std.specs.Bound.{bound_map}
use Rattle.std.specs.declared.ops.Bound.{Bound}
use Rattle.std.specs.declared.ops.Bound.TheVariants.{Included, Excluded, Unbounded}
use Rattle.std.specs.declared.vec.Vec.{Vec}
use Rattle.mdb_datum.specs.Bytes.{Bytes, byte_order}
use Rattle.mdb_datum.specs.Row.{Fields, Pair}
use Rattle.mdb_schema.specs.Edits.{without}
use Rattle.run_check.specs.declared.sight.Own.{Own}
use Rattle.run_check.specs.declared.sight.Sight.{Sight}
use Rattle.run_check.specs.declared.sight.Stamp.{Stamp}
use Rattle.run_check.specs.declared.sight.Stamp.TheVariants as stamps
use Rattle.run_check.specs.inner.SlotView.{IsSame, Rises, Versions, no_versions, put_version, IsOwnAt, IsVersionAt, row_seen, versions_code}

-- what an index is seen as
pub record KeyVersions : Type 0 where
  pub slots : List (Bytes × Versions)
  pub touched : List ℕ

-- nothing has stood there
abbrev pub no_keys : KeyVersions
no_keys = record { slots = []; touched = [] }

-- a slot under its key, as bytes
abbrev pub slot_of : Vec ℕ Global × Versions → Bytes × Versions
slot_of e = (e.0.items, e.1)

abbrev pub key_versions_code : Coded KeyVersions
key_versions_code = code_by (List (Bytes × Versions) × List ℕ)
    (coded× (coded_list (coded× (coded_list coded_ℕ) versions_code)) (coded_list coded_ℕ))
    (λ x. (x.slots, x.touched)) (λ p. record { slots = p.0; touched = p.1 }) (λ _. refl)

abbrev pub AreBytes : List ℕ → Type 0
AreBytes k = (b : ℕ) → Contains k b → b < 256

-- the keys rise and are bytes
pub record AreKeys (slots : List (Bytes × Versions)) : Type 0 where
  pub rise : IsTrue (finite.is_sorted byte_order slots)
  pub bytes : (e : Bytes × Versions) → Contains slots e → AreBytes e.0

abbrev pub IsBelow : ℕ → ℕ → Type 0
IsBelow j k = j < k

-- and the commits rise
pub record AreInOrder (slots : List (Bytes × Versions)) (touched : List ℕ) : Type 0 where
  pub keys : AreKeys slots
  pub commits : Rises IsBelow touched

-- ---- what is seen

-- a key with its row, if one is seen there
abbrev pub pair_seen : Bytes → Option Fields → List Pair
pair_seen key None = []
pair_seen key (Some row) = (key, row) ∷ []

-- the pairs that are seen, in the order of their keys
abbrev pub pairs_seen : Sight → List (Bytes × Versions) → List Pair
pairs_seen s [] = []
pairs_seen s (e ∷ es) = pair_seen e.0 (row_seen s e.1) ++ pairs_seen s es

-- the rows after so many commits
abbrev pub after_commit : ℕ → Sight
after_commit n = record { commits = n; own = None }

-- ---- which keys are meant

-- from a key on, up to one
pub record KeyRange : Type 0 where
  pub from : Bound Bytes
  pub to : Bound Bytes

abbrev pub bytes_of : Bound (Vec ℕ Global) → Bound Bytes
bytes_of b = bound_map (λ (k : Vec ℕ Global). k.items) b

abbrev bound_parts : Bound Bytes → Bytes ⊎ (Bytes ⊎ Unit {0})
bound_parts (Included k) = inl k
bound_parts (Excluded k) = inr (inl k)
bound_parts Unbounded = inr (inr tt)

abbrev bound_from : Bytes ⊎ (Bytes ⊎ Unit {0}) → Bound Bytes
bound_from (inl k) = Included k
bound_from (inr (inl k)) = Excluded k
bound_from (inr (inr u)) = Unbounded

pub bound_back : (b : Bound Bytes) → bound_from (bound_parts b) ≡ b
bound_back (Included k) = refl
bound_back (Excluded k) = refl
bound_back Unbounded = refl

abbrev pub bound_code : Coded (Bound Bytes)
bound_code = code_by (Bytes ⊎ (Bytes ⊎ Unit {0}))
    (coded⊎ (coded_list coded_ℕ) (coded⊎ (coded_list coded_ℕ) coded_unit)) bound_parts bound_from bound_back

abbrev pub key_range_code : Coded KeyRange
key_range_code = code_by (Bound Bytes × Bound Bytes) (coded× bound_code bound_code)
    (λ r. (r.from, r.to)) (λ p. record { from = p.0; to = p.1 }) (λ _. refl)

-- it doesn't run backwards
abbrev pub IsForward : Bound Bytes → Bound Bytes → Type 0
IsForward from to = bounds.IsForward (IsLeBy byte_order) (IsLtBy byte_order) from to

abbrev pub is_within : KeyRange → Bytes → Bool
is_within r k = range_contains byte_order r.from r.to k

abbrev pub items_of : Vec ℕ Global → Bytes
items_of v = v.items

-- the first byte string behind all that begin with a prefix, if there is one
abbrev pub end_of : Bytes → Option Bytes
end_of [] = None
end_of (b ∷ bs) = of (end_of bs)
  where
    of : Option Bytes → Option Bytes
    of None = if nat_lt b 255 then Some ((b + 1) ∷ []) else None
    of (Some end) = Some (b ∷ end)

-- just the keys that pass a test
abbrev pub Means : KeyRange → (Bytes → Bool) → Type 0
Means r meant = (k : Bytes) → AreBytes k → is_within r k ≡ meant k

-- the pairs of these keys that are seen
abbrev pub meant_pairs : (Bytes → Bool) → Sight → KeyVersions → List Pair
meant_pairs meant s x = where_key byte_order meant (pairs_seen s x.slots)

-- they are the same after each commit from the first number to the second
abbrev pub AreSame : (Bytes → Bool) → ℕ → ℕ → KeyVersions → Type 0
AreSame meant first last x = (j : ℕ) → first ≤ j → j ≤ last
    → meant_pairs meant (after_commit j) x ≡ meant_pairs meant (after_commit first) x

-- so is what is picked of them, as the first or the last
abbrev pub IsPickedSame : (List Pair → Option Pair) → (Bytes → Bool) → ℕ → ℕ → KeyVersions → Type 0
IsPickedSame pick meant first last x = (j : ℕ) → first ≤ j → j ≤ last
    → pick (meant_pairs meant (after_commit j) x) ≡ pick (meant_pairs meant (after_commit first) x)

-- each row of some slots is the same
abbrev pub AreAllSame : ℕ → ℕ → List (Bytes × Versions) → Type 0
AreAllSame first last [] = ⊤
AreAllSame first last (e ∷ es) = IsSame first last e.1 × AreAllSame first last es

-- what is picked of them is the same
abbrev pub IsPickSame : (List Pair → Option Pair) → ℕ → ℕ → List (Bytes × Versions) → Type 0
IsPickSame pick first last es = (j : ℕ) → first ≤ j → j ≤ last
    → pick (pairs_seen (after_commit j) es) ≡ pick (pairs_seen (after_commit first) es)

-- so is the row under a key
abbrev pub IsRowSame : Bytes → ℕ → ℕ → KeyVersions → Type 0
IsRowSame key first last x = (j : ℕ) → first ≤ j → j ≤ last
    → finite.find byte_order key (pairs_seen (after_commit j) x.slots)
    ≡ finite.find byte_order key (pairs_seen (after_commit first) x.slots)

-- ---- which writes made versions

-- a commit wrote a key
abbrev pub HasVersion : KeyVersions → Bytes → ℕ → Type 0
HasVersion x key j = (y : Versions) × Contains x.slots (key, y) × IsVersionAt y j

-- a transaction's write did; it comes after those writes
abbrev pub HasOwn : KeyVersions → Bytes → Own → Type 0
HasOwn x key o = (y : Versions) × Contains x.slots (key, y) × IsOwnAt y o

-- one of the commits behind the first number, up to the second, wrote a key
abbrev pub IsKeyWritten : Bytes → ℕ → ℕ → KeyVersions → Type 0
IsKeyWritten key after last x = (j : ℕ) × HasVersion x key j × (after < j) × (j ≤ last)

-- one of them wrote any
abbrev pub IsTouchedIn : ℕ → ℕ → KeyVersions → Type 0
IsTouchedIn after last x = (j : ℕ) × Contains x.touched j × (after < j) × (j ≤ last)

-- ---- a write

-- the sight has the write of a stamp in it
abbrev pub sees : Sight → Stamp → Bool
sees s (stamps.Commit n) = nat_le n s.commits
sees s (stamps.Own own) = of s.own
  where
    of : Option Own → Bool
    of None = false
    of (Some o) = nat_eq own.txn o.txn && nat_lt own.writes o.writes

-- the pairs with this row under a key, or without one there
abbrev pub with_pair : Bytes → Option Fields → List Pair → List Pair
with_pair key None ps = without key ps
with_pair key (Some row) ps = finite.put byte_order key row ps

-- the same where it is seen
abbrev pub pairs_after : Bool → Bytes → Option Fields → List Pair → List Pair
pairs_after seen key row ps = if seen then with_pair key row ps else ps

abbrev pub IsCommit : Stamp → ℕ → Type 0
IsCommit (stamps.Commit n) j = j ≡ n
IsCommit (stamps.Own own) j = ⊥

abbrev pub IsOwn : Stamp → Own → Type 0
IsOwn (stamps.Commit n) o = ⊥
IsOwn (stamps.Own own) o = (o.txn ≡ own.txn) × (o.writes ≡ own.writes)

-- the slot of a key, or one in which nothing has stood
abbrev pub slot_at : Bytes → List (Bytes × Versions) → Versions
slot_at key es = unwrap_or (finite.find byte_order key es) no_versions

-- the slots with a version more in that of a key
abbrev pub with_slot : Stamp → Bytes → Option Fields → List (Bytes × Versions) → List (Bytes × Versions)
with_slot stamp key row es = finite.put byte_order key (put_version stamp row (slot_at key es)) es

-- A write of this stamp may come next. Those of commits come first, while no transaction has written.
pub record MayCome (n : ℕ) (x : KeyVersions) : Type 0 where
  pub versions : (key : Bytes) (j : ℕ) → HasVersion x key j → j ≤ n
  pub touched : (j : ℕ) → Contains x.touched j → j ≤ n
  pub none_own : (key : Bytes) (o : Own) → HasOwn x key o → ⊥

abbrev pub MayOwnCome : Own → KeyVersions → Type 0
MayOwnCome own x = (key : Bytes) (o : Own) → HasOwn x key o
    → (o.txn ≤ own.txn) × (o.txn ≡ own.txn → o.writes ≤ own.writes)

abbrev pub MayWrite : Stamp → KeyVersions → Type 0
MayWrite (stamps.Commit n) x = MayCome n x
MayWrite (stamps.Own own) x = MayOwnCome own x

-- what a write of a key leaves
pub record IsWritten (stamp : Stamp) (key : Bytes) (row : Option Fields) (old new : KeyVersions)
    : Type 0 where
  pub seen : (s : Sight)
      → pairs_seen s new.slots ≡ pairs_after (sees s stamp) key row (pairs_seen s old.slots)
  pub versions : (k : Bytes) (j : ℕ)
      → HasVersion new k j ↔ (HasVersion old k j ⊎ ((k ≡ key) × IsCommit stamp j))
  pub own : (k : Bytes) (o : Own)
      → HasOwn new k o ↔ (HasOwn old k o ⊎ ((k ≡ key) × IsOwn stamp o))
  pub touched : (j : ℕ) → Contains new.touched j ↔ (Contains old.touched j ⊎ IsCommit stamp j)
