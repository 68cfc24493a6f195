-- What has stood under a full key, as plain data: the versions of commits, and those of the writes of
-- transactions, each list in order.
use Rattle.std.specs.Prelude.{◌≡◌, ◌≤◌, ◌<◌, ◌||◌, ◌&&◌, ℕ, List, [], ◌∷◌, ◌++◌, Bool, Option, Some, None, if◌then◌else◌, nat_eq, nat_le, nat_lt, ⊤, Contains, refl}
use Rattle.std.specs.Coded.{Coded, code_by, coded×, coded_ℕ, coded_list, coded_option}
use Rattle.mdb_datum.specs.Codes.{fields_code}
use Rattle.mdb_datum.specs.Row.{Fields}
use Rattle.run_check.specs.declared.sight.Own.{Own}
use Rattle.run_check.specs.declared.sight.Sight.{Sight}
use Rattle.run_check.specs.declared.sight.Stamp.{Stamp}
use Rattle.run_check.specs.declared.sight.Stamp.TheVariants as stamps
use Rattle.run_check.specs.declared.slot.OwnVersion as own_version
use Rattle.run_check.specs.declared.slot.Version as version

-- what a slot is seen as
pub record Versions : Type 0 where
  pub commits : List version.Version
  pub own : List own_version.OwnVersion

-- nothing has stood there
abbrev pub no_versions : Versions
no_versions = record { commits = []; own = [] }

-- ---- what is seen

-- the row after so many commits, of versions that rise; `was` is the one before them
abbrev pub row_after : ℕ → Option Fields → List version.Version → Option Fields
row_after n was [] = was
row_after n was (v ∷ vs) = if nat_le v.commit n then row_after n v.row vs else was

-- a write is among the first of a transaction
abbrev pub is_of : Own → own_version.OwnVersion → Bool
is_of own v = nat_eq v.txn own.txn && nat_lt v.write own.writes

-- the last of these writes; `was` is one before them
abbrev pub latest : Own → Option own_version.OwnVersion → List own_version.OwnVersion → Option own_version.OwnVersion
latest own was [] = was
latest own was (v ∷ vs) = latest own (if is_of own v then Some v else was) vs

-- its row, or the one where no write of the transaction is
abbrev pub row_or : Option Fields → Option own_version.OwnVersion → Option Fields
row_or was None = was
row_or was (Some v) = v.row

abbrev pub own_row : Option Own → Option Fields → List own_version.OwnVersion → Option Fields
own_row None was vs = was
own_row (Some own) was vs = row_or was (latest own None vs)

-- the row that is seen
abbrev pub row_seen : Sight → Versions → Option Fields
row_seen s x = own_row s.own (row_after s.commits None x.commits) x.own

-- ---- the order of versions

-- each stands to the next one in this relation
abbrev pub Rises : {A : Type 0} → (A → A → Type 0) → List A → Type 0
Rises R [] = ⊤
Rises R (x ∷ []) = ⊤
Rises R (x ∷ y ∷ xs) = R x y × Rises R (y ∷ xs)

abbrev pub IsOlder : version.Version → version.Version → Type 0
IsOlder v w = v.commit < w.commit

abbrev pub CommitsRise : List version.Version → Type 0
CommitsRise vs = Rises IsOlder vs

-- writes rise by their transactions, and in each by their order; one may write a key twice
abbrev pub IsNotLater : own_version.OwnVersion → own_version.OwnVersion → Type 0
IsNotLater v w = (v.txn ≤ w.txn) × (v.txn ≡ w.txn → v.write ≤ w.write)

-- a write comes before the end of some writes, in the order of transactions
abbrev pub is_earlier : ℕ → ℕ → Own → Bool
is_earlier txn write own = nat_lt txn own.txn || (nat_eq txn own.txn && nat_lt write own.writes)

abbrev pub WritesRise : List own_version.OwnVersion → Type 0
WritesRise vs = Rises IsNotLater vs

-- both hold of each slot
pub record AreRising (vs : List version.Version) (own : List own_version.OwnVersion) : Type 0 where
  pub commits : CommitsRise vs
  pub writes : WritesRise own

-- ---- a write

-- a version of a commit, in the place of the last one where that is of the same commit
abbrev pub with_version : ℕ → Option Fields → List version.Version → List version.Version
with_version n row [] = record { commit = n; row = row } ∷ []
with_version n row (v ∷ []) =
    if nat_eq v.commit n then record { commit = n; row = row } ∷ []
    else v ∷ record { commit = n; row = row } ∷ []
with_version n row (v ∷ w ∷ vs) = v ∷ with_version n row (w ∷ vs)

-- a version of a transaction's write
abbrev pub own_version_of : Own → Option Fields → own_version.OwnVersion
own_version_of own row = record { txn = own.txn; write = own.writes; row = row }

-- what a write leaves
abbrev pub put_version : Stamp → Option Fields → Versions → Versions
put_version (stamps.Commit n) row x = record { commits = with_version n row x.commits; own = x.own }
put_version (stamps.Own own) row x =
    record { commits = x.commits; own = x.own ++ own_version_of own row ∷ [] }

-- no version is of a later write
abbrev pub IsLatest : Stamp → Versions → Type 0
IsLatest (stamps.Commit n) x = (v : version.Version) → Contains x.commits v → v.commit ≤ n
IsLatest (stamps.Own own) x = (v : own_version.OwnVersion) → Contains x.own v
    → IsNotLater v (own_version_of own None)

-- ---- what commits did

-- a commit wrote the key
abbrev pub IsVersionAt : Versions → ℕ → Type 0
IsVersionAt x j = (v : version.Version) × Contains x.commits v × (v.commit ≡ j)

-- a transaction's write did; it comes after those writes
abbrev pub IsOwnAt : Versions → Own → Type 0
IsOwnAt x o = (v : own_version.OwnVersion) × Contains x.own v × (v.txn ≡ o.txn) × (v.write ≡ o.writes)

-- one of the commits behind the first number, up to the second, wrote the key
abbrev pub IsWrittenIn : ℕ → ℕ → Versions → Type 0
IsWrittenIn after last x = (j : ℕ) × IsVersionAt x j × (after < j) × (j ≤ last)

-- the row is the same after each commit from the first number to the second
abbrev pub IsSame : ℕ → ℕ → Versions → Type 0
IsSame first last x =
    (j : ℕ) → first ≤ j → j ≤ last → row_after j None x.commits ≡ row_after first None x.commits

-- ---- how the logic stores them

abbrev pub row_code : Coded (Option Fields)
row_code = coded_option fields_code

abbrev pub version_code : Coded version.Version
version_code = code_by (ℕ × Option Fields) (coded× coded_ℕ row_code) (λ v. (v.commit, v.row))
    (λ p. record { commit = p.0; row = p.1 }) (λ _. refl)

abbrev pub own_version_code : Coded own_version.OwnVersion
own_version_code = code_by (ℕ × (ℕ × Option Fields)) (coded× coded_ℕ (coded× coded_ℕ row_code))
    (λ v. (v.txn, (v.write, v.row))) (λ p. record { txn = p.0; write = p.1.0; row = p.1.1 }) (λ _. refl)

abbrev pub versions_code : Coded Versions
versions_code = code_by (List version.Version × List own_version.OwnVersion)
    (coded× (coded_list version_code) (coded_list own_version_code)) (λ x. (x.commits, x.own))
    (λ p. record { commits = p.0; own = p.1 }) (λ _. refl)
