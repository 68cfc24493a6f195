-- The changes of tracked tables that a transaction ends with are those from the state on which it
-- stands.
use Rattle.std.proofs.Common.{◌≡◌, ◌∙◌, ◌+◌, ◌++◌, ℕ, suc, List, [], ◌∷◌, length, map, append-nil, append_assoc, Bool, true, false, refl, sym, ap, subst, arith}
use Rattle.std.specs.Prelude.{All, if◌then◌else◌}
use Rattle.std.proofs.lemmas.List.{length-map}
use Rattle.std.proofs.lemmas.List.Elements.{All-head, All-tail}
use Rattle.mdb_datum.specs.Row.{Fields}
use Rattle.mdb_schema.specs.LawfulSchema.{IsLawfulTable}
use Rattle.mdb_schema.specs.Net.{Change, Net, change_at, changes_from, changes_in, net}
use Rattle.mdb_schema.specs.Schema.{TableSchema}
use Rattle.mdb_schema.specs.State.{State}
use Rattle.mdb_schema.proofs.NetLaws.{net-same}
use Rattle.table_index.specs.Table.{TableChange, TableRows}
use Rattle.table_index.specs.Watched.{HoldsRows}
use Rattle.table_index.proofs.WatchedTables.{same_rows}
use Rattle.mem_txn.specs.inner.Ended.{AreNetsOf, AreTold, net_tracked, starts_of}
use Rattle.mem_txn.specs.inner.Steps.{tables_with}
use Rattle.mem_txn.specs.inner.VersionTables.{schemas_of, standing, state_of, unwritten}

-- ---- of one table

-- one that nobody has written to
pub nets_unwritten : (t : TableRows) → IsLawfulTable t.schema → HoldsRows t → AreNetsOf (unwritten t) []
nets_unwritten t table holds rows before = of t.schema.tracked
  where
    of : (b : Bool) → [] ≡ (if b then net t.schema rows t.rows else [])
    of true = sym (net-same t.schema rows t.rows before.rows.lawful.rising (same_rows t.schema t.trees rows t.rows table before.rows holds.rows))
    of false = refl

-- one whose change began with another's trees and ended with these rows
pub nets_since : (t : TableChange) (shared : TableRows) (nets : List Net) → IsLawfulTable shared.schema → HoldsRows shared → t.schema ≡ shared.schema → t.start ≡ shared.trees
    → nets ≡ net_tracked t.schema shared.rows t.rows → AreNetsOf t nets
nets_since t shared nets table holds schema start is rows before =
    let was : HoldsRows (record { schema = shared.schema; rows = rows; trees = shared.trees }) =
    subst HoldsRows (λ i. let r : TableRows = record { schema = schema i; rows = rows; trees = start i } in r) before in
    is ∙ ap (λ (old : List Fields). net_tracked t.schema old t.rows) (same_rows shared.schema shared.trees shared.rows rows table holds.rows was.rows)

-- ---- of the tables of a transaction

-- there are as many as changes that end with them
pub counted : (ts : List TableRows) (us : List TableChange) → ts ≡ map standing us → length ts ≡ length us
counted ts us is = ap length is ∙ length-map us standing

-- one more
pub told_more : (place : ℕ) (ts : List TableChange) (cs : List Change) (t : TableChange) (nets : List Net) → AreTold place ts cs → AreNetsOf t nets
    → AreTold place (ts ++ t ∷ []) (cs ++ map (change_at (place + length ts)) nets)
told_more place [] cs t nets none one =
    let here : place + 0 ≡ place = omega arith in (
      nets,
      [],
      one,
      refl,
      ap (λ (xs : List Change). xs ++ map (change_at (place + 0)) nets) none ∙ ap (λ (n : ℕ). map (change_at n) nets) here ∙ sym (append-nil (map (change_at place) nets)),
    )
told_more place (u ∷ ts) cs t nets all one =
    let first : List Change = map (change_at place) all.0 in
    let last : List Change = map (change_at (suc place + length ts)) nets in
    let next : place + suc (length ts) ≡ suc place + length ts = omega arith in (
      all.0,
      all.1 ++ last,
      all.2,
      told_more (suc place) ts all.1 t nets all.3 one,
      ap (λ (n : ℕ). cs ++ map (change_at n) nets) next ∙ ap (λ (xs : List Change). xs ++ last) all.4 ∙ append_assoc first all.1 last,
    )

-- the changes of a table at a place
told_in : (place : ℕ) (t : TableSchema) (old new : List Fields) (nets : List Net) → nets ≡ net_tracked t old new → map (change_at place) nets ≡ changes_in place t old new
told_in place t old new nets is = ap (map (change_at place)) is ∙ of t.tracked
  where
    of : (b : Bool) → map (change_at place) (if b then net t old new else []) ≡ (if b then map (change_at place) (net t old new) else [])
    of true = refl
    of false = refl

-- of all, where these are the rows before
pub told_changes : (place : ℕ) (ts : List TableChange) (s : State) (cs : List Change) → length s ≡ length ts → All HoldsRows (tables_with (schemas_of (map standing ts)) s (starts_of ts)) → AreTold place ts cs
    → cs ≡ changes_from place (schemas_of (map standing ts)) s (state_of (map standing ts))
told_changes place [] [] cs count held told = told
told_changes place [] (r ∷ s) cs count held told = cc
told_changes place (t ∷ ts) [] cs count held told = cc
told_changes place (t ∷ ts) (r ∷ s) cs count held told =
    let was : TableRows = record { schema = t.schema; rows = r; trees = t.start } in
    let others = tables_with (schemas_of (map standing ts)) s (starts_of ts) in
    let here = told_in place t.schema r t.rows told.0 (told.2 r (All-head HoldsRows was others held)) in
    let rest = told_changes (suc place) ts s told.1 (omega (arith, count)) (All-tail HoldsRows was others held) told.3 in
    told.4 ∙ (λ i. here i ++ rest i)
