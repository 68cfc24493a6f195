-- Looking a key up in sorted entries finds the entry of that key, and there is one at most.
use Rattle.std.proofs.Common.{◌≡◌, ◌∙◌, List, [], ◌∷◌, Bool, true, false, cond, Some, Contains, Less, is_eq, refl, sym, ap, subst, inl, inr}
use Rattle.std.specs.FinMap.Entries as pairs
use Rattle.std.proofs.lemmas.Bool.{cond-true, cond-false, and_parts}
use Rattle.std.proofs.lemmas.Cmp.{nat_list_cmp_total, tied_itself}
use Rattle.mdb_datum.specs.Row.{Fields, Pair}
use Rattle.mdb_encode.specs.Bytes.{Bytes, byte_order}
use Rattle.mdb_schema.proofs.EntryEdits.{entry_at, AreSorted}
use Rattle.mdb_schema.proofs.Membership.{Contains-nil, Contains-first, Contains-later, Contains-cons_cases}
use Rattle.mdb_datum.proofs.ByteOrder.{less_from_is_lt, equal_from_is_eq, same_from_byte_order, turned}

-- a key is below that of each entry
below_each : (k : Bytes) (es : List Pair) (p : Pair) → pairs.below_all byte_order k es ≡ true → Contains es p → byte_order k p.0 ≡ Less
below_each k [] p low h = absurd (Contains-nil p h)
below_each k (e ∷ es) p low h = elim (Contains-cons_cases e es p h) [
  | inl same ↦ ap (λ (x : Pair). byte_order k x.0) (sym same) ∙ less_from_is_lt (byte_order k e.0) (and_parts _ _ low).0
  | inr within ↦ below_each k es p (and_parts _ _ low).1 within
]

pub Contains-entry_at : (q : Bytes) (es : List Pair) (r : Fields) → entry_at q es ≡ Some r → Contains es (q, r)
Contains-entry_at q [] r e = cc
Contains-entry_at q (p ∷ es) r e = of (is_eq (byte_order q p.0)) refl e (λ later. Contains-entry_at q es r later)
  where
    of : (b : Bool) → is_eq (byte_order q p.0) ≡ b → cond b (Some p.1) (entry_at q es) ≡ Some r → (entry_at q es ≡ Some r → Contains es (q, r)) → Contains (p ∷ es) (q, r)
    of true here e later =
        let key : q ≡ p.0 = same_from_byte_order q p.0 (equal_from_is_eq (byte_order q p.0) here) in
        let row : p.1 ≡ r = cc in
        let same : p ≡ (q, r) = λ i. (sym key i, row i) in
        subst (λ (x : Pair). Contains (p ∷ es) x) same (Contains-first p es)
    of false other e later = Contains-later p es (q, r) (later e)

pub entry_at-contains : (q : Bytes) (es : List Pair) (r : Fields) → AreSorted es → Contains es (q, r) → entry_at q es ≡ Some r
entry_at-contains q [] r sorted h = absurd (Contains-nil (q, r) h)
entry_at-contains q (p ∷ es) r sorted h = elim (Contains-cons_cases p es (q, r) h) [
  | inl same ↦
      ap (λ (x : Pair). entry_at q (x ∷ es)) same
      ∙ cond-true (is_eq (byte_order q q)) (Some r) (entry_at q es) (ap is_eq (tied_itself nat_list_cmp_total q))
  | inr within ↦
      cond-false (is_eq (byte_order q p.0)) (Some p.1) (entry_at q es) (ap is_eq (turned p.0 q Less (below_each p.0 es (q, r) (and_parts _ _ sorted).0 within)))
      ∙ entry_at-contains q es r (and_parts _ _ sorted).1 within
]

-- no two entries have one key
pub one_entry : (q : Bytes) (es : List Pair) (r s : Fields) → AreSorted es → Contains es (q, r) → Contains es (q, s) → r ≡ s
one_entry q es r s sorted h k =
    let e = sym (entry_at-contains q es r sorted h) ∙ entry_at-contains q es s sorted k in cc
