-- What two sights see alike.
use Rattle.std.proofs.Common.{◌≡◌, ◌<◌, ◌≤◌, ◌∙◌, ◌+◌, ◌++◌, ◌&&◌, ℕ, List, [], ◌∷◌, Bool, true, false, Option, Some, None, nat_eq, nat_le, nat_lt, Contains, refl, ap, arith}
use Rattle.std.specs.Prelude.{if◌then◌else◌}
use Rattle.std.proofs.lemmas.Bool.Decides.{nat_tests}
use Rattle.mdb_datum.specs.Bytes.{Bytes}
use Rattle.mdb_datum.specs.Row.{Fields}
use Rattle.mdb_schema.proofs.Membership.{Contains-first, Contains-later}
use Rattle.run_check.specs.declared.sight.Own.{Own}
use Rattle.run_check.specs.declared.sight.Sight.{Sight}
use Rattle.run_check.specs.declared.slot.OwnVersion as own_version
use Rattle.run_check.specs.declared.slot.Version as version
use Rattle.run_check.specs.inner.IndexView.{pair_seen, pairs_seen}
use Rattle.run_check.specs.inner.SlotView.{Versions, is_of, latest, own_row, row_after, row_or, row_seen}

-- the same commits are seen of some versions
pub row_after_same : (n m : ℕ) (was : Option Fields) (vs : List version.Version) → ((v : version.Version) → Contains vs v → nat_le v.commit n ≡ nat_le v.commit m) → row_after n was vs ≡ row_after m was vs
row_after_same n m was [] same = refl
row_after_same n m was (v ∷ vs) same =
    ap (λ (b : Bool). if b then row_after n v.row vs else was) (same v (Contains-first v vs))
    ∙ ap (λ (o : Option Fields). if nat_le v.commit m then o else was) (row_after_same n m v.row vs (λ u h. same u (Contains-later v vs u h)))

-- and so of a transaction's writes
latest_same : (a b : Own) (was : Option own_version.OwnVersion) (vs : List own_version.OwnVersion) → ((v : own_version.OwnVersion) → Contains vs v → is_of a v ≡ is_of b v) → latest a was vs ≡ latest b was vs
latest_same a b was [] same = refl
latest_same a b was (v ∷ vs) same =
    ap (λ (c : Bool). latest a (if c then Some v else was) vs) (same v (Contains-first v vs))
    ∙ latest_same a b (if is_of b v then Some v else was) vs (λ u h. same u (Contains-later v vs u h))

pub own_row_same : (a b : Own) (was : Option Fields) (vs : List own_version.OwnVersion) → ((v : own_version.OwnVersion) → Contains vs v → is_of a v ≡ is_of b v) → own_row (Some a) was vs ≡ own_row (Some b) was vs
own_row_same a b was vs same = ap (row_or was) (latest_same a b None vs same)

pub pairs_same : (s r : Sight) (es : List (Bytes × Versions)) → ((e : Bytes × Versions) → Contains es e → row_seen s e.1 ≡ row_seen r e.1) → pairs_seen s es ≡ pairs_seen r es
pairs_same s r [] same = refl
pairs_same s r (e ∷ es) same =
    let first = ap (pair_seen e.0) (same e (Contains-first e es)) in
    let rest = pairs_same s r es (λ f h. same f (Contains-later e es f h)) in
    λ j. first j ++ rest j

-- a commit that both see
pub both_see : (k n m : ℕ) → k ≤ n → k ≤ m → nat_le k n ≡ nat_le k m
both_see k n m first second = grind (arith, nat_tests)

-- a write before the last one
pub before_last : (txn len : ℕ) (v : own_version.OwnVersion) → (v.txn ≡ txn → v.write < len) → is_of (record { txn = txn; writes = len + 1 }) v ≡ is_of (record { txn = txn; writes = len }) v
before_last txn len v below = of (nat_eq v.txn txn) refl
  where
    of : (b : Bool) → nat_eq v.txn txn ≡ b → (b && nat_lt v.write (len + 1)) ≡ (b && nat_lt v.write len)
    of false e = refl
    of true e = let same : v.txn ≡ txn = grind (arith, nat_tests) in let less = below same in let both : nat_lt v.write (len + 1) ≡ nat_lt v.write len = grind (arith, nat_tests) in ap (λ (c : Bool). true && c) both
