-- Tests of watches by their places.
use Rattle.std.proofs.Common.{arith, ◌≡◌, refl, ap, subst, sym, ◌∙◌, ℕ, ◌+◌, ◌<◌, List, [], ◌∷◌, ◌++◌, length, get_or, set, Bool, true, false, not, inl, inr, Some, Result, Ok, Err, IfOk, OnOk}
use Rattle.std.specs.declared.alloc.AllocError.{AllocError}
use Rattle.std.specs.Bool.{Decides}
use Rattle.std.specs.Prelude.{nat_eq, slice_get}
use Rattle.std.proofs.lemmas.Bool.Decides.{nat_tests, not_from_Decides}
use Rattle.std.proofs.lemmas.Option.{get_or_from_slice_get, same_Some}
use Rattle.mdb_datum.specs.Bytes.{Bytes}
use Rattle.run_check.specs.declared.watching.Set.{Set}
use Rattle.run_check.specs.declared.watching.Watch.{Watch}
use Rattle.run_check.specs.inner.WatchView.{AreLike, AtBoth, IsAddedTo, IsNewSet, MayLeave, OneOf, ShareIndex, members_then}

-- a test of two watches decides the same of their places
pub both_decided : (Are : Watch → Watch → Type 0) (ws : List Watch) (i j : ℕ) (a b : Watch) (t : Bool) → slice_get ws i ≡ Some a → slice_get ws j ≡ Some b → Decides t (Are a b) → Decides t (AtBoth Are ws i j)
both_decided Are ws i j a b t first second decides = (λ e. (a, b, first, second, decides.0 e), back)
  where
    back : AtBoth Are ws i j → t ≡ true
    back (x, y, one, other, are) =
        let same : x ≡ a = same_Some x a (sym one ∙ first) in
        let like : y ≡ b = same_Some y b (sym other ∙ second) in
        decides.1 (subst (λ (z : Watch). Are a z) like (subst (λ (z : Watch). Are z y) same are))

-- where none of the places passes, the test of all fails
pub none_among : (Are : Watch → Watch → Type 0) (ws : List Watch) (places : List ℕ) (at : ℕ) → ((k : ℕ) → k < length places → AtBoth Are ws (get_or places k 0) at → ⊥) → Decides false (OneOf Are ws places at)
none_among Are ws places at none = (λ e. cc, back)
  where
    back : OneOf Are ws places at → false ≡ true
    back (k, within, are) = absurd (none k within are)

-- a set that grows, and one that doesn't
opposite : {P : Type 0} (t : Bool) → Decides t P → (P → ⊥) → not t ≡ true
opposite true decides other = absurd (other (decides.0 refl))
opposite false decides other = refl

was_false : (t : Bool) → not t ≡ true → t ≡ false
was_false true e = cc
was_false false e = refl

pub leaves_grown : (ws : List Watch) (s : Set) (at size : ℕ) (t : Bool) → nat_eq size (length s.members.items + 1) ≡ true → Decides t (OneOf AreLike ws s.added.items at) → Decides (not t) (MayLeave ws s at size)
leaves_grown ws s at size t grows decides =
    let more : size ≡ length s.members.items + 1 = grind (arith, nat_tests, grows) in
    (λ e. inl (more, not_from_Decides t decides (was_false t e)), back more)
  where
    back : size ≡ length s.members.items + 1 → MayLeave ws s at size → not t ≡ true
    back more (inl may) = opposite t decides may.1
    back more (inr may) = let same = may.0 in absurd (omega (arith, more, same))

pub leaves_same : (ws : List Watch) (s : Set) (at size : ℕ) (t : Bool) → size ≡ length s.members.items → Decides t (OneOf ShareIndex ws s.members.items at) → Decides t (MayLeave ws s at size)
leaves_same ws s at size t same decides = (λ e. inr (same, decides.0 e), back)
  where
    back : MayLeave ws s at size → t ≡ true
    back (inl may) = let more = may.0 in absurd (omega (arith, more, same))
    back (inr may) = decides.1 may.1

-- ---- a set among others

-- what stands at a place is the set there
set_is : (sets : List Set) (k : ℕ) (x s : Set) → x ≡ get_or sets k x → slice_get sets k ≡ Some s → x ≡ s
set_is sets k x s is there = is ∙ get_or_from_slice_get sets k s x there

pub told_there : (ws : List Watch) (sets : List Set) (k at size : ℕ) (x : Set) (r : Result Bool AllocError) → x ≡ get_or sets k x → IfOk r (λ told. Decides told (MayLeave ws x at size)) → IfOk r (λ told. (s : Set) → slice_get sets k ≡ Some s → Decides told (MayLeave ws s at size))
told_there ws sets k at size x (Err e) is told = tt
told_there ws sets k at size x (Ok t) is told = λ s there.
    subst (λ (y : Set). Decides t (MayLeave ws y at size)) (set_is sets k x s is there) told

pub added_there : (sets : List Set) (k at size : ℕ) (x new : Set) (r : Result Bool AllocError) → x ≡ get_or sets k x → OnOk r (new.members.items ≡ members_then x.members.items at size) → OnOk r (new.added.items ≡ x.added.items ++ at ∷ []) → OnOk r ((s : Set) → slice_get sets k ≡ Some s → IsAddedTo s at size sets k (set sets k new))
added_there sets k at size x new (Err e) is members added = tt
added_there sets k at size x new (Ok t) is members added = λ s there.
    let same = set_is sets k x s is there in
    record {
      set = new;
      kept = refl;
      members = members ∙ ap (λ (y : Set). members_then y.members.items at size) same;
      added = added ∙ ap (λ (y : Set). y.added.items ++ at ∷ []) same;
    }

pub set_made : (P : Type 0) (r : Result ℕ AllocError) (name : Bytes) (old_names names : List Bytes) (old new : List Set) (s : Set) → s.members.items ≡ [] → s.added.items ≡ [] → OnOk r (names ≡ old_names ++ name ∷ []) → OnOk r (new ≡ old ++ s ∷ []) → OnOk r (P → IsNewSet name old_names old names new)
set_made P (Err e) name old_names names old new s members added named kept = tt
set_made P (Ok at) name old_names names old new s members added named kept = λ none.
    record { set = s; named = named; kept = kept; members = members; added = added }
