-- The first member of a set that bytes name, found among names by the places of the set's watches.
use Rattle.std.proofs.Common.{arith, ◌≡◌, refl, ap, subst, sym, ◌∙◌, ℕ, zero, suc, ◌<◌, List, [], ◌∷◌, length, get_or, Option, Some, None, option_map}
use Rattle.std.specs.Prelude.{filter_map, option_and_then, slice_get}
use Rattle.std.specs.List.{cons_option}
use Rattle.std.proofs.lemmas.Option.{same_Some, slice_get-get_or, slice_get_within, get_or_from_slice_get}
use Rattle.mdb_datum.specs.Bytes.{Bytes}
use Rattle.client_script.specs.Client.{Watch}
use Rattle.run_check.specs.inner.Decided.{HasName, IsFirstNamed, NamesNone}
use Rattle.run_check.specs.inner.FirstNamed.{HasNameAt, IsFirst, NoneBefore}

-- ---- those at places, where each is there

-- each place is one of those of a list
abbrev pub AllWithin : ℕ → List ℕ → Type 0
AllWithin count places = (k at : ℕ) → slice_get places k ≡ Some at → at < count

not_none : {A : Type 0} (xs : List A) (i : ℕ) → i < length xs → slice_get xs i ≡ None → ⊥
not_none [] i within none = absurd (omega (arith, within))
not_none (x ∷ xs) zero within none = cc
not_none (x ∷ xs) (suc i) within none = not_none xs i (omega (arith, within)) none

pub kept_place : {A : Type 0} (xs : List A) (places : List ℕ) → AllWithin (length xs) places → (q : ℕ) → slice_get (filter_map (slice_get xs) places) q ≡ option_and_then (slice_get xs) (slice_get places q)
kept_place xs [] all q = refl
kept_place {A} xs (p ∷ ps) all q = of (slice_get xs p) refl q (λ k. kept_place xs ps (λ i at there. all (suc i) at there) k)
  where
    rest : List A
    rest = filter_map (slice_get xs) ps

    of : (o : Option A) → slice_get xs p ≡ o → (k : ℕ) → ((i : ℕ) → slice_get rest i ≡ option_and_then (slice_get xs) (slice_get ps i)) → slice_get (cons_option o rest) k ≡ option_and_then (slice_get xs) (slice_get (p ∷ ps) k)
    of None is k later = absurd (not_none xs p (all 0 p refl) is)
    of (Some x) is zero later = sym is
    of (Some x) is (suc k) later = later k

-- ---- their names

-- names are those of watches
abbrev pub AreNames : List Bytes → List Watch → Type 0
AreNames names ws = (k : ℕ) → slice_get names k ≡ option_map (λ (w : Watch). w.name) (slice_get ws k)

-- a member that bytes name has its name at its place
named_there : (names : List Bytes) (ws : List Watch) (places : List ℕ) (bs : Bytes) → AreNames names ws → AllWithin (length ws) places → (q : ℕ) (w : Watch) (after : Bytes) → slice_get (filter_map (slice_get ws) places) q ≡ Some w → HasName w.name bs after → (q < length places) × HasNameAt names bs (get_or places q 0)
named_there names ws places bs are all q w after there has = of (slice_get places q) refl (sym (kept_place ws places all q) ∙ there)
  where
    of : (o : Option ℕ) → slice_get places q ≡ o → option_and_then (slice_get ws) o ≡ Some w → (q < length places) × HasNameAt names bs (get_or places q 0)
    of None listed is = cc
    of (Some p) listed is =
        let at : p ≡ get_or places q 0 = sym (get_or_from_slice_get places q p 0 listed) in
        let name : slice_get names p ≡ Some w.name = are p ∙ ap (option_map (λ (x : Watch). x.name)) is in
        (slice_get_within places q p listed, subst (λ k. HasNameAt names bs k) at (w.name, after, name, has))

-- none of the members before a place is named, where no name of their places is
pub members_unnamed : (names : List Bytes) (ws : List Watch) (places : List ℕ) (bs : Bytes) (k : ℕ) → AreNames names ws → AllWithin (length ws) places → NoneBefore (HasNameAt names bs) places k → NamesNone (filter_map (slice_get ws) places) k bs
members_unnamed names ws places bs k are all none q w after below there has =
    none q below (named_there names ws places bs are all q w after there has).1

-- where none of their places' names is, no member is named
pub no_member_named : (names : List Bytes) (ws : List Watch) (places : List ℕ) (bs : Bytes) → AreNames names ws → AllWithin (length ws) places → IsFirst (HasNameAt names bs) places None → (q : ℕ) (w : Watch) (after : Bytes) → slice_get (filter_map (slice_get ws) places) q ≡ Some w → HasName w.name bs after → ⊥
no_member_named names ws places bs are all none q w after there has =
    let at = named_there names ws places bs are all q w after there has in
    none q at.0 at.1

-- where the name of one of their places is the first, its watch is the first that is named
pub record IsFound (names : List Bytes) (ws : List Watch) (places : List ℕ) (bs : Bytes) (k : ℕ) : Type 0 where
  pub member : Watch
  pub after : Bytes
  pub there : slice_get ws (get_or places k 0) ≡ Some member
  pub first : IsFirstNamed (filter_map (slice_get ws) places) bs after k member

pub first_member : (names : List Bytes) (ws : List Watch) (places : List ℕ) (bs : Bytes) (k : ℕ) → AreNames names ws → AllWithin (length ws) places → IsFirst (HasNameAt names bs) places (Some k) → IsFound names ws places bs k
first_member names ws places bs k are all (within, (name, after, there, has), before) = of (slice_get ws at) refl (sym (are at) ∙ there)
  where
    at : ℕ
    at = get_or places k 0

    of : (o : Option Watch) → slice_get ws at ≡ o → option_map (λ (w : Watch). w.name) o ≡ Some name → IsFound names ws places bs k
    of None is named = cc
    of (Some w) is named =
        let same : name ≡ w.name = sym (same_Some w.name name named) in
        let listed : slice_get places k ≡ Some at = slice_get-get_or places k 0 within in
        record {
          member = w;
          after = after;
          there = is;
          first = record {
            there = kept_place ws places all k ∙ ap (option_and_then (slice_get ws)) listed ∙ is;
            name = subst (λ (n : Bytes). HasName n bs after) same has;
            none_before = members_unnamed names ws places bs k are all before;
          };
        }
