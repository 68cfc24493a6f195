-- Files that are read in an order: each is whole up to the first that isn't, and that one is known.
use Rattle.std.proofs.Common.{arith, ◌≡◌, ◌≤◌, ◌∙◌, refl, sym, ap, subst, ℕ, zero, suc, List, [], ◌∷◌, length, Option, Some, None, slice_get}
use Rattle.std.specs.Prelude.{IfSome, IsSome}
use Rattle.mdb_datum.specs.Bytes.{Bytes}
use Rattle.mdb_ports.specs.Files.{Contents}
use Rattle.run_io.specs.Observed.{IsWhole, IsWholeWithin, IsPast, IsAbsent, AreWhole, IsReached}

-- no bytes are the whole file of this name
abbrev pub IsNotWithin : ℕ → Option Contents → Bytes → Type 0
IsNotWithin limit told name = (bytes : Bytes) → IsWholeWithin limit told name bytes → ⊥

abbrev pub IsNotWhole : Option Contents → Bytes → Type 0
IsNotWhole told name = (bytes : Bytes) → IsWhole told name bytes → ⊥

-- ---- one file

-- where the files are told, a file has one content
pub whole_once : {limit : ℕ} (told : Option Contents) (name a b : Bytes) → IsSome told → IsWholeWithin limit told name a → IsWholeWithin limit told name b → a ≡ b
whole_once None name a b h w v = cc
whole_once (Some files) name a b h w v = let e : Some a ≡ Some b = sym w.there ∙ v.there in cc

pub large_not_whole : {limit : ℕ} (told : Option Contents) (name : Bytes) → IsSome told → IsPast limit told name → IsNotWithin limit told name
large_not_whole None name h l bytes w = cc
large_not_whole {limit} (Some files) name h l bytes w =
    let e : Some l.bytes ≡ Some bytes = sym l.there ∙ w.there in
    let same : l.bytes ≡ bytes = cc in
    let short : length l.bytes ≤ limit = subst (λ (b : Bytes). length b ≤ limit) (sym same) w.fits in
    omega (arith, l.longer, short)

pub absent_not_whole : {limit : ℕ} (told : Option Contents) (name : Bytes) → IsAbsent told name → IsNotWithin limit told name
absent_not_whole told name a bytes w =
    let there : a.files name ≡ Some bytes = subst (λ (t : Option Contents). IfSome t (λ files. files name ≡ Some bytes)) a.tells w.there in
    let h : None ≡ Some bytes = sym a.none ∙ there in
    cc

pub absent_not_large : {limit : ℕ} (told : Option Contents) (name : Bytes) → IsAbsent told name → IsPast limit told name → ⊥
absent_not_large told name a l =
    let there : a.files name ≡ Some l.bytes = subst (λ (t : Option Contents). IfSome t (λ files. files name ≡ Some l.bytes)) a.tells l.there in
    let h : None ≡ Some l.bytes = sym a.none ∙ there in
    cc

pub absent_where_told : (told : Option Contents) (name : Bytes) → IsSome told → IfSome told (λ files. files name ≡ None) → IsAbsent told name
absent_where_told None name h none = cc
absent_where_told (Some files) name h none = record { files = files; tells = refl; none = none }

-- ---- several, in order

pub contents_once : (told : Option Contents) (names a b : List Bytes) → IsSome told → AreWhole told names a → AreWhole told names b → a ≡ b
contents_once told [] [] [] h w v = refl
contents_once told [] [] (y ∷ ys) h w v = absurd v
contents_once told [] (x ∷ xs) b h w v = absurd w
contents_once told (n ∷ ns) [] b h w v = absurd w
contents_once told (n ∷ ns) (x ∷ xs) [] h w v = absurd v
contents_once told (n ∷ ns) (x ∷ xs) (y ∷ ys) h w v =
    let first = whole_once told n x y h w.0 v.0 in
    let rest = contents_once told ns xs ys h w.1 v.1 in
    λ i. first i ∷ rest i

-- where all are whole, so is each that is reached
pub reached_whole : (told : Option Contents) (names contents : List Bytes) (file : ℕ) (name : Bytes) → AreWhole told names contents → IsReached told names file name → IsNotWhole told name → ⊥
reached_whole told [] contents file name w r not = absurd r
reached_whole told (n ∷ ns) [] file name w r not = absurd w
reached_whole told (n ∷ ns) (x ∷ xs) zero name w r not = not x (subst (λ (m : Bytes). IsWhole told m x) (sym r) w.0)
reached_whole told (n ∷ ns) (x ∷ xs) (suc file) name w r not = reached_whole told ns xs file name w.1 r.2 not

-- only one that isn't whole is reached
pub reached_once : (told : Option Contents) (names : List Bytes) (i j : ℕ) (a b : Bytes) → IsReached told names i a → IsReached told names j b → IsNotWhole told a → IsNotWhole told b → (i ≡ j) × (a ≡ b)
reached_once told [] i j a b r s p q = absurd r
reached_once told (n ∷ ns) zero zero a b r s p q = (refl, r ∙ sym s)
reached_once told (n ∷ ns) zero (suc j) a b r s p q = absurd (p s.0 (subst (λ (m : Bytes). IsWhole told m s.0) (sym r) s.1))
reached_once told (n ∷ ns) (suc i) zero a b r s p q = absurd (q r.0 (subst (λ (m : Bytes). IsWhole told m r.0) (sym s) r.1))
reached_once told (n ∷ ns) (suc i) (suc j) a b r s p q = let rest = reached_once told ns i j a b r.2 s.2 p q in (ap suc rest.0, rest.1)

-- a file that is reached has its name at its place
pub reached_there : (told : Option Contents) (names : List Bytes) (file : ℕ) (name : Bytes) → IsReached told names file name → slice_get names file ≡ Some name
reached_there told [] file name r = absurd r
reached_there told (n ∷ ns) zero name r = ap Some (sym r)
reached_there told (n ∷ ns) (suc file) name r = reached_there told ns file name r.2
