-- Files that are read one after the other.
use Rattle.std.proofs.Common.{arith, ◌≡◌, ◌<◌, refl, sym, ap, ◌∙◌, subst, ℕ, zero, suc, ◌+◌, List, [], ◌∷◌, ◌++◌, length, take, get_or, Err}
use Rattle.std.specs.Prelude.{Option, Bool, Result}
use Rattle.std.proofs.lemmas.List.{take_more}
use Rattle.mdb_datum.specs.Bytes.{Bytes}
use Rattle.mdb_ports.specs.Files.{Contents}
use Rattle.run_io.specs.Observed.{Observed, observed, IsWhole, AreWhole, IsReached}
use Rattle.run_io.specs.declared.load_error.LoadError.{LoadError}
use Rattle.run_io.specs.declared.load_error.LoadError.TheVariants.{Memory, Read, TooLarge, Schema, Script}
use Rattle.run_io.specs.inner.Reading.{Reads}

-- one more file is whole
pub whole_push : (told : Option Contents) (names contents : List Bytes) (name bytes : Bytes) → AreWhole told names contents → IsWhole told name bytes → AreWhole told (names ++ name ∷ []) (contents ++ bytes ∷ [])
whole_push told [] [] name bytes w h = (h, tt)
whole_push told [] (x ∷ xs) name bytes w h = absurd w
whole_push told (n ∷ ns) [] name bytes w h = absurd w
whole_push told (n ∷ ns) (x ∷ xs) name bytes w h = (w.0, whole_push told ns xs name bytes w.1 h)

-- the same, for what the files tell after the call, and for what was made of the two
pub whole_next : (told later : Option Contents) (names contents next : List Bytes) (i : ℕ) (name bytes : Bytes) → later ≡ told → i < length names → name ≡ get_or names i name → next ≡ contents ++ bytes ∷ [] →
    AreWhole told (take i names) contents → IsWhole told name bytes → AreWhole later (take (i + 1) names) next
whole_next told later names contents next i name bytes same there is made w h =
    let more : take (i + 1) names ≡ take i names ++ name ∷ [] = take_more names i name there ∙ ap (λ n. take i names ++ n ∷ []) (sym is) in
    rw (same, more, made) (whole_push told (take i names) contents name bytes w h)

-- the file at a place is reached where those before it are whole
pub reached_at : (told : Option Contents) (names contents : List Bytes) (i : ℕ) (name : Bytes) → i < length names → name ≡ get_or names i name → AreWhole told (take i names) contents → IsReached told names i name
reached_at told [] contents i name there is w = absurd (omega arith)
reached_at told (n ∷ ns) contents zero name there is w = is
reached_at told (n ∷ ns) [] (suc i) name there is w = absurd w
reached_at told (n ∷ ns) (x ∷ xs) (suc i) name there is w = (x, w.0, reached_at told ns xs i name (omega arith) is w.1)

-- of one file only itself is reached
one_reached : (told : Option Contents) (name m : Bytes) (at : ℕ) → IsReached told (name ∷ []) at m → (at ≡ 0) × (m ≡ name)
one_reached told name m zero r = (refl, r)
one_reached told name m (suc at) r = absurd r.2

-- what the reading comes to where the files and their count of faults are still those of the
-- beginning
pub reads_since : {T : Type 0} (contents : T → List Bytes) (told told' : Option Contents) (reliable reliable' : Bool) (before before' now first : ℕ) (names : List Bytes) (r : Result T LoadError) →
    told' ≡ told → reliable' ≡ reliable → before' ≡ before →
    Reads contents (observed told' reliable' before' now) first names r → Reads contents (observed told reliable before now) first names r
reads_since contents told told' reliable reliable' before before' now first names r e f g h =
    subst (λ (t : Option Contents). Reads contents (observed t reliable before now) first names r) e
    (subst (λ (b : Bool). Reads contents (observed told' b before now) first names r) f
    (subst (λ (n : ℕ). Reads contents (observed told' reliable' n now) first names r) g h))

-- the reading of several files ends where that of one of them does
pub reads_stopped : {T U : Type 0} (one : T → List Bytes) (all : U → List Bytes) (seen : Observed) (first : ℕ) (names contents : List Bytes) (i file : ℕ) (name : Bytes) (e : LoadError) →
    i < length names → name ≡ get_or names i name → AreWhole seen.told (take i names) contents → file ≡ first + i →
    Reads one seen file (name ∷ []) (Err e) → Reads all seen first names (Err e)
reads_stopped one all seen first names contents i file name e there is w numbered h = by_error e h
  where
    moved : (at : ℕ) (m : Bytes) → IsReached seen.told (name ∷ []) at m → IsReached seen.told names i m
    moved at m r = subst (λ (x : Bytes). IsReached seen.told names i x) (sym (one_reached seen.told name m at r).1) (reached_at seen.told names contents i name there is w)

    placed : (f at : ℕ) (m : Bytes) → f ≡ file + at → IsReached seen.told (name ∷ []) at m → f ≡ first + i
    placed f at m same r = let here = (one_reached seen.told name m at r).0 in omega (arith, same, here, numbered)

    by_error : (e : LoadError) → Reads one seen file (name ∷ []) (Err e) → Reads all seen first names (Err e)
    by_error Memory h = h
    by_error (Read f) h = (i, placed f h.0 h.2.name h.1 h.2.reached, record { name = h.2.name; reached = moved h.0 h.2.name h.2.reached; rose = h.2.rose; absent = h.2.absent })
    by_error (TooLarge f) h = (i, placed f h.0 h.2.name h.1 h.2.reached, record { name = h.2.name; reached = moved h.0 h.2.name h.2.reached; large = h.2.large; no_fault = h.2.no_fault })
    by_error (Schema e) h = absurd h
    by_error (Script client e) h = absurd h

-- and where it does behind one that is whole
pub reads_later : {T U : Type 0} (rest : T → List Bytes) (all : U → List Bytes) (seen : Observed) (first : ℕ) (names : List Bytes) (name bytes : Bytes) (e : LoadError) →
    IsWhole seen.told name bytes → Reads rest seen (first + 1) names (Err e) → Reads all seen first (name ∷ names) (Err e)
reads_later rest all seen first names name bytes Memory w h = h
reads_later rest all seen first names name bytes (Read f) w h = (suc h.0, omega (arith, h.1), record { name = h.2.name; reached = (bytes, w, h.2.reached); rose = h.2.rose; absent = h.2.absent })
reads_later rest all seen first names name bytes (TooLarge f) w h = (suc h.0, omega (arith, h.1), record { name = h.2.name; reached = (bytes, w, h.2.reached); large = h.2.large; no_fault = h.2.no_fault })
reads_later rest all seen first names name bytes (Schema e) w h = absurd h
reads_later rest all seen first names name bytes (Script client e) w h = absurd h
