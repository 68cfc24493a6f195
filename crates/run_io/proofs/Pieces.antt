-- A file that is read by pieces, and a text that is written by pieces.
use Rattle.std.proofs.Common.{arith, ◌≡◌, refl, ap, sym, ◌∙◌, ℕ, ◌+◌, ◌-◌, ◌<◌, ◌≤◌, [], ◌++◌, length, take, drop, append_assoc, subst, length-append, length-take-le, length-drop, take-add, take_all, option_map}
use Rattle.std.specs.Prelude.{Option, Some, None, IfSome, Ok}
use Rattle.std.proofs.lemmas.List.{append-nil, take_rest}
use Rattle.mdb_datum.specs.Bytes.{Bytes}
use Rattle.mdb_ports.specs.Files.{Contents, Fetched, Fetches}
use Rattle.mdb_ports.specs.Sink.{Grows}
use Rattle.run_io.specs.Observed.{IsWholeWithin, IsPast}

-- the bytes are the front of the file of this name, where there is one
pub record IsFront (files : Contents) (name bytes : Bytes) : Type 0 where
  pub front : (file : Bytes) → files name ≡ Some file → bytes ≡ take (length bytes) file

-- there is one file of a name
fetched_of : (files : Contents) (name file bytes buffer : Bytes) (n : ℕ) → files name ≡ Some file
    → (x : Bytes) × (files name ≡ Some x) × Fetched x (length bytes) buffer n
    → Fetched file (length bytes) buffer n
fetched_of files name file bytes buffer n there got =
    let same : got.0 ≡ file = cc in
    let P : Bytes → Type 0 = λ f. Fetched f (length bytes) buffer n in
    subst P same got.2

grown_front : (bytes buffer file : Bytes) (n : ℕ) → bytes ≡ take (length bytes) file → Fetched file (length bytes) buffer n → n ≤ length buffer
    → bytes ++ take n buffer ≡ take (length (bytes ++ take n buffer)) file
grown_front bytes buffer file n front got within =
    let long : length (bytes ++ take n buffer) ≡ length bytes + n =
    length-append bytes (take n buffer) ∙ ap (λ k. length bytes + k) (length-take-le n buffer within) in
    let pieces : take (length bytes + n) file ≡ take (length bytes) file ++ take n (drop (length bytes) file) = take-add (length bytes) n file in
    let held : take n buffer ≡ take n (drop (length bytes) file) = got.held in
    rw long (rw pieces (rw (← held) (ap (λ x. x ++ take n buffer) front)))

-- the fetched piece and what came before are a front again
pub front_grown : (told : Option Contents) (name bytes buffer : Bytes) (n : ℕ)
    → IfSome told (λ files. IsFront files name bytes)
    → Fetches told name (length bytes) buffer (Ok n)
    → n ≤ length buffer
    → IfSome told (λ files. IsFront files name (bytes ++ take n buffer))
front_grown None name bytes buffer n before got within = tt
front_grown (Some files) name bytes buffer n before got within =
    record { front = λ file there. grown_front bytes buffer file n (before.front file there) (fetched_of files name file bytes buffer n there got) within }

-- the same, for what the files tell after the call, and for what was made of the two
pub front_next : (told later : Option Contents) (name bytes next buffer : Bytes) (n : ℕ)
    → later ≡ told
    → next ≡ bytes ++ take n buffer
    → IfSome told (λ files. IsFront files name bytes)
    → Fetches told name (length bytes) buffer (Ok n)
    → n ≤ length buffer
    → IfSome later (λ files. IsFront files name next)
front_next told later name bytes next buffer n same made before got within =
    rw (same, made) (front_grown told name bytes buffer n before got within)

-- where nothing is left, the front is the whole file
pub front_whole : (limit : ℕ) (told : Option Contents) (name bytes buffer : Bytes) (n : ℕ)
    → IfSome told (λ files. IsFront files name bytes)
    → Fetches told name (length bytes) buffer (Ok n)
    → n ≡ 0
    → length bytes ≤ limit
    → IsWholeWithin limit told name bytes
front_whole limit None name bytes buffer n before got none fits = record { there = tt; fits = fits }
front_whole limit (Some files) name bytes buffer n before got none fits =
    let past : length got.0 ≤ length bytes = got.2.at_end.0 none in
    let same : bytes ≡ got.0 = before.front got.0 got.1 ∙ take_all (length bytes) got.0 past in
    record { there = got.1 ∙ ap Some (sym same); fits = fits }

-- a piece that passes the limit shows a file that is too large
pub front_too_large : (limit : ℕ) (told : Option Contents) (name bytes buffer : Bytes) (n : ℕ)
    → Fetches told name (length bytes) buffer (Ok n)
    → n ≤ length buffer
    → limit - length bytes < n
    → IsPast limit told name
front_too_large limit None name bytes buffer n got within past =
    record { bytes = bytes ++ take n buffer; there = tt; longer = omega (arith, length-append bytes (take n buffer), length-take-le n buffer within) }
front_too_large limit (Some files) name bytes buffer n got within past =
    record { bytes = got.0; there = got.1; longer = omega (arith, got.2.there, length-drop (length bytes) got.0) }

pub grows_nothing : (told : Option Bytes) → Grows told told []
grows_nothing None = refl
grows_nothing (Some bytes) = ap Some (sym (append-nil bytes))

-- a sink that grew twice grew by both pieces
pub grows_append : (first second third : Option Bytes) (x y : Bytes) → Grows first second x → Grows second third y → Grows first third (x ++ y)
grows_append None second third x y p q = q ∙ ap (option_map (λ bytes. bytes ++ y)) p
grows_append (Some bytes) second third x y p q =
    q ∙ ap (option_map (λ bytes. bytes ++ y)) p ∙ ap Some (append_assoc bytes x y)

-- what is left of a text after a front of it, as a slice is read
abbrev rest_of : Bytes → ℕ → Bytes
rest_of text at = take (length text - at) (drop at text)

-- the next piece of a text after a front of it
pub grows_front : (first second third : Option Bytes) (text : Bytes) (at n : ℕ)
    → Grows first second (take at text)
    → Grows second third (take n (rest_of text at))
    → Grows first third (take (at + n) text)
grows_front first second third text at n p q =
    let P : Bytes → Type 0 = λ rest. Grows second third (take n rest) in
    rw (take-add at n text) (grows_append first second third (take at text) (take n (drop at text)) p (subst P (take_rest text at) q))

pub front_within : (text : Bytes) (at n : ℕ) → at ≤ length text → n ≤ length (rest_of text at) → at + n ≤ length text
front_within text at n within fits =
    let P : Bytes → Type 0 = λ rest. n ≤ length rest in
    omega (arith, subst P (take_rest text at) fits, length-drop at text)

-- a piece that the limit allows keeps the bytes within it
pub fits_next : (limit : ℕ) (bytes next buffer : Bytes) (n : ℕ)
    → next ≡ bytes ++ take n buffer
    → length bytes ≤ limit
    → n ≤ length buffer
    → n ≤ limit - length bytes
    → length next ≤ limit
fits_next limit bytes next buffer n made fits within allowed =
    omega (arith, ap length made, length-append bytes (take n buffer), length-take-le n buffer within)
