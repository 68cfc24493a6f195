-- Scripts that are read one after the other, and answers that are handed on.
use Rattle.std.proofs.Common.{◌≡◌, ◌<◌, ◌∙◌, refl, sym, ap, subst, ℕ, ◌+◌, List, [], ◌∷◌, ◌++◌, length, get_or, drop, drop-cons, suc, add-one, append_assoc, arith, slice_get, None, Ok, Err}
use Rattle.std.specs.Prelude.{Result}
use Rattle.client_script.specs.Script.{script_in}
use Rattle.client_script.specs.declared.line.Line.{Line}
use Rattle.mdb_datum.specs.Bytes.{Bytes}
use Rattle.mdb_schema.specs.Tests.{◌>>=◌}
use Rattle.run_io.specs.Inputs.{script_answer, scripts_in}
use Rattle.run_io.specs.declared.load_error.LoadError.{LoadError}
use Rattle.run_io.specs.declared.load_error.LoadError.TheVariants.{Memory, Read, TooLarge, Schema, Script}
use Rattle.run_io.specs.inner.ReadingResult.{IsReadingResult}

-- an error is the answer to all that begins with what gave it
pub answers_stopped : {A B : Type 0} (told : Result A LoadError) (next : A → Result B LoadError) (e : LoadError) → IsReadingResult told (Err e) → IsReadingResult (told >>= next) (Err e)
answers_stopped told next Memory h = h
answers_stopped told next (Read file) h = absurd h
answers_stopped told next (TooLarge file) h = absurd h
answers_stopped told next (Schema e) h = ap (λ r. r >>= next) h
answers_stopped told next (Script client e) h = ap (λ r. r >>= next) h

-- the same, for what is known to be such an answer
pub answers_as : {A : Type 0} (a b : Result A LoadError) (r : Result A LoadError) → a ≡ b → IsReadingResult b r → IsReadingResult a r
answers_as {A} a b r same h = subst (λ (x : Result A LoadError). IsReadingResult x r) (sym same) h

-- ---- one after the other

-- the next item of a list
pub drop_next : {A : Type 0} (xs : List A) (i : ℕ) (x : A) → i < length xs → x ≡ get_or xs i x → drop i xs ≡ x ∷ drop (i + 1) xs
drop_next xs i x h is = rw (add-one, drop-cons xs i x) (ap (λ z. z ∷ drop (suc i) xs) (sym is))

-- scripts, and then those of the rest
abbrev pub put_scripts : List (List Line) → Result (List (List Line)) LoadError → Result (List (List Line)) LoadError
put_scripts first (Ok rest) = Ok (first ++ rest)
put_scripts first (Err e) = Err e

put_one : (script : List Line) (rest : Result (List (List Line)) LoadError) → (rest >>= (λ scripts. Ok (script ∷ scripts))) ≡ put_scripts (script ∷ []) rest
put_one script (Ok scripts) = refl
put_one script (Err e) = refl

put_more : (first : List (List Line)) (script : List Line) (rest : Result (List (List Line)) LoadError) → put_scripts first (put_scripts (script ∷ []) rest) ≡ put_scripts (first ++ script ∷ []) rest
put_more first script (Ok scripts) = ap Ok (sym (append_assoc first (script ∷ []) scripts))
put_more first script (Err e) = refl

-- one more script was read
pub scripts_more : (client : ℕ) (bytes : Bytes) (rest : List Bytes) (first : List (List Line)) (script : List Line) → script_answer client (script_in bytes) ≡ Ok script →
    put_scripts first (scripts_in client (bytes ∷ rest)) ≡ put_scripts (first ++ script ∷ []) (scripts_in (client + 1) rest)
scripts_more client bytes rest first script h =
    ap (λ (r : Result (List Line) LoadError). put_scripts first (r >>= (λ s. scripts_in (client + 1) rest >>= (λ ss. Ok (s ∷ ss))))) h
    ∙ ap (put_scripts first) (put_one script (scripts_in (client + 1) rest))
    ∙ put_more first script (scripts_in (client + 1) rest)

-- no script is left
pub none_left : {A : Type 0} (xs : List A) → slice_get xs 0 ≡ None → xs ≡ []
none_left [] h = refl
none_left (x ∷ xs) h = absurd (cc h)

-- ---- two lists of clients

-- the scripts of two lists of clients
abbrev pub both_scripts : Result (List (List Line)) LoadError → Result (List (List Line)) LoadError → Result (List (List Line)) LoadError
both_scripts (Ok first) rest = put_scripts first rest
both_scripts (Err e) rest = Err e

put_none : (rest : Result (List (List Line)) LoadError) → rest ≡ put_scripts [] rest
put_none (Ok scripts) = refl
put_none (Err e) = refl

both_more : (one : Result (List Line) LoadError) (front back : Result (List (List Line)) LoadError) →
    (one >>= (λ s. both_scripts front back >>= (λ ss. Ok (s ∷ ss)))) ≡ both_scripts (one >>= (λ s. front >>= (λ ss. Ok (s ∷ ss)))) back
both_more (Err e) front back = refl
both_more (Ok s) (Err e) back = refl
both_more (Ok s) (Ok ss) (Err e) = refl
both_more (Ok s) (Ok ss) (Ok more) = refl

-- clients that stand behind others are numbered on
pub scripts_both : (first : ℕ) (front back : List Bytes) →
    scripts_in first (front ++ back) ≡ both_scripts (scripts_in first front) (scripts_in (first + length front) back)
scripts_both first [] back =
    let number : first ≡ first + 0 = omega arith in
    subst (λ (k : ℕ). scripts_in first back ≡ put_scripts [] (scripts_in k back)) number (put_none (scripts_in first back))
scripts_both first (bytes ∷ front) back =
    let number : (first + 1) + length front ≡ first + suc (length front) = omega arith in
    let rest : scripts_in (first + 1) (front ++ back) ≡ both_scripts (scripts_in (first + 1) front) (scripts_in (first + suc (length front)) back) =
    subst (λ (k : ℕ). scripts_in (first + 1) (front ++ back) ≡ both_scripts (scripts_in (first + 1) front) (scripts_in k back)) number (scripts_both (first + 1) front back) in
    ap (λ (r : Result (List (List Line)) LoadError). script_answer first (script_in bytes) >>= (λ s. r >>= (λ ss. Ok (s ∷ ss)))) rest
    ∙ both_more (script_answer first (script_in bytes)) (scripts_in (first + 1) front) (scripts_in (first + suc (length front)) back)

both_stopped : (told more : Result (List (List Line)) LoadError) (e : LoadError) → IsReadingResult told (Err e) → IsReadingResult (both_scripts told more) (Err e)
both_stopped told more Memory h = h
both_stopped told more (Read file) h = absurd h
both_stopped told more (TooLarge file) h = absurd h
both_stopped told more (Schema e) h = ap (λ r. both_scripts r more) h
both_stopped told more (Script client e) h = ap (λ r. both_scripts r more) h

-- an error of the front is the answer to both
pub front_stops : (first : ℕ) (front back : List Bytes) (e : LoadError) → IsReadingResult (scripts_in first front) (Err e) → IsReadingResult (scripts_in first (front ++ back)) (Err e)
front_stops first front back e h = answers_as (scripts_in first (front ++ back)) (both_scripts (scripts_in first front) (scripts_in (first + length front) back)) (Err e) (scripts_both first front back) (both_stopped (scripts_in first front) (scripts_in (first + length front) back) e h)

put_stopped : (scripts : List (List Line)) (told : Result (List (List Line)) LoadError) (e : LoadError) → IsReadingResult told (Err e) → IsReadingResult (put_scripts scripts told) (Err e)
put_stopped scripts told Memory h = h
put_stopped scripts told (Read file) h = absurd h
put_stopped scripts told (TooLarge file) h = absurd h
put_stopped scripts told (Schema e) h = ap (put_scripts scripts) h
put_stopped scripts told (Script client e) h = ap (put_scripts scripts) h

-- and one of the back, where the front was read
pub back_stops : (first : ℕ) (front back : List Bytes) (scripts : List (List Line)) (e : LoadError) → scripts_in first front ≡ Ok scripts → IsReadingResult (scripts_in (first + length front) back) (Err e) → IsReadingResult (scripts_in first (front ++ back)) (Err e)
back_stops first front back scripts e read h =
    answers_as (scripts_in first (front ++ back)) (put_scripts scripts (scripts_in (first + length front) back)) (Err e) (scripts_both first front back ∙ ap (λ r. both_scripts r (scripts_in (first + length front) back)) read) (put_stopped scripts (scripts_in (first + length front) back) e h)

-- both were read
pub both_read : (first : ℕ) (front back : List Bytes) (scripts more : List (List Line)) → scripts_in first front ≡ Ok scripts → scripts_in (first + length front) back ≡ Ok more → scripts_in first (front ++ back) ≡ Ok (scripts ++ more)
both_read first front back scripts more read rest = scripts_both first front back ∙ ap (λ r. both_scripts r (scripts_in (first + length front) back)) read ∙ ap (put_scripts scripts) rest
