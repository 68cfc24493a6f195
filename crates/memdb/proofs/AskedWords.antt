-- What is asked for, by words and by what clap found.
use Rattle.std.proofs.Common.{◌≡◌, ◌≤◌, ◌<◌, ◌==◌, ◌∙◌, inl, inr, lt-ltb, le-ltb, Bool, cond, true, false, refl, sym, ap, ap₂, subst, arith, List, [], ◌∷◌, ◌++◌, length, map, Option, Some, None, Result, Ok, Err, IfOk, nat_lt, codes}
use Rattle.std.proofs.lemmas.Bool.Decides.{nat_tests}
use Rattle.std.proofs.lemmas.List.{length-map, map-append}
use Rattle.std.specs.List.{list_all}
use Rattle.std.specs.Option.{IsSomeAnd, option_and_then, option_map}
use Rattle.std.specs.Prelude.{◌⊎◌, IfSome}
use Rattle.std.specs.Borrow.{Bor}
use Rattle.std.specs.Str.{bytes_eq}
use Rattle.std.proofs.lemmas.Slice.Eq.{bytes_eq-Decides}
use Rattle.clap.specs.Words.{Text, rows_of}
use Rattle.clap.specs.Matches.{first_value, matched_of, raw_values}
use Rattle.clap.proofs.WalkLemmas.{first_value-rows, raw_values-rows}
use Rattle.clap.specs.declared.parser.matches.Found.{Found}
use Rattle.memdb.specs.Made.{Numbers}
use Rattle.memdb.specs.Words.{Checked, check_behind, check_of, last_apart, make_of, number_in, numbers_behind, run_of}
use Rattle.memdb.specs.inner.CommandLine.{Asked, HasClients, asked_by, check_in, files, files_in, number_at, to_check, to_make, to_run}
use Rattle.memdb.specs.inner.CommandOf.{AreWords, IsCommandOf, asked_of}
use Rattle.memdb.specs.declared.words.Command.{Command}
use Rattle.memdb.specs.declared.words.Command.TheVariants.{Run, Make, Check}
use Rattle.run_io.specs.Named.{Named, files_behind, may_name_a_file}
use Rattle.memdb.proofs.PlainWords.{left, right}

-- a value that is there and is this one
pub some_is : {X : Type 0} (o : Option X) (x : X) → IsSomeAnd o (λ y. y ≡ x) → o ≡ Some x
some_is None x e = absurd e
some_is (Some y) x e = ap Some e

-- ---- what is read of the rows

-- the files, by what `get_str` and `get_strs` give
pub level_files : (f : Found) (s : Option Text) (cs : Option (List Text)) → s ≡ first_value f (codes "schema") → cs ≡ option_map raw_values (matched_of f (codes "clients"))
    → option_and_then (λ t. option_map (files t) cs) s ≡ files_in (rows_of f)
level_files f s cs a b = ap₂ (λ x y. option_and_then (λ t. option_map (files t) y) x) (a ∙ first_value-rows f (codes "schema")) (b ∙ raw_values-rows f (codes "clients"))

-- and there are so many clients
pub clients_found : (f : Found) (s : Text) (cs : List (Bor Text)) → Some s ≡ first_value f (codes "schema")
    → Some (map (λ v. v.now) cs) ≡ option_map raw_values (matched_of f (codes "clients")) → HasClients (option_map to_run (files_in (rows_of f)))
    → (1 ≤ length cs) × (length cs ≤ 64)
clients_found f s cs a b has =
    let here = subst HasClients (sym (ap (option_map to_run) (level_files f (Some s) (Some (map (λ v. v.now) cs)) a b))) has in
    subst (λ n. (1 ≤ n) × (n ≤ 64)) (length-map cs (λ v. v.now)) here

-- the files of a check, by what `get_strs` gives
pub level_check : (f : Found) (fs : Option (List Text)) → fs ≡ option_map raw_values (matched_of f (codes "files")) → option_and_then check_behind fs ≡ check_in (rows_of f)
level_check f fs a = ap (option_and_then check_behind) (a ∙ raw_values-rows f (codes "files"))

-- a number, by what `get_str` gives
pub level_number : (f : Found) (id : Text) (s : Option Text) → s ≡ first_value f id → option_and_then number_in s ≡ number_at id (rows_of f)
level_number f id s a = ap (option_and_then number_in) (a ∙ first_value-rows f id)

-- ---- how many clients there are

-- behind `run`
few_behind : (ws : List Text) → HasClients (option_map to_run (files_behind 64 ws))
few_behind [] = tt
few_behind (s ∷ []) = tt
few_behind (s ∷ c ∷ cs) = go (nat_lt 64 (length (c ∷ cs))) refl
  where
    go : (b : Bool) → nat_lt 64 (length (c ∷ cs)) ≡ b → HasClients (option_map to_run (cond b None (Some (files s (c ∷ cs)))))
    go true is = tt
    go false is = let few : length (c ∷ cs) ≤ 64 = grind (arith, nat_tests) in (omega arith, few)

-- the words before the last may name files where all may
front_plain : (ws : List Text) → list_all may_name_a_file ws ≡ true → IfSome {T = List Text × Text} (last_apart ws) (λ p. list_all may_name_a_file p.0 ≡ true)
front_plain [] e = tt
front_plain (w ∷ []) e = refl
front_plain (w ∷ v ∷ vs) e = go (last_apart (v ∷ vs)) (front_plain (v ∷ vs) (right (may_name_a_file w) _ e))
  where
    go : (o : Option (List Text × Text)) → IfSome {T = List Text × Text} o (λ p. list_all may_name_a_file p.0 ≡ true)
        → IfSome {T = List Text × Text} (option_map (λ p. (w ∷ p.0, p.1)) o) (λ p. list_all may_name_a_file p.0 ≡ true)
    go None h = tt
    go (Some p) h = rw (left (may_name_a_file w) _ e) h

-- the inputs of a check, and its output
abbrev pub with_output : Text → Option Named → Option Checked
with_output o inputs = option_map (λ n. record { inputs = n; output = o }) inputs

-- behind `check`
plain_behind : (ws : List Text) → list_all may_name_a_file ws ≡ true → HasClients (option_map to_check (check_behind ws))
plain_behind ws e = go (last_apart ws) (front_plain ws e)
  where
    of_files : (fs : List Text) (o : Text) → list_all may_name_a_file fs ≡ true → HasClients (option_map to_check (with_output o (files_behind 64 fs)))
    of_files [] o h = tt
    of_files (s ∷ []) o h = tt
    of_files (s ∷ c ∷ cs) o h = by_count (nat_lt 64 (length (c ∷ cs)))
      where
        by_count : (b : Bool) → HasClients (option_map to_check (with_output o (cond b None (Some (files s (c ∷ cs))))))
        by_count true = tt
        by_count false = right (may_name_a_file s) _ h

    go : (p : Option (List Text × Text)) → IfSome {T = List Text × Text} p (λ p. list_all may_name_a_file p.0 ≡ true)
        → HasClients (option_map to_check (option_and_then (λ p. with_output p.1 (files_behind 64 p.0)) p))
    go None h = tt
    go (Some p) h = of_files p.0 p.1 h

-- the last word is told apart from those before it
last_told : (front : List Text) (last : Text) → last_apart (front ++ last ∷ []) ≡ Some (front, last)
last_told [] last = refl
last_told (w ∷ []) last = refl
last_told (w ∷ v ∷ vs) last = ap (option_map (λ p. (w ∷ p.0, p.1))) (last_told (v ∷ vs) last)

-- so these are the files of a check
pub check_told : (words front : List (Bor Text)) (last : Bor Text) → words ≡ front ++ last ∷ []
    → check_behind (map (λ w. w.now) words) ≡ with_output last.now (files_behind 64 (map (λ w. w.now) front))
check_told words front last are =
    ap (λ (ws : List (Bor Text)). check_behind (map (λ w. w.now) ws)) are
    ∙ ap check_behind (map-append (λ w. w.now) front (last ∷ []))
    ∙ ap (option_and_then (λ p. with_output p.1 (files_behind 64 p.0))) (last_told (map (λ w. w.now) front) last.now)

-- where these are too few or too many there is none
pub no_check : (words front clients : List (Bor Text)) (schema last : Bor Text) → words ≡ front ++ last ∷ [] → front ≡ schema ∷ clients
    → ((length clients == 0) ≡ true) ⊎ (64 < length clients) → None ≡ option_map to_check (check_behind (map (λ w. w.now) words))
no_check words front clients schema last are begins count =
    sym (ap (option_map to_check) (check_told words front last are
    ∙ ap (with_output last.now) (ap (λ (fs : List (Bor Text)). files_behind 64 (map (λ w. w.now) fs)) begins ∙ none clients count)))
  where
    none : (cs : List (Bor Text)) → ((length cs == 0) ≡ true) ⊎ (64 < length cs) → files_behind 64 (schema.now ∷ map (λ w. w.now) cs) ≡ None
    none [] e = refl
    none (c ∷ cs) (inl empty) = let zero : length (c ∷ cs) ≡ 0 = grind (arith, nat_tests) in absurd (omega (arith, zero))
    none (c ∷ cs) (inr over) =
        let long = length-map cs (λ w. w.now) in
        let many : nat_lt 64 (length (c.now ∷ map (λ w. w.now) cs)) ≡ true = lt-ltb 64 (length (c.now ∷ map (λ w. w.now) cs)) (omega (arith, over, long)) in
        rw many refl

-- else there is one
pub some_check : (words front clients : List (Bor Text)) (schema last : Bor Text) → words ≡ front ++ last ∷ [] → front ≡ schema ∷ clients
    → 1 ≤ length clients → length clients ≤ 64
    → check_behind (map (λ w. w.now) words) ≡ Some (record { inputs = files schema.now (map (λ w. w.now) clients); output = last.now })
some_check words front clients schema last are begins some few =
    check_told words front last are
    ∙ ap (with_output last.now) (ap (λ (fs : List (Bor Text)). files_behind 64 (map (λ w. w.now) fs)) begins ∙ found clients some few)
  where
    found : (cs : List (Bor Text)) → 1 ≤ length cs → length cs ≤ 64 → files_behind 64 (schema.now ∷ map (λ w. w.now) cs) ≡ Some (files schema.now (map (λ w. w.now) cs))
    found [] some few = absurd (omega (arith, some))
    found (c ∷ cs) some few =
        let long = length-map cs (λ w. w.now) in
        let within : nat_lt 64 (length (c.now ∷ map (λ w. w.now) cs)) ≡ false = le-ltb 64 (length (c.now ∷ map (λ w. w.now) cs)) (omega (arith, few, long)) in
        rw within refl

-- in all words
pub has_clients : (ws : List Text) → list_all may_name_a_file ws ≡ true → HasClients (asked_by ws)
has_clients [] e = tt
has_clients (w ∷ ws) e = if_run (bytes_eq (codes "run") w) refl
  where
    made : (o : Option Numbers) → HasClients (option_map to_make o)
    made None = tt
    made (Some n) = tt

    if_check : (b : Bool) → HasClients (cond b (option_map to_check (check_behind ws)) None)
    if_check true = plain_behind ws (right (may_name_a_file w) _ e)
    if_check false = tt

    if_make : (b : Bool) → HasClients (cond b (option_map to_make (numbers_behind ws)) (cond (bytes_eq (codes "check") w) (option_map to_check (check_behind ws)) None))
    if_make true = made (numbers_behind ws)
    if_make false = if_check (bytes_eq (codes "check") w)

    if_run : (b : Bool) → bytes_eq (codes "run") w ≡ b → HasClients (asked_by (w ∷ ws))
    if_run true is = rw is (few_behind ws)
    if_run false is = rw is (if_make (bytes_eq (codes "make") w))

-- ---- the command that words are

-- what is asked for, by the three commands
abbrev pub run_part : Option Asked → Option Named
run_part (Some (to_run named)) = Some named
run_part (Some (to_make numbers)) = None
run_part (Some (to_check files)) = None
run_part None = None

abbrev pub make_part : Option Asked → Option Numbers
make_part (Some (to_run named)) = None
make_part (Some (to_make numbers)) = Some numbers
make_part (Some (to_check files)) = None
make_part None = None

abbrev pub check_part : Option Asked → Option Checked
check_part (Some (to_run named)) = None
check_part (Some (to_make numbers)) = None
check_part (Some (to_check files)) = Some files
check_part None = None

-- each of a command is that command's alone
record IsRunAlone (o : Option Named) : Type 0 where
  run : o ≡ run_part (option_map to_run o)
  make : None ≡ make_part (option_map to_run o)
  check : None ≡ check_part (option_map to_run o)

run_alone : (o : Option Named) → IsRunAlone o
run_alone None = record { run = refl; make = refl; check = refl }
run_alone (Some n) = record { run = refl; make = refl; check = refl }

record IsMakeAlone (o : Option Numbers) : Type 0 where
  run : None ≡ run_part (option_map to_make o)
  make : o ≡ make_part (option_map to_make o)
  check : None ≡ check_part (option_map to_make o)

make_alone : (o : Option Numbers) → IsMakeAlone o
make_alone None = record { run = refl; make = refl; check = refl }
make_alone (Some n) = record { run = refl; make = refl; check = refl }

record IsCheckAlone (o : Option Checked) : Type 0 where
  run : None ≡ run_part (option_map to_check o)
  make : None ≡ make_part (option_map to_check o)
  check : o ≡ check_part (option_map to_check o)

check_alone : (o : Option Checked) → IsCheckAlone o
check_alone None = record { run = refl; make = refl; check = refl }
check_alone (Some c) = record { run = refl; make = refl; check = refl }

-- the three definitions are the parts of what is asked for
record HasParts (ws : List Text) : Type 0 where
  run : run_of ws ≡ run_part (asked_by ws)
  make : make_of ws ≡ make_part (asked_by ws)
  check : check_of ws ≡ check_part (asked_by ws)

has_parts : (ws : List Text) → HasParts ws
has_parts [] = record { run = refl; make = refl; check = refl }
has_parts (w ∷ ws) = if_run (bytes_eq (codes "run") w) refl
  where
    if_check : bytes_eq (codes "run") w ≡ false → bytes_eq (codes "make") w ≡ false → (b : Bool) → bytes_eq (codes "check") w ≡ b → HasParts (w ∷ ws)
    if_check no_run no_make true is =
        let alone = check_alone (check_behind ws) in
        subst (λ v. HasParts (v ∷ ws)) ((bytes_eq-Decides (codes "check") w).0 is) (record { run = alone.run; make = alone.make; check = alone.check })
    if_check no_run no_make false no_check =
        record { run = rw (no_run, no_make, no_check) refl; make = rw (no_run, no_make, no_check) refl; check = rw (no_run, no_make, no_check) refl }

    if_make : bytes_eq (codes "run") w ≡ false → (b : Bool) → bytes_eq (codes "make") w ≡ b → HasParts (w ∷ ws)
    if_make no_run true is =
        let alone = make_alone (numbers_behind ws) in
        subst (λ v. HasParts (v ∷ ws)) ((bytes_eq-Decides (codes "make") w).0 is) (record { run = alone.run; make = alone.make; check = alone.check })
    if_make no_run false no_make = if_check no_run no_make (bytes_eq (codes "check") w) refl

    if_run : (b : Bool) → bytes_eq (codes "run") w ≡ b → HasParts (w ∷ ws)
    if_run true is =
        let alone = run_alone (files_behind 64 ws) in
        subst (λ v. HasParts (v ∷ ws)) ((bytes_eq-Decides (codes "run") w).0 is) (record { run = alone.run; make = alone.make; check = alone.check })
    if_run false no_run = if_make no_run (bytes_eq (codes "make") w) refl

-- so that is the command
words_are : (ws : List Text) (o : Option Asked) → list_all may_name_a_file ws ≡ true → o ≡ asked_by ws → AreWords ws (run_part o) (make_part o) (check_part o)
words_are ws o plain is =
    let parts = has_parts ws in
    record {
      is_run = rw plain (parts.run ∙ ap run_part (sym is));
      is_make = rw plain (parts.make ∙ ap make_part (sym is));
      is_check = rw plain (parts.check ∙ ap check_part (sym is));
    }

command_asked : (ws : List Text) (c : Option Command) → list_all may_name_a_file ws ≡ true → option_map asked_of c ≡ asked_by ws → IsCommandOf ws c
command_asked ws (Some (Run named)) plain is = words_are ws (option_map asked_of (Some (Run named))) plain is
command_asked ws (Some (Make numbers)) plain is = words_are ws (option_map asked_of (Some (Make numbers))) plain is
command_asked ws (Some (Check files)) plain is = words_are ws (option_map asked_of (Some (Check files))) plain is
command_asked ws None plain is = words_are ws None plain is

-- words are one command at most
pub words_asked : (ws : List Text) → (o : Option Asked) × AreWords ws (run_part o) (make_part o) (check_part o)
words_asked ws = by_test (list_all may_name_a_file ws) refl
  where
    by_test : (b : Bool) → list_all may_name_a_file ws ≡ b → (o : Option Asked) × AreWords ws (run_part o) (make_part o) (check_part o)
    by_test true plain = (asked_by ws, words_are ws (asked_by ws) plain refl)
    by_test false not = (None, record { is_run = rw not refl; is_make = rw not refl; is_check = rw not refl })

-- the same of a result
pub IfOk-asked : {E : Type 0} (ws vs : List Text) (r : Result (Option Command) E) → ws ≡ vs → IfOk r (λ c. option_map asked_of c ≡ asked_by ws)
    → IfOk r (λ c. option_map asked_of c ≡ asked_by vs)
IfOk-asked ws vs r same is = subst (λ us. IfOk r (λ c. option_map asked_of c ≡ asked_by us)) same is

pub IfOk-command : {E : Type 0} (ws : List Text) (r : Result (Option Command) E) → list_all may_name_a_file ws ≡ true
    → IfOk r (λ c. option_map asked_of c ≡ asked_by ws) → IfOk r (λ c. IsCommandOf ws c)
IfOk-command ws (Ok c) plain is = command_asked ws c plain is
IfOk-command ws (Err e) plain is = tt
