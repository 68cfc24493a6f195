-- What clap makes of the words: of the first, and with it of all.
use Rattle.std.proofs.Common.{◌≡◌, ◌<◌, ◌∙◌, arith, suc, lt-ltb, Bool, cond, true, false, refl, sym, ap, ap₂, subst, List, [], ◌∷◌, ◌++◌, length, Option, Some, None, inl, inr, nat_lt, codes, append_assoc, append-nil}
use Rattle.std.proofs.lemmas.Bool.Decides.{nat_tests}
use Rattle.std.specs.List.{list_all, fold}
use Rattle.std.specs.Option.{is_some, option_map}
use Rattle.std.specs.Str.{bytes_eq}
use Rattle.std.proofs.lemmas.Slice.Eq.{bytes_eq-Decides}
use Rattle.clap.specs.Words.{App, HasKind, HasMatchesOf, IsAmong, Kinds, Shape, Text, built, fault_of, is_simple, is_simple_and_free, kind_of, subcommand_of, subcommand_rows_of}
use Rattle.clap.specs.Walk.{Names, Walk, finished, nothing_held, settled, walk, walk_from, walked}
use Rattle.clap.specs.Simple.{entered}
use Rattle.clap.specs.Faults.{check_fault, defaults_fault, entered_fault, settle_fault, walk_fault}
use Rattle.clap.specs.Kinds.{or_else}
use Rattle.clap.specs.declared.error.Error.{Error}
use Rattle.clap.specs.declared.error.kind.ErrorKind.{ErrorKind}
use Rattle.clap.specs.declared.error.kind.ErrorKind.TheVariants as kind
use Rattle.clap.specs.declared.parser.matches.ArgMatches.{ArgMatches}
use Rattle.clap.proofs.FaultLemmas.{stopped_fault}
use Rattle.clap.proofs.OnLiterals.{clap_on_literals}
use Rattle.memdb.specs.Words.{check_behind, last_apart, numbers_behind}
use Rattle.memdb.specs.inner.CommandLine.{Asked, asked_at, asked_by, asked_of_matches, bare, files, program, to_check, to_make, to_run}
use Rattle.memdb.proofs.CommandRows.{check_rows, run_rows, make_rows}
use Rattle.run_io.specs.Named.{files_behind, may_name_a_file}
use Rattle.memdb.proofs.PlainWords.{left, no_dashes, plain_long, plain_short, right}
use Rattle.memdb.proofs.CheckWords as check
use Rattle.memdb.proofs.MakeWords as make
use Rattle.memdb.proofs.RunWords as run
use Rattle.memdb.proofs.RunWords.{nothing_else}

no_words : fault_of program [] ≡ kind.MissingSubcommand ∷ []
unfolding clap_on_literals
no_words = refl

is_fit : is_simple_and_free program ≡ true
is_fit = refl

abbrev names : Names
names = (codes "run", []) ∷ (codes "make", []) ∷ (codes "check", []) ∷ []

abbrev above : Shape
above = record bare.top { is_leaf = false; is_built = true }

-- ---- the name of a command, and the words behind it

abbrev stopped_at : Text → List Text → Walk
stopped_at name xs = record (walk_from nothing_held) { stopped = Some (name, xs) }

step_run : walked [] names (walk_from nothing_held) (codes "run") ≡ stopped_at (codes "run") []
unfolding clap_on_literals
step_run = refl

step_make : walked [] names (walk_from nothing_held) (codes "make") ≡ stopped_at (codes "make") []
unfolding clap_on_literals
step_make = refl

step_check : walked [] names (walk_from nothing_held) (codes "check") ≡ stopped_at (codes "check") []
unfolding clap_on_literals
step_check = refl

step_stopped : (name : Text) (xs : List Text) (w : Text) → walked [] names (stopped_at name xs) w ≡ stopped_at name (xs ++ w ∷ [])
unfolding walked
step_stopped name xs w = refl

walk_stopped : (name : Text) (xs ws : List Text) → fold (walked [] names) (stopped_at name xs) ws ≡ stopped_at name (xs ++ ws)
walk_stopped name xs [] = ap (stopped_at name) (sym (append-nil xs))
walk_stopped name xs (w ∷ ws) =
    ap (λ v. fold (walked [] names) v ws) (step_stopped name xs w)
    ∙ walk_stopped name (xs ++ w ∷ []) ws ∙ ap (stopped_at name) (append_assoc xs (w ∷ []) ws)

walk_run : (ws : List Text) → walk [] names nothing_held (codes "run" ∷ ws) ≡ stopped_at (codes "run") ws
walk_run ws = ap (λ v. fold (walked [] names) v ws) step_run ∙ walk_stopped (codes "run") [] ws

walk_make : (ws : List Text) → walk [] names nothing_held (codes "make" ∷ ws) ≡ stopped_at (codes "make") ws
walk_make ws = ap (λ v. fold (walked [] names) v ws) step_make ∙ walk_stopped (codes "make") [] ws

walk_check : (ws : List Text) → walk [] names nothing_held (codes "check" ∷ ws) ≡ stopped_at (codes "check") ws
walk_check ws = ap (λ v. fold (walked [] names) v ws) step_check ∙ walk_stopped (codes "check") [] ws

run_passes : (ws : List Text) → walk_fault above names (walk_from nothing_held) (codes "run" ∷ ws) ≡ []
unfolding clap_on_literals
run_passes ws = ap (λ w. walk_fault above names w ws) step_run ∙ stopped_fault above names (walk_from nothing_held) (codes "run", []) ws

make_passes : (ws : List Text) → walk_fault above names (walk_from nothing_held) (codes "make" ∷ ws) ≡ []
unfolding clap_on_literals
make_passes ws = ap (λ w. walk_fault above names w ws) step_make ∙ stopped_fault above names (walk_from nothing_held) (codes "make", []) ws

check_passes : (ws : List Text) → walk_fault above names (walk_from nothing_held) (codes "check" ∷ ws) ≡ []
unfolding clap_on_literals
check_passes ws = ap (λ w. walk_fault above names w ws) step_check ∙ stopped_fault above names (walk_from nothing_held) (codes "check", []) ws

abbrev fault_at : Walk → Kinds
fault_at w = or_else (entered_fault (built program) w.stopped) (or_else (settle_fault [] false w.held)
    (or_else (defaults_fault (settled [] w.held).rows []) (check_fault above (finished [] w.held) (is_some (entered (built program) w.stopped)))))

fault_of_run : (ws : List Text) → fault_of program (codes "run" ∷ ws) ≡ run.fault_below ws
unfolding defaults_fault
fault_of_run ws = ap₂ or_else (run_passes ws) (ap fault_at (walk_run ws)) ∙ nothing_else (run.fault_below ws)

fault_of_make : (ws : List Text) → fault_of program (codes "make" ∷ ws) ≡ make.fault_below ws
unfolding defaults_fault
fault_of_make ws = ap₂ or_else (make_passes ws) (ap fault_at (walk_make ws)) ∙ nothing_else (make.fault_below ws)

fault_of_check : (ws : List Text) → fault_of program (codes "check" ∷ ws) ≡ check.fault_below ws
unfolding defaults_fault
fault_of_check ws = ap₂ or_else (check_passes ws) (ap fault_at (walk_check ws)) ∙ nothing_else (check.fault_below ws)

found_in_run : (s c : Text) (cs : List Text) → list_all may_name_a_file (s ∷ c ∷ cs) ≡ true
    → subcommand_of program (codes "run" ∷ s ∷ c ∷ cs) ≡ Some (codes "run", run_rows s (c ∷ cs))
found_in_run s c cs e =
    ap (λ (w : Walk). entered (built program) w.stopped) (walk_run (s ∷ c ∷ cs))
    ∙ ap (λ (w : Walk). Some (codes "run", finished run.rules_below w.held)) (run.walk_all s c cs e)

found_in_make : (a b c : Text) → list_all may_name_a_file (a ∷ b ∷ c ∷ []) ≡ true
    → subcommand_of program (codes "make" ∷ a ∷ b ∷ c ∷ []) ≡ Some (codes "make", make_rows a b c)
found_in_make a b c e =
    ap (λ (w : Walk). entered (built program) w.stopped) (walk_make (a ∷ b ∷ c ∷ []))
    ∙ ap (λ (w : Walk). Some (codes "make", finished make.rules_below w.held)) (make.walk_three a b c e)

found_in_check : (f : Text) (fs : List Text) → list_all may_name_a_file (f ∷ fs) ≡ true
    → subcommand_of program (codes "check" ∷ f ∷ fs) ≡ Some (codes "check", check_rows (f ∷ fs))
found_in_check f fs e =
    ap (λ (w : Walk). entered (built program) w.stopped) (walk_check (f ∷ fs))
    ∙ ap (λ (w : Walk). Some (codes "check", finished check.rules_below w.held)) (check.walk_all f fs e)

-- ---- any other first word

abbrev stray : Kinds
stray = kind.UnknownArgument ∷ kind.InvalidSubcommand ∷ []

no_such : (w : Text) (ws : List Text) → may_name_a_file w ≡ true → bytes_eq (codes "run") w ≡ false → bytes_eq (codes "make") w ≡ false
    → bytes_eq (codes "check") w ≡ false → fault_of program (w ∷ ws) ≡ stray
unfolding walk_fault
no_such w ws e no_run no_make no_check = rw (no_run, no_make, no_check, no_dashes w e, plain_long w e, plain_short w e) refl

-- ---- all words

-- what the parse is where this is asked for: it is refused, or gives that
data Parses (ws : List Text) (asked : Option Asked) : Type 0 where
  refused : (k : ErrorKind) (ks : Kinds) → fault_of program ws ≡ k ∷ ks → asked ≡ None → Parses ws asked
  taken : fault_of program ws ≡ [] → asked_at (subcommand_of program ws) ≡ asked → Parses ws asked

many : (s c : Text) (cs : List Text) → list_all may_name_a_file (s ∷ c ∷ cs) ≡ true
    → Parses (codes "run" ∷ s ∷ c ∷ cs) (option_map to_run (files_behind 64 (s ∷ c ∷ cs)))
many s c cs e = go (nat_lt 64 (length (c ∷ cs))) (fault_of_run (s ∷ c ∷ cs) ∙ run.below_more s c cs e)
  where
    go : (b : Bool) → fault_of program (codes "run" ∷ s ∷ c ∷ cs) ≡ cond b (kind.TooManyValues ∷ []) []
        → Parses (codes "run" ∷ s ∷ c ∷ cs) (option_map to_run (cond b None (Some (files s (c ∷ cs)))))
    go true f = refused kind.TooManyValues [] f refl
    go false f = taken f (ap asked_at (found_in_run s c cs e))

after_run : (ws : List Text) → list_all may_name_a_file ws ≡ true → Parses (codes "run" ∷ ws) (option_map to_run (files_behind 64 ws))
after_run [] e = refused kind.MissingRequiredArgument [] (fault_of_run [] ∙ run.below_none) refl
after_run (s ∷ []) e = refused kind.MissingRequiredArgument [] (fault_of_run (s ∷ []) ∙ run.below_one s (left _ _ e)) refl
after_run (s ∷ c ∷ cs) e = many s c cs e

after_make : (ws : List Text) → list_all may_name_a_file ws ≡ true → Parses (codes "make" ∷ ws) (option_map to_make (numbers_behind ws))
after_make [] e = refused kind.MissingRequiredArgument [] (fault_of_make [] ∙ make.below_none) refl
after_make (a ∷ []) e = refused kind.MissingRequiredArgument [] (fault_of_make (a ∷ []) ∙ make.below_one a (left _ _ e)) refl
after_make (a ∷ b ∷ []) e = refused kind.MissingRequiredArgument [] (fault_of_make (a ∷ b ∷ []) ∙ make.below_two a b e) refl
after_make (a ∷ b ∷ c ∷ []) e =
    taken (fault_of_make (a ∷ b ∷ c ∷ []) ∙ make.below_three a b c e) (ap asked_at (found_in_make a b c e))
after_make (a ∷ b ∷ c ∷ d ∷ ds) e =
    refused kind.UnknownArgument [] (fault_of_make (a ∷ b ∷ c ∷ d ∷ ds) ∙ make.below_more a b c d ds e) refl

-- of some words there is a last
last_of : (w : Text) (ws : List Text) → (front : List Text) × (last : Text) × (last_apart (w ∷ ws) ≡ Some (front, last)) × (length front ≡ length ws)
last_of w [] = ([], w, refl, refl)
last_of w (v ∷ vs) =
    let h = last_of v vs in
    (w ∷ h.0, h.1, ap (option_map (λ p. (w ∷ p.0, p.1))) h.2, ap suc h.3)

-- more than 64 clients are too many
none_past : (f g h : Text) (fs : List Text) → nat_lt 66 (length (f ∷ g ∷ h ∷ fs)) ≡ true → check_behind (f ∷ g ∷ h ∷ fs) ≡ None
none_past f g h fs over =
    let at = last_of h fs in
    let long = at.3 in
    let past : 66 < length (f ∷ g ∷ h ∷ fs) = grind (arith, nat_tests) in
    let many : nat_lt 64 (length (g ∷ at.0)) ≡ true = lt-ltb 64 (length (g ∷ at.0)) (omega (arith, past, long)) in
    rw (at.2, many) refl

after_check : (ws : List Text) → list_all may_name_a_file ws ≡ true → Parses (codes "check" ∷ ws) (option_map to_check (check_behind ws))
after_check [] e = refused kind.MissingRequiredArgument [] (fault_of_check [] ∙ check.below_none) refl
after_check (f ∷ []) e = refused kind.TooFewValues [] (fault_of_check (f ∷ []) ∙ check.below_one f e) refl
after_check (f ∷ g ∷ []) e = refused kind.TooFewValues [] (fault_of_check (f ∷ g ∷ []) ∙ check.below_two f g e) refl
after_check (f ∷ g ∷ h ∷ fs) e = go (nat_lt 66 (length (f ∷ g ∷ h ∷ fs))) refl (fault_of_check (f ∷ g ∷ h ∷ fs) ∙ check.below_more f g h fs e)
  where
    go : (b : Bool) → nat_lt 66 (length (f ∷ g ∷ h ∷ fs)) ≡ b → fault_of program (codes "check" ∷ f ∷ g ∷ h ∷ fs) ≡ cond b (kind.TooManyValues ∷ []) []
        → Parses (codes "check" ∷ f ∷ g ∷ h ∷ fs) (option_map to_check (check_behind (f ∷ g ∷ h ∷ fs)))
    go true over fault = refused kind.TooManyValues [] fault (ap (option_map to_check) (none_past f g h fs over))
    go false within fault = taken fault (ap asked_at (found_in_check f (g ∷ h ∷ fs) e))

parsed_as : (ws : List Text) → list_all may_name_a_file ws ≡ true → Parses ws (asked_by ws)
parsed_as [] e = refused kind.MissingSubcommand [] no_words refl
parsed_as (w ∷ ws) e = if_run (bytes_eq (codes "run") w) refl
  where
    if_check : bytes_eq (codes "run") w ≡ false → bytes_eq (codes "make") w ≡ false → (b : Bool) → bytes_eq (codes "check") w ≡ b → Parses (w ∷ ws) (asked_by (w ∷ ws))
    if_check no_run no_make true is =
        subst (λ v. Parses (v ∷ ws) (asked_by (v ∷ ws))) ((bytes_eq-Decides (codes "check") w).0 is) (after_check ws (right _ _ e))
    if_check no_run no_make false no_check =
        refused kind.UnknownArgument (kind.InvalidSubcommand ∷ []) (no_such w ws (left _ _ e) no_run no_make no_check) (rw (no_run, no_make, no_check) refl)

    if_make : bytes_eq (codes "run") w ≡ false → (b : Bool) → bytes_eq (codes "make") w ≡ b → Parses (w ∷ ws) (asked_by (w ∷ ws))
    if_make no_run true is =
        subst (λ v. Parses (v ∷ ws) (asked_by (v ∷ ws))) ((bytes_eq-Decides (codes "make") w).0 is) (after_make ws (right _ _ e))
    if_make no_run false no_make = if_check no_run no_make (bytes_eq (codes "check") w) refl

    if_run : (b : Bool) → bytes_eq (codes "run") w ≡ b → Parses (w ∷ ws) (asked_by (w ∷ ws))
    if_run true is =
        subst (λ v. Parses (v ∷ ws) (asked_by (v ∷ ws))) ((bytes_eq-Decides (codes "run") w).0 is) (after_run ws (right _ _ e))
    if_run false no_run = if_make no_run (bytes_eq (codes "make") w) refl

-- ---- what the parse's answer tells

-- a parse that passes gives what the words ask for
ok_at : (ws : List Text) (p : Option Asked) (m : ArgMatches) → Parses ws p → fault_of program ws ≡ []
    → subcommand_rows_of m ≡ subcommand_of program ws → asked_of_matches m ≡ p
ok_at ws p m (refused k ks is none) free found = let bad : k ∷ ks ≡ [] = sym is ∙ free in cc
ok_at ws p m (taken none is) free found = ap asked_at found ∙ is

pub read_ok : (ws : List Text) (a : App) (m : ArgMatches) → a ≡ program → list_all may_name_a_file ws ≡ true
    → (is_simple_and_free a ≡ true → fault_of a ws ≡ []) → HasMatchesOf a ws m → asked_of_matches m ≡ asked_by ws
read_ok ws a m e plain none has = ok_at ws (asked_by ws) m (parsed_as ws plain)
    (sym (ap (λ x. fault_of x ws) e) ∙ none (ap is_simple_and_free e ∙ is_fit))
    ((has (ap is_simple e ∙ refl)).1 ∙ ap (λ x. subcommand_of x ws) e)

-- where one fails, but for want of memory, they ask for nothing
none_at : (ws : List Text) (p : Option Asked) (e : Error) → Parses ws p → HasKind (fault_of program ws) e → (kind_of e ≡ kind.OutOfMemory → ⊥) → None ≡ p
none_at ws p e (refused k ks is none) h not = sym none
none_at ws p e (taken none is) h not = elim h [
  | inl memory ↦ absurd (not memory)
  | inr among ↦ absurd (subst (IsAmong (kind_of e)) none among)
]

pub read_none : (ws : List Text) (a : App) (x : Error) → a ≡ program → list_all may_name_a_file ws ≡ true
    → (is_simple_and_free a ≡ true → HasKind (fault_of a ws) x) → (kind_of x ≡ kind.OutOfMemory → ⊥) → None ≡ asked_by ws
read_none ws a x e plain has not = none_at ws (asked_by ws) x (parsed_as ws plain)
    (subst (λ y. HasKind (fault_of y ws) x) e (has (ap is_simple_and_free e ∙ is_fit))) not
