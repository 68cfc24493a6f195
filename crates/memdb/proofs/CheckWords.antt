-- What clap makes of the words behind `check`.
use Rattle.std.proofs.Common.{◌≡◌, ◌≤◌, ◌∙◌, ◌==◌, ℕ, true, false, refl, sym, ap, ap₂, arith, List, [], ◌∷◌, ◌++◌, length, Some, None, rules, nat_lt, codes, append_assoc, append-nil, le-ltb, suc, if◌then◌else◌}
use Rattle.std.specs.List.{list_all, fold}
use Rattle.clap.specs.Words.{Rule, Shape, Text}
use Rattle.clap.specs.Walk.{Walk, finished, nothing_held, positional, settled, walk, walk_from, walked}
use Rattle.clap.specs.Simple.{built_leaf, filled_from, inherited}
use Rattle.clap.specs.Faults.{check_fault, defaults_fault, level_fault, settle_fault, turn_fault, walk_fault}
use Rattle.clap.specs.Kinds.{Kinds, or_else, range_kinds}
use Rattle.clap.specs.declared.error.kind.ErrorKind.TheVariants as kind
use Rattle.clap.proofs.OnLiterals.{clap_on_literals}
use Rattle.memdb.specs.inner.CommandLine.{bare, check_app, files_rule}
use Rattle.memdb.proofs.CommandRows.{check_rows}
use Rattle.memdb.proofs.RunWords.{any_text, nothing_else}
use Rattle.run_io.specs.Named.{may_name_a_file}
use Rattle.memdb.proofs.PlainWords.{left, met_idle, met_more, no_dashes, plain_long, plain_short, right}

abbrev pub below : Shape
below = built_leaf (inherited (record bare.top { is_leaf = false; is_built = true }) check_app.top)

abbrev pub rules_below : List Rule
rules_below = filled_from 1 (files_rule ∷ [])

rules_are : below.rules ≡ rules_below
rules_are = refl

-- where the walk stands after these files
abbrev after_files : List Text → Walk
after_files fs = record {
  held = record { rows = []; pending = Some (codes "files", fs); skip = 0 };
  waiting = positional;
  position = 1;
  is_trailing = false;
  stopped = None;
}

step_first : (f : Text) → may_name_a_file f ≡ true → walked rules_below [] (walk_from nothing_held) f ≡ after_files (f ∷ [])
unfolding clap_on_literals
step_first f e = rw (met_idle rules_below 1 f nothing_held e) refl

step_next : (f : Text) (fs : List Text) → may_name_a_file f ≡ true → walked rules_below [] (after_files fs) f ≡ after_files (fs ++ f ∷ [])
unfolding clap_on_literals
step_next f fs e = rw (met_more rules_below 1 f (after_files fs).held e) refl

-- ---- more files

walk_more : (fs gs : List Text) → list_all may_name_a_file gs ≡ true → fold (walked rules_below []) (after_files fs) gs ≡ after_files (fs ++ gs)
walk_more fs [] e = ap after_files (sym (append-nil fs))
walk_more fs (g ∷ gs) e =
    ap (λ w. fold (walked rules_below []) w gs) (step_next g fs (left _ _ e))
    ∙ walk_more (fs ++ g ∷ []) gs (right _ _ e)
    ∙ ap after_files (append_assoc fs (g ∷ []) gs)

pub walk_all : (f : Text) (fs : List Text) → list_all may_name_a_file (f ∷ fs) ≡ true → walk rules_below [] nothing_held (f ∷ fs) ≡ after_files (f ∷ fs)
walk_all f fs e =
    ap (λ w. fold (walked rules_below []) w fs) (step_first f (left _ _ e)) ∙ walk_more (f ∷ []) fs (right _ _ e)

-- no word of these is refused
turn_first : (f : Text) → may_name_a_file f ≡ true → turn_fault below [] (walk_from nothing_held) f ≡ []
turn_first f e = rw (no_dashes f e, plain_long f e, plain_short f e) refl

turn_next : (f : Text) (fs : List Text) → may_name_a_file f ≡ true → turn_fault below [] (after_files fs) f ≡ []
turn_next f fs e = rw (no_dashes f e, plain_long f e, plain_short f e) refl

files_pass : (fs gs : List Text) → list_all may_name_a_file gs ≡ true → walk_fault below [] (after_files fs) gs ≡ []
unfolding walk_fault
files_pass fs [] e = refl
files_pass fs (g ∷ gs) e =
    ap₂ or_else (turn_next g fs (left _ _ e)) (ap (λ w. walk_fault below [] w gs) (step_next g fs (left _ _ e)))
    ∙ files_pass (fs ++ g ∷ []) gs (right _ _ e)

words_pass : (f : Text) (fs : List Text) → list_all may_name_a_file (f ∷ fs) ≡ true → walk_fault below [] (walk_from nothing_held) (f ∷ fs) ≡ []
unfolding walk_fault
words_pass f fs e =
    ap₂ or_else (turn_first f (left _ _ e)) (ap (λ w. walk_fault below [] w fs) (step_first f (left _ _ e)))
    ∙ files_pass (f ∷ []) fs (right _ _ e)

-- the count is judged at the end
abbrev pub too_many : ℕ → Kinds
too_many n = if nat_lt 66 n then kind.TooManyValues ∷ [] else []

abbrev of_count : ℕ → Kinds
of_count n = if nat_lt n 3 then kind.TooFewValues ∷ [] else too_many n

counts : (n : ℕ) → range_kinds 3 66 (suc n) ≡ of_count (suc n)
counts n =
    let not_none : (suc n == 0) ≡ false = search rules in
    rw not_none refl

enough : (n : ℕ) → 3 ≤ n → of_count n ≡ too_many n
enough n some = let not_few : nat_lt n 3 ≡ false = le-ltb n 3 some in rw not_few refl

last_settles : (f : Text) (fs : List Text) → settle_fault rules_below false (after_files (f ∷ fs)).held ≡ of_count (length (f ∷ fs))
last_settles f fs = rw (any_text files_rule false fs, counts (length fs)) (nothing_else (of_count (length (f ∷ fs))))

pub rows_at_end : (f : Text) (fs : List Text) → finished rules_below (after_files (f ∷ fs)).held ≡ check_rows (f ∷ fs)
rows_at_end f fs = refl

-- ---- the level of `check`

abbrev pub fault_below : List Text → Kinds
fault_below ws = level_fault below [] nothing_held ws false []

pub below_none : fault_below [] ≡ kind.MissingRequiredArgument ∷ []
unfolding clap_on_literals
below_none = refl

below_some : (f : Text) (fs : List Text) → list_all may_name_a_file (f ∷ fs) ≡ true → fault_below (f ∷ fs) ≡ of_count (length (f ∷ fs))
unfolding defaults_fault
below_some f fs e =
    ap₂ or_else (words_pass f fs e) (ap (λ (w : Walk). or_else [] (or_else (settle_fault rules_below false w.held)
    (or_else (defaults_fault (settled rules_below w.held).rows rules_below) (check_fault below (finished rules_below w.held) false)))) (walk_all f fs e))
    ∙ ap₂ or_else (last_settles f fs) refl ∙ nothing_else (of_count (length (f ∷ fs)))

pub below_one : (f : Text) → list_all may_name_a_file (f ∷ []) ≡ true → fault_below (f ∷ []) ≡ kind.TooFewValues ∷ []
below_one f e = below_some f [] e

pub below_two : (f g : Text) → list_all may_name_a_file (f ∷ g ∷ []) ≡ true → fault_below (f ∷ g ∷ []) ≡ kind.TooFewValues ∷ []
below_two f g e = below_some f (g ∷ []) e

pub below_more : (f g h : Text) (fs : List Text) → list_all may_name_a_file (f ∷ g ∷ h ∷ fs) ≡ true → fault_below (f ∷ g ∷ h ∷ fs) ≡ too_many (length (f ∷ g ∷ h ∷ fs))
below_more f g h fs e = below_some f (g ∷ h ∷ fs) e ∙ enough (length (f ∷ g ∷ h ∷ fs)) (omega arith)
