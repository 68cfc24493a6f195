-- What clap makes of the words behind `make`.
use Rattle.std.proofs.Common.{◌≡◌, ◌∙◌, true, false, refl, ap, ap₂, List, [], ◌∷◌, Some, None, codes}
use Rattle.std.specs.List.{list_all}
use Rattle.clap.specs.Words.{Rule, Shape, Text}
use Rattle.clap.specs.Walk.{Walk, finished, idle, nothing_held, settled, walk, walk_from, walked}
use Rattle.clap.specs.Simple.{built_leaf, filled_from, inherited}
use Rattle.clap.specs.Faults.{check_fault, defaults_fault, level_fault, settle_fault, turn_fault, walk_fault}
use Rattle.clap.specs.Kinds.{Kinds, or_else}
use Rattle.clap.specs.declared.error.kind.ErrorKind.TheVariants as kind
use Rattle.clap.proofs.OnLiterals.{clap_on_literals}
use Rattle.memdb.specs.inner.CommandLine.{bare, make_app, word_rule}
use Rattle.memdb.proofs.CommandRows.{row, make_rows}
use Rattle.run_io.specs.Named.{may_name_a_file}
use Rattle.memdb.proofs.PlainWords.{left, met_idle, no_dashes, plain_long, plain_short, right}

abbrev pub below : Shape
below = built_leaf (inherited (record bare.top { is_leaf = false; is_built = true }) make_app.top)

abbrev pub rules_below : List Rule
rules_below = filled_from 1 (word_rule (codes "number") ∷ word_rule (codes "clients") ∷ word_rule (codes "count") ∷ [])

rules_are : below.rules ≡ rules_below
rules_are = refl

-- where the walk stands after one, two and three words
abbrev after_one : Text → Walk
after_one a = record {
  held = record { rows = []; pending = Some (codes "number", a ∷ []); skip = 0 };
  waiting = idle;
  position = 2;
  is_trailing = false;
  stopped = None;
}

abbrev after_two : Text → Text → Walk
after_two a b = record {
  held = record { rows = row (codes "number") (a ∷ []) ∷ []; pending = Some (codes "clients", b ∷ []); skip = 0 };
  waiting = idle;
  position = 3;
  is_trailing = false;
  stopped = None;
}

abbrev after_three : Text → Text → Text → Walk
after_three a b c = record {
  held = record {
    rows = row (codes "number") (a ∷ []) ∷ row (codes "clients") (b ∷ []) ∷ [];
    pending = Some (codes "count", c ∷ []);
    skip = 0;
  };
  waiting = idle;
  position = 4;
  is_trailing = false;
  stopped = None;
}

-- each goes to its place
step_one : (a : Text) → may_name_a_file a ≡ true → walked rules_below [] (walk_from nothing_held) a ≡ after_one a
unfolding clap_on_literals
step_one a e = rw (met_idle rules_below 1 a nothing_held e) refl

step_two : (a b : Text) → may_name_a_file b ≡ true → walked rules_below [] (after_one a) b ≡ after_two a b
unfolding clap_on_literals
step_two a b e = rw (met_idle rules_below 2 b (after_one a).held e) refl

step_three : (a b c : Text) → may_name_a_file c ≡ true → walked rules_below [] (after_two a b) c ≡ after_three a b c
unfolding clap_on_literals
step_three a b c e = rw (met_idle rules_below 3 c (after_two a b).held e) refl

-- the first three aren't refused, and a fourth is
turn_one : (a : Text) → may_name_a_file a ≡ true → turn_fault below [] (walk_from nothing_held) a ≡ []
turn_one a e = rw (no_dashes a e, plain_long a e, plain_short a e) refl

turn_two : (a b : Text) → may_name_a_file b ≡ true → turn_fault below [] (after_one a) b ≡ []
turn_two a b e = rw (no_dashes b e, plain_long b e, plain_short b e) refl

turn_three : (a b c : Text) → may_name_a_file c ≡ true → turn_fault below [] (after_two a b) c ≡ []
turn_three a b c e = rw (no_dashes c e, plain_long c e, plain_short c e) refl

turn_four : (a b c d : Text) → may_name_a_file d ≡ true → turn_fault below [] (after_three a b c) d ≡ kind.UnknownArgument ∷ []
turn_four a b c d e = rw (no_dashes d e, plain_long d e, plain_short d e) refl

-- past words that aren't refused
pass_one : (a : Text) (ds : List Text) → may_name_a_file a ≡ true
    → walk_fault below [] (walk_from nothing_held) (a ∷ ds) ≡ walk_fault below [] (after_one a) ds
unfolding walk_fault
pass_one a ds e = ap₂ or_else (turn_one a e) (ap (λ w. walk_fault below [] w ds) (step_one a e))

pass_two : (a b : Text) (ds : List Text) → may_name_a_file b ≡ true → walk_fault below [] (after_one a) (b ∷ ds) ≡ walk_fault below [] (after_two a b) ds
unfolding walk_fault
pass_two a b ds e = ap₂ or_else (turn_two a b e) (ap (λ w. walk_fault below [] w ds) (step_two a b e))

pass_three : (a b c : Text) (ds : List Text) → may_name_a_file c ≡ true
    → walk_fault below [] (after_two a b) (c ∷ ds) ≡ walk_fault below [] (after_three a b c) ds
unfolding walk_fault
pass_three a b c ds e = ap₂ or_else (turn_three a b c e) (ap (λ w. walk_fault below [] w ds) (step_three a b c e))

pass_all : (a b c : Text) (ds : List Text) → list_all may_name_a_file (a ∷ b ∷ c ∷ ds) ≡ true
    → walk_fault below [] (walk_from nothing_held) (a ∷ b ∷ c ∷ ds) ≡ walk_fault below [] (after_three a b c) ds
pass_all a b c ds e =
    pass_one a (b ∷ c ∷ ds) (left _ _ e) ∙ pass_two a b (c ∷ ds) (left _ _ (right _ _ e))
    ∙ pass_three a b c ds (left _ _ (right _ _ (right _ _ e)))

walk_two : (a b : Text) → list_all may_name_a_file (a ∷ b ∷ []) ≡ true → walk rules_below [] nothing_held (a ∷ b ∷ []) ≡ after_two a b
walk_two a b e = ap (λ w. walked rules_below [] w b) (step_one a (left _ _ e)) ∙ step_two a b (left _ _ (right _ _ e))

pub walk_three : (a b c : Text) → list_all may_name_a_file (a ∷ b ∷ c ∷ []) ≡ true → walk rules_below [] nothing_held (a ∷ b ∷ c ∷ []) ≡ after_three a b c
walk_three a b c e =
    ap (λ w. walked rules_below [] (walked rules_below [] w b) c) (step_one a (left _ _ e))
    ∙ ap (λ w. walked rules_below [] w c) (step_two a b (left _ _ (right _ _ e)))
    ∙ step_three a b c (left _ _ (right _ _ (right _ _ e)))

-- ---- the level of `make`

abbrev pub fault_below : List Text → Kinds
fault_below ws = level_fault below [] nothing_held ws false []

-- what is refused where the words are read to here
abbrev fault_at : Kinds → Walk → Kinds
fault_at ks w = or_else ks (or_else [] (or_else (settle_fault rules_below false w.held)
    (or_else (defaults_fault (settled rules_below w.held).rows rules_below) (check_fault below (finished rules_below w.held) false))))

pub below_none : fault_below [] ≡ kind.MissingRequiredArgument ∷ []
unfolding clap_on_literals
below_none = refl

pub below_one : (a : Text) → may_name_a_file a ≡ true → fault_below (a ∷ []) ≡ kind.MissingRequiredArgument ∷ []
unfolding walk_fault defaults_fault
below_one a e = ap₂ fault_at (pass_one a [] e) (step_one a e)

pub below_two : (a b : Text) → list_all may_name_a_file (a ∷ b ∷ []) ≡ true → fault_below (a ∷ b ∷ []) ≡ kind.MissingRequiredArgument ∷ []
unfolding walk_fault defaults_fault
below_two a b e = ap₂ fault_at (pass_one a (b ∷ []) (left _ _ e) ∙ pass_two a b [] (left _ _ (right _ _ e))) (walk_two a b e)

pub below_three : (a b c : Text) → list_all may_name_a_file (a ∷ b ∷ c ∷ []) ≡ true → fault_below (a ∷ b ∷ c ∷ []) ≡ []
unfolding walk_fault defaults_fault
below_three a b c e = ap₂ fault_at (pass_all a b c [] e) (walk_three a b c e)

-- a fourth word is refused at once
below_fourth : (a b c d : Text) (ds : List Text) → may_name_a_file d ≡ true
    → walk_fault below [] (after_three a b c) (d ∷ ds) ≡ kind.UnknownArgument ∷ []
unfolding walk_fault
below_fourth a b c d ds e = ap (λ ks. or_else ks (walk_fault below [] (walked rules_below [] (after_three a b c) d) ds)) (turn_four a b c d e)

pub below_more : (a b c d : Text) (ds : List Text) → list_all may_name_a_file (a ∷ b ∷ c ∷ d ∷ ds) ≡ true
    → fault_below (a ∷ b ∷ c ∷ d ∷ ds) ≡ kind.UnknownArgument ∷ []
below_more a b c d ds e =
    ap (λ ks. fault_at ks (walk rules_below [] nothing_held (a ∷ b ∷ c ∷ d ∷ ds)))
    (pass_all a b c (d ∷ ds) e ∙ below_fourth a b c d ds
    (left _ (list_all may_name_a_file ds) (right (may_name_a_file c) _ (right (may_name_a_file b) _ (right (may_name_a_file a) _ e)))))

-- the rows at the end
pub rows_at_end : (a b c : Text) → finished rules_below (after_three a b c).held ≡ make_rows a b c
rows_at_end a b c = refl
