-- What clap makes of the words behind `run`.
use Rattle.std.proofs.Common.{◌≡◌, ◌∙◌, ◌==◌, ℕ, Bool, true, false, refl, sym, ap, ap₂, arith, List, [], ◌∷◌, ◌++◌, length, Some, None, rules, nat_lt, codes, append_assoc, append-nil, le-ltb, suc, if◌then◌else◌}
use Rattle.std.specs.List.{list_all, fold}
use Rattle.clap.specs.Words.{Rule, Shape, Text}
use Rattle.clap.specs.Walk.{Walk, finished, idle, nothing_held, positional, settled, walk, walk_from, walked}
use Rattle.clap.specs.Simple.{built_leaf, filled_from, inherited}
use Rattle.clap.specs.Faults.{check_fault, defaults_fault, level_fault, settle_fault, turn_fault, walk_fault}
use Rattle.clap.specs.Kinds.{Kinds, or_else, range_kinds, values_kinds}
use Rattle.clap.specs.declared.builder.value_parser.ValueParser.TheVariants as vp
use Rattle.clap.specs.declared.error.kind.ErrorKind.TheVariants as kind
use Rattle.clap.proofs.OnLiterals.{clap_on_literals}
use Rattle.memdb.specs.inner.CommandLine.{bare, clients_rule, run_app, word_rule}
use Rattle.memdb.proofs.CommandRows.{row}
use Rattle.run_io.specs.Named.{may_name_a_file}
use Rattle.memdb.proofs.PlainWords.{left, met_idle, met_more, no_dashes, plain_long, plain_short, right}

abbrev pub below : Shape
below = built_leaf (inherited (record bare.top { is_leaf = false; is_built = true }) run_app.top)

abbrev pub rules_below : List Rule
rules_below = filled_from 1 (word_rule (codes "schema") ∷ clients_rule ∷ [])

rules_are : below.rules ≡ rules_below
rules_are = refl

-- where the walk stands after the schema, and after these clients
abbrev after_schema : Text → Walk
after_schema s = record {
  held = record { rows = []; pending = Some (codes "schema", s ∷ []); skip = 0 };
  waiting = idle;
  position = 2;
  is_trailing = false;
  stopped = None;
}

abbrev after_clients : Text → List Text → Walk
after_clients s cs = record {
  held = record { rows = row (codes "schema") (s ∷ []) ∷ []; pending = Some (codes "clients", cs); skip = 0 };
  waiting = positional;
  position = 2;
  is_trailing = false;
  stopped = None;
}

step_schema : (s : Text) → may_name_a_file s ≡ true → walked rules_below [] (walk_from nothing_held) s ≡ after_schema s
unfolding clap_on_literals
step_schema s e = rw (met_idle rules_below 1 s nothing_held e) refl

step_first : (s c : Text) → may_name_a_file c ≡ true → walked rules_below [] (after_schema s) c ≡ after_clients s (c ∷ [])
unfolding clap_on_literals
step_first s c e = rw (met_idle rules_below 2 c (after_schema s).held e) refl

step_next : (s c : Text) (cs : List Text) → may_name_a_file c ≡ true → walked rules_below [] (after_clients s cs) c ≡ after_clients s (cs ++ c ∷ [])
unfolding clap_on_literals
step_next s c cs e = rw (met_more rules_below 2 c (after_clients s cs).held e) refl

-- ---- more clients

walk_clients : (s : Text) (cs ds : List Text) → list_all may_name_a_file ds ≡ true → fold (walked rules_below []) (after_clients s cs) ds ≡ after_clients s (cs ++ ds)
walk_clients s cs [] e = ap (after_clients s) (sym (append-nil cs))
walk_clients s cs (d ∷ ds) e =
    ap (λ w. fold (walked rules_below []) w ds) (step_next s d cs (left _ _ e))
    ∙ walk_clients s (cs ++ d ∷ []) ds (right _ _ e)
    ∙ ap (after_clients s) (append_assoc cs (d ∷ []) ds)

pub walk_all : (s c : Text) (cs : List Text) → list_all may_name_a_file (s ∷ c ∷ cs) ≡ true → walk rules_below [] nothing_held (s ∷ c ∷ cs) ≡ after_clients s (c ∷ cs)
walk_all s c cs e =
    ap (λ w. fold (walked rules_below []) (walked rules_below [] w c) cs) (step_schema s (left _ _ e))
    ∙ ap (λ w. fold (walked rules_below []) w cs) (step_first s c (left _ _ (right _ _ e)))
    ∙ walk_clients s (c ∷ []) cs (right _ _ (right _ _ e))

-- no word of these is refused
turn_schema : (s : Text) → may_name_a_file s ≡ true → turn_fault below [] (walk_from nothing_held) s ≡ []
turn_schema s e = rw (no_dashes s e, plain_long s e, plain_short s e) refl

turn_first : (s c : Text) → may_name_a_file c ≡ true → turn_fault below [] (after_schema s) c ≡ []
turn_first s c e = rw (no_dashes c e, plain_long c e, plain_short c e) refl

turn_next : (s c : Text) (cs : List Text) → may_name_a_file c ≡ true → turn_fault below [] (after_clients s cs) c ≡ []
turn_next s c cs e = rw (no_dashes c e, plain_long c e, plain_short c e) refl

clients_pass : (s : Text) (cs ds : List Text) → list_all may_name_a_file ds ≡ true → walk_fault below [] (after_clients s cs) ds ≡ []
unfolding walk_fault
clients_pass s cs [] e = refl
clients_pass s cs (d ∷ ds) e =
    ap₂ or_else (turn_next s d cs (left _ _ e)) (ap (λ w. walk_fault below [] w ds) (step_next s d cs (left _ _ e)))
    ∙ clients_pass s (cs ++ d ∷ []) ds (right _ _ e)

words_pass : (s c : Text) (cs : List Text) → list_all may_name_a_file (s ∷ c ∷ cs) ≡ true → walk_fault below [] (walk_from nothing_held) (s ∷ c ∷ cs) ≡ []
unfolding walk_fault
words_pass s c cs e =
    ap₂ or_else (turn_schema s (left _ _ e))
    (ap (λ w. or_else (turn_fault below [] w c) (walk_fault below [] (walked rules_below [] w c) cs)) (step_schema s (left _ _ e))
    ∙ ap₂ or_else (turn_first s c (left _ _ (right _ _ e))) (ap (λ w. walk_fault below [] w cs) (step_first s c (left _ _ (right _ _ e))))
    ∙ clients_pass s (c ∷ []) cs (right _ _ (right _ _ e)))

-- any text is a value
pub any_text : (a : Rule) (i : Bool) (vs : List Text) → values_kinds i vp.String vs ≡ []
any_text a i [] = refl
any_text a i (v ∷ vs) = any_text a i vs

-- the count is judged at the end
abbrev pub too_many : ℕ → Kinds
too_many n = if nat_lt 64 n then kind.TooManyValues ∷ [] else []

pub nothing_else : (ks : Kinds) → or_else ks [] ≡ ks
nothing_else [] = refl
nothing_else (k ∷ ks) = refl

counts : (n : ℕ) → range_kinds 1 64 (suc n) ≡ too_many (suc n)
counts n =
    let not_none : (suc n == 0) ≡ false = search rules in
    let not_less : nat_lt (suc n) 1 ≡ false = le-ltb (suc n) 1 (omega arith) in
    rw (not_none, not_less) refl

last_settles : (s c : Text) (cs : List Text) → settle_fault rules_below false (after_clients s (c ∷ cs)).held ≡ too_many (length (c ∷ cs))
last_settles s c cs = rw (any_text clients_rule false cs, counts (length cs)) (nothing_else (too_many (length (c ∷ cs))))

rows_at_end : (s c : Text) (cs : List Text) → finished rules_below (after_clients s (c ∷ cs)).held ≡ row (codes "schema") (s ∷ []) ∷ row (codes "clients") (c ∷ cs) ∷ []
rows_at_end s c cs = refl

-- ---- the level of `run`

abbrev pub fault_below : List Text → Kinds
fault_below ws = level_fault below [] nothing_held ws false []

pub below_none : fault_below [] ≡ kind.MissingRequiredArgument ∷ []
unfolding clap_on_literals
below_none = refl

pub below_one : (s : Text) → may_name_a_file s ≡ true → fault_below (s ∷ []) ≡ kind.MissingRequiredArgument ∷ []
unfolding walk_fault defaults_fault
below_one s e = rw (turn_schema s e, step_schema s e) refl

pub below_more : (s c : Text) (cs : List Text) → list_all may_name_a_file (s ∷ c ∷ cs) ≡ true → fault_below (s ∷ c ∷ cs) ≡ too_many (length (c ∷ cs))
unfolding defaults_fault
below_more s c cs e =
    ap₂ or_else (words_pass s c cs e) (ap (λ (w : Walk). or_else [] (or_else (settle_fault rules_below false w.held)
    (or_else (defaults_fault (settled rules_below w.held).rows rules_below) (check_fault below (finished rules_below w.held) false)))) (walk_all s c cs e))
    ∙ ap₂ or_else (last_settles s c cs) refl ∙ nothing_else (too_many (length (c ∷ cs)))
