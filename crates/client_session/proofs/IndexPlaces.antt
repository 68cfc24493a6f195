-- Two questions that look at one place of a table name one index.
use Rattle.std.proofs.Common.{◌≡◌, ◌∙◌, ◌+◌, ℕ, Bool, true, false, List, [], ◌∷◌, Option, Some, None, Result, Ok, Err, refl, sym, ap, arith}
use Rattle.std.specs.Prelude.{if◌then◌else◌, option_map, slice_get, unwrap_or, not, ◌||◌}
use Rattle.std.specs.Str.{bytes_eq}
use Rattle.mdb_datum.specs.Bytes.{Bytes}
use Rattle.mdb_encode.specs.ArgRefusal.{arg_count}
use Rattle.mdb_schema.specs.Answer.{Asked, Lookup, bad_argument, has_argument, key_asked, lookup_of, may_ask, may_name, needs_argument, no_prefix_name, not_unique, own_name, unknown_index}
use Rattle.mdb_schema.specs.Query.{Query}
use Rattle.mdb_schema.specs.Schema.{IndexSchema, TableSchema, index_place}
use Rattle.mdb_schema.specs.Tests.{◌>>=◌, needed, passed}
use Rattle.mdb_schema.proofs.Membership.{same_key}

-- ---- values found twice

pub some_once : {X : Type 0} (o : Option X) (x y : X) → o ≡ Some x → o ≡ Some y → x ≡ y
some_once {X} o x y e f = ap (λ (found : Option X). unwrap_or found x) (sym e ∙ f)

abbrev ok_or : {X E : Type 0} → X → Result X E → X
ok_or x (Ok y) = y
ok_or x (Err e) = x

pub ok_once : {X E : Type 0} (r : Result X E) (x y : X) → r ≡ Ok x → r ≡ Ok y → x ≡ y
ok_once {X} {E} r x y e f = ap (λ (told : Result X E). ok_or x told) (sym e ∙ f)

-- ---- the index at a place

next_place : (o : Option ℕ) (n : ℕ) → option_map (λ m. m + 1) o ≡ Some n → (m : ℕ) × (o ≡ Some m) × (m + 1 ≡ n)
next_place None n e = cc
next_place (Some m) n e = (m, refl, some_once (Some (m + 1)) (m + 1) n refl e)

first_none : {A : Type 0} (o : Option ℕ) → option_map (λ m. m + 1) o ≡ Some 0 → A
first_none o e = let found = next_place o 0 e in let none : found.0 + 1 ≡ 0 = found.2 in absurd (omega (arith, none))

pub one_index : (a b : Bytes) (is : List IndexSchema) (n : ℕ) → index_place a is ≡ Some n → index_place b is ≡ Some n → a ≡ b
one_index a b [] n e f = cc
one_index a b (i ∷ is) n e f = of (bytes_eq i.name a) (bytes_eq i.name b) refl refl e f (λ m. one_index a b is m)
  where
    of : (c d : Bool) → bytes_eq i.name a ≡ c → bytes_eq i.name b ≡ d → (if c then Some 0 else option_map (λ m. m + 1) (index_place a is)) ≡ Some n
        → (if d then Some 0 else option_map (λ m. m + 1) (index_place b is)) ≡ Some n
        → ((m : ℕ) → index_place a is ≡ Some m → index_place b is ≡ Some m → a ≡ b) → a ≡ b
    of true true c d e' f' rest = sym (same_key i.name a c) ∙ same_key i.name b d
    of true false c d e' f' rest = first_none (index_place b is) (f' ∙ sym e')
    of false true c d e' f' rest = first_none (index_place a is) (e' ∙ sym f')
    of false false c d e' f' rest =
        let first = next_place (index_place a is) n e' in
        let other = next_place (index_place b is) n f' in
        let one : first.0 + 1 ≡ n = first.2 in
        let two : other.0 + 1 ≡ n = other.2 in
        let same : other.0 ≡ first.0 = omega (arith, one, two) in
        rest first.0 first.1 (other.1 ∙ ap Some same)

-- ---- where a question looks

module _ (t : TableSchema) (q : Query) where
  key_place : (place : ℕ) (i : IndexSchema) (k : Asked Bytes) (at : Lookup) → (k >>= (λ key. Ok (record { place = place; index = i; key = key }))) ≡ Ok at → place ≡ at.place
  key_place place i (Ok k) at e = ap (λ (l : Lookup). l.place) (ok_once (Ok (record { place = place; index = i; key = k })) (record { place = place; index = i; key = k }) at refl e)
  key_place place i (Err why) at e = cc

  enough_place : (place : ℕ) (i : IndexSchema) (b : Bool) (at : Lookup)
      → (passed (bad_argument arg_count) b >>= (λ enough. key_asked i q q.args >>= (λ key. Ok (record { place = place; index = i; key = key })))) ≡ Ok at → place ≡ at.place
  enough_place place i true at e = key_place place i (key_asked i q q.args) at e
  enough_place place i false at e = cc

  able_place : (place : ℕ) (i : IndexSchema) (b : Bool) (at : Lookup)
      → (passed not_unique b >>= (λ able. passed (bad_argument arg_count) (not (needs_argument q.ask) || has_argument q) >>= (λ enough. key_asked i q q.args >>= (λ key. Ok (record { place = place; index = i; key = key }))))) ≡ Ok at
      → place ≡ at.place
  able_place place i true at e = enough_place place i (not (needs_argument q.ask) || has_argument q) at e
  able_place place i false at e = cc

  abbrev by_index : ℕ → Option IndexSchema → Asked Lookup
  by_index place o = needed unknown_index o >>= (λ i. passed not_unique (may_ask q.ask i) >>= (λ able. passed (bad_argument arg_count) (not (needs_argument q.ask) || has_argument q) >>= (λ enough. key_asked i q q.args >>= (λ key. Ok (record { place = place; index = i; key = key })))))

  there_place : (place : ℕ) (o : Option IndexSchema) (at : Lookup) → by_index place o ≡ Ok at → place ≡ at.place
  there_place place None at e = cc
  there_place place (Some i) at e = able_place place i (may_ask q.ask i) at e

  named_place : (o : Option ℕ) (at : Lookup) → (needed unknown_index o >>= (λ place. by_index place (slice_get t.indexes place))) ≡ Ok at → o ≡ Some at.place
  named_place None at e = cc
  named_place (Some place) at e = ap Some (there_place place (slice_get t.indexes place) at e)

  ended_place : (b : Bool) (at : Lookup) → (passed no_prefix_name b >>= (λ named. needed unknown_index (index_place (own_name q.index) t.indexes) >>= (λ place. by_index place (slice_get t.indexes place)))) ≡ Ok at
      → index_place (own_name q.index) t.indexes ≡ Some at.place
  ended_place true at e = named_place (index_place (own_name q.index) t.indexes) at e
  ended_place false at e = cc

  -- the index of its name
  pub lookup_place : (at : Lookup) → lookup_of t q ≡ Ok at → index_place (own_name q.index) t.indexes ≡ Some at.place
  lookup_place at e = ended_place (may_name q.ask q) at e

pub one_index_asked : (t : TableSchema) (q r : Query) (a b : Lookup) → lookup_of t q ≡ Ok a → lookup_of t r ≡ Ok b → a.place ≡ b.place → own_name q.index ≡ own_name r.index
one_index_asked t q r a b e f same =
    one_index (own_name q.index) (own_name r.index) t.indexes b.place (lookup_place t q a e ∙ ap Some same) (lookup_place t r b f)
