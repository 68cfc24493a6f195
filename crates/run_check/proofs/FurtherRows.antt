-- Further lines, taken one after the other.
use Rattle.std.proofs.Common.{arith, ◌≡◌, refl, ap, subst, sym, ◌∙◌, ℕ, suc, ◌+◌, ◌-◌, ◌<◌, ◌≤◌, List, [], ◌∷◌, ◌++◌, length, Bool, true, false, Ok, Err, append_assoc, append-nil, length-append}
use Rattle.std.specs.Prelude.{◌&&◌, if◌then◌else◌}
use Rattle.mdb_datum.specs.Bytes.{Bytes}
use Rattle.mdb_schema.specs.Tests.{◌>>=◌}
use Rattle.run_check.specs.Shape as shape
use Rattle.run_check.specs.Shape.{Taken, further_from, is_further, line_from, take_line, take_rows}
use Rattle.run_check.specs.TextLines.{TextLine}
use Rattle.run_check.specs.declared.bad.BadLine.{BadLine}
use Rattle.run_check.specs.declared.place.Place.{Place}
use Rattle.run_check.specs.inner.Further.{IsBehindFurther, IsBehindRow, IsBehindRows, IsBetween, IsNoRow, all_further, put_front, with_front}
use Rattle.run_check.specs.Views.{place_of}

-- ---- one line, over plain data

-- rows are taken line by line
abbrev others_behind : Bytes → Taken Bytes → Taken Bytes
others_behind line r = r >>= (λ others. Ok (10 ∷ (line ++ others.0), others.1))

front_is : (line : Bytes) (r : Taken Bytes) → others_behind line r ≡ with_front (10 ∷ line) r
front_is line (Ok t) = refl
front_is line (Err bad) = refl

pub row_taken : (at after : shape.Place) (line : Bytes) (n : ℕ) → take_line at ≡ Ok (line, after) → is_further line ≡ true → take_rows (suc n) at ≡ with_front (10 ∷ line) (take_rows n after)
row_taken at after line n taken further = rw (taken, further) (front_is line (take_rows n after))

pub row_refused : (at after : shape.Place) (line : Bytes) (n : ℕ) → take_line at ≡ Ok (line, after) → is_further line ≡ false → take_rows (suc n) at ≡ Err at.next
row_refused at after line n taken other = rw (taken, other) refl

pub row_missing : (at : shape.Place) (bad n : ℕ) → take_line at ≡ Err bad → take_rows (suc n) at ≡ Err bad
row_missing at bad n missing = rw missing refl

-- all that there are
abbrev text_taken : Taken Bytes → Bytes
text_taken (Ok t) = t.0
text_taken (Err bad) = []

abbrev place_taken : shape.Place → Taken Bytes → shape.Place
place_taken none (Ok t) = t.1
place_taken none (Err bad) = none

-- a first line, and what follows where it is taken, and where it isn't
abbrev line_or : ℕ → TextLine → List TextLine → Bool → Taken Bytes
line_or n l ls t = if t then Ok (l.text, record { next = n + 1; lines = ls }) else Err n

abbrev further_or : ℕ → TextLine → List TextLine → Bool → Bytes × shape.Place
further_or n l ls t =
    if t then shape.before_others l.text (further_from (n + 1) ls)
    else ([], record { next = n; lines = l ∷ ls })

pub further_taken : (n : ℕ) (ls : List TextLine) (line : Bytes) (after : shape.Place) → line_from n ls ≡ Ok (line, after) → is_further line ≡ true → further_from n ls ≡ put_front (10 ∷ line) (further_from after.next after.lines)
further_taken n [] line after taken further = cc
further_taken n (l ∷ ls) line after taken further = of l.ended taken
  where
    of : (t : Bool) → line_or n l ls t ≡ Ok (line, after) → further_or n l ls (t && is_further l.text) ≡ put_front (10 ∷ line) (further_from after.next after.lines)
    of true e =
        let text : l.text ≡ line = ap text_taken e in
        let place : record { next = n + 1; lines = ls } ≡ after = ap (place_taken after) e in
        let is : is_further l.text ≡ true = subst (λ (x : Bytes). is_further x ≡ true) (sym text) further in
        ap (further_or n l ls) is
        ∙ ap (λ (x : Bytes). shape.before_others x (further_from (n + 1) ls)) text
        ∙ ap (λ (p : shape.Place). put_front (10 ∷ line) (further_from p.next p.lines)) place
    of false e = cc

pub further_refused : (n : ℕ) (ls : List TextLine) (line : Bytes) (after : shape.Place) → line_from n ls ≡ Ok (line, after) → is_further line ≡ false → further_from n ls ≡ ([], record { next = n; lines = ls })
further_refused n [] line after taken other = refl
further_refused n (l ∷ ls) line after taken other = of l.ended taken
  where
    of : (t : Bool) → line_or n l ls t ≡ Ok (line, after) → further_or n l ls (t && is_further l.text) ≡ ([], record { next = n; lines = l ∷ ls })
    of true e = ap (further_or n l ls) (subst (λ (x : Bytes). is_further x ≡ false) (sym (ap text_taken e)) other)
    of false e = refl

pub further_missing : (n bad : ℕ) (ls : List TextLine) → line_from n ls ≡ Err bad → further_from n ls ≡ ([], record { next = n; lines = ls })
further_missing n bad [] missing = refl
further_missing n bad (l ∷ ls) missing = of l.ended missing
  where
    of : (t : Bool) → line_or n l ls t ≡ Err bad → further_or n l ls (t && is_further l.text) ≡ ([], record { next = n; lines = l ∷ ls })
    of true e = cc
    of false e = refl

pub shorter_behind : (bs line rest : Bytes) → bs ≡ line ++ 10 ∷ rest → length rest < length bs
shorter_behind bs line rest is =
    let long : length bs ≡ length line + length (10 ∷ rest) = ap length is ∙ length-append line (10 ∷ rest) in
    omega (arith, long)

-- ---- so many

pub twice : {A : Type 0} (t u : List A) (r : Taken (List A)) → with_front t (with_front u r) ≡ with_front (t ++ u) r
twice {A} t u (Ok x) = let with_place : List A → Taken (List A) = λ y. Ok (y, x.1) in ap with_place (sym (append_assoc t u x.0))
twice t u (Err bad) = refl

joined : (at mid behind : Place) (t u : Bytes) → IsBetween at t mid → IsBetween mid u behind → IsBetween at (t ++ u) behind
joined at mid behind t u first second = first ∙ ap (λ (y : Bytes). t ++ y) second ∙ sym (append_assoc t u (10 ∷ behind.rest.now))

-- behind k of them
pub record AreTaken (count k : ℕ) (at place : Place) : Type 0 where
  pub text : Bytes
  pub taken : take_rows count (place_of at) ≡ with_front text (take_rows (count - k) (place_of place))
  pub between : IsBetween at text place

pub no_front : {A : Type 0} (r : Taken (List A)) → r ≡ with_front [] r
no_front (Ok t) = refl
no_front (Err bad) = refl

pub none_taken_yet : (count : ℕ) (at : Place) → AreTaken count 0 at at
none_taken_yet count at = record { text = []; taken = no_front (take_rows count (place_of at)) ∙ ap (λ (m : ℕ). with_front [] (take_rows m (place_of at))) (omega arith); between = refl }

pub one_more_taken : (count k : ℕ) (at place next : Place) → k < count → AreTaken count k at place → IsBehindRow place next → AreTaken count (k + 1) at next
one_more_taken count k at place next lt so_far row =
    let left : count - k ≡ suc (count - (k + 1)) = omega (arith, lt) in
    record {
      text = so_far.text ++ row.text;
      taken =
          so_far.taken
          ∙ ap (λ (m : ℕ). with_front so_far.text (take_rows m (place_of place))) left
          ∙ ap (with_front so_far.text) (row.rows (count - (k + 1)))
          ∙ twice so_far.text row.text (take_rows (count - (k + 1)) (place_of next));
      between = joined at place next so_far.text row.text so_far.between row.between;
    }

pub all_taken : (count k : ℕ) (at place : Place) → count ≤ k → AreTaken count k at place → IsBehindRows count at place
all_taken count k at place le so_far =
    let left : count - k ≡ 0 = omega (arith, le) in
    record {
      text = so_far.text;
      taken =
          so_far.taken
          ∙ ap (λ (m : ℕ). with_front so_far.text (take_rows m (place_of place))) left
          ∙ ap (λ (y : Bytes). Ok (y, place_of place)) (append-nil so_far.text);
      between = so_far.between;
    }

pub bad_row : (count k : ℕ) (at place : Place) (bad : BadLine) → k < count → AreTaken count k at place → IsNoRow place bad → take_rows count (place_of at) ≡ Err bad.line
bad_row count k at place bad lt so_far none =
    let left : count - k ≡ suc (count - (k + 1)) = omega (arith, lt) in
    so_far.taken
    ∙ ap (λ (m : ℕ). with_front so_far.text (take_rows m (place_of place))) left
    ∙ ap (with_front so_far.text) (none.rows (count - (k + 1)))

-- ---- all of them

pub record AreFurther (at place : Place) : Type 0 where
  pub text : Bytes
  pub taken : all_further at ≡ put_front text (all_further place)
  pub between : IsBetween at text place

pub no_further_yet : (at : Place) → AreFurther at at
no_further_yet at = record { text = []; taken = refl; between = refl }

front_twice : (t u : Bytes) (r : Bytes × shape.Place) → put_front t (put_front u r) ≡ put_front (t ++ u) r
front_twice t u r = ap (λ (y : Bytes). (y, r.1)) (sym (append_assoc t u r.0))

pub one_further : (at place next : Place) → AreFurther at place → IsBehindRow place next → AreFurther at next
one_further at place next so_far row = record {
  text = so_far.text ++ row.text;
  taken = so_far.taken ∙ ap (put_front so_far.text) row.further ∙ front_twice so_far.text row.text (all_further next);
  between = joined at place next so_far.text row.text so_far.between row.between;
}

pub no_more : (at place : Place) (bad : BadLine) → AreFurther at place → IsNoRow place bad → IsBehindFurther at place
no_more at place bad so_far none = record {
  text = so_far.text;
  taken = so_far.taken ∙ ap (put_front so_far.text) none.further ∙ ap (λ (y : Bytes). (y, place_of place)) (append-nil so_far.text);
  between = so_far.between;
}
