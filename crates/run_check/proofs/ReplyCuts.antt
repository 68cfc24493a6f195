-- The text of a reply, cut out of what is left of the text.
use Rattle.std.proofs.Common.{arith, ◌≡◌, refl, ap, sym, ◌∙◌, ℕ, ◌+◌, ◌-◌, ◌<◌, ◌≤◌, ◌∷◌, ◌++◌, length, take, drop, true, Some, Ok, decimal, append_assoc, length-append}
use Rattle.std.specs.Prelude.{codes}
use Rattle.std.proofs.lemmas.List.{drop_at, take_at}
use Rattle.mdb_datum.specs.Bytes.{Bytes}
use Rattle.client_script.specs.declared.line.Line.{Line}
use Rattle.run_check.specs.Shape as plain
use Rattle.run_check.specs.Shape.{answer_in}
use Rattle.run_check.specs.declared.mode.Mode.{Mode}
use Rattle.run_check.proofs.TextsBack.{answer_back}

-- bytes end with others
abbrev pub EndsWith : Bytes → Bytes → Type 0
EndsWith bs r = (pre : Bytes) × (bs ≡ pre ++ r)

pub answer_splits : (n : ℕ) (line answer : Bytes) → answer_in n line ≡ Some answer → EndsWith line answer
answer_splits n line answer e = (decimal n ++ codes ": ", answer_back n line answer e ∙ sym (append_assoc (decimal n) (codes ": ") answer))

-- ---- the text

module _ (bs line rest answer further left : Bytes) (cut : bs ≡ line ++ 10 ∷ rest) (ends : EndsWith line answer) (between : 10 ∷ rest ≡ further ++ 10 ∷ left) where
  whole : bs ≡ ends.0 ++ ((answer ++ further) ++ 10 ∷ left)
  whole =
      cut
      ∙ ap (λ (x : Bytes). x ++ 10 ∷ rest) ends.1
      ∙ append_assoc ends.0 answer (10 ∷ rest)
      ∙ ap (λ (x : Bytes). ends.0 ++ (answer ++ x)) between
      ∙ ap (λ (x : Bytes). ends.0 ++ x) (sym (append_assoc answer further (10 ∷ left)))

  line_long : length line ≡ length ends.0 + length answer
  line_long = ap length ends.1 ∙ length-append ends.0 answer

  long : length bs ≡ length ends.0 + (length (answer ++ further) + length (10 ∷ left))
  long = ap length whole ∙ length-append ends.0 ((answer ++ further) ++ 10 ∷ left) ∙ ap (λ (n : ℕ). length ends.0 + n) (length-append (answer ++ further) (10 ∷ left))

  pub answer_short : length answer ≤ length line
  answer_short = let e = line_long in omega (arith, e)

  pub text_fits : length line - length answer + length left < length bs
  text_fits = let e = line_long in let f = long in omega (arith, e, f)

  pub text_is : take (length bs - (length line - length answer) - length left - 1) (drop (length line - length answer) bs) ≡ answer ++ further
  text_is =
      let e = line_long in
      let f = long in
      let front : length line - length answer ≡ length ends.0 = omega (arith, e) in
      let size : length bs - length ends.0 - length left - 1 ≡ length (answer ++ further) = omega (arith, f) in
      ap (λ (n : ℕ). take (length bs - n - length left - 1) (drop n bs)) front
      ∙ ap (λ (x : Bytes). take (length bs - length ends.0 - length left - 1) (drop (length ends.0) x)) whole
      ∙ ap (take (length bs - length ends.0 - length left - 1)) (drop_at ends.0 ((answer ++ further) ++ 10 ∷ left) (length ends.0) refl)
      ∙ take_at (answer ++ further) (10 ∷ left) (length bs - length ends.0 - length left - 1) (sym size)

-- ---- the reply

pub reply_taken : (mode : Mode) (l : Line) (at second behind : plain.Place) (text answer further : Bytes) → plain.take_line at ≡ Ok (text, second) → answer_in l.number text ≡ Some answer → plain.may_answer mode l.command answer ≡ true → plain.take_further answer second ≡ Ok (further, behind) → plain.take_reply mode l at ≡ Ok (record { line = at.next; text = answer ++ further }, behind)
reply_taken mode l at second behind text answer further line told allowed more = rw (line, told, allowed, more) refl
