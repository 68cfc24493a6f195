-- What clap makes of one word that may name a file.
use Rattle.std.proofs.Common.{◌≡◌, ◌&&◌, ◌==◌, ℕ, Bool, true, false, true≢false, refl, sym, List, [], ◌∷◌, None}
use Rattle.std.specs.Str.{bytes_eq}
use Rattle.std.proofs.lemmas.Bool.{not-true}
use Rattle.clap.specs.Words.{Rule, Text}
use Rattle.clap.specs.Lexer.{long_of, short_of}
use Rattle.clap.specs.Walk.{Held, idle, positional, value, word_met}
use Rattle.run_io.specs.Named.{may_name_a_file}

-- the parts of a test
pub left : (a b : Bool) → (a && b) ≡ true → a ≡ true
left true b e = refl
left false b e = e

pub right : (a b : Bool) → (a && b) ≡ true → b ≡ true
right true b e = e
right false b e = absurd (true≢false (sym e))

-- it doesn't begin with `-`
no_hyphen : (x : ℕ) (xs : List ℕ) → may_name_a_file (x ∷ xs) ≡ true → (x == 45) ≡ false
no_hyphen x xs e = not-true (x == 45) (left _ _ e)

-- it is no flag
pub plain_long : (w : Text) → may_name_a_file w ≡ true → long_of w ≡ None
plain_long [] e = refl
plain_long (x ∷ xs) e = rw (no_hyphen x xs e) refl

pub plain_short : (w : Text) → may_name_a_file w ≡ true → short_of w ≡ None
plain_short [] e = refl
plain_short (x ∷ xs) e = rw (no_hyphen x xs e) refl

pub no_dashes : (w : Text) → may_name_a_file w ≡ true → bytes_eq w (45 ∷ 45 ∷ []) ≡ false
no_dashes [] e = refl
no_dashes (x ∷ xs) e = rw (no_hyphen x xs e) refl

-- so it goes to a positional
pub met_idle : (c : List Rule) (p : ℕ) (w : Text) (h : Held) → may_name_a_file w ≡ true → word_met c [] false idle p w h ≡ (h, value)
met_idle c p w h e = rw (no_dashes w e, plain_long w e, plain_short w e) refl

pub met_more : (c : List Rule) (p : ℕ) (w : Text) (h : Held) → may_name_a_file w ≡ true → word_met c [] false positional p w h ≡ (h, value)
met_more c p w h e = rw (no_dashes w e, plain_long w e, plain_short w e) refl
