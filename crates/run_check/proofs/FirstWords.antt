-- What follows a word that bytes begin with.
use Rattle.std.proofs.Common.{◌≡◌, refl, ap, sym, ◌∙◌, ◌+◌, [], ◌∷◌, ◌++◌, length, take, drop, Bool, true, false, Option, Some, None, option_map}
use Rattle.std.specs.Prelude.{◌&&◌, ◌==◌, nat_eq, if◌then◌else◌, MatchOption}
use Rattle.std.specs.Borrow.{Bor}
use Rattle.std.specs.Cmp.Lexicographic.{pointwise}
use Rattle.std.proofs.lemmas.Bool.{and_parts}
use Rattle.std.specs.Str.{bytes_eq}
use Rattle.mdb_datum.specs.Bytes.{Bytes}
use Rattle.run_check.specs.Forms.{alone, fits}
use Rattle.run_check.specs.TextLines.{behind, holds_of}

pub behind_yes : (w bs : Bytes) → pointwise nat_eq (take (length w) bs) w ≡ true → behind w bs ≡ Some (drop (length w) bs)
behind_yes [] bs same = refl
behind_yes (c ∷ w) [] same = cc
behind_yes (c ∷ w) (b ∷ bs) same =
    let p = and_parts (b == c) (pointwise nat_eq (take (length w) bs) w) same in
    rw p.0 (behind_yes w bs p.1)

pub behind_no : (w bs : Bytes) → pointwise nat_eq (take (length w) bs) w ≡ false → behind w bs ≡ None
behind_no [] [] other = cc
behind_no [] (b ∷ bs) other = cc
behind_no (c ∷ w) [] other = refl
behind_no (c ∷ w) (b ∷ bs) other = of (b == c) other (behind_no w bs)
  where
    of : (t : Bool) → (t && pointwise nat_eq (take (length w) bs) w) ≡ false → (pointwise nat_eq (take (length w) bs) w ≡ false → behind w bs ≡ None) → (if t then behind w bs else None) ≡ None
    of true e rest = rest e
    of false e rest = refl

pub alone_is : (w bs : Bytes) → fits (alone w) bs ≡ bytes_eq bs w
alone_is [] [] = refl
alone_is [] (b ∷ bs) = refl
alone_is (c ∷ w) [] = refl
alone_is (c ∷ w) (b ∷ bs) = of (b == c) (alone_is w bs)
  where
    of : (t : Bool) → fits (alone w) bs ≡ bytes_eq bs w → holds_of (fits []) (if t then behind w bs else None) ≡ (t && bytes_eq bs w)
    of true e = e
    of false e = refl

-- so std's answer to the same question is this one
pub behind_stripped : (w bs : Bytes) (r : Option (Bor Bytes)) → MatchOption r (pointwise nat_eq (take (length w) bs) w ≡ false) (λ x. (pointwise nat_eq (take (length w) bs) w ≡ true) × (x.now ≡ drop (length w) bs) × (length x.now + length w ≡ length bs)) → option_map (λ (x : Bor Bytes). x.now) r ≡ behind w bs
behind_stripped w bs None other = sym (behind_no w bs other)
behind_stripped w bs (Some x) same = ap (λ (rest : Bytes). Some rest) same.1 ∙ sym (behind_yes w bs same.0)

-- bytes are two words where what follows the first is the second
pub two_words : (w x bs : Bytes) → bytes_eq bs (w ++ x) ≡ holds_of (λ rest. bytes_eq rest x) (behind w bs)
two_words [] x bs = refl
two_words (c ∷ w) x [] = refl
two_words (c ∷ w) x (b ∷ bs) = of (b == c) (two_words w x bs)
  where
    of : (t : Bool) → bytes_eq bs (w ++ x) ≡ holds_of (λ rest. bytes_eq rest x) (behind w bs) → (t && bytes_eq bs (w ++ x)) ≡ holds_of (λ rest. bytes_eq rest x) (if t then behind w bs else None)
    of true e = e
    of false e = refl
