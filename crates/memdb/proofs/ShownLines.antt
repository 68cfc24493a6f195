-- Lines of printed characters, each of which ends with a line feed: they are UTF-8, and the lines
-- of their text are these.
use Rattle.std.proofs.Common.{arith, ◌≡◌, refl, ap, ◌∙◌, ℕ, ◌<◌, ◌≤◌, List, [], ◌∷◌, ◌++◌, Bool, true, ne_eqb, IsUtf8}
use Rattle.std.specs.Prelude.{◌&&◌, if◌then◌else◌, nat_le, nat_lt, ⊤}
use Rattle.std.specs.List.{list_all}
use Rattle.std.specs.Str.{IsAscii}
use Rattle.std.proofs.lemmas.Bool.{and_from, and_parts}
use Rattle.std.proofs.lemmas.Bool.Decides.{nat_tests}
use Rattle.std.proofs.lemmas.Str.{IsUtf8-append, IsUtf8-from_ascii}
use Rattle.std.proofs.lemmas.Str.Ascii.{IsAscii-cons, IsAscii-nil}
use Rattle.mdb_datum.specs.Bytes.{Bytes}
use Rattle.mdb_schema.specs.Names.{is_name_byte}
use Rattle.client_script.specs.Lines.{first_from, lines_of}
use Rattle.memdb.specs.inner.MadeText.{lines_text}

-- a blank, or a printed character of ASCII
abbrev pub is_shown : ℕ → Bool
is_shown b = nat_le 32 b && nat_lt b 127

-- the test tells the bounds
shown_bounds : (b : ℕ) → is_shown b ≡ true → (32 ≤ b) × (b < 127)
shown_bounds b h = grind (arith, nat_tests)

-- bytes of names are printed characters
name_byte_shown : (b : ℕ) → is_name_byte b ≡ true → is_shown b ≡ true
name_byte_shown b h = grind (arith, nat_tests)

-- and so names are lines
pub name_shown : (s : Bytes) → list_all is_name_byte s ≡ true → list_all is_shown s ≡ true
name_shown [] h = refl
name_shown (b ∷ bs) h =
    let p = and_parts (is_name_byte b) (list_all is_name_byte bs) h in
    and_from (is_shown b) (list_all is_shown bs) (name_byte_shown b p.0) (name_shown bs p.1)

-- all of them are ASCII
shown_ascii : (s : Bytes) → list_all is_shown s ≡ true → IsAscii s
shown_ascii [] h = IsAscii-nil
shown_ascii (b ∷ bs) h =
    let p = and_parts (is_shown b) (list_all is_shown bs) h in
    let w = shown_bounds b p.0 in
    IsAscii-cons b bs (omega arith) (shown_ascii bs p.1)

-- and so UTF-8
pub shown_utf8 : (s : Bytes) → list_all is_shown s ≡ true → IsUtf8 s
shown_utf8 s h = IsUtf8-from_ascii s (shown_ascii s h)

-- ---- lines

-- each line has printed characters alone
abbrev pub AreShown : List Bytes → Type 0
AreShown [] = ⊤
AreShown (l ∷ ls) = (list_all is_shown l ≡ true) × AreShown ls

-- some lines, and then others
pub shown_append : (ls ms : List Bytes) → AreShown ls → AreShown ms → AreShown (ls ++ ms)
shown_append [] ms h k = k
shown_append (l ∷ ls) ms h k = (h.0, shown_append ls ms h.1 k)

-- a line feed is UTF-8
feed_utf8 : IsUtf8 (10 ∷ [])
feed_utf8 = IsUtf8-from_ascii (10 ∷ []) (IsAscii-cons 10 [] (omega arith) IsAscii-nil)

-- and so is the text of lines
pub lines_utf8 : (ls : List Bytes) → AreShown ls → IsUtf8 (lines_text ls)
lines_utf8 [] h = IsUtf8-from_ascii [] IsAscii-nil
lines_utf8 (l ∷ ls) h =
    IsUtf8-append l (10 ∷ lines_text ls) (shown_utf8 l h.0) (IsUtf8-append (10 ∷ []) (lines_text ls) feed_utf8 (lines_utf8 ls h.1))

-- a line in front of a line feed is the first of the lines
first_of_lines : (l rest : Bytes) → list_all is_shown l ≡ true → lines_of (l ++ 10 ∷ rest) ≡ l ∷ lines_of rest
first_of_lines [] rest h = refl
first_of_lines (b ∷ bs) rest h =
    let p = and_parts (is_shown b) (list_all is_shown bs) h in
    let w = shown_bounds b p.0 in
    let more = lines_of (bs ++ 10 ∷ rest) in
    ap (λ (t : Bool). if t then [] ∷ more else first_from b more) (ne_eqb b 10 (λ e. omega arith)) ∙ ap (first_from b) (first_of_lines bs rest p.1)

-- the lines of a text of lines are these
pub lines_back : (ls : List Bytes) → AreShown ls → lines_of (lines_text ls) ≡ ls
lines_back [] h = refl
lines_back (l ∷ ls) h = first_of_lines l (lines_text ls) h.0 ∙ ap (λ ms. l ∷ ms) (lines_back ls h.1)
