-- The lines of a script that was read have numbers from 1 to 100,000.
use Rattle.std.proofs.Common.{arith, ◌≡◌, refl, subst, ℕ, suc, ◌+◌, ◌^◌, ◌<◌, ◌≤◌, List, [], ◌∷◌, ◌++◌, length, Bool, true, false, ◌==◌, Ok, Err, All}
use Rattle.std.specs.Bool.{⊤}
use Rattle.std.specs.Prelude.{if◌then◌else◌, nat_le}
use Rattle.std.specs.Str.{is_utf8}
use Rattle.std.proofs.lemmas.Bool.Decides.{nat_tests}
use Rattle.mdb_datum.specs.Bytes.{Bytes}
use Rattle.mdb_schema.proofs.PassedTests.{passed_holds}
use Rattle.mdb_schema.specs.Tests.{passed}
use Rattle.client_script.specs.Grammar.{command_in}
use Rattle.client_script.specs.Lines.{lines_of, trimmed, without_return}
use Rattle.client_script.specs.Refusal.{Ruled, not_text, too_many_lines}
use Rattle.client_script.specs.Script.{at_line, line_in, line_limit, lines_in, script_in, text_in}
use Rattle.client_script.specs.declared.command.Command.{Command}
use Rattle.client_script.specs.declared.line.Line.{Line}
use Rattle.run_check.specs.Checked.{HasNoFeed, IsRead}
use Rattle.run_check.proofs.Outcomes.{IfOk, after_any, ok_known, ok_so, ok_then}
use Rattle.run_check.proofs.PlainTexts.{is_flat, lacks_cons}
use Rattle.run_check.proofs.RepliesRead.{AreFlatWords}
use Rattle.std.proofs.lemmas.Bool.{not_from_false, false_from_ne_true, eqb-true}

-- no number is as great
abbrev pub AreBelow : ℕ → List Line → Type 0
AreBelow k [] = ⊤
AreBelow k (l ∷ ls) = (l.number < k) × AreBelow k ls

abbrev pub AllBelow : ℕ → List (List Line) → Type 0
AllBelow k [] = ⊤
AllBelow k (s ∷ ss) = AreBelow k s × AllBelow k ss

below_more : (k m : ℕ) (ls : List Line) → k ≤ m → AreBelow k ls → AreBelow m ls
below_more k m [] le all = tt
below_more k m (l ∷ ls) le all = (let lt = all.0 in omega (arith, le, lt), below_more k m ls le all.1)

both_below : (k : ℕ) (ls ms : List Line) → AreBelow k ls → AreBelow k ms → AreBelow k (ls ++ ms)
both_below k [] ms all others = others
both_below k (l ∷ ls) ms all others = (all.0, both_below k ls ms all.1 others)

at_line_below : (n : ℕ) (r : Ruled Command) → IfOk (AreBelow (n + 1)) (at_line n r)
at_line_below n (Ok c) = (omega arith, tt)
at_line_below n (Err e) = tt

text_below : (n : ℕ) (text : Bytes) → IfOk (AreBelow (n + 1)) (text_in n text)
text_below n [] = tt
text_below n (b ∷ bs) = by (b == 35)
  where
    by : (t : Bool) → IfOk (AreBelow (n + 1)) (if t then Ok [] else at_line n (command_in (b ∷ bs)))
    by true = tt
    by false = at_line_below n (command_in (b ∷ bs))

lines_below : (n : ℕ) (ls : List Bytes) → IfOk (AreBelow (n + length ls)) (lines_in n ls)
lines_below n [] = tt
lines_below n (l ∷ ls) =
    ok_then (AreBelow (n + 1)) (AreBelow (n + suc (length ls))) (line_in n l) _ (text_below n (trimmed (without_return l)))
    (λ first low. ok_then (AreBelow (n + 1 + length ls)) (AreBelow (n + suc (length ls))) (lines_in (n + 1) ls) _ (lines_below (n + 1) ls)
    (λ others low'. both_below (n + suc (length ls)) first others (below_more (n + 1) (n + suc (length ls)) first (omega arith) low) (below_more (n + 1 + length ls) (n + suc (length ls)) others (omega arith) low')))

script_below : (bytes : Bytes) → IfOk (AreBelow (2 ^ 64)) (script_in bytes)
script_below bytes =
    after_any (AreBelow (2 ^ 64)) (passed not_text (is_utf8 bytes)) _
    (λ text. ok_known (AreBelow (2 ^ 64)) (passed too_many_lines (nat_le (length (lines_of bytes)) line_limit)) _
    (λ few is. let test : nat_le (length (lines_of bytes)) line_limit ≡ true = passed_holds too_many_lines (nat_le (length (lines_of bytes)) line_limit) few is in
    let le : length (lines_of bytes) ≤ 100000 = grind (arith, nat_tests, test) in
    ok_so (AreBelow (1 + length (lines_of bytes))) (AreBelow (2 ^ 64)) (lines_in 1 (lines_of bytes)) (lines_below 1 (lines_of bytes)) (λ ls low. below_more (1 + length (lines_of bytes)) (2 ^ 64) ls (omega (arith, le)) low)))

pub read_below : (ls : List Line) → IsRead ls → AreBelow (2 ^ 64) ls
read_below ls read = subst (IfOk (AreBelow (2 ^ 64))) read.1 (script_below read.0)

pub all_read_below : (ss : List (List Line)) → All IsRead ss → AllBelow (2 ^ 64) ss
all_read_below [] all = tt
all_read_below (s ∷ ss) all = (read_below s (all 0 s (omega arith)), all_read_below ss (λ j d lt. all (suc j) d (omega (arith, lt))))

-- ---- the words of headings

no_feed_flat : (w : Bytes) → HasNoFeed w → is_flat w ≡ true
no_feed_flat [] none = refl
no_feed_flat (b ∷ w) none =
    let other : (b == 10) ≡ false = false_from_ne_true (b == 10) (λ e. none 0 b (omega arith) (eqb-true b 10 e)) in
    lacks_cons 10 b w (not_from_false (b == 10) other) (no_feed_flat w (λ j d lt. none (suc j) d (omega (arith, lt))))

pub words_flat : (ws : List Bytes) → All HasNoFeed ws → AreFlatWords ws
words_flat [] all = tt
words_flat (w ∷ ws) all = (no_feed_flat w (all 0 w (omega arith)), words_flat ws (λ j d lt. all (suc j) d (omega (arith, lt))))
