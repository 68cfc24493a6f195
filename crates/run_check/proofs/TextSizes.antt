-- Replies are parts of a text, and so no more and no longer than that.
use Rattle.std.proofs.Common.{arith, ◌≡◌, refl, ap, ℕ, suc, ◌+◌, ◌≤◌, List, [], ◌∷◌, ◌++◌, length, map, decimal, codes, length-append}
use Rattle.std.specs.Bool.{⊤}
use Rattle.mdb_datum.specs.Bytes.{Bytes}
use Rattle.mdb_datum.specs.Row.{Fields}
use Rattle.mdb_datum.specs.Written.{row_text}
use Rattle.mdb_schema.specs.declared.answer.Answer.TheVariants.{Many}
use Rattle.client_script.specs.Legal.{all_printed, printed}
use Rattle.client_script.specs.Reply.{Reply, answered, heading, line_text, lines_text, output_text, reply_text, row_lines}
use Rattle.client_script.specs.declared.line.Line.{Line}
use Rattle.client_script.proofs.PrintedCounts.{printed_few}
use Rattle.run_check.proofs.FewWritten.{replies_in}
use Rattle.run_check.proofs.OutputCut.{AreReplies, HaveReplies}

-- ---- texts of replies are parts of the output

-- no text of a reply is longer
abbrev pub AreShort : ℕ → List Reply → Type 0
AreShort n [] = ⊤
AreShort n (r ∷ rs) = (length (reply_text r) ≤ n) × AreShort n rs

abbrev pub AllShort : ℕ → List (List Reply) → Type 0
AllShort n [] = ⊤
AllShort n (rs ∷ rss) = AreShort n rs × AllShort n rss

line_long : (n : ℕ) (r : Reply) → length (reply_text r) + 1 ≤ length (line_text n r)
line_long n r =
    let whole = length-append (decimal n) (codes ": " ++ (reply_text r ++ 10 ∷ [])) in
    let text = length-append (reply_text r) (10 ∷ []) in
    omega (arith, whole, text)

lines_short : (n : ℕ) (ls : List Line) (rs : List Reply) → AreReplies ls rs → length (lines_text ls rs) ≤ n → AreShort n rs × (length rs ≤ length (lines_text ls rs))
lines_short n [] [] clean le = (tt, omega arith)
lines_short n [] (r ∷ rs) clean le = absurd clean
lines_short n (l ∷ ls) [] clean le = absurd clean
lines_short n (l ∷ ls) (r ∷ rs) clean le =
    let whole = length-append (line_text l.number r) (lines_text ls rs) in
    let one = line_long l.number r in
    let rest = lines_short n ls rs clean.1 (omega (arith, whole, le)) in
    let few = rest.1 in
    ((omega (arith, whole, one, le), rest.0), omega (arith, whole, one, few))

pub output_short : (n k : ℕ) (ws : List Bytes) (ss : List (List Line)) (rss : List (List Reply)) → length ws ≡ length ss → HaveReplies ss rss → length (output_text k ws ss rss) ≤ n → AllShort n rss × (replies_in rss ≤ length (output_text k ws ss rss))
output_short n k ws [] [] named clean le = (tt, omega arith)
output_short n k ws [] (rs ∷ rss) named clean le = absurd clean
output_short n k ws (s ∷ ss) [] named clean le = absurd clean
output_short n k [] (s ∷ ss) (rs ∷ rss) named clean le = absurd (omega (arith, named))
output_short n k (w ∷ ws) (s ∷ ss) (rs ∷ rss) named clean le =
    let whole = length-append (heading k w) (lines_text s rs ++ output_text (k + 1) ws ss rss) in
    let body = length-append (lines_text s rs) (output_text (k + 1) ws ss rss) in
    let first = lines_short n s rs clean.0 (omega (arith, whole, body, le)) in
    let rest = output_short n (k + 1) ws ss rss (omega (arith, named)) clean.1 (omega (arith, whole, body, le)) in
    let a = first.1 in
    let b = rest.1 in
    ((first.0, rest.0), omega (arith, whole, body, a, b))

pub all_printed_few : (k : ℕ) (rss : List (List Reply)) → length (all_printed k rss) ≤ replies_in rss
all_printed_few k [] = omega arith
all_printed_few k (rs ∷ rss) =
    let both = length-append (map (λ m. (m, k)) (printed rs)) (all_printed (k + 1) rss) in
    let size = length_pairs k (printed rs) in
    let first = printed_few rs in
    let rest = all_printed_few (k + 1) rss in
    omega (arith, both, size, first, rest)
  where
    length_pairs : (j : ℕ) (ms : List ℕ) → length (map {A = ℕ} {B = ℕ × ℕ} (λ m. (m, j)) ms) ≡ length ms
    length_pairs j [] = refl
    length_pairs j (m ∷ ms) = ap suc (length_pairs j ms)

rows_long : (rows : List Fields) → length rows ≤ length (row_lines rows)
rows_long [] = omega arith
rows_long (r ∷ rows) =
    let both = length-append (row_text r) (row_lines rows) in
    let rest = rows_long rows in
    omega (arith, both, rest)

pub many_long : (rows : List Fields) → length rows ≤ length (reply_text (answered (Many rows)))
many_long rows =
    let number = length-append (decimal (length rows)) (row_lines rows) in
    let lines = rows_long rows in
    omega (arith, number, lines)
