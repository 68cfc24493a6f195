-- What the text of a client is read as.
use Rattle.std.proofs.Common.{arith, ◌≡◌, refl, ap, ◌∙◌, ℕ, ◌+◌, ◌*◌, ◌≤◌, List, [], ◌∷◌, ◌++◌, length, true, decimal, length-append}
use Rattle.std.specs.Prelude.{codes, nat_le, Ok}
use Rattle.std.specs.List.{list_all}
use Rattle.std.proofs.lemmas.Bool.Decides.{nat_tests}
use Rattle.std.proofs.lemmas.Str.{is_utf8-from_IsUtf8}
use Rattle.mdb_datum.specs.Bytes.{Bytes}
use Rattle.client_script.proofs.LineSplits.{lines_in-read}
use Rattle.client_script.proofs.ScriptAnswered.{script_lines}
use Rattle.client_script.specs.Script.{line_limit, line_in, lines_in, script_in}
use Rattle.client_script.proofs.LineSplits.{put_before}
use Rattle.client_script.specs.declared.command.AskCommand.TheVariants as ask_line
use Rattle.client_script.specs.declared.command.Command.{Command}
use Rattle.client_script.specs.declared.command.Command.TheVariants as command
use Rattle.client_script.specs.declared.command.TransactionCommand.TheVariants as transaction_line
use Rattle.client_script.specs.declared.command.WriteCommand.TheVariants as write_line
use Rattle.client_script.specs.declared.line.Line.{Line}
use Rattle.memdb.specs.Made.{Item}
use Rattle.memdb.specs.inner.MadeInputs.{row_of, first_of, round_lines, rounds_behind}
use Rattle.memdb.specs.inner.MadeText.{insert_text, first_text, lines_text, round_text, rounds_text}
use Rattle.memdb.proofs.MadeLines.{one, word_write, word_commit, word_read, word_end, insert_read, first_read}
use Rattle.memdb.proofs.MadeRows.{IsMade, AreMade}
use Rattle.memdb.proofs.NameBytes.{all_append, decimal_is_name}
use Rattle.memdb.proofs.PlainTexts.{insert_plain, first_plain}
use Rattle.memdb.proofs.ShownLines.{AreShown, is_shown, name_shown, shown_append, lines_back, lines_utf8}

-- ---- the lines are printed characters

-- the line that writes a row
insert_shown : (x : Item) → IsMade x → list_all is_shown (insert_text x) ≡ true
insert_shown x h =
    let age = decimal x.age in
    let middle = codes ",\"name\":\"" in
    let end = x.name ++ codes "\"}" in
    let name = all_append is_shown x.name (codes "\"}") (name_shown x.name h.name) refl in
    let behind = all_append is_shown middle end refl name in
    ap (list_all is_shown) (insert_plain x h.name)
    ∙ all_append is_shown (codes "insert items {\"age\":") (age ++ (middle ++ end)) refl (all_append is_shown age (middle ++ end) (name_shown age (decimal_is_name x.age h.age)) behind)

-- the line that asks for it
first_shown : (x : Item) → IsMade x → list_all is_shown (first_text x) ≡ true
first_shown x h =
    let name = all_append is_shown x.name (codes "\"]") (name_shown x.name h.name) refl in
    ap (list_all is_shown) (first_plain x h.name) ∙ all_append is_shown (codes "first items id [\"") (x.name ++ codes "\"]") refl name

-- and all lines of rounds
rounds_shown : (xs : List Item) → AreMade xs → AreShown (rounds_text xs)
rounds_shown [] h = tt
rounds_shown (x ∷ xs) h =
    shown_append (round_text x) (rounds_text xs) (refl, (insert_shown x h.0, (refl, (refl, (first_shown x h.0, (refl, tt)))))) (rounds_shown xs h.1)

-- ---- how many there are

-- six for each round
lines_counted : (xs : List Item) → length (rounds_text xs) ≡ 6 * length xs
lines_counted [] = refl
lines_counted (x ∷ xs) = length-append (round_text x) (rounds_text xs) ∙ omega (arith, lines_counted xs)

-- which a script may have
few_enough : (n : ℕ) → n ≤ 6000 → nat_le n line_limit ≡ true
few_enough n h = grind (arith, nat_tests)

-- ---- what they read as

-- a line is read, and then those behind it
read_line : (n m : ℕ) (l : Bytes) (ls : List Bytes) (c : Command) (rest : List Line) → n + 1 ≡ m → line_in n l ≡ one n c → lines_in m ls ≡ Ok rest
    → lines_in n (l ∷ ls) ≡ Ok (record { number = n; command = c } ∷ rest)
read_line n m l ls c rest next is others =
    lines_in-read n l ls (record { number = n; command = c } ∷ []) is
    ∙ ap (λ k. put_before (record { number = n; command = c } ∷ []) (lines_in k ls)) next
    ∙ ap (put_before (record { number = n; command = c } ∷ [])) others

-- the six lines of a round, and then those behind it
round_read : (at : ℕ) (x : Item) (ls : List Bytes) (rest : List Line) → IsMade x → lines_in (at + 6 + 1) ls ≡ Ok rest → lines_in (at + 1) (round_text x ++ ls) ≡ Ok (round_lines at x ++ rest)
round_read at x ls rest h others =
    let last : List Bytes = codes "end" ∷ ls in
    let asking : List Bytes = first_text x ∷ last in
    let reading : List Bytes = codes "read" ∷ asking in
    let committing : List Bytes = codes "commit" ∷ reading in
    let inserting : List Bytes = insert_text x ∷ committing in
    let insert = command.Write (write_line.Insert (codes "items") (row_of x)) in
    let question = command.Ask (ask_line.Question (first_of x)) in
    let six = read_line (at + 6) (at + 6 + 1) (codes "end") ls (command.Transaction transaction_line.End) rest refl (word_end (at + 6)) others in
    let five = read_line (at + 5) (at + 6) (first_text x) last question _ (omega arith) (first_read (at + 5) x h) six in
    let four = read_line (at + 4) (at + 5) (codes "read") asking (command.Transaction transaction_line.Read) _ (omega arith) (word_read (at + 4)) five in
    let three = read_line (at + 3) (at + 4) (codes "commit") reading (command.Transaction transaction_line.Commit) _ (omega arith) (word_commit (at + 3)) four in
    let two = read_line (at + 2) (at + 3) (insert_text x) committing insert _ (omega arith) (insert_read (at + 2) x h) three in
    read_line (at + 1) (at + 2) (codes "write") inserting (command.Transaction transaction_line.Write) _ (omega arith) (word_write (at + 1)) two

-- all rounds
rounds_read : (at : ℕ) (xs : List Item) → AreMade xs → lines_in (at + 1) (rounds_text xs) ≡ Ok (rounds_behind at xs)
rounds_read at [] h = refl
rounds_read at (x ∷ xs) h = round_read at x (rounds_text xs) (rounds_behind (at + 6) xs) h.0 (rounds_read (at + 6) xs h.1)

-- ---- the whole file

-- of these rows
pub script_read : (xs : List Item) → AreMade xs → length xs ≤ 1000 → script_in (lines_text (rounds_text xs)) ≡ Ok (rounds_behind 0 xs)
script_read xs h short =
    let shown = rounds_shown xs h in
    let back = lines_back (rounds_text xs) shown in
    let few : length (rounds_text xs) ≤ 6000 = omega (arith, lines_counted xs, short) in
    script_lines (lines_text (rounds_text xs)) (is_utf8-from_IsUtf8 _ (lines_utf8 (rounds_text xs) shown)) (ap (λ ls. nat_le (length ls) line_limit) back ∙ few_enough _ few)
    ∙ ap (lines_in 1) back
    ∙ rounds_read 0 xs h
