-- The forms of replies as they are written, where their numbers are small.
use Rattle.std.proofs.Common.{arith, ◌≡◌, refl, ap, sym, ◌∙◌, ℕ, ◌+◌, ◌^◌, ◌<◌, List, [], ◌∷◌, ◌++◌, length, drop, cond, Bool, true, false, ◌||◌, Option, Some, None, option_map, reverse, decimal, codes, append-nil, one-add}
use Rattle.std.specs.Bool.{⊤}
use Rattle.std.specs.List.{list_all, list_any, prefix_len}
use Rattle.std.specs.Prelude.{if◌then◌else◌, nat_lt}
use Rattle.std.proofs.lemmas.Bool.{and_parts, or_left, or_right}
use Rattle.std.proofs.lemmas.Bool.Decides.{nat_tests}
use Rattle.std.proofs.lemmas.List.{drop_at}
use Rattle.mdb_datum.specs.Bytes.{Bytes}
use Rattle.mdb_datum.specs.Pairs.{at_least, at_most, first_item, last_item, longest_pair, prefixes_of, rows_of, with_prefix}
use Rattle.mdb_datum.specs.Row.{Fields, Pair}
use Rattle.mdb_schema.specs.Answer as asks
use Rattle.mdb_schema.specs.Answer.{Asked, ask}
use Rattle.mdb_schema.specs.Entries.{entries}
use Rattle.mdb_schema.specs.Names.{is_name_byte}
use Rattle.mdb_schema.specs.Query.{Query}
use Rattle.mdb_schema.specs.Schema.{DbSchema}
use Rattle.mdb_schema.specs.State.{State, table_at}
use Rattle.mdb_schema.specs.Tests.{needed}
use Rattle.mdb_schema.specs.declared.answer.Answer.{Answer}
use Rattle.mdb_schema.specs.declared.answer.Answer.TheVariants.{One, Many}
use Rattle.mdb_schema.specs.declared.ask.Ask.{Ask}
use Rattle.mdb_schema.specs.declared.ask.Ask.TheVariants.{First, Last, Get, GetReverse, Lower, ReverseLower, Longest}
use Rattle.client_script.specs.Reply.{Reply, read_at, write_at, committed, wiped, answered, snapshot_at, snapshot_within, quiet_at, fired_at, sized, woken_by, stopped_at, reply_text}
use Rattle.run_check.specs.Forms.{Form, alone, behind_name, behind_some, fits, forms, forms_of, has_form, is_dark, numbered, row_forms}
use Rattle.run_check.specs.Forms as form_part
use Rattle.run_check.specs.TextLines.{Numbered, holds_of}
use Rattle.run_check.proofs.CleanNames.{is_named}
use Rattle.run_check.proofs.Outcomes.{IfOk, after_any}
use Rattle.run_check.proofs.ReplyLines.{head_text}
use Rattle.run_check.proofs.WrittenNumbers.{EndsNumber, behind_self, number_read}

-- ---- forms

-- numbers that are printed are below 2^64, and a watch's name is one
abbrev pub IsSmall : Reply → Type 0
IsSmall (read_at n) = n < 2 ^ 64
IsSmall (write_at n) = n < 2 ^ 64
IsSmall (committed n changed texts) = n < 2 ^ 64
IsSmall (wiped k) = k < 2 ^ 64
IsSmall (answered (Many rows)) = length rows < 2 ^ 64
IsSmall (snapshot_at n) = n < 2 ^ 64
IsSmall (snapshot_within n) = n < 2 ^ 64
IsSmall (quiet_at n) = n < 2 ^ 64
IsSmall (fired_at n) = n < 2 ^ 64
IsSmall (sized k) = k < 2 ^ 64
IsSmall (woken_by w n) = (is_named w ≡ true) × (n < 2 ^ 64)
IsSmall (stopped_at n) = n < 2 ^ 64
IsSmall r = ⊤

-- what follows a number has a form, where that is so of what follows
number_fits : (ps : Form) (n : ℕ) (rest : Bytes) → n < 2 ^ 64 → EndsNumber rest → fits ps rest ≡ true → fits (form_part.number ∷ ps) (decimal n ++ rest) ≡ true
number_fits ps n rest small ends fit = ap (holds_of (λ (m : Numbered). fits ps m.rest)) (number_read n rest small ends) ∙ fit

last_number : (n : ℕ) → n < 2 ^ 64 → fits (form_part.number ∷ []) (decimal n) ≡ true
last_number n small = ap (fits (form_part.number ∷ [])) (sym (append-nil (decimal n))) ∙ number_fits [] n [] small tt refl

word_fits : (w : Bytes) (ps : Form) (rest : Bytes) → fits ps rest ≡ true → fits (form_part.word w ∷ ps) (w ++ rest) ≡ true
word_fits w ps rest fit = ap (holds_of (fits ps)) (behind_self w rest) ∙ fit

pub numbered_fits : (w : Bytes) (n : ℕ) → n < 2 ^ 64 → fits (numbered w) (w ++ decimal n) ≡ true
numbered_fits w n small = word_fits w (form_part.number ∷ []) (decimal n) (last_number n small)

pub within_fits : (n : ℕ) → n < 2 ^ 64 → fits (form_part.word (codes "snapshot @") ∷ form_part.number ∷ form_part.word (codes "+") ∷ []) (codes "snapshot @" ++ (decimal n ++ codes "+")) ≡ true
within_fits n small = word_fits (codes "snapshot @") (form_part.number ∷ form_part.word (codes "+") ∷ []) (decimal n ++ codes "+") (number_fits (form_part.word (codes "+") ∷ []) n (codes "+") small refl refl)

-- a name is dark
byte_dark : (b : ℕ) → is_name_byte b ≡ true → is_dark b ≡ true
byte_dark b named = grind (arith, nat_tests, named)

name_len : (w rest : Bytes) → list_all is_name_byte w ≡ true → prefix_len is_dark (w ++ 32 ∷ rest) ≡ length w
name_len [] rest named = refl
name_len (b ∷ w) rest named =
    let parts : (is_name_byte b ≡ true) × (list_all is_name_byte w ≡ true) = and_parts (is_name_byte b) (list_all is_name_byte w) named in
    ap (λ (t : Bool). cond t (1 + prefix_len is_dark (w ++ 32 ∷ rest)) 0) (byte_dark b parts.0)
    ∙ ap (λ (n : ℕ). 1 + n) (name_len w rest parts.1)
    ∙ one-add (length w)

name_read : (w rest : Bytes) → is_named w ≡ true → behind_name (w ++ 32 ∷ rest) ≡ Some (32 ∷ rest)
name_read w rest named =
    let parts = and_parts (nat_lt 0 (length w)) (list_all is_name_byte w) named in
    ap (λ (k : ℕ). behind_some k (w ++ 32 ∷ rest)) (name_len w rest parts.1)
    ∙ ap (λ (t : Bool). if t then Some (drop (length w) (w ++ 32 ∷ rest)) else None) parts.0
    ∙ ap (λ (x : Bytes). Some x) (drop_at w (32 ∷ rest) (length w) refl)

pub woken_fits : (w : Bytes) (n : ℕ) → is_named w ≡ true → n < 2 ^ 64 → fits (form_part.word (codes "fired ") ∷ form_part.name ∷ form_part.word (codes " @") ∷ form_part.number ∷ []) (reply_text (woken_by w n)) ≡ true
woken_fits w n named small =
    word_fits (codes "fired ") (form_part.name ∷ form_part.word (codes " @") ∷ form_part.number ∷ []) (w ++ (codes " @" ++ decimal n))
    (ap (holds_of (fits (form_part.word (codes " @") ∷ form_part.number ∷ []))) (name_read w (64 ∷ decimal n) named) ∙ word_fits (codes " @") (form_part.number ∷ []) (decimal n) (last_number n small))

-- a list of forms, of which the first or the second fits
pub one_of : (f : Form) (fs : List Form) (answer : Bytes) → fits f answer ≡ true → list_any (λ g. fits g answer) (f ∷ fs) ≡ true
one_of f fs answer fit = or_left (fits f answer) (list_any (λ g. fits g answer) fs) fit

pub other_of : (f g : Form) (answer : Bytes) → fits g answer ≡ true → list_any (λ h. fits h answer) (f ∷ g ∷ []) ≡ true
other_of f g answer fit = or_right (fits f answer) (fits g answer || false) (or_left (fits g answer) false fit)

-- an answer to a question has one of its forms
abbrev pub AnswerForm : Ask → Answer → Type 0
AnswerForm a answer = IsSmall (answered answer) → list_any (λ f. fits f (head_text (answered answer))) (forms_of a) ≡ true

row_form : (o : Option Fields) → list_any (λ f. fits f (head_text (answered (One o)))) row_forms ≡ true
row_form None = refl
row_form (Some row) = refl

rows_form : (rows : List Fields) → length rows < 2 ^ 64 → list_any (λ f. fits f (head_text (answered (Many rows)))) (numbered (codes "rows ") ∷ []) ≡ true
rows_form rows small = one_of (numbered (codes "rows ")) [] (codes "rows " ++ decimal (length rows)) (numbered_fits (codes "rows ") (length rows) small)

by_ask : (a : Ask) (exact : Bool) (k : Bytes) (es : List Pair) → AnswerForm a (asks.answer a exact k es)
by_ask First exact k es small = row_form (first_item (asks.picked exact k es))
by_ask Last exact k es small = row_form (last_item (asks.picked exact k es))
by_ask Longest exact k es small = row_form (option_map (λ (e : Pair). e.1) (longest_pair (prefixes_of k es)))
by_ask Get exact k es small = rows_form (rows_of (with_prefix k es)) small
by_ask GetReverse exact k es small = rows_form (reverse (rows_of (with_prefix k es))) small
by_ask Lower exact k es small = rows_form (rows_of (at_least k es)) small
by_ask ReverseLower exact k es small = rows_form (reverse (rows_of (at_most k es))) small

pub asked_form : (schema : DbSchema) (s : State) (q : Query) → IfOk (AnswerForm q.ask) (ask schema s q)
asked_form schema s q = after_any (AnswerForm q.ask) (needed asks.unknown_table (table_at schema s q.table)) _ (λ table. after_any (AnswerForm q.ask) (asks.lookup_of table.schema q) _ (λ at. by_ask q.ask (asks.is_exact at.index q) at.key (entries table.schema at.index table.rows)))
