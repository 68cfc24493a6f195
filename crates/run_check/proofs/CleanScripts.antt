-- Scripts that were read have no line feed in their texts, and lawful schemas none in their names.
use Rattle.std.proofs.Common.{arith, ◌≡◌, refl, ap, subst, sym, ℕ, zero, suc, ◌+◌, ◌-◌, List, [], ◌∷◌, ◌++◌, length, take, reverse, Bool, true, false, not, ◌&&◌, ◌==◌, Option, Some, None, Ok, Err, All, slice_get, codes}
use Rattle.std.specs.Bool.{⊤}
use Rattle.std.specs.List.{ends_with, list_all}
use Rattle.std.specs.Prelude.{if◌then◌else◌, nat_eq, nat_le, nat_lt, option_map}
use Rattle.std.specs.Str.{bytes_eq, is_utf8}
use Rattle.std.proofs.lemmas.Bool.{and_from, and_parts}
use Rattle.std.proofs.lemmas.List.{reverse-append}
use Rattle.mdb_datum.specs.Bytes.{Bytes}
use Rattle.mdb_datum.specs.Row.{Fields}
use Rattle.mdb_schema.specs.LawfulSchema.{IsLawfulIndex, IsLawfulSchema, IsLawfulTable}
use Rattle.mdb_schema.specs.Names.{is_declared_name, is_name_byte, is_word}
use Rattle.mdb_schema.specs.Query.{Query}
use Rattle.mdb_schema.specs.Schema.{DbSchema, IndexSchema, TableSchema, table_place}
use Rattle.mdb_schema.specs.Tests.{◌>>=◌, needed, passed}
use Rattle.mdb_schema.specs.declared.ask.Ask.{Ask}
use Rattle.mdb_schema.specs.declared.ask.Ask.TheVariants.{Get}
use Rattle.client_script.specs.CommandWord.{ask_named}
use Rattle.client_script.specs.Grammar.{alone, command_in, command_of, of_add, of_add_limit, of_name, of_query, of_row, of_snapshot, of_text, of_wait, of_watch, wait_for, wait_until, watch_in, watch_of}
use Rattle.client_script.specs.Lines.{Word, after_blanks, first_from, is_blank, lines_of, trimmed, without_return, word_rest, word_text}
use Rattle.client_script.specs.Parts.{limit_in, name_in, next_word, nothing, question_by, question_in, question_of, query_in, row_in, something}
use Rattle.client_script.specs.Refusal.{Ruled, bad_name, bad_shape, not_text, too_many_lines, unknown_word}
use Rattle.client_script.specs.RefusedWord.{index_name_part, index_part}
use Rattle.client_script.specs.Script.{at_line, line_in, line_limit, lines_in, script_in, text_in}
use Rattle.client_script.specs.Turn.{indexes_at, indexes_in, name_of}
use Rattle.client_script.specs.declared.command.AskCommand.TheVariants as ask_line
use Rattle.client_script.specs.declared.command.Command.{Command}
use Rattle.client_script.specs.declared.command.Command.TheVariants as command
use Rattle.client_script.specs.declared.command.NameCommand.TheVariants as name_line
use Rattle.client_script.specs.declared.command.TransactionCommand.{TransactionCommand}
use Rattle.client_script.specs.declared.command.TransactionCommand.TheVariants as transaction_line
use Rattle.client_script.specs.declared.command.WatchesCommand.TheVariants as watches_line
use Rattle.client_script.specs.declared.command.WriteCommand.{WriteCommand}
use Rattle.client_script.specs.declared.command.WriteCommand.TheVariants as write_line
use Rattle.client_script.specs.declared.line.Line.{Line}
use Rattle.run_check.specs.Checked.{IsRead}
use Rattle.run_check.proofs.CleanNames.{IsCleanCommand, IsCleanSchema, is_named, named_flat}
use Rattle.run_check.proofs.IndentedTexts.{AreFlat}
use Rattle.run_check.proofs.Outcomes.{IfOk, after_any, ok_then}
use Rattle.run_check.proofs.OutputCut.{AreCleanLines, AreCleanScripts}
use Rattle.run_check.proofs.PlainTexts.{is_flat, is_other, lacks_both, lacks_cons}

-- ---- schemas

abbrev IfThere : {A : Type 0} → (A → Type 0) → Option A → Type 0
IfThere P None = ⊤
IfThere P (Some a) = P a

at_place : {A : Type 0} (P : A → Type 0) (xs : List A) (k : ℕ) → All P xs → IfThere P (slice_get xs k)
at_place P [] k all = tt
at_place P (x ∷ xs) zero all = all 0 x (omega arith)
at_place P (x ∷ xs) (suc k) all = at_place P xs k (λ j d lt. all (suc j) d (omega (arith, lt)))

word_named : (w : Bytes) → is_word w ≡ true → is_named w ≡ true
word_named w word =
    let parts = and_parts (nat_lt 0 (length w) && nat_le (length w) 64) (list_all is_name_byte w) word in
    and_from (nat_lt 0 (length w)) (list_all is_name_byte w) (and_parts (nat_lt 0 (length w)) (nat_le (length w) 64) parts.0).0 parts.1

declared_flat : (name : Bytes) → is_declared_name name ≡ true → is_flat name ≡ true
declared_flat name declared =
    let word : is_word name ≡ true = (and_parts (is_word name) _ declared).0 in
    named_flat name (word_named name word)

table_flat : (o : Option TableSchema) → IfThere IsLawfulTable o → is_flat (name_of o) ≡ true
table_flat None lawful = refl
table_flat (Some t) lawful = declared_flat t.name lawful.name

index_flat : (o : Option IndexSchema) → IfThere IsLawfulIndex o → is_flat (index_name_part o) ≡ true
index_flat None lawful = refl
index_flat (Some i) lawful = lacks_cons 10 32 i.name refl (declared_flat i.name lawful.name)

indexes_flat : (o : Option TableSchema) → IfThere IsLawfulTable o → (place : ℕ) → is_flat (index_part (indexes_in o) place) ≡ true
indexes_flat None lawful place = refl
indexes_flat (Some t) lawful place = index_flat (slice_get t.indexes place) (at_place IsLawfulIndex t.indexes place lawful.each)

indexes_at_flat : (schema : DbSchema) → IsLawfulSchema schema → (o : Option ℕ) (place : ℕ) → is_flat (index_part (indexes_at schema o) place) ≡ true
indexes_at_flat schema lawful None place = refl
indexes_at_flat schema lawful (Some table) place = indexes_flat (slice_get schema table) (at_place IsLawfulTable schema table lawful.each) place

pub lawful_clean : (schema : DbSchema) → IsLawfulSchema schema → IsCleanSchema schema
lawful_clean schema lawful = record {
  tables = λ place. table_flat (slice_get schema place) (at_place IsLawfulTable schema place lawful.each);
  indexes = λ table place. indexes_at_flat schema lawful (table_place table schema) place;
}

-- ---- parts of a line

rest_flat : (b : ℕ) (bs : Bytes) → is_flat (b ∷ bs) ≡ true → is_flat bs ≡ true
rest_flat b bs flat = (and_parts (is_other 10 b) (is_flat bs) flat).1

flat_if : (t : Bool) (a b : Bytes) → is_flat a ≡ true → is_flat b ≡ true → is_flat (if t then a else b) ≡ true
flat_if true a b here there = here
flat_if false a b here there = there

after_flat : (bs : Bytes) → is_flat bs ≡ true → is_flat (after_blanks bs) ≡ true
after_flat [] flat = refl
after_flat (b ∷ bs) flat = flat_if (is_blank b) (after_blanks bs) (b ∷ bs) (after_flat bs (rest_flat b bs flat)) flat

word_rest_flat : (bs : Bytes) → is_flat bs ≡ true → is_flat (word_rest bs) ≡ true
word_rest_flat [] flat = refl
word_rest_flat (b ∷ bs) flat = flat_if (is_blank b) (after_blanks bs) (word_rest bs) (after_flat bs (rest_flat b bs flat)) (word_rest_flat bs (rest_flat b bs flat))

reverse_flat : (bs : Bytes) → is_flat bs ≡ true → is_flat (reverse bs) ≡ true
reverse_flat [] flat = refl
reverse_flat (b ∷ bs) flat =
    let parts : (is_other 10 b ≡ true) × (is_flat bs ≡ true) = and_parts (is_other 10 b) (is_flat bs) flat in
    subst (λ (x : Bytes). is_flat x ≡ true) (sym (reverse-append (b ∷ []) bs)) (lacks_both 10 (reverse bs) (b ∷ []) (reverse_flat bs parts.1) (lacks_cons 10 b [] parts.0 refl))

take_flat : (n : ℕ) (bs : Bytes) → is_flat bs ≡ true → is_flat (take n bs) ≡ true
take_flat zero bs flat = refl
take_flat (suc n) [] flat = refl
take_flat (suc n) (b ∷ bs) flat =
    let parts : (is_other 10 b ≡ true) × (is_flat bs ≡ true) = and_parts (is_other 10 b) (is_flat bs) flat in
    lacks_cons 10 b (take n bs) parts.0 (take_flat n bs parts.1)

trimmed_flat : (line : Bytes) → is_flat line ≡ true → is_flat (trimmed (without_return line)) ≡ true
trimmed_flat line flat =
    let cut : Bytes = without_return line in
    let short : is_flat cut ≡ true = flat_if (ends_with nat_eq line (codes "\r")) (take (length line - 1) line) line (take_flat (length line - 1) line flat) flat in
    reverse_flat (after_blanks (reverse (after_blanks cut))) (after_flat (reverse (after_blanks cut)) (reverse_flat (after_blanks cut) (after_flat cut short)))

lines_flat : (bs : Bytes) → AreFlat (lines_of bs)
lines_flat [] = tt
lines_flat (b ∷ bs) = by (b == 10) refl (lines_flat bs)
  where
    begun : (ls : List Bytes) → is_other 10 b ≡ true → AreFlat ls → AreFlat (first_from b ls)
    begun [] other flat = (lacks_cons 10 b [] other refl, tt)
    begun (l ∷ ls) other flat = (lacks_cons 10 b l other flat.0, flat.1)

    by : (t : Bool) → (b == 10) ≡ t → AreFlat (lines_of bs) → AreFlat (if t then [] ∷ lines_of bs else first_from b (lines_of bs))
    by true is rest = (refl, rest)
    by false is rest = begun (lines_of bs) (ap not is) rest

-- ---- what is read

abbrev IsNamed : Bytes → Type 0
IsNamed name = is_named name ≡ true

name_read : (w : Bytes) → IfOk IsNamed (name_in w)
name_read w = by (is_word w) refl
  where
    by : (t : Bool) → is_word w ≡ t → IfOk IsNamed (passed bad_name t >>= (λ good. Ok w))
    by true is = word_named w is
    by false is = tt

abbrev Clean : Command → Type 0
Clean c = IsCleanCommand c

name_then : (w : Bytes) (f : Bytes → Ruled Command) → ((name : Bytes) → IsNamed name → IfOk Clean (f name)) → IfOk Clean (name_in w >>= f)
name_then w f each = ok_then IsNamed Clean (name_in w) f (name_read w) each

query_clean : (make : Query → Command) (a : Ask) (rest : Bytes) → ((q : Query) → Clean (make q)) → IfOk Clean (of_query make a rest)
query_clean make a rest plain = after_any Clean (question_of a rest) _ (λ q. after_any Clean (query_in q) _ plain)

row_clean : (make : Bytes → Fields → WriteCommand) (rest : Bytes) → IfOk Clean (of_row make rest)
row_clean make rest = after_any Clean (next_word rest) _ (λ table. after_any Clean (something table.rest) _ (λ doc. after_any Clean (name_in table.text) _ (λ name. after_any Clean (row_in doc) _ (λ row. tt))))

alone_clean : (t : TransactionCommand) (rest : Bytes) → IfOk Clean (alone t rest)
alone_clean t rest = after_any Clean (nothing rest) _ (λ end. tt)

text_clean : (rest : Bytes) → is_flat rest ≡ true → IfOk Clean (of_text rest)
text_clean [] flat = tt
text_clean (b ∷ bs) flat = flat

named_clean : (make : Bytes → Command) (rest : Bytes) → ((name : Bytes) → Clean (make name)) → IfOk Clean (of_name make rest)
named_clean make rest plain = after_any Clean (next_word rest) _ (λ w. after_any Clean (nothing w.rest) _ (λ end. after_any Clean (name_in w.text) _ plain))

snapshot_clean : (rest : Bytes) → IfOk Clean (of_snapshot rest)
snapshot_clean rest = after_any Clean (next_word rest) _ (λ w. after_any Clean (question_in w.rest) _ (λ q. after_any Clean (name_in w.text) _ (λ name. after_any Clean (query_in q) _ (λ query. tt))))

watch_of_clean : (w asked : Word) → IfOk Clean (watch_of w asked)
watch_of_clean w asked = after_any Clean (question_by asked) _ (λ q. name_then w.text _ (λ name named. after_any Clean (query_in q) _ (λ query. named)))

watch_in_clean : (w : Word) (rest : Bytes) → IfOk Clean (watch_in w rest)
watch_in_clean w rest = after_any Clean (next_word rest) _ (λ s. after_any Clean (question_in s.rest) _ (λ q. name_then w.text _ (λ name named. after_any Clean (name_in s.text) _ (λ snapshot. after_any Clean (query_in q) _ (λ query. named)))))

watch_clean : (rest : Bytes) → IfOk Clean (of_watch rest)
watch_clean rest = after_any Clean (next_word rest) _ (λ w. after_any Clean (next_word w.rest) _ (λ next. by w next (bytes_eq next.text (codes "in"))))
  where
    by : (w next : Word) (t : Bool) → IfOk Clean (if t then watch_in w next.rest else watch_of w next)
    by w next true = watch_in_clean w next.rest
    by w next false = watch_of_clean w next

add_clean : (rest : Bytes) → IfOk Clean (of_add rest)
add_clean rest = after_any Clean (next_word rest) _ (λ s. after_any Clean (next_word s.rest) _ (λ w. after_any Clean (nothing w.rest) _ (λ end. after_any Clean (name_in s.text) _ (λ set. after_any Clean (name_in w.text) _ (λ name. tt)))))

add_limit_clean : (rest : Bytes) → IfOk Clean (of_add_limit rest)
add_limit_clean rest = after_any Clean (next_word rest) _ (λ s. after_any Clean (next_word s.rest) _ (λ l. after_any Clean (next_word l.rest) _ (λ w. after_any Clean (next_word w.rest) _ (λ o. after_any Clean (nothing o.rest) _ (λ end. after_any Clean (limit_in l.text) _ (λ limit. after_any Clean (name_in s.text) _ (λ set. after_any Clean (name_in w.text) _ (λ name. after_any Clean (name_in o.text) _ (λ other. tt)))))))))

wait_until_clean : (s : Word) (rest : Bytes) → IfOk Clean (wait_until s rest)
wait_until_clean s rest = after_any Clean (next_word rest) _ (λ u. after_any Clean (passed bad_shape (bytes_eq u.text (codes "until"))) _ (λ spelt. after_any Clean (next_word u.rest) _ (λ w. after_any Clean (nothing w.rest) _ (λ end. after_any Clean (name_in s.text) _ (λ set. after_any Clean (name_in w.text) _ (λ name. tt))))))

wait_for_clean : (s : Word) (rest : Bytes) → IfOk Clean (wait_for s rest)
wait_for_clean s [] = after_any Clean (name_in s.text) _ (λ set. tt)
wait_for_clean s (b ∷ bs) = wait_until_clean s (b ∷ bs)

wait_clean : (rest : Bytes) → IfOk Clean (of_wait rest)
wait_clean rest = after_any Clean (next_word rest) _ (λ s. wait_for_clean s s.rest)

-- what follows the first word of a line, by the words of commands one after the other
one_word : {W : Type 0} (of : W → Ruled Command) (t : Bool) (w : W) (others : Option W) → IfOk Clean (of w) → IfOk Clean (needed unknown_word others >>= of) → IfOk Clean (needed unknown_word (if t then Some w else others) >>= of)
one_word of true w others here there = here
one_word of false w others here there = there

last_words : {W : Type 0} (of : W → Ruled Command) (make : Ask → W) (o : Option Ask) → ((a : Ask) → IfOk Clean (of (make a))) → IfOk Clean (needed unknown_word (option_map make o) >>= of)
last_words of make None each = tt
last_words of make (Some a) each = each a

command_clean : (line : Bytes) → is_flat line ≡ true → IfOk Clean (command_in line)
command_clean line flat =
    let s : Bytes = word_text line in
    let rest : Bytes = word_rest line in
    let plain : is_flat rest ≡ true = word_rest_flat line flat in
    one_word (λ known. command_of known rest) (bytes_eq s (codes "read")) _ _ (alone_clean transaction_line.Read rest) (
    one_word (λ known. command_of known rest) (bytes_eq s (codes "write")) _ _ (alone_clean transaction_line.Write rest) (
    one_word (λ known. command_of known rest) (bytes_eq s (codes "end")) _ _ (alone_clean transaction_line.End rest) (
    one_word (λ known. command_of known rest) (bytes_eq s (codes "commit")) _ _ (alone_clean transaction_line.Commit rest) (
    one_word (λ known. command_of known rest) (bytes_eq s (codes "abort")) _ _ (alone_clean transaction_line.Abort rest) (
    one_word (λ known. command_of known rest) (bytes_eq s (codes "insert")) _ _ (row_clean write_line.Insert rest) (
    one_word (λ known. command_of known rest) (bytes_eq s (codes "delete")) _ _ (row_clean write_line.Delete rest) (
    one_word (λ known. command_of known rest) (bytes_eq s (codes "delete-all")) _ _ (query_clean (λ q. command.Write (write_line.DeleteAll q)) Get rest (λ q. tt)) (
    one_word (λ known. command_of known rest) (bytes_eq s (codes "delete-prefix")) _ _ (query_clean (λ q. command.Write (write_line.DeletePrefix q)) Get rest (λ q. tt)) (
    one_word (λ known. command_of known rest) (bytes_eq s (codes "defer")) _ _ (text_clean rest plain) (
    one_word (λ known. command_of known rest) (bytes_eq s (codes "snapshot")) _ _ (named_clean (λ name. command.Name (name_line.Snapshot name)) rest (λ name. tt)) (
    one_word (λ known. command_of known rest) (bytes_eq s (codes "in")) _ _ (snapshot_clean rest) (
    one_word (λ known. command_of known rest) (bytes_eq s (codes "watch")) _ _ (watch_clean rest) (
    one_word (λ known. command_of known rest) (bytes_eq s (codes "check")) _ _ (named_clean (λ name. command.Watches (watches_line.Check name)) rest (λ name. tt)) (
    one_word (λ known. command_of known rest) (bytes_eq s (codes "add")) _ _ (add_clean rest) (
    one_word (λ known. command_of known rest) (bytes_eq s (codes "add-limit")) _ _ (add_limit_clean rest) (
    one_word (λ known. command_of known rest) (bytes_eq s (codes "size")) _ _ (named_clean command.Size rest (λ name. tt)) (
    one_word (λ known. command_of known rest) (bytes_eq s (codes "wait")) _ _ (wait_clean rest) (
    last_words (λ known. command_of known rest) _ (ask_named s) (λ a. query_clean (λ q. command.Ask (ask_line.Question q)) a rest (λ q. tt))))))))))))))))))))

-- ---- scripts

at_line_clean : (n : ℕ) (r : Ruled Command) → IfOk Clean r → IfOk AreCleanLines (at_line n r)
at_line_clean n (Ok c) clean = (clean, tt)
at_line_clean n (Err e) clean = tt

text_in_clean : (n : ℕ) (text : Bytes) → is_flat text ≡ true → IfOk AreCleanLines (text_in n text)
text_in_clean n [] flat = tt
text_in_clean n (b ∷ bs) flat = by (b == 35)
  where
    by : (t : Bool) → IfOk AreCleanLines (if t then Ok [] else at_line n (command_in (b ∷ bs)))
    by true = tt
    by false = at_line_clean n (command_in (b ∷ bs)) (command_clean (b ∷ bs) flat)

both_clean : (ls ms : List Line) → AreCleanLines ls → AreCleanLines ms → AreCleanLines (ls ++ ms)
both_clean [] ms clean others = others
both_clean (l ∷ ls) ms clean others = (clean.0, both_clean ls ms clean.1 others)

lines_in_clean : (n : ℕ) (ls : List Bytes) → AreFlat ls → IfOk AreCleanLines (lines_in n ls)
lines_in_clean n [] flat = tt
lines_in_clean n (l ∷ ls) flat =
    ok_then AreCleanLines AreCleanLines (line_in n l) _ (text_in_clean n (trimmed (without_return l)) (trimmed_flat l flat.0))
    (λ first clean. ok_then AreCleanLines AreCleanLines (lines_in (n + 1) ls) _ (lines_in_clean (n + 1) ls flat.1) (λ others clean'. both_clean first others clean clean'))

script_clean : (bytes : Bytes) → IfOk AreCleanLines (script_in bytes)
script_clean bytes =
    after_any AreCleanLines (passed not_text (is_utf8 bytes)) _
    (λ text. after_any AreCleanLines (passed too_many_lines (nat_le (length (lines_of bytes)) line_limit)) _ (λ few. lines_in_clean 1 (lines_of bytes) (lines_flat bytes)))

pub read_clean : (ls : List Line) → IsRead ls → AreCleanLines ls
read_clean ls read = subst (IfOk AreCleanLines) read.1 (script_clean read.0)

pub all_read_clean : (ss : List (List Line)) → All IsRead ss → AreCleanScripts ss
all_read_clean [] all = tt
all_read_clean (s ∷ ss) all = (read_clean s (all 0 s (omega arith)), all_read_clean ss (λ j d lt. all (suc j) d (omega (arith, lt))))
