-- What each line of a made round is read as.
use Rattle.std.proofs.Common.{arith, ◌≡◌, ◌≢◌, refl, ap, sym, ◌∙◌, subst, ℕ, List, [], ◌∷◌, ◌++◌, reverse, get_or, Bool, false, decimal, append_assoc}
use Rattle.std.specs.Prelude.{if◌then◌else◌, codes, Result, Ok}
use Rattle.std.proofs.lemmas.List.{reverse-append, reverse-reverse}
use Rattle.mdb_datum.proofs.RoundTrip.{reading-compact}
use Rattle.mdb_datum.specs.Bytes.{Bytes}
use Rattle.mdb_datum.specs.Doc.{text, list, object, doc_list, field_list}
use Rattle.mdb_datum.specs.Reading.{Reading}
use Rattle.mdb_schema.specs.Tests.{◌>>=◌, needed}
use Rattle.mdb_schema.specs.declared.ask.Ask.TheVariants.{First}
use Rattle.client_script.proofs.LineReturns.{without_return-kept}
use Rattle.client_script.specs.Grammar.{command_in}
use Rattle.client_script.specs.Lines.{is_blank, after_blanks, without_return, trimmed}
use Rattle.client_script.specs.Parts.{object_in, scalars_in}
use Rattle.client_script.specs.Refusal.{ScriptRefusal, bad_doc}
use Rattle.client_script.specs.Script.{at_line, text_in, line_in}
use Rattle.client_script.specs.declared.command.AskCommand.TheVariants as ask_line
use Rattle.client_script.specs.declared.command.Command.{Command}
use Rattle.client_script.specs.declared.command.Command.TheVariants as command
use Rattle.client_script.specs.declared.command.TransactionCommand.TheVariants as transaction_line
use Rattle.client_script.specs.declared.command.WriteCommand.TheVariants as write_line
use Rattle.client_script.specs.declared.line.Line.{Line}
use Rattle.memdb.specs.Made.{Item}
use Rattle.memdb.specs.inner.MadeInputs.{row_of, first_of}
use Rattle.memdb.specs.inner.MadeText.{insert_text, first_text}
use Rattle.memdb.proofs.MadeRows.{IsMade, row_canonical, name_canonical}
use Rattle.memdb.proofs.PlainTexts.{insert_plain, first_plain}

-- ---- lines that are a word, which are computed

-- one line with a command
abbrev pub one : ℕ → Command → Result (List Line) ScriptRefusal
one n c = Ok (record { number = n; command = c } ∷ [])

pub word_write : (n : ℕ) → line_in n (codes "write") ≡ one n (command.Transaction transaction_line.Write)
word_write n = refl

pub word_commit : (n : ℕ) → line_in n (codes "commit") ≡ one n (command.Transaction transaction_line.Commit)
word_commit n = refl

pub word_read : (n : ℕ) → line_in n (codes "read") ≡ one n (command.Transaction transaction_line.Read)
word_read n = refl

pub word_end : (n : ℕ) → line_in n (codes "end") ≡ one n (command.Transaction transaction_line.End)
word_end n = refl

-- ---- a line without blanks and a return at its ends

-- equal texts end with equal bytes
last_is : (front kept : Bytes) (y z : ℕ) → front ++ y ∷ [] ≡ kept ++ z ∷ [] → y ≡ z
last_is front kept y z e = ap (λ l. get_or l 0 0) (sym (reverse-append front (y ∷ [])) ∙ ap reverse e ∙ reverse-append kept (z ∷ []))

-- it begins with a byte, and ends with a bracket
pub kept_whole : (a z : ℕ) (mid : Bytes) → is_blank a ≡ false → is_blank z ≡ false → z ≢ 13 → trimmed (without_return (a ∷ (mid ++ z ∷ []))) ≡ a ∷ (mid ++ z ∷ [])
kept_whole a z mid dark_a dark_z no_return =
    let line = a ∷ (mid ++ z ∷ []) in
    let back = reverse-append (a ∷ mid) (z ∷ []) in
    ap trimmed (without_return-kept line (λ front e. no_return (last_is (a ∷ mid) front z 13 e)))
    ∙ ap (λ (t : Bool). reverse (after_blanks (reverse (if t then after_blanks (mid ++ z ∷ []) else line)))) dark_a
    ∙ ap (λ l. reverse (after_blanks l)) back
    ∙ ap (λ (t : Bool). reverse (if t then after_blanks (reverse (a ∷ mid)) else z ∷ reverse (a ∷ mid))) dark_z
    ∙ ap reverse (sym back)
    ∙ reverse-reverse line

-- ---- the line that writes a row

-- its command, where nothing is cut off
insert_command : (x : Item) → IsMade x → command_in (insert_text x) ≡ Ok (command.Write (write_line.Insert (codes "items") (row_of x)))
insert_command x h =
    ap (λ (r : Reading). needed bad_doc (object_in r) >>= (λ row. Ok (command.Write (write_line.Insert (codes "items") row))))
    (reading-compact (object (field_list (row_of x))) (row_canonical x h))

-- its first byte and its last
insert_ends : (x : Item) → IsMade x → insert_text x ≡ 105 ∷ ((codes "nsert items {\"age\":" ++ (decimal x.age ++ (codes ",\"name\":\"" ++ (x.name ++ codes "\"")))) ++ 125 ∷ [])
insert_ends x h =
    insert_plain x h.name
    ∙ sym (append_assoc (codes "insert items {\"age\":") (decimal x.age ++ (codes ",\"name\":\"" ++ (x.name ++ codes "\""))) (125 ∷ [])
    ∙ ap (λ l. codes "insert items {\"age\":" ++ l)
    (append_assoc (decimal x.age) (codes ",\"name\":\"" ++ (x.name ++ codes "\"")) (125 ∷ [])
    ∙ ap (λ l. decimal x.age ++ (codes ",\"name\":\"" ++ l)) (append_assoc x.name (codes "\"") (125 ∷ []))))

-- so nothing is cut off
insert_kept : (x : Item) → IsMade x → trimmed (without_return (insert_text x)) ≡ insert_text x
insert_kept x h =
    subst (λ l. trimmed (without_return l) ≡ l) (sym (insert_ends x h))
    (kept_whole 105 125 (codes "nsert items {\"age\":" ++ (decimal x.age ++ (codes ",\"name\":\"" ++ (x.name ++ codes "\"")))) refl refl (λ e. omega (arith, e)))

-- what the line is read as
pub insert_read : (n : ℕ) (x : Item) → IsMade x → line_in n (insert_text x) ≡ one n (command.Write (write_line.Insert (codes "items") (row_of x)))
insert_read n x h = ap (text_in n) (insert_kept x h) ∙ ap (at_line n) (insert_command x h)

-- ---- the line that asks for it

-- its command, where nothing is cut off
first_command : (x : Item) → IsMade x → command_in (first_text x) ≡ Ok (command.Ask (ask_line.Question (first_of x)))
first_command x h =
    ap (λ (r : Reading). (needed bad_doc (scalars_in r) >>= (λ args. Ok (record { ask = First; table = codes "items"; index = codes "id"; args = args }))) >>= (λ query. Ok (command.Ask (ask_line.Question query))))
    (reading-compact (list (doc_list (text x.name ∷ []))) (name_canonical x h))

-- its first byte and its last
first_ends : (x : Item) → IsMade x → first_text x ≡ 102 ∷ ((codes "irst items id [\"" ++ (x.name ++ codes "\"")) ++ 93 ∷ [])
first_ends x h =
    first_plain x h.name
    ∙ sym (append_assoc (codes "first items id [\"") (x.name ++ codes "\"") (93 ∷ [])
    ∙ ap (λ l. codes "first items id [\"" ++ l) (append_assoc x.name (codes "\"") (93 ∷ [])))

-- so nothing is cut off
first_kept : (x : Item) → IsMade x → trimmed (without_return (first_text x)) ≡ first_text x
first_kept x h =
    subst (λ l. trimmed (without_return l) ≡ l) (sym (first_ends x h))
    (kept_whole 102 93 (codes "irst items id [\"" ++ (x.name ++ codes "\"")) refl refl (λ e. omega (arith, e)))

-- what the line is read as
pub first_read : (n : ℕ) (x : Item) → IsMade x → line_in n (first_text x) ≡ one n (command.Ask (ask_line.Question (first_of x)))
first_read n x h = ap (text_in n) (first_kept x h) ∙ ap (at_line n) (first_command x h)
