-- The lines of a reply's text: its first line, and further ones.
use Rattle.std.proofs.Common.{◌≡◌, refl, ap, sym, ◌∙◌, ℕ, List, [], ◌∷◌, ◌++◌, length, map, Bool, true, false, ◌==◌, Some, decimal, codes, append_assoc, append-nil}
use Rattle.std.specs.Prelude.{if◌then◌else◌}
use Rattle.std.proofs.lemmas.Bool.{and_parts, eqb-true, false_from_ne_true}
use Rattle.mdb_datum.specs.Bytes.{Bytes}
use Rattle.mdb_datum.specs.Row.{Fields}
use Rattle.mdb_datum.specs.Written.{row_text}
use Rattle.mdb_schema.specs.declared.answer.Answer.TheVariants.{One, Many}
use Rattle.client_script.specs.Reply.{Changed, Reply, read_at, write_at, committed, wiped, answered, snapshot_at, snapshot_within, quiet_at, fired_at, sized, woken_by, stopped_at, refused, further, change_text, changed_lines, did_lines, row_lines, reply_text}
use Rattle.run_check.specs.TextLines.{TextLine, begun_with, text_lines}
use Rattle.run_check.proofs.IndentedTexts.{AreFlat, AreFlatChanges, IsCleanReply, change_flat}
use Rattle.run_check.proofs.PlainTexts.{decimal_flat, is_flat, is_other, lacks_both, other_is, row_flat}

-- ---- lines of a text

abbrev pub ended_line : Bytes → TextLine
ended_line text = record { text = text; ended = true }

-- the first line, up to a line feed
pub first_line : (a x : Bytes) → is_flat a ≡ true → text_lines (a ++ 10 ∷ x) ≡ ended_line a ∷ text_lines x
first_line [] x flat = refl
first_line (b ∷ a) x flat =
    let parts : (is_other 10 b ≡ true) × (is_flat a ≡ true) = and_parts (is_other 10 b) (is_flat a) flat in
    let other : (b == 10) ≡ false = false_from_ne_true (b == 10) (λ e. other_is 10 b parts.0 (eqb-true b 10 e)) in
    ap (λ (t : Bool). if t then record { text = []; ended = true } ∷ text_lines (a ++ 10 ∷ x) else begun_with b (text_lines (a ++ 10 ∷ x))) other
    ∙ ap (begun_with b) (first_line a x parts.1)

-- ---- a first line, and further ones

-- further lines, each with the line feed before it
abbrev pub joined : List Bytes → Bytes
joined [] = []
joined (t ∷ ts) = further t ++ joined ts

abbrev pub further_line : Bytes → TextLine
further_line t = record { text = 32 ∷ 32 ∷ t; ended = true }

pub more_lines : (a : Bytes) (ts : List Bytes) (x : Bytes) → is_flat a ≡ true → AreFlat ts → text_lines (a ++ (joined ts ++ 10 ∷ x)) ≡ ended_line a ∷ (map further_line ts ++ text_lines x)
more_lines a [] x flat all = first_line a x flat
more_lines a (t ∷ ts) x flat all =
    let rest : Bytes = (32 ∷ 32 ∷ t) ++ (joined ts ++ 10 ∷ x) in
    let cut : joined (t ∷ ts) ++ 10 ∷ x ≡ 10 ∷ rest = append_assoc (further t) (joined ts) (10 ∷ x) in
    ap (λ (y : Bytes). text_lines (a ++ y)) cut
    ∙ first_line a rest flat
    ∙ ap (λ (ls : List TextLine). ended_line a ∷ ls) (more_lines (32 ∷ 32 ∷ t) ts x all.0 all.1)

-- ---- those of a reply

abbrev pub head_text : Reply → Bytes
head_text (committed n changed texts) = codes "commit @" ++ decimal n
head_text (answered (Many rows)) = codes "rows " ++ decimal (length rows)
head_text r = reply_text r

-- `did TEXT`
abbrev did_text : Bytes → Bytes
did_text t = codes "did " ++ t

abbrev pub rows_of : Reply → List Bytes
rows_of (committed n changed texts) = map change_text changed ++ map did_text texts
rows_of (answered (Many rows)) = map row_text rows
rows_of r = []

joined_rows : (rows : List Fields) → row_lines rows ≡ joined (map row_text rows)
joined_rows [] = refl
joined_rows (r ∷ rows) = ap (λ (x : Bytes). further (row_text r) ++ x) (joined_rows rows)

joined_texts : (texts : List Bytes) → did_lines texts ≡ joined (map did_text texts)
joined_texts [] = refl
joined_texts (t ∷ texts) = ap (λ (x : Bytes). further (did_text t) ++ x) (joined_texts texts)

joined_changes : (changed : List Changed) (texts : List Bytes) → changed_lines changed ++ did_lines texts ≡ joined (map change_text changed ++ map did_text texts)
joined_changes [] texts = joined_texts texts
joined_changes (c ∷ changed) texts =
    append_assoc (further (change_text c)) (changed_lines changed) (did_lines texts)
    ∙ ap (λ (x : Bytes). further (change_text c) ++ x) (joined_changes changed texts)

-- a reply with one line
one_line : (r : Reply) → reply_text r ≡ reply_text r ++ []
one_line r = sym (append-nil (reply_text r))

pub reply_parts : (r : Reply) → reply_text r ≡ head_text r ++ joined (rows_of r)
reply_parts (committed n changed texts) = ap (λ (x : Bytes). codes "commit @" ++ (decimal n ++ x)) (joined_changes changed texts)
reply_parts (answered (Many rows)) = ap (λ (x : Bytes). codes "rows " ++ (decimal (length rows) ++ x)) (joined_rows rows)
reply_parts r = one_line r

-- ---- no line has a line feed

numbered_flat : (w : Bytes) (n : ℕ) → is_flat w ≡ true → is_flat (w ++ decimal n) ≡ true
numbered_flat w n flat = lacks_both 10 w (decimal n) flat (decimal_flat n)

pub head_flat : (r : Reply) → IsCleanReply r → is_flat (head_text r) ≡ true
head_flat (committed n changed texts) clean = numbered_flat (codes "commit @") n refl
head_flat (answered (Many rows)) clean = numbered_flat (codes "rows ") (length rows) refl
head_flat (answered (One (Some row))) clean = lacks_both 10 (codes "row ") (row_text row) refl (row_flat row)
head_flat (read_at n) clean = numbered_flat (codes "read @") n refl
head_flat (write_at n) clean = numbered_flat (codes "write @") n refl
head_flat (wiped k) clean = numbered_flat (codes "deleted ") k refl
head_flat (snapshot_at n) clean = numbered_flat (codes "snapshot @") n refl
head_flat (snapshot_within n) clean = lacks_both 10 (codes "snapshot @") (decimal n ++ codes "+") refl (lacks_both 10 (decimal n) (codes "+") (decimal_flat n) refl)
head_flat (quiet_at n) clean = numbered_flat (codes "quiet @") n refl
head_flat (fired_at n) clean = numbered_flat (codes "fired @") n refl
head_flat (sized k) clean = numbered_flat (codes "size ") k refl
head_flat (woken_by name n) clean = lacks_both 10 (codes "fired ") (name ++ (codes " @" ++ decimal n)) refl (lacks_both 10 name (codes " @" ++ decimal n) clean (numbered_flat (codes " @") n refl))
head_flat (stopped_at n) clean = numbered_flat (codes "stopped @") n refl
head_flat (refused rule) clean = lacks_both 10 (codes "refused ") rule refl clean
head_flat r clean = refl

both_flat : (ts us : List Bytes) → AreFlat ts → AreFlat us → AreFlat (ts ++ us)
both_flat [] us flat others = others
both_flat (t ∷ ts) us flat others = (flat.0, both_flat ts us flat.1 others)

changes_flat : (changed : List Changed) → AreFlatChanges changed → AreFlat (map change_text changed)
changes_flat [] flat = tt
changes_flat (c ∷ changed) flat = (change_flat c flat.0, changes_flat changed flat.1)

texts_flat : (texts : List Bytes) → AreFlat texts → AreFlat (map did_text texts)
texts_flat [] flat = tt
texts_flat (t ∷ texts) flat = (lacks_both 10 (codes "did ") t refl flat.0, texts_flat texts flat.1)

all_rows_flat : (rows : List Fields) → AreFlat (map row_text rows)
all_rows_flat [] = tt
all_rows_flat (r ∷ rows) = (row_flat r, all_rows_flat rows)

pub rows_flat : (r : Reply) → IsCleanReply r → AreFlat (rows_of r)
rows_flat (committed n changed texts) clean = both_flat (map change_text changed) (map did_text texts) (changes_flat changed clean.0) (texts_flat texts clean.1)
rows_flat (answered (Many rows)) clean = all_rows_flat rows
rows_flat r clean = tt

-- so the lines of a reply, and of what follows
pub reply_lines : (front : Bytes) (r : Reply) (x : Bytes) → is_flat front ≡ true → IsCleanReply r → text_lines (front ++ (reply_text r ++ 10 ∷ x)) ≡ ended_line (front ++ head_text r) ∷ (map further_line (rows_of r) ++ text_lines x)
reply_lines front r x flat clean =
    ap (λ (t : Bytes). text_lines (front ++ (t ++ 10 ∷ x))) (reply_parts r)
    ∙ ap (λ (t : Bytes). text_lines (front ++ t)) (append_assoc (head_text r) (joined (rows_of r)) (10 ∷ x))
    ∙ ap text_lines (sym (append_assoc front (head_text r) (joined (rows_of r) ++ 10 ∷ x)))
    ∙ more_lines (front ++ head_text r) (rows_of r) x (lacks_both 10 front (head_text r) flat (head_flat r clean)) (rows_flat r clean)
