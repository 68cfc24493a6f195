-- The text of a reply, whose line feeds are followed by blanks: so texts of replies can be cut where
-- the next line begins with another byte.
use Rattle.std.proofs.Common.{◌≡◌, refl, ap, subst, sym, ◌∙◌, ℕ, List, [], ◌∷◌, ◌++◌, length, true, Option, Some, None, decimal, codes}
use Rattle.std.specs.Bool.{⊤}
use Rattle.std.proofs.lemmas.Bool.{and_parts}
use Rattle.mdb_datum.specs.Bytes.{Bytes}
use Rattle.mdb_datum.specs.Row.{Fields}
use Rattle.mdb_datum.specs.Written.{row_text}
use Rattle.mdb_schema.specs.declared.answer.Answer.{Answer}
use Rattle.mdb_schema.specs.declared.answer.Answer.TheVariants.{One, Many}
use Rattle.client_script.specs.Reply.{Changed, Reply, read_at, write_at, ended, committed, aborted, inserted, replaced, deleted, wiped, deferred, answered, snapshot_at, snapshot_within, quiet_at, fired_at, sized, woken_by, stopped_at, refused, further, row_or_none, change_text, changed_lines, did_lines, row_lines, answer_text, reply_text}
use Rattle.run_check.proofs.PlainTexts.{decimal_flat, is_flat, is_other, lacks_both, lacks_cons, other_is, row_flat}

-- ---- indented bytes

-- a blank comes first
abbrev pub BeginsBlank : Bytes → Type 0
BeginsBlank [] = ⊥
BeginsBlank (b ∷ bs) = b ≡ 32

-- each line feed is followed by a blank
abbrev pub IsIndented : Bytes → Type 0
IsIndented [] = ⊤
IsIndented (b ∷ bs) = (b ≡ 10 → BeginsBlank bs) × IsIndented bs

-- two texts that a line feed ends, with what follows, are cut at one place
pub indented_cut : (a b x y : Bytes) → IsIndented a → IsIndented b → (BeginsBlank x → ⊥) → (BeginsBlank y → ⊥) → a ++ 10 ∷ x ≡ b ++ 10 ∷ y → (a ≡ b) × (x ≡ y)
indented_cut [] [] x y in_a in_b no_x no_y same = (refl, cc)
indented_cut [] (c ∷ b) x y in_a in_b no_x no_y same =
    let first : c ≡ 10 = cc in
    let rest : x ≡ b ++ 10 ∷ y = cc in
    absurd (no_x (subst BeginsBlank (sym rest) (longer b (in_b.0 first))))
  where
    longer : (b : Bytes) → BeginsBlank b → BeginsBlank (b ++ 10 ∷ y)
    longer [] blank = absurd blank
    longer (d ∷ b) blank = blank
indented_cut (c ∷ a) [] x y in_a in_b no_x no_y same =
    let first : c ≡ 10 = cc in
    let rest : a ++ 10 ∷ x ≡ y = cc in
    absurd (no_y (subst BeginsBlank rest (longer a (in_a.0 first))))
  where
    longer : (a : Bytes) → BeginsBlank a → BeginsBlank (a ++ 10 ∷ x)
    longer [] blank = absurd blank
    longer (d ∷ a) blank = blank
indented_cut (c ∷ a) (d ∷ b) x y in_a in_b no_x no_y same =
    let first : c ≡ d = cc in
    let rest : a ++ 10 ∷ x ≡ b ++ 10 ∷ y = cc in
    let cut : (a ≡ b) × (x ≡ y) = indented_cut a b x y in_a.1 in_b.1 no_x no_y rest in
    (ap (λ (n : ℕ). n ∷ a) first ∙ ap (λ (l : Bytes). d ∷ l) cut.0, cut.1)

pub indented_both : (a b : Bytes) → IsIndented a → IsIndented b → IsIndented (a ++ b)
indented_both [] b in_a in_b = in_b
indented_both (c ∷ a) b in_a in_b = (λ first. longer a (in_a.0 first), indented_both a b in_a.1 in_b)
  where
    longer : (a : Bytes) → BeginsBlank a → BeginsBlank (a ++ b)
    longer [] blank = absurd blank
    longer (d ∷ a) blank = blank

pub flat_indented : (a : Bytes) → is_flat a ≡ true → IsIndented a
flat_indented [] flat = tt
flat_indented (c ∷ a) flat =
    let parts : (is_other 10 c ≡ true) × (is_flat a ≡ true) = and_parts (is_other 10 c) (is_flat a) flat in
    (λ first. absurd (other_is 10 c parts.0 first), flat_indented a parts.1)

further_indented : (text : Bytes) → is_flat text ≡ true → IsIndented (further text)
further_indented text flat = (λ first. refl, (λ first. cc, (λ first. cc, flat_indented text flat)))

-- ---- replies without line feeds in their names and texts

-- no text has a line feed
abbrev pub AreFlat : List Bytes → Type 0
AreFlat [] = ⊤
AreFlat (t ∷ ts) = (is_flat t ≡ true) × AreFlat ts

-- no table's name has one
abbrev pub AreFlatChanges : List Changed → Type 0
AreFlatChanges [] = ⊤
AreFlatChanges (c ∷ cs) = (is_flat c.table ≡ true) × AreFlatChanges cs

abbrev pub IsCleanReply : Reply → Type 0
IsCleanReply (committed n changed texts) = AreFlatChanges changed × AreFlat texts
IsCleanReply (woken_by name n) = is_flat name ≡ true
IsCleanReply (refused rule) = is_flat rule ≡ true
IsCleanReply r = ⊤

row_or_none_flat : (o : Option Fields) → is_flat (row_or_none o) ≡ true
row_or_none_flat None = refl
row_or_none_flat (Some r) = row_flat r

pub change_flat : (c : Changed) → is_flat c.table ≡ true → is_flat (change_text c) ≡ true
change_flat c flat = lacks_both 10 (codes "changed ") (c.table ++ (32 ∷ (row_or_none c.before ++ (32 ∷ row_or_none c.after)))) refl
    (lacks_both 10 c.table (32 ∷ (row_or_none c.before ++ (32 ∷ row_or_none c.after))) flat
    (lacks_cons 10 32 (row_or_none c.before ++ (32 ∷ row_or_none c.after)) refl
    (lacks_both 10 (row_or_none c.before) (32 ∷ row_or_none c.after) (row_or_none_flat c.before)
    (lacks_cons 10 32 (row_or_none c.after) refl (row_or_none_flat c.after)))))

changed_indented : (cs : List Changed) → AreFlatChanges cs → IsIndented (changed_lines cs)
changed_indented [] flat = tt
changed_indented (c ∷ cs) flat = indented_both (further (change_text c)) (changed_lines cs) (further_indented (change_text c) (change_flat c flat.0)) (changed_indented cs flat.1)

did_indented : (ts : List Bytes) → AreFlat ts → IsIndented (did_lines ts)
did_indented [] flat = tt
did_indented (t ∷ ts) flat = indented_both (further (codes "did " ++ t)) (did_lines ts) (further_indented (codes "did " ++ t) (lacks_both 10 (codes "did ") t refl flat.0)) (did_indented ts flat.1)

rows_indented : (rs : List Fields) → IsIndented (row_lines rs)
rows_indented [] = tt
rows_indented (r ∷ rs) = indented_both (further (row_text r)) (row_lines rs) (further_indented (row_text r) (row_flat r)) (rows_indented rs)

-- a word and a number
numbered_indented : (w : Bytes) (n : ℕ) → is_flat w ≡ true → IsIndented (w ++ decimal n)
numbered_indented w n flat = flat_indented (w ++ decimal n) (lacks_both 10 w (decimal n) flat (decimal_flat n))

answer_indented : (a : Answer) → IsIndented (answer_text a)
answer_indented (One None) = flat_indented (codes "none") refl
answer_indented (One (Some r)) = flat_indented (codes "row " ++ row_text r) (lacks_both 10 (codes "row ") (row_text r) refl (row_flat r))
answer_indented (Many rs) = indented_both (codes "rows ") (decimal (length rs) ++ row_lines rs) (flat_indented (codes "rows ") refl) (indented_both (decimal (length rs)) (row_lines rs) (flat_indented (decimal (length rs)) (decimal_flat (length rs))) (rows_indented rs))

pub reply_indented : (r : Reply) → IsCleanReply r → IsIndented (reply_text r)
reply_indented (read_at n) clean = numbered_indented (codes "read @") n refl
reply_indented (write_at n) clean = numbered_indented (codes "write @") n refl
reply_indented ended clean = flat_indented (codes "ended") refl
reply_indented (committed n changed texts) clean =
    indented_both (codes "commit @") (decimal n ++ (changed_lines changed ++ did_lines texts)) (flat_indented (codes "commit @") refl)
    (indented_both (decimal n) (changed_lines changed ++ did_lines texts) (flat_indented (decimal n) (decimal_flat n))
    (indented_both (changed_lines changed) (did_lines texts) (changed_indented changed clean.0) (did_indented texts clean.1)))
reply_indented aborted clean = flat_indented (codes "aborted") refl
reply_indented inserted clean = flat_indented (codes "inserted") refl
reply_indented replaced clean = flat_indented (codes "replaced") refl
reply_indented deleted clean = flat_indented (codes "deleted") refl
reply_indented (wiped k) clean = numbered_indented (codes "deleted ") k refl
reply_indented deferred clean = flat_indented (codes "deferred") refl
reply_indented (answered a) clean = answer_indented a
reply_indented (snapshot_at n) clean = numbered_indented (codes "snapshot @") n refl
reply_indented (snapshot_within n) clean = flat_indented (codes "snapshot @" ++ (decimal n ++ codes "+")) (lacks_both 10 (codes "snapshot @") (decimal n ++ codes "+") refl (lacks_both 10 (decimal n) (codes "+") (decimal_flat n) refl))
reply_indented (quiet_at n) clean = numbered_indented (codes "quiet @") n refl
reply_indented (fired_at n) clean = numbered_indented (codes "fired @") n refl
reply_indented (sized k) clean = numbered_indented (codes "size ") k refl
reply_indented (woken_by name n) clean = flat_indented (codes "fired " ++ (name ++ (codes " @" ++ decimal n))) (lacks_both 10 (codes "fired ") (name ++ (codes " @" ++ decimal n)) refl (lacks_both 10 name (codes " @" ++ decimal n) clean (lacks_both 10 (codes " @") (decimal n) refl (decimal_flat n))))
reply_indented (stopped_at n) clean = numbered_indented (codes "stopped @") n refl
reply_indented (refused rule) clean = flat_indented (codes "refused " ++ rule) (lacks_both 10 (codes "refused ") rule refl clean)
