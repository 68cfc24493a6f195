-- An output is cut into the texts of replies in one way.
use Rattle.std.proofs.Common.{arith, ◌≡◌, ap, subst, sym, ◌∙◌, ℕ, ◌+◌, List, [], ◌∷◌, ◌++◌, length, true, decimal, codes, append_assoc}
use Rattle.std.specs.Bool.{⊤}
use Rattle.std.proofs.lemmas.Bool.{and_parts}
use Rattle.std.proofs.lemmas.List.{append_cancel_left}
use Rattle.mdb_datum.specs.Bytes.{Bytes}
use Rattle.mdb_schema.specs.History.{History}
use Rattle.mdb_schema.specs.Schema.{DbSchema}
use Rattle.client_script.specs.Client.{Client, at_start}
use Rattle.client_script.specs.Reply.{Reply, heading, line_text, lines_text, output_text, reply_text}
use Rattle.client_script.specs.Session.{Runs, Sessions}
use Rattle.client_script.specs.declared.line.Line.{Line}
use Rattle.run_check.proofs.CleanClients.{answered_clean}
use Rattle.run_check.proofs.CleanNames.{IsCleanClient, IsCleanCommand, IsCleanSchema, start_clean}
use Rattle.run_check.proofs.IndentedTexts.{BeginsBlank, IsCleanReply, indented_cut, reply_indented}
use Rattle.run_check.proofs.PlainTexts.{decimal_lacks, is_other, lacks, other_is}

-- ---- scripts and replies without line feeds in names and texts

-- the commands of a script
abbrev pub AreCleanLines : List Line → Type 0
AreCleanLines [] = ⊤
AreCleanLines (l ∷ ls) = IsCleanCommand l.command × AreCleanLines ls

abbrev pub AreCleanScripts : List (List Line) → Type 0
AreCleanScripts [] = ⊤
AreCleanScripts (s ∷ ss) = AreCleanLines s × AreCleanScripts ss

-- a reply to each line
abbrev pub AreReplies : List Line → List Reply → Type 0
AreReplies [] [] = ⊤
AreReplies [] (r ∷ rs) = ⊥
AreReplies (l ∷ ls) [] = ⊥
AreReplies (l ∷ ls) (r ∷ rs) = IsCleanReply r × AreReplies ls rs

abbrev pub HaveReplies : List (List Line) → List (List Reply) → Type 0
HaveReplies [] [] = ⊤
HaveReplies [] (rs ∷ rss) = ⊥
HaveReplies (s ∷ ss) [] = ⊥
HaveReplies (s ∷ ss) (rs ∷ rss) = AreReplies s rs × HaveReplies ss rss

module _ (schema : DbSchema) (names : IsCleanSchema schema) (H : History) where
  runs_clean : (client : ℕ) (v : Client) (ls : List Line) (rs : List Reply) (end : Client) → IsCleanClient v → AreCleanLines ls → Runs schema H client v ls rs end → AreReplies ls rs
  runs_clean client v [] [] end clean lines runs = tt
  runs_clean client v [] (r ∷ rs) end clean lines runs = absurd runs
  runs_clean client v (l ∷ ls) [] end clean lines runs = absurd runs
  runs_clean client v (l ∷ ls) (r ∷ rs) end clean lines (next, a, runs) =
      let told : IsCleanReply r × IsCleanClient next = answered_clean schema names H v clean client a.now l.command r next lines.0 a.says in
      (told.0, runs_clean client next ls rs end told.1 lines.1 runs)

  pub sessions_clean : (k : ℕ) (ss : List (List Line)) (rss : List (List Reply)) → AreCleanScripts ss → Sessions schema H k ss rss → HaveReplies ss rss
  sessions_clean k [] [] scripts sessions = tt
  sessions_clean k [] (rs ∷ rss) scripts sessions = absurd sessions
  sessions_clean k (s ∷ ss) [] scripts sessions = absurd sessions
  sessions_clean k (s ∷ ss) (rs ∷ rss) scripts (session, others) = (runs_clean k at_start s rs session.0 start_clean scripts.0 session.1, sessions_clean (k + 1) ss rss scripts.1 others)

-- ---- replies of the same texts

abbrev pub AreOfOneText : List Reply → List Reply → Type 0
AreOfOneText [] [] = ⊤
AreOfOneText [] (s ∷ ss) = ⊥
AreOfOneText (r ∷ rs) [] = ⊥
AreOfOneText (r ∷ rs) (s ∷ ss) = (reply_text r ≡ reply_text s) × AreOfOneText rs ss

abbrev pub AllOfOneText : List (List Reply) → List (List Reply) → Type 0
AllOfOneText [] [] = ⊤
AllOfOneText [] (ss ∷ sss) = ⊥
AllOfOneText (rs ∷ rss) [] = ⊥
AllOfOneText (rs ∷ rss) (ss ∷ sss) = AreOfOneText rs ss × AllOfOneText rss sss

-- ---- cuts

dark_first : (ds rest : Bytes) → lacks 32 ds ≡ true → BeginsBlank (ds ++ 58 ∷ rest) → ⊥
dark_first [] rest dark blank = omega (arith, blank)
dark_first (d ∷ ds) rest dark blank = other_is 32 d (and_parts (is_other 32 d) (lacks 32 ds) dark).0 blank

-- LINE: ANSWER
pub line_is : (n : ℕ) (r : Reply) (rest : Bytes) → line_text n r ++ rest ≡ decimal n ++ (codes ": " ++ (reply_text r ++ 10 ∷ rest))
line_is n r rest =
    append_assoc (decimal n) (codes ": " ++ (reply_text r ++ 10 ∷ [])) rest
    ∙ ap (λ (x : Bytes). decimal n ++ (codes ": " ++ x)) (append_assoc (reply_text r) (10 ∷ []) rest)

pub lines_dark : (ls : List Line) (rs : List Reply) (rest : Bytes) → (BeginsBlank rest → ⊥) → BeginsBlank (lines_text ls rs ++ rest) → ⊥
lines_dark [] rs rest dark blank = dark blank
lines_dark (l ∷ ls) [] rest dark blank = dark blank
lines_dark (l ∷ ls) (r ∷ rs) rest dark blank =
    let is : (line_text l.number r ++ lines_text ls rs) ++ rest ≡ decimal l.number ++ (codes ": " ++ (reply_text r ++ 10 ∷ (lines_text ls rs ++ rest))) =
    append_assoc (line_text l.number r) (lines_text ls rs) rest ∙ line_is l.number r (lines_text ls rs ++ rest) in
    dark_first (decimal l.number) (32 ∷ (reply_text r ++ 10 ∷ (lines_text ls rs ++ rest))) (decimal_lacks 32 l.number (omega arith)) (subst BeginsBlank is blank)

lines_cut : (ls : List Line) (rs ss : List Reply) (x y : Bytes) → AreReplies ls rs → AreReplies ls ss → (BeginsBlank x → ⊥) → (BeginsBlank y → ⊥) → lines_text ls rs ++ x ≡ lines_text ls ss ++ y → AreOfOneText rs ss × (x ≡ y)
lines_cut [] [] [] x y clean clean' no_x no_y same = (tt, same)
lines_cut [] [] (s ∷ ss) x y clean clean' no_x no_y same = absurd clean'
lines_cut [] (r ∷ rs) ss x y clean clean' no_x no_y same = absurd clean
lines_cut (l ∷ ls) [] ss x y clean clean' no_x no_y same = absurd clean
lines_cut (l ∷ ls) (r ∷ rs) [] x y clean clean' no_x no_y same = absurd clean'
lines_cut (l ∷ ls) (r ∷ rs) (s ∷ ss) x y clean clean' no_x no_y same =
    let here : Bytes = lines_text ls rs ++ x in
    let there : Bytes = lines_text ls ss ++ y in
    let whole : decimal l.number ++ (codes ": " ++ (reply_text r ++ 10 ∷ here)) ≡ decimal l.number ++ (codes ": " ++ (reply_text s ++ 10 ∷ there)) =
    sym (append_assoc (line_text l.number r) (lines_text ls rs) x ∙ line_is l.number r here)
    ∙ same
    ∙ (append_assoc (line_text l.number s) (lines_text ls ss) y ∙ line_is l.number s there) in
    let texts : reply_text r ++ 10 ∷ here ≡ reply_text s ++ 10 ∷ there =
    append_cancel_left (codes ": ") (reply_text r ++ 10 ∷ here) (reply_text s ++ 10 ∷ there)
    (append_cancel_left (decimal l.number) (codes ": " ++ (reply_text r ++ 10 ∷ here)) (codes ": " ++ (reply_text s ++ 10 ∷ there)) whole) in
    let cut : (reply_text r ≡ reply_text s) × (here ≡ there) = indented_cut (reply_text r) (reply_text s) here there (reply_indented r clean.0) (reply_indented s clean'.0) (lines_dark ls rs x no_x) (lines_dark ls ss y no_y) texts in
    let others : AreOfOneText rs ss × (x ≡ y) = lines_cut ls rs ss x y clean.1 clean'.1 no_x no_y cut.1 in
    ((cut.0, others.0), others.1)

pub output_dark : (k : ℕ) (ws : List Bytes) (ss : List (List Line)) (rss : List (List Reply)) → BeginsBlank (output_text k ws ss rss) → ⊥
output_dark k [] ss rss blank = blank
output_dark k (w ∷ ws) [] rss blank = blank
output_dark k (w ∷ ws) (s ∷ ss) [] blank = blank
output_dark k (w ∷ ws) (s ∷ ss) (rs ∷ rss) blank = omega (arith, blank)

-- so outputs that are one text are made of replies of the same texts
pub output_cut : (k : ℕ) (ws : List Bytes) (ss : List (List Line)) (rss sss : List (List Reply)) → length ws ≡ length ss → HaveReplies ss rss → HaveReplies ss sss → output_text k ws ss rss ≡ output_text k ws ss sss → AllOfOneText rss sss
output_cut k ws [] [] [] named clean clean' same = tt
output_cut k ws [] [] (ts ∷ sss) named clean clean' same = absurd clean'
output_cut k ws [] (rs ∷ rss) sss named clean clean' same = absurd clean
output_cut k ws (s ∷ ss) [] sss named clean clean' same = absurd clean
output_cut k ws (s ∷ ss) (rs ∷ rss) [] named clean clean' same = absurd clean'
output_cut k [] (s ∷ ss) (rs ∷ rss) (ts ∷ sss) named clean clean' same = absurd (omega (arith, named))
output_cut k (w ∷ ws) (s ∷ ss) (rs ∷ rss) (ts ∷ sss) named clean clean' same =
    let here : Bytes = output_text (k + 1) ws ss rss in
    let there : Bytes = output_text (k + 1) ws ss sss in
    let lines : lines_text s rs ++ here ≡ lines_text s ts ++ there = append_cancel_left (heading k w) (lines_text s rs ++ here) (lines_text s ts ++ there) same in
    let cut : AreOfOneText rs ts × (here ≡ there) = lines_cut s rs ts here there clean.0 clean'.0 (output_dark (k + 1) ws ss rss) (output_dark (k + 1) ws ss sss) lines in
    (cut.0, output_cut (k + 1) ws ss rss sss (omega (arith, named)) clean.1 clean'.1 cut.1)
