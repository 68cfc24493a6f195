-- No text has two first bad lines.
use Rattle.std.proofs.Common.{arith, ◌≡◌, refl, subst, sym, ◌∙◌, ℕ, ◌+◌, ◌^◌, ◌<◌, ◌≤◌, inl, inr, List, [], ◌∷◌, length, Ok, Err}
use Rattle.std.specs.Bool.{⊤}
use Rattle.mdb_datum.specs.Bytes.{Bytes}
use Rattle.mdb_schema.specs.History.{History}
use Rattle.mdb_schema.specs.Schema.{DbSchema}
use Rattle.client_script.specs.Client.{Client, at_start}
use Rattle.client_script.specs.Reply.{Reply}
use Rattle.client_script.specs.Session.{Answers}
use Rattle.client_script.specs.Within.{IsWithin}
use Rattle.client_script.specs.declared.command.Command.{Command}
use Rattle.client_script.specs.declared.line.Line.{Line}
use Rattle.client_script.proofs.LongerHistory.{answered_within, start_within}
use Rattle.client_script.proofs.OneClient.{self_le}
use Rattle.client_script.proofs.OneHistory.{next_same}
use Rattle.run_check.specs.FirstBad.{AreTold, AreToldUpTo, Found, IsFirstBad, IsFirstUntold, IsTold, found_in}
use Rattle.run_check.specs.Shape.{Printed, Read}
use Rattle.run_check.proofs.CleanClients.{answered_clean}
use Rattle.run_check.proofs.CleanNames.{IsCleanClient, IsCleanCommand, IsCleanSchema, start_clean}
use Rattle.run_check.proofs.Outcomes.{IfOk}
use Rattle.run_check.proofs.OutputCut.{AreCleanLines, AreCleanScripts}
use Rattle.run_check.proofs.ShapeCounts.{found_few}
use Rattle.run_check.proofs.TextHistory.{line_same}

module _ (schema : DbSchema) (names : IsCleanSchema schema) (H : History) (few : length H < 2 ^ 64) where
  -- what a client knows after a text is one
  pub told_next : (client : ℕ) (v next next' : Client) (c : Command) (text : Bytes) → IsWithin (length H) v → IsCleanClient v → IsTold schema H client v c text next → IsTold schema H client v c text next' → next ≡ next'
  told_next client v next next' c text within clean told told' =
      let one : told.reply ≡ told'.reply = line_same schema H H few few names (length H) (self_le (length H)) (self_le (length H)) refl client v next next' c told.reply told'.reply within clean told.answers told'.answers (told.printed ∙ sym told'.printed) in
      let a : Answers schema H client v c told.reply next = told.answers in
      let a' : Answers schema H client v c told.reply next' = subst (λ (x : Reply). Answers schema H client v c x next') (sym one) told'.answers in
      next_same schema H H client (length H) (self_le (length H)) (self_le (length H)) refl a.now a'.now v c told.reply next next' within a.says a'.says

  pub told_within_history : (client : ℕ) (v next : Client) (c : Command) (text : Bytes) → IsWithin (length H) v → IsTold schema H client v c text next → IsWithin (length H) next
  told_within_history client v next c text within told = answered_within schema H client v c told.reply next within told.answers

  pub told_clean_client : (client : ℕ) (v next : Client) (c : Command) (text : Bytes) → IsCleanClient v → IsCleanCommand c → IsTold schema H client v c text next → IsCleanClient next
  told_clean_client client v next c text clean plain told = let a = told.answers in (answered_clean schema names H v clean client a.now c told.reply next plain a.says).1

  up_to_one : (client line other : ℕ) (v : Client) (ls : List Line) (ps : List Printed) → IsWithin (length H) v → IsCleanClient v → AreCleanLines ls → AreToldUpTo schema H client v ls ps line → AreToldUpTo schema H client v ls ps other → line ≡ other
  up_to_one client line other v [] ps within clean lines told told' = absurd told
  up_to_one client line other v (l ∷ ls) [] within clean lines told told' = absurd told
  up_to_one client line other v (l ∷ ls) (p ∷ ps) within clean lines (inl here) (inl here') = sym here.1 ∙ here'.1
  up_to_one client line other v (l ∷ ls) (p ∷ ps) within clean lines (inl here) (inr later') = absurd (here.0 later'.0 later'.1)
  up_to_one client line other v (l ∷ ls) (p ∷ ps) within clean lines (inr later) (inl here') = absurd (here'.0 later.0 later.1)
  up_to_one client line other v (l ∷ ls) (p ∷ ps) within clean lines (inr (next, told, rest)) (inr (next', told', rest')) =
      let is : next ≡ next' = told_next client v next next' l.command p.text within clean told told' in
      up_to_one client line other next ls ps (told_within_history client v next l.command p.text within told) (told_clean_client client v next l.command p.text clean lines.0 told) lines.1 rest (subst (λ (x : Client). AreToldUpTo schema H client x ls ps other) (sym is) rest')

  not_both : (client line : ℕ) (v : Client) (ls : List Line) (ps : List Printed) → IsWithin (length H) v → IsCleanClient v → AreCleanLines ls → AreTold schema H client v ls ps → AreToldUpTo schema H client v ls ps line → ⊥
  not_both client line v [] ps within clean lines all told = absurd told
  not_both client line v (l ∷ ls) [] within clean lines all told = absurd told
  not_both client line v (l ∷ ls) (p ∷ ps) within clean lines (next, told, rest) (inl here) = here.0 next told
  not_both client line v (l ∷ ls) (p ∷ ps) within clean lines (next, told, rest) (inr (next', told', rest')) =
      let is : next ≡ next' = told_next client v next next' l.command p.text within clean told told' in
      not_both client line next ls ps (told_within_history client v next l.command p.text within told) (told_clean_client client v next l.command p.text clean lines.0 told) lines.1 rest (subst (λ (x : Client). AreToldUpTo schema H client x ls ps line) (sym is) rest')

  -- where all are told, none is the first that isn't
  abbrev pub AllTold : ℕ → List (List Line) → List (List Printed) → Type 0
  AllTold k [] pss = ⊤
  AllTold k (s ∷ ss) [] = ⊤
  AllTold k (s ∷ ss) (ps ∷ pss) = AreTold schema H k at_start s ps × AllTold (k + 1) ss pss

  first_one : (k line other : ℕ) (ss : List (List Line)) (pss : List (List Printed)) → AreCleanScripts ss → IsFirstUntold schema H k ss pss line → IsFirstUntold schema H k ss pss other → line ≡ other
  first_one k line other [] pss scripts first first' = absurd first
  first_one k line other (s ∷ ss) [] scripts first first' = absurd first
  first_one k line other (s ∷ ss) (ps ∷ pss) scripts (inl here) (inl here') = up_to_one k line other at_start s ps (start_within (length H)) start_clean scripts.0 here here'
  first_one k line other (s ∷ ss) (ps ∷ pss) scripts (inl here) (inr later') = absurd (not_both k line at_start s ps (start_within (length H)) start_clean scripts.0 later'.0 here)
  first_one k line other (s ∷ ss) (ps ∷ pss) scripts (inr later) (inl here') = absurd (not_both k other at_start s ps (start_within (length H)) start_clean scripts.0 later.0 here')
  first_one k line other (s ∷ ss) (ps ∷ pss) scripts (inr later) (inr later') = first_one (k + 1) line other ss pss scripts.1 later.1 later'.1

  pub none_untold : (k line : ℕ) (ss : List (List Line)) (pss : List (List Printed)) → AreCleanScripts ss → AllTold k ss pss → IsFirstUntold schema H k ss pss line → ⊥
  none_untold k line [] pss scripts all first = absurd first
  none_untold k line (s ∷ ss) [] scripts all first = absurd first
  none_untold k line (s ∷ ss) (ps ∷ pss) scripts all (inl here) = not_both k line at_start s ps (start_within (length H)) start_clean scripts.0 all.0 here
  none_untold k line (s ∷ ss) (ps ∷ pss) scripts all (inr later) = none_untold (k + 1) line ss pss scripts.1 all.1 later.1

-- what the first three tests tell of a line that is the first bad one
abbrev pub IsBadBy : DbSchema → List (List Line) → ℕ → Read Found → Type 0
IsBadBy schema scripts line (Err bad) = bad ≡ line
IsBadBy schema scripts line (Ok found) = IsFirstUntold schema found.history 1 scripts found.replies line

pub first_bad_one : (schema : DbSchema) (names : List Bytes) (scripts : List (List Line)) (out : Bytes) (line other : ℕ) → IsCleanSchema schema → AreCleanScripts scripts → length out ≤ 2 ^ 24 → IsFirstBad schema names scripts out line → IsFirstBad schema names scripts out other → line ≡ other
first_bad_one schema names scripts out line other plain clean small = by (found_in schema names scripts out) (found_few schema names scripts out)
  where
    by : (r : Read Found) → IfOk (λ (f : Found). length f.history ≤ length out) r → IsBadBy schema scripts line r → IsBadBy schema scripts other r → line ≡ other
    by (Err bad) few is is' = sym is ∙ is'
    by (Ok found) few is is' = first_one schema plain found.history (omega (arith, few, small)) 1 line other scripts found.replies clean is is'
