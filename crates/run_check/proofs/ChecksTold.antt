-- What a check of a watch tells, as the code carries it out.
use Rattle.std.proofs.Common.{◌≡◌, refl, subst, sym, ◌∙◌, ap, ℕ, ◌≤◌, inl, inr, ◌++◌, [], List, length, Bool, true, false, None, Option, Some, slice_get, Ok, Err, codes, decimal, if◌then◌else◌}
use Rattle.std.specs.Bool.{Decides}
use Rattle.std.proofs.lemmas.Bool.Decides.{not_from_Decides}
use Rattle.std.proofs.lemmas.Option.{same_Some}
use Rattle.mdb_datum.specs.Bytes.{Bytes}
use Rattle.mdb_schema.specs.Guarded.{IsUnchanged}
use Rattle.mdb_schema.specs.History.{History}
use Rattle.mdb_schema.specs.Schema.{DbSchema}
use Rattle.mdb_schema.specs.Watchable.{IsTouched}
use Rattle.client_script.specs.Client as plain
use Rattle.client_script.specs.Watching.{check_judged, told_number}
use Rattle.client_script.specs.declared.rule.Rule.{Rule}
use Rattle.client_script.specs.RuleName.{rule_name}
use Rattle.client_script.specs.declared.command.Command.TheVariants as command
use Rattle.client_script.specs.declared.command.WatchesCommand.TheVariants as watches_line
use Rattle.run_check.specs.TextLines.{number_behind}
use Rattle.run_check.specs.declared.client.Client.{Client}
use Rattle.run_check.specs.declared.session.Sessions.{Sessions}
use Rattle.run_check.specs.inner.ClientView.{known, watches_known}
use Rattle.run_check.specs.inner.Decided.{IsDecided}
use Rattle.run_check.specs.inner.SessionView.{IsDue, IsKnown, TellsMade}
use Rattle.run_check.specs.inner.StoreView.{Begun}
use Rattle.run_check.specs.inner.WaitView.{HasFiredAt}
use Rattle.run_check.proofs.DecidedNumbers.{IsLook, IsPresent, check_refused, check_undecided, fired_decided, its_number, quiet_decided}
use Rattle.run_check.proofs.NumbersTold.{IsNoneSaid, IsNumberSaid, IsSaid, none_said, number_said, said_known, with_text}
use Rattle.run_check.proofs.PlacesWatched.{fired_there}

-- ---- what is told

no_number : (n : ℕ) → Some n ≡ None → ⊥
no_number n e = cc

module _ (schema : DbSchema) (H : History) (txns : List Begun) (client : ℕ) (name text : Bytes) where
  -- a rule that the line breaks is told
  pub check_breaks : (s : Sessions) (v : Client) (rule : Rule) → IsKnown schema H txns s v → check_judged (known txns v) name ≡ Err (rule_name schema rule) → TellsMade schema H client (command.Watches (watches_line.Check name)) text (codes "refused " ++ rule_name schema rule) (known txns v) s v
  check_breaks s v rule knows is = record {
    txns = txns;
    decided = check_refused schema H (known txns v) client name knows.sound.last (rule_name schema rule) is text;
    keeps = λ e. knows;
  }

  -- a check that looks at a watch, and has said nothing
  pub record IsLooking (s : Sessions) (v : Client) (w : plain.Watch) : Type 0 where
    pub knows : IsKnown schema H txns s v
    pub due : IsDue schema H client (known txns v) text
    pub judged : check_judged (known txns v) name ≡ Ok w
    pub empty : s.text.items ≡ []

  module _ (s : Sessions) (v : Client) (w : plain.Watch) (looking : IsLooking s v w) (x : Sessions) (k : Client) (told : Option ℕ) where
    -- it still says nothing
    looks_on : (word : Bytes) → IsSaid word text s v x k told → told ≡ None → IsLooking x k w
    looks_on word is none =
        let said : IsNoneSaid H word text s v x k = none_said schema H txns s v looking.knows word text x k told is none in
        record {
          knows = said_known schema H txns s v looking.knows word text x k told is;
          due = subst (λ (u : Client). IsDue schema H client (known txns u) text) (sym said.same) looking.due;
          judged = subst (λ (u : Client). check_judged (known txns u) name ≡ Ok w) (sym said.same) looking.judged;
          empty = said.text_is ∙ looking.empty;
        }

    abbrev Decided : Bytes → plain.Client → Type 0
    Decided made next = IsDecided schema H client (known txns v) (command.Watches (watches_line.Check name)) text made next

    -- a text that was said, and kept or cleared
    kept_text : (word : Bytes) (n : ℕ) → IsNumberSaid H word text s v x k n → (b : Bool) (y : Sessions) → y.text.items ≡ (if b then x.text.items else []) → (b ≡ true → Decided (word ++ decimal n) (told_number n (known txns v))) → (b ≡ false → Decided [] (known txns k)) → Decided y.text.items (known txns k)
    kept_text word n said true y is may may_not =
        let made : y.text.items ≡ word ++ decimal n = is ∙ said.text_is ∙ ap (λ (t : Bytes). t ++ (word ++ decimal n)) looking.empty in
        let next : known txns k ≡ told_number n (known txns v) = ap (known txns) said.after in
        subst (λ (t : Bytes). Decided t (known txns k)) (sym made) (subst (Decided (word ++ decimal n)) (sym next) (may refl))
    kept_text word n said false y is may may_not = subst (λ (t : Bytes). Decided t (known txns k)) (sym is) (may_not refl)

    abbrev Looked : ℕ → Type 0
    Looked m = IsLook schema H (known txns v) client name w looking.judged text m

    -- a number is said behind a word, where what the word tells of it may be told, and nothing else
    looked : (word : Bytes) → IsSaid word text s v x k told → (n : ℕ) → told ≡ Some n → (P : ℕ → Type 0) (b : Bool) → Decides b (P n) → (y : Sessions) → y.text.items ≡ (if b then x.text.items else []) → y ≡ record x { text = y.text }
        → (number_behind word text ≡ Some n → IsPresent schema H (known txns v) client n → P n → Decided (word ++ decimal n) (told_number n (known txns v))) → (number_behind word text ≡ Some n → (m : ℕ) → Looked m → (text ≡ word ++ decimal m) × P m)
        → TellsMade schema H client (command.Watches (watches_line.Check name)) text y.text.items (known txns v) y k
    looked word is n some P b tells y kept same may only = record {
      txns = txns;
      decided = kept_text word n said b y kept
          (λ yes. may said.found (record { not_older = said.not_older; there = said.there }) (tells.0 yes))
          (λ denied. check_undecided schema H (known txns v) client name w looking.judged text looking.due.some (λ m here look. refuted denied m here (only said.found m look)) (known txns k));
      keeps = λ e. with_text schema H txns x k (said_known schema H txns s v looking.knows word text x k told is) y same;
    }
      where
        said : IsNumberSaid H word text s v x k n
        said = number_said schema H txns s v looking.knows word text x k told is n some

        refuted : b ≡ false → (m : ℕ) → IsPresent schema H (known txns v) client m → (text ≡ word ++ decimal m) × P m → ⊥
        refuted denied m here look =
            let same : n ≡ m = same_Some n m (sym said.found ∙ its_number schema H (known txns v) client looking.due.few word text m here look.0) in
            not_from_Decides b tells denied (subst P (sym same) look.1)

    -- it says that the watch is quiet, where that may be told
    pub quiet_looked : IsSaid (codes "quiet @") text s v x k told → (n : ℕ) → told ≡ Some n → (b : Bool) → Decides b (IsUnchanged schema H client w.query w.number n) → (y : Sessions) → y.text.items ≡ (if b then x.text.items else []) → y ≡ record x { text = y.text } → TellsMade schema H client (command.Watches (watches_line.Check name)) text y.text.items (known txns v) y k
    quiet_looked is n some b tells y kept same =
        looked (codes "quiet @") is n some (λ m. IsUnchanged schema H client w.query w.number m) b tells y kept same
        (λ found here. quiet_decided schema H (known txns v) client name w looking.judged looking.due.few text n found here) only
      where
        only : number_behind (codes "quiet @") text ≡ Some n → (m : ℕ) → Looked m → (text ≡ codes "quiet @" ++ decimal m) × IsUnchanged schema H client w.query w.number m
        only found m (inl look) = look
        only found m (inr look) = absurd (no_number n (sym found ∙ ap (number_behind (codes "quiet @")) look.0))

    -- it says that the watch has fired, where that may be told
    fired_looked : IsSaid (codes "fired @") text s v x k told → (n : ℕ) → told ≡ Some n → (b : Bool) → Decides b (IsTouched schema H w.query w.number n) → (y : Sessions) → y.text.items ≡ (if b then x.text.items else []) → y ≡ record x { text = y.text } → TellsMade schema H client (command.Watches (watches_line.Check name)) text y.text.items (known txns v) y k
    fired_looked is n some b tells y kept same =
        looked (codes "fired @") is n some (λ m. IsTouched schema H w.query w.number m) b tells y kept same
        (λ found here. fired_decided schema H (known txns v) client name w looking.judged looking.due.few text n found here) only
      where
        only : number_behind (codes "fired @") text ≡ Some n → (m : ℕ) → Looked m → (text ≡ codes "fired @" ++ decimal m) × IsTouched schema H w.query w.number m
        only found m (inl look) = absurd (no_number n (sym found ∙ ap (number_behind (codes "fired @")) look.0))
        only found m (inr look) = look

    -- it says neither, where the text tells no number that it may tell
    nothing_looked : IsSaid (codes "fired @") text s v x k told → told ≡ None → ((n : ℕ) → number_behind (codes "quiet @") text ≡ Some n → v.last ≤ n → n ≤ length H → ⊥) → TellsMade schema H client (command.Watches (watches_line.Check name)) text x.text.items (known txns v) x k
    nothing_looked is none no_quiet = record {
      txns = txns;
      decided = subst (λ (t : Bytes). Decided t (known txns k)) (sym (said.text_is ∙ looking.empty))
          (check_undecided schema H (known txns v) client name w looking.judged text looking.due.some refuted (known txns k));
      keeps = λ e. said_known schema H txns s v looking.knows (codes "fired @") text x k told is;
    }
      where
        said : IsNoneSaid H (codes "fired @") text s v x k
        said = none_said schema H txns s v looking.knows (codes "fired @") text x k told is none

        refuted : (m : ℕ) → IsPresent schema H (known txns v) client m → Looked m → ⊥
        refuted m here (inl look) = no_quiet m (its_number schema H (known txns v) client looking.due.few (codes "quiet @") text m here look.0) here.not_older here.there
        refuted m here (inr look) = said.none m (its_number schema H (known txns v) client looking.due.few (codes "fired @") text m here look.0) here.not_older here.there

  -- a text that tells no `quiet` is asked whether it tells `fired`
  module _ (s : Sessions) (v : Client) (w : plain.Watch) (looking : IsLooking s v w) (x : Sessions) (k : Client) (none : Option ℕ) (is : IsSaid (codes "quiet @") text s v x k none) (is_none : none ≡ None)
      (y : Sessions) (l : Client) (told : Option ℕ) (now : IsSaid (codes "fired @") text x k y l told) where
    first : IsNoneSaid H (codes "quiet @") text s v x k
    first = none_said schema H txns s v looking.knows (codes "quiet @") text x k none is is_none

    still : IsLooking x k w
    still = looks_on s v w looking x k none (codes "quiet @") is is_none

    pub fired_next : (n : ℕ) → told ≡ Some n → (place : ℕ) → slice_get (watches_known v.watching) place ≡ Some w → (b : Bool) → (IsKnown schema H txns y l → Decides b (HasFiredAt schema H (watches_known l.watching) (Some place) n))
        → (z : Sessions) → z.text.items ≡ (if b then y.text.items else []) → z ≡ record y { text = z.text } → TellsMade schema H client (command.Watches (watches_line.Check name)) text z.text.items (known txns v) z l
    fired_next n some place at b tells z kept same =
        let number : IsNumberSaid H (codes "fired @") text x k y l n = number_said schema H txns x k still.knows (codes "fired @") text y l told now n some in
        let there : slice_get (watches_known l.watching) place ≡ Some w =
        subst (λ (u : Client). slice_get (watches_known u.watching) place ≡ Some w) (sym (number.after ∙ ap (λ (u : Client). record u { last = n }) first.same)) at in
        let fired = fired_there schema H (watches_known l.watching) n place w b there (tells (said_known schema H txns x k still.knows (codes "fired @") text y l told now)) in
        subst (λ (u : Client). TellsMade schema H client (command.Watches (watches_line.Check name)) text z.text.items (known txns u) z l) first.same
        (fired_looked x k w still y l told now n some b fired z kept same)

    pub nothing_next : told ≡ None → TellsMade schema H client (command.Watches (watches_line.Check name)) text y.text.items (known txns v) y l
    nothing_next says_none =
        let no_quiet = subst (λ (u : Client). (n : ℕ) → number_behind (codes "quiet @") text ≡ Some n → u.last ≤ n → n ≤ length H → ⊥) (sym first.same) first.none in
        subst (λ (u : Client). TellsMade schema H client (command.Watches (watches_line.Check name)) text y.text.items (known txns u) y l) first.same
        (nothing_looked x k w still y l told now says_none no_quiet)
