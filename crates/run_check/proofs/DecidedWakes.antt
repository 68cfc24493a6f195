-- Which member a wait tells: the first whose name the text has.
use Rattle.std.proofs.Common.{◌≡◌, ◌≢◌, refl, ap, sym, ◌∙◌, ℕ, ◌^◌, ◌<◌, ◌≤◌, ◌⊎◌, inl, inr, [], ◌∷◌, ◌++◌, length, Option, Some, None, Ok, decimal, codes, unwrap_or}
use Rattle.std.proofs.lemmas.Bool.{cases_lt}
use Rattle.std.proofs.lemmas.List.{append_cancel_left}
use Rattle.mdb_datum.specs.Bytes.{Bytes}
use Rattle.mdb_schema.specs.History.{History}
use Rattle.mdb_schema.specs.Schema.{DbSchema}
use Rattle.mdb_schema.specs.Watchable.{IsTouched}
use Rattle.client_script.specs.Client.{Client, Watch, WatchSet}
use Rattle.client_script.specs.Reply.{reply_text, woken_by}
use Rattle.client_script.specs.Watching.{AreUnchanged, told_number, until_judged, wait_judged}
use Rattle.client_script.specs.declared.command.Command.TheVariants as command
use Rattle.client_script.specs.declared.command.WatchesCommand.TheVariants as watches_line
use Rattle.run_check.specs.TextLines.{number_behind}
use Rattle.run_check.specs.inner.Decided.{HasName, IsDecided, IsFirstNamed}
use Rattle.run_check.proofs.CleanNames.{AreNamed, member_named, named_lacks}
use Rattle.run_check.proofs.DecidedNumbers.{IsPresent, its_number, same_text}
use Rattle.run_check.proofs.DecidedTurns.{decided_none}
use Rattle.run_check.proofs.DecidedWaits.{IsStoppedText, IsWokenAt, IsWokenText, NamesTell, until_only, until_stopped, until_woken, wait_only, wait_told, woken_first}
use Rattle.run_check.proofs.PlainTexts.{byte_cut}

some_none : (n : ℕ) → Some n ≡ None → ⊥
some_none n e = cc

module _ (schema : DbSchema) (H : History) (small : length H ≤ 2 ^ 24) (v : Client) (client : ℕ) (s : WatchSet) (named : AreNamed s.members) (tell : NamesTell s.members) where
  -- a member's name stands in a text that tells that it has fired
  pub woken_name : (text rest : Bytes) (other : Client) (w : IsWokenText schema H v client s text other) → text ≡ codes "fired " ++ rest → HasName w.member.name rest (decimal w.number)
  woken_name text rest other w is = append_cancel_left (codes "fired ") rest (w.member.name ++ (codes " @" ++ decimal w.number)) (sym is ∙ w.printed)

  -- and in no text that begins otherwise
  pub woken_begins : (text : Bytes) (other : Client) → IsWokenText schema H v client s text other → (rest : Bytes) × (text ≡ codes "fired " ++ rest)
  woken_begins text other w = (w.member.name ++ (codes " @" ++ decimal w.number), w.printed)

  -- what a text tells of a member, it tells of the first of its name
  pub record IsFirstWoken (after : Bytes) (place : ℕ) (member : Watch) : Type 0 where
    pub number : ℕ
    pub present : IsPresent schema H v client number
    pub woken : IsWokenAt schema H v client s place number member
    pub printed : after ≡ decimal number

  pub woken_at_first : (text rest after : Bytes) (place : ℕ) (member : Watch) → text ≡ codes "fired " ++ rest → IsFirstNamed s.members rest after place member → (other : Client) → IsWokenText schema H v client s text other → IsFirstWoken after place member
  woken_at_first text rest after place member is first other w =
      let here : HasName w.member.name rest (decimal w.number) = woken_name text rest other w is in
      let cut : (member.name ≡ w.member.name) × (64 ∷ after ≡ 64 ∷ decimal w.number) = byte_cut 32 member.name w.member.name (64 ∷ after) (64 ∷ decimal w.number) (named_lacks 32 member.name refl (member_named s.members place member named first.there)) (named_lacks 32 w.member.name refl (member_named s.members w.place w.member named w.woken.there)) (sym first.name ∙ here) in
      record {
        number = w.number;
        present = w.present;
        woken = woken_first schema H v client s place w.place w.number member w.member tell (not_before (cases_lt w.place place)) first.there cut.0 w.woken;
        printed = append_cancel_left (64 ∷ []) after (decimal w.number) cut.1;
      }
    where
      not_before : (w.place < place) ⊎ (place ≤ w.place) → place ≤ w.place
      not_before (inl lt) = absurd (first.none_before w.place w.member (decimal w.number) lt w.woken.there (woken_name text rest other w is))
      not_before (inr le) = le

  -- ---- the number behind the name

  pub woken_number : (after : Bytes) (place : ℕ) (member : Watch) (n : ℕ) (w : IsFirstWoken after place member) → number_behind (codes " @") (codes " @" ++ after) ≡ Some n → n ≡ w.number
  woken_number after place member n w found = ap (λ (o : Option ℕ). unwrap_or o n) (sym found ∙ its_number schema H v client small (codes " @") (codes " @" ++ after) w.number w.present (ap (λ (x : Bytes). codes " @" ++ x) w.printed))

  -- so it makes the text
  woken_makes : (text rest after : Bytes) (place : ℕ) (member : Watch) (n : ℕ) → text ≡ codes "fired " ++ rest → IsFirstNamed s.members rest after place member → (w : IsFirstWoken after place member) → number_behind (codes " @") (codes " @" ++ after) ≡ Some n → reply_text (woken_by member.name n) ≡ text
  woken_makes text rest after place member n is first w found =
      ap (λ (m : ℕ). codes "fired " ++ (member.name ++ (codes " @" ++ decimal m))) (woken_number after place member n w found)
      ∙ ap (λ (x : Bytes). codes "fired " ++ (member.name ++ (codes " @" ++ x))) (sym w.printed)
      ∙ ap (λ (x : Bytes). codes "fired " ++ x) (sym first.name)
      ∙ sym is

  made_woken : (member : Watch) (text : Bytes) (place n : ℕ) → IsPresent schema H v client n → IsWokenAt schema H v client s place n member → reply_text (woken_by member.name n) ≡ text → IsWokenText schema H v client s text (told_number n v)
  made_woken member text place n here woken e = record { number = n; present = here; place = place; member = member; woken = woken; printed = sym e; known = refl }

  -- ---- wait

  module _ (set : Bytes) (is : wait_judged v set ≡ Ok s) where
    pub wait_decided : (text rest after : Bytes) (place : ℕ) (member : Watch) (n : ℕ) → text ≡ codes "fired " ++ rest → IsFirstNamed s.members rest after place member → number_behind (codes " @") (codes " @" ++ after) ≡ Some n → IsPresent schema H v client n → IsWokenAt schema H v client s place n member → IsDecided schema H client v (command.Watches (watches_line.Wait set)) text (reply_text (woken_by member.name n)) (told_number n v)
    wait_decided text rest after place member n begins first found here woken = record {
      told = λ e. wait_told schema H v client set s is text (told_number n v) (made_woken member text place n here woken e);
      untold = λ apart other told. let w = woken_at_first text rest after place member begins first other (wait_only schema H v client set s is text other told) in apart (woken_makes text rest after place member n begins first w found);
    }

    pub wait_undecided : (text : Bytes) → text ≢ [] → ((other : Client) → IsWokenText schema H v client s text other → ⊥) → (next : Client) → IsDecided schema H client v (command.Watches (watches_line.Wait set)) text [] next
    wait_undecided text some none next = decided_none schema H client v next (command.Watches (watches_line.Wait set)) text some (λ other told. none other (wait_only schema H v client set s is text other told))

  -- ---- wait until

  -- a text tells one or the other
  fired_or_stopped : (text : Bytes) (other another : Client) (u : Watch) → IsWokenText schema H v client s text other → IsStoppedText schema H v client s u text another → ⊥
  fired_or_stopped text other another u w t = some_none t.number (sym (its_number schema H v client small (codes "stopped @") text t.number t.present t.printed) ∙ ap (number_behind (codes "stopped @")) w.printed)

  module _ (set until : Bytes) (u : Watch) (is : until_judged v set until ≡ Ok (s, u)) where
    pub until_decided : (text rest after : Bytes) (place : ℕ) (member : Watch) (n : ℕ) → text ≡ codes "fired " ++ rest → IsFirstNamed s.members rest after place member → number_behind (codes " @") (codes " @" ++ after) ≡ Some n → IsPresent schema H v client n → IsWokenAt schema H v client s place n member → IsDecided schema H client v (command.Watches (watches_line.WaitUntil set until)) text (reply_text (woken_by member.name n)) (told_number n v)
    until_decided text rest after place member n begins first found here woken = record {
      told = λ e. until_woken schema H v client set until s u is text (told_number n v) (made_woken member text place n here woken e);
      untold = λ apart other told. by apart other (until_only schema H v client set until s u is text other told);
    }
      where
        by : (reply_text (woken_by member.name n) ≡ text → ⊥) → (other : Client) → IsWokenText schema H v client s text other ⊎ IsStoppedText schema H v client s u text other → ⊥
        by apart other (inl w) = apart (woken_makes text rest after place member n begins first (woken_at_first text rest after place member begins first other w) found)
        by apart other (inr t) = some_none t.number (sym (its_number schema H v client small (codes "stopped @") text t.number t.present t.printed) ∙ ap (number_behind (codes "stopped @")) begins)

    -- that the watch which cancels has fired
    pub stop_decided : (text : Bytes) (n : ℕ) → number_behind (codes "stopped @") text ≡ Some n → IsPresent schema H v client n → IsTouched schema H u.query u.number n → AreUnchanged schema H client s.members v.last → IsDecided schema H client v (command.Watches (watches_line.WaitUntil set until)) text (codes "stopped @" ++ decimal n) (told_number n v)
    stop_decided text n found here fired quiet = record {
      told = λ e. until_stopped schema H v client set until s u is text (told_number n v) (record { number = n; present = here; fired = fired; quiet = quiet; printed = sym e; known = refl });
      untold = λ apart other told. by apart other (until_only schema H v client set until s u is text other told);
    }
      where
        by : (codes "stopped @" ++ decimal n ≡ text → ⊥) → (other : Client) → IsWokenText schema H v client s text other ⊎ IsStoppedText schema H v client s u text other → ⊥
        by apart other (inl w) = some_none n (sym found ∙ ap (number_behind (codes "stopped @")) w.printed)
        by apart other (inr t) = apart (same_text schema H v client small (codes "stopped @") text n t.number found t.present t.printed)

    pub until_undecided : (text : Bytes) → text ≢ [] → ((other : Client) → IsWokenText schema H v client s text other → ⊥) → ((other : Client) → IsStoppedText schema H v client s u text other → ⊥) → (next : Client) → IsDecided schema H client v (command.Watches (watches_line.WaitUntil set until)) text [] next
    until_undecided text some no_woken no_stop next = decided_none schema H client v next (command.Watches (watches_line.WaitUntil set until)) text some (λ other told. elim (until_only schema H v client set until s u is text other told) [ inl w ↦ no_woken other w | inr t ↦ no_stop other t ])
