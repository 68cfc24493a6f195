-- What a client may be told at the lines that wait.
use Rattle.std.proofs.Common.{arith, ◌≡◌, refl, ap, subst, sym, ◌∙◌, ℕ, zero, suc, ◌≤◌, ◌⊎◌, inl, inr, List, [], ◌∷◌, ◌++◌, length, take, Some, Ok, Err, slice_get, codes}
use Rattle.mdb_datum.specs.Bytes.{Bytes}
use Rattle.mdb_schema.specs.History.{History}
use Rattle.mdb_schema.specs.Schema.{DbSchema}
use Rattle.mdb_schema.specs.Watchable.{IsTouched}
use Rattle.client_script.specs.Client.{Client, Watch, WatchSet}
use Rattle.client_script.specs.Reply.{Reply, reply_text, stopped_at, woken_by}
use Rattle.client_script.specs.Watching.{AreUnchanged, IsStopped, IsWoken, told_number, until_judged, wait_judged}
use Rattle.client_script.specs.declared.command.Command.TheVariants as command
use Rattle.client_script.specs.declared.command.WatchesCommand.TheVariants as watches_line
use Rattle.run_check.specs.FirstBad.{IsTold}
pub use Rattle.run_check.specs.inner.Decided.{NamesTell}
use Rattle.run_check.specs.inner.Decided.{IsDecided}
use Rattle.run_check.proofs.DecidedNumbers.{IsPresent}
use Rattle.run_check.proofs.DecidedTurns.{judged_refused, judged_reply, judged_said, refusal_decided, said_judged}

-- ---- the first member of a name

-- fewer watches are quiet too
pub fewer_unchanged : (schema : DbSchema) (H : History) (client : ℕ) (ws : List Watch) (p q n : ℕ) → p ≤ q → AreUnchanged schema H client (take q ws) n → AreUnchanged schema H client (take p ws) n
fewer_unchanged schema H client ws zero q n le quiet = tt
fewer_unchanged schema H client [] (suc p) q n le quiet = tt
fewer_unchanged schema H client (w ∷ ws) (suc p) zero n le quiet = absurd (omega (arith, le))
fewer_unchanged schema H client (w ∷ ws) (suc p) (suc q) n le quiet = (quiet.0, fewer_unchanged schema H client ws p q n (omega (arith, le)) quiet.1)

module _ (schema : DbSchema) (H : History) (v : Client) (client : ℕ) where
  -- a member at a place has fired, and those before it were quiet
  pub record IsWokenAt (s : WatchSet) (place n : ℕ) (member : Watch) : Type 0 where
    pub there : slice_get s.members place ≡ Some member
    pub fired : IsTouched schema H member.query member.number n
    pub quiet : AreUnchanged schema H client (take place s.members) v.last

  -- so it may be the first of its name
  pub woken_first : (s : WatchSet) (p q n : ℕ) (w x : Watch) → NamesTell s.members → p ≤ q → slice_get s.members p ≡ Some w → w.name ≡ x.name → IsWokenAt s q n x → IsWokenAt s p n w
  woken_first s p q n w x tell le at same woken =
      let one : x ≡ w = sym (tell p q w x at woken.there same) in
      record {
        there = at;
        fired = subst (λ (y : Watch). IsTouched schema H y.query y.number n) one woken.fired;
        quiet = fewer_unchanged schema H client s.members p q v.last le woken.quiet;
      }

  -- ---- what a wait is told

  -- that a member has fired
  pub record IsWokenText (s : WatchSet) (told : Bytes) (after : Client) : Type 0 where
    pub number : ℕ
    pub present : IsPresent schema H v client number
    pub place : ℕ
    pub member : Watch
    pub woken : IsWokenAt s place number member
    pub printed : told ≡ reply_text (woken_by member.name number)
    pub known : after ≡ told_number number v

  -- or that the watch which cancels has, where all members were quiet
  pub record IsStoppedText (s : WatchSet) (until : Watch) (told : Bytes) (after : Client) : Type 0 where
    pub number : ℕ
    pub present : IsPresent schema H v client number
    pub fired : IsTouched schema H until.query until.number number
    pub quiet : AreUnchanged schema H client s.members v.last
    pub printed : told ≡ reply_text (stopped_at number)
    pub known : after ≡ told_number number v

  woken_text : (s : WatchSet) (n : ℕ) (r : Reply) (text : Bytes) (next : Client) → IsPresent schema H v client n → reply_text r ≡ text → IsWoken schema H client n v s r → next ≡ told_number n v → IsWokenText s text next
  woken_text s n r text next here printed w is = record {
    number = n;
    present = here;
    place = w.place;
    member = w.member;
    woken = record { there = w.there; fired = w.fired; quiet = w.quiet };
    printed = sym printed ∙ ap reply_text w.reply;
    known = is;
  }

  text_woken : (s : WatchSet) (text : Bytes) (next : Client) (w : IsWokenText s text next) → IsWoken schema H client w.number v s (woken_by w.member.name w.number)
  text_woken s text next w = record {
    place = w.place;
    member = w.member;
    there = w.woken.there;
    fired = w.woken.fired;
    quiet = w.woken.quiet;
    reply = refl;
  }

  module _ (set : Bytes) where
    pub wait_refused : v.last ≤ length H → (rule : Bytes) → wait_judged v set ≡ Err rule → (text : Bytes) → IsDecided schema H client v (command.Watches (watches_line.Wait set)) text (codes "refused " ++ rule) v
    wait_refused here rule is text = refusal_decided schema H v here client (command.Watches (watches_line.Wait set)) text rule (judged_refused v (wait_judged v set) rule _ is) (λ now r next told. judged_reply v next (wait_judged v set) r rule _ is told)

    pub wait_told : (s : WatchSet) → wait_judged v set ≡ Ok s → (text : Bytes) (next : Client) → IsWokenText s text next → IsTold schema H client v (command.Watches (watches_line.Wait set)) text next
    wait_told s is text next w = record {
      reply = woken_by w.member.name w.number;
      printed = sym w.printed;
      answers = record {
        now = w.number;
        not_older = w.present.not_older;
        there = w.present.there;
        says = said_judged v next (wait_judged v set) (woken_by w.member.name w.number) s _ is (text_woken s text next w, w.known);
        entry = tt;
      };
    }

    pub wait_only : (s : WatchSet) → wait_judged v set ≡ Ok s → (text : Bytes) (next : Client) → IsTold schema H client v (command.Watches (watches_line.Wait set)) text next → IsWokenText s text next
    wait_only s is text next told =
        let a = told.answers in
        let said : IsWoken schema H client a.now v s told.reply × (next ≡ told_number a.now v) = judged_said v next (wait_judged v set) told.reply s _ is a.says in
        woken_text s a.now told.reply text next (record { not_older = a.not_older; there = a.there }) told.printed said.0 said.1

  module _ (set until : Bytes) where
    pub until_refused : v.last ≤ length H → (rule : Bytes) → until_judged v set until ≡ Err rule → (text : Bytes) → IsDecided schema H client v (command.Watches (watches_line.WaitUntil set until)) text (codes "refused " ++ rule) v
    until_refused here rule is text = refusal_decided schema H v here client (command.Watches (watches_line.WaitUntil set until)) text rule (judged_refused v (until_judged v set until) rule _ is) (λ now r next told. judged_reply v next (until_judged v set until) r rule _ is told)

    module _ (s : WatchSet) (u : Watch) (is : until_judged v set until ≡ Ok (s, u)) where
      pub until_woken : (text : Bytes) (next : Client) → IsWokenText s text next → IsTold schema H client v (command.Watches (watches_line.WaitUntil set until)) text next
      until_woken text next w = record {
        reply = woken_by w.member.name w.number;
        printed = sym w.printed;
        answers = record {
          now = w.number;
          not_older = w.present.not_older;
          there = w.present.there;
          says = said_judged v next (until_judged v set until) (woken_by w.member.name w.number) (s, u) _ is (inl (text_woken s text next w), w.known);
          entry = tt;
        };
      }

      pub until_stopped : (text : Bytes) (next : Client) → IsStoppedText s u text next → IsTold schema H client v (command.Watches (watches_line.WaitUntil set until)) text next
      until_stopped text next t = record {
        reply = stopped_at t.number;
        printed = sym t.printed;
        answers = record {
          now = t.number;
          not_older = t.present.not_older;
          there = t.present.there;
          says = said_judged v next (until_judged v set until) (stopped_at t.number) (s, u) _ is (inr (record { fired = t.fired; quiet = t.quiet; reply = refl }), t.known);
          entry = tt;
        };
      }

      pub until_only : (text : Bytes) (next : Client) → IsTold schema H client v (command.Watches (watches_line.WaitUntil set until)) text next → IsWokenText s text next ⊎ IsStoppedText s u text next
      until_only text next told =
          let a = told.answers in
          let here : IsPresent schema H v client a.now = record { not_older = a.not_older; there = a.there } in
          let said : (IsWoken schema H client a.now v s told.reply ⊎ IsStopped schema H client a.now v s u told.reply) × (next ≡ told_number a.now v) = judged_said v next (until_judged v set until) told.reply (s, u) _ is a.says in
          by a.now here said.0 said.1
        where
          by : (n : ℕ) → IsPresent schema H v client n → IsWoken schema H client n v s told.reply ⊎ IsStopped schema H client n v s u told.reply → next ≡ told_number n v → IsWokenText s text next ⊎ IsStoppedText s u text next
          by n here (inl w) known = inl (woken_text s n told.reply text next here told.printed w known)
          by n here (inr t) known = inr (record { number = n; present = here; fired = t.fired; quiet = t.quiet; printed = sym told.printed ∙ ap reply_text t.reply; known = known })
