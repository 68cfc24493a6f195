-- What the lines of watches leave as it is, and that their replies tell what the client then knows.
use Rattle.std.proofs.Common.{arith, ◌≡◌, refl, ap, subst, sym, ◌∙◌, ℕ, ◌+◌, ◌-◌, ◌≤◌, ◌⊎◌, inl, inr, List, [], ◌∷◌, ◌++◌, length, take, Ok, Err}
use Rattle.std.specs.Prelude.{codes, is_some, not}
use Rattle.mdb_datum.specs.Bytes.{Bytes}
use Rattle.mdb_datum.proofs.ListPlaces.{get_first}
use Rattle.mdb_schema.specs.Answer.{Lookup, ask}
use Rattle.mdb_schema.specs.Guarded.{IsGuarded, IsUnchanged}
use Rattle.mdb_schema.specs.History.{History, IsMadeBy, state_at}
use Rattle.mdb_schema.specs.Query.{Query}
use Rattle.mdb_schema.specs.Schema.{DbSchema}
use Rattle.mdb_schema.specs.State.{State}
use Rattle.mdb_schema.specs.Tests.{◌>>=◌, passed}
use Rattle.mdb_schema.specs.Touched.{Touch}
use Rattle.mdb_schema.specs.Watchable.{HasFound, IsTouched, is_watchable}
use Rattle.mdb_schema.specs.declared.answer.Answer.{Answer}
use Rattle.client_script.specs.Client.{Client, Judged, Sight, Transaction, closed, no_write_open, reading, writing, Watch, WatchSet, state_seen, watch_named}
use Rattle.client_script.specs.Legal.{number_printed}
use Rattle.client_script.specs.Reply.{Reply, answered, fired_at, quiet_at, refused, sized, stopped_at, woken_by}
use Rattle.client_script.specs.Turn.{Turn, asked_watched, outcome, set_called, size_turn, watch_turn, with_watch}
use Rattle.client_script.specs.Watching.{AreUnchanged, IsAdded, IsChecked, IsJudged, IsStopped, IsWatchTold, IsWoken, check_judged, limit_judged, set_for, told_number, until_judged, wait_judged, watch_called}
use Rattle.client_script.specs.declared.command.WatchesCommand.{WatchesCommand}
use Rattle.client_script.specs.declared.command.WatchesCommand.TheVariants as watches_line

-- ---- it leaves the transaction and the snapshots, and prints no commit

-- a reply to such a line
pub data IsWatchReply : Reply → Type 0 where
  to_question : (a : Answer) → IsWatchReply (answered a)
  to_quiet : (n : ℕ) → IsWatchReply (quiet_at n)
  to_fired : (n : ℕ) → IsWatchReply (fired_at n)
  to_set : (k : ℕ) → IsWatchReply (sized k)
  to_woken : (name : Bytes) (n : ℕ) → IsWatchReply (woken_by name n)
  to_stopped : (n : ℕ) → IsWatchReply (stopped_at n)
  to_refusal : (rule : Bytes) → IsWatchReply (refused rule)

-- it prints no commit
pub prints_none : (r : Reply) → IsWatchReply r → number_printed r ≡ []
prints_none _ (to_question a) = refl
prints_none _ (to_quiet n) = refl
prints_none _ (to_fired n) = refl
prints_none _ (to_set k) = refl
prints_none _ (to_woken name n) = refl
prints_none _ (to_stopped n) = refl
prints_none _ (to_refusal rule) = refl

-- it tells a number only where no write transaction is open
pub record IsAside (now : ℕ) (v : Client) (r : Reply) (next : Client) : Type 0 where
  pub transaction : next.transaction ≡ v.transaction
  pub snapshots : next.snapshots ≡ v.snapshots
  pub last : (next.last ≡ v.last) ⊎ ((next.last ≡ now) × (no_write_open v.transaction ≡ Ok tt))
  pub reply : IsWatchReply r

free_then : {A : Type 0} (t : Transaction) (f : Unit {0} → Judged A) (a : A) → (no_write_open t >>= f) ≡ Ok a → no_write_open t ≡ Ok tt
free_then closed f a e = refl
free_then (reading n) f a e = refl
free_then (writing t) f a e = cc

-- what comes later is judged only where it is free
until_free : (v : Client) (set until : Bytes) (p : WatchSet × Watch) → until_judged v set until ≡ Ok p → no_write_open v.transaction ≡ Ok tt
until_free v set until p e = of (wait_judged v set) refl e
  where
    of : (j : Judged WatchSet) → wait_judged v set ≡ j → (j >>= (λ s. watch_called until v >>= (λ w. Ok (s, w)))) ≡ Ok p → no_write_open v.transaction ≡ Ok tt
    of (Ok s) is e' = free_then v.transaction (λ free. set_called set v) s is
    of (Err rule) is e' = cc

module _ (now : ℕ) (v : Client) where
  Aside : Reply × Client → Type 0
  Aside p = IsAside now v p.0 p.1

  refused_aside : (rule : Bytes) → IsAside now v (refused rule) v
  refused_aside rule = record { transaction = refl; snapshots = refl; last = inl refl; reply = to_refusal rule }

  aside_then : {A : Type 0} (j : Judged A) (f : A → Turn) → ((a : A) → Aside (outcome v (f a))) → Aside (outcome v (j >>= f))
  unfolding Aside
  aside_then (Ok a) f each = each a
  aside_then (Err rule) f each = refused_aside rule

  watch_outcome : (schema : DbSchema) (H : History) (sight : Judged Sight) (name : Bytes) (q : Query) → Aside (outcome v (watch_turn schema H v sight name q))
  unfolding Aside
  watch_outcome schema H sight name q =
      aside_then sight _ (λ s. aside_then (passed (codes "name-taken") (not (is_some (watch_named name v.watching.watches)))) _ (λ free. aside_then (passed (codes "uncommitted") (not s.uncommitted)) _ (λ committed. aside_then (asked_watched (is_watchable q.ask) (ask schema (state_seen schema H s) q)) (λ a. Ok (answered a, with_watch name q s.number v)) (λ a. record { transaction = refl; snapshots = refl; last = inl refl; reply = to_question a }))))

  size_outcome : (set : Bytes) → Aside (outcome v (size_turn v set))
  unfolding Aside
  size_outcome set = aside_then (set_called set v) (λ s. Ok (sized (length s.members), v)) (λ s. record { transaction = refl; snapshots = refl; last = inl refl; reply = to_set (length s.members) })

  -- `watch` and `size` do the same
  pub watch_aside : (schema : DbSchema) (H : History) (sight : Judged Sight) (name : Bytes) (q : Query) (r : Reply) (next : Client) → outcome v (watch_turn schema H v sight name q) ≡ (r, next) → IsAside now v r next
  unfolding Aside
  watch_aside schema H sight name q r next is = subst Aside is (watch_outcome schema H sight name q)

  pub size_aside : (set : Bytes) (r : Reply) (next : Client) → outcome v (size_turn v set) ≡ (r, next) → IsAside now v r next
  unfolding Aside
  size_aside set r next is = subst Aside is (size_outcome set)

  by_judged : {A : Type 0} (j : Judged A) (r : Reply) (next : Client) (said : A → Type 0) → IsJudged v j r next said → ((a : A) → j ≡ Ok a → said a → IsAside now v r next) → IsAside now v r next
  by_judged (Ok a) r next said told each = each a refl told
  by_judged (Err rule) r next said told each = subst (λ (x : Reply). IsAside now v x next) (sym told.0) (subst (λ (x : Client). IsAside now v (refused rule) x) (sym told.1) (refused_aside rule))

  -- a line that tells the number of commits
  number_aside : (r : Reply) (next : Client) → no_write_open v.transaction ≡ Ok tt → IsWatchReply r → next ≡ told_number now v → IsAside now v r next
  number_aside r next free reply is = subst (λ (x : Client). IsAside now v r x) (sym is) (record { transaction = refl; snapshots = refl; last = inr (refl, free); reply = reply })

  checked_reply : (schema : DbSchema) (H : History) (client : ℕ) (w : Watch) (r : Reply) → IsChecked schema H client now w r → IsWatchReply r
  checked_reply schema H client w r (inl quiet) = subst IsWatchReply (sym quiet.0) (to_quiet now)
  checked_reply schema H client w r (inr fired) = subst IsWatchReply (sym fired.0) (to_fired now)

  woken_reply : (schema : DbSchema) (H : History) (client : ℕ) (s : WatchSet) (r : Reply) → IsWoken schema H client now v s r → IsWatchReply r
  woken_reply schema H client s r woken = subst IsWatchReply (sym woken.reply) (to_woken woken.member.name now)

  waited_reply : (schema : DbSchema) (H : History) (client : ℕ) (s : WatchSet) (w : Watch) (r : Reply) → IsWoken schema H client now v s r ⊎ IsStopped schema H client now v s w r → IsWatchReply r
  waited_reply schema H client s w r (inl woken) = woken_reply schema H client s r woken
  waited_reply schema H client s w r (inr stopped) = subst IsWatchReply (sym stopped.reply) (to_stopped now)

  added_aside : (set : Bytes) (w : Watch) (r : Reply) (next : Client) → IsAdded set w v r next → IsAside now v r next
  added_aside set w r next (inl m) = subst (λ (x : Client). IsAside now v r x) (sym m.kept) (record { transaction = refl; snapshots = refl; last = inl refl; reply = subst IsWatchReply (sym m.reply) (to_set (length (set_for set v).members + 1)) })
  added_aside set w r next (inr d) = subst (λ (x : Client). IsAside now v r x) (sym d.kept) (record { transaction = refl; snapshots = refl; last = inl refl; reply = subst IsWatchReply (sym d.reply) (to_set (length (set_for set v).members)) })

  pub aside : (schema : DbSchema) (H : History) (client : ℕ) (c : WatchesCommand) (r : Reply) (next : Client) → IsWatchTold schema H client now v c r next → IsAside now v r next
  aside schema H client (watches_line.Check name) r next told = by_judged (check_judged v name) r next _ told (λ w is said. number_aside r next (free_then v.transaction (λ free. watch_called name v) w is) (checked_reply schema H client w r said.0) said.1)
  aside schema H client (watches_line.Add set name) r next told = by_judged (watch_called name v) r next _ told (λ w is said. added_aside set w r next said)
  aside schema H client (watches_line.AddLimit set limit name other) r next told = by_judged (limit_judged v set limit name other) r next _ told (λ w is said. added_aside set w r next said)
  aside schema H client (watches_line.Wait set) r next told = by_judged (wait_judged v set) r next _ told (λ s is said. number_aside r next (free_then v.transaction (λ free. set_called set v) s is) (woken_reply schema H client s r said.0) said.1)
  aside schema H client (watches_line.WaitUntil set until) r next told = by_judged (until_judged v set until) r next _ told (λ p is said. number_aside r next (until_free v set until p is) (waited_reply schema H client p.0 p.1 r said.0) said.1)

-- ---- the reply tells what the client then knows, whatever the history

-- the number that a check or a wait tells
watch_number : Reply → ℕ
watch_number (quiet_at n) = n
watch_number (fired_at n) = n
watch_number (woken_by name n) = n
watch_number (stopped_at n) = n
watch_number (sized k) = k
watch_number r = 0

module _ (schema : DbSchema) (H H' : History) (client now now' : ℕ) (v : Client) (r : Reply) (next next' : Client) where
  by_both : {A : Type 0} (j : Judged A) (said said' : A → Type 0) → IsJudged v j r next said → IsJudged v j r next' said' → ((a : A) → said a → said' a → next ≡ next') → next ≡ next'
  by_both (Ok a) said said' told told' each = each a told told'
  by_both (Err rule) said said' told told' each = told.1 ∙ sym told'.1

  by_number : watch_number r ≡ now → watch_number r ≡ now' → next ≡ told_number now v → next' ≡ told_number now' v → next ≡ next'
  by_number n n' is is' = is ∙ ap (λ (x : ℕ). told_number x v) (sym n ∙ n') ∙ sym is'

  checked_number : (G : History) (m : ℕ) (w : Watch) → IsChecked schema G client m w r → watch_number r ≡ m
  unfolding watch_number
  checked_number G m w (inl quiet) = ap watch_number quiet.0
  checked_number G m w (inr fired) = ap watch_number fired.0

  waited_number : (G : History) (m : ℕ) (s : WatchSet) (w : Watch) → IsWoken schema G client m v s r ⊎ IsStopped schema G client m v s w r → watch_number r ≡ m
  unfolding watch_number
  waited_number G m s w (inl woken) = ap watch_number woken.reply
  waited_number G m s w (inr stopped) = ap watch_number stopped.reply

  woken_number : (G : History) (m : ℕ) (s : WatchSet) → IsWoken schema G client m v s r → watch_number r ≡ m
  unfolding watch_number
  woken_number G m s woken = ap watch_number woken.reply

  one_more : (k : ℕ) → watch_number r ≡ k + 1 → watch_number r ≡ k → ⊥
  one_more k e e' = omega arith

  added_same : (set : Bytes) (w : Watch) → IsAdded set w v r next → IsAdded set w v r next' → next ≡ next'
  unfolding watch_number
  added_same set w (inl m) (inl m') = m.kept ∙ sym m'.kept
  added_same set w (inl m) (inr d') = absurd (one_more (length (set_for set v).members) (ap watch_number m.reply) (ap watch_number d'.reply))
  added_same set w (inr d) (inl m') = absurd (one_more (length (set_for set v).members) (ap watch_number m'.reply) (ap watch_number d.reply))
  added_same set w (inr d) (inr d') = d.kept ∙ sym d'.kept

  pub watch_next : (c : WatchesCommand) → IsWatchTold schema H client now v c r next → IsWatchTold schema H' client now' v c r next' → next ≡ next'
  watch_next (watches_line.Check name) told told' = by_both (check_judged v name) _ _ told told' (λ w s s'. by_number (checked_number H now w s.0) (checked_number H' now' w s'.0) s.1 s'.1)
  watch_next (watches_line.Add set name) told told' = by_both (watch_called name v) _ _ told told' (λ w s s'. added_same set w s s')
  watch_next (watches_line.AddLimit set limit name other) told told' = by_both (limit_judged v set limit name other) _ _ told told' (λ w s s'. added_same set w s s')
  watch_next (watches_line.Wait set) told told' = by_both (wait_judged v set) _ _ told told' (λ s t t'. by_number (woken_number H now s t.0) (woken_number H' now' s t'.0) t.1 t'.1)
  watch_next (watches_line.WaitUntil set until) told told' = by_both (until_judged v set until) _ _ told told' (λ p t t'. by_number (waited_number H now p.0 p.1 t.0) (waited_number H' now' p.0 p.1 t'.0) t.1 t'.1)

-- ---- a longer history

module _ (schema : DbSchema) (H more : History) (client : ℕ) (states : (n : ℕ) → n ≤ length H → state_at schema (H ++ more) n ≡ state_at schema H n) where
  guarded_longer : (q : Query) (v n : ℕ) → n ≤ length H → IsGuarded schema H q v n → IsGuarded schema (H ++ more) q v n
  guarded_longer q v n there g j low high =
      ap (λ (s : State). ask schema s q) (states j (omega arith)) ∙ g j low high ∙ sym (ap (λ (s : State). ask schema s q) (states v (omega arith)))

  own_first : (n : ℕ) → n ≤ length H → IsMadeBy (H ++ more) client n → IsMadeBy H client n
  own_first n there own = (own.0, own.1, sym (get_first H more (n - 1) (let low = own.0 in omega arith)) ∙ own.2, own.3)

  quiet_longer : (w : Watch) (n : ℕ) → n ≤ length H → IsUnchanged schema H client w.query w.number n → IsUnchanged schema (H ++ more) client w.query w.number n
  quiet_longer w n there quiet = record {
    before_last = guarded_longer w.query w.number (n - 1) (omega arith) quiet.before_last;
    own = λ own. guarded_longer w.query w.number n there (quiet.own (own_first n there own));
  }

  all_quiet_longer : (ws : List Watch) (n : ℕ) → n ≤ length H → AreUnchanged schema H client ws n → AreUnchanged schema (H ++ more) client ws n
  all_quiet_longer [] n there quiet = tt
  all_quiet_longer (w ∷ ws) n there quiet = (quiet_longer w n there quiet.0, all_quiet_longer ws n there quiet.1)

  found_first : (w : Watch) (at : Lookup) → w.number ≤ length H → HasFound schema (H ++ more) w.query w.number at → HasFound schema H w.query w.number at
  found_first w at there found = record {
    one = found.one;
    row = found.row;
    found = sym (ap (λ (s : State). ask schema s w.query) (states w.number there)) ∙ found.found;
  }

  fired_longer : (w : Watch) (n : ℕ) → n ≤ length H → IsTouched schema H w.query w.number n → IsTouched schema (H ++ more) w.query w.number n
  fired_longer w n there f =
      let low = f.since in
      let high = f.reached in
      record {
        place = f.place;
        named = f.named;
        table = f.table;
        there = f.there;
        at = f.at;
        looked = f.looked;
        before = f.before;
        since = f.since;
        reached = f.reached;
        commit = f.commit;
        made = get_first H more f.before (omega arith) ∙ f.made;
        key = f.key;
        touched = subst (λ (s : State). Touch schema s f.commit.writes f.table f.at.index f.key) (sym (states f.before (omega arith))) f.touched;
        own = λ found. f.own (found_first w f.at (omega arith) found);
      }

  checked_longer : (now : ℕ) (w : Watch) (r : Reply) → now ≤ length H → IsChecked schema H client now w r → IsChecked schema (H ++ more) client now w r
  checked_longer now w r there (inl quiet) = inl (quiet.0, quiet_longer w now there quiet.1)
  checked_longer now w r there (inr fired) = inr (fired.0, fired_longer w now there fired.1)

  module _ (now : ℕ) (v : Client) (there : now ≤ length H) (told : v.last ≤ now) where
    woken_longer : (s : WatchSet) (r : Reply) → IsWoken schema H client now v s r → IsWoken schema (H ++ more) client now v s r
    woken_longer s r w = record {
      place = w.place;
      member = w.member;
      there = w.there;
      fired = fired_longer w.member now there w.fired;
      quiet = all_quiet_longer (take w.place s.members) v.last (omega arith) w.quiet;
      reply = w.reply;
    }

    stopped_longer : (s : WatchSet) (until : Watch) (r : Reply) → IsStopped schema H client now v s until r → IsStopped schema (H ++ more) client now v s until r
    stopped_longer s until r w = record {
      fired = fired_longer until now there w.fired;
      quiet = all_quiet_longer s.members v.last (omega arith) w.quiet;
      reply = w.reply;
    }

    by_said : {A : Type 0} (j : Judged A) (r : Reply) (next : Client) (said said' : A → Type 0) → ((a : A) → said a → said' a) → IsJudged v j r next said → IsJudged v j r next said'
    by_said (Ok a) r next said said' each is = each a is
    by_said (Err rule) r next said said' each is = is

    pub watch_line_longer : (c : WatchesCommand) (r : Reply) (next : Client) → IsWatchTold schema H client now v c r next → IsWatchTold schema (H ++ more) client now v c r next
    watch_line_longer (watches_line.Check name) r next is = by_said (check_judged v name) r next _ _ (λ w s. (checked_longer now w r there s.0, s.1)) is
    watch_line_longer (watches_line.Add set name) r next is = is
    watch_line_longer (watches_line.AddLimit set limit name other) r next is = is
    watch_line_longer (watches_line.Wait set) r next is = by_said (wait_judged v set) r next _ _ (λ s t. (woken_longer s r t.0, t.1)) is
    watch_line_longer (watches_line.WaitUntil set until) r next is = by_said (until_judged v set until) r next _ _ (λ p t. (either p.0 p.1 r t.0, t.1)) is
      where
        either : (s : WatchSet) (w : Watch) (r : Reply) → IsWoken schema H client now v s r ⊎ IsStopped schema H client now v s w r → IsWoken schema (H ++ more) client now v s r ⊎ IsStopped schema (H ++ more) client now v s w r
        either s w r (inl woken) = inl (woken_longer s r woken)
        either s w r (inr stopped) = inr (stopped_longer s w r stopped)
