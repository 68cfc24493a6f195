-- What a line waits for, as the session's state has it.
use Rattle.std.proofs.Common.{◌≡◌, ◌∙◌, ◌++◌, ◌⊎◌, ◌<◌, ◌≤◌, ℕ, List, [], ◌∷◌, Bool, true, false, Option, Some, None, Ok, Err, IsSome, refl, sym, ap, subst, inl, inr, map, length, slice_get, arith}
use Rattle.std.specs.Prelude.{codes, option_map}
use Rattle.std.specs.BTreeMap.{get_by_text}
use Rattle.std.proofs.lemmas.Option.{slice_get_within}
use Rattle.mdb_datum.specs.Bytes.{Bytes}
use Rattle.mdb_schema.specs.Tests.{◌>>=◌}
use Rattle.mem_txn.proofs.StepsAlong.{none_past}
use Rattle.mem_txn.specs.Database.{Caller}
use Rattle.mem_txn.specs.Held.{HeldWatch}
use Rattle.watch_set.specs.Checks.{with_until}
use Rattle.watch_set.specs.Members.{AreHeldBy, Member, watches_of}
use Rattle.client_script.specs.Client.{Client, Judged, Transaction, Watch, WatchSet, closed, reading, writing, no_write_open}
use Rattle.client_script.specs.Turn.{set_called}
use Rattle.client_script.specs.Watching.{awaited_by, until_judged, wait_judged, watch_called}
use Rattle.client_script.specs.declared.command.Command.{Command}
use Rattle.client_script.specs.declared.command.Command.TheVariants as command
use Rattle.client_script.specs.declared.command.WatchesCommand.{WatchesCommand}
use Rattle.client_script.specs.declared.command.WatchesCommand.TheVariants as watches_line
use Rattle.client_script.specs.declared.line.Line.{Line}
use Rattle.client_session.specs.Progress.{Progress}
use Rattle.client_session.specs.Waiting.{AreWatchesOf, IsAtLine, IsWatchOf, TellsWait, awaited_at, client_at}
use Rattle.client_session.specs.declared.session_state.SessionState.{SessionState}
use Rattle.client_session.specs.inner.Awaited.{Awaits, AwaitsFor}
use Rattle.client_session.specs.inner.StateView.{Follows}
use Rattle.client_session.specs.inner.OpenView.{caller_of, is_writing, transaction_of, writes}
use Rattle.client_session.specs.inner.SetsKept.{awaited_in, beside}
use Rattle.client_session.specs.inner.StoredSession.{HasDone, caller_in}
use Rattle.client_session.specs.inner.Transcript.{Transcript}
use Rattle.client_session.specs.inner.WatchingView.{MayLook, member_of, watch_of}
use Rattle.client_session.proofs.LooksTold.{unknown}
use Rattle.client_session.proofs.SessionSteps.{are_told, progress_of}
use Rattle.client_session.proofs.WaitsTold.{awaited_held, found_alone, found_until, until_found, until_missed, wait_found, wait_missed}

-- ---- held watches of the watches that the client knows

members_are : (p : Caller) (ms : List Member) → AreHeldBy p (watches_of ms) → AreWatchesOf p (map member_of ms) (watches_of ms)
members_are p [] held = tt
members_are p (m ∷ ms) held = (record { query = refl; number = refl; held = held.0 }, members_are p ms held.1)

one_behind : (p : Caller) (ws : List Watch) (hs : List HeldWatch) (w : Watch) (h : HeldWatch) → AreWatchesOf p ws hs → IsWatchOf p w h → AreWatchesOf p (ws ++ w ∷ []) (hs ++ h ∷ [])
one_behind p [] [] w h are is = (is, tt)
one_behind p [] (x ∷ hs) w h are is = absurd are
one_behind p (x ∷ ws) [] w h are is = absurd are
one_behind p (x ∷ ws) (y ∷ hs) w h are is = (are.0, one_behind p ws hs w h are.1 is)

-- ---- a write transaction is open

free_then : (t : Transaction) → writes t ≡ false → no_write_open t ≡ Ok tt
free_then closed idle = refl
free_then (reading n) idle = refl
free_then (writing w) idle = cc

taken_then : (t : Transaction) → writes t ≡ true → no_write_open t ≡ Err (codes "write-open")
taken_then closed busy = cc
taken_then (reading n) busy = cc
taken_then (writing w) busy = refl

module _ (d : SessionState) (busy : is_writing d.«open» ≡ true) (v : Client) (follows : Follows d v) where
  taken : no_write_open v.transaction ≡ Err (codes "write-open")
  taken = ap no_write_open follows.transaction ∙ taken_then (transaction_of d.«open») busy

  wait_taken : (set : Bytes) → wait_judged v set ≡ Err (codes "write-open")
  wait_taken set = ap (λ (j : Judged (Unit {0})). j >>= (λ u. set_called set v)) taken

  of_watches : (w : WatchesCommand) → (rule : Bytes) × (awaited_by w v ≡ Err rule)
  of_watches (watches_line.Check name) = ([], refl)
  of_watches (watches_line.Add set name) = ([], refl)
  of_watches (watches_line.AddLimit set limit name other) = ([], refl)
  of_watches (watches_line.Wait set) =
      (codes "write-open", ap (λ (j : Judged WatchSet). j >>= (λ (s : WatchSet). Ok s.members)) (wait_taken set))
  of_watches (watches_line.WaitUntil set until) = (
    codes "write-open",
    ap (λ (j : Judged WatchSet). (j >>= (λ (s : WatchSet). watch_called until v >>= (λ (w : Watch). Ok (s, w)))) >>= (λ (p : WatchSet × Watch). Ok (p.0.members ++ p.1 ∷ []))) (wait_taken set),
  )

  pub nothing_in_a_write : (c : Command) → AwaitsFor d c v None
  nothing_in_a_write (command.Transaction t) = ([], refl)
  nothing_in_a_write (command.Write w) = ([], refl)
  nothing_in_a_write (command.Defer text) = ([], refl)
  nothing_in_a_write (command.Ask a) = ([], refl)
  nothing_in_a_write (command.Name n) = ([], refl)
  nothing_in_a_write (command.Size set) = ([], refl)
  nothing_in_a_write (command.Watches w) = of_watches w

-- ---- none is open

module _ (d : SessionState) (idle : is_writing d.«open» ≡ false) (v : Client) (follows : Follows d v) where
  may : MayLook (caller_of d.«open») d.watching v
  may = record {
    knows = follows.knows;
    last = follows.last;
    free = ap no_write_open follows.transaction ∙ free_then (transaction_of d.«open») idle;
  }

  waits_for_set : (set : Bytes) (ms : List Member) (u : Option HeldWatch) → awaited_in d.watching set None ≡ Some (ms, u) → AwaitsFor d (command.Watches (watches_line.Wait set)) v (Some (ms, u))
  waits_for_set set ms u there =
      let found = found_alone (get_by_text d.watching.sets.kept set) ms u there in
      let s = wait_found (caller_of d.«open») d.watching set v may ms found.0 in
      let known = s.2 in
      let held = awaited_held (caller_of d.«open») d.watching set None ms u follows.holds there in (
        map member_of ms,
        ap (λ (j : Judged WatchSet). j >>= (λ (x : WatchSet). Ok x.members)) s.1 ∙ ap (λ (ws : List Watch). Ok ws) known.members,
        subst (λ (o : Option HeldWatch). AreWatchesOf (caller_of d.«open») (map member_of ms) (with_until (watches_of ms) o)) (sym found.1) (members_are (caller_of d.«open») ms held),
      )

  waits_for_until : (set until : Bytes) (ms : List Member) (u : Option HeldWatch) → awaited_in d.watching set (Some until) ≡ Some (ms, u) → AwaitsFor d (command.Watches (watches_line.WaitUntil set until)) v (Some (ms, u))
  waits_for_until set until ms u there =
      let found = found_until (get_by_text d.watching.sets.kept set) (get_by_text d.watching.watches.kept until) ms u there in
      let h = found.0 in
      let s = until_found (caller_of d.«open») d.watching set v may until ms h found.1 found.2 in
      let known = s.2 in
      let held = awaited_held (caller_of d.«open») d.watching set (Some until) ms u follows.holds there in
      let holds = follows.holds in (
        map member_of ms ++ watch_of until h ∷ [],
        ap (λ (j : Judged (WatchSet × Watch)). j >>= (λ (x : WatchSet × Watch). Ok (x.0.members ++ x.1 ∷ []))) s.1 ∙ ap (λ (ws : List Watch). Ok (ws ++ watch_of until h ∷ [])) known.members,
        subst (λ (o : Option HeldWatch). AreWatchesOf (caller_of d.«open») (map member_of ms ++ watch_of until h ∷ []) (with_until (watches_of ms) o)) (sym found.3)
            (one_behind (caller_of d.«open») (map member_of ms) (watches_of ms) (watch_of until h) h (members_are (caller_of d.«open») ms held) (record { query = refl; number = refl; held = holds.watches until h found.2 })),
      )

  -- a name is unknown
  set_missing : (kept : Option (List Member)) → beside kept (Some None) ≡ None → kept ≡ None
  set_missing None e = refl
  set_missing (Some ms) e = cc

  either_missing : (kept : Option (List Member)) (o : Option HeldWatch) → beside kept (option_map Some o) ≡ None → (kept ≡ None) ⊎ ((ms : List Member) × (kept ≡ Some ms) × (o ≡ None))
  either_missing None o e = inl refl
  either_missing (Some ms) None e = inr (ms, refl, refl)
  either_missing (Some ms) (Some h) e = cc

  waits_for_no_set : (set : Bytes) → awaited_in d.watching set None ≡ None → AwaitsFor d (command.Watches (watches_line.Wait set)) v None
  waits_for_no_set set none =
      (unknown, ap (λ (j : Judged WatchSet). j >>= (λ (x : WatchSet). Ok x.members)) (wait_missed (caller_of d.«open») d.watching set v may (set_missing (get_by_text d.watching.sets.kept set) none)))

  waits_for_no_until : (set until : Bytes) → awaited_in d.watching set (Some until) ≡ None → AwaitsFor d (command.Watches (watches_line.WaitUntil set until)) v None
  waits_for_no_until set until none =
      (unknown, ap (λ (j : Judged (WatchSet × Watch)). j >>= (λ (x : WatchSet × Watch). Ok (x.0.members ++ x.1 ∷ []))) (until_missed (caller_of d.«open») d.watching set v may until (either_missing (get_by_text d.watching.sets.kept set) (get_by_text d.watching.watches.kept until) none)))

-- ---- a line, by what its names give

awaits_set : (d : SessionState) (set : Bytes) → is_writing d.«open» ≡ false → (found : Option (List Member × Option HeldWatch)) → awaited_in d.watching set None ≡ found → Awaits d (command.Watches (watches_line.Wait set)) found
awaits_set d set idle None there v follows = waits_for_no_set d idle v follows set there
awaits_set d set idle (Some found) there v follows = waits_for_set d idle v follows set found.0 found.1 there

awaits_until : (d : SessionState) (set until : Bytes) → is_writing d.«open» ≡ false → (found : Option (List Member × Option HeldWatch)) → awaited_in d.watching set (Some until) ≡ found → Awaits d (command.Watches (watches_line.WaitUntil set until)) found
awaits_until d set until idle None there v follows = waits_for_no_until d idle v follows set until there
awaits_until d set until idle (Some found) there v follows = waits_for_until d idle v follows set until found.0 found.1 there

module _ (d : SessionState) (w : WatchesCommand) (found : Option (List Member × Option HeldWatch)) (idle : is_writing d.«open» ≡ false) where
  pub wait_awaits : (set : Bytes) → w ≡ watches_line.Wait set → found ≡ awaited_in d.watching set None → Awaits d (command.Watches w) found
  wait_awaits set is there = subst (λ (x : WatchesCommand). Awaits d (command.Watches x) found) (sym is) (awaits_set d set idle found (sym there))

  pub until_awaits : (set until : Bytes) → w ≡ watches_line.WaitUntil set until → found ≡ awaited_in d.watching set (Some until) → Awaits d (command.Watches w) found
  until_awaits set until is there = subst (λ (x : WatchesCommand). Awaits d (command.Watches x) found) (sym is) (awaits_until d set until idle found (sym there))

-- other lines wait for nothing
no_wait : (c : Command) → ((set : Bytes) → c ≡ command.Watches (watches_line.Wait set) → ⊥) → ((set until : Bytes) → c ≡ command.Watches (watches_line.WaitUntil set until) → ⊥) → (v : Client) → awaited_at c v ≡ Err []
no_wait (command.Transaction t) wait until v = refl
no_wait (command.Write w) wait until v = refl
no_wait (command.Defer text) wait until v = refl
no_wait (command.Ask a) wait until v = refl
no_wait (command.Name n) wait until v = refl
no_wait (command.Size set) wait until v = refl
no_wait (command.Watches (watches_line.Check name)) wait until v = refl
no_wait (command.Watches (watches_line.Add set name)) wait until v = refl
no_wait (command.Watches (watches_line.AddLimit set limit name other)) wait until v = refl
no_wait (command.Watches (watches_line.Wait set)) wait until v = absurd (wait set refl)
no_wait (command.Watches (watches_line.WaitUntil set until)) wait cancels v = absurd (cancels set until refl)

pub other_awaits : (d : SessionState) (c : Command) → ((set : Bytes) → c ≡ command.Watches (watches_line.Wait set) → ⊥) → ((set until : Bytes) → c ≡ command.Watches (watches_line.WaitUntil set until) → ⊥) → Awaits d c None
other_awaits d c wait until v follows = ([], no_wait c wait until v)

-- ---- a session

-- what the session's state waits for at a line, by what the client knows there
waits_at : (s : Progress) (at : IsAtLine s) (d : SessionState) (found : Option (List Member × Option HeldWatch)) → caller_of d.«open» ≡ s.caller → (let l = at.line in AwaitsFor d l.command (client_at s at) found) → TellsWait s found
waits_at s at d None is none = inr (inr (record { at = at; rule = none.0; judged = none.1 }))
waits_at s at d (Some found) is some = record {
  at = at;
  awaited = some.0;
  judged = some.1;
  watches = subst (λ (p : Caller). AreWatchesOf p some.0 (with_until (watches_of found.0) found.1)) is some.2;
}

-- what its state waits for at the next line
module _ (s : Progress) (client : ℕ) (script : List Line) (state : Option SessionState) (n : ℕ) (t : Transcript) (failed : Bool) (view_is : progress_of client script state n t failed ≡ s) (h : HasDone script state n t failed) where
  pub tells_awaited : (d : SessionState) (l : Line) → failed ≡ false → state ≡ Some d → slice_get script n ≡ Some l → (found : Option (List Member × Option HeldWatch)) → Awaits d l.command found → TellsWait s found
  unfolding are_told
  tells_awaited d l ok is there found awaits =
      let x = progress_of client script state n t failed in
      let more = slice_get_within script n l there in
      let at : IsAtLine x = record { replies = h.replies; told = are_told x h.replies h.client h.runs h.written h.counted h.made; line = l; next = there } in
      subst (λ (y : Progress). TellsWait y found) view_is (waits_at x at d found (sym (ap caller_in is)) (awaits h.client (h.follows ok more d is)))

  pub nothing_left : slice_get script n ≡ None → TellsWait s None
  nothing_left none =
      let past = none_past script n none in
      let within = h.within in
      let end : n ≡ length script = omega (arith, past, within) in
      subst (λ (y : Progress). TellsWait y None) view_is (inr (inl end))
