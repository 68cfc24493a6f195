-- What a wait is told, and what is told of a look at all that it waits for.
use Rattle.std.proofs.Common.{◌≡◌, ◌∙◌, ◌≤◌, ◌++◌, ◌⊎◌, ℕ, List, [], ◌∷◌, length, map, take, Contains, Option, Some, None, Ok, Err, refl, sym, ap, subst, inl, inr, arith, slice_get}
use Rattle.std.specs.Prelude.{IfSome, option_map}
use Rattle.std.specs.BTreeMap.{get_by_text}
use Rattle.std.proofs.lemmas.Option.{slice_get-map}
use Rattle.mdb_datum.specs.Bytes.{Bytes}
use Rattle.mdb_schema.proofs.Membership.{Contains-map, Contains-slice_get}
use Rattle.mdb_schema.specs.Tests.{◌>>=◌}
use Rattle.mem_txn.specs.Checked.{IsBeginning, IsHeldBy}
use Rattle.mem_txn.specs.Database.{Caller, cells_seen}
use Rattle.mem_txn.specs.Held.{HeldWatch}
use Rattle.watch_set.specs.Checks as checks
use Rattle.watch_set.specs.Checks.{AnswersLook, AnswersWait, FindsWoken, with_until}
use Rattle.watch_set.specs.Members.{AreHeldBy, Member, watches_of}
use Rattle.watch_set.specs.declared.woken.Woken.{Woken}
use Rattle.watch_set.specs.declared.woken.Woken.TheVariants as woken
use Rattle.client_script.specs.Client.{Client, Judged, Watch, WatchSet}
use Rattle.client_script.specs.Reply.{Reply, stopped_at, woken_by}
use Rattle.client_script.specs.Watching as told
use Rattle.client_script.specs.Watching.{IsStopped, IsWoken, told_number, until_judged, wait_judged, watch_called}
use Rattle.client_script.specs.declared.command.WatchesCommand.TheVariants as watches_line
use Rattle.client_session.specs.Cells.{MemberHasMoved}
use Rattle.client_session.specs.Steps.{HasStayedQuiet}
use Rattle.client_session.specs.declared.reply.Reply as own
use Rattle.client_session.specs.declared.watching.Watching.{Watching}
use Rattle.client_session.specs.inner.ReplyOf.{reply_of}
use Rattle.client_session.specs.inner.SetsKept.{IsThere, RepliesOnce, RepliesWoken, awaited_in, beside}
use Rattle.client_session.specs.inner.WatchingView.{Holds, IsSet, Knows, MayLook, TellsLook, TellsOnce, member_of, wait_for, watch_of}
use Rattle.client_session.proofs.CellsOfSets.{member_held}
use Rattle.client_session.proofs.CellsTold.{fired_moved}
use Rattle.client_session.proofs.HeldOn.{holds_longer, knows_longer}
use Rattle.client_session.proofs.IndexPlaces.{some_once}
use Rattle.mem_txn.specs.CellHistory.{AreComplete, MovesAreTouches}
use Rattle.mem_txn.proofs.HeldAlong.{length_longer}
use Rattle.client_session.proofs.LooksTold.{called_no_set, called_none, called_set, called_watch, fired_touched, judged_so, named_watch, prints_count, unknown, until_free, wait_free}
use Rattle.client_session.proofs.SetsJoined.{set_there}
use Rattle.client_session.proofs.QuietMembers.{first_quiet, look_quiet, look_quiet_until, looks_follow, members_quiet}
use Rattle.watch_set.proofs.ChecksInTurn.{is_one_look}
use Rattle.watch_set.proofs.GuardedChains.{Follows, follows-itself, follows-seen}

-- ---- what is waited for

pub found_alone : (kept : Option (List Member)) (ms : List Member) (u : Option HeldWatch) → beside kept (Some None) ≡ Some (ms, u) → (kept ≡ Some ms) × (u ≡ None)
found_alone None ms u e = cc
found_alone (Some xs) ms u e =
    let x : List Member × Option HeldWatch = (xs, None) in
    let y : List Member × Option HeldWatch = (ms, u) in
    let same : x ≡ y = some_once (Some x) x y refl e in
    (ap (λ (p : List Member × Option HeldWatch). Some p.0) same, sym (ap (λ (p : List Member × Option HeldWatch). p.1) same))

pub found_until : (kept : Option (List Member)) (o : Option HeldWatch) (ms : List Member) (u : Option HeldWatch) → beside kept (option_map Some o) ≡ Some (ms, u) → (h : HeldWatch) × (kept ≡ Some ms) × (o ≡ Some h) × (u ≡ Some h)
found_until None o ms u e = cc
found_until (Some xs) None ms u e = cc
found_until (Some xs) (Some h) ms u e =
    let x : List Member × Option HeldWatch = (xs, Some h) in
    let y : List Member × Option HeldWatch = (ms, u) in
    let same : x ≡ y = some_once (Some x) x y refl e in
    (h, ap (λ (p : List Member × Option HeldWatch). Some p.0) same, refl, sym (ap (λ (p : List Member × Option HeldWatch). p.1) same))

-- the set of the name has these members, which are held
pub awaited_set : (g : Watching) (set : Bytes) (until : Option Bytes) (ms : List Member) (u : Option HeldWatch) → awaited_in g set until ≡ Some (ms, u) → get_by_text g.sets.kept set ≡ Some ms
awaited_set g set None ms u e = (found_alone (get_by_text g.sets.kept set) ms u e).0
awaited_set g set (Some until) ms u e = (found_until (get_by_text g.sets.kept set) (get_by_text g.watches.kept until) ms u e).1

pub awaited_held : (p : Caller) (g : Watching) (set : Bytes) (until : Option Bytes) (ms : List Member) (u : Option HeldWatch) → Holds p g → awaited_in g set until ≡ Some (ms, u) → AreHeldBy p (watches_of ms)
awaited_held p g set until ms u holds e = let all = holds.sets set ms (awaited_set g set until ms u e) in all.held

-- ---- what is judged where no write transaction is open

module _ (p : Caller) (g : Watching) (set : Bytes) (v : Client) (may : MayLook p g v) where
  pub wait_found : (ms : List Member) → get_by_text g.sets.kept set ≡ Some ms → (s : WatchSet) × (wait_judged v set ≡ Ok s) × IsSet p ms s
  wait_found ms there = let s = called_set p g v set ms may.knows there in (s.0, wait_free v may.free set ∙ s.1, s.2)

  pub until_found : (until : Bytes) (ms : List Member) (h : HeldWatch) → get_by_text g.sets.kept set ≡ Some ms → get_by_text g.watches.kept until ≡ Some h
      → (s : WatchSet) × (until_judged v set until ≡ Ok (s, watch_of until h)) × IsSet p ms s
  until_found until ms h there named =
      let s = called_set p g v set ms may.knows there in (
        s.0,
        until_free v may.free set until ∙ ap (λ (j : Judged WatchSet). j >>= (λ (x : WatchSet). watch_called until v >>= (λ (w : Watch). Ok (x, w)))) s.1
            ∙ ap (λ (j : Judged Watch). j >>= (λ (w : Watch). Ok (s.0, w))) (called_watch p g v until h may.knows named),
        s.2,
      )

  pub wait_missed : get_by_text g.sets.kept set ≡ None → wait_judged v set ≡ Err unknown
  wait_missed none = wait_free v may.free set ∙ called_no_set p g v set may.knows none

  pub until_missed : (until : Bytes) → (get_by_text g.sets.kept set ≡ None) ⊎ ((ms : List Member) × (get_by_text g.sets.kept set ≡ Some ms) × (get_by_text g.watches.kept until ≡ None)) → until_judged v set until ≡ Err unknown
  until_missed until (inl none) =
      until_free v may.free set until ∙ ap (λ (j : Judged WatchSet). j >>= (λ (x : WatchSet). watch_called until v >>= (λ (w : Watch). Ok (x, w)))) (called_no_set p g v set may.knows none)
  until_missed until (inr (ms, there, none)) =
      let s = called_set p g v set ms may.knows there in
      until_free v may.free set until ∙ ap (λ (j : Judged WatchSet). j >>= (λ (x : WatchSet). watch_called until v >>= (λ (w : Watch). Ok (x, w)))) s.1
      ∙ ap (λ (j : Judged Watch). j >>= (λ (w : Watch). Ok (s.0, w))) (called_none p g v until may.knows none)

-- ---- all were quiet

pub wait_quiet : (g : Watching) (set : Bytes) (until : Option Bytes) (old new : Caller) (ms : List Member) (u : Option HeldWatch) → awaited_in g set until ≡ Some (ms, u) → AnswersLook old new ms u None
    → (v : Client) → MayLook old g v → HasStayedQuiet old new v (wait_for set until)
wait_quiet g set None old new ms u there quiet v may =
    let found = found_alone (get_by_text g.sets.kept set) ms u there in
    let s = wait_found old g set v may ms found.0 in
    let known = s.2 in
    record {
      awaited = map member_of ms;
      judged = ap (λ (j : Judged WatchSet). j >>= (λ (x : WatchSet). Ok x.members)) s.1 ∙ ap (λ (ws : List Watch). Ok ws) known.members;
      quiet = look_quiet old new ms (subst (λ (o : Option HeldWatch). checks.IsQuietLook old (with_until (watches_of ms) o) new) found.1 quiet);
    }
wait_quiet g set (Some until) old new ms u there quiet v may =
    let found = found_until (get_by_text g.sets.kept set) (get_by_text g.watches.kept until) ms u there in
    let h = found.0 in
    let s = until_found old g set v may until ms h found.1 found.2 in
    let known = s.2 in
    record {
      awaited = map member_of ms ++ watch_of until h ∷ [];
      judged = ap (λ (j : Judged (WatchSet × Watch)). j >>= (λ (x : WatchSet × Watch). Ok (x.0.members ++ x.1 ∷ []))) s.1 ∙ ap (λ (ws : List Watch). Ok (ws ++ watch_of until h ∷ [])) known.members;
      quiet = look_quiet_until old new ms until h (subst (λ (o : Option HeldWatch). checks.IsQuietLook old (with_until (watches_of ms) o) new) found.3 quiet);
    }

-- ---- one has fired

module _ (old last new : Caller) (first : Follows old last) (law : MovesAreTouches (cells_seen new)) (ms : List Member) (s : WatchSet) (set_is : IsSet old ms s) (v : Client) (few : v.last ≤ length old.seen) where
  within_last : v.last ≤ length last.seen
  within_last = let more = length_longer old.seen last.seen first.seen in omega (arith, few, more)

  woken_is : (place at : ℕ) (m : Member) (mid : Caller) → AreHeldBy new (watches_of ms) → slice_get ms place ≡ Some m → checks.IsQuietLook last (take place (watches_of ms)) mid → checks.IsFoundFired last mid new m.held at
      → IsWoken new.schema new.seen new.number (length new.seen) v s (woken_by m.name at)
  woken_is place at m mid all there quiet fired =
      record {
        place = place;
        member = member_of m;
        there = ap (λ (ws : List Watch). slice_get ws place) set_is.members ∙ slice_get-map member_of ms place ∙ ap (λ (o : Option Member). option_map member_of o) there;
        fired = fired_touched new m.held at law (member_held new ms m all (Contains-slice_get ms place m there)) fired.1.1 fired.1.2;
        quiet = subst (λ (ws : List Watch). told.AreUnchanged new.schema new.seen new.number (take place ws) v.last) (sym set_is.members) (first_quiet last mid new (follows-seen mid new fired.0) v.last within_last place ms quiet);
        reply = ap (λ (n : ℕ). woken_by m.name n) fired.1.1;
      }

  stopped_is : (until : Bytes) (h : HeldWatch) (at : ℕ) (mid : Caller) → IsHeldBy new h → checks.IsQuietLook last (watches_of ms) mid → checks.IsFoundFired last mid new h at
      → IsStopped new.schema new.seen new.number (length new.seen) v s (watch_of until h) (stopped_at at)
  stopped_is until h at mid held quiet fired =
      record {
        fired = fired_touched new h at law held fired.1.1 fired.1.2;
        quiet = subst (λ (ws : List Watch). told.AreUnchanged new.schema new.seen new.number ws v.last) (sym set_is.members) (members_quiet last mid new (follows-seen mid new fired.0) v.last within_last ms quiet);
        reply = ap stopped_at fired.1.1;
      }

module _ (g : Watching) (set : Bytes) (old last new : Caller) (holds : Holds old g) (first : Follows old last) (begins : IsBeginning old new) (law : MovesAreTouches (cells_seen new)) (complete : AreComplete (cells_seen new)) (ms : List Member) where
  still : Holds new g
  still = holds_longer old new g begins holds

  all : get_by_text g.sets.kept set ≡ Some ms → AreHeldBy new (watches_of ms)
  all there = let set_holds = still.sets set ms there in set_holds.held

  -- the member that has fired has another cell
  member_moved : (v : Client) (place at : ℕ) (m : Member) (mid : Caller) → Knows old g v.watching → get_by_text g.sets.kept set ≡ Some ms → slice_get ms place ≡ Some m → checks.IsFoundFired last mid new m.held at → MemberHasMoved (cells_seen new) v set m.name at
  member_moved v place at m mid knows there within fired =
      let known = set_there old g v set ms knows there in
      let among = Contains-slice_get ms place m within in (
        member_of m,
        subst (λ (ws : List Watch). Contains ws (member_of m)) (sym known.members) (Contains-map member_of ms m among),
        refl,
        fired_moved new m.held m.name at complete (member_held new ms m (all there) among) fired.1.1 fired.1.2,
      )

  alone : (place at : ℕ) (m : Member) (mid : Caller) → get_by_text g.sets.kept set ≡ Some ms → slice_get ms place ≡ Some m → checks.IsQuietLook last (take place (watches_of ms)) mid → checks.IsFoundFired last mid new m.held at
      → TellsLook g (watches_line.Wait set) old new (woken_by m.name at)
  alone place at m mid there within quiet fired =
      record {
        prints = prints_count old last new at (woken_by m.name at) first.counts fired.1.0 fired.1.1 refl;
        told = λ v may.
            let s = wait_found old g set v may ms there in
            record {
              next = told_number (length new.seen) v;
              says = judged_so v (wait_judged v set) s.0 (woken_by m.name at) (told_number (length new.seen) v) _ s.1 (woken_is old last new first law ms s.0 s.2 v may.last place at m mid (all there) within quiet fired, refl);
              cells = member_moved v place at m mid may.knows there within fired;
              knows = knows_longer old new g v.watching begins may.knows;
              holds = still;
            };
      }

  beside_until : (until : Bytes) (h : HeldWatch) (place at : ℕ) (m : Member) (mid : Caller) → get_by_text g.sets.kept set ≡ Some ms → get_by_text g.watches.kept until ≡ Some h
      → slice_get ms place ≡ Some m → checks.IsQuietLook last (take place (watches_of ms)) mid → checks.IsFoundFired last mid new m.held at → TellsLook g (watches_line.WaitUntil set until) old new (woken_by m.name at)
  beside_until until h place at m mid there named within quiet fired =
      record {
        prints = prints_count old last new at (woken_by m.name at) first.counts fired.1.0 fired.1.1 refl;
        told = λ v may.
            let s = until_found old g set v may until ms h there named in
            record {
              next = told_number (length new.seen) v;
              says = judged_so v (until_judged v set until) (s.0, watch_of until h) (woken_by m.name at) (told_number (length new.seen) v) _ s.1 (inl (woken_is old last new first law ms s.0 s.2 v may.last place at m mid (all there) within quiet fired), refl);
              cells = member_moved v place at m mid may.knows there within fired;
              knows = knows_longer old new g v.watching begins may.knows;
              holds = still;
            };
      }

  by_until : (until : Bytes) (h : HeldWatch) (at : ℕ) (mid : Caller) → get_by_text g.sets.kept set ≡ Some ms → get_by_text g.watches.kept until ≡ Some h → checks.IsQuietLook last (watches_of ms) mid → checks.IsFoundFired last mid new h at
      → TellsLook g (watches_line.WaitUntil set until) old new (stopped_at at)
  by_until until h at mid there named quiet fired =
      record {
        prints = prints_count old last new at (stopped_at at) first.counts fired.1.0 fired.1.1 refl;
        told = λ v may.
            let s = until_found old g set v may until ms h there named in
            record {
              next = told_number (length new.seen) v;
              says = judged_so v (until_judged v set until) (s.0, watch_of until h) (stopped_at at) (told_number (length new.seen) v) _ s.1
                  (inr (stopped_is old last new first law ms s.0 s.2 v may.last until h at mid (still.watches until h named) quiet fired), refl);
              cells = (watch_of until h, named_watch old g v until h may.knows named, fired_moved new h until at complete (still.watches until h named) fired.1.1 fired.1.2);
              knows = knows_longer old new g v.watching begins may.knows;
              holds = still;
            };
      }

  -- the reply tells the member of its place
  replied : (place at : ℕ) (m : Member) (r : own.Reply) → slice_get ms place ≡ Some m → RepliesWoken ms (woken.Fired place at) r → woken_by m.name at ≡ reply_of old.schema r
  replied place at m r there (x, is, told) =
      let same : m ≡ x = some_once (slice_get ms place) m x there is in
      ap (λ (y : Member). woken_by y.name at) same ∙ sym (ap (reply_of old.schema) told)

  pub woken_told : (until : Option Bytes) (u : Option HeldWatch) (w : Woken) (r : own.Reply) → awaited_in g set until ≡ Some (ms, u) → AnswersLook last new ms u (Some w) → RepliesWoken ms w r → TellsLook g (wait_for set until) old new (reply_of old.schema r)
  woken_told None u (woken.Fired place at) r there (read, once, told) is =
      let found = found_alone (get_by_text g.sets.kept set) ms u there in
      let (m, within, mid, quiet, fired) = told in
      subst (λ (x : Reply). TellsLook g (watches_line.Wait set) old new x) (replied place at m r within is) (alone place at m mid found.0 within (read, once, quiet) fired)
  woken_told None u (woken.Stopped at) r there (read, once, told) is =
      let found = found_alone (get_by_text g.sets.kept set) ms u there in
      let none : FindsWoken last read new ms None (woken.Stopped at) = subst (λ (o : Option HeldWatch). FindsWoken last read new ms o (woken.Stopped at)) found.1 told in
      absurd none
  woken_told (Some until) u (woken.Fired place at) r there (read, once, told) is =
      let found = found_until (get_by_text g.sets.kept set) (get_by_text g.watches.kept until) ms u there in
      let (m, within, mid, quiet, fired) = told in
      subst (λ (x : Reply). TellsLook g (watches_line.WaitUntil set until) old new x) (replied place at m r within is) (beside_until until found.0 place at m mid found.1 found.2 within (read, once, quiet) fired)
  woken_told (Some until) u (woken.Stopped at) r there (read, once, told) is =
      let found = found_until (get_by_text g.sets.kept set) (get_by_text g.watches.kept until) ms u there in
      let some : FindsWoken last read new ms (Some found.0) (woken.Stopped at) = subst (λ (o : Option HeldWatch). FindsWoken last read new ms o (woken.Stopped at)) found.3 told in
      subst (λ (x : Reply). TellsLook g (watches_line.WaitUntil set until) old new x) (sym (ap (reply_of old.schema) is)) (by_until until found.0 at some.0 found.1 found.2 (read, once, some.1) some.2)

pub wait_told : (g : Watching) (set : Bytes) (old new : Caller) (ms : List Member) (until : Option Bytes) (u : Option HeldWatch) (w : Woken) (r : own.Reply) → awaited_in g set until ≡ Some (ms, u) → Holds old g → IsBeginning old new
    → MovesAreTouches (cells_seen new) → AreComplete (cells_seen new) → AnswersWait old new ms u w → RepliesWoken ms w r → TellsLook g (wait_for set until) old new (reply_of old.schema r)
wait_told g set old new ms until u w r there holds begins law complete (looks, last, quiet, told) is =
    woken_told g set old last new holds (looks_follow looks old last (with_until (watches_of ms) u) quiet) begins law complete ms until u w r there told is

-- the member that a look tells is there
look_there : (old new : Caller) (ms : List Member) (until : Option HeldWatch) (w : Woken) → AnswersLook old new ms until (Some w) → IsThere ms w
look_there old new ms until (woken.Fired place at) (read, once, told) = (told.0, told.1)
look_there old new ms until (woken.Stopped at) a = tt

pub woken_there : (old new : Caller) (ms : List Member) (until : Option HeldWatch) (w : Woken) → AnswersWait old new ms until w → IsThere ms w
woken_there old new ms until w (looks, last, quiet, told) = look_there last new ms until w told

-- ---- one look at all

pub once_there : (old new : Caller) (ms : List Member) (until : Option HeldWatch) (w : Option Woken) → AnswersLook old new ms until w → IfSome w (IsThere ms)
once_there old new ms until None a = tt
once_there old new ms until (Some w) told = look_there old new ms until w told

pub once_told : (g : Watching) (set : Bytes) (old new : Caller) (ms : List Member) (until : Option Bytes) (u : Option HeldWatch) (w : Option Woken) (r : Option own.Reply) → awaited_in g set until ≡ Some (ms, u) → Holds old g
    → IsBeginning old new → MovesAreTouches (cells_seen new) → AreComplete (cells_seen new) → AnswersLook old new ms u w → RepliesOnce ms w r → TellsOnce g (wait_for set until) old new (option_map (reply_of old.schema) r)
once_told g set old new ms until u None None there holds begins law complete told is =
    (is_one_look old new ms u None told, λ v may. wait_quiet g set until old new ms u there told v may)
once_told g set old new ms until u None (Some r) there holds begins law complete told is = absurd is
once_told g set old new ms until u (Some w) None there holds begins law complete told is = absurd is
once_told g set old new ms until u (Some w) (Some r) there holds begins law complete told is = (
  inr (is_one_look old new ms u (Some w) told),
  woken_told g set old old new holds (follows-itself old) begins law complete ms until u w r there told is,
)
