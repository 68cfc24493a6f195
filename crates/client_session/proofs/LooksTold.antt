-- What a check and a wait are told, and that they print a count that was read.
use Rattle.std.proofs.Common.{◌≡◌, ◌∙◌, ◌++◌, ℕ, List, [], ◌∷◌, length, Option, Some, None, Ok, Err, refl, sym, ap, subst, inl, inr, append-nil, append_assoc, arith}
use Rattle.std.specs.Prelude.{codes, option_map}
use Rattle.std.proofs.lemmas.List.{length-map}
use Rattle.std.specs.BTreeMap.{get_by_text}
use mathlib.Core.List.{IsPrefix}
use Rattle.mdb_datum.specs.Bytes.{Bytes}
use Rattle.mdb_schema.specs.Guarded.{IsUnchanged}
use Rattle.mdb_schema.specs.Tests.{◌>>=◌, needed}
use Rattle.mdb_schema.specs.Watchable.{IsTouched}
use Rattle.mem_txn.specs.CellHistory.{AreComplete, MovesAreTouches, cell_at}
use Rattle.mem_txn.specs.Checked.{AnswersCheck, IsBeginning, IsFired, IsHeldBy, LooksOnce, number_of}
use Rattle.mem_txn.specs.Database.{Caller, HasSeen, cells_seen}
use Rattle.mem_txn.specs.Held.{HeldWatch}
use Rattle.mem_txn.specs.declared.look.Look.{Look}
use Rattle.mem_txn.specs.declared.look.Look.TheVariants as look
use Rattle.mem_txn.proofs.OneLook.{last_read}
use Rattle.watch_set.specs.Checks.{OnlyLooks}
use Rattle.watch_set.specs.Members.{Member}
use Rattle.client_script.specs.Client.{Client, Judged, Watch, WatchSet, no_write_open, set_named, watch_named}
use Rattle.client_script.specs.Reply.{Reply, fired_at, quiet_at, refused, sized}
use Rattle.client_script.specs.Watching.{IsChecked, IsJudged, check_judged, told_number, until_judged, wait_judged, watch_called}
use Rattle.client_script.specs.Turn.{outcome, set_called, size_turn}
use Rattle.client_script.specs.declared.command.WatchesCommand.TheVariants as watches_line
use Rattle.client_session.specs.Cells.{WatchTellsCells}
use Rattle.client_session.specs.Counts.{AreAmong, count_told}
use Rattle.client_session.specs.declared.watching.Watching.{Watching}
use Rattle.client_session.specs.inner.ReplyOf.{reply_of}
use Rattle.client_session.specs.inner.SetsKept.{look_reply}
use Rattle.client_session.specs.inner.WatchingView.{HasLookedOn, Holds, IsSet, IsSetOf, Knows, PrintsRead, TellsLook, member_of, watch_of}
use Rattle.client_session.proofs.CellsTold.{fired_moved}
use Rattle.client_session.proofs.HeldOn.{holds_longer, knows_longer}
use Rattle.client_session.proofs.OpenTurns.{later_seen}
use Rattle.client_session.proofs.ToldCounts.{among_append}

-- ---- a caller that has looked

pub begins : (old new : Caller) → HasSeen old new → IsBeginning old new
begins old new seen = record {
  schema = ap (λ (p : Caller). p.schema) seen.others;
  book = ap (λ (p : Caller). p.book) seen.others;
  seen = seen.seen;
  trees = seen.trees;
}

pub looked_on : (old new : Caller) → HasSeen old new → new.tries ≡ old.tries → HasLookedOn old new
looked_on old new seen tries = record { later = later_seen old new seen; own = ap (λ (p : Caller). p.own) seen.others; tries = tries }

pub only_looked : (old new : Caller) → OnlyLooks old new → HasLookedOn old new
only_looked old new looks = looked_on old new looks.seen (ap (λ (p : Caller). p.tries) looks.others)

-- ---- the count that is printed

at_end : (at : ℕ) (xs ys : List ℕ) → AreAmong (at ∷ []) (xs ++ (ys ++ at ∷ []))
at_end at xs ys = among_append [] (at ∷ []) xs (ys ++ at ∷ []) tt (among_append [] (at ∷ []) ys (at ∷ []) tt (inl (refl, tt)))

-- a look begins at a pass that may have read counts before it
pub prints_count : (old mid new : Caller) (at : ℕ) (r : Reply) → IsPrefix old.counts mid.counts → LooksOnce mid new → at ≡ length new.seen → count_told r ≡ at ∷ [] → PrintsRead old new r
prints_count old mid new at r before look last is =
    let looked = last_read mid new look in
    let read : List ℕ = looked.0 ++ at ∷ [] in
    let counts : new.counts ≡ mid.counts ++ read = looked.1 ∙ ap (λ (n : ℕ). mid.counts ++ (looked.0 ++ n ∷ [])) (sym last) in
    record {
      read = before.0 ++ read;
      counts = counts ∙ ap (λ (ns : List ℕ). ns ++ read) (sym before.1) ∙ append_assoc old.counts before.0 read;
      loads = subst (λ (ns : List ℕ). AreAmong ns (before.0 ++ read)) (sym is) (at_end at before.0 looked.0);
    }

pub prints_none : (p : Caller) (rule : Bytes) → PrintsRead p p (refused rule)
prints_none p rule = record { read = []; counts = sym (append-nil p.counts); loads = tt }

-- ---- what has fired was touched

pub fired_touched : (p : Caller) (h : HeldWatch) (at : ℕ) → MovesAreTouches (cells_seen p) → IsHeldBy p h → at ≡ length p.seen → IsFired p h at → IsTouched p.schema p.seen h.query h.number (length p.seen)
fired_touched p h at law held all fired =
    let later = fired.later in
    let spot = h.spot in
    law h.query h.number (length p.seen) spot.watch (omega (arith, all, later)) (omega arith) held.cell
    (λ same. fired.other (ap (λ (n : ℕ). cell_at (cells_seen p) h.query n) all ∙ same))

-- ---- what is judged

pub judged_so : {A : Type 0} (v : Client) (j : Judged A) (a : A) (r : Reply) (next : Client) (said : A → Type 0) → j ≡ Ok a → said a → IsJudged v j r next said
judged_so {A} v j a r next said e is = subst (λ (x : Judged A). IsJudged v x r next said) (sym e) is

pub judged_not : {A : Type 0} (v : Client) (j : Judged A) (rule : Bytes) (said : A → Type 0) → j ≡ Err rule → IsJudged v j (refused rule) v said
judged_not {A} v j rule said e = subst (λ (x : Judged A). IsJudged v x (refused rule) v said) (sym e) (refl, refl)

abbrev pub unknown : Bytes
unknown = codes "unknown-name"

-- a watch, and a set, as the client knows it
pub named_watch : (p : Caller) (g : Watching) (v : Client) (name : Bytes) (h : HeldWatch) → Knows p g v.watching → get_by_text g.watches.kept name ≡ Some h → watch_named name v.watching.watches ≡ Some (watch_of name h)
named_watch p g v name h knows there = knows.watches name ∙ ap (λ (o : Option HeldWatch). option_map (watch_of name) o) there

pub called_watch : (p : Caller) (g : Watching) (v : Client) (name : Bytes) (h : HeldWatch) → Knows p g v.watching → get_by_text g.watches.kept name ≡ Some h → watch_called name v ≡ Ok (watch_of name h)
called_watch p g v name h knows there =
    ap (λ (o : Option Watch). needed unknown o) (named_watch p g v name h knows there)

pub called_none : (p : Caller) (g : Watching) (v : Client) (name : Bytes) → Knows p g v.watching → get_by_text g.watches.kept name ≡ None → watch_called name v ≡ Err unknown
called_none p g v name knows none =
    ap (λ (o : Option Watch). needed unknown o) (knows.watches name ∙ ap (λ (o : Option HeldWatch). option_map (watch_of name) o) none)

known_set : (p : Caller) (ms : List Member) (found : Option WatchSet) → IsSetOf p (Some ms) found → (s : WatchSet) × (found ≡ Some s) × IsSet p ms s
known_set p ms None is = absurd is
known_set p ms (Some s) is = (s, refl, is)

known_none : (p : Caller) (found : Option WatchSet) → IsSetOf p None found → found ≡ None
known_none p None is = refl
known_none p (Some s) is = absurd is

pub called_set : (p : Caller) (g : Watching) (v : Client) (set : Bytes) (ms : List Member) → Knows p g v.watching → get_by_text g.sets.kept set ≡ Some ms → (s : WatchSet) × (set_called set v ≡ Ok s) × IsSet p ms s
called_set p g v set ms knows there =
    let found = known_set p ms (set_named set v.watching.sets) (subst (λ (o : Option (List Member)). IsSetOf p o (set_named set v.watching.sets)) there (knows.sets set)) in
    (found.0, ap (λ (o : Option WatchSet). needed unknown o) found.1, found.2)

pub called_no_set : (p : Caller) (g : Watching) (v : Client) (set : Bytes) → Knows p g v.watching → get_by_text g.sets.kept set ≡ None → set_called set v ≡ Err unknown
called_no_set p g v set knows none =
    ap (λ (o : Option WatchSet). needed unknown o) (known_none p (set_named set v.watching.sets) (subst (λ (o : Option (List Member)). IsSetOf p o (set_named set v.watching.sets)) none (knows.sets set)))

-- how many members a set has
size_by : (v : Client) → Judged WatchSet → Reply × Client
size_by v j = outcome v (j >>= (λ s. Ok (sized (length s.members), v)))

pub size_known : (p : Caller) (g : Watching) (v : Client) (set : Bytes) (ms : List Member) → Knows p g v.watching → get_by_text g.sets.kept set ≡ Some ms → outcome v (size_turn v set) ≡ (sized (length ms), v)
unfolding size_by
size_known p g v set ms knows there =
    let s = called_set p g v set ms knows there in
    let known = s.2 in
    let count : length s.0.members ≡ length ms = ap length known.members ∙ length-map ms member_of in
    ap (size_by v) s.1 ∙ ap (λ (n : ℕ). (sized n, v)) count

pub size_unknown : (p : Caller) (g : Watching) (v : Client) (set : Bytes) → Knows p g v.watching → get_by_text g.sets.kept set ≡ None → outcome v (size_turn v set) ≡ (refused unknown, v)
unfolding size_by
size_unknown p g v set knows none = ap (size_by v) (called_no_set p g v set knows none)

-- no write transaction is open
module _ (v : Client) (free : no_write_open v.transaction ≡ Ok tt) where
  check_free : (name : Bytes) → check_judged v name ≡ watch_called name v
  check_free name = ap (λ (j : Judged (Unit {0})). j >>= (λ u. watch_called name v)) free

  pub wait_free : (set : Bytes) → wait_judged v set ≡ set_called set v
  wait_free set = ap (λ (j : Judged (Unit {0})). j >>= (λ u. set_called set v)) free

  pub until_free : (set until : Bytes) → until_judged v set until ≡ (set_called set v >>= (λ s. watch_called until v >>= (λ w. Ok (s, w))))
  until_free set until = ap (λ (j : Judged WatchSet). j >>= (λ s. watch_called until v >>= (λ w. Ok (s, w)))) (wait_free set)

-- ---- a check

prints_number : (old : Caller) (l : Look) → count_told (reply_of old.schema (look_reply l)) ≡ number_of l ∷ []
prints_number old (look.Quiet at) = refl
prints_number old (look.Fired at) = refl

checked : (old new : Caller) (name : Bytes) (h : HeldWatch) (l : Look) → IsHeldBy new h → MovesAreTouches (cells_seen new) → AnswersCheck old new h l
    → IsChecked new.schema new.seen new.number (length new.seen) (watch_of name h) (reply_of old.schema (look_reply l))
checked old new name h (look.Quiet at) held law answers =
    let quiet = answers.2 in
    inl (ap quiet_at answers.1, subst (λ (n : ℕ). IsUnchanged new.schema new.seen new.number h.query h.number n) answers.1 quiet.unchanged)
checked old new name h (look.Fired at) held law answers =
    inr (ap fired_at answers.1, fired_touched new h at law held answers.1 answers.2)

-- a watch that has fired has another cell
moved : (g : Watching) (v : Client) (name : Bytes) (old new : Caller) (h : HeldWatch) (l : Look) (next : Client) → Knows old g v.watching → get_by_text g.watches.kept name ≡ Some h → IsHeldBy new h → AreComplete (cells_seen new) → AnswersCheck old new h l
    → WatchTellsCells (cells_seen new) v (watches_line.Check name) (reply_of old.schema (look_reply l)) next
moved g v name old new h (look.Quiet at) next knows there held complete answers = tt
moved g v name old new h (look.Fired at) next knows there held complete answers =
    (watch_of name h, named_watch old g v name h knows there, fired_moved new h name at complete held answers.1 answers.2)

pub check_told : (g : Watching) (name : Bytes) (old new : Caller) (h : HeldWatch) (l : Look) → get_by_text g.watches.kept name ≡ Some h → Holds old g → HasSeen old new → IsHeldBy new h → MovesAreTouches (cells_seen new) → AreComplete (cells_seen new)
    → AnswersCheck old new h l → TellsLook g (watches_line.Check name) old new (reply_of old.schema (look_reply l))
check_told g name old new h l there holds seen held law complete answers = record {
  prints = prints_count old old new (number_of l) (reply_of old.schema (look_reply l)) ([], append-nil old.counts) answers.0 answers.1 (prints_number old l);
  told = λ v may. record {
    next = told_number (length new.seen) v;
    says = judged_so v (check_judged v name) (watch_of name h) (reply_of old.schema (look_reply l)) (told_number (length new.seen) v) _ (check_free v may.free name ∙ called_watch old g v name h may.knows there) (checked old new name h l held law answers, refl);
    cells = moved g v name old new h l (told_number (length new.seen) v) may.knows there held complete answers;
    knows = knows_longer old new g v.watching (begins old new seen) may.knows;
    holds = holds_longer old new g (begins old new seen) holds;
  };
}
