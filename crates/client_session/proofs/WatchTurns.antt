-- The turns of the lines of watches on a session's state.
use Rattle.std.proofs.Common.{arith, ◌≡◌, ◌⊎◌, inl, inr, refl, ap, subst, sym, ◌∙◌, ℕ, ◌≤◌, [], length, Option, Some, None, Result, Ok, Err, IfOk, false, true}
use Rattle.std.specs.Prelude.{codes, option_map}
use Rattle.std.specs.BTreeMap.{get_by_text}
use Rattle.std.specs.declared.alloc.AllocError.{AllocError}
use Rattle.mdb_datum.specs.Bytes.{Bytes}
use Rattle.mdb_schema.specs.History.{History}
use Rattle.mdb_schema.specs.Query.{Query}
use Rattle.mdb_schema.specs.Schema.{DbSchema}
use Rattle.mdb_schema.specs.Tests.{needed}
use Rattle.mem_txn.proofs.SeenBegins.{begins_itself}
use Rattle.mem_txn.specs.Checked.{IdsTellCells, LooksOnce}
use Rattle.mem_txn.specs.Database.{Caller, Reading, cells_seen}
use Rattle.mem_txn.specs.Transactions.{txn_of}
use Rattle.mem_txn.specs.declared.write_txn.WriteTxn.{WriteTxn}
use Rattle.client_script.proofs.LongerHistory.{answered_within, no_entry}
use Rattle.client_script.proofs.WatchLines.{IsAside, aside, prints_none, watch_aside}
use Rattle.client_script.specs.Client.{Client, Sight, Transaction, closed, no_write_open, reading, snapshot_named, some_open, writing}
use Rattle.client_script.specs.Legal.{number_printed}
use Rattle.client_script.specs.Reply as said
use Rattle.client_script.specs.Session.{Answers, IsAnswered}
use Rattle.client_script.specs.Turn.{name_turn, outcome, size_turn, watch_turn}
use Rattle.client_script.specs.Watching.{IsWatchTold}
use Rattle.client_script.specs.declared.command.Command.{Command}
use Rattle.client_script.specs.declared.command.Command.TheVariants as command
use Rattle.client_script.specs.declared.command.NameCommand.{NameCommand}
use Rattle.client_script.specs.declared.command.NameCommand.TheVariants as name_line
use Rattle.client_script.specs.declared.command.WatchesCommand.{WatchesCommand}
use Rattle.client_script.specs.declared.command.WatchesCommand.TheVariants as watches_line
use Rattle.client_session.proofs.CellsTold.{tells_refused}
use Rattle.client_session.proofs.StateTurns.{state_with, kept_state, none_grown, once_told}
use Rattle.client_session.proofs.FollowsOn.{follows_then, reading_longer}
use Rattle.client_session.proofs.OpenTurns.{beginning_later, looks_self}
use Rattle.client_session.proofs.RequestTurns.{none_numbered}
use Rattle.client_session.proofs.ToldCounts.{TellsNone, add_limit_tells, add_tells, no_number, rows_none, rows_tell}
use Rattle.client_session.specs.Cells.{TellsCells}
use Rattle.client_session.specs.Steps.{HasDoneOnce, HasStayedQuiet, IsOneLook}
use Rattle.client_session.specs.declared.session_state.SessionState.{SessionState}
use Rattle.client_session.specs.declared.any_snapshot.AnySnapshot.{AnySnapshot}
use Rattle.client_session.specs.declared.any_snapshot.AnySnapshot.TheVariants as kinds
use Rattle.client_session.specs.declared.«open».Open.{Open}
use Rattle.client_session.specs.declared.«open».Open.TheVariants as opens
use Rattle.client_session.specs.declared.reply.Reply.{Reply}
use Rattle.client_session.specs.declared.watching.Watching.{Watching}
use Rattle.client_session.specs.inner.StateView.{Follows, IsHeldUp, IsSnapshotOf, IsWaiting, AnswersOnce, LooksAndReplies, Replied, RepliesTo, StepsTo}
use Rattle.client_session.specs.inner.OpenView.{Stands, caller_of, made, transaction_of}
use Rattle.client_session.specs.inner.ReplyOf.{reply_of}
use Rattle.client_session.specs.inner.WatchingView.{AsksWatch, HasLookedOn, Holds, IsReadBy, IsSeenIn, Knows, MayLook, TellsLook, TellsOnce, WatchTold, wait_for}

-- ---- a line that looks at no further commits

-- the state with this watched, and all else as it was
abbrev pub state_watching : SessionState → Watching → SessionState
state_watching d g = record { «open» = d.«open»; snapshots = d.snapshots; watching = g }

-- a reply that prints no commit makes none
makes_none : (n : ℕ) (t : Transaction) (r : said.Reply) → number_printed r ≡ [] → made n t r ≡ []
makes_none n closed r none = refl
makes_none n (reading m) r none = refl
makes_none n (writing t) (said.committed m changed texts) none = cc
makes_none n (writing t) (said.read_at m) none = refl
makes_none n (writing t) (said.write_at m) none = refl
makes_none n (writing t) said.ended none = refl
makes_none n (writing t) said.aborted none = refl
makes_none n (writing t) said.inserted none = refl
makes_none n (writing t) said.replaced none = refl
makes_none n (writing t) said.deleted none = refl
makes_none n (writing t) (said.wiped k) none = refl
makes_none n (writing t) said.deferred none = refl
makes_none n (writing t) (said.answered a) none = refl
makes_none n (writing t) (said.snapshot_at m) none = refl
makes_none n (writing t) (said.snapshot_within m) none = refl
makes_none n (writing t) (said.quiet_at m) none = refl
makes_none n (writing t) (said.fired_at m) none = refl
makes_none n (writing t) (said.sized k) none = refl
makes_none n (writing t) (said.woken_by name m) none = refl
makes_none n (writing t) (said.stopped_at m) none = refl
makes_none n (writing t) (said.refused rule) none = refl

-- what the client was told last is no more than is seen
last_seen : (p : Caller) (v next : Client) → v.last ≤ length p.seen → (next.last ≡ v.last) ⊎ ((next.last ≡ length p.seen) × (no_write_open v.transaction ≡ Ok tt)) → next.last ≤ length p.seen
last_seen p v next le (inl same) = subst (λ (n : ℕ). n ≤ length p.seen) (sym same) le
last_seen p v next le (inr told) = let is = told.0 in omega (arith, is)

-- a line that leaves what is open and the snapshots
aside_replied : (c : Command) (d : SessionState) (g : Watching) (r : said.Reply) (v next : Client) → Follows d v → (let p = caller_of d.«open» in IsAnswered p.schema p.seen p.number (length p.seen) v c r next × TellsCells (cells_seen p) v c r next × IsAside (length p.seen) v r next × Knows p g next.watching × Holds p g) → Replied c d (state_watching d g) r v
aside_replied c d g r v next follows (says, cells, beside, knows, holds) =
    let p = caller_of d.«open» in
    let none : number_printed r ≡ [] = prints_none r beside.reply in
    let makes : made p.number (transaction_of d.«open») r ≡ [] = makes_none p.number (transaction_of d.«open») r none in
    let answers : Answers p.schema p.seen p.number v c r next = record {
      now = length p.seen;
      not_older = follows.last;
      there = search (arith);
      says = says;
      entry = no_entry p.seen p.number v.transaction r none;
    } in
    record {
      next = next;
      answers = answers;
      cells = cells;
      follows = follows_then d (state_watching d g) v next (begins_itself p) (beside.transaction ∙ follows.transaction) (last_seen p v next follows.last beside.last) (answered_within p.schema p.seen p.number v c r next follows.within answers) beside.snapshots refl knows holds follows.stands follows;
      grows = none_grown p (transaction_of d.«open») r makes;
      numbered = none_numbered p (transaction_of d.«open») r none makes;
    }

pub watch_replied : (w : WatchesCommand) (d : SessionState) (g : Watching) (r : said.Reply) (v : Client) → Follows d v → WatchTold (caller_of d.«open») (length (caller_of d.«open»).seen) g v w r → Replied (command.Watches w) d (state_watching d g) r v
watch_replied w d g r v follows told =
    let p = caller_of d.«open» in
    aside_replied (command.Watches w) d g r v told.next follows (told.says, told.cells, aside (length p.seen) v p.schema p.seen p.number w r told.next told.says, told.knows, told.holds)

-- the goal of a line that adds to a set
set_told : (w : WatchesCommand) (d : SessionState) (g : Watching) (told : Result Reply AllocError) → TellsNone (command.Watches w) → Stands d.«open» → IdsTellCells (caller_of d.«open») → IfOk told (λ r. (p : Caller) (now : ℕ) (v : Client) → IdsTellCells p → Knows p d.watching v.watching → Holds p d.watching → WatchTold p now g v w (reply_of p.schema r)) → IfOk told (λ r. LooksAndReplies (command.Watches w) d (state_watching d g) (reply_of (caller_of d.«open»).schema r))
set_told w d g (Err e) none stands ids told = tt
set_told w d g (Ok r) none stands ids told = once_told (command.Watches w) (command.Watches w) d (state_watching d g) (caller_of d.«open»).schema (Ok r) refl none stands (λ v follows. watch_replied w d g (reply_of (caller_of d.«open»).schema r) v follows (told (caller_of d.«open») (length (caller_of d.«open»).seen) v ids follows.knows follows.holds))

pub add_told : (set name : Bytes) (d : SessionState) (g : Watching) (told : Result Reply AllocError) → Stands d.«open» → IdsTellCells (caller_of d.«open») → IfOk told (λ r. (p : Caller) (now : ℕ) (v : Client) → IdsTellCells p → Knows p d.watching v.watching → Holds p d.watching → WatchTold p now g v (watches_line.Add set name) (reply_of p.schema r)) → IfOk told (λ r. LooksAndReplies (command.Watches (watches_line.Add set name)) d (state_watching d g) (reply_of (caller_of d.«open»).schema r))
add_told set name d g told stands ids tells = set_told (watches_line.Add set name) d g told (add_tells set name) stands ids tells

pub add_limit_told : (set : Bytes) (limit : ℕ) (name other : Bytes) (d : SessionState) (g : Watching) (told : Result Reply AllocError) → Stands d.«open» → IdsTellCells (caller_of d.«open») → IfOk told (λ r. (p : Caller) (now : ℕ) (v : Client) → IdsTellCells p → Knows p d.watching v.watching → Holds p d.watching → WatchTold p now g v (watches_line.AddLimit set limit name other) (reply_of p.schema r)) → IfOk told (λ r. LooksAndReplies (command.Watches (watches_line.AddLimit set limit name other)) d (state_watching d g) (reply_of (caller_of d.«open»).schema r))
add_limit_told set limit name other d g told stands ids tells = set_told (watches_line.AddLimit set limit name other) d g told (add_limit_tells set limit name other) stands ids tells

-- the size of a set
pub size_told : (set : Bytes) (c : Command) (d : SessionState) (r : Reply) → c ≡ command.Size set → Stands d.«open» → ((p : Caller) (v : Client) → Knows p d.watching v.watching → outcome v (size_turn v set) ≡ (reply_of p.schema r, v)) → LooksAndReplies c d d (reply_of (caller_of d.«open»).schema r)
size_told set c d r is stands told =
    let p = caller_of d.«open» in
    once_told (command.Size set) c d d p.schema (Ok r) is (rows_tell (command.Size set) tt) stands (λ v follows.
    let says = told p v follows.knows in
    let none : number_printed (reply_of p.schema r) ≡ [] = rows_none number_printed no_number v p.schema p.seen p.number (length p.seen) v (command.Size set) (reply_of p.schema r) tt says in
    kept_state (command.Size set) d (reply_of p.schema r) tt stands none (λ n t. makes_none n t (reply_of p.schema r) none) (λ u knows. told p u knows.knows) v follows)

-- ---- a question whose watch is kept

name_replied : (n : NameCommand) (d : SessionState) (g : Watching) (r : said.Reply) (v next : Client) → Follows d v → (let p = caller_of d.«open» in outcome v (name_turn p.schema p.seen v n) ≡ (r, next)) → IsAside (length (caller_of d.«open»).seen) v r next → Knows (caller_of d.«open») g next.watching → Holds (caller_of d.«open») g → Replied (command.Name n) d (state_watching d g) r v
name_replied n d g r v next follows says beside knows holds = aside_replied (command.Name n) d g r v next follows (says, tt, beside, knows, holds)

-- of the open transaction
pub asks_open : (d : SessionState) (g : Watching) (name : Bytes) (q : Query) (r : Option Reading) (s : Sight) (told : Result Reply AllocError) → some_open (transaction_of d.«open») ≡ Ok s → IsSeenIn (caller_of d.«open») r s → IfOk told (λ x. (p : Caller) (v : Client) (s : Sight) → Knows p d.watching v.watching → Holds p d.watching → IsSeenIn p r s → AsksWatch p g v s name q (reply_of p.schema x)) → IfOk told (λ x. RepliesTo (command.Name (name_line.Watch name q)) d (state_watching d g) (reply_of (caller_of d.«open»).schema x))
asks_open d g name q r s (Err e) opened seen asks = tt
asks_open d g name q r s (Ok x) opened seen asks = λ v follows.
    let p = caller_of d.«open» in
    let asked : AsksWatch p g v s name q (reply_of p.schema x) = asks p v s follows.knows follows.holds seen in
    let sight : some_open v.transaction ≡ Ok s = ap some_open follows.transaction ∙ opened in
    let says : outcome v (name_turn p.schema p.seen v (name_line.Watch name q)) ≡ (reply_of p.schema x, asked.next) = rw sight asked.says in
    name_replied (name_line.Watch name q) d g (reply_of p.schema x) v asked.next follows says (watch_aside (length p.seen) v p.schema p.seen (Ok s) name q (reply_of p.schema x) asked.next asked.says) asked.knows asked.holds

pub asks_reading : (d : SessionState) (pass : Caller) (txn : Reading) (g : Watching) (name : Bytes) (q : Query) (told : Result Reply AllocError) → d.«open» ≡ opens.Reading pass txn → Stands d.«open» → IfOk told (λ x. (p : Caller) (v : Client) (s : Sight) → Knows p d.watching v.watching → Holds p d.watching → IsSeenIn p (Some txn) s → AsksWatch p g v s name q (reply_of p.schema x)) → IfOk told (λ x. RepliesTo (command.Name (name_line.Watch name q)) d (state_watching d g) (reply_of (caller_of d.«open»).schema x))
asks_reading d pass txn g name q told is stands asks =
    let s : Sight = record { number = txn.view.number; writes = []; uncommitted = false } in
    let here : Stands (opens.Reading pass txn) = subst Stands is stands in
    let by : IsReadBy pass txn s = record { committed = refl; writes = refl; number = refl; read = here.2 } in
    asks_open d g name q (Some txn) s told (ap (λ (x : Open). some_open (transaction_of x)) is) (subst (λ (x : Open). IsReadBy (caller_of x) txn s) (sym is) by) asks

pub asks_writing : (d : SessionState) (txn : WriteTxn Bytes) (g : Watching) (name : Bytes) (q : Query) (told : Result Reply AllocError) → d.«open» ≡ opens.Writing txn → IfOk told (λ x. (p : Caller) (v : Client) (s : Sight) → Knows p d.watching v.watching → Holds p d.watching → IsSeenIn p None s → AsksWatch p g v s name q (reply_of p.schema x)) → IfOk told (λ x. RepliesTo (command.Name (name_line.Watch name q)) d (state_watching d g) (reply_of (caller_of d.«open»).schema x))
asks_writing d txn g name q told is asks =
    let s : Sight = record { number = length (txn_of txn).caller.seen; writes = (txn_of txn).writes; uncommitted = true } in
    asks_open d g name q None s told (ap (λ (x : Open). some_open (transaction_of x)) is) refl asks

-- of a snapshot
abbrev reading_in : AnySnapshot → Option Reading
reading_in (kinds.Committed r) = Some r
reading_in (kinds.Uncommitted view) = None

-- the snapshot of the name, as the client knows it
record SnapshotSight (p : Caller) (k : AnySnapshot) (found : Option Sight) : Type 0 where
  sight : Sight
  is : found ≡ Some sight
  seen : IsSeenIn p (reading_in k) sight

snapshot_sight : (p : Caller) (k : AnySnapshot) (found : Option Sight) → IsSnapshotOf p (Some k) found → SnapshotSight p k found
snapshot_sight p k None keeps = absurd keeps
snapshot_sight p (kinds.Committed r) (Some s) keeps = record { sight = s; is = refl; seen = keeps }
snapshot_sight p (kinds.Uncommitted view) (Some s) keeps = record { sight = s; is = refl; seen = keeps }

pub asks_snapshot : (d : SessionState) (g : Watching) (name snapshot : Bytes) (q : Query) (k : AnySnapshot) (r : Option Reading) (told : Result Reply AllocError) → get_by_text d.snapshots.kept snapshot ≡ Some k → r ≡ reading_in k → IfOk told (λ x. (p : Caller) (v : Client) (s : Sight) → Knows p d.watching v.watching → Holds p d.watching → IsSeenIn p r s → AsksWatch p g v s name q (reply_of p.schema x)) → IfOk told (λ x. RepliesTo (command.Name (name_line.WatchIn name snapshot q)) d (state_watching d g) (reply_of (caller_of d.«open»).schema x))
asks_snapshot d g name snapshot q k r (Err e) there read asks = tt
asks_snapshot d g name snapshot q k r (Ok x) there read asks = λ v follows.
    let p = caller_of d.«open» in
    let known = snapshot_sight p k (snapshot_named snapshot v.snapshots) (subst (λ (o : Option AnySnapshot). IsSnapshotOf p o (snapshot_named snapshot v.snapshots)) there (follows.kept snapshot)) in
    let asked : AsksWatch p g v known.sight name q (reply_of p.schema x) = asks p v known.sight follows.knows follows.holds (subst (λ (o : Option Reading). IsSeenIn p o known.sight) (sym read) known.seen) in
    let named : snapshot_named snapshot v.snapshots ≡ Some known.sight = known.is in
    name_replied (name_line.WatchIn name snapshot q) d g (reply_of p.schema x) v asked.next follows (ap (λ (o : Option Sight). outcome v (watch_turn p.schema p.seen v (needed (codes "unknown-name") o) name q)) named ∙ asked.says) (watch_aside (length p.seen) v p.schema p.seen (Ok known.sight) name q (reply_of p.schema x) asked.next asked.says) asked.knows asked.holds

no_snapshot : (p : Caller) (found : Option Sight) → IsSnapshotOf p None found → found ≡ None
no_snapshot p None keeps = refl
no_snapshot p (Some s) keeps = absurd keeps

-- of a snapshot that isn't there
pub asks_unkept : (d : SessionState) (name snapshot : Bytes) (q : Query) → get_by_text d.snapshots.kept snapshot ≡ None → RepliesTo (command.Name (name_line.WatchIn name snapshot q)) d d (said.refused (codes "unknown-name"))
asks_unkept d name snapshot q there v follows =
    let p = caller_of d.«open» in
    let none : snapshot_named snapshot v.snapshots ≡ None = no_snapshot p (snapshot_named snapshot v.snapshots) (subst (λ (o : Option AnySnapshot). IsSnapshotOf p o (snapshot_named snapshot v.snapshots)) there (follows.kept snapshot)) in
    let says = ap (λ (o : Option Sight). outcome v (watch_turn p.schema p.seen v (needed (codes "unknown-name") o) name q)) none in
    name_replied (name_line.WatchIn name snapshot q) d d.watching (said.refused (codes "unknown-name")) v v follows says (watch_aside (length p.seen) v p.schema p.seen (Err (codes "unknown-name")) name q (said.refused (codes "unknown-name")) v refl) follows.knows follows.holds

-- ---- a check and a wait

-- what is open may be looked beside
module _ (w : WatchesCommand) (d : SessionState) (o : Open) (free : no_write_open (transaction_of d.«open») ≡ Ok tt) (same : transaction_of o ≡ transaction_of d.«open») (stands : Stands o) (on : HasLookedOn (caller_of d.«open») (caller_of o)) where
  p : Caller
  p = caller_of d.«open»

  may_look : (v : Client) → Follows d v → MayLook p d.watching v
  unfolding p
  may_look v follows = record {
    knows = follows.knows;
    last = follows.last;
    free = subst (λ (t : Transaction). no_write_open t ≡ Ok tt) (sym follows.transaction) free;
  }

  pub looked_replies : (r : said.Reply) → TellsLook d.watching w (caller_of d.«open») (caller_of o) r → LooksAndReplies (command.Watches w) d (state_with d o) r
  unfolding p
  looked_replies r told = record {
    at = state_with d o;
    looks = record {
      later = on.later;
      own = on.own;
      read = told.prints.read;
      counts = told.prints.counts;
      transaction = same;
      stands = stands;
    };
    snapshots = refl;
    watching = refl;
    replied = λ v before follows. watch_replied w (state_with d o) d.watching r v follows (told.told v (may_look v before));
    loads = λ v follows. told.prints.loads;
  }

  pub looked_in_vain : LooksOnce (caller_of d.«open») (caller_of o) → ((v : Client) → MayLook (caller_of d.«open») d.watching v → HasStayedQuiet (caller_of d.«open») (caller_of o) v w) → IsWaiting w d (state_with d o)
  unfolding p
  looked_in_vain look quiet = record {
    look = look;
    looks = record {
      later = on.later;
      own = on.own;
      read = on.later.counts.0;
      counts = sym on.later.counts.1;
      transaction = same;
      stands = stands;
    };
    tries = on.tries;
    snapshots = refl;
    watching = refl;
    quiet = λ v follows. quiet v (may_look v follows);
  }

-- with nothing open, or beside a read transaction
pub looked_closed : (w : WatchesCommand) (d : SessionState) (pass new : Caller) (told : Result Reply AllocError) → d.«open» ≡ opens.Nothing pass → HasLookedOn pass new → IfOk told (λ r. TellsLook d.watching w pass new (reply_of pass.schema r)) → IfOk told (λ r. LooksAndReplies (command.Watches w) d (state_with d (opens.Nothing new)) (reply_of (caller_of d.«open»).schema r))
looked_closed w d pass new (Err e) opened on told = tt
looked_closed w d pass new (Ok r) opened on told =
    looked_replies w d (opens.Nothing new) (ap (λ (x : Open). no_write_open (transaction_of x)) opened) (sym (ap transaction_of opened)) tt (subst (λ (x : Open). HasLookedOn (caller_of x) new) (sym opened) on) (reply_of (caller_of d.«open»).schema r)
    (subst (λ (x : Open). TellsLook d.watching w (caller_of x) new (reply_of (caller_of x).schema r)) (sym opened) told)

pub looked_reading : (w : WatchesCommand) (d : SessionState) (pass new : Caller) (txn : Reading) (told : Result Reply AllocError) → d.«open» ≡ opens.Reading pass txn → Stands d.«open» → HasLookedOn pass new → IfOk told (λ r. TellsLook d.watching w pass new (reply_of pass.schema r)) → IfOk told (λ r. LooksAndReplies (command.Watches w) d (state_with d (opens.Reading new txn)) (reply_of (caller_of d.«open»).schema r))
looked_reading w d pass new txn (Err e) opened stands on told = tt
looked_reading w d pass new txn (Ok r) opened stands on told =
    looked_replies w d (opens.Reading new txn) (ap (λ (x : Open). no_write_open (transaction_of x)) opened) (sym (ap transaction_of opened)) (reading_longer pass new txn (beginning_later pass new on.later) (subst Stands opened stands)) (subst (λ (x : Open). HasLookedOn (caller_of x) new) (sym opened) on) (reply_of (caller_of d.«open»).schema r)
    (subst (λ (x : Open). TellsLook d.watching w (caller_of x) new (reply_of (caller_of x).schema r)) (sym opened) told)

-- the same of one look
pub once_closed : (w : WatchesCommand) (d : SessionState) (pass new : Caller) (told : Result (Option Reply) AllocError) → d.«open» ≡ opens.Nothing pass → HasLookedOn pass new → IfOk told (λ r. TellsOnce d.watching w pass new (option_map (reply_of pass.schema) r)) → IfOk told (λ r. AnswersOnce w d (state_with d (opens.Nothing new)) (option_map (reply_of (caller_of d.«open»).schema) r))
once_closed w d pass new (Err e) opened on told = tt
once_closed w d pass new (Ok (Some r)) opened on told =
    (looked_closed w d pass new (Ok r) opened on told.1, subst (λ (x : Open). IsOneLook (caller_of x) new) (sym opened) told.0)
once_closed w d pass new (Ok None) opened on told =
    looked_in_vain w d (opens.Nothing new) (ap (λ (x : Open). no_write_open (transaction_of x)) opened) (sym (ap transaction_of opened)) tt (subst (λ (x : Open). HasLookedOn (caller_of x) new) (sym opened) on)
    (subst (λ (x : Open). LooksOnce (caller_of x) new) (sym opened) told.0)
    (subst (λ (x : Open). (v : Client) → MayLook (caller_of x) d.watching v → HasStayedQuiet (caller_of x) new v w) (sym opened) told.1)

pub once_reading : (w : WatchesCommand) (d : SessionState) (pass new : Caller) (txn : Reading) (told : Result (Option Reply) AllocError) → d.«open» ≡ opens.Reading pass txn → Stands d.«open» → HasLookedOn pass new → IfOk told (λ r. TellsOnce d.watching w pass new (option_map (reply_of pass.schema) r)) → IfOk told (λ r. AnswersOnce w d (state_with d (opens.Reading new txn)) (option_map (reply_of (caller_of d.«open»).schema) r))
once_reading w d pass new txn (Err e) opened stands on told = tt
once_reading w d pass new txn (Ok (Some r)) opened stands on told =
    (looked_reading w d pass new txn (Ok r) opened stands on told.1, subst (λ (x : Open). IsOneLook (caller_of x) new) (sym opened) told.0)
once_reading w d pass new txn (Ok None) opened stands on told =
    looked_in_vain w d (opens.Reading new txn) (ap (λ (x : Open). no_write_open (transaction_of x)) opened) (sym (ap transaction_of opened)) (reading_longer pass new txn (beginning_later pass new on.later) (subst Stands opened stands)) (subst (λ (x : Open). HasLookedOn (caller_of x) new) (sym opened) on)
    (subst (λ (x : Open). LooksOnce (caller_of x) new) (sym opened) told.0)
    (subst (λ (x : Open). (v : Client) → MayLook (caller_of x) d.watching v → HasStayedQuiet (caller_of x) new v w) (sym opened) told.1)

-- a wait that makes one look is a step
pub steps_once : (n : ℕ) (w : WatchesCommand) (c : Command) (d d' : SessionState) (s : DbSchema) (told : Result (Option Reply) AllocError) → c ≡ command.Watches w → ((old new : Caller) → IsOneLook old new → HasDoneOnce (command.Watches w) old new) → IfOk told (λ r. AnswersOnce w d d' (option_map (reply_of s) r)) → IfOk told (λ r. StepsTo n c d d' (option_map (reply_of s) r))
steps_once n w c d d' s (Err e) is once told = tt
steps_once n w c d d' s (Ok (Some r)) is once told =
    subst (λ (x : Command). LooksAndReplies x d d' (reply_of s r) × HasDoneOnce x (caller_of d.«open») (caller_of d'.«open»)) (sym is)
    (told.0, once (caller_of d.«open») (caller_of d'.«open») told.1)
steps_once n w c d d' s (Ok None) is once told = subst (λ (x : Command). IsHeldUp n x d d') (sym is) (record { looks = told.looks; snapshots = told.snapshots; watching = told.watching; why = told })

-- beside a write transaction
look_refused : (w : WatchesCommand) (d : SessionState) (txn : WriteTxn Bytes) → d.«open» ≡ opens.Writing txn → Stands d.«open»
    → ((schema : DbSchema) (H : History) (client now : ℕ) (v : Client) → no_write_open v.transaction ≡ Err (codes "write-open") → IsWatchTold schema H client now v w (said.refused (codes "write-open")) v)
    → LooksAndReplies (command.Watches w) d d (said.refused (codes "write-open"))
look_refused w d txn opened stands refuses = record {
  at = d;
  looks = looks_self d.«open» stands;
  snapshots = refl;
  watching = refl;
  replied = λ v before follows.
      let p = caller_of d.«open» in
      watch_replied w d d.watching (said.refused (codes "write-open")) v follows (record {
        next = v;
        says = refuses p.schema p.seen p.number (length p.seen) v (ap no_write_open follows.transaction ∙ ap (λ (x : Open). no_write_open (transaction_of x)) opened);
        cells = tells_refused (cells_seen p) v w (codes "write-open") v;
        knows = follows.knows;
        holds = follows.holds;
      });
  loads = λ v follows. tt;
}

pub check_refused : (name : Bytes) (d : SessionState) (txn : WriteTxn Bytes) → d.«open» ≡ opens.Writing txn → Stands d.«open» → LooksAndReplies (command.Watches (watches_line.Check name)) d d (said.refused (codes "write-open"))
check_refused name d txn opened stands = look_refused (watches_line.Check name) d txn opened stands (λ schema H client now v written. rw written (refl, refl))

pub wait_refused : (set : Bytes) (until : Option Bytes) (d : SessionState) (txn : WriteTxn Bytes) → d.«open» ≡ opens.Writing txn → Stands d.«open» → LooksAndReplies (command.Watches (wait_for set until)) d d (said.refused (codes "write-open"))
wait_refused set None d txn opened stands = look_refused (watches_line.Wait set) d txn opened stands (λ schema H client now v written. rw written (refl, refl))
wait_refused set (Some until) d txn opened stands = look_refused (watches_line.WaitUntil set until) d txn opened stands (λ schema H client now v written. rw written (refl, refl))

-- the same of one look
pub once_refused : (set : Bytes) (until : Option Bytes) (d : SessionState) (txn : WriteTxn Bytes) → d.«open» ≡ opens.Writing txn → Stands d.«open»
    → AnswersOnce (wait_for set until) d d (Some (said.refused (codes "write-open")))
once_refused set until d txn opened stands = (wait_refused set until d txn opened stands, inl refl)
