-- What a session keeps from one call to the next, and what a call tells.
use Rattle.std.proofs.Common.{arith, ◌≡◌, refl, ap, subst, sym, ◌∙◌, ℕ, ◌+◌, ◌≤◌, ◌<◌, ◌^◌, Bool, true, false, List, [], ◌++◌, length, take, Option, Some, Result, Ok, Err, OnErr, OnOk, slice_get, le_refl}
use Rattle.std.proofs.lemmas.List.{append-nil}
use Rattle.std.specs.declared.alloc.AllocError.{AllocError}
use Rattle.mem_txn.specs.Database.{Caller, cells_seen}
use Rattle.client_script.specs.Client.{Client, at_start}
use Rattle.std.specs.Prelude.{is_err}
use Rattle.client_script.specs.Legal.{printed}
use Rattle.client_script.specs.Reply.{Reply, lines_text}
use Rattle.client_script.specs.declared.command.Command.{Command}
use Rattle.client_script.specs.declared.command.Command.TheVariants as command
use Rattle.client_script.specs.declared.command.TransactionCommand.TheVariants as transaction_line
use Rattle.client_script.specs.declared.command.WatchesCommand.{WatchesCommand}
use Rattle.client_script.specs.declared.line.Line.{Line}
use Rattle.client_session.proofs.CellsTold.{runs_of}
use Rattle.client_session.proofs.MadeSoFar.{made_both, made_still, room_for_one}
use Rattle.client_session.proofs.OneMoreLine.{all_carried, from_here, kept_some, next, nothing_added, seen_more, stops_here}
use Rattle.client_session.proofs.OpenTurns.{later_self}
use Rattle.client_session.specs.Answered.{AreMade, AreTold, HasAnswered, HasStopped, IsLater, IsUntold, Tells}
use Rattle.client_session.specs.Cells.{RunsByCells}
use Rattle.client_session.specs.Progress.{Progress}
use Rattle.client_session.specs.Steps.{AnswersStep, HasDoneOnce, IsBlocked, Waits}
use Rattle.client_session.specs.declared.session_state.SessionState.{SessionState}
use Rattle.client_session.specs.declared.stepped.Stepped.TheVariants as stepped
use Rattle.client_session.specs.inner.Carried.{Adds, AddsSome, AnswersLine, CarriedOn, CarriesOut, SoFar, StepsLine, Stops, StopsLine}
use Rattle.client_session.specs.inner.StateView.{Follows, HoldsUp, IsHeldUp, IsWaiting}
use Rattle.client_session.specs.inner.OpenView.{caller_of, is_writing, writes}
use Rattle.client_session.specs.inner.Transcript.{Transcript}
use Rattle.client_session.specs.inner.StoredSession.{HasDone, IsUnfinished, caller_in, writing_in}

-- the fields, as contracts see them
abbrev pub progress_of : ℕ → List Line → Option SessionState → ℕ → Transcript → Bool → Progress
progress_of client script state n t failed = record {
  client = client;
  script = script;
  caller = caller_in state;
  answered = n;
  text = t.text;
  commits = t.commits;
  writing = writing_in state;
  failed = failed;
}

-- the answers so far
abbrev transcript_of : Progress → Transcript
transcript_of s = record { text = s.text; commits = s.commits }

-- memory was wanting or it was not
pub not_both : {P : Type 0} (b : Bool) → b ≡ true → b ≡ false → P
not_both {P} b is other = cc

-- the same with or without an open write transaction
abbrev pub with_writing : Bool → Progress → Progress
with_writing b s = record s { writing = b }

-- ---- the replies so far

-- they are a session, and what they tell of cells is so
unfoldable pub are_told : (s : Progress) (replies : List Reply) (client : Client) → (let p = s.caller in RunsByCells (cells_seen p) p.number at_start (take s.answered s.script) replies client) → s.text ≡ lines_text (take s.answered s.script) replies → s.commits ≡ length (printed replies) → (s.failed ≡ false → AreMade s.caller replies) → AreTold s replies
are_told s replies client runs written counted made =
    let p = s.caller in
    record {
      session = (client, runs_of (cells_seen p) p.number at_start (take s.answered s.script) replies client runs);
      cells = (client, runs);
      written = written;
      counted = counted;
      made = made;
    }

-- none tells a commit
none_made : (p : Caller) → AreMade p []
none_made p = record {
  earlier = p.own;
  made = [];
  own = sym (append-nil p.own);
  told = refl;
  rising = search (arith);
}

-- ---- a call that answers no line

told_still : (s : Progress) (b : Bool) (replies : List Reply) → AreTold s replies → AreTold (with_writing b s) replies
told_still s b replies told = record { session = told.session; cells = told.cells; written = told.written; counted = told.counted; made = told.made }

pub tells_nothing : (s : Progress) (b : Bool) (replies : List Reply) → AreTold s replies → Tells s (with_writing b s)
tells_nothing s b replies told = record {
  before = replies;
  told_before = told;
  replies = [];
  told = subst (λ (rs : List Reply). AreTold (with_writing b s) rs) (sym (append-nil replies)) (told_still s b replies told);
  later = later_self s.caller;
  read = [];
  counts = sym (append-nil s.caller.counts);
  loads = tt;
}

pub answers_nothing : (s : Progress) (b : Bool) (replies : List Reply) → AreTold s replies → HasAnswered s (with_writing b s)
unfolding tells_nothing
answers_nothing s b replies told = record {
  tells = tells_nothing s b replies told;
  made = [];
  own = sym (append-nil s.caller.own);
  told = refl;
  rising = le_refl (length s.caller.seen);
}

pub stops_nothing : (s : Progress) (replies : List Reply) → AreTold s replies → s.writing ≡ false → HasStopped s s
unfolding tells_nothing
stops_nothing s replies told closed = record {
  tells = tells_nothing s s.writing replies told;
  made = [];
  untold = [];
  own = sym (append-nil s.caller.own);
  told = refl;
  rising = le_refl (length s.caller.seen);
  last = tt;
  closed = closed;
}

-- ---- a call that answers some lines

pub tells_some : (s t : Progress) → t.script ≡ s.script → (some : AddsSome s.caller t.caller s.script s.answered t.answered (transcript_of s) (transcript_of t)) → (t.failed ≡ false → AreMade t.caller (some.before.replies ++ some.adds.replies)) → Tells s t
tells_some s t same some made =
    let adds = some.adds in
    let before = some.before in
    let all = before.replies ++ adds.replies in
    let p = s.caller in
    let q = t.caller in
    let runs : RunsByCells (cells_seen q) q.number at_start (take t.answered t.script) all adds.client =
    subst (λ (ls : List Line). RunsByCells (cells_seen q) q.number at_start (take t.answered ls) all adds.client) (sym same)
    (subst (λ (n : ℕ). RunsByCells (cells_seen q) n at_start (take t.answered s.script) all adds.client) (sym adds.later.number) adds.runs) in
    record {
      before = before.replies;
      told_before = are_told s before.replies before.client before.runs before.written before.counted (λ _. before.made);
      replies = adds.replies;
      told = are_told t all adds.client runs (adds.written ∙ ap (λ (ls : List Line). lines_text (take t.answered ls) all) (sym same)) adds.counted made;
      later = adds.later;
      read = adds.read;
      counts = adds.counts;
      loads = adds.loads;
    }

-- the commits that all replies tell, those before the call too
made_in_all : (pass new : Caller) (script : List Line) (from to : ℕ) (old t : Transcript) → (c : CarriesOut pass new script from to old t) → AreMade new (c.some.before.replies ++ c.some.adds.replies)
made_in_all pass new script from to old t c =
    let some = c.some in
    made_both pass new some.adds.later some.before.replies some.before.made some.adds.replies c.made c.own c.told c.rising

pub answers_some : (s t : Progress) → t.script ≡ s.script → CarriesOut s.caller t.caller s.script s.answered t.answered (transcript_of s) (transcript_of t) → HasAnswered s t
unfolding tells_some
answers_some s t same c = record {
  tells = tells_some s t same c.some (λ _. made_in_all s.caller t.caller s.script s.answered t.answered (transcript_of s) (transcript_of t) c);
  made = c.made;
  own = c.own;
  told = c.told;
  rising = c.rising;
}

pub stops_some : (s t : Progress) → t.script ≡ s.script → t.failed ≡ true → t.writing ≡ false → Stops s.caller t.caller s.script s.answered t.answered (transcript_of s) (transcript_of t) → HasStopped s t
unfolding tells_some
stops_some s t same fails closed c = record {
  tells = tells_some s t same c.some (λ ok. cc);
  made = c.made;
  untold = c.untold;
  own = c.own;
  told = c.told;
  rising = c.rising;
  last = subst (λ (ls : List Line). IsUntold ls t.answered c.untold) (sym same) c.last;
  closed = closed;
}

-- ---- what is kept

-- no line is answered yet
pub begins : (script : List Line) (d : SessionState) (t : Transcript) → Follows d at_start → t ≡ record { text = []; commits = 0 } → HasDone script (Some d) 0 t false
begins script d t follows none = record {
  here = refl;
  within = search (arith);
  replies = [];
  client = at_start;
  runs = refl;
  written = ap (λ (x : Transcript). x.text) none;
  counted = ap (λ (x : Transcript). x.commits) none;
  made = λ _. none_made (caller_of d.«open»);
  follows = λ ok more d' is. let same : d ≡ d' = cc in subst (λ (x : SessionState). Follows x at_start) same follows;
  closed = λ fails. cc;
}

-- a session that isn't finished has what its state goes on with
pub goes_on : (script : List Line) (state : Option SessionState) (n : ℕ) (text : Transcript) (failed : Bool) (d : SessionState) → HasDone script state n text failed → state ≡ Some d → failed ≡ false → n < length script → SoFar script n d text
goes_on script state n text failed d h is ok more = record {
  replies = h.replies;
  client = h.client;
  runs = subst (λ (o : Option SessionState). let p = caller_in o in RunsByCells (cells_seen p) p.number at_start (take n script) h.replies h.client) is h.runs;
  follows = h.follows ok more d is;
  written = h.written;
  counted = h.counted;
  made = subst (λ (o : Option SessionState). AreMade (caller_in o) h.replies) is (h.made ok);
}

-- some lines were answered, and so much is said of what comes then
added_so : (pass : Caller) (script : List Line) (from to : ℕ) (old text : Transcript) (d : SessionState) (failed : Bool) → (some : AddsSome pass (caller_of d.«open») script from to old text) → (failed ≡ false → AreMade (caller_of d.«open») (some.before.replies ++ some.adds.replies)) → to ≤ length script → (failed ≡ false → to < length script → Follows d some.adds.client) → (failed ≡ true → is_writing d.«open» ≡ false) → HasDone script (Some d) to text failed
added_so pass script from to old text d failed some made within follows closed =
    let adds = some.adds in
    let p = caller_of d.«open» in
    record {
      here = refl;
      within = within;
      replies = some.before.replies ++ adds.replies;
      client = adds.client;
      runs = subst (λ (n : ℕ). RunsByCells (cells_seen p) n at_start (take to script) (some.before.replies ++ adds.replies) adds.client) (sym adds.later.number) adds.runs;
      written = adds.written;
      counted = adds.counted;
      made = made;
      follows = λ ok more d' is. let same : d ≡ d' = cc in subst (λ (x : SessionState). Follows x adds.client) same (follows ok more);
      closed = closed;
    }

-- then none is left, or memory was wanting
pub has_added : (pass : Caller) (script : List Line) (from to : ℕ) (old text : Transcript) (d : SessionState) (failed : Bool) → (some : AddsSome pass (caller_of d.«open») script from to old text) → (failed ≡ false → AreMade (caller_of d.«open») (some.before.replies ++ some.adds.replies)) → to ≤ length script → (failed ≡ false → to ≡ length script) → (failed ≡ true → is_writing d.«open» ≡ false) → HasDone script (Some d) to text failed
has_added pass script from to old text d failed some made within all closed = added_so pass script from to old text d failed some made within (λ ok more. let end = all ok in absurd (omega (arith, end, more))) closed

-- lines were answered from one place on to another, and the state has what the client knows then
pub has_carried : (pass : Caller) (script : List Line) (from to : ℕ) (old text : Transcript) (d : SessionState) (failed : Bool) → CarriedOn pass script from to old d text → to ≤ length script → failed ≡ false → HasDone script (Some d) to text failed
has_carried pass script from to old text d failed on within ok =
    let c = on.carried in
    let adds : Adds pass (caller_of d.«open») on.before.replies (take to script) text =
    record { replies = c.replies; client = c.client; runs = c.runs; written = c.written; counted = c.counted; later = c.later; read = c.read; counts = c.counts; loads = c.loads } in
    added_so pass script from to old text d failed (record { before = on.before; adds = adds })
    (λ _. made_both pass (caller_of d.«open») c.later on.before.replies on.before.made c.replies c.made c.own c.told c.rising) within (λ _ more. c.follows) (λ fails. cc)

-- ---- a call, by the fields before and after

module _ (s : Progress) (client : ℕ) (script : List Line) (state state' : Option SessionState) (n : ℕ) (text : Transcript) (failed : Bool) (view_is : progress_of client script state n text failed ≡ s) where
  pub kept_told : HasDone script state n text failed → (replies : List Reply) × AreTold s replies
  kept_told h = (h.replies, subst (λ (x : Progress). AreTold x h.replies) view_is (are_told (progress_of client script state n text failed) h.replies h.client h.runs h.written h.counted h.made))

  pub same_told : (t : Progress) (b : Bool) → t ≡ with_writing b s → HasDone script state n text failed → Tells s t
  unfolding kept_told
  same_told t b same h = subst (λ (x : Progress). Tells s x) (sym same) (tells_nothing s b (kept_told h).0 (kept_told h).1)

  pub same_answered : (t : Progress) (b : Bool) → t ≡ with_writing b s → HasDone script state n text failed → HasAnswered s t
  unfolding kept_told
  same_answered t b same h = subst (λ (x : Progress). HasAnswered s x) (sym same) (answers_nothing s b (kept_told h).0 (kept_told h).1)

  -- after want of memory nothing is open
  pub closed_by : HasDone script state n text failed → s.failed ≡ true → s.writing ≡ false
  closed_by h fails = sym (ap (λ (x : Progress). x.writing) view_is) ∙ h.closed (ap (λ (x : Progress). x.failed) view_is ∙ fails)

  pub same_stopped : HasDone script state n text failed → s.failed ≡ true → HasStopped s s
  unfolding kept_told
  same_stopped h fails = stops_nothing s (kept_told h).0 (kept_told h).1 (closed_by h fails)

  -- both states are there
  by_fields : (P : Progress → Progress → Type 0) (d d' : SessionState) (n' : ℕ) (text' : Transcript) (failed' : Bool) → state ≡ Some d → state' ≡ Some d' → P (progress_of client script (Some d) n text failed) (progress_of client script (Some d') n' text' failed') → P s (progress_of client script state' n' text' failed')
  by_fields P d d' n' text' failed' is is' holds =
      let t = progress_of client script state' n' text' failed' in
      subst (λ (x : Progress). P x t) view_is
      (subst (λ (o : Option SessionState). P (progress_of client script o n text failed) t) (sym is)
      (subst (λ (o : Option SessionState). P (progress_of client script (Some d) n text failed) (progress_of client script o n' text' failed')) (sym is') holds))

  pub some_told : (d d' : SessionState) (n' : ℕ) (text' : Transcript) (failed' : Bool) → state ≡ Some d → state' ≡ Some d' → (some : AddsSome (caller_of d.«open») (caller_of d'.«open») script n n' text text') → (failed' ≡ false → AreMade (caller_of d'.«open») (some.before.replies ++ some.adds.replies)) → Tells s (progress_of client script state' n' text' failed')
  some_told d d' n' text' failed' is is' some made = by_fields Tells d d' n' text' failed' is is' (tells_some (progress_of client script (Some d) n text failed) (progress_of client script (Some d') n' text' failed') refl some made)

  pub all_answered : (d d' : SessionState) (n' : ℕ) (text' : Transcript) (failed' : Bool) → state ≡ Some d → state' ≡ Some d' → CarriesOut (caller_of d.«open») (caller_of d'.«open») script n n' text text' → HasAnswered s (progress_of client script state' n' text' failed')
  all_answered d d' n' text' failed' is is' c = by_fields HasAnswered d d' n' text' failed' is is' (answers_some (progress_of client script (Some d) n text failed) (progress_of client script (Some d') n' text' failed') refl c)

  -- what a call tells that answered all, or found no memory
  pub told_by : (d d' : SessionState) (n' : ℕ) (text' : Transcript) (failed' : Bool) (r : Result (Unit {0}) AllocError) → failed' ≡ is_err r → state ≡ Some d → state' ≡ Some d' → AddsSome (caller_of d.«open») (caller_of d'.«open») script n n' text text' → OnOk r (CarriesOut (caller_of d.«open») (caller_of d'.«open») script n n' text text') → Tells s (progress_of client script state' n' text' failed')
  told_by d d' n' text' failed' (Ok x) fails is is' some c = let all = all_answered d d' n' text' failed' is is' c in all.tells
  told_by d d' n' text' failed' (Err e) fails is is' some c = some_told d d' n' text' failed' is is' some (λ ok. not_both failed' fails ok)

  pub answered_ok : (d d' : SessionState) (n' : ℕ) (text' : Transcript) (failed' : Bool) (r : Result (Unit {0}) AllocError) → state ≡ Some d → state' ≡ Some d' → OnOk r (CarriesOut (caller_of d.«open») (caller_of d'.«open») script n n' text text') → OnOk r (HasAnswered s (progress_of client script state' n' text' failed'))
  answered_ok d d' n' text' failed' (Ok x) is is' c = all_answered d d' n' text' failed' is is' c
  answered_ok d d' n' text' failed' (Err e) is is' c = tt

  pub some_stopped : (d d' : SessionState) (n' : ℕ) (text' : Transcript) (failed' : Bool) → state ≡ Some d → state' ≡ Some d' → failed' ≡ true → is_writing d'.«open» ≡ false → Stops (caller_of d.«open») (caller_of d'.«open») script n n' text text' → HasStopped s (progress_of client script state' n' text' failed')
  some_stopped d d' n' text' failed' is is' fails closed c = by_fields HasStopped d d' n' text' failed' is is' (stops_some (progress_of client script (Some d) n text failed) (progress_of client script (Some d') n' text' failed') refl fails closed c)

  pub stopped_on_err : (d d' : SessionState) (n' : ℕ) (text' : Transcript) (failed' : Bool) (r : Result (Unit {0}) AllocError) → failed' ≡ is_err r → state ≡ Some d → state' ≡ Some d' → is_writing d'.«open» ≡ false → OnErr r (Stops (caller_of d.«open») (caller_of d'.«open») script n n' text text') → OnErr r (HasStopped s (progress_of client script state' n' text' failed'))
  stopped_on_err d d' n' text' failed' (Ok x) fails is is' closed c = tt
  stopped_on_err d d' n' text' failed' (Err e) fails is is' closed c = some_stopped d d' n' text' failed' is is' fails closed c

  -- and what it keeps
  pub kept_by : (d d' : SessionState) (n' : ℕ) (text' : Transcript) (failed' : Bool) (r : Result (Unit {0}) AllocError) → failed' ≡ is_err r → state' ≡ Some d' → AddsSome (caller_of d.«open») (caller_of d'.«open») script n n' text text' → OnOk r (CarriesOut (caller_of d.«open») (caller_of d'.«open») script n n' text text') → n' ≤ length script → OnOk r (n' ≡ length script) → is_writing d'.«open» ≡ false → HasDone script state' n' text' failed'
  kept_by d d' n' text' failed' (Ok x) fails is' some c within all closed = subst (λ (o : Option SessionState). HasDone script o n' text' failed') (sym is') (has_added (caller_of d.«open») script n n' text text' d' failed' c.some (λ _. made_in_all (caller_of d.«open») (caller_of d'.«open») script n n' text text' c) within (λ _. all) (λ _. closed))
  kept_by d d' n' text' failed' (Err e) fails is' some c within all closed = subst (λ (o : Option SessionState). HasDone script o n' text' failed') (sym is') (has_added (caller_of d.«open») script n n' text text' d' failed' some (λ ok. not_both failed' fails ok) within (λ ok. not_both failed' fails ok) (λ _. closed))

-- ---- a step

-- one more commit can be told
pub room_kept : (script : List Line) (state : Option SessionState) (n : ℕ) (t : Transcript) (failed : Bool) → HasDone script state n t failed → n + 1 < 2 ^ 64 → t.commits + 1 < 2 ^ 64
room_kept script state n t failed h few =
    let p = caller_in state in
    room_for_one (cells_seen p) p.number script n t.commits h.replies h.client h.runs h.counted h.within few

-- a session that isn't finished, by its fields
pub unfinished_fields : (s : Progress) (client : ℕ) (script : List Line) (state : Option SessionState) (n : ℕ) (text : Transcript) (failed : Bool) → progress_of client script state n text failed ≡ s → IsUnfinished s → (failed ≡ false) × (n < length script)
unfinished_fields s client script state n text failed view_is unfinished = subst IsUnfinished (sym view_is) unfinished

pub was_stopped : {P : Type 0} (r : Result Bool AllocError) (e : AllocError) → r ≡ Err e → OnErr r P → P
was_stopped {P} r e is holds = subst (λ (x : Result Bool AllocError). OnErr x P) is holds

pub line_answered : (callers : ℕ) (l : Line) (d d' : SessionState) (text text' : Transcript) (r : Result Bool AllocError) (b : Bool) → r ≡ Ok b → b ≡ true → OnOk r (StepsLine callers l d d' text text' r) → AnswersLine l d d' text text' × HasDoneOnce l.command (caller_of d.«open») (caller_of d'.«open»)
line_answered callers l d d' text text' r b is so told = subst (λ (x : Result Bool AllocError). OnOk x (StepsLine callers l d d' text text' x)) (is ∙ ap Ok so) told

pub line_held_up : (callers : ℕ) (l : Line) (d d' : SessionState) (text text' : Transcript) (r : Result Bool AllocError) (b : Bool) → r ≡ Ok b → b ≡ false → OnOk r (StepsLine callers l d d' text text' r) → IsHeldUp callers l.command d d' × (text' ≡ text)
line_held_up callers l d d' text text' r b is so told = subst (λ (x : Result Bool AllocError). OnOk x (StepsLine callers l d d' text text' x)) (is ∙ ap Ok so) told

-- a line that is held up is still to do
module _ (client : ℕ) (script : List Line) (d d' : SessionState) (n : ℕ) (text text' : Transcript) (failed failed' : Bool) (so_far : SoFar script n d text) where
  sooner : Progress
  sooner = progress_of client script (Some d) n text failed

  later : Progress
  later = progress_of client script (Some d') n text' failed'

  waits : (w : WatchesCommand) → IsWaiting w d d' → Waits sooner later w
  unfolding sooner later
  waits w held = record {
    replies = so_far.replies;
    client = so_far.client;
    runs = let p = caller_of d.«open» in runs_of (cells_seen p) p.number at_start (take n script) so_far.replies so_far.client so_far.runs;
    written = so_far.written;
    stayed = held.quiet so_far.client so_far.follows;
    look = held.look;
    later = held.looks.later;
    tries = held.tries;
    own = held.looks.own;
  }

  pub blocked : (callers : ℕ) (c : Command) → HoldsUp callers c d d' → IsBlocked callers (progress_of client script (Some d) n text failed) (progress_of client script (Some d') n text' failed') c
  unfolding sooner later
  blocked callers (command.Transaction transaction_line.Read) held = absurd held
  blocked callers (command.Transaction transaction_line.Write) held = held
  blocked callers (command.Transaction transaction_line.End) held = absurd held
  blocked callers (command.Transaction transaction_line.Commit) held = absurd held
  blocked callers (command.Transaction transaction_line.Abort) held = absurd held
  blocked callers (command.Write w) held = absurd held
  blocked callers (command.Defer said) held = absurd held
  blocked callers (command.Ask a) held = absurd held
  blocked callers (command.Name n) held = absurd held
  blocked callers (command.Size set) held = absurd held
  blocked callers (command.Watches w) held = waits w held

module _ (s : Progress) (client : ℕ) (script : List Line) (state state' : Option SessionState) (n : ℕ) (text text' : Transcript) (failed : Bool) (d d' : SessionState) (view_is : progress_of client script state n text failed ≡ s) (is : state ≡ Some d) (is' : state' ≡ Some d') (h : HasDone script state n text failed) (unfinished : (failed ≡ false) × (n < length script)) where
  old : Caller
  old = caller_of d.«open»

  new : Caller
  new = caller_of d'.«open»

  here : CarriedOn old script n n text d text
  unfolding old
  here = from_here script n d text (goes_on script state n text failed d h is unfinished.0 unfinished.1)

  kept : (n' : ℕ) (failed' : Bool) → HasDone script (Some d') n' text' failed' → HasDone script state' n' text' failed'
  kept n' failed' done = subst (λ (o : Option SessionState). HasDone script o n' text' failed') (sym is') done

  module _ (callers : ℕ) (l : Line) (n' : ℕ) (failed' : Bool) (one : n' ≡ n + 1) (ok : failed' ≡ false) (there : slice_get script n ≡ Some l) (line : AnswersLine l d d' text text' × HasDoneOnce l.command (caller_of d.«open») (caller_of d'.«open»)) where
    on_next : CarriedOn old script n n' text d' text'
    unfolding old
    on_next = subst (λ (k : ℕ). CarriedOn old script n k text d' text') (sym one) (next old script n n d d' text text text' l there here line.0)

    carries_next : CarriesOut old new script n n' text text'
    unfolding old new
    carries_next = all_carried old new script n n' d' text text' refl on_next

    pub next_kept : HasDone script state' n' text' failed'
    unfolding old
    next_kept =
        let lt = unfinished.1 in
        kept n' failed' (has_carried old script n n' text text' d' failed' on_next (omega (arith, lt, one)) ok)

    pub next_told : Tells s (progress_of client script state' n' text' failed')
    unfolding old new
    next_told = some_told s client script state state' n text failed view_is d d' n' text' failed' is is' carries_next.some (λ _. made_in_all old new script n n' text text' carries_next)

    pub next_stepped : AnswersStep callers s (progress_of client script state' n' text' failed') (Ok (stepped.Answered l.number))
    unfolding old new
    next_stepped = (
      l,
      (subst (λ (x : Progress). slice_get x.script x.answered ≡ Some l) view_is there, refl),
      one ∙ ap (λ (x : Progress). x.answered + 1) view_is,
      all_answered s client script state state' n text failed view_is d d' n' text' failed' is is' carries_next,
      by_fields s client script state state' n text failed view_is (λ x y. HasDoneOnce l.command x.caller y.caller) d d' n' text' failed' is is' line.1,
    )

  -- nothing was answered, but the caller may have seen more
  seen_some : IsLater old new → text' ≡ text → AddsSome old new script n n text text'
  unfolding old new
  seen_some later same = kept_some old new script n n d text text text' later same here

  so_far : SoFar script n d text
  so_far = goes_on script state n text failed d h is unfinished.0 unfinished.1

  -- nor was a commit made
  made_before : (later : IsLater old new) (same : text' ≡ text) → new.own ≡ old.own → (let seen = seen_some later same in AreMade new (seen.before.replies ++ seen.adds.replies))
  unfolding old new here seen_some so_far
  made_before later same own = subst (AreMade new) (sym (nothing_added d new script n text text' later same so_far)) (made_still old new later so_far.replies so_far.made own)

  pub seen_told : (failed' : Bool) → (later : IsLater (caller_of d.«open») (caller_of d'.«open»)) → text' ≡ text → (failed' ≡ false → (caller_of d'.«open»).own ≡ (caller_of d.«open»).own) → Tells s (progress_of client script state' n text' failed')
  unfolding old new
  seen_told failed' later same own = some_told s client script state state' n text failed view_is d d' n text' failed' is is' (seen_some later same) (λ ok. made_before later same (own ok))

  pub seen_stopped : (l : Line) (failed' : Bool) → failed' ≡ true → slice_get script n ≡ Some l → IsLater (caller_of d.«open») (caller_of d'.«open») → text' ≡ text → is_writing d'.«open» ≡ false → StopsLine l d (caller_of d'.«open») → HasStopped s (progress_of client script state' n text' failed')
  unfolding old new
  seen_stopped l failed' fails there later same closed stops = some_stopped s client script state state' n text failed view_is d d' n text' failed' is is' fails closed (stops_here old new script n n d text text text' l there later same stops here)

  pub seen_kept : (failed' : Bool) → failed' ≡ true → IsLater (caller_of d.«open») (caller_of d'.«open») → text' ≡ text → is_writing d'.«open» ≡ false → HasDone script state' n text' failed'
  unfolding old new
  seen_kept failed' fails later same closed = kept n failed' (has_added old script n n text text' d' failed' (seen_some later same) (λ ok. cc) h.within (λ ok. cc) (λ _. closed))

  -- the line is still to do
  module _ (callers : ℕ) (l : Line) (failed' : Bool) (ok : failed' ≡ false) (same : text' ≡ text) (held : IsHeldUp callers l.command d d') where
    pub held_up_kept : HasDone script state' n text' failed'
    unfolding old
    held_up_kept =
        let on : CarriedOn old script n n text d' text = record { before = here.before; carried = seen_more old here.before.replies (take n script) d d' text here.carried held.looks held.snapshots held.watching } in
        kept n failed' (subst (λ (t : Transcript). HasDone script (Some d') n t failed') (sym same) (has_carried old script n n text text d' failed' on h.within ok))

    pub held_up_stepped : slice_get script n ≡ Some l → AnswersStep callers s (progress_of client script state' n text' failed') (Ok (stepped.Blocked l.number))
    held_up_stepped there = (
      l,
      (subst (λ (x : Progress). slice_get x.script x.answered ≡ Some l) view_is there, refl),
      by_fields s client script state state' n text failed view_is (λ x y. IsBlocked callers x y l.command) d d' n text' failed' is is' (blocked client script d d' n text text' failed failed' (goes_on script state n text failed d h is unfinished.0 unfinished.1) callers l.command held.why),
      by_fields s client script state state' n text failed view_is (λ x y. y ≡ record x { caller = y.caller }) d d' n text' failed' is is' (let looks = held.looks in λ i. with_writing (writes (looks.transaction i)) (progress_of client script (Some d') n (same i) (both i))),
    )
      where
        both : failed' ≡ failed
        both = ok ∙ sym unfinished.0
