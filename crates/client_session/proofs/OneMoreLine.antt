-- One more line of a script.
use Rattle.std.proofs.Common.{arith, ◌≡◌, ◌-◌, ◌≤◌, Option, refl, ap, subst, sym, ◌∙◌, ℕ, zero, suc, ◌+◌, List, [], ◌∷◌, ◌++◌, length, map, take, Some, None, Result, Ok, Err, OnErr, OnOk, false, true, slice_get, le_refl}
use Rattle.std.specs.Prelude.{is_err, option_map}
use Rattle.std.specs.BTreeMap.{get_by_text}
use Rattle.std.specs.List.{enumerate_from}
use Rattle.std.proofs.Math.Seq.{take-suc}
use Rattle.std.proofs.lemmas.List.{append-nil, append_assoc, length-append, map-append}
use Rattle.std.proofs.lemmas.Option.{slice_get_within, get_or_from_slice_get}
use Rattle.mdb_datum.specs.Bytes.{Bytes}
use Rattle.mdb_schema.specs.History.{Commit, History}
use Rattle.mdb_schema.specs.Schema.{DbSchema}
use Rattle.mem_txn.proofs.HeldAlong.{prefix_twice}
use Rattle.mem_txn.specs.CellHistory.{CellHistory, Forest}
use Rattle.mem_txn.specs.Checked.{IsBeginning}
use Rattle.mem_txn.specs.Database.{Caller, Database, IsOf, cells_seen}
use Rattle.client_script.proofs.LongerHistory.{start_within}
use Rattle.client_session.specs.Counts.{AreAmong, counts_told, count_told}
use Rattle.client_script.specs.Client.{Client, at_start, nothing_watched}
use Rattle.client_script.specs.Legal.{callers, printed, number_printed}
use Rattle.client_script.specs.Reply.{Reply, line_text, lines_text}
use Rattle.client_script.specs.Session.{Answers}
use Rattle.client_script.specs.declared.line.Line.{Line}
use Rattle.std.specs.declared.alloc.AllocError.{AllocError}
use Rattle.client_session.proofs.CellsTold.{runs_by_more, runs_on}
use Rattle.client_session.proofs.ToldCounts.{among_append, among_more, counts_more}
use Rattle.client_session.proofs.FollowsOn.{follows_longer}
use Rattle.client_session.proofs.OpenTurns.{beginning_later, later_self}
use Rattle.client_session.specs.Cells.{RunsByCells}
use Rattle.client_session.specs.Answered.{AreRising, IsLater, IsUntold, commit_at}
use Rattle.client_session.specs.declared.session_state.SessionState.{SessionState}
use Rattle.client_session.specs.declared.open.Open.TheVariants as opens
use Rattle.client_session.specs.declared.any_snapshot.AnySnapshot.{AnySnapshot}
use Rattle.client_session.specs.declared.named.Named.{Named}
use Rattle.client_session.specs.declared.watching.Watching.{Watching}
use Rattle.client_session.specs.inner.SnapshotView.{snapshot_view}
use Rattle.client_session.specs.inner.Carried.{Adds, AddsSome, AnswersLine, Carried, CarriedOn, CarriesOut, IsOfCommit, SoFar, Stops, StopsLine}
use Rattle.client_session.specs.inner.StateView.{Follows, IsSnapshotOf, Replied}
use Rattle.client_session.specs.inner.OpenView.{Looks, caller_of, transaction_of, made}
use Rattle.client_session.specs.inner.Transcript.{Transcript}
use Rattle.client_session.specs.inner.WatchingView.{Holds, Knows}

-- the texts of lines, one more
lines_more : (J : CellHistory) (n : ℕ) (v : Client) (ls : List Line) (rs : List Reply) (end : Client) (l : Line) (r : Reply) → RunsByCells J n v ls rs end → lines_text (ls ++ l ∷ []) (rs ++ r ∷ []) ≡ lines_text ls rs ++ line_text l.number r
lines_more J n v [] [] end l r runs = append-nil (line_text l.number r)
lines_more J n v [] (x ∷ rs) end l r runs = absurd runs
lines_more J n v (x ∷ ls) [] end l r runs = absurd runs
lines_more J n v (x ∷ ls) (y ∷ rs) end l r (next, a, told, runs) = ap (λ (b : Bytes). line_text x.number y ++ b) (lines_more J n next ls rs end l r runs) ∙ sym (append_assoc (line_text x.number y) (lines_text ls rs) (line_text l.number r))

printed_more : (rs : List Reply) (r : Reply) → printed (rs ++ r ∷ []) ≡ printed rs ++ number_printed r
printed_more [] r = append-nil (number_printed r)
printed_more (x ∷ rs) r = ap (λ (ms : List ℕ). number_printed x ++ ms) (printed_more rs r) ∙ sym (append_assoc (number_printed x) (printed rs) (number_printed r))

-- ---- the numbers of the commits that were told

pub told_longer : (H more : History) (ms : List ℕ) (cs : List Commit) → map (commit_at H) ms ≡ map Some cs → map (commit_at (H ++ more)) ms ≡ map Some cs
told_longer H more [] [] told = refl
told_longer H more [] (c ∷ cs) told = cc
told_longer H more (m ∷ ms) [] told = cc
told_longer H more (m ∷ ms) (c ∷ cs) told =
    let here : slice_get H (m - 1) ≡ Some c = cc in
    let rest : map (commit_at H) ms ≡ map Some cs = cc in
    ap (λ (o : Option Commit). o ∷ map (commit_at (H ++ more)) ms) (there_longer H more (m - 1) c here)
    ∙ ap (λ (os : List (Option Commit)). Some c ∷ os) (told_longer H more ms cs rest)
  where
    there_longer : (H more : History) (k : ℕ) (c : Commit) → slice_get H k ≡ Some c → slice_get (H ++ more) k ≡ Some c
    there_longer [] more k c there = cc
    there_longer (x ∷ H) more zero c there = there
    there_longer (x ∷ H) more (suc k) c there = there_longer H more k c there

pub rising_wider : (low high high' : ℕ) (ms : List ℕ) → high ≤ high' → AreRising low ms high → AreRising low ms high'
rising_wider low high high' [] le rising = omega (arith, le, rising)
rising_wider low high high' (m ∷ ms) le rising = (rising.0, rising_wider m high high' ms le rising.1)

rising_more : (low high : ℕ) (ms : List ℕ) → AreRising low ms high → AreRising low (ms ++ (high + 1) ∷ []) (high + 1)
rising_more low high [] rising = (omega (arith, rising), omega arith)
rising_more low high (m ∷ ms) rising = (rising.0, rising_more m high ms rising.1)

number_first : List (ℕ × ℕ) → ℕ
number_first [] = 0
number_first (p ∷ ps) = p.0

behind_first : List (ℕ × ℕ) → List (ℕ × ℕ)
behind_first [] = []
behind_first (p ∷ ps) = ps

last_at : (H : History) (c : Commit) (cs : List Commit) → commit_at (H ++ c ∷ cs) (length H + 1) ≡ Some c
last_at H c cs = ap (slice_get (H ++ c ∷ cs)) (before (length H)) ∙ behind H
  where
    before : (n : ℕ) → n + 1 - 1 ≡ n
    before n = omega arith

    behind : (H : History) → slice_get (H ++ c ∷ cs) (length H) ≡ Some c
    behind [] = refl
    behind (x ∷ H) = behind H

-- commits that have the next numbers are the next of the list
made_told : (H : History) (cs : List Commit) (ms : List ℕ) (n : ℕ) → map (λ m. (m, n)) ms ≡ enumerate_from (length H + 1) (callers cs) → map (commit_at (H ++ cs)) ms ≡ map Some cs
unfolding number_first behind_first
made_told H [] [] n e = refl
made_told H [] (m ∷ ms) n e = cc
made_told H (c ∷ cs) [] n e = cc
made_told H (c ∷ cs) (m ∷ ms) n e =
    let here : m ≡ length H + 1 = ap number_first e in
    let rest : map (λ m. (m, n)) ms ≡ enumerate_from (length H + 1 + 1) (callers cs) = ap behind_first e in
    let more = made_told (H ++ c ∷ []) cs ms n (rest ∙ ap (λ (k : ℕ). enumerate_from (k + 1) (callers cs)) (sym (length-append H (c ∷ [])))) in
    let all : map (commit_at (H ++ c ∷ cs)) ms ≡ map Some cs = subst (λ (G : History). map (commit_at G) ms ≡ map Some cs) (append_assoc H (c ∷ []) cs) more in
    ap (λ (o : Option Commit). o ∷ map (commit_at (H ++ c ∷ cs)) ms) (ap (commit_at (H ++ c ∷ cs)) here ∙ last_at H c cs)
    ∙ ap (λ (os : List (Option Commit)). Some c ∷ os) all

made_rising : (H : History) (cs : List Commit) (ms : List ℕ) (n low : ℕ) (before : List ℕ) → map (λ m. (m, n)) ms ≡ enumerate_from (length H + 1) (callers cs) → AreRising low before (length H) → AreRising low (before ++ ms) (length (H ++ cs))
unfolding number_first behind_first
made_rising H [] [] n low before e rising = subst (λ (ms : List ℕ). AreRising low ms (length (H ++ []))) (sym (append-nil before)) (subst (λ (G : History). AreRising low before (length G)) (sym (append-nil H)) rising)
made_rising H [] (m ∷ ms) n low before e rising = cc
made_rising H (c ∷ cs) [] n low before e rising = cc
made_rising H (c ∷ cs) (m ∷ ms) n low before e rising =
    let here : length H + 1 ≡ m = sym (ap number_first e) in
    let rest : map (λ m. (m, n)) ms ≡ enumerate_from (length H + 1 + 1) (callers cs) = ap behind_first e in
    let long : length H + 1 ≡ length (H ++ c ∷ []) = sym (length-append H (c ∷ [])) in
    let one : AreRising low (before ++ m ∷ []) (length (H ++ c ∷ [])) = subst (λ (k : ℕ). AreRising low (before ++ m ∷ []) k) long (subst (λ (k : ℕ). AreRising low (before ++ k ∷ []) (length H + 1)) here (rising_more low (length H) before rising)) in
    let more = made_rising (H ++ c ∷ []) cs ms n low (before ++ m ∷ []) (rest ∙ ap (λ (k : ℕ). enumerate_from (k + 1) (callers cs)) long) one in
    subst (λ (ns : List ℕ). AreRising low ns (length (H ++ c ∷ cs))) (append_assoc before (m ∷ []) ms) (subst (λ (G : History). AreRising low ((before ++ m ∷ []) ++ ms) (length G)) (append_assoc H (c ∷ []) cs) more)

-- ---- a caller that has seen more

pub later_again : (p q r : Caller) → IsLater p q → IsLater q r → IsLater p r
later_again p q r one two = record {
  number = two.number ∙ one.number;
  database = two.database ∙ one.database;
  schema = two.schema ∙ one.schema;
  book = two.book ∙ one.book;
  trees = prefix_twice p.trees q.trees r.trees one.trees two.trees;
  seen = prefix_twice p.seen q.seen r.seen one.seen two.seen;
  counts = prefix_twice p.counts q.counts r.counts one.counts two.counts;
  tries = prefix_twice p.tries q.tries r.tries one.tries two.tries;
  log = (two.log.0 ∙ one.log.0, prefix_twice p.log.fired q.log.fired r.log.fired one.log.1 two.log.1);
}

module _ (pass : Caller) (before : List Reply) (done : List Line) (d at : SessionState) (now : Transcript) (carried : Carried pass before done d now) (looks : Looks d.«open» at.«open») (same : at.snapshots ≡ d.snapshots) (watching : at.watching ≡ d.watching) where
  old : Caller
  old = caller_of d.«open»

  more : History
  more = looks.later.seen.0

  seen_is : old.seen ++ more ≡ (caller_of at.«open»).seen
  unfolding old more
  seen_is = looks.later.seen.1

  as_long : length old.seen ≤ length (caller_of at.«open»).seen
  as_long = let n = length-append old.seen more in let e = ap length seen_is in omega (arith, n, e)

  pub seen_more : Carried pass before done at now
  unfolding old more
  seen_more = record {
    replies = carried.replies;
    client = carried.client;
    runs = runs_on old (caller_of at.«open») (beginning_later old (caller_of at.«open») looks.later) pass.number done (before ++ carried.replies) carried.client carried.runs;
    follows = follows_longer d at carried.client looks same watching carried.follows;
    written = carried.written;
    counted = carried.counted;
    later = later_again pass old (caller_of at.«open») carried.later looks.later;
    made = carried.made;
    own = looks.own ∙ carried.own;
    told = subst (λ (H : History). map (commit_at H) (printed carried.replies) ≡ map Some carried.made) seen_is (told_longer old.seen more (printed carried.replies) carried.made carried.told);
    rising = rising_wider (length pass.seen) (length old.seen) (length (caller_of at.«open»).seen) (printed carried.replies) as_long carried.rising;
    read = carried.read ++ looks.read;
    counts = looks.counts ∙ ap (λ (ns : List ℕ). ns ++ looks.read) carried.counts ∙ append_assoc pass.counts carried.read looks.read;
    loads = among_more (counts_told carried.replies) carried.read looks.read carried.loads;
  }

module _ (pass : Caller) (before : List Reply) (done : List Line) (d d' : SessionState) (now after : Transcript) (l : Line) (r : Reply) (carried : Carried pass before done d now) (step : Replied l.command d d' r carried.client) (written : after.text ≡ now.text ++ line_text l.number r) (counted : after.commits ≡ now.commits + length (number_printed r)) (loads : AreAmong (counts_told carried.replies ++ count_told r) carried.read) where
  p : Caller
  p = caller_of d.«open»

  new : History
  new = made p.number (transaction_of d.«open») r

  trees : List Forest
  trees = step.grows.0

  grown : caller_of d'.«open» ≡ record p { seen = p.seen ++ new; trees = p.trees ++ trees; own = p.own ++ new; log = (caller_of d'.«open»).log }
  unfolding p new trees
  grown = step.grows.1

  -- the replies so far, and this one
  all_replies : (before ++ carried.replies) ++ r ∷ [] ≡ before ++ (carried.replies ++ r ∷ [])
  all_replies = append_assoc before carried.replies (r ∷ [])

  begins : IsBeginning p (caller_of d'.«open»)
  unfolding p new trees
  begins = record {
    schema = ap (λ (q : Caller). q.schema) grown;
    book = ap (λ (q : Caller). q.book) grown;
    seen = (new, sym (ap (λ (q : Caller). q.seen) grown));
    trees = (trees, sym (ap (λ (q : Caller). q.trees) grown));
  }

  answers : Answers (caller_of d'.«open»).schema (caller_of d'.«open»).seen pass.number carried.client l.command r step.next
  unfolding p
  answers =
      subst (λ (s : DbSchema). Answers s (caller_of d'.«open»).seen pass.number carried.client l.command r step.next) (sym begins.schema)
      (subst (λ (n : ℕ). Answers p.schema (caller_of d'.«open»).seen n carried.client l.command r step.next) carried.later.number step.answers)

  runs_more_line : RunsByCells (cells_seen (caller_of d'.«open»)) pass.number at_start (done ++ l ∷ []) (before ++ (carried.replies ++ r ∷ [])) step.next
  unfolding p
  runs_more_line =
      subst (λ (rs : List Reply). RunsByCells (cells_seen (caller_of d'.«open»)) pass.number at_start (done ++ l ∷ []) rs step.next) all_replies
      (runs_by_more (cells_seen (caller_of d'.«open»)) pass.number at_start done (before ++ carried.replies) carried.client step.next l r
      (runs_on p (caller_of d'.«open») begins pass.number done (before ++ carried.replies) carried.client carried.runs)
      answers step.cells)

  later_more : IsLater pass (caller_of d'.«open»)
  unfolding p new
  later_more = later_again pass p (caller_of d'.«open») carried.later (record {
    number = ap (λ (q : Caller). q.number) grown;
    database = ap (λ (q : Caller). q.database) grown;
    schema = ap (λ (q : Caller). q.schema) grown;
    book = ap (λ (q : Caller). q.book) grown;
    seen = (new, sym (ap (λ (q : Caller). q.seen) grown));
    trees = (trees, sym (ap (λ (q : Caller). q.trees) grown));
    counts = ([], append-nil p.counts ∙ sym (ap (λ (q : Caller). q.counts) grown));
    tries = ([], append-nil p.tries ∙ sym (ap (λ (q : Caller). q.tries) grown));
    log = step.grows.2;
  })

  pub one_more : Carried pass before (done ++ l ∷ []) d' after
  unfolding p new
  one_more = record {
    replies = carried.replies ++ r ∷ [];
    client = step.next;
    runs = runs_more_line;
    follows = step.follows;
    written =
        written
        ∙ ap (λ (b : Bytes). b ++ line_text l.number r) carried.written
        ∙ sym (lines_more (cells_seen p) pass.number at_start done (before ++ carried.replies) carried.client l r carried.runs)
        ∙ ap (lines_text (done ++ l ∷ [])) all_replies;
    counted =
        counted
        ∙ ap (λ (n : ℕ). n + length (number_printed r)) carried.counted
        ∙ sym (length-append (printed (before ++ carried.replies)) (number_printed r))
        ∙ sym (ap length (printed_more (before ++ carried.replies) r))
        ∙ ap (λ (rs : List Reply). length (printed rs)) all_replies;
    later = later_more;
    made = carried.made ++ new;
    own = ap (λ (q : Caller). q.own) grown ∙ ap (λ (cs : List Commit). cs ++ new) carried.own ∙ append_assoc pass.own carried.made new;
    told =
        ap (map (commit_at (caller_of d'.«open»).seen)) (printed_more carried.replies r)
        ∙ ap (λ (H : History). map (commit_at H) (printed carried.replies ++ number_printed r)) (ap (λ (q : Caller). q.seen) grown)
        ∙ map-append (commit_at (p.seen ++ new)) (printed carried.replies) (number_printed r)
        ∙ ap (λ (os : List (Option Commit)). os ++ map (commit_at (p.seen ++ new)) (number_printed r)) (told_longer p.seen new (printed carried.replies) carried.made carried.told)
        ∙ ap (λ (os : List (Option Commit)). map Some carried.made ++ os) (made_told p.seen new (number_printed r) p.number step.numbered)
        ∙ sym (map-append Some carried.made new);
    rising = subst (λ (ms : List ℕ). AreRising (length pass.seen) ms (length (caller_of d'.«open»).seen)) (sym (printed_more carried.replies r)) (subst (λ (q : Caller). AreRising (length pass.seen) (printed carried.replies ++ number_printed r) (length q.seen)) (sym grown) (made_rising p.seen new (number_printed r) p.number (length pass.seen) (printed carried.replies) step.numbered carried.rising));
    read = carried.read;
    counts = ap (λ (q : Caller). q.counts) grown ∙ carried.counts;
    loads = subst (λ (ns : List ℕ). AreAmong ns carried.read) (sym (counts_more carried.replies r)) loads;
  }

-- ---- the loop over the lines

-- a state at the start of a session
pub first : (pass : Caller) (snaps : Named AnySnapshot) (g : Watching) → ((name : Bytes) → get_by_text snaps.kept name ≡ None) → Knows pass g nothing_watched → Holds pass g → Follows (record { «open» = opens.Nothing pass; snapshots = snaps; watching = g }) at_start
first pass snaps g none knows holds = record {
  transaction = refl;
  last = search (arith);
  within = start_within (length pass.seen);
  snapshots = λ name. ap (option_map snapshot_view) (none name);
  kept = λ name. subst (λ (k : Option AnySnapshot). IsSnapshotOf pass k None) (sym (none name)) tt;
  knows = knows;
  holds = holds;
  stands = tt;
}

-- nothing is carried out yet of what is left
pub from_here : (script : List Line) (at : ℕ) (d : SessionState) (text : Transcript) → SoFar script at d text → CarriedOn (caller_of d.«open») script at at text d text
from_here script at d text so_far =
    let pass = caller_of d.«open» in
    let none : so_far.replies ≡ so_far.replies ++ [] = sym (append-nil so_far.replies) in
    record {
      before = record { replies = so_far.replies; client = so_far.client; runs = so_far.runs; written = so_far.written; counted = so_far.counted; made = so_far.made };
      carried = record {
        replies = [];
        client = so_far.client;
        runs = subst (λ (rs : List Reply). RunsByCells (cells_seen pass) pass.number at_start (take at script) rs so_far.client) none so_far.runs;
        follows = so_far.follows;
        written = so_far.written ∙ ap (lines_text (take at script)) none;
        counted = so_far.counted ∙ ap (λ (rs : List Reply). length (printed rs)) none;
        later = later_self pass;
        made = [];
        own = sym (append-nil pass.own);
        told = refl;
        rising = le_refl (length pass.seen);
        read = [];
        counts = sym (append-nil pass.counts);
        loads = tt;
      };
    }

one_more_is : (n : ℕ) → n + 1 ≡ suc n
one_more_is n = search (arith)

line_more : (pass : Caller) (before : List Reply) (done : List Line) (d d' : SessionState) (now after : Transcript) (l : Line) → Carried pass before done d now → AnswersLine l d d' now after → Carried pass before (done ++ l ∷ []) d' after
unfolding seen_more
line_more pass before done d d' now after l carried line =
    let more = seen_more pass before done d line.replies.at now carried line.replies.looks line.replies.snapshots line.replies.watching in
    one_more pass before done line.replies.at d' now after l line.reply more (line.replies.replied carried.client carried.follows more.follows) line.written line.counted
    (among_append (counts_told carried.replies) (count_told line.reply) carried.read line.replies.looks.read carried.loads (line.replies.loads carried.client more.follows))

pub next : (pass : Caller) (lines : List Line) (from at : ℕ) (d d' : SessionState) (text now after : Transcript) (l : Line) → slice_get lines at ≡ Some l → CarriedOn pass lines from at text d now → AnswersLine l d d' now after → CarriedOn pass lines from (at + 1) text d' after
next pass lines from at d d' text now after l there c line = record {
  before = c.before;
  carried = subst (λ (done : List Line). Carried pass c.before.replies done d' after) (grown there) (line_more pass c.before.replies (take at lines) d d' now after l c.carried line);
}
  where
    grown : slice_get lines at ≡ Some l → take at lines ++ l ∷ [] ≡ take (at + 1) lines
    grown e = sym (ap (λ (n : ℕ). take n lines) (one_more_is at) ∙ take-suc lines at l (slice_get_within lines at l e) ∙ ap (λ (x : Line). take at lines ++ x ∷ []) (get_or_from_slice_get lines at l l e))

-- what is kept when the caller has seen more
kept_lines : (pass new : Caller) (before : List Reply) (lines : List Line) (d : SessionState) (now after : Transcript) → IsLater (caller_of d.«open») new → after ≡ now → Carried pass before lines d now → Adds pass new before lines after
kept_lines pass new before lines d now after later same c =
    let p = caller_of d.«open» in
    let more = later.counts in
    record {
      replies = c.replies;
      client = c.client;
      runs = runs_on p new (beginning_later p new later) pass.number lines (before ++ c.replies) c.client c.runs;
      written = ap (λ (t : Transcript). t.text) same ∙ c.written;
      counted = ap (λ (t : Transcript). t.commits) same ∙ c.counted;
      later = later_again pass p new c.later later;
      read = c.read ++ more.0;
      counts = sym more.1 ∙ ap (λ (ns : List ℕ). ns ++ more.0) c.counts ∙ append_assoc pass.counts c.read more.0;
      loads = among_more (counts_told c.replies) c.read more.0 c.loads;
    }

pub kept_some : (pass new : Caller) (script : List Line) (from to : ℕ) (d : SessionState) (text now after : Transcript) → IsLater (caller_of d.«open») new → after ≡ now → CarriedOn pass script from to text d now → AddsSome pass new script from to text after
kept_some pass new script from to d text now after later same c = record { before = c.before; adds = kept_lines pass new c.before.replies (take to script) d now after later same c.carried }

-- where nothing was carried out yet, the replies are those before
pub nothing_added : (d : SessionState) (new : Caller) (script : List Line) (at : ℕ) (text after : Transcript) (later : IsLater (caller_of d.«open») new) (same : after ≡ text) (so_far : SoFar script at d text)
    → (let kept = kept_some (caller_of d.«open») new script at at d text text after later same (from_here script at d text so_far) in kept.before.replies ++ kept.adds.replies ≡ so_far.replies)
unfolding from_here kept_lines kept_some
nothing_added d _ script at text after later same so_far = append-nil so_far.replies

-- and the next line, which found no memory, may have made a commit that is untold
untold_here : (script : List Line) (at : ℕ) (l : Line) (cs : List Commit) → slice_get script at ≡ Some l → IsOfCommit l.command cs → IsUntold script at cs
untold_here script at l [] there one = tt
untold_here script at l (c ∷ []) there one = (l, there, one)
untold_here script at l (c ∷ d ∷ cs) there one = absurd one

pub stops_here : (pass new : Caller) (script : List Line) (from at : ℕ) (d : SessionState) (text now after : Transcript) (l : Line) → slice_get script at ≡ Some l → IsLater (caller_of d.«open») new → after ≡ now → StopsLine l d new → CarriedOn pass script from at text d now → Stops pass new script from at text after
unfolding kept_lines kept_some
stops_here pass new script from at d text now after l there later same stops on =
    let c = on.carried in
    let p = caller_of d.«open» in
    let line = stops c.client c.follows in
    let long = length-append p.seen later.seen.0 in
    let whole = ap length later.seen.1 in
    record {
      some = kept_some pass new script from at d text now after later same on;
      made = c.made;
      untold = line.made;
      own = line.own ∙ ap (λ (cs : List Commit). cs ++ line.made) c.own ∙ append_assoc pass.own c.made line.made;
      told = subst (λ (H : History). map (commit_at H) (printed c.replies) ≡ map Some c.made) later.seen.1 (told_longer p.seen later.seen.0 (printed c.replies) c.made c.told);
      rising = rising_wider (length pass.seen) (length p.seen) (length new.seen) (printed c.replies) (omega (arith, long, whole)) c.rising;
      last = untold_here script at l line.made there line.one;
    }

pub stopped_err : (pass p back : Caller) (script : List Line) (from to : ℕ) (text after : Transcript) (r : Result (Unit {0}) AllocError) → back ≡ p → OnErr r (Stops pass p script from to text after) → OnErr r (Stops pass back script from to text after)
stopped_err pass p back script from to text after r is stops = subst (λ (q : Caller). OnErr r (Stops pass q script from to text after)) (sym is) stops

-- and the pass is back
pub all_carried : (pass back : Caller) (script : List Line) (from to : ℕ) (d : SessionState) (text after : Transcript) → back ≡ caller_of d.«open» → CarriedOn pass script from to text d after → CarriesOut pass back script from to text after
all_carried pass back script from to d text after is carried = subst (λ (p : Caller). CarriesOut pass p script from to text after) (sym is) (of carried)
  where
    of : CarriedOn pass script from to text d after → CarriesOut pass (caller_of d.«open») script from to text after
    of on =
        let c = on.carried in
        record {
          some = record {
            before = on.before;
            adds = record { replies = c.replies; client = c.client; runs = c.runs; written = c.written; counted = c.counted; later = c.later; read = c.read; counts = c.counts; loads = c.loads };
          };
          made = c.made;
          own = c.own;
          told = c.told;
          rising = c.rising;
        }

pub carried_ok : (pass back : Caller) (script : List Line) (from to : ℕ) (d : SessionState) (text after : Transcript) (r : Result (Unit {0}) AllocError) → back ≡ caller_of d.«open» → OnOk r (CarriedOn pass script from to text d after) → OnOk r (CarriesOut pass back script from to text after)
carried_ok pass back script from to d text after (Ok x) is carried = all_carried pass back script from to d text after is carried
carried_ok pass back script from to d text after (Err e) is carried = tt

-- a pass that has seen more is of the same database
pub own_later : (db : Database) (p q : Caller) → IsOf db p → IsLater p q → IsOf db q
own_later db p q own later = (later.database ∙ own.0, later.schema ∙ own.1, later.book ∙ own.2)

-- and holds what is watched
pub holds_now : (pass : Caller) (script : List Line) (from at : ℕ) (d : SessionState) (text now : Transcript) → CarriedOn pass script from at text d now → Holds (caller_of d.«open») d.watching
holds_now pass script from at d text now on = let c = on.carried in let follows = c.follows in follows.holds

pub was_ok : {P : Type 0} (r : Result (Unit {0}) AllocError) → is_err r ≡ false → OnOk r P → P
was_ok (Ok x) ok holds = holds
was_ok (Err e) ok holds = cc

pub was_err : {P : Type 0} (r : Result (Unit {0}) AllocError) → is_err r ≡ true → OnErr r P → P
was_err (Ok x) err holds = cc
was_err (Err e) err holds = holds
