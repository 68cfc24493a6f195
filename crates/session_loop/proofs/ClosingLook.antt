-- The closing look, session by session and watch by watch.
use Rattle.std.proofs.Common.{arith, ◌≡◌, ◌∙◌, refl, sym, ap, subst, ℕ, zero, suc, ◌+◌, ◌<◌, ◌++◌, Bool, true, false, List, [], ◌∷◌, drop, length, get_or, Option, Some, None}
use Rattle.std.specs.Prelude.{if◌then◌else◌, not, option_map, slice_get}
use Rattle.std.proofs.lemmas.Option.{slice_get_read}
use Rattle.std.proofs.Math.Seq.{drop-length}
use Rattle.std.proofs.lemmas.Bool.{not-false, not-true}
use Rattle.client_script.specs.Client.{Watch}
use Rattle.client_session.specs.Progress.{Progress}
use Rattle.client_session.specs.Waiting.{AreWatchesOf, WaitsFor}
use Rattle.mem_txn.specs.Database.{Caller, Database}
use Rattle.mem_txn.specs.Held.{HeldWatch}
use Rattle.run_io.proofs.ScriptsInOrder.{drop_next}
use Rattle.watch_future.specs.Cells.{AreOfBook, cell_of, cells_of, has_any}
use Rattle.watch_set.specs.Checks.{with_until}
use Rattle.watch_set.specs.Members.{Member, watches_of}
use Rattle.watch_word.proofs.Keys.{has_none}
use Rattle.watch_word.specs.Logs.{Cell, IsLater, Log, has_fired}
use Rattle.session_loop.specs.declared.task.State.{State}
use Rattle.session_loop.specs.declared.task.State.TheVariants as state
use Rattle.session_loop.specs.declared.task.Task.{Task}
use Rattle.session_loop.specs.inner.Awake.{CanGoOn, HasOneFired, OneCanGoOn}
use Rattle.session_loop.specs.inner.Halted.{HasHalted, HaveHalted}
use Rattle.session_loop.specs.inner.Rest.{AreAtRest, IsAtRest, NoneFired, done}
use Rattle.session_loop.specs.inner.Tasks.{AreInLoop, IsDone, StandsAt, states_of}

-- ---- watches

pub unfired : (h : HeldWatch) (w : Cell) (old new : Log) (fired : Bool) → w ≡ cell_of h → IsLater old new → fired ≡ has_fired w new → not fired ≡ true → has_fired (cell_of h) old ≡ false
unfired h w old new fired same later told none =
    has_none (cell_of h).key old.fired new.fired later.1 (ap (λ (x : Cell). has_fired x new) (sym same) ∙ sym told ∙ not-true fired none)

item_at : {A : Type 0} (xs : List A) (k : ℕ) → k < length xs → (x : A) × (slice_get xs k ≡ Some x) × (x ≡ get_or xs k x)
item_at [] k within = absurd (omega arith)
item_at (y ∷ ys) zero within = (y, refl, refl)
item_at (y ∷ ys) (suc k) within = item_at ys k (omega arith)

pub quiet_next : (log : Log) (ms : List Member) (k : ℕ) → k < length ms → ((m : Member) → slice_get ms k ≡ Some m → has_fired (cell_of m.held) log ≡ false)
    → (NoneFired log (watches_of (drop k ms)) → NoneFired log (watches_of ms)) → NoneFired log (watches_of (drop (k + 1) ms)) → NoneFired log (watches_of ms)
quiet_next log ms k within quiet so rest =
    let at = item_at ms k within in
    so (subst (λ (xs : List Member). NoneFired log (watches_of xs)) (sym (drop_next ms k at.0 within at.2)) (quiet at.0 at.1, rest))

quiet-after : (log : Log) (hs : List HeldWatch) (h : HeldWatch) → NoneFired log hs → has_fired (cell_of h) log ≡ false → NoneFired log (hs ++ h ∷ [])
quiet-after log [] h none last = (last, tt)
quiet-after log (x ∷ xs) h none last = (none.0, quiet-after log xs h none.1 last)

pub quiet_both : (log : Log) (hs : List HeldWatch) (until : Option HeldWatch) (h : HeldWatch) → until ≡ Some h → NoneFired log hs → has_fired (cell_of h) log ≡ false → NoneFired log (with_until hs until)
quiet_both log hs until h is none last = subst (λ (u : Option HeldWatch). NoneFired log (with_until hs u)) (sym is) (quiet-after log hs h none last)

pub not_there : (ms : List Member) (k : ℕ) → k < length ms → None ≡ option_map (λ (m : Member). m.held) (slice_get ms k) → ⊥
not_there [] k within is = absurd (omega arith)
not_there (m ∷ ms) zero within is = absurd (cc is)
not_there (m ∷ ms) (suc k) within is = not_there ms k (omega arith) is

-- ---- what has fired since

any_first : (c : Cell) (cs : List Cell) (log : Log) → has_fired c log ≡ true → has_any (c ∷ cs) log ≡ true
any_first c cs log is = ap (λ (b : Bool). if b then true else has_any cs log) is

any_next : (c : Cell) (cs : List Cell) (log : Log) → has_any cs log ≡ true → has_any (c ∷ cs) log ≡ true
any_next c cs log is = by_first (has_fired c log)
  where
    by_first : (b : Bool) → (if b then true else has_any cs log) ≡ true
    by_first true = refl
    by_first false = is

only_one : (c : Cell) (log : Log) → has_any (c ∷ []) log ≡ true → has_fired c log ≡ true
only_one c log is = by_first (has_fired c log) is
  where
    by_first : (b : Bool) → (if b then true else false) ≡ true → b ≡ true
    by_first true e = refl
    by_first false e = e

any_member : (ms : List Member) (k : ℕ) (h : HeldWatch) (log : Log) → Some h ≡ option_map (λ (m : Member). m.held) (slice_get ms k) → has_fired (cell_of h) log ≡ true → has_any (cells_of (watches_of ms)) log ≡ true
any_member [] k h log is fired = absurd (cc is)
any_member (m ∷ ms) zero h log is fired =
    let same : h ≡ m.held = cc in
    any_first (cell_of m.held) (cells_of (watches_of ms)) log (ap (λ (x : HeldWatch). has_fired (cell_of x) log) (sym same) ∙ fired)
any_member (m ∷ ms) (suc k) h log is fired = any_next (cell_of m.held) (cells_of (watches_of ms)) log (any_member ms k h log is fired)

any-before : (hs : List HeldWatch) (h : HeldWatch) (log : Log) → has_any (cells_of hs) log ≡ true → has_any (cells_of (hs ++ h ∷ [])) log ≡ true
any-before [] h log is = absurd (cc is)
any-before (x ∷ xs) h log is = by_first (has_fired (cell_of x) log) is (any-before xs h log)
  where
    by_first : (b : Bool) → (if b then true else has_any (cells_of xs) log) ≡ true → (has_any (cells_of xs) log ≡ true → has_any (cells_of (xs ++ h ∷ [])) log ≡ true) → (if b then true else has_any (cells_of (xs ++ h ∷ [])) log) ≡ true
    by_first true e rest = refl
    by_first false e rest = rest e

any-last : (hs : List HeldWatch) (h : HeldWatch) (log : Log) → has_any (cells_of (h ∷ [])) log ≡ true → has_any (cells_of (hs ++ h ∷ [])) log ≡ true
any-last [] h log is = is
any-last (x ∷ xs) h log is = any_next (cell_of x) (cells_of (xs ++ h ∷ [])) log (any-last xs h log is)

pub fired_since : (h : HeldWatch) (w : Cell) (old new : Log) (fired : Bool) → w ≡ cell_of h → IsLater old new → fired ≡ has_fired w new → not fired ≡ false → HasOneFired old (h ∷ [])
fired_since h w old new fired same later told moved = record {
  now = new;
  later = later;
  fired = any_first (cell_of h) [] new (ap (λ (x : Cell). has_fired x new) (sym same) ∙ sym told ∙ not-false fired moved);
}

pub member_fired : (log : Log) (ms : List Member) (k : ℕ) (h : HeldWatch) → Some h ≡ option_map (λ (m : Member). m.held) (slice_get ms k) → HasOneFired log (h ∷ []) → HasOneFired log (watches_of ms)
member_fired log ms k h is one = record { now = one.now; later = one.later; fired = any_member ms k h one.now is (only_one (cell_of h) one.now one.fired) }

pub set_fired : (log : Log) (hs : List HeldWatch) (until : Option HeldWatch) → HasOneFired log hs → HasOneFired log (with_until hs until)
set_fired log hs None one = one
set_fired log hs (Some h) one = record { now = one.now; later = one.later; fired = any-before hs h one.now one.fired }

pub until_fired : (log : Log) (hs : List HeldWatch) (until : Option HeldWatch) (h : HeldWatch) → until ≡ Some h → HasOneFired log (h ∷ []) → HasOneFired log (with_until hs until)
until_fired log hs until h is one =
    subst (λ (u : Option HeldWatch). HasOneFired log (with_until hs u)) (sym is)
    (record { now = one.now; later = one.later; fired = any-last hs h one.now one.fired })

-- ---- whose cells they are

of-book-last : (log : Log) (hs : List HeldWatch) (h : HeldWatch) → AreOfBook log.book (cells_of (hs ++ h ∷ [])) → (cell_of h).book ≡ log.book
of-book-last log [] h all = all.0
of-book-last log (x ∷ xs) h all = of-book-last log xs h all.1

of-book-first : (log : Log) (hs : List HeldWatch) (h : HeldWatch) → AreOfBook log.book (cells_of (hs ++ h ∷ [])) → AreOfBook log.book (cells_of hs)
of-book-first log [] h all = tt
of-book-first log (x ∷ xs) h all = (all.0, of-book-first log xs h all.1)

pub of_book_set : (log : Log) (hs : List HeldWatch) (until : Option HeldWatch) → AreOfBook log.book (cells_of (with_until hs until)) → AreOfBook log.book (cells_of hs)
of_book_set log hs None all = all
of_book_set log hs (Some h) all = of-book-first log hs h all

pub of_book_until : (log : Log) (hs : List HeldWatch) (until : Option HeldWatch) (h : HeldWatch) → until ≡ Some h → AreOfBook log.book (cells_of (with_until hs until)) → (cell_of h).book ≡ log.book
of_book_until log hs until h is all = of-book-last log hs h (subst (λ (u : Option HeldWatch). AreOfBook log.book (cells_of (with_until hs u))) is all)

pub of_book_held : (log : Log) (ms : List Member) (k : ℕ) (h : HeldWatch) → Some h ≡ option_map (λ (m : Member). m.held) (slice_get ms k) → AreOfBook log.book (cells_of (watches_of ms)) → (cell_of h).book ≡ log.book
of_book_held log [] k h is all = absurd (cc is)
of_book_held log (m ∷ ms) zero h is all =
    let same : h ≡ m.held = cc in
    ap (λ (x : HeldWatch). (cell_of x).book) same ∙ all.0
of_book_held log (m ∷ ms) (suc k) h is all = of_book_held log ms k h is all.1

of-book-waits : (log : Log) (p : Caller) (ws : List Watch) (hs : List HeldWatch) → p.book ≡ log.book → AreWatchesOf p ws hs → AreOfBook log.book (cells_of hs)
of-book-waits log p [] [] same all = tt
of-book-waits log p [] (h ∷ hs) same all = absurd all
of-book-waits log p (w ∷ ws) [] same all = absurd all
of-book-waits log p (w ∷ ws) (h ∷ hs) same all = (all.0.held.book ∙ same, of-book-waits log p ws hs same all.1)

pub of_book_told : (log : Log) (s : Progress) (ms : List Member) (until : Option HeldWatch) → s.caller.book ≡ log.book → WaitsFor s ms until → AreOfBook log.book (cells_of (with_until (watches_of ms) until))
of_book_told log s ms until same told = of-book-waits log s.caller told.awaited (with_until (watches_of ms) until) same told.watches

-- ---- sessions

pub at_rest_ended : (log : Log) (s : Progress) (x : State) → x ≡ state.Ended → StandsAt s x → IsAtRest log s
at_rest_ended log s x is stands =
    let all : IsDone s = subst (λ (y : State). StandsAt s y) is stands in
    done all.all all.told.replies all.told.told

-- the sessions before this place have halted
pub record HaltSoFar (log : Log) (ss : List Progress) (ts : List Task) (k : ℕ) : Type 0 where
  pub db : Database
  pub book : db.book ≡ log.book
  pub inside : AreInLoop db (drop k ss) (drop k ts)
  pub rest : AreAtRest log (drop k ss) → AreAtRest log ss
  pub halted : HaveHalted (states_of (drop k ts)) → HaveHalted (states_of ts)

pub halt_first : (log : Log) (ss : List Progress) (ts : List Task) → (db : Database) × (db.book ≡ log.book) × AreInLoop db ss ts → HaltSoFar log ss ts 0
halt_first log ss ts given = record { db = given.0; book = given.1; inside = given.2; rest = λ all. all; halted = λ all. all }

-- where a session is left, a task is
task-left : (db : Database) (s : Progress) (ss : List Progress) (ts : List Task) (k : ℕ) → AreInLoop db (s ∷ ss) (drop k ts) → k < length ts
task-left db s ss [] zero inside = absurd inside
task-left db s ss [] (suc k) inside = absurd inside
task-left db s ss (t ∷ ts) zero inside = omega arith
task-left db s ss (t ∷ ts) (suc k) inside =
    let less = task-left db s ss ts k inside in
    omega (arith, less)

none-left : (db : Database) (ts : List Task) → AreInLoop db [] ts → ts ≡ []
none-left db [] inside = refl
none-left db (t ∷ ts) inside = absurd inside

module _ (log : Log) (ss : List Progress) (ts : List Task) (k : ℕ) (so : HaltSoFar log ss ts k) (s : Progress) (within : k < length ss) (there : s ≡ get_or ss k s) where
  pub task_within : k < length ts
  task_within = task-left so.db s (drop (k + 1) ss) ts k (subst (λ (xs : List Progress). AreInLoop so.db xs (drop k ts)) (drop_next ss k s within there) so.inside)

  module _ (t : Task) (at : t ≡ get_or ts k t) where
    both : AreInLoop so.db (s ∷ drop (k + 1) ss) (t ∷ drop (k + 1) ts)
    both =
        subst (λ (ys : List Task). AreInLoop so.db (s ∷ drop (k + 1) ss) ys) (drop_next ts k t task_within at)
        (subst (λ (xs : List Progress). AreInLoop so.db xs (drop k ts)) (drop_next ss k s within there) so.inside)

    pub this_book : s.caller.book ≡ log.book
    this_book = both.0.unspent.own.2 ∙ so.book

    pub this_stands : StandsAt s t.state
    this_stands = both.0.stands

    pub one_goes_on : CanGoOn log s t.state → OneCanGoOn log ss ts
    one_goes_on goes = record {
      at = k;
      session = s;
      task = t;
      session_there = slice_get_read ss (length ss) k s refl within there;
      task_there = slice_get_read ts (length ts) k t refl task_within at;
      goes_on = goes;
    }

    pub halt_next : IsAtRest log s → HasHalted t.state → HaltSoFar log ss ts (k + 1)
    halt_next rests stops = record {
      db = so.db;
      book = so.book;
      inside = both.1;
      rest = λ all. so.rest (subst (λ (xs : List Progress). AreAtRest log xs) (sym (drop_next ss k s within there)) (rests, all));
      halted = λ all. so.halted (subst (λ (ys : List Task). HaveHalted (states_of ys)) (sym (drop_next ts k t task_within at)) (stops, all));
    }

module _ (log : Log) (ss : List Progress) (ts : List Task) (k : ℕ) (end : k ≡ length ss) (so : HaltSoFar log ss ts k) where
  sessions-end : drop k ss ≡ []
  sessions-end = ap (λ n. drop n ss) end ∙ drop-length ss

  pub rest_end : AreAtRest log ss
  rest_end = so.rest (subst (λ (xs : List Progress). AreAtRest log xs) (sym sessions-end) tt)

  pub halted_end : HaveHalted (states_of ts)
  halted_end =
      let none : drop k ts ≡ [] = none-left so.db (drop k ts) (subst (λ (xs : List Progress). AreInLoop so.db xs (drop k ts)) sessions-end so.inside) in
      so.halted (subst (λ (ys : List Task). HaveHalted (states_of ys)) (sym none) tt)
