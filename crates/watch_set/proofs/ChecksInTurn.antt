-- Checks of the members of a set in turn: one more check, and what the pass has then.
use Rattle.std.proofs.Common.{◌≡◌, ◌∙◌, ◌+◌, ◌<◌, ◌≤◌, ◌++◌, ◌^◌, ℕ, zero, suc, List, [], ◌∷◌, take, get_or, length, append-nil, Option, Some, None, slice_get, Result, Ok, Err, IfOk, ◌⊎◌, inl, inr, refl, sym, ap, subst, add-one, arith}
use Rattle.std.proofs.lemmas.List.{length-map}
use Rattle.mem_txn.specs.Checked.{HasReadOnce, Hears, IsHeldBy, LooksOnce}
use Rattle.mem_txn.specs.Database.{Caller, Database, HasSeen, IsOf, Reading, reading_of}
use Rattle.mem_txn.specs.Held.{HeldWatch}
use Rattle.mem_txn.specs.declared.look.Look.TheVariants as look
use Rattle.mem_txn.proofs.HeardAlong.{heard_later}
use Rattle.mem_txn.proofs.HeldAlong.{seen_twice}
use Rattle.mem_txn.proofs.OneHistory.{later_itself}
use Rattle.mem_txn.proofs.OneLook.{looks_once}
use Rattle.watch_set.specs.Checks.{AnswersLook, AreQuiet, Finds, FindsWoken, IsFoundFired, IsChecked, KeepsHeld, OnlyLooks, with_until}
use Rattle.watch_set.specs.declared.woken.Woken.{Woken}
use Rattle.watch_set.specs.declared.woken.Woken.TheVariants as woken
use Rattle.watch_set.specs.Members.{AreHeldBy, Member, watches_of}
use Rattle.watch_set.specs.inner.Reads.{IsRead}

-- ---- a pass that has looked

-- it has, where it has seen as much or more and has made no try
pub looks_by : (old new : Caller) → HasSeen old new → new.tries ≡ old.tries → OnlyLooks old new
looks_by old new seen tries = record {
  seen = seen;
  others = seen.others
      ∙ ap (λ (ts : List ℕ). let r : Caller = record old { seen = new.seen; trees = new.trees; counts = new.counts; tries = ts; log = new.log } in r) tries;
}

pub looks_itself : (p : Caller) → length p.seen ≤ 2 ^ 63 → OnlyLooks p p
looks_itself p few = record {
  seen = record {
    seen = ([], append-nil p.seen);
    trees = ([], append-nil p.trees);
    few = few;
    counts = ([], append-nil p.counts);
    tries = ([], append-nil p.tries);
    log = later_itself p.log;
    others = refl;
  };
  others = refl;
}

pub looks_on : (old mid new : Caller) → OnlyLooks old mid → OnlyLooks mid new → OnlyLooks old new
looks_on old mid new first then = record {
  seen = seen_twice old mid new first.seen then.seen;
  others = then.others
      ∙ ap (λ (p : Caller). let r : Caller = record p { seen = new.seen; trees = new.trees; counts = new.counts; log = new.log } in r) first.others;
}

pub looks_after : (old mid new : Caller) → (mid ≡ old) ⊎ OnlyLooks old mid → OnlyLooks mid new → OnlyLooks old new
looks_after old mid new (inl same) looks = subst (λ (p : Caller). OnlyLooks p new) same looks
looks_after old mid new (inr first) looks = looks_on old mid new first looks

pub same_database : (db : Database) (old new : Caller) → OnlyLooks old new → IsOf db old → IsOf db new
same_database db old new looks own = (
  ap (λ (p : Caller). p.database) looks.others ∙ own.0,
  ap (λ (p : Caller). p.schema) looks.others ∙ own.1,
  ap (λ (p : Caller). p.book) looks.others ∙ own.2,
)

-- it has heard more, and the state that it has read is the same
pub hears_looks : (old new : Caller) → length old.seen ≤ 2 ^ 63 → Hears old new → OnlyLooks old new
hears_looks old new few hears =
    let same = looks_itself old few in
    let seen = same.seen in
    subst (OnlyLooks old) (sym hears.others) (record {
      seen = record {
        seen = seen.seen;
        trees = seen.trees;
        few = few;
        counts = seen.counts;
        tries = seen.tries;
        log = hears.later;
        others = refl;
      };
      others = refl;
    })

pub read_still : (old new : Caller) (state : Reading) → IsRead old state → Hears old new → IsRead new state
read_still old new state is hears = record {
  read = is.read ∙ sym (ap reading_of hears.others);
  heard = heard_later old new hears is.heard;
  few = subst (λ (p : Caller). length p.seen ≤ 2 ^ 63) (sym hears.others) is.few;
}

-- ---- who holds what

pub all_kept : (old new : Caller) (hs : List HeldWatch) → KeepsHeld old new → AreHeldBy old hs → AreHeldBy new hs
all_kept old new [] keeps all = tt
all_kept old new (h ∷ hs) keeps all = (keeps h all.0, all_kept old new hs keeps all.1)

pub held_there : (p : Caller) (ms : List Member) (k : ℕ) (m : Member) → k < length ms → m ≡ get_or ms k m → AreHeldBy p (watches_of ms) → IsHeldBy p m.held
held_there p [] k m within there all = absurd (omega arith)
held_there p (x ∷ xs) zero m within there all = subst (λ (y : Member). IsHeldBy p y.held) (sym there) all.0
held_there p (x ∷ xs) (suc k) m within there all = held_there p xs k m (omega arith) there all.1

-- ---- the watches up to a place

pub one_more : (ms : List Member) (k : ℕ) (m : Member) → k < length ms → m ≡ get_or ms k m → take (suc k) (watches_of ms) ≡ take k (watches_of ms) ++ m.held ∷ []
one_more [] k m within there = absurd (omega arith)
one_more (x ∷ xs) zero m within there = ap (λ (y : Member). y.held ∷ []) (sym there)
one_more (x ∷ xs) (suc k) m within there = ap (λ l. x.held ∷ l) (one_more xs k m (omega arith) there)

pub member_there : (ms : List Member) (k : ℕ) (m : Member) → k < length ms → m ≡ get_or ms k m → slice_get ms k ≡ Some m
member_there [] k m within there = absurd (omega arith)
member_there (x ∷ xs) zero m within there = ap Some (sym there)
member_there (x ∷ xs) (suc k) m within there = member_there xs k m (omega arith) there

-- ---- one more check

quiet-on : (first old mid new : Caller) (hs is : List HeldWatch) → AreQuiet first old hs mid → AreQuiet first mid is new → AreQuiet first old (hs ++ is) new
quiet-on first old mid new [] is before then = subst (λ (p : Caller). AreQuiet first p is new) before then
quiet-on first old mid new (h ∷ hs) is (next, at, told, rest) then = (next, at, told, quiet-on first next mid new hs is rest then)

pub quiet_more : (first old mid new : Caller) (ms : List Member) (k : ℕ) (m : Member) (at : ℕ) → k < length ms → m ≡ get_or ms k m
    → AreQuiet first old (take k (watches_of ms)) mid → IsChecked first mid new m.held (look.Quiet at) → AreQuiet first old (take (k + 1) (watches_of ms)) new
quiet_more first old mid new ms k m at within there before told =
    subst (λ (hs : List HeldWatch). AreQuiet first old hs new) (sym (ap (λ n. take n (watches_of ms)) (add-one k) ∙ one_more ms k m within there))
    (quiet-on first old mid new (take k (watches_of ms)) (m.held ∷ []) before (new, at, told, refl))

-- and all of them
taken_all : (hs : List HeldWatch) (k : ℕ) → length hs ≤ k → take k hs ≡ hs
taken_all [] zero long = refl
taken_all [] (suc k) long = refl
taken_all (h ∷ hs) zero long = absurd (omega (arith, long))
taken_all (h ∷ hs) (suc k) long = ap (λ (is : List HeldWatch). h ∷ is) (taken_all hs k (omega (arith, long)))

pub quiet_all : (first old new : Caller) (ms : List Member) (k : ℕ) → length ms ≤ k → AreQuiet first old (take k (watches_of ms)) new → AreQuiet first old (watches_of ms) new
quiet_all first old new ms k long quiet =
    let same : length (watches_of ms) ≡ length ms = length-map ms (λ (m : Member). m.held) in
    subst (λ (hs : List HeldWatch). AreQuiet first old hs new) (taken_all (watches_of ms) k (omega (arith, long, same))) quiet

-- ---- the members, and then what cancels

look_then : (first read mid new : Caller) (ms : List Member) (until : Option HeldWatch) (w : Option Woken)
    → AreQuiet first read (watches_of ms) mid → Finds first mid new [] until w → Finds first read new ms until w
look_then first read mid new ms None None quiet told = subst (λ (p : Caller). AreQuiet first read (watches_of ms) p) (sym told) quiet
look_then first read mid new ms (Some h) None quiet told = quiet-on first read mid new (watches_of ms) (h ∷ []) quiet told
look_then first read mid new ms until (Some (woken.Fired place at)) quiet (m, there, last, rest, fired) = cc
look_then first read mid new ms None (Some (woken.Stopped at)) quiet told = absurd told
look_then first read mid new ms (Some h) (Some (woken.Stopped at)) quiet (last, same, told) =
    (mid, quiet, subst (λ (p : Caller). IsFoundFired first p new h at) same told)

pub looks_then : {E : Type 0} (first read mid new : Caller) (ms : List Member) (until : Option HeldWatch) (r : Result (Option Woken) E)
    → AreQuiet first read (watches_of ms) mid → IfOk r (λ w. Finds first mid new [] until w) → IfOk r (λ w. Finds first read new ms until w)
looks_then first read mid new ms until (Ok w) quiet told = look_then first read mid new ms until w quiet told
looks_then first read mid new ms until (Err e) quiet told = tt

-- a member that has fired is told whatever cancels
pub found_first : (first read new : Caller) (ms : List Member) (until : Option HeldWatch) (w : Woken) → FindsWoken first read new ms None w → FindsWoken first read new ms until w
found_first first read new ms until (woken.Fired place at) told = told
found_first first read new ms until (woken.Stopped at) told = absurd told

-- what is found from a read on is a look
pub looks_from : {E : Type 0} (old read new : Caller) (ms : List Member) (until : Option HeldWatch) (r : Result (Option Woken) E)
    → HasReadOnce old read → IfOk r (λ w. Finds old read new ms until w) → IfOk r (λ w. AnswersLook old new ms until w)
looks_from old read new ms until (Ok w) once told = (read, once, told)
looks_from old read new ms until (Err e) once told = tt

-- ---- all checks of one look

chain_looks : (first old new : Caller) (hs : List HeldWatch) → LooksOnce first old → AreQuiet first old hs new → LooksOnce first new
chain_looks first old new [] look same = subst (LooksOnce first) (sym same) look
chain_looks first old new (h ∷ hs) look (next, at, told, rest) = let check = told.1 in chain_looks first next new hs check.0 rest

pub is_one_look : (old new : Caller) (ms : List Member) (until : Option HeldWatch) (w : Option Woken) → AnswersLook old new ms until w → LooksOnce old new
is_one_look old new ms until None (read, once, quiet) = chain_looks old read new (with_until (watches_of ms) until) (looks_once old read once) quiet
is_one_look old new ms until (Some (woken.Fired place at)) (read, once, told) = let check = told.4.1 in check.0
is_one_look old new ms None (Some (woken.Stopped at)) (read, once, told) = absurd told
is_one_look old new ms (Some h) (Some (woken.Stopped at)) (read, once, told) = let check = told.2.1 in check.0

-- ---- what cancels, by itself

pub until_quiet : (first old new : Caller) (until : Option HeldWatch) (h : HeldWatch) (at : ℕ) → until ≡ Some h → IsChecked first old new h (look.Quiet at) → AreQuiet first old (with_until [] until) new
until_quiet first old new until h at is told = subst (λ (o : Option HeldWatch). AreQuiet first old (with_until [] o) new) (sym is) (new, at, told, refl)

pub until_fired : (first old new : Caller) (until : Option HeldWatch) (h : HeldWatch) (at : ℕ) → until ≡ Some h → IsChecked first old new h (look.Fired at) → FindsWoken first old new [] until (woken.Stopped at)
until_fired first old new until h at is told = subst (λ (o : Option HeldWatch). FindsWoken first old new [] o (woken.Stopped at)) (sym is) (old, refl, told)
