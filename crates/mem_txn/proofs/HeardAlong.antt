-- What a caller has heard, and what stays where it hears more of the log.
use Rattle.std.proofs.Common.{◌∙◌, ◌-◌, ◌≤◌, ℕ, [], length, append-nil, refl, sym, ap, subst, arith}
use Rattle.notify_walk.proofs.Firings.{later_again, still_fired}
use Rattle.watch_word.specs.Logs.{IsLater, Log}
use Rattle.mem_txn.specs.CellHistory.{CellHistory, HasFirings}
use Rattle.mem_txn.specs.Checked.{HasHeard, Hears, IsBeginning, IsHeldBy}
use Rattle.mem_txn.specs.Database.{Caller, HasSeen, cells_seen}
use Rattle.mem_txn.specs.Held.{HeldWatch}
use Rattle.mem_txn.proofs.HeldAlong.{held_longer}
use Rattle.mem_txn.proofs.OneHistory.{later_itself}

-- ---- what a log has

-- what it has of more commits, it has of fewer
pub fewer : (J : CellHistory) (m n : ℕ) (log : Log) → m ≤ n → HasFirings J n log → HasFirings J m log
fewer J m n log low has j less c fires = has j (omega (arith, low, less)) c fires

-- what it has, each later one has
pub later_has : (J : CellHistory) (n : ℕ) (old new : Log) → IsLater old new → HasFirings J n old → HasFirings J n new
later_has J n old new later has j less c fires = still_fired c old new later (has j less c fires)

-- where it has all that the commits fire, the caller has heard
pub heard_all : (p : Caller) → HasFirings (cells_seen p) (length p.seen) p.log → HasHeard p
heard_all p all = record { fired = fewer (cells_seen p) (length p.seen - 1) (length p.seen) p.log (omega arith) all; fired_own = λ own. all }

-- ---- a caller hears

pub hears_itself : (p : Caller) → Hears p p
hears_itself p = record { later = later_itself p.log; others = refl }

-- and hears more
pub hears_twice : (old mid new : Caller) → Hears old mid → Hears mid new → Hears old new
hears_twice old mid new first second = record {
  later = later_again old.log mid.log new.log first.later second.later;
  others = second.others ∙ ap (λ (c : Caller). let r : Caller = record c { log = new.log } in r) first.others;
}

-- it has seen what it had
pub hears_begins : (old new : Caller) → Hears old new → IsBeginning old new
hears_begins old new hears =
    subst (IsBeginning old) (sym hears.others)
    (record { schema = refl; book = refl; seen = ([], append-nil old.seen); trees = ([], append-nil old.trees) })

-- and holds the watches that it held
pub held_heard : (old new : Caller) (h : HeldWatch) → Hears old new → IsHeldBy old h → IsHeldBy new h
held_heard old new h hears held = held_longer new old h (hears_begins old new hears) held

-- what it had heard it has heard
pub heard_later : (old new : Caller) → Hears old new → HasHeard old → HasHeard new
heard_later old new hears heard =
    let J = cells_seen old in
    let n = length old.seen in
    subst HasHeard (sym hears.others) (record {
      fired = later_has J (n - 1) old.log new.log hears.later heard.fired;
      fired_own = λ own. later_has J n old.log new.log hears.later (heard.fired_own own);
    })

-- one that has seen more, and then hears
pub heard_seen : (old mid new : Caller) → HasSeen old mid → Hears mid new → HasSeen old new
heard_seen old mid new seen hears =
    subst (HasSeen old) (sym hears.others) (record {
      seen = seen.seen;
      trees = seen.trees;
      few = seen.few;
      counts = seen.counts;
      tries = seen.tries;
      log = later_again old.log mid.log new.log seen.log hears.later;
      others = ap (λ (c : Caller). let r : Caller = record c { log = new.log } in r) seen.others;
    })
