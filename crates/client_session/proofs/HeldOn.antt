-- What a caller holds, and what its client knows of it, is so once the caller has seen more.
use Rattle.std.proofs.Common.{List, [], ◌∷◌, Option, Some, None}
use Rattle.std.specs.BTreeMap.{get_by_text}
use Rattle.mem_txn.specs.Checked.{IsBeginning}
use Rattle.mem_txn.specs.Database.{Caller}
use Rattle.mem_txn.specs.Held.{HeldWatch}
use Rattle.mem_txn.proofs.HeldAlong.{held_longer}
use Rattle.watch_set.specs.Members.{AreHeldBy, Member, watches_of}
use Rattle.client_script.specs.Client as client
use Rattle.client_script.specs.Client.{WatchSet, set_named}
use Rattle.client_session.specs.declared.watching.Watching.{Watching}
use Rattle.client_session.specs.inner.WatchingView.{Holds, HoldsSet, IsSet, IsSetOf, Knows}

-- each watch of a list
pub held_all_longer : (p q : Caller) (hs : List HeldWatch) → IsBeginning p q → AreHeldBy p hs → AreHeldBy q hs
held_all_longer p q [] more all = tt
held_all_longer p q (h ∷ hs) more all = (held_longer q p h more all.0, held_all_longer p q hs more all.1)

pub set_longer : (p q : Caller) (ms : List Member) → IsBeginning p q → HoldsSet p ms → HoldsSet q ms
set_longer p q ms more set = record { some = set.some; distinct = set.distinct; held = held_all_longer p q (watches_of ms) more set.held }

pub holds_longer : (p q : Caller) (g : Watching) → IsBeginning p q → Holds p g → Holds q g
holds_longer p q g more holds = record {
  watches = λ name h there. held_longer q p h more (holds.watches name h there);
  sets = λ name ms there. set_longer p q ms more (holds.sets name ms there);
}

-- ---- what the client knows of its sets

known_set_longer : (p q : Caller) (ms : List Member) (s : WatchSet) → IsBeginning p q → IsSet p ms s → IsSet q ms s
known_set_longer p q ms s more set = record {
  members = set.members;
  some = set.some;
  added = λ w there.
      let own = set.added w there in
      let of = own.of in
      record { held = own.held; of = held_longer q p own.held more of; query = own.query; number = own.number; cell = own.cell };
}

known_sets_longer : (p q : Caller) (kept : Option (List Member)) (known : Option WatchSet) → IsBeginning p q → IsSetOf p kept known → IsSetOf q kept known
known_sets_longer p q None None more set = set
known_sets_longer p q None (Some s) more set = set
known_sets_longer p q (Some ms) None more set = set
known_sets_longer p q (Some ms) (Some s) more set = known_set_longer p q ms s more set

pub knows_longer : (p q : Caller) (g : Watching) (k : client.Watching) → IsBeginning p q → Knows p g k → Knows q g k
knows_longer p q g k more knows = record {
  watches = knows.watches;
  sets = λ name. known_sets_longer p q (get_by_text g.sets.kept name) (set_named name k.sets) more (knows.sets name);
}
