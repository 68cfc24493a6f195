-- What a client knows fits its session's state once its caller has seen more.
use Rattle.std.proofs.Common.{arith, ◌≡◌, refl, ap, subst, sym, ◌∙◌, ℕ, ◌≤◌, List, [], ◌∷◌, ◌++◌, length, Option, Some, None}
use Rattle.std.specs.Prelude.{option_map, if◌then◌else◌, Bool, true, false}
use Rattle.std.specs.BTreeMap.{get_by_text}
use Rattle.std.specs.Str.{bytes_eq}
use Rattle.std.proofs.lemmas.List.{length-append}
use Rattle.mdb_datum.specs.Bytes.{Bytes}
use Rattle.mdb_schema.specs.History.{History}
use Rattle.mem_txn.proofs.SeenBegins.{begins_twice}
use Rattle.mem_txn.specs.Checked.{IsBeginning}
use Rattle.mem_txn.specs.Database.{Caller, Reading, View}
use Rattle.client_script.specs.Within.{AllWithin, IsWithin, StandsWithin}
use Rattle.client_script.specs.Client.{Client, Sight, Snapshot, Transaction, closed, reading, snapshot_named, state_seen, writing}
use Rattle.client_session.proofs.HeldOn.{holds_longer, knows_longer}
use Rattle.client_session.proofs.OpenTurns.{beginning_later}
use Rattle.client_session.specs.declared.session_state.SessionState.{SessionState}
use Rattle.client_session.specs.declared.any_snapshot.AnySnapshot.{AnySnapshot}
use Rattle.client_session.specs.declared.any_snapshot.AnySnapshot.TheVariants as kinds
use Rattle.client_session.specs.declared.named.Named.{Named}
use Rattle.client_session.specs.declared.«open».Open.TheVariants as opens
use Rattle.client_session.specs.inner.StateView.{Follows, IsSnapshotOf, view_of}
use Rattle.client_session.specs.inner.SnapshotView.{seen_in}
use Rattle.client_session.specs.inner.OpenView.{Looks, Stands, WasRead, caller_of, transaction_of}
use Rattle.client_session.specs.inner.WatchingView.{Holds, IsReadBy, Knows}
use Rattle.client_script.proofs.LongerHistory.{seen_longer}

-- as many commits are seen, or more
pub seen_more : (p q : Caller) → IsBeginning p q → length p.seen ≤ length q.seen
seen_more p q more = let long = length-append p.seen more.seen.0 in let whole = ap length more.seen.1 in omega (arith, long, whole)

pub within_more : (n k : ℕ) (v : Client) → n ≤ k → IsWithin n v → IsWithin k v
within_more n k v le within = record { transaction = stands v.transaction within.transaction; snapshots = all v.snapshots within.snapshots }
  where
    stands : (t : Transaction) → StandsWithin n t → StandsWithin k t
    stands closed w = tt
    stands (reading m) w = omega arith
    stands (writing t) w = omega arith

    all : (ss : List Snapshot) → AllWithin n ss → AllWithin k ss
    all [] w = tt
    all (s ∷ ss) w = (let at = w.0 in omega arith, all ss w.1)

-- a snapshot sees what it saw
pub view_more : (p q : Caller) (more : History) (s : Sight) → q.schema ≡ p.schema → p.seen ++ more ≡ q.seen → s.number ≤ length p.seen → view_of q s ≡ view_of p s
view_more p q more s same longer le =
    (λ i. let r : View = record { schema = same i; number = s.number; state = state_seen (same i) (sym longer i) s } in r)
    ∙ ap (λ state. record { schema = p.schema; number = s.number; state = state }) (seen_longer p.schema p.seen more s le)

pub views_more : (p q : Caller) (more : History) (name : Bytes) (ss : List Snapshot) → q.schema ≡ p.schema → p.seen ++ more ≡ q.seen → AllWithin (length p.seen) ss → option_map (view_of q) (snapshot_named name ss) ≡ option_map (view_of p) (snapshot_named name ss)
views_more p q more name [] same longer within = refl
views_more p q more name (s ∷ ss) same longer within = one (bytes_eq s.name name) (views_more p q more name ss same longer within.1)
  where
    one : (b : Bool) → option_map (view_of q) (snapshot_named name ss) ≡ option_map (view_of p) (snapshot_named name ss) → option_map (view_of q) (if b then Some s.sight else snapshot_named name ss) ≡ option_map (view_of p) (if b then Some s.sight else snapshot_named name ss)
    one true later = ap Some (view_more p q more s.sight same longer within.0)
    one false later = later

-- ---- what was read

was_read_longer : (p q : Caller) (r : Reading) → IsBeginning p q → WasRead p r → WasRead q r
was_read_longer p q r more (at, begins, is) = (at, begins_twice at p q begins more, is)

read_by_longer : (p q : Caller) (r : Reading) (s : Sight) → IsBeginning p q → IsReadBy p r s → IsReadBy q r s
read_by_longer p q r s more by = record { committed = by.committed; writes = by.writes; number = by.number; read = was_read_longer p q r more by.read }

-- a snapshot is still of what was read
snapshot_longer : (p q : Caller) (k : Option AnySnapshot) (s : Option Sight) → IsBeginning p q → IsSnapshotOf p k s → IsSnapshotOf q k s
snapshot_longer p q None None more is = tt
snapshot_longer p q None (Some s) more is = absurd is
snapshot_longer p q (Some k) None more is = absurd is
snapshot_longer p q (Some (kinds.Committed r)) (Some s) more is = read_by_longer p q r s more is
snapshot_longer p q (Some (kinds.Uncommitted view)) (Some s) more is = is

-- a read transaction stands as before
pub reading_longer : (p q : Caller) (txn : Reading) → IsBeginning p q → Stands (opens.Reading p txn) → Stands (opens.Reading q txn)
reading_longer p q txn more stands =
    let s : Sight = record { number = txn.view.number; writes = []; uncommitted = false } in
    let le = stands.0 in
    let longer = seen_more p q more in (
      omega (arith, le, longer),
      stands.1 ∙ sym (view_more p q more.seen.0 s more.schema more.seen.1 le),
      was_read_longer p q txn more stands.2,
    )

-- ---- what a client knows

-- what is watched is known and held as before
pub knows_on : (d d' : SessionState) (v next : Client) → IsBeginning (caller_of d.«open») (caller_of d'.«open») → d'.watching ≡ d.watching → next.watching ≡ v.watching → Knows (caller_of d.«open») d.watching v.watching → Knows (caller_of d'.«open») d'.watching next.watching
knows_on d d' v next more same known knows =
    let q = caller_of d'.«open» in
    subst (λ g. Knows q g next.watching) (sym same)
    (subst (λ k. Knows q d.watching k) (sym known) (knows_longer (caller_of d.«open») q d.watching v.watching more knows))

pub holds_on : (d d' : SessionState) → IsBeginning (caller_of d.«open») (caller_of d'.«open») → d'.watching ≡ d.watching → Holds (caller_of d.«open») d.watching → Holds (caller_of d'.«open») d'.watching
holds_on d d' more same holds =
    let q = caller_of d'.«open» in
    subst (λ g. Holds q g) (sym same) (holds_longer (caller_of d.«open») q d.watching more holds)

-- a client that knows of another transaction and of other watches
pub follows_then : (d d' : SessionState) (v next : Client) → IsBeginning (caller_of d.«open») (caller_of d'.«open») → next.transaction ≡ transaction_of d'.«open» → next.last ≤ length (caller_of d'.«open»).seen → IsWithin (length (caller_of d'.«open»).seen) next → next.snapshots ≡ v.snapshots → d'.snapshots ≡ d.snapshots → Knows (caller_of d'.«open») d'.watching next.watching → Holds (caller_of d'.«open») d'.watching → Stands d'.«open» → Follows d v → Follows d' next
follows_then d d' v next more transaction last within named same knows holds stands follows =
    let p = caller_of d.«open» in
    let q = caller_of d'.«open» in
    record {
      transaction = transaction;
      last = last;
      within = within;
      snapshots = λ name.
          ap (λ s. seen_in s name) same
          ∙ follows.snapshots name
          ∙ sym (views_more p q more.seen.0 name v.snapshots more.schema more.seen.1 follows.within.snapshots)
          ∙ ap (λ ss. option_map (view_of q) (snapshot_named name ss)) (sym named);
      kept = λ name.
          subst (λ (s : Named _). IsSnapshotOf q (get_by_text s.kept name) (snapshot_named name next.snapshots)) (sym same)
          (subst (λ ss. IsSnapshotOf q (get_by_text d.snapshots.kept name) (snapshot_named name ss)) (sym named)
          (snapshot_longer p q (get_by_text d.snapshots.kept name) (snapshot_named name v.snapshots) more (follows.kept name)));
      knows = knows;
      holds = holds;
      stands = stands;
    }

-- a client's knowledge fits a caller that has seen more
pub follows_longer : (d at : SessionState) (v : Client) → Looks d.«open» at.«open» → at.snapshots ≡ d.snapshots → at.watching ≡ d.watching → Follows d v → Follows at v
follows_longer d at v looks same watching follows =
    let p = caller_of d.«open» in
    let q = caller_of at.«open» in
    let more : IsBeginning p q = beginning_later p q looks.later in
    let longer = seen_more p q more in
    let last = follows.last in
    follows_then d at v v more (follows.transaction ∙ sym looks.transaction) (omega (arith, last, longer)) (within_more (length p.seen) (length q.seen) v longer follows.within) refl same (knows_on d at v v more watching refl follows.knows) (holds_on d at more watching follows.holds) looks.stands follows
