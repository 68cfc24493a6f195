-- Members of a set that were quiet in looks at it, as the client is told of them.
use Rattle.std.proofs.Common.{◌≡◌, ◌≤◌, ◌++◌, ℕ, zero, suc, List, [], ◌∷◌, length, map, take, sym, subst, append-nil, arith}
use Rattle.mdb_datum.specs.Bytes.{Bytes}
use Rattle.mdb_schema.specs.Guarded.{IsUnchanged}
use Rattle.mdb_schema.specs.Schema.{DbSchema}
use Rattle.mem_txn.specs.Database.{Caller}
use Rattle.mem_txn.specs.Held.{HeldWatch}
use Rattle.watch_set.specs.Checks.{AreQuietLooks, IsQuietLook}
use Rattle.watch_set.specs.GuardedLooks.{AreGuarded, IsGuardedBy}
use Rattle.watch_set.specs.Members.{Member, watches_of}
use Rattle.watch_set.proofs.GuardedChains.{Follows, follows-itself, follows-on, look-follows, quiet_is_guarded}
use Rattle.client_script.specs.Client.{Watch}
use Rattle.client_script.specs.Watching as told
use Rattle.client_session.specs.Steps.{WasQuiet, WereQuiet}
use Rattle.client_session.specs.inner.WatchingView.{member_of, watch_of}
use Rattle.client_session.proofs.QuietBefore.{unchanged_before, unchanged_longer}

-- ---- a caller that has looked

pub looks_follow : (looks : ℕ) (old new : Caller) (hs : List HeldWatch) → AreQuietLooks looks old hs new → Follows old new
looks_follow zero old new hs same = subst (Follows old) (sym same) (follows-itself old)
looks_follow (suc looks) old new hs (mid, first, last) = follows-on old mid new (looks_follow looks old mid hs first) (look-follows mid new hs last)

-- ---- quiet up to what the client was told

module _ (old mid new : Caller) (more : Follows mid new) (n : ℕ) (few : n ≤ length old.seen) where
  quiet_still : (h : HeldWatch) → IsGuardedBy old mid h → IsUnchanged new.schema new.seen new.number h.query h.number n
  quiet_still h g =
      let later = g.later in
      let seen = g.seen in
      let first : IsUnchanged mid.schema mid.seen mid.number h.query h.number n = unchanged_before mid.schema mid.seen mid.number h.query h.number n g.at (omega (arith, few, later)) g.unchanged in
      let then : IsUnchanged mid.schema new.seen mid.number h.query h.number n = unchanged_longer mid.schema mid.seen new.seen more.seen mid.number h.query h.number n (omega (arith, few, later, seen)) first in
      let x : DbSchema × ℕ = (mid.schema, mid.number) in
      let y : DbSchema × ℕ = (new.schema, new.number) in
      let same : x ≡ y = (λ i. (sym more.schema i, sym more.number i)) in
      subst (λ (z : DbSchema × ℕ). IsUnchanged z.0 new.seen z.1 h.query h.number n) same then

  members_still : (ms : List Member) → AreGuarded old mid (watches_of ms) → told.AreUnchanged new.schema new.seen new.number (map member_of ms) n
  members_still [] all = tt
  members_still (m ∷ ms) all = (quiet_still m.held all.0, members_still ms all.1)

  first_still : (place : ℕ) (ms : List Member) → AreGuarded old mid (take place (watches_of ms)) → told.AreUnchanged new.schema new.seen new.number (take place (map member_of ms)) n
  first_still zero ms all = tt
  first_still (suc place) [] all = tt
  first_still (suc place) (m ∷ ms) all = (quiet_still m.held all.0, first_still place ms all.1)

  -- all members
  pub members_quiet : (ms : List Member) → IsQuietLook old (watches_of ms) mid → told.AreUnchanged new.schema new.seen new.number (map member_of ms) n
  members_quiet ms quiet = members_still ms (quiet_is_guarded old mid (watches_of ms) quiet)

  -- those before a place
  pub first_quiet : (place : ℕ) (ms : List Member) → IsQuietLook old (take place (watches_of ms)) mid → told.AreUnchanged new.schema new.seen new.number (take place (map member_of ms)) n
  first_quiet place ms quiet = first_still place ms (quiet_is_guarded old mid (take place (watches_of ms)) quiet)

-- ---- quiet at one look

module _ (old new : Caller) where
  was_quiet : (name : Bytes) (h : HeldWatch) → IsGuardedBy old new h → WasQuiet old new (watch_of name h)
  was_quiet name h g = record { at = g.at; earlier = g.earlier; further = g.further; counts = g.counts; later = g.later; seen = g.seen; quiet = g.unchanged }

  were_quiet : (ms : List Member) (hs : List HeldWatch) (ws : List Watch) → AreGuarded old new (watches_of ms ++ hs) → (AreGuarded old new hs → WereQuiet old new ws) → WereQuiet old new (map member_of ms ++ ws)
  were_quiet [] hs ws all rest = rest all
  were_quiet (m ∷ ms) hs ws all rest = (was_quiet m.name m.held all.0, were_quiet ms hs ws all.1 rest)

  -- the members alone
  pub look_quiet : (ms : List Member) → IsQuietLook old (watches_of ms) new → WereQuiet old new (map member_of ms)
  look_quiet ms quiet =
      subst (WereQuiet old new) (append-nil (map member_of ms))
      (were_quiet ms [] [] (subst (λ (hs : List HeldWatch). AreGuarded old new hs) (sym (append-nil (watches_of ms))) (quiet_is_guarded old new (watches_of ms) quiet)) (λ none. tt))

  -- and what cancels the wait
  pub look_quiet_until : (ms : List Member) (name : Bytes) (h : HeldWatch) → IsQuietLook old (watches_of ms ++ h ∷ []) new → WereQuiet old new (map member_of ms ++ watch_of name h ∷ [])
  look_quiet_until ms name h quiet =
      were_quiet ms (h ∷ []) (watch_of name h ∷ []) (quiet_is_guarded old new (watches_of ms ++ h ∷ []) quiet) (λ all. (was_quiet name h all.0, tt))
