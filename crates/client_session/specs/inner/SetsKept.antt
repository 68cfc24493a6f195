-- What is kept of sets, and what a line waits for.
use Rattle.std.specs.Prelude.{◌≡◌, List, [], Option, Some, None, cond, length, option_map, slice_get, ⊤}
use Rattle.std.specs.BTreeMap.{get_by_text}
use Rattle.std.specs.Str.{bytes_eq}
use Rattle.mdb_datum.specs.Bytes.{Bytes}
use Rattle.mem_txn.specs.Held.{HeldWatch}
use Rattle.mem_txn.specs.declared.look.Look.{Look}
use Rattle.mem_txn.specs.declared.look.Look.TheVariants as look
use Rattle.watch_set.specs.Members.{Member}
use Rattle.watch_set.specs.declared.woken.Woken.{Woken}
use Rattle.watch_set.specs.declared.woken.Woken.TheVariants as woken
use Rattle.client_session.specs.declared.named.Named.{Named}
use Rattle.client_session.specs.declared.reply.Reply.{Reply}
use Rattle.client_session.specs.declared.reply.Reply.TheVariants as reply
use Rattle.client_session.specs.declared.watching.Watching.{Watching}

abbrev pub Sets : Type 0
Sets = Named (List Member)

abbrev pub members_or_empty : Option (List Member) → List Member
members_or_empty None = []
members_or_empty (Some ms) = ms

-- the members of the set of a name
abbrev pub members_in : Sets → Bytes → List Member
members_in sets set = members_or_empty (get_by_text sets.kept set)

-- the set of a name has these members; the reply tells how many
pub record PutsBack (old new : Sets) (set : Bytes) (ms : List Member) (r : Reply) : Type 0 where
  pub kept : (q : Bytes) → get_by_text new.kept q
      ≡ cond (bytes_eq set q) (Some ms) (get_by_text old.kept q)
  pub reply : r ≡ reply.Sized (length ms)

-- ---- what a line waits for

-- what cancels the wait, if anything; nothing where its name is unknown
abbrev pub until_in : Watching → Option Bytes → Option (Option HeldWatch)
until_in g None = Some None
until_in g (Some name) = option_map Some (get_by_text g.watches.kept name)

-- a set's members and what cancels, where both are there
abbrev pub beside : Option (List Member) → Option (Option HeldWatch)
    → Option (List Member × Option HeldWatch)
beside None until = None
beside (Some ms) until = option_map (λ u. (ms, u)) until

-- the members of a set, and what cancels the wait for it; nothing where a name is unknown
abbrev pub awaited_in : Watching → Bytes → Option Bytes
    → Option (List Member × Option HeldWatch)
awaited_in g set until = beside (get_by_text g.sets.kept set) (until_in g until)

-- the member that has fired is there
abbrev pub IsThere : List Member → Woken → Type 0
IsThere ms (woken.Fired place at) = (m : Member) × (slice_get ms place ≡ Some m)
IsThere ms (woken.Stopped at) = ⊤

-- the reply to a wait that has ended so
abbrev pub RepliesWoken : List Member → Woken → Reply → Type 0
RepliesWoken ms (woken.Fired place at) r =
    (m : Member) × (slice_get ms place ≡ Some m) × (r ≡ reply.WokenBy m.name at)
RepliesWoken ms (woken.Stopped at) r = r ≡ reply.StoppedAt at

-- the reply to one look at all that is waited for; none where all were quiet
abbrev pub RepliesOnce : List Member → Option Woken → Option Reply → Type 0
RepliesOnce ms None None = ⊤
RepliesOnce ms None (Some r) = ⊥
RepliesOnce ms (Some w) None = ⊥
RepliesOnce ms (Some w) (Some r) = RepliesWoken ms w r

-- the reply to a check
abbrev pub look_reply : Look → Reply
look_reply (look.Quiet at) = reply.QuietAt at
look_reply (look.Fired at) = reply.FiredAt at
