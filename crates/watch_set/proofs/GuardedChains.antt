-- A chain of quiet checks guards the answer of each watch in the history that the pass has seen at
-- its end.
use Rattle.std.proofs.Common.{◌≡◌, ◌∙◌, ◌-◌, ◌≤◌, ◌++◌, ℕ, List, [], ◌∷◌, length, slice_get, append_assoc, append-nil, refl, sym, ap, subst, arith}
use mathlib.Core.List.{IsPrefix}
use Rattle.mdb_datum.proofs.ListPlaces.{get_first}
use Rattle.mdb_schema.specs.Answer.{ask}
use Rattle.mdb_schema.specs.Guarded.{IsGuarded}
use Rattle.mdb_schema.specs.History.{History, IsMadeBy, state_at}
use Rattle.mdb_schema.specs.Query.{Query}
use Rattle.mdb_schema.specs.Schema.{DbSchema}
use Rattle.mdb_schema.specs.State.{State}
use Rattle.mem_txn.specs.Checked.{IsQuiet, LooksOnce}
use Rattle.mem_txn.specs.Database.{Caller, HasSeen}
use Rattle.mem_txn.specs.Held.{HeldWatch}
use Rattle.mem_txn.proofs.HeldAlong.{length_longer, prefix_twice, seen_twice, state_longer}
use Rattle.mem_txn.proofs.OneLook.{last_read}
use Rattle.watch_set.specs.Checks.{AreQuiet, IsQuietLook}
use Rattle.watch_set.specs.GuardedLooks.{AreGuarded, IsGuardedBy, QuietIsGuarded}

-- ---- a longer history

-- what was read up to a look, and then more
read-longer : (xs ys zs read : List ℕ) (at : ℕ) → ys ≡ xs ++ (read ++ at ∷ []) → (q : IsPrefix ys zs) → zs ≡ xs ++ (read ++ at ∷ q.0)
read-longer xs ys zs read at e q =
    sym q.1
    ∙ ap (λ (l : List ℕ). l ++ q.0) e
    ∙ append_assoc xs (read ++ at ∷ []) q.0
    ∙ ap (λ (l : List ℕ). xs ++ l) (append_assoc read (at ∷ []) q.0)

-- ---- the caller at the end of a chain

-- it has seen and read as much or more, and is the same caller
pub record Follows (old new : Caller) : Type 0 where
  pub seen : IsPrefix old.seen new.seen
  pub counts : IsPrefix old.counts new.counts
  pub schema : new.schema ≡ old.schema
  pub number : new.number ≡ old.number

pub follows-itself : (p : Caller) → Follows p p
follows-itself p = record { seen = ([], append-nil p.seen); counts = ([], append-nil p.counts); schema = refl; number = refl }

pub follows-seen : (old new : Caller) → HasSeen old new → Follows old new
follows-seen old new seen = record {
  seen = seen.seen;
  counts = seen.counts;
  schema = ap (λ (p : Caller). p.schema) seen.others;
  number = ap (λ (p : Caller). p.number) seen.others;
}

pub follows-on : (old mid new : Caller) → Follows old mid → Follows mid new → Follows old new
follows-on old mid new first then = record {
  seen = prefix_twice old.seen mid.seen new.seen first.seen then.seen;
  counts = prefix_twice old.counts mid.counts new.counts first.counts then.counts;
  schema = then.schema ∙ first.schema;
  number = then.number ∙ first.number;
}

pub chain-follows : (first old new : Caller) (hs : List HeldWatch) → AreQuiet first old hs new → Follows old new
chain-follows first old new [] same = subst (λ (p : Caller). Follows old p) (sym same) (follows-itself old)
chain-follows first old new (h ∷ hs) (next, at, told, rest) = follows-on old next new (follows-seen old next told.0) (chain-follows first next new hs rest)

pub look-follows : (old new : Caller) (hs : List HeldWatch) → IsQuietLook old hs new → Follows old new
look-follows old new hs (read, once, quiet) = follows-on old read new (follows-seen old read once.seen) (chain-follows old read new hs quiet)

-- ---- what one check says, at the end of a chain

guarded-longer : (mid new : Caller) (q : Query) (v n : ℕ) → Follows mid new → n ≤ length mid.seen → IsGuarded mid.schema mid.seen q v n → IsGuarded new.schema new.seen q v n
guarded-longer mid new q v n more within guarded j low high =
    let there = state_longer mid.schema mid.seen new.seen j more.seen (omega arith) in
    let first = state_longer mid.schema mid.seen new.seen v more.seen (omega arith) in
    subst (λ (s : DbSchema). ask s (state_at s new.seen j) q ≡ ask s (state_at s new.seen v) q) (sym more.schema)
    (ap (λ (s : State). ask mid.schema s q) there ∙ guarded j low high ∙ sym (ap (λ (s : State). ask mid.schema s q) first))

own-before : (mid new : Caller) (at : ℕ) → Follows mid new → at ≡ length mid.seen → IsMadeBy new.seen new.number at → IsMadeBy mid.seen mid.number at
own-before mid new at more last own =
    let counted = own.0 in (
      own.0,
      own.1,
      sym (get_first mid.seen more.seen.0 (at - 1) (omega arith)) ∙ ap (λ (H : History). slice_get H (at - 1)) more.seen.1 ∙ own.2,
      own.3 ∙ more.number,
    )

one-guarded : (old mid new : Caller) (h : HeldWatch) (at : ℕ) → HasSeen old mid → LooksOnce old mid → at ≡ length mid.seen → IsQuiet mid h at → Follows mid new → IsGuardedBy old new h
one-guarded old mid new h at seen look last told more =
    let before = length_longer old.seen mid.seen seen.seen in
    let after = length_longer mid.seen new.seen more.seen in
    let read = last_read old mid look in
    record {
      at = at;
      earlier = read.0;
      further = more.counts.0;
      counts = read-longer old.counts mid.counts new.counts read.0 at (read.1 ∙ ap (λ (n : ℕ). old.counts ++ (read.0 ++ n ∷ [])) (sym last)) more.counts;
      later = omega arith;
      seen = omega arith;
      unchanged = record {
        before_last = guarded-longer mid new h.query h.number (at - 1) more (omega arith) told.unchanged.before_last;
        own = λ own. guarded-longer mid new h.query h.number at more (omega arith) (told.unchanged.own (own-before mid new at more last own));
      };
    }

chain_guarded : (first old new : Caller) (hs : List HeldWatch) → HasSeen first old → AreQuiet first old hs new → AreGuarded first new hs
chain_guarded first old new [] seen same = tt
chain_guarded first old new (h ∷ hs) seen (next, at, told, rest) =
    let further = seen_twice first old next seen told.0 in
    let check = told.1 in (
      one-guarded first next new h at further check.0 check.1 check.2 (chain-follows first next new hs rest),
      chain_guarded first next new hs further rest,
    )

pub quiet_is_guarded : QuietIsGuarded
quiet_is_guarded old new hs (read, once, quiet) = chain_guarded old read new hs once.seen quiet
