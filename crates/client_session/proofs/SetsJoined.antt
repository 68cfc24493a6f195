-- A set that a watch was added to, as a client knows it.
use Rattle.std.proofs.Common.{◌≡◌, ◌∙◌, ◌+◌, ◌++◌, ℕ, Bool, true, false, cond, List, [], ◌∷◌, length, Contains, Option, Some, None, refl, sym, ap, subst, ◌⊎◌, inl, inr, arith}
use Rattle.std.specs.Prelude.{if◌then◌else◌, option_map}
use Rattle.std.specs.BTreeMap.{get_by_text}
use Rattle.std.specs.Str.{bytes_eq}
use Rattle.std.proofs.lemmas.Bool.{both_ways}
use Rattle.std.proofs.lemmas.List.{length-append, length-map, map-append}
use Rattle.std.proofs.lemmas.List.Elements.{Contains-append_cases, Contains-append_left, Contains-append_right}
use Rattle.mdb_datum.specs.Bytes.{Bytes}
use Rattle.mdb_schema.proofs.Membership.{Contains-cons_cases, Contains-map, Contains-nil, bytes_eq-itself}
use Rattle.mem_txn.specs.Checked.{IdsTellCells, IsHeldBy}
use Rattle.mem_txn.specs.Database.{Caller, cells_seen}
use Rattle.mem_txn.specs.Held.{HeldWatch}
use Rattle.watch_set.specs.Members.{HaveDistinctCells, AreHeldBy, Member, cell_id, has_cell, watches_of, with_watch}
use Rattle.watch_set.proofs.CellsDiffer.{distinct_after, held_after}
use Rattle.client_script.specs.Client.{Client, Watch, WatchSet, set_named}
use Rattle.client_script.specs.Reply.{Reply, sized}
use Rattle.client_script.specs.Watching.{IsAdded, put_set, set_for, set_or_new, with_set}
use Rattle.client_session.specs.Cells.{HasEachCellOnce}
use Rattle.client_session.specs.declared.named.Named.{Named}
use Rattle.client_session.specs.declared.watching.Watching.{Watching}
use Rattle.client_session.specs.inner.ReplyOf.{reply_of}
use Rattle.client_session.specs.declared.reply.Reply as own
use Rattle.client_session.specs.declared.reply.Reply.TheVariants as replies
use Rattle.client_session.specs.inner.SetsKept.{PutsBack, Sets, members_in, members_or_empty}
use Rattle.client_session.specs.inner.WatchingView.{HasCellOf, Holds, HoldsSet, IsSet, IsSetOf, Knows, member_of, watch_of}
use Rattle.client_session.proofs.CellsOfSets.{cell_joins, cell_stays, member_held, member_of_cell, one_cell, one_index_held}
use Rattle.client_session.proofs.EachCellOnce.{each_once}
use Rattle.client_session.proofs.IndexPlaces.{some_once}
use Rattle.client_session.proofs.WatchesNamed.{set_put}

-- ---- the set itself

-- the set that the client then knows, with the watch added
record Joins (p : Caller) (new : List Member) (set : Bytes) (w : Watch) (v : Client) : Type 0 where
  known : WatchSet
  name : known.name ≡ set
  added : IsAdded set w v (sized (length new)) (with_set known v)
  same : IsSet p new known

module _ (p : Caller) (ids : IdsTellCells p) (ms : List Member) (set name : Bytes) (h : HeldWatch) (v : Client) (known : IsSet p ms (set_for set v)) (all : AreHeldBy p (watches_of ms)) (own : IsHeldBy p h) where
  abbrev was : WatchSet
  was = set_for set v

  abbrev w : Watch
  w = watch_of name h

  abbrev member : Member
  member = record { name = name; held = h }

  abbrev joined : List Watch → WatchSet
  joined members = record { name = set; members = members; added = was.added ++ w ∷ [] }

  count : length was.members ≡ length ms
  count = ap length known.members ∙ length-map ms member_of

  -- what was ever added has its cell, as the watch has
  have_cells : (new : List Member) → ((c : ℕ) → has_cell c ms ≡ true → has_cell c new ≡ true) → has_cell (cell_id h) new ≡ true → (x : Watch) → Contains (was.added ++ w ∷ []) x → HasCellOf p new x
  have_cells new stays has x within = elim (Contains-append_cases was.added (w ∷ []) x within) [
    | inl before ↦
        let c = known.added x before in
        record { held = c.held; of = c.of; query = c.query; number = c.number; cell = stays (cell_id c.held) c.cell }
    | inr last ↦ elim (Contains-cons_cases w [] x last) [
      | inl same ↦ record {
        held = h;
        of = own;
        query = ap (λ (y : Watch). y.query) same;
        number = ap (λ (y : Watch). y.number) same;
        cell = has;
      }
      | inr none ↦ absurd (Contains-nil x none)
    ]
  ]

  -- its members were added
  some_added : (x : Watch) → Contains was.members x ⊎ Contains (w ∷ []) x → Contains (was.added ++ w ∷ []) x
  some_added x (inl before) = Contains-append_left was.added (w ∷ []) x (known.some x before)
  some_added x (inr last) = Contains-append_right was.added (w ∷ []) x last

  joins : (b : Bool) → has_cell (cell_id h) ms ≡ b → Joins p (if b then ms else ms ++ member ∷ []) set w v
  joins true e =
      let found = member_of_cell (cell_id h) ms e in
      record {
        known = joined was.members;
        name = refl;
        added = inr (record {
          member = member_of found.0;
          there = subst (λ (ws : List Watch). Contains ws (member_of found.0)) (sym known.members) (Contains-map member_of ms found.0 found.1);
          index = one_index_held p ids found.0.held h (member_held p ms found.0 all found.1) own found.2;
          reply = ap sized (sym count);
          kept = refl;
        });
        same = record {
          members = known.members;
          some = λ x within. Contains-append_left was.added (w ∷ []) x (known.some x within);
          added = have_cells ms (λ c is. is) e;
        };
      }
  joins false e = record {
    known = joined (was.members ++ w ∷ []);
    name = refl;
    added = inl (record {
      new = λ among.
          let c = known.added among.like among.there in
          let same : cell_id c.held ≡ cell_id h = one_cell p c.held h c.of own (c.query ∙ among.query) (c.number ∙ among.number) in
          both_ways (has_cell (cell_id h) ms) e (ap (λ (n : ℕ). has_cell n ms) (sym same) ∙ c.cell);
      reply = ap sized (length-append ms (member ∷ []) ∙ ap (λ n. n + 1) (sym count));
      kept = refl;
    });
    same = record {
      members = ap (λ (ws : List Watch). ws ++ w ∷ []) known.members ∙ sym (map-append member_of ms (member ∷ []));
      some = λ x within. some_added x (Contains-append_cases was.members (w ∷ []) x within);
      added = have_cells (ms ++ member ∷ []) (λ c is. cell_stays c ms member is) (cell_joins ms member);
    };
  }

  holds_joined : HaveDistinctCells ms → (b : Bool) → has_cell (cell_id h) ms ≡ b → HoldsSet p (if b then ms else ms ++ member ∷ [])
  holds_joined distinct true e =
      let found = member_of_cell (cell_id h) ms e in
      let within = found.1.1 in
      record { some = omega (arith, within); distinct = distinct; held = all }
  holds_joined distinct false e =
      let more : length (ms ++ member ∷ []) ≡ length ms + 1 = length-append ms (member ∷ []) in
      record { some = omega (arith, more); distinct = distinct_after ms member distinct e; held = held_after p ms member all own }

-- ---- all sets

set_known : (p : Caller) (set : Bytes) (kept : Option (List Member)) (found : Option WatchSet) → IsSetOf p kept found → IsSet p (members_or_empty kept) (set_or_new set found)
set_known p set None None is = record { members = refl; some = λ w within. within; added = λ w within. absurd (Contains-nil w within) }
set_known p set None (Some s) is = absurd is
set_known p set (Some ms) None is = absurd is
set_known p set (Some ms) (Some s) is = is

all_held : (p : Caller) (kept : Option (List Member)) → ((ms : List Member) → kept ≡ Some ms → HoldsSet p ms) → AreHeldBy p (watches_of (members_or_empty kept))
all_held p None holds = tt
all_held p (Some ms) holds = let set = holds ms refl in set.held

all_distinct : (p : Caller) (kept : Option (List Member)) → ((ms : List Member) → kept ≡ Some ms → HoldsSet p ms) → HaveDistinctCells (members_or_empty kept)
all_distinct p None holds = tt
all_distinct p (Some ms) holds = let set = holds ms refl in set.distinct

-- the set of a name that is there is the one that the client knows by it
pub set_there : (p : Caller) (g : Watching) (v : Client) (set : Bytes) (ms : List Member) → Knows p g v.watching → get_by_text g.sets.kept set ≡ Some ms → IsSet p ms (set_for set v)
set_there p g v set ms knows there =
    subst (λ (o : Option (List Member)). IsSet p (members_or_empty o) (set_for set v)) there
    (set_known p set (get_by_text g.sets.kept set) (set_named set v.watching.sets) (knows.sets set))

-- and so is one that was put there
set_put_there : (s : WatchSet) (v : Client) → set_for s.name (with_set s v) ≡ s
set_put_there s v =
    ap (λ (o : Option WatchSet). set_or_new s.name o) (set_put s.name s v.watching.sets ∙ ap (λ (b : Bool). cond b (Some s) (set_named s.name v.watching.sets)) (bytes_eq-itself s.name))

-- how many members the client knows of
pub count_known : (p : Caller) (g : Watching) (v : Client) (set : Bytes) → Knows p g v.watching → length (set_for set v).members ≡ length (members_in g.sets set)
count_known p g v set knows =
    let known : IsSet p (members_in g.sets set) (set_for set v) = set_known p set (get_by_text g.sets.kept set) (set_named set v.watching.sets) (knows.sets set) in
    ap length known.members ∙ length-map (members_in g.sets set) member_of

-- a set in the place of the one of its name
one_set : (p : Caller) (b : Bool) (ms : List Member) (s : WatchSet) (kept : Option (List Member)) (known : Option WatchSet) → IsSet p ms s → IsSetOf p kept known → IsSetOf p (cond b (Some ms) kept) (cond b (Some s) known)
one_set p true ms s kept known is before = is
one_set p false ms s kept known is before = before

one_held : (p : Caller) (b : Bool) (ms new : List Member) (kept : Option (List Member)) → HoldsSet p ms → ((xs : List Member) → kept ≡ Some xs → HoldsSet p xs) → cond b (Some ms) kept ≡ Some new → HoldsSet p new
one_held p true ms new kept is before e = subst (HoldsSet p) (some_once (Some ms) ms new refl e) is
one_held p false ms new kept is before e = before new e

-- the set of a name, made where there was none, has one more watch, unless it had that watch's
-- cell; the reply tells how many members it then has
pub record AddsTo (old new : Sets) (set name : Bytes) (h : HeldWatch) (r : own.Reply) : Type 0 where
  pub kept : (q : Bytes) → get_by_text new.kept q
      ≡ cond (bytes_eq set q) (Some (with_watch name h (members_in old set))) (get_by_text old.kept q)
  pub reply : r ≡ replies.Sized (length (with_watch name h (members_in old set)))

-- what the client then knows of all that it watches
pub record Added (p : Caller) (new : Watching) (set : Bytes) (w : Watch) (v : Client) (r : Reply) : Type 0 where
  pub next : Client
  pub added : IsAdded set w v r next
  pub each : HasEachCellOnce (cells_seen p) (set_for set next)
  pub knows : Knows p new next.watching
  pub holds : Holds p new

pub set_added : (p : Caller) (old new : Watching) (v : Client) (set name : Bytes) (h : HeldWatch) (r : own.Reply) → IdsTellCells p → Knows p old v.watching → Holds p old → IsHeldBy p h → new.watches ≡ old.watches → AddsTo old.sets new.sets set name h r
    → Added p new set (watch_of name h) v (reply_of p.schema r)
set_added p old new v set name h r ids knows holds own watches adds =
    let ms = members_in old.sets set in
    let kept = get_by_text old.sets.kept set in
    let known : IsSet p ms (set_for set v) = set_known p set kept (set_named set v.watching.sets) (knows.sets set) in
    let all : AreHeldBy p (watches_of ms) = all_held p kept (holds.sets set) in
    let j = joins p ids ms set name h v known all own (has_cell (cell_id h) ms) refl in
    let joined = with_watch name h ms in
    let s = j.known in
    let after = holds_joined p ids ms set name h v known all own (all_distinct p kept (holds.sets set)) (has_cell (cell_id h) ms) refl in
    record {
      next = with_set s v;
      added = subst (λ (x : Reply). IsAdded set (watch_of name h) v x (with_set s v)) (sym (ap (reply_of p.schema) adds.reply)) j.added;
      each =
          subst (λ (x : WatchSet). HasEachCellOnce (cells_seen p) x) (sym (ap (λ (n : Bytes). set_for n (with_set s v)) (sym j.name) ∙ set_put_there s v))
          (each_once p ids joined after.held s j.same after.distinct);
      knows = record {
        watches = λ q. knows.watches q ∙ ap (λ (ws : Named HeldWatch). option_map (watch_of q) (get_by_text ws.kept q)) (sym watches);
        sets = λ q.
            let name_is : cond (bytes_eq set q) (Some s) (set_named q v.watching.sets) ≡ set_named q (put_set s v.watching.sets) =
            ap (λ (n : Bytes). cond (bytes_eq n q) (Some s) (set_named q v.watching.sets)) (sym j.name) ∙ sym (set_put q s v.watching.sets) in
            let there : IsSetOf p (cond (bytes_eq set q) (Some joined) (get_by_text old.sets.kept q)) (cond (bytes_eq set q) (Some s) (set_named q v.watching.sets)) =
            one_set p (bytes_eq set q) joined s (get_by_text old.sets.kept q) (set_named q v.watching.sets) j.same (knows.sets q) in
            subst (λ (o : Option WatchSet). IsSetOf p (get_by_text new.sets.kept q) o) name_is
            (subst (λ (o : Option (List Member)). IsSetOf p o (cond (bytes_eq set q) (Some s) (set_named q v.watching.sets))) (sym (adds.kept q)) there);
      };
      holds = record {
        watches = λ q x there. holds.watches q x (ap (λ (ws : Named HeldWatch). get_by_text ws.kept q) (sym watches) ∙ there);
        sets = λ q xs there.
            one_held p (bytes_eq set q) joined xs (get_by_text old.sets.kept q) after (holds.sets q) (sym (adds.kept q) ∙ there);
      };
    }

-- ---- a set that was taken out, and put back with a watch more

put_over : {X : Type 0} (b : Bool) (x y z : X) → cond b x (cond b y z) ≡ cond b x z
put_over true x y z = refl
put_over false x y z = refl

pub put_added : (old mid new : Sets) (set name : Bytes) (h : HeldWatch) (ms : List Member) (r : own.Reply) → ((q : Bytes) → get_by_text mid.kept q ≡ cond (bytes_eq set q) None (get_by_text old.kept q)) → ms ≡ with_watch name h (members_in old set) → PutsBack mid new set ms r
    → AddsTo old new set name h r
put_added old mid new set name h ms r left is puts = record {
  kept = λ q.
      puts.kept q ∙ ap (λ (o : Option (List Member)). cond (bytes_eq set q) (Some ms) o) (left q)
      ∙ put_over (bytes_eq set q) (Some ms) None (get_by_text old.kept q)
      ∙ ap (λ (x : List Member). cond (bytes_eq set q) (Some x) (get_by_text old.kept q)) is;
  reply = puts.reply ∙ ap (λ (x : List Member). replies.Sized (length x)) is;
}
