-- A watch that is held by a caller is held once it has seen more, and where its question is looked
-- up.
use Rattle.std.proofs.Common.{◌≡◌, ◌∙◌, ◌+◌, ◌^◌, ◌≤◌, ◌++◌, ℕ, zero, suc, List, [], ◌∷◌, length, take, slice_get, Option, Some, None, Ok, refl, sym, ap, subst, append_assoc, arith}
use Rattle.std.proofs.lemmas.List.{length-append, take-append-le}
use Rattle.std.proofs.lemmas.Option.{same_Some}
use mathlib.Core.List.{IsPrefix}
use Rattle.mdb_schema.specs.Answer.{lookup_of}
use Rattle.mdb_schema.specs.History.{History, after_commits, state_at}
use Rattle.mdb_schema.specs.Query.{Query}
use Rattle.mdb_schema.specs.Schema.{DbSchema, TableSchema}
use Rattle.mdb_schema.specs.State.{State, Table, empty_state, table_at}
use Rattle.notify_walk.proofs.Firings.{later_again}
use Rattle.table_index.specs.Spot.{SpotOf}
use Rattle.table_index.specs.Table.{TableRows}
use Rattle.table_index.specs.Watched.{IsSpot, cell_of, is_watchable}
use Rattle.watch_word.specs.Logs.{Cell}
use Rattle.mem_txn.specs.CellHistory.{Forest, asked_in, cell_at, forest_or_none, looked_up, planted, question_cell, state_after, table_in, trees_after}
use Rattle.mem_txn.specs.Checked.{AskedIsHeld, HeldLonger, HeldStays, IsHeldBy}
use Rattle.mem_txn.specs.Database.{Caller, HasSeen, cells_seen}
use Rattle.mem_txn.specs.Held.{HeldWatch, IsLookedUp}
use Rattle.mem_txn.specs.AskedSpots.{IsAsked}
use Rattle.mem_txn.proofs.AlongHistory.{table_of, watched_if}
use Rattle.mem_txn.proofs.StepAtPlace.{named_there}

-- ---- where a question is looked up

-- the table is there
pub looked_in : (o : Option TableRows) (q : Query) (s : SpotOf) → IsLookedUp o q s → (t : TableRows) × (o ≡ Some t) × IsSpot t q s
looked_in None q s is = absurd is
looked_in (Some t) q s is = (t, refl, is)

-- it is looked up so in each state of the schema
pub held_asked : (p : Caller) (h : HeldWatch) → IsHeldBy p h → IsAsked p.schema h.query h.spot
held_asked p h held =
    let J = cells_seen p in
    let s = state_after J h.number in
    let forest = trees_after J h.number in
    let q = h.query in
    let looked = looked_in (table_in p.schema s forest q.table) q h.spot held.looked in
    let named = named_there p.schema s forest q.table looked.0 looked.1 in
    let spot = looked.2 in
    record {
      watched = (watched_if (is_watchable q.ask) (asked_in q (table_in p.schema s forest q.table)) h.spot.watch held.cell).0;
      place = named.table.place;
      table = looked.0.schema;
      found = named.named.place;
      there = named.there.schema;
      at = spot.at;
      looked = spot.looked;
      index = spot.index;
      key = spot.key;
      exact = spot.exact;
    }

-- the cell of its question in a state of the schema is found at the same spot
pub spot_again : (schema : DbSchema) (s : State) (forest : Forest) (q : Query) (spot : SpotOf) → IsAsked schema q spot → (c : Cell) → asked_in q (table_in schema s forest q.table) ≡ Some c
    → IsLookedUp (table_in schema s forest q.table) q (record { index = spot.index; key = spot.key; exact = spot.exact; watch = c })
spot_again schema s forest q spot asked c e =
    let x = table_of q (table_in schema s forest q.table) c e in
    let t = x.0 in
    let at = asked.at in
    let named = named_there schema s forest q.table t x.1 in
    let place : asked.place ≡ named.table.place = same_Some asked.place named.table.place (sym asked.found ∙ named.named.place) in
    let table : asked.table ≡ t.schema = same_Some asked.table t.schema (sym asked.there ∙ (ap (slice_get schema) place ∙ named.there.schema)) in
    let looked : lookup_of t.schema q ≡ Ok at = subst (λ (u : TableSchema). lookup_of u q ≡ Ok at) table asked.looked in
    let found : SpotOf = record { index = spot.index; key = spot.key; exact = spot.exact; watch = c } in
    subst (λ (o : Option TableRows). IsLookedUp o q found) (sym x.1) (record {
      at = at;
      looked = looked;
      index = asked.index;
      key = asked.key;
      exact = asked.exact;
      cell = (λ i. cell_of t.trees (asked.index i) (asked.exact i) (asked.key i)) ∙ (ap (looked_up t.trees q) (sym looked) ∙ x.2);
    })

-- ---- a longer history

-- an item of a beginning is at its place
pub at_prefix : {X : Type 0} (xs ys : List X) (n : ℕ) (x : X) → IsPrefix xs ys → slice_get xs n ≡ Some x → slice_get ys n ≡ Some x
at_prefix {X} xs ys n x p there = subst (λ (zs : List X). slice_get zs n ≡ Some x) p.1 (further xs p.0 n there)
  where
    further : (us vs : List X) (m : ℕ) → slice_get us m ≡ Some x → slice_get (us ++ vs) m ≡ Some x
    further [] vs m e = cc
    further (u ∷ us) vs zero e = e
    further (u ∷ us) vs (suc m) e = further us vs m e

-- the state after a commit is that of each longer history
pub state_longer : (schema : DbSchema) (old new : History) (n : ℕ) → IsPrefix old new → n ≤ length old → state_at schema new n ≡ state_at schema old n
state_longer schema old new n p few = ap (after_commits schema (empty_state schema)) (ap (take n) (sym p.1) ∙ take-append-le n old p.0 few)

-- a longer list is as long or longer
pub length_longer : {X : Type 0} (xs ys : List X) → IsPrefix xs ys → length xs ≤ length ys
length_longer xs ys p = let all : length ys ≡ length xs + length p.0 = ap length (sym p.1) ∙ length-append xs p.0 in omega (arith, all)

-- without trees no table is looked up in
none_planted : (o : Option Table) (q : Query) (s : SpotOf) → IsLookedUp (planted [] o) q s → ⊥
none_planted None q s is = is
none_planted (Some t) q s is = is

-- the trees after a commit where a question was looked up are those of each longer list
trees_longer : (o : Option Forest) (old new : List Forest) (n : ℕ) (db : DbSchema) (s : State) (q : Query) (spot : SpotOf) → slice_get old n ≡ o → IsPrefix old new → IsLookedUp (table_in db s (forest_or_none o) q.table) q spot → slice_get new n ≡ slice_get old n
trees_longer None old new n db s q spot e p looked = absurd (none_planted (table_at db s q.table) q spot looked)
trees_longer (Some f) old new n db s q spot e p looked = at_prefix old new n f p e ∙ sym e

-- a state of a schema, with its trees
abbrev Standing : Type 0
Standing = DbSchema × (State × Forest)

-- a watch that was held once is held
pub held_longer : (p : Caller) → HeldLonger p
held_longer p old h more held =
    let J = cells_seen old in
    let K = cells_seen p in
    let n = h.number in
    let q = h.query in
    let spot = h.spot in
    let schema = more.schema in
    let state : state_after K n ≡ state_after J n = ap (λ (s : DbSchema). state_at s p.seen n) schema ∙ state_longer old.schema old.seen p.seen n more.seen held.seen in
    let there : slice_get p.trees n ≡ slice_get old.trees n = trees_longer (slice_get old.trees n) old.trees p.trees n old.schema (state_after J n) q spot refl more.trees held.looked in
    let x : Standing = (old.schema, (state_after J n, trees_after J n)) in
    let y : Standing = (p.schema, (state_after K n, trees_after K n)) in
    let same : x ≡ y = (λ i. (sym schema i, (sym state i, forest_or_none (sym there i)))) in
    let all = length_longer old.seen p.seen more.seen in
    record {
      seen = omega (arith, all, held.seen);
      looked = subst (λ (z : Standing). IsLookedUp (table_in z.0 z.1.0 z.1.1 q.table) q spot) same held.looked;
      cell = subst (λ (z : Standing). question_cell z.0 z.1.0 z.1.1 q ≡ Some spot.watch) same held.cell;
      book = held.book ∙ sym more.book;
    }

-- as by a caller that has looked
pub held_stays : (p : Caller) → HeldStays p
held_stays p old h seen held =
    held_longer p old h (record { schema = ap (λ (c : Caller). c.schema) seen.others; book = ap (λ (c : Caller). c.book) seen.others; seen = seen.seen; trees = seen.trees }) held

-- a watch that was asked of all commits is held
pub asked_is_held : (p : Caller) → AskedIsHeld p
asked_is_held p q h is =
    let J = cells_seen p in
    let spot = h.spot in
    let number : h.number ≡ length p.seen = is.number in
    let x : ℕ × Query = (length p.seen, q) in
    let y : ℕ × Query = (h.number, h.query) in
    let same : x ≡ y = (λ i. (sym number i, sym is.query i)) in
    record {
      seen = omega (arith, number);
      looked = subst (λ (z : ℕ × Query). IsLookedUp (table_in p.schema (state_after J z.0) (trees_after J z.0) z.1.table) z.1 spot) same is.looked;
      cell = subst (λ (z : ℕ × Query). cell_at J z.1 z.0 ≡ Some spot.watch) same is.cell;
      book = is.book;
    }

-- ---- what a call and the next do together

module _ {X : Type 0} where
  pub prefix_twice : (xs ys zs : List X) → IsPrefix xs ys → IsPrefix ys zs → IsPrefix xs zs
  prefix_twice xs ys zs p q = (p.0 ++ q.0, sym (append_assoc xs p.0 q.0) ∙ (ap (λ (us : List X). us ++ q.0) p.1 ∙ q.1))

-- a pass that has seen more, and more again
pub seen_twice : (old mid new : Caller) → HasSeen old mid → HasSeen mid new → HasSeen old new
seen_twice old mid new first second = record {
  seen = prefix_twice old.seen mid.seen new.seen first.seen second.seen;
  trees = prefix_twice old.trees mid.trees new.trees first.trees second.trees;
  few = second.few;
  counts = prefix_twice old.counts mid.counts new.counts first.counts second.counts;
  tries = prefix_twice old.tries mid.tries new.tries first.tries second.tries;
  log = later_again old.log mid.log new.log first.log second.log;
  others = second.others ∙ ap (λ (c : Caller). let r : Caller = record c { seen = new.seen; trees = new.trees; counts = new.counts; tries = new.tries; log = new.log } in r) first.others;
}

-- one that has seen more later on, in few commits
pub seen_first : (old mid new : Caller) → (length mid.seen ≤ 2 ^ 63 → HasSeen old mid) → HasSeen mid new → HasSeen old mid
seen_first old mid new first second = let more = length_longer mid.seen new.seen second.seen in first (omega (arith, more, second.few))

pub seen_since : (old mid new : Caller) → (length mid.seen ≤ 2 ^ 63 → HasSeen old mid) → HasSeen mid new → HasSeen old new
seen_since old mid new first second = seen_twice old mid new (seen_first old mid new first second) second
