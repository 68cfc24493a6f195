-- In all trees of a history equal ids are equal cells.
use Rattle.std.proofs.Common.{◌≡◌, ◌∙◌, ◌⊎◌, ◌+◌, ◌-◌, ◌≤◌, ◌<◌, ℕ, zero, suc, List, [], length, Some, slice_get, inl, inr, sym, ap, subst, arith}
use Rattle.std.specs.Prelude.{All}
use Rattle.std.proofs.lemmas.List.{length-map}
use Rattle.std.proofs.lemmas.Option.{same_Some, slice_get_past, slice_get_within}
use Rattle.mdb_datum.proofs.ListPlaces.{there_within}
use Rattle.db_front.specs.Passes.{Known}
use Rattle.mdb_schema.proofs.Tables.{table_place-name}
use Rattle.mdb_schema.specs.Schema.{TableSchema, table_place}
use Rattle.radix_node.specs.Ids.{Counter}
use Rattle.radix_node.specs.Cells.{AreApart, CellTree, cells_of, piece_cell, pieces_of}
use Rattle.radix_node.specs.Paths.{Has}
use Rattle.radix_node.proofs.Members.{cell_piece}
use Rattle.radix_txn.proofs.Steps.{lt_or_le}
use Rattle.radix_txn.proofs.TxnTrees.{one_piece}
use Rattle.table_index.specs.Table.{TableRows}
use Rattle.watch_word.specs.Logs.{Cell}
use Rattle.mem_txn.specs.CellHistory.{CellHistory, Forest, IdsTell, IsCellIn, forest_or_none, state_after, table_in, trees_after}
use Rattle.mem_txn.specs.Checked.{IdsTellCells, IsHeldBy}
use Rattle.mem_txn.specs.Database.{Caller, cells_seen}
use Rattle.mem_txn.specs.Held.{HeldWatch}
use Rattle.mem_txn.specs.inner.Steps.{AreSteps}
use Rattle.mem_txn.specs.inner.VersionTables.{AreAllWithin}
use Rattle.mem_txn.specs.inner.Versions.{IsBegun, Version, Versions, caller_of}
use Rattle.mem_txn.proofs.CellsWatched.{tree_of, watch_is_in}
use Rattle.mem_txn.proofs.HeldAlong.{looked_in}
use Rattle.mem_txn.proofs.KeptAlong.{all_at, drawn_next, step_there, table_there, trees_there}
use Rattle.mem_txn.proofs.SeparateForests.{id_drawn, opened_at}
use Rattle.mem_txn.proofs.StepAtPlace.{named_there}
use Rattle.mem_txn.proofs.ValuesAlong.{StepAfter, cells_in, forest_of, one_more, stands_at, step_after}

-- cells of one id in one tree are one
same_cell : (tree : CellTree) → AreApart tree → (c d : Cell) → c.id ≡ d.id → Has c (cells_of tree) → Has d (cells_of tree) → c ≡ d
same_cell tree apart c d same in_c in_d =
    let x = cell_piece c (pieces_of tree) in_c in
    let y = cell_piece d (pieces_of tree) in_d in
    let piece = one_piece c.id (pieces_of tree) (apart c.id) x.0 y.0 x.1 y.1 (ap (λ (z : Cell). z.id) x.2) (ap (λ (z : Cell). z.id) y.2 ∙ sym same) in
    sym x.2 ∙ (ap piece_cell piece ∙ y.2)

-- a cell that isn't new was there
not_new : (old : Type 0) (id first : ℕ) → old ⊎ (first ≤ id) → id < first → old
not_new old id first (inl was) low = was
not_new old id first (inr new) low = absurd (omega (arith, low, new))

-- so are cells of one id in all trees of a forest
one_forest : (ids : Counter) (forest : Forest) → AreAllWithin ids forest → (c d : Cell) (table table' index index' : ℕ) → IsCellIn forest table index c → IsCellIn forest table' index' d → c.id ≡ d.id → (c ≡ d) × (table ≡ table') × (index ≡ index')
one_forest ids forest within c d i k j l x y same =
    let place = within.separate c d i k j l x y same in
    let trees : y.trees ≡ x.trees = same_Some y.trees x.trees (sym y.there ∙ (ap (λ (n : ℕ). slice_get forest n) (sym place.0) ∙ x.there)) in
    let found : slice_get y.trees l ≡ slice_get x.trees j = ap (λ (n : ℕ). slice_get y.trees n) (sym place.1) ∙ ap (λ (ts : List CellTree). slice_get ts j) trees in
    let tree : y.at.tree ≡ x.at.tree = same_Some y.at.tree x.at.tree (sym y.at.there ∙ (found ∙ x.at.there)) in
    let apart = all_at AreApart x.trees j x.at.tree (all_at (All AreApart) forest i x.trees within.apart x.there) x.at.there in
    (same_cell x.at.tree apart c d same x.at.has (subst (λ (t : CellTree). Has d (cells_of t)) tree y.at.has), place.0, place.1)

module _ (h : Versions) (begun : IsBegun h) (steps : AreSteps h) where
  -- the history of the values
  abbrev J : CellHistory
  J = cells_in h

  -- there are trees only after the commits of the history
  trees_until : (n table : ℕ) (trees : List CellTree) → slice_get (trees_after J n) table ≡ Some trees → n ≤ length J.commits
  trees_until n table trees there =
      elim (lt_or_le n (length J.trees)) [
        | inl less ↦ (let all = length-map h forest_of in let more = one_more h begun in omega (arith, less, all, more))
        | inr past ↦ (let none : trees_after J n ≡ [] = ap forest_or_none (slice_get_past J.trees n past) in let no_tree : slice_get [] table ≡ Some trees = ap (λ (f : Forest). slice_get f table) (sym none) ∙ there in absurd (cc))
      ]

  -- a table of the schema stands where trees do
  schema_there : (n : ℕ) → StepAfter h n → (table : ℕ) (trees : List CellTree) → slice_get (trees_after J (suc n)) table ≡ Some trees → (t : TableSchema) × (slice_get J.schema table ≡ Some t)
  schema_there n s table trees there =
      let at = stands_at h steps (suc n) s.new s.behind in
      let within = slice_get_within s.new.1.trees table trees (ap (λ (f : Forest). slice_get f table) at.trees ∙ there) in
      let count : length s.new.1.trees ≡ length J.schema = s.step.planted_now ∙ ap length at.schema in
      there_within J.schema table (omega (arith, within, count))

  -- which had its trees before the commit
  trees_before : (n : ℕ) → StepAfter h n → (table : ℕ) (t : TableSchema) → slice_get J.schema table ≡ Some t → (before : List CellTree) × (slice_get (trees_after J n) table ≡ Some before)
  trees_before n s table t schema =
      let at = stands_at h steps n s.old s.before in
      let within = slice_get_within J.schema table t schema in
      let count : length s.old.1.trees ≡ length J.schema = s.step.planted ∙ ap length at.schema in
      let found = there_within s.old.1.trees table (omega (arith, within, count)) in
      (found.0, ap (λ (f : Forest). slice_get f table) (sym at.trees) ∙ found.1)

  module _ (c : Cell) (table index : ℕ) where
    -- after n commits the cell is in the tree of the index of the table
    abbrev IsIn : ℕ → Type 0
    IsIn n = IsCellIn (trees_after J n) table index c

    -- its id was drawn in the first n commits
    abbrev IsDrawn : ℕ → Type 0
    IsDrawn n = (e : ℕ × Version) → slice_get h n ≡ Some e → c.id < e.1.ids.next

    -- it is drawn then at each later one
    drawn_later : (m k : ℕ) → m + k ≤ length J.commits → IsDrawn m → IsDrawn (m + k)
    drawn_later m zero most low = subst IsDrawn (search arith) low
    drawn_later m (suc k) most low =
        let s = step_after h begun steps (m + k) (omega (arith, most)) in
        let next : suc (m + k) ≡ m + suc k = search arith in
        let before = drawn_later m k (omega (arith, most)) low in
        subst IsDrawn next (drawn_next h begun steps c table index (m + k) s (before s.old s.before))

    -- a cell whose id was drawn before a commit was in the tree before it
    in_before : (n : ℕ) (s : StepAfter h n) → c.id < s.old.1.ids.next → IsIn (suc n) → IsIn n
    in_before n s low is =
        let t = schema_there n s table is.trees is.there in
        let before = trees_before n s table t.0 t.1 in
        let x = table_there h begun steps n table t.0 before.0 t.1 before.1 in
        let old : TableRows = record { schema = t.0; rows = x.0; trees = before.0 } in
        let u = step_there h begun steps n table s old x.1 in
        let same = trees_there h begun steps (suc n) table u.0 is.trees u.1 is.there in
        let tree = is.at.tree in
        let o = opened_at s.old.1.ids.next before.0 u.0.trees index tree u.2.opened (ap (λ (ts : List CellTree). slice_get ts index) same ∙ is.at.there) in
        record {
          trees = before.0;
          there = before.1;
          at = record {
            tree = o.0;
            there = o.1;
            has = not_new (Has c (cells_of o.0)) c.id s.old.1.ids.next (o.2 c is.at.has) low;
          };
        }

    -- and so on
    in_first : (m k : ℕ) → m + k ≤ length J.commits → IsDrawn m → IsIn (m + k) → IsIn m
    in_first m zero most low is = subst IsIn (search arith) is
    in_first m (suc k) most low is =
        let s = step_after h begun steps (m + k) (omega (arith, most)) in
        let next : m + suc k ≡ suc (m + k) = search arith in
        let drawn = drawn_later m k (omega (arith, most)) low in
        in_first m k (omega (arith, most)) low (in_before (m + k) s (drawn s.old s.before) (subst IsIn next is))

  -- cells of one id in trees after some commits and after more are one: both are in the first trees
  one_cell : (c d : Cell) (table table' index index' m n : ℕ) → m ≤ n → n ≤ length J.commits → c.id ≡ d.id → IsCellIn (trees_after J m) table index c → IsCellIn (trees_after J n) table' index' d → (c ≡ d) × (table ≡ table') × (index ≡ index')
  one_cell c d i k j l m n less most same first last =
      let count : m + (n - m) ≡ n = omega (arith, less) in
      let more = one_more h begun in
      let e = there_within h m (omega (arith, less, most, more)) in
      let at = stands_at h steps m e.0 e.1 in
      let ids = e.0.1.ids in
      let within : AreAllWithin ids (trees_after J m) = subst (AreAllWithin ids) at.trees (steps.within m e.0 e.1) in
      let low : c.id < ids.next = id_drawn ids (trees_after J m) i j c within.within first in
      let drawn : IsDrawn d k l m = λ f is. subst (λ (x : ℕ). x < f.1.ids.next) same (subst (λ (x : ℕ × Version). c.id < x.1.ids.next) (same_Some e.0 f (sym e.1 ∙ is)) low) in
      let then = in_first d k l m (n - m) (omega (arith, count, most)) drawn (subst (IsIn d k l) (sym count) last) in
      one_forest ids (trees_after J m) within c d i k j l first then same

  -- so ids tell cells in all trees
  pub tell : IdsTell J
  tell m n c d i k j l x y same =
      elim (lt_or_le m n) [
        | inl less ↦ one_cell c d i k j l m n (omega (arith, less)) (trees_until n k y.trees y.there) same x y
        | inr most ↦ (let r = one_cell d c k i l j n m most (trees_until m i x.trees x.there) (sym same) y x in (sym r.0, sym r.1, sym r.2))
      ]

-- the same of what a caller has seen
pub all_tell : (k : Known Version) → IsBegun k.seen → AreSteps k.seen → IdsTell (cells_seen (caller_of k))
all_tell k begun steps = tell k.seen begun steps

-- ---- held watches

-- a watch is in the tree where its question is looked up, after the commits at which it was asked
record IsWatched (p : Caller) (g : HeldWatch) : Type 0 where
  place : ℕ
  schema : TableSchema
  named : let q = g.query in table_place q.table p.schema ≡ Some place
  there : slice_get p.schema place ≡ Some schema
  stands : let spot = g.spot in IsCellIn (trees_after (cells_seen p) g.number) place spot.index spot.watch

-- each held watch is
watched : (p : Caller) (g : HeldWatch) → IsHeldBy p g → IsWatched p g
watched p g held =
    let J = cells_seen p in
    let q = g.query in
    let spot = g.spot in
    let s = state_after J g.number in
    let forest = trees_after J g.number in
    let looked = looked_in (table_in p.schema s forest q.table) q spot held.looked in
    let t = looked.0 in
    let named = named_there p.schema s forest q.table t looked.1 in
    let at = tree_of t.trees spot.index spot.exact spot.key spot.watch looked.2.cell in
    record {
      place = named.table.place;
      schema = t.schema;
      named = named.named.place;
      there = named.there.schema;
      stands = record {
        trees = t.trees;
        there = named.there.trees;
        at = record {
          tree = at.0;
          there = at.1;
          has = subst (λ (d : Cell). Has d (cells_of at.0)) at.2 (watch_is_in at.0 spot.exact spot.key);
        };
      };
    }

-- so two have one cell where they have one id
held_tell : (p : Caller) → IdsTell (cells_seen p) → IdsTellCells p
held_tell p tells g h held_g held_h same =
    let a = watched p g held_g in
    let b = watched p h held_h in
    let one = tells g.number h.number g.spot.watch h.spot.watch a.place b.place g.spot.index h.spot.index a.stands b.stands same in
    let schemas : a.schema ≡ b.schema = same_Some a.schema b.schema (sym a.there ∙ (ap (slice_get p.schema) one.1 ∙ b.there)) in
    let first = table_place-name g.query.table p.schema a.place a.schema a.named a.there in
    let second = table_place-name h.query.table p.schema b.place b.schema b.named b.there in
    record { cell = one.0; table = sym first ∙ (ap (λ (t : TableSchema). t.name) schemas ∙ second); index = one.2 }

pub ids_tell : (k : Known Version) → IsBegun k.seen → AreSteps k.seen → IdsTellCells (caller_of k)
ids_tell k begun steps = held_tell (caller_of k) (all_tell k begun steps)
