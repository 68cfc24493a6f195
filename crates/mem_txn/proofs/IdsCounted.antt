-- The ids of a transaction, write after write: whose cells have them, and how many were drawn.
use Rattle.std.proofs.Common.{◌≡◌, ◌∙◌, ◌+◌, ◌*◌, ◌^◌, ◌++◌, ◌<◌, ◌≤◌, ℕ, false, List, All, [], ◌∷◌, Some, get_or, length, map, set, slice_get, refl, sym, ap, subst, arith}
use Rattle.std.proofs.lemmas.List.{length-append}
use Rattle.std.proofs.lemmas.List.Elements.{All-cons, All-head, All-map, All-nil, All-set, All-tail}
use Rattle.mdb_schema.specs.Write.{Write}
use Rattle.radix_node.specs.Cells.{AreApart, CellTree}
use Rattle.radix_node.specs.Ids.{Book, Counter}
use Rattle.watch_word.specs.Logs.{Log}
use Rattle.table_index.specs.Drawn.{HasDrawnCells, MayBeWritten}
use Rattle.table_index.specs.Table.{AreAllOf, TableRows, TableChange}
use Rattle.mem_txn.specs.inner.DbTxnView.{AreCounted}
use Rattle.mem_txn.specs.inner.Ended.{AreMade}
use Rattle.mem_txn.specs.inner.VersionTables.{AreAllSeparate, AreAllWithin, AreChangesWithin, AreWithin, Draws, IsWithin, standing, trees_of, unwritten}
use Rattle.mem_txn.specs.inner.Versions.{Turned}
use Rattle.mem_txn.proofs.BegunTables.{none_opened, standing-unwritten}
use Rattle.mem_txn.proofs.EndedTables.{made_held}
use Rattle.mem_txn.proofs.RowsAdded.{opened_more}
use Rattle.mem_txn.proofs.SeparateForests.{set_separate}

-- ---- ids that were drawn

-- more of them were drawn
trees_more : (ids ids' : Counter) (ts : List CellTree) → ids'.book ≡ ids.book → ids.next ≤ ids'.next → AreWithin ids ts → AreWithin ids' ts
trees_more ids ids' ts same le within = record {
  below = λ k d h i high. within.below k d h i (omega (arith, le, high));
  of = subst (λ (b : Book). AreAllOf b ts) (sym same) within.of;
}

table_more : (ids ids' : Counter) (t : TableChange) → ids'.book ≡ ids.book → ids.next ≤ ids'.next → IsWithin ids t → IsWithin ids' t
table_more ids ids' t same le within = record {
  start = trees_more ids ids' t.start same le within.start;
  trees = trees_more ids ids' t.trees same le within.trees;
}

pub forest_more : (ids ids' : Counter) (ts : List TableRows) → ids'.book ≡ ids.book → ids.next ≤ ids'.next → All (AreWithin ids) (trees_of ts) → All (AreWithin ids') (trees_of ts)
forest_more ids ids' ts same le within k d h = trees_more ids ids' (get_or (trees_of ts) k d) same le (within k d h)

-- the trees of tables as they stand
standing_each : (ids : Counter) (ts : List TableChange) → All (IsWithin ids) ts → All (AreWithin ids) (trees_of (map standing ts))
standing_each ids ts all =
    All-map (AreWithin ids) (λ (r : TableRows). r.trees) (map standing ts)
    (All-map (λ (r : TableRows). AreWithin ids r.trees) standing ts (λ k d h. (all k d h).trees))

-- with which a transaction ends
pub standing_within : (ids : Counter) (ts : List TableChange) (news : List TableRows) → news ≡ map standing ts → AreChangesWithin ids ts → AreMade ts news → AreAllWithin ids (trees_of news)
standing_within ids ts news same all made =
    let held = made_held ts news made in
    record {
      within = subst (λ (us : List TableRows). All (AreWithin ids) (trees_of us)) (sym same) (standing_each ids ts all.within);
      separate = subst (λ (us : List TableRows). AreAllSeparate (trees_of us)) (sym same) all.separate;
      apart = All-map (All AreApart) (λ (r : TableRows). r.trees) news (λ k d h. (held k d h).apart);
    }

-- the table at a place was written
pub within-set : (ids ids' : Counter) (ts : List TableChange) (at : ℕ) (old new : TableChange) → slice_get ts at ≡ Some old → AreChangesWithin ids ts → Draws ids ids' old new → AreChangesWithin ids' (set ts at new)
within-set ids ids' ts at old new there all drawn = record {
  within = All-set (IsWithin ids') ts at new drawn.within (λ k d h. table_more ids ids' (get_or ts k d) drawn.book drawn.later (all.within k d h));
  separate = set_separate ids ts at old new there (standing_each ids ts all.within) all.separate drawn.opened drawn.separate;
}

-- a table may be written by a counter that has counted its ids
pub may_be_written : (front : Log) (ids : Counter) (old t : TableChange) → t ≡ old → old.spoiled ≡ false → front.book ≡ ids.book
    → IsWithin ids old → MayBeWritten front ids t
may_be_written front ids old t is sound book within = subst (MayBeWritten front ids) (sym is) (record {
  sound = sound;
  book = book;
  below = within.trees.below;
  of = within.trees.of;
  start = within.start.below;
})

-- a write of what a table was opened as leaves the trees with which the change began
pub write_draws : (log : Log) (n : ℕ) (ids ids' : Counter) (old t new : TableChange) → t ≡ old → IsWithin ids old → new.start ≡ t.start
    → HasDrawnCells log n ids ids' t new → Draws ids ids' old new
write_draws log n ids ids' old t new is before start drawn =
    let within : IsWithin ids t = subst (IsWithin ids) (sym is) before in
    subst (λ (t : TableChange). Draws ids ids' t new) is (record {
      within = record {
        start = record {
          below = drawn.start;
          of = subst (AreAllOf ids'.book) (sym start) (subst (λ (b : Book). AreAllOf b t.start) (sym drawn.book) within.start.of);
        };
        trees = record { below = drawn.below; of = drawn.of };
      };
      opened = opened_more ids.next log ids ids' t.trees t.trees new.trees (omega arith) (none_opened ids.next t.trees) drawn.drawn;
      separate = drawn.separate;
      book = drawn.book;
      later = drawn.later;
    })

-- nothing was written
pub none_drawn : (ids : Counter) (old new : TableChange) → new ≡ old → IsWithin ids old → Draws ids ids old new
none_drawn ids old new same within =
    subst (λ (t : TableChange). Draws ids ids old t) (sym same) (record {
      within = within;
      opened = none_opened ids.next old.trees;
      separate = λ h. h;
      book = refl;
      later = omega arith;
    })

-- tables that nobody has written to
each_unwritten : (ids : Counter) (ts : List TableRows) → All (AreWithin ids) (trees_of ts) → All (IsWithin ids) (map unwritten ts)
each_unwritten ids [] all = All-nil (IsWithin ids)
each_unwritten ids (t ∷ ts) all =
    let first = All-head (AreWithin ids) t.trees (trees_of ts) all in
    All-cons (IsWithin ids) (unwritten t) (map unwritten ts) (record { start = first; trees = first }) (each_unwritten ids ts (All-tail (AreWithin ids) t.trees (trees_of ts) all))

pub unwritten_within : (ids : Counter) (ts : List TableRows) → AreAllWithin ids (trees_of ts) → AreChangesWithin ids (map unwritten ts)
unwritten_within ids ts all = record {
  within = each_unwritten ids ts all.within;
  separate = subst (λ (us : List TableRows). AreAllSeparate (trees_of us)) (sym (standing-unwritten ts)) all.separate;
}

-- ---- how many were drawn

-- with too few ids for so many rows there are as many writes as ids are counted for
pub ids_full : (n writes rows : ℕ) → n ≤ 2 ^ 11 + 2 ^ 26 * writes → 2 ^ 63 < n + 2 ^ 26 * rows → 2 ^ 36 ≤ writes + rows
ids_full n writes rows few spent = omega (arith, few, spent)

module _ (turn : Turned) (ids ids' : Counter) (ws ws' : List Write) (counted : AreCounted turn (length ws) ids) where
  -- more writes were accepted
  pub counted_more : (more : List Write) → ids'.book ≡ ids.book → ids'.next ≤ ids.next + 2 ^ 26 * length more → ids.next ≤ ids'.next → ws' ≡ ws ++ more → AreCounted turn (length ws') ids'
  counted_more more book few later joined =
      let count = length-append ws more in
      let all = ap length joined in
      record { book = book ∙ counted.book; few = omega (arith, counted.few, few, count, all); later = omega (arith, counted.later, later) }

  -- none was
  pub counted_same : ids' ≡ ids → ws' ≡ ws → AreCounted turn (length ws') ids'
  counted_same same none = record { book = ap (λ (i : Counter). i.book) same ∙ counted.book; few = omega (arith, counted.few, ap length none, ap (λ (i : Counter). i.next) same); later = omega (arith, counted.later, ap (λ (i : Counter). i.next) same) }
