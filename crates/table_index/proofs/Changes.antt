-- The trees of a change, as its contracts speak of them.
use Rattle.std.proofs.Common.{◌≡◌, ◌∙◌, ◌<◌, ℕ, Bool, false, List, All, map, length, get_or, refl, sym, ap, subst, arith}
use Rattle.std.specs.Vec.{with_items}
use Rattle.std.proofs.Math.ListN.{get_or-map}
use Rattle.std.proofs.lemmas.List.{length-map, with_items_is}
use Rattle.std.proofs.lemmas.List.Elements.{All-map}
use Rattle.watch_word.specs.Logs.{Log}
use Rattle.mdb_schema.specs.Schema.{TableSchema}
use Rattle.radix_node.specs.Cells.{AreBelow, AreOf, CellTree}
use Rattle.radix_node.specs.Ids.{Counter}
use Rattle.radix_txn.specs.Drawn.{IsWithin}
use Rattle.radix_txn.specs.Txn.{Txn}
use Rattle.table_index.specs.Table.{AreAllBelow, AreAllOf, TableChange}
use Rattle.table_index.specs.Drawn.{HasDrawnCells, MayBeWritten}
use Rattle.table_index.specs.inner.Drawn.{AreReady, HaveDrawn}
use Rattle.table_index.specs.inner.IndexTrees.{AreTrees, nodes_of, starts_of, trees_of}
use Rattle.table_index.specs.inner.Views.{IsChange, change_view}
use Rattle.table_index.specs.declared.table_txn.TableTxn.TheInside as table_txn
use Rattle.table_index.proofs.DrawnIds.{same_drawn}
use Rattle.table_index.proofs.WriteAnswers.{change_of}

-- ---- ids

-- what is true of all trees is true of the one at a place
one_of : (P : CellTree → Type 0) (f : Txn → CellTree) (xs : List Txn) (k : ℕ) (d : Txn) → k < length xs → All P (map f xs) → P (f (get_or xs k d))
one_of P f xs k d within all =
    let inside : k < length (map f xs) = rw length-map within in
    subst P (get_or-map f xs k d) (all k (f d) inside)

txns_within : (ids : Counter) (xs : List Txn) → AreAllBelow ids.next (trees_of xs) → AreAllOf ids.book (trees_of xs) → AreAllBelow ids.next (starts_of xs) → All (IsWithin ids) xs
txns_within ids xs trees of start k d within = record {
  start = one_of (AreBelow ids.next) (λ (x : Txn). x.start) xs k d within start;
  tree = one_of (AreBelow ids.next) (λ (x : Txn). x.tree) xs k d within trees;
  of = one_of (AreOf ids.book) (λ (x : Txn). x.tree) xs k d within of;
}

-- ---- a write of a change: it reads its trees as a list, and leaves a list in their place

module _ (inside : table_txn.Inside) (now : TableChange) (view : change_view inside ≡ now) (read : List Txn)
    (reads : read ≡ inside.trees.items) where
  -- the trees may be written
  pub trees_ready : IsChange inside → (front : Log) (ids : Counter) → MayBeWritten front ids now → AreReady front ids read
  trees_ready lawful front ids may =
      let ready : MayBeWritten front ids (change_view inside) = subst (MayBeWritten front ids) (sym view) may in
      subst (AreReady front ids) (sym reads) (record {
        sound = lawful.sound ready.sound;
        book = ready.book;
        within = txns_within ids inside.trees.items ready.below ready.of ready.start;
      })

  -- and they hold the entries of the rows
  pub trees_held : IsChange inside → now.spoiled ≡ false → AreTrees inside.def (nodes_of read)
  trees_held lawful sound =
      let kept : inside.spoiled ≡ false = ap (λ (x : TableChange). x.spoiled) view ∙ sound in
      subst (λ (txns : List Txn). AreTrees inside.def (nodes_of txns)) (sym reads) (lawful.trees kept)

-- the list that a write reads, and the one that it leaves
pub record AreLent (inside : table_txn.Inside) (now : TableChange) (read new : List Txn) : Type 0 where
  pub view : change_view inside ≡ now
  pub reads : read ≡ inside.trees.items
  pub count : length new ≡ inside.trees.len

-- what is said of the lists is said of the change
pub of_change : {inside : table_txn.Inside} {now : TableChange} {read new : List Txn} → AreLent inside now read new
    → (P : TableChange → TableChange → Type 0) (spoiled : Bool)
    → P (change_of inside.def read inside.spoiled) (change_of inside.def new spoiled)
    → P now (change_of inside.def (with_items inside.trees new).items spoiled)
of_change {inside} {now} {read} {new} lent P spoiled h =
    let before : change_of inside.def read inside.spoiled ≡ now =
    ap (λ (txns : List Txn). change_of inside.def txns inside.spoiled) lent.reads ∙ lent.view in
    subst (λ (txns : List Txn). P now (change_of inside.def txns spoiled)) (sym (with_items_is inside.trees new lent.count))
    (subst (λ (x : TableChange). P x (change_of inside.def new spoiled)) before h)

-- what a write drew for its lists it drew for the change
pub change_drawn : (log : Log) (n : ℕ) (i j : Counter) (t : TableSchema) (before after : List Txn) (old new : Bool)
    → HaveDrawn log n i j before after
    → HasDrawnCells log n i j (change_of t before old) (change_of t after new)
change_drawn log n i j t before after old new drawn =
    let within : All (IsWithin j) after = drawn.within in
    record {
      below = All-map (AreBelow j.next) (λ (x : Txn). x.tree) after (λ k d h. let b = within k d h in b.tree);
      of = All-map (AreOf j.book) (λ (x : Txn). x.tree) after (λ k d h. let b = within k d h in b.of);
      start = All-map (AreBelow j.next) (λ (x : Txn). x.start) after (λ k d h. let b = within k d h in b.start);
      drawn = drawn.drawn;
      separate = drawn.separate;
      book = drawn.book;
      later = drawn.later;
      few = drawn.few;
    }

-- where nothing is written, nothing is drawn
pub no_cells_drawn : (log : Log) (n : ℕ) (ids : Counter) (x : TableChange) → MayBeWritten log ids x → HasDrawnCells log n ids ids x x
no_cells_drawn log n ids x ready = record {
  below = ready.below;
  of = ready.of;
  start = ready.start;
  drawn = same_drawn log ids ids x.trees;
  separate = λ h. h;
  book = refl;
  later = omega arith;
  few = omega arith;
}
