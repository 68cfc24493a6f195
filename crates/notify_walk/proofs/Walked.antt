-- What a walk of an old tree beside a new one leaves.
use Rattle.std.proofs.Common.{◌≡◌, ◌+◌, ◌<◌, inl, inr, ◌∷◌, ◌∙◌, ℕ, List, [], Some, length, map, take, get_or, true, refl, sym, ap, subst, arith}
use Rattle.std.proofs.Math.Seq.{take-length}
use Rattle.watch_word.specs.Logs.{Cell, IsLater, Log, has_fired}
use Rattle.radix_node.specs.CellNode.{cell_edge, tree_at}
use Rattle.radix_node.specs.Cells.{AreCellsOf, AreOf, CellLeaf, CellNode, CellTree, a_leaf, a_node, cells_of, leaf_pieces, node_pieces, piece_cell, pieces_of}
use Rattle.radix_node.specs.Ids.{Book}
use Rattle.radix_node.specs.Left.{all_cells}
use Rattle.radix_node.specs.Paths.{Has}
use Rattle.radix_node.specs.Watches.{TellTheSame}
use Rattle.radix_node.specs.declared.edge.Edge.{Edge}
use Rattle.radix_node.proofs.Members.{cell_piece, has_cell, leaf_has}
use Rattle.radix_node.proofs.OneBook.{all_are, each_is}
use Rattle.radix_node.proofs.Paths.{Has-left, Has-right}
use Rattle.radix_txn.specs.Notice.{IsNotice, IsTold}
use Rattle.notify_walk.specs.Fired.{HaveFired, StayOrFire}
use Rattle.notify_walk.specs.inner.Parts.{AreNodesOf, IsNodeOf, cells_at, nodes_at}
use Rattle.notify_walk.proofs.Firings.{still_fired}
use Rattle.notify_walk.proofs.Parts.{cells_in_tree, cells_next, in_tree, split_cells}

-- ---- books

pub some_are : (book other : Book) (xs ys : List Cell) → AreCellsOf book xs → other ≡ book → ((c : Cell) → Has c ys → Has c xs) → AreCellsOf other ys
some_are book other xs ys all same within = all_are other ys (λ c h. each_is book xs all c (within c h) ∙ sym same)

-- ---- what stays or fires

pub told_later : (cells : List Cell) (new : CellTree) (a b : Log) → IsLater a b → StayOrFire cells new a → StayOrFire cells new b
told_later cells new a b later told c h =
    elim (told c h) [
      | inl stays ↦ inl stays
      | inr fired ↦ inr (still_fired c a b later fired)
    ]

-- a node that the new tree has too
pub node_stays : (n : CellNode) (old new : CellTree) (d : Cell) (log : Log) → TellTheSame old new → Has d (cells_of new) → d.id ≡ n.cell.id → IsNodeOf n old → StayOrFire (all_cells n) new log
node_stays n old new d log same there is part c h =
    let m : CellNode = record { cell = n.cell; prefix = part.prefix; leaf = n.leaf; under = n.under } in
    let w = cell_piece d (pieces_of new) there in
    let e = same (a_node m) w.0 part.there w.1 (sym is ∙ ap (λ (z : Cell). z.id) (sym w.2)) in
    inl (cells_in_tree m new (subst (λ z. Has z (pieces_of new)) (sym e) w.1) c h)

-- and a leaf
pub leaf_stays : (n : CellNode) (l : CellLeaf) (old new : CellTree) (d : Cell) (log : Log) → n.leaf ≡ Some l → TellTheSame old new → Has d (cells_of new) → d.id ≡ l.cell.id → IsNodeOf n old → StayOrFire (map piece_cell (leaf_pieces n.leaf)) new log
leaf_stays n l old new d log leaf same there is part c h =
    let m : CellNode = record { cell = n.cell; prefix = part.prefix; leaf = n.leaf; under = n.under } in
    let w = cell_piece d (pieces_of new) there in
    let held = in_tree m old part.there (a_leaf l) (Has-left (a_leaf l) (leaf_pieces n.leaf) (node_pieces n.under) (leaf_has l n.leaf leaf)) in
    let e = same (a_leaf l) w.0 held w.1 (sym is ∙ ap (λ (z : Cell). z.id) (sym w.2)) in
    let found = subst (λ z. Has z (pieces_of new)) (sym e) w.1 in
    inl (elim (subst (λ o. Has c (map piece_cell (leaf_pieces o))) leaf h) [
      | inl at ↦ subst (λ (z : Cell). Has z (cells_of new)) (sym at) (has_cell (a_leaf l) (pieces_of new) found)
      | inr none ↦ absurd none
    ])

pub leaf_fires : (n : CellNode) (l : CellLeaf) (new : CellTree) (log : Log) → n.leaf ≡ Some l → has_fired l.cell log ≡ true → StayOrFire (map piece_cell (leaf_pieces n.leaf)) new log
leaf_fires n l new log leaf fired c h =
    elim (subst (λ o. Has c (map piece_cell (leaf_pieces o))) leaf h) [
      | inl at ↦ inr (ap (λ (z : Cell). has_fired z log) at ∙ fired)
      | inr none ↦ absurd none
    ]

-- a node whose cell has fired, with what was done about its leaf and the nodes under it
pub node_told : (n : CellNode) (es : List Edge) (new : CellTree) (a b d : Log) → nodes_at es ≡ n.under → IsLater a b → IsLater b d → has_fired n.cell a ≡ true → StayOrFire (map piece_cell (leaf_pieces n.leaf)) new b → StayOrFire (cells_at es) new d → StayOrFire (all_cells n) new d
node_told n es new a b d under first second fired leaf rest c (inl e) =
    inr (ap (λ (z : Cell). has_fired z d) e ∙ still_fired n.cell b d second (still_fired n.cell a b first fired))
node_told n es new a b d under first second fired leaf rest c (inr h) =
    elim (split_cells n c h) [
      | inl own ↦ told_later (map piece_cell (leaf_pieces n.leaf)) new b d second leaf c own
      | inr below ↦ rest c (subst (λ ns. Has c (map piece_cell (node_pieces ns))) (sym under) below)
    ]

pub under_of_tree : (n : CellNode) (es : List Edge) (t : CellTree) → nodes_at es ≡ n.under → IsNodeOf n t → AreNodesOf (nodes_at es) t
under_of_tree n es t under part x h =
    let m : CellNode = record { cell = n.cell; prefix = part.prefix; leaf = n.leaf; under = n.under } in
    in_tree m t part.there x (Has-right x (leaf_pieces n.leaf) (node_pieces n.under) (subst (λ ns. Has x (node_pieces ns)) under h))

-- one edge more
pub edges_told : (es : List Edge) (i : ℕ) (e : Edge) (n : CellNode) (new : CellTree) (a b : Log) → i < length es → e ≡ get_or es i e → n ≡ (cell_edge e).node → IsLater a b → StayOrFire (cells_at (take i es)) new a → StayOrFire (all_cells n) new b → StayOrFire (cells_at (take (i + 1) es)) new b
edges_told es i e n new a b lt read is later before here c h =
    elim (cells_next es i e lt read c h) [
      | inl old ↦ told_later (cells_at (take i es)) new a b later before c old
      | inr at ↦ here c (subst (λ (m : CellNode). Has c (all_cells m)) (sym is) at)
    ]

-- ---- a notice's cells

-- where all cells of the old tree stay or have fired, those of the notice have
pub notice_fired : (cells : List Cell) (old new : CellTree) (log : Log) → IsNotice cells old new → StayOrFire (cells_of old) new log → HaveFired log cells
notice_fired cells old new log notice told = each cells (λ c h. h)
  where
    fires : (c : Cell) → Has c cells → has_fired c log ≡ true
    fires c h =
        let f = (notice.fires c).0 h in
        elim (told c f.left) [
          | inl stays ↦ absurd (f.gone stays)
          | inr fired ↦ fired
        ]

    each : (cs : List Cell) → ((c : Cell) → Has c cs → Has c cells) → HaveFired log cs
    each [] within = tt
    each (c ∷ cs) within = (fires c (within c (inl refl)), each cs (λ d h. within d (inr h)))

-- the old tree is of the book of the notice's cells, of which there is one
pub old_of : (cells : List Cell) (old new : CellTree) (book : Book) → 0 < length cells → AreCellsOf book cells → IsTold cells old new → AreOf book old
old_of [] old new book some all told = absurd (omega (arith, some))
old_of (c ∷ cells) old new book some all told =
    let f = (told.notice.fires c).0 (inl refl) in
    let same : told.book ≡ book = sym (each_is told.book (cells_of old) told.of c f.left) ∙ each_is book (c ∷ cells) all c (inl refl) in
    subst (λ (k : Book). AreOf k old) same told.of

-- ---- where a walk ends

-- from a root
pub root_told : (n : CellNode) (old new : CellTree) (log : Log) → tree_at n ≡ old → TellTheSame old new → ((t : CellTree) → TellTheSame t new → IsNodeOf n t → StayOrFire (all_cells n) new log) → StayOrFire (cells_of old) new log
root_told n old new log is same told =
    subst (λ (t : CellTree). StayOrFire (cells_of t) new log) is
    (told (tree_at n) (subst (λ (t : CellTree). TellTheSame t new) (sym is) same) (record { prefix = []; there = inl refl }))

-- past the last edge
pub all_told : (es : List Edge) (i : ℕ) (new : CellTree) (log : Log) → i ≡ length es → StayOrFire (cells_at (take i es)) new log → StayOrFire (cells_at es) new log
all_told es i new log end told =
    subst (λ (xs : List Edge). StayOrFire (cells_at xs) new log) (take-length es) (subst (λ (k : ℕ). StayOrFire (cells_at (take k es)) new log) end told)
