-- Two trees of which cells tell: pieces of one id hold the same pairs.
use Rattle.std.proofs.Common.{◌≡◌, ◌⊎◌, inl, inr, ◌++◌, ◌∷◌, ◌∙◌, ◌≤◌, ℕ, List, [], Option, Some, None, refl, sym, ap, subst, arith}
use Rattle.std.proofs.lemmas.List.{append-nil}
use Rattle.mdb_datum.specs.Bytes.{Bytes}
use Rattle.mdb_datum.specs.Row.{Fields, Pair}
use Rattle.watch_word.specs.Logs.{Cell}
use Rattle.radix_node.specs.Cells.{AreApart, CellLeaf, CellNode, CellTree, Piece, a_leaf, a_node, cells_of, leaf_pieces, node_pieces, piece_cell, pieces_of, plain_leaf, plain_of}
use Rattle.radix_node.specs.Nodes.{Nodes, no_nodes, node, pairs_of, pairs_of_leaf, pairs_of_nodes, part}
use Rattle.radix_node.specs.Pairs.{find}
use Rattle.radix_node.specs.Paths.{Has}
use Rattle.radix_node.specs.Shape.{HasShape, IsBranching, IsShaped, width}
use Rattle.radix_node.specs.Watches.{Fires, get_watch, seek_watch}
use Rattle.radix_node.specs.WalkDown.{End, end_leaf, end_pairs, pairs_if, walk_tree}
use Rattle.radix_node.proofs.Members.{has_cell, node_no_leaf}
use Rattle.radix_node.proofs.NodesBelow.{piece_sits, seated}
use Rattle.radix_node.proofs.Paths.{Has-split}
use Rattle.radix_node.proofs.WalkedTree.{end_piece, leaf_found, leaf_reached, tree_reaches}
use Rattle.radix_node.proofs.Walks.{on_at, on_below, part_append}
use Rattle.radix_node.proofs.TreeWatches.{get_none, get_some, prefix_end, seek_watch_end}
use Rattle.radix_txn.proofs.TxnTrees.{one_piece}
use Rattle.table_index.specs.Shared.{CellsTell}
use Rattle.table_index.specs.inner.PiecesIn.{HoldTheSame, pairs_under}

-- ---- there is a pair under each node

some_under : (path : List ℕ) (ns : Nodes) → IsShaped path ns → 1 ≤ width ns → pairs_of_nodes ns ≡ [] → ⊥
some_under path no_nodes s some none = omega (arith, some)
some_under path (node [] leaf under later) s some none = s
some_under path (node (b ∷ p) (Some pair) under later) s some none = cc
some_under path (node (b ∷ p) None under later) s some none =
    some_under (path ++ b ∷ p) under s.under (let two : 2 ≤ width under = s.branching in omega (arith, two)) (first_none (pairs_of_nodes under) (pairs_of_nodes later) none)
  where
    first_none : (xs ys : List Pair) → xs ++ ys ≡ [] → xs ≡ []
    first_none [] ys e = refl
    first_none (x ∷ xs) ys e = absurd cc

some_at : (path : List ℕ) (leaf : Option Pair) (under : Nodes) → IsBranching leaf under → IsShaped path under → pairs_of_leaf leaf ++ pairs_of_nodes under ≡ [] → ⊥
some_at path None under branching s none = some_under path under s (let two : 2 ≤ width under = branching in omega (arith, two)) none
some_at path (Some pair) under branching s none = cc

-- ---- where a walk ends, it finds the pairs of its last node, or none

whole_or_none : (rest : List ℕ) (n : CellNode) → (pairs_if rest n ≡ pairs_under (a_node n)) ⊎ (pairs_if rest n ≡ [])
whole_or_none [] n = inl refl
whole_or_none (x ∷ rest) n = inr refl

-- the end of the walk of a node's own path
record IsReached (t : CellTree) (n : CellNode) : Type 0 where
  key : Bytes
  reached : walk_tree key t ≡ record { node = n; rest = n.prefix ++ [] }
  some : pairs_under (a_node n) ≡ [] → ⊥

node_reached : (t : CellTree) → HasShape (plain_of t) → (n : CellNode) → Has (a_node n) (node_pieces t.nodes) → IsReached t n
node_reached t s n h =
    let at = piece_sits n t.nodes h in
    let seat = seated [] at.0 n t.nodes s.nodes at.1 in
    let first = seat.first.2 in record {
      key = at.0 ++ seat.first.0 ∷ seat.first.1;
      reached = tree_reaches t s at.0 n at.1 seat.first.0 seat.first.1 seat.first.1 first ∙ ap (on_at n) (sym first ∙ sym (append-nil n.prefix)) ∙ on_below n [];
      some = some_at (at.0 ++ n.prefix) (plain_leaf n.leaf) _ seat.branching seat.under;
    }

found_there : (n : CellNode) → end_pairs (record { node = n; rest = n.prefix ++ [] }) ≡ pairs_under (a_node n)
found_there n = ap (λ (s : List ℕ × List ℕ × List ℕ). pairs_if s.2 n) (part_append n.prefix [])

-- ---- two trees

module _ (old new : CellTree) (s : HasShape (plain_of old)) (t : HasShape (plain_of new)) (apart : AreApart new) (tell : CellsTell old new) where
  -- pieces of the new tree with one cell are one piece
  one_new : (x y : Piece) → Has x (pieces_of new) → Has y (pieces_of new) → piece_cell x ≡ piece_cell y → x ≡ y
  one_new x y a b same = one_piece (piece_cell y).id (pieces_of new) (apart (piece_cell y).id) x y a b (ap (λ (c : Cell). c.id) same) refl

  -- a watch whose cell is that of a new piece hasn't fired
  unfired : (c : Cell) (y : Piece) → Has y (pieces_of new) → c ≡ piece_cell y → Fires c old new → ⊥
  unfired c y h is f = f.gone (subst (λ (d : Cell). Has d (cells_of new)) (sym is) (has_cell y (pieces_of new) h))

  node_holds : (n : CellNode) → Has (a_node n) (node_pieces old.nodes) → (y : Piece) → Has y (pieces_of new) → n.cell ≡ piece_cell y → pairs_under (a_node n) ≡ pairs_under y
  node_holds n h y there same =
      let at = node_reached old s n h in
      let watched : seek_watch at.key old ≡ n.cell = seek_watch_end old s at.key ∙ ap (λ (e : End). e.node.cell) at.reached in
      let end = walk_tree at.key new in
      elim (tell.held.seek at.key) [
        | inl f ↦ absurd (unfired (seek_watch at.key old) y there (watched ∙ same) f)
        | inr held ↦
            let cell : end.node.cell ≡ piece_cell y = sym (seek_watch_end new t at.key) ∙ held.0 ∙ watched ∙ same in
            let is : a_node end.node ≡ y = one_new (a_node end.node) y (end_piece new t at.key) there cell in
            let pairs : end_pairs end ≡ pairs_under (a_node n) = sym (prefix_end new t at.key) ∙ held.1 ∙ prefix_end old s at.key ∙ ap end_pairs at.reached ∙ found_there n in
            elim (whole_or_none (part end.node.prefix end.rest).2 end.node) [
              | inl whole ↦ sym pairs ∙ whole ∙ ap pairs_under is
              | inr none ↦ absurd (at.some (sym pairs ∙ none))
            ]
      ]

  leaf_holds : (l : CellLeaf) → Has (a_leaf l) (pieces_of old) → (y : Piece) → Has y (pieces_of new) → l.cell ≡ piece_cell y → pairs_under (a_leaf l) ≡ pairs_under y
  leaf_holds l h y there same =
      let key = l.pair.0 in
      let was = get_some old s key l (leaf_reached old s l h) in
      elim (tell.held.get key) [
        | inl f ↦ absurd (unfired (get_watch key old) y there (sym was.0 ∙ same) f)
        | inr held ↦ by_leaf held.0 held.1 was.0 was.1 (end_leaf (walk_tree key new)) refl
      ]
    where
      by_leaf : get_watch l.pair.0 new ≡ get_watch l.pair.0 old → find l.pair.0 (pairs_of (plain_of new)) ≡ find l.pair.0 (pairs_of (plain_of old)) → l.cell ≡ get_watch l.pair.0 old → Some l.pair.1 ≡ find l.pair.0 (pairs_of (plain_of old))
          → (o : Option CellLeaf) → end_leaf (walk_tree l.pair.0 new) ≡ o → pairs_under (a_leaf l) ≡ pairs_under y
      by_leaf watch row cell found None e =
          let none = (get_none new t l.pair.0 e).1 in
          let clash : ◌≡◌ {A = Option Fields} None (Some l.pair.1) = none ∙ row ∙ sym found in
          absurd cc
      by_leaf watch row cell found (Some m) e =
          let is = get_some new t l.pair.0 m e in
          let at = leaf_found new t l.pair.0 m e in
          let one : a_leaf m ≡ y = one_new (a_leaf m) y at.1 there (is.0 ∙ watch ∙ sym cell ∙ same) in
          let rows : Some l.pair.1 ≡ Some m.pair.1 = found ∙ sym row ∙ sym is.1 in
          let row_is : l.pair.1 ≡ m.pair.1 = cc in
          (λ i. (at.0 i, row_is i) ∷ []) ∙ ap pairs_under one

  piece_holds : (x y : Piece) → Has x (leaf_pieces old.leaf ++ node_pieces old.nodes) → Has y (pieces_of new) → piece_cell x ≡ piece_cell y → pairs_under x ≡ pairs_under y
  piece_holds (a_leaf l) y a b same = leaf_holds l (inr a) y b same
  piece_holds (a_node n) y a b same = elim (Has-split (a_node n) (leaf_pieces old.leaf) (node_pieces old.nodes) a) [
    | inl leaf ↦ absurd (node_no_leaf n old.leaf leaf)
    | inr under ↦ node_holds n under y b same
  ]

  -- of all pieces but the roots
  pub hold_the_same : HoldTheSame (leaf_pieces old.leaf ++ node_pieces old.nodes) (leaf_pieces new.leaf ++ node_pieces new.nodes)
  hold_the_same x y a b id =
      piece_holds x y a (inr b) (tell.ids (piece_cell x) (piece_cell y) (has_cell x (pieces_of old) (inr a)) (has_cell y (pieces_of new) (inr b)) id)
