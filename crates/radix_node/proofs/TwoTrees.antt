-- Of two trees in which an id tells its piece: what is watched in the old one fires, or is as it
-- was.
use Rattle.std.proofs.Common.{◌≡◌, ◌⊎◌, inl, inr, ◌∙◌, Option, Some, None, refl, sym, ap, subst}
use Rattle.mdb_datum.specs.Bytes.{Bytes}
use Rattle.watch_word.specs.Logs.{Cell}
use Rattle.radix_node.specs.Cells.{CellLeaf, CellTree, Piece, a_node, a_leaf, piece_cell, plain_of, pieces_of}
use Rattle.radix_node.specs.Shape.{HasShape}
use Rattle.radix_node.specs.Paths.{Has}
use Rattle.radix_node.specs.Watches.{Fires, TellTheSame, leaf_cell_or}
use Rattle.radix_node.specs.WalkDown.{End, walk_tree, end_leaf}
use Rattle.radix_node.proofs.Members.{has_cell, cell_piece, with_id}
use Rattle.radix_node.proofs.WalkedTree.{end_piece, leaf_reached, leaf_found, same_walk}

-- the cell where a walk ends
abbrev pub end_cell : End → Cell
end_cell e = leaf_cell_or e.node.cell (end_leaf e)

module _ (old new : CellTree) (s : HasShape (plain_of old)) (t : HasShape (plain_of new)) (agree : TellTheSame old new) where
  -- a piece of the old tree is one of the new tree too, or its cell fires
  pub stays_or_fires : (x : Piece) → Has x (pieces_of old) → Has x (pieces_of new) ⊎ Fires (piece_cell x) old new
  stays_or_fires x h =
      elim (with_id (piece_cell x).id (pieces_of new)) [
        | inl w ↦ inl (subst (λ (z : Piece). Has z (pieces_of new)) (sym (agree x w.0 h w.1 (sym w.2))) w.1)
        | inr f ↦ inr (record {
          left = has_cell x (pieces_of old) h;
          gone = λ c. let w = cell_piece (piece_cell x) (pieces_of new) c in f w.0 w.1 (ap (λ (z : Cell). z.id) w.2);
        })
      ]

  -- the walk of a key ends as it did
  pub walk_or_fires : (key : Bytes) → (walk_tree key new ≡ walk_tree key old) ⊎ Fires (walk_tree key old).node.cell old new
  walk_or_fires key =
      elim (stays_or_fires (a_node (walk_tree key old).node) (end_piece old s key)) [
        | inl h ↦ inl (same_walk old new s t key h)
        | inr f ↦ inr f
      ]

  abbrev FindsSame : Bytes → Type 0
  FindsSame key = (end_cell (walk_tree key new) ≡ end_cell (walk_tree key old)) × (end_leaf (walk_tree key new) ≡ end_leaf (walk_tree key old))

  by_leaf : (key : Bytes) (o : Option CellLeaf) → end_leaf (walk_tree key old) ≡ o → Fires (end_cell (walk_tree key old)) old new ⊎ FindsSame key
  by_leaf key None e =
      elim (walk_or_fires key) [
        | inl same ↦ inr (ap end_cell same, ap end_leaf same)
        | inr f ↦ inl (subst (λ (c : Cell). Fires c old new) (ap (leaf_cell_or (walk_tree key old).node.cell) (sym e)) f)
      ]
  by_leaf key (Some l) e =
      let found = leaf_found old s key l e in
      let was : end_cell (walk_tree key old) ≡ l.cell = ap (leaf_cell_or (walk_tree key old).node.cell) e in
      elim (stays_or_fires (a_leaf l) found.1) [
        | inl h ↦
            let is : end_leaf (walk_tree key new) ≡ Some l = ap (λ (z : Bytes). end_leaf (walk_tree z new)) found.0 ∙ leaf_reached new t l h in
            inr (ap (leaf_cell_or (walk_tree key new).node.cell) is ∙ sym was, is ∙ sym e)
        | inr f ↦ inl (subst (λ (c : Cell). Fires c old new) (sym was) f)
      ]

  pub holds_at : (key : Bytes) → Fires (end_cell (walk_tree key old)) old new ⊎ FindsSame key
  holds_at key = by_leaf key (end_leaf (walk_tree key old)) refl
