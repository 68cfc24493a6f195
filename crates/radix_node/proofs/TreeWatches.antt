-- The watches of a key and of a prefix hold between two trees in which an id tells its piece.
use Rattle.std.proofs.Common.{◌≡◌, inl, inr, ◌∙◌, Option, Some, None, refl, sym, ap, subst}
use Rattle.mdb_datum.specs.Bytes.{Bytes}
use Rattle.watch_word.specs.Logs.{Cell}
use Rattle.radix_node.specs.Cells.{CellLeaf, CellTree, a_leaf, a_node, cells_of, pieces_of, plain_leaf, plain_of}
use Rattle.radix_node.specs.Nodes.{pairs_of}
use Rattle.radix_node.specs.Pairs.{find, with_prefix}
use Rattle.radix_node.specs.Paths.{Has}
use Rattle.radix_node.specs.Shape.{HasShape}
use Rattle.radix_node.specs.Watches.{Fires, TellTheSame, HoldsGet, HoldsSeek, HoldsWatched, leaf_cell_or, get_watch, seek_watch}
use Rattle.radix_node.specs.WalkDown.{End, walk_tree, end_leaf, end_pairs}
use Rattle.radix_node.proofs.LeafWatch.{leaf_with_end}
use Rattle.radix_node.proofs.Lookup.{row_of_pair}
use Rattle.radix_node.proofs.Members.{has_cell}
use Rattle.radix_node.proofs.NearPlaces.{near_end_cell}
use Rattle.radix_node.proofs.PrefixSeek.{with_prefix_plain}
use Rattle.radix_node.proofs.TwoTrees.{end_cell, holds_at, walk_or_fires}
use Rattle.radix_node.proofs.WalkedTree.{end_piece, leaf_found}
use Rattle.radix_node.proofs.Walks.{get_end, scan_end}
use Rattle.radix_node.proofs.WholeTree.{find_plain}

module _ (t : CellTree) (s : HasShape (plain_of t)) where
  -- the watches are those of the walk
  pub get_watch_end : (key : Bytes) → get_watch key t ≡ end_cell (walk_tree key t)
  get_watch_end key = λ i. leaf_cell_or (near_end_cell key t s i) (leaf_with_end key t s i)

  pub seek_watch_end : (prefix : Bytes) → seek_watch prefix t ≡ (walk_tree prefix t).node.cell
  seek_watch_end prefix = near_end_cell prefix t s

  -- and so is what is found
  pub find_end : (key : Bytes) → find key (pairs_of (plain_of t)) ≡ row_of_pair (plain_leaf (end_leaf (walk_tree key t)))
  find_end key = find_plain key (plain_of t) s ∙ ap row_of_pair (get_end key t)

  pub prefix_end : (prefix : Bytes) → with_prefix prefix (pairs_of (plain_of t)) ≡ end_pairs (walk_tree prefix t)
  prefix_end prefix = with_prefix_plain prefix (plain_of t) s ∙ scan_end prefix t

  -- a leaf is found, or there is none
  pub get_some : (key : Bytes) (l : CellLeaf) → end_leaf (walk_tree key t) ≡ Some l → (l.cell ≡ get_watch key t) × (Some l.pair.1 ≡ find key (pairs_of (plain_of t)))
  get_some key l e = (
    sym (get_watch_end key ∙ ap (leaf_cell_or (walk_tree key t).node.cell) e),
    sym (find_end key ∙ ap (λ o. row_of_pair (plain_leaf o)) e),
  )

  pub get_none : (key : Bytes) → end_leaf (walk_tree key t) ≡ None → ((walk_tree key t).node.cell ≡ get_watch key t) × (None ≡ find key (pairs_of (plain_of t)))
  get_none key e = (
    sym (get_watch_end key ∙ ap (leaf_cell_or (walk_tree key t).node.cell) e),
    sym (find_end key ∙ ap (λ o. row_of_pair (plain_leaf o)) e),
  )

module _ (old new : CellTree) (s : HasShape (plain_of old)) (t : HasShape (plain_of new)) (agree : TellTheSame old new) where
  holds_get : (key : Bytes) → HoldsGet old new key
  holds_get key =
      elim (holds_at old new s t agree key) [
        | inl f ↦ inl (subst (λ (c : Cell). Fires c old new) (sym (get_watch_end old s key)) f)
        | inr same ↦ inr (
          get_watch_end new t key ∙ same.0 ∙ sym (get_watch_end old s key),
          find_end new t key ∙ ap (λ o. row_of_pair (plain_leaf o)) same.1 ∙ sym (find_end old s key),
        )
      ]

  holds_seek : (prefix : Bytes) → HoldsSeek old new prefix
  holds_seek prefix =
      elim (walk_or_fires old new s t agree prefix) [
        | inl same ↦ inr (
          seek_watch_end new t prefix ∙ ap (λ (e : End). e.node.cell) same ∙ sym (seek_watch_end old s prefix),
          prefix_end new t prefix ∙ ap end_pairs same ∙ sym (prefix_end old s prefix),
        )
        | inr f ↦ inl (subst (λ (c : Cell). Fires c old new) (sym (seek_watch_end old s prefix)) f)
      ]

  pub holds_watched : HoldsWatched old new
  holds_watched = record { get = holds_get; seek = holds_seek }

-- ---- a watch is a cell of its tree

pub seek_watch_has : (t : CellTree) → HasShape (plain_of t) → (prefix : Bytes) → Has (seek_watch prefix t) (cells_of t)
seek_watch_has t s prefix =
    subst (λ (c : Cell). Has c (cells_of t)) (sym (seek_watch_end t s prefix)) (has_cell (a_node (walk_tree prefix t).node) (pieces_of t) (end_piece t s prefix))

pub get_watch_has : (t : CellTree) → HasShape (plain_of t) → (key : Bytes) → Has (get_watch key t) (cells_of t)
get_watch_has t s key =
    subst (λ (c : Cell). Has c (cells_of t)) (sym (get_watch_end t s key)) (by_leaf (end_leaf (walk_tree key t)) refl)
  where
    by_leaf : (o : Option CellLeaf) → end_leaf (walk_tree key t) ≡ o → Has (end_cell (walk_tree key t)) (cells_of t)
    by_leaf None e =
        subst (λ (o : Option CellLeaf). Has (leaf_cell_or (walk_tree key t).node.cell o) (cells_of t)) (sym e) (has_cell (a_node (walk_tree key t).node) (pieces_of t) (end_piece t s key))
    by_leaf (Some l) e =
        subst (λ (o : Option CellLeaf). Has (leaf_cell_or (walk_tree key t).node.cell o) (cells_of t)) (sym e) (has_cell (a_leaf l) (pieces_of t) (leaf_found t s key l e).1)
