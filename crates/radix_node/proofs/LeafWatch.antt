-- The leaf at the end of a key's walk is the one with the key.
use Rattle.std.proofs.Common.{◌≡◌, inl, inr, ◌++◌, ◌∷◌, ◌∙◌, true, false, cond, List, [], map, Option, Some, None, option_map, refl, sym, ap, is_eq}
use Rattle.mdb_datum.specs.Bytes.{Bytes, byte_order}
use Rattle.mdb_datum.specs.Row.{Fields, Pair}
use Rattle.radix_node.specs.Cells.{CellLeaf, CellNodes, no_cells, celled, CellTree, a_leaf, leaf_pieces, node_pieces, pieces_of, plain_leaf, plain_nodes, plain_of, leaf_list, node_leaves, leaves_of}
use Rattle.radix_node.specs.Nodes.{pairs_of_leaf, pairs_of_nodes, pairs_of}
use Rattle.radix_node.specs.Pairs.{find}
use Rattle.radix_node.specs.Shape.{HasShape}
use Rattle.radix_node.specs.Paths.{Has}
use Rattle.radix_node.specs.Watches.{leaf_with}
use Rattle.radix_node.specs.WalkDown.{walk_tree, end_leaf}
use Rattle.radix_node.proofs.Lookup.{row_of_pair}
use Rattle.radix_node.proofs.Paths.{Has-left, Has-right, Has-split}
use Rattle.radix_node.proofs.WalkedTree.{leaf_reached}
use Rattle.radix_node.proofs.Walks.{get_end}
use Rattle.radix_node.proofs.WholeTree.{find_plain}
use Rattle.mdb_datum.proofs.ByteOrder.{same_from_byte_order, equal_from_is_eq}

-- ---- the leaves and the pairs

abbrev pair_in : CellLeaf → Pair
pair_in l = l.pair

map_append : (xs ys : List CellLeaf) → map pair_in (xs ++ ys) ≡ map pair_in xs ++ map pair_in ys
map_append [] ys = refl
map_append (x ∷ xs) ys = ap (λ (zs : List Pair). x.pair ∷ zs) (map_append xs ys)

own_pair : (leaf : Option CellLeaf) → map pair_in (leaf_list leaf) ≡ pairs_of_leaf (plain_leaf leaf)
own_pair None = refl
own_pair (Some l) = refl

pairs_of_leaves : (ns : CellNodes) → map pair_in (node_leaves ns) ≡ pairs_of_nodes (plain_nodes ns)
pairs_of_leaves no_cells = refl
pairs_of_leaves (celled cell prefix leaf under later) =
    map_append (leaf_list leaf) (node_leaves under ++ node_leaves later)
    ∙ (λ i. own_pair leaf i ++ (map_append (node_leaves under) (node_leaves later) ∙ (λ j. pairs_of_leaves under j ++ pairs_of_leaves later j)) i)

pub tree_pairs : (t : CellTree) → map pair_in (leaves_of t) ≡ pairs_of (plain_of t)
tree_pairs t = map_append (leaf_list t.leaf) (node_leaves t.nodes) ∙ (λ i. own_pair t.leaf i ++ pairs_of_leaves t.nodes i)

-- ---- the leaves and the pieces

own_piece : (l : CellLeaf) (leaf : Option CellLeaf) → Has l (leaf_list leaf) → Has (a_leaf l) (leaf_pieces leaf)
own_piece l None h = h
own_piece l (Some m) (inl e) = inl (ap a_leaf e)
own_piece l (Some m) (inr h) = absurd h

leaf_piece : (l : CellLeaf) (ns : CellNodes) → Has l (node_leaves ns) → Has (a_leaf l) (node_pieces ns)
leaf_piece l no_cells h = h
leaf_piece l (celled cell prefix leaf under later) h =
    inr (elim (Has-split l (leaf_list leaf) (node_leaves under ++ node_leaves later) h) [
      | inl a ↦ Has-left (a_leaf l) (leaf_pieces leaf) (node_pieces under ++ node_pieces later) (own_piece l leaf a)
      | inr b ↦ Has-right (a_leaf l) (leaf_pieces leaf) (node_pieces under ++ node_pieces later) (elim (Has-split l (node_leaves under) (node_leaves later) b) [
        | inl c ↦ Has-left (a_leaf l) (node_pieces under) (node_pieces later) (leaf_piece l under c)
        | inr d ↦ Has-right (a_leaf l) (node_pieces under) (node_pieces later) (leaf_piece l later d)
      ])
    ])

pub tree_leaf_piece : (l : CellLeaf) (t : CellTree) → Has l (leaves_of t) → Has (a_leaf l) (pieces_of t)
tree_leaf_piece l t h =
    inr (elim (Has-split l (leaf_list t.leaf) (node_leaves t.nodes) h) [
      | inl a ↦ Has-left (a_leaf l) (leaf_pieces t.leaf) (node_pieces t.nodes) (own_piece l t.leaf a)
      | inr b ↦ Has-right (a_leaf l) (leaf_pieces t.leaf) (node_pieces t.nodes) (leaf_piece l t.nodes b)
    ])

-- ---- the leaf with a key

pub with_key : (key : Bytes) (ls : List CellLeaf) (l : CellLeaf) → leaf_with key ls ≡ Some l → Has l ls × (key ≡ l.pair.0)
with_key key [] l e = absurd cc
with_key key (m ∷ ls) l e =
    elim (is_eq (byte_order key m.pair.0)) as (λ b. is_eq (byte_order key m.pair.0) ≡ b → cond b (Some m) (leaf_with key ls) ≡ Some l → Has l (m ∷ ls) × (key ≡ l.pair.0)) [
      | true ↦ λ b f. let same : m ≡ l = cc in (inl (sym same), same_from_byte_order key m.pair.0 (equal_from_is_eq (byte_order key m.pair.0) b) ∙ ap (λ (z : CellLeaf). z.pair.0) same)
      | false ↦ λ b f. let w = with_key key ls l f in (inr w.0, w.1)
    ] refl e

abbrev row_in_leaf : Option CellLeaf → Option Fields
row_in_leaf o = option_map (λ (l : CellLeaf). l.pair.1) o

find_leaf : (key : Bytes) (ls : List CellLeaf) → find key (map pair_in ls) ≡ row_in_leaf (leaf_with key ls)
find_leaf key [] = refl
find_leaf key (m ∷ ls) =
    elim (is_eq (byte_order key m.pair.0)) as (λ b. cond b (Some m.pair.1) (find key (map pair_in ls)) ≡ row_in_leaf (cond b (Some m) (leaf_with key ls))) [
      | true ↦ refl
      | false ↦ find_leaf key ls
    ]

no_row : (o : Option CellLeaf) → row_of_pair (plain_leaf o) ≡ None → o ≡ None
no_row None e = refl
no_row (Some l) e = absurd cc

pub leaf_with_end : (key : Bytes) (t : CellTree) → HasShape (plain_of t) → leaf_with key (leaves_of t) ≡ end_leaf (walk_tree key t)
leaf_with_end key t s = by_leaf (leaf_with key (leaves_of t)) refl
  where
    by_leaf : (o : Option CellLeaf) → leaf_with key (leaves_of t) ≡ o → o ≡ end_leaf (walk_tree key t)
    by_leaf (Some l) e =
        let w = with_key key (leaves_of t) l e in
        sym (ap (λ (z : Bytes). end_leaf (walk_tree z t)) w.1 ∙ leaf_reached t s l (tree_leaf_piece l t w.0))
    by_leaf None e =
        let none : row_of_pair (plain_leaf (end_leaf (walk_tree key t))) ≡ None =
        ap row_of_pair (sym (get_end key t)) ∙ sym (find_plain key (plain_of t) s) ∙ ap (find key) (sym (tree_pairs t)) ∙ find_leaf key (leaves_of t) ∙ ap row_in_leaf e in
        sym (no_row (end_leaf (walk_tree key t)) none)
