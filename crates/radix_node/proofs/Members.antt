-- The pieces of trees, and their cells.
use Rattle.std.proofs.Common.{◌≡◌, ◌≢◌, ◌⊎◌, inl, inr, ◌∷◌, ◌∙◌, ℕ, List, [], map, Option, Some, None, refl, sym, ap, subst, true, false}
use Rattle.std.specs.Prelude.{nat_eq}
use Rattle.std.proofs.lemmas.Bool.{eqb-true, eq-eqb, false≢true}
use Rattle.watch_word.specs.Logs.{Cell}
use Rattle.radix_node.specs.Cells.{CellLeaf, CellNode, Piece, a_node, a_leaf, piece_cell, leaf_pieces}
use Rattle.radix_node.specs.Paths.{Has}

-- a piece's cell is among the cells
pub has_cell : (x : Piece) (xs : List Piece) → Has x xs → Has (piece_cell x) (map piece_cell xs)
has_cell x [] h = absurd h
has_cell x (y ∷ xs) (inl e) = inl (ap piece_cell e)
has_cell x (y ∷ xs) (inr h) = inr (has_cell x xs h)

-- a cell has its piece
pub cell_piece : (c : Cell) (xs : List Piece) → Has c (map piece_cell xs) → (x : Piece) × Has x xs × (piece_cell x ≡ c)
cell_piece c [] h = absurd h
cell_piece c (y ∷ xs) (inl e) = (y, inl refl, sym e)
cell_piece c (y ∷ xs) (inr h) = let w = cell_piece c xs h in (w.0, inr w.1, w.2)

-- a piece with an id is there, or none is
pub with_id : (i : ℕ) (xs : List Piece) → ((x : Piece) × Has x xs × ((piece_cell x).id ≡ i)) ⊎ ((x : Piece) → Has x xs → (piece_cell x).id ≢ i)
with_id i [] = inr (λ x h. absurd h)
with_id i (y ∷ xs) =
    elim (nat_eq (piece_cell y).id i) as (λ b. nat_eq (piece_cell y).id i ≡ b → ((x : Piece) × Has x (y ∷ xs) × ((piece_cell x).id ≡ i)) ⊎ ((x : Piece) → Has x (y ∷ xs) → (piece_cell x).id ≢ i)) [
      | true ↦ λ b. inl (y, inl refl, eqb-true (piece_cell y).id i b)
      | false ↦ λ b. elim (with_id i xs) [
        | inl w ↦ inl (w.0, inr w.1, w.2)
        | inr f ↦ inr (λ x h. elim h [
          | inl e ↦ λ same. false≢true (sym b ∙ eq-eqb (piece_cell y).id i (ap (λ (z : Piece). (piece_cell z).id) (sym e) ∙ same))
          | inr g ↦ f x g
        ])
      ]
    ] refl

-- ---- pieces of two kinds

abbrev pub node_or : CellNode → Piece → CellNode
node_or n (a_node m) = m
node_or n (a_leaf l) = n

abbrev pub leaf_or : CellLeaf → Piece → CellLeaf
leaf_or l (a_node m) = l
leaf_or l (a_leaf m) = m

pub same_node : (n m : CellNode) → a_node n ≡ a_node m → n ≡ m
same_node n m e = ap (node_or n) e

pub same_leaf : (l m : CellLeaf) → a_leaf l ≡ a_leaf m → l ≡ m
same_leaf l m e = ap (leaf_or l) e

pub no_leaf_node : (n : CellNode) (l : CellLeaf) → a_node n ≡ a_leaf l → ⊥
no_leaf_node n l e = cc

pub node_no_leaf : (n : CellNode) (leaf : Option CellLeaf) → Has (a_node n) (leaf_pieces leaf) → ⊥
node_no_leaf n None h = h
node_no_leaf n (Some l) (inl e) = no_leaf_node n l e
node_no_leaf n (Some l) (inr h) = h

pub leaf_is : (l : CellLeaf) (leaf : Option CellLeaf) → Has (a_leaf l) (leaf_pieces leaf) → leaf ≡ Some l
leaf_is l None h = absurd h
leaf_is l (Some m) (inl e) = ap Some (sym (same_leaf l m e))
leaf_is l (Some m) (inr h) = absurd h

pub leaf_has : (l : CellLeaf) (leaf : Option CellLeaf) → leaf ≡ Some l → Has (a_leaf l) (leaf_pieces leaf)
leaf_has l leaf e = subst (λ (o : Option CellLeaf). Has (a_leaf l) (leaf_pieces o)) (sym e) (inl refl)
