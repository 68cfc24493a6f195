-- Pieces that are taken from the levels of a walk, of which the last comes first.
use Rattle.std.proofs.Common.{◌≡◌, ◌-◌, ◌++◌, ◌∷◌, ◌∙◌, ℕ, List, [], length, map, take, slice_get, slice_set, Option, Some, refl, sym, ap, arith, append_assoc, length-append}
use Rattle.std.proofs.lemmas.List.{append-nil, set_at, take_at}
use Rattle.radix_iter.proofs.EndSteps.{up_to_last}
use Rattle.radix_node.specs.CellNode.{led_node}
use Rattle.radix_node.specs.Cells.{Piece, cells_in, node_pieces}
use Rattle.radix_node.specs.declared.edge.Edge.{Edge}
use Rattle.table_index.specs.inner.PiecesIn.{all_of}
use Rattle.table_index.specs.inner.PiecesLeft.{level_pieces, part_piece, part_pieces, pieces_left}
use Rattle.table_index.specs.declared.pieces.Level.{Level}
use Rattle.table_index.specs.declared.pieces.Part.{Part}

pub left_snoc : (ls : List Level) (l : Level) → pieces_left (ls ++ l ∷ []) ≡ level_pieces l ++ pieces_left ls
left_snoc [] l = sym (append-nil (level_pieces l))
left_snoc (k ∷ ls) l = ap (λ (ps : List Piece). ps ++ level_pieces k) (left_snoc ls l) ∙ append_assoc (level_pieces l) (pieces_left ls) (level_pieces k)

abbrev at_edges : List Edge → List Piece
at_edges es = node_pieces (cells_in (map led_node es))

module _ (items : List Level) (x : Level) (there : Some x ≡ slice_get items (length items - 1)) where
  abbrev front : List Level
  front = (up_to_last items x there).0

  is : items ≡ front ++ x ∷ []
  is = (up_to_last items x there).1

  at_last : length front ≡ length items - 1
  at_last = omega (arith, ap length is, length-append front (x ∷ []))

  all_left : pieces_left items ≡ level_pieces x ++ pieces_left front
  all_left = ap pieces_left is ∙ left_snoc front x

  -- another level in the place of the last
  put_left : (y : Level) (new : List Level) → new ≡ slice_set items (length items - 1) y → pieces_left new ≡ level_pieces y ++ pieces_left front
  put_left y new e =
      ap pieces_left (e ∙ ap (λ (ls : List Level). slice_set ls (length items - 1) y) is ∙ set_at front x [] y (length items - 1) at_last)
      ∙ left_snoc front y

  -- the first pieces of the last level are taken
  pub pieces_taken : (first : List Piece) (y : Level) (new : List Level) → level_pieces x ≡ first ++ level_pieces y → new ≡ slice_set items (length items - 1) y
      → pieces_left items ≡ first ++ pieces_left new
  pieces_taken first y new split e =
      all_left ∙ ap (λ (ps : List Piece). ps ++ pieces_left front) split
      ∙ append_assoc first (level_pieces y) (pieces_left front)
      ∙ ap (λ (ps : List Piece). first ++ ps) (sym (put_left y new e))

  -- a level with nothing left is taken off
  pub level_taken : (len : ℕ) (new : List Level) → level_pieces x ≡ [] → len ≡ length items → new ≡ take (len - 1) items → pieces_left new ≡ pieces_left items
  level_taken len new none all e =
      ap pieces_left (e ∙ ap (λ n. take (n - 1) items) all ∙ ap (λ n. take n items) (sym at_last) ∙ ap (take (length front)) is ∙ take_at front (x ∷ []) (length front) refl)
      ∙ sym (all_left ∙ ap (λ (ps : List Piece). ps ++ pieces_left front) none)

-- the piece that was taken from the levels comes first
pub front_first : (p : Option Part) (x : Part) (rest all : List Piece) → all ≡ part_pieces p ++ rest → p ≡ Some x → all ≡ all_of (part_piece x) ++ rest
front_first p x rest all e is = e ∙ ap (λ (o : Option Part). part_pieces o ++ rest) is
