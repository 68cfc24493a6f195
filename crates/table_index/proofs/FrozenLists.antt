-- The ends of changes, index by index.
use Rattle.std.proofs.Common.{◌≡◌, ◌∷◌, ◌++◌, [], ℕ, zero, suc, List, Some, slice_get, subst}
use Rattle.watch_word.specs.Logs.{Cell}
use Rattle.radix_node.specs.Cells.{CellTree}
use Rattle.table_index.specs.Frozen.{AreFrozen, IsFrozen}

-- one more
pub frozen_more : (notices : List (List Cell)) (start trees : List CellTree) (gone : List Cell) (old new : CellTree) → AreFrozen notices start trees → IsFrozen gone old new
    → AreFrozen (notices ++ gone ∷ []) (start ++ old ∷ []) (trees ++ new ∷ [])
frozen_more [] [] [] gone old new all one = (one, tt)
frozen_more [] [] (t ∷ trees) gone old new all one = absurd all
frozen_more [] (s ∷ start) trees gone old new all one = absurd all
frozen_more (n ∷ notices) [] trees gone old new all one = absurd all
frozen_more (n ∷ notices) (s ∷ start) [] gone old new all one = absurd all
frozen_more (n ∷ notices) (s ∷ start) (t ∷ trees) gone old new all one = (all.0, frozen_more notices start trees gone old new all.1 one)

-- that of the index at a place
pub frozen_at : (notices : List (List Cell)) (start trees : List CellTree) (place : ℕ) (old new : CellTree) → AreFrozen notices start trees → slice_get start place ≡ Some old → slice_get trees place ≡ Some new
    → (gone : List Cell) × IsFrozen gone old new
frozen_at [] [] trees place old new all was now = cc
frozen_at [] (s ∷ start) trees place old new all was now = absurd all
frozen_at (n ∷ notices) [] trees place old new all was now = cc
frozen_at (n ∷ notices) (s ∷ start) [] place old new all was now = absurd all
frozen_at (n ∷ notices) (s ∷ start) (t ∷ trees) zero old new all was now =
    let before : s ≡ old = cc in
    let after : t ≡ new = cc in
    (n, subst (λ (x : CellTree). IsFrozen n old x) after (subst (λ (x : CellTree). IsFrozen n x t) before all.0))
frozen_at (n ∷ notices) (s ∷ start) (t ∷ trees) (suc place) old new all was now = frozen_at notices start trees place old new all.1 was now
