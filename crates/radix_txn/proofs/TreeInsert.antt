-- What an insert does to a whole tree.
use Rattle.std.proofs.Common.{◌≡◌, ◌++◌, ◌∷◌, ◌∙◌, ℕ, List, [], refl, sym, ap}
use Rattle.mdb_datum.specs.Row.{Fields, Pair}
use Rattle.radix_node.specs.Pairs.{put}
use Rattle.radix_node.specs.Nodes.{Plain, pairs_of_leaf, pairs_of_nodes, pairs_of}
use Rattle.radix_node.specs.Shape.{HasShape}
use Rattle.radix_node.proofs.KeyOrder.{Each-weaken, put_back}
use Rattle.radix_node.proofs.KeysUnder.{Any, Past, below_past, Past-end, leaf_greater}
use Rattle.radix_txn.specs.inner.Edits.{insert_plain}
use Rattle.radix_txn.proofs.InsertPairs.{at_end, pairs_insert}
use Rattle.radix_txn.proofs.InsertShape.{shaped_insert}

-- an insert puts the pair
pub put_plain : (key : List ℕ) (row : Fields) (t : Plain) → HasShape t → pairs_of (insert_plain key row t) ≡ put key row (pairs_of t)
put_plain [] row t s = at_end ([], row) t.leaf (pairs_of_nodes t.nodes) s.keyed (Each-weaken (Past Any []) _ _ (Past-end Any [] [] refl) (below_past [] t.nodes s.nodes))
put_plain (x ∷ k) row t s =
    sym (put_back (x ∷ k) row (pairs_of_leaf t.leaf) (pairs_of_nodes t.nodes) (leaf_greater [] (x ∷ k) x k refl t.leaf s.keyed)
    ∙ ap (λ (ps : List Pair). pairs_of_leaf t.leaf ++ ps) (sym (pairs_insert [] (x ∷ k) (x ∷ k, row) t.nodes (λ e. cc) s.nodes refl)))

-- and keeps the shape
pub shape_plain : (key : List ℕ) (row : Fields) (t : Plain) → HasShape t → HasShape (insert_plain key row t)
shape_plain [] row t s = record { keyed = refl; nodes = s.nodes }
shape_plain (x ∷ k) row t s = record { keyed = s.keyed; nodes = shaped_insert [] (x ∷ k) (x ∷ k, row) t.nodes (λ e. cc) s.nodes refl }
