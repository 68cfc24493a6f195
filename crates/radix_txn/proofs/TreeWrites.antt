-- A whole tree after an insert: its pairs, its shape and how many keys it has.
use Rattle.std.proofs.Common.{◌≡◌, ◌+◌, ◌∷◌, ◌∙◌, ℕ, cond, List, [], length, Option, is_some, refl, sym, ap, subst}
use Rattle.mdb_datum.specs.Row.{Fields, Pair}
use Rattle.radix_node.specs.Node.{PlainNode, below}
use Rattle.radix_node.specs.Nodes.{Plain, pairs_of}
use Rattle.radix_node.specs.Pairs.{find, put}
use Rattle.radix_node.specs.Shape.{HasShape}
use Rattle.radix_node.specs.Seek.{seek_plain}
use Rattle.radix_node.proofs.PairLaws.{length-put}
use Rattle.radix_node.proofs.WholeTree.{rising_plain, find_plain}
use Rattle.radix_txn.specs.inner.Below.{row_in, over, insert_below}
use Rattle.radix_txn.specs.inner.Edits.{insert_plain}
use Rattle.radix_txn.proofs.TreeInsert.{put_plain, shape_plain}

pub found_row : (key : List ℕ) (t : Plain) → HasShape t → row_in (seek_plain key t) ≡ find key (pairs_of t)
found_row key t s = sym (find_plain key t s)

insert_same : (key : List ℕ) (fields : Fields) (t : Plain) → insert_below (key, fields) key t ≡ insert_plain key fields t
insert_same [] fields t = refl
insert_same (x ∷ key) fields t = refl

module _ (key : List ℕ) (fields : Fields) (t : Plain) (s : HasShape t) (r : PlainNode) (root : PlainNode) (pair : Pair) (is_root : below root ≡ t) (is_pair : pair ≡ (key, fields)) (is : r ≡ over root (insert_below pair key (below root))) where
  inserted : below r ≡ insert_plain key fields t
  inserted = ap below is ∙ (λ i. insert_below (is_pair i) key (is_root i)) ∙ insert_same key fields t

  pub inserted_pairs : pairs_of (below r) ≡ put key fields (pairs_of t)
  inserted_pairs = ap pairs_of inserted ∙ put_plain key fields t s

  pub inserted_shape : HasShape (below r)
  inserted_shape = subst HasShape (sym inserted) (shape_plain key fields t s)

  pub inserted_count : (o : Option Fields) → o ≡ find key (pairs_of t) → length (pairs_of (below r)) ≡ cond (is_some o) (length (pairs_of t)) (length (pairs_of t) + 1)
  inserted_count o e = ap length inserted_pairs ∙ length-put key fields (pairs_of t) (rising_plain t s) ∙ ap (λ (z : Option Fields). cond (is_some z) (length (pairs_of t)) (length (pairs_of t) + 1)) (sym e)
