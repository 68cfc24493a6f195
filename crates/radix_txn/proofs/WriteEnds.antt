-- A transaction's write ends: its keys are written too.
use Rattle.std.proofs.Common.{◌≡◌, ◌++◌, ◌∷◌, ◌∙◌, ℕ, List, [], length, arith, Option, Some, None, IsSome, sym, ap, subst}
use Rattle.std.proofs.lemmas.Bool.{false≢true}
use Rattle.mdb_datum.specs.Bytes.{Bytes}
use Rattle.mdb_datum.specs.Row.{Fields, Pair}
use Rattle.radix_node.specs.Cells.{CellTree, pieces_of, plain_of, root_of}
use Rattle.radix_node.specs.Nodes.{pairs_of}
use Rattle.radix_node.specs.Pairs.{find, put, with_prefix}
use Rattle.radix_node.specs.Shape.{HasShape}
use Rattle.radix_txn.specs.Kept.{AreWritten, deleted_key, deleted_keys}
use Rattle.radix_txn.specs.declared.target.Target.{Target}
use Rattle.radix_txn.specs.declared.target.Target.TheVariants.{Key, Prefix}
use Rattle.radix_txn.specs.inner.Outside.{AllIn, outside_node}
use Rattle.radix_txn.specs.inner.Removal.{IsAbsent, IsTaken, TakesNone, taken_keys}
use Rattle.radix_txn.proofs.KeptInTurn.{written_twice}
use Rattle.radix_txn.proofs.KeysAfter.{keys_of, none_begin}
use Rattle.radix_txn.proofs.PrefixWritten.{prefix_written}
use Rattle.radix_txn.proofs.WrittenOnce.{deleted_written, put_written}

module _ (start tree held new end : CellTree) (is : held ≡ tree) (to : end ≡ new) (s : HasShape (plain_of start)) (shapes : HasShape (plain_of held) × HasShape (plain_of new)) (before : List Bytes) (w : AreWritten start tree before) where
  ends : (keys : List Bytes) → AreWritten held new keys → AreWritten start end (keys ++ before)
  ends keys once =
      subst (λ (z : CellTree). AreWritten start z (keys ++ before)) (sym to)
      (written_twice start held new s shapes.0 before keys (subst (λ (z : CellTree). AreWritten start z before) (sym is) w) once)

  pub put_ends : (key : Bytes) (row : Fields) → AllIn (outside_node Key key (root_of held)) (pieces_of new) → pairs_of (plain_of new) ≡ put key row (pairs_of (plain_of held)) → AreWritten start end (key ∷ before)
  put_ends key row stays pairs = ends (key ∷ []) (put_written key held new shapes.0 shapes.1 stays row pairs)

  delete_ends : (key : Bytes) (row : Option Fields) (count : ℕ) → AllIn (outside_node Key key (root_of held)) (pieces_of new) → IsTaken Key key (pairs_of (plain_of held)) (pairs_of (plain_of new)) row count → AreWritten start end (deleted_key key row before)
  delete_ends key row count stays taken =
      by_row row (subst IsSome (sym taken.old) taken.there)
    where
      by_row : (o : Option Fields) → IsSome o → AreWritten start end (deleted_key key o before)
      by_row None some = absurd (false≢true some)
      by_row (Some fields) some = ends (key ∷ []) (deleted_written key held new shapes.0 shapes.1 stays taken.kept)

  prefix_ends : (prefix : Bytes) (row : Option Fields) (count : ℕ) → AllIn (outside_node Prefix prefix (root_of held)) (pieces_of new) → IsTaken Prefix prefix (pairs_of (plain_of held)) (pairs_of (plain_of new)) row count → AreWritten start end (deleted_keys prefix (pairs_of (plain_of tree)) before)
  prefix_ends prefix row count stays taken =
      subst (λ (z : CellTree). AreWritten start end (deleted_keys prefix (pairs_of (plain_of z)) before)) is
      (ends (keys_of (with_prefix prefix (pairs_of (plain_of held)))) (prefix_written prefix held new shapes.0 shapes.1 stays taken.there taken.kept))

  pub taken_ends : (target : Target) (key : Bytes) (row : Option Fields) (count : ℕ) → AllIn (outside_node target key (root_of held)) (pieces_of new) → IsTaken target key (pairs_of (plain_of held)) (pairs_of (plain_of new)) row count → AreWritten start end (taken_keys target key (pairs_of (plain_of tree)) before)
  taken_ends Key key row count stays taken =
      subst (λ (o : Option Fields). AreWritten start end (deleted_key key o before)) (taken.old ∙ ap (λ (z : CellTree). find key (pairs_of (plain_of z))) is)
      (delete_ends key row count stays taken)
  taken_ends Prefix prefix row count stays taken = prefix_ends prefix row count stays taken

-- where nothing was taken out, no key is written
pub absent_ends : (target : Target) (start tree held end : CellTree) → held ≡ tree → end ≡ held → (key : Bytes) → IsAbsent target key (pairs_of (plain_of held)) → (before : List Bytes) → AreWritten start tree before → AreWritten start end (taken_keys target key (pairs_of (plain_of tree)) before)
absent_ends Key start tree held end is to key absent before w =
    subst (λ (o : Option Fields). AreWritten start end (deleted_key key o before)) (sym absent.old ∙ ap (λ (z : CellTree). find key (pairs_of (plain_of z))) is)
    (subst (λ (z : CellTree). AreWritten start z before) (sym (to ∙ is)) w)
absent_ends Prefix start tree held end is to prefix absent before w =
    let none : with_prefix prefix (pairs_of (plain_of tree)) ≡ [] =
    ap (λ (z : CellTree). with_prefix prefix (pairs_of (plain_of z))) (sym is) ∙ none_begin prefix (pairs_of (plain_of held)) (ap length absent.kept) in
    subst (λ (ps : List Pair). AreWritten start end (keys_of ps ++ before)) (sym none)
    (subst (λ (z : CellTree). AreWritten start z before) (sym (to ∙ is)) w)

-- where something was, the answer says so
pub takes_some : (target : Target) (key : Bytes) (before after : List Pair) (row : Option Fields) (count : ℕ) → IsTaken target key before after row count → TakesNone target row count → ⊥
takes_some Key key before after row count taken none = false≢true (subst IsSome (sym taken.old ∙ none) taken.there)
takes_some Prefix prefix before after row count taken none = let some = taken.some in absurd (omega (arith, some, none))
