-- The tree is the one that is left.
use Rattle.std.proofs.Common.{◌≡◌, Option, Some, Result, Ok, IfOk, IfSome, sym, subst}
use Rattle.radix_node.specs.Cells.{CellTree, pieces_of, root_of}
use Rattle.radix_txn.specs.declared.remove.Deleted.{Deleted}
use Rattle.radix_txn.specs.inner.Outside.{AllIn, outside_node}
use Rattle.radix_txn.proofs.txn.writes.take_with.Goals as goal

ok_some_of : {T E : Type 0} (r : Result (Option T) E) (o : Option T) (x : T) (P : T → Type 0) → r ≡ Ok o → o ≡ Some x → IfOk r (λ a. IfSome a P) → P x
ok_some_of {T} {E} r o x P is some held = subst (λ (a : Option T). IfSome a P) some (subst (λ (z : Result (Option T) E). IfOk z (λ a. IfSome a P)) is held)

pub returns-in-Ok-Some-clause-stays : goal.returns-in-Ok-Some-clause-stays
returns-in-Ok-Some-clause-stays c =
    let target = c.args.target in
    let key = c.args.key.now in
    let stays : AllIn (outside_node target key (root_of c.replace-tree.result)) (pieces_of c.take-tree.result.tree) =
    ok_some_of _ _ _ (λ (d : Deleted). AllIn (outside_node target key (root_of c.replace-tree.result)) (pieces_of c.take-tree.result.tree)) c.in-Ok-Some.is c.in-Ok-Some.field-0-is c.take-tree.ensures.stays in
    subst (λ (t : CellTree). AllIn (outside_node target key (root_of c.args.state.now.tree)) (pieces_of t)) (sym c.settle.ensures.tree)
    (subst (λ (t : CellTree). AllIn (outside_node target key (root_of t)) (pieces_of c.take-tree.result.tree)) c.replace-tree.ensures.value stays)
