use Rattle.std.proofs.Common.{◌≡◌, ◌∙◌, ◌∷◌, ◌++◌, [], List, sym, ap, subst}
use Rattle.std.proofs.lemmas.List.{map-append}
use Rattle.watch_word.specs.Logs.{Cell}
use Rattle.radix_node.specs.Cells.{CellTree}
use Rattle.radix_txn.specs.Txn.{Txn}
use Rattle.table_index.specs.Frozen.{AreFrozen}
use Rattle.table_index.specs.inner.IndexTrees.{starts_of, trees_of}
use Rattle.table_index.proofs.FrozenLists.{frozen_more}
use Rattle.table_index.proofs.trees.freeze_each.Goals as goal

pub loop-txn-preserved : goal.loop-txn-preserved
loop-txn-preserved c =
    let x = c.in-Some.txn in
    let done = c.loop-txn.yielded in
    let added = c.in_ok-freeze_into.ensures.notice in
    let start : starts_of done ++ x.start ∷ [] ≡ starts_of (done ++ x ∷ []) = sym (map-append (λ (y : Txn). y.start) done (x ∷ [])) in
    let trees : trees_of done ++ x.tree ∷ [] ≡ trees_of (done ++ x ∷ []) = sym (map-append (λ (y : Txn). y.tree) done (x ∷ [])) in
    record {
      trees =
          c.in_ok-freeze_into.ensures.tree ∙ ap (λ (ts : List CellTree). ts ++ x.tree ∷ []) c.loop-txn.invariant.trees ∙ trees;
      frozen =
          subst (λ (ns : List (List Cell)). AreFrozen ns (starts_of (done ++ x ∷ [])) (trees_of (done ++ x ∷ []))) (sym added.2)
          (subst (λ (ss : List CellTree). AreFrozen (c.loop-txn.notices.items ++ added.0 ∷ []) ss (trees_of (done ++ x ∷ []))) start
          (subst (λ (ts : List CellTree). AreFrozen (c.loop-txn.notices.items ++ added.0 ∷ []) (starts_of done ++ x.start ∷ []) ts) trees
          (frozen_more c.loop-txn.notices.items (starts_of done) (trees_of done) added.0 x.start x.tree c.loop-txn.invariant.frozen added.1)));
    }
