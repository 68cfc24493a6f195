-- The root after the delete is the tree without the keys.
use Rattle.std.proofs.Common.{◌≡◌, ◌∙◌, Option, IfNone, IfSome, length, refl, sym, ap, subst, arith}
use Rattle.radix_node.specs.CellNode.{cell_ref, tree_at}
use Rattle.radix_node.specs.Cells.{plain_of}
use Rattle.radix_node.specs.Node.{PlainNode, below, node_of}
use Rattle.radix_node.specs.Nodes.{Plain, pairs_of}
use Rattle.radix_node.specs.Shape.{HasShape}
use Rattle.radix_node.specs.Siblings.{bare}
use Rattle.radix_node.proofs.CellLevels.{bare_ref}
use Rattle.radix_txn.specs.declared.remove.Deleted.{Deleted}
use Rattle.radix_txn.specs.inner.Gone.{HasNone, IsCut}
use Rattle.radix_txn.specs.inner.Removal.{IsTaken}
use Rattle.radix_txn.proofs.TakeTree.{cut_apart, cut_count, cut_shape, cut_stays, cut_steps, cut_taken, lost_there, none_absent}
use Rattle.radix_txn.proofs.remove.take.Goals as goal

pub of_root-requires-clause-shape : goal.of_root-requires-clause-shape
of_root-requires-clause-shape c =
    let r = c.into_root-root in
    let cut : IsCut c.args.target c.args.key.now (cell_ref r.result) (cell_ref c.take_root.new.root) c.in-Ok-Some.deleted.row c.in-Ok-Some.deleted.count c.args.cells.now c.take_root.new.cells = subst (λ (o : Option Deleted). IfSome o (λ (d : Deleted). IsCut c.args.target c.args.key.now (cell_ref c.into_root-root.result) (cell_ref c.take_root.new.root) d.row d.count c.args.cells.now c.take_root.new.cells)) c.in-Ok-Some.field-0-is c.in-Ok-Some.ensures.cut in
    let rooted = ap (λ (p : PlainNode). p.prefix) (bare_ref r.result) ∙ r.ensures.rooted in
    subst (λ (p : PlainNode). HasShape (below p)) (bare_ref c.take_root.new.root)
    (cut_shape c.args.tree (cell_ref r.result) r.ensures.cells r.ensures.shape c.args.target c.args.key.now (cell_ref c.take_root.new.root) c.in-Ok-Some.deleted.row c.in-Ok-Some.deleted.count c.args.cells.now c.take_root.new.cells rooted cut)

pub of_root-requires-clause-counted : goal.of_root-requires-clause-counted
of_root-requires-clause-counted c =
    let r = c.into_root-root in
    let cut : IsCut c.args.target c.args.key.now (cell_ref r.result) (cell_ref c.take_root.new.root) c.in-Ok-Some.deleted.row c.in-Ok-Some.deleted.count c.args.cells.now c.take_root.new.cells = subst (λ (o : Option Deleted). IfSome o (λ (d : Deleted). IsCut c.args.target c.args.key.now (cell_ref c.into_root-root.result) (cell_ref c.take_root.new.root) d.row d.count c.args.cells.now c.take_root.new.cells)) c.in-Ok-Some.field-0-is c.in-Ok-Some.ensures.cut in
    let rooted = ap (λ (p : PlainNode). p.prefix) (bare_ref r.result) ∙ r.ensures.rooted in
    let all = cut_count c.args.tree (cell_ref r.result) r.ensures.cells r.ensures.shape c.args.target c.args.key.now (cell_ref c.take_root.new.root) c.in-Ok-Some.deleted.row c.in-Ok-Some.deleted.count c.args.cells.now c.take_root.new.cells rooted cut in
    let same = ap (λ (p : PlainNode). length (pairs_of (below p))) (bare_ref c.take_root.new.root) in
    omega (arith, all, same, c.len-len.ensures)

pub of_root-requires-clause-apart : goal.of_root-requires-clause-apart
of_root-requires-clause-apart c =
    let r = c.into_root-root in
    let cut : IsCut c.args.target c.args.key.now (cell_ref r.result) (cell_ref c.take_root.new.root) c.in-Ok-Some.deleted.row c.in-Ok-Some.deleted.count c.args.cells.now c.take_root.new.cells = subst (λ (o : Option Deleted). IfSome o (λ (d : Deleted). IsCut c.args.target c.args.key.now (cell_ref c.into_root-root.result) (cell_ref c.take_root.new.root) d.row d.count c.args.cells.now c.take_root.new.cells)) c.in-Ok-Some.field-0-is c.in-Ok-Some.ensures.cut in
    let rooted = ap (λ (p : PlainNode). p.prefix) (bare_ref r.result) ∙ r.ensures.rooted in
    cut_apart c.args.tree (cell_ref r.result) r.ensures.cells r.ensures.shape c.args.target c.args.key.now (cell_ref c.take_root.new.root) c.in-Ok-Some.deleted.row c.in-Ok-Some.deleted.count c.args.cells.now c.take_root.new.cells rooted cut (tree_at (cell_ref c.take_root.new.root)) refl r.ensures.apart c.requires.below

pub of_root-requires-in-Ok-None-clause-shape : goal.of_root-requires-in-Ok-None-clause-shape
of_root-requires-in-Ok-None-clause-shape c =
    let r = c.into_root-root in
    let none : HasNone c.args.target c.args.key.now (cell_ref r.result) (cell_ref c.take_root.new.root) c.args.cells.now c.take_root.new.cells = subst (λ (o : Option Deleted). IfNone o (HasNone c.args.target c.args.key.now (cell_ref c.into_root-root.result) (cell_ref c.take_root.new.root) c.args.cells.now c.take_root.new.cells)) c.in-Ok-None.field-0-is c.in-Ok-None.ensures.missing in
    let same : node_of c.take_root.new.root ≡ node_of r.result = sym (bare_ref c.take_root.new.root) ∙ ap bare none.same ∙ bare_ref r.result in
    subst HasShape (sym (ap below same ∙ r.ensures.root)) r.ensures.shape

pub of_root-requires-in-Ok-None-clause-counted : goal.of_root-requires-in-Ok-None-clause-counted
of_root-requires-in-Ok-None-clause-counted c =
    let r = c.into_root-root in
    let none : HasNone c.args.target c.args.key.now (cell_ref r.result) (cell_ref c.take_root.new.root) c.args.cells.now c.take_root.new.cells = subst (λ (o : Option Deleted). IfNone o (HasNone c.args.target c.args.key.now (cell_ref c.into_root-root.result) (cell_ref c.take_root.new.root) c.args.cells.now c.take_root.new.cells)) c.in-Ok-None.field-0-is c.in-Ok-None.ensures.missing in
    let same : node_of c.take_root.new.root ≡ node_of r.result = sym (bare_ref c.take_root.new.root) ∙ ap bare none.same ∙ bare_ref r.result in
    c.len-len.ensures ∙ ap (λ (p : Plain). length (pairs_of p)) (sym (ap below same ∙ r.ensures.root))

pub of_root-requires-in-Err-clause-shape : goal.of_root-requires-in-Err-clause-shape
of_root-requires-in-Err-clause-shape c =
    let r = c.into_root-root in
    let same : node_of c.take_root.new.root ≡ node_of r.result = sym (bare_ref c.take_root.new.root) ∙ ap bare c.in-Err.ensures.unchanged ∙ bare_ref r.result in
    subst HasShape (sym (ap below same ∙ r.ensures.root)) r.ensures.shape

pub of_root-requires-in-Err-clause-counted : goal.of_root-requires-in-Err-clause-counted
of_root-requires-in-Err-clause-counted c =
    let r = c.into_root-root in
    let same : node_of c.take_root.new.root ≡ node_of r.result = sym (bare_ref c.take_root.new.root) ∙ ap bare c.in-Err.ensures.unchanged ∙ bare_ref r.result in
    c.len-len.ensures ∙ ap (λ (p : Plain). length (pairs_of p)) (sym (ap below same ∙ r.ensures.root))

pub returns-in-Ok-Some-clause-taken : goal.returns-in-Ok-Some-clause-taken
returns-in-Ok-Some-clause-taken c =
    let r = c.into_root-root in
    let cut : IsCut c.args.target c.args.key.now (cell_ref r.result) (cell_ref c.take_root.new.root) c.in-Ok-Some.deleted.row c.in-Ok-Some.deleted.count c.args.cells.now c.take_root.new.cells = subst (λ (o : Option Deleted). IfSome o (λ (d : Deleted). IsCut c.args.target c.args.key.now (cell_ref c.into_root-root.result) (cell_ref c.take_root.new.root) d.row d.count c.args.cells.now c.take_root.new.cells)) c.in-Ok-Some.field-0-is c.in-Ok-Some.ensures.cut in
    let rooted = ap (λ (p : PlainNode). p.prefix) (bare_ref r.result) ∙ r.ensures.rooted in
    let d = c.in-Ok-Some.deleted in
    let to = ap pairs_of c.of_root.ensures.plain ∙ ap (λ (p : PlainNode). pairs_of (below p)) (sym (bare_ref c.take_root.new.root)) in
    subst (λ ps. IsTaken c.args.target c.args.key.now (pairs_of (plain_of c.args.tree)) ps d.row d.count) (sym to)
    (cut_taken c.args.tree (cell_ref r.result) r.ensures.cells r.ensures.shape c.args.target c.args.key.now (cell_ref c.take_root.new.root) c.in-Ok-Some.deleted.row c.in-Ok-Some.deleted.count c.args.cells.now c.take_root.new.cells rooted cut)

pub returns-in-Ok-Some-clause-cells : goal.returns-in-Ok-Some-clause-cells
returns-in-Ok-Some-clause-cells c =
    let r = c.into_root-root in
    let cut : IsCut c.args.target c.args.key.now (cell_ref r.result) (cell_ref c.take_root.new.root) c.in-Ok-Some.deleted.row c.in-Ok-Some.deleted.count c.args.cells.now c.take_root.new.cells = subst (λ (o : Option Deleted). IfSome o (λ (d : Deleted). IsCut c.args.target c.args.key.now (cell_ref c.into_root-root.result) (cell_ref c.take_root.new.root) d.row d.count c.args.cells.now c.take_root.new.cells)) c.in-Ok-Some.field-0-is c.in-Ok-Some.ensures.cut in
    let rooted = ap (λ (p : PlainNode). p.prefix) (bare_ref r.result) ∙ r.ensures.rooted in
    cut_steps c.args.tree (cell_ref r.result) r.ensures.cells r.ensures.shape c.args.target c.args.key.now (cell_ref c.take_root.new.root) c.in-Ok-Some.deleted.row c.in-Ok-Some.deleted.count c.args.cells.now c.take_root.new.cells rooted cut c.of_root.result (sym c.of_root.ensures.tree)

pub returns-in-Ok-Some-clause-stays : goal.returns-in-Ok-Some-clause-stays
returns-in-Ok-Some-clause-stays c =
    let r = c.into_root-root in
    let cut : IsCut c.args.target c.args.key.now (cell_ref r.result) (cell_ref c.take_root.new.root) c.in-Ok-Some.deleted.row c.in-Ok-Some.deleted.count c.args.cells.now c.take_root.new.cells = subst (λ (o : Option Deleted). IfSome o (λ (d : Deleted). IsCut c.args.target c.args.key.now (cell_ref c.into_root-root.result) (cell_ref c.take_root.new.root) d.row d.count c.args.cells.now c.take_root.new.cells)) c.in-Ok-Some.field-0-is c.in-Ok-Some.ensures.cut in
    let rooted = ap (λ (p : PlainNode). p.prefix) (bare_ref r.result) ∙ r.ensures.rooted in
    cut_stays c.args.tree (cell_ref r.result) r.ensures.cells r.ensures.shape c.args.target c.args.key.now (cell_ref c.take_root.new.root) c.in-Ok-Some.deleted.row c.in-Ok-Some.deleted.count c.args.cells.now c.take_root.new.cells rooted cut c.of_root.result (sym c.of_root.ensures.tree)

pub returns-in-Ok-None-clause-absent : goal.returns-in-Ok-None-clause-absent
returns-in-Ok-None-clause-absent c =
    let r = c.into_root-root in
    let none : HasNone c.args.target c.args.key.now (cell_ref r.result) (cell_ref c.take_root.new.root) c.args.cells.now c.take_root.new.cells = subst (λ (o : Option Deleted). IfNone o (HasNone c.args.target c.args.key.now (cell_ref c.into_root-root.result) (cell_ref c.take_root.new.root) c.args.cells.now c.take_root.new.cells)) c.in-Ok-None.field-0-is c.in-Ok-None.ensures.missing in
    none_absent c.args.tree (cell_ref r.result) r.ensures.cells r.ensures.shape c.args.target c.args.key.now (cell_ref c.take_root.new.root) c.args.cells.now c.take_root.new.cells none

pub returns-in-Err-clause-there : goal.returns-in-Err-clause-there
returns-in-Err-clause-there c =
    let r = c.into_root-root in
    lost_there c.args.tree (cell_ref r.result) r.ensures.cells r.ensures.shape c.args.target c.args.key.now c.in-Err.ensures.there
