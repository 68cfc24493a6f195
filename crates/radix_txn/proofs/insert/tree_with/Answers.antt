-- The new root is the tree with the pair put.
use Rattle.std.proofs.Common.{arith, ◌≡◌, ◌+◌, ◌∙◌, is_some, cond, length, refl, sym, ap, subst}
use Rattle.radix_node.specs.CellNode.{cell_ref, tree_at}
use Rattle.radix_node.specs.Node.{PlainNode, below, node_of}
use Rattle.radix_node.specs.Nodes.{Plain, pairs_of}
use Rattle.radix_node.specs.Shape.{HasShape}
use Rattle.radix_node.specs.Siblings.{bare}
use Rattle.radix_node.proofs.CellLevels.{bare_ref}
use Rattle.radix_txn.proofs.FewKeys.{few_keys}
use Rattle.radix_txn.proofs.PutTree.{put_apart, put_count, put_found, put_pairs, put_shape, put_stays, put_steps}
use Rattle.radix_txn.proofs.insert.tree_with.Goals as goal

pub put_root-requires-clause-few : goal.put_root-requires-clause-few
put_root-requires-clause-few c =
    let keys = few_keys c.args.cells.now.next c.args.tree c.into_root-root.ensures.apart c.requires.below in
    let len = c.len-len.ensures in
    omega (arith, keys, len)

pub of_root-requires-clause-shape : goal.of_root-requires-clause-shape
of_root-requires-clause-shape c =
    let r = c.into_root-root in
    let rooted = ap (λ (p : PlainNode). p.prefix) (bare_ref r.result) ∙ r.ensures.rooted in
    subst (λ (p : PlainNode). HasShape (below p)) (bare_ref c.put_root.new.root)
    (put_shape c.args.tree (cell_ref r.result) r.ensures.cells r.ensures.shape c.args.key.now c.args.row.now (cell_ref c.put_root.new.root) c.in-Ok.placed.old c.args.cells.now c.put_root.new.cells rooted c.in-Ok.ensures.put)

pub of_root-requires-clause-counted : goal.of_root-requires-clause-counted
of_root-requires-clause-counted c =
    let r = c.into_root-root in
    let rooted = ap (λ (p : PlainNode). p.prefix) (bare_ref r.result) ∙ r.ensures.rooted in
    c.in-Ok.ensures.len ∙ (λ i. cond (is_some c.in-Ok.placed.old) (c.len-len.ensures i) (c.len-len.ensures i + 1))
    ∙ sym (put_count c.args.tree (cell_ref r.result) r.ensures.cells r.ensures.shape c.args.key.now c.args.row.now (cell_ref c.put_root.new.root) c.in-Ok.placed.old c.args.cells.now c.put_root.new.cells rooted c.in-Ok.ensures.put)
    ∙ ap (λ (p : PlainNode). length (pairs_of (below p))) (bare_ref c.put_root.new.root)

pub of_root-requires-clause-apart : goal.of_root-requires-clause-apart
of_root-requires-clause-apart c =
    let r = c.into_root-root in
    let rooted = ap (λ (p : PlainNode). p.prefix) (bare_ref r.result) ∙ r.ensures.rooted in
    put_apart c.args.tree (cell_ref r.result) r.ensures.cells r.ensures.shape c.args.key.now c.args.row.now (cell_ref c.put_root.new.root) c.in-Ok.placed.old c.args.cells.now c.put_root.new.cells rooted c.in-Ok.ensures.put (tree_at (cell_ref c.put_root.new.root)) refl r.ensures.apart c.requires.below

pub of_root-requires-in-Err-clause-shape : goal.of_root-requires-in-Err-clause-shape
of_root-requires-in-Err-clause-shape c =
    let r = c.into_root-root in
    let same : node_of c.put_root.new.root ≡ node_of r.result = sym (bare_ref c.put_root.new.root) ∙ ap bare c.in-Err.ensures.unchanged ∙ bare_ref r.result in
    subst HasShape (sym (ap below same ∙ r.ensures.root)) r.ensures.shape

pub of_root-requires-in-Err-clause-counted : goal.of_root-requires-in-Err-clause-counted
of_root-requires-in-Err-clause-counted c =
    let r = c.into_root-root in
    let same : node_of c.put_root.new.root ≡ node_of r.result = sym (bare_ref c.put_root.new.root) ∙ ap bare c.in-Err.ensures.unchanged ∙ bare_ref r.result in
    c.len-len.ensures ∙ ap (λ (p : Plain). length (pairs_of p)) (sym (ap below same ∙ r.ensures.root))

pub returns-in-Ok-clause-pairs : goal.returns-in-Ok-clause-pairs
returns-in-Ok-clause-pairs c =
    let r = c.into_root-root in
    let rooted = ap (λ (p : PlainNode). p.prefix) (bare_ref r.result) ∙ r.ensures.rooted in
    ap pairs_of c.of_root.ensures.plain ∙ ap (λ (p : PlainNode). pairs_of (below p)) (sym (bare_ref c.put_root.new.root))
    ∙ put_pairs c.args.tree (cell_ref r.result) r.ensures.cells r.ensures.shape c.args.key.now c.args.row.now (cell_ref c.put_root.new.root) c.in-Ok.placed.old c.args.cells.now c.put_root.new.cells rooted c.in-Ok.ensures.put

pub returns-in-Ok-clause-old : goal.returns-in-Ok-clause-old
returns-in-Ok-clause-old c =
    let r = c.into_root-root in
    let rooted = ap (λ (p : PlainNode). p.prefix) (bare_ref r.result) ∙ r.ensures.rooted in
    put_found c.args.tree (cell_ref r.result) r.ensures.cells r.ensures.shape c.args.key.now c.args.row.now (cell_ref c.put_root.new.root) c.in-Ok.placed.old c.args.cells.now c.put_root.new.cells rooted c.in-Ok.ensures.put

pub returns-in-Ok-clause-cells : goal.returns-in-Ok-clause-cells
returns-in-Ok-clause-cells c =
    let r = c.into_root-root in
    let rooted = ap (λ (p : PlainNode). p.prefix) (bare_ref r.result) ∙ r.ensures.rooted in
    put_steps c.args.tree (cell_ref r.result) r.ensures.cells r.ensures.shape c.args.key.now c.args.row.now (cell_ref c.put_root.new.root) c.in-Ok.placed.old c.args.cells.now c.put_root.new.cells rooted c.in-Ok.ensures.put c.of_root.result (sym c.of_root.ensures.tree)

pub returns-in-Ok-clause-stays : goal.returns-in-Ok-clause-stays
returns-in-Ok-clause-stays c =
    let r = c.into_root-root in
    let rooted = ap (λ (p : PlainNode). p.prefix) (bare_ref r.result) ∙ r.ensures.rooted in
    put_stays c.args.tree (cell_ref r.result) r.ensures.cells r.ensures.shape c.args.key.now c.args.row.now (cell_ref c.put_root.new.root) c.in-Ok.placed.old c.args.cells.now c.put_root.new.cells rooted c.in-Ok.ensures.put c.of_root.result (sym c.of_root.ensures.tree)
