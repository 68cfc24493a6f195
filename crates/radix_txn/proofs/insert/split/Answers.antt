-- The lower node has what the prefix goes on with, and the new one what the key goes on with.
use Rattle.std.proofs.Common.{◌≡◌, ◌≢◌, ◌<◌, ◌+◌, inl, ◌∷◌, [], ◌∙◌, length, refl, sym, drop, take, ap, subst, None, Some, Equal}
use Rattle.std.specs.Arc.{arc_value}
use Rattle.std.proofs.lemmas.List.{take_rest}
use Rattle.mdb_datum.specs.Bytes.{Bytes}
use Rattle.radix_node.specs.CellNode.{cell_node, cell_put, cell_ref, led_node}
use Rattle.radix_node.specs.Cells.{CellNode}
use Rattle.radix_node.specs.Edges.{edge_put}
use Rattle.radix_node.specs.Nodes.{first_order}
use Rattle.radix_node.specs.Node.{edge_node, leaf_pair, nodes_in, plain_node}
use Rattle.radix_txn.specs.inner.Below.{leaf_node}
use Rattle.radix_txn.specs.inner.Pieces.{inside}
use Rattle.radix_txn.specs.inner.Steps.{IsNextOf, Ledger, one_drawn}
use Rattle.radix_txn.proofs.CellSplit.{parted_order, split_beside_step, split_end_step}
use Rattle.radix_txn.proofs.EditStays.{lower_stays, lower_there}
use Rattle.radix_txn.proofs.Split.{lower_node, not_over, rest_led, split_long, split_short}
use Rattle.std.proofs.lemmas.Result.{IfOk-weaker}
use Rattle.radix_txn.proofs.Results.{if_both}
use Rattle.radix_txn.proofs.insert.split.Goals as goal

pub returns-then-shared-rest-clause-node : goal.returns-then-shared-rest-clause-node
returns-then-shared-rest-clause-node c =
    let m = plain_node c.args.node.now in
    let p = c.prefix-prefix.result.now in
    let at = c.args.shared in
    let rest = rest_led p _ at (subst (λ (z : Bytes). at < length z) (sym c.prefix-prefix.ensures) c.requires.parted) (take_rest p (at + 1)) ∙ ap (drop at) c.prefix-prefix.ensures in
    let low : edge_node c.in_ok-lower.lower ≡ lower_node (drop at m.prefix) m = c.in_ok-lower.ensures.edge ∙ ap (λ (z : Bytes). lower_node z m) rest in
    IfOk-weaker c.leaf_above.result _ _ (λ r e. e ∙ (λ i. record { prefix = c.args.rest.now; leaf = Some (leaf_pair c.args.leaf); under = nodes_in (low i ∷ []) })
    ∙ split_short (leaf_pair c.args.leaf) c.args.rest.now m at c.requires.shared c.requires.parted c.if-shared-rest.true (drop at m.prefix) refl) c.leaf_above.ensures.node

pub returns-clause-node : goal.returns-clause-node
returns-clause-node c =
    let m = plain_node c.args.node.now in
    let p = c.prefix-prefix.result.now in
    let at = c.args.shared in
    let key = c.args.rest.now in
    let rest = rest_led p _ at (subst (λ (z : Bytes). at < length z) (sym c.prefix-prefix.ensures) c.requires.parted) (take_rest p (at + 1)) ∙ ap (drop at) c.prefix-prefix.ensures in
    let low : edge_node c.in_ok-lower.lower ≡ lower_node (drop at m.prefix) m = c.in_ok-lower.ensures.edge ∙ ap (λ (z : Bytes). lower_node z m) rest in
    IfOk-weaker c.fork.result _ _ (λ r e. e ∙ (λ i. record { prefix = take at key; leaf = None; under = nodes_in (edge_put (leaf_node (drop at key) (leaf_pair c.args.leaf)) (low i ∷ [])) })
    ∙ split_long (leaf_pair c.args.leaf) key m at c.requires.shared c.requires.parted c.if-shared-rest.false (drop at m.prefix) (drop at key) (take at key) refl refl refl) c.fork.ensures.node

pub fork-requires-clause-in_range : goal.fork-requires-clause-in_range
fork-requires-clause-in_range c = let m = plain_node c.args.node.now in not_over m.prefix c.args.rest.now c.args.shared c.requires.shared c.if-shared-rest.false

-- ---- cells

pub returns-then-shared-rest-clause-cells : goal.returns-then-shared-rest-clause-cells
returns-then-shared-rest-clause-cells c =
    let k = cell_node c.args.node.now in
    let a = c.args.cells.now in
    let lower = c.in_ok-lower.ensures.cells in
    if_both c.leaf_above.result _ _ _ (λ made upper drawn. let r = cell_ref made in split_end_step (arc_value c.args.leaf) k r (led_node c.in_ok-lower.lower) a _ c.in_ok-lower.ensures.begun
    (subst (λ (n : CellNode). IsNextOf a n.cell) (sym lower.2) lower.1)
    (ap inside lower.2)
    (subst (λ (l : Ledger). IsNextOf l r.cell) c.in_ok-lower.ensures.left (subst (λ (n : CellNode). IsNextOf c.lower_edge.new.cells n.cell) (sym upper.2) upper.1))
    (ap (λ (n : CellNode). n.leaf) upper.2)
    (ap (λ (n : CellNode). n.under) upper.2)
    (drawn ∙ ap one_drawn c.in_ok-lower.ensures.left)) c.leaf_above.ensures.cells c.leaf_above.ensures.drawn

pub returns-clause-cells : goal.returns-clause-cells
returns-clause-cells c =
    let k = cell_node c.args.node.now in
    let a = c.args.cells.now in
    let m = plain_node c.args.node.now in
    let p = c.prefix-prefix.result.now in
    let at = c.args.shared in
    let key = c.args.rest.now in
    let rest = rest_led p _ at (subst (λ (z : Bytes). at < length z) (sym c.prefix-prefix.ensures) c.requires.parted) (take_rest p (at + 1)) ∙ ap (drop at) c.prefix-prefix.ensures in
    let lower = c.in_ok-lower.ensures.cells in
    let low = led_node c.in_ok-lower.lower in
    if_both c.fork.result _ _ _ (λ made upper drawn. let r = cell_ref made in
    let v = upper.0 in
    let order : first_order v.prefix low.prefix ≢ Equal =
    subst (λ (z : Bytes). first_order v.prefix z ≢ Equal) (sym (ap (λ (n : CellNode). n.prefix) lower.2 ∙ rest))
    (subst (λ (z : Bytes). first_order z (drop at m.prefix) ≢ Equal) (sym (ap (λ (n : CellNode). n.prefix) upper.4))
    (parted_order m.prefix key at c.requires.shared c.requires.parted (not_over m.prefix key at c.requires.shared c.if-shared-rest.false))) in
    split_beside_step (arc_value c.args.leaf) k r low a _ c.in_ok-lower.ensures.begun
    (subst (λ (n : CellNode). IsNextOf a n.cell) (sym lower.2) lower.1)
    (ap inside lower.2)
    v
    (subst (λ (l : Ledger). IsNextOf l v.cell) c.in_ok-lower.ensures.left upper.2)
    (ap (λ (n : CellNode). n.leaf) upper.4)
    (ap (λ (n : CellNode). n.under) upper.4)
    (subst (λ (l : Ledger). IsNextOf (one_drawn l) r.cell) c.in_ok-lower.ensures.left (subst (λ (n : CellNode). IsNextOf (one_drawn c.lower_edge.new.cells) n.cell) (sym upper.5) upper.3))
    (ap (λ (n : CellNode). n.leaf) upper.5)
    order
    (ap (λ (n : CellNode). n.under) upper.5)
    (drawn ∙ ap (λ (l : Ledger). one_drawn (one_drawn l)) c.in_ok-lower.ensures.left)) c.fork.ensures.cells c.fork.ensures.drawn

-- ---- what stays

pub returns-then-shared-rest-clause-stays : goal.returns-then-shared-rest-clause-stays
returns-then-shared-rest-clause-stays c =
    let low = led_node c.in_ok-lower.lower in
    IfOk-weaker c.leaf_above.result _ _ (λ r upper. lower_stays (cell_node c.args.node.now) (cell_ref r) low (low ∷ []) (ap inside c.in_ok-lower.ensures.cells.2)
    (ap (λ (n : CellNode). n.under) upper.2) (inl refl)) c.leaf_above.ensures.cells

pub returns-clause-stays : goal.returns-clause-stays
returns-clause-stays c =
    let m = plain_node c.args.node.now in
    let p = c.prefix-prefix.result.now in
    let at = c.args.shared in
    let key = c.args.rest.now in
    let rest = rest_led p _ at (subst (λ (z : Bytes). at < length z) (sym c.prefix-prefix.ensures) c.requires.parted) (take_rest p (at + 1)) ∙ ap (drop at) c.prefix-prefix.ensures in
    let lower = c.in_ok-lower.ensures.cells in
    let low = led_node c.in_ok-lower.lower in
    IfOk-weaker c.fork.result _ _ (λ r upper. let v = upper.0 in
    let order : first_order v.prefix low.prefix ≢ Equal =
    subst (λ (z : Bytes). first_order v.prefix z ≢ Equal) (sym (ap (λ (n : CellNode). n.prefix) lower.2 ∙ rest))
    (subst (λ (z : Bytes). first_order z (drop at m.prefix) ≢ Equal) (sym (ap (λ (n : CellNode). n.prefix) upper.4))
    (parted_order m.prefix key at c.requires.shared c.requires.parted (not_over m.prefix key at c.requires.shared c.if-shared-rest.false))) in
    lower_stays (cell_node c.args.node.now) (cell_ref r) low (cell_put v (low ∷ [])) (ap inside lower.2)
    (ap (λ (n : CellNode). n.under) upper.5) (lower_there v low order)) c.fork.ensures.cells
