-- A walk from a bound that is at a node on the path of its key: the rows so far and those that are
-- left are the whole.
use Rattle.std.proofs.Common.{◌≡◌, ◌++◌, ◌∷◌, ◌∙◌, ℕ, Bool, true, false, cond, List, [], Bor, Option, Some, None, option_map, refl, sym, ap, append_assoc, subst, is_lt, is_gt}
use Rattle.std.proofs.lemmas.List.{append-nil}
use Rattle.mdb_datum.specs.Bytes.{byte_order}
use Rattle.mdb_datum.specs.Pairs.{at_least, at_most, rows_of}
use Rattle.mdb_datum.specs.Row.{Fields, Pair}
use Rattle.radix_node.specs.Node.{PlainNode, below, edge_of, plain_node, rest_past}
use Rattle.radix_node.specs.Nodes.{Nodes, Plain, pairs_of_leaf, pairs_of_nodes, pairs_of}
use Rattle.radix_node.specs.Shape.{IsShaped, HasShape}
use Rattle.radix_node.specs.declared.node.Node.{Node}
use Rattle.radix_node.proofs.KeyOrder.{same_start}
use Rattle.radix_node.proofs.LookupSteps.{child_shaped, led, rest_past_label}
use Rattle.radix_node.proofs.PathFilter.{when, walked_plain, walked_node, walked_edge, walked_onward}
use Rattle.radix_iter.specs.inner.Beside.{higher, lower}
use Rattle.radix_iter.proofs.KeyFilters.{upward, downward, at_least_plain, at_most_plain}
use Rattle.radix_iter.proofs.KeySteps.{walked_upward, walked_downward, upward_parted, downward_parted}
use Rattle.radix_iter.proofs.RowsGathered.{back, more, more_back}

root_shaped : (t : Plain) (n : PlainNode) → HasShape t → below n ≡ t → IsShaped [] n.under
root_shaped t n s is = subst (λ (u : Plain). IsShaped [] u.nodes) (sym is) s.nodes

when_cond : (b : Bool) (ps : List Pair) → when b ps ≡ cond b ps []
when_cond true ps = refl
when_cond false ps = refl

-- ---- the node at an edge, once a search has told whether there is one

abbrev pub child_at : ℕ → Option (Bor Node) → Option PlainNode
child_at x o = option_map (λ (m : Bor Node). led x (plain_node m.now)) o

pub no_child : (x : ℕ) (n : Option PlainNode) (o : Option (Bor Node)) → o ≡ None → child_at x o ≡ n → None ≡ n
no_child x n o none is = ap (child_at x) (sym none) ∙ is

pub one_child : (x : ℕ) (n : Option PlainNode) (o : Option (Bor Node)) (m : Bor Node) → o ≡ Some m → child_at x o ≡ n → Some (led x (plain_node m.now)) ≡ n
one_child x n o m some is = ap (child_at x) (sym some) ∙ is

-- ---- at least a key, the last first

pub record IsUp (whole rows : List Fields) (rest : List ℕ) (n : PlainNode) : Type 0 where
  pub path : List ℕ
  pub shaped : IsShaped path n.under
  pub same : rows ++ back (walked_plain upward rest (below n)) ≡ whole

pub up_root : (key : List ℕ) (t : Plain) (n : PlainNode) (rows : List Fields) → HasShape t → below n ≡ t → IsUp (rows ++ back (at_least key (pairs_of t))) rows key n
up_root key t n rows s is = record {
  path = [];
  shaped = root_shaped t n s is;
  same = ap (λ (ps : List Pair). rows ++ back ps) (ap (walked_plain upward key) is ∙ sym (at_least_plain key t s));
}

module _ (whole rows : List Fields) (k : List ℕ) (n : PlainNode) (on : IsUp whole rows k n) where
  module _ (x : ℕ) (after : List ℕ) (first : k ≡ x ∷ after) (now : List Fields) (beside : Nodes) (are_higher : beside ≡ higher x n.under) (added : now ≡ rows ++ back (pairs_of_nodes beside)) where
    by_edge : now ++ back (walked_edge upward (x ∷ after) (edge_of x n.under)) ≡ whole
    by_edge =
        ap (λ (z : List Fields). z ++ back (walked_edge upward (x ∷ after) (edge_of x n.under))) (added ∙ ap (λ (ns : Nodes). rows ++ back (pairs_of_nodes ns)) are_higher)
        ∙ more_back rows (walked_edge upward (x ∷ after) (edge_of x n.under)) (pairs_of_nodes (higher x n.under))
        ∙ ap (λ (ps : List Pair). rows ++ back ps) (sym (walked_upward x after n.under))
        ∙ ap (λ (z : List ℕ). rows ++ back (walked_plain upward z (below n))) (sym first)
        ∙ on.same

    pub up_no_edge : None ≡ edge_of x n.under → now ≡ whole
    up_no_edge e = sym (append-nil now) ∙ ap (λ o. now ++ back (walked_edge upward (x ∷ after) o)) e ∙ by_edge

    module _ (m : PlainNode) (e : Some (led x m) ≡ edge_of x n.under) where
      at_edge : now ++ back (walked_node upward (x ∷ after) (led x m)) ≡ whole
      at_edge = ap (λ o. now ++ back (walked_edge upward (x ∷ after) o)) e ∙ by_edge

      -- the key parts from the node's prefix, or ends within it
      pub up_parted : None ≡ rest_past m.prefix after → now ++ back (cond (is_lt (byte_order after m.prefix)) (pairs_of (below m)) []) ≡ whole
      up_parted none =
          ap (λ (ps : List Pair). now ++ back ps)
          (ap (λ b. cond b (pairs_of (below m)) []) (sym (ap is_lt (same_start (x ∷ []) after m.prefix)))
          ∙ sym (when_cond _ (pairs_of (below m)))
          ∙ sym (upward_parted (led x m) (x ∷ after) (rest_past_label x m.prefix after ∙ sym none)))
          ∙ at_edge

      pub up_edge : (left : List ℕ) → Some left ≡ rest_past m.prefix after → IsUp whole now left m
      up_edge left some = record {
        path = on.path ++ x ∷ m.prefix;
        shaped = child_shaped on.path x n.under m on.shaped e;
        same = ap (λ (ps : List Pair). now ++ back ps) (sym (walked_onward upward (x ∷ after) left (led x m) (rest_past_label x m.prefix after ∙ sym some))) ∙ at_edge;
      }

-- ---- at most a key, in order

pub record IsDown (whole rows : List Fields) (rest : List ℕ) (n : PlainNode) : Type 0 where
  pub path : List ℕ
  pub shaped : IsShaped path n.under
  pub same : rows ++ rows_of (walked_plain downward rest (below n)) ≡ whole

pub down_root : (key : List ℕ) (t : Plain) (n : PlainNode) (rows : List Fields) → HasShape t → below n ≡ t → IsDown (rows ++ rows_of (at_most key (pairs_of t))) rows key n
down_root key t n rows s is = record {
  path = [];
  shaped = root_shaped t n s is;
  same = ap (λ (ps : List Pair). rows ++ rows_of ps) (ap (walked_plain downward key) is ∙ sym (at_most_plain key t s));
}

module _ (whole rows : List Fields) (k : List ℕ) (n : PlainNode) (on : IsDown whole rows k n) where
  module _ (x : ℕ) (after : List ℕ) (first : k ≡ x ∷ after) (now : List Fields) (beside : Nodes) (are_lower : beside ≡ lower x n.under) (added : now ≡ rows ++ rows_of (pairs_of_leaf n.leaf ++ pairs_of_nodes beside)) where
    down_by_edge : now ++ rows_of (walked_edge downward (x ∷ after) (edge_of x n.under)) ≡ whole
    down_by_edge =
        let at = walked_edge downward (x ∷ after) (edge_of x n.under) in
        ap (λ (z : List Fields). z ++ rows_of at) (added ∙ ap (λ (ns : Nodes). rows ++ rows_of (pairs_of_leaf n.leaf ++ pairs_of_nodes ns)) are_lower)
        ∙ more rows (pairs_of_leaf n.leaf ++ pairs_of_nodes (lower x n.under)) at
        ∙ ap (λ (ps : List Pair). rows ++ rows_of ps)
        (append_assoc (pairs_of_leaf n.leaf) (pairs_of_nodes (lower x n.under)) at
        ∙ ap (λ (ps : List Pair). pairs_of_leaf n.leaf ++ ps) (sym (walked_downward x after n.under)))
        ∙ ap (λ (z : List ℕ). rows ++ rows_of (walked_plain downward z (below n))) (sym first)
        ∙ on.same

    pub down_no_edge : None ≡ edge_of x n.under → now ≡ whole
    down_no_edge e = sym (append-nil now) ∙ ap (λ o. now ++ rows_of (walked_edge downward (x ∷ after) o)) e ∙ down_by_edge

    module _ (m : PlainNode) (e : Some (led x m) ≡ edge_of x n.under) where
      down_at_edge : now ++ rows_of (walked_node downward (x ∷ after) (led x m)) ≡ whole
      down_at_edge = ap (λ o. now ++ rows_of (walked_edge downward (x ∷ after) o)) e ∙ down_by_edge

      pub down_parted : None ≡ rest_past m.prefix after → now ++ rows_of (cond (is_gt (byte_order after m.prefix)) (pairs_of (below m)) []) ≡ whole
      down_parted none =
          ap (λ (ps : List Pair). now ++ rows_of ps)
          (ap (λ b. cond b (pairs_of (below m)) []) (sym (ap is_gt (same_start (x ∷ []) after m.prefix)))
          ∙ sym (when_cond _ (pairs_of (below m)))
          ∙ sym (downward_parted (led x m) (x ∷ after) (rest_past_label x m.prefix after ∙ sym none)))
          ∙ down_at_edge

      pub down_edge : (left : List ℕ) → Some left ≡ rest_past m.prefix after → IsDown whole now left m
      down_edge left some = record {
        path = on.path ++ x ∷ m.prefix;
        shaped = child_shaped on.path x n.under m on.shaped e;
        same = ap (λ (ps : List Pair). now ++ rows_of ps) (sym (walked_onward downward (x ∷ after) left (led x m) (rest_past_label x m.prefix after ∙ sym some))) ∙ down_at_edge;
      }
