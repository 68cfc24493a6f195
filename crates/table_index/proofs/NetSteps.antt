-- Steps of a walk over the pieces of two trees: what is told so far, and what is still to tell.
use Rattle.std.proofs.Common.{◌≡◌, ◌+◌, ◌<◌, ◌++◌, ◌∷◌, ◌∙◌, Bool, true, false, List, [], length, refl, sym, ap, subst, inl, arith, append_assoc, length-append, Ordering, Less, Equal, Greater, not, if◌then◌else◌, Option, Some, None, Result, IfOk, Decides}
use Rattle.std.specs.Ordering.{match_ordering}
use Rattle.std.proofs.lemmas.Bool.Decides.{same_from_decides}
use Rattle.mdb_datum.specs.Bytes.{byte_order}
use Rattle.mdb_datum.specs.Row.{Fields, Pair}
use Rattle.mdb_datum.specs.Same.{has_same_members}
use Rattle.mdb_datum.proofs.ByteOrder.{byte_order_itself}
use Rattle.mdb_datum.proofs.SameDocs.{Decides-has_same_members}
use Rattle.mdb_schema.specs.Net.{Net}
use Rattle.mdb_schema.specs.NetOfPairs.{come, gone, net_of_pairs, replaced}
use Rattle.radix_node.specs.Cells.{CellLeaf, CellNode, CellNodes, CellTree, Piece, a_leaf, a_node, celled, leaf_pieces, no_cells, node_pieces, piece_cell, plain_leaf, plain_nodes, plain_of}
use Rattle.radix_node.specs.CellNode.{tree_at}
use Rattle.radix_node.specs.Nodes.{pairs_of, pairs_of_leaf, pairs_of_nodes}
use Rattle.radix_node.specs.Paths.{Has}
use Rattle.radix_node.proofs.Paths.{Has-right}
use Rattle.table_index.specs.inner.NetSteps.{AnswersStep, IsNetEnd, IsNetStep}
use Rattle.table_index.specs.inner.PiecesIn.{HoldTheSame, all_of, pairs_in, pairs_under}

-- ---- pairs that both lists begin with

net-itself : (p : Pair) (old new : List Pair) → net_of_pairs (p ∷ old) (p ∷ new) ≡ net_of_pairs old new
net-itself p old new =
    ap (λ o. match_ordering o (gone p.1 ∷ net_of_pairs old (p ∷ new)) (replaced p.1 p.1 (net_of_pairs old new)) (come p.1 ∷ net_of_pairs (p ∷ old) new)) (byte_order_itself p.0)
    ∙ ap (λ (b : Bool). if not b then record { before = Some p.1; after = Some p.1 } ∷ net_of_pairs old new else net_of_pairs old new) ((Decides-has_same_members p.1 p.1).1 refl)

net-shared : (ps old new : List Pair) → net_of_pairs (ps ++ old) (ps ++ new) ≡ net_of_pairs old new
net-shared [] old new = refl
net-shared (p ∷ ps) old new = net-itself p (ps ++ old) (ps ++ new) ∙ net-shared ps old new

pairs_in-append : (xs ys : List Piece) → pairs_in (xs ++ ys) ≡ pairs_in xs ++ pairs_in ys
pairs_in-append [] ys = refl
pairs_in-append (a_leaf l ∷ xs) ys = ap (λ ps. l.pair ∷ ps) (pairs_in-append xs ys)
pairs_in-append (a_node n ∷ xs) ys = pairs_in-append xs ys

-- ---- the pairs of a piece

leaf_first : (leaf : Option CellLeaf) (xs : List Piece) → pairs_in (leaf_pieces leaf ++ xs) ≡ pairs_of_leaf (plain_leaf leaf) ++ pairs_in xs
leaf_first None xs = refl
leaf_first (Some l) xs = refl

pairs_in-nodes : (ns : CellNodes) → pairs_in (node_pieces ns) ≡ pairs_of_nodes (plain_nodes ns)
pairs_in-nodes no_cells = refl
pairs_in-nodes (celled cell prefix leaf under later) =
    leaf_first leaf (node_pieces under ++ node_pieces later)
    ∙ ap (λ (ps : List Pair). pairs_of_leaf (plain_leaf leaf) ++ ps) (pairs_in-append (node_pieces under) (node_pieces later) ∙ (λ i. pairs_in-nodes under i ++ pairs_in-nodes later i))

pub pairs_in-all : (x : Piece) → pairs_in (all_of x) ≡ pairs_under x
pairs_in-all (a_leaf l) = refl
pairs_in-all (a_node n) = leaf_first n.leaf (node_pieces n.under) ∙ ap (λ (ps : List Pair). pairs_of_leaf (plain_leaf n.leaf) ++ ps) (pairs_in-nodes n.under)

-- those of a tree
pub pairs_in-tree : (t : CellTree) → pairs_in (leaf_pieces t.leaf ++ node_pieces t.nodes) ≡ pairs_of (plain_of t)
pairs_in-tree t = leaf_first t.leaf (node_pieces t.nodes) ∙ ap (λ (ps : List Pair). pairs_of_leaf (plain_leaf t.leaf) ++ ps) (pairs_in-nodes t.nodes)

-- ---- a step

-- what is left of one tree after its first pieces
later : (xs front rest : List Piece) → xs ≡ front ++ rest → (x : Piece) → Has x rest → Has x xs
later xs front rest e x h = subst (λ (ys : List Piece). Has x ys) (sym e) (Has-right x front rest h)

fewer : (xs front rest : List Piece) → xs ≡ front ++ rest → length xs ≡ length front + length rest
fewer xs front rest e = ap length e ∙ length-append front rest

step_past : (old new old' new' front front' : List Piece) (ns ns' : List Net) → old ≡ front ++ old' → new ≡ front' ++ new' → 0 < length front + length front'
    → ns' ++ net_of_pairs (pairs_in old') (pairs_in new') ≡ ns ++ net_of_pairs (pairs_in (front ++ old')) (pairs_in (front' ++ new'))
    → IsNetStep old new ns old' new' ns'
step_past old new old' new' front front' ns ns' left right some whole = record {
  whole = whole ∙ (λ i. ns ++ net_of_pairs (pairs_in (sym left i)) (pairs_in (sym right i)));
  less = omega (arith, fewer old front old' left, fewer new front' new' right);
  olds = later old front old' left;
  news = later new front' new' right;
}

-- a node is entered in the one tree, in the other or in both
pub entered_old : (old new old' : List Piece) (n : CellNode) (ns : List Net) → old ≡ a_node n ∷ old' → IsNetStep old new ns old' new ns
entered_old old new old' n ns left = step_past old new old' new (a_node n ∷ []) [] ns ns left refl (omega arith) refl

pub entered_new : (old new new' : List Piece) (n : CellNode) (ns : List Net) → new ≡ a_node n ∷ new' → IsNetStep old new ns old new' ns
entered_new old new new' n ns right = step_past old new old new' [] (a_node n ∷ []) ns ns refl right (omega arith) refl

pub entered_both : (old new old' new' : List Piece) (n m : CellNode) (ns : List Net) → old ≡ a_node n ∷ old' → new ≡ a_node m ∷ new' → IsNetStep old new ns old' new' ns
entered_both old new old' new' n m ns left right = step_past old new old' new' (a_node n ∷ []) (a_node m ∷ []) ns ns left right (omega arith) refl

-- one change more
told_more : (ns ns' : List Net) (n : Net) (rest all : List Net) → ns' ≡ ns ++ n ∷ [] → all ≡ n ∷ rest → ns' ++ rest ≡ ns ++ all
told_more ns ns' n rest all told is = ap (λ (xs : List Net). xs ++ rest) told ∙ append_assoc ns (n ∷ []) rest ∙ ap (λ (xs : List Net). ns ++ xs) (sym is)

gone_step : (old new old' : List Piece) (l : CellLeaf) (ns ns' : List Net) → old ≡ a_leaf l ∷ old' → ns' ≡ ns ++ gone l.pair.1 ∷ []
    → net_of_pairs (l.pair ∷ pairs_in old') (pairs_in new) ≡ gone l.pair.1 ∷ net_of_pairs (pairs_in old') (pairs_in new) → IsNetStep old new ns old' new ns'
gone_step old new old' l ns ns' left told first =
    step_past old new old' new (a_leaf l ∷ []) [] ns ns' left refl (omega arith)
    (told_more ns ns' (gone l.pair.1) (net_of_pairs (pairs_in old') (pairs_in new)) (net_of_pairs (l.pair ∷ pairs_in old') (pairs_in new)) told first)

come_step : (old new new' : List Piece) (l : CellLeaf) (ns ns' : List Net) → new ≡ a_leaf l ∷ new' → ns' ≡ ns ++ come l.pair.1 ∷ []
    → net_of_pairs (pairs_in old) (l.pair ∷ pairs_in new') ≡ come l.pair.1 ∷ net_of_pairs (pairs_in old) (pairs_in new') → IsNetStep old new ns old new' ns'
come_step old new new' l ns ns' right told first =
    step_past old new old new' [] (a_leaf l ∷ []) ns ns' refl right (omega arith)
    (told_more ns ns' (come l.pair.1) (net_of_pairs (pairs_in old) (pairs_in new')) (net_of_pairs (pairs_in old) (l.pair ∷ pairs_in new')) told first)

-- past a leaf where the other tree has no pieces left
pub gone_alone : (old new old' : List Piece) (l : CellLeaf) (ns ns' : List Net) → old ≡ a_leaf l ∷ old' → new ≡ [] → ns' ≡ ns ++ gone l.pair.1 ∷ [] → IsNetStep old new ns old' new ns'
gone_alone old [] old' l ns ns' left none told = gone_step old [] old' l ns ns' left told refl
gone_alone old (x ∷ new) old' l ns ns' left none told = absurd cc

pub come_alone : (old new new' : List Piece) (l : CellLeaf) (ns ns' : List Net) → new ≡ a_leaf l ∷ new' → old ≡ [] → ns' ≡ ns ++ come l.pair.1 ∷ [] → IsNetStep old new ns old new' ns'
come_alone [] new new' l ns ns' right none told = come_step [] new new' l ns ns' right told refl
come_alone (x ∷ old) new new' l ns ns' right none told = absurd cc

-- ---- past two leaves, or past that of the lower key

module _ (old new old' new' : List Piece) (l m : CellLeaf) (ns ns' : List Net) (left : old ≡ a_leaf l ∷ old') (right : new ≡ a_leaf m ∷ new') where
  abbrev by_order : Ordering → List Net
  by_order o = match_ordering o
      (gone l.pair.1 ∷ net_of_pairs (pairs_in old') (m.pair ∷ pairs_in new'))
      (replaced l.pair.1 m.pair.1 (net_of_pairs (pairs_in old') (pairs_in new')))
      (come m.pair.1 ∷ net_of_pairs (l.pair ∷ pairs_in old') (pairs_in new'))

  pub gone_lower : byte_order l.pair.0 m.pair.0 ≡ Less → ns' ≡ ns ++ gone l.pair.1 ∷ [] → IsNetStep old new ns old' new ns'
  gone_lower less told =
      gone_step old new old' l ns ns' left told
      (ap (λ (ps : List Piece). net_of_pairs (l.pair ∷ pairs_in old') (pairs_in ps)) right ∙ ap by_order less
      ∙ ap (λ (ps : List Piece). gone l.pair.1 ∷ net_of_pairs (pairs_in old') (pairs_in ps)) (sym right))

  pub come_lower : byte_order l.pair.0 m.pair.0 ≡ Greater → ns' ≡ ns ++ come m.pair.1 ∷ [] → IsNetStep old new ns old new' ns'
  come_lower greater told =
      come_step old new new' m ns ns' right told
      (ap (λ (ps : List Piece). net_of_pairs (pairs_in ps) (m.pair ∷ pairs_in new')) left ∙ ap by_order greater
      ∙ ap (λ (ps : List Piece). come m.pair.1 ∷ net_of_pairs (pairs_in ps) (pairs_in new')) (sym left))

  pub replaced_both : byte_order l.pair.0 m.pair.0 ≡ Equal → ((rest : List Net) → ns' ++ rest ≡ ns ++ replaced l.pair.1 m.pair.1 rest) → IsNetStep old new ns old' new' ns'
  replaced_both equal told =
      step_past old new old' new' (a_leaf l ∷ []) (a_leaf m ∷ []) ns ns' left right (omega arith)
      (told (net_of_pairs (pairs_in old') (pairs_in new')) ∙ ap (λ (xs : List Net). ns ++ xs) (sym (ap by_order equal)))

-- ---- a row of both

module _ (p q : Fields) (b : Bool) (tells : Decides b (p ≡ q)) where
  same_as : b ≡ has_same_members p q
  same_as = same_from_decides b (has_same_members p q) tells (Decides-has_same_members p q)

  abbrev with_change : List Net → Bool → List Net
  with_change later same = if not same then record { before = Some p; after = Some q } ∷ later else later

  -- an equal one is no change
  pub no_change : b ≡ true → (ns later : List Net) → ns ++ later ≡ ns ++ replaced p q later
  no_change e ns later = ap (λ (same : Bool). ns ++ with_change later same) (sym e ∙ same_as)

  pub one_change : b ≡ false → (ns ns' later : List Net) → ns' ≡ ns ++ record { before = Some p; after = Some q } ∷ [] → ns' ++ later ≡ ns ++ replaced p q later
  one_change e ns ns' later told =
      ap (λ (ms : List Net). ms ++ later) told ∙ append_assoc ns (record { before = Some p; after = Some q } ∷ []) later
      ∙ ap (λ (same : Bool). ns ++ with_change later same) (sym e ∙ same_as)

-- ---- past a piece that both trees have

first_in : (x : Piece) (rest : List Piece) → Has x (all_of x ++ rest)
first_in (a_leaf l) rest = inl refl
first_in (a_node n) rest = inl refl

some_in : (x : Piece) → 0 < length (all_of x)
some_in (a_leaf l) = omega arith
some_in (a_node n) = omega arith

pub passed_both : (old new old' new' : List Piece) (x y : Piece) (ns : List Net) → old ≡ all_of x ++ old' → new ≡ all_of y ++ new' → HoldTheSame old new → (piece_cell x).id ≡ (piece_cell y).id
    → IsNetStep old new ns old' new' ns
passed_both old new old' new' x y ns left right hold id =
    let same = hold x y (subst (λ (ps : List Piece). Has x ps) (sym left) (first_in x old')) (subst (λ (ps : List Piece). Has y ps) (sym right) (first_in y new')) id in
    let pairs : pairs_in (all_of x) ≡ pairs_in (all_of y) = pairs_in-all x ∙ same ∙ sym (pairs_in-all y) in
    step_past old new old' new' (all_of x) (all_of y) ns ns left right (omega (arith, some_in x))
    (ap (λ (xs : List Net). ns ++ xs)
    (sym (net-shared (pairs_in (all_of x)) (pairs_in old') (pairs_in new'))
    ∙ ap (λ (ps : List Pair). net_of_pairs (pairs_in (all_of x) ++ pairs_in old') (ps ++ pairs_in new')) pairs
    ∙ (λ i. net_of_pairs (sym (pairs_in-append (all_of x) old') i) (sym (pairs_in-append (all_of y) new') i))))

-- ---- steps in turn

-- fewer pieces hold the same as all did
pub still_hold : (old new old' new' : List Piece) (ns ns' : List Net) → IsNetStep old new ns old' new' ns' → HoldTheSame old new → HoldTheSame old' new'
still_hold old new old' new' ns ns' step hold x y a b id = hold x y (step.olds x a) (step.news y b) id

-- of other names for the pieces before a step
pub step_from : {E : Type 0} (result : Result Bool E) (old mid new mid' old' new' : List Piece) (ns ns' : List Net) → mid ≡ old → mid' ≡ new
    → IfOk result (λ more. AnswersStep more mid mid' ns old' new' ns') → IfOk result (λ more. AnswersStep more old new ns old' new' ns')
step_from result old mid new mid' old' new' ns ns' left right told =
    subst (λ (xs : List Piece). IfOk result (λ more. AnswersStep more xs new ns old' new' ns')) left
    (subst (λ (ys : List Piece). IfOk result (λ more. AnswersStep more mid ys ns old' new' ns')) right told)

-- a step that was made is one past pieces, and one that wasn't is the end
module _ (more : Bool) (old new old' new' : List Piece) (ns ns' : List Net) (told : AnswersStep more old new ns old' new' ns') where
  pub was_step : more ≡ true → IsNetStep old new ns old' new' ns'
  was_step e = subst (λ (b : Bool). AnswersStep b old new ns old' new' ns') e told

  pub was_end : more ≡ false → IsNetEnd old new ns ns'
  was_end e = subst (λ (b : Bool). AnswersStep b old new ns old' new' ns') e told

-- ---- the whole walk

-- all pieces of a tree but its root are to come
pub all_to_come : (n : CellNode) (t : CellTree) (xs : List Piece) → tree_at n ≡ t → xs ≡ leaf_pieces n.leaf ++ node_pieces n.under → xs ≡ leaf_pieces t.leaf ++ node_pieces t.nodes
all_to_come n t xs is all = all ∙ ap (λ (u : CellTree). leaf_pieces u.leaf ++ node_pieces u.nodes) is

module _ (old new : CellTree) (xs ys : List Piece) (left : xs ≡ leaf_pieces old.leaf ++ node_pieces old.nodes) (right : ys ≡ leaf_pieces new.leaf ++ node_pieces new.nodes) where
  pub whole_first : (ns : List Net) → ns ≡ [] → ns ++ net_of_pairs (pairs_in xs) (pairs_in ys) ≡ net_of_pairs (pairs_of (plain_of old)) (pairs_of (plain_of new))
  whole_first ns none =
      ap (λ (ms : List Net). ms ++ net_of_pairs (pairs_in xs) (pairs_in ys)) none
      ∙ (λ i. net_of_pairs (pairs_in (left i)) (pairs_in (right i)))
      ∙ (λ i. net_of_pairs (pairs_in-tree old i) (pairs_in-tree new i))

  pub hold_first : HoldTheSame (leaf_pieces old.leaf ++ node_pieces old.nodes) (leaf_pieces new.leaf ++ node_pieces new.nodes) → HoldTheSame xs ys
  hold_first hold x y a b id = hold x y (subst (λ (zs : List Piece). Has x zs) left a) (subst (λ (zs : List Piece). Has y zs) right b) id
