-- Steps of a walk over the levels that it keeps, of which the last comes first.
use Rattle.std.proofs.Common.{◌≡◌, ◌<◌, ◌+◌, ◌-◌, ◌*◌, ◌++◌, ◌∷◌, ◌∙◌, ℕ, suc, Bor, List, [], length, take, drop, map, slice_get, slice_set, Option, Some, None, option_map, refl, sym, ap, arith, append_assoc, length-append}
use Rattle.std.specs.Prelude.{reverse}
use Rattle.std.proofs.lemmas.List.{append-nil, reverse-append, reverse-reverse, set_at, take_at}
use Rattle.mdb_datum.specs.Pairs.{first_item, rows_of}
use Rattle.mdb_datum.specs.Row.{Fields, Pair}
use Rattle.radix_node.specs.Cells.{CellLeaf}
use Rattle.radix_node.specs.Node.{PlainNode, below, nodes_in, edge_node, plain_edge}
use Rattle.radix_node.specs.Nodes.{pairs_of, pairs_of_leaf}
use Rattle.radix_node.specs.declared.edge.Edge.{Edge}
use Rattle.radix_iter.proofs.EndSteps.{up_to_last}
use Rattle.radix_iter.proofs.NodeCount.{size, size_at}
use Rattle.radix_iter.proofs.RowsGathered.{back, more, more_back, pairs_at_edge, pairs_at_edges, pairs_one, pairs_last}
use Rattle.radix_iter.specs.inner.LevelRows.{level_rows, rows_down, rows_up, level_pairs}
use Rattle.radix_iter.specs.declared.level.Level.{Level}

-- a measure of what is left of a walk: twice the nodes, and the levels
abbrev pub weight : List Level → ℕ
weight [] = 0
weight (l ∷ ls) = suc (2 * size_at l.edges.now + weight ls)

weight_snoc : (ls : List Level) (l : Level) → weight (ls ++ l ∷ []) ≡ suc (2 * size_at l.edges.now + weight ls)
weight_snoc [] l = refl
weight_snoc (k ∷ ls) l = omega (arith, weight_snoc ls l)

size_snoc : (es : List Edge) (e : Edge) → size_at (es ++ e ∷ []) ≡ suc (size (plain_edge e).node.under + size_at es)
size_snoc [] e = omega arith
size_snoc (d ∷ es) e = omega (arith, size_snoc es e)

pub level_rows_snoc : (f : List Pair → List Fields) (ls : List Level) (l : Level) → level_rows f (ls ++ l ∷ []) ≡ level_rows f ls ++ f (level_pairs l)
level_rows_snoc f [] l = append-nil (f (level_pairs l))
level_rows_snoc f (k ∷ ls) l = ap (λ (z : List Fields). f (level_pairs k) ++ z) (level_rows_snoc f ls l) ∙ sym (append_assoc (f (level_pairs k)) (level_rows f ls) (f (level_pairs l)))

-- the last level is taken off, or another stands in its place, perhaps with one more behind it
module _ (front items : List Level) (x : Level) (is : items ≡ front ++ x ∷ []) where
  at_last : length front ≡ length items - 1
  at_last = omega (arith, ap length is, length-append front (x ∷ []))

  taken : (len : ℕ) (new : List Level) → len ≡ length items → new ≡ take (len - 1) items → new ≡ front
  taken len new all e =
      e ∙ ap (λ n. take (n - 1) items) all ∙ ap (λ n. take n items) (sym at_last) ∙ ap (take (length front)) is
      ∙ take_at front (x ∷ []) (length front) refl

  replaced : (y : Level) (new : List Level) → new ≡ slice_set items (length items - 1) y → new ≡ front ++ y ∷ []
  replaced y new e = e ∙ ap (λ (ls : List Level). slice_set ls (length items - 1) y) is ∙ set_at front x [] y (length items - 1) at_last

  grown : (y z : Level) (more new : List Level) (at : ℕ) → at ≡ length items → more ≡ items ++ z ∷ [] → new ≡ slice_set more (at - 1) y → new ≡ (front ++ y ∷ []) ++ z ∷ []
  grown y z more new at all m e =
      e ∙ ap (λ n. slice_set more (n - 1) y) all
      ∙ ap (λ (ls : List Level). slice_set ls (length items - 1) y) (m ∙ ap (λ (ls : List Level). ls ++ z ∷ []) is ∙ append_assoc front (x ∷ []) (z ∷ []))
      ∙ set_at front x (z ∷ []) y (length items - 1) at_last ∙ sym (append_assoc front (y ∷ []) (z ∷ []))

-- what is left of levels
abbrev pub left_up : List Level → List Fields
left_up ls = reverse (rows_up ls)

abbrev pub left_down : List Level → List Fields
left_down ls = reverse (rows_down ls)

left_up_snoc : (ls : List Level) (l : Level) → left_up (ls ++ l ∷ []) ≡ rows_of (level_pairs l) ++ left_up ls
left_up_snoc ls l =
    ap reverse (level_rows_snoc back ls l) ∙ reverse-append (rows_up ls) (back (level_pairs l))
    ∙ ap (λ (z : List Fields). z ++ left_up ls) (reverse-reverse (rows_of (level_pairs l)))

left_down_snoc : (ls : List Level) (l : Level) → left_down (ls ++ l ∷ []) ≡ back (level_pairs l) ++ left_down ls
left_down_snoc ls l = ap reverse (level_rows_snoc rows_of ls l) ∙ reverse-append (rows_down ls) (rows_of (level_pairs l))

-- a row comes first, and what comes after it is left
pub record IsStep (row : Fields) (before after : List Fields) : Type 0 where
  pub next : Some row ≡ first_item before
  pub rest : after ≡ drop 1 before

step_of : (row : Fields) (before after : List Fields) → before ≡ row ∷ after → IsStep row before after
step_of row before after e = record { next = sym (ap first_item e); rest = sym (ap (drop 1) e) }

-- ---- one step, from the last of the levels

module _ (items : List Level) (x : Level) (there : Some x ≡ slice_get items (length items - 1)) where
  abbrev before_last : List Level
  before_last = (up_to_last items x there).0

  abbrev is : items ≡ before_last ++ x ∷ []
  is = (up_to_last items x there).1

  module _ (row : Fields) (leaf : Bor CellLeaf) (own : x.own ≡ Some leaf) (of : row ≡ leaf.now.pair.1) where
    -- upward the leaf comes first
    pub give_up : (new : List Level) → new ≡ slice_set items (length items - 1) (record { own = None; edges = x.edges }) → IsStep row (left_up items) (left_up new)
    give_up new e =
        let y : Level = record { own = None; edges = x.edges } in
        step_of row (left_up items) (left_up new)
        (ap left_up is ∙ left_up_snoc before_last x
        ∙ ap (λ o. rows_of (pairs_of_leaf (option_map (λ (k : Bor CellLeaf). k.now.pair) o) ++ pairs_at_edges x.edges.now) ++ left_up before_last) own
        ∙ (λ i. sym of i ∷ (sym (left_up_snoc before_last y) ∙ ap left_up (sym (replaced before_last items x is y new e))) i))

    -- downward it comes last
    pub give_down : (len : ℕ) (new : List Level) → length x.edges.now ≡ 0 → len ≡ length items → new ≡ take (len - 1) items → IsStep row (left_down items) (left_down new)
    give_down len new bare all e =
        step_of row (left_down items) (left_down new)
        (ap left_down is ∙ left_down_snoc before_last x
        ∙ (λ i. back (pairs_of_leaf (option_map (λ (k : Bor CellLeaf). k.now.pair) (own i)) ++ pairs_at_edges (none x.edges.now bare i)) ++ left_down before_last)
        ∙ (λ i. sym of i ∷ left_down (sym (taken before_last items x is len new all e) i)))
      where
        none : (es : List Edge) → length es ≡ 0 → es ≡ []
        none [] b = refl
        none (d ∷ es) b = absurd (omega (arith, b))

  -- a level with nothing left is taken off
  module _ (own : x.own ≡ None) (bare : length x.edges.now ≡ 0) (len : ℕ) (all : len ≡ length items) (new : List Level) (e : new ≡ take (len - 1) items) where
    nothing : (o : Option (Bor CellLeaf)) (es : List Edge) → o ≡ None → length es ≡ 0 → pairs_of_leaf (option_map (λ (k : Bor CellLeaf). k.now.pair) o) ++ pairs_at_edges es ≡ []
    nothing None [] f b = refl
    nothing None (d ∷ es) f b = absurd (omega (arith, b))
    nothing (Some k) es f b = absurd cc

    pub passed : (f : List Pair → List Fields) (whole : List Fields) → f [] ≡ [] → level_rows f items ≡ whole → level_rows f new ≡ whole
    passed f whole none so_far =
        ap (level_rows f) (taken before_last items x is len new all e) ∙ sym (append-nil (level_rows f before_last))
        ∙ ap (λ (z : List Fields). level_rows f before_last ++ z) (sym (ap f (nothing x.own x.edges.now own bare) ∙ none))
        ∙ sym (level_rows_snoc f before_last x) ∙ ap (level_rows f) (sym is) ∙ so_far

  pub passed_less : (len : ℕ) (new : List Level) → len ≡ length items → new ≡ take (len - 1) items → weight new < weight items
  passed_less len new all e =
      omega (arith, ap weight (taken before_last items x is len new all e), ap weight is, weight_snoc before_last x)

  -- what is under one edge comes to stand behind
  module _ (e : Edge) (r : Bor (List Edge)) (n : PlainNode) (led : n ≡ (plain_edge e).node) (z : Level) (at : ℕ) (all : at ≡ length items) (bigger : List Level) (pushed : bigger ≡ items ++ z ∷ []) where
    abbrev past_first : Level
    past_first = record { own = None; edges = r }

    abbrev past_last : Level
    past_last = record { own = x.own; edges = r }

    module _ (pairs : level_pairs z ≡ pairs_of (below n)) (whole : List Fields) where
      pub deeper_up : (new : List Level) → new ≡ slice_set bigger (at - 1) (record { own = None; edges = r }) → x.own ≡ None → x.edges.now ≡ e ∷ r.now → rows_up items ≡ whole → rows_up new ≡ whole
      deeper_up new set own first so_far =
          ap rows_up (grown before_last items x is past_first z bigger new at all pushed set)
          ∙ level_rows_snoc back (before_last ++ past_first ∷ []) z
          ∙ ap (λ (h : List Fields). h ++ back (level_pairs z)) (level_rows_snoc back before_last past_first)
          ∙ ap (λ (ps : List Pair). (rows_up before_last ++ back (pairs_at_edges r.now)) ++ back ps) (pairs ∙ ap (λ (m : PlainNode). pairs_of (below m)) led)
          ∙ more_back (rows_up before_last) (pairs_at_edge e) (pairs_at_edges r.now)
          ∙ ap (λ (ps : List Pair). rows_up before_last ++ back ps) (sym (pairs_one e r.now) ∙ ap pairs_at_edges (sym first))
          ∙ ap (λ o. rows_up before_last ++ back (pairs_of_leaf (option_map (λ (k : Bor CellLeaf). k.now.pair) o) ++ pairs_at_edges x.edges.now)) (sym own)
          ∙ sym (level_rows_snoc back before_last x) ∙ ap rows_up (sym is) ∙ so_far

      pub deeper_down : (new : List Level) → new ≡ slice_set bigger (at - 1) (record { own = x.own; edges = r }) → x.edges.now ≡ r.now ++ e ∷ [] → rows_down items ≡ whole → rows_down new ≡ whole
      deeper_down new set last so_far =
          let leaf = pairs_of_leaf (option_map (λ (k : Bor CellLeaf). k.now.pair) x.own) in
          ap rows_down (grown before_last items x is past_last z bigger new at all pushed set)
          ∙ level_rows_snoc rows_of (before_last ++ past_last ∷ []) z
          ∙ ap (λ (h : List Fields). h ++ rows_of (level_pairs z)) (level_rows_snoc rows_of before_last past_last)
          ∙ ap (λ (ps : List Pair). (rows_down before_last ++ rows_of (level_pairs past_last)) ++ rows_of ps) (pairs ∙ ap (λ (m : PlainNode). pairs_of (below m)) led)
          ∙ more (rows_down before_last) (level_pairs past_last) (pairs_at_edge e)
          ∙ ap (λ (ps : List Pair). rows_down before_last ++ rows_of ps)
          (append_assoc leaf (pairs_at_edges r.now) (pairs_at_edge e) ∙ ap (λ (ps : List Pair). leaf ++ ps) (sym (pairs_last r.now e) ∙ ap pairs_at_edges (sym last)))
          ∙ sym (level_rows_snoc rows_of before_last x) ∙ ap rows_down (sym is) ∙ so_far

    module _ (under : nodes_in (map edge_node z.edges.now) ≡ n.under) where
      less : (y : Level) (new : List Level) → new ≡ slice_set bigger (at - 1) y → y.edges.now ≡ r.now → size_at x.edges.now ≡ suc (size (plain_edge e).node.under + size_at r.now) → weight new < weight items
      less y new set same fewer =
          omega (
            arith,
            ap weight (grown before_last items x is y z bigger new at all pushed set),
            weight_snoc (before_last ++ y ∷ []) z,
            weight_snoc before_last y,
            ap size_at same,
            ap size under,
            ap (λ (m : PlainNode). size m.under) led,
            fewer,
            ap weight is,
            weight_snoc before_last x,
          )

      pub less_up : (new : List Level) → new ≡ slice_set bigger (at - 1) (record { own = None; edges = r }) → x.edges.now ≡ e ∷ r.now → weight new < weight items
      less_up new set first = less past_first new set refl (ap size_at first ∙ omega arith)

      pub less_down : (new : List Level) → new ≡ slice_set bigger (at - 1) (record { own = x.own; edges = r }) → x.edges.now ≡ r.now ++ e ∷ [] → weight new < weight items
      less_down new set last = less past_last new set refl (ap size_at last ∙ size_snoc r.now e)
