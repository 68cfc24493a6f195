-- The cell that watches a question is one of its tree's, and so of the tree's book.
use Rattle.std.proofs.Common.{◌≡◌, ◌∙◌, ◌++◌, ℕ, Ok, Err, refl, sym, ap, subst, ◌⊎◌, inl, inr, Bool, true, false, Option, Some, None, List, [], ◌∷◌, length, drop, if◌then◌else◌}
use Rattle.std.specs.Prelude.{All, nat_lt, option_map, slice_get}
use Rattle.std.proofs.lemmas.List.Elements.{All-contains}
use Rattle.mdb_datum.specs.Bytes.{Bytes, is_prefix}
use Rattle.mdb_schema.proofs.Membership.{Contains-slice_get}
use Rattle.mdb_schema.specs.Answer.{Asked, Lookup, lookup_of}
use Rattle.mdb_schema.specs.Query.{Query}
use Rattle.mdb_schema.specs.Schema.{DbSchema}
use Rattle.mdb_schema.specs.State.{State, Table, table_at}
use Rattle.radix_node.specs.Cells.{AreOf, CellLeaf, CellNodes, CellTree, Piece, Place, a_leaf, a_node, celled, cells_of, leaf_list, leaf_pieces, leaves_of, no_cells, node_leaves, node_pieces, node_places, piece_cell, pieces_of, places_of, root_of, root_place}
use Rattle.radix_node.specs.Ids.{Book, Counter}
use Rattle.radix_node.specs.Paths.{Has}
use Rattle.radix_node.specs.Watches.{further_place, get_watch, leaf_cell_or, leaf_with, longest_place, near, place_or, seek_watch, shorter_place, shortest_place}
use Rattle.radix_node.proofs.Members.{has_cell}
use Rattle.radix_node.proofs.OneBook.{each_is}
use Rattle.radix_node.proofs.Paths.{Has-left, Has-right, Has-split}
use Rattle.table_index.specs.Watched.{cell_of, is_watchable, looks_up, watch_in}
use Rattle.watch_word.specs.Logs.{Cell}
use Rattle.mem_txn.specs.CellHistory.{Forest, asked_in, looked_up, planted, question_cell, table_in, with_trees}
use Rattle.mem_txn.specs.inner.VersionTables.{AreWithin}
use Rattle.radix_node.proofs.LeafWatch.{with_key}

-- ---- the near place is the root's or another node's

picked : (p best : Place) (b c : Bool) → ((if b then (if c then p else best) else best) ≡ best) ⊎ ((if b then (if c then p else best) else best) ≡ p)
picked p best true true = inr refl
picked p best true false = inl refl
picked p best false c = inl refl

longest_is : (key : Bytes) (best : Place) (ps : List Place) → Has (longest_place key best ps) (best ∷ ps)
longest_is key best [] = inl refl
longest_is key best (p ∷ ps) =
    elim (longest_is key (if is_prefix p.path key then (if nat_lt (length best.path) (length p.path) then p else best) else best) ps) [
      | inl e ↦ elim (picked p best (is_prefix p.path key) (nat_lt (length best.path) (length p.path))) [
        | inl same ↦ inl (e ∙ same)
        | inr other ↦ inr (inl (e ∙ other))
      ]
      | inr h ↦ inr (inr h)
    ]

shorter_is : (p : Place) (o : Option Place) (ps : List Place) → ((q : Place) → o ≡ Some q → Has q ps) → Has (shorter_place p o) (p ∷ ps)
shorter_is p None ps has = inl refl
shorter_is p (Some q) ps has = at (nat_lt (length q.path) (length p.path))
  where
    at : (b : Bool) → Has (if b then q else p) (p ∷ ps)
    at true = inr (has q refl)
    at false = inl refl

shorter_one : (p q : Place) (o : Option Place) (ps : List Place) (b : Bool) → ((r : Place) → o ≡ Some r → Has r ps) → (if b then Some (shorter_place p o) else o) ≡ Some q → Has q (p ∷ ps)
shorter_one p q o ps true rest e = let same : shorter_place p o ≡ q = cc in subst (λ (x : Place). Has x (p ∷ ps)) same (shorter_is p o ps rest)
shorter_one p q o ps false rest e = inr (rest q e)

shortest_is : (prefix : Bytes) (ps : List Place) (q : Place) → shortest_place prefix ps ≡ Some q → Has q ps
shortest_is prefix [] q e = cc
shortest_is prefix (p ∷ ps) q e = shorter_one p q (shortest_place prefix ps) ps (is_prefix prefix p.path) (λ r is. shortest_is prefix ps r is) e

place_or_is : (p : Place) (o : Option Place) (ps qs : List Place) → Has p qs → ((q : Place) → o ≡ Some q → Has q ps) → Has (place_or p o) (qs ++ ps)
place_or_is p None ps qs there has = Has-left p qs ps there
place_or_is p (Some q) ps qs there has = Has-right q qs ps (has q refl)

further_is : (p : Place) (rest : Bytes) (ps qs : List Place) → Has p qs → Has (further_place p rest ps) (qs ++ ps)
further_is p [] ps qs there = Has-left p qs ps there
further_is p (x ∷ rest) ps qs there = place_or_is p (shortest_place (p.path ++ x ∷ []) ps) ps qs there (λ q is. shortest_is (p.path ++ x ∷ []) ps q is)

-- ---- each place and each leaf has a cell of the tree

module _ (c : Cell) where
  in_pieces : List Piece → Type 0
  in_pieces ps = (x : Piece) × Has x ps × (piece_cell x ≡ c)

  place_piece : (path : Bytes) (ns : CellNodes) (p : Place) → Has p (node_places path ns) → p.cell ≡ c → in_pieces (node_pieces ns)
  unfolding in_pieces
  place_piece path no_cells p h is = absurd h
  place_piece path (celled cell prefix leaf under later) p (inl e) is =
      (a_node (record { cell = cell; prefix = prefix; leaf = leaf; under = under }), inl refl, sym (ap (λ (q : Place). q.cell) e) ∙ is)
  place_piece path (celled cell prefix leaf under later) p (inr h) is =
      elim (Has-split p (node_places (path ++ prefix) under) (node_places path later) h) [
        | inl low ↦ let x = place_piece (path ++ prefix) under p low is in (x.0, inr (Has-right x.0 (leaf_pieces leaf) (node_pieces under ++ node_pieces later) (Has-left x.0 (node_pieces under) (node_pieces later) x.1)), x.2)
        | inr far ↦ let x = place_piece path later p far is in (x.0, inr (Has-right x.0 (leaf_pieces leaf) (node_pieces under ++ node_pieces later) (Has-right x.0 (node_pieces under) (node_pieces later) x.1)), x.2)
      ]

  one_leaf : (o : Option CellLeaf) (l : CellLeaf) → Has l (leaf_list o) → l.cell ≡ c → in_pieces (leaf_pieces o)
  unfolding in_pieces
  one_leaf None l h is = absurd h
  one_leaf (Some k) l (inl e) is = (a_leaf k, inl refl, sym (ap (λ (m : CellLeaf). m.cell) e) ∙ is)
  one_leaf (Some k) l (inr h) is = absurd h

  leaf_piece : (ns : CellNodes) (l : CellLeaf) → Has l (node_leaves ns) → l.cell ≡ c → in_pieces (node_pieces ns)
  unfolding in_pieces
  leaf_piece no_cells l h is = absurd h
  leaf_piece (celled cell prefix leaf under later) l h is =
      elim (Has-split l (leaf_list leaf) (node_leaves under ++ node_leaves later) h) [
        | inl own ↦ let x = one_leaf leaf l own is in (x.0, inr (Has-left x.0 (leaf_pieces leaf) (node_pieces under ++ node_pieces later) x.1), x.2)
        | inr rest ↦ elim (Has-split l (node_leaves under) (node_leaves later) rest) [
          | inl low ↦ let x = leaf_piece under l low is in (x.0, inr (Has-right x.0 (leaf_pieces leaf) (node_pieces under ++ node_pieces later) (Has-left x.0 (node_pieces under) (node_pieces later) x.1)), x.2)
          | inr far ↦ let x = leaf_piece later l far is in (x.0, inr (Has-right x.0 (leaf_pieces leaf) (node_pieces under ++ node_pieces later) (Has-right x.0 (node_pieces under) (node_pieces later) x.1)), x.2)
        ]
      ]

module _ (t : CellTree) where
  of_piece : (c : Cell) → ((x : Piece) × Has x (pieces_of t) × (piece_cell x ≡ c)) → Has c (cells_of t)
  of_piece c x = subst (λ (d : Cell). Has d (cells_of t)) x.2 (has_cell x.0 (pieces_of t) x.1)

  place_in : (p : Place) → Has p (root_place t ∷ places_of t) → Has p.cell (cells_of t)
  unfolding in_pieces
  place_in p (inl e) = of_piece p.cell (a_node (root_of t), inl refl, sym (ap (λ (q : Place). q.cell) e))
  place_in p (inr h) = let x = place_piece p.cell [] t.nodes p h refl in of_piece p.cell (x.0, inr (Has-right x.0 (leaf_pieces t.leaf) (node_pieces t.nodes) x.1), x.2)

  leaf_in : (l : CellLeaf) → Has l (leaves_of t) → Has l.cell (cells_of t)
  unfolding in_pieces
  leaf_in l h =
      elim (Has-split l (leaf_list t.leaf) (node_leaves t.nodes) h) [
        | inl own ↦ let x = one_leaf l.cell t.leaf l own refl in of_piece l.cell (x.0, inr (Has-left x.0 (leaf_pieces t.leaf) (node_pieces t.nodes) x.1), x.2)
        | inr rest ↦ let x = leaf_piece l.cell t.nodes l rest refl in of_piece l.cell (x.0, inr (Has-right x.0 (leaf_pieces t.leaf) (node_pieces t.nodes) x.1), x.2)
      ]

  near_is : (key : Bytes) → Has (near key t) (root_place t ∷ places_of t)
  near_is key =
      let p = longest_place key (root_place t) (places_of t) in
      elim (Has-split (near key t) (root_place t ∷ places_of t) (places_of t) (further_is p (drop (length p.path) key) (places_of t) (root_place t ∷ places_of t) (longest_is key (root_place t) (places_of t)))) [
        | inl h ↦ h
        | inr h ↦ inr h
      ]

  seek_in : (prefix : Bytes) → Has (seek_watch prefix t) (cells_of t)
  seek_in prefix = place_in (near prefix t) (near_is prefix)

  leaf_or_in : (c : Cell) (o : Option CellLeaf) → Has c (cells_of t) → ((l : CellLeaf) → o ≡ Some l → Has l (leaves_of t)) → Has (leaf_cell_or c o) (cells_of t)
  leaf_or_in c None there has = there
  leaf_or_in c (Some l) there has = leaf_in l (has l refl)

  get_in : (key : Bytes) → Has (get_watch key t) (cells_of t)
  get_in key = leaf_or_in (near key t).cell (leaf_with key (leaves_of t)) (seek_in key) (λ l is. (with_key key (leaves_of t) l is).0)

  pub watch_is_in : (exact : Bool) (key : Bytes) → Has (watch_in exact key t) (cells_of t)
  watch_is_in true key = get_in key
  watch_is_in false key = seek_in key

  pub watch_of_book : (exact : Bool) (key : Bytes) (book : Book) → AreOf book t → (watch_in exact key t).book ≡ book
  watch_of_book exact key book all = each_is book (cells_of t) all (watch_in exact key t) (watch_is_in exact key)

-- ---- the cell of a question in the trees of tables

pub tree_of : (trees : List CellTree) (index : ℕ) (exact : Bool) (key : Bytes) (c : Cell) → cell_of trees index exact key ≡ Some c → (tree : CellTree) × (slice_get trees index ≡ Some tree) × (watch_in exact key tree ≡ c)
tree_of trees index exact key c e = at (slice_get trees index) e
  where
    at : (o : Option CellTree) → option_map (watch_in exact key) o ≡ Some c → (tree : CellTree) × (o ≡ Some tree) × (watch_in exact key tree ≡ c)
    at None e' = cc
    at (Some tree) e' = (tree, refl, let same : watch_in exact key tree ≡ c = cc in same)

module _ (ids : Counter) (c : Cell) where
  cell_in_book : (trees : List CellTree) (index : ℕ) (exact : Bool) (key : Bytes) → AreWithin ids trees → cell_of trees index exact key ≡ Some c → c.book ≡ ids.book
  cell_in_book trees index exact key within e =
      let at = tree_of trees index exact key c e in
      sym (ap (λ (x : Cell). x.book) at.2)
      ∙ watch_of_book at.0 exact key ids.book (All-contains (AreOf ids.book) trees at.0 within.of (Contains-slice_get trees index at.0 at.1))

  looked_book : (trees : List CellTree) (q : Query) (told : Asked Lookup) → AreWithin ids trees → looked_up trees q told ≡ Some c → c.book ≡ ids.book
  looked_book trees q (Err why) within e = cc
  looked_book trees q (Ok at) within e = cell_in_book trees at.place (looks_up at.index q) at.key within e

  module _ (forest : Forest) (all : All (AreWithin ids) forest) (q : Query) where
    planted_book : (t : Table) (o : Option (List CellTree)) → slice_get forest t.place ≡ o → asked_in q (with_trees t o) ≡ Some c → c.book ≡ ids.book
    planted_book t None is e = cc
    planted_book t (Some trees) is e = looked_book trees q (lookup_of t.schema q) (All-contains (AreWithin ids) forest trees all (Contains-slice_get forest t.place trees is)) e

    asked_book : (o : Option Table) → asked_in q (planted forest o) ≡ Some c → c.book ≡ ids.book
    asked_book None e = cc
    asked_book (Some t) e = planted_book t (slice_get forest t.place) refl e

    pub question_of_book : (schema : DbSchema) (s : State) → question_cell schema s forest q ≡ Some c → c.book ≡ ids.book
    question_of_book schema s e = at (is_watchable q.ask) e
      where
        at : (b : Bool) → (if b then asked_in q (table_in schema s forest q.table) else None) ≡ Some c → c.book ≡ ids.book
        at true e' = asked_book (table_at schema s q.table) e'
        at false e' = cc
