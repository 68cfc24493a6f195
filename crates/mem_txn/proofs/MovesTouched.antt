-- Where a question's cell has moved, a commit has touched what the question looks at.
use Rattle.std.proofs.Common.{◌≡◌, ◌∙◌, ◌⊎◌, ◌&&◌, ⊎_elim, ℕ, Bool, true, false, cond, List, [], ◌∷◌, map, Option, Some, None, option_map, slice_get, Ok, Err, is_eq, inl, inr, refl, sym, ap, subst}
use Rattle.std.specs.Str.{bytes_eq}
use Rattle.std.proofs.lemmas.Option.{same_Some, slice_get-map}
use Rattle.db_front.specs.Passes.{Known}
use Rattle.mdb_datum.specs.Bytes.{byte_order}
use Rattle.mdb_datum.specs.Row.{Fields, Pair}
use Rattle.mdb_encode.specs.Bytes.{Bytes}
use Rattle.mdb_schema.specs.Answer.{Asked, Lookup, answer, ask_rows, is_exact, lookup_of}
use Rattle.mdb_schema.specs.Entries.{entries}
use Rattle.mdb_schema.specs.Query.{Query}
use Rattle.mdb_schema.specs.Touched.{rows_written}
use Rattle.mdb_schema.specs.Watchable.{HasFound, IsTouched}
use Rattle.mdb_schema.specs.declared.answer.Answer.{Answer}
use Rattle.mdb_schema.specs.declared.answer.Answer.TheVariants.{One, Many}
use Rattle.mdb_schema.specs.declared.ask.Ask.{Ask}
use Rattle.mdb_schema.specs.declared.ask.Ask.TheVariants.{First, Last, Get, GetReverse, Lower, ReverseLower, Longest}
use Rattle.mdb_schema.proofs.EntriesOfRows.{sorted-entries}
use Rattle.mdb_schema.proofs.Membership.{no_tie, same_key}
use Rattle.mdb_schema.proofs.LookupTests.{looked_there}
use Rattle.radix_node.specs.Cells.{CellLeaf, CellTree, a_leaf, cells_of, leaves_of, pieces_of, plain_of}
use Rattle.radix_node.specs.Nodes.{pairs_of}
use Rattle.radix_node.specs.Pairs.{IsRising, find}
use Rattle.radix_node.specs.Paths.{Has}
use Rattle.radix_node.specs.Watches.{Fires, leaf_cell_or, leaf_with, near}
use Rattle.radix_node.proofs.LeafWatch.{tree_leaf_piece, tree_pairs, with_key}
use Rattle.radix_node.proofs.Members.{has_cell}
use Rattle.table_index.specs.Table.{TableRows}
use Rattle.table_index.specs.Watched.{HoldsEntries, HoldsRows, is_for_one, looks_up, watch_in}
use Rattle.table_index.specs.Written.{IsKeyOf, KeptBut}
use Rattle.table_index.proofs.ExactRows.{first_exact, last_exact}
use Rattle.watch_word.specs.Logs.{Cell}
use Rattle.mem_txn.specs.CellHistory.{CellHistory, MovesAreTouches, cell_at, state_after, trees_after}
use Rattle.mem_txn.specs.Database.{cells_seen}
use Rattle.mem_txn.specs.inner.Steps.{AreSteps, tables_with}
use Rattle.mem_txn.specs.inner.Versions.{IsBegun, Version, Versions, caller_of, entry_of}
use Rattle.mem_txn.proofs.AlongHistory.{IsFiredFirst, asked_of, fired_first}
use Rattle.mem_txn.proofs.EndedTables.{asked_there, entries_at}
use Rattle.mem_txn.proofs.KeptAlong.{all_at, kept_at}
use Rattle.mem_txn.proofs.StepAtPlace.{named_there, planted_at}
use Rattle.mem_txn.proofs.ValuesAlong.{cells_in, held_after}

-- ---- the keys that were written in a tree

-- a key is one of a list, or it isn't
has_or_not : (key : Bytes) (keys : List Bytes) → Has key keys ⊎ (Has key keys → ⊥)
has_or_not key [] = inr (λ h. h)
has_or_not key (k ∷ keys) = of (bytes_eq key k) refl (has_or_not key keys)
  where
    of : (b : Bool) → bytes_eq key k ≡ b → Has key keys ⊎ (Has key keys → ⊥) → Has key (k ∷ keys) ⊎ (Has key (k ∷ keys) → ⊥)
    of true e rest = inl (inl (same_key key k e))
    of false e (inl later) = inl (inr later)
    of false e (inr none) = inr (λ h. ⊎_elim (λ same. no_tie key k e same) (λ later. none later) h)

module _ (kind : Bytes → Type 0) (old new : CellTree) (but : KeptBut kind old new) (c : Cell) (fires : Fires c old new) where
  -- some were, where a cell is gone
  some_key : (key : Bytes) × kind key
  some_key = of but.keys refl
    where
      of : (keys : List Bytes) → but.keys ≡ keys → (key : Bytes) × kind key
      of [] none = absurd (fires.gone (subst (λ (cells : List Cell). Has c cells) (sym (but.kept.none none)) fires.left))
      of (key ∷ keys) is = (key, but.each key (subst (λ (ks : List Bytes). Has key ks) (sym is) (inl refl)))

  -- and the key of a leaf was, where the leaf's cell is gone
  leaf_key : (l : CellLeaf) → Has l (leaves_of old) → l.cell ≡ c → kind l.pair.0
  leaf_key l there is = elim (has_or_not l.pair.0 but.keys) [
    | inl has ↦ but.each l.pair.0 has
    | inr none ↦ absurd (fires.gone (subst (λ (d : Cell). Has d (cells_of new)) is (has_cell (a_leaf l) (pieces_of new) (tree_leaf_piece l new (but.kept.leaves l there none)))))
  ]

  -- the watch of a key is gone: some key was written, and this one if it had been found
  key_written : (key : Bytes) (found : Type 0) (exact : Bool) → watch_in exact key old ≡ c → (found → exact ≡ true) → (found → leaf_with key (leaves_of old) ≡ None → ⊥)
      → (k : Bytes) × kind k × (found → k ≡ key)
  key_written key found false is one has = let k = some_key in (k.0, k.1, λ f. let wrong : false ≡ true = one f in cc)
  key_written key found true is one has = of (leaf_with key (leaves_of old)) refl is
    where
      of : (o : Option CellLeaf) → leaf_with key (leaves_of old) ≡ o → leaf_cell_or (near key old).cell o ≡ c → (k : Bytes) × kind k × (found → k ≡ key)
      of None e same = let k = some_key in (k.0, k.1, λ f. absurd (has f e))
      of (Some l) e same = let at = with_key key (leaves_of old) l e in (l.pair.0, leaf_key l at.0 same, λ f. sym at.1)

-- ---- an entry that a question has found

-- a key without a leaf has no row
none_found : (key : Bytes) (ls : List CellLeaf) → leaf_with key ls ≡ None → find key (map (λ (l : CellLeaf). l.pair) ls) ≡ None
none_found key [] e = refl
none_found key (l ∷ ls) e = of (is_eq (byte_order key l.pair.0)) e (λ none. none_found key ls none)
  where
    of : (b : Bool) → cond b (Some l) (leaf_with key ls) ≡ None → (leaf_with key ls ≡ None → find key (map (λ (m : CellLeaf). m.pair) ls) ≡ None) → cond b (Some l.pair.1) (find key (map (λ (m : CellLeaf). m.pair) ls)) ≡ None
    of true none rest = cc
    of false none rest = rest none

-- the row of an answer that is one
abbrev row_of : Answer → Option Fields
row_of (One row) = row
row_of (Many rows) = None

abbrev answer_or : Asked Answer → Answer
answer_or (Ok a) = a
answer_or (Err why) = Many []

-- a question that looks up one entry is answered with the row of its key
one_answer : (word : Ask) (exact : Bool) (key : Bytes) (es : List Pair) (row : Fields) → IsRising es → (is_for_one word && exact) ≡ true → answer word exact key es ≡ One (Some row) → find key es ≡ Some row
one_answer First exact key es row rising one told = sym (first_exact key es rising) ∙ ap row_of (sym (ap (λ (b : Bool). answer First b key es) one) ∙ told)
one_answer Last exact key es row rising one told = sym (last_exact key es rising) ∙ ap row_of (sym (ap (λ (b : Bool). answer Last b key es) one) ∙ told)
one_answer Get exact key es row rising one told = cc
one_answer GetReverse exact key es row rising one told = cc
one_answer Lower exact key es row rising one told = cc
one_answer ReverseLower exact key es row rising one told = cc
one_answer Longest exact key es row rising one told = cc

module _ (t : TableRows) (held : HoldsEntries t) (q : Query) (at : Lookup) (looked : lookup_of t.schema q ≡ Ok at) (tree : CellTree) (there : slice_get t.trees at.place ≡ Some tree) where
  -- the entries of the question's index
  abbrev es : List Pair
  es = entries t.schema at.index t.rows

  -- they are the leaves of its tree
  leaves_are : map (λ (l : CellLeaf). l.pair) (leaves_of tree) ≡ es
  leaves_are =
      let pairs = λ (x : CellTree). pairs_of (plain_of x) in
      tree_pairs tree ∙ same_Some (pairs tree) es (sym (slice_get-map pairs t.trees at.place ∙ ap (option_map pairs) there) ∙ entries_at t held at.place at.index (looked_there t.schema q at looked))

  -- an entry that it found has a leaf
  found_leaf : (row : Fields) → looks_up at.index q ≡ true → ask_rows t.schema t.rows q ≡ Ok (One (Some row)) → leaf_with at.key (leaves_of tree) ≡ None → ⊥
  found_leaf row one told none =
      let found = one_answer q.ask (is_exact at.index q) at.key es row (sorted-entries t.schema at.index t.rows) one (ap answer_or (sym (asked_there t.schema q at looked t.rows) ∙ told)) in
      let nothing = ap (find at.key) (sym leaves_are) ∙ none_found at.key (leaves_of tree) none in
      let wrong : None ≡ Some row = sym nothing ∙ found in
      cc

-- ---- the commit that fires a question's cell

module _ (h : Versions) (begun : IsBegun h) (steps : AreSteps h) (q : Query) (v n : ℕ) (c : Cell) (there : cell_at (cells_in h) q v ≡ Some c) where
  -- the history of the values
  abbrev J : CellHistory
  J = cells_in h

  -- it has touched what the question looks at
  touches : IsFiredFirst h begun steps q v c there n → IsTouched J.schema J.commits q v n
  touches f =
      let s = f.step in
      let m = f.before in
      let fired = f.fired in
      let t = fired.table in
      let b = fired.next in
      let gone = fired.gone in
      let at = gone.at in
      let fires = gone.fires in
      let named = named_there J.schema (state_after J m) (trees_after J m) q.table t fired.named in
      let kind = IsKeyOf t.schema (rows_written J.schema (state_after J m) s.new.1.writes t.schema.name) in
      let but = kept_at kind t.schema.indexes t.trees b.after.trees at.place at.index fires.before fires.after b.step.kept (looked_there t.schema q at gone.looked) fires.was fires.now in
      let held = all_at HoldsRows (tables_with J.schema (state_after J m) (trees_after J m)) named.table.place t (held_after h steps m s.old s.before) (planted_at J.schema (state_after J m) (trees_after J m) named.table.place t named.there) in
      let exact = looks_up at.index q in
      let watch = same_Some (watch_in exact at.key fires.before) c (sym (ap (option_map (watch_in exact at.key)) fires.was) ∙ gone.cell) in
      let asked = asked_of J.schema (state_after J m) (trees_after J m) q t fired.named in
      let touched = key_written (kind at.index) fires.before fires.after but c fires.fires at.key (HasFound J.schema J.commits q v at) exact watch (λ found. found.one)
      (λ found none. found_leaf t held.rows q at gone.looked fires.before fires.was found.row found.one (sym asked ∙ (f.same.1 ∙ found.found)) none) in
      record {
        place = named.table.place;
        named = named.named.place;
        table = t.schema;
        there = named.there.schema;
        at = at;
        looked = gone.looked;
        before = m;
        since = f.since;
        reached = f.reached;
        commit = entry_of s.new;
        made = s.commit;
        key = touched.0;
        touched = touched.1;
        own = touched.2;
      }

-- each move of a question's cell is a touch
pub moves_touched : (k : Known Version) → IsBegun k.seen → AreSteps k.seen → MovesAreTouches (cells_seen (caller_of k))
moves_touched k begun steps q v n c low high there moved =
    let h = k.seen in
    touches h begun steps q v n c there (fired_first h begun steps q v c there n low high moved)
