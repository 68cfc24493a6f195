-- The rows whose keys a write wrote.
use Rattle.std.proofs.Common.{◌≡◌, ◌∙◌, ◌⊎◌, ◌<◌, ◌++◌, ◌∷◌, [], ℕ, zero, suc, List, map, length, slice_get, Bool, Result, Ok, Err, IfOk, OnOk, MatchResult, Option, Some, None, Contains, refl, sym, ap, subst, inl, inr, arith}
use Rattle.std.proofs.lemmas.List.{length-map}
use Rattle.std.proofs.lemmas.List.Elements.{Contains-append_left, Contains-append_right}
use Rattle.mdb_datum.specs.Bytes.{is_prefix}
use Rattle.mdb_datum.specs.Pairs.{first_item, rows_of, with_prefix}
use Rattle.mdb_datum.specs.Row.{Fields, Pair}
use Rattle.mdb_datum.proofs.ListPlaces.{there_within}
use Rattle.mdb_encode.specs.Bytes.{Bytes}
use Rattle.mdb_schema.specs.Entries.{entries}
use Rattle.mdb_schema.specs.LawfulSchema.{IsLawfulTable}
use Rattle.mdb_schema.specs.Schema.{IndexSchema, TableSchema}
use Rattle.mdb_schema.specs.State.{full_keys, id_key, row_at}
use Rattle.mdb_schema.specs.Wipe.{once}
use Rattle.mdb_schema.specs.Write.{Changed}
use Rattle.mdb_schema.specs.Edits.{full_keys_of}
use Rattle.mdb_schema.specs.declared.write_error.WriteError.{WriteError}
use Rattle.mdb_schema.specs.declared.write_error.WriteError.TheVariants.{Memory}
use Rattle.mdb_schema.proofs.EntriesOfRows.{Contains-from_entries}
use Rattle.mdb_schema.proofs.ListedRows.{entries-rows, where_key-rows, once-contains}
use Rattle.mdb_schema.proofs.Membership.{Contains-nil, Contains-first, each_of_cons, Contains-later, Contains-map, Contains-from_map, Contains-from_filter}
use Rattle.mdb_schema.proofs.Writes.{put_accepted}
use Rattle.radix_node.specs.Cells.{CellTree, plain_of}
use Rattle.radix_node.specs.Nodes.{pairs_of}
use Rattle.radix_txn.specs.Txn.{Txn, txn_pairs}
use Rattle.table_index.specs.Table.{TableChange, TableRows}
use Rattle.table_index.specs.Watched.{HoldsEntries}
use Rattle.table_index.specs.Written.{EachWrote, IsKeyOf, KeepsOthers, row_there, rows_put}
use Rattle.table_index.specs.inner.IndexTrees.{AreSound, AreTrees, nodes_of, rows_held, starts_of, trees_of}
use Rattle.table_index.specs.inner.PutKeys.{IsAccepted, keys_of_each}
use Rattle.table_index.specs.inner.TreeEdits.{without_each}
use Rattle.table_index.specs.inner.Wipes.{listed_at, listed_from}
use Rattle.table_index.specs.inner.Writes.{TreesWrote, InIndex, IsAt, IsCutAt, WroteRows, keys_begun}
use Rattle.table_index.proofs.StoredRows.{same_count, tree_entries}
use Rattle.table_index.proofs.WipeSteps.{listed_is_at, pairs_at}
use Rattle.table_index.proofs.WrittenTrees.{each_kept, each_wrote, trees_more, trees_then, nothing_wrote}

-- ---- the keys of a row, index by index

at_map : (f : IndexSchema → List Bytes) (is : List IndexSchema) (place : ℕ) (ks : List Bytes) → slice_get (map f is) place ≡ Some ks → (i : IndexSchema) × (slice_get is place ≡ Some i) × (ks ≡ f i)
at_map f [] place ks e = cc
at_map f (i ∷ is) zero ks e = (i, refl, let same : f i ≡ ks = cc in sym same)
at_map f (i ∷ is) (suc place) ks e = at_map f is place ks e

module _ (t : TableSchema) (rows : List Fields) where
  key_in : (i : IndexSchema) (k : Bytes) (o : Option Fields) → ((r : Fields) → o ≡ Some r → Contains rows r) → Contains (full_keys_of t i o) k → IsKeyOf t rows i k
  key_in i k None within h = absurd (Contains-nil k h)
  key_in i k (Some r) within h = (r, within r refl, h)

  pub key_at : (o : Option Fields) (kss : List (List Bytes)) → kss ≡ keys_of_each t o → ((r : Fields) → o ≡ Some r → Contains rows r) → (place : ℕ) (k : Bytes) → IsAt kss place k
      → InIndex (IsKeyOf t rows) t.indexes place k
  key_at o kss is within place k h =
      let there : slice_get (keys_of_each t o) place ≡ Some h.0 = sym (ap (λ (l : List (List Bytes)). slice_get l place) is) ∙ h.1 in
      let w = at_map (λ (i : IndexSchema). full_keys_of t i o) t.indexes place h.0 there in
      (w.0, w.1, key_in w.0 k o within (subst (λ (ks : List Bytes). Contains ks k) w.2 h.2))

-- ---- a put

there_in : (o : Option Fields) (r : Fields) → o ≡ Some r → Contains (row_there o) r
there_in None r e = cc
there_in (Some x) r e = let same : x ≡ r = cc in subst (Contains (x ∷ [])) same (Contains-first x [])

module _ (t : TableSchema) (row : Fields) (rows : List Fields) (new old : List (List Bytes)) (replaced : Bool) (accepted : IsAccepted t row rows new old replaced) where
  -- the row that was there
  was : row_at t (id_key t row) rows ≡ accepted.changed.1
  was = ap (λ (c : Changed). c.1) (put_accepted t row rows accepted.changed accepted.done).1

  put_key : (place : ℕ) (k : Bytes) → IsAt new place k ⊎ IsAt old place k → InIndex (IsKeyOf t (row ∷ row_there (row_at t (id_key t row) rows))) t.indexes place k
  put_key place k h =
      let before = row_at t (id_key t row) rows in
      elim h [
        | inl n ↦ key_at t (row ∷ row_there before) (Some row) new accepted.new_keys (λ r e. let same : row ≡ r = cc in subst (Contains (row ∷ row_there before)) same (Contains-first row (row_there before))) place k n
        | inr o ↦
            key_at t (row ∷ row_there before) before old (accepted.old_keys ∙ ap (keys_of_each t) (sym was)) (λ r e. Contains-later row (row_there before) r (there_in before r e)) place k o
      ]

  pub put_wrote : (ns os : List (List Bytes)) → ns ≡ new → os ≡ old → (xs ys : List Txn) → TreesWrote (λ place k. IsAt ns place k ⊎ IsAt os place k) xs ys → WroteRows t (rows_put t row rows) xs ys
  put_wrote ns os is_new is_old xs ys h =
      let here = subst (λ (l : List (List Bytes)). TreesWrote (λ place k. IsAt l place k ⊎ IsAt os place k) xs ys) is_new h in
      let both = subst (λ (l : List (List Bytes)). TreesWrote (λ place k. IsAt new place k ⊎ IsAt l place k) xs ys) is_old here in
      trees_more (λ place k. IsAt new place k ⊎ IsAt old place k) (InIndex (IsKeyOf t (rows_put t row rows)) t.indexes) xs ys put_key both

-- ---- a row that is taken out

pub row_wrote : (t : TableSchema) (row : Fields) (rows : List Fields) (kss : List (List Bytes)) → kss ≡ keys_of_each t (Some row) → Contains rows row → (xs ys : List Txn) → TreesWrote (IsAt kss) xs ys
    → TreesWrote (InIndex (IsKeyOf t rows) t.indexes) xs ys
row_wrote t row rows kss is within xs ys h =
    trees_more (IsAt kss) (InIndex (IsKeyOf t rows) t.indexes) xs ys (key_at t rows (Some row) kss is (λ r e. let same : row ≡ r = cc in subst (Contains rows) same within)) h

-- the same of the row that was stored
pub stored_wrote : (t : TableSchema) (row : Fields) (kss : List (List Bytes)) → kss ≡ keys_of_each t (Some row) → (xs ys : List Txn) (r : Result Fields WriteError)
    → MatchResult r (λ x. (x ≡ row) × (map txn_pairs ys ≡ without_each kss (map txn_pairs xs)) × AreSound ys) (λ e. e ≡ Memory) → OnOk r (TreesWrote (IsAt kss) xs ys) → IfOk r (λ x. WroteRows t (x ∷ []) xs ys)
stored_wrote t row kss is xs ys (Ok x) answer h =
    let same : x ≡ row = answer.0 in
    subst (λ (y : Fields). WroteRows t (y ∷ []) xs ys) (sym same) (row_wrote t row (row ∷ []) kss is (Contains-first row []) xs ys h)
stored_wrote t row kss is xs ys (Err e) answer h = tt

-- full keys of fewer rows are full keys of more
pub more_rows : (t : TableSchema) (rows more : List Fields) → ((r : Fields) → Contains rows r → Contains more r) → (xs ys : List Txn) → TreesWrote (InIndex (IsKeyOf t rows) t.indexes) xs ys
    → TreesWrote (InIndex (IsKeyOf t more) t.indexes) xs ys
more_rows t rows more all xs ys h =
    trees_more (InIndex (IsKeyOf t rows) t.indexes) (InIndex (IsKeyOf t more) t.indexes) xs ys (λ place k i. (i.0, i.1, (i.2.0, all i.2.0 i.2.1, i.2.2))) h

-- ---- a cut

module _ (t : TableSchema) (table : IsLawfulTable t) (cut : ℕ) (prefix : Bytes) (txns : List Txn) (trees : AreTrees t (nodes_of txns)) (within : cut < length t.indexes) where
  abbrev all : List Fields
  all = rows_held t (nodes_of txns)

  tree : (x : Txn) × (slice_get txns cut ≡ Some x)
  tree = let count = same_count t txns table trees in there_within txns cut (omega (arith, count, within))

  named : (i : IndexSchema) × (slice_get t.indexes cut ≡ Some i)
  named = there_within t.indexes cut within

  pairs_are : (i : IndexSchema) → slice_get t.indexes cut ≡ Some i → txn_pairs tree.0 ≡ entries t i all
  pairs_are i found = pairs_at t all txns cut tree.0 i (tree_entries t txns table trees) tree.1 found

  -- a key that begins with the prefix is one of a row that is listed
  cut_key : (i : IndexSchema) → slice_get t.indexes cut ≡ Some i → (k : Bytes) → Contains (keys_begun prefix (slice_get txns cut)) k → IsKeyOf t (listed_from prefix (slice_get txns cut)) i k
  cut_key i found k h =
      let pairs = with_prefix prefix (txn_pairs tree.0) in
      let begun : Contains (map (λ (p : Pair). p.0) pairs) k = subst (λ (o : Option Txn). Contains (keys_begun prefix o) k) tree.1 h in
      let w = Contains-from_map (λ (p : Pair). p.0) pairs k begun in
      let held = (Contains-from_filter (λ (p : Pair). is_prefix prefix p.0) (txn_pairs tree.0) w.0 w.1).0 in
      let entry : Contains (entries t i all) w.0 = subst (λ (es : List Pair). Contains es w.0) (pairs_are i found) held in
      let key = (Contains-from_entries t i w.0.0 all w.0.1 entry).1 in
      let row : Contains (listed_from prefix (slice_get txns cut)) w.0.1 = subst (λ (o : Option Txn). Contains (listed_from prefix o) w.0.1) (sym tree.1) (Contains-map (λ (p : Pair). p.1) pairs w.0 w.1) in
      (w.0.1, row, subst (λ (q : Bytes). Contains (full_keys t i w.0.1) q) w.2 key)

  cut_at_key : (place : ℕ) (k : Bytes) → IsCutAt cut prefix txns place k → InIndex (IsKeyOf t (listed_from prefix (slice_get txns cut))) t.indexes place k
  cut_at_key place k h = (named.0, ap (slice_get t.indexes) h.0 ∙ named.1, cut_key named.0 named.1 k h.1)

  pub cut_wrote : (listed : List Fields) → listed ≡ listed_from prefix (slice_get txns cut) → (xs : List Txn) → TreesWrote (IsCutAt cut prefix txns) txns xs → TreesWrote (InIndex (IsKeyOf t listed) t.indexes) txns xs
  cut_wrote listed is xs h =
      subst (λ (rows : List Fields). TreesWrote (InIndex (IsKeyOf t rows) t.indexes) txns xs) (sym is)
      (trees_more (IsCutAt cut prefix txns) (InIndex (IsKeyOf t (listed_from prefix (slice_get txns cut))) t.indexes) txns xs cut_at_key h)

  -- each row that is listed is taken out once
  pub once_wrote : (listed : List Fields) → listed ≡ listed_from prefix (slice_get txns cut) → (xs : List Txn) → TreesWrote (InIndex (IsKeyOf t listed) t.indexes) txns xs
      → TreesWrote (InIndex (IsKeyOf t (once t (listed_at t (rows_held t (nodes_of txns)) (slice_get t.indexes cut) prefix))) t.indexes) txns xs
  once_wrote listed is xs h =
      let from : listed ≡ rows_of (with_prefix prefix (txn_pairs tree.0)) = is ∙ ap (listed_from prefix) tree.1 in
      let of_index : listed ≡ rows_of (with_prefix prefix (entries t named.0 all)) = from ∙ ap (λ (es : List Pair). rows_of (with_prefix prefix es)) (pairs_are named.0 named.1) in
      let inside : (r : Fields) → Contains listed r → Contains all r =
      λ r k. entries-rows t named.0 all r (where_key-rows (is_prefix prefix) (entries t named.0 all) r (subst (λ (l : List Fields). Contains l r) of_index k)) in
      subst (λ (l : List Fields). TreesWrote (InIndex (IsKeyOf t (once t l)) t.indexes) txns xs) (listed_is_at t table cut prefix txns trees within tree.0 tree.1 listed from)
      (more_rows t listed (once t listed) (once-contains t all listed trees.lawful.rising inside) txns xs h)

-- ---- the rows that are listed, one after another

first_in : (xs : List Fields) (x : Fields) → first_item xs ≡ Some x → Contains xs x
first_in [] x e = cc
first_in (y ∷ xs) x e = let same : y ≡ x = cc in subst (Contains (y ∷ xs)) same (Contains-first y xs)

pub first_wrote : (t : TableSchema) (listed : List Fields) (row : Fields) → first_item listed ≡ Some row → (xs ys : List Txn) → WroteRows t (row ∷ []) xs ys → WroteRows t listed xs ys
first_wrote t listed row first xs ys h =
    more_rows t (row ∷ []) listed (each_of_cons (Contains listed) row [] (first_in listed row first) (λ r none. absurd (Contains-nil r none))) xs ys h

pub next_wrote : (t : TableSchema) (listed rest : List Fields) → ((r : Fields) → Contains rest r → Contains listed r) → (start xs ys : List Txn) → WroteRows t listed start xs → WroteRows t rest xs ys → WroteRows t listed start ys
next_wrote t listed rest within start xs ys before h = trees_then (InIndex (IsKeyOf t listed) t.indexes) start xs ys before (more_rows t rest listed within xs ys h)

-- ---- a change

pub change_wrote : (t : TableSchema) (more : List Fields) (before after : List Txn) → TreesWrote (InIndex (IsKeyOf t more) t.indexes) before after → (rows : List Fields)
    → EachWrote (IsKeyOf t rows) t.indexes (starts_of before) (trees_of before) → EachWrote (IsKeyOf t (more ++ rows)) t.indexes (starts_of after) (trees_of after)
change_wrote t more before after h rows was =
    each_wrote (IsKeyOf t rows) (IsKeyOf t more) (IsKeyOf t (more ++ rows)) (λ i k w. (w.0, Contains-append_right more rows w.0 w.1, w.2)) (λ i k w. (w.0, Contains-append_left more rows w.0 w.1, w.2)) t.indexes before after h was

pub keeps_others : (change : TableChange) (trees : List CellTree) → trees ≡ change.trees → KeepsOthers change trees
keeps_others change trees is rows wrote =
    each_kept (IsKeyOf change.schema rows) change.schema.indexes change.start trees
    (subst (λ (ts : List CellTree). EachWrote (IsKeyOf change.schema rows) change.schema.indexes change.start ts) (sym is) wrote)

-- a table that isn't changed yet
pub nothing_yet : (t : TableRows) → HoldsEntries t → EachWrote (IsKeyOf t.schema []) t.schema.indexes t.trees t.trees
nothing_yet t holds =
    let count : length t.trees ≡ length t.schema.indexes =
    sym (length-map t.trees (λ (x : CellTree). pairs_of (plain_of x))) ∙ ap length holds.held ∙ length-map t.schema.indexes (λ (i : IndexSchema). entries t.schema i t.rows) in
    nothing_wrote (IsKeyOf t.schema []) t.schema.indexes t.trees count
