-- One step of a walk over the trees of a table, and of one over the keys of a row.
use Rattle.std.proofs.Common.{◌≡◌, ◌∙◌, ◌<◌, ◌≤◌, ◌+◌, ◌∷◌, ◌++◌, [], ℕ, List, Bool, false, cond, not, map, take, drop, set, get_or, length, sym, ap, append_assoc, arith}
use Rattle.std.specs.List.{zip}
use Rattle.std.proofs.lemmas.List.{append-nil, take_all, take_more_set, drop_all, drop_more, drop-set-lt, map-set, length-map, get_or-map}
use Rattle.std.proofs.lemmas.Slice.Zip.{length-zip, get_or-zip}
use Rattle.mdb_datum.specs.Row.{Pair}
use Rattle.mdb_encode.specs.Bytes.{Bytes}
use Rattle.mdb_schema.specs.Write.{is_among}
use Rattle.mdb_schema.specs.Edits.{without, without_all, stale_keys}
use Rattle.radix_txn.specs.Txn.{Txn, txn_pairs}
use Rattle.table_index.specs.inner.TreeEdits.{edited_each}

module _ {K : Type 0} (edit : K → List Pair → List Pair) where
  -- the tree at a place is done, and those behind it are still to do
  edited_step : (ks : List K) (es : List (List Pair)) (at : ℕ) (k : K) (e : List Pair) → at < length ks → at < length es
      → get_or ks at k ≡ k → get_or es at e ≡ e
      → take (at + 1) (set es at (edit k e)) ++ edited_each edit (drop (at + 1) ks) (drop (at + 1) (set es at (edit k e)))
      ≡ take at es ++ edited_each edit (drop at ks) (drop at es)
  edited_step ks es at k e in_keys in_trees key tree =
      let rest : drop (at + 1) (set es at (edit k e)) ≡ drop (at + 1) es = drop-set-lt (at + 1) es at (edit k e) (omega arith) in
      let keys : drop at ks ≡ k ∷ drop (at + 1) ks = drop_more ks at k in_keys ∙ ap (λ x. x ∷ drop (at + 1) ks) key in
      let trees : drop at es ≡ e ∷ drop (at + 1) es = drop_more es at e in_trees ∙ ap (λ x. x ∷ drop (at + 1) es) tree in
      ap (λ (xs : List (List Pair)). take (at + 1) (set es at (edit k e)) ++ edited_each edit (drop (at + 1) ks) xs) rest
      ∙ ap (λ (xs : List (List Pair)). xs ++ edited_each edit (drop (at + 1) ks) (drop (at + 1) es)) (take_more_set es at (edit k e) in_trees)
      ∙ append_assoc (take at es) (edit k e ∷ []) (edited_each edit (drop (at + 1) ks) (drop (at + 1) es))
      ∙ ap (λ (xs : List (List Pair)). take at es ++ xs) (sym (ap (λ (x : List K). edited_each edit x (drop at es)) keys ∙ ap (λ (x : List (List Pair)). edited_each edit (k ∷ drop (at + 1) ks) x) trees))

  -- the same, of the transactions
  pub edited_next : (ks : List K) (ts : List Txn) (at : ℕ) (k : K) (old new : Txn) → at < length ks → at < length ts
      → get_or ks at k ≡ k → get_or ts at old ≡ old → txn_pairs new ≡ edit k (txn_pairs old)
      → take (at + 1) (map txn_pairs (set ts at new)) ++ edited_each edit (drop (at + 1) ks) (drop (at + 1) (map txn_pairs (set ts at new)))
      ≡ take at (map txn_pairs ts) ++ edited_each edit (drop at ks) (drop at (map txn_pairs ts))
  edited_next ks ts at k old new in_keys in_trees key tree done =
      let there : get_or (map txn_pairs ts) at (txn_pairs old) ≡ txn_pairs old = get_or-map txn_pairs ts at old (txn_pairs old) in_trees ∙ ap txn_pairs tree in
      ap (λ (es : List (List Pair)). take (at + 1) es ++ edited_each edit (drop (at + 1) ks) (drop (at + 1) es)) (map-set txn_pairs ts at new ∙ ap (set (map txn_pairs ts) at) done)
      ∙ edited_step ks (map txn_pairs ts) at k (txn_pairs old) in_keys (rw length-map in_trees) key there

  -- behind the last tree nothing is to do
  pub edited_end : (ks : List K) (ts : List Txn) (at : ℕ) → length ks ≤ at → length ts ≤ at
      → take at (map txn_pairs ts) ++ edited_each edit (drop at ks) (drop at (map txn_pairs ts)) ≡ map txn_pairs ts
  edited_end ks ts at no_keys no_trees =
      ap (λ (xs : List K). take at (map txn_pairs ts) ++ edited_each edit xs (drop at (map txn_pairs ts))) (drop_all at ks no_keys)
      ∙ append-nil (take at (map txn_pairs ts)) ∙ take_all at (map txn_pairs ts) (rw length-map no_trees)

-- ---- two lists of keys beside each other

module _ {A B : Type 0} (xs : List A) (ys : List B) (at : ℕ) (in_xs : at < length xs) (in_ys : at < length ys) where
  pub in_both : at < length (zip xs ys)
  in_both = let both = length-zip xs ys in omega arith

  pub both_there : (x : A) (y : B) → get_or xs at x ≡ x → get_or ys at y ≡ y → get_or (zip xs ys) at (x, y) ≡ (x, y)
  both_there x y first second = get_or-zip xs ys at (x, y) in_xs in_ys ∙ (λ j. (first j, second j))

pub both_end : {A B : Type 0} (xs : List A) (ys : List B) (at : ℕ) → length xs ≤ at → length (zip xs ys) ≤ at
both_end xs ys at no_xs = let both = length-zip xs ys in omega arith

-- ---- stale keys

-- a key that isn't kept is taken out
pub stale_out : (kept old : List Bytes) (at : ℕ) (k : Bytes) (es : List Pair) → at < length old → get_or old at k ≡ k → is_among kept k ≡ false
    → without_all (stale_keys kept (drop (at + 1) old)) (without k es) ≡ without_all (stale_keys kept (drop at old)) es
stale_out kept old at k es within key has =
    let rest = stale_keys kept (drop (at + 1) old) in
    let keys : drop at old ≡ k ∷ drop (at + 1) old = drop_more old at k within ∙ ap (λ x. x ∷ drop (at + 1) old) key in
    sym (ap (λ (ks : List Bytes). without_all (stale_keys kept ks) es) keys ∙ ap (λ (b : Bool). without_all (cond (not b) (k ∷ rest) rest) es) has)
