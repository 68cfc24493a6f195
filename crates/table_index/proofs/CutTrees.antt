-- Trees of which one was cut: what is taken out of them, which place was cut, and when nothing was.
use Rattle.std.proofs.Common.{◌≡◌, ◌≢◌, ◌∙◌, ℕ, zero, suc, List, [], ◌∷◌, map, filter, length, set, slice_get, Bool, true, false, not, cond, Some, refl, sym, ap}
use Rattle.std.specs.Ordering.{eq_by_cmp}
use Rattle.mdb_datum.specs.Bytes.{is_prefix}
use Rattle.mdb_datum.specs.Pairs.{rows_of, with_prefix}
use Rattle.mdb_datum.specs.Row.{Pair}
use Rattle.mdb_encode.specs.Bytes.{Bytes, byte_order}
use Rattle.mdb_schema.specs.Edits.{without, without_all}
use Rattle.radix_node.specs.Pairs.{without_prefix}
use Rattle.radix_txn.specs.Txn.{Txn, txn_pairs}
use Rattle.table_index.specs.inner.TreeEdits.{without_each}
use Rattle.table_index.specs.inner.Wipes.{cut_at, listed_from}

module _ {X : Type 0} where
  filter_keep : (p : X → Bool) (x : X) (xs : List X) → p x ≡ true → filter p (x ∷ xs) ≡ x ∷ filter p xs
  filter_keep p x xs e = ap (λ (b : Bool). cond b (x ∷ filter p xs) (filter p xs)) e

  filter_skip : (p : X → Bool) (x : X) (xs : List X) → p x ≡ false → filter p (x ∷ xs) ≡ filter p xs
  filter_skip p x xs e = ap (λ (b : Bool). cond b (x ∷ filter p xs) (filter p xs)) e

  -- what two tests keep doesn't depend on their order
  filter_swap : (p q : X → Bool) (xs : List X) → filter p (filter q xs) ≡ filter q (filter p xs)
  filter_swap p q [] = refl
  filter_swap p q (x ∷ xs) = of (p x) (q x) refl refl (filter_swap p q xs)
    where
      of : (a b : Bool) → p x ≡ a → q x ≡ b → filter p (filter q xs) ≡ filter q (filter p xs)
          → filter p (cond b (x ∷ filter q xs) (filter q xs)) ≡ filter q (cond a (x ∷ filter p xs) (filter p xs))
      of true true e f later = filter_keep p x (filter q xs) e ∙ ap (λ (l : List X). x ∷ l) later ∙ sym (filter_keep q x (filter p xs) f)
      of true false e f later = later ∙ sym (filter_skip q x (filter p xs) f)
      of false true e f later = filter_skip p x (filter q xs) e ∙ later
      of false false e f later = later

-- keys are taken out before or after the cut
without_all-cut : (key : Bytes) (ks : List Bytes) (es : List Pair) → without_all ks (without_prefix key es) ≡ without_prefix key (without_all ks es)
without_all-cut key [] es = refl
without_all-cut key (k ∷ ks) es =
    ap (without_all ks) (filter_swap (λ (e : Pair). not (eq_by_cmp byte_order k e.0)) (λ (e : Pair). not (is_prefix key e.0)) es)
    ∙ without_all-cut key ks (without k es)

pub without_each-cut : (key : Bytes) (kss : List (List Bytes)) (es : List (List Pair)) (place : ℕ) → without_each kss (cut_at key es place) ≡ cut_at key (without_each kss es) place
without_each-cut key [] es place = refl
without_each-cut key (ks ∷ kss) [] place = refl
without_each-cut key (ks ∷ kss) (e ∷ es) zero = ap (λ (x : List Pair). x ∷ without_each kss es) (without_all-cut key ks e)
without_each-cut key (ks ∷ kss) (e ∷ es) (suc place) = ap (λ (l : List (List Pair)). without_all ks e ∷ l) (without_each-cut key kss es place)

pub length-cut_at : (key : Bytes) (es : List (List Pair)) (place : ℕ) → length (cut_at key es place) ≡ length es
length-cut_at key [] place = refl
length-cut_at key (e ∷ es) zero = refl
length-cut_at key (e ∷ es) (suc place) = ap suc (length-cut_at key es place)

-- the other places stay
pub slice_get-cut_at : (key : Bytes) (es : List (List Pair)) (place at : ℕ) → at ≢ place → slice_get (cut_at key es place) at ≡ slice_get es at
slice_get-cut_at key [] place at apart = refl
slice_get-cut_at key (e ∷ es) zero zero apart = absurd (apart refl)
slice_get-cut_at key (e ∷ es) zero (suc at) apart = refl
slice_get-cut_at key (e ∷ es) (suc place) zero apart = refl
slice_get-cut_at key (e ∷ es) (suc place) (suc at) apart = slice_get-cut_at key es place at (λ e. apart (ap suc e))

-- the cut as the edit of a place
pub set-cut_at : (key : Bytes) (es : List (List Pair)) (place : ℕ) (e : List Pair) → slice_get es place ≡ Some e → set es place (without_prefix key e) ≡ cut_at key es place
set-cut_at key [] place e there = cc
set-cut_at key (x ∷ es) zero e there = let same : x ≡ e = cc in ap (λ (y : List Pair). without_prefix key y ∷ es) (sym same)
set-cut_at key (x ∷ es) (suc place) e there = ap (λ (l : List (List Pair)). x ∷ l) (set-cut_at key es place e there)

-- a cut of nothing
pub cut_at-nothing : {X : Type 0} (key : Bytes) (f : X → List Pair) (is : List X) (place : ℕ) → ((i : X) → slice_get is place ≡ Some i → without_prefix key (f i) ≡ f i)
    → cut_at key (map f is) place ≡ map f is
cut_at-nothing key f [] place none = refl
cut_at-nothing key f (i ∷ is) zero none = ap (λ (e : List Pair). e ∷ map f is) (none i refl)
cut_at-nothing key f (i ∷ is) (suc place) none = ap (λ (l : List (List Pair)). f i ∷ l) (cut_at-nothing key f is place none)

-- no key begins with the key where no row is listed under it
none_begins : (key : Bytes) (es : List Pair) → rows_of (with_prefix key es) ≡ [] → without_prefix key es ≡ es
none_begins key [] none = refl
none_begins key (e ∷ es) none = of (is_prefix key e.0) none (none_begins key es)
  where
    of : (b : Bool) → rows_of (cond b (e ∷ with_prefix key es) (with_prefix key es)) ≡ [] → (rows_of (with_prefix key es) ≡ [] → without_prefix key es ≡ es)
        → cond (not b) (e ∷ without_prefix key es) (without_prefix key es) ≡ e ∷ es
    of true none later = cc
    of false none later = ap (λ (l : List Pair). e ∷ l) (later none)

pub cut_at-unlisted : (key : Bytes) (txns : List Txn) (place : ℕ) → listed_from key (slice_get txns place) ≡ [] → cut_at key (map txn_pairs txns) place ≡ map txn_pairs txns
cut_at-unlisted key txns place none = cut_at-nothing key txn_pairs txns place (λ x there. none_begins key (txn_pairs x) (sym (ap (listed_from key) there) ∙ none))
