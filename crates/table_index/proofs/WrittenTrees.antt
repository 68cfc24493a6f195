-- The keys that writes wrote: one write after another, and tree by tree.
use Rattle.std.proofs.Common.{◌≡◌, ◌⊎◌, ◌<◌, ◌++◌, ◌∷◌, [], ℕ, zero, suc, List, map, set, get_or, length, Option, Some, None, Contains, append_assoc, refl, sym, subst, inl, inr, arith}
use Rattle.std.proofs.lemmas.Option.{slice_get_read}
use Rattle.mdb_datum.specs.Pairs.{with_prefix}
use Rattle.mdb_datum.specs.Row.{Fields, Pair}
use Rattle.mdb_encode.specs.Bytes.{Bytes}
use Rattle.mdb_schema.specs.Schema.{IndexSchema}
use Rattle.mdb_schema.proofs.Membership.{Contains-first, Contains-later}
use Rattle.radix_node.specs.Cells.{CellTree}
use Rattle.radix_node.specs.Paths.{Has}
use Rattle.radix_node.proofs.Paths.{Has-split}
use Rattle.radix_txn.specs.Kept.{AreWritten, deleted_key, deleted_keys}
use Rattle.radix_txn.specs.Txn.{Txn}
use Rattle.radix_txn.proofs.KeptInTurn.{nothing_written}
use Rattle.table_index.specs.Written.{EachKept, EachWrote}
use Rattle.table_index.specs.inner.IndexTrees.{starts_of, trees_of}
use Rattle.table_index.specs.inner.Writes.{TreesWrote, InIndex, IsAt, Wrote}

-- ---- one tree

pub wrote_none : (kind : Bytes → Type 0) (x : Txn) → Wrote kind x x
wrote_none kind x keys before = record { more = []; each = λ k h. absurd h; written = before }

pub wrote_then : (kind : Bytes → Type 0) (x y z : Txn) → Wrote kind x y → Wrote kind y z → Wrote kind x z
wrote_then kind x y z first second keys before =
    let a = first keys before in
    let b = second (a.more ++ keys) a.written in
    record {
      more = b.more ++ a.more;
      each = λ k h. elim (Has-split k b.more a.more h) [ inl l ↦ b.each k l | inr r ↦ a.each k r ];
      written = subst (λ (ks : List Bytes). AreWritten z.start z.tree ks) (sym (append_assoc b.more a.more keys)) b.written;
    }

pub wrote_more : (kind wider : Bytes → Type 0) (x y : Txn) → ((k : Bytes) → kind k → wider k) → Wrote kind x y → Wrote wider x y
wrote_more kind wider x y wide h keys before = let a = h keys before in record { more = a.more; each = λ k i. wide k (a.each k i); written = a.written }

pub wrote_one : (key : Bytes) (x y : Txn) → ((keys : List Bytes) → AreWritten x.start x.tree keys → AreWritten y.start y.tree (key ∷ keys)) → Wrote (λ k. k ≡ key) x y
wrote_one key x y h keys before = record { more = key ∷ []; each = λ k i. elim i [ inl e ↦ e | inr none ↦ absurd none ]; written = h keys before }

pub wrote_delete : (key : Bytes) (row : Option Fields) (x y : Txn) → ((keys : List Bytes) → AreWritten x.start x.tree keys → AreWritten y.start y.tree (deleted_key key row keys)) → Wrote (λ k. k ≡ key) x y
wrote_delete key None x y h = λ keys before. record { more = []; each = λ k i. absurd i; written = h keys before }
wrote_delete key (Some row) x y h = wrote_one key x y h

Contains-has : {X : Type 0} (xs : List X) (x : X) → Has x xs → Contains xs x
Contains-has [] x h = absurd h
Contains-has (y ∷ xs) x (inl e) = subst (Contains (y ∷ xs)) (sym e) (Contains-first y xs)
Contains-has (y ∷ xs) x (inr h) = Contains-later y xs x (Contains-has xs x h)

pub wrote_prefix : (prefix : Bytes) (pairs : List Pair) (x y : Txn) → ((keys : List Bytes) → AreWritten x.start x.tree keys → AreWritten y.start y.tree (deleted_keys prefix pairs keys))
    → Wrote (λ k. Contains (map (λ (p : Pair). p.0) (with_prefix prefix pairs)) k) x y
wrote_prefix prefix pairs x y h keys before = record {
  more = map (λ (p : Pair). p.0) (with_prefix prefix pairs);
  each = λ k i. Contains-has (map (λ (p : Pair). p.0) (with_prefix prefix pairs)) k i;
  written = h keys before;
}

-- one more of these keys
pub wrote_key : (keys : List Bytes) (x y z : Txn) (key : Bytes) → Wrote (λ k. Contains keys k) x y → Wrote (λ k. k ≡ key) y z → Contains keys key → Wrote (λ k. Contains keys k) x z
wrote_key keys x y z key before h within = wrote_then (λ k. Contains keys k) x y z before (wrote_more (λ k. k ≡ key) (λ k. Contains keys k) y z (λ k e. subst (Contains keys) (sym e) within) h)

-- the keys that are put in, after those that are taken out
pub wrote_both : (new old : List Bytes) (x y z : Txn) → Wrote (λ k. Contains old k) x y → Wrote (λ k. Contains new k) y z → Wrote (λ k. Contains new k ⊎ Contains old k) x z
wrote_both new old x y z first second =
    wrote_then (λ k. Contains new k ⊎ Contains old k) x y z (wrote_more (λ k. Contains old k) (λ k. Contains new k ⊎ Contains old k) x y (λ k h. inr h) first)
    (wrote_more (λ k. Contains new k) (λ k. Contains new k ⊎ Contains old k) y z (λ k h. inl h) second)

-- ---- the trees of a table

pub trees_none : (kind : ℕ → Bytes → Type 0) (xs : List Txn) → TreesWrote kind xs xs
trees_none kind [] = tt
trees_none kind (x ∷ xs) = (wrote_none (kind 0) x, trees_none (λ place. kind (suc place)) xs)

pub trees_then : (kind : ℕ → Bytes → Type 0) (xs ys zs : List Txn) → TreesWrote kind xs ys → TreesWrote kind ys zs → TreesWrote kind xs zs
trees_then kind [] [] zs a b = b
trees_then kind [] (y ∷ ys) zs a b = absurd a
trees_then kind (x ∷ xs) [] zs a b = absurd a
trees_then kind (x ∷ xs) (y ∷ ys) [] a b = absurd b
trees_then kind (x ∷ xs) (y ∷ ys) (z ∷ zs) a b = (wrote_then (kind 0) x y z a.0 b.0, trees_then (λ place. kind (suc place)) xs ys zs a.1 b.1)

pub trees_more : (kind wider : ℕ → Bytes → Type 0) (xs ys : List Txn) → ((place : ℕ) (k : Bytes) → kind place k → wider place k) → TreesWrote kind xs ys → TreesWrote wider xs ys
trees_more kind wider [] [] wide h = tt
trees_more kind wider [] (y ∷ ys) wide h = absurd h
trees_more kind wider (x ∷ xs) [] wide h = absurd h
trees_more kind wider (x ∷ xs) (y ∷ ys) wide h =
    (wrote_more (kind 0) (wider 0) x y (wide 0) h.0, trees_more (λ place. kind (suc place)) (λ place. wider (suc place)) xs ys (λ place. wide (suc place)) h.1)

-- the tree at a place was written
pub trees_at : (kind : ℕ → Bytes → Type 0) (xs : List Txn) (at : ℕ) (d y : Txn) → at < length xs → Wrote (kind at) (get_or xs at d) y → TreesWrote kind xs (set xs at y)
trees_at kind [] at d y within h = absurd (omega arith)
trees_at kind (x ∷ xs) zero d y within h = (h, trees_none (λ place. kind (suc place)) xs)
trees_at kind (x ∷ xs) (suc at) d y within h = (wrote_none (kind 0) x, trees_at (λ place. kind (suc place)) xs at d y (omega arith) h)

pub step_wrote : (kind : ℕ → Bytes → Type 0) (start xs : List Txn) (at : ℕ) (d y : Txn) → at < length xs → TreesWrote kind start xs → Wrote (kind at) (get_or xs at d) y
    → TreesWrote kind start (set xs at y)
step_wrote kind start xs at d y within before h = trees_then kind start xs (set xs at y) before (trees_at kind xs at d y within h)

-- ---- the keys that stand at each place

at_keys : (kss : List (List Bytes)) (at : ℕ) (ks own : List Bytes) → at < length kss → ks ≡ get_or kss at ks → own ≡ ks → (k : Bytes) → Contains own k → IsAt kss at k
at_keys kss at ks own within is same k h = (ks, slice_get_read kss (length kss) at ks (λ i. length kss) within is, subst (λ (l : List Bytes). Contains l k) same h)

module _ (start xs : List Txn) (at : ℕ) (d y : Txn) (inside : at < length xs) where
  pub step_keys : (kss : List (List Bytes)) (ks own : List Bytes) → at < length kss → ks ≡ get_or kss at ks → own ≡ ks → TreesWrote (IsAt kss) start xs → Wrote (λ k. Contains own k) (get_or xs at d) y
      → TreesWrote (IsAt kss) start (set xs at y)
  step_keys kss ks own within is same before h =
      step_wrote (IsAt kss) start xs at d y inside before (wrote_more (λ k. Contains own k) (IsAt kss at) (get_or xs at d) y (at_keys kss at ks own within is same) h)

  pub step_both : (new old : List (List Bytes)) (ns os : List Bytes) → at < length new → at < length old → ns ≡ get_or new at ns → os ≡ get_or old at os
      → TreesWrote (λ place k. IsAt new place k ⊎ IsAt old place k) start xs → Wrote (λ k. Contains ns k ⊎ Contains os k) (get_or xs at d) y
      → TreesWrote (λ place k. IsAt new place k ⊎ IsAt old place k) start (set xs at y)
  step_both new old ns os in_new in_old is_new is_old before h =
      step_wrote (λ place k. IsAt new place k ⊎ IsAt old place k) start xs at d y inside before
      (wrote_more (λ k. Contains ns k ⊎ Contains os k) (λ k. IsAt new at k ⊎ IsAt old at k) (get_or xs at d) y
      (λ k w. elim w [ inl n ↦ inl (at_keys new at ns ns in_new is_new refl k n) | inr o ↦ inr (at_keys old at os os in_old is_old refl k o) ]) h)

-- ---- since the beginning

module _ (old new wider : IndexSchema → Bytes → Type 0) (was : (i : IndexSchema) (k : Bytes) → old i k → wider i k) (now : (i : IndexSchema) (k : Bytes) → new i k → wider i k) where
  pub each_wrote : (is : List IndexSchema) (xs ys : List Txn) → TreesWrote (InIndex new is) xs ys → EachWrote old is (starts_of xs) (trees_of xs) → EachWrote wider is (starts_of ys) (trees_of ys)
  each_wrote [] [] [] h e = tt
  each_wrote [] [] (y ∷ ys) h e = absurd h
  each_wrote [] (x ∷ xs) ys h e = absurd e
  each_wrote (i ∷ is) [] ys h e = absurd e
  each_wrote (i ∷ is) (x ∷ xs) [] h e = absurd h
  each_wrote (i ∷ is) (x ∷ xs) (y ∷ ys) h e =
      let a = e.0 in
      let b = h.0 a.keys a.written in (
        record {
          keys = b.more ++ a.keys;
          each = λ k m. elim (Has-split k b.more a.keys m) [
            | inl l ↦
                let w = b.each k l in
                let same : i ≡ w.0 = let found = w.1 in cc in
                subst (λ (j : IndexSchema). wider j k) (sym same) (now w.0 k w.2)
            | inr r ↦ was i k (a.each k r)
          ];
          written = b.written;
        },
        each_wrote is xs ys h.1 e.1,
      )

pub each_kept : (kind : IndexSchema → Bytes → Type 0) (is : List IndexSchema) (start trees : List CellTree) → EachWrote kind is start trees → EachKept kind is start trees
each_kept kind [] [] [] h = tt
each_kept kind [] [] (new ∷ trees) h = absurd h
each_kept kind [] (old ∷ start) trees h = absurd h
each_kept kind (i ∷ is) [] trees h = absurd h
each_kept kind (i ∷ is) (old ∷ start) [] h = absurd h
each_kept kind (i ∷ is) (old ∷ start) (new ∷ trees) h = (record { keys = h.0.keys; each = h.0.each; kept = h.0.written.kept }, each_kept kind is start trees h.1)

pub nothing_wrote : (kind : IndexSchema → Bytes → Type 0) (is : List IndexSchema) (trees : List CellTree) → length trees ≡ length is → EachWrote kind is trees trees
nothing_wrote kind [] [] same = tt
nothing_wrote kind [] (tree ∷ trees) same = absurd (omega arith)
nothing_wrote kind (i ∷ is) [] same = absurd (omega arith)
nothing_wrote kind (i ∷ is) (tree ∷ trees) same = (record { keys = []; each = λ k h. absurd h; written = nothing_written tree }, nothing_wrote kind is trees (omega arith))
