-- What is kept by one write and by another is kept by both.
use Rattle.std.proofs.Common.{◌≡◌, ◌↔◌, ◌⊎◌, inl, inr, ◌++◌, ◌∷◌, ◌∙◌, ℕ, true, List, [], refl, sym, ap, append_assoc}
use Rattle.std.proofs.lemmas.Bool.{eq-eqb, false≢true}
use Rattle.std.proofs.lemmas.List.{append-nil}
use Rattle.std.specs.Prelude.{◌&&◌}
use Rattle.mdb_datum.specs.Bytes.{Bytes, is_prefix}
use Rattle.mdb_datum.specs.Row.{Pair}
use Rattle.radix_node.specs.Cells.{CellTree, plain_of}
use Rattle.radix_node.specs.Nodes.{common, pairs_of}
use Rattle.radix_node.specs.Paths.{Has, HasKey, IsPath, root, whole_key, shared}
use Rattle.radix_node.specs.Shape.{HasShape}
use Rattle.radix_node.proofs.NearPlaces.{prefix_rest}
use Rattle.radix_node.proofs.Parts.{part_parts}
use Rattle.radix_node.proofs.Paths.{Has-left, Has-right}
use Rattle.radix_node.proofs.Prefixes.{is_prefix_all}
use Rattle.radix_node.proofs.WholeTree.{paths_plain}
use Rattle.radix_txn.specs.Kept.{AreWritten, IsParent, Kept, NoneBegins}

-- ---- prefixes

pub prefix_then : (a b c : Bytes) → is_prefix a b ≡ true → is_prefix b c ≡ true → is_prefix a c ≡ true
prefix_then a b c e f =
    let r = prefix_rest a b e in
    let s = prefix_rest b c f in
    is_prefix_all a a (r.0 ++ s.0) c refl (s.1 ∙ ap (λ (z : Bytes). z ++ s.0) r.1 ∙ append_assoc a r.0 s.0)

one_more : (x y : ℕ) (a b : Bytes) → x ≡ y → is_prefix a b ≡ true → is_prefix (x ∷ a) (y ∷ b) ≡ true
one_more x y a b same h = λ i. eq-eqb x y same i && h i

of_same : (a b r s : Bytes) → a ++ r ≡ b ++ s → (is_prefix a b ≡ true) ⊎ (is_prefix b a ≡ true)
of_same [] b r s e = inl refl
of_same (x ∷ a) [] r s e = inr refl
of_same (x ∷ a) (y ∷ b) r s e =
    let same : x ≡ y = cc in
    let rest : a ++ r ≡ b ++ s = cc in
    elim (of_same a b r s rest) [
      | inl h ↦ inl (one_more x y a b same h)
      | inr h ↦ inr (one_more y x b a (sym same) h)
    ]

-- of two prefixes of one string one begins with the other
pub one_begins : (a b k : Bytes) → is_prefix a k ≡ true → is_prefix b k ≡ true → (is_prefix a b ≡ true) ⊎ (is_prefix b a ≡ true)
one_begins a b k e f =
    let r = prefix_rest a k e in
    let s = prefix_rest b k f in
    of_same a b r.0 s.0 (sym r.1 ∙ s.1)

-- ---- the paths that begin with one

module _ (ps qs : List Pair) (q : Bytes) (into : (k : Bytes) → is_prefix q k ≡ true → HasKey k ps → HasKey k qs) where
  path_into : (r : Bytes) → is_prefix q r ≡ true → IsPath ps r → IsPath qs r
  path_into r h (root e) = root e
  path_into r h (whole_key k) = whole_key (into r h k)
  path_into r h (shared k m in_k in_m other e) =
      let parts = part_parts k m in
      let first : is_prefix r k ≡ true = is_prefix_all (common k m) r _ k e parts.first in
      let second : is_prefix r m ≡ true = is_prefix_all (common k m) r _ m e parts.second in
      shared k m (into k (prefix_then q r k h first) in_k) (into m (prefix_then q r m h second) in_m) other e

module _ (old mid : CellTree) (s : HasShape (plain_of old)) (t : HasShape (plain_of mid)) (p q : Bytes) (same : (k : Bytes) → is_prefix q k ≡ true → HasKey k (pairs_of (plain_of old)) ↔ HasKey k (pairs_of (plain_of mid))) where
  -- a parent under which nothing was written is still the parent
  pub parent_stays : IsParent q p old → IsParent q p mid
  parent_stays w = record {
    there = (paths_plain (plain_of mid) t q).1 (path_into _ _ q (λ k h. (same k h).0) q (is_prefix_all q q [] q refl (sym (append-nil q))) ((paths_plain (plain_of old) s q).0 w.there));
    prefix = w.prefix;
    other = w.other;
    longest = λ r h pre ne. elim (one_begins q r p w.prefix pre) [
      | inl more ↦ w.longest r ((paths_plain (plain_of old) s r).1 (path_into _ _ q (λ k i. (same k i).1) r more ((paths_plain (plain_of mid) t r).0 h))) pre ne
      | inr less ↦ less
    ];
  }

-- ---- two writes

not_begun : (q k : Bytes) (keys : List Bytes) → NoneBegins q keys → is_prefix q k ≡ true → Has k keys → ⊥
not_begun q k keys none h there = false≢true (sym (none k there) ∙ h)

nothing : (xs ys : List Bytes) → xs ++ ys ≡ [] → (xs ≡ []) × (ys ≡ [])
nothing [] ys e = (refl, e)
nothing (x ∷ xs) ys e = absurd cc

module _ (old mid new : CellTree) (s : HasShape (plain_of old)) (t : HasShape (plain_of mid)) (first later : List Bytes) (a : AreWritten old mid first) (b : AreWritten mid new later) where
  kept_twice : Kept old new (later ++ first)
  kept_twice = record {
    none = λ e. (let both = nothing later first e in b.kept.none both.0 ∙ a.kept.none both.1);
    paths = λ p q at parent none. (
        let in_first : NoneBegins q first = λ k h. none k (Has-right k later first h) in
        let in_later : NoneBegins q later = λ k h. none k (Has-left k later first h) in
        b.kept.paths p q (a.kept.paths p q at parent in_first)
        (parent_stays old mid s t p.path q (λ k h. a.same k (not_begun q k first in_first h)) parent) in_later
        );
    leaves = λ l h other. b.kept.leaves l (a.kept.leaves l h (λ i. other (Has-right l.pair.0 later first i))) (λ i. other (Has-left l.pair.0 later first i));
  }

  pub written_twice : AreWritten old new (later ++ first)
  written_twice = record {
    kept = kept_twice;
    same = λ k other. (
        let f = a.same k (λ i. other (Has-right k later first i)) in
        let g = b.same k (λ i. other (Has-left k later first i)) in
        (λ h. g.0 (f.0 h), λ h. f.1 (g.1 h))
        );
  }

-- nothing is written yet
pub nothing_written : (t : CellTree) → AreWritten t t []
nothing_written t = record {
  kept = record { none = λ e. refl; paths = λ p q at parent none. at; leaves = λ l h other. h };
  same = λ k other. (λ h. h, λ h. h);
}
