-- The keys that begin with a prefix, kept by a walk down the nodes.
use Rattle.std.proofs.Common.{◌≡◌, ◌∷◌, ◌∙◌, ℕ, true, false, List, [], sym, arith}
use Rattle.std.proofs.lemmas.List.{append-nil}
use Rattle.mdb_datum.specs.Bytes.{is_prefix}
use Rattle.radix_node.specs.Nodes.{Plain, pairs_of}
use Rattle.radix_node.specs.Pairs.{with_prefix}
use Rattle.radix_node.specs.Shape.{HasShape}
use Rattle.radix_node.proofs.PathFilter.{Sides, IsTest, narrow, walked_plain, kept_plain}
use Rattle.radix_node.proofs.Prefixes.{is_prefix_all, is_prefix_other, is_prefix_short}

-- what the test by a prefix keeps
abbrev pub inside : Sides
inside = narrow false true true

inside-test : (prefix : List ℕ) → IsTest (is_prefix prefix) inside prefix
inside-test prefix = record {
  lower = λ path x k e q w. is_prefix_other path prefix x k e q (w.0, w.1, (λ same. absurd (omega (arith, w.2, same))), w.3);
  higher = λ path x k e q w. is_prefix_other path prefix x k e q (w.0, w.1, (λ same. absurd (omega (arith, w.2, same))), w.3);
  shorter = λ path x k e q f. is_prefix_short path prefix x k e q f;
  same = λ q e. is_prefix_all prefix prefix [] q (λ i. prefix) (e ∙ sym (append-nil prefix));
  longer = λ path e q w. is_prefix_all path prefix (w.0 ∷ w.1) q e w.3;
}

pub with_prefix_plain : (prefix : List ℕ) (t : Plain) → HasShape t → with_prefix prefix (pairs_of t) ≡ walked_plain inside prefix t
with_prefix_plain prefix t s = kept_plain (is_prefix prefix) inside prefix (inside-test prefix) t s
