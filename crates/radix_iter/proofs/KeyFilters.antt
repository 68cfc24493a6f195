-- The bounds of the walks as tests along the path of a key.
use Rattle.std.proofs.Common.{◌≡◌, ◌∙◌, ℕ, true, false, List, ap, Less, Greater}
use Rattle.std.specs.Ordering.{is_le, is_ge}
use Rattle.mdb_datum.specs.Bytes.{byte_order}
use Rattle.mdb_datum.specs.Pairs.{at_least, at_most}
use Rattle.radix_node.specs.Nodes.{Plain, pairs_of}
use Rattle.radix_node.specs.Shape.{HasShape}
use Rattle.radix_node.proofs.KeyOrder.{goes_on}
use Rattle.radix_node.proofs.KeysUnder.{Any, Past-less, Past-greater, Past-end}
use Rattle.radix_node.proofs.PathFilter.{Sides, IsTest, walked_plain, kept_plain}
use Rattle.mdb_datum.proofs.ByteOrder.{turned, byte_order_itself}

-- what each bound keeps
abbrev pub upward : Sides
upward = record { lower = false; higher = true; shorter = false; same = true; longer = true }

abbrev pub downward : Sides
downward = record { lower = true; higher = false; shorter = true; same = true; longer = false }

module _ (key : List ℕ) where
  upward-test : IsTest (λ k. is_ge (byte_order k key)) upward key
  upward-test = record {
    lower = λ path x k e q w. ap is_ge (turned key q Greater (Past-greater path key x k e q w));
    higher = λ path x k e q w. ap is_ge (turned key q Less (Past-less path key x k e q w));
    shorter = λ path x k e q f. ap is_ge ((λ i. byte_order (f i) (e i)) ∙ goes_on path x k);
    same = λ q e. ap is_ge (ap (λ (z : List ℕ). byte_order z key) e ∙ byte_order_itself key);
    longer = λ path e q w. ap is_ge (turned key q Less (Past-end Any path key e q w));
  }

  downward-test : IsTest (λ k. is_le (byte_order k key)) downward key
  downward-test = record {
    lower = λ path x k e q w. ap is_le (turned key q Greater (Past-greater path key x k e q w));
    higher = λ path x k e q w. ap is_le (turned key q Less (Past-less path key x k e q w));
    shorter = λ path x k e q f. ap is_le ((λ i. byte_order (f i) (e i)) ∙ goes_on path x k);
    same = λ q e. ap is_le (ap (λ (z : List ℕ). byte_order z key) e ∙ byte_order_itself key);
    longer = λ path e q w. ap is_le (turned key q Less (Past-end Any path key e q w));
  }

  module _ (t : Plain) (s : HasShape t) where
    pub at_least_plain : at_least key (pairs_of t) ≡ walked_plain upward key t
    at_least_plain = kept_plain (λ k. is_ge (byte_order k key)) upward key upward-test t s

    pub at_most_plain : at_most key (pairs_of t) ≡ walked_plain downward key t
    at_most_plain = kept_plain (λ k. is_le (byte_order k key)) downward key downward-test t s
