-- Where the keys stand that are under a node.
use Rattle.std.proofs.Common.{◌≡◌, ◌<◌, ◌++◌, ◌∷◌, ◌∙◌, ℕ, List, [], Option, Some, None, append_assoc, Less, Greater}
use Rattle.mdb_datum.specs.Bytes.{byte_order}
use Rattle.mdb_datum.specs.Row.{Pair}
use Rattle.radix_node.specs.Nodes.{Nodes, no_nodes, node, pairs_of_leaf, pairs_of_nodes}
use Rattle.radix_node.specs.Shape.{FirstBytes, IsKeyed, IsShaped}
use Rattle.radix_node.proofs.KeyOrder.{Each, Each-append, Each-weaken, lower_byte, higher_byte, goes_on, goes_on_back}

abbrev pub Any : ℕ → Type 0
Any c = Unit {0}

-- the key goes on past the path, by a byte of which P holds
abbrev pub Past : (ℕ → Type 0) → List ℕ → List ℕ → Type 0
Past P path key = (c : ℕ) × (r : List ℕ) × P c × (key ≡ path ++ c ∷ r)

pub any_first : (path : List ℕ) (ns : Nodes) → IsShaped path ns → FirstBytes Any ns
any_first path no_nodes s = tt
any_first path (node [] leaf under later) s = absurd s
any_first path (node (b ∷ p) leaf under later) s = (tt, any_first path later s.later)

pub weaken_first : (P Q : ℕ → Type 0) → ((c : ℕ) → P c → Q c) → (ns : Nodes) → FirstBytes P ns → FirstBytes Q ns
weaken_first P Q f no_nodes h = tt
weaken_first P Q f (node [] leaf under later) h = absurd h
weaken_first P Q f (node (b ∷ p) leaf under later) h = (f b h.0, weaken_first P Q f later h.1)

-- a node's own key goes on past the path above
pub leaf_past : (P : ℕ → Type 0) (path : List ℕ) (b : ℕ) (p : List ℕ) (leaf : Option Pair) → P b → IsKeyed (path ++ b ∷ p) leaf → Each (Past P path) (pairs_of_leaf leaf)
leaf_past P path b p None h keyed = tt
leaf_past P path b p (Some pair) h keyed = ((b, p, h, keyed), tt)

pub Past-further : (P : ℕ → Type 0) (path : List ℕ) (b : ℕ) (p : List ℕ) → P b → (k : List ℕ) → Past Any (path ++ b ∷ p) k → Past P path k
Past-further P path b p h k w = (b, p ++ w.0 ∷ w.1, h, w.3 ∙ append_assoc path (b ∷ p) (w.0 ∷ w.1))

-- keys under a node go on past its path
pub keys_past : (P : ℕ → Type 0) (path : List ℕ) (ns : Nodes) → IsShaped path ns → FirstBytes P ns → Each (Past P path) (pairs_of_nodes ns)
keys_past P path no_nodes s h = tt
keys_past P path (node [] leaf under later) s h = absurd s
keys_past P path (node (b ∷ p) leaf under later) s h =
    Each-append (Past P path) (pairs_of_leaf leaf) _ (leaf_past P path b p leaf h.0 s.keyed)
    (Each-append (Past P path) (pairs_of_nodes under) (pairs_of_nodes later)
    (Each-weaken (Past Any (path ++ b ∷ p)) (Past P path) (pairs_of_nodes under) (Past-further P path b p h.0) (keys_past Any (path ++ b ∷ p) under s.under (any_first (path ++ b ∷ p) under s.under)))
    (keys_past P path later s.later h.1))

-- keys past a node's path
pub below_past : (path : List ℕ) (ns : Nodes) → IsShaped path ns → Each (Past Any path) (pairs_of_nodes ns)
below_past path ns s = keys_past Any path ns s (any_first path ns s)

-- the keys under a node, seen from the path above it
pub under_past : (P : ℕ → Type 0) (path : List ℕ) (b : ℕ) (p : List ℕ) (under : Nodes) → P b → IsShaped (path ++ b ∷ p) under → Each (Past P path) (pairs_of_nodes under)
under_past P path b p under h s = Each-weaken (Past Any (path ++ b ∷ p)) (Past P path) (pairs_of_nodes under) (Past-further P path b p h) (below_past (path ++ b ∷ p) under s)

-- ---- how such keys compare

pub Past-less : (path key : List ℕ) (x : ℕ) (k : List ℕ) → key ≡ path ++ x ∷ k → (q : List ℕ) → Past (λ c. x < c) path q → byte_order key q ≡ Less
Past-less path key x k e q w = (λ i. byte_order (e i) (w.3 i)) ∙ lower_byte path x w.0 k w.1 w.2

pub Past-greater : (path key : List ℕ) (x : ℕ) (k : List ℕ) → key ≡ path ++ x ∷ k → (q : List ℕ) → Past (λ c. c < x) path q → byte_order key q ≡ Greater
Past-greater path key x k e q w = (λ i. byte_order (e i) (w.3 i)) ∙ higher_byte path w.0 x w.1 k w.2

pub Past-end : (P : ℕ → Type 0) (path key : List ℕ) → key ≡ path → (q : List ℕ) → Past P path q → byte_order key q ≡ Less
Past-end P path key e q w = (λ i. byte_order (e i) (w.3 i)) ∙ goes_on path w.0 w.1

-- the key of a node's leaf is below one that goes on past the node's path
pub leaf_greater : (path key : List ℕ) (x : ℕ) (k : List ℕ) → key ≡ path ++ x ∷ k → (leaf : Option Pair) → IsKeyed path leaf → Each (λ q. byte_order key q ≡ Greater) (pairs_of_leaf leaf)
leaf_greater path key x k e None keyed = tt
leaf_greater path key x k e (Some pair) keyed = ((λ i. byte_order (e i) (keyed i)) ∙ goes_on_back path x k, tt)
