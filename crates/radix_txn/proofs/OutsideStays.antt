-- What a write of a key, or of a prefix, leaves where it is: each node that sits under one which
-- the key doesn't begin with.
use Rattle.std.proofs.Common.{◌≡◌, ◌≢◌, inl, inr, ◌++◌, ◌∷◌, ◌∙◌, false, List, [], Option, Some, refl, sym, ap, subst, append_assoc}
use Rattle.std.proofs.lemmas.Bool.{false≢true}
use Rattle.std.proofs.lemmas.List.{append-nil}
use Rattle.mdb_datum.specs.Bytes.{Bytes, is_prefix}
use Rattle.radix_node.specs.Cells.{CellLeaf, CellNode, CellNodes, no_cells, celled, CellTree, Piece, a_node, a_leaf, leaf_pieces, node_pieces, root_of}
use Rattle.radix_node.specs.Nodes.{part}
use Rattle.radix_node.specs.Paths.{Has}
use Rattle.radix_node.proofs.Members.{leaf_has}
use Rattle.radix_node.proofs.Parts.{part_parts}
use Rattle.radix_node.proofs.Paths.{Has-left, Has-right}
use Rattle.radix_node.proofs.Prefixes.{is_prefix_all, is_prefix_start}
use Rattle.radix_node.proofs.NodesBelow.{Sits, sits_leaf, sits_piece}
use Rattle.radix_txn.specs.declared.target.Target.{Target}
use Rattle.radix_txn.specs.declared.target.Target.TheVariants.{Key, Prefix}
use Rattle.radix_txn.specs.inner.Outside.{outside, outside_node, staying}

-- a path isn't under the prefix
abbrev pub NotUnder : Target → Bytes → Bytes → Type 0
NotUnder Key rest path = Unit {0}
NotUnder Prefix rest path = is_prefix rest path ≡ false

-- a key isn't the one that is written, and doesn't begin with the prefix
abbrev pub IsOther : Target → Bytes → Bytes → Type 0
IsOther Key rest key = key ≢ rest
IsOther Prefix rest key = is_prefix rest key ≡ false

begins_not : (rest path r : Bytes) → path ≡ rest ++ r → is_prefix rest path ≡ false → ⊥
begins_not rest path r e off = false≢true (sym off ∙ is_prefix_all rest rest r path refl e)

-- what comes after a common start
module _ (shared p k prefix rest q r : Bytes) (first : prefix ≡ shared ++ p) (second : rest ≡ shared ++ k) (at : q ≡ prefix ++ r) where
  far : q ≡ shared ++ (p ++ r)
  far = at ∙ ap (λ (z : Bytes). z ++ r) first ∙ append_assoc shared p r

  ends_in : k ≡ [] → q ≡ rest ++ (p ++ r)
  ends_in none = far ∙ ap (λ (z : Bytes). z ++ (p ++ r)) (sym (append-nil shared) ∙ ap (λ (z : Bytes). shared ++ z) (sym none) ∙ sym second)

  onward_prefix : p ≡ [] → is_prefix q rest ≡ is_prefix r k
  onward_prefix none = (λ i. is_prefix ((far ∙ ap (λ (z : Bytes). shared ++ (z ++ r)) none) i) (second i)) ∙ is_prefix_start shared r k

  onward_under : p ≡ [] → is_prefix rest q ≡ is_prefix k r
  onward_under none = (λ i. is_prefix (second i) ((far ∙ ap (λ (z : Bytes). shared ++ (z ++ r)) none) i)) ∙ is_prefix_start shared k r

  onward_not : (target : Target) → p ≡ [] → NotUnder target rest q → NotUnder target k r
  onward_not Key none h = h
  onward_not Prefix none h = sym (onward_under none) ∙ h

  onward_other : (target : Target) → p ≡ [] → IsOther target rest q → IsOther target k r
  onward_other Key none h = λ e. h (far ∙ ap (λ (z : Bytes). shared ++ (z ++ r)) none ∙ ap (λ (z : Bytes). shared ++ z) e ∙ sym second)
  onward_other Prefix none h = sym (onward_under none) ∙ h

-- ---- nodes

node_under : (target : Target) (shared p k prefix rest q r : Bytes) (n : CellNode) (leaf : Option CellLeaf) (under : CellNodes) → prefix ≡ shared ++ p → rest ≡ shared ++ k → q ≡ prefix ++ r → Sits r n under → is_prefix q rest ≡ false → NotUnder target rest q → (is_prefix r k ≡ false → NotUnder target k r → Has (a_node n) (outside target k under)) → Has (a_node n) (staying target p k leaf under (outside target k under))
node_under target shared [] (x ∷ k) prefix rest q r n leaf under first second at sits off not inner =
    Has-right (a_node n) (leaf_pieces leaf) (outside target (x ∷ k) under) (inner (sym (onward_prefix shared [] (x ∷ k) prefix rest q r first second at refl) ∙ off) (onward_not shared [] (x ∷ k) prefix rest q r first second at target refl not))
node_under Key shared [] [] prefix rest q r n leaf under first second at sits off not inner =
    inner (sym (onward_prefix shared [] [] prefix rest q r first second at refl) ∙ off) tt
node_under Prefix shared [] [] prefix rest q r n leaf under first second at sits off not inner =
    absurd (begins_not rest q r (ends_in shared [] [] prefix rest q r first second at refl) not)
node_under Key shared (y ∷ p) k prefix rest q r n leaf under first second at sits off not inner =
    Has-right (a_node n) (leaf_pieces leaf) (node_pieces under) (sits_piece r n under sits)
node_under Prefix shared (y ∷ p) [] prefix rest q r n leaf under first second at sits off not inner =
    absurd (begins_not rest q ((y ∷ p) ++ r) (ends_in shared (y ∷ p) [] prefix rest q r first second at refl) not)
node_under Prefix shared (y ∷ p) (x ∷ k) prefix rest q r n leaf under first second at sits off not inner =
    Has-right (a_node n) (leaf_pieces leaf) (node_pieces under) (sits_piece r n under sits)

node_stays : (target : Target) (rest q : Bytes) (n : CellNode) (ns : CellNodes) → Sits q n ns → is_prefix q rest ≡ false → NotUnder target rest q → Has (a_node n) (outside target rest ns)
node_stays target rest q n no_cells s off not = absurd s
node_stays target rest q n (celled cell prefix leaf under later) (inl w) off not =
    absurd (false≢true (sym off ∙ ap (λ (z : Bytes). is_prefix z rest) w.0))
node_stays target rest q n (celled cell prefix leaf under later) (inr (inl w)) off not =
    let s = part prefix rest in
    let is = part_parts prefix rest in
    Has-left (a_node n) (staying target s.1 s.2 leaf under (outside target s.2 under)) (outside target rest later)
    (node_under target s.0 s.1 s.2 prefix rest q w.0 n leaf under is.first is.second w.1 w.2 off not (λ o h. node_stays target s.2 w.0 n under w.2 o h))
node_stays target rest q n (celled cell prefix leaf under later) (inr (inr v)) off not =
    let s = part prefix rest in
    Has-right (a_node n) (staying target s.1 s.2 leaf under (outside target s.2 under)) (outside target rest later) (node_stays target rest q n later v off not)

-- in a whole tree
pub node_outside : (target : Target) (key q : Bytes) (n : CellNode) (t : CellTree) → Sits q n t.nodes → is_prefix q key ≡ false → NotUnder target key q → Has (a_node n) (outside_node target key (root_of t))
node_outside target (x ∷ k) q n t s off not = Has-right (a_node n) (leaf_pieces t.leaf) (outside target (x ∷ k) t.nodes) (node_stays target (x ∷ k) q n t.nodes s off not)
node_outside Key [] q n t s off not = node_stays Key [] q n t.nodes s off not
node_outside Prefix [] q n t s off not = absurd (false≢true (sym not))

-- ---- leaves

leaf_here : (target : Target) (shared p k prefix rest : Bytes) (l : CellLeaf) (leaf : Option CellLeaf) (under : CellNodes) (below : List Piece) → prefix ≡ shared ++ p → rest ≡ shared ++ k → leaf ≡ Some l → IsOther target rest prefix → Has (a_leaf l) (staying target p k leaf under below)
leaf_here target shared [] (x ∷ k) prefix rest l leaf under below first second is other = Has-left (a_leaf l) (leaf_pieces leaf) below (leaf_has l leaf is)
leaf_here Key shared [] [] prefix rest l leaf under below first second is other = absurd (other (first ∙ sym second))
leaf_here Prefix shared [] [] prefix rest l leaf under below first second is other =
    absurd (begins_not rest prefix [] (first ∙ sym second ∙ sym (append-nil rest)) other)
leaf_here Key shared (y ∷ p) k prefix rest l leaf under below first second is other = Has-left (a_leaf l) (leaf_pieces leaf) (node_pieces under) (leaf_has l leaf is)
leaf_here Prefix shared (y ∷ p) [] prefix rest l leaf under below first second is other =
    absurd (begins_not rest prefix (y ∷ p) (first ∙ ap (λ (z : Bytes). z ++ y ∷ p) (sym (append-nil shared) ∙ sym second)) other)
leaf_here Prefix shared (y ∷ p) (x ∷ k) prefix rest l leaf under below first second is other = Has-left (a_leaf l) (leaf_pieces leaf) (node_pieces under) (leaf_has l leaf is)

leaf_under : (target : Target) (shared p k prefix rest q r : Bytes) (l : CellLeaf) (leaf : Option CellLeaf) (under : CellNodes) → prefix ≡ shared ++ p → rest ≡ shared ++ k → q ≡ prefix ++ r → Has (a_leaf l) (node_pieces under) → IsOther target rest q → (IsOther target k r → Has (a_leaf l) (outside target k under)) → Has (a_leaf l) (staying target p k leaf under (outside target k under))
leaf_under target shared [] (x ∷ k) prefix rest q r l leaf under first second at there other inner =
    Has-right (a_leaf l) (leaf_pieces leaf) (outside target (x ∷ k) under) (inner (onward_other shared [] (x ∷ k) prefix rest q r first second at target refl other))
leaf_under Key shared [] [] prefix rest q r l leaf under first second at there other inner =
    inner (onward_other shared [] [] prefix rest q r first second at Key refl other)
leaf_under Prefix shared [] [] prefix rest q r l leaf under first second at there other inner =
    absurd (begins_not rest q r (ends_in shared [] [] prefix rest q r first second at refl) other)
leaf_under Key shared (y ∷ p) k prefix rest q r l leaf under first second at there other inner = Has-right (a_leaf l) (leaf_pieces leaf) (node_pieces under) there
leaf_under Prefix shared (y ∷ p) [] prefix rest q r l leaf under first second at there other inner =
    absurd (begins_not rest q ((y ∷ p) ++ r) (ends_in shared (y ∷ p) [] prefix rest q r first second at refl) other)
leaf_under Prefix shared (y ∷ p) (x ∷ k) prefix rest q r l leaf under first second at there other inner = Has-right (a_leaf l) (leaf_pieces leaf) (node_pieces under) there

leaf_stays : (target : Target) (rest q : Bytes) (n : CellNode) (l : CellLeaf) (ns : CellNodes) → Sits q n ns → n.leaf ≡ Some l → IsOther target rest (q ++ n.prefix) → Has (a_leaf l) (outside target rest ns)
leaf_stays target rest q n l no_cells s is other = absurd s
leaf_stays target rest q n l (celled cell prefix leaf under later) (inl w) is other =
    let s = part prefix rest in
    let parts = part_parts prefix rest in
    let own : leaf ≡ Some l = ap (λ (m : CellNode). m.leaf) (sym w.1) ∙ is in
    let here : q ++ n.prefix ≡ prefix = λ i. w.0 i ++ (w.1 i).prefix in
    Has-left (a_leaf l) (staying target s.1 s.2 leaf under (outside target s.2 under)) (outside target rest later)
    (leaf_here target s.0 s.1 s.2 prefix rest l leaf under (outside target s.2 under) parts.first parts.second own (subst (IsOther target rest) here other))
leaf_stays target rest q n l (celled cell prefix leaf under later) (inr (inl w)) is other =
    let s = part prefix rest in
    let parts = part_parts prefix rest in
    let deep : q ++ n.prefix ≡ prefix ++ (w.0 ++ n.prefix) = ap (λ (z : Bytes). z ++ n.prefix) w.1 ∙ append_assoc prefix w.0 n.prefix in
    Has-left (a_leaf l) (staying target s.1 s.2 leaf under (outside target s.2 under)) (outside target rest later)
    (leaf_under target s.0 s.1 s.2 prefix rest (q ++ n.prefix) (w.0 ++ n.prefix) l leaf under parts.first parts.second deep (sits_leaf w.0 n l under w.2 is) other (λ o. leaf_stays target s.2 w.0 n l under w.2 is o))
leaf_stays target rest q n l (celled cell prefix leaf under later) (inr (inr v)) is other =
    let s = part prefix rest in
    Has-right (a_leaf l) (staying target s.1 s.2 leaf under (outside target s.2 under)) (outside target rest later) (leaf_stays target rest q n l later v is other)

-- in a whole tree
pub leaf_outside : (target : Target) (key q : Bytes) (n : CellNode) (l : CellLeaf) (t : CellTree) → Sits q n t.nodes → n.leaf ≡ Some l → IsOther target key (q ++ n.prefix) → Has (a_leaf l) (outside_node target key (root_of t))
leaf_outside target (x ∷ k) q n l t s is other = Has-right (a_leaf l) (leaf_pieces t.leaf) (outside target (x ∷ k) t.nodes) (leaf_stays target (x ∷ k) q n l t.nodes s is other)
leaf_outside Key [] q n l t s is other = leaf_stays Key [] q n l t.nodes s is other
leaf_outside Prefix [] q n l t s is other = absurd (false≢true (sym other))

pub root_leaf_outside : (target : Target) (key : Bytes) (l : CellLeaf) (t : CellTree) → t.leaf ≡ Some l → IsOther target key [] → Has (a_leaf l) (outside_node target key (root_of t))
root_leaf_outside target (x ∷ k) l t is other = Has-left (a_leaf l) (leaf_pieces t.leaf) (outside target (x ∷ k) t.nodes) (leaf_has l t.leaf is)
root_leaf_outside Key [] l t is other = absurd (other refl)
root_leaf_outside Prefix [] l t is other = absurd (false≢true (sym other))
