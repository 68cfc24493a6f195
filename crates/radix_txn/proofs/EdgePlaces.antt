-- Where a byte stands among edges, or would stand.
use Rattle.std.proofs.Common.{◌≡◌, ◌+◌, ◌<◌, ◌≤◌, ◌++◌, ◌∷◌, ◌∙◌, ℕ, List, [], length, take, drop, Some, Result, Ok, Err, refl, sym, ap, arith, length-append, Less, Equal, Greater}
use Rattle.std.specs.List.{slice_get}
use Rattle.std.specs.FinMap.Entries as entries
use Rattle.std.proofs.lemmas.List.{take_at, drop_at}
use Rattle.radix_node.specs.Nodes.{first_order}
use Rattle.radix_node.specs.Edges.{place_of, further_by}
use Rattle.radix_node.specs.Node.{PlainNode}

-- each edge has a lower first byte
abbrev pub Before : ℕ → List PlainNode → Type 0
Before x [] = Unit {0}
Before x (n ∷ ns) = (first_order (x ∷ []) n.prefix ≡ Greater) × Before x ns

-- the first edge has a higher first byte
abbrev pub After : ℕ → List PlainNode → Type 0
After x [] = Unit {0}
After x (n ∷ ns) = first_order (x ∷ []) n.prefix ≡ Less

-- the edge at a place has the first byte
pub record Standing (x : ℕ) (es : List PlainNode) (at : ℕ) : Type 0 where
  pub front : List PlainNode
  pub child : PlainNode
  pub back : List PlainNode
  pub whole : es ≡ front ++ child ∷ back
  pub place : length front ≡ at
  pub before : Before x front
  pub equal : first_order (x ∷ []) child.prefix ≡ Equal

-- no edge has the first byte, which would go to a place
pub record Gap (x : ℕ) (es : List PlainNode) (at : ℕ) : Type 0 where
  pub front : List PlainNode
  pub back : List PlainNode
  pub whole : es ≡ front ++ back
  pub place : length front ≡ at
  pub before : Before x front
  pub after : After x back

standing_more : (x : ℕ) (n : PlainNode) (ns : List PlainNode) (at : ℕ) (r : Result ℕ ℕ) → first_order (x ∷ []) n.prefix ≡ Greater → ((i : ℕ) → r ≡ Ok i → Standing x ns i) → further_by 1 r ≡ Ok at → Standing x (n ∷ ns) at
standing_more x n ns at (Ok i) o more e =
    let s = more i refl in
    let here : 1 + i ≡ at = cc in
    record { front = n ∷ s.front; child = s.child; back = s.back; whole = ap (λ (z : List PlainNode). n ∷ z) s.whole; place = omega (arith, s.place); before = (o, s.before); equal = s.equal }
standing_more x n ns at (Err i) o more e = cc

pub standing : (x : ℕ) (es : List PlainNode) (at : ℕ) → place_of x es ≡ Ok at → Standing x es at
standing x [] at e = cc
standing x (n ∷ ns) at e =
    elim (first_order (x ∷ []) n.prefix) as (λ o. first_order (x ∷ []) n.prefix ≡ o → entries.by_order o (Err 0) (Ok 0) (further_by 1 (place_of x ns)) ≡ Ok at → Standing x (n ∷ ns) at) [
      | Less ↦ λ o g. cc
      | Equal ↦ λ o g. record { front = []; child = n; back = ns; whole = refl; place = cc; before = tt; equal = o }
      | Greater ↦ λ o g. standing_more x n ns at (place_of x ns) o (λ i f. standing x ns i f) g
    ] refl e

gap_more : (x : ℕ) (n : PlainNode) (ns : List PlainNode) (at : ℕ) (r : Result ℕ ℕ) → first_order (x ∷ []) n.prefix ≡ Greater → ((i : ℕ) → r ≡ Err i → Gap x ns i) → further_by 1 r ≡ Err at → Gap x (n ∷ ns) at
gap_more x n ns at (Err i) o more e =
    let s = more i refl in
    let here : 1 + i ≡ at = cc in
    record { front = n ∷ s.front; back = s.back; whole = ap (λ (z : List PlainNode). n ∷ z) s.whole; place = omega (arith, s.place); before = (o, s.before); after = s.after }
gap_more x n ns at (Ok i) o more e = cc

pub gap : (x : ℕ) (es : List PlainNode) (at : ℕ) → place_of x es ≡ Err at → Gap x es at
gap x [] at e = record { front = []; back = []; whole = refl; place = cc; before = tt; after = tt }
gap x (n ∷ ns) at e =
    elim (first_order (x ∷ []) n.prefix) as (λ o. first_order (x ∷ []) n.prefix ≡ o → entries.by_order o (Err 0) (Ok 0) (further_by 1 (place_of x ns)) ≡ Err at → Gap x (n ∷ ns) at) [
      | Less ↦ λ o g. record { front = []; back = n ∷ ns; whole = refl; place = cc; before = tt; after = o }
      | Equal ↦ λ o g. cc
      | Greater ↦ λ o g. gap_more x n ns at (place_of x ns) o (λ i f. gap x ns i f) g
    ] refl e

-- the parts of the edges, told by the place
slice_at : (front back : List PlainNode) (n : PlainNode) → slice_get (front ++ n ∷ back) (length front) ≡ Some n
slice_at [] back n = refl
slice_at (m ∷ front) back n = slice_at front back n

module _ (x : ℕ) (es : List PlainNode) (at : ℕ) (s : Standing x es at) where
  pub standing_front : take at es ≡ s.front
  standing_front = ap (take at) s.whole ∙ take_at s.front (s.child ∷ s.back) at s.place

  pub standing_rest : drop at es ≡ s.child ∷ s.back
  standing_rest = ap (drop at) s.whole ∙ drop_at s.front (s.child ∷ s.back) at s.place

  pub standing_back : drop (at + 1) es ≡ s.back
  standing_back = ap (drop (at + 1)) (s.whole ∙ sym (regroup s.front s.back s.child)) ∙ drop_at (s.front ++ s.child ∷ []) s.back (at + 1) (omega (arith, s.place, length-append s.front (s.child ∷ [])))
    where
      regroup : (front back : List PlainNode) (n : PlainNode) → (front ++ n ∷ []) ++ back ≡ front ++ n ∷ back
      regroup [] back n = refl
      regroup (m ∷ front) back n = ap (λ (z : List PlainNode). m ∷ z) (regroup front back n)

  pub standing_child : slice_get es at ≡ Some s.child
  standing_child = (λ i. slice_get (s.whole i) (sym s.place i)) ∙ slice_at s.front s.back s.child

  pub standing_range : at < length es
  standing_range = omega (arith, s.place, ap length s.whole, length-append s.front (s.child ∷ s.back))

module _ (x : ℕ) (es : List PlainNode) (at : ℕ) (s : Gap x es at) where
  pub gap_front : take at es ≡ s.front
  gap_front = ap (take at) s.whole ∙ take_at s.front s.back at s.place

  pub gap_back : drop at es ≡ s.back
  gap_back = ap (drop at) s.whole ∙ drop_at s.front s.back at s.place

  pub gap_range : at ≤ length es
  gap_range = omega (arith, s.place, ap length s.whole, length-append s.front s.back)
