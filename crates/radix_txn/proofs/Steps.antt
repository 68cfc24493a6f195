-- Steps of a write, one after another.
use Rattle.std.proofs.Common.{◌≡◌, ◌+◌, ◌<◌, ◌≤◌, ◌⊎◌, inl, inr, ◌++◌, ◌∷◌, ◌∙◌, ℕ, true, false, cond, List, [], map, refl, ap, subst, arith, sym}
use Rattle.std.specs.Prelude.{nat_lt, nat_eq}
use Rattle.std.proofs.lemmas.Bool.{eqb-true, false_from_ne_true, ltb-true, ltb-false, lt-ltb, le-ltb}
use Rattle.watch_word.specs.Logs.{Cell, Log}
use Rattle.radix_node.specs.Cells.{Piece, piece_cell, count}
use Rattle.radix_node.specs.Left.{leave, leave_all}
use Rattle.radix_node.specs.Paths.{Has}
use Rattle.radix_node.proofs.Members.{has_cell, cell_piece}
use Rattle.radix_node.proofs.Paths.{Has-left, Has-right, Has-split}
use Rattle.radix_txn.specs.inner.Steps.{count_in, drawn, IsNew, IsNext, Ledger, IsOnward, Tally, IsInPlace, IsMade, IsStep}

-- ---- counts

pub count_append : (i : ℕ) (xs ys : List Cell) → count i (xs ++ ys) ≡ count i xs + count i ys
count_append i [] ys = omega arith
count_append i (c ∷ xs) ys = let e = count_append i xs ys in omega (arith, e)

pub count_in_append : (i : ℕ) (xs ys : List Piece) → count_in i (xs ++ ys) ≡ count_in i xs + count_in i ys
count_in_append i [] ys = omega arith
count_in_append i (x ∷ xs) ys = let e = count_in_append i xs ys in omega (arith, e)

pub count_other : (i : ℕ) (c : Cell) → nat_eq c.id i ≡ false → count i (c ∷ []) ≡ 0
count_other i c e = ap (λ b. cond b 1 0 + 0) e

not_same : (n i : ℕ) → n < i ⊎ i < n → nat_eq n i ≡ false
not_same n i (inl h) = false_from_ne_true (nat_eq n i) (λ e. let same = eqb-true n i e in absurd (omega (arith, h, same)))
not_same n i (inr h) = false_from_ne_true (nat_eq n i) (λ e. let same = eqb-true n i e in absurd (omega (arith, h, same)))

pub drawn_before : (from to i : ℕ) → i < from → drawn from to i ≡ 0
drawn_before from to i h = ap (λ b. cond b 0 (cond (nat_lt i to) 1 0)) (lt-ltb i from h)

pub drawn_between : (from to i : ℕ) → from ≤ i → i < to → drawn from to i ≡ 1
drawn_between from to i h k = (λ j. cond (le-ltb i from h j) 0 (cond (lt-ltb i to k j) 1 0))

pub drawn_after : (from to i : ℕ) → from ≤ i → to ≤ i → drawn from to i ≡ 0
drawn_after from to i h k = (λ j. cond (le-ltb i from h j) 0 (cond (le-ltb i to k j) 1 0))

-- a number is below another or not
pub lt_or_le : (i n : ℕ) → (i < n) ⊎ (n ≤ i)
lt_or_le i n =
    elim (nat_lt i n) as (λ b. nat_lt i n ≡ b → (i < n) ⊎ (n ≤ i)) [
      | true ↦ λ e. inl (ltb-true i n e)
      | false ↦ λ e. inr (ltb-false i n e)
    ] refl

drawn_twice : (from mid to i : ℕ) → from ≤ mid → mid ≤ to → drawn from mid i + drawn mid to i ≡ drawn from to i
drawn_twice from mid to i h k =
    elim (lt_or_le i from) [
      | inl a ↦ let p = drawn_before from mid i a in let q = drawn_before mid to i (omega (arith, a, h)) in let r = drawn_before from to i a in omega (arith, p, q, r)
      | inr a ↦ elim (lt_or_le i mid) [
        | inl b ↦ let p = drawn_between from mid i a b in let q = drawn_before mid to i b in let r = drawn_between from to i a (omega (arith, b, k)) in omega (arith, p, q, r)
        | inr b ↦ elim (lt_or_le i to) [
          | inl c ↦ let p = drawn_after from mid i a b in let q = drawn_between mid to i b c in let r = drawn_between from to i a c in omega (arith, p, q, r)
          | inr c ↦ let p = drawn_after from mid i a b in let q = drawn_after mid to i b c in let r = drawn_after from to i a c in omega (arith, p, q, r)
        ]
      ]
    ]

-- ---- steps

pub step_same : (P : Cell → Type 0) (first : ℕ) (a : Tally) → first ≤ a.next → IsStep P first a a
step_same P first a h = record {
  begun = h;
  later = omega arith;
  made = λ x h. inl h;
  few = λ i. omega arith;
  kept = λ i h. refl;
  gone = λ c h. inl h;
}

module _ (P : Cell → Type 0) (first : ℕ) {a b c : Tally} (s : IsStep P first a b) (t : IsStep P first b c) where
  -- a cell that is held was there, or was made
  in_place_before : (x y : Piece) → Has y b.pieces → piece_cell y ≡ piece_cell x → first ≤ (piece_cell x).id → IsMade P a.next c.next x ⊎ IsInPlace first a.pieces x
  in_place_before x y there same low =
      elim (s.made y there) [
        | inl old ↦ inr (record { low = low; there = subst (λ (z : Cell). Has z (map piece_cell a.pieces)) same (has_cell y a.pieces old) })
        | inr more ↦ elim more [
          | inl m ↦
              let from = m.low in
              let high = m.high in
              let up = t.later in
              let id = ap (λ (z : Cell). z.id) same in
              inl (record { low = omega (arith, from, id); high = omega (arith, high, up, id); holds = subst P same m.holds })
          | inr k ↦ inr (record { low = low; there = subst (λ (z : Cell). Has z (map piece_cell a.pieces)) same k.there })
        ]
      ]

  made_in_two : (x : Piece) → Has x c.pieces → Has x a.pieces ⊎ (IsMade P a.next c.next x ⊎ IsInPlace first a.pieces x)
  made_in_two x h =
      elim (t.made x h) [
        | inl old ↦ elim (s.made x old) [
          | inl older ↦ inl older
          | inr more ↦ elim more [
            | inl m ↦ let high = m.high in let up = t.later in inr (inl (record { low = m.low; high = omega (arith, high, up); holds = m.holds }))
            | inr k ↦ inr (inr k)
          ]
        ]
        | inr more ↦ elim more [
          | inl m ↦ let low = m.low in let up = s.later in inr (inl (record { low = omega (arith, low, up); high = m.high; holds = m.holds }))
          | inr k ↦ let w = cell_piece (piece_cell x) b.pieces k.there in inr (in_place_before x w.0 w.1 w.2 k.low)
        ]
      ]

  gone_in_two : (d : Cell) → Has d c.left → Has d a.left ⊎ (Has d (map piece_cell a.pieces) × (d.id < first))
  gone_in_two d h =
      elim (t.gone d h) [
        | inl before ↦ s.gone d before
        | inr w ↦
            let x = cell_piece d b.pieces w.0 in
            elim (s.made x.0 x.1) [
              | inl old ↦ inr (subst (λ (z : Cell). Has z (map piece_cell a.pieces)) x.2 (has_cell x.0 a.pieces old), w.1)
              | inr more ↦
                  let same = ap (λ (z : Cell). z.id) x.2 in
                  let low = w.1 in
                  elim more [
                    | inl m ↦ let from = m.low in let begun = s.begun in absurd (omega (arith, from, begun, same, low))
                    | inr k ↦ let high = k.low in absurd (omega (arith, high, same, low))
                  ]
            ]
      ]

  pub step_then : IsStep P first a c
  step_then = record {
    begun = s.begun;
    later = (let p = s.later in let q = t.later in omega (arith, p, q));
    made = made_in_two;
    few = λ i. (let p = s.few i in let q = t.few i in let r = drawn_twice a.next b.next c.next i s.later t.later in omega (arith, p, q, r));
    kept = λ i h. t.kept i h ∙ s.kept i h;
    gone = gone_in_two;
  }

-- what is known of new cells may be forgotten
pub step_weaker : (P Q : Cell → Type 0) → ((c : Cell) → P c → Q c) → (first : ℕ) (a b : Tally) → IsStep P first a b → IsStep Q first a b
step_weaker P Q f first a b s = record {
  begun = s.begun;
  later = s.later;
  made = λ x h. elim (s.made x h) [
    | inl old ↦ inl old
    | inr more ↦ elim more [
      | inl m ↦ inr (inl (record { low = m.low; high = m.high; holds = f (piece_cell x) m.holds }))
      | inr k ↦ inr (inr k)
    ]
  ];
  few = s.few;
  kept = s.kept;
  gone = s.gone;
}

-- a step by a later ledger of the same write
pub step_origin : (a b : Ledger) → IsOnward a b → (x y : Tally) → IsStep (IsNew b.log) b.first x y → IsStep (IsNew a.log) a.first x y
step_origin a b onward x y s = subst (λ (k : Log). IsStep (IsNew k) a.first x y) onward.log (subst (λ f. IsStep (IsNew b.log) f x y) onward.first s)

-- ---- pieces in another order

pub record SameBag (xs ys : List Piece) : Type 0 where
  pub into : (x : Piece) → Has x ys → Has x xs
  pub counts : (i : ℕ) → count_in i ys ≡ count_in i xs

pub bag_same : (xs : List Piece) → SameBag xs xs
bag_same xs = record { into = λ x h. h; counts = λ i. refl }

pub bag_is : (xs ys : List Piece) → xs ≡ ys → SameBag xs ys
bag_is xs ys e = subst (SameBag xs) e (bag_same xs)

pub bag_swap : (xs ys : List Piece) → SameBag (xs ++ ys) (ys ++ xs)
bag_swap xs ys = record {
  into = λ x h. elim (Has-split x ys xs h) [ inl a ↦ Has-right x xs ys a | inr b ↦ Has-left x xs ys b ];
  counts = λ i. (let p = count_in_append i ys xs in let q = count_in_append i xs ys in omega (arith, p, q));
}

pub bag_under : (zs xs ys : List Piece) → SameBag xs ys → SameBag (zs ++ xs) (zs ++ ys)
bag_under zs xs ys bag = record {
  into = λ x h. elim (Has-split x zs ys h) [ inl a ↦ Has-left x zs xs a | inr b ↦ Has-right x zs xs (bag.into x b) ];
  counts = λ i. (let p = count_in_append i zs xs in let q = count_in_append i zs ys in let r = bag.counts i in omega (arith, p, q, r));
}

pub bag_then : (xs ys zs : List Piece) → SameBag xs ys → SameBag ys zs → SameBag xs zs
bag_then xs ys zs b c = record { into = λ x h. b.into x (c.into x h); counts = λ i. c.counts i ∙ b.counts i }

-- the middle comes to the front
pub bag_front : (xs ys zs : List Piece) → SameBag (xs ++ (ys ++ zs)) (ys ++ (xs ++ zs))
bag_front xs ys zs = record {
  into = λ x h. elim (Has-split x ys (xs ++ zs) h) [
    | inl a ↦ Has-right x xs (ys ++ zs) (Has-left x ys zs a)
    | inr b ↦ elim (Has-split x xs zs b) [
      | inl c ↦ Has-left x xs (ys ++ zs) c
      | inr d ↦ Has-right x xs (ys ++ zs) (Has-right x ys zs d)
    ]
  ];
  counts = λ i. (
      let p = count_in_append i ys (xs ++ zs) in
      let q = count_in_append i xs zs in
      let r = count_in_append i xs (ys ++ zs) in
      let t = count_in_append i ys zs in
      omega (arith, p, q, r, t)
      );
}

-- some pieces stand for others in a tally
abbrev pub with_pieces : List Piece → Tally → Tally
with_pieces xs a = record { pieces = xs; next = a.next; left = a.left }

pub step_bag : (P : Cell → Type 0) (first : ℕ) (a b : Tally) → IsStep P first a b → (ys : List Piece) → SameBag b.pieces ys → IsStep P first a (with_pieces ys b)
step_bag P first a b s ys bag = record {
  begun = s.begun;
  later = s.later;
  made = λ x h. s.made x (bag.into x h);
  few = λ i. (let p = s.few i in let q = bag.counts i in omega (arith, p, q));
  kept = λ i h. ap (λ n. n + count i b.left) (bag.counts i) ∙ s.kept i h;
  gone = s.gone;
}

-- ---- beside other pieces

pub step_beside : (P : Cell → Type 0) (first : ℕ) (a b : Tally) → IsStep P first a b → (zs : List Piece) → IsStep P first (with_pieces (a.pieces ++ zs) a) (with_pieces (b.pieces ++ zs) b)
step_beside P first a b s zs = record {
  begun = s.begun;
  later = s.later;
  made = λ x h. elim (Has-split x b.pieces zs h) [
    | inl n ↦ elim (s.made x n) [
      | inl old ↦ inl (Has-left x a.pieces zs old)
      | inr more ↦ elim more [
        | inl m ↦ inr (inl m)
        | inr k ↦
            let y = cell_piece (piece_cell x) a.pieces k.there in
            inr (inr (record { low = k.low; there = subst (λ (z : Cell). Has z (map piece_cell (a.pieces ++ zs))) y.2 (has_cell y.0 (a.pieces ++ zs) (Has-left y.0 a.pieces zs y.1)) }))
      ]
    ]
    | inr o ↦ inl (Has-right x a.pieces zs o)
  ];
  few = λ i. (let p = s.few i in let q = count_in_append i a.pieces zs in let r = count_in_append i b.pieces zs in omega (arith, p, q, r));
  kept = λ i h. (let p = s.kept i h in let q = count_in_append i a.pieces zs in let r = count_in_append i b.pieces zs in omega (arith, p, q, r));
  gone = λ c h. elim (s.gone c h) [
    | inl l ↦ inl l
    | inr w ↦
        let x = cell_piece c a.pieces w.0 in
        inr (subst (λ (z : Cell). Has z (map piece_cell (a.pieces ++ zs))) x.2 (has_cell x.0 (a.pieces ++ zs) (Has-left x.0 a.pieces zs x.1)), w.1)
  ];
}

-- ---- one piece more, or one less

module _ (P : Cell → Type 0) (first : ℕ) (x : Piece) (xs : List Piece) (n : ℕ) (left : List Cell) (begun : first ≤ n) where
  pub step_made : IsNext P n (piece_cell x) → IsStep P first (record { pieces = xs; next = n; left = left }) (record { pieces = x ∷ xs; next = n + 1; left = left })
  step_made marked = record {
    begun = begun;
    later = omega arith;
    made = λ y h. elim h [
      | inl e ↦ let same : (piece_cell y).id ≡ n = ap (λ (z : Piece). (piece_cell z).id) e ∙ is in inr (inl (record { low = omega (arith, same); high = omega (arith, same); holds = subst (λ (z : Piece). P (piece_cell z)) (sym e) marked.1 }))
      | inr old ↦ inl old
    ];
    few = λ i. elim (lt_or_le i n) [
      | inl a ↦ let p = drawn_before n (n + 1) i a in let q = not_same (piece_cell x).id i (inr (omega (arith, a, is))) in let r = count_other i (piece_cell x) q in omega (arith, p, r)
      | inr a ↦ elim (lt_or_le i (n + 1)) [
        | inl b ↦ let p = drawn_between n (n + 1) i a b in let q = at_most_one i in omega (arith, p, q)
        | inr b ↦ let p = drawn_after n (n + 1) i a b in let q = not_same (piece_cell x).id i (inl (omega (arith, b, is))) in let r = count_other i (piece_cell x) q in omega (arith, p, r)
      ]
    ];
    kept = λ i h. (let q = not_same (piece_cell x).id i (inr (omega (arith, h, begun, is))) in let r = count_other i (piece_cell x) q in omega (arith, r));
    gone = λ c h. inl h;
  }
    where
      is : (piece_cell x).id ≡ n
      is = marked.0

      at_most_one : (i : ℕ) → count i (piece_cell x ∷ []) ≤ 1
      at_most_one i = elim (nat_eq (piece_cell x).id i) as (λ b. cond b 1 0 + 0 ≤ 1) [ true ↦ omega arith | false ↦ omega arith ]

  pub step_gone : IsStep P first (record { pieces = x ∷ xs; next = n; left = left }) (record { pieces = xs; next = n; left = leave first (piece_cell x) left })
  step_gone =
      elim (nat_lt (piece_cell x).id first) as (λ b. nat_lt (piece_cell x).id first ≡ b → IsStep P first (record { pieces = x ∷ xs; next = n; left = left }) (record { pieces = xs; next = n; left = cond b (left ++ piece_cell x ∷ []) left })) [
        | true ↦ λ e. record {
          begun = begun;
          later = omega arith;
          made = λ y h. inl (inr h);
          few = λ i. omega arith;
          kept = λ i h. (let p = count_append i left (piece_cell x ∷ []) in omega (arith, p));
          gone = λ c h. elim (Has-split c left (piece_cell x ∷ []) h) [
            | inl l ↦ inl l
            | inr o ↦ elim o [
              | inl same ↦ inr (inl same, (let lt = ltb-true (piece_cell x).id first e in let id = ap (λ (z : Cell). z.id) same in omega (arith, lt, id)))
              | inr none ↦ absurd none
            ]
          ];
        }
        | false ↦ λ e. record {
          begun = begun;
          later = omega arith;
          made = λ y h. inl (inr h);
          few = λ i. omega arith;
          kept = λ i h. (let high = ltb-false (piece_cell x).id first e in let q = not_same (piece_cell x).id i (inr (omega (arith, h, high))) in let r = count_other i (piece_cell x) q in omega (arith, r));
          gone = λ c h. inl h;
        }
      ] refl

-- ---- a piece that keeps its cell

pub step_in_place : (P : Cell → Type 0) (first : ℕ) (x y : Piece) (xs : List Piece) (n : ℕ) (left : List Cell) → first ≤ n → piece_cell y ≡ piece_cell x → first ≤ (piece_cell x).id → IsStep P first (record { pieces = x ∷ xs; next = n; left = left }) (record { pieces = y ∷ xs; next = n; left = left })
step_in_place P first x y xs n left begun same low = record {
  begun = begun;
  later = omega arith;
  made = λ z h. elim h [
    | inl e ↦
        let is : piece_cell z ≡ piece_cell x = ap piece_cell e ∙ same in
        let id = ap (λ (c : Cell). c.id) is in
        inr (inr (record { low = omega (arith, id, low); there = inl is }))
    | inr old ↦ inl (inr old)
  ];
  few = λ i. (let e = counts i in omega (arith, e));
  kept = λ i h. ap (λ k. k + count i left) (counts i);
  gone = λ c h. inl h;
}
  where
    counts : (i : ℕ) → count_in i (y ∷ xs) ≡ count_in i (x ∷ xs)
    counts i = ap (λ (c : Cell). count i (c ∷ map piece_cell xs)) same

-- ---- the words of the lemmas on edits

abbrev pub at : List Piece → ℕ → List Cell → Tally
at xs n left = record { pieces = xs; next = n; left = left }

-- from the same pieces in another order
pub step_from : (P : Cell → Type 0) (first : ℕ) (xs ys : List Piece) (n : ℕ) (left : List Cell) (b : Tally) → SameBag xs ys → IsStep P first (at ys n left) b → IsStep P first (at xs n left) b
step_from P first xs ys n left b bag s = step_then P first (step_bag P first (at xs n left) (at xs n left) (step_same P first (at xs n left) s.begun) ys bag) s

-- all of some pieces go
pub step_all_gone : (P : Cell → Type 0) (first : ℕ) (xs : List Piece) (n : ℕ) (left : List Cell) → first ≤ n → IsStep P first (at xs n left) (at [] n (leave_all first (map piece_cell xs) left))
step_all_gone P first [] n left begun = step_same P first (at [] n left) begun
step_all_gone P first (x ∷ xs) n left begun = step_then P first (step_gone P first x xs n left begun) (step_all_gone P first xs n (leave first (piece_cell x) left) begun)
