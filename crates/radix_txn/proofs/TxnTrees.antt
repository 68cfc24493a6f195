-- Two trees between which a transaction lies.
use Rattle.std.proofs.Common.{◌≡◌, ◌+◌, ◌<◌, ◌≤◌, inl, inr, ◌∷◌, ◌∙◌, ℕ, true, false, cond, List, [], map, refl, sym, ap, subst, arith}
use Rattle.std.specs.Prelude.{nat_eq}
use Rattle.std.proofs.lemmas.Bool.{eqb-true, eq-eqb}
use Rattle.watch_word.specs.Logs.{Cell}
use Rattle.radix_node.specs.Cells.{CellTree, Piece, piece_cell, pieces_of, cells_of, count, AreApart, AreBelow, plain_of}
use Rattle.radix_node.specs.Paths.{Has}
use Rattle.radix_node.specs.Shape.{HasShape}
use Rattle.radix_node.specs.Watches.{Fires, TellTheSame, HoldsWatched}
use Rattle.radix_node.proofs.Members.{has_cell, cell_piece}
use Rattle.radix_node.proofs.TreeWatches.{holds_watched}
use Rattle.radix_txn.specs.Notice.{IsNotice, IsOpened}
use Rattle.radix_txn.specs.inner.Steps.{count_in, IsStep}
use Rattle.radix_txn.proofs.Steps.{at, drawn_before, drawn_between, drawn_after, lt_or_le}

-- ---- membership and counts

pub some_count : (i : ℕ) (c : Cell) → c.id ≡ i → count i (c ∷ []) ≡ 1
some_count i c e = ap (λ b. cond b 1 0 + 0) (eq-eqb c.id i e)

pub counted : (c : Cell) (cs : List Cell) → Has c cs → 1 ≤ count c.id cs
counted c [] h = absurd h
counted c (d ∷ cs) (inl e) = let s = some_count c.id d (ap (λ (z : Cell). z.id) (sym e)) in omega (arith, s)
counted c (d ∷ cs) (inr h) = let s = counted c cs h in omega (arith, s)

pub there : (i : ℕ) (cs : List Cell) → 1 ≤ count i cs → (c : Cell) × Has c cs × (c.id ≡ i)
there i [] h = absurd (omega (arith, h))
there i (d ∷ cs) h =
    elim (nat_eq d.id i) as (λ b. nat_eq d.id i ≡ b → 1 ≤ cond b 1 0 + count i cs → (c : Cell) × Has c (d ∷ cs) × (c.id ≡ i)) [
      | true ↦ λ e g. (d, inl refl, eqb-true d.id i e)
      | false ↦ λ e g. let w = there i cs (omega (arith, g)) in (w.0, inr w.1, w.2)
    ] refl h

-- an id that comes once tells its piece
pub one_piece : (i : ℕ) (xs : List Piece) → count_in i xs ≤ 1 → (x y : Piece) → Has x xs → Has y xs → (piece_cell x).id ≡ i → (piece_cell y).id ≡ i → x ≡ y
one_piece i [] h x y a b e f = absurd a
one_piece i (z ∷ xs) h x y (inl a) (inl b) e f = a ∙ sym b
one_piece i (z ∷ xs) h x y (inl a) (inr b) e f =
    let s = some_count i (piece_cell z) (ap (λ (w : Piece). (piece_cell w).id) (sym a) ∙ e) in
    let t = counted (piece_cell y) (map piece_cell xs) (has_cell y xs b) in
    let u : count (piece_cell y).id (map piece_cell xs) ≡ count i (map piece_cell xs) = ap (λ j. count j (map piece_cell xs)) f in
    absurd (omega (arith, h, s, t, u))
one_piece i (z ∷ xs) h x y (inr a) (inl b) e f =
    let s = some_count i (piece_cell z) (ap (λ (w : Piece). (piece_cell w).id) (sym b) ∙ f) in
    let t = counted (piece_cell x) (map piece_cell xs) (has_cell x xs a) in
    let u : count (piece_cell x).id (map piece_cell xs) ≡ count i (map piece_cell xs) = ap (λ j. count j (map piece_cell xs)) e in
    absurd (omega (arith, h, s, t, u))
one_piece i (z ∷ xs) h x y (inr a) (inr b) e f = one_piece i xs (omega (arith, h)) x y a b e f

-- ---- from the old tree to the new one

module _ (P : Cell → Type 0) (first next : ℕ) (left : List Cell) (old new : CellTree) (step : IsStep P first (at (pieces_of old) first []) (at (pieces_of new) next left)) (apart : AreApart old) (below : AreBelow first old) where
  old_low : (x : Piece) → Has x (pieces_of old) → (piece_cell x).id < first
  old_low x h =
      elim (lt_or_le (piece_cell x).id first) [
        | inl a ↦ a
        | inr b ↦ (let p = counted (piece_cell x) (cells_of old) (has_cell x (pieces_of old) h) in let q = below (piece_cell x).id b in absurd (omega (arith, p, q)))
      ]

  -- an id tells its piece in both
  pub agree : TellTheSame old new
  agree x y h g same =
      elim (step.made y g) [
        | inl k ↦ one_piece (piece_cell x).id (pieces_of old) (apart (piece_cell x).id) x y h k refl (sym same)
        | inr more ↦
            let p = old_low x h in
            elim more [
              | inl m ↦ (let q = m.low in absurd (omega (arith, p, q, same)))
              | inr k ↦ (let q = k.low in absurd (omega (arith, p, q, same)))
            ]
      ]

  pub new_apart : AreApart new
  new_apart i =
      let few = step.few i in
      elim (lt_or_le i first) [
        | inl a ↦ let p = drawn_before first next i a in let q = apart i in omega (arith, few, p, q)
        | inr a ↦
            let q = below i a in
            elim (lt_or_le i next) [
              | inl b ↦ let p = drawn_between first next i a b in omega (arith, few, p, q)
              | inr b ↦ let p = drawn_after first next i a b in omega (arith, few, p, q)
            ]
      ]

  pub new_below : AreBelow next new
  new_below i b =
      let up = step.later in
      let few = step.few i in
      let p = drawn_after first next i (omega (arith, b, up)) b in
      let q = below i (omega (arith, b, up)) in
      omega (arith, few, p, q)

  pub opened : IsOpened first old new
  opened c h =
      let x = cell_piece c (pieces_of new) h in
      elim (step.made x.0 x.1) [
        | inl k ↦ inl (subst (λ (d : Cell). Has d (cells_of old)) x.2 (has_cell x.0 (pieces_of old) k))
        | inr more ↦
            let q = ap (λ (d : Cell). d.id) x.2 in
            elim more [
              | inl m ↦ inr (let p = m.low in omega (arith, p, q))
              | inr k ↦ inr (let p = k.low in omega (arith, p, q))
            ]
      ]

  -- ---- what has left

  left_old : (c : Cell) → Has c left → Has c (cells_of old) × (c.id < first)
  left_old c h = elim (step.gone c h) [ inl none ↦ absurd none | inr w ↦ w ]

  fires_of_left : (c : Cell) → Has c left → Fires c old new
  fires_of_left c h =
      let w = left_old c h in
      record {
        left = w.0;
        gone = λ k. (
            let p = counted c (cells_of new) k in
            let q = counted c left h in
            let r = step.kept c.id w.1 in
            let s = apart c.id in
            omega (arith, p, q, r, s)
            );
      }

  not_in_new : (c : Cell) → Fires c old new → (x : Piece) → Has x (pieces_of old) → piece_cell x ≡ c → count c.id (cells_of new) ≡ 0
  not_in_new c f x h is =
      elim (lt_or_le 0 (count c.id (cells_of new))) [
        | inl some ↦
            let w = there c.id (cells_of new) (omega (arith, some)) in
            let y = cell_piece w.0 (pieces_of new) w.1 in
            let same : (piece_cell x).id ≡ (piece_cell y.0).id = ap (λ (d : Cell). d.id) is ∙ sym w.2 ∙ ap (λ (d : Cell). d.id) (sym y.2) in
            let one = agree x y.0 h y.1 same in
            absurd (f.gone (subst (λ (d : Cell). Has d (cells_of new)) (ap piece_cell (sym one) ∙ is) (has_cell y.0 (pieces_of new) y.1)))
        | inr none ↦ omega (arith, none)
      ]

  left_of_fires : (c : Cell) → Fires c old new → Has c left
  left_of_fires c f =
      let x = cell_piece c (pieces_of old) f.left in
      let none = not_in_new c f x.0 x.1 x.2 in
      let id = ap (λ (d : Cell). d.id) x.2 in
      let low = old_low x.0 x.1 in
      let kept = step.kept c.id (omega (arith, low, id)) in
      let one = counted c (cells_of old) f.left in
      let w = there c.id left (omega (arith, none, kept, one)) in
      let y = cell_piece w.0 (pieces_of old) (left_old w.0 w.1).0 in
      let same = one_piece c.id (pieces_of old) (apart c.id) x.0 y.0 x.1 y.1 id (ap (λ (d : Cell). d.id) y.2 ∙ w.2) in
      subst (λ (d : Cell). Has d left) (sym y.2 ∙ ap piece_cell (sym same) ∙ x.2) w.1

  left_once : (i : ℕ) → count i left ≤ 1
  left_once i =
      elim (lt_or_le i first) [
        | inl low ↦ let p = step.kept i low in let q = apart i in omega (arith, p, q)
        | inr high ↦ elim (lt_or_le 0 (count i left)) [
          | inl some ↦
              let w = there i left (omega (arith, some)) in
              let low = (left_old w.0 w.1).1 in
              let is = w.2 in
              absurd (omega (arith, low, is, high))
          | inr none ↦ omega (arith, none)
        ]
      ]

  pub notice : IsNotice left old new
  notice = record { fires = λ c. (fires_of_left c, left_of_fires c); once = left_once }

  -- what is watched in the old tree fires, or is as it was
  pub held : HasShape (plain_of old) → HasShape (plain_of new) → HoldsWatched old new
  held s t = holds_watched old new s t agree
