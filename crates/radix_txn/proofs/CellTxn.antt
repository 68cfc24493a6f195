-- A transaction's trees, from write to write.
use Rattle.std.proofs.Common.{◌≡◌, ◌+◌, ◌<◌, ◌≤◌, length, inl, inr, ◌∷◌, ◌∙◌, ℕ, Bool, true, false, cond, List, [], refl, sym, ap, subst, arith}
use Rattle.watch_word.specs.Logs.{Cell, Log}
use Rattle.std.specs.Prelude.{nat_eq}
use Rattle.std.proofs.lemmas.Bool.{eqb-true, false_from_ne_true}
use Rattle.radix_node.specs.Cells.{AreApart, AreBelow, AreOf, CellTree, Piece, a_node, cells_of, count, piece_cell, pieces_of, plain_of, root_of}
use Rattle.radix_node.specs.Ids.{Book, Counter}
use Rattle.radix_node.specs.Shape.{HasShape}
use Rattle.radix_node.specs.Watches.{TellTheSame, HoldsWatched}
use Rattle.radix_txn.specs.Drawn.{IsReady}
use Rattle.radix_txn.specs.Notice.{IsBetween, IsDrawn, IsNotice, IsOpened, IsTold}
use Rattle.radix_node.specs.Paths.{Has}
use Rattle.radix_node.proofs.Members.{cell_piece, has_cell}
use Rattle.radix_node.proofs.OneBook.{all_are, each_is}
use Rattle.radix_txn.specs.Txn.{Txn}
use Rattle.radix_txn.specs.inner.Unspoiled.{IsChanged, IsWritten}
use Rattle.radix_txn.specs.inner.Steps.{IsNew, IsOnward, IsStep, Ledger, Steps, Tally, tally}
use Rattle.radix_txn.proofs.Steps.{at, count_other, drawn_after, drawn_before, drawn_between, lt_or_le, step_same, step_then, step_weaker}
use Rattle.radix_txn.proofs.TxnTrees.{agree, counted, held, notice, opened}

-- an id in the tree is below the next one
below_next : (n : ℕ) (t : CellTree) (x : Piece) → AreBelow n t → Has x (pieces_of t) → (piece_cell x).id < n
below_next n t x below h =
    elim (lt_or_le (piece_cell x).id n) [
      | inl a ↦ a
      | inr b ↦ (let p = counted (piece_cell x) (cells_of t) (has_cell x (pieces_of t) h) in let q = below (piece_cell x).id b in absurd (omega (arith, p, q)))
    ]

root_below : (n : ℕ) (t : CellTree) → AreBelow n t → t.cell.id < n
root_below n t below = below_next n t (a_node (root_of t)) below (inl refl)

-- the ids drawn so far are those below any number that is above all in the tree
rebased : (P : Cell → Type 0) (first k n : ℕ) (a : Tally) (t : CellTree) (gone : List Cell) → IsStep P first a (at (pieces_of t) k gone) → a.next ≤ n → AreBelow n t → IsStep P first a (at (pieces_of t) n gone)
rebased P first k n a t gone s up below = record {
  begun = s.begun;
  later = up;
  made = λ x h. elim (s.made x h) [
    | inl old ↦ inl old
    | inr more ↦ elim more [
      | inl m ↦ inr (inl (record { low = m.low; high = below_next n t x below h; holds = m.holds }))
      | inr k ↦ inr (inr k)
    ]
  ];
  few = λ i. elim (lt_or_le i n) [
    | inr high ↦ let none = below i high in omega (arith, none)
    | inl low ↦ elim (lt_or_le i a.next) [
      | inl first_ones ↦ let p = s.few i in let q = drawn_before a.next k i first_ones in let r = drawn_before a.next n i first_ones in omega (arith, p, q, r)
      | inr new ↦ let p = s.few i in let r = drawn_between a.next n i new low in elim (lt_or_le i k) [
        | inl in_it ↦ let q = drawn_between a.next k i new in_it in omega (arith, p, q, r)
        | inr past ↦ let q = drawn_after a.next k i new past in omega (arith, p, q, r)
      ]
    ]
  ];
  kept = s.kept;
  gone = s.gone;
}

-- the tree that a transaction began with is of one book
one_book : (b : Bool) (first : ℕ) (start tree : CellTree) (gone : List Cell) (book : Book) → IsWritten b first start tree gone → AreOf book tree → (k : Book) × AreOf k start
one_book true first start tree gone book w of = (w.book, w.of)
one_book false first start tree gone book w of = (book, subst (AreOf book) (sym w.0) of)

-- ids of a changed tree are at least the first one drawn
pub first_low : (b : Bool) (first : ℕ) (start tree : CellTree) (gone : List Cell) (next : ℕ) → IsWritten b first start tree gone → AreBelow next tree → b ≡ true → first ≤ next
first_low true first start tree gone next w below e = (let p = w.root in let q = root_below next tree below in omega (arith, p, q))
first_low false first start tree gone next w below e = cc

-- of a cell nothing more is asked
abbrev Any : Cell → Type 0
Any c = Unit {0}

-- where a write begins
record Begins (f next : ℕ) (start tree : CellTree) (gone : List Cell) : Type 0 where
  below : AreBelow f start
  step : IsStep Any f (at (pieces_of start) f []) (at (pieces_of tree) next gone)

begins : (b : Bool) (first : ℕ) (start tree : CellTree) (gone : List Cell) (next : ℕ) → IsWritten b first start tree gone → AreBelow next start → AreBelow next tree → Begins (cond b first next) next start tree gone
begins false first start tree gone next w below_start below_tree = record {
  below = below_start;
  step = subst (λ (t : CellTree). IsStep Any next (at (pieces_of start) next []) (at (pieces_of t) next gone)) w.0
      (subst (λ (cs : List Cell). IsStep Any next (at (pieces_of start) next []) (at (pieces_of start) next cs)) (sym w.1) (step_same Any next (at (pieces_of start) next []) (omega arith)));
}
begins true first start tree gone next w below_start below_tree = record {
  below = w.below;
  step = rebased Any first w.next next (at (pieces_of start) first []) tree gone w.step (let p = w.root in let q = root_below next tree below_tree in omega (arith, p, q)) below_tree;
}

-- new cells are of the log's book, so all are where the others were
pub of_step : (t u : CellTree) (a b : Ledger) → Steps (pieces_of t) a (pieces_of u) b → IsOnward a b → AreOf a.log.book t → AreOf b.log.book u
of_step t u a b step onward of = all_are b.log.book (cells_of u) each
  where
    each : (c : Cell) → Has c (cells_of u) → c.book ≡ b.log.book
    each c h =
        let same = ap (λ (l : Log). l.book) (sym onward.log) in
        let x = cell_piece c (pieces_of u) h in
        elim (step.made x.0 x.1) [
          | inl old ↦ each_is a.log.book (cells_of t) of c (subst (λ (d : Cell). Has d (cells_of t)) x.2 (has_cell x.0 (pieces_of t) old)) ∙ same
          | inr more ↦ elim more [
            | inl m ↦ ap (λ (d : Cell). d.book) (sym x.2) ∙ m.holds.0 ∙ same
            | inr k ↦ each_is a.log.book (cells_of t) of c (subst (λ (d : Cell). Has d (cells_of t)) x.2 k.there) ∙ same
          ]
        ]

-- a new cell was drawn in between
drawn_step : (t u : CellTree) (a b : Ledger) → Steps (pieces_of t) a (pieces_of u) b → IsDrawn a.log (record { book = a.log.book; next = a.next }) (record { book = b.log.book; next = b.next }) t u
drawn_step t u a b step c h =
    let x = cell_piece c (pieces_of u) h in
    elim (step.made x.0 x.1) [
      | inl old ↦ inl (subst (λ (d : Cell). Has d (cells_of t)) x.2 (has_cell x.0 (pieces_of t) old))
      | inr more ↦ elim more [
        | inl m ↦ inr (subst (λ (d : Cell). IsBetween a.log (record { book = a.log.book; next = a.next }) (record { book = b.log.book; next = b.next }) d) x.2
            (record { low = m.low; high = m.high; book = m.holds.0; fired = m.holds.1 }))
        | inr k ↦ inl (subst (λ (d : Cell). Has d (cells_of t)) x.2 k.there)
      ]
    ]

module _ (b : Bool) (first : ℕ) (start tree new : CellTree) (gone : List Cell) (l d : Ledger) (w : IsWritten b first start tree gone) (below_start : AreBelow l.next start) (below_tree : AreBelow l.next tree) (is_first : l.first ≡ cond b first l.next) (is_left : l.left ≡ gone) (step : Steps (pieces_of tree) l (pieces_of new) d) (onward : IsOnward l d) (one : (k : Book) × AreOf k start) where
  -- where it has ended
  pub changed : l.first ≤ new.cell.id → IsChanged d.first start new d.left
  changed fresh =
      let f = cond b first l.next in
      let at_first = begins b first start tree gone l.next w below_start below_tree in
      let same : d.first ≡ f = onward.first ∙ is_first in
      let any : IsStep Any l.first (tally (pieces_of tree) l) (tally (pieces_of new) d) = step_weaker (IsNew l.log) Any (λ c h. tt) l.first (tally (pieces_of tree) l) (tally (pieces_of new) d) step in
      let rest : IsStep Any f (at (pieces_of tree) l.next gone) (tally (pieces_of new) d) =
      subst (λ (cs : List Cell). IsStep Any f (at (pieces_of tree) l.next cs) (tally (pieces_of new) d)) is_left
      (subst (λ g. IsStep Any g (tally (pieces_of tree) l) (tally (pieces_of new) d)) is_first any) in
      let all = step_then Any f at_first.step rest in
      subst (λ g. IsChanged g start new d.left) (sym same) (record {
        below = at_first.below;
        next = d.next;
        step = all;
        root = (omega (arith, is_first, fresh));
        book = one.0;
        of = one.1;
      })

  pub below_new : AreBelow d.next new
  below_new i high =
      let up = step.later in
      let few = step.few i in
      let p = drawn_after l.next d.next i (omega (arith, high, up)) high in
      let q = below_tree i (omega (arith, high, up)) in
      omega (arith, few, p, q)

-- ---- in the words of a write's answers

-- what a write knows of the transaction that it finds
pub record Found (log : Log) (ids : Counter) (t : Txn) : Type 0 where
  pub sound : t.spoiled ≡ false
  pub below : AreBelow ids.next t.tree
  pub of : AreOf log.book t.tree
  pub below_start : AreBelow ids.next t.start

pub found : (room : ℕ) (log : Log) (ids : Counter) (t u : Txn) → t ≡ u → IsReady room log ids u → Found log ids t
found room log ids t u same ready = subst (Found log ids) (sym same) (record {
  sound = ready.sound;
  below = ready.within.tree;
  of = subst (λ k. AreOf k u.tree) (sym ready.book) ready.within.of;
  below_start = ready.within.start;
})

-- a write has ended: what is true of the tree then
pub record Ended (start tree new : CellTree) (l d : Ledger) : Type 0 where
  pub changed : IsChanged d.first start new d.left
  pub below : AreBelow d.next new
  pub below_start : AreBelow d.next start
  pub of : AreOf d.log.book new
  pub drawn : IsDrawn l.log (record { book = l.log.book; next = l.next }) (record { book = d.log.book; next = d.next }) tree new

pub ended : (b : Bool) (first next : ℕ) (start tree held new : CellTree) (gone : List Cell) (log : Log) (l d : Ledger) → IsWritten b first start tree gone → AreBelow next start → AreBelow next tree → AreOf log.book tree → held ≡ tree → l ≡ (let w : Ledger = record { log = log; first = cond b first next; next = next; left = gone } in w) → Steps (pieces_of held) l (pieces_of new) d → IsOnward l d → l.first ≤ new.cell.id → Ended start tree new (let w : Ledger = record { log = log; first = cond b first next; next = next; left = gone } in w) d
ended b first next start tree held new gone log l d w below_start below_tree of_tree same is step onward fresh =
    let begun : Ledger = record { log = log; first = cond b first next; next = next; left = gone } in
    let from_tree : Steps (pieces_of tree) l (pieces_of new) d = subst (λ (t : CellTree). Steps (pieces_of t) l (pieces_of new) d) same step in
    let from_begun : Steps (pieces_of tree) begun (pieces_of new) d = subst (λ (x : Ledger). Steps (pieces_of tree) x (pieces_of new) d) is from_tree in
    let more : IsOnward begun d = subst (λ (x : Ledger). IsOnward x d) is onward in
    let one = one_book b first start tree gone log.book w of_tree in
    let high : begun.first ≤ new.cell.id = subst (λ (x : Ledger). x.first ≤ new.cell.id) is fresh in
    record {
      changed = changed b first start tree new gone begun d w below_start below_tree refl refl from_begun more one high;
      below = below_new b first start tree new gone begun d w below_start below_tree refl refl from_begun more one;
      below_start = (λ i h. let up = from_begun.later in below_start i (omega (arith, up, h)));
      of = of_step tree new begun d from_begun more of_tree;
      drawn = drawn_step tree new begun d from_begun;
    }

-- in the words of the transaction's view
pub drawn_ends : (log : Log) (ids after : Counter) (start tree seen new end : CellTree) (first : ℕ) (gone : List Cell) (d : Ledger) → tree ≡ seen → end ≡ new → log.book ≡ ids.book → after ≡ (let w : Counter = record { book = d.log.book; next = d.next } in w) → Ended start tree new (let w : Ledger = record { log = log; first = first; next = ids.next; left = gone } in w) d → IsDrawn log ids after seen end
drawn_ends log ids after start tree seen new end first gone d same to on is_after e c h =
    elim (e.drawn c (subst (λ (t : CellTree). Has c (cells_of t)) to h)) [
      | inl old ↦ inl (subst (λ (t : CellTree). Has c (cells_of t)) same old)
      | inr w ↦ inr (record {
        low = w.low;
        high = (let p = w.high in let q = ap (λ (k : Counter). k.next) is_after in omega (arith, p, q));
        book = w.book ∙ on;
        fired = w.fired;
      })
    ]

-- where the tree is the one that was there
pub none_drawn : (log : Log) (before after : Counter) (old new : CellTree) → new ≡ old → IsDrawn log before after old new
none_drawn log before after old new same c h = inl (subst (λ (t : CellTree). Has c (cells_of t)) same h)

-- one write after another
pub drawn_twice : (log : Log) (a b c : Counter) (t u v : CellTree) → a.next ≤ b.next → b.next ≤ c.next → b.book ≡ a.book → IsDrawn log a b t u → IsDrawn log b c u v → IsDrawn log a c t v
drawn_twice log a b c t u v up more book first second d h =
    elim (second d h) [
      | inl old ↦ elim (first d old) [
        | inl older ↦ inl older
        | inr w ↦ inr (record { low = w.low; high = (let p = w.high in omega (arith, p, more)); book = w.book; fired = w.fired })
      ]
      | inr w ↦ inr (record { low = (let p = w.low in omega (arith, p, up)); high = w.high; book = w.book ∙ book; fired = w.fired })
    ]

pub kept_new : (b : Bool) (f : ℕ) (start t new : CellTree) (gone : List Cell) (d : Ledger) → b ≡ true → f ≡ d.first → t ≡ new → gone ≡ d.left → IsChanged d.first start new d.left → IsWritten b f start t gone
kept_new b f start t new gone d is_changed is_first is_tree is_left h =
    subst (λ z. IsWritten z f start t gone) (sym is_changed)
    (subst (λ z. IsChanged z start t gone) (sym is_first)
    (subst (λ (z : CellTree). IsChanged d.first start z gone) (sym is_tree)
    (subst (λ (z : List Cell). IsChanged d.first start new z) (sym is_left) h)))

-- ---- at the end of a transaction

-- some number is above all ids
above_all : (cs : List Cell) → (n : ℕ) × ((i : ℕ) → n ≤ i → count i cs ≡ 0)
above_all [] = (0, λ i h. refl)
above_all (c ∷ cs) =
    let w = above_all cs in (
      c.id + 1 + w.0,
      λ i h. (
          let rest = w.1 i (omega (arith, h)) in
          let other = count_other i c (false_from_ne_true (nat_eq c.id i) (λ e. let same = eqb-true c.id i e in absurd (omega (arith, h, same)))) in
          omega (arith, rest, other)
          ),
    )

pub record Frozen (start tree : CellTree) (gone : List Cell) : Type 0 where
  pub notice : IsNotice gone start tree
  pub same : TellTheSame start tree
  pub held : HoldsWatched start tree
  pub opened : (first : ℕ) × AreBelow first start × IsOpened first start tree

frozen_step : (P : Cell → Type 0) (first next : ℕ) (start tree : CellTree) (gone : List Cell) → IsStep P first (at (pieces_of start) first []) (at (pieces_of tree) next gone) → AreBelow first start → AreApart start → HasShape (plain_of start) → HasShape (plain_of tree) → Frozen start tree gone
frozen_step P first next start tree gone step below apart s t = record {
  notice = notice P first next gone start tree step apart below;
  same = agree P first next gone start tree step apart below;
  held = held P first next gone start tree step apart below s t;
  opened = (first, below, opened P first next gone start tree step apart below);
}

pub frozen : (b : Bool) (first : ℕ) (start tree : CellTree) (gone : List Cell) → IsWritten b first start tree gone → AreApart start → HasShape (plain_of start) → HasShape (plain_of tree) → Frozen start tree gone
frozen true first start tree gone w apart s t = frozen_step Any first w.next start tree gone w.step w.below apart s t
frozen false first start tree gone w apart s t =
    let n = above_all (cells_of start) in
    let same = step_same Any n.0 (at (pieces_of start) n.0 []) (omega arith) in
    frozen_step Any n.0 n.0 start tree gone
    (subst (λ (z : CellTree). IsStep Any n.0 (at (pieces_of start) n.0 []) (at (pieces_of z) n.0 gone)) w.0
    (subst (λ (z : List Cell). IsStep Any n.0 (at (pieces_of start) n.0 []) (at (pieces_of start) n.0 z)) (sym w.1) same))
    n.1 apart s t

-- where cells have left, both trees tell of them
pub told : (b : Bool) (first : ℕ) (start tree : CellTree) (gone : List Cell) → IsWritten b first start tree gone → AreApart start → HasShape (plain_of start) → HasShape (plain_of tree) → 0 < length gone → IsTold gone start tree
told true first start tree gone w apart s t some =
    let end = frozen true first start tree gone w apart s t in
    record { notice = end.notice; same = end.same; book = w.book; of = w.of }
told false first start tree gone w apart s t some =
    let none : length gone ≡ 0 = ap (λ (cs : List Cell). length cs) w.1 in
    absurd (omega (arith, none, some))

pub below_more : (n m : ℕ) (t : CellTree) → n ≤ m → AreBelow n t → AreBelow m t
below_more n m t up below i h = below i (omega (arith, up, h))
