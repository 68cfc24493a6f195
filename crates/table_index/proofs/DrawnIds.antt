-- What writes draw of the ids, one after another and tree by tree.
use Rattle.std.proofs.Common.{◌≡◌, ◌∙◌, ◌≤◌, ◌<◌, ◌+◌, ◌^◌, ◌∷◌, [], ℕ, zero, suc, List, All, false, set, length, get_or, refl, sym, subst, arith}
use Rattle.std.proofs.Math.Seq.{map-set_same}
use Rattle.std.proofs.lemmas.List.Elements.{All-get_or, All-set}
use Rattle.watch_word.specs.Logs.{Log}
use Rattle.radix_node.specs.Cells.{AreOf, CellTree}
use Rattle.radix_node.specs.Ids.{Book, Counter}
use Rattle.radix_txn.specs.Drawn.{HasDrawn, IsReady, IsWithin}
use Rattle.radix_txn.specs.Notice.{IsDrawn}
use Rattle.radix_txn.specs.Txn.{Txn}
use Rattle.radix_txn.proofs.CellTxn.{below_more, drawn_twice}
use Rattle.radix_txn.proofs.CellTxn as one
use Rattle.table_index.specs.Table.{AreDrawn}
use Rattle.table_index.proofs.SeparateTrees.{set_separate}
use Rattle.table_index.specs.inner.Drawn.{AreReady, HaveDrawn}
use Rattle.table_index.specs.inner.IndexTrees.{AreSound, trees_of}

-- ---- after more ids

txn_within : (i j : Counter) (x : Txn) → i.next ≤ j.next → j.book ≡ i.book → IsWithin i x → IsWithin j x
txn_within i j x le book within = record {
  start = below_more i.next j.next x.start le within.start;
  tree = below_more i.next j.next x.tree le within.tree;
  of = subst (λ (b : Book). AreOf b x.tree) (sym book) within.of;
}

all_within : (i j : Counter) (xs : List Txn) → i.next ≤ j.next → j.book ≡ i.book → All (IsWithin i) xs → All (IsWithin j) xs
all_within i j xs le book within k d h = txn_within i j (get_or xs k d) le book (within k d h)

-- ---- cells that were drawn, of each tree

-- nothing was drawn where the trees are the same
pub same_drawn : (log : Log) (i j : Counter) (ts : List CellTree) → AreDrawn log i j ts ts
same_drawn log i j [] = tt
same_drawn log i j (t ∷ ts) = (one.none_drawn log i j t t refl, same_drawn log i j ts)

-- one write after another
both_drawn : (log : Log) (i j k : Counter) (ts us vs : List CellTree) → i.next ≤ j.next → j.next ≤ k.next → j.book ≡ i.book → AreDrawn log i j ts us → AreDrawn log j k us vs → AreDrawn log i k ts vs
both_drawn log i j k [] [] [] up more book first second = tt
both_drawn log i j k [] [] (v ∷ vs) up more book first second = absurd second
both_drawn log i j k [] (u ∷ us) vs up more book first second = absurd first
both_drawn log i j k (t ∷ ts) [] vs up more book first second = absurd first
both_drawn log i j k (t ∷ ts) (u ∷ us) [] up more book first second = absurd second
both_drawn log i j k (t ∷ ts) (u ∷ us) (v ∷ vs) up more book first second =
    (drawn_twice log i j k t u v up more book first.0 second.0, both_drawn log i j k ts us vs up more book first.1 second.1)

-- the tree at a place was written, and the others are the same
set_drawn : (log : Log) (i j : Counter) (xs : List Txn) (at : ℕ) (d y : Txn) → IsDrawn log i j (let x = get_or xs at d in x.tree) y.tree → AreDrawn log i j (trees_of xs) (trees_of (set xs at y))
set_drawn log i j [] at d y drawn = tt
set_drawn log i j (x ∷ xs) zero d y drawn = (drawn, same_drawn log i j (trees_of xs))
set_drawn log i j (x ∷ xs) (suc at) d y drawn = (one.none_drawn log i j x.tree x.tree refl, set_drawn log i j xs at d y drawn)

-- ---- writes of the trees of a table

pub none_drawn : (log : Log) (n : ℕ) (ids : Counter) (xs : List Txn) → All (IsWithin ids) xs → HaveDrawn log n ids ids xs xs
none_drawn log n ids xs within = record {
  start = refl;
  within = within;
  drawn = same_drawn log ids ids (trees_of xs);
  separate = λ h. h;
  book = refl;
  later = omega arith;
  few = omega arith;
}

pub idle_drawn : (log : Log) (n : ℕ) (ids : Counter) (xs ys : List Txn) → ys ≡ xs → All (IsWithin ids) xs → HaveDrawn log n ids ids xs ys
idle_drawn log n ids xs ys same within = subst (λ (zs : List Txn). HaveDrawn log n ids ids xs zs) (sym same) (none_drawn log n ids xs within)

module _ (log : Log) (a b n : ℕ) (i j k : Counter) (xs ys zs : List Txn) (first : HaveDrawn log a i j xs ys) (second : HaveDrawn log b j k ys zs) (enough : a + b ≤ n) where
  pub then_drawn : HaveDrawn log n i k xs zs
  then_drawn = record {
    start = second.start ∙ first.start;
    within = second.within;
    drawn = both_drawn log i j k (trees_of xs) (trees_of ys) (trees_of zs) first.later second.later first.book first.drawn second.drawn;
    separate = λ h. second.separate (first.separate h);
    book = second.book ∙ first.book;
    later = omega (arith, first.later, second.later);
    few = omega (arith, first.few, second.few, enough);
  }

pub more_drawn : (log : Log) (a n : ℕ) (i j : Counter) (xs ys : List Txn) → a ≤ n → HaveDrawn log a i j xs ys → HaveDrawn log n i j xs ys
more_drawn log a n i j xs ys enough drawn = record {
  start = drawn.start;
  within = drawn.within;
  drawn = drawn.drawn;
  separate = drawn.separate;
  book = drawn.book;
  later = drawn.later;
  few = omega (arith, drawn.few, enough);
}

pub ready_again : (front : Log) (n : ℕ) (i j : Counter) (xs ys : List Txn) → front.book ≡ i.book → HaveDrawn front n i j xs ys → AreSound ys → AreReady front j ys
ready_again front n i j xs ys book drawn sound = record {
  sound = sound;
  book = book ∙ sym drawn.book;
  within = drawn.within;
}

-- the tree at a place may be written
pub ready_at : (n : ℕ) (front : Log) (ids : Counter) (xs : List Txn) (at : ℕ) (d : Txn) → at < length xs → AreReady front ids xs → ids.next + n ≤ 2 ^ 63 → IsReady n front ids (get_or xs at d)
ready_at n front ids xs at d within ready left = record {
  sound = All-get_or (λ (y : Txn). y.spoiled ≡ false) xs at d within ready.sound;
  book = ready.book;
  within = All-get_or (IsWithin ids) xs at d within ready.within;
  left = left;
}

-- with fewer writes to come
pub ready_less : (n m : ℕ) (front : Log) (ids : Counter) (x : Txn) → m ≤ n → IsReady n front ids x → IsReady m front ids x
ready_less n m front ids x le ready = record {
  sound = ready.sound;
  book = ready.book;
  within = ready.within;
  left = omega (arith, le, ready.left);
}

-- and after some of them
pub ready_more : (a b n : ℕ) (front : Log) (i j : Counter) (x y : Txn) → a + b ≤ n → IsReady n front i x → HasDrawn front a i j x y → y.spoiled ≡ false → IsReady b front j y
ready_more a b n front i j x y enough ready drawn sound = record {
  sound = sound;
  book = ready.book ∙ sym drawn.book;
  within = drawn.within;
  left = omega (arith, enough, ready.left, drawn.few);
}

-- the tree at a place was written
pub drawn_at : (log : Log) (n : ℕ) (i j : Counter) (xs : List Txn) (at : ℕ) (d y : Txn) → All (IsWithin i) xs → HasDrawn log n i j (get_or xs at d) y → HaveDrawn log n i j xs (set xs at y)
drawn_at log n i j xs at d y within drawn = record {
  start = map-set_same (λ (z : Txn). z.start) xs at y d drawn.start;
  within = All-set (IsWithin j) xs at y drawn.within (all_within i j xs drawn.later drawn.book within);
  drawn = set_drawn log i j xs at d y drawn.drawn;
  separate = set_separate log i j xs at d y within drawn.drawn;
  book = drawn.book;
  later = drawn.later;
  few = drawn.few;
}

pub step_drawn : (log : Log) (a b n : ℕ) (i j k : Counter) (start xs : List Txn) (at : ℕ) (d y : Txn) → HaveDrawn log a i j start xs → HasDrawn log b j k (get_or xs at d) y → a + b ≤ n → HaveDrawn log n i k start (set xs at y)
step_drawn log a b n i j k start xs at d y before drawn enough = then_drawn log a b n i j k start xs (set xs at y) before (drawn_at log b j k xs at d y before.within drawn) enough
