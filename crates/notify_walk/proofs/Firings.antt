-- What has fired stays so, and a walk over a list of cells reaches each.
use Rattle.std.proofs.Common.{append_assoc, arith, subst, ◌+◌, ◌<◌, ◌≤◌, inl, inr, length, map, get_or, refl, ◌≡◌, ℕ, zero, suc, List, [], ◌∷◌, ◌++◌, ◌∙◌, Some, slice_get, take, true, sym, ap}
use Rattle.radix_node.specs.Ids.{Book}
use Rattle.radix_node.specs.Cells.{AreCellsOf, AreOf, CellTree, cells_of}
use Rattle.radix_node.proofs.OneBook.{all_are, each_is}
use Rattle.radix_txn.specs.Notice.{IsNotice}
use Rattle.radix_txn.proofs.Steps.{lt_or_le}
use Rattle.watch_word.specs.Logs.{Cell, IsLater, Log, has, has_fired}
use Rattle.watch_word.proofs.Keys.{has_more}
use Rattle.notify_walk.specs.Fired.{HaveFired}

pub still_fired : (c : Cell) (old new : Log) → IsLater old new → has_fired c old ≡ true → has_fired c new ≡ true
still_fired c old new later fired = let p = later.1 in sym (ap (has c.key) p.1) ∙ has_more c.key old.fired p.0 fired

pub still_all : (cs : List Cell) (old new : Log) → IsLater old new → HaveFired old cs → HaveFired new cs
still_all [] old new later all = tt
still_all (c ∷ cs) old new later all = (still_fired c old new later all.0, still_all cs old new later all.1)

-- one cell further
pub fired_next : (cs : List Cell) (i : ℕ) (c : Cell) (log : Log) → slice_get cs i ≡ Some c → HaveFired log (take i cs) → has_fired c log ≡ true → HaveFired log (take (suc i) cs)
fired_next [] i c log at all fired = tt
fired_next (d ∷ ds) zero c log at all fired = let same : d ≡ c = cc in (ap (λ (x : Cell). has_fired x log) same ∙ fired, tt)
fired_next (d ∷ ds) (suc i) c log at all fired = (all.0, fired_next ds i c log at all.1 fired)

pub of_at : (cs : List Cell) (i : ℕ) (c : Cell) (book : Book) → AreCellsOf book cs → slice_get cs i ≡ Some c → c.book ≡ book
of_at [] i c book all at = cc
of_at (d ∷ ds) zero c book all at = let same : d ≡ c = cc in let first : d.book ≡ book = cc in sym (ap (λ (x : Cell). x.book) same) ∙ first
of_at (d ∷ ds) (suc i) c book all at = let rest : AreCellsOf book ds = cc in of_at ds i c book rest at

-- what stands at a place of a list, seen
pub got_map : {A B : Type 0} → (f : A → B) (xs : List A) (i : ℕ) (x : A) → i < length xs → x ≡ get_or xs i x → slice_get (map f xs) i ≡ Some (f x)
got_map f [] i x lt read = absurd (omega (arith, lt))
got_map f (y ∷ ys) zero x lt read = ap (λ z. Some (f z)) (sym read)
got_map f (y ∷ ys) (suc i) x lt read = got_map f ys i x (omega (arith, lt)) read

-- the listed cells of a notice, which are all of them or none
pub listed_of : (book : Book) (cells listed : List Cell) → (length cells ≤ 8192 → listed ≡ cells) → (8192 < length cells → listed ≡ []) → AreCellsOf book cells → AreCellsOf book listed
listed_of book cells listed few many all =
    elim (lt_or_le 8192 (length cells)) [
      | inl more ↦ subst (AreCellsOf book) (sym (many more)) refl
      | inr within ↦ subst (AreCellsOf book) (sym (few within)) all
    ]

-- each cell of a notice is of the old tree's book
pub notice_of : (book : Book) (cs : List Cell) (old new : CellTree) → IsNotice cs old new → AreOf book old → AreCellsOf book cs
notice_of book cs old new notice all = all_are book cs (λ c h. each_is book (cells_of old) all c ((notice.fires c).0 h).left)

pub later_again : (a b c : Log) → IsLater a b → IsLater b c → IsLater a c
later_again a b c p q =
    let x = p.1 in
    let y = q.1 in
    (q.0 ∙ p.0, (x.0 ++ y.0, sym (append_assoc a.fired x.0 y.0) ∙ (ap (λ ks. ks ++ y.0) x.1 ∙ y.1)))

-- one firing more
pub next : (cs : List Cell) (i : ℕ) (c : Cell) (old new : Log) → slice_get cs i ≡ Some c → HaveFired old (take i cs) → IsLater old new → has_fired c new ≡ true → HaveFired new (take (i + 1) cs)
next cs i c old new at all later fired =
    let e : suc i ≡ i + 1 = search arith in
    subst (λ (n : ℕ). HaveFired new (take n cs)) e (fired_next cs i c new at (still_all (take i cs) old new later all) fired)

-- the same of a transaction that begins with a tree
pub notice_from : (a b : Book) (cs : List Cell) (tree start new : CellTree) → b ≡ a → start ≡ tree → IsNotice cs start new → AreOf a tree → AreCellsOf b cs
notice_from a b cs tree start new same begun notice all =
    subst (λ (x : Book). AreCellsOf x cs) (sym same) (notice_of a cs start new notice (subst (AreOf a) (sym begun) all))
