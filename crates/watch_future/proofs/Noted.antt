-- One more note of a list, and one more watch of a set.
use Rattle.std.proofs.Common.{◌≡◌, ◌∙◌, ◌<◌, ◌++◌, ℕ, zero, suc, List, [], ◌∷◌, take, length, Option, Some, None, Result, Ok, Err, OnErr, option_map, slice_get, append_assoc, append-nil, refl, sym, ap, add-one, ◌+◌, arith}
use Rattle.mem_txn.specs.Held.{HeldWatch}
use mathlib.Core.List.{IsPrefix}
use Rattle.watch_future.specs.Cells.{ArePartlyNoted, cell_of, cells_awaited, cells_of, with_cells}
use Rattle.watch_future.specs.inner.NotedAt.{IsNotedAt}
use Rattle.watch_set.specs.Members.{Member, watches_of}
use Rattle.watch_word.specs.Logs.{Cell}

pub with_nothing : (told : Option (List Cell)) → told ≡ with_cells [] told
with_nothing None = refl
with_nothing (Some l) = ap Some (sym (append-nil l))

pub with_both : (cs ds : List Cell) (told : Option (List Cell)) → with_cells ds (with_cells cs told) ≡ with_cells (cs ++ ds) told
with_both cs ds None = refl
with_both cs ds (Some l) = ap Some (append_assoc l cs ds)

some-is : {A : Type 0} (a b : A) → Some a ≡ Some b → a ≡ b
some-is a b e = cc

pub cells_more : (ms : List Member) (k : ℕ) (h : HeldWatch) → option_map (λ (m : Member). m.held) (slice_get ms k) ≡ Some h
    → take (suc k) (cells_of (watches_of ms)) ≡ take k (cells_of (watches_of ms)) ++ cell_of h ∷ []
cells_more [] k h e = absurd cc
cells_more (x ∷ xs) zero h e = ap (λ (i : HeldWatch). let cs : List Cell = cell_of i ∷ [] in cs) (some-is x.held h e)
cells_more (x ∷ xs) (suc k) h e = ap (λ (l : List Cell). cell_of x.held ∷ l) (cells_more xs k h e)

pub none_there : (ms : List Member) (k : ℕ) → k < length ms → option_map (λ (m : Member). m.held) (slice_get ms k) ≡ None → ⊥
none_there [] k within e = omega arith
none_there (x ∷ xs) zero within e = cc
none_there (x ∷ xs) (suc k) within e = none_there xs k (omega arith) e

pub count-of : (ms : List Member) → length (cells_of (watches_of ms)) ≡ length ms
count-of [] = refl
count-of (x ∷ xs) = ap suc (count-of xs)

pub one_noted : (ms : List Member) (k : ℕ) (first mid new : Option (List Cell)) → mid ≡ with_cells (take k (cells_of (watches_of ms))) first → IsNotedAt ms k mid new
    → new ≡ with_cells (take (k + 1) (cells_of (watches_of ms))) first
one_noted ms k first mid new before (h, there, noted) =
    noted
    ∙ ap (with_cells (cell_of h ∷ [])) before
    ∙ with_both (take k (cells_of (watches_of ms))) (cell_of h ∷ []) first
    ∙ ap (λ (l : List Cell). with_cells l first) (sym (ap (λ n. take n (cells_of (watches_of ms))) (add-one k) ∙ cells_more ms k h there))

-- ---- some of the cells, from the first on

first-part : (k : ℕ) (cs : List Cell) → IsPrefix (take k cs) cs
first-part zero [] = ([], refl)
first-part zero (c ∷ cs) = (c ∷ cs, refl)
first-part (suc k) [] = ([], refl)
first-part (suc k) (c ∷ cs) = let rest = first-part k cs in (rest.0, ap (λ (l : List Cell). c ∷ l) rest.1)

cells-behind : (hs : List HeldWatch) (h : HeldWatch) → cells_of (hs ++ h ∷ []) ≡ cells_of hs ++ cell_of h ∷ []
cells-behind [] h = refl
cells-behind (x ∷ xs) h = ap (λ (l : List Cell). cell_of x ∷ l) (cells-behind xs h)

part-more : (ms : List Member) (until : Option HeldWatch) (part : List Cell) → IsPrefix part (cells_awaited ms None) → IsPrefix part (cells_awaited ms until)
part-more ms None part p = p
part-more ms (Some h) part (more, e) = (
  more ++ cell_of h ∷ [],
  sym (append_assoc part more (cell_of h ∷ []))
      ∙ ap (λ (l : List Cell). l ++ cell_of h ∷ []) e
      ∙ sym (cells-behind (watches_of ms) h),
)

-- of the members, those before a place, behind which a note was refused
pub part_noted : {A E : Type 0} (r : Result A E) (ms : List Member) (k : ℕ) (first mid new : Option (List Cell)) → mid ≡ with_cells (take k (cells_of (watches_of ms))) first → new ≡ mid
    → OnErr r (ArePartlyNoted (cells_awaited ms None) first new)
part_noted (Ok x) ms k first mid new before same = tt
part_noted (Err e) ms k first mid new before same = (take k (cells_of (watches_of ms)), first-part k (cells_of (watches_of ms)), same ∙ before)

-- and so of the members and what cancels
pub part_of_all : {A E : Type 0} (r : Result A E) (ms : List Member) (until : Option HeldWatch) (old new : Option (List Cell)) → ArePartlyNoted (cells_awaited ms None) old new
    → OnErr r (ArePartlyNoted (cells_awaited ms until) old new)
part_of_all (Ok x) ms until old new part = tt
part_of_all (Err e) ms until old new (part, before, noted) = (part, part-more ms until part before, noted)

-- all the members, where the note of what cancels was refused
pub members_noted : {A E : Type 0} (r : Result A E) (ms : List Member) (until : Option HeldWatch) (old mid new : Option (List Cell)) → mid ≡ with_cells (cells_awaited ms None) old → OnErr r (new ≡ mid)
    → OnErr r (ArePartlyNoted (cells_awaited ms until) old new)
members_noted (Ok x) ms until old mid new all same = tt
members_noted (Err e) ms until old mid new all same = (cells_awaited ms None, part-more ms until (cells_awaited ms None) ([], append-nil (cells_awaited ms None)), same ∙ all)

-- all the cells
pub all_noted : (cs : List Cell) (old new : Option (List Cell)) → new ≡ with_cells cs old → ArePartlyNoted cs old new
all_noted cs old new all = (cs, ([], append-nil cs), all)
