-- A walk over the notices of tables fires all cells in them.
use Rattle.std.proofs.Common.{◌≡◌, ◌∙◌, ◌+◌, ◌<◌, ◌∷◌, ◌++◌, [], ℕ, zero, suc, List, Some, get_or, length, map, option_map, slice_get, take, arith, refl, sym, ap, subst}
use Rattle.std.proofs.lemmas.Option.{slice_get-map, slice_get_read}
use Rattle.radix_node.specs.Cells.{AreCellsOf}
use Rattle.radix_node.specs.Ids.{Book}
use Rattle.watch_word.specs.Logs.{Cell, IsLater, Log}
use Rattle.notify_walk.specs.Fired.{HaveFired}
use Rattle.notify_walk.proofs.Firings.{still_all}
use Rattle.mem_txn.specs.inner.Firing.{cells_in}

-- ---- two lists of cells

of_first : (book : Book) (xs ys : List Cell) → AreCellsOf book (xs ++ ys) → AreCellsOf book xs
of_first book [] ys all = refl
of_first book (x ∷ xs) ys all =
    let first : x.book ≡ book = cc in
    let rest : AreCellsOf book (xs ++ ys) = cc in
    λ i. first i ∷ of_first book xs ys rest i

of_second : (book : Book) (xs ys : List Cell) → AreCellsOf book (xs ++ ys) → AreCellsOf book ys
of_second book [] ys all = all
of_second book (x ∷ xs) ys all = let rest : AreCellsOf book (xs ++ ys) = cc in of_second book xs ys rest

fired_first : (log : Log) (xs ys : List Cell) → HaveFired log (xs ++ ys) → HaveFired log xs
fired_first log [] ys all = tt
fired_first log (x ∷ xs) ys all = (all.0, fired_first log xs ys all.1)

fired_second : (log : Log) (xs ys : List Cell) → HaveFired log (xs ++ ys) → HaveFired log ys
fired_second log [] ys all = all
fired_second log (x ∷ xs) ys all = fired_second log xs ys all.1

fired_both : (log : Log) (xs ys : List Cell) → HaveFired log xs → HaveFired log ys → HaveFired log (xs ++ ys)
fired_both log [] ys first second = second
fired_both log (x ∷ xs) ys first second = (first.0, fired_both log xs ys first.1 second)

-- ---- lists of cells

of_there : (book : Book) (css : List (List Cell)) (at : ℕ) (cs : List Cell) → AreCellsOf book (cells_in css) → slice_get css at ≡ Some cs → AreCellsOf book cs
of_there book [] at cs all there = cc
of_there book (ds ∷ css) zero cs all there = let same : ds ≡ cs = cc in subst (AreCellsOf book) same (of_first book ds (cells_in css) all)
of_there book (ds ∷ css) (suc at) cs all there = of_there book css at cs (of_second book ds (cells_in css) all) there

-- the notice at a place, where the log is of the front's book
pub notice_of : (front log : Log) (css : List (List Cell)) (at : ℕ) (cs : List Cell) → AreCellsOf front.book (cells_in css) → IsLater front log → slice_get css at ≡ Some cs → AreCellsOf log.book cs
notice_of front log css at cs all later there = subst (λ (b : Book). AreCellsOf b cs) (sym later.0) (of_there front.book css at cs all there)

fired_there : (log : Log) (css : List (List Cell)) (at : ℕ) (cs : List Cell) → slice_get css at ≡ Some cs → HaveFired log (cells_in (take at css)) → HaveFired log cs → HaveFired log (cells_in (take (suc at) css))
fired_there log [] at cs there before one = tt
fired_there log (ds ∷ css) zero cs there before one = let same : ds ≡ cs = cc in fired_both log ds [] (subst (HaveFired log) (sym same) one) tt
fired_there log (ds ∷ css) (suc at) cs there before one =
    fired_both log ds (cells_in (take (suc at) css)) (fired_first log ds (cells_in (take at css)) before) (fired_there log css at cs there (fired_second log ds (cells_in (take at css)) before) one)

-- one list more
pub fired_more : (old new : Log) (css : List (List Cell)) (at : ℕ) (cs : List Cell) → slice_get css at ≡ Some cs → HaveFired old (cells_in (take at css)) → IsLater old new → HaveFired new cs
    → HaveFired new (cells_in (take (at + 1) css))
fired_more old new css at cs there before later one =
    let next : suc at ≡ at + 1 = search arith in
    subst (λ (n : ℕ). HaveFired new (cells_in (take n css))) next (fired_there new css at cs there (still_all (cells_in (take at css)) old new later before) one)

-- ---- tables

-- the cells of the table at a place that a loop has reached
pub cells_there : (tables : List (List (List Cell))) (at : ℕ) (notices : List (List Cell)) → at < length tables → notices ≡ get_or tables at notices → slice_get (map cells_in tables) at ≡ Some (cells_in notices)
cells_there tables at notices within is = slice_get-map cells_in tables at ∙ ap (option_map cells_in) (slice_get_read tables (length tables) at notices refl within is)
