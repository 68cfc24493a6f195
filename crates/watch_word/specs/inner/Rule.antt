-- The rule of a book of cells, and what its steps tell. The book's log has an event for each cell
-- that came home, which is where its word is ready for all, with the id that the cell has from then
-- on, and one for each that fired. A word is 0 until its cell fires, and then the number of the
-- commit that fired it.
use Rattle.std.specs.Prelude.{◌≡◌, ℕ, ◌==◌, ◌<◌, Bool, true, false, not, List, [], ◌∷◌, length, if◌then◌else◌, Option, Some, None}
use Rattle.logbook.specs.Pages.{Cell, cell, Step, View, Named, Book, nib, may_make}
use Rattle.watch_word.specs.declared.event.Event.{Event}
use Rattle.watch_word.specs.declared.event.Event.TheVariants.{Home, Fired}
use Rattle.watch_word.specs.Logs.{has, AreDistinct}

-- the cells that fired, in order
abbrev pub fired_in : List Event → List ℕ
fired_in [] = []
fired_in (Home k id ∷ es) = fired_in es
fired_in (Fired k n ∷ es) = k ∷ fired_in es

abbrev pub is_home : ℕ → List Event → Bool
is_home k [] = false
is_home k (Home j id ∷ es) = if j == k then true else is_home k es
is_home k (Fired j n ∷ es) = is_home k es

-- the id with which the cell came home
abbrev pub id_in : ℕ → List Event → Option ℕ
id_in k [] = None
id_in k (Home j id ∷ es) = if j == k then Some id else id_in k es
id_in k (Fired j n ∷ es) = id_in k es

-- the number of the commit that fired the cell, or 0
abbrev pub number_of : ℕ → List Event → ℕ
number_of k [] = 0
number_of k (Home j id ∷ es) = number_of k es
number_of k (Fired j n ∷ es) = if j == k then n else number_of k es

-- no commit has the number 0
abbrev pub AreNumbered : List Event → Type 0
AreNumbered [] = Unit {0}
AreNumbered (Home j id ∷ es) = AreNumbered es
AreNumbered (Fired j n ∷ es) = (0 < n) × AreNumbered es

-- Key 0 is the anchor, and key 1 a word that is never used.
pub record KeepsRule (cells : List Cell) (log : List Event) : Type 0 where
  pub anchor : (1 < length cells) × (cell cells 0 ≡ (0, true))
  pub home : (k : ℕ) → is_home k log ≡ true
      → (1 < k) × (k < length cells) × (cell cells k ≡ (number_of k log, true))
  pub fired : (k : ℕ) → has k (fired_in log) ≡ true → is_home k log ≡ true
  pub numbered : AreNumbered log
  pub once : AreDistinct (fired_in log)

-- the word of a book under a key
abbrev pub word_at : Book → ℕ → Named
word_at b k = record { tracked = true; key = k; book = b }

-- a cell was added, which hasn't fired
abbrev pub Adds : Step Event → View Event ℕ → ℕ → View Event ℕ → Type 0
Adds st v n w =
    (k : ℕ) × (1 < k) × (w.1.0 ≡ nib may_make k 0) × (has k (fired_in w.0) ≡ false)

-- the id that a step was asked to give
abbrev pub id_asked : Event → ℕ
id_asked (Home k id) = id
id_asked (Fired k n) = 0

-- the cell came home, with the id that was asked
abbrev pub ComesHome : Step Event → View Event ℕ → ℕ → View Event ℕ → Type 0
ComesHome st v n w =
    (is_home v.1.0.key w.0 ≡ true) × (id_in v.1.0.key w.0 ≡ Some (id_asked st.ask))

-- the cell has fired, now or before
abbrev pub Fires : Step Event → View Event ℕ → ℕ → View Event ℕ → Type 0
Fires st v n w = (has st.key (fired_in w.0) ≡ true) × AreDistinct (fired_in w.0)

-- the word says whether the cell has fired
abbrev pub Sees : Step Event → View Event ℕ → ℕ → View Event ℕ → Type 0
Sees st v n w = (has st.key (fired_in w.0) ≡ not (n == 0)) × AreDistinct (fired_in w.0)
