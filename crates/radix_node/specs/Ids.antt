-- A counter of ids for new cells.
use Rattle.std.specs.Prelude.{ℕ}
pub use Rattle.logbook.specs.Pages.{Book}

-- the book of the cells, and the next id
pub record Counter : Type 0 where
  pub book : Book
  pub next : ℕ
