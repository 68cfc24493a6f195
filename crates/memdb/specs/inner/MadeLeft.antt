-- What the clients leave: so many commits, and the rows that the summary counts.
use Rattle.std.specs.Prelude.{◌≡◌, ◌*◌, List, length, Ok}
use Rattle.mdb_datum.specs.Row.{Fields}
use Rattle.mdb_schema.specs.Answer.{ask}
use Rattle.mdb_schema.specs.History.{History, state_at}
use Rattle.mdb_schema.specs.declared.answer.Answer.TheVariants.{Many}
use Rattle.memdb.specs.Made.{Numbers, all_items, last_items, ages}
use Rattle.memdb.specs.inner.MadeInputs.{made_schema, all_rows, ages_in}

-- how many commits there are, the rows after them, how many these are, and the sum of their ages
pub record AreLeft (n : Numbers) (H : History) : Type 0 where
  pub commits : length H ≡ n.clients * n.count
  pub rows : List Fields
  pub answer : ask made_schema (state_at made_schema H (length H)) all_rows ≡ Ok (Many rows)
  pub count : length rows ≡ length (last_items (all_items n))
  pub sum : ages_in rows ≡ ages (last_items (all_items n))
