-- What is counted of the state that made clients leave.
use Rattle.std.proofs.Common.{◌≡◌, ◌∙◌, ap, sym, ◌*◌, List, [], length, Ok, Err}
use Rattle.mdb_datum.specs.Row.{Fields}
use Rattle.mdb_schema.specs.Answer.{Asked, ask}
use Rattle.mdb_schema.specs.declared.answer.Answer.{Answer}
use Rattle.mdb_schema.specs.declared.answer.Answer.TheVariants.{Many, One}
use Rattle.mem_txn.specs.Database.{View}
use Rattle.memdb.specs.Made.{Numbers, ages, all_items, last_items}
use Rattle.memdb.specs.inner.LastState.{IsLastMade}
use Rattle.memdb.specs.inner.MadeInputs.{ages_in, all_rows}

abbrev answered_rows : Asked Answer → List Fields
answered_rows (Ok (Many rows)) = rows
answered_rows (Ok (One row)) = []
answered_rows (Err e) = []

-- the question for all rows is answered
pub rows_asked : (n : Numbers) (v : View) (last : IsLastMade n v) → ask v.schema v.state all_rows ≡ Ok (Many last.left.rows)
rows_asked n v last = ap (λ (x : View). ask x.schema x.state all_rows) last.view ∙ last.left.answer

-- the rows that are answered are those that are left
same_rows : (n : Numbers) (v : View) (rows : List Fields) (last : IsLastMade n v) → ask v.schema v.state all_rows ≡ Ok (Many rows) → rows ≡ last.left.rows
same_rows n v rows last told =
    sym (ap answered_rows told) ∙ ap answered_rows (rows_asked n v last)

pub commits_told : (n : Numbers) (v : View) → IsLastMade n v → v.number ≡ n.clients * n.count
commits_told n v last = ap (λ (x : View). x.number) last.view ∙ last.left.commits

pub rows_told : (n : Numbers) (v : View) (rows : List Fields) → IsLastMade n v → ask v.schema v.state all_rows ≡ Ok (Many rows) → length rows ≡ length (last_items (all_items n))
rows_told n v rows last told = ap length (same_rows n v rows last told) ∙ last.left.count

pub ages_told : (n : Numbers) (v : View) (rows : List Fields) → IsLastMade n v → ask v.schema v.state all_rows ≡ Ok (Many rows) → ages_in rows ≡ ages (last_items (all_items n))
ages_told n v rows last told = ap ages_in (same_rows n v rows last told) ∙ last.left.sum
