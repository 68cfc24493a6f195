-- What a check finds of a watch in the state that was read.
use Rattle.std.specs.Prelude.{◌≡◌, Bool, true, false, Some, None, Option}
use Rattle.mdb_schema.specs.Query.{Query}
use Rattle.watch_word.specs.Logs.{Cell}
use Rattle.mem_txn.specs.CellHistory.{question_cell}
use Rattle.mem_txn.specs.Database.{Reading}
use Rattle.mem_txn.specs.Held.{HeldWatch}
use Rattle.mem_txn.specs.declared.look.Look.{Look}
use Rattle.mem_txn.specs.declared.look.Look.TheVariants as look
use Rattle.mem_txn.specs.inner.Values.{ViewWithTrees}

-- the cell of each question in a state that is read is of its book
abbrev pub CellsAreOfBook : Reading → Type 0
CellsAreOfBook r =
    (q : Query) (c : Cell) → question_cell r.view.schema r.view.state r.trees q ≡ Some c
    → c.book ≡ r.book

-- What is found of a watch in a state, by whether its cell has fired and by the cell that the
-- question has there. Nothing is told where the cell has fired, and the question has it still.
abbrev pub Finds : ViewWithTrees → Bool → HeldWatch → Option Look → Type 0
Finds v fired h None =
    (fired ≡ true) × (c : Cell)
    × (question_cell v.view.schema v.view.state v.trees h.query ≡ Some c)
    × (c.id ≡ h.spot.watch.id)
Finds v fired h (Some (look.Quiet at)) = (at ≡ v.view.number) × (fired ≡ false)
Finds v fired h (Some (look.Fired at)) =
    (at ≡ v.view.number) × (fired ≡ true) × (c : Cell)
    × (question_cell v.view.schema v.view.state v.trees h.query ≡ Some c)
    × (c ≡ h.spot.watch → ⊥)
