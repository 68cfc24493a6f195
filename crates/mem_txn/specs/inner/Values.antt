-- The values that a database shows, in a list of commits.
use Rattle.std.specs.Prelude.{◌≡◌, ◌≤◌, ◌+◌, ◌*◌, ◌^◌, ℕ, List, [], ◌∷◌, map}
use Rattle.mdb_schema.specs.History.{Commit, History}
use Rattle.mdb_schema.specs.Schema.{DbSchema}
use Rattle.mdb_schema.specs.State.{empty_state}
use Rattle.mdb_schema.specs.Write.{Write}
use Rattle.radix_node.specs.Ids.{Book, Counter}
use Rattle.mem_txn.specs.CellHistory.{Forest}
use Rattle.mem_txn.specs.Database.{View}

-- a state to be asked, and the trees in which it is kept
pub record ViewWithTrees : Type 0 where
  pub view : View
  pub trees : Forest

-- the state after a commit and its trees, the writes of that commit, and the ids that come next
pub record Version : Type 0 where
  pub view : View
  pub trees : Forest
  pub writes : List Write
  pub ids : Counter

-- the value before the first commit, in these trees
abbrev pub opening : DbSchema → Forest → Counter → Version
opening schema trees ids = record {
  view = record { schema = schema; number = 0; state = empty_state schema };
  trees = trees;
  writes = [];
  ids = ids;
}

-- after so many writes no more ids are drawn: 32 indexes of 64 tables have a cell each at the
-- opening
abbrev pub AreFew : ℕ → Counter → Type 0
AreFew writes ids = ids.next ≤ 2 ^ 11 + 2 ^ 26 * writes

-- a list of commits, each with its caller's number, behind the value before the first
abbrev pub Versions : Type 0
Versions = List (ℕ × Version)

abbrev pub entry_of : ℕ × Version → Commit
entry_of e = record { caller = e.0; writes = e.1.writes }

abbrev pub schema_in : Versions → DbSchema
schema_in [] = []
schema_in (e ∷ es) = e.1.view.schema

abbrev pub history_in : Versions → History
history_in [] = []
history_in (e ∷ es) = map entry_of es

-- the list has a value before the first commit
abbrev pub IsBegun : Versions → Type 0
IsBegun [] = ⊥
IsBegun (e ∷ es) = e ≡ (0, opening e.1.view.schema e.1.trees e.1.ids)

-- the book is that of the cells of the value before the first commit
abbrev pub IsBookOf : Versions → Book → Type 0
IsBookOf [] book = ⊥
IsBookOf (e ∷ es) book = book ≡ e.1.ids.book

-- that book; no list is without a value
abbrev pub book_in : Versions → Book
book_in [] = record { number = 0; log_name = 0; cells_name = 0 }
book_in (e ∷ es) = e.1.ids.book
