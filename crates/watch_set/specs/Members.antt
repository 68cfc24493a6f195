-- Sets of held watches, as contracts see them.
use Rattle.std.specs.Prelude.{◌≡◌, ℕ, Bool, true, false, List, [], ◌∷◌, ◌++◌}
use Rattle.std.specs.Prelude.{if◌then◌else◌, map, nat_eq, nat_lt, length}
use Rattle.mdb_datum.specs.Bytes.{Bytes}
use Rattle.mem_txn.specs.Checked.{IsHeldBy}
use Rattle.mem_txn.specs.Database.{Caller}
use Rattle.mem_txn.specs.Held.{HeldWatch}

-- a watch under its name
pub record Member : Type 0 where
  pub name : Bytes
  pub held : HeldWatch

-- the id of the cell that is watched, which no other cell of the database's trees has
abbrev pub cell_id : HeldWatch → ℕ
cell_id h = let spot = h.spot in let cell = spot.watch in cell.id

-- whether a member watches the cell of this id
abbrev pub has_cell : ℕ → List Member → Bool
has_cell id [] = false
has_cell id (m ∷ ms) = if nat_eq (cell_id m.held) id then true else has_cell id ms

-- each member watches another cell
abbrev pub HaveDistinctCells : List Member → Type 0
HaveDistinctCells [] = Unit {0}
HaveDistinctCells (m ∷ ms) = (has_cell (cell_id m.held) ms ≡ false) × HaveDistinctCells ms

-- the set with one more watch, at the end, unless it has its cell
abbrev pub with_watch : Bytes → HeldWatch → List Member → List Member
with_watch name h ms =
    if has_cell (cell_id h) ms then ms else ms ++ record { name = name; held = h } ∷ []

-- the one watch while the set has fewer members than the limit, else the other
abbrev pub chosen : ℕ → List Member → Member → Member → Member
chosen limit ms one other = if nat_lt (length ms) limit then one else other

abbrev pub watches_of : List Member → List HeldWatch
watches_of ms = map (λ (m : Member). m.held) ms

-- each of the watches is held by this caller
abbrev pub AreHeldBy : Caller → List HeldWatch → Type 0
AreHeldBy p [] = Unit {0}
AreHeldBy p (h ∷ hs) = IsHeldBy p h × AreHeldBy p hs
