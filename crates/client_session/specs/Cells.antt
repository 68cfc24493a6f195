-- What a session tells of cells: a watch that is told to have fired has another cell then than when
-- it was asked, and the members of a set have the cells of all watches that were added to it, each
-- cell once.
use Rattle.std.specs.Prelude.{◌≡◌, ◌<◌, ◌≤◌, ℕ, List, [], ◌∷◌, Contains, Some, length, ⊤}
use Rattle.mdb_datum.specs.Bytes.{Bytes}
use Rattle.mem_txn.specs.CellHistory.{CellHistory, cell_at}
use Rattle.watch_word.specs.Logs.{Cell}
use Rattle.client_script.specs.Client.{Client, Watch, WatchSet, at_start, watch_named}
use Rattle.client_script.specs.Reply.{Reply, fired_at, sized, stopped_at, woken_by}
use Rattle.client_script.specs.Session.{Answers}
use Rattle.client_script.specs.Watching.{AreOfOneIndex, set_for}
use Rattle.client_script.specs.declared.command.Command.{Command}
use Rattle.client_script.specs.declared.command.Command.TheVariants as command
use Rattle.client_script.specs.declared.command.WatchesCommand.{WatchesCommand}
use Rattle.client_script.specs.declared.command.WatchesCommand.TheVariants as watches_line
use Rattle.client_script.specs.declared.line.Line.{Line}

-- commit n is there, and the trees after it
pub record HasTreesAfter (J : CellHistory) (n : ℕ) : Type 0 where
  pub commit : n ≤ length J.commits
  pub trees : n < length J.trees

-- a watch's question had this cell when it was asked
pub record HasCell (J : CellHistory) (w : Watch) (c : Cell) : Type 0 where
  pub there : HasTreesAfter J w.number
  pub asked : cell_at J w.query w.number ≡ Some c

-- ---- watches that have fired

-- a watch's question has another cell after commit n than when it was asked
pub record HasMoved (J : CellHistory) (w : Watch) (n : ℕ) : Type 0 where
  pub cell : Cell
  pub had : HasCell J w cell
  pub there : HasTreesAfter J n
  pub other : cell_at J w.query n ≡ Some cell → ⊥

-- so has the watch of a name
abbrev pub NamedHasMoved : CellHistory → Client → Bytes → ℕ → Type 0
NamedHasMoved J v name n =
    (w : Watch) × (watch_named name v.watching.watches ≡ Some w) × HasMoved J w n

-- so has the member of a name in a set
abbrev pub MemberHasMoved : CellHistory → Client → Bytes → Bytes → ℕ → Type 0
MemberHasMoved J v set name n =
    (w : Watch) × Contains (set_for set v).members w × (w.name ≡ name) × HasMoved J w n

-- ---- sets

-- two watches have one cell: they are of one index, and their questions had it when they were asked
pub record AreOfOneCell (J : CellHistory) (a b : Watch) : Type 0 where
  pub index : AreOfOneIndex a.query b.query
  pub cell : Cell
  pub first : HasCell J a cell
  pub second : HasCell J b cell

-- each watch has another cell
abbrev pub AreOfOtherCells : CellHistory → List Watch → Type 0
AreOfOtherCells J [] = ⊤
AreOfOtherCells J (w ∷ ws) =
    ((x : Watch) → Contains ws x → AreOfOneCell J w x → ⊥) × AreOfOtherCells J ws

-- The members of a set are some of the watches that were added to it. Each of these has the cell of
-- a member, and each member has another cell.
pub record HasEachCellOnce (J : CellHistory) (s : WatchSet) : Type 0 where
  pub some : (w : Watch) → Contains s.members w → Contains s.added w
  pub all : (w : Watch) → Contains s.added w
      → (m : Watch) × Contains s.members m × AreOfOneCell J m w
  pub once : AreOfOtherCells J s.members

-- ---- lines

-- what a line of watches tells of cells: by a watch that has fired, and by a set's new size
abbrev pub WatchTellsCells : CellHistory → Client → WatchesCommand → Reply → Client → Type 0
WatchTellsCells J v (watches_line.Check name) (fired_at n) next = NamedHasMoved J v name n
WatchTellsCells J v (watches_line.Wait set) (woken_by name n) next = MemberHasMoved J v set name n
WatchTellsCells J v (watches_line.WaitUntil set until) (woken_by name n) next =
    MemberHasMoved J v set name n
WatchTellsCells J v (watches_line.WaitUntil set until) (stopped_at n) next =
    NamedHasMoved J v until n
WatchTellsCells J v (watches_line.Add set name) (sized k) next = HasEachCellOnce J (set_for set next)
WatchTellsCells J v (watches_line.AddLimit set limit name other) (sized k) next =
    HasEachCellOnce J (set_for set next)
WatchTellsCells J v w r next = ⊤

-- the lines of other groups tell nothing of cells
abbrev pub TellsCells : CellHistory → Client → Command → Reply → Client → Type 0
TellsCells J v (command.Watches w) r next = WatchTellsCells J v w r next
TellsCells J v c r next = ⊤

-- each line has its reply, which answers it, and what it tells of cells is so; from what the client
-- knows at first to what it knows then
abbrev pub RunsByCells : CellHistory → ℕ → Client → List Line → List Reply → Client → Type 0
RunsByCells J client v [] [] end = end ≡ v
RunsByCells J client v [] (r ∷ rs) end = ⊥
RunsByCells J client v (l ∷ ls) [] end = ⊥
RunsByCells J client v (l ∷ ls) (r ∷ rs) end =
    (next : Client) × Answers J.schema J.commits client v l.command r next
    × TellsCells J v l.command r next × RunsByCells J client next ls rs end

-- the replies to a client's script
abbrev pub SessionByCells : CellHistory → ℕ → List Line → List Reply → Type 0
SessionByCells J client script replies =
    (end : Client) × RunsByCells J client at_start script replies end
