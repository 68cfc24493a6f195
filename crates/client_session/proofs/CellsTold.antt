-- What a session tells of cells stays so once its caller has seen more, and a session that tells of
-- cells is a session.
use Rattle.std.proofs.Common.{◌≡◌, ◌∙◌, ◌++◌, ◌<◌, ℕ, zero, suc, Bool, true, false, List, [], ◌∷◌, Contains, length, Option, Some, None, refl, sym, ap, subst, arith}
use Rattle.std.specs.Prelude.{if◌then◌else◌, slice_get}
use Rattle.std.proofs.lemmas.Option.{slice_get_within}
use mathlib.Core.List.{IsPrefix}
use Rattle.mdb_datum.specs.Bytes.{Bytes}
use Rattle.mdb_schema.proofs.Membership.{Contains-first, Contains-later}
use Rattle.mdb_schema.specs.History.{History, state_at}
use Rattle.mdb_schema.specs.Query.{Query}
use Rattle.mdb_schema.specs.Schema.{DbSchema}
use Rattle.mdb_schema.specs.State.{Table, table_at}
use Rattle.table_index.specs.Watched.{is_watchable}
use Rattle.watch_word.specs.Logs.{Cell}
use Rattle.mem_txn.specs.CellHistory.{AreComplete, CellHistory, Forest, asked_in, cell_at, forest_or_none, planted, question_cell, state_after}
use Rattle.mem_txn.specs.Checked.{IsBeginning, IsFired, IsHeldBy}
use Rattle.mem_txn.specs.Database.{Caller, cells_seen}
use Rattle.mem_txn.specs.Held.{HeldWatch}
use Rattle.mem_txn.proofs.HeldAlong.{length_longer, state_longer}
use Rattle.client_script.proofs.LongerHistory.{answered_within, answers_longer, start_within}
use Rattle.client_script.specs.Within.{IsWithin}
use Rattle.client_script.specs.Client.{Client, Watch, WatchSet, at_start}
use Rattle.client_script.specs.Reply.{Reply, fired_at, refused, sized, stopped_at, woken_by}
use Rattle.client_script.specs.Session.{Answers, Runs}
use Rattle.client_script.specs.Watching.{set_for}
use Rattle.client_script.specs.declared.command.Command.{Command}
use Rattle.client_script.specs.declared.command.Command.TheVariants as command
use Rattle.client_script.specs.declared.command.WatchesCommand.{WatchesCommand}
use Rattle.client_script.specs.declared.command.WatchesCommand.TheVariants as watches_line
use Rattle.client_script.specs.declared.line.Line.{Line}
use Rattle.client_session.specs.Cells.{AreOfOneCell, AreOfOtherCells, HasCell, HasEachCellOnce, HasMoved, HasTreesAfter, RunsByCells, TellsCells, WatchTellsCells}
use Rattle.client_session.specs.inner.WatchingView.{watch_of}
use Rattle.client_session.proofs.ToldCounts.{IsOfRows}

-- ---- the cells of held watches

-- without trees no question has a cell
none_planted : (o : Option Table) (q : Query) (c : Cell) → asked_in q (planted [] o) ≡ Some c → ⊥
none_planted None q c e = cc
none_planted (Some t) q c e = cc

none_asked : (b : Bool) (o : Option Table) (q : Query) (c : Cell) → (if b then asked_in q (planted [] o) else None) ≡ Some c → ⊥
none_asked true o q c e = none_planted o q c e
none_asked false o q c e = cc

-- so there are trees after a commit where a question has one
cell_there : (J : CellHistory) (q : Query) (n : ℕ) (c : Cell) → cell_at J q n ≡ Some c → n < length J.trees
cell_there J q n c e = of (slice_get J.trees n) refl e
  where
    of : (f : Option Forest) → slice_get J.trees n ≡ f → question_cell J.schema (state_after J n) (forest_or_none f) q ≡ Some c → n < length J.trees
    of None is e' = absurd (none_asked (is_watchable q.ask) (table_at J.schema (state_after J n) q.table) q c e')
    of (Some f) is e' = slice_get_within J.trees n f is

-- a held watch's question had its cell when it was asked
pub held_cell : (p : Caller) (h : HeldWatch) (name : Bytes) → IsHeldBy p h → (let spot = h.spot in HasCell (cells_seen p) (watch_of name h) spot.watch)
held_cell p h name held =
    let spot = h.spot in
    record {
      there = record { commit = held.seen; trees = cell_there (cells_seen p) h.query h.number spot.watch held.cell };
      asked = held.cell;
    }

-- and has another one after the commit where it was found to have fired
pub fired_moved : (p : Caller) (h : HeldWatch) (name : Bytes) (at : ℕ) → AreComplete (cells_seen p) → IsHeldBy p h → at ≡ length p.seen → IsFired p h at → HasMoved (cells_seen p) (watch_of name h) at
fired_moved p h name at complete held all fired =
    let spot = h.spot in
    record {
      cell = spot.watch;
      had = held_cell p h name held;
      there = record { commit = omega (arith, all); trees = omega (arith, all, complete) };
      other = fired.other;
    }

-- ---- what a line tells of cells

-- a line of rows
pub rows_cells : (J : CellHistory) (v : Client) (c : Command) (r : Reply) (next : Client) → IsOfRows c → TellsCells J v c r next
rows_cells J v (command.Transaction t) r next is = tt
rows_cells J v (command.Write w) r next is = tt
rows_cells J v (command.Defer text) r next is = tt
rows_cells J v (command.Ask a) r next is = tt
rows_cells J v (command.Name n) r next is = tt
rows_cells J v (command.Size set) r next is = tt
rows_cells J v (command.Watches w) r next is = absurd is

-- a line that is refused
pub tells_refused : (J : CellHistory) (v : Client) (w : WatchesCommand) (rule : Bytes) (next : Client) → WatchTellsCells J v w (refused rule) next
tells_refused J v (watches_line.Check name) rule next = tt
tells_refused J v w rule next = tt

-- one that tells the same in another history
watch_tells_so : (J K : CellHistory) (v : Client) (w : WatchesCommand) (r : Reply) (next : Client) → ((x : Watch) (n : ℕ) → HasMoved J x n → HasMoved K x n) → ((s : WatchSet) → HasEachCellOnce J s → HasEachCellOnce K s) → WatchTellsCells J v w r next → WatchTellsCells K v w r next
watch_tells_so J K v (watches_line.Check name) (fired_at n) next moved each told = (told.0, told.1, moved told.0 n told.2)
watch_tells_so J K v (watches_line.Wait set) (woken_by name n) next moved each told = (told.0, told.1, told.2, moved told.0 n told.3)
watch_tells_so J K v (watches_line.WaitUntil set until) (woken_by name n) next moved each told = (told.0, told.1, told.2, moved told.0 n told.3)
watch_tells_so J K v (watches_line.WaitUntil set until) (stopped_at n) next moved each told = (told.0, told.1, moved told.0 n told.2)
watch_tells_so J K v (watches_line.Add set name) (sized k) next moved each told = each (set_for set next) told
watch_tells_so J K v (watches_line.AddLimit set limit name other) (sized k) next moved each told = each (set_for set next) told
watch_tells_so J K v w r next moved each told = tt

tells_so : (J K : CellHistory) (v : Client) (c : Command) (r : Reply) (next : Client) → ((x : Watch) (n : ℕ) → HasMoved J x n → HasMoved K x n) → ((s : WatchSet) → HasEachCellOnce J s → HasEachCellOnce K s) → TellsCells J v c r next → TellsCells K v c r next
tells_so J K v (command.Watches w) r next moved each told = watch_tells_so J K v w r next moved each told
tells_so J K v c r next moved each told = tt

-- ---- a caller that has seen more

-- what a beginning has at a place
one_there : {X : Type 0} (xs ys : List X) (n : ℕ) → IsPrefix xs ys → n < length xs → slice_get ys n ≡ slice_get xs n
one_there {X} xs ys n begins within = ap (λ (zs : List X). slice_get zs n) (sym begins.1) ∙ first xs begins.0 n within
  where
    first : (us vs : List X) (m : ℕ) → m < length us → slice_get (us ++ vs) m ≡ slice_get us m
    first [] vs m h = absurd (omega arith)
    first (u ∷ us) vs zero h = refl
    first (u ∷ us) vs (suc m) h = first us vs m (omega arith)

module _ (p q : Caller) (more : IsBeginning p q) where
  abbrev J : CellHistory
  J = cells_seen p

  abbrev K : CellHistory
  K = cells_seen q

  trees_more : (n : ℕ) → HasTreesAfter J n → HasTreesAfter K n
  trees_more n h =
      let commits = length_longer p.seen q.seen more.seen in
      let trees = length_longer p.trees q.trees more.trees in
      record { commit = omega (arith, h.commit, commits); trees = omega (arith, h.trees, trees) }

  -- a question has the cell that it had
  cell_more : (x : Query) (n : ℕ) → HasTreesAfter J n → cell_at K x n ≡ cell_at J x n
  cell_more x n h =
      let schema : q.schema ≡ p.schema = more.schema in
      let state : state_after K n ≡ state_after J n = ap (λ (s : DbSchema). state_at s q.seen n) schema ∙ state_longer p.schema p.seen q.seen n more.seen h.commit in
      let forest : slice_get q.trees n ≡ slice_get p.trees n = one_there p.trees q.trees n more.trees h.trees in
      (λ i. question_cell (schema i) (state i) (forest_or_none (forest i)) x)

  has_cell_more : (w : Watch) (c : Cell) → HasCell J w c → HasCell K w c
  has_cell_more w c had = record { there = trees_more w.number had.there; asked = cell_more w.query w.number had.there ∙ had.asked }

  moved_more : (w : Watch) (n : ℕ) → HasMoved J w n → HasMoved K w n
  moved_more w n moved = record {
    cell = moved.cell;
    had = has_cell_more w moved.cell moved.had;
    there = trees_more n moved.there;
    other = λ same. moved.other (sym (cell_more w.query n moved.there) ∙ same);
  }

  one_cell_more : (a b : Watch) → AreOfOneCell J a b → AreOfOneCell K a b
  one_cell_more a b one = record { index = one.index; cell = one.cell; first = has_cell_more a one.cell one.first; second = has_cell_more b one.cell one.second }

  -- and the other way round, where there were trees
  has_cell_back : (w : Watch) (c : Cell) → HasTreesAfter J w.number → HasCell K w c → HasCell J w c
  has_cell_back w c there had = record { there = there; asked = sym (cell_more w.query w.number there) ∙ had.asked }

  one_cell_back : (a b : Watch) → HasTreesAfter J a.number → HasTreesAfter J b.number → AreOfOneCell K a b → AreOfOneCell J a b
  one_cell_back a b first second one = record { index = one.index; cell = one.cell; first = has_cell_back a one.cell first one.first; second = has_cell_back b one.cell second one.second }

  others_more : (ws : List Watch) → ((w : Watch) → Contains ws w → HasTreesAfter J w.number) → AreOfOtherCells J ws → AreOfOtherCells K ws
  others_more [] there others = tt
  others_more (w ∷ ws) there others = (
    λ x within one. others.0 x within (one_cell_back w x (there w (Contains-first w ws)) (there x (Contains-later w ws x within)) one),
    others_more ws (λ x within. there x (Contains-later w ws x within)) others.1,
  )

  each_once_more : (s : WatchSet) → HasEachCellOnce J s → HasEachCellOnce K s
  each_once_more s each = record {
    some = each.some;
    all = λ w within. let m = each.all w within in (m.0, m.1, one_cell_more m.0 w m.2);
    once = others_more s.members (λ w within. let m = each.all w (each.some w within) in let one = m.2 in let had = one.second in had.there) each.once;
  }

  tells_more : (v : Client) (c : Command) (r : Reply) (next : Client) → TellsCells J v c r next → TellsCells K v c r next
  tells_more v c r next told = tells_so J K v c r next moved_more each_once_more told

  -- an answer stays one
  answers_more : (client : ℕ) (v : Client) (c : Command) (r : Reply) (next : Client) → IsWithin (length p.seen) v → Answers p.schema p.seen client v c r next → Answers q.schema q.seen client v c r next
  answers_more client v c r next within a =
      subst (λ (s : DbSchema). Answers s q.seen client v c r next) (sym more.schema)
      (subst (λ (H : History). Answers p.schema H client v c r next) more.seen.1 (answers_longer p.schema p.seen more.seen.0 client v c r next within a))

  runs_longer : (client : ℕ) (v : Client) (ls : List Line) (rs : List Reply) (end : Client) → IsWithin (length p.seen) v → RunsByCells J client v ls rs end → RunsByCells K client v ls rs end
  runs_longer client v [] [] end within runs = runs
  runs_longer client v [] (r ∷ rs) end within runs = runs
  runs_longer client v (l ∷ ls) [] end within runs = runs
  runs_longer client v (l ∷ ls) (r ∷ rs) end within (next, a, told, runs) = (
    next,
    answers_more client v l.command r next within a,
    tells_more v l.command r next told,
    runs_longer client next ls rs end (answered_within p.schema p.seen client v l.command r next within a) runs,
  )

  -- the lines of a script that are answered
  pub runs_on : (client : ℕ) (ls : List Line) (rs : List Reply) (end : Client) → RunsByCells (cells_seen p) client at_start ls rs end → RunsByCells (cells_seen q) client at_start ls rs end
  runs_on client ls rs end runs = runs_longer client at_start ls rs end (start_within (length p.seen)) runs

-- ---- lines and their replies

-- they are a session whatever they tell of cells
pub runs_of : (J : CellHistory) (client : ℕ) (v : Client) (ls : List Line) (rs : List Reply) (end : Client) → RunsByCells J client v ls rs end → Runs J.schema J.commits client v ls rs end
runs_of J client v [] [] end runs = runs
runs_of J client v [] (r ∷ rs) end runs = runs
runs_of J client v (l ∷ ls) [] end runs = runs
runs_of J client v (l ∷ ls) (r ∷ rs) end (next, a, told, runs) = (next, a, runs_of J client next ls rs end runs)

-- one more line
pub runs_by_more : (J : CellHistory) (client : ℕ) (v : Client) (ls : List Line) (rs : List Reply) (mid end : Client) (l : Line) (r : Reply) → RunsByCells J client v ls rs mid → Answers J.schema J.commits client mid l.command r end → TellsCells J mid l.command r end → RunsByCells J client v (ls ++ l ∷ []) (rs ++ r ∷ []) end
runs_by_more J client v [] [] mid end l r runs a told = (end, subst (λ (x : Client). Answers J.schema J.commits client x l.command r end) runs a, subst (λ (x : Client). TellsCells J x l.command r end) runs told, refl)
runs_by_more J client v [] (x ∷ rs) mid end l r runs a told = absurd runs
runs_by_more J client v (x ∷ ls) [] mid end l r runs a told = absurd runs
runs_by_more J client v (x ∷ ls) (y ∷ rs) mid end l r (next, b, said, runs) a told = (next, b, said, runs_by_more J client next ls rs mid end l r runs a told)
