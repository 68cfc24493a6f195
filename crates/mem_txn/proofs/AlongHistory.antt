-- A question's cell that no commit fires guards its answer.
use Rattle.std.proofs.Common.{◌≡◌, ◌∙◌, ◌+◌, ◌-◌, ◌≤◌, ◌<◌, ℕ, zero, suc, Bool, true, false, List, length, Option, Some, None, Ok, Err, inl, inr, refl, sym, ap, subst, arith}
use Rattle.std.specs.Prelude.{◌⊎◌, if◌then◌else◌}
use Rattle.db_front.specs.Passes.{Known}
use Rattle.mdb_datum.specs.Row.{Fields}
use Rattle.mdb_encode.specs.Bytes.{Bytes}
use Rattle.mdb_schema.specs.Answer.{Asked, Lookup, ask, ask_rows, lookup_of, unknown_table}
use Rattle.mdb_schema.specs.Query.{Query}
use Rattle.mdb_schema.specs.Schema.{DbSchema, TableSchema}
use Rattle.mdb_schema.specs.State.{State, Table}
use Rattle.mdb_schema.specs.Tests.{◌>>=◌, needed}
use Rattle.mdb_schema.specs.Touched.{rows_written}
use Rattle.mdb_schema.proofs.Tables.{table_at-some}
use Rattle.table_index.specs.Spot.{SpotOf}
use Rattle.table_index.specs.Table.{TableRows}
use Rattle.table_index.specs.Watched.{FiresAt, QuestionsHold, cell_of, is_watchable, looks_up}
use Rattle.watch_word.specs.Logs.{Cell, Log, has_fired}
use Rattle.mem_txn.specs.CellHistory.{CellHistory, FiresIn, Forest, HasFirings, IsUnfired, WatchesHold, asked_in, cell_at, looked_up, question_cell, state_after, table_in, trees_after}
use Rattle.mem_txn.specs.Database.{cells_seen}
use Rattle.mem_txn.specs.Transactions.{TellsChanges}
use Rattle.mem_txn.specs.inner.Steps.{AreSteps, AreTableSteps, tables_with}
use Rattle.mem_txn.specs.inner.Versions.{IsBegun, Version, Versions, caller_of}
use Rattle.mem_txn.proofs.StepAtPlace.{Becomes, becomes, named_there}
use Rattle.mem_txn.proofs.ValuesAlong.{StepAfter, cells_in, step_after}

-- ---- one table

-- a question with a cell may be watched
pub watched_if : (b : Bool) (x : Option Cell) (c : Cell) → (if b then x else None) ≡ Some c → (b ≡ true) × (x ≡ Some c)
watched_if true x c e = (refl, e)
watched_if false x c e = cc

-- the cell of a question is gone from the tree where it is looked up
pub record FiresThere (t u : TableRows) (q : Query) (c : Cell) : Type 0 where
  pub at : Lookup
  pub looked : lookup_of t.schema q ≡ Ok at
  pub cell : cell_of t.trees at.place (looks_up at.index q) at.key ≡ Some c
  pub fires : FiresAt at.place c t.trees u.trees

-- in the table of one name: the cell is gone from that tree, or it is found again with the same
-- answer
Holds : TableRows → TableRows → Query → Cell → Asked Lookup → Type 0
Holds t u q c told =
    FiresThere t u q c ⊎ ((looked_up u.trees q told ≡ Some c) × (ask_rows u.schema u.rows q ≡ ask_rows t.schema t.rows q))

-- a question that is watched in the one table holds in the other so
holds_at : (t u : TableRows) (q : Query) (c : Cell) (told : Asked Lookup) → lookup_of t.schema q ≡ told → looked_up t.trees q told ≡ Some c → is_watchable q.ask ≡ true → QuestionsHold t u → Holds t u q c told
unfolding Holds
holds_at t u q c (Err why) is e watched holds = cc
holds_at t u q c (Ok at) is e watched holds =
    let s : SpotOf = record { index = at.place; key = at.key; exact = looks_up at.index q; watch = c } in
    elim (holds q s watched (record { at = at; looked = is; index = refl; key = refl; exact = refl; cell = e })) [
      | inl fires ↦ inl (record { at = at; looked = is; cell = e; fires = fires })
      | inr same ↦ inr same
    ]

-- a question with a cell has a table
pub table_of : (q : Query) (o : Option TableRows) (c : Cell) → asked_in q o ≡ Some c → (t : TableRows) × (o ≡ Some t) × (looked_up t.trees q (lookup_of t.schema q) ≡ Some c)
table_of q None c e = cc
table_of q (Some t) c e = (t, refl, e)

-- what a question is answered is told by the table of its name
pub asked_of : (db : DbSchema) (s : State) (forest : Forest) (q : Query) (t : TableRows) → table_in db s forest q.table ≡ Some t → ask db s q ≡ ask_rows t.schema t.rows q
asked_of db s forest q t e =
    let at = named_there db s forest q.table t e in
    let y : Table = record { place = at.table.place; schema = t.schema; rows = t.rows } in
    ap (λ (o : Option Table). needed unknown_table o >>= (λ (w : Table). ask_rows w.schema w.rows q))
    (table_at-some db s q.table y (record { place = at.named.place; schema = at.there.schema; rows = at.there.rows }))

-- ---- one commit

-- a commit fires the cell of a question where that is looked up
pub record FiresLooked (first : ℕ) (rows : Bytes → List Fields) (db : DbSchema) (old new : State) (forest later : Forest) (q : Query) (c : Cell) : Type 0 where
  pub table : TableRows
  pub named : table_in db old forest q.table ≡ Some table
  pub next : Becomes first (rows table.schema.name) db new forest later q.table table
  pub gone : let b = next in FiresThere table b.after q c

module _ (first : ℕ) (rows : Bytes → List Fields) (db : DbSchema) (old new : State) (forest later : Forest) (steps : AreTableSteps first rows (tables_with db old forest) (tables_with db new later)) (q : Query) (c : Cell) where
  -- the cell of the table of its name is that of the question
  found_again : (t u : TableRows) → is_watchable q.ask ≡ true → table_in db new later q.table ≡ Some u → u.schema ≡ t.schema → looked_up u.trees q (lookup_of t.schema q) ≡ Some c → question_cell db new later q ≡ Some c
  found_again t u watched there same e =
      ap (λ (b : Bool). if b then asked_in q (table_in db new later q.table) else None) watched
      ∙ (ap (asked_in q) there ∙ (ap (λ (z : TableSchema). looked_up u.trees q (lookup_of z q)) same ∙ e))

  -- the cell is gone from a tree then
  pub fires_in : FiresLooked first rows db old new forest later q c → FiresIn forest later c
  fires_in f =
      let b = f.next in
      let gone = f.gone in
      record {
        table = b.place;
        index = gone.at.place;
        before = f.table.trees;
        after = b.after.trees;
        was = b.was;
        now = b.is;
        fires = gone.fires;
      }

  -- the commit fires a question's cell, or that is its cell still, and it is answered as before
  pub fires_or_holds : question_cell db old forest q ≡ Some c → FiresLooked first rows db old new forest later q c ⊎ ((question_cell db new later q ≡ Some c) × (ask db new q ≡ ask db old q))
  unfolding Holds
  fires_or_holds e =
      let w = watched_if (is_watchable q.ask) (asked_in q (table_in db old forest q.table)) c e in
      let at = table_of q (table_in db old forest q.table) c w.1 in
      let b = becomes first rows db old new forest later q.table at.0 steps at.1 in
      elim (holds_at at.0 b.after q c (lookup_of at.0.schema q) refl at.2 w.0 b.step.questions) [
        | inl gone ↦ inl (record { table = at.0; named = at.1; next = b; gone = gone })
        | inr same ↦ inr (found_again at.0 b.after w.0 b.there b.same same.0, asked_of db new later q b.after b.there ∙ (same.1 ∙ sym (asked_of db old forest q at.0 at.1)))
      ]

-- ---- one commit after another

module _ (h : Versions) (begun : IsBegun h) (steps : AreSteps h) (q : Query) (v : ℕ) (c : Cell) (there : cell_at (cells_in h) q v ≡ Some c) where
  -- the history of the values
  abbrev J : CellHistory
  J = cells_in h

  -- what holds after n commits
  abbrev IsSame : ℕ → Type 0
  IsSame n = (cell_at J q n ≡ Some c) × (ask J.schema (state_after J n) q ≡ ask J.schema (state_after J v) q)

  -- the first of n commits that fires the cell where the question is looked up
  pub record IsFiredFirst (n : ℕ) : Type 0 where
    pub before : ℕ
    pub since : v ≤ before
    pub reached : before < n
    pub same : IsSame before
    pub step : StepAfter h before
    pub fired : let s = step in
        FiresLooked s.old.1.ids.next (rows_written J.schema (state_after J before) s.new.1.writes) J.schema (state_after J before) (state_after J (suc before)) (trees_after J before) (trees_after J (suc before)) q c

  -- commit after commit
  fired_or_same : (k : ℕ) → v + k ≤ length J.commits → IsFiredFirst (v + k) ⊎ IsSame (v + k)
  fired_or_same zero within = inr (subst IsSame (search arith) (there, refl))
  fired_or_same (suc k) within =
      let n = v + k in
      let next : suc n ≡ v + suc k = search arith in
      elim (fired_or_same k (omega (arith, within))) [
        | inl f ↦ let less = f.reached in inl (record { before = f.before; since = f.since; reached = omega (arith, less); same = f.same; step = f.step; fired = f.fired })
        | inr same ↦ let s = step_after h begun steps n (omega (arith, within)) in
            elim (fires_or_holds s.old.1.ids.next (rows_written J.schema (state_after J n) s.new.1.writes) J.schema (state_after J n) (state_after J (suc n)) (trees_after J n) (trees_after J (suc n)) s.tables q c same.0) [
              | inl f ↦ inl (record { before = n; since = omega arith; reached = omega arith; same = same; step = s; fired = f })
              | inr again ↦ inr (subst IsSame next (again.0, again.1 ∙ same.1))
            ]
      ]

  -- at each commit from the first one on
  fired_until : (n : ℕ) → v ≤ n → n ≤ length J.commits → IsFiredFirst n ⊎ IsSame n
  fired_until n low high =
      let is : v + (n - v) ≡ n = omega (arith, low) in
      subst (λ (m : ℕ). IsFiredFirst m ⊎ IsSame m) is (fired_or_same (n - v) (omega (arith, is, high)))

  -- the cell of a question that no commit fires stays
  pub same_until : (n : ℕ) → v ≤ n → n ≤ length J.commits → IsUnfired J c v n → IsSame n
  same_until n low high quiet = elim (fired_until n low high) [
    | inl f ↦ let s = f.step in
        absurd (quiet f.before f.since f.reached (fires_in s.old.1.ids.next (rows_written J.schema (state_after J f.before) s.new.1.writes) J.schema (state_after J f.before) (state_after J (suc f.before)) (trees_after J f.before) (trees_after J (suc f.before)) s.tables q c f.fired))
    | inr same ↦ same
  ]

  -- a question that has another cell lost its own at one of them
  pub fired_first : (n : ℕ) → v ≤ n → n ≤ length J.commits → (cell_at J q n ≡ Some c → ⊥) → IsFiredFirst n
  fired_first n low high moved = elim (fired_until n low high) [ inl f ↦ f | inr same ↦ absurd (moved same.0) ]

-- a question's cell that no later commit fires is its cell still, and its answer is unchanged
pub watches_hold : (k : Known Version) → IsBegun k.seen → AreSteps k.seen → WatchesHold (cells_seen (caller_of k))
watches_hold k begun steps q v n c low high there quiet =
    let h = k.seen in
    ((same_until h begun steps q v c there n low high quiet).0, λ j from to. (same_until h begun steps q v c there j from (omega (arith, to, high)) (λ i least most. quiet i least (omega (arith, to, most)))).1)

-- so a log of all firings tells each question whose answer has changed
pub tells_changes : (J : CellHistory) (log : Log) → WatchesHold J → HasFirings J (length J.commits) log → TellsChanges J log
tells_changes J log holds has q v c within there changed = of (has_fired c log) refl
  where
    of : (b : Bool) → has_fired c log ≡ b → has_fired c log ≡ true
    of true e = e
    of false e =
        absurd (changed (holds q v (length J.commits) c within (omega arith) there (λ j low high fires. let told = has j high c fires in (let wrong : false ≡ true = sym e ∙ told in cc))).1)
