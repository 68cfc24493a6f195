-- What stands after each commit of a list of values, and the step from there.
use Rattle.std.proofs.Common.{◌≡◌, ◌∙◌, ◌<◌, ℕ, suc, List, [], ◌∷◌, map, length, take, Some, option_map, slice_get, sym, ap, subst, arith}
use Rattle.std.specs.Prelude.{All}
use Rattle.std.proofs.lemmas.List.{length-map}
use Rattle.std.proofs.lemmas.Option.{slice_get-map}
use Rattle.mdb_datum.proofs.ListPlaces.{there_within}
use Rattle.mdb_schema.specs.Schema.{DbSchema}
use Rattle.mdb_schema.specs.State.{State}
use Rattle.mdb_schema.specs.Touched.{rows_written}
use Rattle.mdb_schema.specs.Write.{Write}
use Rattle.table_index.specs.Watched.{HoldsRows}
use Rattle.mem_txn.specs.CellHistory.{CellHistory, Forest, forest_or_none, state_after, trees_after}
use Rattle.mem_txn.specs.Database.{View}
use Rattle.mem_txn.specs.inner.Steps.{AreSteps, AreTableSteps, IsStep, tables_with}
use Rattle.mem_txn.specs.inner.Values.{IsBegun, Version, Versions, entry_of, history_in, schema_in}
use Rattle.mem_txn.proofs.StatesAfter.{state_at-all}

-- the trees of a value
abbrev pub forest_of : ℕ × Version → Forest
forest_of e = e.1.trees

-- the history that a list of values tells, with its trees
abbrev pub cells_in : Versions → CellHistory
cells_in h = record { schema = schema_in h; commits = history_in h; trees = map forest_of h }

-- there is one value more than commits
pub one_more : (h : Versions) → IsBegun h → length h ≡ suc (length (history_in h))
one_more [] begun = absurd begun
one_more (e ∷ es) begun = let n = length-map es entry_of in omega (arith, n)

-- the commit behind a value tells its writes
pub commit_at : (h : Versions) → IsBegun h → (n : ℕ) (f : ℕ × Version) → slice_get h (suc n) ≡ Some f → slice_get (history_in h) n ≡ Some (entry_of f)
commit_at [] begun n f e = absurd begun
commit_at (x ∷ es) begun n f e = slice_get-map entry_of es n ∙ ap (option_map entry_of) e

-- a value is what stands after the commits before it
pub record StandsAt (h : Versions) (n : ℕ) (e : ℕ × Version) : Type 0 where
  pub schema : e.1.view.schema ≡ schema_in h
  pub state : e.1.view.state ≡ state_after (cells_in h) n
  pub trees : e.1.trees ≡ trees_after (cells_in h) n

-- each value of the list is
pub stands_at : (h : Versions) → AreSteps h → (n : ℕ) (e : ℕ × Version) → slice_get h n ≡ Some e → StandsAt h n e
stands_at h steps n e at =
    let view = steps.views n e at in
    record {
      schema = ap (λ (v : View). v.schema) view;
      state = ap (λ (v : View). v.state) view ∙ state_at-all (schema_in h) (take n (history_in h));
      trees = ap forest_or_none (sym (slice_get-map forest_of h n ∙ ap (option_map forest_of) at));
    }

-- a state of a schema, with its trees
abbrev Standing : Type 0
Standing = DbSchema × (State × Forest)

-- the tables of the one become those of the other by these writes
abbrev Grows : ℕ → List Write → Standing → Standing → Type 0
Grows first ws a b = AreTableSteps first (rows_written a.0 a.1.0 ws) (tables_with a.0 a.1.0 a.1.1) (tables_with b.0 b.1.0 b.1.1)

-- what stands after n commits
abbrev after : Versions → ℕ → Standing
after h n = (schema_in h, (state_after (cells_in h) n, trees_after (cells_in h) n))

-- whose tables are in trees that hold their rows
pub held_after : (h : Versions) → AreSteps h → (n : ℕ) (e : ℕ × Version) → slice_get h n ≡ Some e → All HoldsRows (tables_with (schema_in h) (state_after (cells_in h) n) (trees_after (cells_in h) n))
held_after h steps n e at =
    let is = stands_at h steps n e at in
    let x : Standing = (e.1.view.schema, (e.1.view.state, e.1.trees)) in
    let same : x ≡ after h n = (λ i. (is.schema i, (is.state i, is.trees i))) in
    subst (λ (z : Standing). All HoldsRows (tables_with z.0 z.1.0 z.1.1)) same (steps.held n e at)

-- the step of the commit behind n others
pub record StepAfter (h : Versions) (n : ℕ) : Type 0 where
  pub old : ℕ × Version
  pub new : ℕ × Version
  pub before : slice_get h n ≡ Some old
  pub behind : slice_get h (suc n) ≡ Some new
  pub commit : slice_get (history_in h) n ≡ Some (entry_of new)
  pub step : IsStep old.1 new.1
  pub tables : let J = cells_in h in
      AreTableSteps old.1.ids.next (rows_written J.schema (state_after J n) new.1.writes)
      (tables_with J.schema (state_after J n) (trees_after J n))
      (tables_with J.schema (state_after J (suc n)) (trees_after J (suc n)))

-- each commit is such a step
pub step_after : (h : Versions) → IsBegun h → AreSteps h → (n : ℕ) → n < length (history_in h) → StepAfter h n
step_after h begun steps n less =
    let more = one_more h begun in
    let e = there_within h n (omega (arith, less, more)) in
    let f = there_within h (suc n) (omega (arith, less, more)) in
    let step = steps.steps n e.0 f.0 e.1 f.1 in
    let was = stands_at h steps n e.0 e.1 in
    let is = stands_at h steps (suc n) f.0 f.1 in
    let x : Standing = (e.0.1.view.schema, (e.0.1.view.state, e.0.1.trees)) in
    let y : Standing = (f.0.1.view.schema, (f.0.1.view.state, f.0.1.trees)) in
    let from : x ≡ after h n = (λ i. (was.schema i, (was.state i, was.trees i))) in
    let to : y ≡ after h (suc n) = (λ i. (is.schema i, (is.state i, is.trees i))) in
    record {
      old = e.0;
      new = f.0;
      before = e.1;
      behind = f.1;
      commit = commit_at h begun n f.0 f.1;
      step = step;
      tables = subst (λ (z : Standing). Grows e.0.1.ids.next f.0.1.writes (after h n) z) to (subst (λ (z : Standing). Grows e.0.1.ids.next f.0.1.writes z y) from step.tables);
    }
