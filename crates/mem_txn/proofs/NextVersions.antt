-- The value that a transaction's commit shows is the next, and a step from the last one.
use Rattle.std.proofs.Common.{◌≡◌, ◌≤◌, ◌∙◌, ◌+◌, ℕ, Bool, List, [], ◌∷◌, length, map, Option, Some, None, Ok, Err, refl, sym, ap, subst, arith}
use Rattle.std.specs.Prelude.{All, slice_set}
use Rattle.std.proofs.lemmas.List.{length-map, length-set}
use Rattle.std.proofs.lemmas.List.Elements.{All-head, All-tail}
use Rattle.mdb_datum.specs.Row.{Fields}
use Rattle.mdb_encode.specs.Bytes.{Bytes}
use Rattle.mdb_schema.specs.History.{after_writes, state_or, writes_in}
use Rattle.mdb_schema.specs.Net.{Change, changes}
use Rattle.mdb_schema.specs.Schema.{DbSchema}
use Rattle.mdb_schema.specs.State.{State, Table, table_at}
use Rattle.mdb_schema.specs.Tests.{◌>>=◌, needed}
use Rattle.mdb_schema.specs.Touched.{rows_written}
use Rattle.mdb_schema.specs.Write.{Changed, Tested, Write, put, put_row, remove, remove_row, step, step_in, unknown_table}
use Rattle.radix_node.specs.Ids.{Counter}
use Rattle.watch_word.specs.Logs.{Cell}
use Rattle.table_index.specs.Table.{TableChange, TableRows}
use Rattle.table_index.specs.Watched.{HoldsRows}
use Rattle.mem_txn.specs.CellHistory.{Forest}
use Rattle.mem_txn.specs.DbTxn.{DbTxn, present}
use Rattle.mem_txn.specs.Database.{Caller, View, state_seen}
use Rattle.mem_txn.specs.inner.DbTxnView.{AreCounted, AreSince, IsBase}
use Rattle.mem_txn.specs.inner.Commits.{IsNextOf}
use Rattle.mem_txn.specs.inner.Ended.{AreMade, AreTold, EndWith, IsMade, starts_of}
use Rattle.mem_txn.specs.inner.Firing.{AreGone, cells_told}
use Rattle.mem_txn.specs.inner.Steps.{AreTableSteps, tables_of, tables_with}
use Rattle.mem_txn.specs.inner.VersionTables.{AreAllWithin, HasChanged, StandFor, schemas_of, standing, state_of, trees_of}
use Rattle.mem_txn.specs.inner.Versions.{AreFew, Turned, Version}
use Rattle.mem_txn.proofs.ChangesTold.{told_changes}
use Rattle.mem_txn.proofs.StepAtPlace.{planted_starts}
use Rattle.mem_txn.proofs.EmptyTables.{tables_with-parts}
use Rattle.mem_txn.proofs.EndedTables.{made_held}

-- ---- writes leave as many tables as there were

step_count : (schema : DbSchema) (s : State) (name : Bytes) (change : Table → Tested Changed) → length (state_or s (step_in schema s name change)) ≡ length s
step_count schema s name change = of (table_at schema s name)
  where
    changed : (place : ℕ) (r : Tested Changed) → length (state_or s (r >>= (λ (c : Changed). Ok (slice_set s place c.0, c.1)))) ≡ length s
    changed place (Ok c) = length-set s place c.0
    changed place (Err why) = refl

    of : (o : Option Table) → length (state_or s (needed unknown_table o >>= (λ (t : Table). change t >>= (λ (c : Changed). Ok (slice_set s t.place c.0, c.1))))) ≡ length s
    of (Some t) = changed t.place (change t)
    of None = refl

writes_count : (schema : DbSchema) (s : State) (ws : List Write) → length (after_writes schema s ws) ≡ length s
writes_count schema s [] = refl
writes_count schema s (put name row ∷ ws) =
    writes_count schema (state_or s (step schema s (put name row))) ws ∙ step_count schema s name (λ (t : Table). put_row t.schema row t.rows)
writes_count schema s (remove name row ∷ ws) =
    writes_count schema (state_or s (step schema s (remove name row))) ws ∙ step_count schema s name (λ (t : Table). remove_row t.schema row t.rows)

-- ---- tables by their parts

-- each table that changes end with is a step from the one that they began with
module _ (first : ℕ) (rows : Bytes → List Fields) where
  abbrev Changed_so : TableChange → Type 0
  Changed_so t = HasChanged first (rows t.schema.name) t

  made_steps : (ts : List TableChange) (s : State) → length s ≡ length ts → All HoldsRows (tables_with (schemas_of (map standing ts)) s (starts_of ts)) → All Changed_so ts → AreMade ts (map standing ts)
      → AreTableSteps first rows (tables_with (schemas_of (map standing ts)) s (starts_of ts)) (map standing ts)
  made_steps [] [] count held changed made = tt
  made_steps [] (r ∷ s) count held changed made = cc
  made_steps (t ∷ ts) [] count held changed made = cc
  made_steps (t ∷ ts) (r ∷ s) count held changed made =
      let was : TableRows = record { schema = t.schema; rows = r; trees = t.start } in
      let others = tables_with (schemas_of (map standing ts)) s (starts_of ts) in
      let so = All-head Changed_so t ts changed in
      let one : IsMade t (standing t) = made.0 in (
        record {
          questions = one.questions was refl refl (All-head HoldsRows was others held).rows;
          kept = one.kept (rows t.schema.name) so.written;
          opened = so.opened;
        },
        made_steps ts s (omega (arith, count)) (All-tail HoldsRows was others held) (All-tail Changed_so t ts changed) made.1,
      )

-- ---- the next value

module _ (writes : List Write) (spoiled : Bool) (turn : Turned) (ids : Counter) (counted : AreCounted turn (length writes) ids) (base : IsBase turn) (tables : List TableChange) where
  abbrev p : Caller
  p = turn.caller

  abbrev old : DbTxn
  old = record { caller = p; writes = writes; spoiled = spoiled }

  abbrev news : List TableRows
  news = map standing tables

  module _ (stand : StandFor tables p.schema (present old)) (since : AreSince turn writes tables) (made : AreMade tables news) where
    count : length (state_seen p) ≡ length tables
    count =
        sym (writes_count p.schema (state_seen p) writes)
        ∙ ap length (sym stand.rows)
        ∙ length-map news (λ (t : TableRows). t.rows)
        ∙ length-map tables standing

    -- the tables of the last value, by those with which the changes began
    base_is : tables_of turn.base ≡ tables_with (schemas_of news) (state_seen p) (starts_of tables)
    base_is k =
        tables_with ((ap (λ (v : View). v.schema) base.view ∙ sym stand.schemas) k) (ap (λ (v : View). v.state) base.view k) (sym since.starts k)

    steps : AreTableSteps turn.base.ids.next (rows_written turn.base.view.schema turn.base.view.state writes) (tables_of turn.base) news
    steps =
        let rows = rows_written p.schema (state_seen p) writes in
        let same : rows ≡ rows_written turn.base.view.schema turn.base.view.state writes = sym (ap (λ (v : View). rows_written v.schema v.state writes) base.view) in
        let before = tables_with (schemas_of news) (state_seen p) (starts_of tables) in
        subst (λ (r : Bytes → List Fields). AreTableSteps turn.base.ids.next r (tables_of turn.base) news) same
        (subst (λ (ts : List TableRows). AreTableSteps turn.base.ids.next rows ts news) (sym base_is)
        (made_steps turn.base.ids.next rows tables (state_seen p) count (subst (All HoldsRows) base_is base.held) since.changed made))

    -- the changes of tracked tables are those to the present state
    changes_told : (cs : List Change) → AreTold 0 tables cs → cs ≡ changes p.schema (state_seen p) (present old)
    changes_told cs told =
        told_changes 0 tables (state_seen p) cs count (subst (All HoldsRows) base_is base.held) told
        ∙ (λ k. changes (stand.schemas k) (state_seen p) (stand.rows k))

  pub makes_next : (number : ℕ) → number ≡ length p.seen → StandFor tables p.schema (present old) → AreSince turn writes tables → (gone : List (List (List Cell))) → EndWith tables news gone
      → (cs : List Change) → AreTold 0 tables cs → (v : Version)
      → v ≡ record { view = record { schema = p.schema; number = number + 1; state = state_of news }; trees = trees_of news; writes = writes; ids = ids } → AreAllWithin ids v.trees → IsNextOf old turn v gone cs
  makes_next number counts stand since gone ends cs told v is within =
      let mine : v.writes ≡ writes = ap (λ (x : Version). x.writes) is in
      let theirs : v.ids ≡ ids = ap (λ (x : Version). x.ids) is in
      let trees : v.trees ≡ trees_of news = ap (λ (x : Version). x.trees) is in
      let state : state_of news ≡ after_writes p.schema (state_seen p) v.writes = stand.rows ∙ ap (after_writes p.schema (state_seen p)) (sym mine) in
      let same : tables_of v ≡ news =
      ap tables_of is ∙ ap (λ (schema : DbSchema). tables_with schema (state_of news) (trees_of news)) (sym stand.schemas) ∙ tables_with-parts news in
      let step : AreTableSteps turn.base.ids.next (rows_written turn.base.view.schema turn.base.view.state v.writes) (tables_of turn.base) (tables_of v) =
      subst (λ (ts : List TableRows). AreTableSteps turn.base.ids.next (rows_written turn.base.view.schema turn.base.view.state v.writes) (tables_of turn.base) ts) (sym same)
      (subst (λ (ws : List Write). AreTableSteps turn.base.ids.next (rows_written turn.base.view.schema turn.base.view.state ws) (tables_of turn.base) news) (sym mine) (steps stand since ends.made)) in
      record {
        caller = refl;
        writes = mine;
        next = record {
          view = ap (λ (x : Version). x.view) is ∙ (λ i. let r : View = record { schema = p.schema; number = counts i + 1; state = state i } in r);
          within = subst (λ (i : Counter). AreAllWithin i v.trees) (sym theirs) within;
          held = subst (All HoldsRows) (sym same) (made_held tables news ends.made);
          step = record {
            tables = step;
            book = ap (λ (i : Counter). i.book) theirs ∙ counted.book;
            later = subst (λ (i : Counter). turn.base.ids.next ≤ i.next) (sym theirs) counted.later;
            planted = planted_starts tables turn.base.trees p.schema since.starts stand.schemas ∙ ap (λ (v : View). length v.schema) (sym base.view);
            planted_now =
                ap length trees
                ∙ length-map news (λ (t : TableRows). t.trees)
                ∙ sym (length-map news (λ (t : TableRows). t.schema))
                ∙ ap length stand.schemas
                ∙ ap (λ (x : Version). length x.view.schema) (sym is);
          };
          few = subst (λ (i : Counter). AreFew (writes_in p.seen + length v.writes) i) (sym theirs) (subst (λ (ws : List Write). AreFew (writes_in p.seen + length ws) ids) (sym mine) counted.few);
        };
        told =
            subst (λ (f : Forest). AreGone f v.trees (cells_told gone)) since.starts
            (subst (λ (f : Forest). AreGone (starts_of tables) f (cells_told gone)) (sym trees) ends.told);
        tracked = changes_told stand since ends.made cs told;
      }
