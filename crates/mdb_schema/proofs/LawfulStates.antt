-- Each step keeps a lawful state: every state of a history is lawful.
use Rattle.std.proofs.Common.{◌≡◌, ◌∙◌, ℕ, List, [], ◌∷◌, take, Option, Ok, Err, refl, subst}
use Rattle.mdb_datum.specs.Row.{Fields}
use Rattle.mdb_encode.specs.Bytes.{Bytes}
use Rattle.mdb_schema.specs.History.{History, state_or, after_writes, after_commits, state_at}
use Rattle.mdb_schema.specs.Schema.{DbSchema}
use Rattle.mdb_schema.specs.State.{State, Table, table_at, empty_state, AreLawfulRows, IsLawfulState}
use Rattle.mdb_schema.specs.Tests.{◌>>=◌, needed}
use Rattle.mdb_schema.specs.Write.{Write, put, remove, Tested, Changed, Stepped, unknown_table, put_row, remove_row, step_in, step}
use Rattle.mdb_schema.proofs.Chains.{passed_on}
use Rattle.mdb_schema.proofs.LawfulRows.{no_rows_lawful, put_keeps, remove_keeps}
use Rattle.mdb_schema.proofs.PassedTests.{needed_some, needed_on, goes_on}
use Rattle.mdb_schema.proofs.Tables.{IsTableAt, table_at-there, table_at-some, put_rows, table_rows_lawful, put_rows_lawful}

pub empty_lawful : (schema : DbSchema) → IsLawfulState schema (empty_state schema)
empty_lawful [] = tt
empty_lawful (t ∷ ts) = (no_rows_lawful t, empty_lawful ts)

-- ---- a step

-- what the step does: the change of the rows of a table
pub record IsStepIn (schema : DbSchema) (s : State) (name : Bytes) (f : Table → Tested Changed) (table : Table) (changed : Changed) : Type 0 where
  pub there : IsTableAt schema s name table
  pub change : f table ≡ Ok changed

abbrev written : State → Table → Changed → State × Option Fields
written s table changed = (put_rows s table changed.0, changed.1)

abbrev step_at : State → (Table → Tested Changed) → Table → Stepped
step_at s change table = change table >>= (λ changed. Ok (written s table changed))

pub step_in-ok : (schema : DbSchema) (s : State) (name : Bytes) (change : Table → Tested Changed) (p : State × Option Fields) → step_in schema s name change ≡ Ok p
    → (table : Table) × (changed : Changed) × IsStepIn schema s name change table changed × ((put_rows s table changed.0, changed.1) ≡ p)
step_in-ok schema s name change p e =
    let a = passed_on (needed unknown_table (table_at schema s name)) (step_at s change) p e in
    let b = passed_on (change a.0) (λ changed. Ok (written s a.0 changed)) p a.2 in
    let answer : written s a.0 b.0 ≡ p = let h = b.2 in cc in (
      a.0,
      b.0,
      record {
        there = table_at-there schema s name a.0 (needed_some unknown_table (table_at schema s name) a.0 a.1);
        change = b.1;
      },
      answer,
    )

pub step_in-from : (schema : DbSchema) (s : State) (name : Bytes) (change : Table → Tested Changed) (table : Table) (changed : Changed) → IsStepIn schema s name change table changed
    → step_in schema s name change ≡ Ok (put_rows s table changed.0, changed.1)
step_in-from schema s name change table changed is =
    needed_on unknown_table (table_at schema s name) (step_at s change) table (table_at-some schema s name table is.there)
    ∙ goes_on (change table) (λ c. Ok (written s table c)) changed is.change

step_in_keeps : (schema : DbSchema) (s : State) (name : Bytes) (change : Table → Tested Changed) (p : State × Option Fields)
    → ((table : Table) (c : Changed) → AreLawfulRows table.schema table.rows → change table ≡ Ok c → AreLawfulRows table.schema c.0)
    → IsLawfulState schema s → step_in schema s name change ≡ Ok p → IsLawfulState schema p.0
step_in_keeps schema s name change p keeps lawful e =
    let w = step_in-ok schema s name change p e in
    let rows = keeps w.0 w.1 (table_rows_lawful schema s name w.0 lawful w.2.there) w.2.change in
    subst (λ (q : State × Option Fields). IsLawfulState schema q.0) w.3 (put_rows_lawful schema s name w.0 w.1.0 lawful w.2.there rows)

pub step_keeps : (schema : DbSchema) (s : State) (w : Write) (p : State × Option Fields) → IsLawfulState schema s → step schema s w ≡ Ok p → IsLawfulState schema p.0
step_keeps schema s (put name row) p lawful e =
    step_in_keeps schema s name (λ (t : Table). put_row t.schema row t.rows) p (λ t c rows h. put_keeps t.schema row t.rows c rows h) lawful e
step_keeps schema s (remove name row) p lawful e =
    step_in_keeps schema s name (λ (t : Table). remove_row t.schema row t.rows) p (λ t c rows h. remove_keeps t.schema row t.rows c rows h) lawful e

-- ---- writes and commits

-- an accepted step makes its state, and a refused one changes nothing
pub state_or_keeps : (schema : DbSchema) (s : State) (w : Write) → IsLawfulState schema s → IsLawfulState schema (state_or s (step schema s w))
state_or_keeps schema s w lawful = of (step schema s w) refl
  where
    of : (r : Stepped) → step schema s w ≡ r → IsLawfulState schema (state_or s r)
    of (Ok p) e = step_keeps schema s w p lawful e
    of (Err r) e = lawful

-- ---- writes, one list after another

pub writes_keep : (schema : DbSchema) (s : State) (ws : List Write) → IsLawfulState schema s → IsLawfulState schema (after_writes schema s ws)
writes_keep schema s [] lawful = lawful
writes_keep schema s (w ∷ ws) lawful = writes_keep schema (state_or s (step schema s w)) ws (state_or_keeps schema s w lawful)

pub commits_keep : (schema : DbSchema) (s : State) (cs : History) → IsLawfulState schema s → IsLawfulState schema (after_commits schema s cs)
commits_keep schema s [] lawful = lawful
commits_keep schema s (c ∷ cs) lawful = commits_keep schema (after_writes schema s c.writes) cs (writes_keep schema s c.writes lawful)

pub state_at_lawful : (schema : DbSchema) (H : History) (n : ℕ) → IsLawfulState schema (state_at schema H n)
state_at_lawful schema H n = commits_keep schema (empty_state schema) (take n H) (empty_lawful schema)
