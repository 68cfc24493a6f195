use Rattle.std.proofs.Common.{◌∙◌, map, sym, ap, arith}
use Rattle.std.specs.Arc.{arc_value}
use Rattle.mdb_schema.specs.Schema.{DbSchema}
use Rattle.mdb_schema.specs.State.{State}
use Rattle.mem_txn.specs.Database.{View}
use Rattle.mem_txn.specs.inner.VersionTables.{state_of}
use Rattle.mem_txn.proofs.EmptyTables.{held_parts}
use Rattle.mem_txn.proofs.view.View.empty.Goals as goal

pub invariant_of-result : goal.invariant_of-result
invariant_of-result c = record {
  schemas = c.in_ok-tables.ensures.tables.schemas ∙ sym c.in_ok-new.ensures.ok;
  few = omega arith;
}

pub returns-clause-view : goal.returns-clause-view
returns-clause-view c =
    ap (λ (s : DbSchema). let v : View = record { schema = s; number = 0; state = state_of (map arc_value c.in_ok-tables.tables.items) } in v) c.in_ok-new.ensures.ok
    ∙ ap (λ (s : State). let v : View = record { schema = c.args.schema; number = 0; state = s } in v) c.in_ok-tables.ensures.tables.state

pub returns-clause-held : goal.returns-clause-held
returns-clause-held c =
    let tables = c.in_ok-tables.ensures.tables in
    held_parts _ (map arc_value c.in_ok-tables.tables.items) (tables.schemas ∙ sym c.in_ok-new.ensures.ok) tables.held
