use Rattle.std.proofs.Common.{◌∙◌, map, sym}
use Rattle.radix_txn.specs.Txn.{txn_pairs}
use Rattle.table_index.specs.Written.{IsKeyOf}
use Rattle.table_index.specs.inner.Drawn.{ids_of_row}
use Rattle.table_index.specs.inner.Wipes.{is_next_there}
use Rattle.table_index.specs.inner.Writes.{InIndex}
use Rattle.table_index.proofs.DrawnIds.{none_drawn}
use Rattle.table_index.proofs.WrittenRows.{first_wrote}
use Rattle.table_index.proofs.WrittenTrees.{trees_none}
use Rattle.table_index.proofs.listed.move_next.Goals as goal

pub returns-in-None-clause-drawn : goal.returns-in-None-clause-drawn
returns-in-None-clause-drawn c =
    none_drawn c.args.front.now (ids_of_row (is_next_there c.args.def.now c.args.cut c.args.listed.now (map txn_pairs c.args.txns.now))) c.args.ids.now c.args.txns.now c.requires.ready.within

pub returns-in_err-row-clause-drawn : goal.returns-in_err-row-clause-drawn
returns-in_err-row-clause-drawn c =
    none_drawn c.args.front.now (ids_of_row (is_next_there c.args.def.now c.args.cut c.args.listed.now (map txn_pairs c.args.txns.now))) c.args.ids.now c.args.txns.now c.requires.ready.within

pub returns-in_ok-move_listed-in-Some-clause-written : goal.returns-in_ok-move_listed-in-Some-clause-written
returns-in_ok-move_listed-in-Some-clause-written c =
    first_wrote c.args.def.now c.args.listed.now c.in-Some.row (sym c.in_ok-row.ensures.next ∙ c.in-Some.is) c.args.txns.now c.move_listed.new.txns c.in_ok-move_listed-in-Some.ensures.written

pub returns-in-None-clause-written : goal.returns-in-None-clause-written
returns-in-None-clause-written c = trees_none (InIndex (IsKeyOf c.args.def.now c.args.listed.now) c.args.def.now.indexes) c.args.txns.now
