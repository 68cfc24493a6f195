use Rattle.std.proofs.Common.{map, ◌∷◌, []}
use Rattle.mdb_schema.specs.State.{id_key}
use Rattle.radix_txn.specs.Txn.{txn_pairs}
use Rattle.table_index.specs.inner.Drawn.{ids_of_row}
use Rattle.table_index.specs.inner.Wipes.{is_there}
use Rattle.table_index.proofs.DrawnIds.{none_drawn}
use Rattle.table_index.specs.Written.{IsKeyOf}
use Rattle.table_index.specs.inner.Writes.{InIndex}
use Rattle.table_index.proofs.WrittenTrees.{trees_none}
use Rattle.table_index.proofs.listed.take_listed.Goals as goal

pub returns-in_err-id-clause-drawn : goal.returns-in_err-id-clause-drawn
returns-in_err-id-clause-drawn c = none_drawn c.args.front.now (ids_of_row (is_there c.args.def.now c.args.cut (id_key c.args.def.now c.args.row.now) (map txn_pairs c.args.txns.now))) c.args.ids.now c.args.txns.now c.requires.ready.within

pub returns-then-not-is_there-clause-drawn : goal.returns-then-not-is_there-clause-drawn
returns-then-not-is_there-clause-drawn c = none_drawn c.args.front.now (ids_of_row (is_there c.args.def.now c.args.cut (id_key c.args.def.now c.args.row.now) (map txn_pairs c.args.txns.now))) c.args.ids.now c.args.txns.now c.requires.ready.within

pub returns-then-not-is_there-clause-written : goal.returns-then-not-is_there-clause-written
returns-then-not-is_there-clause-written c = trees_none (InIndex (IsKeyOf c.args.def.now (c.args.row.now ∷ [])) c.args.def.now.indexes) c.args.txns.now
