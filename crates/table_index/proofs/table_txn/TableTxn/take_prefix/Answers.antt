use Rattle.std.proofs.Common.{◌*◌, ◌^◌}
use Rattle.mdb_schema.specs.Wipe.{wiped_rows_by_prefix}
use Rattle.table_index.specs.Table.{rows_asked}
use Rattle.table_index.proofs.Changes.{no_cells_drawn}
use Rattle.table_index.proofs.table_txn.TableTxn.take_prefix.Goals as goal

pub returns-in_err-check_prefix_name-clause-drawn : goal.returns-in_err-check_prefix_name-clause-drawn
returns-in_err-check_prefix_name-clause-drawn c =
    no_cells_drawn c.args.front.now (2 ^ 26 * rows_asked (wiped_rows_by_prefix c.args.self.now.schema c.args.self.now.rows c.args.query.now)) c.args.ids.now c.args.self.now c.requires.ready
