use Rattle.std.proofs.Common.{◌+◌, ◌*◌, ◌^◌, length, Contains}
use Rattle.mdb_datum.specs.Row.{Fields}
use Rattle.mdb_schema.specs.Wipe.{once}
use Rattle.table_index.specs.inner.Drawn.{HaveDrawn}
use Rattle.table_index.specs.inner.IndexTrees.{AreSound, nodes_of, rows_held}
use Rattle.table_index.specs.inner.Writes.{WroteRows}
use Rattle.table_index.proofs.WipeSteps.{Stands}
use Rattle.table_index.proofs.listed.wipe_standing.Given as goal

abbrev pub invariant-rows : goal.invariant-rows
invariant-rows l = record {
  sound : AreSound l.txns;
  stands : Stands l.def l.place l.key (rows_held l.def (nodes_of l.fn.txns)) l.initial.listed l.gone l.listed l.txns;
  drawn : HaveDrawn l.front (4096 * length (once l.def l.initial.listed) + 2 ^ 25 * length l.gone) l.fn.ids l.ids l.fn.txns l.txns;
  written : WroteRows l.def l.initial.listed l.fn.txns l.txns;
  rest : (r : Fields) → Contains l.listed r → Contains l.initial.listed r;
}

abbrev pub decreases-rows : goal.decreases-rows
decreases-rows l = length l.listed
