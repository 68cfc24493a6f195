use Rattle.std.proofs.Common.{map, sym, subst}
use Rattle.std.specs.Arc.{arc_value}
use Rattle.mem_txn.specs.inner.VersionTables.{AreChangesWithin}
use Rattle.mem_txn.proofs.IdsCounted.{unwritten_within}
use Rattle.mem_txn.proofs.txn_tables.TxnTables.of.Goals as goal

pub invariant_of-result : goal.invariant_of-result
invariant_of-result c =
    subst (AreChangesWithin c.args.ids) (sym c.in_ok-tables.ensures.tables) (unwritten_within c.args.ids (map arc_value c.args.shared.now) c.requires.within)
