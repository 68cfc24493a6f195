use Rattle.std.proofs.Common.{map, subst}
use Rattle.std.specs.Arc.{arc_value}
use Rattle.mem_txn.specs.inner.VersionTables.{AreAllWithin, Tables, trees_of}
use Rattle.mem_txn.proofs.IdsCounted.{standing_within}
use Rattle.mem_txn.proofs.txn_tables.TxnTables.freeze.Goals as goal

pub returns-clause-within : goal.returns-clause-within
returns-clause-within c =
    let t = c.self.inside in
    let frozen = c.in_ok-frozen.frozen in
    subst (λ (o : Tables). AreAllWithin o.ids (trees_of (map arc_value frozen.tables.items))) c.self.view_is
    (standing_within t.ids t.tables.items (map arc_value frozen.tables.items) c.in_ok-frozen.ensures.tables c.self.invariant c.in_ok-frozen.ensures.ends.made)
