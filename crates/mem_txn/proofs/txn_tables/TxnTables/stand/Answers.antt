use Rattle.std.proofs.Common.{◌≡◌, length, sym, subst, rules}
use Rattle.mem_txn.specs.inner.VersionTables.{AreChangesWithin}
use Rattle.mem_txn.proofs.TablesFound.{lent_whole}
use Rattle.mem_txn.proofs.txn_tables.TxnTables.stand.Goals as goal

pub invariant_of-self : goal.invariant_of-self
invariant_of-self c =
    let items = c.self.inside.tables.items in
    let same : c.standing.new.tables ≡ items = cc in
    let count : c.self.inside.tables.len ≡ length items = search rules in
    subst (AreChangesWithin c.self.inside.ids) (sym (lent_whole items c.standing.new.tables c.self.inside.tables.len same count)) c.self.invariant
