use Rattle.std.proofs.Common.{◌≡◌, rules, subst, sym}
use Rattle.std.specs.Arc.{arc_value}
use Rattle.mem_txn.specs.inner.VersionTables.{AreAllWithin}
use Rattle.mem_txn.specs.inner.Versions.{Version}
use Rattle.mem_txn.proofs.read_txn.ReadTxn.snapshot.Goals as goal

pub invariant_of-result : goal.invariant_of-result
invariant_of-result c =
    let same : arc_value c.in_ok-try_clone.field-0 ≡ arc_value c.self.inside.version = search rules in
    subst (λ (v : Version). AreAllWithin v.ids v.trees) (sym same) c.self.invariant
