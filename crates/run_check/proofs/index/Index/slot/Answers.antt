use Rattle.std.proofs.Common.{◌∙◌, ap}
use Rattle.std.specs.FinMap as finite
use Rattle.mdb_datum.specs.Bytes.{byte_order}
use Rattle.run_check.specs.inner.IndexView.{KeyVersions}
use Rattle.run_check.proofs.IndexLooks.{lookup-slots}
use Rattle.run_check.proofs.index.Index.slot.Goals as goal

pub returns-clause-found : goal.returns-clause-found
returns-clause-found c =
    c.get.ensures.value ∙ lookup-slots c.args.key.now _ ∙ ap (λ (x : KeyVersions). finite.find byte_order c.args.key.now x.slots) c.self.view_is
