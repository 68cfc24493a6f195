use Rattle.std.proofs.Common.{◌≡◌, ◌∙◌, sym, subst, List}
use Rattle.mdb_datum.specs.Bytes.{Bytes}
use Rattle.run_io.specs.Arguments.{words_in}
use Rattle.run_io.specs.Observed.{observed}
use Rattle.session_loop.specs.Causes.{LoopCallsFor}
use Rattle.session_loop.proofs.Exclusion.{memory_comes}
use Rattle.session_loop.proofs.run_arguments.Goals as goal

pub returns-in-Ok-clause-comes : goal.returns-in-Ok-clause-comes
returns-in-Ok-clause-comes g c =
    let files = c.args.files.now in
    let seen = observed (g.F.Files.told files) (g.F.Files.reliable files) (g.F.Files.faults files) (g.F.Files.faults c.run_loop.new.files) in
    let words : c.deref.result.now ≡ words_in c.args.args = c.deref.ensures.value ∙ c.in-Ok.ensures in
    λ status cause. c.run_loop.ensures.comes status (subst (λ (ws : List Bytes). LoopCallsFor ws seen status) (sym words) cause)

pub returns-in-Err-clause-comes : goal.returns-in-Err-clause-comes
returns-in-Err-clause-comes g c = λ status cause. memory_comes status
