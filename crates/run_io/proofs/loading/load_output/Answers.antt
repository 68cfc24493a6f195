-- Where a cause is there, its answer comes.
use Rattle.run_io.specs.Observed.{observed, output_limit}
use Rattle.run_io.proofs.OneFile.{file_called}
use Rattle.run_io.proofs.loading.load_output.Goals as goal

pub returns-clause-comes : goal.returns-clause-comes
returns-clause-comes g c =
    let seen = observed (g.F.Files.told c.args.files.now) (g.F.Files.reliable c.args.files.now) (g.F.Files.faults c.args.files.now) (g.F.Files.faults c.read_file.new.files) in
    λ plain answer cause. file_called output_limit seen c.args.name.now plain c.read_file.result answer c.read_file.ensures.loads cause
