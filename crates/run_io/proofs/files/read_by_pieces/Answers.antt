-- The reading ends at a client's file, behind the schema's, which is whole.
use Rattle.std.proofs.Common.{Err}
use Rattle.std.proofs.lemmas.Result.{err_from_is_err_and}
use Rattle.run_io.specs.Observed.{observed}
use Rattle.run_io.specs.inner.ContentsOf.{contents_of}
use Rattle.run_io.specs.inner.Reading.{contents_in}
use Rattle.run_io.proofs.FilesInOrder.{reads_since, reads_later}
use Rattle.run_io.proofs.files.read_by_pieces.Goals as goal

pub returns-in_err-clients-clause-reads : goal.returns-in_err-clients-clause-reads
returns-in_err-clients-clause-reads g c =
    let e = c.in_err-clients.field-0.0 in
    let p = err_from_is_err_and c.from_residual-in_err-clients.result c.from_residual-in_err-clients.ensures.1 in
    let told = g.F.Files.told c.args.files.now in
    let reliable = g.F.Files.reliable c.args.files.now in
    let before = g.F.Files.faults c.args.files.now in
    let now = g.F.Files.faults c.read_clients.new.files in
    let read = c.in_ok-schema.ensures in
    let ends = reads_since contents_in told (g.F.Files.told c.read_numbered.new.files) reliable (g.F.Files.reliable c.read_numbered.new.files) before (g.F.Files.faults c.read_numbered.new.files) now 1 c.args.clients.now (Err e) read.stays.same_files read.stays.same_reliance read.reads.0 c.in_err-clients.ensures.reads in
    rw (p.1, p.2) (reads_later contents_in contents_of (observed told reliable before now) 0 c.args.clients.now c.args.schema.now c.in_ok-schema.schema.items e read.reads.1.0 ends)
