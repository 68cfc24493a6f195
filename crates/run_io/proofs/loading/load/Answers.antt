-- Where a cause is there, its answer comes.
use Rattle.std.proofs.Common.{◌∷◌, List, Err, subst}
use Rattle.std.proofs.lemmas.Result.{err_from_is_err_and}
use Rattle.mdb_datum.specs.Bytes.{Bytes}
use Rattle.run_io.specs.Loads.{Loads}
use Rattle.run_io.specs.Observed.{observed}
use Rattle.run_io.specs.inner.ContentsOf.{contents_of, bytes_in}
use Rattle.run_io.specs.inner.Reading.{Reads}
use Rattle.run_io.specs.Observed.{AreWhole}
use Rattle.run_io.proofs.Exclusion.{load_called}
use Rattle.run_io.proofs.LoadAnswers.{read_loads, unread_loads}
use Rattle.run_io.proofs.loading.load.Goals as goal

pub returns-in_err-contents-clause-comes : goal.returns-in_err-contents-clause-comes
returns-in_err-contents-clause-comes g c =
    let seen = observed (g.F.Files.told c.args.files.now) (g.F.Files.reliable c.args.files.now) (g.F.Files.faults c.args.files.now) (g.F.Files.faults c.read_contents.new.files) in
    let names = c.args.schema.now ∷ c.args.clients.now in
    let e = c.in_err-contents.field-0.0 in
    let p = err_from_is_err_and c.from_residual.result c.from_residual.ensures.1 in
    let read : Reads contents_of seen 0 names (Err e) = subst (λ (cs : List Bytes). Reads contents_of seen 0 (c.args.schema.now ∷ cs) (Err e)) c.as_slice.ensures.texts c.in_err-contents.ensures.reads in
    let loads : Loads seen names c.from_residual.result = rw (p.1, p.2) (unread_loads contents_of seen names e read) in
    λ plain answer cause. load_called seen names plain c.from_residual.result answer loads cause

pub returns-clause-comes : goal.returns-clause-comes
returns-clause-comes g c =
    let seen = observed (g.F.Files.told c.args.files.now) (g.F.Files.reliable c.args.files.now) (g.F.Files.faults c.args.files.now) (g.F.Files.faults c.read_contents.new.files) in
    let names = c.args.schema.now ∷ c.args.clients.now in
    let contents = c.in_ok-contents.contents in
    let read = c.in_ok-contents.ensures.reads in
    let whole : AreWhole seen.told names (contents_of contents) = subst (λ (cs : List Bytes). AreWhole seen.told (c.args.schema.now ∷ cs) (contents_of contents)) c.as_slice.ensures.texts read.1 in
    let loads : Loads seen names c.read_inputs.result = read_loads seen names contents.schema.items (bytes_in contents.clients.items) c.read_inputs.result read.0 whole c.read_inputs.ensures in
    λ plain answer cause. load_called seen names plain c.read_inputs.result answer loads cause
