-- What a run has written is legal, so no check refuses it.
use Rattle.std.proofs.Common.{◌≡◌, ◌∙◌, ap, subst, sym, List}
use Rattle.client_script.specs.Legal.{Legal}
use Rattle.client_script.specs.declared.line.Line.{Line}
use Rattle.mdb_datum.specs.Bytes.{Bytes}
use Rattle.mdb_schema.specs.Schema.{DbSchema}
use Rattle.memdb.specs.RunsPass.{RunsPass}
use Rattle.run_io.specs.declared.inputs.Inputs.{Inputs}

pub runs_pass : RunsPass
runs_pass command checks ran seen output told run bad inputs names same =
    let files = bad.of.lawful.files.inputs.clients in
    let by_inputs : Legal bad.of.lawful.inputs.schema run.named.clients bad.of.lawful.inputs.scripts output = subst (λ (i : Inputs). Legal i.schema run.named.clients i.scripts output) inputs run.holds in
    let by_names : Legal bad.of.lawful.inputs.schema files bad.of.lawful.inputs.scripts output = subst (λ (ns : List Bytes). Legal bad.of.lawful.inputs.schema ns bad.of.lawful.inputs.scripts output) names by_inputs in
    bad.not_legal (subst (Legal bad.of.lawful.inputs.schema files bad.of.lawful.inputs.scripts) same by_names)
