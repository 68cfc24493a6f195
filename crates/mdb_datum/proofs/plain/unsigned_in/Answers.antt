use Rattle.std.proofs.Common.{ap, ◌∙◌}
use Rattle.fast_float.specs.Text.{scan}
use Rattle.mdb_datum.proofs.PlainNumbers.{unsigned_read}
use Rattle.mdb_datum.proofs.plain.unsigned_in.Goals as goal

pub returns : goal.returns
returns c = unsigned_read c.args.text.now c.scan.result c.to_u64.result c.requires (c.scan.ensures.parts ∙ ap scan c.as_bytes.ensures.value) c.to_u64.ensures
