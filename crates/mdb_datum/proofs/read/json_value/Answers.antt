use Rattle.std.proofs.Common.{arith}
use Rattle.std.proofs.lemmas.Grind.{common_steps}
use Rattle.mdb_datum.proofs.Readings.{reading-no_json}
use Rattle.mdb_datum.proofs.read.json_value.Goals as goal

pub returns-else-is_memory-clause-syntax : goal.returns-else-is_memory-clause-syntax
returns-else-is_memory-clause-syntax c _ =
    reading-no_json c.args.bytes.now (c.in-Err.ensures.err (λ m. grind (arith, common_steps)))
