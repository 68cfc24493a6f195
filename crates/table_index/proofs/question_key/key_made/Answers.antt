use Rattle.mdb_encode.specs.Arguments.{raw_pre}
use Rattle.mdb_encode.specs.Kind.{indexer_of}
use Rattle.table_index.proofs.AskedKeys.{short_key}
use Rattle.table_index.proofs.question_key.key_made.Goals as goal

pub returns-then-is_prefix_name-clause-short : goal.returns-then-is_prefix_name-clause-short
returns-then-is_prefix_name-clause-short c = short_key (raw_pre (indexer_of c.kind.result.now) c.args-then-is_prefix_name.result.now) c.prefix_key.result c.prefix_key.ensures
