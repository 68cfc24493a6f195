use Rattle.mdb_encode.specs.Kind.{indexers_of, part_list}
use Rattle.mdb_encode.proofs.Exact.{joined_answer_exact}
use Rattle.mdb_encode.proofs.arg.compound.compound_exact.Goals as goal

pub returns-clause-exact : goal.returns-clause-exact
returns-clause-exact c =
    joined_answer_exact (part_list (indexers_of c.args.parts.now)) c.args.args.now c.compound_arg.result c.compound_arg.ensures
