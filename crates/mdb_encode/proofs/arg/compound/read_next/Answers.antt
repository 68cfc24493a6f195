use Rattle.mdb_encode.specs.Kind.{indexers_of}
use Rattle.mdb_encode.proofs.Forms.{joined_form_at}
use Rattle.mdb_encode.proofs.arg.compound.read_next.Goals as goal

pub returns : goal.returns
returns c =
    λ so_far. joined_form_at c.args.is_prefix _ so_far (indexers_of c.args.parts.now) c.args.args.now c.args.at _ _ _ c.part.ensures c.item_at.ensures c.is_prefix_place-is_last.ensures c.read_form.ensures
