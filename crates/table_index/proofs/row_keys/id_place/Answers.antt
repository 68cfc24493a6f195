use Rattle.std.proofs.Common.{◌∙◌, codes, sym}
use Rattle.mdb_schema.proofs.IndexPlaces.{place_within, no_id_index}
use Rattle.table_index.proofs.row_keys.id_place.Goals as goal

pub unreachable-requires : goal.unreachable-requires
unreachable-requires c = no_id_index c.args.def.now c.len.ensures.lawful (sym c.find.ensures ∙ c.in_default.is)

pub returns-clause-within : goal.returns-clause-within
returns-clause-within c = place_within (codes "id") c.args.def.now.indexes c.in-Some.place (sym c.in-Some.ensures)
