-- What a list or an object holds nests less deep than itself.
use Rattle.std.specs.Prelude.{◌≤◌, max, List, [], ◌∷◌, map}
use Rattle.std.proofs.Common.{arith}
use Rattle.mdb_datum.specs.Canonical.{nesting, docs_nesting, fields_nesting}
use Rattle.mdb_datum.specs.Datum.{doc_of, field_of}
use Rattle.mdb_datum.specs.declared.datum.Datum.TheVariants as datum
use Rattle.mdb_datum.specs.declared.datum.Datum.{Datum}
use Rattle.mdb_datum.specs.declared.datum.Items.TheDeep.{deep-Datum}
use Rattle.mdb_datum.specs.declared.datum.Items.TheShapes.{weighed-Members-pairs-at-2}
use Rattle.mdb_datum.specs.declared.text.Text.{Text}
use denote.Param.Weighed.{most}

falls : (d : Datum) → deep-Datum d ≤ nesting (doc_of d)
falls datum.Nil = omega arith
falls (datum.Flag b) = omega arith
falls (datum.Whole z) = omega arith
falls (datum.Str s) = omega arith
falls (datum.Items ds) = omega arith
falls (datum.Members fs) = omega arith

pub items_fall : (ds : List Datum) → max (most deep-Datum ds) 0 ≤ docs_nesting (map doc_of ds)
items_fall [] = omega arith
items_fall (d ∷ ds) = omega (arith, falls d, items_fall ds)

pub members_fall : (ps : List (Text × Datum)) → max (most ((weighed-Members-pairs-at-2).weight Datum deep-Datum) ps) 0 ≤ fields_nesting (map field_of ps)
members_fall [] = omega arith
members_fall (p ∷ ps) = omega (arith, falls p.1, members_fall ps)
