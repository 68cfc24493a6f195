use Rattle.std.proofs.Common.{ap, ◌∙◌, rules}
use Rattle.std.proofs.lemmas.Result.{err_from_is_err_and}
use Rattle.serde_json.specs.View.{view}
use Rattle.mdb_datum.specs.Reading.{or_not_whole}
use Rattle.mdb_datum.proofs.Readings.{reading-too_deep, reading-shallow}
use Rattle.mdb_datum.specs.Datum.{doc_of}
use Rattle.mdb_datum.proofs.Regular.{IsCanonical-whole_doc}
use Rattle.mdb_datum.proofs.read.read_doc.Goals as goal

pub returns-then-is_deeper-clause-deep : goal.returns-then-is_deeper-clause-deep
returns-then-is_deeper-clause-deep c _ =
    reading-too_deep c.args.bytes.now (view c.in_ok-value.value) c.in_ok-value.ensures.ok (search rules)

pub returns-in_err-datum_from-clause-not_whole : goal.returns-in_err-datum_from-clause-not_whole
returns-in_err-datum_from-clause-not_whole c e =
    let gives = err_from_is_err_and c.from_residual-in_err-datum_from.result c.from_residual-in_err-datum_from.ensures.1 in
    reading-shallow c.args.bytes.now (view c.in_ok-value.value) c.in_ok-value.ensures.ok (search rules) ∙ ap or_not_whole (c.in_err-datum_from.ensures.not_whole (cc))

pub returns-clause-ok : goal.returns-clause-ok
returns-clause-ok c =
    reading-shallow c.args.bytes.now (view c.in_ok-value.value) c.in_ok-value.ensures.ok (search rules) ∙ ap or_not_whole c.in_ok-datum_from.ensures.ok

pub returns-clause-canonical : goal.returns-clause-canonical
returns-clause-canonical c =
    let made = c.in_ok-datum_from.ensures in
    IsCanonical-whole_doc (view c.in_ok-value.value) (doc_of c.in_ok-datum_from.field-0) made.ok (search rules) made.regular
