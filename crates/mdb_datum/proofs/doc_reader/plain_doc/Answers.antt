use Rattle.std.proofs.Common.{◌≡◌, ◌∙◌, [], Some, sym, ap, rules}
use Rattle.json.specs.Lex.{tokens}
use Rattle.mdb_datum.specs.Datum.{doc_of}
use Rattle.mdb_datum.specs.inner.Plain.{next_doc}
use Rattle.mdb_datum.proofs.NextDoc.{reading-next_doc}
use Rattle.mdb_datum.proofs.doc_reader.plain_doc.Goals as goal

pub returns-clause-ok : goal.returns-clause-ok
returns-clause-ok c =
    let bytes = c.args.bytes.now in
    let d = doc_of c.in_ok-document.document in
    let text = c.in-Ok.ensures.cases in
    let made = c.in_ok-document.ensures in
    let begins : c.in_ok-reader.reader ≡ tokens bytes = c.in_ok-reader.ensures.ok ∙ ap tokens text.0 in
    let none : c.plain_value.new.reader ≡ [] = search rules in
    reading-next_doc bytes d text.1 (ap (next_doc 127) (sym begins) ∙ made.ok ∙ ap (λ r. Some (d, r)) none) made.shallow
