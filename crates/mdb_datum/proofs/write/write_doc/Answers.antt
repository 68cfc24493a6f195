use Rattle.std.proofs.Common.{◌≡◌, [], ◌++◌, ap, ◌∙◌, rules}
use Rattle.json.specs.Print.{print}
use Rattle.mdb_datum.specs.Datum.{doc_of}
use Rattle.mdb_datum.specs.inner.Tokens.{doc_tokens}
use Rattle.mdb_datum.specs.Reading.{reading}
use Rattle.mdb_datum.proofs.RoundTrip.{reading-compact}
use Rattle.mdb_datum.proofs.TokenText.{print_doc_tokens}
use Rattle.mdb_datum.proofs.write.write_doc.Goals as goal

pub returns : goal.returns
returns c =
    let d = doc_of c.args.document.now in
    let none : c.put.new.out.before ≡ [] = search rules in
    let all : c.put.new.out.tokens ≡ doc_tokens d = search rules in
    let text = c.into_inner.ensures.items ∙ ap (λ b. b ++ print c.put.new.out.tokens) none ∙ ap print all ∙ print_doc_tokens d in
    record { text = text; reads_back = λ canonical. ap reading text ∙ reading-compact d canonical }
