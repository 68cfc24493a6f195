-- The text is that of the object's tokens, and the text of a canonical object reads as that object.
use Rattle.std.proofs.Common.{◌≡◌, [], ◌++◌, ap, ◌∙◌, rules, subst}
use Rattle.json.specs.Print.{print}
use Rattle.mdb_datum.specs.Doc.{object, field_list}
use Rattle.mdb_datum.specs.Reading.{reading}
use Rattle.mdb_datum.specs.Row.{IsCanonicalRow}
use Rattle.mdb_datum.specs.inner.Tokens.{doc_tokens}
use Rattle.mdb_datum.proofs.RoundTrip.{reading-compact}
use Rattle.mdb_datum.proofs.TokenText.{print_doc_tokens}
use Rattle.mdb_datum.proofs.write.write_members.Goals as goal

pub returns : goal.returns
returns c =
    let d = object (field_list c.args.members.now) in
    let none : c.put_members.new.out.before ≡ [] = search rules in
    let all : c.put_members.new.out.tokens ≡ doc_tokens d = search rules in
    let text = c.into_inner.ensures.items ∙ ap (λ b. b ++ print c.put_members.new.out.tokens) none ∙ ap print all ∙ print_doc_tokens d in
    record { text = text; reads_back = ap reading text ∙ reading-compact d (subst IsCanonicalRow c.members.view_is c.members.invariant) }
