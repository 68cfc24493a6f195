use Rattle.std.proofs.Common.{◌≡◌, sym, ap, map, ◌∙◌, rules}
use Rattle.std.specs.List.{insert}
use Rattle.mdb_datum.specs.Datum.{doc_of, field_of}
use Rattle.mdb_datum.specs.inner.Plain.{IsPlaceOf}
use Rattle.mdb_datum.proofs.MemberPlaces.{map-insert}
use Rattle.mdb_datum.proofs.plain.put_member.Goals as goal

pub returns : goal.returns
returns c =
    let old = c.args.pairs.now.items in
    let at = c.in_ok-at.at in
    let place : IsPlaceOf c.args.name (map field_of old) at = search rules in
    let put : c.insert.new.self.items ≡ insert old at (c.args.name, c.args.value) = search rules in
    ap (map field_of) put ∙ map-insert field_of old at (c.args.name, c.args.value) ∙ sym (place.1 (doc_of c.args.value))
