use Rattle.std.proofs.Common.{◌≡◌, ◌∙◌, Option, sym, ap}
use Rattle.mdb_encode.specs.Bytes.{Bytes}
use Rattle.mdb_schema.specs.Answer.{Lookup, key_asked, lookup_of, own_name}
use Rattle.mdb_schema.specs.Schema.{index_place}
use Rattle.mdb_schema.proofs.AskedKeys.{lookup_found, lookup_refused}
use Rattle.mdb_schema.proofs.IndexPlaces.{index_there, place_within}
use Rattle.mdb_schema.proofs.LookupTests.{all_passed}
use Rattle.table_index.specs.inner.Lookups.{key_or_empty}
use Rattle.table_index.proofs.lookup.lookup.Goals as goal

pub unreachable-requires : goal.unreachable-requires
unreachable-requires c =
    index_there c.args.def.now.indexes c.in-Some.place (place_within _ c.args.def.now.indexes c.in-Some.place (sym c.in-Some.ensures))
    (sym c.in_default-index.ensures.found)

abbrev IsKey : Bytes → Option Bytes → Type 0
IsKey k found = key_or_empty found ≡ k

abbrev IsSame : Lookup → Lookup → Type 0
IsSame at l = l ≡ at

pub returns-in-Ok-clause-answers : goal.returns-in-Ok-clause-answers
returns-in-Ok-clause-answers c =
    let t = c.args.def.now in
    let asked = c.args.query.now in
    let place = c.in-Some.place in
    let i = c.in-Some-index.index.now in
    let of_key : Bytes → Lookup = λ key. record { place = place; index = i; key = key } in
    let name = c.own_name.ensures ∙ ap own_name (c.as_str.ensures ∙ c.index.ensures) in
    let placed = sym (c.in-Some.ensures ∙ ap (λ (n : Bytes). index_place n t.indexes) name) in
    lookup_found IsKey IsSame place i (lookup_of t (record asked { ask = c.args.ask })) (key_asked i asked asked.args) c.in-Ok.key (of_key (key_or_empty c.in-Ok.key))
    (all_passed t c.args.ask asked place i (sym c.if-not-may_name.ensures) placed (sym c.in-Some-index.ensures.found) (sym c.if-not-may_ask.ensures) (sym c.if-not-has_enough.ensures))
    (λ key same. ap of_key same) c.in-Ok.ensures.answers

pub returns-in-Err-clause-answers : goal.returns-in-Err-clause-answers
returns-in-Err-clause-answers c =
    let t = c.args.def.now in
    let asked = c.args.query.now in
    let place = c.in-Some.place in
    let i = c.in-Some-index.index.now in
    let name = c.own_name.ensures ∙ ap own_name (c.as_str.ensures ∙ c.index.ensures) in
    let placed = sym (c.in-Some.ensures ∙ ap (λ (n : Bytes). index_place n t.indexes) name) in
    lookup_refused IsKey IsSame place i (lookup_of t (record asked { ask = c.args.ask })) (key_asked i asked asked.args) c.in-Err.error
    (all_passed t c.args.ask asked place i (sym c.if-not-may_name.ensures) placed (sym c.in-Some-index.ensures.found) (sym c.if-not-may_ask.ensures) (sym c.if-not-has_enough.ensures))
    c.in-Err.ensures.answers
