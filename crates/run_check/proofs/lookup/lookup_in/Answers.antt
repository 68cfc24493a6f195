use Rattle.std.proofs.Common.{◌≡◌, ◌∙◌, ℕ, sym, ap, refl}
use Rattle.mdb_datum.specs.Bytes.{Bytes}
use Rattle.mdb_schema.specs.Answer.{key_asked, lookup_of, own_name}
use Rattle.mdb_schema.specs.Schema.{index_place}
use Rattle.mdb_schema.proofs.AskedKeys.{lookup_found, lookup_refused}
use Rattle.mdb_schema.proofs.LookupTests.{all_passed, by_key}
use Rattle.std.specs.declared.alloc.Global.{Global}
use Rattle.std.specs.declared.vec.Vec.{Vec}
use Rattle.run_check.specs.inner.LookupView.{IsLookupIn}
use Rattle.run_check.proofs.lookup.lookup_in.Goals as goal
use Rattle.run_check.proofs.lookup.lookup_in.Goals.{After-is_exact-exact}

abbrev IsKey : Bytes → Vec ℕ Global → Type 0
IsKey k key = key.items ≡ k

-- the four tests are passed
passed : (c : After-is_exact-exact) → lookup_of c.args.def.now (record c.args.query.now { ask = c.args.ask }) ≡ by_key c.in-Some.place c.in-Some-index.index.now (key_asked c.in-Some-index.index.now c.args.query.now c.args.query.now.args)
passed c =
    let t = c.args.def.now in
    let asked = c.args.query.now in
    let name = c.own_name.ensures ∙ ap own_name (c.as_str.ensures ∙ c.index.ensures) in
    let placed = sym (c.in-Some.ensures ∙ ap (λ (n : Bytes). index_place n t.indexes) name) in
    all_passed t c.args.ask asked c.in-Some.place c.in-Some-index.index.now (sym c.may_name.ensures ∙ c.if-not-may_name.false) placed (sym c.in-Some-index.ensures.found) (sym c.may_ask.ensures ∙ c.if-not-may_ask.false) (sym c.has_enough.ensures ∙ c.if-not-has_enough.false)

pub returns-in-Ok : goal.returns-in-Ok
returns-in-Ok c =
    let t = c.args.def.now in
    let asked = c.args.query.now in
    let q = record asked { ask = c.args.ask } in
    lookup_found IsKey (IsLookupIn c.args.table q) c.in-Some.place c.in-Some-index.index.now (lookup_of t q) (key_asked c.in-Some-index.index.now asked asked.args) c.in-Ok.key
    (record { table = c.args.table; index = c.in-Some.place; exact = c.is_exact-exact.result; key = c.in-Ok.key })
    (passed (goal.at.returns-in-Ok c).After-is_exact-exact)
    (λ key same. record { table = refl; place = refl; exact = c.is_exact-exact.ensures; key = same })
    c.in-Ok.ensures

pub returns-in-Err : goal.returns-in-Err
returns-in-Err c =
    let asked = c.args.query.now in
    let q = record asked { ask = c.args.ask } in
    lookup_refused IsKey (IsLookupIn c.args.table q) c.in-Some.place c.in-Some-index.index.now (lookup_of c.args.def.now q) (key_asked c.in-Some-index.index.now asked asked.args) c.in-Err.error
    (passed (goal.at.returns-in-Err c).After-is_exact-exact)
    c.in-Err.ensures
