use Rattle.std.proofs.Common.{◌≡◌, ap, refl, subst, sym, ◌∙◌, option_map, None, Some}
use Rattle.std.specs.Borrow.{Bor}
use Rattle.mdb_datum.specs.Bytes.{Bytes}
use Rattle.run_check.specs.TextLines.{behind}
use Rattle.run_check.specs.inner.FirstNamed.{TellsAt}
use Rattle.run_check.proofs.FirstNames.{named_here, unnamed_absent, unnamed_here, unnamed_other}
use Rattle.run_check.proofs.member.woken_at.Goals as goal

pub returns-in_err-name : goal.returns-in_err-name
returns-in_err-name c =
    let names = c.args.names.now in
    let text = c.args.text.now in
    subst (TellsAt names text c.args.member c.args.place) (sym c.from_residual.ensures)
    (unnamed_absent names text c.args.place (sym c.at.ensures ∙ ap (option_map (λ (x : Bor Bytes). x.now)) c.in_err-name.was))

pub returns-in_err-rest : goal.returns-in_err-rest
returns-in_err-rest c =
    let names = c.args.names.now in
    let text = c.args.text.now in
    let name = c.in_ok-name.name.now in
    let there = sym c.at.ensures ∙ ap (option_map (λ (x : Bor Bytes). x.now)) c.in_ok-name.was in
    let same : c.as_bytes.result.now ≡ name = c.as_bytes.ensures.value ∙ c.as_str.ensures in
    let none : behind name text ≡ None = ap (λ (n : Bytes). behind n text) (sym same) ∙ sym c.behind.ensures ∙ ap (option_map (λ (x : Bor Bytes). x.now)) c.in_err-rest.was in
    subst (TellsAt names text c.args.member c.args.place) (sym c.from_residual-in_err-rest.ensures)
    (unnamed_other names text c.args.place name there none)

pub returns-then-is_some : goal.returns-then-is_some
returns-then-is_some c =
    let names = c.args.names.now in
    let text = c.args.text.now in
    let name = c.in_ok-name.name.now in
    let rest = c.in_ok-rest.rest.now in
    let there = sym c.at.ensures ∙ ap (option_map (λ (x : Bor Bytes). x.now)) c.in_ok-name.was in
    let same : c.as_bytes.result.now ≡ name = c.as_bytes.ensures.value ∙ c.as_str.ensures in
    let back : behind name text ≡ Some rest = ap (λ (n : Bytes). behind n text) (sym same) ∙ sym c.behind.ensures ∙ ap (option_map (λ (x : Bor Bytes). x.now)) c.in_ok-rest.was in
    (refl, there, back, named_here names text c.args.place name there rest back c.behind-2.result c.behind-2.ensures c.is_some.result c.is_some.ensures c.if-is_some.true)

pub returns-else-is_some : goal.returns-else-is_some
returns-else-is_some c =
    let names = c.args.names.now in
    let text = c.args.text.now in
    let name = c.in_ok-name.name.now in
    let rest = c.in_ok-rest.rest.now in
    let there = sym c.at.ensures ∙ ap (option_map (λ (x : Bor Bytes). x.now)) c.in_ok-name.was in
    let same : c.as_bytes.result.now ≡ name = c.as_bytes.ensures.value ∙ c.as_str.ensures in
    let back : behind name text ≡ Some rest = ap (λ (n : Bytes). behind n text) (sym same) ∙ sym c.behind.ensures ∙ ap (option_map (λ (x : Bor Bytes). x.now)) c.in_ok-rest.was in
    unnamed_here names text c.args.place name there rest back c.behind-2.result c.behind-2.ensures c.is_some.result c.is_some.ensures c.if-is_some.false
