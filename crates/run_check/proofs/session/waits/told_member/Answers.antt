use Rattle.std.proofs.Common.{◌≡◌, ◌∙◌, ap, sym, codes, Some, option_map}
use Rattle.std.specs.Borrow.{Bor}
use Rattle.mdb_datum.specs.Bytes.{Bytes}
use Rattle.run_check.specs.TextLines.{behind}
use Rattle.run_check.proofs.FirstNames.{woken_within}
use Rattle.run_check.proofs.MembersTold.{member_tells}
use Rattle.run_check.proofs.session.waits.told_member.Goals as goal

pub returns-clause-told : goal.returns-clause-told
returns-clause-told c = λ schema H txns s sound there.
    let v = c.args.knows.now in
    let watches = v.watching.watches in
    let rest = c.in_ok-rest.rest.now in
    let begins : behind (codes "fired ") c.args.text.now ≡ Some rest = sym c.behind.ensures ∙ ap (option_map (λ (x : Bor Bytes). x.now)) c.in_ok-rest.was in
    member_tells schema H txns v sound (watches.paired ∙ watches.values.ok.0) c.args.set s there c.args.text.now rest begins c.member_named.result c.member_named.ensures

pub returns-clause-within : goal.returns-clause-within
returns-clause-within c = λ s there.
    woken_within c.args.knows.now.watching.watches.names c.in_ok-rest.rest.now s.members.items c.member_named.result (c.member_named.ensures s there)
