use Rattle.std.proofs.Common.{rules, ◌≡◌, ◌+◌, ◌∙◌, ap, sym, length, codes}
use Rattle.run_check.specs.declared.session.Sessions.{Sessions}
use Rattle.run_check.proofs.KnownKept.{begin_keeps}
use Rattle.run_check.proofs.LinesTold.{begin_says, begin_says_none}
use Rattle.run_check.proofs.session.Sessions.begin.Goals as goal

pub returns-in_ok-self-in-Some-clause-told : goal.returns-in_ok-self-in-Some-clause-told
returns-in_ok-self-in-Some-clause-told c = λ schema H txns client knows small some.
    let v = c.args.knows.now in
    let said = c.in_ok-number.ensures in
    begin_says schema H txns client small v knows.sound (sym c.is_closed.ensures ∙ c.if-not-is_closed.false) c.args.text.now c.args.self.now.text.items c.say_number.new.self.text.items (length c.args.self.now.order.now) knows.counted c.in-Some.number _ c.begin.result c.in_ok-number.field-0 c.say_number.new.knows c.in-Some.is c.begin.ensures.number c.begin.ensures.own c.begin.ensures.texts said.said said.knows

pub returns-in-None-clause-told : goal.returns-in-None-clause-told
returns-in-None-clause-told c = λ schema H txns client knows small some.
    let v = c.args.knows.now in
    let said = c.in_ok-number.ensures in
    begin_says_none schema H txns client small v knows.sound (sym c.is_closed.ensures ∙ c.if-not-is_closed.false) c.args.text.now c.args.self.now.text.items c.say_number.new.self.text.items (length c.args.self.now.order.now) knows.counted some c.in_ok-number.field-0 c.say_number.new.knows c.in-None.is said.said said.knows

pub returns-in_ok-self-in-Some-clause-keeps : goal.returns-in_ok-self-in-Some-clause-keeps
returns-in_ok-self-in-Some-clause-keeps c = λ schema H txns k.
    let s = c.args.self.now in
    let v = c.args.knows.now in
    let said = c.in_ok-number.ensures in
    let begun = c.in_ok-self-in-Some.field-0 in
    let with_begun : Sessions → Sessions = λ x. record x { begun = begun } in
    let next : begun ≡ s.begun + 1 = search (rules) in
    begin_keeps schema H txns s (with_begun c.say_number.new.self) v c.say_number.new.knows k (codes "write @") c.args.text.now s.text.items c.say_number.new.self.text.items c.in-Some.number c.in_ok-number.field-0 c.in-Some.is said.said said.knows (ap with_begun said.kept) (sym c.is_closed.ensures ∙ c.if-not-is_closed.false) c.begin.result c.begin.ensures.number c.begin.ensures.own c.begin.ensures.changed next
