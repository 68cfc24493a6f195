use Rattle.std.proofs.Common.{◌∙◌, sym, length, codes}
use Rattle.run_check.proofs.KnownKept.{read_keeps}
use Rattle.run_check.proofs.LinesTold.{read_says, read_says_none}
use Rattle.run_check.proofs.session.Sessions.read.Goals as goal

pub returns-in-Some-clause-told : goal.returns-in-Some-clause-told
returns-in-Some-clause-told c = λ schema H txns client knows small some.
    let v = c.args.knows.now in
    let said = c.in_ok-number.ensures in
    read_says schema H txns client small v (sym c.is_closed.ensures ∙ c.if-not-is_closed.false) c.args.text.now c.args.self.now.text.items c.say_number.new.self.text.items (length c.args.self.now.order.now) knows.counted c.in-Some.number c.in_ok-number.field-0 c.say_number.new.knows c.in-Some.is said.said said.knows

pub returns-in-None-clause-told : goal.returns-in-None-clause-told
returns-in-None-clause-told c = λ schema H txns client knows small some.
    let v = c.args.knows.now in
    let said = c.in_ok-number.ensures in
    read_says_none schema H txns client small v (sym c.is_closed.ensures ∙ c.if-not-is_closed.false) c.args.text.now c.args.self.now.text.items c.say_number.new.self.text.items (length c.args.self.now.order.now) knows.counted some c.in_ok-number.field-0 c.say_number.new.knows c.in-None.is said.said said.knows

pub returns-in-Some-clause-keeps : goal.returns-in-Some-clause-keeps
returns-in-Some-clause-keeps c = λ schema H txns k.
    let s = c.args.self.now in
    let said = c.in_ok-number.ensures in
    read_keeps schema H txns s c.say_number.new.self c.args.knows.now c.say_number.new.knows k (codes "read @") c.args.text.now s.text.items c.say_number.new.self.text.items c.in-Some.number c.in_ok-number.field-0 c.in-Some.is said.said said.knows said.kept
