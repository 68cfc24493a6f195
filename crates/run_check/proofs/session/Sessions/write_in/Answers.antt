use Rattle.std.proofs.Common.{sym, subst}
use Rattle.client_script.specs.declared.command.WriteCommand.{WriteCommand}
use Rattle.run_check.specs.inner.WritingView.{TellsWrite, state_now, told_write}
use Rattle.run_check.proofs.session.Sessions.write_in.Goals as goal

pub returns-in-Insert-clause-told : goal.returns-in-Insert-clause-told
returns-in-Insert-clause-told c = λ schema H txns writing.
    let w = c.args.writing.now in
    subst (λ (l : WriteCommand). TellsWrite schema H txns (told_write schema (state_now schema H txns w.number w.own) l) w c.args.self.now.text.items c.insert.new.self c.insert.new.writing c.insert.result) (sym c.in-Insert.is) (c.insert.ensures.told schema H txns writing)

pub returns-in-Delete-clause-told : goal.returns-in-Delete-clause-told
returns-in-Delete-clause-told c = λ schema H txns writing.
    let w = c.args.writing.now in
    subst (λ (l : WriteCommand). TellsWrite schema H txns (told_write schema (state_now schema H txns w.number w.own) l) w c.args.self.now.text.items c.delete.new.self c.delete.new.writing c.delete.result) (sym c.in-Delete.is) (c.delete.ensures.told schema H txns writing)

pub returns-in-DeleteAll-clause-told : goal.returns-in-DeleteAll-clause-told
returns-in-DeleteAll-clause-told c = λ schema H txns writing.
    let w = c.args.writing.now in
    subst (λ (l : WriteCommand). TellsWrite schema H txns (told_write schema (state_now schema H txns w.number w.own) l) w c.args.self.now.text.items c.wipe.new.self c.wipe.new.writing c.wipe.result) (sym c.in-DeleteAll.is) (c.wipe.ensures.told schema H txns writing)

pub returns-in-DeletePrefix-clause-told : goal.returns-in-DeletePrefix-clause-told
returns-in-DeletePrefix-clause-told c = λ schema H txns writing.
    let w = c.args.writing.now in
    subst (λ (l : WriteCommand). TellsWrite schema H txns (told_write schema (state_now schema H txns w.number w.own) l) w c.args.self.now.text.items c.wipe_prefix.new.self c.wipe_prefix.new.writing c.wipe_prefix.result) (sym c.in-DeletePrefix.is) (c.wipe_prefix.ensures.told schema H txns writing)
