use Rattle.run_check.proofs.CommitWrites.{on_both}
use Rattle.run_check.proofs.OwnWipes.{no_removal_makes, removal_makes}
use Rattle.run_check.proofs.session.Sessions.wipe_row.Goals as goal

pub returns-in-Ok-clause-done : goal.returns-in-Ok-clause-done
returns-in-Ok-clause-done c = λ name named.
    removal_makes name c.args.table c.args.self.now c.remove_row.new.self c.args.writing.now c.remove_row.new.writing c.args.row.now named c.in-Ok.ensures.done

pub returns-in-Err-clause-done : goal.returns-in-Err-clause-done
returns-in-Err-clause-done c = λ name named.
    let other = c.unless_memory.ensures in
    on_both c.unless_memory.result other other
    (λ apart same. no_removal_makes name c.args.table c.args.self.now c.remove_row.new.self c.args.writing.now c.remove_row.new.writing c.args.row.now named c.in-Err.error apart c.in-Err.ensures.done)
