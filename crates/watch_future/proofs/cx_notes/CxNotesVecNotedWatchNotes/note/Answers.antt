use Rattle.std.proofs.Common.{rules, refl}
use Rattle.watch_future.proofs.Registered.{all_last, order_more, order_same}
use Rattle.watch_future.proofs.cx_notes.CxNotesVecNotedWatchNotes.note.Goals as goal

pub returns-in_err-push-clause-lasts : goal.returns-in_err-push-clause-lasts
returns-in_err-push-clause-lasts c =
    all_last c.args.self.now _ refl c.register.ensures.kept
    (order_same c.args.self.now _ c.register.ensures.kept (search rules))

pub returns-clause-lasts : goal.returns-clause-lasts
returns-clause-lasts c =
    all_last c.args.self.now _ refl c.register.ensures.kept
    (order_more c.args.self.now _ _ c.register.ensures.kept c.register.ensures.armed c.register.ensures.heard c.in_ok-push.ensures.items)
