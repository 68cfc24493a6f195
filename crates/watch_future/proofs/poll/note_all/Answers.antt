use Rattle.watch_future.proofs.Noted.{part_of_all}
use Rattle.watch_future.proofs.poll.note_all.Goals as goal

pub returns-in_err-note_members-clause-refused : goal.returns-in_err-note_members-clause-refused
returns-in_err-note_members-clause-refused g c = part_of_all c.from_residual.result _ _ _ _ c.in_err-note_members.ensures.refused
