use Rattle.watch_future.proofs.Noted.{one_noted, part_noted}
use Rattle.watch_future.proofs.poll.note_members.Goals as goal

pub loop-place-preserved : goal.loop-place-preserved
loop-place-preserved g c = record {
  noted = one_noted c.args.set.now c.loop-place.place (g.N.Notes.noted c.args.notes.now) (g.N.Notes.noted c.loop-place.notes) (g.N.Notes.noted c.note_at.new.notes) c.loop-place.invariant.noted c.in_ok-note_at.ensures.noted;
  lasts = λ f held. c.note_at.ensures.lasts f (c.loop-place.invariant.lasts f held);
}

pub returns-in_err-note_at-clause-refused : goal.returns-in_err-note_at-clause-refused
returns-in_err-note_at-clause-refused g c =
    part_noted c.from_residual.result c.args.set.now c.loop-place.place _ _ _ c.loop-place.invariant.noted c.in_err-note_at.ensures.kept
