use Rattle.std.proofs.Common.{◌≡◌, ◌+◌, []}
use Rattle.db_front.proofs.commits.renew_all.Given as goal

abbrev pub invariant-loop-caller : goal.invariant-loop-caller
invariant-loop-caller g l = (l.place.table_id ≡ l.initial.place.table_id) × (l.place.id ≡ l.initial.place.id) × (l.place.me ≡ (record l.initial.place.me.0 { stage = l.caller + 1 }, []))
