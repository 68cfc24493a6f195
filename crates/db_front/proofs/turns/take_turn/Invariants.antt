use Rattle.std.proofs.Common.{◌≡◌, ℕ, List, []}
use mathlib.Core.List.{IsPrefix}
use Rattle.db_front.proofs.turns.take_turn.Given as goal

abbrev pub invariant-loop : goal.invariant-loop
invariant-loop g l = (l.place.table_id ≡ l.initial.place.table_id) × (l.place.id ≡ l.initial.place.id) × (ts : List ℕ) × IsPrefix l.initial.place.me.0.tries ts × (l.place.me ≡ (record l.initial.place.me.0 { tries = ts }, []))
