-- Which session is told to be stuck, by how each stands.
use Rattle.std.specs.Prelude.{◌+◌, ℕ, List, [], ◌∷◌, Option, Some, None, ⊤}
use Rattle.client_script.specs.Stuck.{Stop}
use Rattle.session_loop.specs.declared.stop.Stop as code
use Rattle.session_loop.specs.declared.task.State.{State}
use Rattle.session_loop.specs.declared.task.State.TheVariants as state

-- a session is parked, or no line of it is left
abbrev pub HasHalted : State → Type 0
HasHalted state.Ready = ⊥
HasHalted (state.Parked line) = ⊤
HasHalted state.Ended = ⊤

abbrev pub HaveHalted : List State → Type 0
HaveHalted [] = ⊤
HaveHalted (x ∷ xs) = HasHalted x × HaveHalted xs

abbrev pub stop_of : code.Stop → Stop
stop_of s = record { client = s.client; line = s.line }

-- the first session that is parked, numbered from k
abbrev pub first_parked : ℕ → List State → Option Stop
first_parked k [] = None
first_parked k (state.Ready ∷ xs) = first_parked (k + 1) xs
first_parked k (state.Parked line ∷ xs) = Some (record { client = k; line = line })
first_parked k (state.Ended ∷ xs) = first_parked (k + 1) xs
