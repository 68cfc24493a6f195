-- A history: the commits of a database, in order.
use Rattle.std.specs.Prelude.{◌≡◌, ◌<◌, ◌+◌, ◌-◌, ℕ, List, [], ◌∷◌, length, take, Some, Ok, Err, slice_get}
use Rattle.mdb_schema.specs.Schema.{DbSchema}
use Rattle.mdb_schema.specs.State.{State, empty_state}
use Rattle.mdb_schema.specs.Write.{Write, Stepped, step}

pub record Commit : Type 0 where
  pub caller : ℕ
  pub writes : List Write

abbrev pub History : Type 0
History = List Commit

-- the state after a step; a refused one changes nothing
abbrev pub state_or : State → Stepped → State
state_or s (Ok p) = p.0
state_or s (Err e) = s

-- what a state becomes under writes, one after the other
abbrev pub after_writes : DbSchema → State → List Write → State
after_writes schema s [] = s
after_writes schema s (w ∷ ws) = after_writes schema (state_or s (step schema s w)) ws

abbrev pub after_commits : DbSchema → State → History → State
after_commits schema s [] = s
after_commits schema s (c ∷ cs) = after_commits schema (after_writes schema s c.writes) cs

-- what the empty tables become under the writes of the first n commits
abbrev pub state_at : DbSchema → History → ℕ → State
state_at schema H n = after_commits schema (empty_state schema) (take n H)

-- how many writes commits have
abbrev pub writes_in : History → ℕ
writes_in [] = 0
writes_in (c ∷ H) = length c.writes + writes_in H

-- commit n, counted from 1, is this caller's
abbrev pub IsMadeBy : History → ℕ → ℕ → Type 0
IsMadeBy H caller n =
    (0 < n) × (c : Commit) × (slice_get H (n - 1) ≡ Some c) × (c.caller ≡ caller)
