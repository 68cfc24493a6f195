-- The pass of one caller, for clauses that follow several.
use Rattle.std.specs.Prelude.{◌≡◌, ℕ}
use Rattle.mem_txn.specs.Database.{Caller, Database, IsOf}

-- it is the pass of caller n
abbrev pub IsCaller : Database → ℕ → Caller → Type 0
IsCaller db n p = IsOf db p × (p.number ≡ n)
