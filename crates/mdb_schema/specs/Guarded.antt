-- A question whose answer no commit changes.
use Rattle.std.specs.Prelude.{◌≡◌, ◌≤◌, ◌-◌, ℕ}
use Rattle.mdb_schema.specs.Answer.{ask}
use Rattle.mdb_schema.specs.History.{History, IsMadeBy, state_at}
use Rattle.mdb_schema.specs.Query.{Query}
use Rattle.mdb_schema.specs.Schema.{DbSchema}

-- the question has one and the same answer after each of the commits v to n; where n is below v
-- nothing is said
abbrev pub IsGuarded : DbSchema → History → Query → ℕ → ℕ → Type 0
IsGuarded schema H q v n =
    (j : ℕ) → v ≤ j → j ≤ n → ask schema (state_at schema H j) q ≡ ask schema (state_at schema H v) q

-- What a caller may be told of a watch that is quiet after n commits: the question's answer has not
-- changed since commit v, up to the commit before the last, and up to the last where that is the
-- caller's own.
pub record IsUnchanged (schema : DbSchema) (H : History) (caller : ℕ) (q : Query) (v n : ℕ)
    : Type 0 where
  pub before_last : IsGuarded schema H q v (n - 1)
  pub own : IsMadeBy H caller n → IsGuarded schema H q v n
