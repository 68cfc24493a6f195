-- What more writes make of a state, and one commit more of a history.
use Rattle.std.proofs.Common.{◌≡◌, ◌+◌, List, [], ◌∷◌, ◌++◌, length, refl, arith}
use Rattle.mdb_schema.specs.History.{Commit, History, state_or, after_writes, after_commits, writes_in}
use Rattle.mdb_schema.specs.Schema.{DbSchema}
use Rattle.mdb_schema.specs.State.{State}
use Rattle.mdb_schema.specs.Write.{Write, step}

pub after_writes-append : (schema : DbSchema) (s : State) (ws vs : List Write) → after_writes schema s (ws ++ vs) ≡ after_writes schema (after_writes schema s ws) vs
after_writes-append schema s [] vs = refl
after_writes-append schema s (w ∷ ws) vs = after_writes-append schema (state_or s (step schema s w)) ws vs

pub after_commits-more : (schema : DbSchema) (s : State) (H : History) (c : Commit) → after_commits schema s (H ++ c ∷ []) ≡ after_writes schema (after_commits schema s H) c.writes
after_commits-more schema s [] c = refl
after_commits-more schema s (d ∷ H) c = after_commits-more schema (after_writes schema s d.writes) H c

pub writes_in-more : (H : History) (c : Commit) → writes_in (H ++ c ∷ []) ≡ writes_in H + length c.writes
writes_in-more [] c = omega arith
writes_in-more (d ∷ H) c = let rest = writes_in-more H c in omega (arith, rest)
