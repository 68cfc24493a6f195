-- The state after the commits of a list with one more.
use Rattle.std.proofs.Common.{◌≡◌, ◌∙◌, ◌++◌, [], ◌∷◌, length, sym, ap, arith}
use Rattle.std.proofs.lemmas.List.{take_all}
use Rattle.mdb_schema.specs.History.{Commit, History, after_commits, after_writes, state_at}
use Rattle.mdb_schema.specs.Schema.{DbSchema}
use Rattle.mdb_schema.specs.State.{State, empty_state}
use Rattle.mdb_schema.proofs.HistorySteps.{after_commits-more}

pub state_at-all : (schema : DbSchema) (H : History) → state_at schema H (length H) ≡ after_commits schema (empty_state schema) H
state_at-all schema H = ap (after_commits schema (empty_state schema)) (take_all (length H) H (omega arith))

-- the state after the commits with one more
pub state_seen-more : (schema : DbSchema) (H : History) (c : Commit) → state_at schema (H ++ c ∷ []) (length (H ++ c ∷ [])) ≡ after_writes schema (state_at schema H (length H)) c.writes
state_seen-more schema H c =
    state_at-all schema (H ++ c ∷ [])
    ∙ after_commits-more schema (empty_state schema) H c
    ∙ ap (λ (s : State). after_writes schema s c.writes) (sym (state_at-all schema H))
