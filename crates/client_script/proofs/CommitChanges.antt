-- A commit changes what lies between the state on which its transaction stands and the state after it.
use Rattle.std.proofs.Common.{arith, ◌≡◌, ap, sym, ◌∙◌, ℕ, suc, ◌+◌, [], ◌∷◌, ◌++◌, Some, slice_get, take}
use Rattle.std.proofs.Math.Seq.{take-suc}
use Rattle.std.proofs.lemmas.Option.{slice_get_within, get_or_from_slice_get}
use Rattle.mdb_schema.proofs.HistorySteps.{after_commits-more}
use Rattle.mdb_schema.specs.History.{Commit, History, after_commits, state_at}
use Rattle.mdb_schema.specs.Net.{changes}
use Rattle.mdb_schema.specs.Schema.{DbSchema}
use Rattle.mdb_schema.specs.State.{empty_state}
use Rattle.client_script.specs.Client.{Writing, writing, state_seen, sight_of}
use Rattle.client_script.specs.Session.{IsCommit}

-- the first commits with the next one
pub entry_taken : (H : History) (k : ℕ) (c : Commit) → slice_get H k ≡ Some c → take k H ++ c ∷ [] ≡ take (suc k) H
entry_taken H k c at =
    sym (take-suc H k c (slice_get_within H k c at) ∙ ap (λ (x : Commit). take k H ++ x ∷ []) (get_or_from_slice_get H k c c at))

-- what the transaction saw at its end is the state after its commit
pub seen_after : (schema : DbSchema) (H : History) (client : ℕ) (t : Writing) → IsCommit H client (writing t) → state_seen schema H (sight_of t) ≡ state_at schema H (t.number + 1)
seen_after schema H client t made =
    let next : suc t.number ≡ t.number + 1 = search (arith) in
    sym (after_commits-more schema (empty_state schema) (take t.number H) (record { caller = client; writes = t.writes }))
    ∙ ap (after_commits schema (empty_state schema)) (entry_taken H t.number (record { caller = client; writes = t.writes }) made)
    ∙ ap (state_at schema H) next

pub changes_to_next : (schema : DbSchema) (H : History) (client : ℕ) (t : Writing) → IsCommit H client (writing t) → changes schema (state_at schema H t.number) (state_seen schema H (sight_of t)) ≡ changes schema (state_at schema H t.number) (state_at schema H (t.number + 1))
changes_to_next schema H client t made = ap (changes schema (state_at schema H t.number)) (seen_after schema H client t made)
