use Rattle.client_script.proofs.CommitChanges.{changes_to_next}
use Rattle.client_script.proofs.OneHistory.{changes_told}
use Rattle.client_script.proofs.laws.commits_tell_their_changes.Goals as goal

pub returns-clause-states : goal.returns-clause-states
returns-clause-states c = changes_to_next

pub returns-clause-reply : goal.returns-clause-reply
returns-clause-reply c = λ schema H client v next c' m changed texts a. changes_told schema H client v next c' m changed texts a
