use Rattle.std.proofs.Common.{◌+◌, ◌<◌, ◌≤◌, ℕ, List, get_or, length}
use Rattle.mdb_schema.specs.History.{History}
use Rattle.mdb_schema.specs.Schema.{DbSchema}
use Rattle.run_check.specs.inner.ClientView.{watches_known}
use Rattle.run_check.specs.inner.SessionView.{IsKnown}
use Rattle.run_check.specs.inner.StoreView.{Begun}
use Rattle.run_check.proofs.PlacesWatched.{IsQuietAt}
use Rattle.run_check.proofs.session.Sessions.are_quiet.Given as goal

-- those so far are quiet
abbrev pub invariant-loop-place : goal.invariant-loop-place
invariant-loop-place l =
    (schema : DbSchema) (H : History) (txns : List Begun) → IsKnown schema H txns l.self l.knows
    → l.commits ≤ length H → (k : ℕ) → k < l.place-index
    → IsQuietAt schema H (l.client + 1) (watches_known l.knows.watching) (get_or l.places k 0) l.commits
