use Rattle.std.proofs.Common.{◌≡◌, ◌++◌, ℕ, map}
use Rattle.std.specs.Borrow.{Bor}
use Rattle.std.specs.declared.alloc.Global.{Global}
use Rattle.std.specs.declared.vec.Vec.{Vec}
use Rattle.mdb_schema.specs.State.{State}
use Rattle.client_script.specs.Reply.{changed_lines}
use Rattle.run_check.specs.inner.ChangeView.{ShowsState, changes_of}
use Rattle.run_check.proofs.changes.write_changes.Given as goal

-- the lines of the keys so far are written
abbrev pub invariant-loop-key : goal.invariant-loop-key
invariant-loop-key l = (old new : State) → ShowsState l.schema old l.first l.store → ShowsState l.schema new l.last l.store
    → l.out.items ≡ l.initial.out.items ++ changed_lines (changes_of l.schema old new (map (λ (k : Bor (Vec ℕ Global)). k.now.items) l.yielded))
