use Rattle.std.proofs.Common.{◌≡◌, ◌+◌, drop}
use Rattle.run_io.specs.Inputs.{scripts_in}
use Rattle.run_io.specs.inner.ContentsOf.{bytes_in}
use Rattle.run_io.proofs.ScriptsInOrder.{put_scripts}
use Rattle.run_io.proofs.reading.read_in_turn.Given as goal

-- the scripts so far, and then what the rest reads as, are what all reads as
abbrev pub invariant-loop-at : goal.invariant-loop-at
invariant-loop-at l =
    scripts_in l.first (bytes_in l.clients) ≡ put_scripts l.scripts (scripts_in (l.first + l.at) (bytes_in (drop l.at l.clients)))
