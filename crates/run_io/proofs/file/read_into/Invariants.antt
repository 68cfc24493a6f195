use Rattle.std.proofs.Common.{◌≡◌, ◌-◌, ◌≤◌, length}
use Rattle.std.specs.Prelude.{IfSome}
use Rattle.run_io.proofs.Pieces.{IsFront}
use Rattle.run_io.proofs.file.read_into.Given as goal

-- the bytes so far are the front of the file, and no call has failed
abbrev pub invariant-loop-count : goal.invariant-loop-count
invariant-loop-count g l = record {
  fits : length l.bytes.items ≤ l.fn.limit;
  same_files : g.F.Files.told l.files ≡ g.F.Files.told l.initial.files;
  stays : g.F.Files.reliable l.files ≡ g.F.Files.reliable l.initial.files;
  no_fault : g.F.Files.faults l.files ≡ g.F.Files.faults l.initial.files;
  begun : IfSome (g.F.Files.told l.files) (λ files. IsFront files l.name l.bytes.items);
}

-- the bytes that the limit still allows
abbrev pub decreases-loop-count : goal.decreases-loop-count
decreases-loop-count g l = l.fn.limit - length l.bytes.items
