use Rattle.std.proofs.Common.{◌≡◌, take, vec_len}
use Rattle.run_io.specs.Observed.{AreWhole}
use Rattle.run_io.specs.inner.Reading.{contents_in}
use Rattle.run_io.proofs.files.read_clients.Given as goal

-- the files read so far are whole, and no call has failed
abbrev pub invariant-loop-at : goal.invariant-loop-at
invariant-loop-at g l = record {
  same_files : g.F.Files.told l.files ≡ g.F.Files.told l.initial.files;
  same_reliance : g.F.Files.reliable l.files ≡ g.F.Files.reliable l.initial.files;
  no_fault : g.F.Files.faults l.files ≡ g.F.Files.faults l.initial.files;
  whole : AreWhole (g.F.Files.told l.files) (take l.at l.names) (contents_in l.contents);
  as_many : vec_len l.contents ≡ l.at;
}
