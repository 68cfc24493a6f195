use Rattle.std.proofs.Common.{◌≡◌, ◌-◌, ◌≤◌, length, take}
use Rattle.mdb_ports.specs.Sink.{Grows}
use Rattle.run_io.proofs.write.write_all.Given as goal

-- the sink has grown by the front of the text, and no call has failed
abbrev pub invariant-loop-written : goal.invariant-loop-written
invariant-loop-written g l = record {
  within : l.written ≤ length l.text;
  no_fault : g.S.Sink.faults l.out ≡ g.S.Sink.faults l.initial.out;
  grown : Grows (g.S.Sink.told l.initial.out) (g.S.Sink.told l.out) (take l.written l.text);
}

-- the bytes that are left to write
abbrev pub decreases-loop-written : goal.decreases-loop-written
decreases-loop-written g l = length l.text - l.written
