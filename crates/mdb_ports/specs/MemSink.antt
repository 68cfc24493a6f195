-- Bytes that are gathered in memory, and calls that fail by their number.
use Rattle.std.specs.Prelude.{ℕ, List, ◌++◌, take, Result, Ok, Err}
use Rattle.mdb_ports.specs.declared.failed.Failed.{Failed}
use Rattle.mdb_ports.specs.Faults.{one_more}

-- what `MemSink` holds: its bytes, how many it has room for, how many a call takes at most, the
-- numbers of the calls that fail, and how many calls and faults there were
pub record SinkScript : Type 0 where
  pub bytes : List ℕ
  pub room : ℕ
  pub most : ℕ
  pub fails : List ℕ
  pub calls : ℕ
  pub faults : ℕ

-- a call counts itself, and takes the front of the piece or counts its failure; nothing else
-- changes
abbrev pub after_put : SinkScript → List ℕ → Result ℕ Failed → SinkScript
after_put s piece (Ok n) = record s { bytes = s.bytes ++ take n piece; calls = one_more s.calls }
after_put s piece (Err e) = record s { calls = one_more s.calls; faults = one_more s.faults }
