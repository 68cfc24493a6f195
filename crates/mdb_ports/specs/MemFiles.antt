-- Files that are listed in memory, and calls that fail by their number.
use Rattle.std.specs.Prelude.{ℕ, List, [], ◌∷◌, Option, Some, None, if◌then◌else◌, Result, Ok, Err}
use Rattle.std.specs.Str.{bytes_eq}
use Rattle.mdb_ports.specs.declared.failed.Failed.{Failed}
use Rattle.mdb_ports.specs.Faults.{one_more}

-- a name and the bytes under it
abbrev pub NamedBytes : Type 0
NamedBytes = List ℕ × List ℕ

-- the bytes of the first file of this name
abbrev pub listed : List NamedBytes → List ℕ → Option (List ℕ)
listed [] name = None
listed (f ∷ fs) name = if bytes_eq f.0 name then Some f.1 else listed fs name

-- what `MemFiles` holds: its files, the numbers of the calls that fail, and how many calls and
-- faults there were
pub record FileScript : Type 0 where
  pub files : List NamedBytes
  pub fails : List ℕ
  pub calls : ℕ
  pub faults : ℕ

-- a call counts itself, and its failure; nothing else changes
abbrev pub after_fetch : FileScript → Result ℕ Failed → FileScript
after_fetch s (Ok n) = record s { calls = one_more s.calls }
after_fetch s (Err e) = record s { calls = one_more s.calls; faults = one_more s.faults }
