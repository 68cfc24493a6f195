use Rattle.std.proofs.Common.{map, take}
use Rattle.mdb_schema.specs.Edits.{stale_keys}
use Rattle.run_check.specs.inner.EditView.{IsOut}
use Rattle.run_check.specs.inner.KeyView.{bytes_of}
use Rattle.run_check.proofs.edit.take_out.Given as goal

-- the keys so far are out, but those that are kept
abbrev pub invariant-loop-key : goal.invariant-loop-key
invariant-loop-key l = IsOut l.stamp (stale_keys (map bytes_of l.kept) (map bytes_of (take l.key-index l.keys))) l.initial.index l.index
