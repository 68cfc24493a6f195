use Rattle.std.proofs.Common.{◌≡◌, drop, map}
use Rattle.mdb_schema.specs.Write.{is_among}
use Rattle.run_check.specs.inner.KeyView.{bytes_of}
use Rattle.run_check.proofs.edit.is_among.Given as goal

-- no key so far is it
abbrev pub invariant-loop-own : goal.invariant-loop-own
invariant-loop-own l = is_among (map bytes_of l.keys) l.key ≡ is_among (map bytes_of (drop l.own-index l.keys)) l.key
