use Rattle.std.proofs.Common.{◌≡◌, ◌++◌, map}
use Rattle.std.specs.Prelude.{string_bytes}
use Rattle.std.specs.Vec.Iter.{into_iter_items}
use Rattle.run_io.proofs.arguments.copies.Given as goal

-- the words so far are the texts so far, with which those that are left are all
abbrev pub invariant-loop-text : goal.invariant-loop-text
invariant-loop-text l = record {
  words : l.words.items ≡ map string_bytes l.yielded;
  all : into_iter_items l.fn.texts ≡ l.yielded ++ into_iter_items l.text-iterator;
}
