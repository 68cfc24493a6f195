-- What a caller has seen is a beginning of what it sees later.
use Rattle.std.proofs.Common.{◌∙◌, [], refl}
use Rattle.std.proofs.lemmas.List.{append-nil}
use Rattle.mem_txn.specs.Checked.{IsBeginning}
use Rattle.mem_txn.specs.Database.{Caller}
use Rattle.mem_txn.proofs.HeldAlong.{prefix_twice}

pub begins_itself : (p : Caller) → IsBeginning p p
begins_itself p = record { schema = refl; book = refl; seen = ([], append-nil p.seen); trees = ([], append-nil p.trees) }

pub begins_twice : (old mid new : Caller) → IsBeginning old mid → IsBeginning mid new → IsBeginning old new
begins_twice old mid new first second = record {
  schema = second.schema ∙ first.schema;
  book = second.book ∙ first.book;
  seen = prefix_twice old.seen mid.seen new.seen first.seen second.seen;
  trees = prefix_twice old.trees mid.trees new.trees first.trees second.trees;
}
