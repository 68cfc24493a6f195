use Rattle.mdb_datum.specs.Datum.{doc_of}
use Rattle.mdb_schema.specs.Reading.{named_index}
use Rattle.mdb_schema.proofs.Each.{each_pushed, named_refusal_at}
use Rattle.mdb_schema.proofs.read.indexes_in.Goals as goal

pub returns-in-Err : goal.returns-in-Err
returns-in-Err c =
    named_refusal_at (named_index c.args.table.now) c.loop-at.indexes.items c.args.members.now c.loop-at.at (c.in-Some.name.now, doc_of c.in-Some.document.now) c.in-Err.error c.in-Some.ensures c.loop-at.invariant c.in-Err.ensures

pub loop-at-preserved : goal.loop-at-preserved
loop-at-preserved c =
    each_pushed (named_index c.args.table.now) c.loop-at.indexes.items c.push.new.self.items c.args.members.now c.loop-at.at (c.in-Some.name.now, doc_of c.in-Some.document.now) c.in-Ok.index c.in-Some.ensures c.in-Ok.ensures c.loop-at.invariant c.in_ok-push-in-Ok.ensures.items
