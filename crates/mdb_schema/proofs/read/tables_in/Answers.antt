use Rattle.mdb_datum.specs.Datum.{doc_of}
use Rattle.mdb_schema.specs.Reading.{table_in}
use Rattle.mdb_schema.proofs.Each.{each_pushed, named_refusal_at}
use Rattle.mdb_schema.proofs.IndexLists.{regular_at}
use Rattle.mdb_schema.proofs.read.tables_in.Goals as goal

pub table_in-requires : goal.table_in-requires
table_in-requires c =
    regular_at c.args.members.now c.loop-at.at (c.in-Some.name.now, doc_of c.in-Some.document.now) c.requires c.in-Some.ensures

pub returns-in-Err : goal.returns-in-Err
returns-in-Err c =
    named_refusal_at (table_in c.args.version) c.loop-at.tables.items c.args.members.now c.loop-at.at (c.in-Some.name.now, doc_of c.in-Some.document.now) c.in-Err.error c.in-Some.ensures c.loop-at.invariant c.in-Err.ensures

pub loop-at-preserved : goal.loop-at-preserved
loop-at-preserved c =
    each_pushed (table_in c.args.version) c.loop-at.tables.items c.push.new.self.items c.args.members.now c.loop-at.at (c.in-Some.name.now, doc_of c.in-Some.document.now) c.in-Ok.table c.in-Some.ensures c.in-Ok.ensures c.loop-at.invariant c.in_ok-push-in-Ok.ensures.items
