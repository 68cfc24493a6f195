use Rattle.std.proofs.Common.{ap, ◌∙◌, [], ◌∷◌, map}
use Rattle.std.proofs.lemmas.List.{map-append}
use Rattle.std.specs.declared.alloc.Global.{Global}
use Rattle.std.specs.declared.vec.Vec.{Vec}
use Rattle.mdb_datum.specs.Datum.{doc_of}
use Rattle.mdb_encode.specs.Kind.{part_indexer}
use Rattle.mdb_encode.specs.declared.kind.part.Part.{Part}
use Rattle.mdb_schema.specs.Reading.{part_in}
use Rattle.mdb_schema.proofs.Each.{refused_at, each_pushed}
use Rattle.mdb_schema.proofs.indexer.parts_in.Goals as goal

pub returns-in-Err : goal.returns-in-Err
returns-in-Err c =
    refused_at part_indexer (λ (parts : Vec Part Global). map part_indexer parts.items) part_in (map part_indexer c.loop-at.parts.items) c.args.documents.now c.loop-at.at (doc_of c.in-Some.document.now) c.in-Err.error c.in-Some.ensures c.loop-at.invariant c.in-Err.ensures

pub loop-at-preserved : goal.loop-at-preserved
loop-at-preserved c =
    each_pushed part_in (map part_indexer c.loop-at.parts.items) (map part_indexer c.push.new.self.items) c.args.documents.now c.loop-at.at (doc_of c.in-Some.document.now) (part_indexer c.in-Ok.part) c.in-Some.ensures c.in-Ok.ensures c.loop-at.invariant
    (ap (map part_indexer) c.in_ok-push-in-Ok.ensures.items ∙ map-append part_indexer c.loop-at.parts.items (c.in-Ok.part ∷ []))
