use Rattle.std.proofs.Common.{map, true, false, sym, ◌∙◌, Bor, List, ℕ}
use Rattle.mdb_datum.specs.Datum.{doc_of}
use Rattle.mdb_schema.proofs.ShapeLemmas.{only_at}
use Rattle.mdb_schema.proofs.shapes.has_only.Goals as goal

pub returns-then-not-is_one_of : goal.returns-then-not-is_one_of
returns-then-not-is_one_of c =
    sym (c.loop-at.invariant ∙ only_at (map (λ (own : Bor (List ℕ)). own.now) c.args.names.now) c.args.members.now c.loop-at.at (c.in-Some.name.now, doc_of c.in-Some.field-0-1.now) false c.in-Some.ensures c.if-not-is_one_of.ensures)

pub loop-at-preserved : goal.loop-at-preserved
loop-at-preserved c =
    c.loop-at.invariant ∙ only_at (map (λ (own : Bor (List ℕ)). own.now) c.args.names.now) c.args.members.now c.loop-at.at (c.in-Some.name.now, doc_of c.in-Some.field-0-1.now) true c.in-Some.ensures c.if-not-is_one_of.ensures
