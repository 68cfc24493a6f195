use Rattle.std.proofs.Common.{true, false, sym, ◌∙◌}
use Rattle.mdb_datum.specs.Datum.{doc_of}
use Rattle.client_script.proofs.DocParts.{scalars_from}
use Rattle.client_script.proofs.parts.all_scalars.Goals as goal

pub returns-then-not-is_scalar : goal.returns-then-not-is_scalar
returns-then-not-is_scalar c =
    sym (c.loop-at.invariant ∙ scalars_from c.args.items.now c.loop-at.at (doc_of c.in-Some.item.now) false c.in-Some.ensures c.if-not-is_scalar.ensures)

pub loop-at-preserved : goal.loop-at-preserved
loop-at-preserved c =
    c.loop-at.invariant ∙ scalars_from c.args.items.now c.loop-at.at (doc_of c.in-Some.item.now) true c.in-Some.ensures c.if-not-is_scalar.ensures
