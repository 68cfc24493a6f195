use Rattle.std.proofs.Common.{◌++◌, ◌∙◌, ap}
use Rattle.mdb_datum.specs.Bytes.{Bytes}
use Rattle.run_check.proofs.KeyTests.{key_pushed}
use Rattle.run_check.proofs.keys.with_ending.Goals as goal

pub loop-at-preserved : goal.loop-at-preserved
loop-at-preserved c =
    let whole = c.in_ok-joined.ensures ∙ ap (λ (key : Bytes). key ++ c.args.ending.now) c.bytes.ensures in
    key_pushed (λ (key : Bytes). key ++ c.args.ending.now) c.args.keys.now c.loop-at.full.items c.push.new.self.items c.loop-at.at c.in-Some.key.now c.in_ok-joined.field-0
    c.loop-at.invariant c.in-Some.ensures whole c.in_ok-push.ensures.items
