use Rattle.std.proofs.Common.{◌∙◌, ap, codes, sym}
use Rattle.mdb_schema.specs.Tests.{needed}
use Rattle.run_check.proofs.NamedPlaces.{no_watch, watch_at}
use Rattle.run_check.proofs.called.watch_place.Goals as goal

pub returns-in-Some : goal.returns-in-Some
returns-in-Some c = λ schema txns.
    let kept = c.args.knows.now.watching.watches in
    let at = watch_at c.args.name.now c.args.knows.now.watching c.in-Some.place (kept.paired ∙ kept.values.ok.0) (sym c.place.ensures ∙ c.in-Some.is) in
    (at.watch, ap (needed (codes "unknown-name")) at.named, at.there)

pub returns-in-None : goal.returns-in-None
returns-in-None c = λ schema txns.
    ap (needed (codes "unknown-name")) (no_watch c.args.name.now c.args.knows.now.watching (sym c.place.ensures ∙ c.in-None.is))
