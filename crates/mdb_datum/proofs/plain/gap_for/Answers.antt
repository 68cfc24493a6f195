-- The closure compares a name with the one that is looked for.
use Rattle.std.proofs.Common.{rules}
use Rattle.std.specs.Cmp.Lexicographic.{slice_cmp}
use Rattle.std.specs.Ordering.{nat_cmp}
use Rattle.std.proofs.lemmas.Fn.{always_returns_same}
use Rattle.mdb_datum.specs.declared.datum.Datum.{Datum}
use Rattle.mdb_datum.specs.declared.text.Text.{Text}
use Rattle.mdb_datum.proofs.MemberPlaces.{place_missing}
use Rattle.mdb_datum.proofs.plain.gap_for.Goals as goal

pub returns-in-Err : goal.returns-in-Err
returns-in-Err c =
    let by_name = c.in-Err.ensures.position (λ (p : Text × Datum). slice_cmp nat_cmp p.0 c.args.name.now) (always_returns_same _ _ _ (λ a r f called. (search rules, search rules))) in
    place_missing c.args.pairs.now c.args.name.now c.requires c.in-Err.at (search rules) by_name
