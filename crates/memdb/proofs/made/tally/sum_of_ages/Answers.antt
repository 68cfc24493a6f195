use Rattle.std.proofs.Common.{arith, ◌≡◌, ◌+◌, ap, drop, sym}
use Rattle.mdb_datum.proofs.ListPlaces.{drop_at}
use Rattle.memdb.specs.inner.MadeInputs.{age_in, ages_in}
use Rattle.memdb.proofs.made.tally.sum_of_ages.Goals as goal

pub age_of-sum-requires : goal.age_of-sum-requires
age_of-sum-requires c =
    let rows = c.args.rows.now in
    let row = c.in-Some.row.now in
    let at = c.loop-at.at in
    let before = c.loop-at.invariant in
    let split : ages_in (drop at rows) ≡ age_in row + ages_in (drop (at + 1) rows) = ap ages_in (drop_at rows at row (sym c.in-Some.ensures)) in
    let few = c.requires in
    omega (arith, before, split, few)

pub loop-at-preserved : goal.loop-at-preserved
loop-at-preserved c =
    let rows = c.args.rows.now in
    let row = c.in-Some.row.now in
    let at = c.loop-at.at in
    let before = c.loop-at.invariant in
    let split : ages_in (drop at rows) ≡ age_in row + ages_in (drop (at + 1) rows) = ap ages_in (drop_at rows at row (sym c.in-Some.ensures)) in
    let age = c.age_of-sum.ensures in
    omega (arith, before, split, age)

pub overflow_add-sum : goal.overflow_add-sum
overflow_add-sum c =
    let rows = c.args.rows.now in
    let row = c.in-Some.row.now in
    let at = c.loop-at.at in
    let before = c.loop-at.invariant in
    let split : ages_in (drop at rows) ≡ age_in row + ages_in (drop (at + 1) rows) = ap ages_in (drop_at rows at row (sym c.in-Some.ensures)) in
    let age = c.age_of-sum.ensures in
    let few = c.requires in
    omega (arith, before, split, age, few)
