use Rattle.std.proofs.Common.{◌≡◌, ◌∙◌, None, Some, sym}
use Rattle.mdb_datum.specs.Pairs.{first_item}
use Rattle.table_index.proofs.RowCounts.{counts_first, counted_stored, counted_all, seen_next}
use Rattle.table_index.proofs.cut.count_each.Goals as goal

pub rows-init : goal.rows-init
rows-init c = counts_first c.args.def.now c.args.listed c.args.seen.now.items c.requires.none c.requires.stored

pub count_row-requires : goal.count_row-requires
count_row-requires c =
    let first : first_item c.rows.listed ≡ Some c.in-Some.row = sym c.in_ok-row.ensures.next ∙ c.in-Some.is in
    counted_stored c.args.def.now c.args.listed c.rows.listed c.rows.seen.items c.in-Some.row first c.rows.invariant

pub rows-preserved : goal.rows-preserved
rows-preserved c =
    let first : first_item c.rows.listed ≡ Some c.in-Some.row = sym c.in_ok-row.ensures.next ∙ c.in-Some.is in
    seen_next c.args.def.now c.args.listed c.rows.listed c.rows.seen.items c.in-Some.row first c.rows.invariant c.next.new.self c.in_ok-row.ensures.rest c.in_ok-count_row.ensures.0 c.in_ok-count_row.ensures.1
    c.count_row.new.seen.items c.in_ok-count_row.ensures.2

pub returns : goal.returns
returns c =
    let none : first_item c.rows.listed ≡ None = sym c.in_ok-row.ensures.next ∙ c.in_default.is in
    counted_all c.args.def.now c.args.listed c.rows.listed c.rows.seen.items none c.rows.invariant
