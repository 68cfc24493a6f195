use Rattle.std.proofs.Common.{◌≡◌, ◌∙◌, ◌≤◌, ◌<◌, ◌*◌, List, length, slice_get, sym, ap, subst, refl, arith}
use Rattle.mdb_datum.specs.Row.{Fields}
use Rattle.mdb_datum.proofs.ListPlaces.{there_within}
use Rattle.mdb_schema.specs.Wipe.{once}
use Rattle.table_index.specs.Table.{AreLeft}
use Rattle.table_index.specs.inner.Wipes.{listed_from, rows_under}
use Rattle.table_index.proofs.CutTrees.{cut_at-unlisted}
use Rattle.table_index.proofs.DrawnIds.{more_drawn, none_drawn}
use Rattle.table_index.proofs.RowCounts.{once_more}
use Rattle.table_index.proofs.StoredRows.{same_count}
use Rattle.table_index.proofs.WipeSteps.{listed_there, listed_stored}
use Rattle.table_index.specs.inner.Writes.{IsCutAt}
use Rattle.table_index.proofs.WrittenTrees.{trees_none}
use Rattle.table_index.proofs.cut.cut_listed.Goals as goal

pub checked_walk-requires : goal.checked_walk-requires
checked_walk-requires c =
    let t = c.args.def.now in
    let txns = c.args.txns.now in
    let place = c.args.place in
    let key = c.args.key.now in
    let listed = rows_under key c.args.tree.now in
    let count = same_count t txns c.len.ensures.lawful c.requires.held in
    let within : place < length t.indexes = omega (arith, count, c.requires.place) in
    let at = there_within txns place c.requires.place in
    listed_stored t c.len.ensures.lawful place key txns c.requires.held within at.0 at.1 listed
    (listed_there key listed (slice_get txns place) at.0 c.requires.stands at.1)

-- ---- where no row is listed

pub returns-in_err-listed-clause-drawn : goal.returns-in_err-listed-clause-drawn
returns-in_err-listed-clause-drawn c =
    let rows = length (once c.args.def.now (listed_from c.args.key.now (slice_get c.args.txns.now c.args.place))) in
    none_drawn c.args.front.now (4096 * rows) c.args.ids.now c.args.txns.now c.requires.ready.within

pub returns-then-not-lists_any-clause-drawn : goal.returns-then-not-lists_any-clause-drawn
returns-then-not-lists_any-clause-drawn c =
    let rows = length (once c.args.def.now (listed_from c.args.key.now (slice_get c.args.txns.now c.args.place))) in
    none_drawn c.args.front.now (4096 * rows) c.args.ids.now c.args.txns.now c.requires.ready.within

pub returns-then-not-lists_any-clause-written : goal.returns-then-not-lists_any-clause-written
returns-then-not-lists_any-clause-written c = trees_none (IsCutAt c.args.place c.args.key.now c.args.txns.now) c.args.txns.now

pub returns-then-not-lists_any-clause-answers : goal.returns-then-not-lists_any-clause-answers
returns-then-not-lists_any-clause-answers c =
    let is = c.in_ok-listed.ensures.0 in
    let none = sym c.requires.stands ∙ c.lists_any.ensures.none c.if-not-lists_any.true in
    record {
      rows = is ∙ c.requires.stands;
      left = subst (λ (l : List Fields). AreLeft c.args.ids.now.next (length (once c.args.def.now l))) (sym is) c.in_ok-listed.ensures.1;
      pairs = sym (cut_at-unlisted c.args.key.now c.args.txns.now c.args.place none);
      sound = c.requires.ready.sound;
    }

-- ---- where one is

pub cut_at-requires-clause-left : goal.cut_at-requires-clause-left
cut_at-requires-clause-left c =
    let listed = rows_under c.args.key.now c.args.tree.now in
    let some : 1 ≤ length listed = c.lists_any.ensures.some c.if-not-lists_any.false in
    let enough = c.in_ok-listed.ensures.1 in
    omega (arith, once_more c.args.def.now listed (length listed) refl some, enough)

pub returns-in_err-cut_at-clause-drawn : goal.returns-in_err-cut_at-clause-drawn
returns-in_err-cut_at-clause-drawn c =
    let listed = listed_from c.args.key.now (slice_get c.args.txns.now c.args.place) in
    let count : length (rows_under c.args.key.now c.args.tree.now) ≡ length listed = ap (λ (l : List Fields). length l) c.requires.stands in
    let some = c.lists_any.ensures.some c.if-not-lists_any.false in
    let enough : 4096 ≤ 4096 * length (once c.args.def.now listed) = omega (arith, once_more c.args.def.now listed (length (rows_under c.args.key.now c.args.tree.now)) count some) in
    more_drawn c.args.front.now 4096 (4096 * length (once c.args.def.now listed)) c.args.ids.now c.cut_at.new.ids c.args.txns.now c.cut_at.new.txns enough c.cut_at.ensures.drawn

pub returns-clause-drawn : goal.returns-clause-drawn
returns-clause-drawn c =
    let listed = listed_from c.args.key.now (slice_get c.args.txns.now c.args.place) in
    let count : length (rows_under c.args.key.now c.args.tree.now) ≡ length listed = ap (λ (l : List Fields). length l) c.requires.stands in
    let some = c.lists_any.ensures.some c.if-not-lists_any.false in
    let enough : 4096 ≤ 4096 * length (once c.args.def.now listed) = omega (arith, once_more c.args.def.now listed (length (rows_under c.args.key.now c.args.tree.now)) count some) in
    more_drawn c.args.front.now 4096 (4096 * length (once c.args.def.now listed)) c.args.ids.now c.cut_at.new.ids c.args.txns.now c.cut_at.new.txns enough c.cut_at.ensures.drawn
