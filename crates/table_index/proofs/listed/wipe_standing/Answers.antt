use Rattle.std.proofs.Common.{◌∙◌, sym}
use Rattle.table_index.proofs.DrawnIds.{ready_again}
use Rattle.table_index.specs.inner.IndexTrees.{nodes_of, rows_held}
use Rattle.table_index.proofs.WholeWipe.{cut_few, drawn_all, drawn_first, drawn_more, gives_up, left_for, stands_first, wiped_alone, wiped_last}
use Rattle.table_index.proofs.WipeSteps.{fewer_later, later_in, moved_sound, next_moved, none_later, tree_count}
use Rattle.table_index.proofs.WrittenRows.{cut_wrote, next_wrote, once_wrote}
use Rattle.table_index.proofs.listed.wipe_standing.Goals as goal

-- ---- a wipe that doesn't begin

pub returns-in-Err-clause-answers : goal.returns-in-Err-clause-answers
returns-in-Err-clause-answers c =
    gives_up c.args.def.now c.len-indexes.ensures.lawful c.args.place c.args.key.now c.args.txns.now c.requires.held c.requires.place c.args.ids.now.next c.in-Err.error c.cut_listed.new.txns c.in-Err.ensures.answers

pub returns-in-Err-clause-drawn : goal.returns-in-Err-clause-drawn
returns-in-Err-clause-drawn c =
    cut_few c.args.def.now c.len-indexes.ensures.lawful c.args.place c.args.key.now c.args.txns.now c.requires.held c.requires.place c.args.front.now c.args.ids.now c.cut_listed.new.ids c.cut_listed.new.txns c.in-Err.ensures.drawn

-- ---- one that does

pub rows-init : goal.rows-init
rows-init c = record {
  sound = c.in-Ok.ensures.answers.sound;
  stands = stands_first c.args.def.now c.len-indexes.ensures.lawful c.args.place c.args.key.now c.args.txns.now c.requires.held c.requires.place c.in-Ok.listed c.args.ids.now.next c.cut_listed.new.txns c.in-Ok.ensures.answers c.new-gone.result c.new-gone.ensures;
  drawn = drawn_first c.args.def.now c.len-indexes.ensures.lawful c.args.place c.args.key.now c.args.txns.now c.requires.held c.requires.place c.in-Ok.listed c.args.ids.now.next c.cut_listed.new.txns c.in-Ok.ensures.answers c.new-gone.result c.args.front.now c.args.ids.now c.cut_listed.new.ids c.in-Ok.ensures.drawn;
  written =
      cut_wrote c.args.def.now c.len-indexes.ensures.lawful c.args.place c.args.key.now c.args.txns.now c.requires.held c.requires.place c.in-Ok.listed c.in-Ok.ensures.answers.rows c.cut_listed.new.txns c.in-Ok.ensures.written;
  rest = λ r h. h;
}

pub rows-preserved : goal.rows-preserved
rows-preserved c =
    let t = c.args.def.now in
    let moved = c.in_ok-move_next.ensures.answers in
    record {
      sound = moved_sound t c.args.place c.in_ok-move_next.field-0 c.rows.listed c.move_next.new.listed c.rows.txns c.move_next.new.txns c.rows.gone c.move_next.new.gone c.rows.invariant.sound moved;
      stands =
          next_moved t c.len-indexes.ensures.lawful c.args.place c.args.key.now (rows_held t (nodes_of c.args.txns.now)) c.in-Ok.listed c.rows.gone c.rows.txns c.move_next.new.txns
          c.in_ok-move_next.field-0 c.rows.listed c.move_next.new.listed c.move_next.new.gone c.rows.invariant.stands moved;
      drawn =
          drawn_more c.args.def.now c.len-indexes.ensures.lawful c.args.place c.args.key.now c.args.txns.now c.requires.held c.requires.place c.in-Ok.listed c.args.ids.now.next c.cut_listed.new.txns c.in-Ok.ensures.answers c.rows.gone c.rows.listed c.rows.txns
          c.args.front.now c.args.ids.now c.rows.ids c.rows.invariant.stands c.rows.invariant.drawn c.move_next.new.txns c.move_next.new.ids c.in_ok-move_next.ensures.drawn c.in_ok-move_next.field-0 c.move_next.new.listed c.move_next.new.gone moved;
      written =
          next_wrote t c.in-Ok.listed c.rows.listed c.rows.invariant.rest c.args.txns.now c.rows.txns c.move_next.new.txns c.rows.invariant.written c.in_ok-move_next.ensures.written;
      rest = λ r h. c.rows.invariant.rest r (later_in t c.args.place c.in_ok-move_next.field-0 c.rows.listed c.move_next.new.listed c.rows.txns c.move_next.new.txns c.rows.gone c.move_next.new.gone moved r h);
    }

pub rows-smaller : goal.rows-smaller
rows-smaller c = fewer_later c.args.def.now c.args.place c.in_ok-move_next.field-0 c.rows.listed c.move_next.new.listed c.rows.txns c.move_next.new.txns c.rows.gone c.move_next.new.gone c.if-branch.true c.in_ok-move_next.ensures.answers

pub returns-in_err-move_next-clause-drawn : goal.returns-in_err-move_next-clause-drawn
returns-in_err-move_next-clause-drawn c =
    drawn_all c.args.def.now c.len-indexes.ensures.lawful c.args.place c.args.key.now c.args.txns.now c.requires.held c.requires.place c.in-Ok.listed c.args.ids.now.next c.cut_listed.new.txns c.in-Ok.ensures.answers c.rows.gone c.rows.listed c.rows.txns
    c.args.front.now c.args.ids.now c.rows.ids c.rows.invariant.stands c.rows.invariant.drawn c.move_next.new.txns c.move_next.new.ids c.move_next.ensures.drawn

pub returns-clause-answers : goal.returns-clause-answers
returns-clause-answers c =
    let t = c.args.def.now in
    let moved = c.in_ok-move_next.ensures.answers in
    let s =
    next_moved t c.len-indexes.ensures.lawful c.args.place c.args.key.now (rows_held t (nodes_of c.args.txns.now)) c.in-Ok.listed c.rows.gone c.rows.txns c.move_next.new.txns
    c.in_ok-move_next.field-0 c.rows.listed c.move_next.new.listed c.move_next.new.gone c.rows.invariant.stands moved in
    wiped_last c.args.def.now c.len-indexes.ensures.lawful c.args.place c.args.key.now c.args.txns.now c.requires.held c.requires.place c.in-Ok.listed c.args.ids.now.next c.cut_listed.new.txns c.in-Ok.ensures.answers c.move_next.new.gone c.move_next.new.listed c.move_next.new.txns
    s (none_later t c.args.place c.in_ok-move_next.field-0 c.rows.listed c.move_next.new.listed c.rows.txns c.move_next.new.txns c.rows.gone c.move_next.new.gone c.if-branch.false moved)
    (moved_sound t c.args.place c.in_ok-move_next.field-0 c.rows.listed c.move_next.new.listed c.rows.txns c.move_next.new.txns c.rows.gone c.move_next.new.gone c.rows.invariant.sound moved)

pub returns-clause-drawn : goal.returns-clause-drawn
returns-clause-drawn c =
    drawn_all c.args.def.now c.len-indexes.ensures.lawful c.args.place c.args.key.now c.args.txns.now c.requires.held c.requires.place c.in-Ok.listed c.args.ids.now.next c.cut_listed.new.txns c.in-Ok.ensures.answers c.rows.gone c.rows.listed c.rows.txns
    c.args.front.now c.args.ids.now c.rows.ids c.rows.invariant.stands c.rows.invariant.drawn c.move_next.new.txns c.move_next.new.ids c.move_next.ensures.drawn

pub returns-clause-written : goal.returns-clause-written
returns-clause-written c =
    once_wrote c.args.def.now c.len-indexes.ensures.lawful c.args.place c.args.key.now c.args.txns.now c.requires.held c.requires.place c.in-Ok.listed c.in-Ok.ensures.answers.rows c.move_next.new.txns
    (next_wrote c.args.def.now c.in-Ok.listed c.rows.listed c.rows.invariant.rest c.args.txns.now c.rows.txns c.move_next.new.txns c.rows.invariant.written c.in_ok-move_next.ensures.written)

-- ---- one of the only index

pub returns-in_err-gather-clause-drawn : goal.returns-in_err-gather-clause-drawn
returns-in_err-gather-clause-drawn c =
    cut_few c.args.def.now c.len-indexes.ensures.lawful c.args.place c.args.key.now c.args.txns.now c.requires.held c.requires.place c.args.front.now c.args.ids.now c.cut_listed.new.ids c.cut_listed.new.txns c.in-Ok.ensures.drawn

pub returns-then-indexes-eq1-clause-answers : goal.returns-then-indexes-eq1-clause-answers
returns-then-indexes-eq1-clause-answers c =
    wiped_alone c.args.def.now c.len-indexes.ensures.lawful c.args.place c.args.key.now c.args.txns.now c.requires.held c.requires.place c.in-Ok.listed c.args.ids.now.next c.cut_listed.new.txns c.in-Ok.ensures.answers
    (sym c.len-indexes.ensures.count ∙ c.if-indexes-eq1.true) c.in_ok-gather.field-0 c.in_ok-gather.ensures

pub returns-then-indexes-eq1-clause-drawn : goal.returns-then-indexes-eq1-clause-drawn
returns-then-indexes-eq1-clause-drawn c =
    cut_few c.args.def.now c.len-indexes.ensures.lawful c.args.place c.args.key.now c.args.txns.now c.requires.held c.requires.place c.args.front.now c.args.ids.now c.cut_listed.new.ids c.cut_listed.new.txns c.in-Ok.ensures.drawn

pub returns-then-indexes-eq1-clause-written : goal.returns-then-indexes-eq1-clause-written
returns-then-indexes-eq1-clause-written c =
    once_wrote c.args.def.now c.len-indexes.ensures.lawful c.args.place c.args.key.now c.args.txns.now c.requires.held c.requires.place c.in-Ok.listed c.in-Ok.ensures.answers.rows c.cut_listed.new.txns
    (cut_wrote c.args.def.now c.len-indexes.ensures.lawful c.args.place c.args.key.now c.args.txns.now c.requires.held c.requires.place c.in-Ok.listed c.in-Ok.ensures.answers.rows c.cut_listed.new.txns c.in-Ok.ensures.written)

-- ---- what the loop asks for

pub move_next-requires-clause-stored : goal.move_next-requires-clause-stored
move_next-requires-clause-stored c = c.rows.invariant.stands.stored

pub move_next-requires-clause-left : goal.move_next-requires-clause-left
move_next-requires-clause-left c =
    left_for c.args.def.now c.len-indexes.ensures.lawful c.args.place c.args.key.now c.args.txns.now c.requires.held c.requires.place c.in-Ok.listed c.args.ids.now.next c.cut_listed.new.txns c.in-Ok.ensures.answers c.rows.gone c.rows.listed c.rows.txns
    c.args.front.now c.args.ids.now c.rows.ids c.rows.invariant.stands c.rows.invariant.drawn c.in-Ok.ensures.answers.left

pub move_next-requires-clause-ready : goal.move_next-requires-clause-ready
move_next-requires-clause-ready c =
    ready_again c.args.front.now _ c.args.ids.now c.rows.ids c.args.txns.now c.rows.txns c.requires.ready.book c.rows.invariant.drawn c.rows.invariant.sound

pub move_next-requires-clause-both : goal.move_next-requires-clause-both
move_next-requires-clause-both c =
    tree_count c.args.def.now c.args.place c.args.key.now (rows_held c.args.def.now (nodes_of c.args.txns.now)) c.in-Ok.listed c.rows.gone c.rows.listed c.rows.txns c.rows.invariant.stands
