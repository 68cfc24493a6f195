use Rattle.std.proofs.Common.{rules, ◌∙◌, ◌∷◌, ap, length, take}
use Rattle.std.proofs.Math.Seq.{take-append_seam}
use Rattle.std.specs.Prelude.{codes, slice_get}
use Rattle.client_script.specs.Reply.{row_or_none}
use Rattle.client_script.specs.Turn.{name_of}
use Rattle.client_session.proofs.ReplyLines.{four_steps, kept_still}
use Rattle.client_session.proofs.reply.write_change.Goals as goal

pub returns-clause-text : goal.returns-clause-text
returns-clause-text c =
    let change = c.args.change.now in
    four_steps c.write_row_or_none-2.result c.args.out.now.items c.extend_from_slice.new.self.items c.write_table_name.new.out.items c.write_row_or_none.new.out.items c.write_row_or_none-2.new.out.items
    (10 ∷ 32 ∷ 32 ∷ codes "changed ") (name_of (slice_get c.args.schema.now change.table)) (32 ∷ row_or_none change.before) (32 ∷ row_or_none change.after)
    c.in_ok-extend_from_slice.ensures.items (search (rules)) (search (rules)) (search (rules))

pub returns-clause-before : goal.returns-clause-before
returns-clause-before c =
    let out = c.args.out.now.items in
    kept_still out c.write_row_or_none.new.out.items c.write_row_or_none-2.new.out.items
    (kept_still out c.write_table_name.new.out.items c.write_row_or_none.new.out.items
    (kept_still out c.extend_from_slice.new.self.items c.write_table_name.new.out.items (ap (take (length out)) c.in_ok-extend_from_slice.ensures.items ∙ take-append_seam out _) c.write_table_name.ensures.before)
    c.write_row_or_none.ensures.before)
    c.write_row_or_none-2.ensures.before
