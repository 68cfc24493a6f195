use Rattle.std.proofs.Common.{◌∙◌, sym, rules}
use Rattle.std.specs.Prelude.{option_copied}
use Rattle.run_check.proofs.ChangeLines.{change_written}
use Rattle.run_check.proofs.changes.write_change.Goals as goal

pub returns : goal.returns
returns c =
    change_written c.write_row_or_none-2.result c.args.out.now.items c.extend_from_slice.new.self.items c.extend_from_slice-2.new.self.items c.write_row_or_none.new.out.items c.write_row_or_none-2.new.out.items
    c.args.def.now.name (option_copied c.args.before) (option_copied c.args.after) (sym c.differ.ensures ∙ c.if-not-differ.false) c.in_ok-extend_from_slice.ensures.items (search rules) c.in_ok-write_row_or_none.ensures c.write_row_or_none-2.ensures
