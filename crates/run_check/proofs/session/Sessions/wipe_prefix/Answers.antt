use Rattle.std.proofs.Common.{◌∙◌, List, ap, sym, subst}
use Rattle.std.specs.Prelude.{slice_get}
use Rattle.mdb_schema.specs.Answer.{Asked}
use Rattle.mdb_schema.specs.Schema.{DbSchema, table_place}
use Rattle.mdb_schema.specs.Write.{Write}
use Rattle.run_check.specs.inner.WritingView.{TellsWrite, state_now, told_wipe}
use Rattle.run_check.proofs.WipesTold.{by_prefix, wipe_unnamed}
use Rattle.run_check.proofs.session.Sessions.wipe_prefix.Goals as goal

pub returns-then-is_prefix_name-clause-told : goal.returns-then-is_prefix_name-clause-told
returns-then-is_prefix_name-clause-told c = λ schema H txns writing.
    let w = c.args.writing.now in
    let q = c.args.query.now in
    subst (λ (a : Asked (List Write)). TellsWrite schema H txns (told_wipe a) w c.args.self.now.text.items c.wipe.new.self c.wipe.new.writing c.wipe.result)
    (sym (by_prefix schema (state_now schema H txns w.number w.own) q (sym c.if-is_prefix_name.ensures)))
    (c.wipe.ensures.told schema H txns writing)

pub returns-else-is_prefix_name-clause-told : goal.returns-else-is_prefix_name-clause-told
returns-else-is_prefix_name-clause-told c = λ schema H txns writing.
    let p = c.in_ok-table.field-0 in
    let found = c.in_ok-table.ensures.found in
    wipe_unnamed schema H txns c.args.self.now c.args.writing.now writing c.args.query.now c.args.self.now.text.items p.0 p.1.now
    ((λ j. table_place (sym c.table.ensures j) (sym writing.schema_is j)) ∙ found.0)
    (ap (λ (d : DbSchema). slice_get d p.0) (sym writing.schema_is) ∙ found.1) (sym c.if-is_prefix_name.ensures)
