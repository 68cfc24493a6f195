use Rattle.std.proofs.Common.{◌≡◌, ◌∙◌, ◌++◌, Bool, true, false, OnOk, Ok, Err, ap, sym, subst}
use Rattle.std.specs.Prelude.{slice_get}
use Rattle.mdb_datum.specs.Bytes.{Bytes}
use Rattle.mdb_schema.specs.Schema.{DbSchema, table_place}
use Rattle.mdb_schema.specs.Write.{put}
use Rattle.client_script.specs.Reply.{inserted, replaced, reply_text}
use Rattle.client_script.specs.declared.command.WriteCommand.TheVariants as write_lines
use Rattle.run_check.specs.declared.session.Refused.{Refused}
use Rattle.run_check.specs.declared.session.Sessions.{Sessions}
use Rattle.run_check.specs.inner.WritingView.{AnswersStep, TellsRow, TellsWrite, state_now, told_write}
use Rattle.run_check.proofs.LinesWrite.{insert_refused, insert_tells}
use Rattle.run_check.proofs.session.Sessions.insert.Goals as goal

pub returns-in-Ok-true-clause-told : goal.returns-in-Ok-true-clause-told
returns-in-Ok-true-clause-told c = λ schema H txns writing.
    let name = c.args.table.now in
    let row = c.args.row.now in
    let found = c.in_ok-at.ensures.found in
    let named = ap (λ (d : DbSchema). table_place name d) (sym writing.schema_is) ∙ found.0 in
    insert_tells schema H txns c.args.self.now c.args.writing.now writing c.args.self.now.text.items name row c.put_row.new.self c.put_row.new.writing c.say.new.self (ap (λ (s : Sessions). s.schema.now) c.say.ensures.kept) (ap (λ (s : Sessions). s.store) c.say.ensures.kept) c.say.result true
    (subst (λ (b : Bool). AnswersStep TellsRow schema H txns (put name row) c.args.writing.now (Ok b) c.put_row.new.self c.put_row.new.writing) c.in-Ok-true.field-0-test (c.in-Ok-true.ensures.done schema H txns name writing named))
    (subst (λ (old : Bytes). OnOk c.say.result (c.say.new.self.text.items ≡ old ++ reply_text replaced)) (ap (λ (s : Sessions). s.text.items) c.put_row.ensures.kept) c.say.ensures.said) c.say.ensures.short

pub returns-in-Ok-false-clause-told : goal.returns-in-Ok-false-clause-told
returns-in-Ok-false-clause-told c = λ schema H txns writing.
    let name = c.args.table.now in
    let row = c.args.row.now in
    let found = c.in_ok-at.ensures.found in
    let named = ap (λ (d : DbSchema). table_place name d) (sym writing.schema_is) ∙ found.0 in
    insert_tells schema H txns c.args.self.now c.args.writing.now writing c.args.self.now.text.items name row c.put_row.new.self c.put_row.new.writing c.say-in-Ok-false.new.self (ap (λ (s : Sessions). s.schema.now) c.say-in-Ok-false.ensures.kept) (ap (λ (s : Sessions). s.store) c.say-in-Ok-false.ensures.kept) c.say-in-Ok-false.result false
    (subst (λ (b : Bool). AnswersStep TellsRow schema H txns (put name row) c.args.writing.now (Ok b) c.put_row.new.self c.put_row.new.writing) c.in-Ok-false.field-0-test (c.in-Ok-false.ensures.done schema H txns name writing named))
    (subst (λ (old : Bytes). OnOk c.say-in-Ok-false.result (c.say-in-Ok-false.new.self.text.items ≡ old ++ reply_text inserted)) (ap (λ (s : Sessions). s.text.items) c.put_row.ensures.kept) c.say-in-Ok-false.ensures.said) c.say-in-Ok-false.ensures.short

pub returns-in-Err-clause-told : goal.returns-in-Err-clause-told
returns-in-Err-clause-told c = λ schema H txns writing.
    let name = c.args.table.now in
    let row = c.args.row.now in
    let found = c.in_ok-at.ensures.found in
    let named = ap (λ (d : DbSchema). table_place name d) (sym writing.schema_is) ∙ found.0 in
    let there = ap (λ (d : DbSchema). slice_get d c.in_ok-at.at) (sym writing.schema_is) ∙ found.1 in
    subst (λ (e : Refused). TellsWrite schema H txns (told_write schema (state_now schema H txns c.args.writing.now.number c.args.writing.now.own) (write_lines.Insert name row)) c.args.writing.now c.args.self.now.text.items c.put_row.new.self c.put_row.new.writing (Err e)) (sym c.write_refused.ensures)
    (insert_refused schema H txns c.args.self.now c.args.writing.now writing c.args.self.now.text.items c.in_ok-at.at c.in_ok-at.def.now there name named c.put_row.new.self c.put_row.new.writing row c.in-Err.error (c.in-Err.ensures.done schema H txns name writing named))
