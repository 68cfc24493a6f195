use Rattle.std.proofs.Common.{OnOk, sym, subst}
use Rattle.mdb_schema.specs.Wipe.{wipe, wipe_by_prefix}
use Rattle.client_script.specs.declared.command.WriteCommand.{WriteCommand}
use Rattle.run_check.specs.Commits.{accepted_line, wiped}
use Rattle.run_check.specs.inner.HistoryView.{Makes}
use Rattle.run_check.proofs.CommitWrites.{on_both}
use Rattle.run_check.proofs.MadeOneByOne.{made_as}
use Rattle.run_check.proofs.WipeMade.{by_prefix}
use Rattle.run_check.proofs.history.commit_line.Goals as goal

pub returns-in-Insert : goal.returns-in-Insert
returns-in-Insert c =
    subst (λ (l : WriteCommand). OnOk c.commit_edit.result (Makes c.args.schema.now c.args.number (λ s. accepted_line c.args.schema.now s l) c.args.store.now c.commit_edit.new.store)) (sym c.in-Insert.is) c.commit_edit.ensures

pub returns-in-Delete : goal.returns-in-Delete
returns-in-Delete c =
    subst (λ (l : WriteCommand). OnOk c.commit_edit-in-Delete.result (Makes c.args.schema.now c.args.number (λ s. accepted_line c.args.schema.now s l) c.args.store.now c.commit_edit-in-Delete.new.store)) (sym c.in-Delete.is) c.commit_edit-in-Delete.ensures

pub returns-in-DeleteAll : goal.returns-in-DeleteAll
returns-in-DeleteAll c =
    subst (λ (l : WriteCommand). OnOk c.commit_wipe.result (Makes c.args.schema.now c.args.number (λ s. accepted_line c.args.schema.now s l) c.args.store.now c.commit_wipe.new.store)) (sym c.in-DeleteAll.is) c.commit_wipe.ensures

pub returns-then-is_prefix_name : goal.returns-then-is_prefix_name
returns-then-is_prefix_name c =
    let schema = c.args.schema.now in
    let q = c.in-DeletePrefix.query in
    let made = c.commit_wipe-then-is_prefix_name.ensures in
    subst (λ (l : WriteCommand). OnOk c.commit_wipe-then-is_prefix_name.result (Makes schema c.args.number (λ s. accepted_line schema s l) c.args.store.now c.commit_wipe-then-is_prefix_name.new.store)) (sym c.in-DeletePrefix.is)
    (on_both c.commit_wipe-then-is_prefix_name.result made made
    (λ one same. made_as schema c.args.number (λ s. wiped (wipe schema s q)) (λ s. wiped (wipe_by_prefix schema s q)) c.args.store.now c.commit_wipe-then-is_prefix_name.new.store
    (λ s lawful. sym (by_prefix schema s q (sym c.if-is_prefix_name.ensures))) one))
