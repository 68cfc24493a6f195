use Rattle.std.proofs.Common.{◌∙◌, ◌<◌, List, length, take, Some, ap, sym, subst, arith}
use Rattle.std.proofs.lemmas.List.{take_all}
use Rattle.std.proofs.lemmas.Option.{slice_get-get_or}
use Rattle.mdb_datum.specs.Row.{Fields}
use Rattle.run_check.specs.inner.HistoryView.{Makes, removed_each}
use Rattle.run_check.proofs.MadeOneByOne.{made_none, one_removed, still_begun}
use Rattle.run_check.proofs.history.remove_rows.Goals as goal

pub loop-at-init : goal.loop-at-init
loop-at-init c = made_none c.args.schema.now c.args.number c.args.store.now

pub commit_edit-requires : goal.commit_edit-requires
commit_edit-requires c = still_begun c.args.schema.now c.args.number (removed_each c.args.schema.now c.args.table.now (take c.loop-at.at c.args.rows.now)) c.args.store.now c.loop-at.store c.loop-at.invariant c.requires

pub loop-at-preserved : goal.loop-at-preserved
loop-at-preserved c =
    let within : c.loop-at.at < length c.args.rows.now = omega arith in
    one_removed c.args.schema.now c.args.table.now c.args.number c.args.store.now c.loop-at.store c.commit_edit.new.store c.args.rows.now c.loop-at.at c.index-rows-at.result
    (slice_get-get_or c.args.rows.now c.loop-at.at c.index-rows-at.result within ∙ ap Some (sym c.index-rows-at.is)) c.loop-at.invariant c.in_ok-commit_edit.ensures

pub returns : goal.returns
returns c =
    subst (λ (rs : List Fields). Makes c.args.schema.now c.args.number (removed_each c.args.schema.now c.args.table.now rs) c.args.store.now c.loop-at.store)
    (take_all c.loop-at.at c.args.rows.now c.loop-at-test.false) c.loop-at.invariant
