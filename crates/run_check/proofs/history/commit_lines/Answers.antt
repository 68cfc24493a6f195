use Rattle.std.proofs.Common.{◌≤◌, ◌∙◌, ◌+◌, ◌++◌, List, [], arith, sym, ap, subst, refl, inl, inr}
use Rattle.std.proofs.lemmas.List.{append-nil}
use Rattle.client_script.specs.declared.command.Command.{Command}
use Rattle.client_script.specs.declared.command.WriteCommand.{WriteCommand}
use Rattle.run_check.specs.Commits.{accepted}
use Rattle.run_check.specs.declared.store.Store.{Store}
use Rattle.run_check.specs.CommitView.{write_of, writes_between}
use Rattle.run_check.specs.inner.HistoryView.{Makes}
use Rattle.run_check.proofs.CommitsPrinted.{no_writes, one_more_write}
use Rattle.run_check.proofs.LinesMade.{line_made, none_between, none_made, not_write, to_end}
use Rattle.run_check.proofs.MadeOneByOne.{made_none, still_begun}
use Rattle.run_check.proofs.history.commit_lines.Goals.{in-Some+in-Write+in_ok-commit_line, in-Some+in_default-command, in_default}
use Rattle.run_check.proofs.history.commit_lines.Goals as goal

pub loop-at-init : goal.loop-at-init
loop-at-init c = (
  none_made c.args.schema.now c.args.commit.now.number c.args.store.now c.args.store.now [] (writes_between c.args.commit.now.first c.args.commit.now.first c.args.script.now) (made_none c.args.schema.now c.args.commit.now.number c.args.store.now)
      (no_writes c.args.commit.now.first c.args.script.now),
  inl refl,
)

pub commit_line-requires : goal.commit_line-requires
commit_line-requires c = still_begun c.args.schema.now c.args.commit.now.number (λ s. accepted c.args.schema.now s (writes_between c.args.commit.now.first c.loop-at.at c.args.script.now)) c.args.store.now c.loop-at.store c.loop-at.invariant.0 c.requires

pub loop-at-preserved : goal.loop-at-preserved
loop-at-preserved c =
    let schema = c.args.schema.now in
    let number = c.args.commit.now.number in
    let first = c.args.commit.now.first in
    let at = c.loop-at.at in
    let script = c.args.script.now in
    let old = c.args.store.now in
    let mid = c.loop-at.store in
    let before = writes_between first at script in
    let now = writes_between first (at + 1) script in
    let made = c.loop-at.invariant.0 in
    let reach : at + 1 ≤ c.args.commit.now.«end» = omega (arith, c.loop-at-test.true) in (
      elim c.match-get.branch [
        | in-Some+in-Write+in_ok-commit_line w ↦ subst (λ (st : Store). Makes schema number (λ s. accepted schema s now) old st) (sym w.store-is)
            (line_made schema number old mid before now made w.commit_line.new.store w.in-Write.write
            (one_more_write first at script w.in-Some.line.now (sym w.in-Some.ensures) c.loop-at.auto.at ∙ ap (λ (l : Command). before ++ write_of l) w.in-Write.is) w.in_ok-commit_line.ensures)
        | in-Some+in_default-command w ↦ subst (λ (st : Store). Makes schema number (λ s. accepted schema s now) old st) (sym w.store-is)
            (none_made schema number old mid before now made
            (one_more_write first at script w.in-Some.line.now (sym w.in-Some.ensures) c.loop-at.auto.at ∙ ap (λ (ws : List WriteCommand). before ++ ws) (not_write w.in-Some.line.now.command w.in_default-command.not-Write) ∙ append-nil before))
        | in_default w ↦ subst (λ (st : Store). Makes schema number (λ s. accepted schema s now) old st) (sym w.store-is) (none_made schema number old mid before now made (none_between first at script (sym w.in_default.ensures)))
      ],
      inr reach,
    )

pub returns : goal.returns
returns c =
    subst (λ (ls : List WriteCommand). Makes c.args.schema.now c.args.commit.now.number (λ s. accepted c.args.schema.now s ls) c.args.store.now c.loop-at.store)
    (to_end c.args.commit.now.first c.args.commit.now.«end» c.loop-at.at c.args.script.now c.loop-at.invariant.1 c.loop-at-test.false) c.loop-at.invariant.0
