use Rattle.std.proofs.Common.{List, [], OnOk, Option, ap, subst}
use Rattle.std.specs.Prelude.{unwrap_or}
use Rattle.client_script.specs.declared.line.Line.{Line}
use Rattle.run_check.specs.Commits.{accepted}
use Rattle.run_check.specs.CommitView.{writes_between}
use Rattle.run_check.specs.inner.HistoryView.{Makes}
use Rattle.run_check.proofs.history.commit_made.Goals as goal

pub returns-in-Some : goal.returns-in-Some
returns-in-Some c =
    let commit = c.args.commit.now in
    subst (λ (ls : List Line). OnOk c.commit_lines.result (Makes c.args.schema.now commit.number (λ s. accepted c.args.schema.now s (writes_between commit.first commit.«end» ls)) c.args.store.now c.commit_lines.new.store))
    (ap (λ (o : Option (List Line)). unwrap_or o []) c.in-Some.ensures) c.commit_lines.ensures
