use Rattle.std.proofs.Common.{Ok, Err, subst}
use Rattle.std.specs.Prelude.{⊤}
use Rattle.mdb_schema.specs.Wipe.{wiped_rows}
use Rattle.table_index.specs.Table.{TableRows, AnswersCheck}
use Rattle.table_index.specs.inner.IndexTrees.{plains, rows_held}
use Rattle.table_index.proofs.WipeAnswers.{check_passed, check_refused}
use Rattle.table_index.proofs.table.Table.check_take_all.Goals as goal

pub returns-in-Ok : goal.returns-in-Ok
returns-in-Ok c =
    let t = c.self.inside.def in
    subst (λ (s : TableRows). AnswersCheck {A = ⊤} (wiped_rows s.schema s.rows c.args.query.now) (Ok tt)) c.self.view_is
    (check_passed t (rows_held t (plains c.self.inside.trees.items)) c.args.query.now _ c.in-Ok.ensures.answers)

pub returns-in-Err : goal.returns-in-Err
returns-in-Err c =
    let t = c.self.inside.def in
    subst (λ (s : TableRows). AnswersCheck {A = ⊤} (wiped_rows s.schema s.rows c.args.query.now) (Err c.in-Err.error)) c.self.view_is
    (check_refused t (rows_held t (plains c.self.inside.trees.items)) c.args.query.now c.in-Err.error c.in-Err.ensures.answers)
