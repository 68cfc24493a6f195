use Rattle.std.proofs.Common.{◌≡◌, ◌∙◌, ℕ, List, ap, get_or, subst, MatchResult}
use Rattle.mdb_datum.specs.Row.{Pair}
use Rattle.mdb_schema.specs.Answer.{answer, is_exact}
use Rattle.mdb_schema.specs.declared.ask_error.AskError.TheVariants.{Memory}
use Rattle.table_index.specs.Table.{TableRows}
use Rattle.table_index.specs.inner.IndexTrees.{plains}
use Rattle.table_index.proofs.AskedRows.{answered, pairs_read, refused}
use Rattle.table_index.proofs.table.Table.ask.Goals as goal

pub returns-in-Err : goal.returns-in-Err
returns-in-Err c =
    refused c.self.inside.def (plains c.self.inside.trees.items) (c.args.self.now.schema, c.args.self.now.rows) (ap (λ (t : TableRows). (t.schema, t.rows)) c.self.view_is) c.ask.result c.args.query.now c.ask.ensures c.in-Err.error c.in-Err.ensures.answers

pub returns-in-Ok : goal.returns-in-Ok
returns-in-Ok c =
    let t = c.self.inside.def in
    let trees = c.self.inside.trees.items in
    let q = c.args.query.now in
    let at = c.in-Ok.at in
    let read = c.index.result.now in
    let is : read ≡ get_or trees at.place read = c.index.ensures ∙ ap (λ (place : ℕ). get_or trees place read) c.place.ensures in
    let pairs = pairs_read t trees c.self.invariant at.place at.index c.in-Ok.ensures.there read is in
    answered t (plains trees) (c.args.self.now.schema, c.args.self.now.rows) (ap (λ (x : TableRows). (x.schema, x.rows)) c.self.view_is) c.ask.result q c.ask.ensures at c.answer_at.result c.in-Ok.ensures.answers
    (subst (λ (es : List Pair). MatchResult c.answer_at.result (λ a. a ≡ answer q.ask (is_exact at.index q) at.key es) (λ e. e ≡ Memory)) pairs c.answer_at.ensures)
