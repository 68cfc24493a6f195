use Rattle.std.proofs.Common.{◌≡◌, ◌∙◌, ◌<◌, ℕ, List, Err, Some, true, ap, get_or, length, slice_get, refl, subst, sym, arith, MatchResult}
use Rattle.std.proofs.lemmas.List.{length-map}
use Rattle.std.proofs.lemmas.Option.{slice_get_read}
use Rattle.mdb_datum.specs.Row.{Pair}
use Rattle.mdb_schema.specs.Answer.{answer, ask_rows, is_exact}
use Rattle.mdb_schema.specs.declared.ask_error.AskError.TheVariants.{Memory}
use Rattle.radix_node.specs.Cells.{plain_of}
use Rattle.table_index.specs.Table.{TableRows}
use Rattle.table_index.specs.Watched.{is_watchable}
use Rattle.table_index.specs.inner.IndexTrees.{plains}
use Rattle.table_index.proofs.AskedRows.{answered, pairs_read, place_there, refused}
use Rattle.table_index.proofs.WatchedRows.{answer_alone, spot_of, unwatched, watched_answer}
use Rattle.table_index.proofs.table.Table.ask_watch.Goals as goal

pub returns-in-Err-clause-answers : goal.returns-in-Err-clause-answers
returns-in-Err-clause-answers c =
    let now = c.args.self.now in
    let q = c.args.query.now in
    let watchable : is_watchable q.ask ≡ true = sym (c.is_watchable.ensures ∙ ap is_watchable c.ask.ensures) ∙ c.if-not-is_watchable.false in
    watched_answer (is_watchable q.ask) (ask_rows now.schema now.rows q) (Err c.in-Err.error) watchable
    (refused c.self.inside.def (plains c.self.inside.trees.items) (now.schema, now.rows) (ap (λ (t : TableRows). (t.schema, t.rows)) c.self.view_is) c.ask-2.result q c.ask-2.ensures c.in-Err.error c.in-Err.ensures.answers)

pub returns-in-Ok-clause-answers : goal.returns-in-Ok-clause-answers
returns-in-Ok-clause-answers c =
    let now = c.args.self.now in
    let t = c.self.inside.def in
    let trees = c.self.inside.trees.items in
    let q = c.args.query.now in
    let at = c.in-Ok.at in
    let read = c.index.result.now in
    let is : read ≡ get_or trees at.place read = c.index.ensures ∙ ap (λ (place : ℕ). get_or trees place read) c.place.ensures in
    let pairs = pairs_read t trees c.self.invariant at.place at.index c.in-Ok.ensures.there read is in
    let watchable : is_watchable q.ask ≡ true = sym (c.is_watchable.ensures ∙ ap is_watchable c.ask.ensures) ∙ c.if-not-is_watchable.false in
    watched_answer (is_watchable q.ask) (ask_rows now.schema now.rows q) c.watched_at.result watchable
    (answered t (plains trees) (now.schema, now.rows) (ap (λ (x : TableRows). (x.schema, x.rows)) c.self.view_is) c.ask-2.result q c.ask-2.ensures at (unwatched c.watched_at.result) c.in-Ok.ensures.answers
    (subst (λ (es : List Pair). MatchResult (unwatched c.watched_at.result) (λ a. a ≡ answer q.ask (is_exact at.index q) at.key es) (λ e. e ≡ Memory)) pairs
    (answer_alone c.watched_at.result _ c.watched_at.ensures.answers)))

pub returns-in-Ok-clause-spot : goal.returns-in-Ok-clause-spot
returns-in-Ok-clause-spot c =
    let now = c.args.self.now in
    let t = c.self.inside.def in
    let trees = c.self.inside.trees.items in
    let q = c.args.query.now in
    let at = c.in-Ok.at in
    let read = c.index.result.now in
    let is : read ≡ get_or trees at.place read = c.index.ensures ∙ ap (λ (place : ℕ). get_or trees place read) c.place.ensures in
    let less = place_there t (plains trees) c.self.invariant at.place at.index c.in-Ok.ensures.there in
    let count = length-map trees plain_of in
    let within : at.place < length trees = omega (arith, less, count) in
    let there : slice_get trees at.place ≡ Some read = slice_get_read trees (length trees) at.place read refl within is in
    spot_of t trees now (ap (λ (x : TableRows). x.schema) c.self.view_is) (ap (λ (x : TableRows). x.trees) c.self.view_is) c.ask-2.result q c.ask-2.ensures at c.in-Ok.ensures.answers read there c.watched_at.result
    c.watched_at.ensures.spot
