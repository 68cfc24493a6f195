use Rattle.std.proofs.Common.{◌≡◌, ◌∙◌, List, false, sym, ap, subst}
use Rattle.mdb_schema.specs.Answer.{ask_rows}
use Rattle.mdb_schema.specs.ErrorsTold.{AnswersAsk}
use Rattle.radix_txn.specs.Txn.{Txn}
use Rattle.table_index.specs.Table.{TableChange}
use Rattle.table_index.specs.inner.IndexTrees.{AreTrees, nodes_of, rows_held}
use Rattle.table_index.proofs.table_txn.TableTxn.ask.Goals as goal

pub ask_present-requires : goal.ask_present-requires
ask_present-requires c =
    let sound : c.self.inside.spoiled ≡ false = ap (λ (t : TableChange). t.spoiled) c.self.view_is ∙ c.requires.sound in
    subst (λ (txns : List Txn). AreTrees c.self.inside.def (nodes_of txns)) (sym c.deref.ensures.value) (c.self.invariant.trees sound)

pub returns-clause-answers : goal.returns-clause-answers
returns-clause-answers c =
    let query = c.args.query.now in
    subst (λ (t : TableChange). AnswersAsk (ask_rows t.schema t.rows query) c.ask_present.result) c.self.view_is
    (subst (λ (txns : List Txn). AnswersAsk (ask_rows c.self.inside.def (rows_held c.self.inside.def (nodes_of txns)) query) c.ask_present.result) c.deref.ensures.value c.ask_present.ensures)
