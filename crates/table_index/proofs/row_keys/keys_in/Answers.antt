use Rattle.std.proofs.Common.{sym, subst, Err}
use Rattle.mdb_encode.specs.KeyAnswers.{AnswersKeys}
use Rattle.mdb_encode.specs.Indexer.{Indexer}
use Rattle.mdb_encode.specs.Keys.{keys}
use Rattle.mdb_schema.specs.Write.{keys_at}
use Rattle.mdb_schema.specs.declared.write_error.WriteError.{WriteError}
use Rattle.mdb_schema.specs.ErrorsTold.{TellsRefusal}
use Rattle.mdb_schema.proofs.RefusalsTold.{keys_refused}
use Rattle.table_index.proofs.row_keys.keys_in.Goals as goal

pub returns-in-Err-clause-answers : goal.returns-in-Err-clause-answers
returns-in-Err-clause-answers c =
    subst (λ (e : WriteError). TellsRefusal (keys_at c.args.place (keys c.args.index.now.indexer c.args.row.now)) e) (sym c.of_key.ensures)
    (keys_refused c.args.place (keys c.args.index.now.indexer c.args.row.now) c.in-Err.error
    (subst (λ (i : Indexer). AnswersKeys (keys i c.args.row.now) (Err c.in-Err.error)) c.kind.ensures.indexer c.in-Err.ensures))
