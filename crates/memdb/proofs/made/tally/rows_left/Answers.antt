use Rattle.std.proofs.Common.{◌≡◌, ◌∙◌, ap, subst}
use Rattle.std.specs.Prelude.{Ok, Err}
use Rattle.mdb_schema.specs.Answer.{Asked, ask}
use Rattle.mdb_schema.specs.Query.{Query}
use Rattle.mdb_schema.specs.ErrorsTold.{AnswersAsk}
use Rattle.mdb_schema.specs.declared.answer.Answer.{Answer}
use Rattle.mdb_schema.specs.declared.answer.Answer.TheVariants.{Many}
use Rattle.mdb_schema.specs.declared.ask_error.AskError.{AskError}
use Rattle.mdb_schema.specs.declared.ask_error.AskError.TheVariants as ask_errors
use Rattle.memdb.proofs.RowsTallied.{rows_asked}
use Rattle.memdb.proofs.made.tally.rows_left.Goals as goal

-- a question that is answered is refused for want of memory alone
only_memory : (told : Asked Answer) (a : Answer) (e : AskError) → told ≡ Ok a → AnswersAsk told (Err e) → e ≡ ask_errors.Memory
only_memory told a e is answer = subst (λ (t : Asked Answer). AnswersAsk t (Err e)) is answer

pub want_of_memory-requires : goal.want_of_memory-requires
want_of_memory-requires c =
    let v = c.args.last.now.view in
    let last = c.requires.1 in
    let asked = ap (λ (q : Query). ask v.schema v.state q) c.in_ok-question.ensures ∙ rows_asked c.requires.0 v last in
    only_memory _ (Many last.left.rows) c.in-Err.error asked c.in-Err.ensures
