-- When a walk for a question is right: it gives the rows of the answer, and is refused as the
-- question is.
use Rattle.std.specs.Prelude.{◌≡◌, List, Result, Ok, Err, MatchResult, option_to_list}
use Rattle.mdb_datum.specs.Row.{Fields}
use Rattle.mdb_schema.specs.Answer as asked
use Rattle.mdb_schema.specs.ErrorsTold.{ask_error}
use Rattle.mdb_schema.specs.declared.answer.Answer.{Answer}
use Rattle.mdb_schema.specs.declared.answer.Answer.TheVariants.{One, Many}
use Rattle.mdb_schema.specs.declared.ask_error.AskError.{AskError}
use Rattle.mdb_schema.specs.declared.ask_error.AskError.TheVariants.{Memory}

-- the rows of an answer
abbrev pub answer_rows : Answer → List Fields
answer_rows (One row) = option_to_list row
answer_rows (Many rows) = rows

abbrev pub WalksAsk : asked.Asked Answer → Result (List Fields) AskError → Type 0
WalksAsk (Ok a) result = MatchResult result (λ rows. rows ≡ answer_rows a) (λ e. e ≡ Memory)
WalksAsk (Err r) result = result ≡ Err (ask_error r)
