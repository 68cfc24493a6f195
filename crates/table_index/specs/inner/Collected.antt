-- The answer that rows are collected into.
use Rattle.std.specs.Prelude.{List}
use Rattle.mdb_datum.specs.Pairs.{first_item}
use Rattle.mdb_datum.specs.Row.{Fields}
use Rattle.mdb_schema.specs.declared.answer.Answer.{Answer}
use Rattle.mdb_schema.specs.declared.answer.Answer.TheVariants.{One, Many}
use Rattle.mdb_schema.specs.declared.ask.Ask.{Ask}
use Rattle.mdb_schema.specs.declared.ask.Ask.TheVariants.{First, Last, Longest}

-- one row at most, or all, by the question's word
abbrev pub answer_of : Ask → List Fields → Answer
answer_of First rows = One (first_item rows)
answer_of Last rows = One (first_item rows)
answer_of Longest rows = One (first_item rows)
answer_of word rows = Many rows
