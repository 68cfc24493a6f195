-- Questions of a read state, as they are written.
use Rattle.std.specs.Prelude.{Ok, Err, ⊤}
use Rattle.client_script.specs.RefusedWord.{question_word}
use Rattle.client_script.specs.Reply.{Reply, answered, refused}
use Rattle.mdb_schema.specs.Answer.{Asked}
use Rattle.mdb_schema.specs.declared.answer.Answer.{Answer}
use Rattle.mdb_schema.specs.declared.ask.Ask.{Ask}
use Rattle.mdb_schema.specs.declared.ask.Ask.TheVariants.{Get, GetReverse, Lower, ReverseLower}

-- the reply to a question: the answer, or the rule that it breaks
abbrev pub asked_reply : Asked Answer → Reply
asked_reply (Ok a) = answered a
asked_reply (Err why) = refused (question_word why)

-- questions that a list of rows answers
abbrev pub IsListed : Ask → Type 0
IsListed Get = ⊤
IsListed GetReverse = ⊤
IsListed Lower = ⊤
IsListed ReverseLower = ⊤
IsListed a = ⊥
