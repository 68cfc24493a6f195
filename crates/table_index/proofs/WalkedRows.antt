-- A walk for a question gives the rows of its answer, and these make the answer.
use Rattle.std.proofs.Common.{◌≡◌, ◌∙◌, Bool, List, Option, Some, None, Result, Ok, Err, MatchResult, refl, ap}
use Rattle.std.specs.Prelude.{option_map, option_to_list}
use Rattle.mdb_datum.specs.Bytes.{Bytes}
use Rattle.mdb_datum.specs.Pairs.{first_item, last_item, longest_pair, prefixes_of}
use Rattle.mdb_datum.specs.Row.{Fields, Pair}
use Rattle.mdb_schema.specs.Answer.{Asked, answer, picked}
use Rattle.mdb_schema.specs.ErrorsTold.{AnswersAsk, ask_error}
use Rattle.mdb_schema.specs.declared.answer.Answer.{Answer}
use Rattle.mdb_schema.specs.declared.answer.Answer.TheVariants.{One}
use Rattle.mdb_schema.specs.declared.ask.Ask.{Ask}
use Rattle.mdb_schema.specs.declared.ask.Ask.TheVariants.{First, Last, Get, GetReverse, Lower, ReverseLower, Longest}
use Rattle.mdb_schema.specs.declared.ask_error.AskError.{AskError}
use Rattle.mdb_schema.specs.declared.ask_error.AskError.TheVariants.{Memory}
use Rattle.table_index.specs.Walks.{WalksAsk, answer_rows}
use Rattle.table_index.specs.inner.Collected.{answer_of}

pub walk_refused : (told : Asked Answer) (e : AskError) → AnswersAsk told (Err e) → WalksAsk told (Err e)
walk_refused (Ok a) e memory = memory
walk_refused (Err why) e told = let same : e ≡ ask_error why = cc in ap Err same

pub walked : (told : Asked Answer) (made : Answer) (result : Result (List Fields) AskError) → AnswersAsk told (Ok made) → MatchResult result (λ rows. rows ≡ answer_rows made) (λ e. e ≡ Memory) → WalksAsk told result
walked (Ok a) made (Ok rows) same is = is ∙ ap answer_rows same
walked (Ok a) made (Err e) same memory = memory
walked (Err why) made result told is = absurd cc

-- ---- the answer that its rows make

one_again : (row : Option Fields) → first_item (option_to_list row) ≡ row
one_again None = refl
one_again (Some row) = refl

pub answer_again : (word : Ask) (exact : Bool) (k : Bytes) (es : List Pair) → answer_of word (answer_rows (answer word exact k es)) ≡ answer word exact k es
answer_again First exact k es = ap One (one_again (first_item (picked exact k es)))
answer_again Last exact k es = ap One (one_again (last_item (picked exact k es)))
answer_again Get exact k es = refl
answer_again GetReverse exact k es = refl
answer_again Lower exact k es = refl
answer_again ReverseLower exact k es = refl
answer_again Longest exact k es = ap One (one_again (option_map (λ (e : Pair). e.1) (longest_pair (prefixes_of k es))))
