-- Where a question looks, as the code answers it.
use Rattle.std.specs.Prelude.{◌≡◌, [], Option, Result, unwrap_or}
use Rattle.mdb_encode.specs.Bytes.{Bytes}
use Rattle.mdb_schema.specs.Answer.{Asked, Lookup}
use Rattle.mdb_schema.specs.ErrorsTold.{AnswersPart}
use Rattle.mdb_schema.specs.Query.{Query}
use Rattle.mdb_schema.specs.declared.ask_error.AskError.{AskError}
use Rattle.radix_node.specs.Cells.{CellTree}
use Rattle.table_index.specs.Spot.{SpotOf}
use Rattle.table_index.specs.Watched.{looks_up, watch_in}

-- the key of a question, empty where it has no argument
abbrev pub key_or_empty : Option Bytes → Bytes
key_or_empty key = unwrap_or key []

-- the key of a question, or want of memory; a refusal is always told
abbrev pub AnswersAskedKey : Asked Bytes → Result (Option Bytes) AskError → Type 0
AnswersAskedKey = AnswersPart (λ k found. key_or_empty found ≡ k)

-- where a question looks, or want of memory; a refusal is always told
abbrev pub AnswersLookup : Asked Lookup → Result Lookup AskError → Type 0
AnswersLookup = AnswersPart (λ at l. l ≡ at)

-- a spot is that of a question that looks there, in the tree of the index
pub record IsSpotIn (at : Lookup) (q : Query) (tree : CellTree) (s : SpotOf) : Type 0 where
  pub index : s.index ≡ at.place
  pub key : s.key ≡ at.key
  pub exact : s.exact ≡ looks_up at.index q
  pub watch : s.watch ≡ watch_in s.exact s.key tree
