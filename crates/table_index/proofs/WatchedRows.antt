-- The answer to a question that is watched, and where it was looked up.
use Rattle.std.proofs.Common.{◌≡◌, ◌∙◌, ℕ, List, Bool, true, Some, option_map, slice_get, Result, Ok, Err, IfOk, MatchResult, sym, ap, subst}
use Rattle.mdb_schema.specs.Answer.{Asked, Lookup, lookup_of}
use Rattle.mdb_schema.specs.Query.{Query}
use Rattle.mdb_schema.specs.ErrorsTold.{AnswersAsk, ask_error}
use Rattle.mdb_schema.specs.Schema.{TableSchema}
use Rattle.mdb_schema.specs.declared.answer.Answer.{Answer}
use Rattle.mdb_schema.specs.declared.ask.Ask.{Ask}
use Rattle.mdb_schema.specs.declared.ask_error.AskError.{AskError}
use Rattle.mdb_schema.specs.declared.ask_error.AskError.TheVariants.{Memory}
use Rattle.radix_node.specs.Cells.{CellTree}
use Rattle.table_index.specs.Spot.{SpotOf}
use Rattle.table_index.specs.Table.{TableRows}
use Rattle.table_index.specs.Watched.{AnswersWatch, IsSpot, cell_of, watch_in}
use Rattle.table_index.specs.declared.watched.Watched.{Watched}
use Rattle.table_index.specs.inner.Lookups.{AnswersLookup, IsSpotIn}

-- ---- the answer without its watch

abbrev pub unwatched : Result Watched AskError → Result Answer AskError
unwatched (Ok w) = Ok w.answer
unwatched (Err e) = Err e

pub answer_alone : (r : Result Watched AskError) (a : Answer) → MatchResult r (λ w. w.answer ≡ a) (λ e. e ≡ Memory) → MatchResult (unwatched r) (λ x. x ≡ a) (λ e. e ≡ Memory)
answer_alone (Ok w) a h = h
answer_alone (Err e) a h = h

watched_from : (told : Asked Answer) (r : Result Watched AskError) → AnswersAsk told (unwatched r) → AnswersWatch true told r
watched_from (Ok a) (Ok w) h = h
watched_from (Ok a) (Err e) h = h
watched_from (Err why) (Ok w) h = cc
watched_from (Err why) (Err e) h = let same : e ≡ ask_error why = cc in ap Err same

-- the question may be watched
pub watched_answer : (allowed : Bool) (told : Asked Answer) (r : Result Watched AskError) → allowed ≡ true → AnswersAsk told (unwatched r) → AnswersWatch allowed told r
watched_answer allowed told r may h = subst (λ (b : Bool). AnswersWatch b told r) (sym may) (watched_from told r h)

-- ---- where it was looked up

looked : (told : Asked Lookup) (at : Lookup) → AnswersLookup told (Ok at) → told ≡ Ok at
looked (Ok x) at e = ap Ok (sym e)
looked (Err why) at e = cc

module _ (t : TableSchema) (trees : List CellTree) (now : TableRows) (schema : t ≡ now.schema) (all : trees ≡ now.trees) (word : Ask) (q : Query) (same : word ≡ q.ask) (at : Lookup)
    (told : AnswersLookup (lookup_of t (record q { ask = word })) (Ok at)) (tree : CellTree) (there : slice_get trees at.place ≡ Some tree) where
  looks_there : lookup_of now.schema q ≡ Ok at
  looks_there =
      ap (λ (s : TableSchema). lookup_of s q) (sym schema)
      ∙ looked (lookup_of t q) at (subst (λ (a : Ask). AnswersLookup (lookup_of t (record q { ask = a })) (Ok at)) same told)

  spot_from : (s : SpotOf) → IsSpotIn at q tree s → IsSpot now q s
  spot_from s i = record {
    at = at;
    looked = looks_there;
    index = i.index;
    key = i.key;
    exact = i.exact;
    cell =
        ap (λ (ts : List CellTree). cell_of ts s.index s.exact s.key) (sym all)
        ∙ ap (λ (p : ℕ). option_map (watch_in s.exact s.key) (slice_get trees p)) i.index
        ∙ ap (option_map (watch_in s.exact s.key)) there
        ∙ ap Some (sym i.watch);
  }

  pub spot_of : (r : Result Watched AskError) → IfOk r (λ w. IsSpotIn at q tree w.spot) → IfOk r (λ w. IsSpot now q w.spot)
  spot_of (Ok w) h = spot_from w.spot h
  spot_of (Err e) h = tt
