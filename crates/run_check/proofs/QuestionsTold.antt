-- What a question is told, as the code asks it.
use Rattle.std.proofs.Common.{◌≡◌, ◌∙◌, ◌++◌, ℕ, List, Option, Some, None, Ok, Err, Result, refl, sym, ap, subst, inl, inr}
use Rattle.std.specs.Prelude.{option_and_then, option_map, slice_get}
use Rattle.std.specs.Result.{IsErrAnd}
use Rattle.mdb_datum.specs.Bytes.{Bytes}
use Rattle.mdb_datum.specs.Row.{Fields}
use Rattle.mdb_schema.specs.Answer.{AskRefusal, Asked, Lookup, ask, ask_rows, answer, is_exact, lookup_of, unknown_table}
use Rattle.mdb_schema.specs.Entries.{entries}
use Rattle.mdb_schema.specs.History.{History, state_at}
use Rattle.mdb_schema.specs.Query.{Query}
use Rattle.mdb_schema.specs.ErrorsTold.{ask_error}
use Rattle.mdb_schema.specs.Schema.{DbSchema, TableSchema, table_place}
use Rattle.mdb_schema.specs.State.{IsLawfulState, State, Table}
use Rattle.mdb_schema.specs.Tests.{◌>>=◌, needed}
use Rattle.mdb_schema.specs.declared.answer.Answer.{Answer}
use Rattle.mdb_schema.specs.declared.ask_error.AskError.{AskError}
use Rattle.mdb_schema.specs.declared.ask.Ask.{Ask}
use Rattle.mdb_schema.proofs.LawfulStates.{state_at_lawful, writes_keep}
use Rattle.client_script.specs.Client as plain
use Rattle.client_script.specs.Reply.{answered, answer_text}
use Rattle.client_script.specs.Turn as turn
use Rattle.client_script.specs.Turn.{Turn, question_turn}
use Rattle.client_script.specs.RuleName.{rule_name}
use Rattle.client_script.proofs.RuleNames.{question_same, rule_of_question}
use Rattle.run_check.specs.declared.lookup.Lookup as code
use Rattle.client_script.specs.declared.rule.Rule.TheVariants as rules
use Rattle.run_check.specs.declared.session.Refused.{Refused}
use Rattle.run_check.specs.declared.session.Refused.TheVariants as refusals
use Rattle.run_check.specs.declared.sight.Sight.{Sight}
use Rattle.run_check.specs.inner.AskedView.{question_refused, refused_by_rule}
use Rattle.run_check.specs.inner.ClientView.{sight_known}
use Rattle.run_check.specs.inner.LookupView.{IsLookup, TellsNoLookup, looked_up}
use Rattle.run_check.specs.inner.SessionView.{TellsReply, TellsTurn}
use Rattle.run_check.specs.inner.StoreView.{Begun, first_writes, state_seen}
use Rattle.run_check.proofs.GuardedAnswers.{rows_at}

-- ---- a question that is refused

abbrev made : ℕ → TableSchema → List Fields → Table
made place t rows = record { place = place; schema = t; rows = rows }

abbrev rows_there : State → ℕ → TableSchema → Option Table
rows_there s place t = option_map (made place t) (slice_get s place)

abbrev asks_at : Query → Option Table → Asked Answer
asks_at q o = needed unknown_table o >>= (λ (t : Table). ask_rows t.schema t.rows q)

module _ (schema : DbSchema) (s : State) (lawful : IsLawfulState schema s) (q : Query) (why : AskRefusal) where
  by_schema : (place : ℕ) (o : Option TableSchema) → slice_get schema place ≡ o → (needed unknown_table o >>= (λ (t : TableSchema). lookup_of t q)) ≡ Err why
      → asks_at q (option_and_then (rows_there s place) o) ≡ Err why
  by_schema place None there e = let same : unknown_table ≡ why = cc in ap Err same
  by_schema place (Some t) there e =
      let r = rows_at schema s place t lawful there in
      ap (λ (o : Option (List Fields)). asks_at q (option_map (made place t) o)) r.1
      ∙ ap (λ (l : Asked Lookup). l >>= (λ (at : Lookup). Ok (answer q.ask (is_exact at.index q) at.key (entries t at.index r.0)))) e

  by_place : (o : Option ℕ) → (needed unknown_table o >>= (λ (place : ℕ). needed unknown_table (slice_get schema place) >>= (λ (t : TableSchema). lookup_of t q))) ≡ Err why
      → asks_at q (option_and_then (λ (place : ℕ). option_and_then (rows_there s place) (slice_get schema place)) o) ≡ Err why
  by_place None e = let same : unknown_table ≡ why = cc in ap Err same
  by_place (Some place) e = by_schema place (slice_get schema place) refl e

  pub ask_refused : looked_up schema q ≡ Err why → ask schema s q ≡ Err why
  ask_refused e = by_place (table_place q.table schema) e

-- a refusal is told by its rule
pub refused_by : (why : AskRefusal) → question_refused (ask_error why) ≡ refusals.By (rules.Question (ask_error why))
refused_by why = ap refused_by_rule (rule_of_question why)

-- ---- a question of what is seen

module _ (schema : DbSchema) (H : History) (txns : List Begun) (v : plain.Client) (s : Sight) (q : Query) where
  abbrev seen : State
  seen = state_seen schema H txns s

  lawful : IsLawfulState schema seen
  lawful = writes_keep schema (state_at schema H s.commits) (first_writes txns s.own) (state_at_lawful schema H s.commits)

  abbrev its_turn : Asked Answer → Turn
  its_turn a = turn.asked a >>= (λ (x : Answer). Ok (answered x, v))

  pub question_told : (a : Answer) (old new : Bytes) → ask schema seen q ≡ Ok a → new ≡ old ++ answer_text a → TellsReply (question_turn schema H v (Ok (sight_known txns s)) q) old new v
  question_told a old new is text = record { reply = answered a; is = ap its_turn is; text = text }

  pub question_not_told : (error : AskError) (r : Result (Unit {0}) Refused) (old : Bytes) → IsErrAnd r (λ e. e ≡ question_refused error) → TellsNoLookup schema q error
      → TellsTurn schema (question_turn schema H v (Ok (sight_known txns s)) q) v v old old r
  question_not_told error (Ok u) old is none = absurd is
  question_not_told error (Err e) old is (inl memory) =
      subst (λ (x : Refused). TellsTurn schema (question_turn schema H v (Ok (sight_known txns s)) q) v v old old (Err x)) (sym (is ∙ ap question_refused memory)) tt
  question_not_told error (Err e) old is (inr n) =
      let why = n.0 in
      let rule : e ≡ refusals.By (rules.Question (ask_error why)) = is ∙ ap question_refused n.2 ∙ refused_by why in
      let told : question_turn schema H v (Ok (sight_known txns s)) q ≡ Err (rule_name schema (rules.Question (ask_error why))) =
      ap its_turn (ask_refused schema seen lawful q why n.1) ∙ ap Err (sym (question_same why)) in
      subst (λ (x : Refused). TellsTurn schema (question_turn schema H v (Ok (sight_known txns s)) q) v v old old (Err x)) (sym rule) (told, refl)

-- ---- where a question looks

pub its_lookup : (schema : DbSchema) (q : Query) (a : Ask) (l : code.Lookup) → a ≡ q.ask → IsLookup schema (record q { ask = a }) l → IsLookup schema q l
its_lookup schema q a l same look = subst (λ (b : Ask). IsLookup schema (record q { ask = b }) l) same look

pub no_lookup : (schema : DbSchema) (q : Query) (a : Ask) (e : AskError) → a ≡ q.ask → TellsNoLookup schema (record q { ask = a }) e → TellsNoLookup schema q e
no_lookup schema q a e same none = subst (λ (b : Ask). TellsNoLookup schema (record q { ask = b }) e) same none
