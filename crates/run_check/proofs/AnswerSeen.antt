-- The answer to a question of what is seen, by the index where it looks.
use Rattle.std.proofs.Common.{◌≡◌, ◌∙◌, ◌++◌, Bool, List, Some, Ok, Result, Err, IfOk, sym, ap, subst}
use Rattle.std.specs.Prelude.{slice_get}
use Rattle.std.specs.declared.alloc.AllocError.{AllocError}
use Rattle.mdb_datum.specs.Bytes.{Bytes}
use Rattle.mdb_datum.specs.Row.{Fields}
use Rattle.mdb_datum.proofs.ListPlaces.{there_within}
use Rattle.mdb_schema.specs.Answer.{answer, ask, ask_rows, is_exact, unknown_table}
use Rattle.mdb_schema.specs.Entries.{entries}
use Rattle.mdb_schema.specs.History.{History, state_at}
use Rattle.mdb_schema.specs.Query.{Query}
use Rattle.mdb_schema.specs.Schema.{DbSchema}
use Rattle.mdb_schema.specs.State.{IsLawfulState, Table}
use Rattle.mdb_schema.specs.Tests.{◌>>=◌, needed}
use Rattle.mdb_schema.specs.declared.answer.Answer.{Answer}
use Rattle.mdb_schema.specs.declared.ask.Ask.{Ask}
use Rattle.mdb_schema.proofs.EntriesOfRows.{sorted-entries}
use Rattle.mdb_schema.proofs.LawfulStates.{state_at_lawful, writes_keep}
use Rattle.mdb_schema.proofs.Tables.{table_at-some}
use Rattle.client_script.specs.Reply.{answer_text}
use Rattle.run_check.specs.declared.lookup.Lookup as code
use Rattle.run_check.specs.declared.sight.Sight.{Sight}
use Rattle.run_check.specs.declared.store.Store as store
use Rattle.run_check.specs.inner.AnswerView.{KeysRise, answer_at, has_row}
use Rattle.run_check.specs.inner.EditView.{seen_of}
use Rattle.run_check.specs.inner.IndexView.{KeyVersions}
use Rattle.run_check.specs.inner.LookupView.{IsLookup}
use Rattle.run_check.specs.inner.StoreView.{Begun, IsSightOf, StandsFor, first_writes, indexes_at, state_seen}
use Rattle.run_check.proofs.GuardedAnswers.{rows_at}
use Rattle.run_check.proofs.Watched.{watched_index}

module _ (schema : DbSchema) (H : History) (txns : List Begun) (st : store.Store) (stands : StandsFor schema H txns st) (q : Query) (l : code.Lookup) (look : IsLookup schema q l) (s : Sight) (sight : IsSightOf H txns s) where
  -- the rows of its table
  lawful : IsLawfulState schema (state_seen schema H txns s)
  lawful = writes_keep schema (state_at schema H s.commits) (first_writes txns s.own) (state_at_lawful schema H s.commits)

  rows : (r : List Fields) × (slice_get (state_seen schema H txns s) l.table ≡ Some r)
  rows = rows_at schema (state_seen schema H txns s) l.table look.table lawful look.there

  -- the index where it looks
  pub index_there : (x : KeyVersions) × (slice_get (indexes_at st l.table) l.index ≡ Some x)
  index_there = there_within (indexes_at st l.table) l.index (watched_index schema H txns st stands q l look)

  abbrev index : KeyVersions
  index = index_there.0

  held : seen_of s index ≡ entries look.table look.at.index rows.0
  held = (stands.each l.table l.index look.table look.at.index index look.there look.index index_there.1).seen s rows.0 sight rows.1

  pub index_rises : KeysRise (seen_of s index_there.0)
  index_rises = subst KeysRise (sym held) (sorted-entries look.table look.at.index rows.0)

  pub answer_is : ask schema (state_seen schema H txns s) q ≡ Ok (answer_at q.ask l (seen_of s index))
  answer_is =
      let here : Table = record { place = l.table; schema = look.table; rows = rows.0 } in
      ap (λ o. needed unknown_table o >>= (λ (t : Table). ask_rows t.schema t.rows q))
      (table_at-some schema (state_seen schema H txns s) q.table here (record { place = look.named; schema = look.there; rows = rows.1 }))
      ∙ ap (λ o. o >>= (λ at. Ok (answer q.ask (is_exact at.index q) at.key (entries look.table at.index rows.0)))) look.looked
      ∙ ap (λ es. Ok (answer q.ask (is_exact look.at.index q) look.at.key es)) (sym held)
      ∙ ap (λ b. Ok (answer q.ask b look.at.key (seen_of s index))) (sym look.exact)
      ∙ ap (λ k. Ok (answer q.ask l.exact k (seen_of s index))) (sym look.key)

  -- what was written is the answer
  abbrev IsWritten : Ask → Bytes → Bytes → Result Bool AllocError → Type 0
  IsWritten a old new r = IfOk r (λ found. let told = answer_at a l (seen_of s index_there.0) in (new ≡ old ++ answer_text told) × (found ≡ has_row told))

  pub answer_written : (a : Ask) (old new : Bytes) (r : Result Bool AllocError) → q.ask ≡ a → IsWritten a old new r
      → IfOk r (λ found. (told : Answer) × (ask schema (state_seen schema H txns s) q ≡ Ok told) × (new ≡ old ++ answer_text told) × (found ≡ has_row told))
  answer_written a old new (Err e) asked written = tt
  answer_written a old new (Ok found) asked written =
      let told = answer_at a l (seen_of s index) in
      (told, answer_is ∙ ap (λ (b : Ask). Ok (answer_at b l (seen_of s index))) asked, written.0, written.1)
