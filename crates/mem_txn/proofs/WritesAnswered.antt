-- What a write transaction answers a write, of what its tables and its list of writes tell.
use Rattle.std.proofs.Common.{◌≡◌, ◌∙◌, ◌<◌, ◌≤◌, ◌+◌, ◌^◌, ◌++◌, ℕ, List, [], ◌∷◌, length, slice_get, append-nil, Bool, true, false, Option, Some, None, Result, Ok, Err, inl, inr, refl, sym, ap, subst}
use Rattle.std.specs.Prelude.{◌⊎◌, Contains, MatchOption, option_to_list}
use Rattle.mdb_datum.specs.Row.{Fields}
use Rattle.mdb_datum.proofs.ListPlaces.{there_within}
use Rattle.mdb_schema.specs.History.{after_writes, state_or, writes_in}
use Rattle.mdb_schema.specs.Schema.{TableSchema, DbSchema, table_place}
use Rattle.mdb_schema.specs.State.{State, Table}
use Rattle.mdb_schema.specs.Touched.{row_put, rows_of_step, rows_written}
use Rattle.mdb_schema.specs.Write.{Write, Tested, Changed, Stepped, step, step_in, table_of}
use Rattle.mdb_schema.specs.declared.write_error.WriteError.{WriteError}
use Rattle.mdb_schema.specs.declared.write_error.WriteError.TheVariants.{Memory}
use Rattle.mdb_schema.proofs.Tables.{table_at-some, table_place-name}
use Rattle.table_index.specs.Table.{AreSpent, TableChange}
use Rattle.mem_txn.specs.DbTxn.{AnswersStep, AnswersTxnWrite, DbTxn, IsFull, IsSpoiledBy, present, table_seen, with_writes}
use Rattle.mem_txn.specs.Database.{Caller, state_seen}
use Rattle.mem_txn.specs.declared.txn_error.TxnWriteError.{TxnWriteError}
use Rattle.mem_txn.specs.declared.txn_error.TxnWriteError.TheVariants as write_refused
use Rattle.mem_txn.specs.inner.DbTxnView.{AreCounted}
use Rattle.mem_txn.specs.CellHistory.{Forest}
use Rattle.mem_txn.specs.inner.VersionTables.{AnswersAt, AreChangesOf, StandFor, Tables, is_memory}
use Rattle.mem_txn.specs.inner.Versions.{Turned}
use Rattle.mem_txn.proofs.IdsCounted.{ids_full}
use Rattle.mem_txn.proofs.StepsMade.{Failed, Spends, accepted, after_writes-more, refused, table_there}
use Rattle.mem_txn.proofs.SinceBegun.{rows_of_one, since_more}
use Rattle.mem_txn.proofs.TablesFound.{schema_there, table_at-none}
use Rattle.table_index.proofs.WriteAnswers.{told_memory}

module _ {A : Type 0} (gives : Option Fields → A → Type 0) (w : Write) (change : TableSchema → List Fields → Tested Changed)
    (is_step : (schema : DbSchema) (s : State) → step schema s w ≡ step_in schema s (table_of w) (λ (t : Table). change t.schema t.rows))
    (old : DbTxn) (sound : old.spoiled ≡ false) where
  abbrev change_in : TableChange → Tested Changed
  change_in t = change t.schema t.rows

  abbrev told : Stepped
  told = step old.caller.schema (present old) w

  unspoiled : (result : Result A TxnWriteError) (new : DbTxn) → AnswersTxnWrite gives w false result old new → AnswersTxnWrite gives w old.spoiled result old new
  unspoiled result new answers = subst (λ (b : Bool). AnswersTxnWrite gives w b result old new) (sym sound) answers

  -- ---- no such table

  pub unknown : (new : DbTxn) → new ≡ old → table_place (table_of w) old.caller.schema ≡ None → AnswersTxnWrite gives w old.spoiled (Err write_refused.UnknownTable) old new
  unknown new same none =
      let result : Result A TxnWriteError = Err write_refused.UnknownTable in
      unspoiled result new
      (subst (λ (o : Option Table). MatchOption o ((result ≡ Err write_refused.UnknownTable) × (new ≡ old)) (λ t. AnswersStep gives w told result old new))
      (sym (table_at-none old.caller.schema (present old) (table_of w) none)) (refl, same))

  module _ (place : ℕ) (found : table_place (table_of w) old.caller.schema ≡ Some place) (tables tables' : Tables) (stand : StandFor tables.tables old.caller.schema (present old)) where
    -- of a table of the schema
    of_table : (result : Result A TxnWriteError) (new : DbTxn) (t : TableChange) → slice_get tables.tables place ≡ Some t → AnswersStep gives w told result old new → AnswersTxnWrite gives w old.spoiled result old new
    of_table result new t there answers =
        let table : Table = record { place = place; schema = t.schema; rows = t.rows } in
        let seen : table_seen old (table_of w) ≡ Some table =
        table_at-some old.caller.schema (present old) (table_of w) table (table_there gives (row_put w) change old.caller.schema (present old) (table_of w) place found tables tables' stand t there) in
        unspoiled result new
        (subst (λ (o : Option Table). MatchOption o ((result ≡ Err write_refused.UnknownTable) × (new ≡ old)) (λ t. AnswersStep gives w told result old new)) (sym seen) answers)

    -- ---- accepted

    module _ (x : A) (at : AnswersAt gives (row_put w) change_in place (Ok x) tables tables') (new : DbTxn) (joined : new ≡ with_writes old (w ∷ [])) where
      pub joins_answer : AnswersTxnWrite gives w old.spoiled (Ok x) old new
      joins_answer =
          let a = accepted gives (row_put w) change old.caller.schema (present old) (table_of w) place found tables tables' stand x at in
          of_table (Ok x) new at.before at.there
          (subst (λ (r : Stepped). AnswersStep gives w r (Ok x) old new) (sym (is_step old.caller.schema (present old) ∙ a.step)) (a.given, joined))

    -- the tables stand for the state with the write
    pub joins_stand : (x : A) → AnswersAt gives (row_put w) change_in place (Ok x) tables tables' → (writes : List Write) → writes ≡ old.writes ++ w ∷ []
        → StandFor tables'.tables old.caller.schema (after_writes old.caller.schema (state_seen old.caller) writes)
    joins_stand x at writes joined =
        let a = accepted gives (row_put w) change old.caller.schema (present old) (table_of w) place found tables tables' stand x at in
        let same = ap (after_writes old.caller.schema (state_seen old.caller)) joined ∙ after_writes-more old.caller.schema (state_seen old.caller) old.writes w ∙ ap (state_or (present old)) (is_step old.caller.schema (present old) ∙ a.step) in
        subst (λ (s : State). StandFor tables'.tables old.caller.schema s) (sym same) a.left

    -- few ids were drawn, and none is given back
    module _ (x : A) (at : AnswersAt gives (row_put w) change_in place (Ok x) tables tables') where
      pub joins_few : tables'.ids.next ≤ tables.ids.next + 2 ^ 26
      joins_few = (accepted gives (row_put w) change old.caller.schema (present old) (table_of w) place found tables tables' stand x at).few

      pub joins_later : tables.ids.next ≤ tables'.ids.next
      joins_later = (accepted gives (row_put w) change old.caller.schema (present old) (table_of w) place found tables tables' stand x at).later

    -- all that was written is what the writes say, with this one
    pub joins_since : (first : ℕ) (start : Forest) → first ≤ tables.ids.next → AreChangesOf first start (rows_written old.caller.schema (state_seen old.caller) old.writes) tables.tables
        → (x : A) → AnswersAt gives (row_put w) change_in place (Ok x) tables tables' → (writes : List Write) → writes ≡ old.writes ++ w ∷ []
        → AreChangesOf first start (rows_written old.caller.schema (state_seen old.caller) writes) tables'.tables
    joins_since first start later since x at writes joined =
        let schema = old.caller.schema in
        let a = accepted gives (row_put w) change schema (present old) (table_of w) place found tables tables' stand x at in
        let rows = row_put w ++ option_to_list a.after.1 in
        let name = a.adds.before.schema.name in
        let named : name ≡ table_of w = table_place-name (table_of w) schema place a.adds.before.schema found (schema_there tables.tables schema (present old) stand place a.adds.before a.adds.there) in
        let told : rows_written schema (present old) (w ∷ []) name ≡ rows =
        append-nil (rows_of_step name w (step schema (present old) w)) ∙ rows_of_one w name (step schema (present old) w) a.after (is_step schema (present old) ∙ a.step) (sym named) in
        since_more first start schema (state_seen old.caller) old.writes (w ∷ []) writes joined place tables tables' since later rows a.adds (λ r h. subst (λ (l : List Fields). Contains l r) (sym told) h)

    -- ---- refused

    memory_step : (r : Stepped) (e : WriteError) (new : DbTxn) → e ≡ Memory → IsSpoiledBy old new → AnswersStep gives w r (Err (write_refused.Refused e)) old new
    memory_step (Ok after) e new memory spoiled = inr (ap write_refused.Refused memory, spoiled)
    memory_step (Err why) e new memory spoiled = inr (ap write_refused.Refused memory, spoiled)

    module _ (e : WriteError) (new : DbTxn) (is : new ≡ record old { spoiled = is_memory e }) where
      memory_answer : e ≡ Memory → place < length tables.tables → AnswersTxnWrite gives w old.spoiled (Err (write_refused.Refused e)) old new
      memory_answer memory within =
          let t = there_within tables.tables place within in
          of_table (Err (write_refused.Refused e)) new t.0 t.1
          (memory_step told e new memory (is ∙ ap (λ (b : Bool). let c : DbTxn = record old { spoiled = b } in c) (ap is_memory memory)))

      loud : {X : Type 0} → e ≡ Memory → is_memory e ≡ false → X
      loud memory quiet = let yes : is_memory e ≡ true = ap is_memory memory in absurd (cc)

      abbrev Failure : Type 0
      Failure = Failed gives (row_put w) change old.caller.schema (present old) (table_of w) place found tables tables' stand e

      same_of : Failure → is_memory e ≡ false → (tables'.tables ≡ tables.tables) × (tables'.ids ≡ tables.ids)
      same_of (inl r) quiet = (r.1.unchanged, r.1.ids)
      same_of (inr (inl spent)) quiet = (spent.unchanged, spent.ids)
      same_of (inr (inr memory)) quiet = loud memory quiet

      -- nothing has changed, unless the transaction is spoiled
      pub refuses_same : (e ≡ Memory) ⊎ AnswersAt gives (row_put w) change_in place (Err e) tables tables' → is_memory e ≡ false → (tables'.tables ≡ tables.tables) × (tables'.ids ≡ tables.ids)
      refuses_same (inl memory) quiet = loud memory quiet
      refuses_same (inr at) quiet = same_of (refused gives (row_put w) change old.caller.schema (present old) (table_of w) place found tables tables' stand e at) quiet

      -- nor has what was written
      pub refuses_since : (e ≡ Memory) ⊎ AnswersAt gives (row_put w) change_in place (Err e) tables tables' → is_memory e ≡ false → (first : ℕ) (start : Forest)
          → AreChangesOf first start (rows_written old.caller.schema (state_seen old.caller) old.writes) tables.tables → (writes : List Write) → writes ≡ old.writes
          → AreChangesOf first start (rows_written old.caller.schema (state_seen old.caller) writes) tables'.tables
      refuses_since at quiet first start since writes none =
          subst (λ (ts : List TableChange). AreChangesOf first start (rows_written old.caller.schema (state_seen old.caller) writes) ts) (sym (refuses_same at quiet).0)
          (subst (λ (ws : List Write). AreChangesOf first start (rows_written old.caller.schema (state_seen old.caller) ws) tables.tables) (sym none) since)

      -- the tables still stand for the state
      pub refuses_stand : (e ≡ Memory) ⊎ AnswersAt gives (row_put w) change_in place (Err e) tables tables' → is_memory e ≡ false → StandFor tables'.tables old.caller.schema (present old)
      refuses_stand at quiet = subst (λ (ts : List TableChange). StandFor ts old.caller.schema (present old)) (sym (refuses_same at quiet).0) stand

      -- there are too few ids
      module _ (turn : Turned) (mine : turn.caller ≡ old.caller) (counted : AreCounted turn (length old.writes) tables.ids) where
        full : AreSpent tables.ids.next 1 → IsFull 1 old
        full spent = subst (λ (p : Caller). 2 ^ 36 ≤ writes_in p.seen + length old.writes + 1) mine (ids_full tables.ids.next (writes_in turn.caller.seen + length old.writes) 1 counted.few spent)

        spent_answer : (t : TableChange) → slice_get tables.tables place ≡ Some t → Spends gives (row_put w) change old.caller.schema (present old) (table_of w) place found tables tables' stand e → AnswersTxnWrite gives w old.spoiled (Err (write_refused.Refused e)) old new
        spent_answer t there spent =
            let quiet : is_memory e ≡ old.spoiled = ap is_memory spent.error ∙ sym sound in
            let same : new ≡ old = is ∙ ap (λ (b : Bool). let c : DbTxn = record old { spoiled = b } in c) quiet in
            of_table (Err (write_refused.Refused e)) new t there
            (subst (λ (s : Stepped). AnswersStep gives w s (Err (write_refused.Refused e)) old new) (sym (is_step old.caller.schema (present old) ∙ spent.step))
            (inl (record { error = ap write_refused.Refused spent.error; full = full spent.few; same = same })))

        answer_of : place < length tables.tables → (t : TableChange) → slice_get tables.tables place ≡ Some t → Failure → AnswersTxnWrite gives w old.spoiled (Err (write_refused.Refused e)) old new
        answer_of within t there (inl r) =
            let quiet : is_memory e ≡ old.spoiled = ap is_memory r.1.error ∙ told_memory r.0 ∙ sym sound in
            let same : new ≡ old = is ∙ ap (λ (b : Bool). let c : DbTxn = record old { spoiled = b } in c) quiet in
            of_table (Err (write_refused.Refused e)) new t there
            (subst (λ (s : Stepped). AnswersStep gives w s (Err (write_refused.Refused e)) old new) (sym (is_step old.caller.schema (present old) ∙ r.1.stepped))
            (inl (ap write_refused.Refused r.1.error, same)))
        answer_of within t there (inr (inl spent)) = spent_answer t there spent
        answer_of within t there (inr (inr memory)) = memory_answer memory within

        pub refuses_answer : place < length tables.tables → (e ≡ Memory) ⊎ AnswersAt gives (row_put w) change_in place (Err e) tables tables' → AnswersTxnWrite gives w old.spoiled (Err (write_refused.Refused e)) old new
        refuses_answer within (inl memory) = memory_answer memory within
        refuses_answer within (inr at) = answer_of within at.before at.there (refused gives (row_put w) change old.caller.schema (present old) (table_of w) place found tables tables' stand e at)
