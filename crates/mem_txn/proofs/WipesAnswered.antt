-- What a write transaction answers a wipe, of what its tables and its list of writes tell.
use Rattle.std.proofs.Common.{◌≡◌, ◌∙◌, ◌≤◌, ◌+◌, ◌*◌, ◌^◌, ◌++◌, ℕ, List, length, slice_set, Bool, true, false, Option, Some, None, Result, Ok, Err, inl, inr, refl, sym, ap, subst}
use Rattle.std.specs.Prelude.{Contains, MatchOption}
use Rattle.std.proofs.lemmas.List.{length-map}
use Rattle.mdb_datum.specs.Row.{Fields}
use Rattle.mdb_encode.specs.Bytes.{Bytes}
use Rattle.mdb_schema.specs.Answer.{Asked, AskRefusal, is_prefix_name, no_prefix_name, unknown_table}
use Rattle.mdb_schema.specs.History.{after_writes, writes_in}
use Rattle.mdb_schema.specs.LawfulSchema.{IsLawfulTable}
use Rattle.mdb_schema.specs.Query.{Query}
use Rattle.mdb_schema.specs.ErrorsTold.{ask_error}
use Rattle.mdb_schema.specs.Schema.{TableSchema, DbSchema, table_place}
use Rattle.mdb_schema.specs.State.{State, Table, table_at}
use Rattle.mdb_schema.specs.Tests.{◌>>=◌, passed}
use Rattle.mdb_schema.specs.Touched.{rows_written}
use Rattle.mdb_schema.specs.Wipe.{removals, wiped_rows, without_rows}
use Rattle.mdb_schema.specs.Write.{Write, remove}
use Rattle.mdb_schema.proofs.Chains.{passed_on}
use Rattle.mdb_schema.proofs.LawfulStates.{state_at_lawful, writes_keep}
use Rattle.mdb_schema.proofs.PassedTests.{needed_on}
use Rattle.mdb_schema.proofs.Removals.{AreRowsOnce, Removes, removals_accepted}
use Rattle.mdb_schema.proofs.Tables.{IsTableAt, slice_set-same, table_at-some, table_place-name}
use Rattle.mdb_schema.proofs.WipeLaws.{wiped_once}
use Rattle.table_index.specs.Table.{AreSpent, TableChange}
use Rattle.table_index.specs.declared.wipe_error.WipeError.{WipeError}
use Rattle.table_index.specs.declared.wipe_error.WipeError.TheVariants.{Refused}
use Rattle.mem_txn.specs.DbTxn.{AnswersRemovals, AnswersTxnWipe, DbTxn, IsFull, present, table_seen}
use Rattle.mem_txn.specs.Database.{Caller, state_seen}
use Rattle.mem_txn.specs.declared.txn_error.TxnWipeError.{TxnWipeError}
use Rattle.mem_txn.specs.declared.txn_error.TxnWipeError.TheVariants as wipe_refused
use Rattle.mem_txn.specs.declared.wipe.Wipe.{Wipe}
use Rattle.mem_txn.specs.declared.wipe.Wipe.TheVariants.{Listed, ByPrefix}
use Rattle.radix_node.specs.Ids.{Counter}
use Rattle.mem_txn.specs.inner.DbTxnView.{AreCounted}
use Rattle.mem_txn.specs.CellHistory.{Forest}
use Rattle.mem_txn.specs.inner.VersionTables.{AreChangesOf, StandFor, Tables}
use Rattle.mem_txn.specs.inner.Versions.{Turned}
use Rattle.mem_txn.specs.inner.Wipes.{GivesUp, JoinsGone, JoinsGoneAt, is_memory, wipe_by, wiped_by}
use Rattle.mem_txn.proofs.IdsCounted.{counted_more, counted_same, ids_full}
use Rattle.mem_txn.proofs.SinceBegun.{AddsAt, removed_rows, since_more}
use Rattle.mem_txn.proofs.StepsMade.{is_sound, stand-set}
use Rattle.mem_txn.proofs.TablesFound.{schema_there, stand_table, table_at-none}
use Rattle.mdb_schema.proofs.HistorySteps.{after_writes-append}

-- ---- the writes of a wipe

abbrev removed : Bytes → Asked (List Fields) → Asked (List Write)
removed name r = r >>= (λ gone. Ok (removals name gone))

pub wipe_by-some : (how : Wipe) (schema : DbSchema) (s : State) (q : Query) (table : Table) → table_at schema s q.table ≡ Some table
    → wipe_by how schema s q ≡ removed q.table (wiped_by how table.schema table.rows q)
wipe_by-some Listed schema s q table there = needed_on unknown_table (table_at schema s q.table) (λ (t : Table). removed q.table (wiped_by Listed t.schema t.rows q)) table there
wipe_by-some ByPrefix schema s q table there = needed_on unknown_table (table_at schema s q.table) (λ (t : Table). removed q.table (wiped_by ByPrefix t.schema t.rows q)) table there

-- its rows are rows of the table, each once
pub wiped_by_once : (how : Wipe) (t : TableSchema) (rows : List Fields) (q : Query) (gone : List Fields) → wiped_by how t rows q ≡ Ok gone → AreRowsOnce t rows gone
wiped_by_once Listed t rows q gone is = wiped_once t rows q gone is
wiped_by_once ByPrefix t rows q gone is = wiped_once t rows q gone (wiped_on t rows q gone is)
  where
    wiped_on : (t : TableSchema) (rows : List Fields) (q : Query) (gone : List Fields) → wiped_by ByPrefix t rows q ≡ Ok gone → wiped_by Listed t rows q ≡ Ok gone
    wiped_on t rows q gone is = (passed_on (passed no_prefix_name (is_prefix_name q.index)) (λ named. wiped_rows t rows q) gone is).2

-- ---- the answer

abbrev txn_wiped : Result ℕ WipeError → Result ℕ TxnWipeError
txn_wiped (Ok n) = Ok n
txn_wiped (Err e) = Err (wipe_refused.Refused e)

module _ (how : Wipe) (q : Query) (old : DbTxn) (sound : old.spoiled ≡ false) where
  abbrev told : Asked (List Write)
  told = wipe_by how old.caller.schema (present old) q

  unspoiled : (result : Result ℕ TxnWipeError) (new : DbTxn) → AnswersTxnWipe false q.table told result old new → AnswersTxnWipe old.spoiled q.table told result old new
  unspoiled result new answers = subst (λ (b : Bool). AnswersTxnWipe b q.table told result old new) (sym sound) answers

  abbrev OfTable : Result ℕ TxnWipeError → DbTxn → Option Table → Type 0
  OfTable result new o = MatchOption o ((result ≡ Err wipe_refused.UnknownTable) × (new ≡ old)) (λ t. AnswersRemovals told result old new)

  -- no such table
  pub wipe_unknown : (new : DbTxn) → new ≡ old → table_place q.table old.caller.schema ≡ None → AnswersTxnWipe old.spoiled q.table told (Err wipe_refused.UnknownTable) old new
  wipe_unknown new same none =
      let result : Result ℕ TxnWipeError = Err wipe_refused.UnknownTable in
      unspoiled result new (subst (OfTable result new) (sym (table_at-none old.caller.schema (present old) q.table none)) (refl, same))

  -- the transaction with these writes
  abbrev Leaves : Result ℕ WipeError → List Write → DbTxn → Type 0
  Leaves (Ok n) writes' new = new ≡ record old { writes = writes' }
  Leaves (Err e) writes' new = new ≡ record old { writes = writes'; spoiled = is_memory e }

  -- no rule is told as want of memory
  rule_told : (why : AskRefusal) → is_memory (Refused (ask_error why)) ≡ old.spoiled
  rule_told why = sym sound

  -- the writes are as they were, and the transaction is spoiled or not
  kept : (e : WipeError) (writes' : List Write) (new : DbTxn) (b : Bool) → Leaves (Err e) writes' new → writes' ≡ old.writes → is_memory e ≡ b → new ≡ record old { spoiled = b }
  kept e writes' new b leaves same told =
      leaves
      ∙ ap (λ (ws : List Write). let c : DbTxn = record old { writes = ws; spoiled = is_memory e } in c) same
      ∙ ap (λ (d : Bool). let c : DbTxn = record old { spoiled = d } in c) told

  module _ (turn : Turned) (mine : turn.caller ≡ old.caller) (ids ids' : Counter) (counted : AreCounted turn (length old.writes) ids) where
    full : (rows : ℕ) → AreSpent ids.next rows → IsFull rows old
    full rows spent = subst (λ (p : Caller). 2 ^ 36 ≤ writes_in p.seen + length old.writes + rows) mine (ids_full ids.next (writes_in turn.caller.seen + length old.writes) rows counted.few spent)

    gives_up : (gone : List Fields) (e : WipeError) (before after : TableChange) (writes' : List Write) (new : DbTxn) → GivesUp (length gone) e ids ids' before after → writes' ≡ old.writes → Leaves (Err e) writes' new
        → AnswersRemovals (removed q.table (Ok gone)) (Err (wipe_refused.Refused e)) old new
    gives_up gone e before after writes' new (inr memory) same leaves = inr (ap wipe_refused.Refused memory, kept e writes' new true leaves same (ap is_memory memory))
    gives_up gone e before after writes' new (inl spent) same leaves =
        let quiet : is_memory e ≡ old.spoiled = ap is_memory spent.0.error ∙ sym sound in
        let count : length gone ≡ length (removals q.table gone) = sym (length-map gone (remove q.table)) in
        inl (record {
          error = ap wipe_refused.Refused spent.0.error;
          full = subst (λ (n : ℕ). IsFull n old) count (full (length gone) spent.0.few);
          same = kept e writes' new old.spoiled leaves same quiet;
        })

    answer : (r : Asked (List Fields)) (result : Result ℕ WipeError) (before after : TableChange) (writes' : List Write) (new : DbTxn) → JoinsGone q.table r result ids ids' before after old.writes writes'
        → Leaves result writes' new → AnswersRemovals (removed q.table r) (txn_wiped result) old new
    answer (Ok gone) (Ok n) before after writes' new joins leaves = (
      joins.0 ∙ sym (length-map gone (remove q.table)),
      leaves ∙ ap (λ (ws : List Write). let c : DbTxn = record old { writes = ws } in c) joins.2,
    )
    answer (Ok gone) (Err e) before after writes' new joins leaves = gives_up gone e before after writes' new joins.0 joins.1 leaves
    answer (Err why) (Ok n) before after writes' new joins leaves = let no_way : Ok n ≡ Err (Refused (ask_error why)) = joins.0.0 in cc
    answer (Err why) (Err e) before after writes' new joins leaves =
        let is : e ≡ Refused (ask_error why) = let told : Err e ≡ Err (Refused (ask_error why)) = joins.0.0 in cc in (
          ap (λ (x : WipeError). let r : Result ℕ TxnWipeError = Err (wipe_refused.Refused x) in r) is,
          kept e writes' new old.spoiled leaves joins.1 (ap is_memory is ∙ rule_told why),
        )

  module _ (place : ℕ) (found : table_place q.table old.caller.schema ≡ Some place) (tables tables' : Tables) (stand : StandFor tables.tables old.caller.schema (present old))
      (result : Result ℕ WipeError) (writes' : List Write)
      (at : JoinsGoneAt (λ t. wiped_by how t.schema t.rows q) place q.table result tables tables' old.writes writes') where
    abbrev table : Table
    table = record { place = place; schema = at.before.schema; rows = at.before.rows }

    there : IsTableAt old.caller.schema (present old) q.table table
    there = stand_table tables.tables old.caller.schema (present old) stand place q.table found at.before at.there

    seen : table_seen old q.table ≡ Some table
    seen = table_at-some old.caller.schema (present old) q.table table there

    pub wipe_answer : (turn : Turned) → turn.caller ≡ old.caller → AreCounted turn (length old.writes) tables.ids → (new : DbTxn) → Leaves result writes' new → AnswersTxnWipe old.spoiled q.table told (txn_wiped result) old new
    wipe_answer turn mine counted new leaves =
        unspoiled (txn_wiped result) new
        (subst (OfTable (txn_wiped result) new) (sym seen)
        (subst (λ (r : Asked (List Write)). AnswersRemovals r (txn_wiped result) old new) (sym (wipe_by-some how old.caller.schema (present old) q table seen))
        (answer turn mine tables.ids tables'.ids counted (wiped_by how at.before.schema at.before.rows q) result at.before at.after writes' new at.answers leaves)))

    -- ---- the state

    abbrev after : State
    after = after_writes old.caller.schema (state_seen old.caller) writes'

    same_tables : at.after ≡ at.before → tables'.tables ≡ tables.tables
    same_tables same = at.set ∙ ap (slice_set tables.tables place) same ∙ slice_set-same tables.tables place at.before at.there

    -- the removals are accepted, one after the other
    removes : IsLawfulTable at.before.schema → (gone : List Fields) → wiped_by how at.before.schema at.before.rows q ≡ Ok gone → Removes old.caller.schema (present old) q.table table gone
    removes lawful gone listed =
        let states = writes_keep old.caller.schema (state_seen old.caller) old.writes (state_at_lawful old.caller.schema old.caller.seen (length old.caller.seen)) in
        removals_accepted old.caller.schema q.table (present old) table gone lawful states there (wiped_by_once how at.before.schema at.before.rows q gone listed)

    after_removals : IsLawfulTable at.before.schema → (gone : List Fields) → wiped_by how at.before.schema at.before.rows q ≡ Ok gone → writes' ≡ old.writes ++ removals q.table gone
        → after ≡ slice_set (present old) place (without_rows at.before.schema gone at.before.rows)
    after_removals lawful gone listed joined =
        ap (after_writes old.caller.schema (state_seen old.caller)) joined
        ∙ after_writes-append old.caller.schema (state_seen old.caller) old.writes (removals q.table gone)
        ∙ (removes lawful gone listed).1

    stands : IsLawfulTable at.before.schema → (r : Asked (List Fields)) → wiped_by how at.before.schema at.before.rows q ≡ r → (n : ℕ) → JoinsGone q.table r (Ok n) tables.ids tables'.ids at.before at.after old.writes writes'
        → StandFor tables'.tables old.caller.schema after
    stands lawful (Err why) listed n joins = let no_way : Ok n ≡ Err (Refused (ask_error why)) = joins.0.0 in absurd (cc)
    stands lawful (Ok gone) listed n joins =
        let same : at.after.schema ≡ at.before.schema = ap (λ (t : TableChange). t.schema) joins.1.without in
        let quiet : at.after.spoiled ≡ false = ap (λ (t : TableChange). t.spoiled) joins.1.without ∙ is_sound tables.tables old.caller.schema (present old) stand place at.before at.after at.there in
        let rows : at.after.rows ≡ without_rows at.before.schema gone at.before.rows = ap (λ (t : TableChange). t.rows) joins.1.without in
        let left = ap (slice_set (present old) place) rows ∙ sym (after_removals lawful gone listed joins.2) in
        subst (λ (ts : List TableChange). StandFor ts old.caller.schema after) (sym at.set)
        (subst (λ (s : State). StandFor (slice_set tables.tables place at.after) old.caller.schema s) left (stand-set tables.tables old.caller.schema (present old) stand place at.before at.after at.there same quiet))

    -- all that was written is what the writes say, with the removals
    since_wiped : (first : ℕ) (start : Forest) → first ≤ tables.ids.next → AreChangesOf first start (rows_written old.caller.schema (state_seen old.caller) old.writes) tables.tables
        → IsLawfulTable at.before.schema → (r : Asked (List Fields)) → wiped_by how at.before.schema at.before.rows q ≡ r → (n : ℕ) → JoinsGone q.table r (Ok n) tables.ids tables'.ids at.before at.after old.writes writes'
        → AreChangesOf first start (rows_written old.caller.schema (state_seen old.caller) writes') tables'.tables
    since_wiped first start later since lawful (Err why) listed n joins = let no_way : Ok n ≡ Err (Refused (ask_error why)) = joins.0.0 in absurd (cc)
    since_wiped first start later since lawful (Ok gone) listed n joins =
        let schema = old.caller.schema in
        let named : at.before.schema.name ≡ q.table = table_place-name q.table schema place at.before.schema found (schema_there tables.tables schema (present old) stand place at.before at.there) in
        let a : AddsAt gone place tables tables' = record {
          before = at.before;
          after = at.after;
          there = at.there;
          set = at.set;
          schema = ap (λ (t : TableChange). t.schema) joins.1.without;
          start = ap (λ (t : TableChange). t.start) joins.1.without;
          adds = joins.1.adds;
        } in
        since_more first start schema (state_seen old.caller) old.writes (removals q.table gone) writes' joins.2 place tables tables' since later gone a
        (λ r h. subst (λ (name : Bytes). Contains (rows_written schema (present old) (removals q.table gone) name) r) (sym named) (removed_rows schema q.table gone (present old) (removes lawful gone listed).0 r h))

    -- the ids of a wipe are counted
    counts : (turn : Turned) → AreCounted turn (length old.writes) tables.ids → (r : Asked (List Fields)) (n : ℕ) → JoinsGone q.table r (Ok n) tables.ids tables'.ids at.before at.after old.writes writes' → AreCounted turn (length writes') tables'.ids
    counts turn counted (Err why) n joins = let no_way : Ok n ≡ Err (Refused (ask_error why)) = joins.0.0 in absurd (cc)
    counts turn counted (Ok gone) n joins =
        let count : length gone ≡ length (removals q.table gone) = sym (length-map gone (remove q.table)) in
        counted_more turn tables.ids tables'.ids old.writes writes' counted (removals q.table gone) at.book
        (subst (λ (k : ℕ). tables'.ids.next ≤ tables.ids.next + 2 ^ 26 * k) count joins.1.few) joins.1.later joins.2

    -- nothing has changed, unless the transaction is spoiled
    pub record Stays : Type 0 where
      pub kept_tables : tables'.tables ≡ tables.tables
      pub kept_ids : tables'.ids ≡ tables.ids
      pub kept_writes : writes' ≡ old.writes

    stays : (r : Asked (List Fields)) (e : WipeError) → is_memory e ≡ false → JoinsGone q.table r (Err e) tables.ids tables'.ids at.before at.after old.writes writes' → Stays
    stays (Ok gone) e quiet (inr memory, same) = let loud : is_memory e ≡ true = ap is_memory memory in absurd (cc)
    stays (Ok gone) e quiet (inl spent, same) = record { kept_tables = same_tables spent.0.same; kept_ids = spent.1; kept_writes = same }
    stays (Err why) e quiet joins = record { kept_tables = same_tables joins.0.1; kept_ids = joins.0.2; kept_writes = joins.1 }

module _ (how : Wipe) (q : Query) (old : DbTxn) (sound : old.spoiled ≡ false) (place : ℕ) (found : table_place q.table old.caller.schema ≡ Some place)
    (tables tables' : Tables) (stand : StandFor tables.tables old.caller.schema (present old)) (writes' : List Write) where
  -- the tables stand for the state with the removals
  pub wipe_stand : (n : ℕ) (at : JoinsGoneAt (λ t. wiped_by how t.schema t.rows q) place q.table (Ok n) tables tables' old.writes writes') → IsLawfulTable at.before.schema
      → StandFor tables'.tables old.caller.schema (after_writes old.caller.schema (state_seen old.caller) writes')
  wipe_stand n at lawful = stands how q old sound place found tables tables' stand (Ok n) writes' at lawful (wiped_by how at.before.schema at.before.rows q) refl n at.answers

  pub wipe_counted : (turn : Turned) → AreCounted turn (length old.writes) tables.ids → (n : ℕ) → JoinsGoneAt (λ t. wiped_by how t.schema t.rows q) place q.table (Ok n) tables tables' old.writes writes' → AreCounted turn (length writes') tables'.ids
  wipe_counted turn counted n at = counts how q old sound place found tables tables' stand (Ok n) writes' at turn counted (wiped_by how at.before.schema at.before.rows q) n at.answers

  -- all that was written is what the writes say
  pub wipe_since : (first : ℕ) (start : Forest) → first ≤ tables.ids.next → AreChangesOf first start (rows_written old.caller.schema (state_seen old.caller) old.writes) tables.tables → (n : ℕ)
      → (at : JoinsGoneAt (λ t. wiped_by how t.schema t.rows q) place q.table (Ok n) tables tables' old.writes writes') → IsLawfulTable at.before.schema
      → AreChangesOf first start (rows_written old.caller.schema (state_seen old.caller) writes') tables'.tables
  wipe_since first start later since n at lawful =
      since_wiped how q old sound place found tables tables' stand (Ok n) writes' at first start later since lawful (wiped_by how at.before.schema at.before.rows q) refl n at.answers

  module _ (e : WipeError) (at : JoinsGoneAt (λ t. wiped_by how t.schema t.rows q) place q.table (Err e) tables tables' old.writes writes') (quiet : is_memory e ≡ false) where
    -- they still stand for the state, unless the transaction is spoiled
    pub refused_stand : StandFor tables'.tables old.caller.schema (after_writes old.caller.schema (state_seen old.caller) writes')
    refused_stand =
        let same = stays how q old sound place found tables tables' stand (Err e) writes' at (wiped_by how at.before.schema at.before.rows q) e quiet at.answers in
        subst (λ (ts : List TableChange). StandFor ts old.caller.schema (after_writes old.caller.schema (state_seen old.caller) writes')) (sym same.kept_tables)
        (subst (λ (ws : List Write). StandFor tables.tables old.caller.schema (after_writes old.caller.schema (state_seen old.caller) ws)) (sym same.kept_writes) stand)

    pub refused_counted : (turn : Turned) → AreCounted turn (length old.writes) tables.ids → AreCounted turn (length writes') tables'.ids
    refused_counted turn counted =
        let same = stays how q old sound place found tables tables' stand (Err e) writes' at (wiped_by how at.before.schema at.before.rows q) e quiet at.answers in
        counted_same turn tables.ids tables'.ids old.writes writes' counted same.kept_ids same.kept_writes

    pub refused_since : (first : ℕ) (start : Forest) → AreChangesOf first start (rows_written old.caller.schema (state_seen old.caller) old.writes) tables.tables
        → AreChangesOf first start (rows_written old.caller.schema (state_seen old.caller) writes') tables'.tables
    refused_since first start since =
        let same = stays how q old sound place found tables tables' stand (Err e) writes' at (wiped_by how at.before.schema at.before.rows q) e quiet at.answers in
        subst (λ (ts : List TableChange). AreChangesOf first start (rows_written old.caller.schema (state_seen old.caller) writes') ts) (sym same.kept_tables)
        (subst (λ (ws : List Write). AreChangesOf first start (rows_written old.caller.schema (state_seen old.caller) ws) tables.tables) (sym same.kept_writes) since)
