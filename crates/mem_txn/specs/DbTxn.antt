-- A write transaction, as contracts see it, and what its calls are answered.
use Rattle.std.specs.Prelude.{◌≡◌, ◌≤◌, ◌⊎◌, ◌++◌, ◌+◌, ◌^◌, ℕ, Bool, true, false, List, [], ◌∷◌, length}
use Rattle.std.specs.Prelude.{Option, is_some, Some, Result, Ok, Err, MatchOption, MatchResult}
use Rattle.mdb_datum.specs.Row.{Fields}
use Rattle.mdb_encode.specs.Bytes.{Bytes}
use Rattle.mdb_schema.specs.Answer.{Asked}
use Rattle.mdb_schema.specs.History.{Commit, after_writes, writes_in}
use Rattle.mdb_schema.specs.ErrorsTold.{AnswersAsk, ask_error, write_error}
use Rattle.mdb_schema.specs.State.{State, Table, table_at}
use Rattle.mdb_schema.specs.Write.{Write, Stepped, step, table_of}
use Rattle.mdb_schema.specs.declared.answer.Answer.{Answer}
use Rattle.mdb_schema.specs.declared.write_error.WriteError.TheVariants as write_errors
use Rattle.table_index.specs.declared.wipe_error.WipeError.TheVariants as wipe_errors
use Rattle.watch_word.specs.Logs.{Log}
use Rattle.mem_txn.specs.CellHistory.{Forest}
use Rattle.mem_txn.specs.Database.{Caller, View, state_seen}
use Rattle.mem_txn.specs.declared.txn_error.TxnAskError.{TxnAskError}
use Rattle.mem_txn.specs.declared.txn_error.TxnAskError.TheVariants as ask_refused
use Rattle.mem_txn.specs.declared.txn_error.TxnWriteError.{TxnWriteError}
use Rattle.mem_txn.specs.declared.txn_error.TxnWriteError.TheVariants as write_refused
use Rattle.mem_txn.specs.declared.txn_error.TxnWipeError.{TxnWipeError}
use Rattle.mem_txn.specs.declared.txn_error.TxnWipeError.TheVariants as wipe_refused

-- a caller's transaction: its accepted writes, and whether an earlier one found no memory
pub record DbTxn : Type 0 where
  pub caller : Caller
  pub writes : List Write
  pub spoiled : Bool

-- one without writes
abbrev pub new_txn : Caller → DbTxn
new_txn p = record { caller = p; writes = []; spoiled = false }

-- the state that it answers from: the one on which it stands, and its own writes
abbrev pub present : DbTxn → State
present t = after_writes t.caller.schema (state_seen t.caller) t.writes

-- the same, to be asked, after so many commits
abbrev pub view_at : ℕ → DbTxn → View
view_at number t = record { schema = t.caller.schema; number = number; state = present t }

abbrev pub present_view : DbTxn → View
present_view t = view_at (length t.caller.seen) t

abbrev pub with_writes : DbTxn → List Write → DbTxn
with_writes t ws = record t { writes = t.writes ++ ws }

-- the commit of its writes
abbrev pub commit_of : DbTxn → Commit
commit_of t = record { caller = t.caller.number; writes = t.writes }

-- the caller that has made the commit, which leaves these trees, and has seen the log so far
abbrev pub after_commit : DbTxn → Forest → Log → Caller
after_commit t trees log = record t.caller {
  seen = t.caller.seen ++ commit_of t ∷ [];
  trees = t.caller.trees ++ trees ∷ [];
  own = t.caller.own ++ commit_of t ∷ [];
  log = log;
}

-- the table of this name, as the transaction sees it
abbrev pub table_seen : DbTxn → Bytes → Option Table
table_seen t name = table_at t.caller.schema (present t) name

-- ---- questions

-- a question of a transaction that isn't spoiled
abbrev pub AnswersQuestion : Asked Answer → Result Answer TxnAskError → Type 0
AnswersQuestion told (Ok a) = AnswersAsk told (Ok a)
AnswersQuestion told (Err ask_refused.Spoiled) = ⊥
AnswersQuestion told (Err (ask_refused.Refused e)) = AnswersAsk told (Err e)

-- a spoiled one answers so, before all else
abbrev pub AnswersTxnAsk : Bool → Asked Answer → Result Answer TxnAskError → Type 0
AnswersTxnAsk true told result = result ≡ Err ask_refused.Spoiled
AnswersTxnAsk false told result = AnswersQuestion told result

-- ---- writes

-- the transaction found no memory: it is spoiled
abbrev pub IsSpoiledBy : DbTxn → DbTxn → Type 0
IsSpoiledBy old new = new ≡ record old { spoiled = true }

-- the writes of the commits on which the transaction stands, its own, and so many rows more are
-- together at least 2^36; with fewer there are ids for their cells
abbrev pub IsFull : ℕ → DbTxn → Type 0
IsFull rows t = 2 ^ 36 ≤ writes_in t.caller.seen + length t.writes + rows

-- there are too few ids for the cells of so many rows, and nothing has changed
pub record AreIdsSpent {E : Type 0} (rows : ℕ) (spent e : E) (old new : DbTxn) : Type 0 where
  pub error : e ≡ spent
  pub full : IsFull rows old
  pub same : new ≡ old

-- a write of one row that no rule refuses finds too few ids, or no memory
abbrev pub IsGivenUp : TxnWriteError → DbTxn → DbTxn → Type 0
IsGivenUp e old new =
    AreIdsSpent 1 (write_refused.Refused write_errors.IdsSpent) e old new
    ⊎ ((e ≡ write_refused.Refused write_errors.Memory) × IsSpoiledBy old new)

-- a write to a table of the schema: what it gives of the row that was there, and that it joins the
-- transaction's writes; or the first rule that it breaks, and that nothing has changed
abbrev pub AnswersStep : {A : Type 0} → (Option Fields → A → Type 0) → Write → Stepped
    → Result A TxnWriteError → DbTxn → DbTxn → Type 0
AnswersStep gives w (Ok after) result old new =
    MatchResult result (λ x. gives after.1 x × (new ≡ with_writes old (w ∷ [])))
    (λ e. IsGivenUp e old new)
AnswersStep gives w (Err why) result old new =
    MatchResult result (λ x. ⊥) (λ e.
    ((e ≡ write_refused.Refused (write_error why)) × (new ≡ old))
    ⊎ ((e ≡ write_refused.Refused write_errors.Memory) × IsSpoiledBy old new))

-- a write: a spoiled transaction answers so before all else, then it tells where there is no such
-- table
abbrev pub AnswersTxnWrite : {A : Type 0} → (Option Fields → A → Type 0) → Write → Bool
    → Result A TxnWriteError → DbTxn → DbTxn → Type 0
AnswersTxnWrite gives w true result old new = (result ≡ Err write_refused.Spoiled) × (new ≡ old)
AnswersTxnWrite gives w false result old new =
    MatchOption (table_seen old (table_of w))
    ((result ≡ Err write_refused.UnknownTable) × (new ≡ old))
    (λ table. AnswersStep gives w (step old.caller.schema (present old) w) result old new)

-- an insert tells whether a row was replaced
abbrev pub gives_replaced : Option Fields → Bool → Type 0
gives_replaced was replaced = replaced ≡ is_some was

-- a delete gives the row
abbrev pub gives_row : Option Fields → Fields → Type 0
gives_row was row = was ≡ Some row

-- ---- wipes

-- a wipe of so many rows that no rule refuses finds too few ids, or no memory
abbrev pub IsWipeGivenUp : ℕ → TxnWipeError → DbTxn → DbTxn → Type 0
IsWipeGivenUp rows e old new =
    AreIdsSpent rows (wipe_refused.Refused wipe_errors.IdsSpent) e old new
    ⊎ ((e ≡ wipe_refused.Refused wipe_errors.Memory) × IsSpoiledBy old new)

-- a wipe of a table of the schema: how many rows it takes out, and that these removals join the
-- writes; a rule that the question breaks is always told
abbrev pub AnswersRemovals : Asked (List Write) → Result ℕ TxnWipeError → DbTxn → DbTxn → Type 0
AnswersRemovals (Ok ws) result old new =
    MatchResult result (λ n. (n ≡ length ws) × (new ≡ with_writes old ws))
    (λ e. IsWipeGivenUp (length ws) e old new)
AnswersRemovals (Err why) result old new =
    (result ≡ Err (wipe_refused.Refused (wipe_errors.Refused (ask_error why)))) × (new ≡ old)

-- a wipe by a question of the table of a name
abbrev pub AnswersTxnWipe : Bool → Bytes → Asked (List Write) → Result ℕ TxnWipeError → DbTxn
    → DbTxn → Type 0
AnswersTxnWipe true name told result old new = (result ≡ Err wipe_refused.Spoiled) × (new ≡ old)
AnswersTxnWipe false name told result old new =
    MatchOption (table_seen old name)
    ((result ≡ Err wipe_refused.UnknownTable) × (new ≡ old))
    (λ table. AnswersRemovals told result old new)
