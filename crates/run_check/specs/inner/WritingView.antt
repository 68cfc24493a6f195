-- What holds of an open write transaction, and what its writes make of the check's store.
use Rattle.std.specs.Prelude.{◌≡◌, ◌≢◌, ◌⊎◌, ◌≤◌, ◌-◌, ◌++◌, ◌∷◌, ℕ, List, [], length, Option, Some, is_some, Result, Ok, Err, Bool, slice_get, if◌then◌else◌, ⊤}
use Rattle.std.specs.BTreeSet.{insert_key}
use Rattle.std.specs.List.Sorted.{IsStrictlySortedBy}
use Rattle.mdb_datum.specs.Bytes.{Bytes, byte_order}
use Rattle.mdb_datum.specs.Row.{Fields}
use Rattle.mdb_schema.specs.Answer.{Asked}
use Rattle.mdb_schema.specs.History.{History, state_at}
use Rattle.mdb_schema.specs.LawfulSchema.{IsLawfulSchema}
use Rattle.mdb_schema.specs.ErrorsTold.{write_error}
use Rattle.mdb_schema.specs.Schema.{DbSchema}
use Rattle.mdb_schema.specs.State.{State}
use Rattle.mdb_schema.specs.Tests.{◌>>=◌}
use Rattle.mdb_schema.specs.Wipe.{wipe, wipe_by_prefix}
use Rattle.mdb_schema.specs.Write.{Write, WriteRefusal, put, remove, step}
use Rattle.mdb_schema.specs.declared.write_error.WriteError.{WriteError}
use Rattle.mdb_schema.specs.declared.write_error.WriteError.TheVariants as write_errors
use Rattle.client_script.specs.Client.{Judged}
use Rattle.client_script.specs.Reply.{Reply, deleted, reply_text, wiped}
use Rattle.client_script.specs.Turn.{asked, indexes_of, insert_reply, stepped}
use Rattle.client_script.specs.declared.command.WriteCommand.{WriteCommand}
use Rattle.client_script.specs.RuleName.{rule_name}
use Rattle.client_script.specs.declared.command.WriteCommand.TheVariants as write_lines
use Rattle.run_check.specs.declared.client.Writing.{Writing}
use Rattle.client_script.specs.declared.rule.Rule.TheVariants as rules
use Rattle.run_check.specs.declared.session.Refused.{Refused}
use Rattle.run_check.specs.declared.session.Refused.TheVariants as refusals
use Rattle.run_check.specs.declared.session.Sessions.{Sessions}
use Rattle.run_check.specs.declared.sight.Own.{Own}
use Rattle.run_check.specs.inner.ChangeView.{AreTracked, CoverChanges}
use Rattle.run_check.specs.inner.ClientView.{changed_of}
use Rattle.run_check.specs.inner.StoreView.{Begun, StandsFor, state_seen}

-- ---- an open transaction

-- what it sees
abbrev pub state_now : DbSchema → History → List Begun → ℕ → Own → State
state_now schema H txns number own = state_seen schema H txns (record { commits = number; own = Some own })

-- A write transaction on the commit of a number is open: it is the last that has begun, these are all
-- its writes, and the keys that it has changed are of tracked tables, rise, and cover each change.
pub record IsCarried (schema : DbSchema) (H : History) (txns : List Begun) (number : ℕ) (own : Own)
    (changed : List Bytes) : Type 0 where
  pub there : number ≤ length H
  pub last : own.txn ≡ length txns
  pub begun : Begun
  pub is : slice_get txns (own.txn - 1) ≡ Some begun
  pub on : begun.number ≡ number
  pub all : own.writes ≡ length begun.writes
  pub tracked : AreTracked schema changed
  pub rise : IsStrictlySortedBy byte_order changed
  pub cover : CoverChanges schema (state_at schema H number) (state_now schema H txns number own) changed

-- the check's store stands for it
pub record IsWriting (schema : DbSchema) (H : History) (txns : List Begun) (s : Sessions) (w : Writing)
    : Type 0 where
  pub schema_is : s.schema.now ≡ schema
  pub lawful : IsLawfulSchema schema
  pub stands : StandsFor schema H txns s.store
  pub carried : IsCarried schema H txns w.number w.own (changed_of w)

abbrev pub AreWriting : Sessions → Writing → Type 0
AreWriting s w = (schema : DbSchema) × (H : History) × (txns : List Begun) × IsWriting schema H txns s w

-- ---- writes of it

-- of those that have begun, the transaction of a number has made these writes more
pub record HaveMore (txn : ℕ) (ws : List Write) (old new : List Begun) : Type 0 where
  pub long : length new ≡ length old
  pub here : (b : Begun) → slice_get old (txn - 1) ≡ Some b
      → slice_get new (txn - 1) ≡ Some (record { number = b.number; writes = b.writes ++ ws })
  pub others : (k : ℕ) → k ≢ txn - 1 → slice_get new k ≡ slice_get old k

-- it has made these, and the store stands for them
pub record HasMore (schema : DbSchema) (H : History) (txns : List Begun) (ws : List Write)
    (old : Writing) (s : Sessions) (w : Writing) : Type 0 where
  pub now : List Begun
  pub more : HaveMore old.own.txn ws txns now
  pub writing : IsWriting schema H now s w
  pub kept : w ≡ record old { own = w.own; changed = w.changed }

-- the keys that are changed, after a write of an `id` key in the table at a place
abbrev pub changed_then : Bool → ℕ → Bytes → List Bytes → List Bytes
changed_then tracked place id ks = if tracked then insert_key byte_order ks (place ∷ id) else ks

-- a write is made and finds a row, if one was there; or it is refused so, and nothing is written; or
-- there was no memory
abbrev pub AnswersStep :
    {A : Type 0} → (A → Option Fields → Type 0) → DbSchema → History → List Begun → Write → Writing
    → Result A WriteError → Sessions → Writing → Type 0
AnswersStep Tells schema H txns write old (Ok a) s w =
    (after : State × Option Fields)
    × (step schema (state_now schema H txns old.number old.own) write ≡ Ok after) × Tells a after.1
    × HasMore schema H txns (write ∷ []) old s w
AnswersStep Tells schema H txns write old (Err e) s w =
    (e ≡ write_errors.Memory)
    ⊎ ((why : WriteRefusal)
    × (step schema (state_now schema H txns old.number old.own) write ≡ Err why)
    × (e ≡ write_error why) × HasMore schema H txns [] old s w)

-- it tells whether a row was there
abbrev pub TellsRow : Bool → Option Fields → Type 0
TellsRow found was = found ≡ is_some was

-- it tells nothing of it
abbrev pub TellsNone : Unit {0} → Option Fields → Type 0
TellsNone u was = ⊤

-- writes are made, by the state on which they are made
abbrev pub Makes :
    (DbSchema → State → List Write) → Sessions → Writing → Sessions → Writing → Type 0
Makes writes s w t x =
    (schema : DbSchema) (H : History) (txns : List Begun) → IsWriting schema H txns s w
    → HasMore schema H txns (writes schema (state_now schema H txns w.number w.own)) w t x

-- ---- what a line tells that writes rows

-- the reply, with the writes that are made; or the name of the first rule that the line breaks
abbrev pub Told : Type 0
Told = Judged (Reply × List Write)

abbrev pub told_step : DbSchema → State → Write → Bytes → (Option Fields → Reply) → Told
told_step schema s w table reply = do
  was ← stepped (indexes_of schema table) (step schema s w)
  Ok (reply was, w ∷ [])

abbrev pub told_wipe : Asked (List Write) → Told
told_wipe wiping = do
  gone ← asked wiping
  Ok (wiped (length gone), gone)

abbrev pub told_write : DbSchema → State → WriteCommand → Told
told_write schema s (write_lines.Insert table row) =
    told_step schema s (put table row) table insert_reply
told_write schema s (write_lines.Delete table row) =
    told_step schema s (remove table row) table (λ was. deleted)
told_write schema s (write_lines.DeleteAll q) = told_wipe (wipe schema s q)
told_write schema s (write_lines.DeletePrefix q) = told_wipe (wipe_by_prefix schema s q)

-- the reply is written, and its writes are made; or the line is refused by this rule, and none is; or
-- there was no memory
abbrev pub TellsWrite :
    DbSchema → History → List Begun → Told → Writing → Bytes → Sessions → Writing
    → Result (Unit {0}) Refused → Type 0
TellsWrite schema H txns told old text s w (Ok u) =
    (reply : Reply) × (ws : List Write) × (told ≡ Ok (reply, ws))
    × (s.text.items ≡ text ++ reply_text reply) × HasMore schema H txns ws old s w
TellsWrite schema H txns told old text s w (Err refusals.Memory) = ⊤
TellsWrite schema H txns told old text s w (Err (refusals.By rule)) =
    (told ≡ Err (rule_name schema rule)) × HasMore schema H txns [] old s w

-- why a write of the table at a place is refused
abbrev pub refused_write : ℕ → WriteError → Refused
refused_write table write_errors.Memory = refusals.Memory
refused_write table e = refusals.By (rules.Row table e)
