-- The turns of requests that leave the open transaction open.
use Rattle.std.proofs.Common.{◌≡◌, inl, inr, refl, ap, subst, sym, ◌∙◌, ℕ, ◌+◌, ◌≤◌, ◌^◌, add_assoc, take, true, false, Bool, List, [], ◌∷◌, ◌++◌, length, Option, Some, None, Result, Ok, Err, IfOk, IsErr, MatchOption, map, if◌then◌else◌}
use Rattle.std.specs.declared.alloc.AllocError.{AllocError}
use Rattle.std.proofs.lemmas.List.{length-append}
use Rattle.std.proofs.Math.Seq.{take-length}
use Rattle.mdb_datum.specs.Bytes.{Bytes}
use Rattle.mdb_datum.specs.Row.{Fields}
use Rattle.mdb_schema.specs.Answer as asked
use Rattle.mdb_schema.specs.Answer.{Asked, ask}
use Rattle.mdb_schema.specs.History.{History, writes_in}
use Rattle.mdb_schema.specs.Query.{Query}
use Rattle.mdb_schema.specs.ErrorsTold.{AnswersAsk, ask_error, write_error}
use Rattle.mdb_schema.specs.Schema.{DbSchema, table_place}
use Rattle.std.specs.Bool.{⊤}
use Rattle.mdb_schema.specs.State.{State, Table, table_at}
use Rattle.mdb_schema.specs.Write as written
use Rattle.mdb_schema.specs.Write.{Write, put, remove, step, Stepped, table_of}
use Rattle.mdb_schema.specs.declared.answer.Answer.{Answer}
use Rattle.mdb_schema.specs.declared.write_error.WriteError.TheVariants as write_errors
use Rattle.mem_txn.specs.DbTxn.{DbTxn, AnswersTxnWrite, AnswersStep, AnswersTxnAsk, AnswersTxnWipe, AnswersRemovals, gives_replaced, gives_row, present, table_seen}
use Rattle.mem_txn.specs.DbTxn as changed
use Rattle.mem_txn.specs.Database.{Caller, Reading, View}
use Rattle.mem_txn.specs.Transactions.{txn_of, items_of}
use Rattle.mem_txn.specs.declared.txn_error.TxnWriteError.{TxnWriteError}
use Rattle.mem_txn.specs.declared.txn_error.TxnWriteError.TheVariants as write_refused
use Rattle.mem_txn.specs.declared.txn_error.TxnAskError.{TxnAskError}
use Rattle.mem_txn.specs.declared.txn_error.TxnAskError.TheVariants as ask_refused
use Rattle.mem_txn.specs.declared.txn_error.TxnWipeError.{TxnWipeError}
use Rattle.mem_txn.specs.declared.txn_error.TxnWipeError.TheVariants as wipe_refused
use Rattle.table_index.specs.declared.wipe_error.WipeError.TheVariants as wipe_errors
use Rattle.mdb_schema.specs.declared.ask_error.AskError.{AskError}
use Rattle.mdb_schema.specs.Wipe.{wipe, wipe_by_prefix}
use Rattle.mdb_schema.proofs.KnownTables.{other_rule}
use Rattle.mem_txn.specs.declared.write_txn.WriteTxn.{WriteTxn}
use Rattle.client_script.specs.Client.{Transaction, closed, reading, writing, Client, Sight, some_open, state_seen}
use Rattle.client_script.proofs.OneClient.{insert_prints}
use Rattle.client_script.specs.Legal.{callers, number_printed}
use Rattle.std.specs.List.{enumerate_from}
use Rattle.client_script.specs.Reply as said
use Rattle.client_script.specs.Session.{IsAnswered}
use Rattle.client_script.specs.Spent.{IsFull, by_turn, ids_spent, without_ids}
use Rattle.client_script.specs.Turn.{outcome, step_turn, write_turn, wipe_turn, insert_reply, indexes_of}
use Rattle.client_script.specs.declared.command.Command.{Command}
use Rattle.client_script.specs.declared.command.AskCommand.TheVariants as ask_line
use Rattle.client_script.specs.declared.command.Command.TheVariants as command
use Rattle.client_script.specs.declared.command.WriteCommand.{WriteCommand}
use Rattle.client_script.specs.declared.command.WriteCommand.TheVariants as write_line
use Rattle.client_script.specs.RefusedWord.{write_word, question_word}
use Rattle.client_script.proofs.RuleNames.{question_same, rule_of_question, rule_same}
use Rattle.client_script.specs.RuleName.{question_rule, rule_name}
use Rattle.mdb_encode.specs.KeyRefusal.{wrong_kind, out_of_range, bad_uuid, too_many, too_long}
use Rattle.client_session.specs.declared.reply.Reply.TheVariants as replies
use Rattle.client_script.specs.declared.rule.Rule.TheVariants as rules
use Rattle.client_session.specs.inner.Asking.{asked_reply}
use Rattle.client_session.specs.inner.Refusal.{write_rule, wipe_rule, txn_question_rule, row_rule_but_memory}
use Rattle.client_session.specs.inner.ReplyOf.{reply_of}
use Rattle.client_session.specs.declared.open.Open.{Open}
use Rattle.client_session.specs.declared.open.Open.TheVariants as opens
use Rattle.client_session.specs.inner.OpenView.{TurnsTo, caller_of, transaction_of, Stands, IsNumbered, made}
use Rattle.client_session.proofs.OpenTurns.{none_made}

-- a reply that tells no commit
pub none_numbered : (p : Caller) (t : Transaction) (r : said.Reply) → number_printed r ≡ [] → made p.number t r ≡ [] → IsNumbered p t r
none_numbered p t r prints makes = ap (map (λ m. (m, p.number))) prints ∙ sym (ap (λ (cs : History). enumerate_from (length p.seen + 1) (callers cs)) makes)

-- ---- writes that are accepted

-- a command whose turn is a write
pub IsWrite : WriteCommand → Write → Bytes → (Option Fields → said.Reply) → Type 0
IsWrite c w table reply = (schema : DbSchema) (H : History) (v : Client) → write_turn schema H v c ≡ step_turn schema H v w table reply

next_changes : Client → DbTxn → List Bytes → Client
next_changes v t texts = record v { transaction = writing (record { number = length t.caller.seen; writes = t.writes; texts = texts }) }

pub accepted : (c : WriteCommand) (w : Write) (table : Bytes) (reply : Option Fields → said.Reply) → IsWrite c w table reply → (txn txn' : WriteTxn Bytes) (after : State × Option Fields) → step (txn_of txn).caller.schema (present (txn_of txn)) w ≡ Ok after → txn_of txn' ≡ changed.with_writes (txn_of txn) (w ∷ []) → items_of txn' ≡ items_of txn → (txn_of txn).spoiled ≡ false → ((n : ℕ) (t : Transaction) → made n t (reply after.1) ≡ []) → number_printed (reply after.1) ≡ [] → TurnsTo (command.Write c) (opens.Writing txn) (opens.Writing txn') (reply after.1)
unfolding IsWrite next_changes
accepted c w table reply is_write txn txn' after steps changes items sound makes prints = record {
  turns = λ v is le. record {
    next = next_changes v (changed.with_writes (txn_of txn) (w ∷ [])) (items_of txn);
    says = by_turn (ap (outcome v) (is_write (txn_of txn).caller.schema (txn_of txn).caller.seen v) ∙ rw (is, steps) refl);
    transaction = ap (λ (t : DbTxn). (next_changes v t (items_of txn)).transaction) (sym changes) ∙ ap (λ (texts : List Bytes). (next_changes v (txn_of txn') texts).transaction) (sym items);
    snapshots = refl;
    watching = refl;
    last = subst (λ (t : DbTxn). v.last ≤ length t.caller.seen) (sym changes) le;
  };
  stands = ap (λ (t : DbTxn). t.spoiled) changes ∙ sound;
  grows = none_made (txn_of txn).caller (txn_of txn').caller _ (makes (txn_of txn).caller.number (transaction_of (opens.Writing txn))) (ap (λ (t : DbTxn). t.caller) changes);
  numbered = none_numbered (txn_of txn).caller (transaction_of (opens.Writing txn)) (reply after.1) prints (makes (txn_of txn).caller.number (transaction_of (opens.Writing txn)));
}

insert_makes : (was : Option Fields) (n : ℕ) (t : Transaction) → made n t (insert_reply was) ≡ []
insert_makes None n closed = refl
insert_makes None n (reading m) = refl
insert_makes None n (writing t) = refl
insert_makes (Some row) n closed = refl
insert_makes (Some row) n (reading m) = refl
insert_makes (Some row) n (writing t) = refl

-- ---- what the answer to a write says

-- a write that was accepted: what the step gives, and what the transaction becomes
record Accepts {A : Type 0} (gives : Option Fields → A → Type 0) (w : Write) (x : A) (old new : DbTxn) : Type 0 where
  pub after : State × Option Fields
  pub steps : step old.caller.schema (present old) w ≡ Ok after
  pub given : gives after.1 x
  pub changes : new ≡ changed.with_writes old (w ∷ [])

accepts_step : {A : Type 0} (gives : Option Fields → A → Type 0) (w : Write) (x : A) (old new : DbTxn) (s : Stepped) → step old.caller.schema (present old) w ≡ s → AnswersStep gives w s (Ok x) old new → Accepts gives w x old new
accepts_step gives w x old new (Ok after) is answers = record { after = after; steps = is; given = answers.0; changes = answers.1 }
accepts_step gives w x old new (Err why) is answers = absurd answers

err_of : {A : Type 0} → TxnWriteError → Result A TxnWriteError
err_of e = Err e

ok_of : {A : Type 0} → A → Result A TxnWriteError
ok_of x = Ok x

accepts_table : {A : Type 0} (gives : Option Fields → A → Type 0) (w : Write) (x : A) (old new : DbTxn) (table : Option Table) → MatchOption table ((ok_of x ≡ Err write_refused.UnknownTable) × (new ≡ old)) (λ t. AnswersStep gives w (step old.caller.schema (present old) w) (Ok x) old new) → Accepts gives w x old new
unfolding ok_of
accepts_table gives w x old new None answers = let e = answers.0 in cc
accepts_table gives w x old new (Some table) answers = accepts_step gives w x old new (step old.caller.schema (present old) w) refl answers

accepts : {A : Type 0} (gives : Option Fields → A → Type 0) (w : Write) (x : A) (old new : DbTxn) → old.spoiled ≡ false → AnswersTxnWrite gives w old.spoiled (Ok x) old new → Accepts gives w x old new
unfolding ok_of
accepts gives w x old new sound answers = accepts_table gives w x old new (table_seen old (table_of w)) (subst (λ b. AnswersTxnWrite gives w b (Ok x) old new) sound answers)

inserted_is : (was : Option Fields) (replaced : Bool) → gives_replaced was replaced → insert_reply was ≡ (if replaced then said.replaced else said.inserted)
inserted_is None replaced is = rw is refl
inserted_is (Some row) replaced is = rw is refl

pub insert_turns : (self : Open) (txn txn' : WriteTxn Bytes) (table : Bytes) (row : Fields) (replaced : Bool) → self ≡ opens.Writing txn → (txn_of txn).spoiled ≡ false → AnswersTxnWrite gives_replaced (put table row) (txn_of txn).spoiled (Ok replaced) (txn_of txn) (txn_of txn') → items_of txn' ≡ items_of txn → TurnsTo (command.Write (write_line.Insert table row)) self (opens.Writing txn') (if replaced then said.replaced else said.inserted)
unfolding IsWrite
insert_turns self txn txn' table row replaced is sound answers items =
    let a = accepts gives_replaced (put table row) replaced (txn_of txn) (txn_of txn') sound answers in
    subst (λ (s : Open). TurnsTo (command.Write (write_line.Insert table row)) s (opens.Writing txn') (if replaced then said.replaced else said.inserted)) (sym is)
    (subst (λ (r : said.Reply). TurnsTo (command.Write (write_line.Insert table row)) (opens.Writing txn) (opens.Writing txn') r) (inserted_is a.after.1 replaced a.given)
    (accepted (write_line.Insert table row) (put table row) table insert_reply (λ schema H v. refl) txn txn' a.after a.steps a.changes items sound (insert_makes a.after.1) (insert_prints a.after.1)))

pub delete_turns : (self : Open) (txn txn' : WriteTxn Bytes) (table : Bytes) (row gone : Fields) → self ≡ opens.Writing txn → (txn_of txn).spoiled ≡ false → AnswersTxnWrite gives_row (remove table row) (txn_of txn).spoiled (Ok gone) (txn_of txn) (txn_of txn') → items_of txn' ≡ items_of txn → TurnsTo (command.Write (write_line.Delete table row)) self (opens.Writing txn') said.deleted
unfolding IsWrite
delete_turns self txn txn' table row gone is sound answers items =
    let a = accepts gives_row (remove table row) gone (txn_of txn) (txn_of txn') sound answers in
    subst (λ (s : Open). TurnsTo (command.Write (write_line.Delete table row)) s (opens.Writing txn') said.deleted) (sym is)
    (accepted (write_line.Delete table row) (remove table row) table (λ was. said.deleted) (λ schema H v. refl) txn txn' a.after a.steps a.changes items sound (λ n t. deleted_makes n t) refl)
  where
    deleted_makes : (n : ℕ) (t : Transaction) → made n t said.deleted ≡ []
    deleted_makes n closed = refl
    deleted_makes n (reading m) = refl
    deleted_makes n (writing t) = refl

-- ---- refusals

-- nothing is changed, and the line is answered with the name of a rule
same_turns : (c : WriteCommand) (txn txn' : WriteTxn Bytes) (rule : Bytes) → ((v : Client) → v.transaction ≡ transaction_of (opens.Writing txn) → write_turn (txn_of txn).caller.schema (txn_of txn).caller.seen v c ≡ Err rule) → txn_of txn' ≡ txn_of txn → items_of txn' ≡ items_of txn → (txn_of txn).spoiled ≡ false → TurnsTo (command.Write c) (opens.Writing txn) (opens.Writing txn') (said.refused rule)
unfolding next_changes
same_turns c txn txn' rule breaks changes items sound = record {
  turns = λ v is le. record {
    next = v;
    says = by_turn (ap (outcome v) (breaks v is));
    transaction = is ∙ ap (λ (t : DbTxn). (next_changes v t (items_of txn)).transaction) (sym changes) ∙ ap (λ (texts : List Bytes). (next_changes v (txn_of txn') texts).transaction) (sym items);
    snapshots = refl;
    watching = refl;
    last = subst (λ (t : DbTxn). v.last ≤ length t.caller.seen) (sym changes) le;
  };
  stands = ap (λ (t : DbTxn). t.spoiled) changes ∙ sound;
  grows = none_made (txn_of txn).caller (txn_of txn').caller [] refl (ap (λ (t : DbTxn). t.caller) changes);
  numbered = refl;
}

-- a transaction that is full with so many rows more
full_same : (t : DbTxn) (ws : List Write) (texts : List Bytes) → changed.IsFull (length ws) t → IsFull t.caller.seen (record { number = length t.caller.seen; writes = t.writes ++ ws; texts = texts })
full_same t ws texts full =
    let seen : writes_in (take (length t.caller.seen) t.caller.seen) ≡ writes_in t.caller.seen = ap writes_in (take-length t.caller.seen) in
    let both : length (t.writes ++ ws) ≡ length t.writes + length ws = length-append t.writes ws in
    subst (λ (n : ℕ). 2 ^ 36 ≤ n) (add_assoc (writes_in t.caller.seen) (length t.writes) (length ws) ∙ ap (λ (n : ℕ). n + (length t.writes + length ws)) (sym seen) ∙ ap (λ (n : ℕ). writes_in (take (length t.caller.seen) t.caller.seen) + n) (sym both)) full

-- there are too few ids for a line's writes: nothing is changed, and it is told so
spent_turns : (c : WriteCommand) (txn txn' : WriteTxn Bytes) (ws : List Write) (reply : said.Reply) → ((v : Client) → v.transaction ≡ transaction_of (opens.Writing txn) → write_turn (txn_of txn).caller.schema (txn_of txn).caller.seen v c ≡ Ok (reply, next_changes v (changed.with_writes (txn_of txn) ws) (items_of txn))) → changed.IsFull (length ws) (txn_of txn) → txn_of txn' ≡ txn_of txn → items_of txn' ≡ items_of txn → (txn_of txn).spoiled ≡ false → TurnsTo (command.Write c) (opens.Writing txn) (opens.Writing txn') ids_spent
unfolding next_changes
spent_turns c txn txn' ws reply allowed full changes items sound = record {
  turns = λ v is le. record {
    next = v;
    says = without_ids (record {
      reply = refl;
      same = refl;
      ruled = reply;
      after = next_changes v (changed.with_writes (txn_of txn) ws) (items_of txn);
      allowed = allowed v is;
      opened = record { number = length (txn_of txn).caller.seen; writes = (txn_of txn).writes ++ ws; texts = items_of txn };
      transaction = refl;
      full = full_same (txn_of txn) ws (items_of txn) full;
    });
    transaction = is ∙ ap (λ (t : DbTxn). (next_changes v t (items_of txn)).transaction) (sym changes) ∙ ap (λ (texts : List Bytes). (next_changes v (txn_of txn') texts).transaction) (sym items);
    snapshots = refl;
    watching = refl;
    last = subst (λ (t : DbTxn). v.last ≤ length t.caller.seen) (sym changes) le;
  };
  stands = ap (λ (t : DbTxn). t.spoiled) changes ∙ sound;
  grows = none_made (txn_of txn).caller (txn_of txn').caller [] refl (ap (λ (t : DbTxn). t.caller) changes);
  numbered = refl;
}

-- what a rule makes of a line; without one there was no memory
abbrev pub RefusedTo : Command → Open → Open → DbSchema → Option rules.the_data → Type 0
RefusedTo c old new schema None = ⊤
RefusedTo c old new schema (Some rule) = TurnsTo c old new (said.refused (rule_name schema rule))

pub refusal_told : (c : Command) (old new : Open) (schema : DbSchema) (rule : Option rules.the_data) (result : Result replies.the_data AllocError) → MatchOption rule (IsErr result) (λ r. result ≡ Ok (replies.Refused r)) → RefusedTo c old new schema rule → IfOk result (λ r. TurnsTo c old new (reply_of schema r))
refusal_told c old new schema None (Ok r) told turns = cc
refusal_told c old new schema None (Err e) told turns = tt
refusal_told c old new schema (Some rule) result told turns = subst (λ (r : Result replies.the_data AllocError). IfOk r (λ r. TurnsTo c old new (reply_of schema r))) (sym told) turns

-- ---- writes that are refused

but_memory : (place : ℕ) (why : written.WriteRefusal) → row_rule_but_memory (Some place) (write_error why) ≡ Some (rules.Row place (write_error why))
but_memory place written.unknown_table = refl
but_memory place written.no_id = refl
but_memory place (written.bad_key index wrong_kind) = refl
but_memory place (written.bad_key index out_of_range) = refl
but_memory place (written.bad_key index bad_uuid) = refl
but_memory place (written.bad_key index too_many) = refl
but_memory place (written.bad_key index too_long) = refl
but_memory place (written.missing index) = refl
but_memory place (written.key_taken index) = refl
but_memory place written.not_found = refl

-- the table's place
record Placed (schema : DbSchema) (name : Bytes) : Type 0 where
  place : ℕ
  is : table_place name schema ≡ Some place

placed : (schema : DbSchema) (s : State) (name : Bytes) (t : Table) → table_at schema s name ≡ Some t → Placed schema name
placed schema s name t there = of (table_place name schema) refl there
  where
    of : (place : Option ℕ) → table_place name schema ≡ place → table_at schema s name ≡ Some t → Placed schema name
    of None is there' = let e : table_at schema s name ≡ None = rw is refl in cc
    of (Some place) is there' = record { place = place; is = is }

no_table : (schema : DbSchema) (s : State) (w : Write) → table_at schema s (table_of w) ≡ None → step schema s w ≡ Err written.unknown_table
no_table schema s (put name row) none = rw none refl
no_table schema s (remove name row) none = rw none refl

write_refused_turn : (c : WriteCommand) (w : Write) (reply : Option Fields → said.Reply) → IsWrite c w (table_of w) reply → (txn txn' : WriteTxn Bytes) (why : written.WriteRefusal) → step (txn_of txn).caller.schema (present (txn_of txn)) w ≡ Err why → txn_of txn' ≡ txn_of txn → items_of txn' ≡ items_of txn → (txn_of txn).spoiled ≡ false → TurnsTo (command.Write c) (opens.Writing txn) (opens.Writing txn') (said.refused (write_word (indexes_of (txn_of txn).caller.schema (table_of w)) why))
unfolding IsWrite
write_refused_turn c w reply is_write txn txn' why refuses changes items sound = same_turns c txn txn' _ (λ v is. is_write (txn_of txn).caller.schema (txn_of txn).caller.seen v ∙ rw (is, refuses) refl) changes items sound

module _ {A : Type 0} (gives : Option Fields → A → Type 0) (c : WriteCommand) (w : Write) (reply : Option Fields → said.Reply) (is_write : IsWrite c w (table_of w) reply) (txn txn' : WriteTxn Bytes) (items : items_of txn' ≡ items_of txn) (sound : (txn_of txn).spoiled ≡ false) where
  schema : DbSchema
  schema = (txn_of txn).caller.schema

  To : TxnWriteError → Type 0
  To e = RefusedTo (command.Write c) (opens.Writing txn) (opens.Writing txn') schema (write_rule schema (table_of w) e)

  refused_rule : (t : Table) → table_at schema (present (txn_of txn)) (table_of w) ≡ Some t → (why : written.WriteRefusal) → step schema (present (txn_of txn)) w ≡ Err why → txn_of txn' ≡ txn_of txn → To (write_refused.Refused (write_error why))
  unfolding To schema
  refused_rule t there why refuses changes =
      let at = placed schema (present (txn_of txn)) (table_of w) t there in
      let other = other_rule schema (present (txn_of txn)) w t why there refuses in
      subst (λ (p : Option ℕ). RefusedTo (command.Write c) (opens.Writing txn) (opens.Writing txn') schema (row_rule_but_memory p (write_error why))) (sym at.is)
      (subst (λ (r : Option rules.the_data). RefusedTo (command.Write c) (opens.Writing txn) (opens.Writing txn') schema r) (sym (but_memory at.place why))
      (subst (λ (b : Bytes). TurnsTo (command.Write c) (opens.Writing txn) (opens.Writing txn') (said.refused b)) (sym (rule_same schema (table_of w) at.place why other at.is))
      (write_refused_turn c w reply is_write txn txn' why refuses changes items sound)))

  -- the write breaks no rule, and finds too few ids
  spent_rule : (t : Table) → table_at schema (present (txn_of txn)) (table_of w) ≡ Some t → (after : State × Option Fields) → step schema (present (txn_of txn)) w ≡ Ok after → changed.IsFull 1 (txn_of txn) → txn_of txn' ≡ txn_of txn → To (write_refused.Refused write_errors.IdsSpent)
  unfolding To schema IsWrite next_changes
  spent_rule t there after steps full changes =
      let at = placed schema (present (txn_of txn)) (table_of w) t there in
      subst (λ (p : Option ℕ). RefusedTo (command.Write c) (opens.Writing txn) (opens.Writing txn') schema (row_rule_but_memory p write_errors.IdsSpent)) (sym at.is)
      (spent_turns c txn txn' (w ∷ []) (reply after.1) (λ v is. is_write (txn_of txn).caller.schema (txn_of txn).caller.seen v ∙ rw (is, steps) refl) full changes items sound)

  refused_step : (t : Table) → table_at schema (present (txn_of txn)) (table_of w) ≡ Some t → (e : TxnWriteError) (s : Stepped) → step schema (present (txn_of txn)) w ≡ s → AnswersStep gives w s (err_of e) (txn_of txn) (txn_of txn') → To e
  unfolding To err_of
  refused_step t there e (Ok after) is answers = elim answers [
    | inl spent ↦ subst To (sym spent.error) (spent_rule t there after is spent.full spent.same)
    | inr told ↦ subst To (sym told.0) tt
  ]
  refused_step t there e (Err why) is answers = elim answers [
    | inl told ↦ subst To (sym told.0) (refused_rule t there why is told.1)
    | inr told ↦ subst To (sym told.0) tt
  ]

  refused_table : (e : TxnWriteError) (table : Option Table) → table_at schema (present (txn_of txn)) (table_of w) ≡ table → MatchOption table ((err_of {A = A} e ≡ Err write_refused.UnknownTable) × (txn_of txn' ≡ txn_of txn)) (λ t. AnswersStep gives w (step schema (present (txn_of txn)) w) (err_of e) (txn_of txn) (txn_of txn')) → To e
  unfolding To err_of schema
  refused_table e None none answers =
      let is : e ≡ write_refused.UnknownTable = (let told = answers.0 in cc) in
      subst To (sym is) (write_refused_turn c w reply is_write txn txn' written.unknown_table (no_table schema (present (txn_of txn)) w none) answers.1 items sound)
  refused_table e (Some t) there answers = refused_step t there e (step schema (present (txn_of txn)) w) refl answers

  pub refuses : (e : TxnWriteError) → AnswersTxnWrite gives w (txn_of txn).spoiled (Err e) (txn_of txn) (txn_of txn') → RefusedTo (command.Write c) (opens.Writing txn) (opens.Writing txn') (txn_of txn).caller.schema (write_rule (txn_of txn).caller.schema (table_of w) e)
  unfolding To err_of schema
  refuses e answers = refused_table e (table_seen (txn_of txn) (table_of w)) (named w) (subst (λ b. AnswersTxnWrite gives w b (Err e) (txn_of txn) (txn_of txn')) sound answers)
    where
      named : (x : Write) → table_at (txn_of txn).caller.schema (present (txn_of txn)) (table_of x) ≡ table_seen (txn_of txn) (table_of x)
      named (put name row) = refl
      named (remove name row) = refl

-- the goal of a write that is refused
pub refused_write : {A : Type 0} (gives : Option Fields → A → Type 0) (c : WriteCommand) (w : Write) (reply : Option Fields → said.Reply) → IsWrite c w (table_of w) reply → (self : Open) (txn txn' : WriteTxn Bytes) (schema : DbSchema) (e : TxnWriteError) (rule : Option rules.the_data) (result : Result replies.the_data AllocError) → self ≡ opens.Writing txn → schema ≡ (txn_of txn).caller.schema → (txn_of txn).spoiled ≡ false → AnswersTxnWrite gives w (txn_of txn).spoiled (Err e) (txn_of txn) (txn_of txn') → items_of txn' ≡ items_of txn → rule ≡ write_rule schema (table_of w) e → MatchOption rule (IsErr result) (λ r. result ≡ Ok (replies.Refused r)) → IfOk result (λ r. TurnsTo (command.Write c) self (opens.Writing txn') (reply_of schema r))
refused_write gives c w reply is_write self txn txn' schema e rule result is same sound answers items rule_is told =
    subst (λ (s : Open). IfOk result (λ r. TurnsTo (command.Write c) s (opens.Writing txn') (reply_of schema r))) (sym is)
    (refusal_told (command.Write c) (opens.Writing txn) (opens.Writing txn') schema rule result told
    (subst (λ (r : Option rules.the_data). RefusedTo (command.Write c) (opens.Writing txn) (opens.Writing txn') schema r) (sym rule_is)
    (subst (λ (d : DbSchema). RefusedTo (command.Write c) (opens.Writing txn) (opens.Writing txn') d (write_rule d (table_of w) e)) (sym same)
    (refuses gives c w reply is_write txn txn' items sound e answers))))

-- ---- wipes

count_of : ℕ → Result ℕ TxnWipeError
count_of n = Ok n

wipe_error_of : TxnWipeError → Result ℕ TxnWipeError
wipe_error_of e = Err e

pub IsWipe : WriteCommand → (DbSchema → State → Asked (List Write)) → Type 0
IsWipe c wiping = (schema : DbSchema) (H : History) (v : Client) → write_turn schema H v c ≡ wipe_turn (wiping schema) schema H v

wiped_turns : (c : WriteCommand) (wiping : DbSchema → State → Asked (List Write)) → IsWipe c wiping → (txn txn' : WriteTxn Bytes) (gone : List Write) → wiping (txn_of txn).caller.schema (present (txn_of txn)) ≡ Ok gone → txn_of txn' ≡ changed.with_writes (txn_of txn) gone → items_of txn' ≡ items_of txn → (txn_of txn).spoiled ≡ false → TurnsTo (command.Write c) (opens.Writing txn) (opens.Writing txn') (said.wiped (length gone))
unfolding IsWipe next_changes
wiped_turns c wiping is_wipe txn txn' gone lists changes items sound = record {
  turns = λ v is le. record {
    next = next_changes v (changed.with_writes (txn_of txn) gone) (items_of txn);
    says = by_turn (ap (outcome v) (is_wipe (txn_of txn).caller.schema (txn_of txn).caller.seen v) ∙ rw (is, lists) refl);
    transaction = ap (λ (t : DbTxn). (next_changes v t (items_of txn)).transaction) (sym changes) ∙ ap (λ (texts : List Bytes). (next_changes v (txn_of txn') texts).transaction) (sym items);
    snapshots = refl;
    watching = refl;
    last = subst (λ (t : DbTxn). v.last ≤ length t.caller.seen) (sym changes) le;
  };
  stands = ap (λ (t : DbTxn). t.spoiled) changes ∙ sound;
  grows = none_made (txn_of txn).caller (txn_of txn').caller [] refl (ap (λ (t : DbTxn). t.caller) changes);
  numbered = refl;
}

wipe_refused_turn : (c : WriteCommand) (wiping : DbSchema → State → Asked (List Write)) → IsWipe c wiping → (txn txn' : WriteTxn Bytes) (why : asked.AskRefusal) → wiping (txn_of txn).caller.schema (present (txn_of txn)) ≡ Err why → txn_of txn' ≡ txn_of txn → items_of txn' ≡ items_of txn → (txn_of txn).spoiled ≡ false → TurnsTo (command.Write c) (opens.Writing txn) (opens.Writing txn') (said.refused (question_word why))
unfolding IsWipe
wipe_refused_turn c wiping is_wipe txn txn' why breaks changes items sound = same_turns c txn txn' _ (λ v is. is_wipe (txn_of txn).caller.schema (txn_of txn).caller.seen v ∙ rw (is, breaks) refl) changes items sound

-- a question's refusal, from the turn that tells it
question_refused : (c : Command) (old new : Open) (schema : DbSchema) (why : asked.AskRefusal) → TurnsTo c old new (said.refused (question_word why)) → RefusedTo c old new schema (question_rule (ask_error why))
question_refused c old new schema why turns = subst (λ (r : Option rules.the_data). RefusedTo c old new schema r) (sym (rule_of_question why)) (subst (λ (b : Bytes). TurnsTo c old new (said.refused b)) (sym (question_same why)) turns)

module _ (c : WriteCommand) (wiping : DbSchema → State → Asked (List Write)) (is_wipe : IsWipe c wiping) (name : Bytes) (unknown : (schema : DbSchema) (s : State) → table_at schema s name ≡ None → wiping schema s ≡ Err asked.unknown_table) (txn txn' : WriteTxn Bytes) (items : items_of txn' ≡ items_of txn) (sound : (txn_of txn).spoiled ≡ false) where
  lists : Asked (List Write)
  lists = wiping (txn_of txn).caller.schema (present (txn_of txn))

  wipe_ok : (n : ℕ) (told : Asked (List Write)) → lists ≡ told → AnswersRemovals told (count_of n) (txn_of txn) (txn_of txn') → TurnsTo (command.Write c) (opens.Writing txn) (opens.Writing txn') (said.wiped n)
  unfolding lists count_of
  wipe_ok n (Ok gone) is answers = subst (λ (k : ℕ). TurnsTo (command.Write c) (opens.Writing txn) (opens.Writing txn') (said.wiped k)) (sym answers.0) (wiped_turns c wiping is_wipe txn txn' gone is answers.1 items sound)
  wipe_ok n (Err why) is answers = let e = answers.0 in cc

  pub wipes : (n : ℕ) → AnswersTxnWipe (txn_of txn).spoiled name (wiping (txn_of txn).caller.schema (present (txn_of txn))) (Ok n) (txn_of txn) (txn_of txn') → TurnsTo (command.Write c) (opens.Writing txn) (opens.Writing txn') (said.wiped n)
  unfolding lists count_of
  wipes n answers = of (table_seen (txn_of txn) name) (subst (λ b. AnswersTxnWipe b name lists (Ok n) (txn_of txn) (txn_of txn')) sound answers)
    where
      of : (table : Option Table) → MatchOption table ((count_of n ≡ Err wipe_refused.UnknownTable) × (txn_of txn' ≡ txn_of txn)) (λ t. AnswersRemovals lists (count_of n) (txn_of txn) (txn_of txn')) → TurnsTo (command.Write c) (opens.Writing txn) (opens.Writing txn') (said.wiped n)
      of None told = let e = told.0 in cc
      of (Some t) told = wipe_ok n lists refl told

  ToWipe : TxnWipeError → Type 0
  ToWipe e = RefusedTo (command.Write c) (opens.Writing txn) (opens.Writing txn') (txn_of txn).caller.schema (wipe_rule e)

  -- the wipe breaks no rule, and finds too few ids
  spent_wipe : (gone : List Write) → lists ≡ Ok gone → changed.IsFull (length gone) (txn_of txn) → txn_of txn' ≡ txn_of txn → ToWipe (wipe_refused.Refused wipe_errors.IdsSpent)
  unfolding ToWipe lists IsWipe next_changes
  spent_wipe gone is_lists full changes = spent_turns c txn txn' gone (said.wiped (length gone)) (λ v is. is_wipe (txn_of txn).caller.schema (txn_of txn).caller.seen v ∙ rw (is, is_lists) refl) full changes items sound

  wipe_err : (e : TxnWipeError) (told : Asked (List Write)) → lists ≡ told → AnswersRemovals told (wipe_error_of e) (txn_of txn) (txn_of txn') → ToWipe e
  unfolding ToWipe lists wipe_error_of
  wipe_err e (Ok gone) is answers = elim answers [
    | inl spent ↦ subst ToWipe (sym spent.error) (spent_wipe gone is spent.full spent.same)
    | inr told ↦ subst ToWipe (sym told.0) tt
  ]
  wipe_err e (Err why) is answers =
      let told : e ≡ wipe_refused.Refused (wipe_errors.Refused (ask_error why)) = (let x = answers.0 in cc) in
      subst ToWipe (sym told) (question_refused (command.Write c) (opens.Writing txn) (opens.Writing txn') (txn_of txn).caller.schema why (wipe_refused_turn c wiping is_wipe txn txn' why is answers.1 items sound))

  pub wipe_refuses : (e : TxnWipeError) → AnswersTxnWipe (txn_of txn).spoiled name (wiping (txn_of txn).caller.schema (present (txn_of txn))) (Err e) (txn_of txn) (txn_of txn') → RefusedTo (command.Write c) (opens.Writing txn) (opens.Writing txn') (txn_of txn).caller.schema (wipe_rule e)
  unfolding ToWipe lists wipe_error_of
  wipe_refuses e answers = of (table_seen (txn_of txn) name) refl (subst (λ b. AnswersTxnWipe b name lists (Err e) (txn_of txn) (txn_of txn')) sound answers)
    where
      of : (table : Option Table) → table_seen (txn_of txn) name ≡ table → MatchOption table ((wipe_error_of e ≡ Err wipe_refused.UnknownTable) × (txn_of txn' ≡ txn_of txn)) (λ t. AnswersRemovals lists (wipe_error_of e) (txn_of txn) (txn_of txn')) → ToWipe e
      of None none told =
          let is : e ≡ wipe_refused.UnknownTable = (let x = told.0 in cc) in
          subst ToWipe (sym is) (wipe_refused_turn c wiping is_wipe txn txn' asked.unknown_table (unknown (txn_of txn).caller.schema (present (txn_of txn)) none) told.1 items sound)
      of (Some t) there told = wipe_err e lists refl told

-- the goals of wipes
pub wiped_result : (c : WriteCommand) (wiping : DbSchema → State → Asked (List Write)) → IsWipe c wiping → (name : Bytes) → ((schema : DbSchema) (s : State) → table_at schema s name ≡ None → wiping schema s ≡ Err asked.unknown_table) → (self : Open) (txn txn' : WriteTxn Bytes) (n : ℕ) → self ≡ opens.Writing txn → (txn_of txn).spoiled ≡ false → AnswersTxnWipe (txn_of txn).spoiled name (wiping (txn_of txn).caller.schema (present (txn_of txn))) (Ok n) (txn_of txn) (txn_of txn') → items_of txn' ≡ items_of txn → TurnsTo (command.Write c) self (opens.Writing txn') (said.wiped n)
wiped_result c wiping is_wipe name unknown self txn txn' n is sound answers items = subst (λ (s : Open). TurnsTo (command.Write c) s (opens.Writing txn') (said.wiped n)) (sym is) (wipes c wiping is_wipe name unknown txn txn' items sound n answers)

pub refused_wipe : (c : WriteCommand) (wiping : DbSchema → State → Asked (List Write)) → IsWipe c wiping → (name : Bytes) → ((schema : DbSchema) (s : State) → table_at schema s name ≡ None → wiping schema s ≡ Err asked.unknown_table) → (self : Open) (txn txn' : WriteTxn Bytes) (e : TxnWipeError) (rule : Option rules.the_data) (result : Result replies.the_data AllocError) → self ≡ opens.Writing txn → (txn_of txn).spoiled ≡ false → AnswersTxnWipe (txn_of txn).spoiled name (wiping (txn_of txn).caller.schema (present (txn_of txn))) (Err e) (txn_of txn) (txn_of txn') → items_of txn' ≡ items_of txn → rule ≡ wipe_rule e → MatchOption rule (IsErr result) (λ r. result ≡ Ok (replies.Refused r)) → IfOk result (λ r. TurnsTo (command.Write c) self (opens.Writing txn') (reply_of (caller_of self).schema r))
refused_wipe c wiping is_wipe name unknown self txn txn' e rule result is sound answers items rule_is told =
    subst (λ (s : Open). IfOk result (λ r. TurnsTo (command.Write c) s (opens.Writing txn') (reply_of (caller_of s).schema r))) (sym is)
    (refusal_told (command.Write c) (opens.Writing txn) (opens.Writing txn') (txn_of txn).caller.schema rule result told
    (subst (λ (r : Option rules.the_data). RefusedTo (command.Write c) (opens.Writing txn) (opens.Writing txn') (txn_of txn).caller.schema r) (sym rule_is)
    (wipe_refuses c wiping is_wipe name unknown txn txn' items sound e answers)))

pub wipe_unknown : (q : Query) (schema : DbSchema) (s : State) → table_at schema s q.table ≡ None → wipe schema s q ≡ Err asked.unknown_table
wipe_unknown q schema s none = rw none refl

pub wipe_by_prefix_unknown : (q : Query) (schema : DbSchema) (s : State) → table_at schema s q.table ≡ None → wipe_by_prefix schema s q ≡ Err asked.unknown_table
wipe_by_prefix_unknown q schema s none = rw none refl

pub is_delete_all : (q : Query) → IsWipe (write_line.DeleteAll q) (λ schema s. wipe schema s q)
unfolding IsWipe
is_delete_all q schema H v = refl

pub is_delete_prefix : (q : Query) → IsWipe (write_line.DeletePrefix q) (λ schema s. wipe_by_prefix schema s q)
unfolding IsWipe
is_delete_prefix q schema H v = refl

pub is_insert : (table : Bytes) (row : Fields) → IsWrite (write_line.Insert table row) (put table row) table insert_reply
unfolding IsWrite
is_insert table row schema H v = refl

pub is_delete : (table : Bytes) (row : Fields) → IsWrite (write_line.Delete table row) (remove table row) table (λ was. said.deleted)
unfolding IsWrite
is_delete table row schema H v = refl

-- ---- questions

-- nothing is changed
pub kept_turns : (c : Command) (old new : Open) (r : said.Reply) → caller_of new ≡ caller_of old → transaction_of new ≡ transaction_of old → Stands new → ((v : Client) → v.transaction ≡ transaction_of old → (let p = caller_of old in IsAnswered p.schema p.seen p.number (length p.seen) v c r v)) → ((n : ℕ) (t : Transaction) → made n t r ≡ []) → number_printed r ≡ [] → TurnsTo c old new r
kept_turns c old new r caller same stands says makes prints = record {
  turns = λ v is le. record {
    next = v;
    says = says v is;
    transaction = is ∙ sym same;
    snapshots = refl;
    watching = refl;
    last = subst (λ (p : Caller). v.last ≤ length p.seen) (sym caller) le;
  };
  stands = stands;
  grows = none_made (caller_of old) (caller_of new) _ (makes (caller_of old).number (transaction_of old)) caller;
  numbered = none_numbered (caller_of old) (transaction_of old) r prints (makes (caller_of old).number (transaction_of old));
}

pub answer_makes : (a : Answer) (n : ℕ) (t : Transaction) → made n t (said.answered a) ≡ []
answer_makes a n closed = refl
answer_makes a n (reading m) = refl
answer_makes a n (writing t) = refl

pub refused_makes : (rule : Bytes) (n : ℕ) (t : Transaction) → made n t (said.refused rule) ≡ []
refused_makes rule n closed = refl
refused_makes rule n (reading m) = refl
refused_makes rule n (writing t) = refl

module _ (q : Query) (old new : Open) (sight : Sight) (opened : some_open (transaction_of old) ≡ Ok sight) (caller : caller_of new ≡ caller_of old) (same : transaction_of new ≡ transaction_of old) (stands : Stands new) where
  gives : Asked Answer
  gives = ask (caller_of old).schema (state_seen (caller_of old).schema (caller_of old).seen sight) q

  answered_turn : (a : Answer) → gives ≡ Ok a → TurnsTo (command.Ask (ask_line.Question q)) old new (said.answered a)
  unfolding gives
  answered_turn a is = kept_turns (command.Ask (ask_line.Question q)) old new (said.answered a) caller same stands (λ v open_is. rw (open_is, opened, is) refl) (answer_makes a) refl

  refused_turn : (why : asked.AskRefusal) → gives ≡ Err why → TurnsTo (command.Ask (ask_line.Question q)) old new (said.refused (question_word why))
  unfolding gives
  refused_turn why is = kept_turns (command.Ask (ask_line.Question q)) old new (said.refused (question_word why)) caller same stands (λ v open_is. rw (open_is, opened, is) refl) (refused_makes (question_word why)) refl

  asked_of : (told : Asked Answer) → gives ≡ told → TurnsTo (command.Ask (ask_line.Question q)) old new (asked_reply told)
  asked_of (Ok a) is = answered_turn a is
  asked_of (Err why) is = refused_turn why is

  pub asked_turns : TurnsTo (command.Ask (ask_line.Question q)) old new (asked_reply (ask (caller_of old).schema (state_seen (caller_of old).schema (caller_of old).seen sight) q))
  unfolding gives
  asked_turns = asked_of gives refl

  answered_of : (a : Answer) (told : Asked Answer) → gives ≡ told → AnswersAsk told (Ok a) → TurnsTo (command.Ask (ask_line.Question q)) old new (said.answered a)
  answered_of a (Ok b) is answers = answered_turn a (is ∙ ap Ok (sym answers))
  answered_of a (Err why) is answers = cc

  pub answered_turns : (a : Answer) → AnswersAsk (ask (caller_of old).schema (state_seen (caller_of old).schema (caller_of old).seen sight) q) (Ok a) → TurnsTo (command.Ask (ask_line.Question q)) old new (said.answered a)
  unfolding gives
  answered_turns a answers = answered_of a gives refl answers

  refused_of : (e : AskError) (told : Asked Answer) → gives ≡ told → AnswersAsk told (Err e) → RefusedTo (command.Ask (ask_line.Question q)) old new (caller_of old).schema (question_rule e)
  refused_of e (Ok b) is answers = subst (λ (x : AskError). RefusedTo (command.Ask (ask_line.Question q)) old new (caller_of old).schema (question_rule x)) (sym answers) tt
  refused_of e (Err why) is answers =
      let told : e ≡ ask_error why = cc in
      subst (λ (x : AskError). RefusedTo (command.Ask (ask_line.Question q)) old new (caller_of old).schema (question_rule x)) (sym told) (question_refused (command.Ask (ask_line.Question q)) old new (caller_of old).schema why (refused_turn why is))

  pub refused_question : (e : AskError) (rule : Option rules.the_data) (result : Result replies.the_data AllocError) → AnswersAsk (ask (caller_of old).schema (state_seen (caller_of old).schema (caller_of old).seen sight) q) (Err e) → rule ≡ question_rule e → MatchOption rule (IsErr result) (λ r. result ≡ Ok (replies.Refused r)) → IfOk result (λ r. TurnsTo (command.Ask (ask_line.Question q)) old new (reply_of (caller_of old).schema r))
  unfolding gives
  refused_question e rule result answers rule_is told = refusal_told (command.Ask (ask_line.Question q)) old new (caller_of old).schema rule result told (subst (λ (r : Option rules.the_data). RefusedTo (command.Ask (ask_line.Question q)) old new (caller_of old).schema r) (sym rule_is) (refused_of e gives refl answers))

-- ---- the caller stays

pub write_caller : {A : Type 0} (gives : Option Fields → A → Type 0) (w : Write) (b : Bool) (result : Result A TxnWriteError) (old new : DbTxn) → AnswersTxnWrite gives w b result old new → new.caller ≡ old.caller
write_caller gives w true result old new answers = ap (λ (t : DbTxn). t.caller) answers.1
write_caller {A} gives w false result old new answers = of (table_seen old (table_of w)) answers
  where
    stepped_caller : (s : Stepped) (r : Result A TxnWriteError) → AnswersStep gives w s r old new → new.caller ≡ old.caller
    stepped_caller (Ok after) (Ok x) told = ap (λ (t : DbTxn). t.caller) told.1
    stepped_caller (Ok after) (Err e) told = elim told [ inl spent ↦ ap (λ (t : DbTxn). t.caller) spent.same | inr spoiled ↦ ap (λ (t : DbTxn). t.caller) spoiled.1 ]
    stepped_caller (Err why) (Ok x) told = absurd told
    stepped_caller (Err why) (Err e) told = elim told [ inl same ↦ ap (λ (t : DbTxn). t.caller) same.1 | inr spoiled ↦ ap (λ (t : DbTxn). t.caller) spoiled.1 ]

    of : (table : Option Table) → MatchOption table ((result ≡ Err write_refused.UnknownTable) × (new ≡ old)) (λ t. AnswersStep gives w (step old.caller.schema (present old) w) result old new) → new.caller ≡ old.caller
    of None told = ap (λ (t : DbTxn). t.caller) told.1
    of (Some t) told = stepped_caller (step old.caller.schema (present old) w) result told

pub wipe_caller : (b : Bool) (name : Bytes) (told : Asked (List Write)) (result : Result ℕ TxnWipeError) (old new : DbTxn) → AnswersTxnWipe b name told result old new → new.caller ≡ old.caller
wipe_caller true name told result old new answers = ap (λ (t : DbTxn). t.caller) answers.1
wipe_caller false name told result old new answers = of (table_seen old name) answers
  where
    removed_caller : (told : Asked (List Write)) (r : Result ℕ TxnWipeError) → AnswersRemovals told r old new → new.caller ≡ old.caller
    removed_caller (Ok ws) (Ok n) answers' = ap (λ (t : DbTxn). t.caller) answers'.1
    removed_caller (Ok ws) (Err e) answers' = elim answers' [ inl spent ↦ ap (λ (t : DbTxn). t.caller) spent.same | inr spoiled ↦ ap (λ (t : DbTxn). t.caller) spoiled.1 ]
    removed_caller (Err why) r answers' = ap (λ (t : DbTxn). t.caller) answers'.1

    of : (table : Option Table) → MatchOption table ((result ≡ Err wipe_refused.UnknownTable) × (new ≡ old)) (λ t. AnswersRemovals told result old new) → new.caller ≡ old.caller
    of None answers' = ap (λ (t : DbTxn). t.caller) answers'.1
    of (Some t) answers' = removed_caller told result answers'

-- ---- deferred texts

pub defer_turns : (self : Open) (txn txn' : WriteTxn Bytes) (text item : Bytes) → self ≡ opens.Writing txn → item ≡ text → txn_of txn' ≡ txn_of txn → items_of txn' ≡ items_of txn ++ item ∷ [] → (txn_of txn).spoiled ≡ false → TurnsTo (command.Defer text) self (opens.Writing txn') said.deferred
unfolding next_changes
defer_turns self txn txn' text item is copied changes items sound = subst (λ (s : Open). TurnsTo (command.Defer text) s (opens.Writing txn') said.deferred) (sym is) (record {
  turns = λ v open_is le. record {
    next = next_changes v (txn_of txn) (items_of txn ++ text ∷ []);
    says = rw open_is refl;
    transaction = ap (λ (t : DbTxn). (next_changes v t (items_of txn ++ text ∷ [])).transaction) (sym changes) ∙ ap (λ (texts : List Bytes). (next_changes v (txn_of txn') texts).transaction) (sym (items ∙ ap (λ (x : Bytes). items_of txn ++ x ∷ []) copied));
    snapshots = refl;
    watching = refl;
    last = subst (λ (t : DbTxn). v.last ≤ length t.caller.seen) (sym changes) le;
  };
  stands = ap (λ (t : DbTxn). t.spoiled) changes ∙ sound;
  grows = none_made (txn_of txn).caller (txn_of txn').caller [] refl (ap (λ (t : DbTxn). t.caller) changes);
  numbered = refl;
})

-- ---- questions of the open transaction

pub reading_asked : (self : Open) (pass : Caller) (txn txn' : Reading) (q q' : Query) → self ≡ opens.Reading pass txn → Stands (opens.Reading pass txn) → txn' ≡ txn → q' ≡ q → TurnsTo (command.Ask (ask_line.Question q)) self (opens.Reading pass txn) (asked_reply (ask txn'.view.schema txn'.view.state q'))
reading_asked self pass txn txn' q q' is stands same asked =
    let sight : Sight = record { number = txn.view.number; writes = []; uncommitted = false } in
    let here = asked_turns q (opens.Reading pass txn) (opens.Reading pass txn) sight refl refl refl stands in
    let there = subst (λ (x : View). TurnsTo (command.Ask (ask_line.Question q)) (opens.Reading pass txn) (opens.Reading pass txn) (asked_reply (ask x.schema x.state q))) (sym stands.1) here in
    let shared = subst (λ (t : Reading). TurnsTo (command.Ask (ask_line.Question q)) (opens.Reading pass txn) (opens.Reading pass txn) (asked_reply (ask t.view.schema t.view.state q))) (sym same) there in
    let posed = subst (λ (x : Query). TurnsTo (command.Ask (ask_line.Question q)) (opens.Reading pass txn) (opens.Reading pass txn) (asked_reply (ask txn'.view.schema txn'.view.state x))) (sym asked) shared in
    subst (λ (s : Open). TurnsTo (command.Ask (ask_line.Question q)) s (opens.Reading pass txn) (asked_reply (ask txn'.view.schema txn'.view.state q'))) (sym is) posed

pub writing_same : (txn txn' : WriteTxn Bytes) → txn_of txn' ≡ txn_of txn → items_of txn' ≡ items_of txn → transaction_of (opens.Writing txn') ≡ transaction_of (opens.Writing txn)
writing_same txn txn' changes items = ap (λ (t : DbTxn). writing (record { number = length t.caller.seen; writes = t.writes; texts = items_of txn' })) changes ∙ ap (λ (texts : List Bytes). writing (record { number = length (txn_of txn).caller.seen; writes = (txn_of txn).writes; texts = texts })) items

pub writing_answered : (self : Open) (txn txn' : WriteTxn Bytes) (q : Query) (a : Answer) → self ≡ opens.Writing txn → (txn_of txn).spoiled ≡ false → AnswersTxnAsk (txn_of txn).spoiled (ask (txn_of txn).caller.schema (present (txn_of txn)) q) (Ok a) → txn_of txn' ≡ txn_of txn → items_of txn' ≡ items_of txn → TurnsTo (command.Ask (ask_line.Question q)) self (opens.Writing txn') (said.answered a)
unfolding next_changes
writing_answered self txn txn' q a is sound answers changes items =
    subst (λ (s : Open). TurnsTo (command.Ask (ask_line.Question q)) s (opens.Writing txn') (said.answered a)) (sym is)
    (answered_turns q (opens.Writing txn) (opens.Writing txn') (record { number = length (txn_of txn).caller.seen; writes = (txn_of txn).writes; uncommitted = true }) refl (ap (λ (t : DbTxn). t.caller) changes) (writing_same txn txn' changes items) (ap (λ (t : DbTxn). t.spoiled) changes ∙ sound) a (subst (λ b. AnswersTxnAsk b (ask (txn_of txn).caller.schema (present (txn_of txn)) q) (Ok a)) sound answers))

pub writing_refused : (self : Open) (txn txn' : WriteTxn Bytes) (q : Query) (e : TxnAskError) (rule : Option rules.the_data) (result : Result replies.the_data AllocError) → self ≡ opens.Writing txn → (txn_of txn).spoiled ≡ false → AnswersTxnAsk (txn_of txn).spoiled (ask (txn_of txn).caller.schema (present (txn_of txn)) q) (Err e) → txn_of txn' ≡ txn_of txn → items_of txn' ≡ items_of txn → rule ≡ txn_question_rule e → MatchOption rule (IsErr result) (λ r. result ≡ Ok (replies.Refused r)) → IfOk result (λ r. TurnsTo (command.Ask (ask_line.Question q)) self (opens.Writing txn') (reply_of (caller_of self).schema r))
writing_refused self txn txn' q e rule result is sound answers changes items rule_is told =
    subst (λ (s : Open). IfOk result (λ r. TurnsTo (command.Ask (ask_line.Question q)) s (opens.Writing txn') (reply_of (caller_of s).schema r))) (sym is)
    (of e rule_is (subst (λ b. AnswersTxnAsk b (ask (txn_of txn).caller.schema (present (txn_of txn)) q) (Err e)) sound answers))
  where
    of : (e : TxnAskError) → rule ≡ txn_question_rule e → AnswersTxnAsk false (ask (txn_of txn).caller.schema (present (txn_of txn)) q) (Err e) → IfOk result (λ r. TurnsTo (command.Ask (ask_line.Question q)) (opens.Writing txn) (opens.Writing txn') (reply_of (txn_of txn).caller.schema r))
    of ask_refused.Spoiled rule_is' answers' = absurd answers'
    of (ask_refused.Refused x) rule_is' answers' = refused_question q (opens.Writing txn) (opens.Writing txn') (record { number = length (txn_of txn).caller.seen; writes = (txn_of txn).writes; uncommitted = true }) refl (ap (λ (t : DbTxn). t.caller) changes) (writing_same txn txn' changes items) (ap (λ (t : DbTxn). t.spoiled) changes ∙ sound) x rule result answers' rule_is' told
