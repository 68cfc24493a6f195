-- What a line tells that writes one row, by what the code did.
use Rattle.std.proofs.Common.{◌≡◌, ◌∙◌, ◌++◌, ℕ, List, [], ◌∷◌, Bool, true, false, Option, None, Some, Result, Ok, Err, IfErr, OnOk, slice_get, refl, sym, ap, subst, inl, inr}
use Rattle.std.specs.Prelude.{is_some}
use Rattle.mdb_datum.specs.Bytes.{Bytes}
use Rattle.mdb_datum.specs.Row.{Fields}
use Rattle.mdb_encode.specs.KeyRefusal.{wrong_kind, out_of_range, bad_uuid, too_many, too_long}
use Rattle.mdb_schema.specs.History.{History}
use Rattle.mdb_schema.specs.ErrorsTold.{write_error}
use Rattle.mdb_schema.specs.Schema.{DbSchema, TableSchema, table_place}
use Rattle.mdb_schema.specs.State.{State, Table, table_at}
use Rattle.mdb_schema.specs.Tests.{◌>>=◌}
use Rattle.mdb_schema.specs.Write.{Stepped, Write, WriteRefusal, bad_key, key_taken, missing, no_id, not_found, put, remove, table_of, unknown_table}
use Rattle.mdb_schema.specs.declared.write_error.WriteError.{WriteError}
use Rattle.mdb_schema.proofs.Tables.{table_at-some}
use Rattle.mdb_schema.proofs.KnownTables.{IsOther, other_rule}
use Rattle.client_script.specs.Reply.{Reply, deleted, inserted, replaced, reply_text}
use Rattle.client_script.specs.Turn.{indexes_of, insert_reply, stepped}
use Rattle.client_script.proofs.RuleNames.{rule_same}
use Rattle.client_script.specs.declared.command.WriteCommand.TheVariants as write_lines
use Rattle.run_check.specs.declared.client.Writing.{Writing}
use Rattle.client_script.specs.declared.rule.Rule.TheVariants as rules
use Rattle.run_check.specs.declared.session.Refused.{Refused}
use Rattle.run_check.specs.declared.session.Refused.TheVariants as refusals
use Rattle.run_check.specs.declared.session.Sessions.{Sessions}
use Rattle.run_check.specs.declared.store.Store.{Store}
use Rattle.run_check.specs.inner.ClientView.{changed_of}
use Rattle.run_check.specs.inner.StoreView.{Begun, StandsFor}
use Rattle.run_check.specs.inner.WritingView.{AnswersStep, HasMore, IsWriting, TellsNone, TellsRow, TellsWrite, Told, refused_write, state_now, told_step, told_write}
use Rattle.run_check.proofs.OwnWrites.{rows_there}

-- ---- what was written

-- the text of the check is no part of what is made
pub has_said : (schema : DbSchema) (H : History) (txns : List Begun) (ws : List Write) (old : Writing) (s : Sessions) (w : Writing) (x : Sessions) → x.schema.now ≡ s.schema.now → x.store ≡ s.store → HasMore schema H txns ws old s w → HasMore schema H txns ws old x w
has_said schema H txns ws old s w x same store h = record {
  now = h.now;
  more = h.more;
  writing = record {
    schema_is = same ∙ h.writing.schema_is;
    lawful = h.writing.lawful;
    stands = subst (λ (st : Store). StandsFor schema H h.now st) (sym store) h.writing.stands;
    carried = h.writing.carried;
  };
  kept = h.kept;
}

-- what holds of a result, if it is no error but want of memory
by_result : {P : Type 0} (T : Result (Unit {0}) Refused → Type 0) (r : Result (Unit {0}) Refused) → (P → T (Ok tt)) → T (Err refusals.Memory) → OnOk r P → IfErr r (λ e. e ≡ refusals.Memory) → T r
by_result T (Ok u) right short p e = right p
by_result T (Err f) right short p e = subst (λ (x : Refused). T (Err x)) (sym e) short

pub said_tells : (schema : DbSchema) (H : History) (txns : List Begun) (told : Told) (old : Writing) (text : Bytes) (x : Sessions) (w : Writing) (r : Result (Unit {0}) Refused) (reply : Reply) (ws : List Write)
    → told ≡ Ok (reply, ws) → HasMore schema H txns ws old x w → OnOk r (x.text.items ≡ text ++ reply_text reply) → IfErr r (λ e. e ≡ refusals.Memory) → TellsWrite schema H txns told old text x w r
said_tells schema H txns told old text x w r reply ws is more said short =
    by_result {P = x.text.items ≡ text ++ reply_text reply} (λ (o : Result (Unit {0}) Refused). TellsWrite schema H txns told old text x w o) r (λ p. (reply, ws, is, p, more)) tt said short

-- ---- what was refused

refused_is : (place : ℕ) (why : WriteRefusal) → IsOther why → refused_write place (write_error why) ≡ refusals.By (rules.Row place (write_error why))
refused_is place unknown_table other = absurd other
refused_is place no_id other = refl
refused_is place (bad_key at wrong_kind) other = refl
refused_is place (bad_key at out_of_range) other = refl
refused_is place (bad_key at bad_uuid) other = refl
refused_is place (bad_key at too_many) other = refl
refused_is place (bad_key at too_long) other = refl
refused_is place (missing at) other = refl
refused_is place (key_taken at) other = refl
refused_is place not_found other = refl

insert_true : (was : Option Fields) → true ≡ is_some was → insert_reply was ≡ replaced
insert_true None e = cc
insert_true (Some row) e = refl

insert_false : (was : Option Fields) → false ≡ is_some was → insert_reply was ≡ inserted
insert_false None e = refl
insert_false (Some row) e = cc

abbrev inserted_as : Bool → Reply
inserted_as true = replaced
inserted_as false = inserted

inserted_is : (b : Bool) (was : Option Fields) → b ≡ is_some was → insert_reply was ≡ inserted_as b
inserted_is true was e = insert_true was e
inserted_is false was e = insert_false was e

module _ (schema : DbSchema) (H : History) (txns : List Begun) (s : Sessions) (w : Writing) (writing : IsWriting schema H txns s w) (text : Bytes) where
  abbrev base : State
  base = state_now schema H txns w.number w.own

  -- ---- a write that is done

  module _ (name : Bytes) (row : Fields) (mid : Sessions) (y : Writing) (x : Sessions) (schema_same : x.schema.now ≡ mid.schema.now) (store_same : x.store ≡ mid.store) (r : Result (Unit {0}) Refused) where
    pub insert_tells : (b : Bool) → AnswersStep TellsRow schema H txns (put name row) w (Ok b) mid y → OnOk r (x.text.items ≡ text ++ reply_text (inserted_as b)) → IfErr r (λ e. e ≡ refusals.Memory)
        → TellsWrite schema H txns (told_write schema base (write_lines.Insert name row)) w text x y r
    insert_tells b done said short =
        said_tells schema H txns (told_write schema base (write_lines.Insert name row)) w text x y r (inserted_as b) (put name row ∷ [])
        (ap (λ (a : Stepped). stepped (indexes_of schema name) a >>= (λ (was : Option Fields). let p : Told = Ok (insert_reply was, put name row ∷ []) in p)) done.1
        ∙ ap (λ (p : Reply). Ok (p, put name row ∷ [])) (inserted_is b done.0.1 done.2))
        (has_said schema H txns (put name row ∷ []) w mid y x schema_same store_same done.3) said short

    pub delete_tells : AnswersStep TellsNone schema H txns (remove name row) w (Ok tt) mid y → OnOk r (x.text.items ≡ text ++ reply_text deleted) → IfErr r (λ e. e ≡ refusals.Memory)
        → TellsWrite schema H txns (told_write schema base (write_lines.Delete name row)) w text x y r
    delete_tells done said short =
        said_tells schema H txns (told_write schema base (write_lines.Delete name row)) w text x y r deleted (remove name row ∷ [])
        (ap (λ (a : Stepped). stepped (indexes_of schema name) a >>= (λ (was : Option Fields). let p : Told = Ok (deleted, remove name row ∷ []) in p)) done.1)
        (has_said schema H txns (remove name row ∷ []) w mid y x schema_same store_same done.3) said short

  -- ---- one that is refused

  module _ (place : ℕ) (t : TableSchema) (there : slice_get schema place ≡ Some t) (name : Bytes) (named : table_place name schema ≡ Some place) (mid : Sessions) (y : Writing) where
    table_found : (table : Table) × (table_at schema base name ≡ Some table)
    table_found =
        let held = rows_there schema H txns w.number w.own (changed_of w) writing.carried s.store writing.stands place t there in
        let table : Table = record { place = place; schema = t; rows = held.0 } in
        (table, table_at-some schema base name table (record { place = named; schema = there; rows = held.1 }))

    step_refused : {A : Type 0} (Tells : A → Option Fields → Type 0) (write : Write) (reply : Option Fields → Reply) → table_at schema base (table_of write) ≡ Some table_found.0 → (e : WriteError)
        → AnswersStep Tells schema H txns write w (Err e) mid y → TellsWrite schema H txns (told_step schema base write name reply) w text mid y (Err (refused_write place e))
    step_refused Tells write reply found e (inl memory) =
        subst (λ (f : WriteError). TellsWrite schema H txns (told_step schema base write name reply) w text mid y (Err (refused_write place f))) (sym memory) tt
    step_refused Tells write reply found e (inr (why, is, error, more)) =
        let other = other_rule schema base write table_found.0 why found is in
        subst (λ (f : Refused). TellsWrite schema H txns (told_step schema base write name reply) w text mid y (Err f)) (sym (ap (refused_write place) error ∙ refused_is place why other)) (
          ap (λ (a : Stepped). stepped (indexes_of schema name) a >>= (λ (was : Option Fields). let p : Told = Ok (reply was, write ∷ []) in p)) is
              ∙ ap (λ (b : Bytes). Err b) (sym (rule_same schema name place why other named)),
          more,
        )

    pub insert_refused : (row : Fields) (e : WriteError) → AnswersStep TellsRow schema H txns (put name row) w (Err e) mid y → TellsWrite schema H txns (told_write schema base (write_lines.Insert name row)) w text mid y (Err (refused_write place e))
    insert_refused row e done = step_refused TellsRow (put name row) insert_reply table_found.1 e done

    pub delete_refused : (row : Fields) (e : WriteError) → AnswersStep TellsNone schema H txns (remove name row) w (Err e) mid y → TellsWrite schema H txns (told_write schema base (write_lines.Delete name row)) w text mid y (Err (refused_write place e))
    delete_refused row e done = step_refused TellsNone (remove name row) (λ was. deleted) table_found.1 e done
