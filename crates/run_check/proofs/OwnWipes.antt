-- Writes of an open transaction, made one after the other; and rows that it takes out so.
use Rattle.std.proofs.Common.{◌≡◌, ◌≢◌, ◌∙◌, ◌+◌, ◌++◌, ℕ, List, [], ◌∷◌, Some, Result, Ok, Err, length, slice_get, take, refl, sym, ap, subst, inl, inr}
use Rattle.std.specs.Prelude.{if◌then◌else◌, is_ok}
use Rattle.mdb_datum.specs.Bytes.{Bytes}
use Rattle.mdb_datum.specs.Row.{Fields}
use Rattle.mdb_schema.specs.History.{History, after_writes}
use Rattle.mdb_schema.specs.Schema.{DbSchema, table_place}
use Rattle.mdb_schema.specs.State.{State}
use Rattle.mdb_schema.specs.Write.{Stepped, Write, remove}
use Rattle.mdb_schema.specs.declared.write_error.WriteError.{WriteError}
use Rattle.mdb_schema.specs.declared.write_error.WriteError.TheVariants as write_errors
use Rattle.run_check.specs.Commits.{accepted_step, followed}
use Rattle.run_check.specs.declared.client.Writing.{Writing}
use Rattle.run_check.specs.declared.session.Sessions.{Sessions}
use Rattle.run_check.specs.inner.ClientView.{changed_of}
use Rattle.run_check.specs.inner.HistoryView.{removed_each}
use Rattle.run_check.specs.inner.StoreView.{Begun, first_writes}
use Rattle.run_check.specs.inner.WritingView.{AnswersStep, AreWriting, HasMore, HaveMore, IsCarried, IsWriting, Makes, TellsNone, state_now}
use Rattle.run_check.proofs.MadeOneByOne.{removed_more, take_one_more}
use Rattle.run_check.proofs.OwnSteps.{has_none}
use Rattle.run_check.proofs.OwnWrites.{first_more, more_then, own_txn, own_writes, state_more}

-- ---- what more writes leave

module _ (schema : DbSchema) (H : History) (txns : List Begun) (s : Sessions) (w : Writing) (writing : IsWriting schema H txns s w) (ws : List Write) (t : Sessions) (x : Writing) (has : HasMore schema H txns ws w t x) where
  same_number : x.number ≡ w.number
  same_number = ap (λ (y : Writing). y.number) has.kept

  -- the transaction is on the same commit
  pub now_carried : IsCarried schema H has.now w.number x.own (changed_of x)
  now_carried = subst (λ (n : ℕ). IsCarried schema H has.now n x.own (changed_of x)) same_number has.writing.carried

  pub has_txn : x.own.txn ≡ w.own.txn
  has_txn = own_txn schema H txns w.number w.own (changed_of w) writing.carried ws has.now has.more x.own (changed_of x) now_carried

  pub has_writes : x.own.writes ≡ w.own.writes + length ws
  has_writes = own_writes schema H txns w.number w.own (changed_of w) writing.carried ws has.now has.more x.own (changed_of x) now_carried

  pub has_first : first_writes has.now (Some x.own) ≡ first_writes txns (Some w.own) ++ ws
  has_first = first_more schema H txns w.number w.own (changed_of w) writing.carried ws has.now has.more x.own (changed_of x) now_carried

  pub has_state : state_now schema H has.now x.number x.own ≡ after_writes schema (state_now schema H txns w.number w.own) ws
  has_state =
      ap (λ (n : ℕ). state_now schema H has.now n x.own) same_number
      ∙ state_more schema H txns w.number w.own (changed_of w) writing.carried ws has.now has.more x.own (changed_of x) now_carried

  -- and more after these
  pub has_then : (vs : List Write) (u : Sessions) (y : Writing) → HasMore schema H has.now vs x u y → HasMore schema H txns (ws ++ vs) w u y
  has_then vs u y next = record {
    now = next.now;
    more = more_then w.own.txn ws vs txns has.now next.now has.more (subst (λ (n : ℕ). HaveMore n vs has.now next.now) has_txn next.more);
    writing = next.writing;
    kept = next.kept ∙ ap (λ (z : Writing). record z { own = y.own; changed = y.changed }) has.kept;
  }

-- ---- one after the other

abbrev Each : Type 0
Each = DbSchema → State → List Write

pub makes_none : (s : Sessions) (w : Writing) → Makes (λ schema b. []) s w s w
makes_none s w = λ schema H txns writing. has_none schema H txns s w writing s refl writing.stands

pub makes_then : (f g : Each) (s t u : Sessions) (w x y : Writing) → Makes f s w t x → Makes g t x u y → Makes (λ schema b. followed schema b (f schema b) (g schema)) s w u y
makes_then f g s t u w x y first second = λ schema H txns writing.
    let b = state_now schema H txns w.number w.own in
    let one = first schema H txns writing in
    let two = second schema H one.now one.writing in
    has_then schema H txns s w writing (f schema b) t x one (g schema (after_writes schema b (f schema b))) u y
    (subst (λ (c : State). HasMore schema H one.now (g schema c) x u y) (has_state schema H txns s w writing (f schema b) t x one) two)

pub makes_as : (f g : Each) (s t : Sessions) (w x : Writing) → ((schema : DbSchema) (b : State) → f schema b ≡ g schema b) → Makes f s w t x → Makes g s w t x
makes_as f g s t w x same made = λ schema H txns writing.
    subst (λ (ws : List Write). HasMore schema H txns ws w t x) (same schema (state_now schema H txns w.number w.own)) (made schema H txns writing)

-- it is open still
pub still_writing : (f : Each) (s t : Sessions) (w x : Writing) → Makes f s w t x → AreWriting s w → AreWriting t x
still_writing f s t w x made are = let one = made are.0 are.1 are.2 are.3 in (are.0, are.1, one.now, one.writing)

-- ---- removals

module _ (name : Bytes) where
  -- one more
  pub one_removed : (s t u : Sessions) (w x y : Writing) (rs : List Fields) (at : ℕ) (r : Fields) → slice_get rs at ≡ Some r → Makes (λ schema. removed_each schema name (take at rs)) s w t x
      → Makes (λ schema b. accepted_step schema b (remove name r)) t x u y → Makes (λ schema. removed_each schema name (take (at + 1) rs)) s w u y
  one_removed s t u w x y rs at r there before now =
      makes_as (λ schema b. followed schema b (removed_each schema name (take at rs) b) (λ next. accepted_step schema next (remove name r))) (λ schema. removed_each schema name (take (at + 1) rs)) s u w y
      (λ schema b. sym (removed_more schema name b (take at rs) r) ∙ ap (λ (xs : List Fields). removed_each schema name xs b) (sym (take_one_more rs at r there)))
      (makes_then (λ schema. removed_each schema name (take at rs)) (λ schema b. accepted_step schema b (remove name r)) s t u w x y before now)

  abbrev writes_if : Fields → Stepped → List Write
  writes_if r p = if is_ok p then remove name r ∷ [] else []

  module _ (place : ℕ) (s t : Sessions) (w x : Writing) (r : Fields) (named : table_place name s.schema.now ≡ Some place) where
    abbrev Answers : Result (Unit {0}) WriteError → Type 0
    Answers result = (schema : DbSchema) (H : History) (txns : List Begun) (name : Bytes) → IsWriting schema H txns s w → table_place name schema ≡ Some place → AnswersStep TellsNone schema H txns (remove name r) w result t x

    named_so : (schema : DbSchema) (H : History) (txns : List Begun) → IsWriting schema H txns s w → table_place name schema ≡ Some place
    named_so schema H txns writing = ap (λ (d : DbSchema). table_place name d) (sym writing.schema_is) ∙ named

    pub removal_makes : Answers (Ok tt) → Makes (λ schema b. accepted_step schema b (remove name r)) s w t x
    removal_makes answers = λ schema H txns writing.
        let a = answers schema H txns name writing (named_so schema H txns writing) in
        subst (λ (ws : List Write). HasMore schema H txns ws w t x) (sym (ap (writes_if r) a.1)) a.3

    pub no_removal_makes : (e : WriteError) → e ≢ write_errors.Memory → Answers (Err e) → Makes (λ schema b. accepted_step schema b (remove name r)) s w t x
    no_removal_makes e other answers = λ schema H txns writing.
        elim (answers schema H txns name writing (named_so schema H txns writing)) [
          | inl memory ↦ absurd (other memory)
          | inr why ↦ subst (λ (ws : List Write). HasMore schema H txns ws w t x) (sym (ap (writes_if r) why.1)) why.3
        ]
