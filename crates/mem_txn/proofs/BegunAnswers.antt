-- How a call that begins a transaction is answered, of what its caller has seen and of what it is
-- answered then.
use Rattle.std.proofs.Common.{◌≡◌, ◌∙◌, ◌<◌, ◌^◌, ◌++◌, ℕ, append-nil, List, refl, [], ◌∷◌, length, map, Option, Some, None, IfSome, Result, Ok, Err, IfOk, inl, inr, sym, ap, subst, arith}
use Rattle.std.specs.Prelude.{All}
use Rattle.std.specs.Result.{result_transpose}
use Rattle.std.specs.declared.alloc.AllocError.{AllocError}
use Rattle.mdb_schema.specs.Schema.{DbSchema}
use Rattle.mdb_schema.specs.State.{State}
use Rattle.table_index.specs.Table.{TableChange, TableRows}
use Rattle.radix_node.specs.Ids.{Counter}
use Rattle.mdb_schema.specs.History.{writes_in}
use Rattle.mem_txn.specs.DbTxn.{DbTxn, new_txn}
use Rattle.mem_txn.specs.Database.{Caller, HasRead, HasSeen}
use Rattle.mem_txn.specs.Transactions.{AnswersBegin, HasWon, HasWonAtLast, IsRefused, txn_of}
use Rattle.mem_txn.specs.declared.outcome.BeginRefused.{BeginRefused}
use Rattle.mem_txn.specs.declared.write_txn.WriteTxn.{WriteTxn}
use Rattle.mem_txn.specs.inner.DbTxnView.{AreCounted, AreSince}
use Rattle.mem_txn.specs.inner.Commits.{AnswersTurn, RefusesTurn}
use Rattle.mem_txn.specs.inner.VersionTables.{HasChanged, StandFor, Tables, schemas_of, state_of, trees_of, unwritten}
use Rattle.mem_txn.specs.inner.Versions.{AreFew, Forest, Turned}
use Rattle.mem_txn.proofs.BegunTables.{begun_stand}

-- tables of a caller's state that nobody has written to
pub tables_stand : (ts : List TableRows) (schema : DbSchema) (s : State) (r : Result Tables AllocError) → schemas_of ts ≡ schema → state_of ts ≡ s → IfOk r (λ us. us.tables ≡ map unwritten ts) → IfOk r (λ us. StandFor us.tables schema s)
tables_stand ts schema s (Ok us) schemas rows is = begun_stand ts schema s us.tables is schemas rows
tables_stand ts schema s (Err e) schemas rows is = tt

-- what holds of a value that is there
pub some_has : {A : Type 0} (o : Option A) (a : A) (P : A → Type 0) → o ≡ Some a → IfSome o P → P a
some_has {A} o a P is holds = subst (λ (x : Option A). IfSome x P) is holds

-- what holds of a value that was told, where the telling may fail and may tell nothing
pub told_has : {A E : Type 0} (r : Result (Option A) E) (told : Result A E) (P Q : A → Type 0) → ((a : A) → P a → Q a) → result_transpose r ≡ Some told → IfOk r (λ o. IfSome o P) → IfOk told Q
told_has {A} {E} (Ok (Some a)) told P Q each is holds = subst (λ (x : Option (Result A E)). IfSome x (λ t. IfOk t Q)) is (each a holds)
told_has {A} {E} (Ok None) told P Q each is holds = subst (λ (x : Option (Result A E)). IfSome x (λ t. IfOk t Q)) is tt
told_has {A} {E} (Err e) told P Q each is holds = subst (λ (x : Option (Result A E)). IfSome x (λ t. IfOk t Q)) is tt

-- the one try is the last
pub won_at_last : (p q : Caller) → HasWon p q → HasWonAtLast p q
won_at_last p q won = ([], won ∙ ap (λ (ts : List ℕ). ts ++ 0 ∷ []) (sym (append-nil p.tries)))

module _ (p q : Caller) (seen : HasSeen p q) (read : HasRead p q (length q.seen)) (turned : HasWonAtLast p q) where
  refuses : (r : BeginRefused) → RefusesTurn q r → HasSeen p r.pass × IsRefused p r.pass r.cause × HasWonAtLast p r.pass
  refuses r (same, inl memory) = (subst (HasSeen p) (sym same) seen, subst (IsRefused p r.pass) (sym memory) tt, subst (HasWonAtLast p) (sym same) turned)
  refuses r (same, inr spent) = (
    subst (HasSeen p) (sym same) seen,
    subst (IsRefused p r.pass) (sym spent.0) (subst (λ (z : Caller). HasRead p z (length z.seen)) (sym same) read, ap (λ (z : Caller). length z.seen) same ∙ spent.1),
    subst (HasWonAtLast p) (sym same) turned,
  )

  begins : {D : Type 0} (t : WriteTxn D) → AnswersTurn q (Ok t) → AnswersBegin p (Ok t)
  begins t answers =
      let same : q ≡ (txn_of t).caller = sym (ap (λ (c : DbTxn). c.caller) answers.1) in (
        subst (HasSeen p) same seen,
        subst (λ (z : Caller). HasRead p z (length z.seen)) same read,
        subst (λ (z : Caller). length z.seen < 2 ^ 63) same answers.0,
        answers.1 ∙ ap new_txn same,
        answers.2,
        subst (HasWonAtLast p) same turned,
      )

  pub begin_answers : {D : Type 0} (r : Result (WriteTxn D) BeginRefused) → AnswersTurn q r → AnswersBegin p r
  begin_answers (Ok t) answers = begins t answers
  begin_answers (Err r) answers = refuses r answers

  module _ (won : HasWon p q) where
    pub try_begins : {D : Type 0} (t : WriteTxn D) → AnswersTurn q (Ok t) → AnswersBegin p (Ok t) × HasWon p (txn_of t).caller
    try_begins t answers = (begins t answers, subst (HasWon p) (sym (ap (λ (c : DbTxn). c.caller) answers.1)) won)

    pub try_refuses : (r : BeginRefused) → RefusesTurn q r → HasSeen p r.pass × IsRefused p r.pass r.cause × HasWon p r.pass
    try_refuses r answers = let both = refuses r answers in (both.0, both.1, subst (HasWon p) (sym answers.0) won)

-- ---- the ids of a transaction that begins

pub begins_counted : (turn : Turned) (ids : Counter) (r : Result Tables AllocError) → ids ≡ turn.base.ids → AreFew (writes_in turn.caller.seen) turn.base.ids → IfOk r (λ ts. ts.ids ≡ ids) → IfOk r (λ ts. AreCounted turn 0 ts.ids)
begins_counted turn ids (Ok ts) same few is =
    let next = ap (λ (i : Counter). i.next) (is ∙ same) in
    record { book = ap (λ (i : Counter). i.book) (is ∙ same); few = omega (arith, few, next); later = omega (arith, next) }
begins_counted turn ids (Err e) same few is = tt

-- ---- what was written by a transaction that begins

-- such tables began with the trees that they have
starts-unwritten : (ts : List TableRows) → map (λ (t : TableChange). t.start) (map unwritten ts) ≡ trees_of ts
starts-unwritten [] = refl
starts-unwritten (t ∷ ts) = ap (λ (f : Forest). t.trees ∷ f) (starts-unwritten ts)

-- nothing was written since
pub begins_since : (turn : Turned) (ts : List TableRows) (r : Result Tables AllocError) → trees_of ts ≡ turn.base.trees → IfOk r (λ us. us.tables ≡ map unwritten ts) → IfOk r (λ us. (first : ℕ) → All (HasChanged first []) us.tables)
    → IfOk r (λ us. AreSince turn [] us.tables)
begins_since turn ts (Ok us) trees is changed = record {
  starts = ap (map (λ (t : TableChange). t.start)) is ∙ starts-unwritten ts ∙ trees;
  changed = changed turn.base.ids.next;
}
begins_since turn ts (Err e) trees is changed = tt
