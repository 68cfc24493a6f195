-- Each round of a made client commits its row: where no transaction is open, its six lines tell one
-- commit, of this row, and leave no transaction open.
use Rattle.std.proofs.Common.{arith, ◌≡◌, refl, ap, subst, sym, ◌∙◌, ℕ, ◌+◌, ◌-◌, ◌^◌, ◌<◌, ◌≤◌, List, [], ◌∷◌, ◌++◌, length, map, take, Bool, Option, Some, Ok, Err, slice_get}
use Rattle.std.specs.Bool.{⊤}
use Rattle.std.specs.Prelude.{codes, nat_lt}
use Rattle.std.proofs.lemmas.Bool.{lt-ltb}
use Rattle.mdb_datum.specs.Row.{Fields}
use Rattle.mdb_schema.specs.Answer.{ask}
use Rattle.mdb_schema.specs.History.{Commit, History, writes_in}
use Rattle.mdb_schema.specs.Query.{Query}
use Rattle.mdb_schema.specs.Schema.{DbSchema}
use Rattle.mdb_schema.specs.State.{State}
use Rattle.mdb_schema.specs.Tests.{◌>>=◌, passed}
use Rattle.mdb_schema.specs.Write.{Write, Stepped, put, step}
use Rattle.client_script.proofs.OneClient.{insert_prints}
use Rattle.client_script.specs.Client.{Sight, Writing, Transaction, closed, reading, writing, Client, state_seen, none_open, some_open, read_open, write_open, sight_of, Judged}
use Rattle.client_script.specs.Legal.{number_printed, printed}
use Rattle.client_script.specs.Reply.{Reply, read_at, write_at, ended, answered}
use Rattle.client_script.specs.Session.{Answers, IsEntry, Runs}
use Rattle.client_script.specs.Spent.{IsFull, IsSpent, IsWriteTold, by_turn, without_ids}
use Rattle.client_script.specs.Turn.{Turn, after_commit, asked, commit_limit, commit_reply, indexes_of, insert_reply, outcome, question_turn, stepped, transaction_turn, with_transaction, with_writes, without_transaction, write_turn}
use Rattle.client_script.specs.declared.command.AskCommand.TheVariants as ask_line
use Rattle.client_script.specs.declared.command.Command.TheVariants as command
use Rattle.client_script.specs.declared.command.TransactionCommand.TheVariants as transaction_line
use Rattle.client_script.specs.declared.command.WriteCommand.{WriteCommand}
use Rattle.client_script.specs.declared.command.WriteCommand.TheVariants as write_line
use Rattle.client_session.specs.Answered.{commit_at}
use Rattle.memdb.proofs.SmallHistory.{fewer_writes}
use Rattle.memdb.specs.Made.{Item}
use Rattle.memdb.specs.inner.MadeInputs.{first_of, rounds_behind, row_of}
use Rattle.memdb.proofs.MadeHistory.{commit_of}

-- a row of `items`, put
abbrev item_put : Item → Write
item_put x = put (codes "items") (row_of x)

-- the command that puts it
abbrev item_insert : Item → WriteCommand
item_insert x = write_line.Insert (codes "items") (row_of x)

-- a write transaction that has just new_writing
abbrev new_writing : ℕ → Writing
new_writing m = record { number = m; writes = []; texts = [] }

-- and one that has put a row
abbrev with_item : ℕ → Item → Writing
with_item m x = record { number = m; writes = item_put x ∷ []; texts = [] }

-- a row can be put, whatever is seen
abbrev pub IsEverPut : DbSchema → History → Item → Type 0
IsEverPut schema H x = (s : Sight)
    → (p : State × Option Fields) × (step schema (state_seen schema H s) (item_put x) ≡ Ok p)

-- so can each of these
abbrev pub AreEverPut : DbSchema → History → List Item → Type 0
AreEverPut schema H [] = ⊤
AreEverPut schema H (x ∷ xs) = IsEverPut schema H x × AreEverPut schema H xs

-- what a line leaves: no commit is told, and this transaction is open
record Leaves (t : Transaction) (r : Reply) (next : Client) : Type 0 where
  quiet : number_printed r ≡ []
  open_then : next.transaction ≡ t

-- where its turn's outcome does
leaves : (t : Transaction) (p : Reply × Client) (r : Reply) (next : Client) → number_printed p.0 ≡ []
    → p.1.transaction ≡ t → p ≡ (r, next) → Leaves t r next
leaves t p r next quiet open_then is = record {
  quiet = sym (ap (λ (x : Reply × Client). number_printed x.0) is) ∙ quiet;
  open_then = sym (ap (λ (x : Reply × Client). x.1.transaction) is) ∙ open_then;
}

module _ (schema : DbSchema) (H : History) (client : ℕ) where
  -- ---- the lines that begin and end transactions

  -- where no transaction is open and commits are left, `write` begins one
  begins_write : (now : ℕ) (v : Client) → now < commit_limit → v.transaction ≡ closed
      → outcome v (transaction_turn schema H now v transaction_line.Write)
      ≡ (write_at now, with_transaction now (writing (new_writing now)) v)
  begins_write now v few none =
      ap (λ (t : Transaction). outcome v (none_open t >>= (λ free. of (nat_lt now commit_limit)))) none
      ∙ ap (λ (b : Bool). outcome v (of b)) (lt-ltb now commit_limit few)
    where
      of : Bool → Turn
      of b = passed (codes "commits-spent") b
          >>= (λ few. Ok (write_at now, with_transaction now (writing (new_writing now)) v))

  -- so the line does
  by_write : (v next : Client) (r : Reply) → length H < commit_limit → v.transaction ≡ closed
      → Answers schema H client v (command.Transaction transaction_line.Write) r next → (m : ℕ) × Leaves (writing (new_writing m)) r next
  by_write v next r few none a =
      let begins = begins_write a.now v (let there = a.there in omega arith) none in
      (a.now, leaves (writing (new_writing a.now)) _ r next refl refl (sym begins ∙ a.says))

  -- `commit` tells the number of the entry that it is
  by_commit : (v next : Client) (r : Reply) (t : Writing) → v.transaction ≡ writing t
      → Answers schema H client v (command.Transaction transaction_line.Commit) r next
      → (number_printed r ≡ (t.number + 1) ∷ []) × (next.transaction ≡ closed)
      × (slice_get H t.number ≡ Some (record { caller = client; writes = t.writes }))
  by_commit v next r t is a = (
    sym (ap (λ (p : Reply × Client). number_printed p.0) tells),
    sym (ap (λ (p : Reply × Client). p.1.transaction) tells),
    subst (λ (x : Reply). IsEntry H client (writing t) x) (sym (ap (λ (p : Reply × Client). p.0) tells))
        (subst (λ (o : Transaction). IsEntry H client o r) is a.entry),
  )
    where
      of : Transaction → Turn
      of o = write_open o >>= (λ x. Ok (commit_reply schema H x, after_commit x v))

      tells : outcome v (of (writing t)) ≡ (r, next)
      tells =
          sym (ap (λ (o : Transaction). outcome v (of o)) is) ∙ a.says

  -- where no transaction is open, `read` begins one
  by_read : (v next : Client) (r : Reply) → v.transaction ≡ closed
      → Answers schema H client v (command.Transaction transaction_line.Read) r next → (m : ℕ) × Leaves (reading m) r next
  by_read v next r none a =
      let begins = ap (λ (t : Transaction). outcome v (of t)) none in
      (a.now, leaves (reading a.now) (outcome v (of closed)) r next refl refl (sym begins ∙ a.says))
    where
      of : Transaction → Turn
      of t = none_open t >>= (λ free. Ok (read_at a.now, with_transaction a.now (reading a.now) v))

  -- `end` closes it
  by_end : (v next : Client) (r : Reply) (m : ℕ) → v.transaction ≡ reading m
      → Answers schema H client v (command.Transaction transaction_line.End) r next → Leaves closed r next
  by_end v next r m is a =
      let ends = ap (λ (t : Transaction). outcome v (of t)) is in
      leaves closed (outcome v (of (reading m))) r next refl refl (sym ends ∙ a.says)
    where
      of : Transaction → Turn
      of t = read_open t >>= (λ n. Ok (ended, without_transaction v))

  -- ---- a question changes nothing, whatever it answers

  -- no commit is told, and what is open stays so
  Same : Client → Reply × Client → Type 0
  Same v p = Leaves v.transaction p.0 p.1

  -- a refusal changes nothing
  same_then : {A : Type 0} (v : Client) (j : Judged A) (f : A → Turn)
      → ((a : A) → Same v (outcome v (f a))) → Same v (outcome v (j >>= f))
  unfolding Same
  same_then v (Ok a) f each = each a
  same_then v (Err rule) f each = record { quiet = refl; open_then = refl }

  -- nor does an answer
  same_question : (v : Client) (sight : Judged Sight) (q : Query)
      → Same v (outcome v (question_turn schema H v sight q))
  unfolding Same
  same_question v sight q = same_then v sight _ (λ s.
      same_then v (asked (ask schema (state_seen schema H s) q)) (λ a. Ok (answered a, v)) (λ a.
      record { quiet = refl; open_then = refl }))

  -- so the line doesn't
  by_question : (v next : Client) (r : Reply) (q : Query)
      → Answers schema H client v (command.Ask (ask_line.Question q)) r next → Leaves v.transaction r next
  unfolding Same
  by_question v next r q a =
      subst (Same v) a.says (same_question v (some_open v.transaction) q)

  -- ---- an insert, in a transaction that has just new_writing

  module _ (x : Item) (small : writes_in H + 1 < 2 ^ 36) (puts : IsEverPut schema H x) where
    -- its reply, and what the client knows then
    inserted_as : ℕ → Client → Option Fields → Reply × Client
    inserted_as m v was = (insert_reply was, with_writes (item_put x ∷ []) (new_writing m) v)

    -- by its turn the row is put
    insert_turn : (m : ℕ) (v : Client) → v.transaction ≡ writing (new_writing m)
        → (was : Option Fields) × (write_turn schema H v (item_insert x) ≡ Ok (inserted_as m v was))
    unfolding inserted_as
    insert_turn m v is = (
      p.0.1,
      ap (λ (o : Transaction). write_open o >>= at) is ∙ ap (λ (s : Stepped). of (new_writing m) s) p.1,
    )
      where
        p : (p : State × Option Fields)
            × (step schema (state_seen schema H (sight_of (new_writing m))) (item_put x) ≡ Ok p)
        p = puts (sight_of (new_writing m))

        of : Writing → Stepped → Turn
        of t s = stepped (indexes_of schema (codes "items")) s
            >>= (λ was. Ok (insert_reply was, with_writes (item_put x ∷ []) t v))

        at : Writing → Turn
        at t = of t (step schema (state_seen schema H (sight_of t)) (item_put x))

    -- so few writes don't fill a transaction
    not_full : (m : ℕ) (t : Writing) → writing t ≡ writing (with_item m x) → IsFull H t → ⊥
    not_full m t is full = of (subst Full is full) (fewer_writes H m)
      where
        Full : Transaction → Type 0
        Full closed = ⊤
        Full (reading n) = ⊤
        Full (writing u) = IsFull H u

        of : 2 ^ 36 ≤ writes_in (take m H) + 1 → writes_in (take m H) ≤ writes_in H → ⊥
        of many fewer = omega (arith, small)

    -- so the line isn't told that there are too few ids
    not_spent : (m : ℕ) (v next : Client) (r : Reply) (was : Option Fields)
        → write_turn schema H v (item_insert x) ≡ Ok (inserted_as m v was)
        → IsSpent schema H v (item_insert x) r next → ⊥
    unfolding inserted_as
    not_spent m v next r was allowed s = not_full m s.opened opened s.full
      where
        after : outcome v (Ok (s.ruled, s.after)) ≡ inserted_as m v was
        after = ap (outcome v) (sym s.allowed ∙ allowed)

        opened : writing s.opened ≡ writing (with_item m x)
        opened = sym s.transaction ∙ ap (λ (p : Reply × Client). p.1.transaction) after

    -- whatever it is told, the row is put
    insert_told : (m : ℕ) (v next : Client) (r : Reply) → v.transaction ≡ writing (new_writing m)
        → IsWriteTold schema H v (item_insert x) r next → Leaves (writing (with_item m x)) r next
    unfolding inserted_as
    insert_told m v next r is (by_turn told) =
        let allowed = insert_turn m v is in
        leaves (writing (with_item m x)) (inserted_as m v allowed.0) r next (insert_prints allowed.0) refl
        (sym (ap (outcome v) allowed.1) ∙ told)
    insert_told m v next r is (without_ids s) =
        let allowed = insert_turn m v is in
        absurd (not_spent m v next r allowed.0 allowed.1 s)

    -- so it is by the line
    by_insert : (v next : Client) (r : Reply) (m : ℕ) → v.transaction ≡ writing (new_writing m)
        → Answers schema H client v (command.Write (item_insert x)) r next → Leaves (writing (with_item m x)) r next
    by_insert v next r m is a = insert_told m v next r is a.says

-- ---- all rounds

-- where just the third of six tells a number
one_number : (a b c d e f ms : List ℕ) (m : ℕ) → a ≡ [] → b ≡ [] → c ≡ m ∷ [] → d ≡ [] → e ≡ [] → f ≡ []
    → a ++ (b ++ (c ++ (d ++ (e ++ (f ++ ms))))) ≡ m ∷ ms
one_number a b c d e f ms m is-a is-b is-c is-d is-e is-f = rw (is-a, is-b, is-c, is-d, is-e, is-f) refl

module _ (schema : DbSchema) (H : History) (client : ℕ) where
  -- the number of an entry before others
  first_commit : (x : Item) (m : ℕ) (ms : List ℕ) (cs : List Commit)
      → slice_get H m ≡ Some (commit_of client x) → map (commit_at H) ms ≡ map Some cs
      → map (commit_at H) ((m + 1) ∷ ms) ≡ map Some (commit_of client x ∷ cs)
  first_commit x m ms cs there rest =
      let place : m + 1 - 1 ≡ m = omega arith in
      let found : commit_at H (m + 1) ≡ Some (commit_of client x) = ap (slice_get H) place ∙ there in
      ap (λ (c : Option Commit). c ∷ map (commit_at H) ms) found
      ∙ ap (λ (os : List (Option Commit)). Some (commit_of client x) ∷ os) rest

  module _ (few : length H < commit_limit) (small : writes_in H + 1 < 2 ^ 36) where
    -- the commits that are told are those of the client's rows, in order
    pub rounds_told : (at : ℕ) (xs : List Item) (rs : List Reply) (v end : Client) → AreEverPut schema H xs
        → v.transaction ≡ closed → Runs schema H client v (rounds_behind at xs) rs end
        → map (commit_at H) (printed rs) ≡ map Some (map (commit_of client) xs)
    rounds_told at [] [] v end puts none runs = refl
    rounds_told at [] (r ∷ rs) v end puts none runs = absurd runs
    rounds_told at (x ∷ xs) [] v end puts none runs = absurd runs
    rounds_told at (x ∷ xs) (r1 ∷ []) v end puts none (v1, a1, runs) = absurd runs
    rounds_told at (x ∷ xs) (r1 ∷ r2 ∷ []) v end puts none (v1, a1, (v2, a2, runs)) = absurd runs
    rounds_told at (x ∷ xs) (r1 ∷ r2 ∷ r3 ∷ []) v end puts none (v1, a1, (v2, a2, (v3, a3, runs))) = absurd runs
    rounds_told at (x ∷ xs) (r1 ∷ r2 ∷ r3 ∷ r4 ∷ []) v end puts none
        (v1, a1, (v2, a2, (v3, a3, (v4, a4, runs)))) = absurd runs
    rounds_told at (x ∷ xs) (r1 ∷ r2 ∷ r3 ∷ r4 ∷ r5 ∷ []) v end puts none
        (v1, a1, (v2, a2, (v3, a3, (v4, a4, (v5, a5, runs))))) = absurd runs
    rounds_told at (x ∷ xs) (r1 ∷ r2 ∷ r3 ∷ r4 ∷ r5 ∷ r6 ∷ rs) v end puts none
        (v1, a1, (v2, a2, (v3, a3, (v4, a4, (v5, a5, (v6, a6, runs)))))) =
        let w = by_write schema H client v v1 r1 few none a1 in
        let i = by_insert schema H client x small puts.0 v1 v2 r2 w.0 w.1.open_then a2 in
        let c = by_commit schema H client v2 v3 r3 (with_item w.0 x) i.open_then a3 in
        let b = by_read schema H client v3 v4 r4 c.1 a4 in
        let q = by_question schema H client v4 v5 r5 (first_of x) a5 in
        let e = by_end schema H client v5 v6 r6 b.0 (q.open_then ∙ b.1.open_then) a6 in
        let rest = rounds_told (at + 6) xs rs v6 end puts.1 e.open_then runs in
        let quiet = one_number _ _ _ _ _ _ (printed rs) (w.0 + 1) w.1.quiet i.quiet c.0 b.1.quiet q.quiet e.quiet in
        ap (map (commit_at H)) quiet ∙ first_commit x w.0 (printed rs) (map (commit_of client) xs) c.2 rest
