-- A history of made clients is small: its commits and their writes are together at most one for
-- each line.
use Rattle.std.proofs.Common.{arith, ◌≡◌, refl, ap, subst, sym, ◌∙◌, ℕ, zero, suc, ◌+◌, ◌-◌, ◌*◌, ◌<◌, ◌≤◌, ◌==◌, inl, inr, List, [], ◌∷◌, ◌++◌, length, map, take, Bool, true, false, Option, Some, None, Ok, Err, slice_get, eq-eqb}
use Rattle.std.specs.Bool.{⊤}
use Rattle.std.specs.Prelude.{codes, if◌then◌else◌, nat_lt}
use Rattle.std.proofs.lemmas.Bool.{cases_lt}
use Rattle.std.proofs.lemmas.List.{length-append}
use Rattle.mdb_datum.specs.Bytes.{Bytes}
use Rattle.mdb_datum.specs.Row.{Fields}
use Rattle.mdb_schema.specs.Answer.{ask}
use Rattle.mdb_schema.specs.History.{Commit, History, writes_in}
use Rattle.mdb_schema.specs.Query.{Query}
use Rattle.mdb_schema.specs.Schema.{DbSchema}
use Rattle.mdb_schema.specs.Tests.{◌>>=◌, passed}
use Rattle.mdb_schema.specs.Write.{Write, put, step}
use Rattle.client_script.proofs.EachTurn.{writing_is}
use Rattle.client_script.proofs.OneClient.{insert_prints}
use Rattle.client_script.specs.Client.{Sight, Writing, Transaction, closed, reading, writing, Client, at_start, state_seen, none_open, some_open, read_open, write_open, sight_of, Judged}
use Rattle.client_script.specs.Legal.{number_printed, printed}
use Rattle.client_script.specs.Reply.{Reply, answered, refused}
use Rattle.client_script.specs.Session.{Answers, IsAnswered, IsEntry, Runs, Session}
use Rattle.client_script.specs.Spent.{IsWriteTold, by_turn, without_ids, ids_spent}
use Rattle.client_script.specs.Turn.{Turn, after_commit, asked, commit_limit, commit_reply, indexes_of, insert_reply, outcome, question_turn, stepped, transaction_turn, with_writes, write_turn}
use Rattle.client_script.specs.declared.command.AskCommand.TheVariants as ask_line
use Rattle.client_script.specs.declared.command.Command.{Command}
use Rattle.client_script.specs.declared.command.Command.TheVariants as command
use Rattle.client_script.specs.declared.command.TransactionCommand.{TransactionCommand}
use Rattle.client_script.specs.declared.command.TransactionCommand.TheVariants as transaction_line
use Rattle.client_script.specs.declared.command.WriteCommand.TheVariants as write_line
use Rattle.client_script.specs.declared.line.Line.{Line}
use Rattle.mem_txn.specs.Database.{AreNamed, commits_by}
use Rattle.client_session.specs.Answered.{commit_at}
use Rattle.memdb.specs.Made.{Item, items_behind}
use Rattle.memdb.specs.inner.MadeInputs.{rounds_behind}
use Rattle.memdb.proofs.ClientItems.{length-behind}

-- ---- what commits weigh

-- a commit weighs one, and one for each write; a place without one nothing
abbrev pub weight : Option Commit → ℕ
weight None = 0
weight (Some c) = length c.writes + 1

-- what so many places hold
abbrev pub weigh : List (Option Commit) → ℕ
weigh [] = 0
weigh (c ∷ cs) = weight c + weigh cs

-- what a history weighs
abbrev pub weights : History → ℕ
weights [] = 0
weights (c ∷ cs) = (length c.writes + 1) + weights cs

-- places that hold commits weigh what these do
pub weigh_some : (cs : History) → weigh (map Some cs) ≡ weights cs
weigh_some [] = refl
weigh_some (c ∷ cs) = let rest = weigh_some cs in omega (arith, rest)

-- the commits of some numbers, and then those of others
weigh_told : (H : History) (ms ns : List ℕ)
    → weigh (map (commit_at H) (ms ++ ns)) ≡ weigh (map (commit_at H) ms) + weigh (map (commit_at H) ns)
weigh_told H [] ns = omega arith
weigh_told H (m ∷ ms) ns = let rest = weigh_told H ms ns in omega (arith, rest)

-- what commits weigh is how many they are, with their writes
pub weights_are : (H : History) → weights H ≡ writes_in H + length H
weights_are [] = refl
weights_are (c ∷ H) = let rest = weights_are H in omega (arith, rest)

-- the first commits have no more writes than all
pub fewer_writes : (H : History) (n : ℕ) → writes_in (take n H) ≤ writes_in H
fewer_writes H zero = omega arith
fewer_writes [] (suc n) = omega arith
fewer_writes (c ∷ H) (suc n) = let rest = fewer_writes H n in omega (arith, rest)

-- ---- a line

-- a line of a made script: it begins or ends a transaction, puts a row or asks a question
abbrev pub IsMadeLine : Command → Type 0
IsMadeLine (command.Transaction t) = ⊤
IsMadeLine (command.Write (write_line.Insert table row)) = ⊤
IsMadeLine (command.Ask (ask_line.Question q)) = ⊤
IsMadeLine c = ⊥

-- all lines are
abbrev pub AreMadeLines : List Line → Type 0
AreMadeLines [] = ⊤
AreMadeLines (l ∷ ls) = IsMadeLine l.command × AreMadeLines ls

-- the writes of the open transaction
abbrev pub open_writes : Transaction → ℕ
open_writes closed = 0
open_writes (reading m) = 0
open_writes (writing t) = length t.writes

module _ (schema : DbSchema) (H : History) (client : ℕ) (v : Client) where
  -- the commit that is told and the writes that are then open weigh at most one more than the
  -- writes that were open
  Grows : Reply × Client → Type 0
  Grows p = IsEntry H client v.transaction p.0
      → weigh (map (commit_at H) (number_printed p.0)) + open_writes p.1.transaction
      ≤ open_writes v.transaction + 1

  -- a refusal changes nothing
  grows_refused : (rule : Bytes) → Grows (refused rule, v)
  unfolding Grows
  grows_refused rule entry = omega arith

  -- a rule, and then the rest
  grows_then : {A : Type 0} (j : Judged A) (f : A → Turn)
      → ((a : A) → j ≡ Ok a → Grows (outcome v (f a))) → Grows (outcome v (j >>= f))
  grows_then (Ok a) f each = each a refl
  grows_then (Err rule) f each = grows_refused rule

  -- a transaction that is committed is the entry of its number
  entry_weighs : (x : Writing) → v.transaction ≡ writing x
      → IsEntry H client v.transaction (commit_reply schema H x)
      → weight (commit_at H (x.number + 1)) ≡ length x.writes + 1
  entry_weighs x is entry = ap (λ (m : ℕ). weight (slice_get H m)) place ∙ ap weight there
    where
      place : x.number + 1 - 1 ≡ x.number
      place = omega arith

      there : slice_get H x.number ≡ Some (record { caller = client; writes = x.writes })
      there = subst (λ (t : Transaction). IsEntry H client t (commit_reply schema H x)) is entry

  -- its commit is told, and it is closed
  grows_commit : (x : Writing) → v.transaction ≡ writing x
      → Grows (commit_reply schema H x, after_commit x v)
  unfolding Grows
  grows_commit x is entry =
      let found = entry_weighs x is entry in
      let before = ap open_writes is in
      omega (arith, found, before)

  -- an insert makes one write
  grows_written : (x : Writing) (w : Write) (was : Option Fields) → v.transaction ≡ writing x
      → Grows (insert_reply was, with_writes (w ∷ []) x v)
  unfolding Grows
  grows_written x w was is entry =
      let none = ap (λ (ms : List ℕ). weigh (map (commit_at H) ms)) (insert_prints was) in
      let size = length-append x.writes (w ∷ []) in
      let before = ap open_writes is in
      omega (arith, none, size, before)

  -- by the turn of an insert
  grows_insert : (table : Bytes) (row : Fields)
      → Grows (outcome v (write_turn schema H v (write_line.Insert table row)))
  grows_insert table row = grows_then (write_open v.transaction) _ (λ x e.
      grows_then (stepped (indexes_of schema table) (step schema (state_seen schema H (sight_of x)) (put table row)))
      (λ was. Ok (insert_reply was, with_writes (put table row ∷ []) x v)) (λ was e'.
      grows_written x (put table row) was (writing_is v.transaction x e)))

  -- a question changes nothing
  grows_question : (sight : Judged Sight) (q : Query) → Grows (outcome v (question_turn schema H v sight q))
  unfolding Grows
  grows_question sight q = grows_then sight _ (λ s e.
      grows_then (asked (ask schema (state_seen schema H s) q)) (λ a. Ok (answered a, v)) (λ a e' entry. omega arith))

  -- a line that begins or ends a transaction makes no writes
  grows_transaction : (now : ℕ) (t : TransactionCommand) → Grows (outcome v (transaction_turn schema H now v t))
  unfolding Grows
  grows_transaction now transaction_line.Read = grows_then (none_open v.transaction) _ (λ u e entry. omega arith)
  grows_transaction now transaction_line.Write = grows_then (none_open v.transaction) _ (λ u e.
      grows_then (passed (codes "commits-spent") (nat_lt now commit_limit)) _ (λ u' e' entry. omega arith))
  grows_transaction now transaction_line.End = grows_then (read_open v.transaction) _ (λ m e entry. omega arith)
  grows_transaction now transaction_line.Commit =
      grows_then (write_open v.transaction) _ (λ x e. grows_commit x (writing_is v.transaction x e))
  grows_transaction now transaction_line.Abort =
      grows_then (write_open v.transaction) _ (λ x e entry. omega arith)

  -- an insert is told its turn, or is refused for want of ids
  grows_told : (table : Bytes) (row : Fields) (r : Reply) (next : Client)
      → IsWriteTold schema H v (write_line.Insert table row) r next → Grows (r, next)
  grows_told table row r next (by_turn told) = subst Grows told (grows_insert table row)
  grows_told table row r next (without_ids s) =
      subst (λ (x : Reply). Grows (x, next)) (sym s.reply)
      (subst (λ (x : Client). Grows (ids_spent, x)) (sym s.same) (grows_refused (codes "ids-spent")))

  -- so does each made line
  grows : (now : ℕ) (c : Command) (r : Reply) (next : Client) → IsMadeLine c
      → IsAnswered schema H client now v c r next → Grows (r, next)
  grows now (command.Transaction t) r next made told = subst Grows told (grows_transaction now t)
  grows now (command.Write (write_line.Insert table row)) r next made told = grows_told table row r next told
  grows now (command.Ask (ask_line.Question q)) r next made told =
      subst Grows told (grows_question (some_open v.transaction) q)
  grows now c r next made told = absurd made

  -- whatever it is told
  line_grows : (c : Command) (r : Reply) (next : Client) → IsMadeLine c → Answers schema H client v c r next
      → weigh (map (commit_at H) (number_printed r)) + open_writes next.transaction
      ≤ open_writes v.transaction + 1
  unfolding Grows
  line_grows c r next made a = grows a.now c r next made a.says a.entry

-- ---- a script

-- the commits that are told weigh no more than the writes that were open, with one for each line
runs_grow : (schema : DbSchema) (H : History) (client : ℕ) (v : Client) (ls : List Line) (rs : List Reply)
    (end : Client) → AreMadeLines ls → Runs schema H client v ls rs end
    → weigh (map (commit_at H) (printed rs)) ≤ open_writes v.transaction + length ls
runs_grow schema H client v [] [] end made runs = omega arith
runs_grow schema H client v [] (r ∷ rs) end made runs = absurd runs
runs_grow schema H client v (l ∷ ls) [] end made runs = absurd runs
runs_grow schema H client v (l ∷ ls) (r ∷ rs) end made (next, a, runs) =
    let first = line_grows schema H client v l.command r next made.0 a in
    let rest = runs_grow schema H client next ls rs end made.1 runs in
    let both = weigh_told H (number_printed r) (printed rs) in
    omega (arith, first, rest, both)

-- a made script has made lines alone
rounds_made : (at : ℕ) (xs : List Item) → AreMadeLines (rounds_behind at xs)
rounds_made at [] = tt
rounds_made at (x ∷ xs) = (tt, (tt, (tt, (tt, (tt, (tt, rounds_made (at + 6) xs))))))

-- a round has six lines
rounds_count : (at : ℕ) (xs : List Item) → length (rounds_behind at xs) ≡ 6 * length xs
rounds_count at [] = refl
rounds_count at (x ∷ xs) = let rest = rounds_count (at + 6) xs in omega (arith, rest)

-- so the commits that a made client tells weigh at most six for each of its rounds
pub session_light : (schema : DbSchema) (H : History) (client at number place rounds : ℕ) (rs : List Reply)
    → Session schema H client (rounds_behind at (items_behind number client place rounds)) rs
    → weigh (map (commit_at H) (printed rs)) ≤ 6 * rounds
session_light schema H client at number place rounds rs (end, runs) =
    let xs = items_behind number client place rounds in
    let le = runs_grow schema H client at_start (rounds_behind at xs) rs end (rounds_made at xs) runs in
    let lines = rounds_count at xs in
    let items = length-behind number client place rounds in
    omega (arith, le, lines, items)

-- ---- all clients

-- the sum of f k from 1 to n
abbrev pub sum_to : (ℕ → ℕ) → ℕ → ℕ
sum_to f zero = 0
sum_to f (suc k) = f (suc k) + sum_to f k

-- what the commits of a client weigh
abbrev pub own_weight : History → ℕ → ℕ
own_weight H k = weights (commits_by k H)

-- with a commit before others those of each client weigh as much or more
others_stay : (c : Commit) (H : History) (k : ℕ) → own_weight H k ≤ own_weight (c ∷ H) k
others_stay c H k = of (c.caller == k)
  where
    of : (b : Bool) → own_weight H k ≤ weights (if b then c ∷ commits_by k H else commits_by k H)
    of true = omega arith
    of false = omega arith

-- and so do all together
sums_stay : (c : Commit) (H : History) (n : ℕ) → sum_to (own_weight H) n ≤ sum_to (own_weight (c ∷ H)) n
sums_stay c H zero = omega arith
sums_stay c H (suc n) =
    let here = others_stay c H (suc n) in
    let rest = sums_stay c H n in
    omega (arith, here, rest)

-- those of its caller weigh more by what it weighs
caller_grows : (c : Commit) (H : History) (k : ℕ) → c.caller ≡ k
    → own_weight (c ∷ H) k ≡ (length c.writes + 1) + own_weight H k
caller_grows c H k is =
    ap (λ (b : Bool). weights (if b then c ∷ commits_by k H else commits_by k H)) (eq-eqb c.caller k is)

-- so all together do
sums_grow : (c : Commit) (H : History) (n : ℕ) → 0 < c.caller → c.caller ≤ n
    → (length c.writes + 1) + sum_to (own_weight H) n ≤ sum_to (own_weight (c ∷ H)) n
sums_grow c H zero some few = absurd (none some few)
  where
    none : 0 < c.caller → c.caller ≤ 0 → ⊥
    none some few = omega arith
sums_grow c H (suc n) some few = elim (cases_lt c.caller (suc n)) [
  | inl lt ↦
      let here = others_stay c H (suc n) in
      let rest = sums_grow c H n some (omega arith) in
      omega (arith, here, rest)
  | inr le ↦
      let is : c.caller ≡ suc n = omega arith in
      let here = caller_grows c H (suc n) is in
      let rest = sums_stay c H n in
      omega (arith, here, rest)
]

-- where each commit is of one of the clients, all commits weigh what those of each weigh together
named_light : (n : ℕ) (H : History) → AreNamed n H → weights H ≤ sum_to (own_weight H) n
named_light n [] named = omega arith
named_light n (c ∷ H) named =
    let first = sums_grow c H n named.0 named.1 in
    let rest = named_light n H named.2 in
    omega (arith, first, rest)

-- where each is at most so much
sum_bounded : (f : ℕ → ℕ) (bound n : ℕ) → ((k : ℕ) → 1 ≤ k → k ≤ n → f k ≤ bound) → sum_to f n ≤ n * bound
sum_bounded f bound zero each = omega arith
sum_bounded f bound (suc n) each =
    let here = each (suc n) (omega arith) (omega arith) in
    let rest = sum_bounded f bound n (λ k low high. each k low (omega arith)) in
    omega (arith, here, rest)

-- so all commits weigh at most as much as so many clients of this weight
pub all_light : (n bound : ℕ) (H : History) → AreNamed n H
    → ((k : ℕ) → 1 ≤ k → k ≤ n → weights (commits_by k H) ≤ bound) → weights H ≤ n * bound
all_light n bound H named each =
    let sum = named_light n H named in
    let le = sum_bounded (own_weight H) bound n each in
    omega (arith, sum, le)
