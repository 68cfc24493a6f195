-- The commit that a client may be told is the entry of its number.
use Rattle.std.proofs.Common.{arith, ◌≡◌, ap, subst, sym, ◌∙◌, ℕ, suc, ◌+◌, ◌<◌, ◌≤◌, ◌⊎◌, inl, inr, List, [], ◌∷◌, length, Bool, true, false, ◌==◌, Contains, Some, Ok}
use Rattle.std.specs.Prelude.{if◌then◌else◌, nat_eq}
use Rattle.std.proofs.lemmas.Bool.{cases_eq}
use Rattle.std.proofs.lemmas.Bool.Decides.{nat_tests}
use Rattle.mdb_datum.specs.Bytes.{Bytes}
use Rattle.mdb_schema.proofs.Membership.{Contains-nil, Contains-cons_cases}
use Rattle.mdb_schema.specs.History.{state_at}
use Rattle.mdb_schema.specs.Schema.{DbSchema}
use Rattle.client_script.specs.Client.{Client, Writing, writing}
use Rattle.client_script.specs.Session.{IsCommit}
use Rattle.client_script.specs.declared.line.Line.{Line}
use Rattle.run_check.specs.Commits.{Committed, Working, accepted, all_commits, commit_numbered}
use Rattle.run_check.specs.FirstBad.{Found, found_in}
use Rattle.run_check.proofs.CommitsNumbered.{AreOnce, AreUpTo, numbers_once}
use Rattle.run_check.proofs.CommitsRead.{numbers_of}
use Rattle.run_check.proofs.FoundTells.{IsFoundBy, found_entry, found_size, found_tells}
use Rattle.run_check.proofs.NumberCounts.{count, one_if}
use Rattle.run_check.proofs.Workings.{Works, WorksFor}

-- a commit that is there has a number that comes
counted_there : (cs : List Committed) (c : Committed) → Contains cs c → 1 ≤ count c.number (numbers_of cs)
counted_there [] c here = absurd (Contains-nil c here)
counted_there (x ∷ cs) c here = elim (Contains-cons_cases x cs c here) [
  | inl same ↦
      let number : c.number ≡ x.number = ap (λ (y : Committed). y.number) (sym same) in
      let is : nat_eq c.number x.number ≡ true = grind (arith, nat_tests, number) in
      let one : one_if c.number x.number ≡ 1 = ap (λ (t : Bool). if t then 1 else 0) is in
      omega (arith, one)
  | inr later ↦ let rest = counted_there cs c later in omega (arith, rest)
]

-- where none comes twice, it is the one of its number
pub its_commit : (cs : List Committed) (c : Committed) → AreOnce cs → Contains cs c → commit_numbered c.number cs ≡ Some c
its_commit [] c once here = absurd (Contains-nil c here)
its_commit (x ∷ cs) c once here = elim (Contains-cons_cases x cs c here) [
  | inl same ↦
      let number : x.number ≡ c.number = ap (λ (y : Committed). y.number) same in
      let is : (x.number == c.number) ≡ true = grind (arith, nat_tests, number) in
      ap (λ (t : Bool). if t then Some x else commit_numbered c.number cs) is ∙ ap (λ (y : Committed). Some y) same
  | inr later ↦ by later (cases_eq x.number c.number) (λ once'. its_commit cs c once' later)
]
  where
    tail_once : AreOnce cs
    tail_once m = let le = once m in omega (arith, le)

    by : Contains cs c → (x.number ≡ c.number) ⊎ (x.number ≡ c.number → ⊥) → (AreOnce cs → commit_numbered c.number cs ≡ Some c) → (if x.number == c.number then Some x else commit_numbered c.number cs) ≡ Some c
    by later (inl same) rest =
        let is : nat_eq c.number x.number ≡ true = grind (arith, nat_tests, same) in
        let one : one_if c.number x.number ≡ 1 = ap (λ (t : Bool). if t then 1 else 0) is in
        let some = counted_there cs c later in
        let le = once c.number in
        absurd (omega (arith, one, some, le))
    by later (inr other) rest =
        let is : (x.number == c.number) ≡ false = grind (arith, nat_tests, other) in
        ap (λ (t : Bool). if t then Some x else commit_numbered c.number cs) is ∙ rest tail_once

-- its number is one of those from 1 on
up_there : (k : ℕ) (cs : List Committed) (c : Committed) → AreUpTo k cs → Contains cs c → (1 ≤ c.number) × (c.number ≤ k)
up_there k [] c up here = absurd (Contains-nil c here)
up_there k (x ∷ cs) c up here = elim (Contains-cons_cases x cs c here) [
  | inl same ↦ subst (λ (y : Committed). (1 ≤ y.number) × (y.number ≤ k)) same (up.0, up.1)
  | inr later ↦ up_there k cs c up.2 later
]

-- so the entry of that number is this client's, with the writes of its transaction
pub entry_told : (schema : DbSchema) (names : List Bytes) (scripts : List (List Line)) (out : Bytes) (found : Found) → found_in schema names scripts out ≡ Ok found → (client : ℕ) (w : Working) (v : Client) (t : Writing) (c : Committed) → Works schema found.history w v → v.transaction ≡ writing t → Contains (all_commits 1 scripts found.replies) c → c.client ≡ client → c.number ≡ t.number + 1 → c.lines ≡ w.lines → IsCommit found.history client (writing t)
entry_told schema names scripts out found is client w v t c works opened here caller number lines =
    let told : IsFoundBy schema names scripts out found = found_tells schema names scripts out found is in
    let once = numbers_once (all_commits 1 scripts found.replies) told.numbered in
    let up = up_there (length (all_commits 1 scripts found.replies)) (all_commits 1 scripts found.replies) c once.0 here in
    let high = up.1 in
    let size = found_size schema names scripts out found is in
    let low : t.number < length found.history = omega (arith, high, number, size) in
    let next : c.number ≡ suc t.number = omega (arith, number) in
    let one : commit_numbered (suc t.number) (all_commits 1 scripts found.replies) ≡ Some c = ap (λ (n : ℕ). commit_numbered n (all_commits 1 scripts found.replies)) (sym next) ∙ its_commit (all_commits 1 scripts found.replies) c once.1 here in
    let work : WorksFor schema found.history w.begun w.lines (writing t) = subst (WorksFor schema found.history w.begun w.lines) opened works.lines in
    found_entry schema names scripts out found is t.number low c one
    ∙ ap (λ (n : ℕ). Some (record { caller = n; writes = accepted schema (state_at schema found.history t.number) c.lines })) caller
    ∙ ap (λ ls. Some (record { caller = client; writes = accepted schema (state_at schema found.history t.number) ls })) lines
    ∙ ap (λ ws. Some (record { caller = client; writes = ws })) (sym work.1)
