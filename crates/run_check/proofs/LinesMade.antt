-- The lines of a transaction, and then the commits of a history, made in the store one after the other.
use Rattle.std.proofs.Common.{◌≡◌, ◌⊎◌, ◌∙◌, ◌≤◌, ◌+◌, ◌-◌, ◌++◌, ℕ, zero, suc, List, [], ◌∷◌, Bool, true, false, Some, None, length, map, nat_eq, take, drop, slice_get, add-one, refl, sym, ap, subst, inl, inr, arith, length-append}
use Rattle.std.specs.Prelude.{if◌then◌else◌, option_map}
use Rattle.std.proofs.lemmas.Bool.Decides.{nat_tests}
use Rattle.std.proofs.lemmas.List.{append-nil, append_assoc, length-drop, take_all}
use Rattle.std.proofs.lemmas.Option.{slice_get-map}
use Rattle.mdb_schema.specs.History.{Commit, History, after_writes, state_at}
use Rattle.mdb_schema.specs.LawfulSchema.{IsLawfulSchema}
use Rattle.mdb_schema.specs.Schema.{DbSchema}
use Rattle.mdb_schema.specs.State.{State}
use Rattle.mdb_schema.specs.Write.{Write}
use Rattle.mdb_schema.proofs.HistorySteps.{after_writes-append}
use Rattle.client_script.specs.declared.command.Command.{Command}
use Rattle.client_script.specs.declared.command.Command.TheVariants as command
use Rattle.client_script.specs.declared.command.WriteCommand.{WriteCommand}
use Rattle.client_script.specs.declared.line.Line.{Line}
use Rattle.run_check.specs.Commits.{Committed, accepted, accepted_line, commit_numbered, followed, history_of}
use Rattle.run_check.specs.declared.commits.Committed as commits
use Rattle.run_check.specs.declared.store.Store.{Store}
use Rattle.run_check.specs.CommitView.{AreInOrder, committed_of, write_of, writes_between, writes_of}
use Rattle.run_check.specs.inner.HistoryView.{HasMade, IsBegun, IsMaking, Makes}
use Rattle.run_check.specs.inner.StoreView.{StandsFor}
use Rattle.run_check.proofs.CommitGrows.{state_last}
use Rattle.run_check.proofs.MadeOneByOne.{made_as, made_then}
use Rattle.run_check.proofs.StoreBegins.{commit_begins}

-- ---- lines

accepted_more : (schema : DbSchema) (s : State) (ls : List WriteCommand) (l : WriteCommand) → accepted schema s (ls ++ l ∷ []) ≡ followed schema s (accepted schema s ls) (λ next. accepted_line schema next l)
accepted_more schema s [] l = append-nil (accepted_line schema s l)
accepted_more schema s (x ∷ ls) l =
    let first = accepted_line schema s x in
    let next = after_writes schema s first in
    let rest = accepted schema next ls in
    ap (λ (ws : List Write). first ++ ws) (accepted_more schema next ls l)
    ∙ sym (append_assoc first rest (accepted_line schema (after_writes schema next rest) l))
    ∙ ap (λ (u : State). (first ++ rest) ++ accepted_line schema u l) (sym (after_writes-append schema s first rest))

module _ (schema : DbSchema) (number : ℕ) (old mid : Store) (before now : List WriteCommand) (made : Makes schema number (λ s. accepted schema s before) old mid) where
  pub line_made : (new : Store) (l : WriteCommand) → now ≡ before ++ l ∷ [] → Makes schema number (λ s. accepted_line schema s l) mid new → Makes schema number (λ s. accepted schema s now) old new
  line_made new l more one =
      made_as schema number (λ s. followed schema s (accepted schema s before) (λ next. accepted_line schema next l)) (λ s. accepted schema s now) old new
      (λ s lawful. sym (accepted_more schema s before l) ∙ ap (accepted schema s) (sym more))
      (made_then schema number (λ s. accepted schema s before) (λ s. accepted_line schema s l) old mid new made one)

  pub none_made : now ≡ before → Makes schema number (λ s. accepted schema s now) old mid
  none_made same = subst (λ (ls : List WriteCommand). Makes schema number (λ s. accepted schema s ls) old mid) (sym same) made

past_end : {X : Type 0} (xs : List X) (at : ℕ) → slice_get xs at ≡ None → length xs ≤ at
past_end [] at none = omega arith
past_end (x ∷ xs) zero none = cc
past_end (x ∷ xs) (suc at) none = let h = past_end xs at none in omega (arith, h)

-- behind the last line there is none
pub none_between : (first at : ℕ) (script : List Line) → slice_get script at ≡ None → writes_between first (at + 1) script ≡ writes_between first at script
none_between first at script none =
    let end = past_end script at none in
    let long = length-drop first script in
    ap writes_of (take_all (at + 1 - first) (drop first script) (omega (arith, end, long)) ∙ sym (take_all (at - first) (drop first script) (omega (arith, end, long))))

-- another command writes no rows
pub not_write : (c : Command) → ((w : WriteCommand) → c ≡ command.Write w → ⊥) → write_of c ≡ []
not_write (command.Write w) not = absurd (not w refl)
not_write c not = refl

-- the lines are written up to the last one
pub to_end : (first last at : ℕ) (script : List Line) → (at ≡ first) ⊎ (at ≤ last) → last ≤ at → writes_between first at script ≡ writes_between first last script
to_end first last at script (inl start) reached = let same : at - first ≡ last - first = omega (arith, start, reached) in ap (λ (n : ℕ). writes_of (take n (drop first script))) same
to_end first last at script (inr before) reached = let same : at - first ≡ last - first = omega (arith, before, reached) in ap (λ (n : ℕ). writes_of (take n (drop first script))) same

-- ---- commits

pub order_there : (scripts : List (List Line)) (cs : List commits.Committed) (order : List ℕ) → AreInOrder (map (committed_of scripts) cs) order → (at place : ℕ) → slice_get order at ≡ Some place
    → (c : commits.Committed) → slice_get cs place ≡ Some c → commit_numbered (at + 1) (map (committed_of scripts) cs) ≡ Some (committed_of scripts c)
order_there scripts cs order in_order at place there c here =
    in_order.each at place there ∙ slice_get-map (committed_of scripts) cs place ∙ ap (option_map (committed_of scripts)) here

numbered : (m : ℕ) (cs : List Committed) (k : Committed) → commit_numbered m cs ≡ Some k → k.number ≡ m
numbered m [] k e = cc
numbered m (c ∷ cs) k e = of (nat_eq c.number m) refl e (numbered m cs k)
  where
    of : (b : Bool) → nat_eq c.number m ≡ b → (if b then Some c else commit_numbered m cs) ≡ Some k → (commit_numbered m cs ≡ Some k → k.number ≡ m) → k.number ≡ m
    of true is found later = let same : c ≡ k = cc in ap (λ (x : Committed). x.number) (sym same) ∙ (let n : c.number ≡ m = grind (arith, nat_tests) in n)
    of false is found later = later found

module _ (schema : DbSchema) (lawful : IsLawfulSchema schema) (cs : List Committed) (at : ℕ) (old : Store) (has : HasMade schema cs at old) where
  abbrev before : History
  before = history_of schema cs at

  pub commit_begun : (caller : ℕ) → IsMaking schema before (record { caller = caller; writes = [] }) (at + 1) old
  commit_begun caller = record {
    lawful = lawful;
    last = ap (λ (n : ℕ). n + 1) (sym has.0);
    stands = commit_begins schema before (record { caller = caller; writes = [] }) refl old has.1;
  }

  module _ (k : Committed) (there : commit_numbered (at + 1) cs ≡ Some k) where
    pub is_numbered : k.number ≡ at + 1
    is_numbered = numbered (at + 1) cs k there

    pub begun : IsBegun schema k.number old
    begun = subst (λ (n : ℕ). IsBegun schema n old) (sym is_numbered) (before, record { caller = k.client; writes = [] }, commit_begun k.client)

    longer : history_of schema cs (at + 1) ≡ before ++ record { caller = k.client; writes = accepted schema (state_at schema before (length before)) k.lines } ∷ []
    longer = ap (history_of schema cs) (add-one at) ∙ next (ap (λ (m : ℕ). commit_numbered m cs) (sym (add-one at)) ∙ there)
      where
        next : commit_numbered (suc at) cs ≡ Some k → history_of schema cs (suc at) ≡ before ++ record { caller = k.client; writes = accepted schema (state_at schema before (length before)) k.lines } ∷ []
        next is = rw is refl

    pub commit_made : (new : Store) → Makes schema k.number (λ s. accepted schema s k.lines) old new → HasMade schema cs (at + 1) new
    commit_made new made =
        let none : Commit = record { caller = k.client; writes = [] } in
        let last : at + 1 ≡ length before + 1 = ap (λ (n : ℕ). n + 1) (sym has.0) in
        let making = subst (λ (n : ℕ). Makes schema n (λ s. accepted schema s k.lines) old new) is_numbered made before none (commit_begun k.client) in
        let stands = subst (λ (s : State). StandsFor schema (before ++ record { caller = k.client; writes = accepted schema s k.lines } ∷ []) [] new) (state_last schema before none (at + 1) last) making.stands in (
          ap (λ (H : History). length H) longer ∙ length-append before (record { caller = k.client; writes = accepted schema (state_at schema before (length before)) k.lines } ∷ []) ∙ ap (λ (n : ℕ). n + 1) has.0,
          subst (λ (H : History). StandsFor schema H [] new) (sym longer) stands,
        )
