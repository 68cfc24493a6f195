-- A client that is alone and has fewer than 2^35 lines is never told that there are too few ids: so
-- much as it writes, and as many rows as there are then, are together at most two for each line.
use Rattle.std.proofs.Common.{arith, ◌≡◌, refl, ap, subst, sym, ◌∙◌, ℕ, suc, ◌+◌, ◌*◌, ◌^◌, ◌<◌, ◌≤◌, ◌⊎◌, inl, inr, List, [], ◌∷◌, ◌++◌, length, take, Option, Ok, IsPermutation}
use Rattle.std.specs.Bool.{⊤}
use Rattle.std.specs.List.{enumerate_from}
use Rattle.std.proofs.lemmas.List.{length-append}
use Rattle.mdb_datum.specs.Bytes.{Bytes}
use Rattle.mdb_datum.specs.Row.{Fields}
use Rattle.mdb_schema.specs.History.{Commit, History, after_writes, after_commits, state_at, state_or, writes_in}
use Rattle.mdb_schema.specs.LawfulSchema.{IsLawfulSchema}
use Rattle.mdb_schema.specs.Query.{Query}
use Rattle.mdb_schema.specs.Schema.{DbSchema}
use Rattle.mdb_schema.specs.State.{State, empty_state, IsLawfulState}
use Rattle.mdb_schema.specs.Wipe.{wipe, wipe_by_prefix}
use Rattle.mdb_schema.specs.Write.{Write, put, remove, Stepped, step}
use Rattle.mdb_schema.proofs.LawfulStates.{state_at_lawful, writes_keep}
use Rattle.client_script.specs.Alone.{Request, to_transact, to_write, to_defer, to_ask, to_name, to_size, as_command, AreRequests, turn, alone, commit_printed}
use Rattle.client_script.specs.Client.{Writing, Transaction, closed, reading, writing, Client, at_start, state_seen, sight_of}
use Rattle.client_script.specs.Legal.{Legal, printed, number_printed, all_printed, callers}
use Rattle.client_script.specs.Reply.{Reply, output_text}
use Rattle.client_script.specs.Session.{IsAnswered, IsEntry, Runs, Sessions}
use Rattle.client_script.specs.Spent.{IsWriteTold, by_turn, without_ids}
use Rattle.client_script.specs.Turn.{Turn, write_turn, outcome, commit_limit}
use Rattle.client_script.specs.declared.command.WriteCommand.{WriteCommand}
use Rattle.client_script.specs.declared.line.Line.{Line}
use Rattle.client_script.specs.Within.{IsWithin}
use Rattle.client_script.proofs.LongerHistory.{next_within, start_within}
use Rattle.client_script.proofs.OneClient.{AreTurns, IsOn, Keeps, same, commits, keeps, StandsOn, Prints, TellsCommit, told_here, later, later_commit, next_commit, within_history, within_up, told_each, as_many, printed_few, one_session, self_le, requested}
use Rattle.client_script.proofs.EachTurn.{EachOutcome, turn_so}
use Rattle.client_script.proofs.RowCounts.{rows_in, rows_in-empty, put_count, remove_count, wipe_count, wipe_by_prefix_count}
use Rattle.mdb_schema.proofs.HistorySteps.{after_writes-append, after_commits-more, writes_in-more}

-- after so many lines: a transaction stands on the first k commits, and all writes until now, with
-- as many rows as it sees, are at most two for each line
abbrev Bounded : DbSchema → History → (k lines : ℕ) → Transaction → Type 0
Bounded schema H k lines closed = ⊤
Bounded schema H k lines (reading m) = ⊤
Bounded schema H k lines (writing t) = (t.number ≡ k) × (writes_in (take k H) + (length t.writes + rows_in (state_seen schema H (sight_of t))) ≤ 2 * lines)

bounded_more : (schema : DbSchema) (H : History) (k lines : ℕ) (t : Transaction) → Bounded schema H k lines t → Bounded schema H k (suc lines) t
bounded_more schema H k lines closed bound = tt
bounded_more schema H k lines (reading m) bound = tt
bounded_more schema H k lines (writing t) bound = (bound.0, let le = bound.1 in omega (arith, le))

-- ---- a line

-- writes that add no more than two, with the rows
grown : (schema : DbSchema) (H : History) (k lines : ℕ) (x : Writing) (ws : List Write) (texts : List Bytes) → Bounded schema H k lines (writing x)
    → rows_in (after_writes schema (state_seen schema H (sight_of x)) ws) + length ws ≤ rows_in (state_seen schema H (sight_of x)) + 2
    → Bounded schema H k (suc lines) (writing (record { number = x.number; writes = x.writes ++ ws; texts = texts }))
grown schema H k lines x ws texts bound few =
    let size = length-append x.writes ws in
    let seen = ap rows_in (after_writes-append schema (state_at schema H x.number) x.writes ws) in
    let le = bound.1 in
    (bound.0, omega (arith, size, seen, le, few))

abbrev no_writes : List Write
no_writes = []

module _ (schema : DbSchema) (H : History) (k lines : ℕ) (laws : IsLawfulSchema schema) (base : writes_in (take k H) + rows_in (state_at schema H k) ≤ 2 * lines) where
  Next : Reply × Client → Type 0
  Next p = Bounded schema H k (suc lines) p.1.transaction

  added : (t : Writing) (w : Write) (after : State × Option Fields) → Bounded schema H k lines (writing t) → step schema (state_seen schema H (sight_of t)) w ≡ Ok after → rows_in after.0 ≤ rows_in (state_seen schema H (sight_of t)) + 1 → Bounded schema H k (suc lines) (writing (record { number = t.number; writes = t.writes ++ w ∷ []; texts = t.texts }))
  added t w after bound e few =
      let seen = state_seen schema H (sight_of t) in
      let same : rows_in (after_writes schema seen (w ∷ [])) ≡ rows_in after.0 = ap (λ (st : Stepped). rows_in (state_or seen st)) e in
      grown schema H k lines t (w ∷ []) t.texts bound (omega (arith, few, same))

  removed : (t : Writing) (q : Query) (gone : List Write) → Bounded schema H k lines (writing t) → (wipe schema (state_seen schema H (sight_of t)) q ≡ Ok gone) ⊎ (wipe_by_prefix schema (state_seen schema H (sight_of t)) q ≡ Ok gone) → Bounded schema H k (suc lines) (writing (record { number = t.number; writes = t.writes ++ gone; texts = t.texts }))
  removed t q gone bound e =
      let even = of e in
      grown schema H k lines t gone t.texts bound (omega (arith, even))
    where
      lawful : IsLawfulState schema (state_seen schema H (sight_of t))
      lawful = writes_keep schema (state_at schema H t.number) t.writes (state_at_lawful schema H t.number)

      of : (wipe schema (state_seen schema H (sight_of t)) q ≡ Ok gone) ⊎ (wipe_by_prefix schema (state_seen schema H (sight_of t)) q ≡ Ok gone) → rows_in (after_writes schema (state_seen schema H (sight_of t)) gone) + length gone ≡ rows_in (state_seen schema H (sight_of t))
      of (inl all) = wipe_count schema (state_seen schema H (sight_of t)) q gone laws lawful all
      of (inr all) = wipe_by_prefix_count schema (state_seen schema H (sight_of t)) q gone laws lawful all

  each_bounded : (v : Client) → Bounded schema H k lines v.transaction → EachOutcome schema H k v Next
  unfolding Next
  each_bounded v bound = record {
    refuses = λ rule. bounded_more schema H k lines v.transaction bound;
    reads = tt;
    begins = λ few. (refl, omega (arith, base));
    ends = tt;
    commits = λ t is. tt;
    aborts = tt;
    inserts = λ t is table row after e. added t (put table row) after (opened t is) e (put_count schema (state_seen schema H (sight_of t)) table row after e);
    deletes = λ t is table row after e. let less = remove_count schema (state_seen schema H (sight_of t)) table row after e in added t (remove table row) after (opened t is) e (omega (arith, less));
    wipes = λ t is q gone e. removed t q gone (opened t is) e;
    defers = λ t is text. let b = opened t is in (b.0, let le = b.1 in omega (arith, le));
    asks = λ a. bounded_more schema H k lines v.transaction bound;
    keeps = λ name s is. bounded_more schema H k lines v.transaction bound;
    watches = λ name q number a. bounded_more schema H k lines v.transaction bound;
    sizes = λ n. bounded_more schema H k lines v.transaction bound;
  }
    where
      opened : (t : Writing) → v.transaction ≡ writing t → Bounded schema H k lines (writing t)
      opened t is = subst (Bounded schema H k lines) is bound

  next_bounded : (v : Client) (q : Request) → Bounded schema H k lines v.transaction → Next (outcome v (turn schema H k v q))
  next_bounded v q bound = turn_so schema H k v Next (each_bounded v bound) q

  -- so with fewer than 2^35 lines it isn't told that there are too few ids
  with_few : (v next : Client) (w : WriteCommand) (r : Reply) → suc lines < 2 ^ 35 → Bounded schema H k lines v.transaction → IsWriteTold schema H v w r next → outcome v (write_turn schema H v w) ≡ (r, next)
  unfolding Next
  with_few v next w r few bound (by_turn is) = is
  with_few v next w r few bound (without_ids s) =
      let after : Next (outcome v (write_turn schema H v w)) = next_bounded v (to_write w) bound in
      let opened : Bounded schema H k (suc lines) (writing s.opened) = subst (Bounded schema H k (suc lines)) s.transaction (subst (λ (t : Turn). Bounded schema H k (suc lines) (outcome v t).1.transaction) s.allowed after) in
      let full : 2 ^ 36 ≤ writes_in (take k H) + length s.opened.writes = subst (λ (n : ℕ). 2 ^ 36 ≤ writes_in (take n H) + length s.opened.writes) opened.0 s.full in
      let le = opened.1 in
      absurd (too_many (writes_in (take k H)) (length s.opened.writes) (rows_in (state_seen schema H (sight_of s.opened))) full le)
    where
      too_many : (a b c : ℕ) → 2 ^ 36 ≤ a + b → a + (b + c) ≤ 2 * suc lines → ⊥
      too_many a b c full le = omega (arith, few)

  -- and is told its turn
  told_turn : (now : ℕ) (v next : Client) (q : Request) (r : Reply) → suc lines < 2 ^ 35 → Bounded schema H k lines v.transaction → IsAnswered schema H 1 now v (as_command q) r next → outcome v (turn schema H now v q) ≡ (r, next)
  told_turn now v next (to_transact t) r few bound told = told
  told_turn now v next (to_write w) r few bound told = with_few v next w r few bound told
  told_turn now v next (to_defer text) r few bound told = told
  told_turn now v next (to_ask a) r few bound told = told
  told_turn now v next (to_name n) r few bound told = told
  told_turn now v next (to_size set) r few bound told = told

-- ---- a commit

-- what is written and stored after the commit of a transaction
committed_base : (schema : DbSchema) (H : History) (k lines : ℕ) (t : Writing) (r : Reply) → TellsCommit (suc k) r → IsEntry H 1 (writing t) r → Bounded schema H k lines (writing t)
    → writes_in (take (suc k) H) + rows_in (state_at schema H (suc k)) ≤ 2 * suc lines
committed_base schema H k lines t r told entry bound =
    let c : Commit = record { caller = 1; writes = t.writes } in
    let more : take k H ++ c ∷ [] ≡ take (suc k) H = ap (λ (x : Reply). take k H ++ commit_printed x (writing t)) (sym told.is) ∙ next_commit H k t r told bound.0 entry in
    let first : writes_in (take (suc k) H) ≡ writes_in (take k H) + length t.writes = ap writes_in (sym more) ∙ writes_in-more (take k H) c in
    let rows : rows_in (state_at schema H (suc k)) ≡ rows_in (after_writes schema (state_at schema H k) t.writes) = ap (λ (G : History). rows_in (after_commits schema (empty_state schema) G)) (sym more) ∙ ap rows_in (after_commits-more schema (empty_state schema) (take k H) c) in
    let seen : rows_in (state_seen schema H (sight_of t)) ≡ rows_in (after_writes schema (state_at schema H k) t.writes) = ap (λ (n : ℕ). rows_in (after_writes schema (state_at schema H n) t.writes)) bound.0 in
    let le = bound.1 in
    omega (arith, first, rows, seen, le)

-- no transaction stands on two numbers
closed_bound : (schema : DbSchema) (H : History) (k lines : ℕ) (t : Transaction) → Bounded schema H k lines t → StandsOn (suc k) t → Bounded schema H (suc k) lines t
closed_bound schema H k lines closed bound stands = tt
closed_bound schema H k lines (reading m) bound stands = tt
closed_bound schema H k lines (writing t) bound stands = absurd (apart bound.0 stands)
  where
    apart : {n : ℕ} → n ≡ k → n ≡ suc k → ⊥
    apart e e' = omega arith

-- ---- all lines

module _ (schema : DbSchema) (H : History) (laws : IsLawfulSchema schema) (few : length H < commit_limit) where
  -- the rest of the script, at whatever number
  Others : (lines : ℕ) (next : Client) (ls : List Line) (qs : List Request) (rs : List Reply) (end : Client) → Runs schema H 1 next ls rs end → Type 0
  Others lines next ls qs rs end runs = (k : ℕ) → IsOn k next → IsWithin k next → k ≤ length H → Prints k (length H) (printed rs) → writes_in (take k H) + rows_in (state_at schema H k) ≤ 2 * lines → Bounded schema H k lines next.transaction → AreTurns schema H 1 next ls qs rs end runs

  others_turn : (k lines : ℕ) (v next : Client) (ls : List Line) (qs : List Request) (r : Reply) (rs : List Reply) (end : Client) (runs : Runs schema H 1 next ls rs end) → IsOn k v → IsWithin k next → k ≤ length H → Prints k (length H) (number_printed r ++ printed rs) → IsEntry H 1 v.transaction r → writes_in (take k H) + rows_in (state_at schema H k) ≤ 2 * lines → Bounded schema H k lines v.transaction → Bounded schema H k (suc lines) next.transaction → Others (suc lines) next ls qs rs end runs → Keeps k v (r, next) → AreTurns schema H 1 next ls qs rs end runs
  unfolding Others
  others_turn k lines v next ls qs r rs end runs on within there prints made base bound bound' others (same none makes on') = others k on' within there (later schema H few k r rs none prints) (omega (arith, base)) bound'
  others_turn k lines v next ls qs r rs end runs on within there prints made base bound bound' others (commits t is told on') =
      let entry : IsEntry H 1 (writing t) r = subst (λ (x : Transaction). IsEntry H 1 x r) is made in
      let open_one : Bounded schema H k lines (writing t) = subst (Bounded schema H k lines) is bound in
      others (suc k) on' (within_up k next within) (within_history H k t r told open_one.0 entry) (later_commit schema H few k r rs told prints) (committed_base schema H k lines t r told entry open_one) (closed_bound schema H k (suc lines) next.transaction bound' on'.transaction)

  each_turn : (ls : List Line) (qs : List Request) (rs : List Reply) (v end : Client) (k lines : ℕ) (runs : Runs schema H 1 v ls rs end) → AreRequests ls qs → lines + length ls < 2 ^ 35 → IsOn k v → IsWithin k v → k ≤ length H → Prints k (length H) (printed rs) → writes_in (take k H) + rows_in (state_at schema H k) ≤ 2 * lines → Bounded schema H k lines v.transaction → AreTurns schema H 1 v ls qs rs end runs
  unfolding Others Next
  each_turn [] qs rs v end k lines runs known short on within there prints base bound = tt
  each_turn (l ∷ ls) [] rs v end k lines runs known short on within there prints base bound = tt
  each_turn (l ∷ ls) (q ∷ qs) [] v end k lines runs known short on within there prints base bound = tt
  each_turn (l ∷ ls) (q ∷ qs) (r ∷ rs) v end k lines (next, a, runs) known short on within there prints base bound =
      let is : outcome v (turn schema H a.now v q) ≡ (r, next) = told_turn schema H k lines laws base a.now v next q r (omega (arith, short)) bound (requested schema H 1 a.now v l.command q r next known.0 a.says) in
      let told : outcome v (turn schema H k v q) ≡ (r, next) = told_here schema H k v next l ls q r rs end a is runs on few prints in
      let bound' : Bounded schema H k (suc lines) next.transaction = subst (λ (p : Reply × Client). Bounded schema H k (suc lines) p.1.transaction) told (next_bounded schema H k lines laws base v q bound) in
      (is, others_turn k lines v next ls qs r rs end runs on (subst (λ (p : Reply × Client). IsWithin k p.1) told (next_within k schema H k v q (self_le k) within)) there prints a.entry base bound bound' (λ k' on' within' there' prints' base' bound''. each_turn ls qs rs next end k' (suc lines) runs known.1 (omega (arith, short)) on' within' there' prints' base' bound'') (subst (λ (p : Reply × Client). Keeps k v p) told (keeps k schema H v q on)))

few_turns : (schema : DbSchema) (H : History) (script : List Line) (requests : List Request) (rs : List Reply) → IsLawfulSchema schema → AreRequests script requests → length script < 2 ^ 35 → IsPermutation (enumerate_from 1 (callers H)) (all_printed 1 (rs ∷ [])) → (end : Client) (runs : Runs schema H 1 at_start script rs end) → AreTurns schema H 1 at_start script requests rs end runs
few_turns schema H script requests rs laws known short numbers end runs =
    let size = as_many schema H script rs numbers in
    let lines = printed_few schema H 1 at_start script rs end runs in
    let few : length H < commit_limit = fewer (length H) (length (printed rs)) (length script) size lines short in
    let none = rows_in-empty schema in
    each_turn schema H laws few script requests rs at_start end 0 0 runs known (omega (arith, short)) (record { last = refl; transaction = tt }) (start_within 0) (search (arith)) (told_each schema H script rs numbers) (omega (arith, none)) tt
  where
    fewer : (a b c : ℕ) → a ≡ b → b ≤ c → c < 2 ^ 35 → a < 2 ^ 63
    fewer a b c e le lt = omega arith

-- for one client with fewer than 2^35 lines, none of watches, the legal outputs are one text, and
-- their histories one history
pub one_output_of_few : (schema : DbSchema) (name : Bytes) (script : List Line) (requests : List Request) (out : Bytes) → IsLawfulSchema schema → AreRequests script requests → length script < 2 ^ 35 → Legal schema (name ∷ []) (script ∷ []) out → out ≡ output_text 1 (name ∷ []) (script ∷ []) ((alone schema requests [] at_start).0 ∷ [])
one_output_of_few schema name script requests out laws known short legal = of legal.replies legal.written legal.numbers legal.sessions
  where
    few : (n : ℕ) → n < 2 ^ 35 → n < 2 ^ 63
    few n lt = omega arith

    of : (rss : List (List Reply)) → out ≡ output_text 1 (name ∷ []) (script ∷ []) rss → IsPermutation (enumerate_from 1 (callers legal.history)) (all_printed 1 rss) → Sessions schema legal.history 1 (script ∷ []) rss → out ≡ output_text 1 (name ∷ []) (script ∷ []) ((alone schema requests [] at_start).0 ∷ [])
    of [] written numbers sessions = absurd sessions
    of (rs ∷ []) written numbers sessions =
        let turns = few_turns schema legal.history script requests rs laws known short numbers sessions.0.0 sessions.0.1 in
        written ∙ ap (λ (p : List Reply × History). output_text 1 (name ∷ []) (script ∷ []) (p.0 ∷ [])) (sym (one_session schema legal.history script rs numbers requests known (few (length script) short) sessions.0 turns))
    of (rs ∷ rs' ∷ rss) written numbers sessions = absurd sessions.1
