-- The history that commits fix: its entries, its callers, and how much it writes.
use Rattle.std.proofs.Common.{arith, ◌≡◌, refl, ap, ap₂, subst, sym, ◌∙◌, ℕ, zero, suc, ◌+◌, ◌*◌, ◌<◌, ◌≤◌, ◌⊎◌, inl, inr, List, [], ◌∷◌, ◌++◌, length, map, take, is_ok, Option, Some, Ok, Err, slice_get, IsPermutation, sum_by}
use Rattle.std.specs.List.{enumerate_from}
use Rattle.std.specs.Prelude.{if◌then◌else◌}
use Rattle.std.proofs.lemmas.Bool.{cases_eq}
use Rattle.std.proofs.lemmas.List.{length-append, length-map, map-append, take-append-le}
use Rattle.std.proofs.lemmas.List.Sorted.{IsPermutation-map, sum_by-IsPermutation}
use Rattle.std.proofs.lemmas.List.Sums.{sum_by-cons}
use Rattle.std.proofs.Math.Seq.{take-length}
use Rattle.mdb_schema.proofs.HistorySteps.{after_commits-more, after_writes-append, writes_in-more}
use Rattle.mdb_schema.proofs.LawfulStates.{state_at_lawful, writes_keep}
use Rattle.mdb_schema.specs.Answer.{Asked}
use Rattle.mdb_schema.specs.History.{Commit, History, after_commits, after_writes, state_at, state_or, writes_in}
use Rattle.mdb_schema.specs.LawfulSchema.{IsLawfulSchema}
use Rattle.mdb_schema.specs.Schema.{DbSchema}
use Rattle.mdb_schema.specs.State.{IsLawfulState, State, empty_state}
use Rattle.mdb_schema.specs.Wipe.{wipe, wipe_by_prefix}
use Rattle.mdb_schema.specs.Write.{Stepped, Write, put, remove, step}
use Rattle.client_script.specs.Legal.{callers}
use Rattle.client_script.specs.declared.command.WriteCommand.{WriteCommand}
use Rattle.client_script.specs.declared.command.WriteCommand.TheVariants as write_line
use Rattle.client_script.proofs.RowCounts.{put_count, remove_count, rows_in, rows_in-empty, wipe_by_prefix_count, wipe_count}
use Rattle.run_check.specs.Commits as commits
use Rattle.run_check.specs.Commits.{Committed, accepted, accepted_line, accepted_step, commit_numbered, history_of, numbers, with_commit}
use Rattle.run_check.proofs.CommitsNumbered.{all_there, history_first, history_size, listed, numbers_once, some_list, there}

-- ---- how much lines write

-- of a lawful state: the rows then, and the writes
module _ (schema : DbSchema) (laws : IsLawfulSchema schema) where
  step_few : (s : State) (w : Write) → ((after : State × _) → step schema s w ≡ Ok after → rows_in after.0 ≤ rows_in s + 1) → rows_in (after_writes schema s (accepted_step schema s w)) + length (accepted_step schema s w) ≤ rows_in s + 2
  step_few s w few = of (step schema s w) refl
    where
      of : (st : Stepped) → step schema s w ≡ st → rows_in (after_writes schema s (if is_ok st then w ∷ [] else [])) + length (if is_ok st then w ∷ [] else []) ≤ rows_in s + 2
      of (Ok after) is = let rows = few after is in let same = ap (λ (x : Stepped). rows_in (state_or s x)) is in omega (arith, rows, same)
      of (Err r) is = omega arith

  wipe_few : (s : State) (a : Asked (List Write)) → ((gone : List Write) → a ≡ Ok gone → rows_in (after_writes schema s gone) + length gone ≡ rows_in s) → rows_in (after_writes schema s (commits.wiped a)) + length (commits.wiped a) ≤ rows_in s + 2
  wipe_few s (Ok gone) even = let same = even gone refl in omega (arith, same)
  wipe_few s (Err r) even = omega arith

  line_few : (s : State) → IsLawfulState schema s → (line : WriteCommand) → rows_in (after_writes schema s (accepted_line schema s line)) + length (accepted_line schema s line) ≤ rows_in s + 2
  line_few s lawful (write_line.Insert table row) = step_few s (put table row) (λ after is. put_count schema s table row after is)
  line_few s lawful (write_line.Delete table row) = step_few s (remove table row) (λ after is. let less = remove_count schema s table row after is in omega (arith, less))
  line_few s lawful (write_line.DeleteAll q) = wipe_few s (wipe schema s q) (λ gone is. wipe_count schema s q gone laws lawful is)
  line_few s lawful (write_line.DeletePrefix q) = wipe_few s (wipe_by_prefix schema s q) (λ gone is. wipe_by_prefix_count schema s q gone laws lawful is)

  -- at most two for each line
  pub lines_few : (s : State) → IsLawfulState schema s → (ls : List WriteCommand) → rows_in (after_writes schema s (accepted schema s ls)) + length (accepted schema s ls) ≤ rows_in s + 2 * length ls
  lines_few s lawful [] = omega arith
  lines_few s lawful (l ∷ ls) =
      let first : List Write = accepted_line schema s l in
      let next : State = after_writes schema s first in
      let one = line_few s lawful l in
      let rest = lines_few next (writes_keep schema s first lawful) ls in
      let seen = ap rows_in (after_writes-append schema s first (accepted schema next ls)) in
      let size = length-append first (accepted schema next ls) in
      omega (arith, one, rest, seen, size)

-- the lines of transactions
abbrev pub lines_of : Committed → ℕ
lines_of c = length c.lines

abbrev pub all_lines : List Committed → ℕ
all_lines ds = sum_by lines_of ds

pub all_lines-append : (xs ys : List Committed) → all_lines (xs ++ ys) ≡ all_lines xs + all_lines ys
all_lines-append [] ys = omega arith
all_lines-append (x ∷ xs) ys =
    let rest = all_lines-append xs ys in
    let both = sum_by-cons lines_of x (xs ++ ys) in
    let one = sum_by-cons lines_of x xs in
    omega (arith, rest, both, one)

-- ---- the entries

pair : Committed → ℕ × ℕ
pair c = (c.number, c.client)

enumerate_more : {A : Type 0} (i : ℕ) (xs : List A) (y : A) → enumerate_from i (xs ++ y ∷ []) ≡ enumerate_from i xs ++ (i + length xs, y) ∷ []
enumerate_more i [] y = ap (λ (n : ℕ). (n, y) ∷ []) (search (arith))
enumerate_more i (x ∷ xs) y = ap (λ ps. (i, x) ∷ ps) (enumerate_more (i + 1) xs y ∙ ap (λ (n : ℕ). enumerate_from (i + 1) xs ++ (n, y) ∷ []) (omega arith))

behind_get : (F : History) (e : Commit) (more : History) → slice_get ((F ++ e ∷ []) ++ more) (length F) ≡ Some e
behind_get [] e more = refl
behind_get (c ∷ F) e more = behind_get F e more

module _ (schema : DbSchema) (cs : List Committed) (numbered : numbers (length cs) [] cs ≡ Ok tt) where
  -- the whole history
  abbrev pub whole : History
  whole = history_of schema cs (length cs)

  first_taken : (k : ℕ) → k ≤ length cs → take k (history_of schema cs (length cs)) ≡ history_of schema cs k
  first_taken k le =
      let first = history_first schema cs numbered k (length cs) le (search (arith)) in
      let size = history_size schema cs numbered k le in
      ap (take k) first.1
      ∙ ap (λ (n : ℕ). take n (history_of schema cs k ++ first.0)) (sym size)
      ∙ take-append-le (length (history_of schema cs k)) (history_of schema cs k) first.0 (search (arith))
      ∙ take-length (history_of schema cs k)

  -- what stands after the first commits
  pub state_found : (k : ℕ) → k ≤ length cs → state_at schema (history_of schema cs (length cs)) k ≡ state_at schema (history_of schema cs k) (length (history_of schema cs k))
  state_found k le = ap (after_commits schema (empty_state schema)) (first_taken k le ∙ sym (take-length (history_of schema cs k)))

  -- the entry of a number is that of its commit
  pub entry_found : (k : ℕ) → k < length cs → (c : Committed) → commit_numbered (suc k) cs ≡ Some c → slice_get (history_of schema cs (length cs)) k ≡ Some (record { caller = c.client; writes = accepted schema (state_at schema (history_of schema cs (length cs)) k) c.lines })
  entry_found k lt c found =
      let F : History = history_of schema cs k in
      let entry : Commit = record { caller = c.client; writes = accepted schema (state_at schema F (length F)) c.lines } in
      let more = history_first schema cs numbered (suc k) (length cs) lt (search (arith)) in
      let whole' : history_of schema cs (length cs) ≡ (F ++ entry ∷ []) ++ more.0 = more.1 ∙ ap (λ (o : Option Committed). with_commit schema F o ++ more.0) found in
      let size = history_size schema cs numbered k (omega (arith, lt)) in
      ap (λ (G : History). slice_get G k) whole'
      ∙ ap (slice_get ((F ++ entry ∷ []) ++ more.0)) (sym size)
      ∙ behind_get F entry more.0
      ∙ ap (λ s. Some (record { caller = c.client; writes = accepted schema s c.lines })) (sym (state_found k (omega (arith, lt))))

  -- ---- the callers

  listed_pairs : (k : ℕ) → k ≤ length cs → enumerate_from 1 (callers (history_of schema cs k)) ≡ map pair (listed k cs)
  unfolding pair
  listed_pairs zero le = refl
  listed_pairs (suc k) le =
      let c = there schema cs numbered k le in
      let F : History = history_of schema cs k in
      let entry : Commit = record { caller = c.commit.client; writes = accepted schema (state_at schema F (length F)) c.commit.lines } in
      let size = history_size schema cs numbered k (omega (arith, le)) in
      let names = length-map F (λ (x : Commit). x.caller) in
      let number : 1 + length (callers F) ≡ c.commit.number = (let n = c.number in omega (arith, size, names, n)) in
      let last : map {A = Committed} {B = ℕ × ℕ} (λ x. (x.number, x.client)) (some_list (commit_numbered (suc k) cs)) ≡ (c.commit.number, c.commit.client) ∷ [] = ap (λ (o : Option Committed). map {A = Committed} {B = ℕ × ℕ} (λ x. (x.number, x.client)) (some_list o)) c.found in
      ap (λ (o : Option Committed). enumerate_from 1 (callers (with_commit schema F o))) c.found
      ∙ ap (enumerate_from 1) (map-append (λ (x : Commit). x.caller) F (entry ∷ []))
      ∙ enumerate_more 1 (callers F) c.commit.client
      ∙ ap (λ (n : ℕ). enumerate_from 1 (callers F) ++ (n, c.commit.client) ∷ []) number
      ∙ ap₂ (λ (xs ys : List (ℕ × ℕ)). xs ++ ys) (listed_pairs k (omega (arith, le))) (sym last)
      ∙ sym (map-append {A = Committed} {B = ℕ × ℕ} (λ x. (x.number, x.client)) (listed k cs) (some_list (commit_numbered (suc k) cs)))

  -- the commits in the order of the text are those of the history, each with its caller
  pub callers_found : IsPermutation (enumerate_from 1 (callers (history_of schema cs (length cs)))) (map {A = Committed} {B = ℕ × ℕ} (λ c. (c.number, c.client)) cs)
  unfolding pair
  callers_found =
      let once = numbers_once cs numbered in
      subst (λ (ps : List (ℕ × ℕ)). IsPermutation ps (map {A = Committed} {B = ℕ × ℕ} (λ c. (c.number, c.client)) cs)) (sym (listed_pairs (length cs) (search (arith))))
      (IsPermutation-map {P = Committed} {X = ℕ × ℕ} (λ c. (c.number, c.client)) (listed (length cs) cs) cs (all_there (length cs) cs once.0 once.1 refl).0)

  -- ---- how much is written

  written : IsLawfulSchema schema → (k : ℕ) → k ≤ length cs → writes_in (history_of schema cs k) + rows_in (after_commits schema (empty_state schema) (history_of schema cs k)) ≤ 2 * all_lines (listed k cs)
  written laws zero le = let none = rows_in-empty schema in omega (arith, none)
  written laws (suc k) le =
      let c = there schema cs numbered k le in
      let F : History = history_of schema cs k in
      let base : State = state_at schema F (length F) in
      let entry : Commit = record { caller = c.commit.client; writes = accepted schema base c.commit.lines } in
      let before = written laws k (omega (arith, le)) in
      let adds = lines_few schema laws base (state_at_lawful schema F (length F)) c.commit.lines in
      let here : rows_in base ≡ rows_in (after_commits schema (empty_state schema) F) = ap (λ (G : History). rows_in (after_commits schema (empty_state schema) G)) (take-length F) in
      let next : history_of schema cs (suc k) ≡ F ++ entry ∷ [] = ap (with_commit schema F) c.found in
      let writes = ap writes_in next ∙ writes_in-more F entry in
      let rows : rows_in (after_commits schema (empty_state schema) (history_of schema cs (suc k))) ≡ rows_in (after_writes schema base (accepted schema base c.commit.lines)) =
      ap (λ (G : History). rows_in (after_commits schema (empty_state schema) G)) next
      ∙ ap rows_in (after_commits-more schema (empty_state schema) F entry)
      ∙ ap (λ (G : History). rows_in (after_writes schema (after_commits schema (empty_state schema) G) (accepted schema base c.commit.lines))) (sym (take-length F)) in
      let last : all_lines (some_list (commit_numbered (suc k) cs)) ≡ length c.commit.lines + 0 = ap (λ (o : Option Committed). all_lines (some_list o)) c.found ∙ sum_by-cons lines_of c.commit [] in
      let all = all_lines-append (listed k cs) (some_list (commit_numbered (suc k) cs)) in
      omega (arith, before, adds, here, writes, rows, last, all)

  listed_less : (k n : ℕ) → k ≤ n → all_lines (listed k cs) ≤ all_lines (listed n cs)
  listed_less k zero le = ap_le (all_none k le)
    where
      all_none : (j : ℕ) → j ≤ 0 → j ≡ 0
      all_none j le' = omega (arith, le')

      ap_le : k ≡ 0 → all_lines (listed k cs) ≤ all_lines (listed 0 cs)
      ap_le e = subst (λ (j : ℕ). all_lines (listed k cs) ≤ all_lines (listed j cs)) e (search (arith))
  listed_less k (suc n) le = by (eq_or k n le) (λ lt. listed_less k n lt)
    where
      eq_or : (j m : ℕ) → j ≤ suc m → (j ≡ suc m) ⊎ (j ≤ m)
      eq_or j m le' = elim (cases_eq j (suc m)) [ inl same ↦ inl same | inr other ↦ inr (omega (arith, le', other)) ]

      by : (k ≡ suc n) ⊎ (k ≤ n) → (k ≤ n → all_lines (listed k cs) ≤ all_lines (listed n cs)) → all_lines (listed k cs) ≤ all_lines (listed (suc n) cs)
      by (inl same) rest = subst (λ (j : ℕ). all_lines (listed k cs) ≤ all_lines (listed j cs)) same (search (arith))
      by (inr less) rest = let le' = rest less in let all = all_lines-append (listed n cs) (some_list (commit_numbered (suc n) cs)) in omega (arith, le', all)

  -- two writes and rows for each line of a transaction that was committed
  pub found_written : IsLawfulSchema schema → (k : ℕ) → k ≤ length (history_of schema cs (length cs)) → writes_in (take k (history_of schema cs (length cs))) + rows_in (state_at schema (history_of schema cs (length cs)) k) ≤ 2 * all_lines cs
  found_written laws k le =
      let size = history_size schema cs numbered (length cs) (search (arith)) in
      let once = numbers_once cs numbered in
      let low : k ≤ length cs = omega (arith, le, size) in
      let few = written laws k low in
      let less = listed_less k (length cs) low in
      let same : all_lines cs ≡ all_lines (listed (length cs) cs) = sum_by-IsPermutation lines_of (listed (length cs) cs) cs (all_there (length cs) cs once.0 once.1 refl).0 in
      let taken = first_taken k low in
      let writes = ap writes_in taken in
      let rows = ap (λ (G : History). rows_in (after_commits schema (empty_state schema) G)) taken in
      omega (arith, few, less, same, writes, rows)
