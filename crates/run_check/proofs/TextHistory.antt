-- The text of an output fixes its history, and then its replies.
use Rattle.std.proofs.Common.{arith, ◌≡◌, refl, ap, ap₂, subst, sym, ◌∙◌, ℕ, zero, suc, ◌+◌, ◌^◌, ◌<◌, ◌≤◌, inl, inr, List, [], ◌∷◌, ◌++◌, length, map, slice_get, take, Contains, IsPermutation}
use Rattle.std.specs.List.{enumerate_from}
use Rattle.std.proofs.lemmas.List.{length-map}
use Rattle.std.proofs.lemmas.List.FromFn.{length-enumerate_from}
use Rattle.std.proofs.lemmas.List.Sorted.{length_permutation, Contains-permutation}
use Rattle.std.proofs.lemmas.Option.{slice_get_within}
use Rattle.std.proofs.Math.Seq.{take-length}
use Rattle.mdb_datum.specs.Bytes.{Bytes}
use Rattle.mdb_datum.proofs.ListPlaces.{there_within}
use Rattle.mdb_schema.proofs.Membership.{Contains-nil}
use Rattle.mdb_schema.specs.History.{Commit, History}
use Rattle.mdb_schema.specs.Schema.{DbSchema}
use Rattle.client_script.specs.Client.{Client, Transaction, at_start, writing}
use Rattle.client_script.specs.Legal.{Legal, all_printed, callers, number_printed, printed}
use Rattle.client_script.specs.Reply.{Reply, committed, reply_text}
use Rattle.client_script.specs.Session.{Answers, IsEntry, Runs, Sessions}
use Rattle.client_script.specs.Within.{IsWithin}
use Rattle.client_script.specs.declared.command.Command.{Command}
use Rattle.client_script.specs.declared.line.Line.{Line}
use Rattle.client_script.proofs.CommitChanges.{entry_taken}
use Rattle.client_script.proofs.FewCommits.{few_commits}
use Rattle.client_script.proofs.LongerHistory.{answered_within, start_within}
use Rattle.client_script.proofs.OneClient.{Rises, StandsFrom, TellsCommit, above_each, all_rise, answered_rises, numbered, self_le}
use Rattle.client_script.proofs.OneHistory.{commit_told, either, either_pair, next_same, number_told, one_entry, pair_of, within_next}
use Rattle.run_check.proofs.CleanClients.{answered_clean}
use Rattle.run_check.proofs.CleanNames.{IsCleanClient, IsCleanSchema, start_clean}
use Rattle.run_check.proofs.OutputCut.{AllOfOneText, AreCleanLines, AreCleanScripts, AreOfOneText, output_cut, sessions_clean}
use Rattle.run_check.proofs.SameReplies.{PrintsSmall, numbers_same, reply_same}

-- ---- the numbers that are printed

-- a number that is printed is that of a commit
pub told_within : (schema : DbSchema) (H : History) (client : ℕ) (v next : Client) (c : Command) (r : Reply) (m : ℕ) → Answers schema H client v c r next → Contains (number_printed r) m → m ≤ length H
told_within schema H client v next c r m a told =
    let one = commit_told schema H client v next c r m a told in
    let is : TellsCommit m r = number_told r m told in
    let entry : IsEntry H client (writing one.0) (committed m is.changed is.texts) = subst (IsEntry H client (writing one.0)) is.is (subst (λ (t : Transaction). IsEntry H client t r) one.1 a.entry) in
    let low : one.0.number < length H = slice_get_within H one.0.number (record { caller = client; writes = one.0.writes }) entry in
    let number : one.0.number + 1 ≡ m = one.2 in
    omega (arith, low, number)

pub prints_small : (schema : DbSchema) (H : History) (client : ℕ) (v next : Client) (c : Command) (r : Reply) → length H < 2 ^ 64 → Answers schema H client v c r next → PrintsSmall r
prints_small schema H client v next c r few a m told = let low = told_within schema H client v next c r m a told in omega (arith, low, few)

module _ (schema : DbSchema) (H H' : History) (few : length H < 2 ^ 64) (few' : length H' < 2 ^ 64) where
  runs_numbers : (client : ℕ) (v v' end end' : Client) (ls : List Line) (rs ss : List Reply) → Runs schema H client v ls rs end → Runs schema H' client v' ls ss end' → AreOfOneText rs ss → printed rs ≡ printed ss
  runs_numbers client v v' end end' [] [] [] runs runs' texts = refl
  runs_numbers client v v' end end' [] [] (s ∷ ss) runs runs' texts = absurd texts
  runs_numbers client v v' end end' [] (r ∷ rs) ss runs runs' texts = absurd runs
  runs_numbers client v v' end end' (l ∷ ls) [] ss runs runs' texts = absurd runs
  runs_numbers client v v' end end' (l ∷ ls) (r ∷ rs) [] runs runs' texts = absurd texts
  runs_numbers client v v' end end' (l ∷ ls) (r ∷ rs) (s ∷ ss) (next, a, runs) (next', a', runs') texts =
      ap₂ (λ (x y : List ℕ). x ++ y)
      (numbers_same r s (prints_small schema H client v next l.command r few a) (prints_small schema H' client v' next' l.command s few' a') texts.0)
      (runs_numbers client next next' end end' ls rs ss runs runs' texts.1)

  all_numbers : (k : ℕ) (ls : List (List Line)) (rss sss : List (List Reply)) → Sessions schema H k ls rss → Sessions schema H' k ls sss → AllOfOneText rss sss → all_printed k rss ≡ all_printed k sss
  all_numbers k [] [] [] sessions sessions' texts = refl
  all_numbers k [] [] (ss ∷ sss) sessions sessions' texts = absurd texts
  all_numbers k [] (rs ∷ rss) sss sessions sessions' texts = absurd sessions
  all_numbers k (l ∷ ls) [] sss sessions sessions' texts = absurd sessions
  all_numbers k (l ∷ ls) (rs ∷ rss) [] sessions sessions' texts = absurd texts
  all_numbers k (l ∷ ls) (rs ∷ rss) (ss ∷ sss) (session, others) (session', others') texts =
      ap₂ (λ (x y : List (ℕ × ℕ)). x ++ y)
      (ap (map (λ m. (m, k))) (runs_numbers k at_start at_start session.0 session'.0 l rs ss session.1 session'.1 texts.0))
      (all_numbers (k + 1) ls rss sss others others' texts.1)

  -- ---- the next entry is the same in both

  module _ (names : IsCleanSchema schema) (k : ℕ) (there : k ≤ length H) (there' : k ≤ length H') (same : take k H ≡ take k H') where
    -- a client that looks at the first k commits alone is told the same
    pub line_same : (client : ℕ) (v next next' : Client) (c : Command) (r s : Reply) → IsWithin k v → IsCleanClient v → Answers schema H client v c r next → Answers schema H' client v c s next' → reply_text r ≡ reply_text s → r ≡ s
    line_same client v next next' c r s within clean a a' text =
        let low = a.there in
        let low' = a'.there in
        reply_same schema H H' client k a.now a'.now there there' same (omega (arith, low, few)) (omega (arith, low', few')) v within clean r s next next' text c a.says a'.says

    same_entry : (client : ℕ) (ls : List Line) (rs ss : List Reply) (v end end' : Client) → IsWithin k v → IsCleanClient v → AreCleanLines ls → StandsFrom v.last v.transaction → Runs schema H client v ls rs end → Runs schema H' client v ls ss end' → AreOfOneText rs ss → Contains (printed rs) (suc k) → slice_get H k ≡ slice_get H' k
    same_entry client [] [] ss v end end' within clean lines from runs runs' texts told = absurd (Contains-nil (suc k) told)
    same_entry client [] (r ∷ rs) ss v end end' within clean lines from runs runs' texts told = absurd runs
    same_entry client (l ∷ ls) [] ss v end end' within clean lines from runs runs' texts told = absurd runs
    same_entry client (l ∷ ls) (r ∷ rs) [] v end end' within clean lines from runs runs' texts told = absurd texts
    same_entry client (l ∷ ls) (r ∷ rs) (s ∷ ss) v end end' within clean lines from (next, a, runs) (next', b, runs') texts told =
        let one : r ≡ s = line_same client v next next' l.command r s within clean a b texts.0 in
        let a' : Answers schema H' client v l.command r next' = subst (λ (x : Reply). Answers schema H' client v l.command x next') (sym one) b in
        elim (either (number_printed r) (printed rs) (suc k) told) [
          | inl here ↦ one_entry schema H H' client k v l.command r next next' a a' here
          | inr later ↦
              let up : Rises v.last (r, next) = answered_rises schema H client a.now v l.command r next a.not_older from a.says in
              let above = above_each next.last (printed rs) (suc k) (all_rise schema H client next ls rs end runs up.stands) later in
              let within' : IsWithin k next = within_next schema H H' client k v l.command r next within a (omega arith) in
              let is : next ≡ next' = next_same schema H H' client k there there' same a.now a'.now v l.command r next next' within a.says a'.says in
              same_entry client ls rs ss next end end' within' (answered_clean schema names H v clean client a.now l.command r next lines.0 a.says).1 lines.1 up.stands runs (subst (λ (x : Client). Runs schema H' client x ls ss end') (sym is) runs') texts.1 later
        ]

    sessions_entry : (n j : ℕ) (ls : List (List Line)) (rss sss : List (List Reply)) → AreCleanScripts ls → Sessions schema H j ls rss → Sessions schema H' j ls sss → AllOfOneText rss sss → Contains (all_printed j rss) (suc k, n) → slice_get H k ≡ slice_get H' k
    sessions_entry n j [] [] sss scripts sessions sessions' texts told = absurd (Contains-nil (suc k, n) told)
    sessions_entry n j [] (rs ∷ rss) sss scripts sessions sessions' texts told = absurd sessions
    sessions_entry n j (l ∷ ls) [] sss scripts sessions sessions' texts told = absurd sessions
    sessions_entry n j (l ∷ ls) (rs ∷ rss) [] scripts sessions sessions' texts told = absurd texts
    sessions_entry n j (l ∷ ls) (rs ∷ rss) (ss ∷ sss) scripts sessions sessions' texts told = elim (either_pair (map (λ m. (m, j)) (printed rs)) (all_printed (j + 1) rss) (suc k, n) told) [
      | inl here ↦ same_entry j l rs ss at_start sessions.0.0 sessions'.0.0 (start_within k) start_clean scripts.0 tt sessions.0.1 sessions'.0.1 texts.0 (pair_of n (printed rs) (suc k) j here)
      | inr later ↦ sessions_entry n (j + 1) ls rss sss scripts.1 sessions.1 sessions'.1 texts.1 later
    ]

-- ---- so the histories are one

grows : (H H' : History) (k : ℕ) → k < length H → slice_get H k ≡ slice_get H' k → take k H ≡ take k H' → take (suc k) H ≡ take (suc k) H'
grows H H' k lt entry same =
    let at = there_within H k lt in
    sym (entry_taken H k at.0 at.1) ∙ ap (λ (G : History). G ++ at.0 ∷ []) same ∙ entry_taken H' k at.0 (sym entry ∙ at.1)

module _ (schema : DbSchema) (names : IsCleanSchema schema) (scripts : List (List Line)) (clean : AreCleanScripts scripts) (H H' : History) (few : length H < 2 ^ 64) (few' : length H' < 2 ^ 64) (rss sss : List (List Reply)) (texts : AllOfOneText rss sss) (numbers : IsPermutation (enumerate_from 1 (callers H)) (all_printed 1 rss)) (numbers' : IsPermutation (enumerate_from 1 (callers H')) (all_printed 1 sss)) (sessions : Sessions schema H 1 scripts rss) (sessions' : Sessions schema H' 1 scripts sss) where
  size : (G : History) (ps : List (ℕ × ℕ)) → IsPermutation (enumerate_from 1 (callers G)) ps → length G ≡ length ps
  size G ps perm = sym (length-enumerate_from 1 (callers G) ∙ length-map G (λ (c : Commit). c.caller)) ∙ sym (length_permutation _ _ perm)

  same_size : length H ≡ length H'
  same_size = size H (all_printed 1 rss) numbers ∙ ap length (all_numbers schema H H' few few' 1 scripts rss sss sessions sessions' texts) ∙ sym (size H' (all_printed 1 sss) numbers')

  next_entry : (k : ℕ) → k < length H → take k H ≡ take k H' → slice_get H k ≡ slice_get H' k
  next_entry k lt same =
      let e = same_size in
      let at = numbered 1 (callers H) (suc k) (search (arith)) (rw (length-map H (λ (c : Commit). c.caller)) (omega arith)) in
      sessions_entry schema H H' few few' names k (omega arith) (omega arith) same at.0 1 scripts rss sss clean sessions sessions' texts (Contains-permutation _ _ (suc k, at.0) numbers at.1)

  first : (k : ℕ) → k ≤ length H → take k H ≡ take k H'
  first zero le = refl
  first (suc k) le = grows H H' k le (next_entry k le (first k (omega arith))) (first k (omega arith))

  pub text_history : H ≡ H'
  text_history = sym (take-length H) ∙ first (length H) (search (arith)) ∙ ap (λ (n : ℕ). take n H') same_size ∙ take-length H'

-- ---- and the replies are

module _ (schema : DbSchema) (names : IsCleanSchema schema) (H : History) (few : length H < 2 ^ 64) where
  runs_same : (client : ℕ) (ls : List Line) (rs ss : List Reply) (v end end' : Client) → IsWithin (length H) v → IsCleanClient v → AreCleanLines ls → Runs schema H client v ls rs end → Runs schema H client v ls ss end' → AreOfOneText rs ss → rs ≡ ss
  runs_same client [] [] [] v end end' within clean lines runs runs' texts = refl
  runs_same client [] [] (s ∷ ss) v end end' within clean lines runs runs' texts = absurd texts
  runs_same client [] (r ∷ rs) ss v end end' within clean lines runs runs' texts = absurd runs
  runs_same client (l ∷ ls) [] ss v end end' within clean lines runs runs' texts = absurd runs
  runs_same client (l ∷ ls) (r ∷ rs) [] v end end' within clean lines runs runs' texts = absurd texts
  runs_same client (l ∷ ls) (r ∷ rs) (s ∷ ss) v end end' within clean lines (next, a, runs) (next', b, runs') texts =
      let one : r ≡ s = line_same schema H H few few names (length H) (self_le (length H)) (self_le (length H)) refl client v next next' l.command r s within clean a b texts.0 in
      let a' : Answers schema H client v l.command r next' = subst (λ (x : Reply). Answers schema H client v l.command x next') (sym one) b in
      let is : next ≡ next' = next_same schema H H client (length H) (self_le (length H)) (self_le (length H)) refl a.now a'.now v l.command r next next' within a.says a'.says in
      let others : rs ≡ ss = runs_same client ls rs ss next end end' (answered_within schema H client v l.command r next within a) (answered_clean schema names H v clean client a.now l.command r next lines.0 a.says).1 lines.1 runs (subst (λ (x : Client). Runs schema H client x ls ss end') (sym is) runs') texts.1 in
      ap₂ (λ (x : Reply) (xs : List Reply). x ∷ xs) one others

  pub sessions_same : (k : ℕ) (ls : List (List Line)) (rss sss : List (List Reply)) → AreCleanScripts ls → Sessions schema H k ls rss → Sessions schema H k ls sss → AllOfOneText rss sss → rss ≡ sss
  sessions_same k [] [] [] scripts sessions sessions' texts = refl
  sessions_same k [] [] (ss ∷ sss) scripts sessions sessions' texts = absurd texts
  sessions_same k [] (rs ∷ rss) sss scripts sessions sessions' texts = absurd sessions
  sessions_same k (l ∷ ls) [] sss scripts sessions sessions' texts = absurd sessions
  sessions_same k (l ∷ ls) (rs ∷ rss) [] scripts sessions sessions' texts = absurd texts
  sessions_same k (l ∷ ls) (rs ∷ rss) (ss ∷ sss) scripts (session, others) (session', others') texts =
      ap₂ (λ (x : List Reply) (xs : List (List Reply)). x ∷ xs)
      (runs_same k l rs ss at_start session.0 session'.0 (start_within (length H)) start_clean scripts.0 session.1 session'.1 texts.0)
      (sessions_same (k + 1) ls rss sss scripts.1 others others' texts.1)

-- two readings of one text as legal have the same replies and the same history
pub legal_is_one : (schema : DbSchema) (names : List Bytes) (scripts : List (List Line)) (out : Bytes) → IsCleanSchema schema → AreCleanScripts scripts → (l m : Legal schema names scripts out) → (l.replies ≡ m.replies) × (l.history ≡ m.history)
legal_is_one schema names scripts out plain clean l m = (replies, history)
  where
    few : (k : Legal schema names scripts out) → length k.history < 2 ^ 64
    few k = let le : length k.history ≤ 2 ^ 63 = few_commits schema names scripts out k in omega (arith, le)

    texts : AllOfOneText l.replies m.replies
    texts = output_cut 1 names scripts l.replies m.replies l.named (sessions_clean schema plain l.history 1 scripts l.replies clean l.sessions) (sessions_clean schema plain m.history 1 scripts m.replies clean m.sessions) (sym l.written ∙ m.written)

    history : l.history ≡ m.history
    history = text_history schema plain scripts clean l.history m.history (few l) (few m) l.replies m.replies texts l.numbers m.numbers l.sessions m.sessions

    replies : l.replies ≡ m.replies
    replies = sessions_same schema plain l.history (few l) 1 scripts l.replies m.replies clean l.sessions (subst (λ (G : History). Sessions schema G 1 scripts m.replies) (sym history) m.sessions) texts
