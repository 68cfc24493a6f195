-- The numbers that a client is told are small, and no client is told that there are too few ids.
use Rattle.std.proofs.Common.{arith, subst, ℕ, suc, ◌+◌, ◌*◌, ◌^◌, ◌<◌, ◌≤◌, length, take}
use Rattle.mdb_schema.specs.History.{History, state_at, writes_in}
use Rattle.mdb_schema.specs.LawfulSchema.{IsLawfulSchema}
use Rattle.mdb_schema.specs.Schema.{DbSchema}
use Rattle.mdb_schema.specs.declared.answer.Answer.TheVariants.{One, Many}
use Rattle.client_script.specs.Alone.{to_write}
use Rattle.client_script.specs.Client.{Client, Transaction, closed, reading, sight_of, state_seen, writing}
use Rattle.client_script.specs.Reply.{Reply, read_at, write_at, ended, committed, aborted, inserted, replaced, deleted, wiped, deferred, answered, snapshot_at, snapshot_within, quiet_at, fired_at, sized, woken_by, stopped_at, refused, reply_text}
use Rattle.client_script.specs.Session.{Answers}
use Rattle.client_script.specs.Spent.{IsSpent}
use Rattle.client_script.specs.Turn.{Turn, outcome, write_turn}
use Rattle.client_script.specs.Within.{IsWithin, StandsWithin}
use Rattle.client_script.specs.declared.command.Command.{Command}
use Rattle.client_script.specs.declared.command.WriteCommand.{WriteCommand}
use Rattle.client_script.proofs.EachTurn.{turn_so}
use Rattle.client_script.proofs.LongerHistory.{answered_within, next_within}
use Rattle.client_script.proofs.RowCounts.{rows_in}
use Rattle.run_check.proofs.CleanClients.{answered_clean}
use Rattle.run_check.proofs.CleanNames.{IsCleanCommand, IsCleanSchema}
use Rattle.run_check.proofs.CountedReplies.{CountedReply, IsFew, answered_counted, answered_members, writes_len}
use Rattle.run_check.proofs.FewWritten.{Bound, each_bound, next_bound}
use Rattle.run_check.proofs.TextSizes.{many_long}
use Rattle.run_check.proofs.WrittenForms.{IsSmall}

-- ---- so the numbers are small

small_of : (commits n k : ℕ) (r : Reply) → commits ≤ 2 ^ 24 → n < 2 ^ 24 → k ≤ 2 ^ 26 → length (reply_text r) ≤ 2 ^ 24 → CountedReply commits n k r → IsSmall r
small_of commits n k (read_at m) few lines written short counted = omega (arith, few, counted)
small_of commits n k (write_at m) few lines written short counted = omega (arith, few, counted)
small_of commits n k (committed m changed texts) few lines written short counted = omega (arith, few, counted)
small_of commits n k (wiped j) few lines written short counted = omega (arith, written, counted)
small_of commits n k (answered (Many rows)) few lines written short counted = let long = many_long rows in omega (arith, short, long)
small_of commits n k (answered (One row)) few lines written short counted = tt
small_of commits n k (snapshot_at m) few lines written short counted = omega (arith, few, counted)
small_of commits n k (snapshot_within m) few lines written short counted = omega (arith, few, counted)
small_of commits n k (quiet_at m) few lines written short counted = omega (arith, few, counted)
small_of commits n k (fired_at m) few lines written short counted = omega (arith, few, counted)
small_of commits n k (sized j) few lines written short counted = omega (arith, lines, counted)
small_of commits n k (woken_by w m) few lines written short counted = (counted.0, let le = counted.1 in omega (arith, few, le))
small_of commits n k (stopped_at m) few lines written short counted = omega (arith, few, counted)
small_of commits n k ended few lines written short counted = tt
small_of commits n k aborted few lines written short counted = tt
small_of commits n k inserted few lines written short counted = tt
small_of commits n k replaced few lines written short counted = tt
small_of commits n k deleted few lines written short counted = tt
small_of commits n k deferred few lines written short counted = tt
small_of commits n k (refused rule) few lines written short counted = tt

-- ---- a line in a history of few commits and writes

-- so few commits, writes and rows
pub record AreFew (schema : DbSchema) (H : History) : Type 0 where
  pub commits : length H ≤ 2 ^ 24
  pub rows : (k : ℕ) → k ≤ length H → writes_in (take k H) + rows_in (state_at schema H k) ≤ 2 ^ 25

module _ (schema : DbSchema) (laws : IsLawfulSchema schema) (names : IsCleanSchema schema) (H : History) (all : AreFew schema H) (n : ℕ) (lines : n < 2 ^ 24) (v : Client) (few : IsFew schema laws H n v) (client : ℕ) (c : Command) (r : Reply) (next : Client) where
  pub next_few : IsCleanCommand c → Answers schema H client v c r next → IsFew schema laws H (suc n) next
  next_few plain a = record {
    within = answered_within schema H client v c r next few.within a;
    clean = (answered_clean schema names H v few.clean client a.now c r next plain a.says).1;
    bound = next_bound schema laws H n client v next c r few.bound a;
    members = answered_members schema laws H n v few client a.now a.there r next c a.says;
  }

  few_writes : (t : Transaction) → StandsWithin (length H) t → Bound schema laws H (suc n) t → writes_len t ≤ 2 ^ 26
  few_writes closed stands' bound = omega arith
  few_writes (reading m) stands' bound = omega arith
  few_writes (writing t) stands' bound = let rows = all.rows t.number stands' in omega (arith, rows, bound, lines)

  pub reply_small : IsCleanCommand c → Answers schema H client v c r next → length (reply_text r) ≤ 2 ^ 24 → IsSmall r
  reply_small plain a short =
      let after : IsFew schema laws H (suc n) next = next_few plain a in
      small_of (length H) n (writes_len next.transaction) r all.commits lines (few_writes next.transaction after.within.transaction after.bound) short (answered_counted schema laws H n v few client a.now a.there r next c a.says)

  -- no transaction is full
  pub unspent : (w : WriteCommand) → IsSpent schema H v w r next → ⊥
  unspent w s =
      let turned : Bound schema laws H (suc n) (outcome v (write_turn schema H v w)).1.transaction = turn_so schema H 0 v (λ p. Bound schema laws H (suc n) p.1.transaction) (each_bound schema laws H n 0 v few.bound) (to_write w) in
      let stays : IsWithin (length H) (outcome v (write_turn schema H v w)).1 = next_within (length H) schema H 0 v (to_write w) (omega arith) few.within in
      let bound : Bound schema laws H (suc n) (writing s.opened) = subst (Bound schema laws H (suc n)) s.transaction (subst (λ (t : Turn). Bound schema laws H (suc n) (outcome v t).1.transaction) s.allowed turned) in
      let there : s.opened.number ≤ length H = subst (StandsWithin (length H)) s.transaction (subst (λ (t : Turn). IsWithin (length H) (outcome v t).1) s.allowed stays).transaction in
      too_many (writes_in (take s.opened.number H)) (length s.opened.writes) (rows_in (state_at schema H s.opened.number)) (rows_in (state_seen schema H (sight_of s.opened))) s.full bound (all.rows s.opened.number there)
    where
      too_many : (x y z u : ℕ) → 2 ^ 36 ≤ x + y → y + u ≤ z + 2 * suc n → x + z ≤ 2 ^ 25 → ⊥
      too_many x y z u full le le' = omega (arith, full, le, le', lines)
