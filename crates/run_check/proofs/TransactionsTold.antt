-- A line that begins or ends a transaction is decided by the text that was written.
use Rattle.std.proofs.Common.{arith, ◌≡◌, ◌∙◌, ◌≤◌, ◌+◌, ◌++◌, ℕ, List, [], length, Result, Ok, Err, IfOk, IfErr, refl, sym, ap, subst, codes}
use Rattle.std.proofs.lemmas.Option.{slice_get_within}
use Rattle.mdb_datum.specs.Bytes.{Bytes}
use Rattle.mdb_schema.specs.History.{History}
use Rattle.mdb_schema.specs.Schema.{DbSchema}
use Rattle.mdb_schema.specs.Tests.{◌>>=◌}
use Rattle.client_script.specs.Alone.{Request, as_command, to_transact, turn}
use Rattle.client_script.specs.Client as plain
use Rattle.client_script.specs.Client.{write_open}
use Rattle.client_script.specs.Reply.{Reply, reply_text}
use Rattle.client_script.specs.Session.{IsCommit}
use Rattle.client_script.specs.Turn.{Turn, after_commit, commit_reply, outcome, transaction_turn}
use Rattle.client_script.specs.declared.rule.Rule.{Rule}
use Rattle.client_script.specs.RuleName.{rule_name}
use Rattle.client_script.specs.declared.command.TransactionCommand.TheVariants as transaction_line
use Rattle.run_check.specs.declared.client.Client.{Client}
use Rattle.run_check.specs.declared.session.Refused.{Refused}
use Rattle.run_check.specs.declared.session.Refused.TheVariants as refusals
use Rattle.run_check.specs.declared.session.Sessions.{Sessions}
use Rattle.run_check.specs.inner.ClientView.{known}
use Rattle.run_check.specs.inner.Decided.{IsDecided}
use Rattle.run_check.specs.inner.SessionView.{IsDue, IsKnown, TellsLine, TellsText, TellsTurn}
use Rattle.run_check.specs.inner.StoreView.{Begun}
use Rattle.run_check.proofs.CommitsDecided.{commit_decided}
use Rattle.run_check.proofs.DecidedTurns.{refused_decided}
use Rattle.run_check.proofs.LineTold.{turn_tells}

ok_same : (p q : Reply × plain.Client) → ◌≡◌ {A = Turn} (Ok p) (Ok q) → p ≡ q
ok_same p q e = cc

module _ (schema : DbSchema) (H : History) (client : ℕ) (before : plain.Client) (text : Bytes) (due : IsDue schema H client before text) (last : before.last ≤ length H) where
  -- a line whose turn tells how many commits there are
  pub text_tells : (q : Request) (turns : ℕ → Turn) → ((now : ℕ) → turn schema H now before q ≡ turns now) → (txns : List Begun) (old : Bytes) → old ≡ [] → (s : Sessions) (v : Client) (r : Result (Unit {0}) Refused)
      → TellsText schema H client turns (as_command q) text before (known txns v) old s.text.items r → IfOk r (λ u. IsKnown schema H txns s v) → IfErr r (λ e. (rule : Rule) → e ≡ refusals.By rule → IsKnown schema H txns s v)
      → TellsLine schema H client (as_command q) text before s v r
  text_tells q turns is txns old empty s v (Ok u) told keeps refuses =
      let made : told.0 ≡ s.text.items = ap (λ (bs : Bytes). bs ++ told.0) (sym empty) ∙ sym told.1 in
      record {
        txns = txns;
        decided = subst (λ (bs : Bytes). IsDecided schema H client before (as_command q) text bs (known txns v)) made told.2;
        keeps = λ e. keeps;
      }
  text_tells q turns is txns old empty s v (Err refusals.Memory) told keeps refuses = tt
  text_tells q turns is txns old empty s v (Err (refusals.By rule)) told keeps refuses = record {
    txns = txns;
    decided = subst (λ (after : plain.Client). IsDecided schema H client before (as_command q) text (codes "refused " ++ rule_name schema rule) after) (sym told.1)
        (refused_decided schema H before due.unspent last client text q (rule_name schema rule) (λ now. is now ∙ told.0 now));
    keeps = λ e. refuses rule refl;
  }

  -- where a commit may be told, it is there
  commit_there : (reply : Reply) (after : plain.Client) → transaction_turn schema H before.last before transaction_line.Commit ≡ Ok (reply, after) → reply_text reply ≡ text → after.last ≤ length H
  commit_there reply after is same = of before.transaction refl is
    where
      of : (t : plain.Transaction) → before.transaction ≡ t → ◌>>=◌ {B = Reply × plain.Client} (write_open t) (λ x. Ok (commit_reply schema H x, after_commit x before)) ≡ Ok (reply, after) → after.last ≤ length H
      of plain.closed opened e = cc
      of (plain.reading n) opened e = cc
      of (plain.writing x) opened e =
          let both : (commit_reply schema H x, after_commit x before) ≡ (reply, after) = ok_same (commit_reply schema H x, after_commit x before) (reply, after) e in
          let told : commit_reply schema H x ≡ reply = ap (λ (p : Reply × plain.Client). p.0) both in
          let next : after_commit x before ≡ after = ap (λ (p : Reply × plain.Client). p.1) both in
          let number : x.number + 1 ≡ after.last = ap (λ (y : plain.Client). y.last) next in
          let there : IsCommit H client (plain.writing x) = due.committed x opened (ap reply_text told ∙ same) in
          let within = slice_get_within H x.number _ there in
          omega (arith, within, number)

  pub commit_tells : (txns : List Begun) (old : Bytes) → old ≡ [] → (s : Sessions) (v : Client) (r : Result (Unit {0}) Refused)
      → TellsTurn schema (transaction_turn schema H before.last before transaction_line.Commit) before (known txns v) old s.text.items r
      → IfOk r (λ u. v.last ≤ length H → IsKnown schema H txns s v) → IfErr r (λ e. (rule : Rule) → e ≡ refusals.By rule → IsKnown schema H txns s v)
      → TellsLine schema H client (as_command (to_transact transaction_line.Commit)) text before s v r
  commit_tells txns old empty s v (Ok u) told keeps refuses =
      let reply : Reply = told.reply in
      let made : outcome before (transaction_turn schema H before.last before transaction_line.Commit) ≡ (reply, known txns v) = ap (outcome before) told.is in
      let written : s.text.items ≡ reply_text reply = told.text ∙ ap (λ (bs : Bytes). bs ++ reply_text reply) empty in
      record {
        txns = txns;
        decided = subst (λ (bs : Bytes). IsDecided schema H client before (as_command (to_transact transaction_line.Commit)) text bs (known txns v)) (sym written)
            (subst (λ (p : Reply × plain.Client). IsDecided schema H client before (as_command (to_transact transaction_line.Commit)) text (reply_text p.0) p.1) made
            (commit_decided schema H before due.unspent last client text due.committed));
        keeps = λ e. keeps (commit_there reply (known txns v) told.is (sym written ∙ e));
      }
  commit_tells txns old empty s v (Err refusals.Memory) told keeps refuses = tt
  commit_tells txns old empty s v (Err (refusals.By rule)) told keeps refuses =
      turn_tells schema H client before text due last (to_transact transaction_line.Commit) (transaction_turn schema H before.last before transaction_line.Commit) (λ now. refl)
      (commit_decided schema H before due.unspent last client text due.committed) old empty s v (Err (refusals.By rule)) (told.0, txns, told.1, refuses rule refl)
