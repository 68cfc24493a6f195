-- The texts that a client may be told of a request.
use Rattle.std.proofs.Common.{◌≡◌, ap, sym, ◌∙◌, ℕ, ◌≤◌, ◌⊎◌, inl, inr, length}
use Rattle.mdb_datum.specs.Bytes.{Bytes}
use Rattle.mdb_schema.specs.History.{History}
use Rattle.mdb_schema.specs.Schema.{DbSchema}
use Rattle.client_script.specs.Alone.{Request, to_transact, to_write, to_defer, to_ask, to_name, to_size, as_command, turn}
use Rattle.client_script.specs.Client.{Client}
use Rattle.client_script.specs.Reply.{Reply, reply_text}
use Rattle.client_script.specs.Session.{IsAnswered}
use Rattle.client_script.specs.Spent.{IsWriteTold, by_turn, without_ids, ids_spent}
use Rattle.client_script.specs.Turn.{outcome}
use Rattle.client_script.specs.declared.command.WriteCommand.{WriteCommand}
use Rattle.run_check.specs.FirstBad.{IsTold}

module _ (schema : DbSchema) (H : History) (client : ℕ) where
  -- what is printed of a request after so many commits
  abbrev pub said : ℕ → Client → Request → Reply × Client
  said now v q = outcome v (turn schema H now v q)

  -- a reply to a request is its turn's, or that there are too few ids
  IsReplyTo : ℕ → Client → Request → Reply → Type 0
  IsReplyTo now v q r = ((said now v q).0 ≡ r) ⊎ (ids_spent ≡ r)

  write_said : (now : ℕ) (v next : Client) (w : WriteCommand) (r : Reply) → IsWriteTold schema H v w r next → IsReplyTo now v (to_write w) r
  unfolding IsReplyTo
  write_said now v next w r (by_turn is) = inl (ap (λ (p : Reply × Client). p.0) is)
  write_said now v next w r (without_ids s) = inr (sym s.reply)

  reply_said : (now : ℕ) (v next : Client) (q : Request) (r : Reply) → IsAnswered schema H client now v (as_command q) r next → IsReplyTo now v q r
  unfolding IsReplyTo
  reply_said now v next (to_transact t) r is = inl (ap (λ (p : Reply × Client). p.0) is)
  reply_said now v next (to_write w) r is = write_said now v next w r is
  reply_said now v next (to_defer text) r is = inl (ap (λ (p : Reply × Client). p.0) is)
  reply_said now v next (to_ask a) r is = inl (ap (λ (p : Reply × Client). p.0) is)
  reply_said now v next (to_name n) r is = inl (ap (λ (p : Reply × Client). p.0) is)
  reply_said now v next (to_size set) r is = inl (ap (λ (p : Reply × Client). p.0) is)

  -- so a text that a client is told of a request is one of these two, after some number of commits
  pub record TextOf (v : Client) (q : Request) (text : Bytes) : Type 0 where
    pub now : ℕ
    pub not_older : v.last ≤ now
    pub there : now ≤ length H
    pub is : (reply_text (said now v q).0 ≡ text) ⊎ (reply_text ids_spent ≡ text)

  pub told_text : (v next : Client) (q : Request) (text : Bytes) → IsTold schema H client v (as_command q) text next → TextOf v q text
  unfolding IsReplyTo
  told_text v next q text told = record {
    now = told.answers.now;
    not_older = told.answers.not_older;
    there = told.answers.there;
    is = elim (reply_said told.answers.now v next q told.reply told.answers.says) [
      | inl e ↦ inl (ap reply_text e ∙ told.printed)
      | inr e ↦ inr (ap reply_text e ∙ told.printed)
    ];
  }

  -- the turn of a request is an answer
  pub answered_so : (now : ℕ) (v next : Client) (q : Request) (r : Reply) → said now v q ≡ (r, next) → IsAnswered schema H client now v (as_command q) r next
  answered_so now v next (to_transact t) r is = is
  answered_so now v next (to_write w) r is = by_turn is
  answered_so now v next (to_defer text) r is = is
  answered_so now v next (to_ask a) r is = is
  answered_so now v next (to_name n) r is = is
  answered_so now v next (to_size set) r is = is
