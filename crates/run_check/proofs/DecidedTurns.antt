-- Whether a client may be told a text at a line whose turn doesn't look at how many commits there are:
-- it is the text of the turn's reply.
use Rattle.std.proofs.Common.{arith, ◌≡◌, ◌≢◌, refl, ap, subst, sym, ◌∙◌, ℕ, ◌≤◌, [], ◌++◌, length, Ok, Err, codes}
use Rattle.mdb_datum.specs.Bytes.{Bytes}
use Rattle.mdb_schema.specs.History.{History}
use Rattle.mdb_schema.specs.Schema.{DbSchema}
use Rattle.mdb_schema.specs.Tests.{◌>>=◌}
use Rattle.client_script.specs.Alone.{Request, to_transact, to_write, to_defer, to_ask, to_name, to_size, as_command, turn}
use Rattle.client_script.specs.Client.{Client, Judged, Transaction, closed, none_open, reading, writing}
use Rattle.client_script.specs.Legal.{number_printed}
use Rattle.client_script.specs.Reply.{Reply, refused, reply_text}
use Rattle.client_script.specs.Session.{Answers, IsAnswered, IsEntry}
use Rattle.client_script.specs.Spent.{IsSpent, by_turn, without_ids}
use Rattle.client_script.specs.Turn.{outcome}
use Rattle.client_script.specs.Watching.{IsJudged}
use Rattle.client_script.specs.declared.command.AskCommand.{AskCommand}
use Rattle.client_script.specs.declared.command.Command.{Command}
use Rattle.client_script.specs.declared.command.Command.TheVariants as command
use Rattle.client_script.specs.declared.command.NameCommand.{NameCommand}
use Rattle.client_script.specs.declared.command.TransactionCommand.TheVariants as transaction_line
use Rattle.client_script.specs.declared.command.WriteCommand.{WriteCommand}
use Rattle.client_script.proofs.EachTurn.{turn_answers}
use Rattle.client_script.proofs.LongerHistory.{no_entry}
use Rattle.run_check.specs.FirstBad.{IsTold}
use Rattle.run_check.specs.inner.Decided.{IsDecided}

-- ---- a text that is told, and one that none may be told

-- a text that is told decides by itself
pub decided_told : (schema : DbSchema) (H : History) (client : ℕ) (v next : Client) (c : Command) (text : Bytes) → IsTold schema H client v c text next → IsDecided schema H client v c text text next
decided_told schema H client v next c text is = record { told = λ e. is; untold = λ apart other told. apart refl }

-- where none may be told, no text is made
pub decided_none : (schema : DbSchema) (H : History) (client : ℕ) (v next : Client) (c : Command) (text : Bytes) → text ≢ [] → ((other : Client) → IsTold schema H client v c text other → ⊥) → IsDecided schema H client v c text [] next
decided_none schema H client v next c text some none = record { told = λ e. absurd (some (sym e)); untold = λ apart other told. none other told }

-- ---- turns that don't look at the number of commits

-- the turn is one, after however many commits
abbrev pub IsSteady : DbSchema → History → Client → Request → Type 0
IsSteady schema H v q = (now now' : ℕ) → turn schema H now v q ≡ turn schema H now' v q

pub end_steady : (schema : DbSchema) (H : History) (v : Client) → IsSteady schema H v (to_transact transaction_line.End)
end_steady schema H v now now' = refl

pub commit_steady : (schema : DbSchema) (H : History) (v : Client) → IsSteady schema H v (to_transact transaction_line.Commit)
commit_steady schema H v now now' = refl

pub abort_steady : (schema : DbSchema) (H : History) (v : Client) → IsSteady schema H v (to_transact transaction_line.Abort)
abort_steady schema H v now now' = refl

pub write_steady : (schema : DbSchema) (H : History) (v : Client) (w : WriteCommand) → IsSteady schema H v (to_write w)
write_steady schema H v w now now' = refl

pub defer_steady : (schema : DbSchema) (H : History) (v : Client) (text : Bytes) → IsSteady schema H v (to_defer text)
defer_steady schema H v text now now' = refl

pub ask_steady : (schema : DbSchema) (H : History) (v : Client) (a : AskCommand) → IsSteady schema H v (to_ask a)
ask_steady schema H v a now now' = refl

pub name_steady : (schema : DbSchema) (H : History) (v : Client) (c : NameCommand) → IsSteady schema H v (to_name c)
name_steady schema H v c now now' = refl

pub size_steady : (schema : DbSchema) (H : History) (v : Client) (set : Bytes) → IsSteady schema H v (to_size set)
size_steady schema H v set now now' = refl

-- `read` and `write` are so where a transaction is open
opened : {B : Type 0} (t : Transaction) (f g : Unit {0} → Judged B) → (t ≡ closed → ⊥) → (none_open t >>= f) ≡ (none_open t >>= g)
opened closed f g apart = absurd (apart refl)
opened (reading n) f g apart = refl
opened (writing t) f g apart = refl

pub read_steady : (schema : DbSchema) (H : History) (v : Client) → (v.transaction ≡ closed → ⊥) → IsSteady schema H v (to_transact transaction_line.Read)
read_steady schema H v apart now now' = opened v.transaction _ _ apart

pub begin_steady : (schema : DbSchema) (H : History) (v : Client) → (v.transaction ≡ closed → ⊥) → IsSteady schema H v (to_transact transaction_line.Write)
begin_steady schema H v apart now now' = opened v.transaction _ _ apart

module _ (schema : DbSchema) (H : History) (v : Client) (none_full : (w : WriteCommand) (r : Reply) (next : Client) → IsSpent schema H v w r next → ⊥) (known : v.last ≤ length H) (client : ℕ) (text : Bytes) where
  -- what is told is the turn's reply
  turn_only : (q : Request) (r : Reply) (next : Client) (a : Answers schema H client v (as_command q) r next) → outcome v (turn schema H a.now v q) ≡ (r, next)
  turn_only (to_transact t) r next a = a.says
  turn_only (to_write w) r next a = by a.says
    where
      by : IsAnswered schema H client a.now v (command.Write w) r next → outcome v (turn schema H a.now v (to_write w)) ≡ (r, next)
      by (by_turn is) = is
      by (without_ids s) = absurd (none_full w r next s)
  turn_only (to_defer t) r next a = a.says
  turn_only (to_ask q) r next a = a.says
  turn_only (to_name c) r next a = a.says
  turn_only (to_size set) r next a = a.says

  -- and its text decides, where a commit that it tells is an entry
  pub steady_decided : (q : Request) → IsSteady schema H v q → (reply_text (outcome v (turn schema H v.last v q)).0 ≡ text → IsEntry H client v.transaction (outcome v (turn schema H v.last v q)).0) → IsDecided schema H client v (as_command q) text (reply_text (outcome v (turn schema H v.last v q)).0) (outcome v (turn schema H v.last v q)).1
  steady_decided q steady entry = record {
    told = λ e. record {
      reply = (outcome v (turn schema H v.last v q)).0;
      printed = e;
      answers = record {
        now = v.last;
        not_older = search (arith);
        there = known;
        says = turn_answers schema H client v.last v q (outcome v (turn schema H v.last v q)).0 (outcome v (turn schema H v.last v q)).1 refl;
        entry = entry e;
      };
    };
    untold = λ apart other told.
        let is : outcome v (turn schema H told.answers.now v q) ≡ (told.reply, other) = turn_only q told.reply other told.answers in
        let same : (outcome v (turn schema H v.last v q)).0 ≡ told.reply = ap (λ t. (outcome v t).0) (steady v.last told.answers.now) ∙ ap (λ (p : Reply × Client). p.0) is in
        apart (ap reply_text same ∙ told.printed);
  }

  -- where the turn tells no commit, there is none to be an entry
  pub plain_decided : (q : Request) → IsSteady schema H v q → number_printed (outcome v (turn schema H v.last v q)).0 ≡ [] → IsDecided schema H client v (as_command q) text (reply_text (outcome v (turn schema H v.last v q)).0) (outcome v (turn schema H v.last v q)).1
  plain_decided q steady none = steady_decided q steady (λ e. no_entry H client v.transaction (outcome v (turn schema H v.last v q)).0 none)

  -- ---- by what the turn is

  -- a line whose turn breaks a rule, after however many commits
  pub refused_decided : (q : Request) (rule : Bytes) → ((now : ℕ) → turn schema H now v q ≡ Err rule) → IsDecided schema H client v (as_command q) text (codes "refused " ++ rule) v
  refused_decided q rule is =
      let made : outcome v (turn schema H v.last v q) ≡ (refused rule, v) = ap (outcome v) (is v.last) in
      subst (λ (p : Reply × Client). IsDecided schema H client v (as_command q) text (reply_text p.0) p.1) made
      (plain_decided q (λ now now'. is now ∙ sym (is now')) (ap (λ (p : Reply × Client). number_printed p.0) made))

  -- a line whose turn has a reply that tells no commit
  pub reply_decided : (q : Request) (r : Reply) (next : Client) → IsSteady schema H v q → turn schema H v.last v q ≡ Ok (r, next) → number_printed r ≡ [] → IsDecided schema H client v (as_command q) text (reply_text r) next
  reply_decided q r next steady is none =
      let made : outcome v (turn schema H v.last v q) ≡ (r, next) = ap (outcome v) is in
      subst (λ (p : Reply × Client). IsDecided schema H client v (as_command q) text (reply_text p.0) p.1) made
      (plain_decided q steady (ap (λ (p : Reply × Client). number_printed p.0) made ∙ none))

-- ---- a line of watches that breaks a rule

module _ (schema : DbSchema) (H : History) (v : Client) (known : v.last ≤ length H) (client : ℕ) (c : Command) (text : Bytes) where
  -- the refusal is all that may be told
  pub refusal_decided : (rule : Bytes) → IsAnswered schema H client v.last v c (refused rule) v → ((now : ℕ) (r : Reply) (next : Client) → IsAnswered schema H client now v c r next → r ≡ refused rule) → IsDecided schema H client v c text (codes "refused " ++ rule) v
  refusal_decided rule says only = record {
    told = λ e. record {
      reply = refused rule;
      printed = e;
      answers = record { now = v.last; not_older = search (arith); there = known; says = says; entry = tt };
    };
    untold = λ apart other told. apart (ap reply_text (sym (only told.answers.now told.reply other told.answers.says)) ∙ told.printed);
  }

-- a line that is judged so
pub judged_refused : {A : Type 0} (v : Client) (j : Judged A) (rule : Bytes) (said : A → Type 0) → j ≡ Err rule → IsJudged v j (refused rule) v said
judged_refused v j rule said is = subst (λ x. IsJudged v x (refused rule) v said) (sym is) (refl, refl)

pub judged_reply : {A : Type 0} (v next : Client) (j : Judged A) (r : Reply) (rule : Bytes) (said : A → Type 0) → j ≡ Err rule → IsJudged v j r next said → r ≡ refused rule
judged_reply v next j r rule said is told = (subst (λ x. IsJudged v x r next said) is told).0

pub judged_said : {A : Type 0} (v next : Client) (j : Judged A) (r : Reply) (a : A) (said : A → Type 0) → j ≡ Ok a → IsJudged v j r next said → said a
judged_said v next j r a said is told = subst (λ x. IsJudged v x r next said) is told

pub said_judged : {A : Type 0} (v next : Client) (j : Judged A) (r : Reply) (a : A) (said : A → Type 0) → j ≡ Ok a → said a → IsJudged v j r next said
said_judged v next j r a said is told = subst (λ x. IsJudged v x r next said) (sym is) told
