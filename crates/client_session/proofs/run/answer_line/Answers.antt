use Rattle.std.proofs.Common.{rules, ◌≡◌, ap, ◌∙◌, ◌+◌, ◌++◌, length, Result, Ok, Err, IfOk, OnOk}
use Rattle.std.specs.Prelude.{MatchResult}
use Rattle.std.specs.declared.alloc.AllocError.{AllocError}
use Rattle.mdb_schema.specs.Schema.{DbSchema}
use Rattle.client_script.specs.Legal.{number_printed}
use Rattle.client_script.specs.Reply.{line_text}
use Rattle.client_script.specs.declared.line.Line.{Line}
use Rattle.client_session.specs.declared.session_state.SessionState.{SessionState}
use Rattle.client_session.specs.declared.reply.Reply.{Reply}
use Rattle.client_session.specs.inner.Added.{AddsReply}
use Rattle.client_session.specs.inner.Carried.{AnswersLine}
use Rattle.client_session.specs.inner.StateView.{LooksAndReplies}
use Rattle.client_session.specs.inner.OpenView.{caller_of}
use Rattle.client_session.specs.inner.ReplyOf.{reply_of}
use Rattle.client_session.specs.inner.Transcript.{Transcript}
use Rattle.client_session.proofs.OpenTurns.{on_err}
use Rattle.client_session.proofs.UntoldCommits.{turn_stopped}
use Rattle.client_session.proofs.run.answer_line.Goals as goal

-- the reply that was added is the turn's
line_told : (l : Line) (old new : SessionState) (schema : DbSchema) (told : Result Reply AllocError) (added : Result (Unit {0}) AllocError) (before after : Transcript) → schema ≡ (caller_of old.«open»).schema → IfOk told (λ r. LooksAndReplies l.command old new (reply_of (caller_of old.«open»).schema r)) → OnOk added (MatchResult told (λ r. AddsReply schema l.number r before after) (λ e. ⊥)) → OnOk added (AnswersLine l old new before after)
line_told l old new schema told (Err e) before after same turn added = tt
line_told l old new schema (Err e) (Ok x) before after same turn added = absurd added
line_told l old new schema (Ok r) (Ok x) before after same turn added = record {
  reply = reply_of (caller_of old.«open»).schema r;
  replies = turn;
  written = added.0 ∙ ap (λ (s : DbSchema). before.text ++ line_text l.number (reply_of s r)) same;
  counted = added.1 ∙ ap (λ (s : DbSchema). before.commits + length (number_printed (reply_of s r))) same;
}

pub returns-clause-answered : goal.returns-clause-answered
returns-clause-answered g c = line_told c.args.line.now c.args.state c.turn-state.result.0 c.schema.result.now c.turn-state.result.1 c.add_reply-added.result c.args.transcript.now c.add_reply-added.new.transcript (search (rules)) c.turn-state.ensures.turn c.add_reply-added.ensures.added

pub returns-clause-stopped : goal.returns-clause-stopped
returns-clause-stopped g c = on_err _ (turn_stopped c.args.line.now c.args.state c.turn-state.result.0 (caller_of c.args.state.«open»).schema c.turn-state.result.1 c.turn-state.ensures.turn c.turn-state.ensures.unmade)
