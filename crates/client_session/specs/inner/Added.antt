-- What a step's reply adds to the answers.
use Rattle.std.specs.Prelude.{◌≡◌, ◌+◌, ◌++◌, ℕ, Bool, true, false, Option, Some, None, length}
use Rattle.std.specs.Prelude.{Result, Ok, Err}
use Rattle.std.specs.declared.alloc.AllocError.{AllocError}
use Rattle.mdb_schema.specs.Schema.{DbSchema}
use Rattle.client_script.specs.Legal.{number_printed}
use Rattle.client_script.specs.Reply.{line_text}
use Rattle.client_session.specs.declared.reply.Reply.{Reply}
use Rattle.client_session.specs.inner.ReplyOf.{reply_of}
use Rattle.client_session.specs.inner.Transcript.{Transcript}

-- a reply to the line of this number was added
abbrev pub AddsReply : DbSchema → ℕ → Reply → Transcript → Transcript → Type 0
AddsReply schema line r before after =
    (after.text ≡ before.text ++ line_text line (reply_of schema r))
    × (after.commits ≡ before.commits + length (number_printed (reply_of schema r)))

-- it was where the step told one, and else nothing
abbrev pub IsAdded : DbSchema → ℕ → Result (Option Reply) AllocError → Transcript → Transcript
    → Result Bool AllocError → Type 0
IsAdded schema line (Ok (Some r)) before after (Ok true) = AddsReply schema line r before after
IsAdded schema line (Ok None) before after (Ok false) = after ≡ before
IsAdded schema line told before after (Err e) = after ≡ before
IsAdded schema line told before after added = ⊥
