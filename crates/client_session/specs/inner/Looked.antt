-- Replies of a watch or a set.
use Rattle.std.specs.Prelude.{⊤}
use Rattle.client_session.specs.declared.reply.Reply.{Reply}
use Rattle.client_session.specs.declared.reply.Reply.TheVariants as reply

-- those that are words and a number
abbrev pub IsLooked : Reply → Type 0
IsLooked (reply.QuietAt n) = ⊤
IsLooked (reply.FiredAt n) = ⊤
IsLooked (reply.Sized k) = ⊤
IsLooked (reply.StoppedAt n) = ⊤
IsLooked r = ⊥
