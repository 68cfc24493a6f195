use Rattle.std.proofs.Common.{◌∙◌}
use Rattle.memdb.proofs.CommandWords.{read_none, read_ok}
use Rattle.memdb.proofs.words.parsing.parsed.Goals as goal

pub returns-in-Ok : goal.returns-in-Ok
returns-in-Ok c = read_ok _ _ _ c.requires.program c.requires.plain c.in-Ok.ensures.kinds c.in-Ok.ensures.matches

pub returns : goal.returns
returns c = read_none _ _ c.in-Err.error c.requires.program c.requires.plain c.in-Err.ensures.kinds (λ e. c.in_default.not-OutOfMemory (c.kind.ensures ∙ e))
