use Rattle.std.proofs.Common.{◌∙◌, ap, sym, ℕ}
use Rattle.client_script.specs.Reply.{sized}
use Rattle.client_session.proofs.LooksTold.{size_known, size_unknown}
use Rattle.client_session.proofs.watching.Watching.size.Goals as goal

pub returns-in-Some : goal.returns-in-Some
returns-in-Some c p v knows = size_known p c.args.self.now v c.args.set.now c.in-Some.members.now knows (sym c.in-Some.ensures) ∙ ap (λ (n : ℕ). (sized n, v)) (sym c.len.ensures.count)

pub returns-in-None : goal.returns-in-None
returns-in-None c p v knows = size_unknown p c.args.self.now v c.args.set.now knows (sym c.in-None.ensures)
