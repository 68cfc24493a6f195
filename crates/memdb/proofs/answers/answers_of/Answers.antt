-- There are as many sessions as before their run.
use Rattle.std.proofs.Common.{◌∙◌, sym}
use Rattle.client_session.proofs.ManyClients.{later_long}
use Rattle.memdb.proofs.answers.answers_of.Goals as goal

pub answers-requires : goal.answers-requires
answers-requires g c = record { named = c.requires.named ∙ sym (later_long _ _ c.run_clients.ensures.later) }
