-- There are as many sessions as before their run, and their output is that of sessions that have stopped.
use Rattle.std.proofs.Common.{arith, ◌∙◌, sym}
use Rattle.client_session.proofs.ManyClients.{later_long}
use Rattle.session_loop.proofs.LoopEnds.{ok_output}
use Rattle.session_loop.proofs.answers.answers_of.Goals as goal

pub run_clients-requires-clause-few : goal.run_clients-requires-clause-few
run_clients-requires-clause-few g c = let named = c.requires.named in let few = c.requires.few in omega (arith, named, few)

pub answers-requires : goal.answers-requires
answers-requires g c = record { named = c.requires.named ∙ sym (later_long c.args.clients.now.sessions.items c.run_clients.new.clients.sessions.items c.run_clients.ensures.later) }

pub returns-clause-output : goal.returns-clause-output
returns-clause-output g c =
    let now = c.run_clients.new.clients in
    ok_output (λ out. out.status) (λ out. out.text.items) c.args.names.now now.sessions.items now.passes c.in_ok-text.text.items c.in_ok-stop.stop c.output_of.result c.in_ok-stop.ensures.running c.in_ok-stop.ensures.stopped c.in_ok-text.ensures c.output_of.ensures
