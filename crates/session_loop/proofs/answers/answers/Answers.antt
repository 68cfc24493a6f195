-- The sessions have made the whole history, and their answers are a legal output, or a stuck one.
use Rattle.std.proofs.Common.{arith, ◌∙◌, ◌≤◌, length, sym, subst, IfOk}
use Rattle.client_session.proofs.ManyClients.{as_many}
use Rattle.mdb_schema.specs.Schema.{DbSchema}
use Rattle.session_loop.specs.inner.Endings.{IsDoneOrStuck}
use Rattle.session_loop.proofs.LoopEnds.{all_unspent, can_close, loop_pass, ok_ends}
use Rattle.session_loop.proofs.answers.answers.Goals as goal

pub answers_of-out-requires-clause-unspent : goal.answers_of-out-requires-clause-unspent
answers_of-out-requires-clause-unspent g c = let s = c.in_ok-clients.clients in all_unspent s.db c.args.scripts s.passes s.sessions.items c.in_ok-clients.ensures.opened

pub answers_of-out-requires-clause-pass : goal.answers_of-out-requires-clause-pass
answers_of-out-requires-clause-pass g c = let s = c.in_ok-clients.clients in loop_pass s.db c.args.scripts s.passes s.sessions.items c.in_ok-clients.ensures.opened

pub answers_of-out-requires-clause-named : goal.answers_of-out-requires-clause-named
answers_of-out-requires-clause-named g c = let s = c.in_ok-clients.clients in c.requires.named ∙ sym (as_many s.db c.args.scripts 1 s.passes s.sessions.items c.in_ok-clients.ensures.opened)

pub close-requires : goal.close-requires
close-requires g c =
    let s = c.in_ok-clients.clients in
    let done = c.answers_of-out.ensures in
    let after = c.answers_of-out.new.clients in
    let named = c.requires.named in
    let some = c.requires.some in
    let scripts : 1 ≤ length c.args.scripts = omega (arith, named, some) in
    can_close s.db c.args.scripts s.passes s.sessions.items c.in_ok-clients.ensures.opened after.db after.passes after.sessions.items done.db done.passes done.later scripts

pub returns : goal.returns
returns g c =
    let s = c.in_ok-clients.clients in
    let opened = c.in_ok-clients.ensures.opened in
    let done = c.answers_of-out.ensures in
    let after = c.answers_of-out.new.clients in
    let J = c.close.ensures.0 in
    let ends = ok_ends s.db c.args.scripts s.passes s.sessions.items opened after.db after.passes after.sessions.items done.db done.passes done.later J c.close.ensures.1 done.scripts c.args.names.now c.requires.named (λ out. out.status) (λ out. out.text.items) c.answers_of-out.result done.output in
    subst (λ (schema : DbSchema). IfOk c.answers_of-out.result (λ out. IsDoneOrStuck schema c.args.names.now c.args.scripts out.status out.text.items)) c.in_ok-clients.ensures.schema ends
