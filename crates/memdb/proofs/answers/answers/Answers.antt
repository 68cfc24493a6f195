-- The sessions have made the whole history, and their answers are a legal output.
use Rattle.std.proofs.Common.{arith, ◌∙◌, ◌≤◌, length, sym, subst, IfOk}
use Rattle.client_script.specs.Legal.{Legal}
use Rattle.client_session.proofs.ManyClients.{all_ready, as_many}
use Rattle.mdb_schema.specs.Schema.{DbSchema}
use Rattle.memdb.proofs.AllAnswered.{can_close, ok_legal, whole_of}
use Rattle.memdb.proofs.answers.answers.Goals as goal

pub answers_of-out-requires-clause-ready : goal.answers_of-out-requires-clause-ready
answers_of-out-requires-clause-ready g c κs within = let s = c.in_ok-clients.clients in all_ready s.db c.args.scripts 0 s.passes s.sessions.items c.in_ok-clients.ensures.opened

pub answers_of-out-requires-clause-named : goal.answers_of-out-requires-clause-named
answers_of-out-requires-clause-named g c κs within = let s = c.in_ok-clients.clients in c.requires.named ∙ sym (as_many s.db c.args.scripts 0 s.passes s.sessions.items c.in_ok-clients.ensures.opened)

pub close-requires : goal.close-requires
close-requires g c =
    let s = c.in_ok-clients.clients in
    let done = c.answers_of-out.ensures in
    let after = c.answers_of-out.new.clients in
    let named = c.requires.named in
    let some = c.requires.some in
    let scripts : 1 ≤ length c.args.scripts = omega (arith, named, some) in
    can_close s.db c.args.scripts s.passes s.sessions.items c.in_ok-clients.ensures.opened after.db after.passes after.sessions.items done.db done.passes done.later scripts

pub returns : goal.returns
returns g c =
    let s = c.in_ok-clients.clients in
    let opened = c.in_ok-clients.ensures.opened in
    let done = c.answers_of-out.ensures in
    let after = c.answers_of-out.new.clients in
    let J = c.close.ensures.0 in
    let whole = whole_of s.db c.args.scripts s.passes s.sessions.items opened after.db after.passes after.sessions.items J done.db done.passes c.close.ensures.1 in
    let legal = ok_legal s.db c.args.scripts s.passes s.sessions.items opened after.sessions.items done.later J whole (λ out. out.items) c.answers_of-out.result c.args.names.now c.requires.named done.answered done.text in
    subst (λ (schema : DbSchema). IfOk c.answers_of-out.result (λ out. Legal schema c.args.names.now c.args.scripts out.items)) c.in_ok-clients.ensures.schema legal
