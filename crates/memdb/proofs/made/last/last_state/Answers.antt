-- The sessions have made the whole history, and leave the state after it.
use Rattle.std.proofs.Common.{◌∙◌, ap, subst, OnOk, Result}
use Rattle.std.specs.declared.alloc.AllocError.{AllocError}
use Rattle.client_session.proofs.ManyClients.{all_ready}
use Rattle.mdb_schema.specs.Schema.{DbSchema}
use Rattle.mem_txn.specs.Database.{Database, Reading, view_after}
use Rattle.memdb.specs.inner.LastState.{IsLast}
use Rattle.memdb.proofs.AllAnswered.{can_close, ok_last, whole_of}
use Rattle.memdb.proofs.made.last.last_state.Goals as goal

pub run_clients-done-requires-clause-ready : goal.run_clients-done-requires-clause-ready
run_clients-done-requires-clause-ready g c κs within = let s = c.in_ok-clients.clients in all_ready s.db c.args.scripts 0 s.passes s.sessions.items c.in_ok-clients.ensures.opened

pub close-last-requires : goal.close-last-requires
close-last-requires g c =
    let s = c.in_ok-clients.clients in
    let done = c.run_clients-done.ensures in
    let after = c.run_clients-done.new.clients in
    can_close s.db c.args.scripts s.passes s.sessions.items c.in_ok-clients.ensures.opened after.db after.passes after.sessions.items done.db done.passes done.later c.requires.some

pub returns-in-Ok : goal.returns-in-Ok
returns-in-Ok g c =
    let s = c.in_ok-clients.clients in
    let opened = c.in_ok-clients.ensures.opened in
    let done = c.run_clients-done.ensures in
    let after = c.run_clients-done.new.clients in
    let J = c.close-last.ensures.0 in
    let whole = whole_of s.db c.args.scripts s.passes s.sessions.items opened after.db after.passes after.sessions.items J done.db done.passes c.close-last.ensures.1 in
    let view = ap (λ (r : Reading). r.view) c.close-last.ensures.2 ∙ ap (λ (db : Database). view_after db.schema J.commits) done.db in
    let last = ok_last s.db c.args.scripts s.passes s.sessions.items opened after.sessions.items done.later J whole c.run_clients-done.result c.close-last.result.view done.answered view in
    let told = subst (λ (r : Result (Unit {0}) AllocError). OnOk r (IsLast s.db.schema c.args.scripts c.close-last.result.view)) c.in-Ok.is last in
    subst (λ (schema : DbSchema). IsLast schema c.args.scripts c.close-last.result.view) c.in_ok-clients.ensures.schema told
