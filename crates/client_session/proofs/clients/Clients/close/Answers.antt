-- The sessions end, and the list has all passes again.
use Rattle.std.proofs.Common.{List, subst}
use Rattle.mem_txn.specs.Database.{Caller, IsWhole}
use Rattle.client_session.proofs.ManyClients.{all_of, given_all, given_are, given_of, room_back, some_given}
use Rattle.client_session.proofs.clients.Clients.close.Goals as goal

pub end_all-requires-clause-own : goal.end_all-requires-clause-own
end_all-requires-clause-own g c =
    let r = c.requires in let s = c.args.self in
    all_of s.db r.scripts r.further r.left r.sessions r.opened s.sessions.items r.later

pub end_all-requires-clause-room : goal.end_all-requires-clause-room
end_all-requires-clause-room g c =
    let r = c.requires in let s = c.args.self in
    room_back s.db r.scripts r.further r.left r.sessions r.opened s.sessions.items r.later s.passes r.passes_later r.made

pub close-requires-clause-some : goal.close-requires-clause-some
close-requires-clause-some g c =
    let r = c.requires in let s = c.args.self in
    some_given s.db r.scripts r.further r.left r.sessions r.opened s.sessions.items r.later s.passes r.passes_later r.made c.end_all.new.passes c.end_all.ensures r.some

pub close-requires-clause-own : goal.close-requires-clause-own
close-requires-clause-own g c =
    let r = c.requires in let s = c.args.self in
    given_of s.db r.scripts r.further r.left r.sessions r.opened s.sessions.items r.later s.passes r.passes_later r.made c.end_all.new.passes c.end_all.ensures

pub close-requires-clause-all : goal.close-requires-clause-all
close-requires-clause-all g c =
    let r = c.requires in let s = c.args.self in
    given_all s.db r.scripts r.further r.left r.sessions r.opened s.sessions.items r.later s.passes r.passes_later r.made c.end_all.new.passes c.end_all.ensures

pub returns : goal.returns
returns g c =
    let r = c.requires in let s = c.args.self in
    let back = given_are s.db r.scripts r.further r.left r.sessions r.opened s.sessions.items r.later s.passes r.passes_later r.made c.end_all.new.passes c.end_all.ensures in
    (c.close.ensures.0, subst (λ (ps : List Caller). IsWhole s.db ps c.close.ensures.0) back c.close.ensures.1, c.close.ensures.2)
