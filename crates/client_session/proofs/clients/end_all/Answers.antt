use Rattle.std.proofs.Common.{◌∙◌, ◌++◌}
use Rattle.client_session.specs.Clients.{callers_back}
use Rattle.client_session.proofs.ClientLists.{made_same, one_back, own_last, room_left}
use Rattle.client_session.proofs.clients.end_all.Goals as goal

pub end-requires : goal.end-requires
end-requires c = record {
  own = (own_last c.loop-session.sessions.items c.pop.new.self.items c.in-Some.session c.in-Some.ensures.items c.args.db.now c.loop-session.invariant.own).0;
}

pub loop-session-preserved : goal.loop-session-preserved
loop-session-preserved c =
    let l = c.loop-session in
    let items = l.sessions.items in
    let rest = c.pop.new.self.items in
    let s = c.in-Some.session in
    let is = c.in-Some.ensures.items in
    record {
      passes = one_back items rest s is l.passes c.give.new.self c.end.result c.end.ensures c.give.ensures (c.args.passes.now.passes ++ callers_back c.args.sessions.items) l.invariant.passes;
      made = made_same items rest s is l.passes c.give.new.self c.end.result c.end.ensures c.give.ensures ∙ l.invariant.made;
      own = (own_last items rest s is c.args.db.now l.invariant.own).1;
      room = room_left items rest s is l.passes c.give.new.self c.end.result c.end.ensures c.give.ensures l.invariant.room;
    }
