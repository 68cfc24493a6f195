use Rattle.std.proofs.Common.{rules, refl, ap}
use Rattle.mem_txn.specs.Database.{Caller}
use Rattle.client_script.specs.declared.command.Command.TheVariants as command
use Rattle.client_session.specs.inner.OpenView.{caller_of}
use Rattle.client_session.proofs.ToldCounts.{rows_tell}
use Rattle.client_session.proofs.StateTurns.{once_told, rows_told}
use Rattle.client_session.proofs.OpenTurns.{later_same, later_self, on_err}
use Rattle.client_session.proofs.WatchTurns.{size_told}
use Rattle.client_session.proofs.session_state.SessionState.turn.Goals as goal

pub returns-in-Write : goal.returns-in-Write
returns-in-Write g c = record {
  turn = rows_told (command.Write c.in-Write.command) c.args.command.now c.args.self c.write_rows-told.new.self _ _ c.write_rows-told.result c.in-Write.is (search (rules)) tt c.requires.stands c.write_rows-told.ensures.turn;
  caller = later_same (caller_of c.args.self.«open») (caller_of c.write_rows-told.new.self) c.write_rows-told.ensures.caller;
  unmade = on_err _ (ap (λ (p : Caller). p.own) c.write_rows-told.ensures.caller);
}

pub returns-in-Defer : goal.returns-in-Defer
returns-in-Defer g c = record {
  turn = rows_told (command.Defer c.in-Defer.text) c.args.command.now c.args.self c.defer-told.new.self _ _ c.defer-told.result c.in-Defer.is refl tt c.requires.stands c.defer-told.ensures.turn;
  caller = later_same (caller_of c.args.self.«open») (caller_of c.defer-told.new.self) c.defer-told.ensures.caller;
  unmade = on_err _ (ap (λ (p : Caller). p.own) c.defer-told.ensures.caller);
}

pub returns-in-Ask : goal.returns-in-Ask
returns-in-Ask g c = record {
  turn = once_told (command.Ask c.in-Ask.command) c.args.command.now c.args.self c.ask-told.new.self _ c.ask-told.result c.in-Ask.is (rows_tell (command.Ask c.in-Ask.command) tt) c.requires.stands c.ask-told.ensures.turn;
  caller = later_same (caller_of c.args.self.«open») (caller_of c.ask-told.new.self.«open») c.ask-told.ensures.caller;
  unmade = on_err _ (ap (λ (p : Caller). p.own) c.ask-told.ensures.caller);
}

pub returns-in-Name : goal.returns-in-Name
returns-in-Name g c = record {
  turn = once_told (command.Name c.in-Name.command) c.args.command.now c.args.self c.name-told.new.self _ c.name-told.result c.in-Name.is (rows_tell (command.Name c.in-Name.command) tt) c.requires.stands c.name-told.ensures.turn;
  caller = later_same (caller_of c.args.self.«open») (caller_of c.name-told.new.self.«open») c.name-told.ensures.caller;
  unmade = on_err _ (ap (λ (p : Caller). p.own) c.name-told.ensures.caller);
}

pub returns-in-Size : goal.returns-in-Size
returns-in-Size g c = record {
  turn = size_told c.in-Size.set c.args.command.now c.args.self c.size-reply.result c.in-Size.is c.requires.stands c.size-reply.ensures;
  caller = later_self (caller_of c.args.self.«open»);
  unmade = tt;
}
