use Rattle.std.proofs.Common.{◌+◌, subst, sym}
use Rattle.client_script.specs.Turn.{ask_turn, defer_turn, size_turn}
use Rattle.client_script.specs.declared.command.Command.{Command}
use Rattle.run_check.specs.inner.ClientView.{known}
use Rattle.run_check.specs.inner.SessionView.{TellsLine}
use Rattle.run_check.proofs.LineTold.{still_known, turn_told, turn_told_or_refused}
use Rattle.run_check.proofs.PlainTurns.{ask_told, defer_told, name_told, size_told, write_told}
use Rattle.run_check.proofs.session.Sessions.carry_out.Goals as goal

pub returns-in-Transaction : goal.returns-in-Transaction
returns-in-Transaction c = record {
  told = λ schema H txns knows due empty.
      subst (λ (x : Command). TellsLine schema H (c.args.client + 1) x c.args.text.now (known txns c.args.knows.now) c.transaction.new.self c.transaction.new.knows c.transaction.result) (sym c.in-Transaction.is)
      (c.transaction.ensures.told schema H txns (c.args.client + 1) knows due empty);
}

pub returns-in-Write : goal.returns-in-Write
returns-in-Write c = record {
  told = λ schema H txns knows due empty.
      write_told schema H (c.args.client + 1) (known txns c.args.knows.now) c.args.text.now due knows.sound.last c.args.command.now c.args.self.now.text.items empty c.write.new.self c.write.new.knows c.write.result c.in-Write.line c.in-Write.is
      (c.write.ensures.told schema H txns due.lawful knows);
}

pub returns-in-Name : goal.returns-in-Name
returns-in-Name c = record {
  told = λ schema H txns knows due empty.
      name_told schema H (c.args.client + 1) (known txns c.args.knows.now) c.args.text.now due knows.sound.last c.args.command.now c.args.self.now.text.items empty c.name.new.self c.name.new.knows c.name.result c.in-Name.line c.in-Name.is
      (c.name.ensures.told schema H txns due.lawful knows);
}

pub returns-in-Ask : goal.returns-in-Ask
returns-in-Ask c = record {
  told = λ schema H txns knows due empty.
      ask_told schema H (c.args.client + 1) (known txns c.args.knows.now) c.args.text.now due knows.sound.last c.args.command.now c.args.self.now.text.items empty c.ask.new.self c.args.knows.now c.ask.result c.in-Ask.line c.in-Ask.is
      (turn_told schema H txns (ask_turn schema H (known txns c.args.knows.now) c.in-Ask.line) (known txns c.args.knows.now) c.args.self.now.text.items c.ask.new.self c.args.knows.now c.ask.result (c.ask.ensures.told schema H txns due.lawful knows)
      (still_known schema H txns c.args.self.now c.ask.new.self c.args.knows.now c.ask.ensures.kept knows));
}

pub returns-in-Size : goal.returns-in-Size
returns-in-Size c = record {
  told = λ schema H txns knows due empty.
      size_told schema H (c.args.client + 1) (known txns c.args.knows.now) c.args.text.now due knows.sound.last c.args.command.now c.args.self.now.text.items empty c.size.new.self c.args.knows.now c.size.result c.in-Size.set c.in-Size.is
      (turn_told schema H txns (size_turn (known txns c.args.knows.now) c.in-Size.set) (known txns c.args.knows.now) c.args.self.now.text.items c.size.new.self c.args.knows.now c.size.result (c.size.ensures.told schema H txns knows)
      (still_known schema H txns c.args.self.now c.size.new.self c.args.knows.now c.size.ensures.kept knows));
}

pub returns-in-Defer : goal.returns-in-Defer
returns-in-Defer c = record {
  told = λ schema H txns knows due empty.
      defer_told schema H (c.args.client + 1) (known txns c.args.knows.now) c.args.text.now due knows.sound.last c.args.command.now c.args.self.now.text.items empty c.defer.new.self c.defer.new.knows c.defer.result c.in-Defer.text c.in-Defer.is
      (turn_told_or_refused schema H txns (defer_turn (known txns c.args.knows.now) c.in-Defer.text) (known txns c.args.knows.now) c.args.self.now.text.items c.defer.new.self c.defer.new.knows c.defer.result (c.defer.ensures.told schema txns)
      (c.defer.ensures.keeps schema H txns knows) (c.defer.ensures.refuses schema H txns knows));
}

pub returns-in-Watches : goal.returns-in-Watches
returns-in-Watches c = record {
  told = λ schema H txns knows due empty.
      subst (λ (x : Command). TellsLine schema H (c.args.client + 1) x c.args.text.now (known txns c.args.knows.now) c.watches.new.self c.watches.new.knows c.watches.result) (sym c.in-Watches.is)
      (c.watches.ensures.told schema H txns knows due empty);
}
