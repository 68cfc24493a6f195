use Rattle.std.proofs.Common.{ap, refl, subst, sym}
use Rattle.client_script.specs.Alone.{to_transact}
use Rattle.client_script.specs.Turn.{transaction_turn}
use Rattle.client_script.specs.declared.command.Command.TheVariants as commands
use Rattle.client_script.specs.declared.command.TransactionCommand.{TransactionCommand}
use Rattle.client_script.specs.declared.command.TransactionCommand.TheVariants as transaction_lines
use Rattle.run_check.specs.inner.ClientView.{begun_then, known}
use Rattle.run_check.specs.inner.SessionView.{TellsLine}
use Rattle.run_check.proofs.LineTold.{turn_told_or_refused}
use Rattle.run_check.proofs.PlainTurns.{abort_told, end_told}
use Rattle.run_check.proofs.TransactionsTold.{commit_tells, text_tells}
use Rattle.run_check.proofs.session.Sessions.transaction.Goals as goal

pub returns-in-Read : goal.returns-in-Read
returns-in-Read c = record {
  told = λ schema H txns client k due empty.
      let before = known txns c.args.knows.now in
      let text = c.args.text.now in
      let s = c.read.new.self in
      let v = c.read.new.knows in
      subst (λ (x : TransactionCommand). TellsLine schema H client (commands.Transaction x) text before s v c.read.result) (sym c.in-Read.is)
      (text_tells schema H client before text due k.sound.last (to_transact transaction_lines.Read) (λ now. transaction_turn schema H now before transaction_lines.Read) (λ now. refl) txns c.args.self.now.text.items empty s v c.read.result
      (c.read.ensures.told schema H txns client k due.few due.some) (c.read.ensures.keeps schema H txns k) (c.read.ensures.refuses schema H txns k));
}

pub returns-in-Write : goal.returns-in-Write
returns-in-Write c = record {
  told = λ schema H txns client k due empty.
      let before = known txns c.args.knows.now in
      let text = c.args.text.now in
      let s = c.begin.new.self in
      let v = c.begin.new.knows in
      subst (λ (x : TransactionCommand). TellsLine schema H client (commands.Transaction x) text before s v c.begin.result) (sym c.in-Write.is)
      (text_tells schema H client before text due k.sound.last (to_transact transaction_lines.Write) (λ now. transaction_turn schema H now before transaction_lines.Write) (λ now. refl) (begun_then txns c.args.knows.now.«open» v.«open») c.args.self.now.text.items empty s v c.begin.result
      (c.begin.ensures.told schema H txns client k due.few due.some) (c.begin.ensures.keeps schema H txns k) (c.begin.ensures.refuses schema H txns k));
}

pub returns-in-End : goal.returns-in-End
returns-in-End c = record {
  told = λ schema H txns client k due empty.
      let before = known txns c.args.knows.now in
      end_told schema H client before c.args.text.now due k.sound.last (commands.Transaction c.args.line.now) c.args.self.now.text.items empty c.end.new.self c.end.new.knows c.end.result (ap (λ (x : TransactionCommand). commands.Transaction x) c.in-End.is)
      (turn_told_or_refused schema H txns (transaction_turn schema H before.last before transaction_lines.End) before c.args.self.now.text.items c.end.new.self c.end.new.knows c.end.result (c.end.ensures.told schema H before.last txns)
      (c.end.ensures.keeps schema H txns k) (c.end.ensures.refuses schema H txns k));
}

pub returns-in-Commit : goal.returns-in-Commit
returns-in-Commit c = record {
  told = λ schema H txns client k due empty.
      let before = known txns c.args.knows.now in
      let text = c.args.text.now in
      let s = c.commit.new.self in
      let v = c.commit.new.knows in
      subst (λ (x : TransactionCommand). TellsLine schema H client (commands.Transaction x) text before s v c.commit.result) (sym c.in-Commit.is)
      (commit_tells schema H client before text due k.sound.last txns c.args.self.now.text.items empty s v c.commit.result
      (c.commit.ensures.told schema H before.last txns k) (c.commit.ensures.keeps schema H txns k) (c.commit.ensures.refuses schema H txns k));
}

pub returns-in-Abort : goal.returns-in-Abort
returns-in-Abort c = record {
  told = λ schema H txns client k due empty.
      let before = known txns c.args.knows.now in
      abort_told schema H client before c.args.text.now due k.sound.last (commands.Transaction c.args.line.now) c.args.self.now.text.items empty c.abort.new.self c.abort.new.knows c.abort.result (ap (λ (x : TransactionCommand). commands.Transaction x) c.in-Abort.is)
      (turn_told_or_refused schema H txns (transaction_turn schema H before.last before transaction_lines.Abort) before c.args.self.now.text.items c.abort.new.self c.abort.new.knows c.abort.result (c.abort.ensures.told schema H before.last txns)
      (c.abort.ensures.keeps schema H txns k) (c.abort.ensures.refuses schema H txns k));
}
