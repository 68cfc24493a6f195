use Rattle.std.proofs.Common.{◌+◌, None, Some, refl, subst, sym}
use Rattle.client_script.specs.declared.command.Command.TheVariants as commands
use Rattle.client_script.specs.declared.command.WatchesCommand.{WatchesCommand}
use Rattle.client_script.specs.declared.command.WatchesCommand.TheVariants as watches_lines
use Rattle.client_script.specs.RuleName.{rule_name}
use Rattle.run_check.specs.inner.ClientView.{known}
use Rattle.run_check.specs.inner.SessionView.{TellsLine}
use Rattle.run_check.proofs.DecidedSets.{add_refused, add_size, limit_refused, limit_size}
use Rattle.run_check.proofs.DecidedWaits.{until_refused, wait_refused}
use Rattle.run_check.proofs.WatchLines.{breaks_line, size_line, size_small}
use Rattle.run_check.proofs.session.Sessions.watches.Goals as goal

pub returns-in_err-place-in-Add : goal.returns-in_err-place-in-Add
returns-in_err-place-in-Add c = record {
  told = λ schema H txns knows due empty.
      let rule = c.in_err-place-in-Add.field-0.0 in
      breaks_line schema H txns (c.args.client + 1) c.args.line.now (watches_lines.Add c.in-Add.set c.in-Add.name) c.in-Add.is c.args.text.now c.args.self.now c.args.knows.now rule c.from_residual.result knows c.from_residual.ensures.1
      (add_refused schema H (known txns c.args.knows.now) knows.sound.last (c.args.client + 1) c.in-Add.set c.in-Add.name (rule_name schema rule) (c.in_err-place-in-Add.ensures schema txns) c.args.text.now);
}

pub returns-in_err-place-in-AddLimit : goal.returns-in_err-place-in-AddLimit
returns-in_err-place-in-AddLimit c = record {
  told = λ schema H txns knows due empty.
      let rule = c.in_err-place-in-AddLimit.field-0.0 in
      breaks_line schema H txns (c.args.client + 1) c.args.line.now (watches_lines.AddLimit c.in-AddLimit.set c.in-AddLimit.limit c.in-AddLimit.name c.in-AddLimit.other) c.in-AddLimit.is c.args.text.now c.args.self.now c.args.knows.now rule c.from_residual-in_err-place-in-AddLimit.result knows c.from_residual-in_err-place-in-AddLimit.ensures.1
      (limit_refused schema H (known txns c.args.knows.now) knows.sound.last (c.args.client + 1) c.in-AddLimit.set c.in-AddLimit.limit c.in-AddLimit.name c.in-AddLimit.other (rule_name schema rule) (c.in_err-place-in-AddLimit.ensures schema H txns knows.sound) c.args.text.now);
}

pub returns-in_err-set-in-Wait : goal.returns-in_err-set-in-Wait
returns-in_err-set-in-Wait c = record {
  told = λ schema H txns knows due empty.
      let rule = c.in_err-set-in-Wait.field-0.0 in
      breaks_line schema H txns (c.args.client + 1) c.args.line.now (watches_lines.Wait c.in-Wait.set) c.in-Wait.is c.args.text.now c.args.self.now c.args.knows.now rule c.from_residual-in_err-set-in-Wait.result knows c.from_residual-in_err-set-in-Wait.ensures.1
      (wait_refused schema H (known txns c.args.knows.now) (c.args.client + 1) c.in-Wait.set knows.sound.last (rule_name schema rule) (c.in_err-set-in-Wait.ensures schema txns) c.args.text.now);
}

pub returns-in_err-both-in-WaitUntil : goal.returns-in_err-both-in-WaitUntil
returns-in_err-both-in-WaitUntil c = record {
  told = λ schema H txns knows due empty.
      let rule = c.in_err-both-in-WaitUntil.field-0.0 in
      breaks_line schema H txns (c.args.client + 1) c.args.line.now (watches_lines.WaitUntil c.in-WaitUntil.set c.in-WaitUntil.until) c.in-WaitUntil.is c.args.text.now c.args.self.now c.args.knows.now rule c.from_residual-in_err-both-in-WaitUntil.result knows c.from_residual-in_err-both-in-WaitUntil.ensures.1
      (until_refused schema H (known txns c.args.knows.now) (c.args.client + 1) c.in-WaitUntil.set c.in-WaitUntil.until knows.sound.last (rule_name schema rule) (c.in_err-both-in-WaitUntil.ensures schema txns) c.args.text.now);
}

pub returns-in_ok-place-in-Add : goal.returns-in_ok-place-in-Add
returns-in_ok-place-in-Add c = record {
  told = λ schema H txns knows due empty.
      let before = (known txns c.args.knows.now) in
      let set = c.in-Add.set in
      let (w, judged, there) = c.in_ok-place-in-Add.ensures schema txns in
      size_line schema H txns (c.args.client + 1) c.args.line.now (watches_lines.Add c.in-Add.set c.in-Add.name) c.in-Add.is c.args.text.now before c.add.new.self c.add.new.knows set w c.args.self.now.text.items c.add.result (c.add.ensures.told schema H txns w knows there) empty
      (λ made. add_size schema H before knows.sound.last (c.args.client + 1) c.in-Add.set c.in-Add.name w judged (size_small schema H txns c.args.knows.now knows.sound set) c.args.text.now made (known txns c.add.new.knows) due.some)
      c.add.ensures.knows (λ kept. kept schema H txns w knows there);
}

pub returns-in_ok-place-in-AddLimit : goal.returns-in_ok-place-in-AddLimit
returns-in_ok-place-in-AddLimit c = record {
  told = λ schema H txns knows due empty.
      let before = (known txns c.args.knows.now) in
      let set = c.in-AddLimit.set in
      let (w, judged, there) = c.in_ok-place-in-AddLimit.ensures schema H txns knows.sound in
      size_line schema H txns (c.args.client + 1) c.args.line.now (watches_lines.AddLimit c.in-AddLimit.set c.in-AddLimit.limit c.in-AddLimit.name c.in-AddLimit.other) c.in-AddLimit.is c.args.text.now before c.add-in-AddLimit.new.self c.add-in-AddLimit.new.knows set w c.args.self.now.text.items c.add-in-AddLimit.result (c.add-in-AddLimit.ensures.told schema H txns w knows there) empty
      (λ made. limit_size schema H before knows.sound.last (c.args.client + 1) c.in-AddLimit.set c.in-AddLimit.limit c.in-AddLimit.name c.in-AddLimit.other w judged (size_small schema H txns c.args.knows.now knows.sound set) c.args.text.now made (known txns c.add-in-AddLimit.new.knows) due.some)
      c.add-in-AddLimit.ensures.knows (λ kept. kept schema H txns w knows there);
}

pub returns-in_ok-set-in-Wait : goal.returns-in_ok-set-in-Wait
returns-in_ok-set-in-Wait c = record {
  told = λ schema H txns knows due empty.
      let text = c.args.text.now in
      let client = c.args.client + 1 in
      let before = known txns c.args.knows.now in
      let set = c.in-Wait.set in
      let (s, judged, there) = c.in_ok-set-in-Wait.ensures schema txns in
      subst (λ (l : WatchesCommand). TellsLine schema H client (commands.Watches l) text before c.wait.new.self c.wait.new.knows c.wait.result) (sym c.in-Wait.is)
      (c.wait.ensures.told schema H txns (watches_lines.Wait set) s None knows due empty judged there refl);
}

pub returns-in_ok-both-in-WaitUntil : goal.returns-in_ok-both-in-WaitUntil
returns-in_ok-both-in-WaitUntil c = record {
  told = λ schema H txns knows due empty.
      let text = c.args.text.now in
      let client = c.args.client + 1 in
      let before = known txns c.args.knows.now in
      let set = c.in-WaitUntil.set in
      let until = c.in-WaitUntil.until in
      let (found, judged, there) = c.in_ok-both-in-WaitUntil.ensures schema txns in
      subst (λ (l : WatchesCommand). TellsLine schema H client (commands.Watches l) text before c.wait-in-WaitUntil.new.self c.wait-in-WaitUntil.new.knows c.wait-in-WaitUntil.result) (sym c.in-WaitUntil.is)
      (c.wait-in-WaitUntil.ensures.told schema H txns (watches_lines.WaitUntil set until) found.0 (Some found.1) knows due empty judged there.0 there.1);
}

pub returns-in-Check : goal.returns-in-Check
returns-in-Check c = record {
  told = λ schema H txns knows due empty.
      subst (λ (l : WatchesCommand). TellsLine schema H (c.args.client + 1) (commands.Watches l) c.args.text.now (known txns c.args.knows.now) c.check.new.self c.check.new.knows c.check.result) (sym c.in-Check.is)
      (c.check.ensures.told schema H txns knows due empty);
}
