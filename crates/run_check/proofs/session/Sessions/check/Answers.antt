use Rattle.std.proofs.Common.{◌+◌}
use Rattle.client_script.specs.declared.command.Command.TheVariants as commands
use Rattle.client_script.specs.declared.command.WatchesCommand.TheVariants as watches_lines
use Rattle.run_check.specs.inner.ClientView.{known}
use Rattle.run_check.proofs.ChecksTold.{check_breaks}
use Rattle.run_check.proofs.WatchLines.{refused_line}
use Rattle.run_check.proofs.session.Sessions.check.Goals as goal

pub returns-in_err-place : goal.returns-in_err-place
returns-in_err-place c = record {
  told = λ schema H txns knows due empty.
      let v = c.args.knows.now in
      let name = c.args.name.now in
      let text = c.args.text.now in
      let rule = c.in_err-place.field-0.0 in
      refused_line schema H (c.args.client + 1) (commands.Watches (watches_lines.Check name)) text (known txns v) c.args.self.now v rule c.from_residual.result c.from_residual.ensures.1
      (check_breaks schema H txns (c.args.client + 1) name text c.args.self.now v rule knows (c.in_err-place.ensures schema txns));
}

pub returns : goal.returns
returns c = record {
  told = λ schema H txns knows due empty.
      let (watch, judged, at) = c.in_ok-place.ensures schema txns in
      c.in_ok-look.ensures.told schema H txns c.args.name.now watch knows due empty judged at;
}
