use Rattle.std.proofs.Common.{ap, subst, ◌≡◌, ◌∙◌}
use Rattle.std.proofs.lemmas.Result.{IfOk-weaker}
use Rattle.std.specs.Prelude.{IfOk, Result}
use Rattle.std.specs.declared.alloc.AllocError.{AllocError}
use Rattle.clap.specs.Words.{App, app_of, with_subcommand}
use Rattle.clap.specs.declared.builder.command.Command.{Command}
use Rattle.memdb.specs.inner.CommandLine.{HasAlso, check_app, make_app, run_app}
use Rattle.memdb.proofs.words.parsing.program.Goals as goal

also : (before : App) (made : Result Command AllocError) (after sub : App)
    → IfOk made (λ c. app_of c ≡ sub) → HasAlso before made after → after ≡ with_subcommand before sub.top
also before made after sub is has =
    has.added ∙ ap (λ (a : App). with_subcommand before a.top) (subst (λ r. IfOk r (λ c. app_of c ≡ sub)) has.is is)

pub returns : goal.returns
returns c =
    let run = also _ _ _ _ c.run_command.ensures.app c.in_ok-program.ensures ∙ ap (λ (a : App). with_subcommand a run_app.top) c.bare.ensures in
    let make = also _ _ _ _ c.make_command.ensures.app c.in_ok-program-2.ensures ∙ ap (λ (a : App). with_subcommand a make_app.top) run in
    IfOk-weaker c.with_command-3.result _ _
    (λ r has. also _ _ _ _ c.check_command.ensures.app has ∙ ap (λ (a : App). with_subcommand a check_app.top) make) c.with_command-3.ensures
