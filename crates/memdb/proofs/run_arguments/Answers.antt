use Rattle.std.proofs.Common.{◌≡◌, ◌∙◌, sym, subst, List}
use Rattle.mdb_datum.specs.Bytes.{Bytes}
use Rattle.run_io.specs.Arguments.{words_in}
use Rattle.memdb.specs.Causes.{CallsFor}
use Rattle.memdb.specs.Outcome.{IsAnswer}
use Rattle.memdb.proofs.ByStatus.{HasWritten, has_ended}
use Rattle.run_io.specs.Ended.{HasEnded}
use Rattle.run_io.specs.Observed.{observed}
use Rattle.memdb.proofs.run_arguments.Goals as goal

pub returns-in-Ok-clause-comes : goal.returns-in-Ok-clause-comes
returns-in-Ok-clause-comes g c =
    let files = c.args.files.now in
    let seen = observed (g.F.Files.told files) (g.F.Files.reliable files) (g.F.Files.faults files) (g.F.Files.faults c.run.new.files) in
    let words : c.deref.result.now ≡ words_in c.args.args = c.deref.ensures.value ∙ c.in-Ok.ensures in
    λ status cause. c.run.ensures.comes status (subst (λ (ws : List Bytes). CallsFor ws seen status) (sym words) cause)

pub returns-in-Ok-clause-ended : goal.returns-in-Ok-clause-ended
returns-in-Ok-clause-ended g c =
    let files = c.args.files.now in
    let seen = observed (g.F.Files.told files) (g.F.Files.reliable files) (g.F.Files.faults files) (g.F.Files.faults c.run.new.files) in
    let words : c.deref.result.now ≡ words_in c.args.args = c.deref.ensures.value ∙ c.in-Ok.ensures in
    let old = g.S.Sink.told c.args.out.now in
    let new = g.S.Sink.told c.run.new.out in
    let e = c.run.ensures in
    let written : HasWritten c.deref.result.now seen old new c.run.result = record {
      answered = e.answered;
      usage = e.usage;
      broken_schema = e.broken_schema;
      broken_script = e.broken_script;
      out_of_memory = e.out_of_memory;
      cannot_read = e.cannot_read;
      cut_short = λ is. (e.cut_short is).1;
      too_large = e.too_large;
      first_bad = e.first_bad;
    } in
    subst (λ (ws : List Bytes). HasEnded (IsAnswer ws seen) old new c.run.result) words (has_ended c.deref.result.now seen old new c.run.result written e.no_other)
