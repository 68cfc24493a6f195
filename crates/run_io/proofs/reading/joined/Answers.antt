-- A fault of the front, one of the back, or all scripts.
use Rattle.std.proofs.Common.{◌≡◌, ◌+◌, ◌++◌, ◌∙◌, sym, ap, subst, ℕ, List, length, Ok, Err}
use Rattle.std.specs.Prelude.{Result}
use Rattle.std.proofs.lemmas.Result.{err_from_is_err_and}
use Rattle.client_script.specs.declared.line.Line.{Line}
use Rattle.run_io.specs.Inputs.{scripts_in}
use Rattle.run_io.specs.declared.load_error.LoadError.{LoadError}
use Rattle.run_io.specs.inner.ReadingResult.{IsReadingResult}
use Rattle.run_io.proofs.ScriptsInOrder.{back_stops, both_read, front_stops}
use Rattle.run_io.proofs.reading.joined.Goals as goal

pub returns-in_err-scripts : goal.returns-in_err-scripts
returns-in_err-scripts c = λ first fore rest front back.
    let e = c.in_err-scripts.field-0.0 in
    let p = err_from_is_err_and c.from_residual.result c.from_residual.ensures.1 in
    let stops : IsReadingResult (scripts_in first fore) (Err e) = subst (λ (r : Result (List (List Line)) LoadError). IsReadingResult (scripts_in first fore) r) c.in_err-scripts.was front in
    rw (p.1, p.2) (front_stops first fore rest e stops)

pub returns-in_err-more : goal.returns-in_err-more
returns-in_err-more c = λ first fore rest front back.
    let e = c.in_err-more.field-0.0 in
    let p = err_from_is_err_and c.from_residual-in_err-more.result c.from_residual-in_err-more.ensures.1 in
    let read : scripts_in first fore ≡ Ok c.in_ok-scripts.scripts = subst (λ (r : Result (List (List Line)) LoadError). IsReadingResult (scripts_in first fore) r) c.in_ok-scripts.was front in
    let stops : IsReadingResult (scripts_in (first + length fore) rest) (Err e) = subst (λ (r : Result (List (List Line)) LoadError). IsReadingResult (scripts_in (first + length fore) rest) r) c.in_err-more.was back in
    rw (p.1, p.2) (back_stops first fore rest c.in_ok-scripts.scripts e read stops)

pub returns : goal.returns
returns c = λ first fore rest front back.
    let read : scripts_in first fore ≡ Ok c.in_ok-scripts.scripts = subst (λ (r : Result (List (List Line)) LoadError). IsReadingResult (scripts_in first fore) r) c.in_ok-scripts.was front in
    let more : scripts_in (first + length fore) rest ≡ Ok c.in_ok-more.more = subst (λ (r : Result (List (List Line)) LoadError). IsReadingResult (scripts_in (first + length fore) rest) r) c.in_ok-more.was back in
    both_read first fore rest c.in_ok-scripts.scripts c.in_ok-more.more read more ∙ ap Ok (sym c.in_ok-add_all.ensures)
