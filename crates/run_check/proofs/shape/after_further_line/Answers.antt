use Rattle.std.proofs.Common.{ap, sym, ◌∙◌, ◌∷◌}
use Rattle.mdb_datum.specs.Bytes.{Bytes}
use Rattle.run_check.specs.TextLines.{text_lines}
use Rattle.run_check.specs.Views.{place_of}
use Rattle.run_check.proofs.FurtherRows.{further_taken, row_taken, shorter_behind}
use Rattle.run_check.proofs.shape.after_further_line.Goals as goal

pub returns-then-is_further : goal.returns-then-is_further
returns-then-is_further c =
    let at = c.args.at in
    let line : Bytes = c.in_ok-line.line.now in
    let behind = c.in_ok-line.behind in
    let taken = sym c.in_ok-line.ensures.taken in
    let further = sym c.is_further.ensures ∙ c.if-is_further.true in
    record {
      text = 10 ∷ line;
      rows = λ n. row_taken (place_of at) (place_of behind) line n taken further;
      further = further_taken at.next (text_lines at.rest.now) line (place_of behind) taken further;
      between = ap (λ (bs : Bytes). 10 ∷ bs) c.in_ok-line.ensures.cut;
      shorter = shorter_behind at.rest.now line behind.rest.now c.in_ok-line.ensures.cut;
    }
