use Rattle.std.proofs.Common.{◌∙◌, sym, ap, Some, None, option_map}
use Rattle.clap.specs.Words.{found_of}
use Rattle.memdb.proofs.AskedWords.{level_number}
use Rattle.memdb.proofs.words.parsing.number_at.Goals as goal

pub returns-in_err-get_str : goal.returns-in_err-get_str
returns-in_err-get_str c = c.from_residual.ensures
    ∙ level_number (found_of c.args.found.now) c.args.id.now None (ap (option_map (λ s. s.now)) (sym c.in_err-get_str.was) ∙ c.get_str.ensures)

pub returns : goal.returns
returns c = c.number_in.ensures ∙ level_number (found_of c.args.found.now) c.args.id.now (Some c.in_ok-get_str.field-0.now)
    (ap (option_map (λ s. s.now)) (sym c.in_ok-get_str.was) ∙ c.get_str.ensures)
