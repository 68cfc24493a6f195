use Rattle.std.proofs.Common.{ap, sym, ◌∙◌, option_map}
use Rattle.std.specs.Borrow.{Bor}
use Rattle.std.specs.Str.{bytes_eq}
use Rattle.mdb_datum.specs.Bytes.{Bytes}
use Rattle.run_check.specs.TextLines.{holds_of}
use Rattle.run_check.proofs.FirstWords.{two_words}
use Rattle.run_check.proofs.behind.is_two_words.Goals as goal

pub returns-in-Some : goal.returns-in-Some
returns-in-Some c =
    let found = sym c.behind.ensures ∙ ap (option_map (λ (x : Bor Bytes). x.now)) c.in-Some.is in
    c.eq.ensures
    ∙ sym (two_words c.args.word.now c.args.rest.now c.args.bytes.now ∙ ap (holds_of (λ x. bytes_eq x c.args.rest.now)) found)

pub returns-in-None : goal.returns-in-None
returns-in-None c =
    let none = sym c.behind.ensures ∙ ap (option_map (λ (x : Bor Bytes). x.now)) c.in-None.is in
    sym (two_words c.args.word.now c.args.rest.now c.args.bytes.now ∙ ap (holds_of (λ x. bytes_eq x c.args.rest.now)) none)
