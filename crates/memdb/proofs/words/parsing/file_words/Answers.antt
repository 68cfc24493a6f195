use Rattle.std.proofs.Common.{◌≡◌, ap, ap₂, ◌∙◌, Some, max}
use Rattle.clap.specs.Words.{Rule, rule_of}
use Rattle.memdb.proofs.AskedWords.{some_is}
use Rattle.memdb.proofs.words.parsing.file_words.Goals as goal

pub returns-clause-rule : goal.returns-clause-rule
returns-clause-rule c =
    let range_is : c.num_args.result.num_vals ≡ Some (record { start_inclusive = 3; end_inclusive = 66 }) =
    some_is _ _ c.num_args.ensures.1
    ∙ ap₂ (λ s e. Some (record { start_inclusive = s; end_inclusive = max e s })) c.new.ensures.start c.new.ensures.end in
    ap rule_of c.num_args.ensures.0 ∙ ap₂ (λ (r : Rule) v. record r { range = v }) c.word.ensures.rule range_is
