use Rattle.std.proofs.Common.{◌<◌, ◌^◌, ◌∙◌, sym, subst}
use Rattle.memdb.proofs.AgesBounded.{ages_few}
use Rattle.memdb.proofs.RowsTallied.{ages_told, commits_told, rows_told}
use Rattle.memdb.proofs.made.tally.Tally.of.Goals as goal

pub sum_of_ages-requires : goal.sum_of_ages-requires
sum_of_ages-requires c =
    let n = c.requires.0 in
    let last = c.requires.1 in
    subst (λ s. s < 2 ^ 64) (sym (ages_told n c.args.last.now.view c.in_ok-rows.rows last c.in_ok-rows.ensures)) (ages_few n last.range)

pub returns : goal.returns
returns c n last = (
  c.number.ensures ∙ commits_told n c.args.last.now.view last,
  c.len.ensures ∙ rows_told n c.args.last.now.view c.in_ok-rows.rows last c.in_ok-rows.ensures,
  c.sum_of_ages.ensures ∙ ages_told n c.args.last.now.view c.in_ok-rows.rows last c.in_ok-rows.ensures,
)
