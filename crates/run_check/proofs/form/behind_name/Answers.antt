use Rattle.std.proofs.Common.{rules, ◌≤◌, ℕ, length, sym, subst}
use Rattle.std.proofs.lemmas.List.Sums.{prefix_len-le-length}
use Rattle.std.specs.List.{prefix_len}
use Rattle.run_check.specs.Forms.{is_dark}
use Rattle.run_check.proofs.NamesBehind.{some_behind}
use Rattle.run_check.proofs.form.behind_name.Goals as goal

pub split_at-requires : goal.split_at-requires
split_at-requires c =
    subst (λ (n : ℕ). n ≤ length c.args.bytes.now) (sym c.name_len-len.ensures) (prefix_len-le-length is_dark c.args.bytes.now)

pub returns : goal.returns
returns c = some_behind c.args.bytes.now c.split_at.result.1.now (prefix_len is_dark c.args.bytes.now) c.name_len-len.result (search rules) c.name_len-len.ensures c.split_at.ensures.back
