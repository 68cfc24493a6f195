use Rattle.std.proofs.Common.{◌≡◌, ◌≤◌, ℕ, ap, length, sym, subst, ◌∙◌, take, true}
use Rattle.std.proofs.lemmas.List.Sums.{prefix_len-le-length}
use Rattle.std.specs.List.{list_all}
use Rattle.mdb_datum.specs.Bytes.{Bytes}
use Rattle.client_script.specs.Parts.{is_digit}
use Rattle.run_check.proofs.Decimals.{first_pass}
use Rattle.run_check.proofs.decimal.number_first.Goals as goal

pub split_at-requires : goal.split_at-requires
split_at-requires c =
    subst (λ (n : ℕ). n ≤ length c.args.bytes.now) (sym c.digits_len.ensures) (prefix_len-le-length is_digit c.args.bytes.now)

pub number_of-requires : goal.number_of-requires
number_of-requires c =
    subst (λ (ds : Bytes). list_all is_digit ds ≡ true)
    (sym (c.split_at.ensures.front ∙ ap (λ n. take n c.args.bytes.now) c.digits_len.ensures))
    (first_pass is_digit c.args.bytes.now)
