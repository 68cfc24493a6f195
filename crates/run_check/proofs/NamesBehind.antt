-- What follows the bytes of a name.
use Rattle.std.proofs.Common.{arith, ◌≡◌, ap, sym, ◌∙◌, ℕ, ◌<◌, drop, true, Some}
use Rattle.std.specs.Prelude.{nat_lt, if◌then◌else◌, None}
use Rattle.std.proofs.lemmas.Bool.Decides.{nat_tests}
use Rattle.mdb_datum.specs.Bytes.{Bytes}
use Rattle.run_check.specs.Forms.{behind_some}

pub some_behind : (bs rest : Bytes) (k n : ℕ) → 0 < n → n ≡ k → rest ≡ drop n bs → Some rest ≡ behind_some k bs
some_behind bs rest k n lt is cut =
    let there : nat_lt 0 n ≡ true = grind (arith, nat_tests, lt) in
    ap (λ (r : Bytes). Some r) cut ∙ sym (ap (λ t. if t then Some (drop n bs) else None) there) ∙ ap (λ (m : ℕ). behind_some m bs) is
