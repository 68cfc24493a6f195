-- The answers so far.
use Rattle.std.specs.Prelude.{ℕ, refl}
use Rattle.std.specs.Coded.{Coded, code_by, coded×, coded_ℕ, coded_list}
use Rattle.mdb_datum.specs.Bytes.{Bytes}

-- their text, and how many of them tell a commit
pub record Transcript : Type 0 where
  pub text : Bytes
  pub commits : ℕ

abbrev pub transcript_code : Coded Transcript
transcript_code = code_by (Bytes × ℕ) (coded× (coded_list coded_ℕ) coded_ℕ)
    (λ t. (t.text, t.commits))
    (λ p. record { text = p.0; commits = p.1 })
    (λ _. refl)
