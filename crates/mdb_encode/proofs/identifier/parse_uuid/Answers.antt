-- At 36 bytes the uuid crate's reader is that of the hyphenated form.
use Rattle.std.proofs.Common.{◌≡◌, ℕ, List, length, Option, Some, None, refl, rules, ◌∙◌}
use Rattle.std.proofs.lemmas.Bool.{false≢true}
use Rattle.uuid.specs.Text.{parsed, parsed_hyphenated}
use Rattle.mdb_encode.proofs.identifier.parse_uuid.Goals as goal

parsed_at_36 : (s : List ℕ) → length s ≡ 36 → parsed s ≡ parsed_hyphenated s
parsed_at_36 s e = rw e refl

none_unless_some : (o : Option (List ℕ)) → ((u : List ℕ) → o ≡ Some u → ⊥) → None ≡ o
none_unless_some None h = refl
none_unless_some (Some u) h = absurd (h u refl)

pub returns-in-Err : goal.returns-in-Err
returns-in-Err c =
    none_unless_some _ (λ v e. absurd (false≢true (c.in-Err.ensures.ok.1 (v, parsed_at_36 c.args.text.now (search rules) ∙ e))))
