-- What holds of every text.
use Rattle.std.specs.Prelude.{◌≡◌, ℕ, List, All}
use Rattle.mdb_datum.specs.Bytes.{Bytes}
use Rattle.mdb_schema.specs.LawfulSchema.{IsLawfulSchema}
use Rattle.mdb_schema.specs.Schema.{DbSchema}
use Rattle.client_script.specs.Legal.{Legal}
use Rattle.client_script.specs.declared.line.Line.{Line}
use Rattle.run_check.specs.Checked.{IsChecked, IsRead}
use Rattle.run_check.specs.FirstBad.{IsFirstBad}

-- A legal text tells what its clients were told, and so the history, which these fix: whoever reads
-- it as legal reads the same. Scripts that were read have no line feed in the texts that they defer;
-- of others it would not hold.
abbrev pub TextFixesHistory : Type 0
TextFixesHistory =
    (schema : DbSchema) (names : List Bytes) (scripts : List (List Line)) (out : Bytes)
    → IsLawfulSchema schema → All IsRead scripts → (l m : Legal schema names scripts out)
    → (l.replies ≡ m.replies) × (l.history ≡ m.history)

-- a legal text has no first bad line
abbrev pub LegalHasNone : Type 0
LegalHasNone =
    (schema : DbSchema) (names : List Bytes) (scripts : List (List Line)) (out : Bytes) (line : ℕ)
    → IsLawfulSchema schema → IsChecked names scripts out → Legal schema names scripts out
    → IsFirstBad schema names scripts out line → ⊥

-- and no text has two
abbrev pub FirstBadIsOne : Type 0
FirstBadIsOne =
    (schema : DbSchema) (names : List Bytes) (scripts : List (List Line)) (out : Bytes)
    (line other : ℕ) → IsLawfulSchema schema → IsChecked names scripts out
    → IsFirstBad schema names scripts out line → IsFirstBad schema names scripts out other
    → line ≡ other
