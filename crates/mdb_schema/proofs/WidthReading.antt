-- A width is read from its number of bytes.
use Rattle.std.proofs.Common.{◌≡◌, ◌==◌, ℤ, pos, negsuc, Bool, true, false, Some, None, if◌then◌else◌, refl, ap, ◌∙◌}
use Rattle.std.specs.Prelude.{Ok, Err, option_map}
use Rattle.mdb_encode.specs.Kind.{width_bytes, width_numbered}
use Rattle.mdb_encode.specs.declared.kind.width.Width.{Width}
use Rattle.mdb_encode.specs.declared.kind.width.Width.TheVariants as width
use Rattle.mdb_schema.specs.Broken.{needed}
use Rattle.mdb_schema.specs.Reading.{width_of}
use Rattle.mdb_schema.specs.declared.schema_rule.SchemaRule.TheVariants as rule

width_read : (z : ℤ) → width_of z ≡ needed rule.BadWidth (option_map width_bytes (width_numbered z))
width_read (negsuc n) = refl
width_read (pos n) = four (n == 1) (n == 2) (n == 4) (n == 8)
  where
    four : (a b c d : Bool) → (if a then Ok 1 else (if b then Ok 2 else (if c then Ok 4 else (if d then Ok 8 else Err rule.BadWidth)))) ≡ needed rule.BadWidth (option_map width_bytes (if a then Some width.One else (if b then Some width.Two else (if c then Some width.Four else (if d then Some width.Eight else None)))))
    four true b c d = refl
    four false true c d = refl
    four false false true d = refl
    four false false false true = refl
    four false false false false = refl

pub width_found : (z : ℤ) (w : Width) → width_numbered z ≡ Some w → width_of z ≡ Ok (width_bytes w)
width_found z w found = width_read z ∙ ap (λ o. needed rule.BadWidth (option_map width_bytes o)) found

pub no_width : (z : ℤ) → width_numbered z ≡ None → width_of z ≡ Err rule.BadWidth
no_width z none = width_read z ∙ ap (λ o. needed rule.BadWidth (option_map width_bytes o)) none
