-- The versions of the format of schema files, by their numbers.
use Rattle.std.specs.Prelude.{◌==◌, ℤ, pos, negsuc, Option, Some, None, if◌then◌else◌}
use Rattle.mdb_schema.specs.declared.version.Version.{Version}
use Rattle.mdb_schema.specs.declared.version.Version.TheVariants as version

abbrev pub version_numbered : ℤ → Option Version
version_numbered (pos n) =
    if n == 1 then Some version.One else (
    if n == 2 then Some version.Two else None)
version_numbered (negsuc n) = None
