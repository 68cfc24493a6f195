-- What `clap` gives of a command line, as rows.
use Rattle.std.specs.Prelude.{List, [], ◌∷◌, Some, None, codes}
use Rattle.clap.specs.Words.{Row, Text}
use Rattle.clap.specs.declared.builder.value_parser.Reading.TheVariants as reading
use Rattle.clap.specs.declared.parser.matches.ValueSource.TheVariants.{CommandLine}

abbrev pub row : Text → List Text → Row
row id values = record { id = id; values = values; count = None; source = Some CommandLine; reading = reading.AsWritten }

abbrev pub run_rows : Text → List Text → List Row
run_rows s cs = row (codes "schema") (s ∷ []) ∷ row (codes "clients") cs ∷ []

abbrev pub make_rows : Text → Text → Text → List Row
make_rows a b c =
    row (codes "number") (a ∷ []) ∷ row (codes "clients") (b ∷ []) ∷ row (codes "count") (c ∷ []) ∷ []

abbrev pub check_rows : List Text → List Row
check_rows fs = row (codes "files") fs ∷ []
