-- The longest stored key that is a prefix of another.
use Rattle.std.specs.Prelude.{List, Option, option_map}
use Rattle.mdb_datum.specs.Bytes.{Bytes}
use Rattle.mdb_datum.specs.Row.{Fields, Pair}
pub use Rattle.mdb_datum.specs.Pairs.{prefixes_of, longer, longest_pair}

-- the row under the longest key that is a prefix of the argument
abbrev pub longest : Bytes → List Pair → Option Fields
longest key pairs = option_map (λ (p : Pair). p.1) (longest_pair (prefixes_of key pairs))
