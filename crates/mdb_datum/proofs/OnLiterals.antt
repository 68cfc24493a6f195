-- What an answer unfolds to compute the reading and the text of a document on a literal.
use Rattle.std.specs.Prelude.{⊤}
use Rattle.std.specs.Str.{is_utf8, chars}
use Rattle.json.specs.Print.{escape_byte}
use Rattle.serde_json.proofs.OnLiterals.{serde_json_on_literals}
use Rattle.mdb_datum.specs.Reading.{reading}

unfoldable pub reading_on_literals : ⊤
unfolding is_utf8 chars escape_byte serde_json_on_literals reading
reading_on_literals = tt
