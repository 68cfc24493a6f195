-- What the text of the schema is read as.
use Rattle.std.proofs.Common.{◌≡◌, refl}
use Rattle.std.specs.Prelude.{◌++◌, Ok, codes}
use Rattle.mdb_datum.proofs.OnLiterals.{reading_on_literals}
use Rattle.mdb_datum.specs.Bytes.{Bytes}
use Rattle.mdb_datum.specs.Reading.{reading}
use Rattle.mdb_schema.specs.Reading.{schema_of}
use Rattle.memdb.specs.inner.MadeInputs.{made_schema}

-- the index `age`, whose keys have two bytes, and the unique index `id`
abbrev pub indexes_text : Bytes
indexes_text =
    codes "\"age\":{\"unique\":false,\"indexer\":{\"kind\":\"uint\",\"field\":\"age\",\"width\":2}},"
    ++ codes "\"id\":{\"unique\":true,\"indexer\":{\"kind\":\"text\",\"field\":\"name\"}}"

abbrev pub schema_text : Bytes
schema_text =
    codes "{\"memdb\":1,\"tables\":{\"items\":{\"indexes\":{" ++ (indexes_text ++ codes "}}}}")

-- it is computed
pub schema_read : schema_of (reading schema_text) ≡ Ok made_schema
unfolding reading_on_literals
schema_read = refl
