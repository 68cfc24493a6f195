-- UUIDs (RFC 9562), whose digits may be of either case.
use Rattle.std.specs.Prelude.{◌≡◌, [], ◌++◌, Ok, Err, codes}
use Rattle.mdb_datum.specs.Doc.{text}
use Rattle.mdb_encode.specs.ArgRefusal.{arg_bad_uuid}
use Rattle.mdb_encode.specs.Arguments.{arg}
use Rattle.mdb_encode.specs.Indexer.{uuid}
use Rattle.mdb_encode.specs.KeyRefusal.{bad_uuid}
use Rattle.mdb_encode.specs.Keys.{keys}
use Rattle.mdb_encode.specs.worked.Samples.{name, with_member, word, one_key, sample_uuid, half_of_bytes}

-- a row and arguments
pub record UuidKeys : Type 0 where
  pub row : keys (uuid name) (with_member (text sample_uuid))
      ≡ one_key (half_of_bytes ++ half_of_bytes)
  pub bad_row : keys (uuid name) (with_member (text (codes "12-34"))) ≡ Err bad_uuid
  pub exact : arg (uuid name) (word (text sample_uuid)) ≡ Ok (half_of_bytes ++ half_of_bytes)
  pub empty : arg (uuid name) (word (text [])) ≡ Err arg_bad_uuid
