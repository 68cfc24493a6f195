-- A worked session over a catalogue of nodes and services: keys in lower case, of two parts, of
-- each member of a map, and of a test.
use Rattle.std.specs.Prelude.{◌≡◌, ◌≢◌, ◌∷◌, ◌++◌, [], true, false, Some, None, Ok, slice_get, codes, refl}
use Rattle.mdb_datum.proofs.OnLiterals.{reading_on_literals}
use Rattle.mdb_datum.specs.Bytes.{Bytes}
use Rattle.mdb_datum.specs.Doc.{text, object, field, no_fields}
use Rattle.mdb_datum.specs.Reading as documents
use Rattle.mdb_datum.specs.Row.{Fields}
use Rattle.mdb_encode.specs.Indexer.{str, str_map, uuid, equals, compound, part, no_parts}
use Rattle.mdb_schema.specs.Reading.{schema_of}
use Rattle.mdb_schema.specs.Schema.{DbSchema}
use Rattle.mdb_schema.specs.declared.answer.Answer.TheVariants.{One, Many}
use Rattle.mdb_schema.specs.worked.Apart.{apart}
use Rattle.client_script.specs.Reply.{read_at, write_at, ended, committed, inserted, replaced, wiped, deferred, answered}
use Rattle.client_script.specs.worked.Told.{replies_over, reply_code}

abbrev schema_text : Bytes
schema_text =
    codes "{\"memdb\":1,\"tables\":{\n" ++
    codes "\"nodes\":{\"indexes\":{\"id\":{\"unique\":true,\"indexer\":{\"kind\":\"text\",\"field\":\"node\",\"lowercase\":true}},\n" ++
    codes "\"meta\":{\"allow_missing\":true,\"indexer\":{\"kind\":\"text_map\",\"field\":\"meta\"}},\n" ++
    codes "\"uuid\":{\"unique\":true,\"allow_missing\":true,\"indexer\":{\"kind\":\"uuid\",\"field\":\"uuid\"}}}},\n" ++
    codes "\"services\":{\"indexes\":{\"id\":{\"unique\":true,\"indexer\":{\"kind\":\"compound\",\"parts\":[{\"kind\":\"text\",\"field\":\"node\",\"lowercase\":true},{\"kind\":\"text\",\"field\":\"sid\",\"lowercase\":true}]}},\n" ++
    codes "\"service\":{\"allow_missing\":true,\"indexer\":{\"kind\":\"text\",\"field\":\"name\",\"lowercase\":true}},\n" ++
    codes "\"up\":{\"indexer\":{\"kind\":\"conditional\",\"field\":\"status\",\"equals\":\"passing\"}}}}}}\n"

abbrev pub catalogue : DbSchema
catalogue =
    record {
      name = codes "nodes";
      tracked = false;
      indexes =
          record { name = codes "id"; unique = true; allow_missing = false; indexer = str (codes "node") true }
          ∷ record { name = codes "meta"; unique = false; allow_missing = true; indexer = str_map (codes "meta") false }
          ∷ record { name = codes "uuid"; unique = true; allow_missing = true; indexer = uuid (codes "uuid") }
          ∷ [];
    }
    ∷ record {
      name = codes "services";
      tracked = false;
      indexes =
          record {
            name = codes "id";
            unique = true;
            allow_missing = false;
            indexer = compound (part (str (codes "node") true) (part (str (codes "sid") true) no_parts)) false;
          }
          ∷ record { name = codes "service"; unique = false; allow_missing = true; indexer = str (codes "name") true }
          ∷ record {
            name = codes "up";
            unique = false;
            allow_missing = false;
            indexer = equals (codes "status") (text (codes "passing"));
          }
          ∷ [];
    }
    ∷ []

pub catalogue_is_read : schema_of (documents.reading schema_text) ≡ Ok catalogue
unfolding reading_on_literals
catalogue_is_read = refl

abbrev web_1 : Fields
web_1 =
    (codes "meta", object (field (codes "rack") (text (codes "r1")) no_fields))
    ∷ (codes "node", text (codes "Web-1"))
    ∷ []

abbrev service : Bytes → Bytes → Fields
service sid status =
    (codes "name", text (codes "api"))
    ∷ (codes "node", text (codes "web-1"))
    ∷ (codes "sid", text sid)
    ∷ (codes "status", text status)
    ∷ []

-- ---- a catalogue of nodes and services

abbrev services : Bytes
services =
    codes "write\n" ++
    codes "insert nodes {\"node\":\"Web-1\",\"meta\":{\"rack\":\"r1\"}}\n" ++
    codes "insert services {\"node\":\"web-1\",\"sid\":\"api1\",\"name\":\"api\",\"status\":\"passing\"}\n" ++
    codes "insert services {\"node\":\"web-1\",\"sid\":\"api2\",\"name\":\"api\",\"status\":\"critical\"}\n" ++
    codes "defer registered web-1\n" ++
    codes "defer told the ring\n" ++
    codes "commit\n" ++
    codes "read\n" ++
    codes "first nodes id [\"WEB-1\"]\n" ++
    codes "get nodes meta [\"rack\"]\n" ++
    codes "get services id_prefix [\"web-1\",\"api2\"]\n" ++
    codes "get services up [true]\n" ++
    codes "end\n" ++
    codes "write\n" ++
    codes "insert services {\"node\":\"web-1\",\"sid\":\"api2\",\"name\":\"api\",\"status\":\"passing\"}\n" ++
    codes "commit\n" ++
    codes "write\n" ++
    codes "delete-prefix services id_prefix [\"web-1\"]\n" ++
    codes "delete-all nodes id\n" ++
    codes "commit\n" ++
    codes "read\n" ++
    codes "get services service [\"API\"]\n"

pub services_told : replies_over catalogue services ≡
    write_at 0
    ∷ inserted
    ∷ inserted
    ∷ inserted
    ∷ deferred
    ∷ deferred
    ∷ committed 1 [] (codes "told the ring" ∷ codes "registered web-1" ∷ [])
    ∷ read_at 1
    ∷ answered (One (Some web_1))
    ∷ answered (Many (web_1 ∷ []))
    ∷ answered (Many (service (codes "api2") (codes "critical") ∷ []))
    ∷ answered (Many (service (codes "api1") (codes "passing") ∷ []))
    ∷ ended
    ∷ write_at 1
    ∷ replaced
    ∷ committed 2 [] []
    ∷ write_at 2
    ∷ wiped 2
    ∷ wiped 1
    ∷ committed 3 [] []
    ∷ read_at 3
    ∷ answered (Many [])
    ∷ []
unfolding reading_on_literals
services_told = refl

-- an index of lower case finds the row by any case
pub lowercase_index_finds : slice_get (replies_over catalogue services) 8 ≢ Some (answered (One None))
lowercase_index_finds = rw services_told (apart reply_code tt refl)
