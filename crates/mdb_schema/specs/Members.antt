-- What a document is: an object with its members, a text, a text that isn't empty.
use Rattle.std.specs.Prelude.{List, length, nat_lt, if◌then◌else◌, Option, Some, None}
use Rattle.mdb_datum.specs.Doc.{Doc, text, object, Field, fields_in}
use Rattle.mdb_encode.specs.Bytes.{Bytes}

abbrev pub object_fields : Doc → Option (List Field)
object_fields (object fs) = Some (fields_in fs)
object_fields d = None

abbrev pub text_bytes : Doc → Option Bytes
text_bytes (text s) = Some s
text_bytes d = None

abbrev pub filled : Bytes → Option Bytes
filled s = if nat_lt 0 (length s) then Some s else None
