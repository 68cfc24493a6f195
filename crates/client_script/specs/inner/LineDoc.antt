-- The document that the rest of a line reads as.
use Rattle.std.specs.Prelude.{Ok, Err}
use Rattle.mdb_datum.specs.Doc.{Doc}
use Rattle.mdb_datum.specs.Reading.{Reading, read_as, no_json, too_deep, not_whole}
use Rattle.client_script.specs.Refusal.{Ruled, bad_doc}

abbrev pub doc_in : Reading → Ruled Doc
doc_in (read_as d) = Ok d
doc_in no_json = Err bad_doc
doc_in too_deep = Err bad_doc
doc_in not_whole = Err bad_doc
