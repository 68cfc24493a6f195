-- What reading a member of a row gives, before its key is written.
use Rattle.std.specs.Prelude.{[], ◌∷◌, List, Option, Some, None, option_map, unwrap_or, Result, Ok, Err}
use Rattle.std.specs.Borrow.{Bor}
use Rattle.mdb_datum.specs.Doc.{Doc, nil}
use Rattle.mdb_datum.specs.Datum.{doc_of}
use Rattle.mdb_datum.specs.declared.datum.Datum.{Datum}
use Rattle.mdb_encode.specs.Bytes.{Bytes}
use Rattle.mdb_encode.specs.Keys.{Keyed}
use Rattle.mdb_encode.specs.inner.Piece.{bytes_of}
use Rattle.mdb_encode.specs.declared.piece.Piece.{Piece}
use Rattle.mdb_encode.specs.inner.Refusals.{key_refusal}
use Rattle.mdb_encode.specs.declared.refusal.KeyRefusal as of_row

-- the member's document, null where there is none
abbrev pub doc_at : Option (Bor Datum) → Doc
doc_at value = unwrap_or (option_map (λ d. doc_of d.now) value) nil

-- no key, or the one of a piece
abbrev pub piece_keys : Option Piece → List Bytes
piece_keys None = []
piece_keys (Some p) = bytes_of p ∷ []

-- the same, or the refusal
abbrev pub keys_read : Result (Option Piece) of_row.KeyRefusal → Keyed
keys_read (Err e) = Err (key_refusal e)
keys_read (Ok piece) = Ok (piece_keys piece)
