-- The words of the command line, from the arguments that the host gives.
use Rattle.std.specs.Prelude.{List, [], ◌∷◌, Result, Ok, Err, String, map, string_bytes}
use Rattle.std.specs.Vec.Iter.{into_iter_items}
use Rattle.std.specs.declared.alloc.Global.{Global}
use Rattle.std.specs.declared.vec.IntoIter.{IntoIter}
use Rattle.mdb_datum.specs.Bytes.{Bytes}

-- the texts of the arguments behind the first, which is the program's name: each once, and in order
abbrev pub words_behind : List (String Global) → List Bytes
words_behind [] = []
words_behind (name ∷ args) = map string_bytes args

-- where the arguments can't be had, as where one is no text, there are no words
abbrev pub words_in : {E : Type 0} → Result (IntoIter (String Global) Global) E → List Bytes
words_in (Ok args) = words_behind (into_iter_items args)
words_in (Err e) = []
