-- What the bytes of files stand for, as the code holds them.
use Rattle.std.specs.Prelude.{ℕ, List, ◌∷◌, map, Vec}
use Rattle.std.specs.declared.alloc.Global.{Global}
use Rattle.mdb_datum.specs.Bytes.{Bytes}
use Rattle.run_io.specs.declared.contents.Contents.{Contents}

abbrev pub bytes_in : List (Vec ℕ Global) → List Bytes
bytes_in contents = map (λ bytes. bytes.items) contents

-- they one after the other, in the order of reading
abbrev pub contents_of : Contents → List Bytes
contents_of c = c.schema.items ∷ bytes_in c.clients.items
