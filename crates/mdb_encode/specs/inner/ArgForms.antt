-- The only argument of an index that takes one.
use Rattle.std.specs.Prelude.{◌≡◌, ◌≢◌, ◌∷◌, [], List, length, Result, Ok, Err}
use Rattle.std.specs.Borrow.{Bor}
use Rattle.mdb_datum.specs.Doc.{Doc}
use Rattle.mdb_datum.specs.Datum.{doc_of}
use Rattle.mdb_datum.specs.declared.datum.Datum.{Datum}
use Rattle.mdb_encode.specs.declared.refusal.ArgRefusal as of_args
use Rattle.mdb_encode.specs.declared.refusal.ArgRefusal.TheVariants as of_args_variants

-- it is the only one, or there is another number of them
abbrev pub IsOnly : List Doc → Result (Bor Datum) of_args.ArgRefusal → Type 0
IsOnly args (Ok d) = args ≡ doc_of d.now ∷ []
IsOnly args (Err e) = (e ≡ of_args_variants.ArgCount) × (length args ≢ 1)
