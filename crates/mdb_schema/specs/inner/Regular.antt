-- Members of a document that was read: for the clauses of private functions.
use Rattle.std.specs.Prelude.{List, [], ◌∷◌}
use Rattle.mdb_datum.specs.Canonical.{IsRegular}
use Rattle.mdb_datum.specs.Doc.{Field}

abbrev pub EachRegular : List Field → Type 0
EachRegular [] = Unit {0}
EachRegular (f ∷ fs) = IsRegular f.1 × EachRegular fs
