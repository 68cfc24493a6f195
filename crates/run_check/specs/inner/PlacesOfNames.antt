-- Names by their places, as the code keeps them.
use Rattle.std.specs.Prelude.{◌≡◌, ℕ, List, map}
use Rattle.std.specs.Borrow.{Bor}
use Rattle.std.specs.BTreeMap.{BTreeMap, get_by_text}
use Rattle.std.specs.declared.alloc.Global.{Global}
use Rattle.std.specs.declared.string.String.{String}
use Rattle.mdb_datum.specs.Bytes.{Bytes}
use Rattle.run_check.specs.inner.NamedView.{place_in}

abbrev pub texts_of : List (Bor Bytes) → List Bytes
texts_of names = map (λ (name : Bor Bytes). name.now) names

-- a map has the place of each
abbrev pub ArePlaces : BTreeMap (String Global) ℕ → List Bytes → Type 0
ArePlaces places names = (name : Bytes) → get_by_text places name ≡ place_in name names
