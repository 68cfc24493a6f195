-- Counting keys before they are written.
use Rattle.std.specs.Prelude.{◌≡◌, ℕ, List, length, Result, Ok, Err}
use Rattle.std.specs.List.{list_any}
use Rattle.mdb_encode.specs.Bytes.{Bytes}
use Rattle.mdb_encode.specs.Keys.{Keyed, limited, is_too_long}
use Rattle.mdb_encode.specs.declared.row.tally.Tally.{Tally}
use Rattle.mdb_encode.specs.inner.Refusals.{key_refusal}
use Rattle.mdb_encode.specs.declared.refusal.KeyRefusal as of_row

-- the tally is that of these keys
pub record IsTally (seen : List Bytes) (t : Tally) : Type 0 where
  pub count : t.count ≡ length seen
  pub too_long : t.too_long ≡ list_any is_too_long seen

-- how many keys there are, where they keep the limits; or the first rule that they break
abbrev pub CountsKeys : Keyed → Result ℕ of_row.KeyRefusal → Type 0
CountsKeys k (Ok n) = (ks : List Bytes) × (k ≡ Ok ks) × (limited k ≡ Ok ks) × (n ≡ length ks)
CountsKeys k (Err e) = limited k ≡ Err (key_refusal e)
