-- Worked nets: what a change makes of the rows of a table, by what was put and removed.
use Rattle.std.specs.Prelude.{◌≡◌, ◌++◌, ◌∷◌, [], Option, Some, None, codes, refl}
use Rattle.mdb_datum.specs.Row.{Fields}
use Rattle.mdb_schema.specs.Net.{Net, net, with_nets}
use Rattle.mdb_schema.specs.State.{with_row, without_row}
use Rattle.mdb_schema.specs.worked.Sample.{user, users_table}

abbrev ann : Fields
ann = user (codes "ann") 3

abbrev older_ann : Fields
older_ann = user (codes "ann") 4

abbrev bob : Fields
bob = user (codes "bob") 2

abbrev cy : Fields
cy = user (codes "cy") 1

abbrev change : Option Fields → Option Fields → Net
change before after = record { before = before; after = after }

-- a row that is put under a new `id` key has come
pub put_comes : net users_table (ann ∷ cy ∷ []) (ann ∷ bob ∷ cy ∷ []) ≡ change None (Some bob) ∷ []
put_comes = refl

-- one with the same members is no change
pub equal_row_is_no_change :
    net users_table (ann ∷ bob ∷ []) (with_row users_table ann (ann ∷ bob ∷ [])) ≡ []
equal_row_is_no_change = refl

-- one with other members is told with the row that it replaces
pub replaced_row_is_told : net users_table (ann ∷ bob ∷ []) (older_ann ∷ bob ∷ [])
    ≡ change (Some ann) (Some older_ann) ∷ []
replaced_row_is_told = refl

-- a row that is removed has gone
pub removed_row_goes : net users_table (ann ∷ bob ∷ cy ∷ []) (ann ∷ cy ∷ [])
    ≡ change (Some bob) None ∷ []
removed_row_goes = refl

-- a row that is put and removed leaves none
pub put_and_removed : net users_table (ann ∷ cy ∷ [])
    (without_row users_table (codes "bob" ++ 0 ∷ []) (with_row users_table bob (ann ∷ cy ∷ []))) ≡ []
put_and_removed = refl

-- changes rise by `id` key, whatever comes and goes
pub changes_rise : net users_table (ann ∷ cy ∷ []) (older_ann ∷ bob ∷ [])
    ≡ change (Some ann) (Some older_ann) ∷ change None (Some bob) ∷ change (Some cy) None ∷ []
changes_rise = refl

-- made on the old rows they give the new ones
pub changes_lead : with_nets users_table
    (net users_table (ann ∷ cy ∷ []) (older_ann ∷ bob ∷ [])) (ann ∷ cy ∷ []) ≡ older_ann ∷ bob ∷ []
changes_lead = refl
