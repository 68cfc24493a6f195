-- The changes from a state to another lead from the one to the other in each tracked table, and there
-- is none where the tracked tables have the same rows.
use Rattle.std.proofs.Common.{◌≡◌, ◌∙◌, ◌++◌, ℕ, zero, suc, List, [], ◌∷◌, map, Bool, true, false, Some, refl, sym, ap}
use Rattle.std.specs.Prelude.{if◌then◌else◌}
use Rattle.mdb_datum.specs.Row.{Fields}
use Rattle.mdb_schema.specs.Net.{Net, Change, net, with_nets, change_at, changes_in, changes_from, changes, with_change, with_changes, with_tracked, IsSameWhereTracked}
use Rattle.mdb_schema.specs.Schema.{TableSchema, DbSchema}
use Rattle.mdb_schema.specs.State.{State, AreLawfulRows, IsLawfulState}
use Rattle.mdb_schema.proofs.NetLaws.{net-leads, net-same, no_net}

-- ---- none where the tracked tables are the same

in_same : (place : ℕ) (t : TableSchema) (old new : List Fields) → AreLawfulRows t old → (t.tracked ≡ true → old ≡ new) → changes_in place t old new ≡ []
in_same place t old new lawful same = of t.tracked refl
  where
    of : (b : Bool) → t.tracked ≡ b → (if b then map (change_at place) (net t old new) else []) ≡ []
    of true e = ap (map (change_at place)) (net-same t old new lawful.rising (same e))
    of false e = refl

pub changes-same : (place : ℕ) (schema : DbSchema) (old new : State) → IsLawfulState schema old → IsSameWhereTracked schema old new → changes_from place schema old new ≡ []
changes-same place [] old new lawful same = refl
changes-same place (t ∷ ts) [] new lawful same = refl
changes-same place (t ∷ ts) (rows ∷ old) [] lawful same = refl
changes-same place (t ∷ ts) (rows ∷ old) (rows' ∷ new) lawful same =
    let here : t.tracked ≡ true → rows ≡ rows' = λ tracked. let both : Some rows ≡ Some rows' = same zero t refl tracked in cc in
    let first = in_same place t rows rows' lawful.0 here in
    let rest = changes-same (suc place) ts old new lawful.1 (λ at u e tracked. same (suc at) u e tracked) in
    λ i. first i ++ rest i

-- ---- the same where there is none

none_of_two : (xs ys : List Change) → xs ++ ys ≡ [] → (xs ≡ []) × (ys ≡ [])
none_of_two [] ys e = (refl, e)
none_of_two (x ∷ xs) ys e = cc

none_of_mapped : (place : ℕ) (ns : List Net) → map (change_at place) ns ≡ [] → ns ≡ []
none_of_mapped place [] e = refl
none_of_mapped place (n ∷ ns) e = cc

none_in : (place : ℕ) (t : TableSchema) (old new : List Fields) → AreLawfulRows t old → AreLawfulRows t new → changes_in place t old new ≡ [] → t.tracked ≡ true → old ≡ new
none_in place t old new lawful lawful' none tracked =
    no_net t old new lawful.rising lawful'.rising
    (none_of_mapped place (net t old new) (sym (ap (λ (b : Bool). if b then map (change_at place) (net t old new) else []) tracked) ∙ none))

pub changes-none : (place : ℕ) (schema : DbSchema) (old new : State) → IsLawfulState schema old → IsLawfulState schema new → changes_from place schema old new ≡ [] → IsSameWhereTracked schema old new
changes-none place [] old new lawful lawful' none at u there tracked = cc
changes-none place (t ∷ ts) [] new lawful lawful' none at u there tracked = absurd lawful
changes-none place (t ∷ ts) (rows ∷ old) [] lawful lawful' none at u there tracked = absurd lawful'
changes-none place (t ∷ ts) (rows ∷ old) (rows' ∷ new) lawful lawful' none zero u there tracked =
    let same : t ≡ u = cc in
    let here = (none_of_two (changes_in place t rows rows') (changes_from (suc place) ts old new) none).0 in
    ap Some (none_in place t rows rows' lawful.0 lawful'.0 here (ap (λ (x : TableSchema). x.tracked) same ∙ tracked))
changes-none place (t ∷ ts) (rows ∷ old) (rows' ∷ new) lawful lawful' none (suc at) u there tracked =
    changes-none (suc place) ts old new lawful.1 lawful'.1 (none_of_two (changes_in place t rows rows') (changes_from (suc place) ts old new) none).1 at u there tracked

-- ---- made on the old state

-- the same change, of the next table
abbrev next : Change → Change
next c = record { table = suc c.table; before = c.before; after = c.after }

map_twice : (place : ℕ) (ns : List Net) → map (change_at (suc place)) ns ≡ map next (map (change_at place) ns)
map_twice place [] = refl
map_twice place (n ∷ ns) = ap (λ cs. change_at (suc place) n ∷ cs) (map_twice place ns)

in_next : (place : ℕ) (t : TableSchema) (old new : List Fields) → changes_in (suc place) t old new ≡ map next (changes_in place t old new)
in_next place t old new = of t.tracked
  where
    of : (b : Bool) → (if b then map (change_at (suc place)) (net t old new) else []) ≡ map next (if b then map (change_at place) (net t old new) else [])
    of true = map_twice place (net t old new)
    of false = refl

map_both : (xs ys : List Change) → map next (xs ++ ys) ≡ map next xs ++ map next ys
map_both [] ys = refl
map_both (x ∷ xs) ys = ap (λ cs. next x ∷ cs) (map_both xs ys)

from_next : (place : ℕ) (ts : DbSchema) (old new : State) → changes_from (suc place) ts old new ≡ map next (changes_from place ts old new)
from_next place [] old new = refl
from_next place (t ∷ ts) [] new = refl
from_next place (t ∷ ts) (rows ∷ old) [] = refl
from_next place (t ∷ ts) (rows ∷ old) (rows' ∷ new) =
    let first = in_next place t rows rows' in
    let rest = from_next (suc place) ts old new in
    (λ i. first i ++ rest i) ∙ sym (map_both (changes_in place t rows rows') (changes_from (suc place) ts old new))

with_both : (schema : DbSchema) (cs ds : List Change) (s : State) → with_changes schema (cs ++ ds) s ≡ with_changes schema cs (with_changes schema ds s)
with_both schema [] ds s = refl
with_both schema (c ∷ cs) ds s = ap (with_change schema c) (with_both schema cs ds s)

-- changes of later tables leave the first as it is
with_next : (t : TableSchema) (ts : DbSchema) (cs : List Change) (rows : List Fields) (s : State) → with_changes (t ∷ ts) (map next cs) (rows ∷ s) ≡ rows ∷ with_changes ts cs s
with_next t ts [] rows s = refl
with_next t ts (c ∷ cs) rows s = ap (with_change (t ∷ ts) (next c)) (with_next t ts cs rows s)

-- changes of the first table leave the others as they are
with_first : (t : TableSchema) (ts : DbSchema) (ns : List Net) (rows : List Fields) (s : State) → with_changes (t ∷ ts) (map (change_at zero) ns) (rows ∷ s) ≡ with_nets t ns rows ∷ s
with_first t ts [] rows s = refl
with_first t ts (n ∷ ns) rows s = ap (with_change (t ∷ ts) (change_at zero n)) (with_first t ts ns rows s)

with_all_in : (t : TableSchema) (ts : DbSchema) (old new : List Fields) (s : State) → AreLawfulRows t old → AreLawfulRows t new → with_changes (t ∷ ts) (changes_in zero t old new) (old ∷ s) ≡ (if t.tracked then new else old) ∷ s
with_all_in t ts old new s lawful lawful' = of t.tracked
  where
    of : (b : Bool) → with_changes (t ∷ ts) (if b then map (change_at zero) (net t old new) else []) (old ∷ s) ≡ (if b then new else old) ∷ s
    of true = with_first t ts (net t old new) old s ∙ ap (λ (rows : List Fields). rows ∷ s) (net-leads t old new lawful.rising lawful'.rising)
    of false = refl

pub changes-lead : (schema : DbSchema) (old new : State) → IsLawfulState schema old → IsLawfulState schema new → with_changes schema (changes schema old new) old ≡ with_tracked schema old new
changes-lead [] old new lawful lawful' = refl
changes-lead (t ∷ ts) [] new lawful lawful' = refl
changes-lead (t ∷ ts) (rows ∷ old) [] lawful lawful' = refl
changes-lead (t ∷ ts) (rows ∷ old) (rows' ∷ new) lawful lawful' =
    with_both (t ∷ ts) (changes_in zero t rows rows') (changes_from (suc zero) ts old new) (rows ∷ old)
    ∙ ap (λ cs. with_changes (t ∷ ts) (changes_in zero t rows rows') (with_changes (t ∷ ts) cs (rows ∷ old))) (from_next zero ts old new)
    ∙ ap (with_changes (t ∷ ts) (changes_in zero t rows rows')) (with_next t ts (changes_from zero ts old new) rows old)
    ∙ ap (λ (s : State). with_changes (t ∷ ts) (changes_in zero t rows rows') (rows ∷ s)) (changes-lead ts old new lawful.1 lawful'.1)
    ∙ with_all_in t ts rows rows' (with_tracked ts old new) lawful.0 lawful'.0
