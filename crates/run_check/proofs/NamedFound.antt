-- What stands under a name, among values that are listed with their names.
use Rattle.std.proofs.Common.{arith, ◌≡◌, refl, ap, sym, ◌∙◌, ℕ, suc, ◌<◌, List, [], ◌∷◌, ◌++◌, length, Bool, true, false, Option, Some, None, option_map}
use Rattle.std.specs.Prelude.{if◌then◌else◌, is_some, option_and_then, slice_get}
use Rattle.std.specs.Str.{bytes_eq}
use Rattle.mdb_datum.specs.Bytes.{Bytes}
use Rattle.std.proofs.lemmas.Option.{same_Some}
use Rattle.mdb_datum.proofs.ListPlaces.{there_within}
use Rattle.mdb_schema.proofs.Membership.{same_key}
use Rattle.mdb_schema.specs.Tests.{needed}
use Rattle.client_script.specs.Client as plain
use Rattle.client_script.specs.Client.{set_named, snapshot_named, watch_named}
use Rattle.run_check.specs.declared.sight.Sight.{Sight}
use Rattle.run_check.specs.declared.watching.Set.{Set}
use Rattle.run_check.specs.inner.ClientView.{set_known, sight_known, snapshot_known}
use Rattle.run_check.specs.inner.NamedView.{each_named, place_in, value_named}
use Rattle.run_check.specs.inner.StoreView.{Begun}

-- ---- one list, for any search

-- behind the first
one_behind : {A : Type 0} (v : A) (vs : List A) (o : Option ℕ) → option_and_then (slice_get (v ∷ vs)) (option_map suc o) ≡ option_and_then (slice_get vs) o
one_behind v vs None = refl
one_behind v vs (Some at) = refl

none_there : {A : Type 0} (o : Option ℕ) → option_and_then (slice_get {X = A} []) o ≡ None
none_there None = refl
none_there (Some at) = refl

pub found_at : {A : Type 0} (name : Bytes) (n : Bytes) (ns : List Bytes) (v : A) (vs : List A) (t : Bool) → bytes_eq n name ≡ t → value_named name (n ∷ ns) (v ∷ vs) ≡ (if t then Some v else value_named name ns vs)
found_at name n ns v vs true same = ap (λ (t : Bool). option_and_then (slice_get (v ∷ vs)) (if t then Some 0 else option_map suc (place_in name ns))) same
found_at name n ns v vs false other =
    ap (λ (t : Bool). option_and_then (slice_get (v ∷ vs)) (if t then Some 0 else option_map suc (place_in name ns))) other
    ∙ one_behind v vs (place_in name ns)

-- ---- snapshots, watches, sets

pub snapshot_found : (txns : List Begun) (name : Bytes) (ns : List Bytes) (vs : List Sight) → length ns ≡ length vs → snapshot_named name (each_named (snapshot_known txns) ns vs) ≡ option_map (sight_known txns) (value_named name ns vs)
snapshot_found txns name [] vs same = refl
snapshot_found txns name (n ∷ ns) [] same = absurd (omega (arith, same))
snapshot_found txns name (n ∷ ns) (v ∷ vs) same =
    of (bytes_eq n name) refl (snapshot_found txns name ns vs (omega (arith, same)))
  where
    of : (t : Bool) → bytes_eq n name ≡ t → snapshot_named name (each_named (snapshot_known txns) ns vs) ≡ option_map (sight_known txns) (value_named name ns vs) → (if t then Some (sight_known txns v) else snapshot_named name (each_named (snapshot_known txns) ns vs)) ≡ option_map (sight_known txns) (value_named name (n ∷ ns) (v ∷ vs))
    of true is rest = sym (ap (option_map (sight_known txns)) (found_at name n ns v vs true is))
    of false is rest = rest ∙ sym (ap (option_map (sight_known txns)) (found_at name n ns v vs false is))

pub snapshot_told : (txns : List Begun) (name rule : Bytes) (ns : List Bytes) (vs : List Sight) (o : Option Sight) → length ns ≡ length vs → o ≡ value_named name ns vs → needed rule (snapshot_named name (each_named (snapshot_known txns) ns vs)) ≡ needed rule (option_map (sight_known txns) o)
snapshot_told txns name rule ns vs o same found =
    ap (needed rule) (snapshot_found txns name ns vs same ∙ ap (option_map (sight_known txns)) (sym found))

pub set_found : (ws : List plain.Watch) (name : Bytes) (ns : List Bytes) (vs : List Set) → length ns ≡ length vs → set_named name (each_named (set_known ws) ns vs) ≡ option_map (set_known ws name) (value_named name ns vs)
set_found ws name [] vs same = refl
set_found ws name (n ∷ ns) [] same = absurd (omega (arith, same))
set_found ws name (n ∷ ns) (v ∷ vs) same =
    of (bytes_eq n name) refl (set_found ws name ns vs (omega (arith, same)))
  where
    some : Bytes → Option plain.WatchSet
    some m = Some (set_known ws m v)

    of : (t : Bool) → bytes_eq n name ≡ t → set_named name (each_named (set_known ws) ns vs) ≡ option_map (set_known ws name) (value_named name ns vs) → (if t then some n else set_named name (each_named (set_known ws) ns vs)) ≡ option_map (set_known ws name) (value_named name (n ∷ ns) (v ∷ vs))
    of true is rest = ap some (same_key n name is) ∙ sym (ap (option_map (set_known ws name)) (found_at name n ns v vs true is))
    of false is rest = rest ∙ sym (ap (option_map (set_known ws name)) (found_at name n ns v vs false is))

-- ---- one more at the end

pub named_more : {A B : Type 0} (f : Bytes → A → B) (ns : List Bytes) (vs : List A) (n : Bytes) (v : A) → length ns ≡ length vs → each_named f (ns ++ n ∷ []) (vs ++ v ∷ []) ≡ each_named f ns vs ++ f n v ∷ []
named_more f [] [] n v same = refl
named_more f [] (x ∷ vs) n v same = absurd (omega (arith, same))
named_more f (m ∷ ns) [] n v same = absurd (omega (arith, same))
named_more {A} {B} f (m ∷ ns) (x ∷ vs) n v same = ap (λ (l : List B). f m x ∷ l) (named_more f ns vs n v (omega (arith, same)))

-- a name that has a place has a value there
pub place_within : (name : Bytes) (ns : List Bytes) (at : ℕ) → place_in name ns ≡ Some at → at < length ns
place_within name [] at some = cc
place_within name (n ∷ ns) at some =
    of (bytes_eq n name) (place_in name ns) (λ p there. place_within name ns p there) refl some
  where
    of : (t : Bool) (o : Option ℕ) → ((p : ℕ) → place_in name ns ≡ Some p → p < length ns) → place_in name ns ≡ o → (if t then Some 0 else option_map suc o) ≡ Some at → at < suc (length ns)
    of true o within is e = let zero_is : 0 ≡ at = same_Some 0 at e in omega (arith, zero_is)
    of false None within is e = cc
    of false (Some p) within is e =
        let rest = within p is in
        let next : suc p ≡ at = same_Some (suc p) at e in
        omega (arith, rest, next)

pub value_there : {A : Type 0} (name : Bytes) (ns : List Bytes) (vs : List A) (o : Option ℕ) → length ns ≡ length vs → o ≡ place_in name ns → is_some (value_named name ns vs) ≡ is_some o
value_there name ns vs None same is = ap (λ (o : Option ℕ). is_some (option_and_then (slice_get vs) o)) (sym is)
value_there name ns vs (Some at) same is =
    let within = place_within name ns at (sym is) in
    let found = there_within vs at (omega (arith, within, same)) in
    ap (λ (o : Option ℕ). is_some (option_and_then (slice_get vs) o)) (sym is) ∙ ap is_some found.1

map_there : {A B : Type 0} (f : A → B) (o : Option A) → is_some (option_map f o) ≡ is_some o
map_there f None = refl
map_there f (Some a) = refl

pub snapshot_there : (txns : List Begun) (name : Bytes) (ns : List Bytes) (vs : List Sight) (o : Option ℕ) → length ns ≡ length vs → o ≡ place_in name ns → is_some (snapshot_named name (each_named (snapshot_known txns) ns vs)) ≡ is_some o
snapshot_there txns name ns vs o same is =
    ap is_some (snapshot_found txns name ns vs same) ∙ map_there (sight_known txns) (value_named name ns vs) ∙ value_there name ns vs o same is
