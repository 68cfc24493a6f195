-- A set in the place of the one of its name, as a client's sets are known.
use Rattle.std.proofs.Common.{arith, ◌≡◌, refl, ap, subst, sym, ◌∙◌, ℕ, suc, ◌<◌, List, [], ◌∷◌, ◌++◌, length, set, Bool, true, false, Option, Some, None, option_map}
use Rattle.std.specs.Prelude.{if◌then◌else◌, IsSome, option_and_then, slice_get}
use Rattle.std.specs.Str.{bytes_eq}
use Rattle.std.proofs.lemmas.Option.{same_Some}
use Rattle.mdb_datum.specs.Bytes.{Bytes}
use Rattle.mdb_datum.proofs.ListPlaces.{there_within}
use Rattle.mdb_schema.proofs.Membership.{bytes_eq-itself, same_key}
use Rattle.client_script.specs.Client as plain
use Rattle.client_script.specs.Client.{set_named}
use Rattle.client_script.specs.Watching.{put_set, set_or_new}
use Rattle.run_check.specs.declared.client.Client.{Client}
use Rattle.run_check.specs.declared.watching.Set.{Set}
use Rattle.run_check.specs.declared.watching.Watching.{Watching}
use Rattle.run_check.specs.inner.ClientView.{set_known, watches_at}
use Rattle.run_check.specs.inner.NamedView.{each_named, place_in, value_named}
use Rattle.run_check.specs.inner.WatchView.{IsNewSet}
use Rattle.run_check.proofs.NamedFound.{named_more, place_within, set_found}
use Rattle.run_check.proofs.NamesAdded.{place_joined}
use Rattle.run_check.proofs.NumbersPlaced.{or_else}

abbrev pub sets_known : List plain.Watch → List Bytes → List Set → List plain.WatchSet
sets_known ws ns vs = each_named (set_known ws) ns vs

-- a value that is put at the place of a name takes the place of the set of that name
pub put_at : (ws : List plain.Watch) (name : Bytes) (s : Set) (ns : List Bytes) (vs : List Set) (place : ℕ) → length ns ≡ length vs → place_in name ns ≡ Some place → sets_known ws ns (set vs place s) ≡ put_set (set_known ws name s) (sets_known ws ns vs)
put_at ws name s [] vs place same at = cc
put_at ws name s (n ∷ ns) [] place same at = absurd (omega (arith, same))
put_at ws name s (n ∷ ns) (v ∷ vs) place same at =
    of (bytes_eq n name) refl (place_in name ns) (λ p there. put_at ws name s ns vs p (omega (arith, same)) there) refl at
  where
    of : (t : Bool) → bytes_eq n name ≡ t → (o : Option ℕ) → ((p : ℕ) → place_in name ns ≡ Some p → sets_known ws ns (set vs p s) ≡ put_set (set_known ws name s) (sets_known ws ns vs)) → place_in name ns ≡ o → (if t then Some 0 else option_map suc o) ≡ Some place → sets_known ws (n ∷ ns) (set (v ∷ vs) place s) ≡ (if t then set_known ws name s ∷ sets_known ws ns vs else set_known ws n v ∷ put_set (set_known ws name s) (sets_known ws ns vs))
    of true is o rest found e =
        ap (λ (p : ℕ). sets_known ws (n ∷ ns) (set (v ∷ vs) p s)) (sym (same_Some 0 place e))
        ∙ ap (λ (m : Bytes). set_known ws m s ∷ sets_known ws ns vs) (same_key n name is)
    of false is None rest found e = cc
    of false is (Some p) rest found e =
        ap (λ (q : ℕ). sets_known ws (n ∷ ns) (set (v ∷ vs) q s)) (sym (same_Some (suc p) place e))
        ∙ ap (λ (l : List plain.WatchSet). set_known ws n v ∷ l) (rest p found)

-- a set that was made for it leaves none behind
pub put_new : (name : Bytes) (s made : plain.WatchSet) (sets : List plain.WatchSet) → s.name ≡ name → made.name ≡ name → set_named name sets ≡ None → put_set s (sets ++ made ∷ []) ≡ put_set s sets
put_new name s made [] is same none =
    let names : bytes_eq made.name s.name ≡ true = ap (λ (m : Bytes). bytes_eq m s.name) (same ∙ sym is) ∙ bytes_eq-itself s.name in
    ap (λ (t : Bool). if t then s ∷ [] else made ∷ put_set s []) names
put_new name s made (x ∷ sets) is same none =
    of (bytes_eq x.name name) refl (λ e. put_new name s made sets is same e) none
  where
    of : (t : Bool) → bytes_eq x.name name ≡ t → (set_named name sets ≡ None → put_set s (sets ++ made ∷ []) ≡ put_set s sets) → (if t then Some x else set_named name sets) ≡ None → put_set s (x ∷ (sets ++ made ∷ [])) ≡ put_set s (x ∷ sets)
    of true eq rest e = cc
    of false eq rest e =
        let other : bytes_eq x.name s.name ≡ false = ap (bytes_eq x.name) is ∙ eq in
        ap (λ (t : Bool). if t then s ∷ (sets ++ made ∷ []) else x ∷ put_set s (sets ++ made ∷ [])) other
        ∙ ap (λ (l : List plain.WatchSet). x ∷ l) (rest e)
        ∙ sym (ap (λ (t : Bool). if t then s ∷ sets else x ∷ put_set s sets) other)

-- the set of a name, at first without watches
pub set_for_known : (ws : List plain.Watch) (name : Bytes) (ns : List Bytes) (vs : List Set) (o : Option Set) → length ns ≡ length vs → o ≡ value_named name ns vs → set_or_new name (set_named name (sets_known ws ns vs)) ≡ set_or_new name (option_map (set_known ws name) o)
set_for_known ws name ns vs o same is =
    ap (set_or_new name) (set_found ws name ns vs same ∙ ap (option_map (set_known ws name)) (sym is))

-- ---- the set at the place of a name, which is made where there is none

at_end : {A : Type 0} (xs : List A) (x : A) → slice_get (xs ++ x ∷ []) (length xs) ≡ Some x
at_end [] x = refl
at_end (y ∷ xs) x = at_end xs x

new_place : (name : Bytes) (ns more : List Bytes) (place : ℕ) → place_in name ns ≡ None → more ≡ ns ++ name ∷ [] → place_in name more ≡ Some place → place ≡ length ns
new_place name ns more place none is there =
    let last : place_in name more ≡ Some (length ns) =
    ap (place_in name) is
    ∙ place_joined name ns name
    ∙ ap (λ (o : Option ℕ). or_else o (if bytes_eq name name then Some (length ns) else None)) none
    ∙ ap (λ (t : Bool). if t then Some (length ns) else None) (bytes_eq-itself name) in
    same_Some place (length ns) (sym there ∙ last)

-- lists of sets, and those in which the set of a name surely is, at a place
pub record IsPlaced (name : Bytes) (ns : List Bytes) (vs : List Set) (more_names : List Bytes) (more : List Set) (place : ℕ) : Type 0 where
  pub there : place_in name more_names ≡ Some place
  pub kept : IsSome (place_in name ns) → more ≡ vs
  pub names : IsSome (place_in name ns) → more_names ≡ ns
  pub made : place_in name ns ≡ None → IsNewSet name ns vs more_names more

-- so it is in what the check keeps of a client's sets, with the set there
pub record HasPlace (v : Client) (name : Bytes) (mid : Watching) (at : ℕ) : Type 0 where
  pub placed : IsPlaced name v.watching.sets.names v.watching.sets.values.items mid.sets.names mid.sets.values.items at
  pub low : at < length mid.sets.values.items
  pub set : Set
  pub there : slice_get mid.sets.values.items at ≡ Some set

pub has_place : (v : Client) (name : Bytes) (mid : Watching) (at : ℕ) → IsPlaced name v.watching.sets.names v.watching.sets.values.items mid.sets.names mid.sets.values.items at → HasPlace v name mid at
has_place v name mid at placed =
    let paired : length mid.sets.names ≡ length mid.sets.values.items = mid.sets.paired ∙ mid.sets.values.ok.0 in
    let within = place_within name mid.sets.names at placed.there in
    let low : at < length mid.sets.values.items = omega (arith, within, paired) in
    let found = there_within mid.sets.values.items at low in
    record { placed = placed; low = low; set = found.0; there = found.1 }

-- the set that was made is the one at the place
pub new_is : (ns : List Bytes) (vs : List Set) (more_names : List Bytes) (more : List Set) (name : Bytes) (place : ℕ) → length ns ≡ length vs → place_in name ns ≡ None → place_in name more_names ≡ Some place → (new : IsNewSet name ns vs more_names more) → (s : Set) → slice_get more place ≡ Some s → new.set ≡ s
new_is ns vs more_names more name place paired none at new s there =
    let end : place ≡ length ns = new_place name ns more_names place none new.named at in
    let last : slice_get more (length vs) ≡ Some new.set = ap (λ (l : List Set). slice_get l (length vs)) new.kept ∙ at_end vs new.set in
    same_Some new.set s (sym last ∙ ap (slice_get more) (sym (end ∙ paired)) ∙ there)

module _ (ws : List plain.Watch) (name : Bytes) (ns : List Bytes) (vs : List Set) (paired : length ns ≡ length vs) (more_names : List Bytes) (more : List Set) (place : ℕ) (is : IsPlaced name ns vs more_names more place) (s : Set) (there : slice_get more place ≡ Some s) where
  -- it is the set of that name
  pub placed_set : set_or_new name (set_named name (sets_known ws ns vs)) ≡ set_known ws name s
  placed_set = of (place_in name ns) refl
    where
      of : (o : Option ℕ) → place_in name ns ≡ o → set_or_new name (set_named name (sets_known ws ns vs)) ≡ set_known ws name s
      of (Some p) found =
          let some : IsSome (place_in name ns) = subst (λ (o : Option ℕ). IsSome o) (sym found) refl in
          let same : p ≡ place = same_Some p place (sym found ∙ ap (place_in name) (sym (is.names some)) ∙ is.there) in
          let value : Some s ≡ value_named name ns vs =
          sym (ap (option_and_then (slice_get vs)) found ∙ ap (slice_get vs) same ∙ ap (λ (l : List Set). slice_get l place) (sym (is.kept some)) ∙ there) in
          set_for_known ws name ns vs (Some s) paired value
      of None found =
          let new = is.made found in
          let at : place ≡ length ns = new_place name ns more_names place found new.named is.there in
          let last : slice_get more (length vs) ≡ Some new.set = ap (λ (l : List Set). slice_get l (length vs)) new.kept ∙ at_end vs new.set in
          let same : new.set ≡ s = same_Some new.set s (sym last ∙ ap (slice_get more) (sym (at ∙ paired)) ∙ there) in
          let none : None ≡ value_named name ns vs = sym (ap (option_and_then (slice_get vs)) found) in
          let members : s.members.items ≡ [] = ap (λ (x : Set). x.members.items) (sym same) ∙ new.members in
          let added : s.added.items ≡ [] = ap (λ (x : Set). x.added.items) (sym same) ∙ new.added in
          set_for_known ws name ns vs None paired none
          ∙ sym (ap (λ (l : List ℕ). record { name = name; members = watches_at ws l; added = watches_at ws s.added.items }) members
          ∙ ap (λ (l : List ℕ). record { name = name; members = []; added = watches_at ws l }) added)

  -- and another in its place leaves the same sets
  pub placed_put : (x : plain.WatchSet) → x.name ≡ name → put_set x (sets_known ws more_names more) ≡ put_set x (sets_known ws ns vs)
  placed_put x named = of (place_in name ns) refl
    where
      of : (o : Option ℕ) → place_in name ns ≡ o → put_set x (sets_known ws more_names more) ≡ put_set x (sets_known ws ns vs)
      of (Some p) found =
          let some : IsSome (place_in name ns) = subst (λ (o : Option ℕ). IsSome o) (sym found) refl in
          ap (λ (l : List Bytes). put_set x (sets_known ws l more)) (is.names some)
          ∙ ap (λ (l : List Set). put_set x (sets_known ws ns l)) (is.kept some)
      of None found =
          let new = is.made found in
          let none : set_named name (sets_known ws ns vs) ≡ None =
          set_found ws name ns vs paired ∙ ap (λ (o : Option ℕ). option_map (set_known ws name) (option_and_then (slice_get vs) o)) found in
          ap (λ (l : List Bytes). put_set x (sets_known ws l more)) new.named
          ∙ ap (λ (l : List Set). put_set x (sets_known ws (ns ++ name ∷ []) l)) new.kept
          ∙ ap (put_set x) (named_more (set_known ws) ns vs name new.set paired)
          ∙ put_new name x (set_known ws name new.set) (sets_known ws ns vs) named refl none
