-- Sets to which a watch was added have the watches at places that are there.
use Rattle.std.proofs.Common.{◌≡◌, refl, ap, subst, sym, ◌∙◌, ℕ, zero, suc, ◌+◌, ◌<◌, ◌⊎◌, inl, inr, List, [], ◌∷◌, ◌++◌, length, set, Bool, true, false, Option, Some, None}
use Rattle.std.specs.Prelude.{IsSome, if◌then◌else◌, nat_eq, slice_get}
use Rattle.std.proofs.lemmas.Option.{same_Some, slice_get_within}
use Rattle.mdb_datum.specs.Bytes.{Bytes}
use Rattle.mdb_schema.specs.History.{History}
use Rattle.mdb_schema.specs.Schema.{DbSchema}
use Rattle.client_script.specs.Client as plain
use Rattle.run_check.specs.declared.client.Client.{Client}
use Rattle.run_check.specs.declared.session.Sessions.{Sessions}
use Rattle.run_check.specs.declared.watching.Set.{Set}
use Rattle.run_check.specs.declared.watching.Watch.{Watch}
use Rattle.run_check.specs.declared.watching.Watching.{Watching}
use Rattle.run_check.specs.inner.ClientView.{watch_known, watches_known}
use Rattle.run_check.specs.inner.NamedView.{place_in}
use Rattle.run_check.specs.inner.SessionView.{IsKnown, IsSound, IsSoundSet}
use Rattle.run_check.specs.inner.StoreView.{Begun}
use Rattle.run_check.specs.inner.WatchView.{IsAddedTo}
use Rattle.run_check.proofs.SetsKept.{HasPlace, IsPlaced}
use Rattle.run_check.proofs.WatchAdded.{values_same}
use Rattle.run_check.proofs.WatchesKnown.{named_from}

-- ---- what stands at a place of a list that was changed

one_more : {A : Type 0} (xs : List A) (y x : A) (k : ℕ) → slice_get (xs ++ y ∷ []) k ≡ Some x → (slice_get xs k ≡ Some x) ⊎ (y ≡ x)
one_more [] y x zero there = inr (same_Some y x there)
one_more [] y x (suc k) there = cc
one_more (z ∷ xs) y x zero there = inl there
one_more (z ∷ xs) y x (suc k) there = one_more xs y x k there

one_set : {A : Type 0} (xs : List A) (at : ℕ) (y x : A) (k : ℕ) → slice_get (set xs at y) k ≡ Some x → (slice_get xs k ≡ Some x) ⊎ (y ≡ x)
one_set [] at y x k there = cc
one_set (z ∷ xs) zero y x zero there = inr (same_Some y x there)
one_set (z ∷ xs) zero y x (suc k) there = inl there
one_set (z ∷ xs) (suc at) y x zero there = inl there
one_set (z ∷ xs) (suc at) y x (suc k) there = one_set xs at y x k there

-- ---- places of a set

abbrev AreWithin : ℕ → List ℕ → Type 0
AreWithin count places = (k at : ℕ) → slice_get places k ≡ Some at → at < count

none_within : (count : ℕ) (places : List ℕ) → places ≡ [] → AreWithin count places
none_within count places none = subst (AreWithin count) (sym none) (λ k at there. cc)

more_within : (count : ℕ) (places : List ℕ) (place : ℕ) → AreWithin count places → place < count → AreWithin count (places ++ place ∷ [])
more_within count places place within one k at there =
    elim (one_more places place at k there) [ inl before ↦ within k at before | inr same ↦ subst (λ (p : ℕ). p < count) same one ]

-- ---- sets

module _ (count : ℕ) (ns : List Bytes) (vs : List Set) (names : List Bytes) (more : List Set) (name : Bytes) (at : ℕ)
    (all : (k : ℕ) (s : Set) → slice_get vs k ≡ Some s → IsSoundSet count s) (placed : IsPlaced name ns vs names more at) where
  -- with the one that was made, if one was
  more_sound : (k : ℕ) (s : Set) → slice_get more k ≡ Some s → IsSoundSet count s
  more_sound = of (place_in name ns) refl
    where
      of : (o : Option ℕ) → place_in name ns ≡ o → (k : ℕ) (s : Set) → slice_get more k ≡ Some s → IsSoundSet count s
      of (Some p) found k s there =
          let some : IsSome (place_in name ns) = subst (λ (o : Option ℕ). IsSome o) (sym found) refl in
          all k s (ap (λ (l : List Set). slice_get l k) (sym (placed.kept some)) ∙ there)
      of None found k s there =
          let new = placed.made found in
          let empty : IsSoundSet count new.set = record {
            members = none_within count new.set.members.items new.members;
            added = none_within count new.set.added.items new.added;
          } in
          elim (one_more vs new.set s k (ap (λ (l : List Set). slice_get l k) (sym new.kept) ∙ there)) [
            | inl before ↦ all k s before
            | inr same ↦ subst (λ (x : Set). IsSoundSet count x) same empty
          ]

  -- with a watch added to the one at a place
  added_sound : (s : Set) (place size : ℕ) (after : List Set) → slice_get more at ≡ Some s → place < count → IsAddedTo s place size more at after → (k : ℕ) (x : Set) → slice_get after k ≡ Some x → IsSoundSet count x
  added_sound s place size after here within added k x there =
      let old = more_sound at s here in
      let now : IsSoundSet count added.set = record {
        members = subst (AreWithin count) (sym added.members) (grown (nat_eq size (length s.members.items + 1)));
        added = subst (AreWithin count) (sym added.added) (more_within count s.added.items place old.added within);
      } in
      elim (one_set more at added.set x k (ap (λ (l : List Set). slice_get l k) (sym added.kept) ∙ there)) [
        | inl before ↦ more_sound k x before
        | inr same ↦ subst (λ (y : Set). IsSoundSet count y) same now
      ]
    where
      grown : (t : Bool) → AreWithin count (if t then s.members.items ++ place ∷ [] else s.members.items)
      grown true = more_within count s.members.items place (more_sound at s here).members within
      grown false = (more_sound at s here).members

-- ---- what the check knows

module _ (schema : DbSchema) (H : History) (txns : List Begun) (x : Sessions) (v : Client) (knows : IsKnown schema H txns x v) (after : Watching) (same : after.watches ≡ v.watching.watches) where
  with_sets : ((k : ℕ) (s : Set) → slice_get after.sets.values.items k ≡ Some s → IsSoundSet (length v.watching.watches.values.items) s) → IsKnown schema H txns x (record v { watching = after })
  with_sets sets =
      let values = values_same after v.watching same in
      let sound : IsSound schema H txns (record v { watching = after }) = record {
        last = knows.sound.last;
        reading = knows.sound.reading;
        writing = knows.sound.writing;
        carried = knows.sound.carried;
        snapshots = knows.sound.snapshots;
        watches = λ k w there. knows.sound.watches k w (ap (λ (l : List Watch). slice_get l k) (sym values) ∙ there);
        sets = λ k s there. subst (λ (l : List Watch). IsSoundSet (length l) s) (sym values) (sets k s there);
      } in
      record {
        schema_is = knows.schema_is;
        lawful = knows.lawful;
        stands = knows.stands;
        begun = knows.begun;
        counted = knows.counted;
        placed = knows.placed;
        made = knows.made;
        sound = sound;
      }

  -- after a watch that the client knows was added to a set
  pub known_added : (w : plain.Watch) (place : ℕ) → slice_get (watches_known v.watching) place ≡ Some w → (name : Bytes) (mid : Watching) (at : ℕ) (p : HasPlace v name mid at) (size : ℕ) → IsAddedTo p.set place size mid.sets.values.items at after.sets.values.items → IsKnown schema H txns x (record v { watching = after })
  known_added w place there name mid at p size added =
      let named = named_from watch_known v.watching.watches.names v.watching.watches.values.items place w there in
      let within = slice_get_within v.watching.watches.values.items place named.value named.there in
      with_sets (added_sound (length v.watching.watches.values.items) v.watching.sets.names v.watching.sets.values.items mid.sets.names mid.sets.values.items name at knows.sound.sets p.placed p.set place size after.sets.values.items p.there within added)
