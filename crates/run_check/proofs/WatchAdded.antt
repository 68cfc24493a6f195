-- A watch that is added to a set, as the code carries it out.
use Rattle.std.proofs.Common.{arith, ◌≡◌, refl, ap, subst, sym, ◌∙◌, ℕ, ◌+◌, ◌⊎◌, inl, inr, List, [], ◌∷◌, ◌++◌, length, Bool, true, false, Option, Some, None, decimal, codes}
use Rattle.std.specs.Prelude.{Contains, IsSome, nat_eq, slice_get, if◌then◌else◌}
use Rattle.std.specs.List.{cons_option}
use Rattle.std.proofs.lemmas.Bool.Decides.{nat_tests}
use Rattle.std.proofs.lemmas.List.Elements.{filter_map-append}
use Rattle.std.proofs.lemmas.Option.{same_Some}
use Rattle.mdb_datum.specs.Bytes.{Bytes}
use Rattle.mdb_schema.specs.History.{History}
use Rattle.mdb_schema.specs.Schema.{DbSchema}
use Rattle.client_script.specs.Client as plain
use Rattle.client_script.specs.Watching.{AreOfOneIndex, IsAmong, set_for, with_set}
use Rattle.run_check.specs.TextLines.{number_behind}
use Rattle.run_check.specs.declared.client.Client.{Client}
use Rattle.run_check.specs.declared.watching.Set.{Set}
use Rattle.run_check.specs.declared.watching.Watch.{Watch}
use Rattle.run_check.specs.declared.watching.Watching.{Watching}
use Rattle.run_check.specs.inner.ClientView.{known, set_known, watch_known, watches_at, watches_known}
use Rattle.run_check.specs.inner.NamedView.{place_in}
use Rattle.run_check.specs.inner.SessionView.{IsDoubleTold, IsMemberTold, IsNoSize, IsSound, IsSoundSet}
use Rattle.run_check.specs.inner.StoreView.{Begun}
use Rattle.run_check.specs.inner.WatchView.{AreLike, IsAddedTo, MayLeave, OneOf, ShareIndex, members_then}
use Rattle.run_check.proofs.SetsKept.{HasPlace, new_is, placed_put, placed_set, put_at, sets_known}
use Rattle.run_check.proofs.SnapshotsTold.{all_there, named_length}
use Rattle.run_check.proofs.WatchesKnown.{IsNamed, among_known, index_known, known_among, known_index, named_from}

nothing_at : (k p : ℕ) → slice_get {X = ℕ} [] k ≡ Some p → ⊥
nothing_at k p e = cc

same_number : (k n : ℕ) → Some k ≡ Some n → k ≡ n
same_number k n e = same_Some k n e

-- members, where the size is that of one more, and where it isn't
grown : (members : List ℕ) (place size : ℕ) → size ≡ length members + 1 → members_then members place size ≡ members ++ place ∷ []
grown members place size more =
    let is : nat_eq size (length members + 1) ≡ true = grind (arith, nat_tests, more) in
    ap (λ (t : Bool). if t then members ++ place ∷ [] else members) is

not_grown : (members : List ℕ) (place size : ℕ) → size ≡ length members → members_then members place size ≡ members
not_grown members place size same =
    let is : nat_eq size (length members + 1) ≡ false = grind (arith, nat_tests, same) in
    ap (λ (t : Bool). if t then members ++ place ∷ [] else members) is

-- one place more has its watch more
one_more_at : (ws : List plain.Watch) (places : List ℕ) (place : ℕ) (w : plain.Watch) → slice_get ws place ≡ Some w → watches_at ws (places ++ place ∷ []) ≡ watches_at ws places ++ w ∷ []
one_more_at ws places place w there =
    filter_map-append (slice_get ws) places (place ∷ [])
    ∙ ap (λ (o : Option plain.Watch). watches_at ws places ++ cons_option o []) there

module _ (schema : DbSchema) (H : History) (txns : List Begun) (v : Client) (name : Bytes) (sound : IsSound schema H txns v) (w : plain.Watch) (place : ℕ) (there_w : slice_get (watches_known v.watching) place ≡ Some w)
    (mid : Watching) (same_mid : mid.watches ≡ v.watching.watches) (at : ℕ) (p : HasPlace v name mid at) where
  watches : length v.watching.watches.names ≡ length v.watching.watches.values.items
  watches = v.watching.watches.paired ∙ v.watching.watches.values.ok.0

  sets : length v.watching.sets.names ≡ length v.watching.sets.values.items
  sets = v.watching.sets.paired ∙ v.watching.sets.values.ok.0

  abbrev ws : List plain.Watch
  ws = watches_known v.watching

  abbrev values : List Watch
  values = v.watching.watches.values.items

  is_set : set_for name (known txns v) ≡ set_known (watches_known v.watching) name p.set
  is_set = placed_set (watches_known v.watching) name v.watching.sets.names v.watching.sets.values.items sets mid.sets.names mid.sets.values.items at p.placed p.set p.there

  -- its places are those of watches
  pub sound_set : IsSoundSet (length v.watching.watches.values.items) p.set
  sound_set = of (place_in name v.watching.sets.names) refl
    where
      of : (o : Option ℕ) → place_in name v.watching.sets.names ≡ o → IsSoundSet (length v.watching.watches.values.items) p.set
      of (Some k) found =
          let some : IsSome (place_in name v.watching.sets.names) = subst (λ (o : Option ℕ). IsSome o) (sym found) refl in
          sound.sets at p.set (ap (λ (l : List Set). slice_get l at) (sym (p.placed.kept some)) ∙ p.there)
      of None found =
          let new = p.placed.made found in
          let same : new.set ≡ p.set = new_is v.watching.sets.names v.watching.sets.values.items mid.sets.names mid.sets.values.items name at sets found p.placed.there new p.set p.there in
          let members : p.set.members.items ≡ [] = ap (λ (x : Set). x.members.items) (sym same) ∙ new.members in
          let added : p.set.added.items ≡ [] = ap (λ (x : Set). x.added.items) (sym same) ∙ new.added in
          record {
            members = λ k q is. absurd (nothing_at k q (sym (ap (λ (l : List ℕ). slice_get l k) members) ∙ is));
            added = λ k q is. absurd (nothing_at k q (sym (ap (λ (l : List ℕ). slice_get l k) added) ∙ is));
          }

  count_is : length (set_for name (known txns v)).members ≡ length p.set.members.items
  count_is =
      let long = named_length watch_known v.watching.watches.names v.watching.watches.values.items watches in
      ap (λ (x : plain.WatchSet). length x.members) is_set
      ∙ all_there (watches_known v.watching) p.set.members.items (λ k q is. let within = sound_set.members k q is in omega (arith, within, long))

  added_is : (set_for name (known txns v)).added ≡ watches_at (watches_known v.watching) p.set.added.items
  added_is = ap (λ (x : plain.WatchSet). x.added) is_set

  members_is : (set_for name (known txns v)).members ≡ watches_at (watches_known v.watching) p.set.members.items
  members_is = ap (λ (x : plain.WatchSet). x.members) is_set

  watch : IsNamed watch_known v.watching.watches.values.items place w
  watch = named_from watch_known v.watching.watches.names v.watching.watches.values.items place w there_w

  among_is : IsAmong w (set_for name (known txns v)).added → OneOf AreLike v.watching.watches.values.items p.set.added.items place
  among_is among =
      let first = subst (λ (l : List plain.Watch). IsAmong w l) added_is among in
      known_among v.watching.watches.names v.watching.watches.values.items watches p.set.added.items place watch.name watch.value watch.there (subst (λ (x : plain.Watch). IsAmong x (watches_at (watches_known v.watching) p.set.added.items)) watch.is first)

  is_among : OneOf AreLike v.watching.watches.values.items p.set.added.items place → IsAmong w (set_for name (known txns v)).added
  is_among one =
      let first = among_known v.watching.watches.names v.watching.watches.values.items watches p.set.added.items place watch.name watch.value watch.there one in
      subst (λ (l : List plain.Watch). IsAmong w l) (sym added_is) (subst (λ (x : plain.Watch). IsAmong x (watches_at (watches_known v.watching) p.set.added.items)) (sym watch.is) first)

  -- a size that can't be told
  pub no_size : (text : Bytes) (size : ℕ) → number_behind (codes "size ") text ≡ Some size → (MayLeave v.watching.watches.values.items p.set place size → ⊥) → IsNoSize name w (known txns v) text []
  no_size text size found none = record {
    none = refl;
    member = λ told new. none (inl (same_number size _ (sym found ∙ told) ∙ ap (λ (n : ℕ). n + 1) count_is, λ one. new (is_among one)));
    double = λ told m there_m index. none (inr (same_number size _ (sym found ∙ told) ∙ count_is, held m (subst (λ (l : List plain.Watch). Contains l m) members_is there_m) index));
  }
    where
      held : (m : plain.Watch) → Contains (watches_at (watches_known v.watching) p.set.members.items) m → AreOfOneIndex m.query w.query → OneOf ShareIndex v.watching.watches.values.items p.set.members.items place
      held m there_m index =
          known_index schema v.watching.watches.names v.watching.watches.values.items watches (λ k x is. (sound.watches k x is).looked) p.set.members.items place watch.value watch.there
          (record { member = m; there = there_m; index = subst (λ (x : plain.Watch). AreOfOneIndex m.query x.query) watch.is index })

  -- the set with the watch in it
  module _ (after : Watching) (same_after : after.watches ≡ mid.watches) (names : after.sets.names ≡ mid.sets.names) (size : ℕ) (added : IsAddedTo p.set place size mid.sets.values.items at after.sets.values.items) where
    added_list : watches_at (watches_known v.watching) added.set.added.items ≡ (set_for name (known txns v)).added ++ w ∷ []
    added_list =
        ap (watches_at (watches_known v.watching)) added.added
        ∙ one_more_at (watches_known v.watching) p.set.added.items place w there_w
        ∙ ap (λ (l : List plain.Watch). l ++ w ∷ []) (sym added_is)

    client_is : known txns (record v { watching = after }) ≡ with_set (set_known (watches_known v.watching) name added.set) (known txns v)
    client_is =
        let with_sets : List plain.Watch → List plain.WatchSet → plain.Client = λ l ss. record (known txns v) { watching = record { watches = l; sets = ss } } in
        let list : watches_known after ≡ watches_known v.watching =
        ap (λ (x : Watching). watches_known x) same_watches in
        ap (λ (l : List plain.Watch). with_sets l (sets_known l after.sets.names after.sets.values.items)) list
        ∙ ap (with_sets (watches_known v.watching)) (
        ap (λ (ns : List Bytes). sets_known (watches_known v.watching) ns after.sets.values.items) names
        ∙ ap (sets_known (watches_known v.watching) mid.sets.names) added.kept
        ∙ put_at (watches_known v.watching) name added.set mid.sets.names mid.sets.values.items at (mid.sets.paired ∙ mid.sets.values.ok.0) p.placed.there
        ∙ placed_put (watches_known v.watching) name v.watching.sets.names v.watching.sets.values.items sets mid.sets.names mid.sets.values.items at p.placed p.set p.there (set_known (watches_known v.watching) name added.set) refl
        )
      where
        same_watches : record v.watching { watches = after.watches } ≡ v.watching
        same_watches = ap (λ x. record v.watching { watches = x }) (same_after ∙ same_mid)

    abbrev with_members : List plain.Watch → List plain.Watch → plain.Client
    with_members ms ad = with_set (record { name = name; members = ms; added = ad }) (known txns v)

    pub told_size : (text : Bytes) → number_behind (codes "size ") text ≡ Some size → MayLeave v.watching.watches.values.items p.set place size → IsMemberTold name w (known txns v) (known txns (record v { watching = after })) text (codes "size " ++ decimal size) ⊎ IsDoubleTold name w (known txns v) (known txns (record v { watching = after })) text (codes "size " ++ decimal size)
    told_size text found (inl (more, new)) =
        let count : size ≡ length (set_for name (known txns v)).members + 1 = more ∙ ap (λ (n : ℕ). n + 1) (sym count_is) in
        let some : ℕ → Option ℕ = λ n. Some n in
        let members : watches_at (watches_known v.watching) added.set.members.items ≡ (set_for name (known txns v)).members ++ w ∷ [] =
        ap (watches_at (watches_known v.watching)) (added.members ∙ grown p.set.members.items place size more)
        ∙ one_more_at (watches_known v.watching) p.set.members.items place w there_w
        ∙ ap (λ (l : List plain.Watch). l ++ w ∷ []) (sym members_is) in
        inl (record {
          size = found ∙ ap some count;
          new = λ among. new (among_is among);
          made_is = ap (λ (n : ℕ). codes "size " ++ decimal n) count;
          kept = client_is ∙ ap (λ (l : List plain.Watch). with_members l (watches_at (watches_known v.watching) added.set.added.items)) members ∙ ap (with_members ((set_for name (known txns v)).members ++ w ∷ [])) added_list;
        })
    told_size text found (inr (same, one)) =
        let count : size ≡ length (set_for name (known txns v)).members = same ∙ sym count_is in
        let some : ℕ → Option ℕ = λ n. Some n in
        let held = index_known schema v.watching.watches.names v.watching.watches.values.items watches (λ k x is. (sound.watches k x is).looked) p.set.members.items place watch.value watch.there one in
        let members : watches_at (watches_known v.watching) added.set.members.items ≡ (set_for name (known txns v)).members =
        ap (watches_at (watches_known v.watching)) (added.members ∙ not_grown p.set.members.items place size same) ∙ sym members_is in
        inr (record {
          size = found ∙ ap some count;
          member = held.member;
          there = subst (λ (l : List plain.Watch). Contains l held.member) (sym members_is) held.there;
          index = subst (λ (x : plain.Watch). AreOfOneIndex held.member.query x.query) (sym watch.is) held.index;
          made_is = ap (λ (n : ℕ). codes "size " ++ decimal n) count;
          kept = client_is ∙ ap (λ (l : List plain.Watch). with_members l (watches_at (watches_known v.watching) added.set.added.items)) members ∙ ap (with_members (set_for name (known txns v)).members) added_list;
        })

-- ---- watches that stay

pub values_same : (a b : Watching) → a.watches ≡ b.watches → a.watches.values.items ≡ b.watches.values.items
values_same a b same =
    let with_watches : record b { watches = a.watches } ≡ b = ap (λ x. record b { watches = x }) same in
    ap (λ (y : Watching). y.watches.values.items) with_watches

-- no number is told
pub no_number : (n : ℕ) → None ≡ Some n → ⊥
no_number n e = cc
