-- Which member of a set a text tells to have fired, as the code finds it.
use Rattle.std.proofs.Common.{arith, ◌≡◌, refl, ap, subst, sym, ◌∙◌, ℕ, zero, suc, List, [], ◌∷◌, ◌++◌, length, get_or, Option, Some, None, option_map, codes}
use Rattle.std.specs.Prelude.{option_and_then, slice_get}
use Rattle.std.proofs.lemmas.Option.{same_Some, slice_get-get_or}
use Rattle.mdb_datum.specs.Bytes.{Bytes}
use Rattle.mdb_schema.specs.History.{History}
use Rattle.mdb_schema.specs.Schema.{DbSchema}
use Rattle.client_script.specs.Client as plain
use Rattle.run_check.specs.TextLines.{behind}
use Rattle.run_check.specs.declared.client.Client.{Client}
use Rattle.run_check.specs.declared.member.Woken.{Woken}
use Rattle.run_check.specs.declared.watching.Set.{Set}
use Rattle.run_check.specs.declared.watching.Watch.{Watch}
use Rattle.run_check.specs.inner.ClientView.{known, set_known, watch_known, watches_at, watches_known}
use Rattle.run_check.specs.inner.Decided.{HasName, IsFirstNamed}
use Rattle.run_check.specs.inner.FirstNamed.{FirstWoken, HasNameAt, IsFirst}
use Rattle.run_check.specs.inner.NamedView.{each_named}
use Rattle.run_check.specs.inner.SessionView.{IsSound}
use Rattle.run_check.specs.inner.StoreView.{Begun}
use Rattle.run_check.specs.inner.WaitView.{IsWokenMember, TellsMember}
use Rattle.run_check.proofs.FirstMembers.{AllWithin, AreNames, IsFound, first_member, no_member_named}
use Rattle.run_check.proofs.SnapshotsTold.{named_length}
use Rattle.run_check.proofs.TextsBack.{behind_back}
use Rattle.run_check.proofs.WatchesKnown.{IsNamed, named_from}
use Rattle.run_check.proofs.WrittenNumbers.{behind_self}

none_some : {A : Type 0} (a : A) → None ≡ Some a → ⊥
none_some a e = cc

-- watches are known under their names
pub names_known : (ns : List Bytes) (vs : List Watch) → length ns ≡ length vs → AreNames ns (each_named watch_known ns vs)
names_known [] vs same k = refl
names_known (n ∷ ns) [] same k = absurd (omega (arith, same))
names_known (n ∷ ns) (v ∷ vs) same zero = refl
names_known (n ∷ ns) (v ∷ vs) same (suc k) = names_known ns vs (omega (arith, same)) k

-- a set of a client has its members at places that the code keeps
pub record IsKeptSet (v : Client) (set : ℕ) (s : plain.WatchSet) (x : Set) : Type 0 where
  pub there : slice_get v.watching.sets.values.items set ≡ Some x
  pub members : s.members ≡ watches_at (watches_known v.watching) x.members.items
  pub within : AllWithin (length (watches_known v.watching)) x.members.items

module _ (schema : DbSchema) (H : History) (txns : List Begun) (v : Client) (sound : IsSound schema H txns v) (paired : length v.watching.watches.names ≡ length v.watching.watches.values.items)
    (set : ℕ) (s : plain.WatchSet) (there : slice_get (known txns v).watching.sets set ≡ Some s) where
  pub kept_set : (x : Set) × IsKeptSet v set s x
  kept_set =
      let found : IsNamed (set_known (watches_known v.watching)) v.watching.sets.values.items set s = named_from (set_known (watches_known v.watching)) v.watching.sets.names v.watching.sets.values.items set s there in
      let long = named_length watch_known v.watching.watches.names v.watching.watches.values.items paired in (
        found.value,
        record {
          there = found.there;
          members = ap (λ (y : plain.WatchSet). y.members) found.is;
          within = λ k at listed. let low = (sound.sets set found.value found.there).members k at listed in omega (arith, low, long);
        },
      )

  pub kept_as : (x : Set) → slice_get v.watching.sets.values.items set ≡ Some x → IsKeptSet v set s x
  kept_as x is = subst (IsKeptSet v set s) (same_Some kept_set.0 x (sym kept_set.1.there ∙ is)) kept_set.1

  pub lost_set : slice_get v.watching.sets.values.items set ≡ None → ⊥
  lost_set none = none_some kept_set.0 (sym none ∙ kept_set.1.there)

  module _ (text rest : Bytes) (begins : behind (codes "fired ") text ≡ Some rest) where
    one_rest : (other : Bytes) → text ≡ codes "fired " ++ other → other ≡ rest
    one_rest other is = same_Some other rest (sym (behind_self (codes "fired ") other) ∙ ap (behind (codes "fired ")) (sym is) ∙ begins)

    -- no member is named
    no_place : ((x : Set) → slice_get v.watching.sets.values.items set ≡ Some x → IsFirst (HasNameAt v.watching.watches.names rest) x.members.items None) → TellsMember s.members text None
    no_place first other after q w is at has =
        no_member_named v.watching.watches.names (watches_known v.watching) kept_set.0.members.items rest (names_known v.watching.watches.names v.watching.watches.values.items paired) kept_set.1.within (first kept_set.0 kept_set.1.there) q w after
        (ap (λ (ms : List plain.Watch). slice_get ms q) (sym kept_set.1.members) ∙ at)
        (subst (λ (bs : Bytes). HasName w.name bs after) (one_rest other is) has)

    module _ (k : ℕ) (first : (x : Set) → slice_get v.watching.sets.values.items set ≡ Some x → IsFirst (HasNameAt v.watching.watches.names rest) x.members.items (Some k)) where
      found : IsFound v.watching.watches.names (watches_known v.watching) kept_set.0.members.items rest k
      found = first_member v.watching.watches.names (watches_known v.watching) kept_set.0.members.items rest k (names_known v.watching.watches.names v.watching.watches.values.items paired) kept_set.1.within (first kept_set.0 kept_set.1.there)

      found_name : option_and_then (slice_get v.watching.watches.names) (slice_get kept_set.0.members.items k) ≡ Some found.member.name
      found_name =
          let listed : slice_get kept_set.0.members.items k ≡ Some (get_or kept_set.0.members.items k 0) = slice_get-get_or kept_set.0.members.items k 0 (first kept_set.0 kept_set.1.there).0 in
          ap (option_and_then (slice_get v.watching.watches.names)) listed
          ∙ names_known v.watching.watches.names v.watching.watches.values.items paired (get_or kept_set.0.members.items k 0)
          ∙ ap (option_map (λ (w : plain.Watch). w.name)) found.there

      found_behind : behind found.member.name rest ≡ Some (codes " @" ++ found.after)
      found_behind = ap (behind found.member.name) found.first.name ∙ behind_self found.member.name (codes " @" ++ found.after)

      -- it has a name
      has_name : (o : Option Bytes) → ((x : Set) → slice_get v.watching.sets.values.items set ≡ Some x → o ≡ option_and_then (slice_get v.watching.watches.names) (slice_get x.members.items k)) → o ≡ Some found.member.name
      has_name o is = is kept_set.0 kept_set.1.there ∙ found_name

      module _ (name : Bytes) (is : (x : Set) → slice_get v.watching.sets.values.items set ≡ Some x → Some name ≡ option_and_then (slice_get v.watching.watches.names) (slice_get x.members.items k)) where
        same_name : name ≡ found.member.name
        same_name = same_Some name found.member.name (has_name (Some name) is)

        name_behind : behind name rest ≡ Some (codes " @" ++ found.after)
        name_behind = ap (λ (n : Bytes). behind n rest) same_name ∙ found_behind

        member_told : (told : Woken) → told.place ≡ k → told.name.now ≡ name → behind name rest ≡ Some told.behind.now → IsWokenMember s.members text told
        member_told told place called back =
            record {
              member = found.member;
              rest = rest;
              after = found.after;
              begins = behind_back (codes "fired ") text rest begins;
              first = subst (λ (p : ℕ). IsFirstNamed s.members rest found.after p found.member) (sym place) (subst (λ (ms : List plain.Watch). IsFirstNamed ms rest found.after k found.member) (sym kept_set.1.members) found.first);
              name = called ∙ same_name;
              behind = same_Some told.behind.now (codes " @" ++ found.after) (sym back ∙ name_behind);
            }

    -- the member that the code finds
    pub member_tells : (o : Option Woken) → ((x : Set) → slice_get v.watching.sets.values.items set ≡ Some x → FirstWoken v.watching.watches.names rest x.members.items o) → TellsMember s.members text o
    member_tells None tells = no_place tells
    member_tells (Some w) tells =
        member_told w.place (λ x is. (tells x is).0) w.name.now
        (λ x is. let t = tells x is in sym (ap (option_and_then (slice_get v.watching.watches.names)) (slice_get-get_or x.members.items w.place 0 t.0.0) ∙ t.1))
        w refl refl (tells kept_set.0 kept_set.1.there).2
