-- Watches at places, as the lists that a client knows.
use Rattle.std.proofs.Common.{arith, ◌≡◌, refl, ap, subst, sym, ◌∙◌, ℕ, zero, suc, inl, inr, List, [], ◌∷◌, length, get_or, Option, Some, None}
use Rattle.std.specs.Prelude.{Contains, filter_map, slice_get}
use Rattle.std.specs.List.{cons_option}
use Rattle.std.proofs.lemmas.Option.{get_or_from_slice_get, same_Some, slice_get-get_or, slice_get_within}
use Rattle.mdb_datum.specs.Bytes.{Bytes}
use Rattle.mdb_schema.proofs.Membership.{Contains-cons_cases, Contains-first, Contains-later, Contains-nil}
use Rattle.mdb_schema.specs.Query.{Query}
use Rattle.mdb_schema.specs.Schema.{DbSchema}
use Rattle.client_script.specs.Client as plain
use Rattle.client_script.specs.Watching.{AreOfOneIndex, IsAmong}
use Rattle.run_check.specs.declared.watching.Watch.{Watch}
use Rattle.run_check.specs.inner.ClientView.{watch_known, watches_at}
use Rattle.run_check.specs.inner.LookupView.{IsLookup}
use Rattle.run_check.specs.inner.NamedView.{each_named}
use Rattle.run_check.specs.inner.WatchView.{AreLike, OneOf, ShareIndex}
use Rattle.run_check.proofs.IndexesShared.{known_shared, shared_known}

-- ---- values with their names

pub named_at : {A B : Type 0} (f : Bytes → A → B) (ns : List Bytes) (vs : List A) (k : ℕ) (v : A) → length ns ≡ length vs → slice_get vs k ≡ Some v → (n : Bytes) × (slice_get (each_named f ns vs) k ≡ Some (f n v))
named_at f ns [] k v same there = cc
named_at f [] (x ∷ vs) k v same there = absurd (omega (arith, same))
named_at {A} {B} f (n ∷ ns) (x ∷ vs) zero v same there =
    let some : A → Option B = λ y. Some (f n y) in
    (n, ap some (same_Some x v there))
named_at f (n ∷ ns) (x ∷ vs) (suc k) v same there = named_at f ns vs k v (omega (arith, same)) there

-- a value with its name stands where the value does
pub record IsNamed {A B : Type 0} (f : Bytes → A → B) (vs : List A) (k : ℕ) (b : B) : Type 0 where
  pub name : Bytes
  pub value : A
  pub there : slice_get vs k ≡ Some value
  pub is : b ≡ f name value

pub named_from : {A B : Type 0} (f : Bytes → A → B) (ns : List Bytes) (vs : List A) (k : ℕ) (b : B) → slice_get (each_named f ns vs) k ≡ Some b → IsNamed f vs k b
named_from f [] vs k b there = cc
named_from f (n ∷ ns) [] k b there = cc
named_from f (n ∷ ns) (x ∷ vs) zero b there = record { name = n; value = x; there = refl; is = sym (same_Some (f n x) b there) }
named_from f (n ∷ ns) (x ∷ vs) (suc k) b there =
    let rest = named_from f ns vs k b there in
    record { name = rest.name; value = rest.value; there = rest.there; is = rest.is }

-- ---- those at places

kept_behind : {A : Type 0} (o : Option A) (xs : List A) (x : A) → Contains xs x → Contains (cons_option o xs) x
kept_behind None xs x there = there
kept_behind (Some y) xs x there = Contains-later y xs x there

pub at_places : {A : Type 0} (ws : List A) (places : List ℕ) (i p : ℕ) (w : A) → slice_get places i ≡ Some p → slice_get ws p ≡ Some w → Contains (filter_map (slice_get ws) places) w
at_places ws [] i p w place there = cc
at_places {A} ws (q ∷ places) zero p w place there =
    let rest = filter_map (slice_get ws) places in
    let found : slice_get ws q ≡ Some w = ap (slice_get ws) (same_Some q p place) ∙ there in
    subst (λ (o : Option A). Contains (cons_option o rest) w) (sym found) (Contains-first w rest)
at_places ws (q ∷ places) (suc i) p w place there =
    kept_behind (slice_get ws q) (filter_map (slice_get ws) places) w (at_places ws places i p w place there)

-- what is among those at places stands at one of them
pub record IsAtPlace {A : Type 0} (ws : List A) (places : List ℕ) (w : A) : Type 0 where
  pub index : ℕ
  pub place : ℕ
  pub listed : slice_get places index ≡ Some place
  pub there : slice_get ws place ≡ Some w

pub from_places : {A : Type 0} (ws : List A) (places : List ℕ) (w : A) → Contains (filter_map (slice_get ws) places) w → IsAtPlace ws places w
from_places ws [] w among = absurd (Contains-nil w among)
from_places {A} ws (q ∷ places) w among = of (slice_get ws q) refl (λ later. from_places ws places w later) among
  where
    behind : IsAtPlace ws places w → IsAtPlace ws (q ∷ places) w
    behind at = record { index = suc at.index; place = at.place; listed = at.listed; there = at.there }

    first : (x : A) → slice_get ws q ≡ Some x → (x ≡ w) → IsAtPlace ws (q ∷ places) w
    first x is same = record { index = 0; place = q; listed = refl; there = subst (λ (y : A). slice_get ws q ≡ Some y) same is }

    of : (o : Option A) → slice_get ws q ≡ o → (Contains (filter_map (slice_get ws) places) w → IsAtPlace ws places w) → Contains (cons_option o (filter_map (slice_get ws) places)) w → IsAtPlace ws (q ∷ places) w
    of None is rest there = behind (rest there)
    of (Some x) is rest there =
        elim (Contains-cons_cases x (filter_map (slice_get ws) places) w there) [ inl same ↦ first x is same | inr later ↦ behind (rest later) ]

-- ---- like watches

module _ (ns : List Bytes) (vs : List Watch) (paired : length ns ≡ length vs) (places : List ℕ) (at : ℕ) (m : Bytes) (b : Watch) (there : slice_get vs at ≡ Some b) where
  abbrev all : List plain.Watch
  all = each_named watch_known ns vs

  pub among_known : OneOf AreLike vs places at → IsAmong (watch_known m b) (watches_at all places)
  among_known (k, within, (a, c, one, other, (number, query))) =
      let listed : slice_get places k ≡ Some (get_or places k 0) = slice_get-get_or places k 0 within in
      let found = named_at watch_known ns vs (get_or places k 0) a paired one in
      let same : c ≡ b = same_Some c b (sym other ∙ there) in
      record {
        like = watch_known found.0 a;
        there = at_places all places k (get_or places k 0) (watch_known found.0 a) listed found.1;
        query = query ∙ ap (λ (w : Watch). w.query.now) same;
        number = number ∙ ap (λ (w : Watch). w.number) same;
      }

  pub known_among : IsAmong (watch_known m b) (watches_at all places) → OneOf AreLike vs places at
  known_among among =
      let found = from_places all places among.like among.there in
      let named = named_from watch_known ns vs found.place among.like found.there in
      let here : get_or places found.index 0 ≡ found.place = get_or_from_slice_get places found.index found.place 0 found.listed in (
        found.index,
        slice_get_within places found.index found.place found.listed,
        (
          named.value,
          b,
          ap (slice_get vs) here ∙ named.there,
          there,
          (
            ap (λ (w : plain.Watch). w.number) (sym named.is) ∙ among.number,
            ap (λ (w : plain.Watch). w.query) (sym named.is) ∙ among.query,
          ),
        ),
      )

-- ---- watches of one index

-- one of the known watches at places is of the question's index
pub record HoldsIndex (ws : List plain.Watch) (places : List ℕ) (q : Query) : Type 0 where
  pub member : plain.Watch
  pub there : Contains (watches_at ws places) member
  pub index : AreOfOneIndex member.query q

module _ (schema : DbSchema) (ns : List Bytes) (vs : List Watch) (paired : length ns ≡ length vs) (looked : (k : ℕ) (w : Watch) → slice_get vs k ≡ Some w → IsLookup schema w.query.now w.at) (places : List ℕ) (at : ℕ) (b : Watch) (there : slice_get vs at ≡ Some b) where
  pub index_known : OneOf ShareIndex vs places at → HoldsIndex (each_named watch_known ns vs) places b.query.now
  index_known (k, within, (a, c, one, other, (table, index))) =
      let listed : slice_get places k ≡ Some (get_or places k 0) = slice_get-get_or places k 0 within in
      let found = named_at watch_known ns vs (get_or places k 0) a paired one in
      let same : c ≡ b = same_Some c b (sym other ∙ there) in
      record {
        member = watch_known found.0 a;
        there = at_places (each_named watch_known ns vs) places k (get_or places k 0) (watch_known found.0 a) listed found.1;
        index = shared_known schema a.query.now b.query.now a.at b.at (looked (get_or places k 0) a one) (looked at b there)
            (table ∙ ap (λ (w : Watch). w.at.table) same) (index ∙ ap (λ (w : Watch). w.at.index) same);
      }

  pub known_index : HoldsIndex (each_named watch_known ns vs) places b.query.now → OneOf ShareIndex vs places at
  known_index holds =
      let found = from_places (each_named watch_known ns vs) places holds.member holds.there in
      let named = named_from watch_known ns vs found.place holds.member found.there in
      let here : get_or places found.index 0 ≡ found.place = get_or_from_slice_get places found.index found.place 0 found.listed in
      let index = subst (λ (w : plain.Watch). AreOfOneIndex w.query b.query.now) named.is holds.index in
      let shared = known_shared schema named.value.query.now b.query.now named.value.at b.at (looked found.place named.value named.there) (looked at b there) index in (
        found.index,
        slice_get_within places found.index found.place found.listed,
        (named.value, b, ap (slice_get vs) here ∙ named.there, there, (shared.0, shared.1)),
      )
