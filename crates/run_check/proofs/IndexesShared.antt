-- Two questions are of one index exactly where they look at the same places.
use Rattle.std.proofs.Common.{◌≡◌, refl, ap, sym, ◌∙◌, ℕ, suc, ◌+◌, List, [], ◌∷◌, Bool, true, false, not, Option, Some, None, option_map, Result, Ok, Err, add-one}
use Rattle.std.specs.Prelude.{◌||◌, if◌then◌else◌, slice_get}
use Rattle.std.specs.Str.{bytes_eq}
use Rattle.std.proofs.lemmas.Option.{same_Some}
use Rattle.mdb_datum.specs.Bytes.{Bytes}
use Rattle.mdb_encode.specs.ArgRefusal.{arg_count}
use Rattle.mdb_schema.specs.Answer.{Asked, Lookup, bad_argument, has_argument, key_asked, lookup_of, may_ask, may_name, needs_argument, no_prefix_name, not_unique, own_name, unknown_index}
use Rattle.mdb_schema.specs.Query.{Query}
use Rattle.mdb_schema.specs.Schema.{DbSchema, IndexSchema, TableSchema, index_place, table_place}
use Rattle.mdb_schema.specs.Tests.{◌>>=◌, needed, passed}
use Rattle.mdb_schema.proofs.Membership.{same_key}
use Rattle.mdb_schema.proofs.Tables.{table_place-name}
use Rattle.client_script.specs.Watching.{AreOfOneIndex}
use Rattle.run_check.specs.declared.lookup.Lookup as code
use Rattle.run_check.specs.inner.LookupView.{IsLookup}

-- ---- what passes

then_ok : {A B E : Type 0} (r : Result A E) (f : A → Result B E) (b : B) → (r >>= f) ≡ Ok b → (a : A) × (r ≡ Ok a) × (f a ≡ Ok b)
then_ok (Ok a) f b e = (a, refl, e)
then_ok (Err x) f b e = cc

needed_ok : {A E : Type 0} (x : E) (o : Option A) (a : A) → needed x o ≡ Ok a → o ≡ Some a
needed_ok x None a e = cc
needed_ok x (Some b) a e = cc

-- the index at the place of a name has that name
index_place-name : (name : Bytes) (is : List IndexSchema) (place : ℕ) (i : IndexSchema) → index_place name is ≡ Some place → slice_get is place ≡ Some i → i.name ≡ name
index_place-name name [] place i at there = cc
index_place-name name (x ∷ is) place i at there = of (bytes_eq x.name name) refl (index_place name is) (λ p q. index_place-name name is p i q) refl at
  where
    of : (t : Bool) → bytes_eq x.name name ≡ t → (o : Option ℕ) → ((p : ℕ) → index_place name is ≡ Some p → slice_get is p ≡ Some i → i.name ≡ name) → index_place name is ≡ o → (if t then Some 0 else option_map (λ n. n + 1) o) ≡ Some place → i.name ≡ name
    of true same o rest is_o e =
        let first : slice_get (x ∷ is) 0 ≡ Some i = ap (slice_get (x ∷ is)) (same_Some 0 place e) ∙ there in
        ap (λ (y : IndexSchema). y.name) (sym (same_Some x i first)) ∙ same_key x.name name same
    of false other None rest is_o e = cc
    of false other (Some p) rest is_o e =
        let later : slice_get (x ∷ is) (suc p) ≡ Some i = ap (slice_get (x ∷ is)) (sym (add-one p) ∙ same_Some (p + 1) place e) ∙ there in
        rest p is_o later

module _ (t : TableSchema) (q : Query) where
  abbrev with_key : ℕ → IndexSchema → Asked Lookup
  with_key place i = key_asked i q q.args >>= (λ k. Ok (record { place = place; index = i; key = k }))

  abbrev with_enough : ℕ → IndexSchema → Asked Lookup
  with_enough place i = passed (bad_argument arg_count) (not (needs_argument q.ask) || has_argument q) >>= (λ u. with_key place i)

  abbrev with_able : ℕ → IndexSchema → Asked Lookup
  with_able place i = passed not_unique (may_ask q.ask i) >>= (λ u. with_enough place i)

  abbrev with_index : ℕ → Asked Lookup
  with_index place = needed unknown_index (slice_get t.indexes place) >>= with_able place

  abbrev with_place : Asked Lookup
  with_place = needed unknown_index (index_place (own_name q.index) t.indexes) >>= with_index

  looked_place : (at : Lookup) → lookup_of t q ≡ Ok at → index_place (own_name q.index) t.indexes ≡ Some at.place
  looked_place at looked =
      let named = then_ok (passed no_prefix_name (may_name q.ask q)) (λ u. with_place) at looked in
      let placed = then_ok (needed unknown_index (index_place (own_name q.index) t.indexes)) with_index at named.2 in
      let there = then_ok (needed unknown_index (slice_get t.indexes placed.0)) (with_able placed.0) at placed.2 in
      let able = then_ok (passed not_unique (may_ask q.ask there.0)) (λ u. with_enough placed.0 there.0) at there.2 in
      let enough = then_ok (passed (bad_argument arg_count) (not (needs_argument q.ask) || has_argument q)) (λ u. with_key placed.0 there.0) at able.2 in
      let key = then_ok (key_asked there.0 q q.args) (λ k. Ok (record { place = placed.0; index = there.0; key = k })) at enough.2 in
      let same : placed.0 ≡ at.place = ap (place_or 0) key.2 in
      let some : ℕ → Option ℕ = λ n. Some n in
      needed_ok unknown_index (index_place (own_name q.index) t.indexes) placed.0 placed.1 ∙ ap some same
    where
      place_or : ℕ → Asked Lookup → ℕ
      place_or d (Ok l) = l.place
      place_or d (Err r) = d

-- ---- one index

module _ (schema : DbSchema) (q r : Query) (l m : code.Lookup) (one : IsLookup schema q l) (other : IsLookup schema r m) where
  placed : (s : Query) (n : code.Lookup) (is : IsLookup schema s n) → index_place (own_name s.index) is.table.indexes ≡ Some n.index
  placed s n is = let some : ℕ → Option ℕ = λ k. Some k in looked_place is.table s is.at is.looked ∙ ap some (sym is.place)

  same_table : l.table ≡ m.table → one.table ≡ other.table
  same_table same = same_Some one.table other.table (sym one.there ∙ ap (slice_get schema) same ∙ other.there)

  pub shared_known : l.table ≡ m.table → l.index ≡ m.index → AreOfOneIndex q r
  shared_known tables indexes =
      let t : one.table ≡ other.table = same_table tables in
      let first : one.table.name ≡ q.table = table_place-name q.table schema l.table one.table one.named one.there in
      let second : other.table.name ≡ r.table = table_place-name r.table schema m.table other.table other.named other.there in
      let index_one : one.at.index.name ≡ own_name q.index = index_place-name (own_name q.index) one.table.indexes l.index one.at.index (placed q l one) one.index in
      let index_other : other.at.index.name ≡ own_name r.index = index_place-name (own_name r.index) other.table.indexes m.index other.at.index (placed r m other) other.index in
      let index : one.at.index ≡ other.at.index = same_Some one.at.index other.at.index (sym one.index ∙ ap (λ (x : TableSchema). slice_get x.indexes l.index) t ∙ ap (slice_get other.table.indexes) indexes ∙ other.index) in (
        sym first ∙ ap (λ (x : TableSchema). x.name) t ∙ second,
        sym index_one ∙ ap (λ (x : IndexSchema). x.name) index ∙ index_other,
      )

  pub known_shared : AreOfOneIndex q r → (l.table ≡ m.table) × (l.index ≡ m.index)
  known_shared (tables, indexes) =
      let table : l.table ≡ m.table = same_Some l.table m.table (sym one.named ∙ ap (λ (x : Bytes). table_place x schema) tables ∙ other.named) in
      let t : one.table ≡ other.table = same_table table in (
        table,
        same_Some l.index m.index (sym (placed q l one) ∙ ap (λ (x : Bytes). index_place x one.table.indexes) indexes ∙ ap (λ (x : TableSchema). index_place (own_name r.index) x.indexes) t ∙ placed r m other),
      )
