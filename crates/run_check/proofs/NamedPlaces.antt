-- What stands under a name stands at the name's place.
use Rattle.std.proofs.Common.{arith, ◌≡◌, refl, ap, sym, ◌∙◌, ℕ, suc, List, [], ◌∷◌, length, Bool, true, false, Option, Some, None, option_map}
use Rattle.std.specs.Prelude.{if◌then◌else◌, slice_get}
use Rattle.std.specs.Str.{bytes_eq}
use Rattle.std.proofs.lemmas.Option.{same_Some}
use Rattle.mdb_datum.specs.Bytes.{Bytes}
use Rattle.client_script.specs.Client as plain
use Rattle.client_script.specs.Client.{set_named, watch_named}
use Rattle.run_check.specs.declared.watching.Watching.{Watching}
use Rattle.run_check.specs.inner.CalledView.{IsSetAt, IsWatchAt}
use Rattle.run_check.specs.inner.ClientView.{set_known, watch_known, watches_known, watching_known}
use Rattle.run_check.specs.inner.NamedView.{each_named, place_in}

-- a search by names goes through values that are listed with theirs
module _ {A B : Type 0} (f : Bytes → A → B) (find : Bytes → List B → Option B)
    (one : (name n : Bytes) (a : A) (bs : List B) → find name (f n a ∷ bs) ≡ (if bytes_eq n name then Some (f n a) else find name bs)) where
  -- what it finds stands at the place
  record IsFoundAt (name : Bytes) (ns : List Bytes) (vs : List A) (place : ℕ) : Type 0 where
    value : B
    named : find name (each_named f ns vs) ≡ Some value
    there : slice_get (each_named f ns vs) place ≡ Some value

  abbrev chosen : Bytes → Bytes → A → List B → Bool → Option B
  chosen name n a bs t = if t then Some (f n a) else find name bs

  found_there : (name : Bytes) (ns : List Bytes) (vs : List A) (place : ℕ) → length ns ≡ length vs → place_in name ns ≡ Some place → IsFoundAt name ns vs place
  found_there name [] vs place same at = cc
  found_there name (n ∷ ns) [] place same at = absurd (omega (arith, same))
  found_there name (n ∷ ns) (v ∷ vs) place same at =
      of (bytes_eq n name) refl (place_in name ns) (λ p there. found_there name ns vs p (omega (arith, same)) there) refl at
    where
      of : (t : Bool) → bytes_eq n name ≡ t → (o : Option ℕ) → ((p : ℕ) → place_in name ns ≡ Some p → IsFoundAt name ns vs p) → place_in name ns ≡ o → (if t then Some 0 else option_map suc o) ≡ Some place → IsFoundAt name (n ∷ ns) (v ∷ vs) place
      of true is o rest found e = record {
        value = f n v;
        named = one name n v (each_named f ns vs) ∙ ap (chosen name n v (each_named f ns vs)) is;
        there = ap (slice_get (f n v ∷ each_named f ns vs)) (sym (same_Some 0 place e));
      }
      of false is None rest found e = cc
      of false is (Some p) rest found e =
          let behind = rest p found in
          record {
            value = behind.value;
            named = one name n v (each_named f ns vs) ∙ ap (chosen name n v (each_named f ns vs)) is ∙ behind.named;
            there = ap (slice_get (f n v ∷ each_named f ns vs)) (sym (same_Some (suc p) place e)) ∙ behind.there;
          }

  -- and where there is none, it finds none
  none_found : ((name : Bytes) → find name [] ≡ None) → (name : Bytes) (ns : List Bytes) (vs : List A) → place_in name ns ≡ None → find name (each_named f ns vs) ≡ None
  none_found none name [] vs at = none name
  none_found none name (n ∷ ns) [] at = none name
  none_found none name (n ∷ ns) (v ∷ vs) at =
      of (bytes_eq n name) refl (place_in name ns) (λ e. none_found none name ns vs e) refl at
    where
      of : (t : Bool) → bytes_eq n name ≡ t → (o : Option ℕ) → (place_in name ns ≡ None → find name (each_named f ns vs) ≡ None) → place_in name ns ≡ o → (if t then Some 0 else option_map suc o) ≡ None → find name (f n v ∷ each_named f ns vs) ≡ None
      of true is o rest found e = cc
      of false is None rest found e = one name n v (each_named f ns vs) ∙ ap (chosen name n v (each_named f ns vs)) is ∙ rest found
      of false is (Some p) rest found e = cc

module _ (name : Bytes) (v : Watching) where
  watch_step : (name n : Bytes) (w : _) (bs : List plain.Watch) → watch_named name (watch_known n w ∷ bs) ≡ (if bytes_eq n name then Some (watch_known n w) else watch_named name bs)
  watch_step name n w bs = refl

  set_step : (ws : List plain.Watch) (name n : Bytes) (s : _) (bs : List plain.WatchSet) → set_named name (set_known ws n s ∷ bs) ≡ (if bytes_eq n name then Some (set_known ws n s) else set_named name bs)
  set_step ws name n s bs = refl

  pub watch_at : (place : ℕ) → length v.watches.names ≡ length v.watches.values.items → place_in name v.watches.names ≡ Some place → IsWatchAt name v place
  watch_at place paired at =
      let found = found_there watch_known watch_named watch_step name v.watches.names v.watches.values.items place paired at in
      record { watch = found.value; named = found.named; there = found.there }

  pub no_watch : place_in name v.watches.names ≡ None → watch_named name (watches_known v) ≡ None
  no_watch at = none_found watch_known watch_named watch_step (λ n. refl) name v.watches.names v.watches.values.items at

  pub set_at : (place : ℕ) → length v.sets.names ≡ length v.sets.values.items → place_in name v.sets.names ≡ Some place → IsSetAt name v place
  set_at place paired at =
      let found = found_there (set_known (watches_known v)) set_named (set_step (watches_known v)) name v.sets.names v.sets.values.items place paired at in
      record { set = found.value; named = found.named; there = found.there }

  pub no_set : place_in name v.sets.names ≡ None → set_named name (watching_known v).sets ≡ None
  no_set at = none_found (set_known (watches_known v)) set_named (set_step (watches_known v)) (λ n. refl) name v.sets.names v.sets.values.items at
