-- The watch at a place, as the code keeps it and as a client knows it.
use Rattle.std.proofs.Common.{◌≡◌, ap, subst, sym, ◌∙◌, ℕ, ◌<◌, Decides, List, length, None, Option, Some, option_map}
use Rattle.std.specs.Borrow.{Bor}
use Rattle.std.specs.Prelude.{slice_get}
use Rattle.std.proofs.lemmas.Option.{same_Some}
use Rattle.mdb_datum.proofs.ListPlaces.{there_within}
use Rattle.mdb_schema.specs.History.{History}
use Rattle.mdb_schema.specs.Query.{Query}
use Rattle.mdb_schema.specs.Schema.{DbSchema}
use Rattle.mdb_schema.specs.Watchable.{HasFound}
use Rattle.client_script.specs.Client as plain
use Rattle.run_check.specs.declared.client.Client.{Client}
use Rattle.run_check.specs.declared.session.Sessions.{Sessions}
use Rattle.run_check.specs.declared.watching.Watch.{Watch}
use Rattle.run_check.specs.inner.ClientView.{watch_known, watches_known}
use Rattle.run_check.specs.inner.GuardView.{IsWatchedAt}
use Rattle.run_check.specs.inner.SessionView.{AreKnown, IsKnown}
use Rattle.run_check.specs.inner.StoreView.{Begun, indexes_at}
use Rattle.run_check.proofs.Watched.{watched_index, watched_table}
use Rattle.run_check.proofs.WatchesKnown.{named_from}

-- what a look at the place finds
pub found_at_place : (v : Client) (place : ℕ) (o : Option (Bor Watch)) (x : Bor Watch) → option_map (λ (w : Bor Watch). w.now) o ≡ slice_get v.watching.watches.values.items place → o ≡ Some x → slice_get v.watching.watches.values.items place ≡ Some x.now
found_at_place v place o x looks is = sym looks ∙ ap (option_map (λ (w : Bor Watch). w.now)) is

-- there is a watch where a known one is
pub none_at_place : (v : Client) (place : ℕ) (o : Option (Bor Watch)) (w : plain.Watch) → option_map (λ (w : Bor Watch). w.now) o ≡ slice_get v.watching.watches.values.items place → o ≡ None → slice_get (watches_known v.watching) place ≡ Some w → ⊥
none_at_place v place o w looks is there =
    let named = named_from watch_known v.watching.watches.names v.watching.watches.values.items place w there in
    let none : Option Watch = None in
    no_value named.value (sym (ap (option_map (λ (w : Bor Watch). w.now)) is) ∙ looks ∙ named.there)
  where
    no_value : (x : Watch) → None ≡ Some x → ⊥
    no_value x e = cc

module _ (s : Sessions) (v : Client) (place : ℕ) (x : Watch) (there : slice_get v.watching.watches.values.items place ≡ Some x) where
  -- it looks in an index that is there
  pub placed_table : AreKnown s v → x.at.table < length s.store.tables.items
  placed_table (schema, H, txns, knows) = watched_table schema H txns s.store knows.stands x.query.now x.at (knows.sound.watches place x there).looked

  pub placed_index : AreKnown s v → x.at.index < length (indexes_at s.store x.at.table)
  placed_index (schema, H, txns, knows) = watched_index schema H txns s.store knows.stands x.query.now x.at (knows.sound.watches place x there).looked

  module _ (schema : DbSchema) (H : History) (txns : List Begun) (knows : IsKnown schema H txns s v) where
    -- and whether it found an entry is known of just that look
    pub record IsLookedAt : Type 0 where
      pub at : IsWatchedAt schema H txns x.query.now x.at (indexes_at s.store x.at.table)
      pub found : Decides x.has_found (HasFound schema H x.query.now x.number at.lookup.at)

    pub looked_at : IsLookedAt
    looked_at =
        let sound = knows.sound.watches place x there in
        let look = sound.looked in
        let index = there_within (indexes_at s.store x.at.table) x.at.index (watched_index schema H txns s.store knows.stands x.query.now x.at look) in
        record {
          at = record {
            lookup = look;
            watchable = sound.watchable;
            index = index.0;
            there = index.1;
            stands = knows.stands.each x.at.table x.at.index look.table look.at.index index.0 look.there look.index index.1;
          };
          found = sound.found;
        }

  module _ (w : plain.Watch) (known : slice_get (watches_known v.watching) place ≡ Some w) where
    -- a client knows its question and its number
    placed_query : x.query.now ≡ w.query
    placed_query =
        let named = named_from watch_known v.watching.watches.names v.watching.watches.values.items place w known in
        let same : x ≡ named.value = same_Some x named.value (sym there ∙ named.there) in
        ap (λ (y : Watch). y.query.now) same ∙ sym (ap (λ (y : plain.Watch). y.query) named.is)

    placed_number : x.number ≡ w.number
    placed_number =
        let named = named_from watch_known v.watching.watches.names v.watching.watches.values.items place w known in
        let same : x ≡ named.value = same_Some x named.value (sym there ∙ named.there) in
        ap (λ (y : Watch). y.number) same ∙ sym (ap (λ (y : plain.Watch). y.number) named.is)

    -- so what holds of these holds of what the client knows
    pub placed_same : (P : Query → ℕ → Type 0) → P x.query.now x.number → P w.query w.number
    placed_same P holds = subst (P w.query) placed_number (subst (λ (q : Query). P q x.number) placed_query holds)
