-- What holds of a client holds with a snapshot more.
use Rattle.std.proofs.Common.{◌≡◌, ◌∙◌, ◌++◌, ◌∷◌, ◌⊎◌, inl, inr, ℕ, List, [], Some, sym, ap, subst}
use Rattle.std.specs.Prelude.{slice_get}
use Rattle.mdb_schema.specs.History.{History}
use Rattle.mdb_schema.specs.Schema.{DbSchema}
use Rattle.run_check.specs.declared.client.Client.{Client}
use Rattle.run_check.specs.declared.sight.Sight.{Sight}
use Rattle.run_check.specs.inner.SessionView.{IsSound}
use Rattle.run_check.specs.inner.StoreView.{Begun, IsSightOf}
use Rattle.run_check.proofs.WatchesKept.{at_more}

module _ (schema : DbSchema) (H : History) (txns : List Begun) (v k : Client) (sound : IsSound schema H txns v) (s : Sight) (sight : IsSightOf H txns s)
    (same : k ≡ record v { snapshots = k.snapshots }) (values : k.snapshots.values.items ≡ v.snapshots.values.items ++ s ∷ []) where
  pub sound_snapshot : IsSound schema H txns k
  sound_snapshot = subst (IsSound schema H txns) (sym same) (record {
    last = sound.last;
    reading = sound.reading;
    writing = sound.writing;
    carried = sound.carried;
    snapshots = λ j x there. of j x (at_more v.snapshots.values.items s x j (ap (λ (vs : List Sight). slice_get vs j) (sym values) ∙ there));
    watches = sound.watches;
    sets = sound.sets;
  })
    where
      of : (j : ℕ) (x : Sight) → (slice_get v.snapshots.values.items j ≡ Some x) ⊎ (s ≡ x) → IsSightOf H txns x
      of j x (inl there) = sound.snapshots j x there
      of j x (inr is) = subst (IsSightOf H txns) is sight
