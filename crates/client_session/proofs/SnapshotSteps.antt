-- One more snapshot under its name.
use Rattle.std.proofs.Common.{◌≡◌, refl, ap, ◌∙◌, cond, Bool, true, false, Option, Some}
use Rattle.std.specs.Prelude.{option_map}
use Rattle.client_session.specs.declared.any_snapshot.AnySnapshot.{AnySnapshot}
use Rattle.client_session.specs.inner.SnapshotView.{snapshot_view}

snapshot_cases : (same : Bool) (k : AnySnapshot) (old : Option AnySnapshot) → option_map snapshot_view (cond same (Some k) old) ≡ cond same (Some (snapshot_view k)) (option_map snapshot_view old)
snapshot_cases true k old = refl
snapshot_cases false k old = refl

pub seen_step : (found : Option AnySnapshot) (same : Bool) (k : AnySnapshot) (old : Option AnySnapshot) → found ≡ cond same (Some k) old → option_map snapshot_view found ≡ cond same (Some (snapshot_view k)) (option_map snapshot_view old)
seen_step found same k old e = ap (option_map snapshot_view) e ∙ snapshot_cases same k old
