use Rattle.std.proofs.Common.{◌∙◌, ◌⊎◌, ℕ, Contains, ap, subst, sym}
use Rattle.std.specs.Prelude.{◌↔◌}
use Rattle.std.specs.FinMap as finite
use Rattle.mdb_datum.specs.Bytes.{byte_order}
use Rattle.run_check.specs.inner.IndexView.{IsCommit, KeyVersions, slot_at, with_slot}
use Rattle.run_check.proofs.IndexLooks.{if_made}
use Rattle.run_check.proofs.IndexWrites.{MayPut, is_written, latest_of_put, may_put, touch_may}
use Rattle.run_check.proofs.index.Index.put.Goals as goal

pub touch-requires : goal.touch-requires
touch-requires c n j is there =
    touch_may n c.args.stamp c.args.self.now is c.requires j (subst (λ (x : KeyVersions). Contains x.touched j) c.self.view_is there)

pub put_slot-requires : goal.put_slot-requires
put_slot-requires c = record {
  keys = c.self.invariant.keys;
  latest = latest_of_put c.args.stamp _ (subst (λ (x : KeyVersions). MayPut c.args.stamp (slot_at c.args.key.now x.slots)) (sym c.self.view_is)
      (may_put c.args.stamp c.args.self.now c.args.key.now c.requires));
}

pub returns : goal.returns
returns c =
    if_made c.put_slot.result _ _ (λ u put. is_written c.args.stamp c.args.key.now c.args.row c.args.self.now _
    (ap (λ (x : KeyVersions). finite.is_sorted byte_order x.slots) (sym c.self.view_is) ∙ c.self.invariant.keys.rise) c.requires
    (put ∙ ap (λ (x : KeyVersions). with_slot c.args.stamp c.args.key.now c.args.row x.slots) c.self.view_is)
    (subst (λ (x : KeyVersions). (j : ℕ) → Contains c.touch.new.touched.items j ↔ (Contains x.touched j ⊎ IsCommit c.args.stamp j)) c.self.view_is
    c.in_ok-touch.ensures.touched)) c.put_slot.ensures.put
