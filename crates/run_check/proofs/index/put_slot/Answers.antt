use Rattle.std.proofs.Common.{◌∙◌, ap, arith, Some}
use Rattle.run_check.specs.inner.SlotView.{put_version}
use Rattle.run_check.proofs.IndexLooks.{if_made, lookup-slots}
use Rattle.run_check.proofs.IndexWrites.{bytes_fit, keys_through, keys_with, latest_there, put_in, written_through}
use Rattle.run_check.proofs.index.put_slot.Goals as goal

pub put-requires : goal.put-requires
put-requires c = latest_there c.args.stamp c.args.key.now _ (Some c.in-Some.slot.now) (c.in-Some.ensures.value ∙ lookup-slots c.args.key.now _) c.requires.latest

pub returns-in-Some-clause-put : goal.returns-in-Some-clause-put
returns-in-Some-clause-put c =
    if_made c.put.result _ _ (λ u put. written_through c.args.stamp c.args.key.now c.args.row _ _ c.put.new.self c.in-Some.slot.now c.requires.keys.rise
    (c.in-Some.ensures.value ∙ lookup-slots c.args.key.now _) (c.get_mut.follows.holds c.put.new.self).0 put) c.put.ensures

pub returns-in-Some-clause-keys : goal.returns-in-Some-clause-keys
returns-in-Some-clause-keys c =
    let fits = c.type_inv.key in
    keys_through c.args.key.now _ _ c.put.new.self c.in-Some.slot.now (bytes_fit c.args.key.now (λ i. let h = fits i in omega arith)) c.requires.keys
    (c.in-Some.ensures.value ∙ lookup-slots c.args.key.now _) (c.get_mut.follows.holds c.put.new.self).0

pub returns-in_ok-insert-in-None-clause-put : goal.returns-in_ok-insert-in-None-clause-put
returns-in_ok-insert-in-None-clause-put c =
    let left = c.get_mut.follows.holds-at-none in
    put_in c.args.stamp c.args.key.now c.args.row c.in_ok-to_vec-in-None.field-0 _ _ _ c.put-in-None.new.self
    (c.in-None.ensures.value ∙ lookup-slots c.args.key.now _) c.in_ok-insert-in-None.ensures.entries (ap (λ m. m.entries) left) (c.in_ok-to_vec-in-None.ensures.items_if_clones_equal (λ x y e. e)) (c.in_ok-put-in-None.ensures ∙ ap (put_version c.args.stamp c.args.row) c.new-slot.ensures)

pub returns-in_ok-insert-in-None-clause-keys : goal.returns-in_ok-insert-in-None-clause-keys
returns-in_ok-insert-in-None-clause-keys c =
    let fits = c.type_inv.key in
    keys_with c.args.stamp c.args.key.now c.args.row _ _ (bytes_fit c.args.key.now (λ i. let h = fits i in omega arith)) c.requires.keys (returns-in_ok-insert-in-None-clause-put c)
