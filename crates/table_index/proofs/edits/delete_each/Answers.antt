use Rattle.std.proofs.Common.{refl, rules, ◌≡◌, ◌∙◌, ◌<◌, ◌+◌, ◌*◌, ◌^◌, List, false, length, get_or, sym, ap, arith}
use Rattle.std.proofs.lemmas.List.{length-set}
use Rattle.std.proofs.lemmas.List.Elements.{All-set}
use Rattle.mdb_encode.specs.Bytes.{Bytes}
use Rattle.mdb_schema.specs.Edits.{without_all}
use Rattle.radix_txn.specs.Txn.{Txn, txn_pairs}
use Rattle.table_index.specs.inner.Writes.{IsAt}
use Rattle.table_index.proofs.DrawnIds.{none_drawn, ready_again, ready_at, step_drawn}
use Rattle.table_index.proofs.EditSteps.{edited_next}
use Rattle.table_index.proofs.WrittenTrees.{trees_none, step_keys}
use Rattle.table_index.proofs.edits.delete_each.Goals as goal

pub loop-at-init : goal.loop-at-init
loop-at-init c = record {
  sound = c.requires.ready.sound;
  same = refl;
  pairs = search rules;
  drawn = none_drawn c.args.front.now (2 ^ 20 * 0) c.args.ids.now c.args.txns.now c.requires.ready.within;
  written = trees_none (IsAt c.args.keys.now) c.args.txns.now;
}

pub loop-at-preserved : goal.loop-at-preserved
loop-at-preserved c =
    let in_trees : c.loop-at.at < length c.loop-at.txns = omega arith in
    let in_keys : c.loop-at.at < length c.args.keys.now = omega arith in
    record {
      sound = All-set (λ (x : Txn). x.spoiled ≡ false) c.loop-at.txns c.loop-at.at c.delete_all.new.txn c.in_ok-delete_all.ensures.sound c.loop-at.invariant.sound;
      same = length-set c.loop-at.txns c.loop-at.at c.delete_all.new.txn ∙ c.loop-at.invariant.same;
      pairs =
          edited_next without_all c.args.keys.now c.loop-at.txns c.loop-at.at c.index-keys-at.result c.index-txns-at.result c.delete_all.new.txn in_keys in_trees (sym c.index-keys-at.is) (sym c.index-txns-at.is)
          (c.in_ok-delete_all.ensures.pairs ∙ ap (λ (ks : List Bytes). without_all ks (txn_pairs (get_or c.loop-at.txns c.loop-at.at c.index-txns-at.result))) c.keys.ensures.keys
          ∙ ap (λ (x : Txn). without_all c.index-keys-at.result (txn_pairs x)) (sym c.index-txns-at.is))
          ∙ c.loop-at.invariant.pairs;
      drawn =
          step_drawn c.args.front.now (2 ^ 20 * c.loop-at.at) (4096 * length c.keys.result.now) (2 ^ 20 * (c.loop-at.at + 1)) c.args.ids.now c.loop-at.ids c.delete_all.new.ids c.args.txns.now c.loop-at.txns c.loop-at.at
          c.index-txns-at.result c.delete_all.new.txn c.loop-at.invariant.drawn c.in_ok-delete_all.ensures.drawn (omega (arith, c.keys.ensures.few));
      written =
          step_keys c.args.txns.now c.loop-at.txns c.loop-at.at c.index-txns-at.result c.delete_all.new.txn in_trees c.args.keys.now c.index-keys-at.result c.keys.result.now in_keys c.index-keys-at.is
          c.keys.ensures.keys c.loop-at.invariant.written c.in_ok-delete_all.ensures.written;
    }

pub delete_all-requires : goal.delete_all-requires
delete_all-requires c =
    let within : c.loop-at.at < length c.loop-at.txns = omega arith in
    record {
      ready =
          ready_at (4096 * length c.keys.result.now) c.args.front.now c.loop-at.ids c.loop-at.txns c.loop-at.at c.index-txns-at.result within
          (ready_again c.args.front.now (2 ^ 20 * c.loop-at.at) c.args.ids.now c.loop-at.ids c.args.txns.now c.loop-at.txns c.requires.ready.book c.loop-at.invariant.drawn c.loop-at.invariant.sound)
          (omega (arith, c.requires.left, c.loop-at.invariant.drawn.few, within, c.loop-at.invariant.same, c.keys.ensures.few));
    }

pub returns-in_err-delete_all-clause-drawn : goal.returns-in_err-delete_all-clause-drawn
returns-in_err-delete_all-clause-drawn c =
    let within : c.loop-at.at < length c.args.txns.now = omega arith in
    step_drawn c.args.front.now (2 ^ 20 * c.loop-at.at) (4096 * length c.keys.result.now) (2 ^ 20 * length c.args.txns.now) c.args.ids.now c.loop-at.ids c.delete_all.new.ids c.args.txns.now c.loop-at.txns c.loop-at.at
    c.index-txns-at.result c.delete_all.new.txn c.loop-at.invariant.drawn c.delete_all.ensures.drawn (omega (arith, c.keys.ensures.few, within))
