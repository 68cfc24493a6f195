use Rattle.std.proofs.Common.{refl, rules, ◌≡◌, ◌⊎◌, ◌∙◌, ◌<◌, ◌≤◌, ◌+◌, ◌*◌, ◌^◌, false, length, sym, ap, arith}
use Rattle.std.specs.List.{zip}
use Rattle.std.proofs.lemmas.List.{length-set}
use Rattle.std.proofs.lemmas.List.Elements.{All-set}
use Rattle.radix_txn.specs.Txn.{Txn, txn_pairs}
use Rattle.table_index.specs.inner.TreeEdits.{replaced_in}
use Rattle.table_index.specs.inner.Writes.{IsAt}
use Rattle.table_index.proofs.DrawnIds.{none_drawn, ready_again, ready_at, step_drawn}
use Rattle.table_index.proofs.EditSteps.{edited_next, edited_end, in_both, both_there, both_end}
use Rattle.table_index.proofs.WrittenTrees.{trees_none, step_both}
use Rattle.table_index.proofs.replace.replace_each.Goals as goal

pub loop-at-init : goal.loop-at-init
loop-at-init c = record {
  sound = c.requires.ready.sound;
  same = refl;
  pairs = search rules;
  drawn = none_drawn c.args.front.now (2 ^ 21 * 0) c.args.ids.now c.args.txns.now c.requires.ready.within;
  written = trees_none (λ place k. IsAt c.args.keys.now place k ⊎ IsAt c.args.old.now place k) c.args.txns.now;
}

pub loop-at-preserved : goal.loop-at-preserved
loop-at-preserved c =
    let in_trees : c.loop-at.at < length c.loop-at.txns = omega arith in
    let in_keys : c.loop-at.at < length c.args.keys.now = omega arith in
    let in_old : c.loop-at.at < length c.args.old.now = omega arith in
    record {
      sound = All-set (λ (x : Txn). x.spoiled ≡ false) c.loop-at.txns c.loop-at.at c.replace_in.new.txn c.in_ok-replace_in.ensures.sound c.loop-at.invariant.sound;
      same = length-set c.loop-at.txns c.loop-at.at c.replace_in.new.txn ∙ c.loop-at.invariant.same;
      pairs =
          edited_next (replaced_in c.args.row.now) (zip c.args.keys.now c.args.old.now) c.loop-at.txns c.loop-at.at (c.index-keys-at.result, c.index-old-at.result) c.index-txns-at.result
          c.replace_in.new.txn (in_both c.args.keys.now c.args.old.now c.loop-at.at in_keys in_old) in_trees
          (both_there c.args.keys.now c.args.old.now c.loop-at.at in_keys in_old c.index-keys-at.result c.index-old-at.result (sym c.index-keys-at.is) (sym c.index-old-at.is))
          (sym c.index-txns-at.is)
          (c.in_ok-replace_in.ensures.pairs ∙ ap (λ (x : Txn). replaced_in c.args.row.now (c.index-keys-at.result, c.index-old-at.result) (txn_pairs x)) (sym c.index-txns-at.is))
          ∙ c.loop-at.invariant.pairs;
      drawn =
          step_drawn c.args.front.now (2 ^ 21 * c.loop-at.at) (2 ^ 21) (2 ^ 21 * (c.loop-at.at + 1)) c.args.ids.now c.loop-at.ids c.replace_in.new.ids c.args.txns.now c.loop-at.txns c.loop-at.at
          c.index-txns-at.result c.replace_in.new.txn c.loop-at.invariant.drawn c.in_ok-replace_in.ensures.drawn (omega arith);
      written =
          step_both c.args.txns.now c.loop-at.txns c.loop-at.at c.index-txns-at.result c.replace_in.new.txn in_trees c.args.keys.now c.args.old.now c.index-keys-at.result c.index-old-at.result in_keys in_old
          c.index-keys-at.is c.index-old-at.is c.loop-at.invariant.written c.in_ok-replace_in.ensures.written;
    }

pub returns-clause-pairs : goal.returns-clause-pairs
returns-clause-pairs c =
    let no_trees : length c.loop-at.txns ≤ c.loop-at.at = omega arith in
    let no_keys : length c.args.keys.now ≤ c.loop-at.at = omega arith in
    sym (edited_end (replaced_in c.args.row.now) (zip c.args.keys.now c.args.old.now) c.loop-at.txns c.loop-at.at (both_end c.args.keys.now c.args.old.now c.loop-at.at no_keys) no_trees)
    ∙ c.loop-at.invariant.pairs

pub replace_in-requires : goal.replace_in-requires
replace_in-requires c =
    let within : c.loop-at.at < length c.loop-at.txns = omega arith in
    record {
      ready =
          ready_at (2 ^ 21) c.args.front.now c.loop-at.ids c.loop-at.txns c.loop-at.at c.index-txns-at.result within
          (ready_again c.args.front.now (2 ^ 21 * c.loop-at.at) c.args.ids.now c.loop-at.ids c.args.txns.now c.loop-at.txns c.requires.ready.book c.loop-at.invariant.drawn c.loop-at.invariant.sound)
          (omega (arith, c.requires.left, c.loop-at.invariant.drawn.few, within, c.loop-at.invariant.same));
    }

pub returns-in_err-replace_in-clause-drawn : goal.returns-in_err-replace_in-clause-drawn
returns-in_err-replace_in-clause-drawn c =
    let within : c.loop-at.at < length c.args.txns.now = omega arith in
    step_drawn c.args.front.now (2 ^ 21 * c.loop-at.at) (2 ^ 21) (2 ^ 21 * length c.args.txns.now) c.args.ids.now c.loop-at.ids c.replace_in.new.ids c.args.txns.now c.loop-at.txns c.loop-at.at
    c.index-txns-at.result c.replace_in.new.txn c.loop-at.invariant.drawn c.replace_in.ensures.drawn (omega (arith, within))
