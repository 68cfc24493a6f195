use Rattle.std.proofs.Common.{◌*◌, length, sym, arith, rules}
use Rattle.std.proofs.lemmas.Grind.{common_steps}
use Rattle.table_index.proofs.DrawnIds.{ready_more}
use Rattle.table_index.proofs.WrittenTrees.{wrote_key}
use Rattle.table_index.proofs.edits.delete_all.Goals as goal

pub loop-key-preserved : goal.loop-key-preserved
loop-key-preserved c = record {
  sound = search rules;
  pairs = grind (arith, common_steps);
  drawn = search rules;
  written =
      wrote_key c.args.keys.now c.args.txn.now c.loop-key.txn c.delete.new.txn c.key-item.result c.loop-key.invariant.written c.in_ok-delete.ensures.written
      (c.loop-key.key-index, omega arith, sym c.key-item.is);
}

pub delete-requires : goal.delete-requires
delete-requires c = record {
  ready =
      ready_more (4096 * c.loop-key.key-index) 4096 (4096 * length c.args.keys.now) c.args.front.now c.args.ids.now c.loop-key.ids c.args.txn.now c.loop-key.txn (omega arith) c.requires.ready
      c.loop-key.invariant.drawn c.loop-key.invariant.sound;
}
