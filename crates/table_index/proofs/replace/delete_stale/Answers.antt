use Rattle.std.proofs.Common.{◌*◌, ◌≡◌, ◌∙◌, ◌<◌, ◌+◌, List, false, drop, length, sym, ap, arith, rules}
use Rattle.mdb_datum.specs.Row.{Pair}
use Rattle.mdb_schema.specs.Write.{is_among}
use Rattle.mdb_schema.specs.Edits.{stale_keys, without_all}
use Rattle.radix_txn.specs.Txn.{txn_pairs}
use Rattle.table_index.proofs.DrawnIds.{ready_more}
use Rattle.table_index.proofs.EditSteps.{stale_out}
use Rattle.table_index.proofs.WrittenTrees.{wrote_key}
use Rattle.table_index.proofs.replace.delete_stale.Goals as goal

pub loop-key-preserved : goal.loop-key-preserved
loop-key-preserved c =
    let kept = c.args.kept.now in
    let old = c.args.old.now in
    let at = c.loop-key.key-index in
    let key = c.key-item.result in
    let within : at < length old = omega arith in
    let other : is_among kept key ≡ false = sym c.contains.ensures ∙ c.if-contains.false in
    record {
      sound = search rules;
      pairs =
          ap (λ (es : List Pair). without_all (stale_keys kept (drop (at + 1) old)) es) c.in_ok-delete.ensures.pairs
          ∙ stale_out kept old at key (txn_pairs c.loop-key.txn) within (sym c.key-item.is) other
          ∙ c.loop-key.invariant.pairs;
      drawn = search rules;
      written = wrote_key old c.args.txn.now c.loop-key.txn c.delete.new.txn key c.loop-key.invariant.written c.in_ok-delete.ensures.written (at, within, sym c.key-item.is);
    }

pub delete-requires : goal.delete-requires
delete-requires c =
    let within : c.loop-key.key-index < length c.args.old.now = omega arith in
    record {
      ready =
          ready_more (4096 * c.loop-key.key-index) 4096 (4096 * length c.args.old.now) c.args.front.now c.args.ids.now c.loop-key.ids c.args.txn.now c.loop-key.txn (omega (arith, within)) c.requires.ready
          c.loop-key.invariant.drawn c.loop-key.invariant.sound;
    }
