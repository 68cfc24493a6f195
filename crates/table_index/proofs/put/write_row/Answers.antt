use Rattle.std.proofs.Common.{◌^◌, ◌*◌, ◌∙◌, Bool, Some, length, refl, sym, ap, subst, arith}
use Rattle.std.proofs.lemmas.List.{length-map}
use Rattle.mdb_schema.specs.Schema.{IndexSchema}
use Rattle.mdb_schema.specs.Edits.{full_keys_of}
use Rattle.mdb_schema.specs.Write.{put_row}
use Rattle.table_index.specs.inner.IndexTrees.{nodes_of, rows_held}
use Rattle.table_index.specs.inner.TreeEdits.{IsPut}
use Rattle.table_index.proofs.PutSteps.{put_in}
use Rattle.table_index.proofs.DrawnIds.{more_drawn, none_drawn}
use Rattle.table_index.proofs.StoredRows.{same_count}
use Rattle.table_index.proofs.WrittenRows.{put_wrote}
use Rattle.table_index.proofs.put.write_row.Goals as goal

pub returns-clause-answers : goal.returns-clause-answers
returns-clause-answers c = (
  c.in_ok-keys.ensures.0,
  subst (λ (b : Bool). IsPut c.args.def.now (put_row c.args.def.now c.args.row.now (rows_held c.args.def.now (nodes_of c.args.txns.now))) b c.put_by_keys.new.txns) (sym c.in_ok-put_by_keys.ensures.there)
      (put_in c.args.def.now c.args.row.now c.args.txns.now c.len-count.ensures.lawful c.requires.held c.in_ok-keys.keys.new c.in_ok-keys.keys.old.keys c.in_ok-keys.keys.old.there c.in_ok-keys.ensures.1
      c.put_by_keys.new.txns c.in_ok-put_by_keys.ensures.pairs c.in_ok-put_by_keys.ensures.sound),
)

pub returns-in_err-keys-clause-drawn : goal.returns-in_err-keys-clause-drawn
returns-in_err-keys-clause-drawn c = none_drawn c.args.front.now (2 ^ 26) c.args.ids.now c.args.txns.now c.requires.ready.within

pub returns-in_err-put_by_keys-clause-drawn : goal.returns-in_err-put_by_keys-clause-drawn
returns-in_err-put_by_keys-clause-drawn c =
    let t = c.args.def.now in
    let txns = c.args.txns.now in
    let count = same_count t txns c.len-count.ensures.lawful c.requires.held in
    more_drawn c.args.front.now (2 ^ 21 * length txns) (2 ^ 26) c.args.ids.now c.put_by_keys.new.ids txns c.put_by_keys.new.txns (omega (arith, count, c.len-count.ensures.lawful.few)) c.put_by_keys.ensures.drawn

pub returns-clause-drawn : goal.returns-clause-drawn
returns-clause-drawn c =
    let t = c.args.def.now in
    let txns = c.args.txns.now in
    let count = same_count t txns c.len-count.ensures.lawful c.requires.held in
    more_drawn c.args.front.now (2 ^ 21 * length txns) (2 ^ 26) c.args.ids.now c.put_by_keys.new.ids txns c.put_by_keys.new.txns (omega (arith, count, c.len-count.ensures.lawful.few)) c.put_by_keys.ensures.drawn

pub put_by_keys-requires-clause-left : goal.put_by_keys-requires-clause-left
put_by_keys-requires-clause-left c =
    let count = same_count c.args.def.now c.args.txns.now c.len-count.ensures.lawful c.requires.held in
    omega (arith, count, c.len-count.ensures.lawful.few, c.in_ok-keys.ensures.0)

pub returns-clause-written : goal.returns-clause-written
returns-clause-written c =
    put_wrote c.args.def.now c.args.row.now (rows_held c.args.def.now (nodes_of c.args.txns.now)) c.in_ok-keys.keys.new c.in_ok-keys.keys.old.keys c.in_ok-keys.keys.old.there c.in_ok-keys.ensures.1 c.in_ok-keys.keys.new c.in_ok-keys.keys.old.keys
    refl refl c.args.txns.now c.put_by_keys.new.txns c.in_ok-put_by_keys.ensures.written

pub put_by_keys-requires-clause-all_keys : goal.put_by_keys-requires-clause-all_keys
put_by_keys-requires-clause-all_keys c =
    let t = c.args.def.now in
    ap length c.in_ok-keys.ensures.1.new_keys
    ∙ length-map t.indexes (λ (i : IndexSchema). full_keys_of t i (Some c.args.row.now))
    ∙ sym (same_count t c.args.txns.now c.len-count.ensures.lawful c.requires.held)

pub put_by_keys-requires-clause-all_old : goal.put_by_keys-requires-clause-all_old
put_by_keys-requires-clause-all_old c =
    let t = c.args.def.now in
    ap length c.in_ok-keys.ensures.1.old_keys
    ∙ length-map t.indexes (λ (i : IndexSchema). full_keys_of t i c.in_ok-keys.ensures.1.changed.1)
    ∙ sym (same_count t c.args.txns.now c.len-count.ensures.lawful c.requires.held)
