use Rattle.std.proofs.Common.{◌^◌, ◌*◌, ◌∙◌, length, sym, ap, arith}
use Rattle.std.proofs.lemmas.List.{length-map}
use Rattle.mdb_schema.specs.Schema.{IndexSchema}
use Rattle.mdb_schema.specs.State.{full_keys}
use Rattle.table_index.proofs.StoredRows.{keys_are, same_count}
use Rattle.table_index.proofs.RowRemoval.{removal_told}
use Rattle.table_index.proofs.DrawnIds.{more_drawn, none_drawn}
use Rattle.table_index.proofs.WrittenRows.{stored_wrote}
use Rattle.table_index.proofs.remove.take_row.Goals as goal

pub delete_stored-requires-clause-both : goal.delete_stored-requires-clause-both
delete_stored-requires-clause-both c =
    ap length (keys_are c.args.def.now c.args.txns.now c.len-count.ensures.lawful c.requires.held c.in_ok-stored.ensures.1 c.in_ok-stored.stored.row
    c.in_ok-stored.ensures.3 c.in_ok-stored.stored.keys c.in_ok-stored.ensures.4)
    ∙ length-map c.args.def.now.indexes (λ (i : IndexSchema). full_keys c.args.def.now i c.in_ok-stored.stored.row)
    ∙ sym (same_count c.args.def.now c.args.txns.now c.len-count.ensures.lawful c.requires.held)

pub returns-clause-answers : goal.returns-clause-answers
returns-clause-answers c =
    removal_told c.args.def.now c.args.txns.now c.len-count.ensures.lawful c.requires.held c.args.row.now c.args.ids.now.next c.in_ok-stored.ensures.0 c.in_ok-stored.ensures.1
    c.in_ok-stored.stored.row c.in_ok-stored.ensures.2 c.in_ok-stored.ensures.3 c.in_ok-stored.stored.keys c.in_ok-stored.ensures.4 c.delete_stored.new.txns c.delete_stored.result
    c.delete_stored.ensures.answers

pub returns-in_err-stored-clause-drawn : goal.returns-in_err-stored-clause-drawn
returns-in_err-stored-clause-drawn c = none_drawn c.args.front.now (2 ^ 26) c.args.ids.now c.args.txns.now c.requires.ready.within

pub delete_stored-requires-clause-left : goal.delete_stored-requires-clause-left
delete_stored-requires-clause-left c =
    let count = same_count c.args.def.now c.args.txns.now c.len-count.ensures.lawful c.requires.held in
    omega (arith, count, c.len-count.ensures.lawful.few, c.in_ok-stored.ensures.0)

pub returns-clause-drawn : goal.returns-clause-drawn
returns-clause-drawn c =
    let txns = c.args.txns.now in
    let count = same_count c.args.def.now txns c.len-count.ensures.lawful c.requires.held in
    more_drawn c.args.front.now (2 ^ 20 * length txns) (2 ^ 26) c.args.ids.now c.delete_stored.new.ids txns c.delete_stored.new.txns (omega (arith, count, c.len-count.ensures.lawful.few)) c.delete_stored.ensures.drawn

pub returns-clause-written : goal.returns-clause-written
returns-clause-written c =
    let stored = c.in_ok-stored.stored in
    stored_wrote c.args.def.now stored.row stored.keys
    (keys_are c.args.def.now c.args.txns.now c.len-count.ensures.lawful c.requires.held c.in_ok-stored.ensures.1 stored.row c.in_ok-stored.ensures.3 stored.keys c.in_ok-stored.ensures.4) c.args.txns.now c.delete_stored.new.txns
    c.delete_stored.result c.delete_stored.ensures.answers c.delete_stored.ensures.written
