use Rattle.std.proofs.Common.{◌⊎◌, ◌∙◌, List, length, map, ap, subst}
use Rattle.mdb_encode.specs.Bytes.{Bytes}
use Rattle.radix_txn.specs.Txn.{txn_pairs}
use Rattle.table_index.specs.inner.TreeEdits.{replaced_each}
use Rattle.table_index.specs.inner.Writes.{IsAt, TreesWrote}
use Rattle.table_index.proofs.put.put_by_keys.Goals as goal

pub replace_each-requires-clause-all_keys : goal.replace_each-requires-clause-all_keys
replace_each-requires-clause-all_keys c = ap length c.lists.ensures ∙ c.requires.all_keys

pub replace_each-requires-clause-all_old : goal.replace_each-requires-clause-all_old
replace_each-requires-clause-all_old c = ap length c.lists-2.ensures ∙ c.requires.all_old

pub returns-clause-pairs : goal.returns-clause-pairs
returns-clause-pairs c = c.in_ok-replace_each.ensures.pairs ∙ (λ j. replaced_each c.args.row.now (c.lists.ensures j) (c.lists-2.ensures j) (map txn_pairs c.args.txns.now))

pub returns-clause-written : goal.returns-clause-written
returns-clause-written c =
    let kss = c.args.keys.new in
    let before = c.args.txns.now in
    let after = c.replace_each.new.txns in
    let here = subst (λ (l : List (List Bytes)). TreesWrote (λ place k. IsAt l place k ⊎ IsAt c.lists-2.result.now place k) before after) c.lists.ensures c.in_ok-replace_each.ensures.written in
    subst (λ (l : List (List Bytes)). TreesWrote (λ place k. IsAt kss place k ⊎ IsAt l place k) before after) c.lists-2.ensures here
