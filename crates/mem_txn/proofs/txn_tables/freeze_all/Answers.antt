use Rattle.std.proofs.Common.{◌≡◌, ◌∙◌, ◌+◌, ◌++◌, ◌∷◌, [], List, append_assoc, length, map, sym, ap, subst, arith}
use Rattle.std.proofs.lemmas.List.{length-append, length-map, map-append}
use Rattle.std.specs.Arc.{arc_value}
use Rattle.std.specs.Vec.Iter.{into_iter_items}
use Rattle.mdb_schema.specs.Net.{change_at}
use Rattle.table_index.specs.Table.{TableChange, TableRows}
use Rattle.mem_txn.specs.inner.Ended.{AreTold, EndWith}
use Rattle.mem_txn.specs.inner.VersionTables.{standing}
use Rattle.mem_txn.proofs.ChangesTold.{counted, told_more}
use Rattle.mem_txn.proofs.GoneCells.{end_more}
use Rattle.mem_txn.proofs.txn_tables.freeze_all.Goals as goal

pub loop-table-preserved : goal.loop-table-preserved
loop-table-preserved c =
    let old = c.loop-table.frozen in
    let new = c.freeze_onto.new.frozen in
    let table = c.in-Some.table in
    let one = c.in_ok-freeze_onto.ensures.ends in
    let done = c.loop-table.yielded ++ table ∷ [] in
    record {
      tables =
          c.in_ok-freeze_onto.ensures.table
          ∙ ap (λ (ts : List TableRows). ts ++ standing table ∷ []) c.loop-table.invariant.tables
          ∙ sym (map-append standing c.loop-table.yielded (table ∷ []));
      ends =
          subst (λ (mades : List TableRows). EndWith done mades new.gone.items) (sym c.in_ok-freeze_onto.ensures.table)
          (subst (EndWith done _) (sym one.2)
          (end_more c.loop-table.yielded (map arc_value old.tables.items) old.gone.items table one.0 c.loop-table.invariant.ends one.1));
      changes =
          let changed = c.in_ok-freeze_onto.ensures.changes in
          let count = counted (map arc_value old.tables.items) c.loop-table.yielded c.loop-table.invariant.tables in
          let place : length old.tables.items ≡ 0 + length c.loop-table.yielded = let items = sym (length-map old.tables.items arc_value) ∙ count in omega (arith, items) in
          subst (AreTold 0 done) (sym (changed.2 ∙ ap (λ n. old.changes ++ map (change_at n) changed.0) place))
          (told_more 0 c.loop-table.yielded old.changes table changed.0 c.loop-table.invariant.changes changed.1);
      all =
          c.loop-table.invariant.all
          ∙ ap (λ (ts : List TableChange). c.loop-table.yielded ++ ts) c.in-Some.ensures.steps.0
          ∙ sym (append_assoc c.loop-table.yielded (table ∷ []) (into_iter_items c.next.new.self));
    }

pub freeze_onto-requires-clause-few : goal.freeze_onto-requires-clause-few
freeze_onto-requires-clause-few c =
    let items = c.loop-table.frozen.tables.items in
    let one = sym (length-map items arc_value) ∙ counted (map arc_value items) c.loop-table.yielded c.loop-table.invariant.tables in
    let all = ap length (c.loop-table.invariant.all ∙ ap (λ (ts : List TableChange). c.loop-table.yielded ++ ts) c.in-Some.ensures.steps.0)
    ∙ length-append c.loop-table.yielded (c.in-Some.table ∷ into_iter_items c.next.new.self) in
    let few = c.requires.few in
    omega (arith, one, all, few)
