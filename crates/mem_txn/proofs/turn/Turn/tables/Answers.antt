use Rattle.std.proofs.Common.{◌≡◌, ◌∙◌, map, sym, ap, subst}
use Rattle.std.specs.Arc.{arc_value}
use Rattle.radix_node.specs.Ids.{Counter}
use Rattle.mdb_schema.specs.History.{writes_in}
use Rattle.mem_txn.specs.Database.{View, state_seen, view_seen}
use Rattle.mem_txn.specs.inner.VersionTables.{AreAllWithin, trees_of}
use Rattle.mem_txn.specs.inner.Versions.{AreFew, Forest, Turned, Version, ViewWithTrees}
use Rattle.mem_txn.proofs.BegunAnswers.{begins_counted, begins_since, tables_stand}
use Rattle.mem_txn.proofs.turn.Turn.tables.Goals as goal

pub of-requires : goal.of-requires
of-requires c =
    let base : Version = arc_value c.self.inside.base in
    let trees : trees_of (map arc_value c.tables.result.now) ≡ base.trees =
    c.tables.ensures.trees ∙ ap (λ (v : ViewWithTrees). v.trees) c.view.ensures ∙ ap (λ (v : Version). v.trees) c.deref-2.ensures in
    let ids : c.in_ok-ids.ids ≡ base.ids = c.in_ok-ids.ensures ∙ ap (λ (v : Version). v.ids) c.deref.ensures in
    record {
      within =
          subst (λ (i : Counter). AreAllWithin i (trees_of (map arc_value c.tables.result.now))) (sym ids)
          (subst (λ (f : Forest). AreAllWithin base.ids f) (sym trees) c.self.invariant.stands.within);
    }

pub returns-clause-tables : goal.returns-clause-tables
returns-clause-tables c =
    let p = c.args.self.now.caller in
    let shown : c.view.result.now.view ≡ view_seen p =
    ap (λ (v : ViewWithTrees). v.view) c.view.ensures ∙ ap (λ (v : Version). v.view) c.deref-2.ensures ∙ c.self.invariant.stands.view ∙ ap (λ (t : Turned). view_seen t.caller) c.self.view_is in
    tables_stand (map arc_value c.tables.result.now) p.schema (state_seen p) c.of.result (c.tables.ensures.schemas ∙ ap (λ (v : View). v.schema) shown) (c.tables.ensures.state ∙ ap (λ (v : View). v.state) shown) c.of.ensures.tables

pub returns-clause-ids : goal.returns-clause-ids
returns-clause-ids c =
    let ids : c.in_ok-ids.ids ≡ c.args.self.now.base.ids = c.in_ok-ids.ensures ∙ ap (λ (v : Version). v.ids) c.deref.ensures ∙ ap (λ (t : Turned). t.base.ids) c.self.view_is in
    begins_counted c.args.self.now c.in_ok-ids.ids c.of.result ids (subst (λ (t : Turned). AreFew (writes_in t.caller.seen) t.base.ids) c.self.view_is c.self.invariant.stands.few) c.of.ensures.ids

pub returns-clause-since : goal.returns-clause-since
returns-clause-since c =
    let trees : trees_of (map arc_value c.tables.result.now) ≡ c.args.self.now.base.trees =
    c.tables.ensures.trees ∙ ap (λ (v : ViewWithTrees). v.trees) c.view.ensures ∙ ap (λ (v : Version). v.trees) c.deref-2.ensures ∙ ap (λ (t : Turned). t.base.trees) c.self.view_is in
    begins_since c.args.self.now (map arc_value c.tables.result.now) c.of.result trees c.of.ensures.tables c.of.ensures.changed
