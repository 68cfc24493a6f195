use Rattle.std.proofs.Common.{◌≡◌, ◌∙◌, [], ◌∷◌, sym, ap, subst}
use Rattle.std.specs.Prelude.{All}
use Rattle.std.specs.Arc.{arc_value}
use Rattle.radix_node.specs.Ids.{Counter}
use Rattle.table_index.specs.Watched.{HoldsRows}
use Rattle.mem_txn.specs.Database.{View}
use Rattle.mem_txn.specs.inner.Steps.{HasLastFirings, tables_with}
use Rattle.mem_txn.specs.inner.Versions.{StandsFor, Version, opening}
use Rattle.mem_txn.proofs.StepsAlong.{opening_fired, opening_stands}
use Rattle.mem_txn.proofs.db.opening.Goals as goal

pub returns-clause-schema : goal.returns-clause-schema
returns-clause-schema c =
    ap (λ (v : Version). v.view.schema) (c.in_ok-new.ensures.ok ∙ c.in_ok-version.ensures) ∙ ap (λ (v : View). v.schema) c.in_ok-view.ensures.view

pub returns-clause-stands : goal.returns-clause-stands
returns-clause-stands c =
    let value : arc_value c.in_ok-new.field-0 ≡ opening c.args.schema c.in_ok-view.view.trees c.empty.new.ids = c.in_ok-new.ensures.ok ∙ c.in_ok-version.ensures ∙ ap (λ (v : View). let r : Version = record { view = v; trees = c.in_ok-view.view.trees; writes = []; ids = c.empty.new.ids } in r) c.in_ok-view.ensures.view in
    let held = subst (λ (v : View). All HoldsRows (tables_with v.schema v.state c.in_ok-view.view.trees)) c.in_ok-view.ensures.view c.in_ok-view.ensures.held in
    subst (λ (v : Version). StandsFor ((0, v) ∷ []) v) (sym value) (opening_stands c.args.schema c.in_ok-view.view.trees c.empty.new.ids c.in_ok-view.ensures.within held c.in_ok-view.ensures.few)

pub returns-clause-log : goal.returns-clause-log
returns-clause-log c =
    let value : arc_value c.in_ok-new.field-0 ≡ opening c.args.schema c.in_ok-view.view.trees c.empty.new.ids = c.in_ok-new.ensures.ok ∙ c.in_ok-version.ensures ∙ ap (λ (v : View). let r : Version = record { view = v; trees = c.in_ok-view.view.trees; writes = []; ids = c.empty.new.ids } in r) c.in_ok-view.ensures.view in
    let book = c.requires.book ∙ ap (λ (i : Counter). i.book) (sym c.starting-ids.ensures) ∙ sym c.empty.ensures.book in
    subst (λ (v : Version). HasLastFirings ((0, v) ∷ []) c.args.log.now) (sym value) (opening_fired c.args.schema c.in_ok-view.view.trees c.empty.new.ids c.in_ok-view.ensures.within c.args.log.now book)
