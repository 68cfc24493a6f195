use Rattle.std.proofs.Common.{◌≡◌, ◌∙◌, ℕ, [], ◌∷◌, map, rules, sym, ap, subst, refl}
use Rattle.std.specs.Arc.{arc_value}
use Rattle.db_front.specs.Passes.{PassList, all_fresh}
use Rattle.watch_word.specs.Logs.{Log}
use Rattle.mem_txn.specs.Database.{Callers, Database}
use Rattle.mem_txn.specs.inner.Steps.{AreSteps}
use Rattle.mem_txn.specs.inner.Versions.{AreTokens, Version, caller_of, opening}
use Rattle.mem_txn.proofs.OneHistory.{fresh_callers, fresh_tokens}
use Rattle.mem_txn.proofs.db.shared_by.Goals as goal

pub invariant_of-result : goal.invariant_of-result
invariant_of-result c =
    let v : Version = arc_value c.args.value in
    let value : v ≡ opening v.view.schema v.trees v.ids = ap (λ (e : ℕ × Version). e.1) c.requires.stands.begun in
    let made = ap (λ (h : PassList Version). h.passes) c.in_ok-shared.ensures.passes ∙ ap (λ (x : Version). all_fresh c.in_ok-shared.shared.table x c.args.log c.args.callers) value in
    let steps = subst (λ (x : Version). AreSteps ((0, x) ∷ [])) value c.requires.stands.steps in
    subst AreTokens (sym made) (fresh_tokens c.in_ok-shared.shared.table v.view.schema v.trees v.ids c.args.log steps c.requires.log.of c.args.callers c.requires.callers.1)

pub returns-clause-passes : goal.returns-clause-passes
returns-clause-passes c =
    let v : Version = arc_value c.args.value in
    let value : v ≡ opening v.view.schema v.trees v.ids = ap (λ (e : ℕ × Version). e.1) c.requires.stands.begun in
    let made = ap (λ (h : PassList Version). h.passes) c.in_ok-shared.ensures.passes ∙ ap (λ (x : Version). all_fresh c.in_ok-shared.shared.table x c.args.log c.args.callers) value in
    let room = ap (λ (h : PassList Version). h.room) c.in_ok-shared.ensures.passes in
    let db : Database = record { database = c.in_ok-shared.shared.table; callers = c.in_ok-shared.shared.callers; schema = arc_value c.in_ok-schema.schema; book = c.share-front.result.book } in
    let schema : db.schema ≡ v.view.schema = search rules in
    let of = c.requires.log.of in
    let book : db.book ≡ v.ids.book = ap (λ (l : Log). l.book) c.share-front.ensures ∙ of in
    let empty : c.args.log ≡ record { book = v.ids.book; fired = [] } = λ i. let l : Log = record { book = of i; fired = c.requires.empty i } in l in
    let passes = ap (map caller_of) made ∙ fresh_callers db.database v.view.schema v.trees v.ids c.args.log db refl schema book empty c.args.callers in
    (v.trees, λ i. let r : Callers = record { passes = passes i; made = room i } in r)
