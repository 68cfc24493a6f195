use Rattle.std.proofs.Common.{◌∙◌, ◌<◌, length, map, sym, ap, subst, arith}
use Rattle.std.specs.Arc.{arc_value}
use Rattle.std.proofs.lemmas.List.{length-map}
use Rattle.db_front.specs.Commits.{IsHistory}
use Rattle.mem_txn.specs.Database.{AreAll, AreOf, Callers, Database, IsWhole}
use Rattle.mem_txn.specs.inner.Versions.{caller_of}
use Rattle.mem_txn.proofs.OneHistory.{all_tokens, closed, idle_of, whole_of}
use Rattle.mem_txn.proofs.StepsAlong.{read_whole}
use Rattle.mem_txn.proofs.db.Db.close.Goals as goal

pub close-value-requires-clause-idle : goal.close-value-requires-clause-idle
close-value-requires-clause-idle g c =
    idle_of c.args.self c.self.inside.shared.table c.passes.inside.list.passes (sym (ap (λ (d : Database). d.database) c.self.view_is)) c.passes.invariant
    (subst (λ (ps : Callers). AreOf c.args.self ps.passes) (sym c.passes.view_is) c.requires.own)

pub close-value-requires-clause-all : goal.close-value-requires-clause-all
close-value-requires-clause-all g c =
    let each : AreAll c.args.self.callers (map caller_of c.passes.inside.list.passes) = subst (λ (ps : Callers). AreAll c.args.self.callers ps.passes) (sym c.passes.view_is) c.requires.all in
    all_tokens c.self.inside.shared.callers c.passes.inside.list.passes (subst (λ (d : Database). AreAll d.callers (map caller_of c.passes.inside.list.passes)) (sym c.self.view_is) each)

pub returns : goal.returns
returns g c =
    let e = c.close-value.ensures in
    let ks = c.passes.inside.list.passes in
    let own : AreOf c.args.self (map caller_of ks) = subst (λ (ps : Callers). AreOf c.args.self ps.passes) (sym c.passes.view_is) c.requires.own in
    let some : 0 < length (map caller_of ks) = subst (λ (ps : Callers). 0 < length ps.passes) (sym c.passes.view_is) c.requires.some in
    let each : AreAll c.args.self.callers (map caller_of ks) = subst (λ (ps : Callers). AreAll c.args.self.callers ps.passes) (sym c.passes.view_is) c.requires.all in
    let count = length-map ks caller_of in
    let history = subst (λ n. IsHistory n e.0) (ap (λ (d : Database). d.callers) c.self.view_is) e.1 in
    let v = arc_value c.close-value.result.value in
    let whole = closed c.args.self e.0 ks v c.close-value.result.number (omega (arith, some, count)) each c.passes.invariant own history e.2 e.3 e.5 e.6 in
    let last = read_whole c.args.self e.0 ks v (omega (arith, some, count)) c.passes.invariant own e.2 e.6 in
    (whole_of c.args.self e.0, subst (λ (ps : Callers). IsWhole c.args.self ps.passes (whole_of c.args.self e.0)) c.passes.view_is whole, c.of.ensures ∙ last)
