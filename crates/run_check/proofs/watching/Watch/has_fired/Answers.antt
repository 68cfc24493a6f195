use Rattle.std.proofs.Common.{◌∙◌, Decides, subst, sym}
use Rattle.std.proofs.lemmas.Bool.{false≢true}
use Rattle.mdb_datum.specs.Bytes.{Bytes}
use Rattle.run_check.specs.inner.IndexView.{IsKeyWritten, IsTouchedIn, KeyVersions}
use Rattle.run_check.proofs.GuardedAnswers.{fired_at_any, fired_at_key, one_index}
use Rattle.run_check.proofs.watching.Watch.has_fired.Goals as goal

pub returns-then-self : goal.returns-then-self
returns-then-self c schema H txns w found =
    let v = c.args.self.now.number in
    let n = c.args.commits in
    let b = c.is_key_touched.result in
    let index = one_index c.args.indexes.now c.args.self.now.at.index c.index-indexes-self.result w.index w.there c.index-indexes-self.is in
    let told = subst (λ (k : Bytes). Decides b (IsKeyWritten k v n c.index-indexes-self.result)) c.deref.ensures.value c.is_key_touched.ensures in
    fired_at_key schema H txns _ _ _ w v n b (found.0 c.if-self.true)
    (subst (λ (x : KeyVersions). Decides b (IsKeyWritten c.args.self.now.at.key.items v n x)) (sym index) told)

pub returns-else-self : goal.returns-else-self
returns-else-self c schema H txns w found =
    let v = c.args.self.now.number in
    let n = c.args.commits in
    let b = c.is_touched.result in
    let index = one_index c.args.indexes.now c.args.self.now.at.index c.index-indexes-self.result w.index w.there c.index-indexes-self.is in
    fired_at_any schema H txns _ _ _ w v n b (λ f. false≢true (sym c.if-self.false ∙ found.1 f))
    (subst (λ (x : KeyVersions). Decides b (IsTouchedIn v n x)) (sym index) c.is_touched.ensures)
