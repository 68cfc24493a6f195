use Rattle.std.proofs.Common.{◌∙◌, Decides, subst, sym}
use Rattle.mdb_datum.specs.Bytes.{Bytes, is_prefix}
use Rattle.mdb_schema.specs.declared.ask.Ask.{Ask}
use Rattle.run_check.specs.inner.GuardView.{IsMeantSame}
use Rattle.run_check.specs.inner.IndexView.{IsRowSame, KeyVersions}
use Rattle.run_check.proofs.GuardedAnswers.{guarded_by_keys, guarded_by_row, one_index}
use Rattle.run_check.proofs.watching.Watch.is_guarded.Goals as goal

pub returns-then-looks_up : goal.returns-then-looks_up
returns-then-looks_up c schema H txns w within =
    let v = c.args.self.now.number in
    let last = c.args.last in
    let index = one_index c.args.indexes.now c.args.self.now.at.index c.index-indexes-self.result w.index w.there c.index-indexes-self.is in
    let told = subst (λ (k : Bytes). Decides c.is_key_unchanged.result (IsRowSame k v last c.index-indexes-self.result)) c.deref.ensures.value c.is_key_unchanged.ensures in
    guarded_by_row schema H txns _ _ _ w v last c.is_key_unchanged.result within
    (sym c.looks_up.ensures ∙ c.if-looks_up.true)
    (subst (λ (x : KeyVersions). Decides c.is_key_unchanged.result (IsRowSame c.args.self.now.at.key.items v last x)) (sym index) told)

pub returns : goal.returns
returns c schema H txns w within =
    let v = c.args.self.now.number in
    let last = c.args.last in
    let b = c.is_meant_same.result in
    let here = c.index-indexes-self.result in
    let index = one_index c.args.indexes.now c.args.self.now.at.index here w.index w.there c.index-indexes-self.is in
    let told = c.is_meant_same.ensures (is_prefix c.deref-2.result.now) c.in_ok-keys.ensures in
    let asked = subst (λ (a : Ask). Decides b (IsMeantSame a (is_prefix c.deref-2.result.now) v last here)) c.ask.ensures told in
    let keyed = subst (λ (k : Bytes). Decides b (IsMeantSame c.args.self.now.query.now.ask (is_prefix k) v last here)) c.deref-2.ensures.value asked in
    guarded_by_keys schema H txns _ _ _ w v last b within
    (sym c.looks_up.ensures ∙ c.if-looks_up.false)
    (subst (λ (x : KeyVersions). Decides b (IsMeantSame c.args.self.now.query.now.ask (is_prefix c.args.self.now.at.key.items) v last x)) (sym index) keyed)
