use Rattle.std.proofs.Common.{◌∙◌, Bool, ap, sym}
use Rattle.std.specs.FinMap as finite
use Rattle.mdb_datum.specs.Bytes.{Bytes, byte_order, is_prefix}
use Rattle.mdb_datum.specs.Pairs.{first_item, last_item, rows_of, with_prefix}
use Rattle.run_check.specs.inner.AnswerView.{end_item}
use Rattle.run_check.specs.inner.EditView.{seen_of}
use Rattle.run_check.proofs.AnswerRows.{end_exact, end_meant}
use Rattle.run_check.proofs.IndexLooks.{seen_meant}
use Rattle.run_check.proofs.answer.end_row.Goals as goal

pub returns-then-at : goal.returns-then-at
returns-then-at c = λ rise.
    let at = c.args.at.now in
    let es = seen_of c.args.sight c.args.index.now in
    c.row.ensures ∙ ap (λ (key : Bytes). finite.find byte_order key es) c.deref.ensures.value ∙ end_exact c.args.is_last at.exact at.key.items es c.if-at.true rise

pub returns-then-is_last : goal.returns-then-is_last
returns-then-is_last c = λ rise.
    let at = c.args.at.now in
    let es = seen_of c.args.sight c.args.index.now in
    let key = c.deref-2.result.now in
    let slots = c.slots_of-slots.ensures in
    c.last_row.ensures
    ∙ ap (λ ps. last_item (rows_of ps)) (seen_meant c.args.index.now c.in_ok-keys.keys (is_prefix key) c.in_ok-keys.ensures slots.order _ slots.within c.args.sight)
    ∙ sym (ap (λ (last : Bool). end_item last (rows_of (with_prefix key es))) c.if-is_last.true)
    ∙ end_meant c.args.is_last at.exact key at.key.items es c.if-at.false c.deref-2.ensures.value

pub returns : goal.returns
returns c = λ rise.
    let at = c.args.at.now in
    let es = seen_of c.args.sight c.args.index.now in
    let key = c.deref-2.result.now in
    let slots = c.slots_of-slots.ensures in
    c.first_row.ensures
    ∙ ap (λ ps. first_item (rows_of ps)) (seen_meant c.args.index.now c.in_ok-keys.keys (is_prefix key) c.in_ok-keys.ensures slots.order _ slots.within c.args.sight)
    ∙ sym (ap (λ (last : Bool). end_item last (rows_of (with_prefix key es))) c.if-is_last.false)
    ∙ end_meant c.args.is_last at.exact key at.key.items es c.if-at.false c.deref-2.ensures.value
