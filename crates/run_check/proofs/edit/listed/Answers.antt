use Rattle.std.proofs.Common.{◌≡◌, ◌∙◌, List, Some, map, slice_get, ap}
use Rattle.std.specs.Borrow.{Bor}
use Rattle.std.specs.declared.alloc.Global.{Global}
use Rattle.std.specs.declared.vec.Vec.{Vec}
use Rattle.std.proofs.lemmas.Option.{get_or_from_slice_get}
use Rattle.std.proofs.lemmas.Result.{IfOk-weaker}
use Rattle.mdb_datum.specs.Bytes.{Bytes, is_prefix}
use Rattle.mdb_datum.specs.Pairs.{rows_of, with_prefix}
use Rattle.mdb_datum.specs.Row.{Fields}
use Rattle.run_check.specs.inner.EditView.{seen_of}
use Rattle.run_check.specs.inner.IndexView.{KeyVersions}
use Rattle.run_check.proofs.edit.listed.Goals as goal

pub returns : goal.returns
returns c =
    let xs = c.args.indexes.now in
    let at = c.args.at.now in
    IfOk-weaker c.shared.result
    (λ (rows : Vec Fields Global). rows.items ≡ map (λ (r : Bor Fields). r.now) c.deref-2.result.now)
    (λ (rows : Vec Fields Global). (x : KeyVersions) → slice_get xs at.index ≡ Some x → rows.items ≡ rows_of (with_prefix at.key.items (seen_of c.args.sight x)))
    (λ rows are x there.
    are
    ∙ ap (λ (found : List (Bor Fields)). map (λ (r : Bor Fields). r.now) found) c.deref-2.ensures.value
    ∙ c.in_ok-found.ensures (is_prefix c.deref.result.now) c.in_ok-keys.ensures
    ∙ ap (λ (key : Bytes). rows_of (with_prefix key (seen_of c.args.sight c.index-indexes-at.result))) c.deref.ensures.value
    ∙ ap (λ (y : KeyVersions). rows_of (with_prefix at.key.items (seen_of c.args.sight y)))
    (c.index-indexes-at.is ∙ get_or_from_slice_get xs at.index x c.index-indexes-at.result there))
    c.shared.ensures
