use Rattle.std.proofs.Common.{◌≡◌, ◌∙◌, Some, length, slice_get, get_or, refl, ap, Option, Contains, sym, subst}
use Rattle.std.proofs.lemmas.Option.{slice_get_read}
use Rattle.table_index.proofs.DrawnIds.{drawn_at, ready_at}
use Rattle.table_index.proofs.WipeSteps.{cut_one, on_ok}
use Rattle.radix_txn.specs.Txn.{Txn}
use Rattle.table_index.specs.inner.Writes.{IsCutAt, keys_begun}
use Rattle.table_index.proofs.WrittenTrees.{trees_at, wrote_more}
use Rattle.table_index.proofs.cut.cut_at.Goals as goal

pub delete_prefix-requires-clause-ready : goal.delete_prefix-requires-clause-ready
delete_prefix-requires-clause-ready c = ready_at 4096 c.args.front.now c.args.ids.now c.args.txns.now c.args.place c.index-txns-place.result c.requires.place c.requires.ready c.requires.left

pub returns-clause-pairs : goal.returns-clause-pairs
returns-clause-pairs c =
    let txns = c.args.txns.now in
    let place = c.args.place in
    let x = get_or txns place c.index-txns-place.result in
    let there : slice_get txns place ≡ Some x = slice_get_read txns (length txns) place c.index-txns-place.result refl c.requires.place c.index-txns-place.is ∙ ap Some c.index-txns-place.is in
    on_ok c.delete_prefix.result (cut_one c.args.key.now txns place x c.delete_prefix.new.txn there) c.delete_prefix.ensures.pairs

pub returns-clause-drawn : goal.returns-clause-drawn
returns-clause-drawn c =
    drawn_at c.args.front.now 4096 c.args.ids.now c.delete_prefix.new.ids c.args.txns.now c.args.place c.index-txns-place.result c.delete_prefix.new.txn c.requires.ready.within c.delete_prefix.ensures.drawn

pub returns-clause-written : goal.returns-clause-written
returns-clause-written c =
    let txns = c.args.txns.now in
    let place = c.args.place in
    let key = c.args.key.now in
    let x = get_or txns place c.index-txns-place.result in
    let y = c.delete_prefix.new.txn in
    let there : slice_get txns place ≡ Some x = slice_get_read txns (length txns) place c.index-txns-place.result refl c.requires.place c.index-txns-place.is ∙ ap Some c.index-txns-place.is in
    on_ok c.delete_prefix.result (λ h.
    trees_at (IsCutAt place key txns) txns place c.index-txns-place.result y c.requires.place
    (wrote_more (λ k. Contains (keys_begun key (Some x)) k) (IsCutAt place key txns place) x y (λ k m. (refl, subst (λ (o : Option Txn). Contains (keys_begun key o) k) (sym there) m)) h)) c.delete_prefix.ensures.written
