use Rattle.std.proofs.Common.{◌≡◌, ◌∙◌, ◌<◌, List, length, slice_get, Some, option_map, get_or, refl, sym, ap, subst, arith, rules, MatchResult}
use Rattle.std.proofs.lemmas.List.{length-map}
use Rattle.std.proofs.lemmas.Option.{get_or_from_slice_get, slice_get-map, slice_get_read}
use Rattle.mdb_datum.specs.Row.{Pair}
use Rattle.mdb_schema.specs.Answer.{answer, is_exact}
use Rattle.mdb_schema.specs.declared.ask_error.AskError.TheVariants.{Memory}
use Rattle.radix_node.specs.Cells.{plain_of}
use Rattle.radix_txn.specs.Txn.{Txn}
use Rattle.table_index.specs.inner.IndexTrees.{nodes_of}
use Rattle.table_index.proofs.AskedRows.{answered, pairs_there, place_there, refused}
use Rattle.table_index.proofs.ask.ask_present.Goals as goal

pub returns-in-Err : goal.returns-in-Err
returns-in-Err c = refused c.args.def.now (nodes_of c.args.txns.now) _ refl c.ask.result c.args.query.now c.ask.ensures c.in-Err.error c.in-Err.ensures.answers

pub returns-in-Ok : goal.returns-in-Ok
returns-in-Ok c =
    let t = c.args.def.now in
    let txns = c.args.txns.now in
    let q = c.args.query.now in
    let at = c.in-Ok.at in
    let read = c.index-txns-place.result in
    let within : c.place.result < length txns = let less = place_there t (nodes_of txns) c.requires at.place at.index c.in-Ok.ensures.there in
    let count = length-map txns (λ (x : Txn). plain_of x.tree) in omega (arith, less, count, c.place.ensures) in
    let there : slice_get txns c.place.result ≡ Some read = slice_get_read txns (length txns) c.place.result read refl within c.index-txns-place.is in
    let tree_there : slice_get (nodes_of txns) at.place ≡ Some (plain_of read.tree) =
    ap (slice_get (nodes_of txns)) (let same : at.place ≡ c.place.result = cc in same) ∙ slice_get-map (λ (x : Txn). plain_of x.tree) txns c.place.result ∙ ap (option_map (λ (x : Txn). plain_of x.tree)) there in
    let tree = plain_of c.tree.result.now in
    let is : tree ≡ get_or (nodes_of txns) at.place tree = ap plain_of c.tree.ensures ∙ sym (get_or_from_slice_get (nodes_of txns) at.place (plain_of read.tree) tree tree_there) in
    let pairs = pairs_there t (nodes_of txns) c.requires at.place at.index c.in-Ok.ensures.there tree is in
    answered t (nodes_of txns) _ refl c.ask.result q c.ask.ensures at c.answer_at.result c.in-Ok.ensures.answers
    (subst (λ (es : List Pair). MatchResult c.answer_at.result (λ a. a ≡ answer q.ask (is_exact at.index q) at.key es) (λ e. e ≡ Memory)) pairs c.answer_at.ensures)

-- ---- the tree at the place

pub bounds-txns-place : goal.bounds-txns-place
bounds-txns-place c =
    let less = place_there c.args.def.now (nodes_of c.args.txns.now) c.requires c.in-Ok.at.place c.in-Ok.at.index c.in-Ok.ensures.there in
    omega (arith, less, length-map c.args.txns.now (λ (x : Txn). plain_of x.tree), c.place.ensures)

pub offset_bounds-txns-place : goal.offset_bounds-txns-place
offset_bounds-txns-place c =
    let less = place_there c.args.def.now (nodes_of c.args.txns.now) c.requires c.in-Ok.at.place c.in-Ok.at.index c.in-Ok.ensures.there in
    let within : c.place.result < length c.args.txns.now = omega (arith, less, length-map c.args.txns.now (λ (x : Txn). plain_of x.tree), c.place.ensures) in
    search rules
