use Rattle.std.proofs.Common.{◌∙◌, ap, sym}
use Rattle.std.specs.FinMap as finite
use Rattle.std.specs.Prelude.{option_map}
use Rattle.mdb_datum.specs.Bytes.{byte_order}
use Rattle.mdb_datum.specs.Pairs.{longest_pair, prefixes_of}
use Rattle.mdb_datum.specs.Row.{Pair}
use Rattle.run_check.specs.inner.IndexView.{pairs_seen}
use Rattle.run_check.proofs.LongestPrefixes.{longest_row, no_bytes, prefixes_none, prefixes_shorter}
use Rattle.run_check.proofs.index.Index.longest.Goals as goal

pub returns-in-Some : goal.returns-in-Some
returns-in-Some c =
    sym (ap (λ ps. option_map (λ (e : Pair). e.1) (longest_pair ps)) (sym c.prefixes.invariant)
    ∙ longest_row c.prefixes.prefix.now c.in-Some.row.now _ (sym c.in-Some.ensures))

pub prefixes-preserved : goal.prefixes-preserved
prefixes-preserved c =
    let ps = pairs_seen c.args.sight c.args.self.now.slots in
    let whole = c.in-Some-split_last.ensures.cases.0 in
    sym (ap (λ k. prefixes_of k ps) whole
    ∙ prefixes_shorter c.in-Some-split_last.shorter.now _ ps (ap (λ k. finite.find byte_order k ps) (sym whole) ∙ sym c.in_default.ensures))
    ∙ c.prefixes.invariant

pub returns-in-None : goal.returns-in-None
returns-in-None c =
    let ps = pairs_seen c.args.sight c.args.self.now.slots in
    let none = no_bytes c.prefixes.prefix.now c.in-None.ensures.cases in
    sym (ap (λ ps. option_map (λ (e : Pair). e.1) (longest_pair ps)) (sym c.prefixes.invariant ∙ ap (λ k. prefixes_of k ps) none
    ∙ prefixes_none ps (ap (λ k. finite.find byte_order k ps) (sym none) ∙ sym c.in_default.ensures)))
