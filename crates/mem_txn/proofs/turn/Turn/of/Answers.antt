use Rattle.std.proofs.Common.{◌≡◌, length, sym, ap, arith, subst}
use Rattle.std.specs.Arc.{arc_value}
use Rattle.db_front.specs.Commits.{HasFirstFirings}
use Rattle.db_front.specs.Passes.{Known}
use Rattle.mem_txn.specs.Database.{View}
use Rattle.mem_txn.specs.inner.Steps.{HasLastFirings}
use Rattle.mem_txn.specs.inner.Versions.{StandsFor, Version, Versions, history_in}
use Rattle.mem_txn.proofs.OneHistory.{hears_of, history_length, token_kept}
use Rattle.mem_txn.proofs.StepsAlong.{firings_later, log_of, same_book}
use Rattle.mem_txn.proofs.turn.Turn.of.Goals as goal

pub hear-requires : goal.hear-requires
hear-requires c =
    let k = c.args.token in
    let log = c.args.shown.log in
    record { book = same_book k.seen log.book k.log.book (log_of c.args.shown.number k.seen log c.requires.begun.begun c.requires.log) c.requires.begun.log }

pub invariant_of-result : goal.invariant_of-result
invariant_of-result c =
    let old = c.args.token in
    let new = c.hear.new.token in
    let v : Version = arc_value c.args.shown.value in
    let heard = c.hear.ensures in
    let seen : old.seen ≡ new.seen = sym (ap (λ (k : Known Version). k.seen) heard.others) in
    let all = history_length old.seen c.requires.begun.begun in
    let view : v.view.number ≡ length (history_in old.seen) = ap (λ (w : View). w.number) c.requires.stands.view in
    let number : c.args.shown.number ≡ v.view.number = omega (arith, all, view, c.requires.number) in
    let log = firings_later c.args.shown.number old.seen c.args.shown.log new.log heard.heard c.requires.log in
    record {
      token = token_kept 1 old new c.requires.begun heard.others heard.later;
      stands = subst (λ (h : Versions). StandsFor h v) seen c.requires.stands;
      log = subst (λ (h : Versions). HasFirstFirings HasLastFirings v.view.number h new.log) seen (subst (λ n. HasFirstFirings HasLastFirings n old.seen new.log) number log);
    }

pub returns : goal.returns
returns c = let heard = c.hear.ensures in hears_of c.args.token c.hear.new.token heard.others heard.later
