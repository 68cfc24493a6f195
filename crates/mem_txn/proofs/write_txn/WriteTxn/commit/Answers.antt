use Rattle.std.proofs.Common.{◌≡◌, ◌∙◌, ◌+◌, ◌∷◌, ℕ, [], length, ap, sym, subst, arith}
use Rattle.std.proofs.lemmas.List.{length-append}
use Rattle.mem_txn.specs.CellHistory.{HasFirings}
use Rattle.mem_txn.specs.DbTxn.{commit_of}
use Rattle.mem_txn.specs.Database.{Caller, cells_seen}
use Rattle.watch_word.specs.Logs.{Log}
use Rattle.mem_txn.proofs.HeardAlong.{heard_all}
use Rattle.mem_txn.proofs.write_txn.WriteTxn.commit.Goals as goal

pub returns-in-Ok : goal.returns-in-Ok
returns-in-Ok g c =
    let t = c.args.self.db_txn in
    let shown = c.in-Ok.ensures.1 in
    let number : c.number-number.result + 1 ≡ length t.caller.seen + 1 = ap (λ (n : ℕ). n + 1) c.number-number.ensures.number in
    let count : length c.in-Ok.pass.seen ≡ length t.caller.seen + 1 = ap (λ (p : Caller). length p.seen) shown.pass ∙ length-append t.caller.seen (commit_of t ∷ []) in
    let few = c.number-number.ensures.few in
    let kept : c.in-Ok.pass.log ≡ c.in-Ok.log = ap (λ (p : Caller). p.log) shown.pass in (
      c.in-Ok.ensures.0,
      record {
        trees = shown.trees;
        pass = shown.pass;
        number = number;
        few = omega (arith, few);
        items = c.of-items.ensures;
        changes = shown.tracked;
        later = shown.later;
        book = shown.book;
        heard = heard_all c.in-Ok.pass (subst (λ (l : Log). HasFirings (cells_seen c.in-Ok.pass) (length c.in-Ok.pass.seen) l) (sym kept) shown.fired);
        fired = subst (λ (n : ℕ). HasFirings (cells_seen c.in-Ok.pass) n c.in-Ok.log) (count ∙ sym number) shown.fired;
        told = shown.told;
      },
    )
