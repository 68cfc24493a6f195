use Rattle.std.proofs.Common.{◌∙◌, length, sym, ap, subst}
use Rattle.std.specs.Arc.{arc_value}
use Rattle.watch_word.specs.Logs.{IsLater, Log}
use Rattle.mem_txn.specs.CellHistory.{HasFirings}
use Rattle.mem_txn.specs.Database.{cells_seen}
use Rattle.mem_txn.specs.inner.Versions.{Turned, caller_of}
use Rattle.mem_txn.proofs.HeardAlong.{hears_itself}
use Rattle.mem_txn.proofs.StepsAlong.{book_is, turn_heard}
use Rattle.mem_txn.proofs.turn.Turn.share_front.Goals as goal

pub returns-clause-fired : goal.returns-clause-fired
returns-clause-fired c =
    let t = c.self.inside in
    subst (λ (p : Turned). HasFirings (cells_seen p.caller) (length p.caller.seen) c.share.result) c.self.view_is
    (subst (HasFirings (cells_seen (caller_of t.token)) _) (sym (c.share.ensures ∙ c.log.ensures)) (turn_heard t.token (arc_value t.base) t.token.log c.self.invariant.stands c.self.invariant.log))

pub returns-clause-later : goal.returns-clause-later
returns-clause-later c =
    let t = c.self.inside in
    subst (λ (p : Turned). IsLater p.caller.log c.share.result) c.self.view_is
    (subst (IsLater t.token.log) (sym (c.share.ensures ∙ c.log.ensures)) (hears_itself (caller_of t.token)).later)

pub returns-clause-book : goal.returns-clause-book
returns-clause-book c =
    let t = c.self.inside in
    ap (λ (l : Log). l.book) (c.share.ensures ∙ c.log.ensures) ∙ book_is t.token.seen t.token.log.book c.self.invariant.token.log ∙ ap (λ (p : Turned). p.caller.book) c.self.view_is
