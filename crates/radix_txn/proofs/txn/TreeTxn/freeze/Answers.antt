-- What a transaction's state says of its two trees.
use Rattle.std.proofs.Common.{◌∙◌, ◌<◌, ℕ, List, length, sym, ap, subst, arith}
use Rattle.watch_word.specs.Logs.{Cell}
use Rattle.radix_node.specs.Cells.{AreBelow}
use Rattle.radix_node.specs.Watches.{HoldsWatched}
use Rattle.radix_txn.specs.Notice.{IsNotice, IsOpened}
use Rattle.radix_txn.specs.Txn.{Txn}
use Rattle.radix_txn.proofs.CellTxn.{frozen, told}
use Rattle.radix_txn.proofs.Results.{on_err_of}
use Rattle.radix_txn.proofs.txn.TreeTxn.freeze.Goals as goal

pub of-requires : goal.of-requires
of-requires c many =
    let s = c.self.inside.state in
    let kept = c.self.invariant (ap (λ (t : Txn). t.spoiled) c.self.view_is ∙ c.requires.sound) in
    told s.changed s.first c.self.inside.start s.tree s.left kept c.root.ensures.apart c.root.ensures.shape c.root-2.ensures.shape (omega (arith, many))

pub returns-clause-notice : goal.returns-clause-notice
returns-clause-notice c =
    let s = c.self.inside.state in
    let kept = c.self.invariant (ap (λ (t : Txn). t.spoiled) c.self.view_is ∙ c.requires.sound) in
    let end = frozen s.changed s.first c.self.inside.start s.tree s.left kept c.root.ensures.apart c.root.ensures.shape c.root-2.ensures.shape in
    subst (λ (t : Txn). IsNotice c.in_ok-notice.notice t.start t.tree) c.self.view_is
    (subst (λ (cs : List Cell). IsNotice cs c.self.inside.start s.tree) (sym c.in_ok-notice.ensures.notice) end.notice)

pub returns-in_err-notice-clause-refused : goal.returns-in_err-notice-clause-refused
returns-in_err-notice-clause-refused c =
    let s = c.self.inside.state in
    let kept = c.self.invariant (ap (λ (t : Txn). t.spoiled) c.self.view_is ∙ c.requires.sound) in
    let end = frozen s.changed s.first c.self.inside.start s.tree s.left kept c.root.ensures.apart c.root.ensures.shape c.root-2.ensures.shape in
    on_err_of c.from_residual.result _
    (subst (λ (t : Txn). (cells : List Cell) × IsNotice cells t.start t.tree × (8192 < length cells)) c.self.view_is
    (s.left, end.notice, c.in_err-notice.ensures.refused))

pub returns-clause-held : goal.returns-clause-held
returns-clause-held c =
    let s = c.self.inside.state in
    let kept = c.self.invariant (ap (λ (t : Txn). t.spoiled) c.self.view_is ∙ c.requires.sound) in
    let end = frozen s.changed s.first c.self.inside.start s.tree s.left kept c.root.ensures.apart c.root.ensures.shape c.root-2.ensures.shape in
    subst (λ (t : Txn). HoldsWatched t.start t.tree) c.self.view_is end.held

pub returns-clause-opened : goal.returns-clause-opened
returns-clause-opened c =
    let s = c.self.inside.state in
    let kept = c.self.invariant (ap (λ (t : Txn). t.spoiled) c.self.view_is ∙ c.requires.sound) in
    let end = frozen s.changed s.first c.self.inside.start s.tree s.left kept c.root.ensures.apart c.root.ensures.shape c.root-2.ensures.shape in
    subst (λ (t : Txn). (first : ℕ) × AreBelow first t.start × IsOpened first t.start t.tree) c.self.view_is end.opened
