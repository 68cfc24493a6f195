use Rattle.std.proofs.Common.{ap, ◌∙◌, sym, subst}
use Rattle.db_front.specs.Commits.{IsHistory}
use Rattle.db_front.specs.Passes.{AreIn}
use Rattle.db_front.proofs.AllPasses.{each_made}
use Rattle.db_front.proofs.SeatSteps.{all_in}
use Rattle.db_front.proofs.shared.Shared.close.Goals as goal

pub returns : goal.returns
returns g c =
    let s = c.settle.ensures in
    let m = ap (λ m. m.0) c.gather.ensures.joined in
    let f = c.first.view_is in
    let named = c.first.invariant.0.0.0 in
    let k = all_in s.0 c.gather.new.place.me.0 c.in-Some.first _ s.2 (ap (λ v. v.number) m ∙ (named ∙ ap (λ p. p.number) f)) (ap (λ v. v.mine) m ∙ ap (λ p. p.mine) f) (ap (λ v. v.seen) m ∙ ap (λ p. p.seen) f) (ap (λ v. v.more) m) in
    let passes = subst (AreIn s.0) (sym c.in-Some.ensures.rest) k in
    (s.0, subst (λ n. IsHistory n s.0) (ap (λ z. z.callers) c.self.view_is) s.1, passes, s.3, s.4, s.5, s.6, s.7, each_made _ s.0 _ c.requires.all passes)
