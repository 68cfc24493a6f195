use Rattle.std.proofs.Common.{◌≡◌, ◌+◌, ap, sym, subst, ◌∙◌, Decides, List, Option, length, option_map, ℕ, take}
use Rattle.std.specs.Borrow.{Bor}
use Rattle.std.specs.Prelude.{IfOk, slice_get}
use Rattle.std.proofs.lemmas.Option.{same_Some}
use Rattle.run_check.specs.declared.watching.Set.{Set}
use Rattle.run_check.specs.inner.ClientView.{watches_known}
use Rattle.run_check.specs.inner.WaitView.{ArePlaced, IsEnd}
use Rattle.run_check.proofs.WaitsTold.{copied_at, first_within}
use Rattle.run_check.proofs.session.Sessions.may_wake.Goals as goal

pub returns : goal.returns
returns c = λ schema H txns s knows last there placed.
    let ws = watches_known c.args.knows.now.watching in
    let place = c.args.place in
    let same : c.in-Some.found.now ≡ s = same_Some c.in-Some.found.now s (sym (sym c.at.ensures ∙ ap (option_map (λ (x : Bor Set). x.now)) c.in-Some.is) ∙ there) in
    let front : c.split_at.result.0.now ≡ take place s.members.items = c.split_at.ensures.front ∙ ap (take place) (c.deref.ensures.value ∙ ap (λ (x : Set). x.members.items) same) in
    let fired : c.copied-fired.result ≡ slice_get s.members.items place =
    c.copied-fired.ensures ∙ copied_at c.deref-2.result.now place c.get.result c.get.ensures.lookup.0 c.get.ensures.lookup.1
    ∙ ap (λ (xs : List ℕ). slice_get xs place) (c.deref-2.ensures.value ∙ ap (λ (x : Set). x.members.items) same) in
    let within : ArePlaced ws c.split_at.result.0.now = subst (λ (ps : List ℕ). ArePlaced ws ps) (sym front) (first_within (length ws) place s.members.items placed) in
    subst (λ (ps : List ℕ). IfOk c.may_end.result (λ may. Decides may (IsEnd schema H (c.args.client + 1) ws ps c.args.last (slice_get s.members.items place) c.args.number))) front
    (subst (λ (o : Option ℕ). IfOk c.may_end.result (λ may. Decides may (IsEnd schema H (c.args.client + 1) ws c.split_at.result.0.now c.args.last o c.args.number))) fired
    (c.may_end.ensures schema H txns knows last within))
