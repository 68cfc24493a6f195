use Rattle.std.proofs.Common.{◌≡◌, ◌∙◌, ◌++◌, ◌∷◌, [], map, sym, ap, subst, Option}
use Rattle.std.specs.Prelude.{MatchOption, option_to_list}
use Rattle.db_front.proofs.SeatNumbers.{none_first}
use Rattle.mem_txn.specs.Database.{Caller, Callers}
use Rattle.mem_txn.specs.inner.Versions.{caller_of}
use Rattle.mem_txn.proofs.passes.Passes.take.Goals.{in-Some, in-None}
use Rattle.mem_txn.proofs.passes.Passes.take.Goals as goal

pub returns : goal.returns
returns c =
    let ks = c.self.inside.list.passes in
    let held = c.take.new.self in
    let left : Callers = record { passes = map caller_of held.passes; made = held.room } in
    let told : Option Caller → Type 0 = λ o. MatchOption o ((c.args.self.now.passes ≡ []) × (left ≡ c.args.self.now)) (λ p. c.args.self.now ≡ record left { passes = p ∷ left.passes }) in
    elim c.match-take.branch [
      | in-Some w ↦ (
          let token = w.in-Some.token in
          let all : ks ≡ token ∷ held.passes = c.take.ensures.rest ∙ ap (λ o. option_to_list o ++ held.passes) w.in-Some.is in
          let passes = ap (map caller_of) all in
          subst told (sym w.result-is) (sym c.self.view_is ∙ (λ i. let r : Callers = record { passes = passes i; made = sym c.take.ensures.room i } in r)))
      | in-None w ↦ (
          let none = w.in-None.is in
          let all : ks ≡ held.passes = c.take.ensures.rest ∙ ap (λ o. option_to_list o ++ held.passes) none in
          let empty : ks ≡ [] = none_first ks (sym c.take.ensures.first ∙ none) in
          let passes = ap (map caller_of) (sym all) in
          subst told (sym w.result-is) (ap (λ (ps : Callers). ps.passes) (sym c.self.view_is) ∙ ap (map caller_of) empty, (λ i. let r : Callers = record { passes = passes i; made = c.take.ensures.room i } in r) ∙ c.self.view_is))
    ]
