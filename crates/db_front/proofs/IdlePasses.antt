-- Lists of passes that hold no turn, as passes are taken out and given back.
use Rattle.std.proofs.Common.{◌≡◌, List, [], ◌∷◌, ◌++◌, sym, subst, ◌∙◌}
use Rattle.db_front.specs.Passes.{FrontId, Known, AreIdle}

module _ {V : Type 0} where
  pub idle_given : (t : FrontId) (ps : List (Known V)) (p : Known V) → AreIdle t ps → p.table ≡ t → p.stage ≡ 0 → AreIdle t (ps ++ p ∷ [])
  idle_given t [] p all here idle = (here, idle, tt)
  idle_given t (q ∷ ps) p all here idle = (all.0, all.1, idle_given t ps p all.2 here idle)

  -- the first pass is taken out, and given back at the end
  pub idle_turned : (t : FrontId) (old rest new : List (Known V)) (p q : Known V) → AreIdle t old → old ≡ p ∷ rest → q.table ≡ p.table → q.stage ≡ 0
      → new ≡ rest ++ q ∷ [] → AreIdle t new
  idle_turned t old rest new p q all old_is same idle new_is =
      let parts : AreIdle t (p ∷ rest) = subst (AreIdle t) old_is all in
      subst (AreIdle t) (sym new_is) (idle_given t rest q parts.2 (same ∙ parts.0) idle)
