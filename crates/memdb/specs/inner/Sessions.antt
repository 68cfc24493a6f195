-- Sessions that were carried out side by side.
use Rattle.std.specs.Prelude.{◌≡◌, List, [], ◌∷◌, length, ⊤}
use Rattle.client_session.specs.Answered.{HasAnswered}
use Rattle.client_session.specs.Progress.{Progress}

-- all lines of each script are answered
abbrev pub HaveAnswered : List Progress → List Progress → Type 0
HaveAnswered [] [] = ⊤
HaveAnswered [] (t ∷ ts) = ⊥
HaveAnswered (s ∷ ss) [] = ⊥
HaveAnswered (s ∷ ss) (t ∷ ts) =
    HasAnswered s t × (t.script ≡ s.script) × (t.answered ≡ length s.script) × HaveAnswered ss ts
