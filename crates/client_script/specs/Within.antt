-- What a client knows looks at no more than the first n commits.
use Rattle.std.specs.Prelude.{◌≤◌, ℕ, List, [], ◌∷◌, ⊤}
use Rattle.client_script.specs.Client.{Client, Snapshot, Transaction, closed, reading, writing}

-- a transaction stands on one of the first n commits
abbrev pub StandsWithin : ℕ → Transaction → Type 0
StandsWithin n closed = ⊤
StandsWithin n (reading m) = m ≤ n
StandsWithin n (writing t) = t.number ≤ n

-- and so does each snapshot
abbrev pub AllWithin : ℕ → List Snapshot → Type 0
AllWithin n [] = ⊤
AllWithin n (s ∷ ss) = (s.sight.number ≤ n) × AllWithin n ss

pub record IsWithin (n : ℕ) (v : Client) : Type 0 where
  pub transaction : StandsWithin n v.transaction
  pub snapshots : AllWithin n v.snapshots
