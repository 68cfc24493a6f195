-- What the steps other than loads and tries tell their seat.
use Rattle.std.specs.Prelude.{◌≡◌, ℕ, ◌+◌, List, [], ◌∷◌, ◌++◌, length, drop, Option, Some}
use Rattle.atomic_table.specs.Table.{rest}
use Rattle.watch_word.specs.Logs.{Log}
use Rattle.db_front.specs.Steps.{Sat, At}

module _ {V : Type 0} where
  -- the writer's turn was given back
  abbrev pub left : At V → Sat V → ℕ → Sat V → Type 0
  left st m e m' = m' ≡ (record m.0 { stage = 0 }, m.1)

  -- the shown turn that was taken last was given back
  abbrev pub laid : ℕ → At V → Sat V → ℕ → Sat V → Type 0
  laid stage st m e m' =
      (m'.0 ≡ record m.0 { outs = drop 1 m.0.outs; stage = stage }) × (m'.1 ≡ rest m.1)

  -- what was taken goes back
  abbrev pub back : At V → Sat V → ℕ → Sat V → Type 0
  back st m e m' = laid m.0.stage st m e m'

  -- a new log goes into the next slot
  abbrev pub renewed : At V → Sat V → ℕ → Sat V → Type 0
  renewed st m e m' = laid (m.0.stage + 1) st m e m'

  -- the commit of the value in hand
  abbrev pub committed : At V → Sat V → ℕ → Sat V → Type 0
  committed st m e m' =
      (e + 1 ≡ length m.0.seen)
      × (i : ℕ) × (c : V × Log) × (cs : List (ℕ × Option (V × Log))) × (m.1 ≡ (i, Some c) ∷ cs)
      × (m' ≡ (
        record m.0 {
          seen = m.0.seen ++ (m.0.number, c.0) ∷ [];
          mine = m.0.mine ++ (m.0.number, c.0) ∷ [];
          stage = 2;
        },
        m.1,
      ))

  -- all commits are finished
  abbrev pub finished : At V → Sat V → ℕ → Sat V → Type 0
  finished st m e m' = m' ≡ (record m.0 { stage = 1 }, m.1)
