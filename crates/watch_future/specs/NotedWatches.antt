-- What a future keeps of the watches that it noted.
use Rattle.std.specs.Prelude.{◌≡◌, ◌⊎◌, ℕ, List, [], ◌∷◌, map}
use Rattle.watch_word.specs.Logs.{Cell}
use Rattle.watch_future.specs.declared.noted_watch.NotedWatch.{NotedWatch}

-- the cells of the watches, in order
abbrev pub cells_noted : List NotedWatch → List Cell
cells_noted ks = map (λ (k : NotedWatch). k.watch) ks

-- the source is one of those that are kept
abbrev pub HasSource : List NotedWatch → ℕ → Type 0
HasSource [] s = ⊥
HasSource (k ∷ ks) s = (s ≡ k.source.id) ⊎ HasSource ks s
