-- The numbers that replies print for the commits after which they look: those of transactions that
-- begin, of checks and of waits.
use Rattle.std.specs.Prelude.{◌≡◌, ◌⊎◌, ℕ, List, [], ◌∷◌, ◌++◌}
use Rattle.client_script.specs.Reply.{Reply, fired_at, quiet_at, read_at, stopped_at, woken_by, write_at}

-- the number that a reply prints for the commits that the client then looks at
abbrev pub count_told : Reply → List ℕ
count_told (read_at n) = n ∷ []
count_told (write_at n) = n ∷ []
count_told (quiet_at n) = n ∷ []
count_told (fired_at n) = n ∷ []
count_told (woken_by name n) = n ∷ []
count_told (stopped_at n) = n ∷ []
count_told r = []

-- the same of some replies, in order
abbrev pub counts_told : List Reply → List ℕ
counts_told [] = []
counts_told (r ∷ rs) = count_told r ++ counts_told rs

-- numbers are some of others, in the same order
abbrev pub AreAmong : List ℕ → List ℕ → Type 0
AreAmong [] ms = Unit {0}
AreAmong (n ∷ ns) [] = ⊥
AreAmong (n ∷ ns) (m ∷ ms) = ((n ≡ m) × AreAmong ns ms) ⊎ AreAmong (n ∷ ns) ms
