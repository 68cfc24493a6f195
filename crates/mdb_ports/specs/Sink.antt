-- What a sink tells of its bytes.
use Rattle.std.specs.Prelude.{◌≡◌, ◌++◌, ℕ, List, Option, None, option_map}

-- the bytes that a sink tells have grown by these; a sink that doesn't tell goes on so
abbrev pub Grows : Option (List ℕ) → Option (List ℕ) → List ℕ → Type 0
Grows before now piece = now ≡ option_map (λ bytes. bytes ++ piece) before

-- what a sink tells that doesn't tell its bytes
abbrev pub untold : Option (List ℕ)
untold = None
