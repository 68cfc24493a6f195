-- Copies of one value.
use Rattle.std.specs.Prelude.{◌≡◌, List}
use Rattle.std.specs.List.{All}
use Rattle.std.specs.Arc.{arc_value}
use Rattle.std.specs.declared.sync.Arc.{Arc}

-- to contracts each of them is the value
abbrev pub AreCopies : {V Z : Type 0} → V → List (Arc V Z) → Type 0
AreCopies {V} {Z} v copies = All (λ (a : Arc V Z). arc_value a ≡ v) copies
