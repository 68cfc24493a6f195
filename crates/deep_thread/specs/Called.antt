-- What a closure that may have been called leaves.
use Rattle.std.specs.Prelude.{◌≡◌, Option, Some, None}

-- called once, it answered this and is left so; or it wasn't called, and is as before
abbrev pub IsCalled : {F A : Type 0} → (F → A → F → Type 0) → F → Option A → F → Type 0
IsCalled step before (Some a) after = step before a after
IsCalled step before None after = after ≡ before
