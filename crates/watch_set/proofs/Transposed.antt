-- What may be told, and may fail, taken the other way round.
use Rattle.std.proofs.Common.{◌≡◌, Option, Some, None, Result, Ok, Err, refl}
use Rattle.std.specs.Result.{result_transpose}

-- nothing was told
pub untold : {A E : Type 0} (r : Result (Option A) E) → result_transpose r ≡ None → r ≡ Ok None
untold (Ok None) is = refl
untold (Ok (Some a)) is = absurd cc
untold (Err e) is = absurd cc
