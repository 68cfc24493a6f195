-- What holds of a value, where there is one, through tests one after the other.
use Rattle.std.proofs.Common.{◌≡◌, refl, Result, Ok, Err}
use Rattle.std.specs.Bool.{⊤}
use Rattle.mdb_schema.specs.Tests.{◌>>=◌}

-- what came out has P
abbrev pub IfOk : {A E : Type 0} → (A → Type 0) → Result A E → Type 0
IfOk P (Ok a) = P a
IfOk P (Err e) = ⊤

pub ok_then : {A B E : Type 0} (P : A → Type 0) (Q : B → Type 0) (r : Result A E) (f : A → Result B E) → IfOk P r → ((a : A) → P a → IfOk Q (f a)) → IfOk Q (r >>= f)
ok_then P Q (Ok a) f here each = each a here
ok_then P Q (Err e) f here each = tt

-- whatever came out before
pub after_any : {A B E : Type 0} (Q : B → Type 0) (r : Result A E) (f : A → Result B E) → ((a : A) → IfOk Q (f a)) → IfOk Q (r >>= f)
after_any Q (Ok a) f each = each a
after_any Q (Err e) f each = tt

-- what has P has Q
pub ok_so : {A E : Type 0} (P Q : A → Type 0) (r : Result A E) → IfOk P r → ((a : A) → P a → Q a) → IfOk Q r
ok_so P Q (Ok a) here so = so a here
ok_so P Q (Err e) here so = tt

-- with what came out known
pub ok_known : {A B E : Type 0} (Q : B → Type 0) (r : Result A E) (f : A → Result B E) → ((a : A) → r ≡ Ok a → IfOk Q (f a)) → IfOk Q (r >>= f)
ok_known Q (Ok a) f each = each a refl
ok_known Q (Err e) f each = tt

-- what came out was made of what came out before
pub came_of : {A B E : Type 0} (r : Result A E) (f : A → Result B E) (x : B) → (r >>= f) ≡ Ok x → (a : A) × (r ≡ Ok a) × (f a ≡ Ok x)
came_of (Ok a) f x is = (a, refl, is)
came_of (Err e) f x is = cc
