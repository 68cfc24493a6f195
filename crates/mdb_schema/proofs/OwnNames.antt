-- An index's own name in a question's name of it.
use Rattle.std.proofs.Common.{◌≡◌, ◌-◌, Bool, false, cond, None, length, eqb, take, ap}
use Rattle.std.specs.List.{ends_with}
use Rattle.std.specs.Str.Pattern.{FindsTextSuffix}
use Rattle.std.proofs.lemmas.Str.Pattern.{ends_text}
use Rattle.mdb_encode.specs.Bytes.{Bytes}

abbrev stripped : Bytes → Bytes → Bytes
stripped ending name = cond (ends_with eqb name ending) (take (length name - length ending) name) name

-- a name without it
pub own_whole : (ending name : Bytes) → FindsTextSuffix ending name None → name ≡ stripped ending name
own_whole ending name none = ap (λ (b : Bool). cond b (take (length name - length ending) name) name) (ends_text false ending name none)
