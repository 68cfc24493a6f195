-- The key of a question is short.
use Rattle.std.proofs.Common.{◌≡◌, ◌≤◌, Bool, true, false, cond, Result, Ok, Err, IfOk, length, nat_lt, refl, sym, subst, arith}
use Rattle.std.proofs.lemmas.Bool.Decides.{nat_tests}
use Rattle.mdb_encode.specs.KeyAnswers.{AnswersKey}
use Rattle.mdb_encode.specs.ArgRefusal.{arg_too_long}
use Rattle.mdb_encode.specs.Arguments.{Argued, limited_arg}
use Rattle.mdb_encode.specs.Bytes.{Bytes}
use Rattle.mdb_encode.specs.Keys.{longest_key}
use Rattle.mdb_encode.specs.declared.error.ArgError.{ArgError}
use Rattle.table_index.specs.inner.Keys.{IsShort}

-- a key that isn't too long is short
short_from : (k : Bytes) → nat_lt 1024 (length k) ≡ false → length k ≤ 1024
short_from k e = grind (arith, nat_tests)

-- a key that arguments make is short
limited_short : (raw : Argued) (k : Bytes) → AnswersKey (limited_arg raw) (Ok k) → IsShort k
limited_short (Err why) k answers = cc
limited_short (Ok j) k answers = of (nat_lt longest_key (length j)) refl answers
  where
    of : (b : Bool) → nat_lt longest_key (length j) ≡ b → AnswersKey (cond b (Err arg_too_long) (Ok j)) (Ok k) → IsShort k
    of true e h = cc
    of false e h = subst IsShort (sym h) (short_from j e)

pub short_key : (raw : Argued) (r : Result Bytes ArgError) → AnswersKey (limited_arg raw) r → IfOk r IsShort
short_key raw (Ok k) answers = limited_short raw k answers
short_key raw (Err e) answers = tt
