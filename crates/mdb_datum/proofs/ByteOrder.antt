-- The order of byte strings is total, and keys that tie in it are the same.
use Rattle.std.proofs.Common.{◌≡◌, ◌∙◌, Bool, true, false, T, Ordering, Less, Equal, refl, ap, is_eq, is_lt}
use Rattle.std.proofs.lemmas.Bool.{false≢true}
use Rattle.std.proofs.lemmas.Cmp.{nat_list_cmp_total, tied_itself}
use Rattle.std.specs.Cmp.{IsTotalOrder}
use Rattle.std.specs.FinMap.{nat_cmp-IsAntisymmetric, slice_cmp-IsAntisymmetric}
use Rattle.std.specs.Ordering.{ordering_reverse}
use Rattle.mdb_datum.specs.Bytes.{Bytes, byte_order}

pub byte_order_total : IsTotalOrder byte_order
byte_order_total = nat_list_cmp_total

-- keys that tie are the same
pub same_from_byte_order : (a b : Bytes) → byte_order a b ≡ Equal → a ≡ b
same_from_byte_order = slice_cmp-IsAntisymmetric nat_cmp-IsAntisymmetric

-- the comparison the other way round
pub turned : (a b : Bytes) (o : Ordering) → byte_order a b ≡ o → byte_order b a ≡ ordering_reverse o
turned a b o e = byte_order_total.antisymm b a ∙ ap ordering_reverse e

pub byte_order_itself : (a : Bytes) → byte_order a a ≡ Equal
byte_order_itself = tied_itself byte_order_total

-- ---- tests of an ordering, and of what std says by `T`

pub equal_from_is_eq : (o : Ordering) → is_eq o ≡ true → o ≡ Equal
equal_from_is_eq Equal e = refl
equal_from_is_eq _ e = absurd (false≢true e)

pub less_from_is_lt : (o : Ordering) → is_lt o ≡ true → o ≡ Less
less_from_is_lt Less e = refl
less_from_is_lt _ e = absurd (false≢true e)

pub T_from_true : (b : Bool) → b ≡ true → T b
T_from_true true e = tt
T_from_true false e = absurd (false≢true e)

pub true_from_T : (b : Bool) → T b → b ≡ true
true_from_T true h = refl
true_from_T false h = absurd h
