-- What a comparison of two bytes says of them.
use Rattle.std.proofs.Common.{◌≡◌, ◌<◌, ℕ, sym, Less, Equal, Greater}
use Rattle.std.specs.Ordering.{nat_cmp}
use Rattle.std.specs.Cmp.{nat_cmp_is, ranked}

pub what_less : (x y : ℕ) → nat_cmp x y ≡ Less → x < y
what_less x y e = ranked x y Less (sym e)

pub what_equal : (x y : ℕ) → nat_cmp x y ≡ Equal → x ≡ y
what_equal x y e = ranked x y Equal (sym e)

pub what_greater : (x y : ℕ) → nat_cmp x y ≡ Greater → y < x
what_greater x y e = ranked x y Greater (sym e)

pub less_from : (x y : ℕ) → x < y → nat_cmp x y ≡ Less
less_from x y h = sym (nat_cmp_is x y Less h)

pub equal_from : (x y : ℕ) → x ≡ y → nat_cmp x y ≡ Equal
equal_from x y h = sym (nat_cmp_is x y Equal h)

pub greater_from : (x y : ℕ) → y < x → nat_cmp x y ≡ Greater
greater_from x y h = sym (nat_cmp_is x y Greater h)
