-- Worked outputs whose numbers, or the states on which their commits stand, are none of a history.
use Rattle.std.specs.Prelude.{codes, refl}
use Rattle.mdb_datum.proofs.OnLiterals.{reading_on_literals}
use Rattle.run_check.specs.worked.Rows.{ann, ann_with, two_out, BadForOne, BadForTwo}

-- with one commit there is no second
pub number_past_all : BadForOne ann (ann_with 4 (codes "3: commit @2")) 4
unfolding reading_on_literals
number_past_all = refl

-- numbers begin with 1
pub number_zero : BadForOne ann (ann_with 4 (codes "3: commit @0")) 4
unfolding reading_on_literals
number_zero = refl

-- no number is printed twice: the later line is bad, whatever it stands on
pub number_twice : BadForTwo (two_out (codes "write @0") (codes "commit @1") (codes "write @0") (codes "commit @1")) 8
unfolding reading_on_literals
number_twice = refl

-- two clients that both begin on no commit can't both commit: the second is bad
pub same_base : BadForTwo (two_out (codes "write @0") (codes "commit @1") (codes "write @0") (codes "commit @2")) 8
unfolding reading_on_literals
same_base = refl

-- a transaction stands on the commit before its own, and not on itself
pub base_of_itself : BadForTwo (two_out (codes "write @1") (codes "commit @1") (codes "write @1") (codes "commit @2")) 4
unfolding reading_on_literals
base_of_itself = refl

-- all numbers are tested before the states on which they stand
pub numbers_before_bases : BadForTwo (two_out (codes "write @1") (codes "commit @1") (codes "write @0") (codes "commit @3")) 8
unfolding reading_on_literals
numbers_before_bases = refl
