-- Worked outputs that break the shape, near ones to those that don't, each with the first line at
-- which it does.
use Rattle.std.specs.Prelude.{◌++◌, codes, refl}
use Rattle.mdb_datum.proofs.OnLiterals.{reading_on_literals}
use Rattle.mdb_datum.specs.Bytes.{Bytes}
use Rattle.run_check.specs.worked.Rows.{ann, ann_first, ann_out, ann_with, BadForOne}

-- ---- a client that writes a row and reads it back

-- an empty output lacks its first line
pub empty : BadForOne ann (codes "") 1
unfolding reading_on_literals
empty = refl

-- a line that is missing has the number of the last one plus one
pub last_line_left_out : BadForOne ann (ann_first 6) 7
unfolding reading_on_literals
last_line_left_out = refl

-- a line feed ends the last line too
pub not_ended : BadForOne ann (ann_first 6 ++ codes "6: none") 7
unfolding reading_on_literals
not_ended = refl

-- nothing follows the last reply
pub something_follows : BadForOne ann (ann_out ++ codes "7: none\n") 8
unfolding reading_on_literals
something_follows = refl

-- each client has its own number
pub other_heading : BadForOne ann (ann_with 1 (codes "client 2 c1")) 1
unfolding reading_on_literals
other_heading = refl

-- and its own word
pub other_word : BadForOne ann (ann_with 1 (codes "client 1 c2")) 1
unfolding reading_on_literals
other_word = refl

-- a reply begins with the number of its line in the script
pub other_line : BadForOne ann (ann_with 3 (codes "3: inserted")) 3
unfolding reading_on_literals
other_line = refl

-- an answer has a form of its command
pub other_form : BadForOne ann (ann_with 3 (codes "2: deleted")) 3
unfolding reading_on_literals
other_form = refl

-- a number has no leading zeros
pub leading_zero : BadForOne ann (ann_with 4 (codes "3: commit @01")) 4
unfolding reading_on_literals
leading_zero = refl

-- and is below 2^64
pub large_number : BadForOne ann (ann_with 4 (codes "3: commit @18446744073709551616")) 4
unfolding reading_on_literals
large_number = refl

-- no further line follows an answer of one line
pub further_line : BadForOne ann (ann_out ++ codes "  \n") 8
unfolding reading_on_literals
further_line = refl

-- whether the transaction may write is decided by the order of the lines alone
pub order_refusal : BadForOne ann (ann_with 3 (codes "2: refused read-only")) 3
unfolding reading_on_literals
order_refusal = refl

-- no line is told that there are too few ids
pub no_ids : BadForOne ann (ann_with 3 (codes "2: refused ids-spent")) 3
unfolding reading_on_literals
no_ids = refl

-- the first line that breaks the shape is told
pub first_of_two : BadForOne ann (ann_first 2 ++ codes "2: deleted\n3: commit @01\n") 3
unfolding reading_on_literals
first_of_two = refl

-- ---- a client whose lines break the order, and that asks for rows

abbrev orders : Bytes
orders =
    codes "commit\n" ++
    codes "read\n" ++
    codes "get t id\n" ++
    codes "end\n"

-- it alone decides that no transaction is open, and no further word follows
pub order_decides : BadForOne orders (codes "client 1 c1\n1: refused no-transaction x\n") 2
unfolding reading_on_literals
order_decides = refl

-- a refusal that it decides has to be there
pub refusal_of_the_order_is_needed : BadForOne orders (codes "client 1 c1\n1: commit @1\n") 2
unfolding reading_on_literals
refusal_of_the_order_is_needed = refl

-- as many rows follow as are told: here one is missing
pub too_few_rows : BadForOne orders (codes "client 1 c1\n1: refused no-transaction\n2: read @0\n3: rows 2\n  {}\n4: ended\n") 6
unfolding reading_on_literals
too_few_rows = refl

-- and here is one too many
pub too_many_rows : BadForOne orders (codes "client 1 c1\n1: refused no-transaction\n2: read @0\n3: rows 0\n  {}\n4: ended\n") 5
unfolding reading_on_literals
too_many_rows = refl
