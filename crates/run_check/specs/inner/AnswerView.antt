-- The answer to a question, of the pairs that are seen in the index where it looks.
use Rattle.std.specs.Prelude.{List, Bool, Option, true, false, IsTrue, is_some, ⊤}
use Rattle.std.specs.FinMap as finite
use Rattle.std.specs.Ordering.{is_ge, is_le}
use Rattle.mdb_datum.specs.Bytes.{Bytes, byte_order, is_prefix}
use Rattle.mdb_datum.specs.Pairs.{first_item, last_item}
use Rattle.mdb_datum.specs.Row.{Fields, Pair}
use Rattle.mdb_schema.specs.Answer.{answer}
use Rattle.mdb_schema.specs.declared.answer.Answer.{Answer}
use Rattle.mdb_schema.specs.declared.answer.Answer.TheVariants.{One, Many}
use Rattle.mdb_schema.specs.declared.ask.Ask.{Ask}
use Rattle.mdb_schema.specs.declared.ask.Ask.TheVariants.{First, Last, GetReverse, Lower, ReverseLower, Longest}
use Rattle.run_check.specs.declared.lookup.Lookup.{Lookup}

-- the keys of pairs rise, as those of entries do
abbrev pub KeysRise : List Pair → Type 0
KeysRise es = IsTrue (finite.is_sorted byte_order es)

-- the first of some rows, or the last
abbrev pub end_item : Bool → List Fields → Option Fields
end_item true rows = last_item rows
end_item false rows = first_item rows

-- questions for one row
abbrev pub IsForOne : Ask → Type 0
IsForOne First = ⊤
IsForOne Last = ⊤
IsForOne Longest = ⊤
IsForOne ask = ⊥

-- the others, for a list
abbrev pub IsForMany : Ask → Type 0
IsForMany First = ⊥
IsForMany Last = ⊥
IsForMany Longest = ⊥
IsForMany ask = ⊤

-- the keys of the entries that a question for a list means
abbrev pub is_meant : Ask → Bytes → Bytes → Bool
is_meant Lower key k = is_ge (byte_order k key)
is_meant ReverseLower key k = is_le (byte_order k key)
is_meant ask key k = is_prefix key k

-- against the order of keys
abbrev pub is_reverse : Ask → Bool
is_reverse GetReverse = true
is_reverse ReverseLower = true
is_reverse ask = false

-- the answer to what is asked where a question looks
abbrev pub answer_at : Ask → Lookup → List Pair → Answer
answer_at ask at es = answer ask at.exact at.key.items es

-- whether it has a row, where it is one row
abbrev pub has_row : Answer → Bool
has_row (One row) = is_some row
has_row (Many rows) = false
