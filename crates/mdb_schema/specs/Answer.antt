-- Questions: a filter of the entries of an index, or the first rule that the question breaks. The
-- tests stand in the order in which they are made: the table, the name's ending, the index, then
-- its arguments.
use Rattle.std.specs.Prelude.{◌&&◌, ◌||◌, ◌-◌, ℕ, List, [], ◌∷◌, Bool, true, false, not, if◌then◌else◌}
use Rattle.std.specs.Prelude.{option_map, Result, Ok, Err, slice_get}
use Rattle.std.specs.Prelude.{reverse, take, length, nat_eq, nat_lt, codes}
use Rattle.std.specs.List.{ends_with}
use Rattle.std.specs.FinMap.Entries.{where_key}
use Rattle.std.specs.Str.{bytes_eq}
use Rattle.mdb_datum.specs.Doc.{Doc}
use Rattle.mdb_datum.specs.Pairs.{first_item, last_item, rows_of, with_prefix, at_least, at_most, prefixes_of, longest_pair}
use Rattle.mdb_datum.specs.Row.{Fields, Pair}
use Rattle.mdb_encode.specs.ArgRefusal.{ArgRefusal, arg_count}
use Rattle.mdb_encode.specs.Arguments.{Argued, arg, pre}
use Rattle.mdb_encode.specs.Bytes.{Bytes, byte_order}
use Rattle.mdb_schema.specs.Entries.{entries}
use Rattle.mdb_schema.specs.Query.{Query}
use Rattle.mdb_schema.specs.Schema.{IndexSchema, TableSchema, DbSchema, index_place}
use Rattle.mdb_schema.specs.State.{State, table_at}
use Rattle.mdb_schema.specs.Tests.{◌>>=◌, needed, passed}
use Rattle.mdb_schema.specs.declared.answer.Answer.{Answer}
use Rattle.mdb_schema.specs.declared.answer.Answer.TheVariants.{One, Many}
use Rattle.mdb_schema.specs.declared.ask.Ask.{Ask}
use Rattle.mdb_schema.specs.declared.ask.Ask.TheVariants.{First, Last, Get, GetReverse, Lower, ReverseLower, Longest}

-- Why a question is refused.
pub data AskRefusal : Type 0 where
  unknown_table : AskRefusal
  -- the question needs a name that ends in `_prefix`
  no_prefix_name : AskRefusal
  unknown_index : AskRefusal
  -- the question needs a unique index
  not_unique : AskRefusal
  -- the arguments break a rule of the index's keys
  bad_argument : ArgRefusal → AskRefusal

abbrev pub Asked : Type 0 → Type 0
Asked A = Result A AskRefusal

-- what a question's name of an index ends with, where it means the prefix form of the argument
abbrev pub prefix_ending : Bytes
prefix_ending = codes "_prefix"

abbrev pub is_prefix_name : Bytes → Bool
is_prefix_name name = ends_with nat_eq name prefix_ending

-- the index's own name
abbrev pub own_name : Bytes → Bytes
own_name name = if is_prefix_name name then take (length name - length prefix_ending) name else name

abbrev pub has_argument : Query → Bool
has_argument q = nat_lt 0 (length q.args)

abbrev pub argument : Argued → Asked Bytes
argument (Ok k) = Ok k
argument (Err e) = Err (bad_argument e)

-- what a question's arguments make, by themselves or in the prefix form, as its name of the index
-- says
abbrev pub argued_by : IndexSchema → Query → Argued
argued_by i q =
    if is_prefix_name q.index then pre i.indexer q.args else arg i.indexer q.args

-- the key of a question's arguments, empty where there is none
abbrev pub key_asked : IndexSchema → Query → List Doc → Asked Bytes
key_asked i q [] = Ok []
key_asked i q (d ∷ ds) =
    argument (if is_prefix_name q.index then pre i.indexer (d ∷ ds) else arg i.indexer (d ∷ ds))

-- `longest` needs a name that ends in `_prefix`
abbrev pub may_name : Ask → Query → Bool
may_name Longest q = is_prefix_name q.index
may_name a q = true

-- and a unique index
abbrev pub may_ask : Ask → IndexSchema → Bool
may_ask Longest i = i.unique
may_ask a i = true

-- and an argument, as `reverse_lower` does
abbrev pub needs_argument : Ask → Bool
needs_argument Longest = true
needs_argument ReverseLower = true
needs_argument a = false

-- on a unique index an argument by the index's own name asks for the entry of that very full key,
-- else for those that begin with it
abbrev pub is_exact : IndexSchema → Query → Bool
is_exact i q = i.unique && not (is_prefix_name q.index) && has_argument q

abbrev pub picked : Bool → Bytes → List Pair → List Fields
picked exact k es = rows_of (if exact then where_key byte_order (bytes_eq k) es else with_prefix k es)

-- the entries that a question is about, filtered, in order or against it
abbrev pub answer : Ask → Bool → Bytes → List Pair → Answer
answer First exact k es = One (first_item (picked exact k es))
answer Last exact k es = One (last_item (picked exact k es))
answer Get exact k es = Many (rows_of (with_prefix k es))
answer GetReverse exact k es = Many (reverse (rows_of (with_prefix k es)))
answer Lower exact k es = Many (rows_of (at_least k es))
answer ReverseLower exact k es = Many (reverse (rows_of (at_most k es)))
answer Longest exact k es = One (option_map (λ (e : Pair). e.1) (longest_pair (prefixes_of k es)))

-- where a question looks: the place of an index in the table, the index, and a key
pub record Lookup : Type 0 where
  pub place : ℕ
  pub index : IndexSchema
  pub key : Bytes

abbrev pub lookup_of : TableSchema → Query → Asked Lookup
lookup_of t q = do
  named ← passed no_prefix_name (may_name q.ask q)
  place ← needed unknown_index (index_place (own_name q.index) t.indexes)
  i ← needed unknown_index (slice_get t.indexes place)
  able ← passed not_unique (may_ask q.ask i)
  enough ← passed (bad_argument arg_count) (not (needs_argument q.ask) || has_argument q)
  k ← key_asked i q q.args
  Ok (record { place = place; index = i; key = k })

-- the answer to a question of the rows of its table
abbrev pub ask_rows : TableSchema → List Fields → Query → Asked Answer
ask_rows t rows q = do
  at ← lookup_of t q
  Ok (answer q.ask (is_exact at.index q) at.key (entries t at.index rows))

abbrev pub ask : DbSchema → State → Query → Asked Answer
ask schema s q = do
  table ← needed unknown_table (table_at schema s q.table)
  ask_rows table.schema table.rows q
