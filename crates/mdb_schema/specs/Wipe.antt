-- A wipe: the writes that take out each row that a question lists, each once, in the order of its
-- first listing; or the first rule that the question breaks (go-memdb's `Txn.DeleteAll` and
-- `Txn.DeletePrefix`). The rules, in their order: `unknown_table`; for a wipe by prefix
-- `no_prefix_name`; those of `lookup_of` in `Answer.antt` that a question which asks as `get` may
-- break, which are `unknown_index` and the rules of the arguments.
use Rattle.std.specs.Prelude.{List, [], ◌∷◌, not, if◌then◌else◌, filter, map, Ok}
use Rattle.mdb_datum.specs.Pairs.{rows_of, with_prefix}
use Rattle.mdb_datum.specs.Row.{Fields}
use Rattle.mdb_encode.specs.Bytes.{Bytes}
use Rattle.mdb_schema.specs.Answer.{Asked, lookup_of, unknown_table, no_prefix_name, is_prefix_name}
use Rattle.mdb_schema.specs.Entries.{entries}
use Rattle.mdb_schema.specs.Query.{Query}
use Rattle.mdb_schema.specs.Schema.{TableSchema, DbSchema}
use Rattle.mdb_schema.specs.State.{State, table_at, id_key}
use Rattle.mdb_schema.specs.Tests.{◌>>=◌, needed, passed}
use Rattle.mdb_schema.specs.declared.ask.Ask.TheVariants.{Get}
use Rattle.mdb_schema.specs.Write.{Write, remove, is_among}

-- rows in their order, each once; the first list has the `id` keys that came before
abbrev pub once_after : TableSchema → List Bytes → List Fields → List Fields
once_after t seen [] = []
once_after t seen (r ∷ rs) =
    if is_among seen (id_key t r) then once_after t seen rs
    else r ∷ once_after t (id_key t r ∷ seen) rs

abbrev pub once : TableSchema → List Fields → List Fields
once t rs = once_after t [] rs

-- the rows that a wipe takes out: those that Get lists by the question's index and arguments,
-- whatever the question's own word
abbrev pub wiped_rows : TableSchema → List Fields → Query → Asked (List Fields)
wiped_rows t rows q = do
  at ← lookup_of t (record q { ask = Get })
  Ok (once t (rows_of (with_prefix at.key (entries t at.index rows))))

-- the same, where the name of the index has to end in `_prefix`
abbrev pub wiped_rows_by_prefix : TableSchema → List Fields → Query → Asked (List Fields)
wiped_rows_by_prefix t rows q = do
  named ← passed no_prefix_name (is_prefix_name q.index)
  wiped_rows t rows q

-- the rows of a table without those
abbrev pub without_rows : TableSchema → List Fields → List Fields → List Fields
without_rows t gone rows = filter (λ r. not (is_among (map (id_key t) gone) (id_key t r))) rows

abbrev pub removals : Bytes → List Fields → List Write
removals name gone = map (remove name) gone

abbrev pub wipe : DbSchema → State → Query → Asked (List Write)
wipe schema s q = do
  table ← needed unknown_table (table_at schema s q.table)
  gone ← wiped_rows table.schema table.rows q
  Ok (removals q.table gone)

abbrev pub wipe_by_prefix : DbSchema → State → Query → Asked (List Write)
wipe_by_prefix schema s q = do
  table ← needed unknown_table (table_at schema s q.table)
  gone ← wiped_rows_by_prefix table.schema table.rows q
  Ok (removals q.table gone)
