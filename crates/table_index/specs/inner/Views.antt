-- What a contract sees of a table, of a transaction on it and of where a question looks.
use Rattle.std.specs.Prelude.{◌≡◌, ◌<◌, [], false, length, unwrap_or}
use Rattle.mdb_datum.specs.Pairs.{first_item}
use Rattle.mdb_encode.specs.Bytes.{Bytes}
use Rattle.mdb_schema.specs.Answer.{Lookup}
use Rattle.table_index.specs.Spot.{SpotOf}
use Rattle.table_index.specs.Table.{TableRows, TableChange}
use Rattle.table_index.specs.inner.IndexTrees.{AreSound, AreTrees, nodes_of, plains, rows_held, starts_of, trees_of}
use Rattle.table_index.specs.inner.Keys.{IsShort}
use Rattle.table_index.specs.inner.Lookups.{key_or_empty}
use Rattle.table_index.specs.declared.id_key.IdKey.TheInside as id_key
use Rattle.table_index.specs.declared.lookup.Target.TheInside as target
use Rattle.table_index.specs.declared.table.Table.TheInside as table
use Rattle.table_index.specs.declared.table_txn.TableTxn.TheInside as table_txn
use Rattle.table_index.specs.declared.watched.Spot.TheInside as spot

abbrev pub id_view : id_key.Inside → Bytes
id_view k = unwrap_or (first_item k.keys) []

-- there is a first key, and it is short
pub record IsIdKey (k : id_key.Inside) : Type 0 where
  pub some : 0 < length k.keys
  pub short : IsShort (id_view k)

abbrev pub table_view : table.Inside → TableRows
table_view t = record {
  schema = t.def;
  rows = rows_held t.def (plains t.trees.items);
  trees = t.trees.items;
}

abbrev pub IsTable : table.Inside → Type 0
IsTable t = AreTrees t.def (plains t.trees.items)

abbrev pub change_view : table_txn.Inside → TableChange
change_view t = record {
  schema = t.def;
  rows = rows_held t.def (nodes_of t.trees.items);
  start = starts_of t.trees.items;
  trees = trees_of t.trees.items;
  spoiled = t.spoiled;
}

-- until a write finds no memory the trees hold the entries of the rows, and each may be written
pub record IsChange (t : table_txn.Inside) : Type 0 where
  pub trees : t.spoiled ≡ false → AreTrees t.def (nodes_of t.trees.items)
  pub sound : t.spoiled ≡ false → AreSound t.trees.items

abbrev pub target_view : target.Inside → Lookup
target_view l = record { place = l.place; index = l.index.now; key = key_or_empty l.key }

abbrev pub IsTarget : target.Inside → Type 0
IsTarget l = IsShort (key_or_empty l.key)

abbrev pub spot_view : spot.Inside → SpotOf
spot_view s = record { index = s.index; key = key_or_empty s.key; exact = s.exact; watch = s.watch }
