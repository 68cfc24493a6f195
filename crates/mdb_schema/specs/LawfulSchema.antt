-- What each schema keeps to, and each table and index of one: the facts that the types carry.
use Rattle.std.specs.Prelude.{◌≡◌, ◌<◌, ◌≤◌, length, true, false, All, IsSome, IsTrue, codes, map, List}
use Rattle.std.specs.List.Sorted.{IsStrictlySortedBy}
use Rattle.mdb_encode.specs.Bytes.{Bytes, byte_order}
use Rattle.mdb_encode.specs.Lawful.{IsLawful}
use Rattle.mdb_schema.specs.Names.{is_declared_name}
use Rattle.mdb_schema.specs.Reading.{is_multi}
use Rattle.mdb_schema.specs.Schema.{IndexSchema, TableSchema, DbSchema, index_named}

abbrev pub index_names : List IndexSchema → List Bytes
index_names is = map (λ (i : IndexSchema). i.name) is

abbrev pub table_names : List TableSchema → List Bytes
table_names ts = map (λ (t : TableSchema). t.name) ts

-- names stand in byte order, and none comes twice
abbrev pub AreInOrder : List Bytes → Type 0
AreInOrder names = IsStrictlySortedBy byte_order names

-- the index `id`: of one key, unique, and never missing
pub record IsId (i : IndexSchema) : Type 0 where
  pub single : is_multi i.indexer ≡ false
  pub unique : i.unique ≡ true
  pub always : i.allow_missing ≡ false

pub record IsLawfulIndex (i : IndexSchema) : Type 0 where
  pub name : IsTrue (is_declared_name i.name)
  pub kind : IsLawful i.indexer
  pub id : i.name ≡ codes "id" → IsId i

-- 1 to 32 indexes, of which one is `id`
pub record IsLawfulTable (t : TableSchema) : Type 0 where
  pub name : IsTrue (is_declared_name t.name)
  pub some : 0 < length t.indexes
  pub few : length t.indexes ≤ 32
  pub order : AreInOrder (index_names t.indexes)
  pub has_id : IsSome (index_named (codes "id") t.indexes)
  pub each : All IsLawfulIndex t.indexes

-- 1 to 64 tables
pub record IsLawfulSchema (s : DbSchema) : Type 0 where
  pub some : 0 < length s
  pub few : length s ≤ 64
  pub order : AreInOrder (table_names s)
  pub each : All IsLawfulTable s
