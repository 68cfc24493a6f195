-- The reading of a row's `id` key, by the first of its keys in the index `id`.
use Rattle.std.proofs.Common.{◌≡◌, ◌∙◌, ℕ, List, [], codes, slice_get, Option, Some, None, option_and_then, Ok, sym, ap, subst}
use Rattle.mdb_datum.specs.Pairs.{first_item}
use Rattle.mdb_datum.specs.Row.{Fields}
use Rattle.mdb_encode.specs.Bytes.{Bytes}
use Rattle.mdb_encode.specs.Keys.{Keyed, keys}
use Rattle.mdb_schema.specs.ErrorsTold.{TellsRefusal}
use Rattle.mdb_schema.specs.Schema.{IndexSchema, TableSchema, index_place}
use Rattle.mdb_schema.specs.State.{id_keys}
use Rattle.mdb_schema.specs.Tests.{◌>>=◌, needed}
use Rattle.mdb_schema.specs.Write.{Tested, no_id, keys_at, id_of}
use Rattle.mdb_schema.specs.declared.write_error.WriteError.{WriteError}
use Rattle.mdb_schema.proofs.IdKeys.{index_named-place}
use Rattle.mdb_schema.proofs.PassedTests.{needed_on, goes_on}
use Rattle.mdb_schema.proofs.RefusalsTold.{told_on}

abbrev first_of_keys : List Bytes → Tested Bytes
first_of_keys ks = needed no_id (first_item ks)

abbrev keys_by : Fields → Option IndexSchema → Keyed
keys_by row None = Ok []
keys_by row (Some i) = keys i.indexer row

module _ (t : TableSchema) (row : Fields) (place : ℕ) (placed : index_place (codes "id") t.indexes ≡ Some place)
    (i : IndexSchema) (there : slice_get t.indexes place ≡ Some i) where
  id_read : id_of t row ≡ (keys_at place (keys i.indexer row) >>= first_of_keys)
  id_read =
      needed_on no_id (index_place (codes "id") t.indexes) (λ (p : ℕ). keys_at p (id_keys t row) >>= first_of_keys) place placed
      ∙ ap (λ (o : Option IndexSchema). keys_at place (keys_by row o) >>= first_of_keys)
      (index_named-place (codes "id") t.indexes ∙ ap (option_and_then (slice_get t.indexes)) placed ∙ there)

  pub id_refused : (e : WriteError) → TellsRefusal (keys_at place (keys i.indexer row)) e → TellsRefusal (id_of t row) e
  id_refused e told = subst (λ (r : Tested Bytes). TellsRefusal r e) (sym id_read) (told_on (keys_at place (keys i.indexer row)) first_of_keys e told)

  pub id_first : (found : List Bytes) → keys_at place (keys i.indexer row) ≡ Ok found → id_of t row ≡ needed no_id (first_item found)
  id_first found e = id_read ∙ goes_on (keys_at place (keys i.indexer row)) first_of_keys found e
