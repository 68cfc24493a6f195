-- The `id` key of a row is its only key in the index `id`, and its only full key there.
use Rattle.std.proofs.Common.{◌≡◌, ◌≢◌, ◌∙◌, ℕ, List, [], ◌∷◌, codes, Some, Ok, Contains, sym, ap}
use Rattle.mdb_datum.specs.Pairs.{first_item}
use Rattle.mdb_datum.specs.Row.{Fields}
use Rattle.mdb_encode.specs.Bytes.{Bytes}
use Rattle.mdb_encode.specs.Keys.{keys}
use Rattle.mdb_schema.specs.LawfulSchema.{IsLawfulTable}
use Rattle.mdb_schema.specs.Schema.{IndexSchema, TableSchema, index_place}
use Rattle.mdb_schema.specs.State.{id_keys}
use Rattle.mdb_schema.specs.Tests.{◌>>=◌, needed}
use Rattle.mdb_schema.specs.Write.{Tested, no_id, keys_at, id_of}
use Rattle.mdb_schema.proofs.Chains.{passed_on}
use Rattle.mdb_schema.proofs.IdKeys.{id_index, id_index-only, id_keys-named, keys_at-ok}
use Rattle.mdb_schema.proofs.OneKey.{one_key}
use Rattle.mdb_schema.proofs.PassedTests.{needed_some}

not_empty : (k : Bytes) (ks : List Bytes) → (k ∷ ks) ≢ []
not_empty k ks e = cc

alone_of : (ks : List Bytes) (id : Bytes) → first_item ks ≡ Some id → (ks ≢ [] → (k : Bytes) × (ks ≡ k ∷ [])) → ks ≡ id ∷ []
alone_of [] id first one = cc
alone_of (j ∷ ks) id first one =
    let w = one (not_empty j ks) in
    let is = w.1 in
    let same : w.0 ≡ id = cc in
    is ∙ ap (λ (k : Bytes). k ∷ []) same

pub only_id_key : (t : TableSchema) → IsLawfulTable t → (row : Fields) (id : Bytes) → id_of t row ≡ Ok id → (i : IndexSchema) → Contains t.indexes i → i.name ≡ codes "id" → keys i.indexer row ≡ Ok (id ∷ [])
only_id_key t table row id known i within name =
    let at = id_index t table in
    let last = λ (ks : List Bytes). let r : Tested Bytes = needed no_id (first_item ks) in r in
    let a = passed_on (needed no_id (index_place (codes "id") t.indexes)) (λ (place : ℕ). keys_at place (id_keys t row) >>= last) id known in
    let b = passed_on (keys_at a.0 (id_keys t row)) last id a.2 in
    let found : keys at.index.indexer row ≡ Ok b.0 = sym (id_keys-named t row at.index at.named) ∙ keys_at-ok a.0 (id_keys t row) b.0 b.1 in
    let alone = alone_of b.0 id (needed_some no_id (first_item b.0) id b.2) (one_key at.index.indexer row b.0 at.rules.single found) in
    ap (λ (x : IndexSchema). keys x.indexer row) (id_index-only t table at i within name) ∙ found ∙ ap Ok alone
