-- The entries of the index `id` of a lawful table: each row under its `id` key, in the order of the
-- rows.
use Rattle.std.proofs.Common.{◌≡◌, ◌≢◌, ◌∙◌, ◌++◌, List, [], ◌∷◌, map, Bool, cond, Option, Some, Ok, Contains, Ordering, is_eq, refl, sym, ap, inl, inr}
use Rattle.std.specs.FinMap as finite
use Rattle.std.specs.FinMap.Entries as pairs
use Rattle.std.proofs.lemmas.Bool.{cond-true, true≢false}
use Rattle.std.proofs.lemmas.Map.Text.{is_eq-slice_cmp}
use Rattle.mdb_datum.specs.Pairs.{rows_of}
use Rattle.mdb_datum.specs.Row.{Fields, Pair}
use Rattle.mdb_encode.specs.Bytes.{Bytes, byte_order}
use Rattle.mdb_encode.specs.Keys.{Keyed, keys}
use Rattle.mdb_schema.specs.Entries.{entries, with_entries}
use Rattle.mdb_schema.specs.Schema.{TableSchema}
use Rattle.mdb_schema.specs.State.{id_key, first_key, full_key, full_keys, keys_or_none, row_at, Takes, AreLawfulRows}
use Rattle.mdb_schema.proofs.EntryEdits.{entry_at, bytes_eq-turned}
use Rattle.mdb_schema.proofs.IdKeys.{IdIndex, id_keys-named}
use Rattle.mdb_schema.proofs.Membership.{Contains-first, Contains-later}
use Rattle.mdb_schema.proofs.OneKey.{one_key}
use Rattle.mdb_schema.proofs.RowsById.{AreRising, rising-first, rising-rest}

-- each row under its `id` key
abbrev pub id_pairs : TableSchema → List Fields → List Pair
id_pairs t rows = map (λ (r : Fields). (id_key t r, r)) rows

-- the only full key of a row that the index `id` takes is its `id` key
pub full_keys-id : (t : TableSchema) (at : IdIndex t) (row : Fields) → Takes row at.index → full_keys t at.index row ≡ id_key t row ∷ []
full_keys-id t at row taken =
    let some : taken.found ≢ [] = elim taken.enough [ inl missing ↦ absurd (true≢false (sym missing ∙ at.rules.always)) | inr some ↦ some ] in
    let one = one_key at.index.indexer row taken.found at.rules.single taken.lawful some in
    let is : keys at.index.indexer row ≡ Ok (one.0 ∷ []) = taken.lawful ∙ ap Ok one.1 in
    let id : id_key t row ≡ one.0 = ap first_key (id_keys-named t row at.index at.named ∙ is) in
    ap (λ (k : Keyed). map (full_key at.index (id_key t row)) (keys_or_none k)) is
    ∙ ap (λ (k : Bytes). k ∷ []) (cond-true at.index.unique one.0 (one.0 ++ id_key t row) at.rules.unique ∙ sym id)

-- a row goes before those of higher `id` keys
put-lowest : (t : TableSchema) (r : Fields) (rows : List Fields) → AreRising t (r ∷ rows) → finite.put byte_order (id_key t r) r (id_pairs t rows) ≡ (id_key t r, r) ∷ id_pairs t rows
put-lowest t r [] rising = refl
put-lowest t r (x ∷ rows) rising =
    ap (λ (o : Ordering). pairs.by_order o ((id_key t r, r) ∷ id_pairs t (x ∷ rows)) ((id_key t x, r) ∷ id_pairs t rows) ((id_key t x, x) ∷ finite.put byte_order (id_key t r) r (id_pairs t rows)))
    (rising-first t r (x ∷ rows) rising x (Contains-first x rows))

pub entries-rising : (t : TableSchema) (at : IdIndex t) (rows : List Fields) → AreRising t rows → ((r : Fields) → Contains rows r → Takes r at.index) → entries t at.index rows ≡ id_pairs t rows
entries-rising t at [] rising taken = refl
entries-rising t at (r ∷ rows) rising taken =
    ap (λ (ks : List Bytes). with_entries ks r (entries t at.index rows)) (full_keys-id t at r (taken r (Contains-first r rows)))
    ∙ ap (finite.put byte_order (id_key t r) r) (entries-rising t at rows (rising-rest t r rows rising) (λ x h. taken x (Contains-later r rows x h)))
    ∙ put-lowest t r rows rising

pub entries-id : (t : TableSchema) (at : IdIndex t) (rows : List Fields) → AreLawfulRows t rows → entries t at.index rows ≡ id_pairs t rows
entries-id t at rows lawful = entries-rising t at rows lawful.rising (λ r h. lawful.taken at.index r at.within h)

entry_at-id_pairs : (t : TableSchema) (k : Bytes) (rows : List Fields) → row_at t k rows ≡ entry_at k (id_pairs t rows)
entry_at-id_pairs t k [] = refl
entry_at-id_pairs t k (r ∷ rows) =
    ap (λ (b : Bool). cond b (Some r) (row_at t k rows)) (bytes_eq-turned (id_key t r) k ∙ sym (is_eq-slice_cmp k (id_key t r)))
    ∙ ap (λ (o : Option Fields). cond (is_eq (byte_order k (id_key t r))) (Some r) o) (entry_at-id_pairs t k rows)

-- a look-up by `id` key is one in the index `id`
pub row_at-entries : (t : TableSchema) (at : IdIndex t) (k : Bytes) (rows : List Fields) → AreLawfulRows t rows → row_at t k rows ≡ entry_at k (entries t at.index rows)
row_at-entries t at k rows lawful = entry_at-id_pairs t k rows ∙ ap (entry_at k) (sym (entries-id t at rows lawful))

rows_of-id_pairs : (t : TableSchema) (rows : List Fields) → rows_of (id_pairs t rows) ≡ rows
rows_of-id_pairs t [] = refl
rows_of-id_pairs t (r ∷ rows) = ap (λ (rs : List Fields). r ∷ rs) (rows_of-id_pairs t rows)

pub rows_of-entries : (t : TableSchema) (at : IdIndex t) (rows : List Fields) → AreLawfulRows t rows → rows_of (entries t at.index rows) ≡ rows
rows_of-entries t at rows lawful = ap rows_of (entries-id t at rows lawful) ∙ rows_of-id_pairs t rows
