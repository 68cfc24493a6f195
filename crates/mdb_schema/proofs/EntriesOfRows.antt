-- The entries of an index of some rows: they are sorted, and where rows that share a full key are
-- one row, under each full key of a row stands that row, and nothing else stands there.
use Rattle.std.proofs.Common.{◌≡◌, ◌∙◌, List, [], ◌∷◌, Bool, true, false, cond, Option, Some, None, Contains, refl, sym, ap}
use Rattle.std.specs.List.{find}
use Rattle.mdb_datum.specs.Row.{Fields}
use Rattle.mdb_encode.specs.Bytes.{Bytes}
use Rattle.mdb_schema.specs.Entries.{entries}
use Rattle.mdb_schema.specs.Schema.{IndexSchema, TableSchema}
use Rattle.mdb_schema.specs.State.{full_keys, SharesKey, AreLawfulRows}
use Rattle.mdb_schema.specs.Write.{is_among}
use Rattle.mdb_schema.proofs.EntryEdits.{entry_at, AreSorted, sorted-with_entries, entry_at-with_entries}
use Rattle.mdb_schema.proofs.EntryLookups.{Contains-entry_at, entry_at-contains}
use Rattle.mdb_schema.proofs.FirstFound.{find-some, find-none, find-only}
use Rattle.mdb_schema.proofs.Membership.{is_among-from, is_among-true}

module _ (t : TableSchema) (i : IndexSchema) where
  -- a key is one of a row's full keys
  abbrev pub has_full_key : Bytes → Fields → Bool
  has_full_key q r = is_among (full_keys t i r) q

  -- rows that share a full key are one row
  abbrev pub AreApart : List Fields → Type 0
  AreApart rows = (row other : Fields) → Contains rows row → Contains rows other → SharesKey t i row other → row ≡ other

  pub apart_in : (rows : List Fields) → AreLawfulRows t rows → Contains t.indexes i → AreApart rows
  apart_in rows lawful within row other h k share = lawful.apart i row other within h k share

  pub one_with_key : (rows : List Fields) (q : Bytes) (x y : Fields) → AreApart rows → Contains rows x → Contains rows y → has_full_key q x ≡ true → has_full_key q y ≡ true → x ≡ y
  one_with_key rows q x y apart h k e f = apart x y h k (q, is_among-true (full_keys t i x) q e, is_among-true (full_keys t i y) q f)

  pub sorted-entries : (rows : List Fields) → AreSorted (entries t i rows)
  sorted-entries [] = refl
  sorted-entries (r ∷ rows) = sorted-with_entries (full_keys t i r) r (entries t i rows) (sorted-entries rows)

  -- under a key stands the first row that has it
  pub entry_at-entries : (q : Bytes) (rows : List Fields) → entry_at q (entries t i rows) ≡ find (has_full_key q) rows
  entry_at-entries q [] = refl
  entry_at-entries q (r ∷ rows) =
      entry_at-with_entries q (full_keys t i r) r (entries t i rows)
      ∙ ap (λ (o : Option Fields). cond (has_full_key q r) (Some r) o) (entry_at-entries q rows)

  pub entry_at-some : (q : Bytes) (rows : List Fields) (r : Fields) → entry_at q (entries t i rows) ≡ Some r → Contains rows r × Contains (full_keys t i r) q
  entry_at-some q rows r e =
      let w = find-some (has_full_key q) rows r (sym (entry_at-entries q rows) ∙ e) in
      (w.0, is_among-true (full_keys t i r) q w.1)

  pub entry_at-none : (q : Bytes) (rows : List Fields) (r : Fields) → entry_at q (entries t i rows) ≡ None → Contains rows r → has_full_key q r ≡ false
  entry_at-none q rows r e h = find-none (has_full_key q) rows r (sym (entry_at-entries q rows) ∙ e) h

  pub entry_at-row : (q : Bytes) (rows : List Fields) (r : Fields) → AreApart rows → Contains rows r → Contains (full_keys t i r) q → entry_at q (entries t i rows) ≡ Some r
  entry_at-row q rows r apart h k =
      let has = is_among-from (full_keys t i r) q k in
      entry_at-entries q rows
      ∙ find-only (has_full_key q) rows r h has (λ y g pass. one_with_key rows q y r apart g h pass has)

  -- ---- the same, of entries as pairs

  pub Contains-entries : (q : Bytes) (rows : List Fields) (r : Fields) → AreApart rows → Contains rows r → Contains (full_keys t i r) q → Contains (entries t i rows) (q, r)
  Contains-entries q rows r apart h k = Contains-entry_at q (entries t i rows) r (entry_at-row q rows r apart h k)

  pub Contains-from_entries : (q : Bytes) (rows : List Fields) (r : Fields) → Contains (entries t i rows) (q, r) → Contains rows r × Contains (full_keys t i r) q
  Contains-from_entries q rows r h = entry_at-some q rows r (entry_at-contains q (entries t i rows) r (sorted-entries rows) h)
