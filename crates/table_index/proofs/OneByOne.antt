-- Rows that are taken out one after another, each if it is still there: each is taken once, and
-- what is left are the rows of other `id` keys.
use Rattle.std.proofs.Common.{◌≡◌, ◌⊎◌, ◌∙◌, ◌||◌, List, [], ◌∷◌, filter, Bool, true, false, not, cond, Option, Some, None, is_some, Contains, refl, sym, ap, inl, inr}
use Rattle.std.specs.Prelude.{if◌then◌else◌, ⊤}
use Rattle.std.specs.Str.{bytes_eq}
use Rattle.std.proofs.lemmas.Bool.{cond-true, cond-false}
use Rattle.mdb_datum.specs.Row.{Fields}
use Rattle.mdb_encode.specs.Bytes.{Bytes}
use Rattle.mdb_schema.specs.Schema.{TableSchema}
use Rattle.mdb_schema.specs.State.{id_key, row_at, without_row}
use Rattle.mdb_schema.specs.Wipe.{once_after, once, without_rows}
use Rattle.mdb_schema.specs.Write.{is_among}
use Rattle.mdb_schema.proofs.EntryEdits.{bytes_eq-turned}
use Rattle.mdb_schema.proofs.Membership.{Contains-first, Contains-later, Contains-from_filter, bytes_eq-comm}
use Rattle.mdb_schema.proofs.RowsById.{AreRising, rising-cons, rising-first, rising-rest, first_apart, row_at-row}
use Rattle.mdb_schema.proofs.RowsLeft.{without_rows-nil, without_rows-cons}
use Rattle.mdb_schema.proofs.RowsWithout.{Contains-without_row, rising-without_row, row_at-without_row}

-- ---- the rows that are taken, and those that are left

abbrev pub taken_of : TableSchema → List Fields → List Fields → List Fields
taken_of t rows [] = []
taken_of t rows (r ∷ rs) =
    if is_some (row_at t (id_key t r) rows) then r ∷ taken_of t (without_row t (id_key t r) rows) rs else taken_of t rows rs

abbrev pub left_of : TableSchema → List Fields → List Fields → List Fields
left_of t rows [] = rows
left_of t rows (r ∷ rs) =
    if is_some (row_at t (id_key t r) rows) then left_of t (without_row t (id_key t r) rows) rs else left_of t rows rs

module _ (t : TableSchema) (rows : List Fields) (r : Fields) (rs : List Fields) where
  abbrev after : List Fields
  after = without_row t (id_key t r) rows

  pub taken_of-there : (x : Fields) → row_at t (id_key t r) rows ≡ Some x → taken_of t rows (r ∷ rs) ≡ r ∷ taken_of t (without_row t (id_key t r) rows) rs
  taken_of-there x e = ap (λ (o : Option Fields). cond (is_some o) (r ∷ taken_of t after rs) (taken_of t rows rs)) e

  pub taken_of-out : row_at t (id_key t r) rows ≡ None → taken_of t rows (r ∷ rs) ≡ taken_of t rows rs
  taken_of-out e = ap (λ (o : Option Fields). cond (is_some o) (r ∷ taken_of t after rs) (taken_of t rows rs)) e

  pub left_of-there : (x : Fields) → row_at t (id_key t r) rows ≡ Some x → left_of t rows (r ∷ rs) ≡ left_of t (without_row t (id_key t r) rows) rs
  left_of-there x e = ap (λ (o : Option Fields). cond (is_some o) (left_of t after rs) (left_of t rows rs)) e

  pub left_of-out : row_at t (id_key t r) rows ≡ None → left_of t rows (r ∷ rs) ≡ left_of t rows rs
  left_of-out e = ap (λ (o : Option Fields). cond (is_some o) (left_of t after rs) (left_of t rows rs)) e

-- ---- each is taken once

-- the keys that came before are those of the rows that are out
abbrev Tell : TableSchema → List Bytes → List Fields → List Fields → Type 0
Tell t seen rows rs = (x : Fields) → Contains rs x → is_among seen (id_key t x) ≡ not (is_some (row_at t (id_key t x) rows))

or_told : (b s : Bool) (o : Option Fields) → s ≡ not (is_some o) → (b || s) ≡ not (is_some (cond b None o))
or_told true s o e = refl
or_told false s o e = e

-- one more is out
told_after : (t : TableSchema) (seen : List Bytes) (rows : List Fields) (r : Fields) (rs : List Fields) → AreRising t rows → Tell t seen rows (r ∷ rs) → Tell t (id_key t r ∷ seen) (without_row t (id_key t r) rows) rs
told_after t seen rows r rs rising tell x h =
    ap (λ (b : Bool). b || is_among seen (id_key t x)) (bytes_eq-turned (id_key t x) (id_key t r))
    ∙ or_told (bytes_eq (id_key t r) (id_key t x)) (is_among seen (id_key t x)) (row_at t (id_key t x) rows) (tell x (Contains-later r rs x h))
    ∙ ap (λ (o : Option Fields). not (is_some o)) (sym (row_at-without_row t (id_key t x) (id_key t r) rows rising))

taken_of-once_after : (t : TableSchema) (seen : List Bytes) (rows rs : List Fields) → AreRising t rows → Tell t seen rows rs → taken_of t rows rs ≡ once_after t seen rs
taken_of-once_after t seen rows [] rising tell = refl
taken_of-once_after t seen rows (r ∷ rs) rising tell =
    of (row_at t (id_key t r) rows) refl
    (taken_of-once_after t seen rows rs rising (λ x h. tell x (Contains-later r rs x h)))
    (taken_of-once_after t (id_key t r ∷ seen) (without_row t (id_key t r) rows) rs (rising-without_row t (id_key t r) rows rising) (told_after t seen rows r rs rising tell))
  where
    told : (o : Option Fields) → row_at t (id_key t r) rows ≡ o → is_among seen (id_key t r) ≡ not (is_some o)
    told o e = tell r (Contains-first r rs) ∙ ap (λ (p : Option Fields). not (is_some p)) e

    of : (o : Option Fields) → row_at t (id_key t r) rows ≡ o → taken_of t rows rs ≡ once_after t seen rs
        → taken_of t (without_row t (id_key t r) rows) rs ≡ once_after t (id_key t r ∷ seen) rs
        → taken_of t rows (r ∷ rs) ≡ once_after t seen (r ∷ rs)
    of None e skipped later =
        taken_of-out t rows r rs e ∙ skipped
        ∙ sym (cond-true (is_among seen (id_key t r)) (once_after t seen rs) (r ∷ once_after t (id_key t r ∷ seen) rs) (told None e))
    of (Some x) e skipped later =
        taken_of-there t rows r rs x e ∙ ap (λ (l : List Fields). r ∷ l) later
        ∙ sym (cond-false (is_among seen (id_key t r)) (once_after t seen rs) (r ∷ once_after t (id_key t r ∷ seen) rs) (told (Some x) e))

pub taken_of-once : (t : TableSchema) (rows rs : List Fields) → AreRising t rows → ((x : Fields) → Contains rs x → Contains rows x) → taken_of t rows rs ≡ once t rs
taken_of-once t rows rs rising within =
    taken_of-once_after t [] rows rs rising (λ x h. sym (ap (λ (o : Option Fields). not (is_some o)) (row_at-row t rows x rising (within x h))))

-- ---- what is left

pub left_of-without : (t : TableSchema) (rows rs : List Fields) → AreRising t rows → left_of t rows rs ≡ without_rows t (taken_of t rows rs) rows
left_of-without t rows [] rising = sym (without_rows-nil t rows)
left_of-without t rows (r ∷ rs) rising =
    of (row_at t (id_key t r) rows) refl (left_of-without t rows rs rising) (left_of-without t (without_row t (id_key t r) rows) rs (rising-without_row t (id_key t r) rows rising))
  where
    of : (o : Option Fields) → row_at t (id_key t r) rows ≡ o → left_of t rows rs ≡ without_rows t (taken_of t rows rs) rows
        → left_of t (without_row t (id_key t r) rows) rs ≡ without_rows t (taken_of t (without_row t (id_key t r) rows) rs) (without_row t (id_key t r) rows)
        → left_of t rows (r ∷ rs) ≡ without_rows t (taken_of t rows (r ∷ rs)) rows
    of None e skipped later = left_of-out t rows r rs e ∙ skipped ∙ ap (λ (gone : List Fields). without_rows t gone rows) (sym (taken_of-out t rows r rs e))
    of (Some x) e skipped later =
        left_of-there t rows r rs x e ∙ later
        ∙ sym (without_rows-cons t r (taken_of t (without_row t (id_key t r) rows) rs) rows rising)
        ∙ ap (λ (gone : List Fields). without_rows t gone rows) (sym (taken_of-there t rows r rs x e))

-- ---- the rows as they are met

-- each of a list, in turn, is there itself, or it is out; where none comes twice none is out
abbrev pub Follow : Bool → TableSchema → List Fields → List Fields → Type 0
Follow alone t rows [] = ⊤
Follow alone t rows (r ∷ rs) =
    ((row_at t (id_key t r) rows ≡ Some r) × Follow alone t (without_row t (id_key t r) rows) rs)
    ⊎ ((alone ≡ false) × (row_at t (id_key t r) rows ≡ None) × Follow alone t rows rs)

abbrev Own : TableSchema → List Fields → List Fields → Type 0
Own t rows rs = (x : Fields) → Contains rs x → (row_at t (id_key t x) rows ≡ Some x) ⊎ (row_at t (id_key t x) rows ≡ None)

own_after : (t : TableSchema) (rows : List Fields) (r : Fields) (rs : List Fields) → AreRising t rows → Own t rows (r ∷ rs) → Own t (without_row t (id_key t r) rows) rs
own_after t rows r rs rising own x h = of (bytes_eq (id_key t r) (id_key t x)) (row_at-without_row t (id_key t x) (id_key t r) rows rising) (own x (Contains-later r rs x h))
  where
    of : (b : Bool) → row_at t (id_key t x) (without_row t (id_key t r) rows) ≡ (if b then None else row_at t (id_key t x) rows)
        → (row_at t (id_key t x) rows ≡ Some x) ⊎ (row_at t (id_key t x) rows ≡ None)
        → (row_at t (id_key t x) (without_row t (id_key t r) rows) ≡ Some x) ⊎ (row_at t (id_key t x) (without_row t (id_key t r) rows) ≡ None)
    of true e before = inr e
    of false e (inl there) = inl (e ∙ there)
    of false e (inr out) = inr (e ∙ out)

follow_own : (t : TableSchema) (rows rs : List Fields) → AreRising t rows → Own t rows rs → Follow false t rows rs
follow_own t rows [] rising own = tt
follow_own t rows (r ∷ rs) rising own = elim (own r (Contains-first r rs)) [
  | inl there ↦ inl (there, follow_own t (without_row t (id_key t r) rows) rs (rising-without_row t (id_key t r) rows rising) (own_after t rows r rs rising own))
  | inr out ↦ inr (refl, out, follow_own t rows rs rising (λ x h. own x (Contains-later r rs x h)))
]

-- rows of the table are met so
pub follow_listed : (t : TableSchema) (rows rs : List Fields) → AreRising t rows → ((x : Fields) → Contains rs x → Contains rows x) → Follow false t rows rs
follow_listed t rows rs rising within = follow_own t rows rs rising (λ x h. inl (row_at-row t rows x rising (within x h)))

-- rows of rising `id` keys are each there
pub follow_rising : (t : TableSchema) (rows rs : List Fields) → AreRising t rows → AreRising t rs → ((x : Fields) → Contains rs x → Contains rows x) → Follow true t rows rs
follow_rising t rows [] rising order within = tt
follow_rising t rows (r ∷ rs) rising order within = inl (
  row_at-row t rows r rising (within r (Contains-first r rs)),
  follow_rising t (without_row t (id_key t r) rows) rs (rising-without_row t (id_key t r) rows rising) (rising-rest t r rs order)
      (λ x h. Contains-without_row t (id_key t r) rows x rising (within x (Contains-later r rs x h)) (bytes_eq-comm (id_key t r) (id_key t x) false (first_apart t r rs order x h))),
)

pub rising-filter : (t : TableSchema) (p : Fields → Bool) (rows : List Fields) → AreRising t rows → AreRising t (filter p rows)
rising-filter t p [] rising = rising
rising-filter t p (r ∷ rows) rising = of (p r) (rising-filter t p rows (rising-rest t r rows rising))
  where
    of : (b : Bool) → AreRising t (filter p rows) → AreRising t (cond b (r ∷ filter p rows) (filter p rows))
    of true later = rising-cons t r (filter p rows) (λ x h. rising-first t r rows rising x (Contains-from_filter p rows x h).0) later
    of false later = later
