-- The rows of a table without some of them: one after the other, and which rows stand there.
use Rattle.std.proofs.Common.{◌≡◌, ◌∙◌, ◌||◌, List, [], ◌∷◌, map, filter, Bool, true, false, not, cond, Contains, refl, sym, ap}
use Rattle.std.specs.Str.{bytes_eq}
use Rattle.std.proofs.lemmas.Bool.{not-true}
use Rattle.mdb_datum.specs.Row.{Fields}
use Rattle.mdb_schema.specs.Schema.{TableSchema}
use Rattle.mdb_schema.specs.State.{id_key, without_row}
use Rattle.mdb_schema.specs.Wipe.{without_rows}
use Rattle.mdb_schema.specs.Write.{is_among}
use Rattle.mdb_schema.proofs.Membership.{Contains-from_filter, filter-all}
use Rattle.mdb_schema.proofs.RowsById.{AreRising}
use Rattle.mdb_schema.proofs.RowsWithout.{without_row-filter}

-- the elements that fail a test
abbrev failing : {X : Type 0} → (X → Bool) → List X → List X
failing p xs = filter (λ x. not (p x)) xs

-- those that fail either of two tests fail the one and then the other
failing_both : {X : Type 0} (p q : X → Bool) (xs : List X) → failing (λ x. p x || q x) xs ≡ failing q (failing p xs)
failing_both p q [] = refl
failing_both {X} p q (x ∷ xs) = of (p x) (q x) refl (failing_both p q xs)
  where
    of : (b c : Bool) → q x ≡ c → failing (λ y. p y || q y) xs ≡ failing q (failing p xs)
        → cond (not (b || c)) (x ∷ failing (λ y. p y || q y) xs) (failing (λ y. p y || q y) xs) ≡ failing q (cond (not b) (x ∷ failing p xs) (failing p xs))
    of true c e later = later
    of false c e later = (λ i. cond (not c) (x ∷ later i) (later i)) ∙ ap (λ (d : Bool). cond (not d) (x ∷ failing q (failing p xs)) (failing q (failing p xs))) (sym e)

pub without_rows-nil : (t : TableSchema) (rows : List Fields) → without_rows t [] rows ≡ rows
without_rows-nil t rows = filter-all (λ (r : Fields). not (is_among [] (id_key t r))) rows (λ x h. refl)

-- one row after the other
pub without_rows-cons : (t : TableSchema) (g : Fields) (gone rows : List Fields) → AreRising t rows
    → without_rows t (g ∷ gone) rows ≡ without_rows t gone (without_row t (id_key t g) rows)
without_rows-cons t g gone rows rising =
    failing_both (λ (r : Fields). bytes_eq (id_key t r) (id_key t g)) (λ (r : Fields). is_among (map (id_key t) gone) (id_key t r)) rows
    ∙ ap (without_rows t gone) (sym (without_row-filter t (id_key t g) rows rising))

-- what stands there are the rows of other `id` keys
pub without_rows-cases : (t : TableSchema) (gone rows : List Fields) (x : Fields) → Contains (without_rows t gone rows) x
    → Contains rows x × (is_among (map (id_key t) gone) (id_key t x) ≡ false)
without_rows-cases t gone rows x h =
    let w = Contains-from_filter (λ (r : Fields). not (is_among (map (id_key t) gone) (id_key t r))) rows x h in
    (w.0, not-true (is_among (map (id_key t) gone) (id_key t x)) w.1)
