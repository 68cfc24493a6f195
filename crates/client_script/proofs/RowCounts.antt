-- How many rows a state holds: a put adds one at most, a removal takes one, and a wipe takes as
-- many as it has writes.
use Rattle.std.proofs.Common.{arith, ◌≡◌, refl, ap, subst, sym, ℕ, zero, suc, ◌+◌, ◌≤◌, List, [], ◌∷◌, length, slice_get, slice_set, Bool, true, false, Option, Some, Ok}
use Rattle.std.specs.Prelude.{if◌then◌else◌}
use Rattle.std.specs.Ordering.{match_ordering}
use Rattle.std.specs.Str.{bytes_eq}
use Rattle.std.specs.declared.cmp.Ordering.{Ordering}
use Rattle.std.specs.declared.cmp.Ordering.TheVariants.{Less, Equal, Greater}
use Rattle.std.proofs.lemmas.List.{length-map}
use Rattle.mdb_datum.specs.Bytes.{Bytes}
use Rattle.mdb_datum.specs.Row.{Fields}
use Rattle.mdb_encode.specs.Bytes.{byte_order}
use Rattle.mdb_schema.specs.History.{state_or, after_writes}
use Rattle.mdb_schema.specs.LawfulSchema.{IsLawfulSchema}
use Rattle.mdb_schema.specs.Query.{Query}
use Rattle.mdb_schema.specs.Schema.{TableSchema, DbSchema}
use Rattle.mdb_schema.specs.State.{State, Table, empty_state, id_key, with_row, without_row, row_at, IsLawfulState}
use Rattle.mdb_schema.specs.Wipe.{wipe, wipe_by_prefix, removals}
use Rattle.mdb_schema.specs.Write.{Write, put, remove, Stepped, Changed, put_row, remove_row, step}
use Rattle.mdb_schema.proofs.LawfulStates.{step_in-ok}
use Rattle.mdb_schema.proofs.Removals.{AreRemoved}
use Rattle.mdb_schema.proofs.WipeLaws.{IsWipe, wipe-ok, wipe_by_prefix-ok, wipe_removes}
use Rattle.mdb_schema.proofs.Writes.{put_accepted, remove_accepted}

abbrev pub rows_in : State → ℕ
rows_in [] = 0
rows_in (rows ∷ s) = length rows + rows_in s

pub rows_in-empty : (schema : DbSchema) → rows_in (empty_state schema) ≡ 0
rows_in-empty [] = refl
rows_in-empty (t ∷ ts) = let none = rows_in-empty ts in omega (arith, none)

-- other rows in one place
set_count : (s : State) (place : ℕ) (old new : List Fields) → slice_get s place ≡ Some old → rows_in (slice_set s place new) + length old ≡ rows_in s + length new
set_count [] place old new e = cc
set_count (x ∷ s) zero old new e =
    let same : x ≡ old = cc in
    let size = ap length same in
    omega (arith, size)
set_count (x ∷ s) (suc place) old new e = let rest = set_count s place old new e in omega (arith, rest)

-- ---- a row put, and one taken out

at_most : (o : Ordering) (n : ℕ) (a b c : List Fields) → length a ≤ n → length b ≤ n → length c ≤ n → length (match_ordering o a b c) ≤ n
at_most Less n a b c le le' le'' = le
at_most Equal n a b c le le' le'' = le'
at_most Greater n a b c le le' le'' = le''

one_more : (t : TableSchema) (row : Fields) (rows : List Fields) → length (with_row t row rows) ≤ length rows + 1
one_more t row [] = search (arith)
one_more t row (r ∷ rs) =
    let rest = one_more t row rs in
    at_most (byte_order (id_key t row) (id_key t r)) (length (r ∷ rs) + 1) (row ∷ r ∷ rs) (row ∷ rs) (r ∷ with_row t row rs) (omega arith) (omega arith) (omega (arith, rest))

one_less : (t : TableSchema) (id : Bytes) (rows : List Fields) (old : Fields) → row_at t id rows ≡ Some old → length (without_row t id rows) + 1 ≡ length rows
one_less t id [] old e = cc
one_less t id (r ∷ rs) old e = of (bytes_eq (id_key t r) id) e (one_less t id rs old)
  where
    of : (b : Bool) → (if b then Some r else row_at t id rs) ≡ Some old → (row_at t id rs ≡ Some old → length (without_row t id rs) + 1 ≡ length rs) → length (if b then rs else r ∷ without_row t id rs) + 1 ≡ length (r ∷ rs)
    of true e' later = omega arith
    of false e' later = let rest = later e' in omega (arith, rest)

pub put_count : (schema : DbSchema) (s : State) (name : Bytes) (row : Fields) (p : State × Option Fields) → step schema s (put name row) ≡ Ok p → rows_in p.0 ≤ rows_in s + 1
put_count schema s name row p e =
    let w = step_in-ok schema s name (λ (t : Table). put_row t.schema row t.rows) p e in
    let rows : with_row w.0.schema row w.0.rows ≡ w.1.0 = ap (λ (c : Changed). c.0) (put_accepted w.0.schema row w.0.rows w.1 w.2.change).1 in
    let few : length w.1.0 ≤ length w.0.rows + 1 = subst (λ (l : List Fields). length l ≤ length w.0.rows + 1) rows (one_more w.0.schema row w.0.rows) in
    let count = set_count s w.0.place w.0.rows w.1.0 w.2.there.rows in
    subst (λ (q : State × Option Fields). rows_in q.0 ≤ rows_in s + 1) w.3 (omega (arith, few, count))

pub remove_count : (schema : DbSchema) (s : State) (name : Bytes) (row : Fields) (p : State × Option Fields) → step schema s (remove name row) ≡ Ok p → rows_in p.0 + 1 ≡ rows_in s
remove_count schema s name row p e =
    let w = step_in-ok schema s name (λ (t : Table). remove_row t.schema row t.rows) p e in
    let a = remove_accepted w.0.schema row w.0.rows w.1 w.2.change in
    let rows : without_row w.0.schema (id_key w.0.schema row) w.0.rows ≡ w.1.0 = ap (λ (c : Changed). c.0) a.2 in
    let less : length w.1.0 + 1 ≡ length w.0.rows = subst (λ (l : List Fields). length l + 1 ≡ length w.0.rows) rows (one_less w.0.schema (id_key w.0.schema row) w.0.rows a.0 a.1.there) in
    let count = set_count s w.0.place w.0.rows w.1.0 w.2.there.rows in
    subst (λ (q : State × Option Fields). rows_in q.0 + 1 ≡ rows_in s) w.3 (omega (arith, less, count))

-- ---- a wipe

removed_count : (schema : DbSchema) (s : State) (name : Bytes) (gone : List Fields) → AreRemoved schema s name gone → rows_in (after_writes schema s (removals name gone)) + length gone ≡ rows_in s
removed_count schema s name [] removed = omega arith
removed_count schema s name (r ∷ gone) (u, is, rest) =
    let first = remove_count schema s name r (u, Some r) is in
    let others = removed_count schema u name gone rest in
    subst (λ (st : Stepped). rows_in (after_writes schema (state_or s st) (removals name gone)) + length (r ∷ gone) ≡ rows_in s) (sym is) (omega (arith, first, others))

wiped_count : (schema : DbSchema) (s : State) (q : Query) (ws : List Write) → IsWipe schema s q ws → IsLawfulSchema schema → IsLawfulState schema s → rows_in (after_writes schema s ws) + length ws ≡ rows_in s
wiped_count schema s q ws w laws lawful =
    let count = removed_count schema s q.table w.gone (wipe_removes schema s q ws w laws lawful).0 in
    let size = length-map w.gone (remove q.table) in
    subst (λ (l : List Write). rows_in (after_writes schema s l) + length l ≡ rows_in s) w.writes (omega (arith, count, size))

pub wipe_count : (schema : DbSchema) (s : State) (q : Query) (ws : List Write) → IsLawfulSchema schema → IsLawfulState schema s → wipe schema s q ≡ Ok ws → rows_in (after_writes schema s ws) + length ws ≡ rows_in s
wipe_count schema s q ws laws lawful e = wiped_count schema s q ws (wipe-ok schema s q ws e) laws lawful

pub wipe_by_prefix_count : (schema : DbSchema) (s : State) (q : Query) (ws : List Write) → IsLawfulSchema schema → IsLawfulState schema s → wipe_by_prefix schema s q ≡ Ok ws → rows_in (after_writes schema s ws) + length ws ≡ rows_in s
wipe_by_prefix_count schema s q ws laws lawful e = wiped_count schema s q ws (wipe_by_prefix-ok schema s q ws e) laws lawful
