-- The ids that a wipe draws, row by row.
use Rattle.std.proofs.Common.{◌≡◌, ◌∙◌, ◌≤◌, ◌+◌, ◌*◌, ◌^◌, ◌||◌, ◌++◌, ◌∷◌, [], ℕ, List, Bool, true, false, cond, is_some, length, map, length-append, sym, ap, inl, inr, arith}
use Rattle.std.proofs.lemmas.Bool.{both_ways}
use Rattle.mdb_datum.specs.Row.{Fields}
use Rattle.mdb_encode.specs.Bytes.{Bytes}
use Rattle.mdb_schema.specs.LawfulSchema.{IsLawfulTable}
use Rattle.mdb_schema.specs.Schema.{TableSchema}
use Rattle.mdb_schema.specs.State.{id_key, row_at, without_row}
use Rattle.radix_txn.specs.Txn.{Txn, txn_pairs}
use Rattle.table_index.specs.Table.{AreLeft}
use Rattle.table_index.specs.inner.Drawn.{ids_of_row}
use Rattle.table_index.specs.inner.Wipes.{MovesNext, is_next_there, is_there}
use Rattle.table_index.proofs.OneByOne.{taken_of, taken_of-there}
use Rattle.table_index.proofs.WipeSteps.{Stands, cuts_id, there-told}

-- one row, if it is there
abbrev pub one_if : Bool → ℕ
one_if there = cond there 1 0

-- ---- how many rows are out, and how many there will be

module _ (t : TableSchema) (table : IsLawfulTable t) (cut : ℕ) (key : Bytes) (all listed removed : List Fields) (r : Fields) (rs : List Fields) (before : List Txn)
    (s : Stands t cut key all listed removed (r ∷ rs) before) where
  there_now : is_there t cut (id_key t r) (map txn_pairs before) ≡ (cuts_id t cut || is_some (row_at t (id_key t r) s.rows))
  there_now = ap (is_there t cut (id_key t r)) s.held ∙ there-told t table cut key s.rows (id_key t r) s.lawful

  ahead : (b : Bool) → is_there t cut (id_key t r) (map txn_pairs before) ≡ b → length removed + one_if b ≤ length (taken_of t all listed)
  ahead true there = elim s.follow [
    | inl f ↦
        let rest = taken_of t (without_row t (id_key t r) s.rows) rs in
        let all_out : length (removed ++ r ∷ rest) ≡ length (taken_of t all listed) = ap (λ (l : List Fields). length (removed ++ l)) (sym (taken_of-there t s.rows r rs r f.0)) ∙ ap (λ (l : List Fields). length l) s.taken in
        omega (arith, all_out, length-append removed (r ∷ rest))
    | inr f ↦ absurd (both_ways (cuts_id t cut || is_some (row_at t (id_key t r) s.rows))
        (ap (λ (b : Bool). b || is_some (row_at t (id_key t r) s.rows)) f.0 ∙ ap is_some f.1) (sym there_now ∙ there))
  ]
  ahead false there =
      let all_out : length (removed ++ taken_of t s.rows (r ∷ rs)) ≡ length (taken_of t all listed) = ap (λ (l : List Fields). length l) s.taken in
      omega (arith, all_out, length-append removed (taken_of t s.rows (r ∷ rs)))

all_behind : (t : TableSchema) (cut : ℕ) (key : Bytes) (all listed removed rest : List Fields) (before : List Txn) → Stands t cut key all listed removed rest before → length removed ≤ length (taken_of t all listed)
all_behind t cut key all listed removed rest before s =
    let all_out : length (removed ++ taken_of t s.rows rest) ≡ length (taken_of t all listed) = ap (λ (l : List Fields). length l) s.taken in
    omega (arith, all_out, length-append removed (taken_of t s.rows rest))

pub next_ahead : (t : TableSchema) (table : IsLawfulTable t) (cut : ℕ) (key : Bytes) (all listed removed rest : List Fields) (before : List Txn)
    → Stands t cut key all listed removed rest before → length removed + one_if (is_next_there t cut rest (map txn_pairs before)) ≤ length (taken_of t all listed)
next_ahead t table cut key all listed removed [] before s = omega (arith, all_behind t cut key all listed removed [] before s)
next_ahead t table cut key all listed removed (r ∷ rs) before s =
    ahead t table cut key all listed removed r rs before s (is_there t cut (id_key t r) (map txn_pairs before)) (λ i. is_there t cut (id_key t r) (map txn_pairs before))

moved_by : (r : Fields) (old : List Fields) (b : Bool) → length (cond b (old ++ r ∷ []) old) ≡ length old + one_if b
moved_by r old true = omega (arith, length-append old (r ∷ []))
moved_by r old false = omega arith

pub moved_count : (t : TableSchema) (cut : ℕ) (more : Bool) (rest later : List Fields) (before after : List Txn) (old new : List Fields) → MovesNext t cut more rest later before after old new
    → length new ≡ length old + one_if (is_next_there t cut rest (map txn_pairs before))
moved_count t cut more [] later before after old new m = omega (arith, ap (λ (l : List Fields). length l) m.3)
moved_count t cut more (r ∷ rs) later before after old new m =
    let moved = m.2 in
    ap (λ (l : List Fields). length l) moved.gone ∙ moved_by r old moved.taken ∙ ap (λ (b : Bool). length old + one_if b) moved.taking.told

-- ---- the ids for them

pub row_left : (n first next k : ℕ) (b : Bool) → k + one_if b ≤ n → AreLeft first n → next ≤ first + (4096 * n + 2 ^ 25 * k) → next + ids_of_row b ≤ 2 ^ 63
row_left n first next k true ahead left few = omega arith
row_left n first next k false ahead left few = omega arith

pub moved_few : (n k more : ℕ) (b : Bool) → more ≡ k + one_if b → (4096 * n + 2 ^ 25 * k) + ids_of_row b ≤ 4096 * n + 2 ^ 25 * more
moved_few n k more true is = omega arith
moved_few n k more false is = omega arith

pub all_few : (n k : ℕ) (b : Bool) → k + one_if b ≤ n → (4096 * n + 2 ^ 25 * k) + ids_of_row b ≤ 2 ^ 26 * n
all_few n k true ahead = omega arith
all_few n k false ahead = omega arith
