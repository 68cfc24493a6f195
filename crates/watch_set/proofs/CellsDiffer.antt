-- The members of a set by their cells: a search through them, and that one more leaves them
-- distinct.
use Rattle.std.proofs.Common.{◌≡◌, ◌∙◌, ◌++◌, ℕ, List, [], ◌∷◌, Bool, true, false, refl, ap, arith}
use Rattle.std.specs.Prelude.{if◌then◌else◌, nat_eq}
use Rattle.std.proofs.lemmas.Bool.Decides.{nat_tests}
use Rattle.mem_txn.specs.Checked.{IsHeldBy}
use Rattle.mem_txn.specs.Database.{Caller}
use Rattle.watch_set.specs.Members.{HaveDistinctCells, AreHeldBy, Member, cell_id, has_cell, watches_of}

nat_eq-turned : (a b : ℕ) → nat_eq a b ≡ nat_eq b a
nat_eq-turned a b = grind (arith, nat_tests)

-- ---- one more member

not_first : (b r : Bool) → (if b then true else r) ≡ false → (b ≡ false) × (r ≡ false)
not_first true r e = cc
not_first false r e = (refl, e)

not_either : (b r : Bool) → b ≡ false → r ≡ false → (if b then true else r) ≡ false
not_either true r e f = cc
not_either false r e f = f

has_cell-after : (c : ℕ) (ms : List Member) (m : Member) → has_cell c ms ≡ false → nat_eq (cell_id m.held) c ≡ false → has_cell c (ms ++ m ∷ []) ≡ false
has_cell-after c [] m none other = not_either (nat_eq (cell_id m.held) c) false other refl
has_cell-after c (x ∷ xs) m none other =
    let apart = not_first (nat_eq (cell_id x.held) c) (has_cell c xs) none in
    not_either (nat_eq (cell_id x.held) c) (has_cell c (xs ++ m ∷ [])) apart.0 (has_cell-after c xs m apart.1 other)

pub distinct_after : (ms : List Member) (m : Member) → HaveDistinctCells ms → has_cell (cell_id m.held) ms ≡ false → HaveDistinctCells (ms ++ m ∷ [])
distinct_after [] m all none = (refl, tt)
distinct_after (x ∷ xs) m all none =
    let apart = not_first (nat_eq (cell_id x.held) (cell_id m.held)) (has_cell (cell_id m.held) xs) none in (
      has_cell-after (cell_id x.held) xs m all.0 (nat_eq-turned (cell_id m.held) (cell_id x.held) ∙ apart.0),
      distinct_after xs m all.1 apart.1,
    )

-- ---- who holds all

pub held_after : (p : Caller) (ms : List Member) (m : Member) → AreHeldBy p (watches_of ms) → IsHeldBy p m.held → AreHeldBy p (watches_of (ms ++ m ∷ []))
held_after p [] m all one = (one, tt)
held_after p (x ∷ xs) m all one = (all.0, held_after p xs m all.1 one)
