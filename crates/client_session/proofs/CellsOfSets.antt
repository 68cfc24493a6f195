-- What the cells of held watches tell of their questions, and which cells a set has with one more
-- member.
use Rattle.std.proofs.Common.{◌≡◌, ◌∙◌, ◌++◌, ℕ, Bool, true, false, List, [], ◌∷◌, Contains, refl, sym, ap, subst, arith, inl, inr, slice_get}
use Rattle.std.specs.Prelude.{if◌then◌else◌, nat_eq}
use Rattle.std.proofs.lemmas.Bool.Decides.{nat_tests}
use Rattle.mdb_datum.specs.Bytes.{Bytes}
use Rattle.mdb_schema.proofs.Membership.{Contains-cons_cases, Contains-first, Contains-later, Contains-nil}
use Rattle.mdb_schema.specs.Answer.{lookup_of}
use Rattle.mdb_schema.specs.Query.{Query}
use Rattle.mdb_schema.specs.Schema.{DbSchema, TableSchema, table_place}
use Rattle.table_index.specs.Spot.{SpotOf}
use Rattle.watch_word.specs.Logs.{Cell}
use Rattle.mem_txn.specs.CellHistory.{cell_at}
use Rattle.mem_txn.specs.Checked.{IdsTellCells, IsHeldBy}
use Rattle.mem_txn.specs.Database.{Caller, cells_seen}
use Rattle.mem_txn.specs.Held.{HeldWatch}
use Rattle.mem_txn.specs.AskedSpots.{IsAsked}
use Rattle.mem_txn.proofs.HeldAlong.{held_asked}
use Rattle.watch_set.specs.Members.{AreHeldBy, Member, cell_id, has_cell, watches_of}
use Rattle.client_script.specs.Watching.{AreOfOneIndex}
use Rattle.client_session.proofs.IndexPlaces.{one_index_asked, some_once}

-- ---- equal ids

pub same_numbers : (a b : ℕ) → nat_eq a b ≡ true → a ≡ b
same_numbers a b e = grind (arith, nat_tests, e)

pub number_itself : (a : ℕ) → nat_eq a a ≡ true
number_itself a = grind (arith, nat_tests)

-- ---- where one question is looked up

module _ (schema : DbSchema) where
  pub one_table : (q r : Query) (s t : SpotOf) (a : IsAsked schema q s) (b : IsAsked schema r t) → q.table ≡ r.table → a.table ≡ b.table
  one_table q r s t a b same =
      let place : a.place ≡ b.place = some_once (table_place r.table schema) a.place b.place (ap (λ (n : Bytes). table_place n schema) (sym same) ∙ a.found) b.found in
      some_once (slice_get schema b.place) a.table b.table (ap (λ n. slice_get schema n) (sym place) ∙ a.there) b.there

module _ (p : Caller) where
  -- held watches of one question, asked after the same commit, have one cell
  pub one_cell : (a b : HeldWatch) → IsHeldBy p a → IsHeldBy p b → a.query ≡ b.query → a.number ≡ b.number → cell_id a ≡ cell_id b
  one_cell a b held other query number =
      let s = a.spot in
      let t = b.spot in
      let J = cells_seen p in
      let cell : s.watch ≡ t.watch = some_once (cell_at J b.query b.number) s.watch t.watch ((λ i. cell_at J (sym query i) (sym number i)) ∙ held.cell) other.cell in
      ap (λ (c : Cell). c.id) cell

  -- held watches of one cell are of one index
  pub one_index_held : IdsTellCells p → (a b : HeldWatch) → IsHeldBy p a → IsHeldBy p b → nat_eq (cell_id a) (cell_id b) ≡ true → AreOfOneIndex a.query b.query
  one_index_held ids a b held other e =
      let one = ids a b held other (same_numbers (cell_id a) (cell_id b) e) in
      let x = held_asked p a held in
      let y = held_asked p b other in
      let table : x.table ≡ y.table = one_table p.schema a.query b.query a.spot b.spot x y one.table in
      (one.table, one_index_asked y.table a.query b.query x.at y.at (ap (λ (t : TableSchema). lookup_of t a.query) (sym table) ∙ x.looked) y.looked (sym x.index ∙ one.index ∙ y.index))

  pub member_held : (ms : List Member) (m : Member) → AreHeldBy p (watches_of ms) → Contains ms m → IsHeldBy p m.held
  member_held [] m all within = absurd (Contains-nil m within)
  member_held (x ∷ ms) m all within = elim (Contains-cons_cases x ms m within) [
    | inl same ↦ subst (λ (y : Member). IsHeldBy p y.held) same all.0
    | inr later ↦ member_held ms m all.1 later
  ]

-- ---- the cells of a set

pub member_of_cell : (c : ℕ) (ms : List Member) → has_cell c ms ≡ true → (m : Member) × Contains ms m × (nat_eq (cell_id m.held) c ≡ true)
member_of_cell c [] e = cc
member_of_cell c (x ∷ ms) e = of (nat_eq (cell_id x.held) c) refl e (member_of_cell c ms)
  where
    of : (b : Bool) → nat_eq (cell_id x.held) c ≡ b → (if b then true else has_cell c ms) ≡ true
        → (has_cell c ms ≡ true → (m : Member) × Contains ms m × (nat_eq (cell_id m.held) c ≡ true))
        → (m : Member) × Contains (x ∷ ms) m × (nat_eq (cell_id m.held) c ≡ true)
    of true is e' rest = (x, Contains-first x ms, is)
    of false is e' rest = let found = rest e' in (found.0, Contains-later x ms found.0 found.1, found.2)

either_way : (b r s : Bool) → (r ≡ true → s ≡ true) → (if b then true else r) ≡ true → (if b then true else s) ≡ true
either_way true r s on e = refl
either_way false r s on e = on e

behind : (b s : Bool) → s ≡ true → (if b then true else s) ≡ true
behind true s e = refl
behind false s e = e

-- one more member leaves the cells there
pub cell_stays : (c : ℕ) (ms : List Member) (m : Member) → has_cell c ms ≡ true → has_cell c (ms ++ m ∷ []) ≡ true
cell_stays c [] m e = cc
cell_stays c (x ∷ ms) m e = either_way (nat_eq (cell_id x.held) c) (has_cell c ms) (has_cell c (ms ++ m ∷ [])) (cell_stays c ms m) e

-- and has its own
pub cell_joins : (ms : List Member) (m : Member) → has_cell (cell_id m.held) (ms ++ m ∷ []) ≡ true
cell_joins [] m = ap (λ (b : Bool). if b then true else false) (number_itself (cell_id m.held))
cell_joins (x ∷ ms) m = behind (nat_eq (cell_id x.held) (cell_id m.held)) (has_cell (cell_id m.held) (ms ++ m ∷ [])) (cell_joins ms m)
