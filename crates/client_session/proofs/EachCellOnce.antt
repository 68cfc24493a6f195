-- A set whose members watch other cells has each cell once, also of the watches that were added.
use Rattle.std.proofs.Common.{◌≡◌, ◌∙◌, ℕ, Bool, true, false, List, [], ◌∷◌, Contains, map, Some, refl, sym, ap, subst, inl, inr}
use Rattle.std.specs.Prelude.{if◌then◌else◌, nat_eq}
use Rattle.std.proofs.lemmas.Bool.{both_ways}
use Rattle.mdb_schema.proofs.Membership.{Contains-cons_cases, Contains-from_map, Contains-map, Contains-nil}
use Rattle.mdb_schema.specs.Query.{Query}
use Rattle.watch_word.specs.Logs.{Cell}
use Rattle.mem_txn.specs.CellHistory.{CellHistory, cell_at}
use Rattle.mem_txn.specs.Checked.{IdsTellCells, IsHeldBy}
use Rattle.mem_txn.specs.Database.{Caller, cells_seen}
use Rattle.mem_txn.specs.Held.{HeldWatch}
use Rattle.watch_set.specs.Members.{HaveDistinctCells, AreHeldBy, Member, cell_id, has_cell, watches_of}
use Rattle.client_script.specs.Client.{Watch, WatchSet}
use Rattle.client_script.specs.Watching.{AreOfOneIndex}
use Rattle.client_session.specs.Cells.{AreOfOneCell, AreOfOtherCells, HasCell, HasEachCellOnce}
use Rattle.client_session.specs.inner.WatchingView.{HasCellOf, IsSet, member_of, watch_of}
use Rattle.client_session.proofs.CellsOfSets.{member_held, member_of_cell, number_itself, one_index_held, same_numbers}
use Rattle.client_session.proofs.CellsTold.{held_cell}
use Rattle.client_session.proofs.IndexPlaces.{some_once}

-- a member's cell is among those of its set
has_own : (c : ℕ) (ms : List Member) (m : Member) → Contains ms m → nat_eq (cell_id m.held) c ≡ true → has_cell c ms ≡ true
has_own c [] m within same = absurd (Contains-nil m within)
has_own c (x ∷ ms) m within same = elim (Contains-cons_cases x ms m within) [
  | inl first ↦ ap (λ (b : Bool). if b then true else has_cell c ms) (ap (λ (y : Member). nat_eq (cell_id y.held) c) first ∙ same)
  | inr later ↦ either (nat_eq (cell_id x.held) c) (has_own c ms m later same)
]
  where
    either : (b : Bool) → has_cell c ms ≡ true → (if b then true else has_cell c ms) ≡ true
    either true there = refl
    either false there = there

module _ (p : Caller) where
  abbrev J : CellHistory
  J = cells_seen p

  -- held watches whose questions have one cell have one id
  one_id : (a b : HeldWatch) (c : Cell) → IsHeldBy p a → IsHeldBy p b → cell_at J a.query a.number ≡ Some c → cell_at J b.query b.number ≡ Some c → cell_id a ≡ cell_id b
  one_id a b c held other first second =
      let s = a.spot in
      let t = b.spot in
      let cell : s.watch ≡ c = some_once (cell_at J a.query a.number) s.watch c held.cell first in
      let twin : t.watch ≡ c = some_once (cell_at J b.query b.number) t.watch c other.cell second in
      ap (λ (d : Cell). d.id) (cell ∙ sym twin)

  -- so members that watch cells of other ids have other cells
  others : (ms : List Member) → HaveDistinctCells ms → AreHeldBy p (watches_of ms) → AreOfOtherCells J (map member_of ms)
  others [] distinct held = tt
  others (m ∷ ms) distinct held = (
    λ x within one.
        let found = Contains-from_map member_of ms x within in
        let y = found.0 in
        let same : AreOfOneCell J (member_of m) (member_of y) = subst (λ (w : Watch). AreOfOneCell J (member_of m) w) (sym found.2) one in
        let a = same.first in
        let b = same.second in
        let id : cell_id m.held ≡ cell_id y.held = one_id m.held y.held same.cell held.0 (member_held p ms y held.1 found.1) a.asked b.asked in
        both_ways (has_cell (cell_id m.held) ms) distinct.0 (has_own (cell_id m.held) ms y found.1 (ap (λ (n : ℕ). nat_eq (cell_id y.held) n) id ∙ number_itself (cell_id y.held))),
    others ms distinct.1 held.1,
  )

  module _ (ids : IdsTellCells p) (ms : List Member) (held : AreHeldBy p (watches_of ms)) where
    -- the cell of a watch that was added is that of a member
    one_of : (w : Watch) → HasCellOf p ms w → (m : Member) × Contains ms m × AreOfOneCell J (member_of m) w
    one_of w own =
        let h = own.held in
        let found = member_of_cell (cell_id h) ms own.cell in
        let m = found.0 in
        let of : IsHeldBy p m.held = member_held p ms m held found.1 in
        let g = m.held in
        let s = g.spot in
        let t = h.spot in
        let one = ids g h of own.of (same_numbers (cell_id g) (cell_id h) found.2) in
        let cell : s.watch ≡ t.watch = one.cell in
        let same : watch_of w.name h ≡ w = (λ i. record { name = w.name; query = own.query i; number = own.number i }) in
        let had : HasCell J w t.watch = subst (λ (x : Watch). HasCell J x t.watch) same (held_cell p h w.name own.of) in (
          m,
          found.1,
          record {
            index = subst (λ (q : Query). AreOfOneIndex g.query q) own.query (one_index_held p ids g h of own.of found.2);
            cell = s.watch;
            first = held_cell p g m.name of;
            second = subst (λ (c : Cell). HasCell J w c) (sym cell) had;
          },
        )

    pub each_once : (s : WatchSet) → IsSet p ms s → HaveDistinctCells ms → HasEachCellOnce (cells_seen p) s
    each_once s is distinct = record {
      some = is.some;
      all = λ w within.
          let m = one_of w (is.added w within) in
          (member_of m.0, subst (λ (ws : List Watch). Contains ws (member_of m.0)) (sym is.members) (Contains-map member_of ms m.0 m.1), m.2);
      once = subst (λ (ws : List Watch). AreOfOtherCells J ws) (sym is.members) (others ms distinct held);
    }
