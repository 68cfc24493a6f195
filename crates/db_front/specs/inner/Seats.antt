-- What the runs of steps between two public calls do to a seat.
use Rattle.std.specs.Prelude.{◌≡◌, ◌⊎◌, ℕ, zero, suc, ◌+◌, ◌^◌, ◌<◌, ◌≤◌, List, [], ◌∷◌, ◌++◌, length, Option, Some, None}
use mathlib.Core.Option.{some}
use mathlib.Core.List.{IsPrefix}
use lib.ListN.{get_elem?}
use Rattle.atomic_table.specs.Seated.{TableId}
use Rattle.atomic_table.specs.declared.shared.Seat.{Seat}
use Rattle.watch_word.specs.Logs.{Log}
use Rattle.db_front.specs.declared.board.View.{View}
use Rattle.db_front.specs.Commits.{IsLastOf}
use Rattle.db_front.specs.Passes.{Known}
use Rattle.db_front.specs.Steps.{Outs, IsTurn, turn_of}
use Rattle.db_front.specs.inner.FrontRule.{Hand, size_of}

-- the words and slots for so many callers
abbrev pub IsSized : TableId → ℕ → Type 0
IsSized z callers = (z.words ≡ size_of callers) × (z.slots ≡ size_of callers) × (callers ≤ 64)

-- turns that were taken one after the other, the last one first, with what lay in their slots
abbrev pub Stack : Type 0 → Type 0
Stack V = List (ℕ × V × Log)

-- the card lies in the slot of each caller from 1 to k
abbrev pub LiesTo : {V : Type 0} → ℕ → V × Log → List (Option (V × Log)) → Type 0
LiesTo k c slots = (i : ℕ) → IsTurn k i → get_elem? slots i ≡ some (Some c)

abbrev pub Spot : Type 0 → Type 0
Spot V = Seat (Option (V × Log)) (View V)

module _ {V : Type 0} where
  -- a seat of the table for so many callers
  abbrev pub IsAt : TableId → ℕ → Spot V → Type 0
  IsAt t callers s = (s.table_id ≡ t) × IsSized t callers × (s.me.0.callers ≡ callers)

  -- the seat of the number
  abbrev pub IsOf : Spot V → ℕ → Type 0
  IsOf s number = (s.me.0.number ≡ number) × (0 < number) × (number ≤ s.me.0.callers)

  -- a seat that holds no shown turn
  abbrev pub IsFree : Spot V → ℕ → Type 0
  IsFree s number = IsOf s number × (s.me.0.outs ≡ []) × (s.me.1 ≡ [])

  abbrev pub IsSame : Spot V → Spot V → Type 0
  IsSame s t = (t.table_id ≡ s.table_id) × (t.id ≡ s.id)

  -- what callers see of a seat, with the log that is kept beside it
  abbrev pub known_of : Spot V → ℕ → Log → Known V
  known_of s number log = record {
    table = (s.table_id, s.me.0.callers);
    number = number;
    seen = s.me.0.seen;
    mine = s.me.0.mine;
    counts = s.me.0.counts;
    tries = s.me.0.tries;
    stage = s.me.0.stage;
    log = log;
  }

  abbrev pub hand_of : Known V → Hand V
  hand_of p = (p.number, p.mine, p.seen)

  -- the view with the writer's turn
  abbrev pub begun : View V → List (ℕ × V) → List ℕ → View V
  begun v h ts = record v { seen = h; tries = ts; stage = 1 }

  -- the view after a commit of its own
  abbrev pub committing : View V → V → View V
  committing v x = record v {
    seen = v.seen ++ (v.number, x) ∷ [];
    mine = v.mine ++ (v.number, x) ∷ [];
    stage = 2;
  }

  -- the seat took the shown turn i when the card lay in its slot, which now has what is named last
  abbrev pub AtSlot : (List (ℕ × V) → V → Type 0) → Spot V → Spot V → ℕ → V × Log
      → Option (V × Log) → Type 0
  AtSlot stands s t i c slot =
      (h : List (ℕ × V)) × IsPrefix s.me.0.seen h × (0 < s.me.0.stage → h ≡ s.me.0.seen)
      × stands h c.0
      × (t.me ≡ (record s.me.0 { seen = h; outs = (i, c.1) ∷ s.me.0.outs }, (i, slot) ∷ s.me.1))

  -- the seat took the shown turn, and the card still lies in the slot
  abbrev pub TookShown : (List (ℕ × V) → V → Type 0) → Spot V → Spot V → ℕ → Type 0
  TookShown stands s t i = (c : V × Log) × AtSlot stands s t i c (Some c)

  -- the seat took the shown turn, and the card out of the slot
  abbrev pub Entered : (List (ℕ × V) → V → Type 0) → Spot V → Spot V → ℕ → V × Log → Type 0
  Entered stands s t i c = AtSlot stands s t i c None

  -- these are the turns of the callers from k down to 1
  abbrev pub IsStack : ℕ → Stack V → Type 0
  IsStack zero ts = ts ≡ []
  IsStack (suc k) [] = ⊥
  IsStack (suc k) (t ∷ ts) = (t.0 ≡ turn_of (suc k)) × IsStack k ts

  abbrev pub outs_of : Stack V → Outs
  outs_of [] = []
  outs_of (t ∷ ts) = (t.0, t.2) ∷ outs_of ts

  abbrev pub slots_of : Stack V → List (ℕ × Option (V × Log))
  slots_of [] = []
  slots_of (t ∷ ts) = (t.0, Some (t.1, t.2)) ∷ slots_of ts

  -- the seat that had this view, and holds the shown turns of the callers from 1 to k
  abbrev pub HoldsTo : ℕ → View V → Spot V → Type 0
  HoldsTo k v s = (ts : Stack V) × IsStack k ts
      × (s.me ≡ (record v { outs = outs_of ts }, slots_of ts))

  -- the seat took the writer's turn, by its last try
  abbrev pub Began : Spot V → Spot V → Type 0
  Began s t =
      (h : List (ℕ × V)) × (ts : List ℕ) × IsPrefix s.me.0.seen h
      × (t.me ≡ (begun s.me.0 h (s.me.0.tries ++ ts ++ 0 ∷ []), []))

  -- the seat has looked at the list that it had seen whole
  abbrev pub SeesBegun : Spot V → Spot V → ℕ → Type 0
  SeesBegun s t count =
      (count + 1 ≡ length s.me.0.seen)
      × (t.me ≡ (
        record s.me.0 {
          counts = s.me.0.counts ++ count ∷ [];
          stage = t.me.0.stage;
        },
        [],
      ))
      × (count ≤ 2 ^ 63)

-- what a look makes of a view: the number of commits seen, of which so many are finished
pub record Sees {V : Type 0} (old new : View V) (number finished : ℕ) : Type 0 where
  pub longer : IsPrefix old.seen new.seen
  pub whole : 0 < old.stage → new.seen ≡ old.seen
  pub others : new ≡ record old {
    seen = new.seen;
    counts = old.counts ++ number ∷ [];
  }
  pub count : number + 1 ≡ length new.seen
  pub room : number ≤ 2 ^ 63
  pub near : (finished ≡ number) ⊎ (finished + 1 ≡ number)
  pub own : old.stage ≡ 0 → IsLastOf old.number new.seen → finished ≡ number
  pub begun : old.stage ≡ 1 → finished ≡ number
