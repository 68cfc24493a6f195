-- The events that the lists of a pass tell of: its loads and its tries, each with the word that it
-- is a load or a try of. A seat is seen as its view with the slots that it has taken out. Of each
-- step are named the seat before, the number that was found, and the seat after.
use Rattle.std.specs.Prelude.{◌≡◌, ◌≢◌, ◌⊎◌, ℕ, ◌+◌, ◌*◌, ◌^◌, ◌<◌, ◌≤◌, List, [], ◌∷◌, ◌++◌, length, Option, Some}
use mathlib.Core.List.{IsPrefix}
use Rattle.atomic_table.specs.Table.{Me, Step}
use Rattle.watch_word.specs.Logs.{Log}
use Rattle.db_front.specs.declared.board.View.{View}
use Rattle.db_front.specs.Commits.{HasFirstFirings, IsLastOf}

-- COUNT: how many commits there are
abbrev pub count_word : ℕ
count_word = 0

-- DONE: how many of them are finished
abbrev pub done_word : ℕ
done_word = 1

-- the writer's turn: 0, or the number of the caller that has it
abbrev pub writer_word : ℕ
writer_word = 8

-- The word of a caller's shown turn, and the place of its slot. They lie eight apart, so that no two
-- callers share a line of memory.
abbrev pub turn_of : ℕ → ℕ
turn_of c = 8 + 8 * c

-- the shown turn of one of so many callers
abbrev pub IsTurn : ℕ → ℕ → Type 0
IsTurn callers i = (c : ℕ) × (0 < c) × (c ≤ callers) × (i ≡ turn_of c)

-- the shown turns that a seat holds, with the logs that were in their slots, the last one first
abbrev pub Outs : Type 0
Outs = List (ℕ × Log)

abbrev pub Sat : Type 0 → Type 0
Sat V = Me (Option (V × Log)) (View V)

abbrev pub At : Type 0 → Type 0
At V = Step (Option (V × Log))

module _ {V : Type 0} where
  -- A load of COUNT. The seat's list of counts grows by the number, which no other step does. Where
  -- the seat holds a turn, it is the number of the commits that the seat has seen.
  abbrev pub LoadsCount : At V → Sat V → ℕ → Sat V → Type 0
  LoadsCount st m e m' =
      (m' ≡ (record m.0 { counts = m.0.counts ++ e ∷ [] }, m.1))
      × (0 < length m.0.outs → e + 1 ≡ length m.0.seen)
      × (0 < m.0.stage → e + 1 ≡ length m.0.seen)
      × (e ≤ 2 ^ 63)
      × (st.word ≡ count_word)

  -- A try for the writer's turn. The seat's list of tries grows by what was found, which no other
  -- step does. Where that is 0 the seat has the turn and has seen all commits; else it is the number
  -- of another caller.
  abbrev pub TriesWriter : At V → Sat V → ℕ → Sat V → Type 0
  TriesWriter st m e m' =
      (e ≡ 0 → (h : List (ℕ × V)) × IsPrefix m.0.seen h
      × (m' ≡ (record m.0 { seen = h; tries = m.0.tries ++ e ∷ []; stage = 1 }, m.1)))
      × (e ≢ 0 → (e ≢ m.0.number) × (e ≤ m.0.callers) × (m' ≡ (record m.0 { tries = m.0.tries ++ e ∷ [] }, m.1)))
      × (st.word ≡ writer_word)

-- A load of DONE, which changes nothing. A log that the seat took with a turn has the firings of so
-- many commits: all that the seat has seen, or all but the last, and all where that one is its own
-- or where the seat has the writer's turn and has not published.
abbrev pub LoadsDone : {V : Type 0} → (List (ℕ × V) → Log → Type 0) → At V → Sat V → ℕ → Sat V → Type 0
LoadsDone fired st m e m' =
    (m' ≡ m)
    × ((i : ℕ) (l : Log) (os : Outs) → m.0.outs ≡ (i, l) ∷ os → HasFirstFirings fired e m.0.seen l
    × ((e + 1 ≡ length m.0.seen) ⊎ (e + 2 ≡ length m.0.seen))
    × (m.0.stage ≡ 0 → IsLastOf m.0.number m.0.seen → e + 1 ≡ length m.0.seen))
    × (m.0.stage ≡ 1 → e + 1 ≡ length m.0.seen)
    × (st.word ≡ done_word)

-- A try for a shown turn. Where it found 0 the seat has the turn, has seen all commits, and takes
-- what lies in the slot, whose value stands for them; else it found a caller's number, and nothing
-- changes.
abbrev pub TriesShown : {V : Type 0} → (List (ℕ × V) → V → Type 0) → At V → Sat V → ℕ → Sat V → Type 0
TriesShown {V} stands st m e m' =
    (e ≡ 0 → (h : List (ℕ × V)) × (c : V × Log) × IsPrefix m.0.seen h
    × (0 < m.0.stage → h ≡ m.0.seen) × stands h c.0
    × (m' ≡ (record m.0 { seen = h; outs = (st.word, c.1) ∷ m.0.outs }, (st.word, Some c) ∷ m.1)))
    × (e ≢ 0 → m' ≡ m)
    × (e ≤ m.0.callers)
    × IsTurn m.0.callers st.word
