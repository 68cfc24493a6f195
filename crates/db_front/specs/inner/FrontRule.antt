-- The rule of the table, as named facts over plain lists.
use Rattle.std.specs.Prelude.{◌≡◌, ◌≢◌, ◌⊎◌, ℕ, zero, suc, ◌+◌, ◌-◌, ◌*◌, ◌^◌, ◌<◌, ◌≤◌, List, [], ◌∷◌, ◌++◌, length, slice_index, drop, Option, Some}
use mathlib.Core.Option.{some, none}
use mathlib.Core.Option as maybe
use mathlib.Core.List.{IsPrefix}
use lib.ListN.{get_elem?}
use Rattle.atomic_table.specs.Table.{State}
use Rattle.watch_word.specs.Logs.{Log}
use Rattle.db_front.specs.declared.board.View.{View}
use Rattle.db_front.specs.Commits.{commits_by, AreNamed, HasFirstFirings}
use Rattle.db_front.specs.Steps.{count_word, done_word, writer_word, IsTurn, Outs}

-- a caller's number, its commits, and the list that it has seen
abbrev pub Hand : Type 0 → Type 0
Hand V = ℕ × List (ℕ × V) × List (ℕ × V)

-- how many words a table for so many callers has, and how many places for slots
abbrev pub size_of : ℕ → ℕ
size_of callers = 16 + 8 * callers

-- the turn i is none of these, or one of them
abbrev pub Without : ℕ → Outs → Type 0
Without i [] = Unit {0}
Without i (p ∷ ps) = (p.0 ≢ i) × Without i ps

abbrev pub Has : ℕ → Outs → Type 0
Has i [] = ⊥
Has i (p ∷ ps) = (p.0 ≡ i) ⊎ Has i ps

-- these turns differ
abbrev pub Differ : Outs → Type 0
Differ [] = Unit {0}
Differ (p ∷ ps) = Without p.0 ps × Differ ps

-- a view that holds no turn
abbrev pub blank : {V : Type 0} → ℕ → ℕ → List (ℕ × V) → List (ℕ × V) → List (Hand V) → View V
blank callers number seen mine more = record {
  callers = callers;
  number = number;
  seen = seen;
  mine = mine;
  more = more;
  counts = [];
  tries = [];
  stage = 0;
  outs = [];
}

-- the list without a commit
abbrev pub start : {V : Type 0} → V → List (ℕ × V)
start o = (0, o) ∷ []

-- n further numbers, from k on
abbrev pub dealt : {V : Type 0} → List (ℕ × V) → ℕ → ℕ → List (Hand V)
dealt seen k zero = []
dealt seen k (suc n) = (k, [], seen) ∷ dealt seen (suc k) n

-- the first seat, where it still carries the numbers from k on. The key is the opening value and
-- the number of callers
abbrev pub dealing : {V : Type 0} → V × ℕ → ℕ → View V
dealing key k = blank key.1 key.1 (start key.0) [] (dealt (start key.0) k (key.1 - k))

abbrev pub first_view : {V : Type 0} → V × ℕ → View V
first_view key = dealing key 1

-- the seat id carries the number, with all its commits in the list
pub record Carries {V : Type 0} (callers : ℕ) (owner : ℕ → ℕ) (log : List (ℕ × V)) (id : ℕ)
    (p : Hand V) : Type 0 where
  pub named : 0 < p.0
  pub few : p.0 ≤ callers
  pub seat : owner p.0 ≡ id
  pub made : commits_by p.0 log ≡ p.1
  pub seen : IsPrefix p.2 log

abbrev pub Hands : {V : Type 0} → ℕ → (ℕ → ℕ) → List (ℕ × V) → ℕ → List (Hand V) → Type 0
Hands callers owner log id [] = Unit {0}
Hands callers owner log id (p ∷ ps) = Carries callers owner log id p × Hands callers owner log id ps

-- c is none of these numbers
abbrev pub Lacks : {V : Type 0} → ℕ → List (Hand V) → Type 0
Lacks c [] = Unit {0}
Lacks c (p ∷ ps) = (p.0 ≢ c) × Lacks c ps

-- the numbers differ
abbrev pub Apart : {V : Type 0} → List (Hand V) → Type 0
Apart [] = Unit {0}
Apart (p ∷ ps) = Lacks p.0 ps × Apart ps

-- What holds at one moment. Words: how many commits are finished, the writer's turn and, by its word,
-- each shown turn. The writer and the shower of a turn are the seats that hold the turns, the owner of
-- a number its seat. The stage is 0 where nobody has the writer's turn, then 1, and 2 where the holder
-- has published; it rises by one for each slot into which the holder has put the new log.
pub record Now (V : Type 0) : Type 0 where
  pub opening : V
  pub commits : List (ℕ × V)
  pub callers : ℕ
  pub done : ℕ
  pub stage : ℕ
  pub turn : ℕ
  pub writer : ℕ
  pub shown : ℕ → ℕ
  pub shower : ℕ → ℕ
  pub owner : ℕ → ℕ

abbrev pub log_of : {V : Type 0} → Now V → List (ℕ × V)
log_of n = (0, n.opening) ∷ n.commits

-- the words: how many commits there are, how many are finished, the writer's turn, the shown turns
pub record Reads (callers commits finished writer : ℕ) (turns : ℕ → ℕ) (words : List ℕ)
    : Type 0 where
  pub size : length words ≡ size_of callers
  pub count : slice_index words count_word ≡ commits
  pub done : slice_index words done_word ≡ finished
  pub turn : slice_index words writer_word ≡ writer
  pub shown : (i : ℕ) → IsTurn callers i → slice_index words i ≡ turns i

-- each shown turn that is taken is held by the seat that is named as its shower
abbrev pub AreHeld : {V : Type 0} → Now V → List (View V) → Type 0
AreHeld {V} n views = (i : ℕ) → IsTurn n.callers i → 0 < n.shown i → (u : View V)
    × (get_elem? views (n.shower i) ≡ some u) × Has i u.outs

module _ {V : Type 0} (stands : List (ℕ × V) → V → Type 0)
    (fired : List (ℕ × V) → Log → Type 0) where
  -- a log that is in the slot i, or was taken out of it by the holder of its turn
  abbrev pub Covers : Now V → ℕ → Log → Type 0
  Covers n i log =
      HasFirstFirings fired n.done (log_of n) log
      × (2 < n.stage → i + 8 ≤ 8 * n.stage → HasFirstFirings fired (length n.commits) (log_of n) log)

  -- the shown turn i, held by the seat id of that number, which has seen the list
  pub record Holds (n : Now V) (id number : ℕ) (seen : List (ℕ × V)) (i : ℕ) (l : Log) : Type 0 where
    pub turn : IsTurn n.callers i
    pub taken : 0 < n.shown i
    pub by : n.shower i ≡ id
    pub named : number ≡ n.shown i
    pub whole : seen ≡ log_of n
    pub covers : Covers n i l

  abbrev pub HoldsAll : Now V → ℕ → ℕ → List (ℕ × V) → Outs → Type 0
  HoldsAll n id number seen [] = Unit {0}
  HoldsAll n id number seen (p ∷ ps) = Holds n id number seen p.0 p.1 × HoldsAll n id number seen ps

  pub record Fits (n : Now V) (id : ℕ) (v : View V) : Type 0 where
    pub limit : 0 < v.number → v.callers ≡ n.callers
    pub own : 0 < v.number → Carries n.callers n.owner (log_of n) id (v.number, v.mine, v.seen)
    pub more : Hands n.callers n.owner (log_of n) id v.more
    pub apart : (0 < v.number → Lacks v.number v.more) × Apart v.more
    pub writes : 0 < v.stage → (0 < n.turn) × (n.writer ≡ id) × (v.stage ≡ n.stage)
        × (v.number ≡ n.turn) × (v.seen ≡ log_of n)
    pub shows : HoldsAll n id v.number v.seen v.outs × Differ v.outs

  -- the slots whose turns are free
  pub record Lies (n : Now V) (homes : List (maybe.Option (Option (V × Log)))) : Type 0 where
    pub size : length homes ≡ size_of n.callers
    pub home : (i : ℕ) → IsTurn n.callers i → n.shown i ≡ 0 → (c : V × Log)
        × (get_elem? homes i ≡ some (some (Some c))) × stands (log_of n) c.0 × Covers n i c.1

  pub record Turns (n : Now V) (views : List (View V)) : Type 0 where
    pub room : length n.commits ≤ 2 ^ 63
    pub named : AreNamed n.callers n.commits
    pub free : n.turn ≡ 0 → n.stage ≡ 0
    pub held : 0 < n.turn → (0 < n.stage) × (u : View V) × (get_elem? views n.writer ≡ some u)
        × (u.stage ≡ n.stage)
    pub whole : n.stage < 2 → n.done ≡ length n.commits
    pub behind : 2 ≤ n.stage → (r : List (ℕ × V)) × (e : ℕ × V) × (n.commits ≡ r ++ e ∷ [])
        × (e.0 ≡ n.turn) × (n.done ≡ length r)

  pub record KeepsRule (callers : ℕ) (s : State (Option (V × Log)) (View V)) : Type 0 where
    pub now : Now V
    pub limit : now.callers ≡ callers
    pub words : Reads now.callers (length now.commits) now.done now.turn now.shown s.words
    pub slot : Lies now s.homes
    pub turns : Turns now s.views
    pub holders : AreHeld now s.views
    pub seats : (id : ℕ) (v : View V) → get_elem? s.views id ≡ some v → Fits now id v

-- a seat hands over its first further number, or takes in another seat's number
module _ {V : Type 0} where
  abbrev pub fewer : View V → View V
  fewer v = record v { more = drop 1 v.more }

  abbrev pub given : ℕ → List (Hand V) → View V
  given callers [] = blank 0 0 [] [] []
  given callers (p ∷ ps) = blank callers p.0 p.2 p.1 []

  abbrev pub handed_over : View V → View V
  handed_over v = given v.callers v.more

  abbrev pub joined : View V → View V → View V
  joined v w = record v { more = v.more ++ (w.number, w.mine, w.seen) ∷ [] }

-- these numbers have just these commits in the list, and have seen a beginning of it
abbrev pub Made : {V : Type 0} → List (ℕ × V) → List (Hand V) → Type 0
Made h [] = Unit {0}
Made h (p ∷ ps) = (commits_by p.0 h ≡ p.1) × IsPrefix p.2 h × Made h ps

-- the same of all numbers that the view carries
abbrev pub HasHand : {V : Type 0} → List (ℕ × V) → View V → Type 0
HasHand h v = (commits_by v.number h ≡ v.mine) × IsPrefix v.seen h × Made h v.more
