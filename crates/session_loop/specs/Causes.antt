-- When a status comes: where its cause is there, nothing else is answered but want of memory and a
-- failed write. Clients that are carried out may all end, or be stuck.
use Rattle.std.specs.Prelude.{◌≡◌, ℕ, zero, suc, List, [], ◌∷◌, None}
use Rattle.mdb_datum.specs.Bytes.{Bytes}
use Rattle.run_io.specs.Causes.{HasNoExcuse}
use Rattle.run_io.specs.Observed.{Observed}
use Rattle.run_io.specs.RefusalCauses.{AreLawful, CallsForRefusal}
use Rattle.run_io.specs.Statuses.{HasOneCause}
use Rattle.session_loop.specs.Words.{files_named}

-- what calls for a status; that of clients that are carried out is told as 0
pub data LoopCallsFor (words : List Bytes) (seen : Observed) (status : ℕ) : Type 0 where
  -- the words are no command
  no_command : status ≡ 1 → files_named words ≡ None → LoopCallsFor words seen status
  -- the files call for a refusal: 2, 3, 5 or 7
  refused : CallsForRefusal (files_named words) seen status → LoopCallsFor words seen status
  -- the schema and the scripts are lawful
  lawful : status ≡ 0 → AreLawful (files_named words) seen → LoopCallsFor words seen status

-- what is answered where a status is called for: clients that are carried out may be stuck, any
-- memory may be wanting, and any write may fail
abbrev pub statuses_for : ℕ → List ℕ
statuses_for zero = 0 ∷ 9 ∷ 4 ∷ 6 ∷ []
statuses_for (suc n) = suc n ∷ 4 ∷ 6 ∷ []

-- no two statuses are called for
abbrev pub NoTwoCauses : Type 0
NoTwoCauses = (words : List Bytes) (seen : Observed) (s t : ℕ)
    → LoopCallsFor words seen s → LoopCallsFor words seen t → s ≡ t

-- where the files tell their bytes, and no read fails but of a file that isn't there, one status is
-- called for, and no other
abbrev pub OneCauseWhereTold : Type 0
OneCauseWhereTold = (words : List Bytes) (seen : Observed) → HasNoExcuse seen
    → HasOneCause (0 ∷ 1 ∷ 2 ∷ 3 ∷ 5 ∷ 7 ∷ []) (LoopCallsFor words seen)
