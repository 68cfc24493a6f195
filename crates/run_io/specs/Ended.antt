-- How a run ends: its status, and what a sink then holds. `IsAnswer` says which text is written
-- under which status, where all of it is.
use Rattle.std.specs.Prelude.{◌≡◌, ◌<◌, ℕ, length, take, Option}
use Rattle.mdb_datum.specs.Bytes.{Bytes}
use Rattle.mdb_ports.specs.Sink.{Grows}

-- a sink has grown by a text of which this holds
pub record Wrote (old new : Option Bytes) (P : Bytes → Type 0) : Type 0 where
  pub text : Bytes
  pub holds : P text
  pub grown : Grows old new text

-- status 6: a part of the text of another status, from its beginning, and not all of it
pub record CutShort (IsAnswer : ℕ → Bytes → Type 0) (text : Bytes) : Type 0 where
  pub status : ℕ
  pub whole : Bytes
  pub answer : IsAnswer status whole
  pub taken : ℕ
  pub shorter : taken < length whole
  pub front : text ≡ take taken whole

-- the text of the status is written whole; or, with 6, only a part of a text; or, with 4, nothing
pub data HasEnded (IsAnswer : ℕ → Bytes → Type 0) (old new : Option Bytes) (status : ℕ)
    : Type 0 where
  answered : Wrote old new (IsAnswer status) → HasEnded IsAnswer old new status
  cut_short : status ≡ 6 → Wrote old new (CutShort IsAnswer) → HasEnded IsAnswer old new status
  out_of_memory : status ≡ 4 → new ≡ old → HasEnded IsAnswer old new status
