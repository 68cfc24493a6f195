-- What a step makes of the state that a session keeps.
use Rattle.std.specs.Prelude.{◌≡◌, ℕ, Bool, false, Option, Some, Result, OnErr, OnOk}
use Rattle.std.specs.declared.alloc.AllocError.{AllocError}
use Rattle.client_script.specs.declared.line.Line.{Line}
use Rattle.client_session.specs.Answered.{IsLater}
use Rattle.client_session.specs.declared.session_state.SessionState.{SessionState}
use Rattle.client_session.specs.inner.Carried.{StepsLine, StopsLine}
use Rattle.client_session.specs.inner.OpenView.{caller_of, is_writing}
use Rattle.client_session.specs.inner.Transcript.{Transcript}

-- a state was there and one is there, and a line was carried out between them
pub record StepsKept (callers : ℕ) (l : Line) (before after : Option SessionState) (t t' : Transcript)
    (told : Result Bool AllocError) : Type 0 where
  pub old : SessionState
  pub new : SessionState
  pub was : before ≡ Some old
  pub is : after ≡ Some new
  pub answered : OnOk told (StepsLine callers l old new t t' told)
  pub same : OnErr told (t' ≡ t)
  pub stopped : OnErr told (StopsLine l old (caller_of new.«open»))
  pub closed : OnErr told (is_writing new.«open» ≡ false)
  pub later : IsLater (caller_of old.«open») (caller_of new.«open»)
