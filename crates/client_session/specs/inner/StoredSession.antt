-- How the logic stores what contracts see of a session.
use Rattle.std.specs.Prelude.{◌≡◌, ◌≤◌, ◌<◌, ℕ, Bool, true, false, List, Option, Some, None, IsSome, length, take, refl}
use Rattle.std.specs.Coded.{Coded, code_by, coded×, coded_ℕ, coded_bool}
use Rattle.mem_txn.specs.Database.{Caller, cells_seen}
use Rattle.mem_txn.specs.Codes.{caller_code, no_caller}
use Rattle.client_script.specs.declared.line.Line.{Line}
use Rattle.client_script.specs.Codes.{script_code}
use Rattle.client_script.specs.Client.{Client, at_start}
use Rattle.client_script.specs.Legal.{printed}
use Rattle.client_script.specs.Reply.{Reply, lines_text}
use Rattle.client_session.specs.Answered.{AreMade}
use Rattle.client_session.specs.Cells.{RunsByCells}
use Rattle.client_session.specs.Progress.{Progress}
use Rattle.client_session.specs.declared.session_state.SessionState.{SessionState}
use Rattle.client_session.specs.inner.StateView.{Follows}
use Rattle.client_session.specs.inner.OpenView.{caller_of, is_writing}
use Rattle.client_session.specs.inner.Transcript.{Transcript, transcript_code}

abbrev pub Parts : Type 0
Parts = ℕ × (List Line × (Caller × (ℕ × (Transcript × (Bool × Bool)))))

abbrev pub progress_code : Coded Progress
progress_code = code_by Parts
    (coded× coded_ℕ (coded× script_code (coded× caller_code
    (coded× coded_ℕ (coded× transcript_code (coded× coded_bool coded_bool))))))
    (λ s. (
      s.client,
      (
        s.script,
        (
          s.caller,
          (
            s.answered,
            (record { text = s.text; commits = s.commits }, (s.writing, s.failed)),
          ),
        ),
      ),
    ))
    (λ p. record {
      client = p.0;
      script = p.1.0;
      caller = p.1.1.0;
      answered = p.1.1.1.0;
      text = p.1.1.1.1.0.text;
      commits = p.1.1.1.1.0.commits;
      writing = p.1.1.1.1.1.0;
      failed = p.1.1.1.1.1.1;
    })
    (λ _. refl)

-- the pass that the session's state has, which is always there
abbrev pub caller_in : Option SessionState → Caller
caller_in None = no_caller
caller_in (Some d) = caller_of d.«open»

-- whether a write transaction is open in the state
abbrev pub writing_in : Option SessionState → Bool
writing_in None = false
writing_in (Some d) = is_writing d.«open»

-- The state is there. The lines that are answered have replies whose text is kept, and while there
-- are more, the state has what the client knows after these replies. While memory was found, the
-- commits that they tell are the last that the pass has made. After want of memory nothing is open.
pub record HasDone (script : List Line) (state : Option SessionState) (answered : ℕ) (t : Transcript)
    (failed : Bool) : Type 0 where
  pub here : IsSome state
  pub within : answered ≤ length script
  pub replies : List Reply
  pub client : Client
  pub runs : let p = caller_in state in
      RunsByCells (cells_seen p) p.number at_start (take answered script) replies client
  pub written : t.text ≡ lines_text (take answered script) replies
  pub counted : t.commits ≡ length (printed replies)
  pub made : failed ≡ false → AreMade (caller_in state) replies
  pub follows : failed ≡ false → answered < length script → (d : SessionState) → state ≡ Some d
      → Follows d client
  pub closed : failed ≡ true → writing_in state ≡ false

-- memory was always found, and a line is left
abbrev pub IsUnfinished : Progress → Type 0
IsUnfinished s = (s.failed ≡ false) × (s.answered < length s.script)
