-- What a run may answer, and what it then writes: a text for each status, with its cause.
use Rattle.std.specs.Prelude.{◌≡◌, ℕ, List, None}
use Rattle.client_script.specs.Legal.{Legal}
use Rattle.client_script.specs.Stuck.{Stuck}
use Rattle.mdb_datum.specs.Bytes.{Bytes}
use Rattle.run_io.specs.Observed.{Observed}
use Rattle.run_io.specs.Refusals.{Answered, IsRefused}
use Rattle.session_loop.specs.Words.{files_named, usage_text}

-- status 0: the text is a legal output for the inputs, where the clients' files have these names
abbrev pub Done : List Bytes → Observed → Bytes → Type 0
Done words seen text = Answered (files_named words) seen Legal text

-- status 9: the text is a stuck output for them
abbrev pub Halted : List Bytes → Observed → Bytes → Type 0
Halted words seen text = Answered (files_named words) seen Stuck text

-- status 1: the words are no command, and no call of the files failed
pub record Usage (words : List Bytes) (seen : Observed) (text : Bytes) : Type 0 where
  pub no_command : files_named words ≡ None
  pub no_fault : seen.now ≡ seen.before
  pub says : text ≡ usage_text

-- a status, and the text that is written under it; the files are refused with 2, 3, 5 and 7
pub data IsAnswer (words : List Bytes) (seen : Observed) (status : ℕ) (text : Bytes) : Type 0 where
  done : status ≡ 0 → Done words seen text → IsAnswer words seen status text
  halted : status ≡ 9 → Halted words seen text → IsAnswer words seen status text
  usage : status ≡ 1 → Usage words seen text → IsAnswer words seen status text
  refused : IsRefused (files_named words) seen status text → IsAnswer words seen status text
