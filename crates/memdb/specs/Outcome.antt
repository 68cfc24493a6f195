-- What a run may answer, and what it then writes: a text for each status, with its cause.
use Rattle.std.specs.Prelude.{◌≡◌, ℕ, List, Some, None}
use Rattle.client_script.specs.Legal.{Legal}
use Rattle.mdb_datum.specs.Bytes.{Bytes}
use Rattle.memdb.specs.CheckOutcome.{ChecksAs}
use Rattle.memdb.specs.Made.{Numbers, summary}
use Rattle.memdb.specs.Words.{check_named, files_named, numbers_named, run_named, usage_text}
use Rattle.run_io.specs.Observed.{Observed}
use Rattle.run_io.specs.Refusals.{Answered, IsRefused}

-- status 0 of `run`: the text is a legal output for the inputs, where the clients' files have these
-- names
abbrev pub Done : List Bytes → Observed → Bytes → Type 0
Done words seen text = Answered (run_named words) seen Legal text

-- status 0 of `make`: the text is the summary of what clients leave that are made from the numbers
pub record Made (words : List Bytes) (text : Bytes) : Type 0 where
  pub numbers : Numbers
  pub command : numbers_named words ≡ Some numbers
  pub says : text ≡ summary numbers

-- status 1: the words are no command, and no call of the files failed
pub record Usage (words : List Bytes) (seen : Observed) (text : Bytes) : Type 0 where
  pub no_files : files_named words ≡ None
  pub no_make : numbers_named words ≡ None
  pub no_fault : seen.now ≡ seen.before
  pub says : text ≡ usage_text

-- a status, and the text that is written under it; the inputs of `run` and `check` are refused with
-- 2, 3, 5 and 7, and an output is checked with 0 or 10, or refused with 5 or 7
pub data IsAnswer (words : List Bytes) (seen : Observed) (status : ℕ) (text : Bytes) : Type 0 where
  done : status ≡ 0 → Done words seen text → IsAnswer words seen status text
  made : status ≡ 0 → Made words text → IsAnswer words seen status text
  checked : ChecksAs (check_named words) seen status text → IsAnswer words seen status text
  usage : status ≡ 1 → Usage words seen text → IsAnswer words seen status text
  refused : IsRefused (files_named words) seen status text → IsAnswer words seen status text
