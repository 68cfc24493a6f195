-- What is checked: a text, and clients with the files that they had.
use Rattle.std.specs.Prelude.{◌≡◌, ◌≢◌, ◌≤◌, ◌^◌, ℕ, List, length, Ok, All}
use Rattle.mdb_datum.specs.Bytes.{Bytes}
use Rattle.client_script.specs.Script.{script_in}
use Rattle.client_script.specs.declared.line.Line.{Line}

-- no line feed
abbrev pub HasNoFeed : Bytes → Type 0
HasNoFeed bs = All (λ (b : ℕ). b ≢ 10) bs

-- lines that the bytes of some file read as
abbrev pub IsRead : List Line → Type 0
IsRead lines = (bytes : Bytes) × (script_in bytes ≡ Ok lines)

-- 1 to 64 clients, each with a name without line feeds and a script that was read; and a text of at
-- most 16 MiB
pub record IsChecked (names : List Bytes) (scripts : List (List Line)) (out : Bytes)
    : Type 0 where
  pub named : length names ≡ length scripts
  pub some : 1 ≤ length scripts
  pub few : length scripts ≤ 64
  pub words : All HasNoFeed names
  pub read : All IsRead scripts
  pub small : length out ≤ 2 ^ 24
