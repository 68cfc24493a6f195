-- What the real ends hold: an output stream, and a file that is open.
use Rattle.std.specs.Prelude.{◌≡◌, ◌≢◌, ℕ, List, Option, Some, IfSome}
use Rattle.std.specs.Io.KnownBytes.{Keeps}

-- what `OutSink` holds: the bytes that its stream tells, and how many calls failed
pub record OutState : Type 0 where
  pub written : Option (List ℕ)
  pub faults : ℕ

-- what a stream that can seek tells: the bytes from here on, its position, and all bytes from position 0 on
pub record Stream : Type 0 where
  pub left : Option (List ℕ)
  pub position : Option ℕ
  pub bytes : Option (List ℕ)

-- what a stream tells, by its own three tellings
abbrev pub stream : {F : Type 0} → (F → Option (List ℕ)) → (F → Option ℕ) → (F → Option (List ℕ)) → F → Stream
stream left position bytes f = record { left = left f; position = position f; bytes = bytes f }

-- A stream goes to an offset: it is as it was where it stands there, and else it has moved there where
-- it tells its position.
pub record GoesTo (before : Stream) (place : ℕ) (at : ℕ) (there : Stream) : Type 0 where
  pub stays : place ≡ at → there ≡ before
  pub moves : place ≢ at → IfSome before.position (λ _. there.position ≡ Some at)
  pub kept : Keeps before.bytes there.bytes

-- a file that is open: its name, the offset where a read begins, and what it tells
pub record OpenFile : Type 0 where
  pub name : List ℕ
  pub place : ℕ
  pub stream : Stream

-- what `DirFiles` holds: the file that it keeps open, and how many calls failed
pub record DirState : Type 0 where
  pub opened : Option OpenFile
  pub faults : ℕ
