-- What the values that the code holds stand for.
use Rattle.std.specs.Prelude.{◌==◌, ℕ, Bool, not}
use Rattle.mdb_datum.specs.Bytes.{Bytes}
use Rattle.run_check.specs.Shape.{Place, Printed}
use Rattle.run_check.specs.TextLines.{Numbered, text_lines}
use Rattle.run_check.specs.declared.bad.BadLine.{BadLine}
use Rattle.run_check.specs.declared.decimal.Numbered as decimal
use Rattle.run_check.specs.declared.place.Place as place
use Rattle.run_check.specs.declared.shape.Printed as shape
use Rattle.std.specs.Borrow.{Bor}

abbrev pub numbered_of : decimal.Numbered → Numbered
numbered_of n = record { number = n.number; rest = n.rest.now }

abbrev pub place_of : place.Place → Place
place_of p = record { next = p.next; lines = text_lines p.rest.now }

-- a line, and the place behind it
abbrev pub line_of : Bor Bytes × place.Place → Bytes × Place
line_of p = (p.0.now, place_of p.1)

abbrev pub bad_line : BadLine → ℕ
bad_line bad = bad.line

abbrev pub printed_of : shape.Printed → Printed
printed_of p = record { line = p.line; text = p.text.now }

-- a reply, and the place behind it
abbrev pub taken_of : shape.Printed × place.Place → Printed × Place
taken_of p = (printed_of p.0, place_of p.1)

-- a byte of a line
abbrev pub is_text : ℕ → Bool
is_text b = not (b == 10)
