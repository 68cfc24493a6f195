use Rattle.std.proofs.Common.{◌≡◌, ◌+◌, length}
use denote.Text.{Utf8}
use denote.Shadow.{shadow}
use Rattle.client_script.specs.Lines.{lines_of}
use Rattle.client_script.specs.Script.{lines_in}
use Rattle.client_script.proofs.LineSplits.{put_before}
use Rattle.client_script.proofs.read.lines_in.Given as goal

-- the lines so far, and then what the rest reads as, are what all reads as
abbrev pub invariant-loop-line : goal.invariant-loop-line
invariant-loop-line l = record {
  text : shadow (Utf8 l.rest);
  so_far : lines_in 1 (lines_of l.text) ≡ put_before l.lines.items (lines_in (l.number + 1) (lines_of l.rest));
  counted : l.number + length (lines_of l.rest) ≡ length (lines_of l.text);
}

abbrev pub decreases-loop-line : goal.decreases-loop-line
decreases-loop-line l = length l.rest
