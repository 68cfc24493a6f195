-- What an output that was read stands for.
use Rattle.std.specs.Prelude.{List, map}
use Rattle.client_script.specs.declared.line.Line.{Line}
use Rattle.run_check.specs.Output.{Output}
use Rattle.run_check.specs.declared.output.Output as output
use Rattle.run_check.specs.CommitView.{AreInOrder, committed_of}
use Rattle.run_check.specs.Reads.{lists_of}

-- it has the lines of transactions by their places in these scripts
abbrev pub output_of : List (List Line) → output.Output → Output
output_of scripts o = record {
  replies = lists_of o.clients.items;
  commits = map (committed_of scripts) o.commits.items;
}

-- its order has the place of each commit, by the numbers from 1 on
abbrev pub IsOrdered : List (List Line) → output.Output → Type 0
IsOrdered scripts o = AreInOrder (output_of scripts o).commits o.order.items
