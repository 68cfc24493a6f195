use Rattle.std.proofs.Common.{◌≡◌, arith, rules, ap, ◌+◌, ◌++◌, length}
use Rattle.std.specs.Prelude.{option_to_list}
use Rattle.mdb_datum.specs.Bytes.{Bytes}
use Rattle.client_script.specs.Lines.{lines_of}
use Rattle.client_script.specs.Script.{line_in, lines_in}
use Rattle.client_script.proofs.LineSplits.{lines_of-first, read_on, refused_on}
use Rattle.client_script.proofs.ScriptAnswered.{refusal_kept}
use Rattle.client_script.proofs.read.lines_in.Goals as goal

pub returns-in-Err : goal.returns-in-Err
returns-in-Err c =
    let l = c.loop-line in
    let p : Bytes × Bytes = (c.in-Some.line.now, c.in-Some.next.now) in
    refusal_kept option_to_list (λ s. s) (line_in (l.number + 1) c.in-Some.line.now) (lines_in 1 (lines_of c.args.text.now)) c.in-Err.error
    (λ why is. refused_on (l.number + 1) c.args.text.now l.rest.now p l.lines.items why c.in-Some.ensures l.invariant.so_far is) c.in-Err.ensures

pub loop-line-preserved : goal.loop-line-preserved
loop-line-preserved c =
    let l = c.loop-line in
    let p : Bytes × Bytes = (c.in-Some.line.now, c.in-Some.next.now) in
    let pushed : c.add.new.lines.items ≡ l.lines.items ++ option_to_list c.in-Ok.found = search rules in
    let split = lines_of-first l.rest.now p c.in-Some.ensures in
    record {
      text = search rules;
      so_far = read_on (l.number + 1) c.args.text.now l.rest.now p l.lines.items (option_to_list c.in-Ok.found) c.add.new.lines.items c.in-Some.ensures l.invariant.so_far c.in-Ok.ensures pushed;
      counted = omega (arith, ap length split, l.invariant.counted);
    }
