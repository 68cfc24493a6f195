use Rattle.std.proofs.Common.{◌∙◌}
use Rattle.memdb.specs.Made.{Numbers}
use Rattle.memdb.proofs.MoreScripts.{drawn_more, script_added, script_drawn}
use Rattle.memdb.proofs.made.scripts.made_scripts.Goals as goal

pub loop-before-preserved : goal.loop-before-preserved
loop-before-preserved c =
    let l = c.loop-before in
    let n : Numbers = record { number = c.args.number; clients = c.args.clients; count = c.args.count } in
    let made = c.in_ok-script.ensures.script ∙ script_drawn n l.before l.drawing l.invariant.last in
    record {
      last = c.in_ok-script.ensures.last ∙ drawn_more n l.before l.drawing l.invariant.last;
      scripts = script_added n l.before l.scripts c.push.new.self c.in_ok-script.script l.invariant.scripts made c.in_ok-push.ensures;
    }
