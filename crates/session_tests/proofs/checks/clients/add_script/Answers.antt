use Rattle.client_script.specs.Script.{script_in}
use Rattle.run_check.specs.Checked.{IsRead}
use Rattle.session_tests.proofs.AllAdded.{all_added, script_read}
use Rattle.session_tests.proofs.checks.clients.add_script.Goals as goal

pub returns-in-Ok : goal.returns-in-Ok
returns-in-Ok c = all_added IsRead c.push.result c.args.scripts.now c.push.new.self c.in-Ok.script (c.as_bytes.result.now, script_read (script_in c.as_bytes.result.now) c.in-Ok.script c.in-Ok.ensures) c.push.ensures
