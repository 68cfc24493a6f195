use Rattle.run_check.specs.Checked.{HasNoFeed}
use Rattle.session_tests.proofs.AllAdded.{all_added}
use Rattle.session_tests.proofs.checks.clients.add_word.Goals as goal

pub returns : goal.returns
returns c = all_added HasNoFeed c.push.result c.args.words.now c.push.new.self c.args.name (c.is_plain.ensures.0 c.if-not-is_plain.false) c.push.ensures
