use Rattle.std.proofs.Common.{arith}
use Rattle.session_tests.proofs.checks.checked.Goals as goal

pub check_output-requires : goal.check_output-requires
check_output-requires c = record {
  named = omega (arith, c.len.ensures.count, c.if-len.false, c.len-2.ensures);
  some = omega (arith, c.if-len-eq0.false, c.len-else-len.ensures);
  few = omega (arith, c.if-len-gt64.false, c.len-else-len-eq0.ensures);
  words = c.in_ok-words.ensures;
  read = c.in_ok-scripts.ensures;
  small = c.if-out.false;
}
