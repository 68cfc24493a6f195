use Rattle.run_check.proofs.LinesCut.{cut_splits, cut_taken, none_taken}
use Rattle.run_check.proofs.place.Place.line.Goals as goal

pub returns-then-len-self-clause-taken : goal.returns-then-len-self-clause-taken
returns-then-len-self-clause-taken c =
    cut_taken c.args.self.rest.now c.cut.result.0.now c.cut.result.1.rest.now c.args.self.next c.cut.result.1.next c.line_len-len.result c.line_len-len.ensures c.if-len-self.true c.cut.ensures.line c.cut.ensures.next c.cut.ensures.rest

pub returns-then-len-self-clause-cut : goal.returns-then-len-self-clause-cut
returns-then-len-self-clause-cut c =
    cut_splits c.args.self.rest.now c.cut.result.0.now c.cut.result.1.rest.now c.line_len-len.result c.line_len-len.ensures c.if-len-self.true c.cut.ensures.line c.cut.ensures.rest

pub returns-else-len-self-clause-taken : goal.returns-else-len-self-clause-taken
returns-else-len-self-clause-taken c =
    none_taken c.args.self.rest.now c.args.self.next c.bad.result.line c.line_len-len.result c.line_len-len.ensures c.if-len-self.false c.bad.ensures
