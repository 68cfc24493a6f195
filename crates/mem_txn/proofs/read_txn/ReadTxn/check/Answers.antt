use Rattle.mem_txn.proofs.ChecksAnswered.{check_heard, check_late, check_told}
use Rattle.mem_txn.proofs.read_txn.ReadTxn.check.Goals as goal

pub returns-clause-look : goal.returns-clause-look
returns-clause-look c =
    check_told c.pass.inside.token c.keep.new.self c.pass.invariant c.pass.view_is c.log.ensures c.moved-fired.result.front c.keep.ensures
    c.moved-fired.ensures.later c.args.held.now c.requires.held c.requires.heard
    c.args.self.now c.requires.read c.moved-fired.result.fired c.watch.ensures c.moved-fired.ensures.fired c.view.ensures.view
    c.found_in.result c.found_in.ensures

pub returns-clause-late : goal.returns-clause-late
returns-clause-late c =
    check_late c.pass.inside.token c.keep.new.self c.pass.invariant c.pass.view_is c.log.ensures c.moved-fired.result.front c.keep.ensures
    c.moved-fired.ensures.later c.args.held.now c.requires.held c.requires.heard
    c.args.self.now c.requires.read c.moved-fired.result.fired c.watch.ensures c.moved-fired.ensures.fired c.view.ensures.view
    c.found_in.result c.found_in.ensures c.view.ensures.books

pub returns-clause-heard : goal.returns-clause-heard
returns-clause-heard c =
    check_heard c.pass.inside.token c.keep.new.self c.pass.invariant c.pass.view_is c.log.ensures c.moved-fired.result.front c.keep.ensures
    c.moved-fired.ensures.later c.args.held.now c.requires.held c.requires.heard
