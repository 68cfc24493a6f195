use Rattle.std.proofs.Common.{rules, ◌≡◌, map, subst, List, Err}
use Rattle.run_check.specs.Commits.{Committed, all_commits}
use Rattle.run_check.specs.declared.commits.Committed as kept
use Rattle.run_check.specs.Output.{output_in}
use Rattle.run_check.specs.CommitView.{IsOrderOf, committed_of}
use Rattle.run_check.specs.OutputView.{output_of}
use Rattle.run_check.specs.Reads.{lists_of}
use Rattle.run_check.proofs.OutputRead.{numbers_fail, order_stops}
use Rattle.run_check.proofs.output.read_output.Goals as goal

pub returns-in_err-order-clause-told : goal.returns-in_err-order-clause-told
returns-in_err-order-clause-told c =
    let scripts = c.args.scripts.now in
    let clients = c.in_ok-clients.clients.items in
    let commits : List Committed = map (committed_of scripts) c.in_ok-commits.commits.items in
    let printed : commits ≡ all_commits 1 scripts (lists_of clients) = search rules in
    let ends = subst (λ (cs : List kept.Committed). IsOrderOf (map (committed_of scripts) cs) (Err c.in_err-order.field-0.0)) c.deref-2.ensures.value (c.in_err-order.ensures scripts) in
    order_stops commits c.in_err-order.field-0.0 (output_of scripts) (output_in c.args.words.now scripts c.args.out.now) c.from_residual-in_err-order.result (numbers_fail c.args.words.now scripts c.args.out.now (lists_of clients) commits c.in_ok-clients.ensures printed) ends c.from_residual-in_err-order.ensures.1
