-- Made scripts leave what made clients leave.
use Rattle.std.proofs.Common.{arith, ◌≡◌, ◌∙◌, ap, subst, length, List}
use Rattle.std.proofs.lemmas.Result.{IfOk-weaker}
use Rattle.mdb_schema.specs.Schema.{DbSchema}
use Rattle.mem_txn.specs.Database.{Reading}
use Rattle.client_script.specs.declared.line.Line.{Line}
use Rattle.memdb.specs.inner.LastState.{IsLast, IsLastMade}
use Rattle.memdb.specs.inner.MadeInputs.{made_scripts}
use Rattle.memdb.proofs.LastMade.{as_many_scripts, last_made}
use Rattle.memdb.proofs.made.summary.made_state.Goals as goal

pub last_state-requires-clause-some : goal.last_state-requires-clause-some
last_state-requires-clause-some g c =
    let n = c.args.numbers.now in
    let long : length c.in_ok-schema.scripts ≡ n.clients = ap length c.in_ok-schema.ensures.scripts ∙ as_many_scripts n in
    let some = c.are_in_range.ensures.some_clients in
    omega (arith, long, some)

pub last_state-requires-clause-few : goal.last_state-requires-clause-few
last_state-requires-clause-few g c =
    let n = c.args.numbers.now in
    let long : length c.in_ok-schema.scripts ≡ n.clients = ap length c.in_ok-schema.ensures.scripts ∙ as_many_scripts n in
    let few = c.are_in_range.ensures.few_clients in
    omega (arith, long, few)

pub returns : goal.returns
returns g c =
    let n = c.args.numbers.now in
    IfOk-weaker c.last_state.result (λ (last : Reading). IsLast c.in_ok-schema.schema c.in_ok-schema.scripts last.view) (λ (last : Reading). IsLastMade n last.view)
    (λ last is. last_made n last.view c.are_in_range.ensures
    (subst (λ (s : DbSchema). IsLast s (made_scripts n) last.view) c.in_ok-schema.ensures.schema
    (subst (λ (ss : List (List Line)). IsLast c.in_ok-schema.schema ss last.view) c.in_ok-schema.ensures.scripts is)))
    c.last_state.ensures
