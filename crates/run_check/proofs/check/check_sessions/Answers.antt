use Rattle.std.proofs.Common.{[], List, length, map, refl, subst}
use Rattle.mdb_datum.specs.Bytes.{Bytes}
use Rattle.run_check.specs.CommitView.{committed_of}
use Rattle.run_check.specs.FirstBad.{found_by}
use Rattle.run_check.specs.OutputView.{output_of}
use Rattle.run_check.specs.declared.commits.Committed.{Committed}
use Rattle.run_check.specs.inner.CheckView.{IsOutputOf, IsReady}
use Rattle.run_check.specs.inner.HistoryView.{HasMade}
use Rattle.run_check.proofs.ClientsHeard.{ready_at_start}
use Rattle.run_check.proofs.check.check_sessions.Goals as goal
use Rattle.run_check.proofs.check.check_sessions.Goals.{After-new}

-- the check is ready for the first client
ready : (c : After-new) → (names : List Bytes) (out : Bytes) → IsOutputOf names c.args.scripts.now out c.args.output.now → IsReady c.args.schema.now (found_by c.args.schema.now (output_of c.args.scripts.now c.args.output.now)).history [] (record { alloc = c.args.alloc; schema = c.args.schema; store = c.in_ok-store.store; commits = c.deref-3.result; order = c.deref-4.result; begun = 0; text = c.new.result })
ready c names out is =
    let schema = c.args.schema.now in
    let scripts = c.args.scripts.now in
    let made = subst (λ (cs : List Committed). HasMade schema (map (committed_of scripts) cs) (length cs) c.in_ok-store.store) c.deref.ensures.value c.in_ok-store.ensures in
    ready_at_start schema names scripts out c.args.output.now is c.requires.lawful _ refl c.deref-3.ensures.value c.deref-4.ensures.value refl made

pub check_clients-requires : goal.check_clients-requires
check_clients-requires c =
    let (names, out, is) = c.requires.read in
    record { ready = (c.args.schema.now, names, out, c.requires.lawful, is, ready (goal.at.check_clients-requires c).After-new names out is) }

pub returns : goal.returns
returns c = λ names out is. c.check_clients.ensures c.args.schema.now names out c.requires.lawful is (ready (goal.at.returns c).After-new names out is)
