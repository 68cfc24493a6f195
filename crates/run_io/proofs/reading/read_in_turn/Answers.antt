-- One more script was read.
use Rattle.std.proofs.Common.{◌≡◌, ◌+◌, ◌∷◌, ◌∙◌, ap, sym, drop, arith, Ok}
use Rattle.client_script.specs.Script.{script_in}
use Rattle.run_io.specs.Inputs.{script_answer, scripts_in}
use Rattle.run_io.specs.inner.ContentsOf.{bytes_in}
use Rattle.run_io.proofs.ScriptsInOrder.{drop_next, put_scripts, scripts_more}
use Rattle.run_io.proofs.reading.read_in_turn.Goals as goal

pub loop-at-preserved : goal.loop-at-preserved
loop-at-preserved c =
    let l = c.loop-at in
    let clients = c.args.clients.now in
    let client = c.args.first + l.at in
    let bytes = c.index-clients-at.result in
    let script = c.in_ok-read_client.field-0 in
    let rest = bytes_in (drop (l.at + 1) clients) in
    let number : client + 1 ≡ c.args.first + (l.at + 1) = omega arith in
    let next : drop l.at clients ≡ bytes ∷ drop (l.at + 1) clients = drop_next clients l.at bytes c.loop-at-test.true c.index-clients-at.is in
    let read : script_answer client (script_in bytes.items) ≡ Ok script = rw c.deref.ensures.value at c.in_ok-read_client.ensures in
    l.invariant
    ∙ ap (λ xs. put_scripts l.scripts (scripts_in client (bytes_in xs))) next
    ∙ scripts_more client bytes.items rest l.scripts script read
    ∙ ap (λ ss. put_scripts ss (scripts_in (client + 1) rest)) (sym c.in_ok-push.ensures)
    ∙ ap (λ k. put_scripts c.push.new.self (scripts_in k rest)) number
