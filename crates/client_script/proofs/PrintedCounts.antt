-- How many commits replies print.
use Rattle.std.proofs.Common.{arith, ◌≤◌, List, [], ◌∷◌, length}
use Rattle.std.proofs.lemmas.List.{length-append}
use Rattle.client_script.specs.Legal.{number_printed, printed}
use Rattle.client_script.specs.Reply.{Reply, read_at, write_at, ended, committed, aborted, inserted, replaced, deleted, wiped, deferred, answered, snapshot_at, snapshot_within, quiet_at, fired_at, sized, woken_by, stopped_at, refused}

-- each prints one commit at most
at_most_one : (r : Reply) → length (number_printed r) ≤ 1
at_most_one (committed n changed texts) = omega arith
at_most_one (read_at n) = omega arith
at_most_one (write_at n) = omega arith
at_most_one ended = omega arith
at_most_one aborted = omega arith
at_most_one inserted = omega arith
at_most_one replaced = omega arith
at_most_one deleted = omega arith
at_most_one (wiped k) = omega arith
at_most_one deferred = omega arith
at_most_one (answered a) = omega arith
at_most_one (snapshot_at n) = omega arith
at_most_one (snapshot_within n) = omega arith
at_most_one (quiet_at n) = omega arith
at_most_one (fired_at n) = omega arith
at_most_one (sized k) = omega arith
at_most_one (woken_by name n) = omega arith
at_most_one (stopped_at n) = omega arith
at_most_one (refused rule) = omega arith

pub printed_few : (rs : List Reply) → length (printed rs) ≤ length rs
printed_few [] = omega arith
printed_few (r ∷ rs) =
    let both = length-append (number_printed r) (printed rs) in
    let one = at_most_one r in
    let rest = printed_few rs in
    omega (arith, both, one, rest)
