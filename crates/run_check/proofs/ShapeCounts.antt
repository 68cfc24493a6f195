-- How many replies a text has: no more than lines, and no more than bytes. So its commits are few.
use Rattle.std.proofs.Common.{arith, ℕ, zero, suc, ◌+◌, ◌≤◌, List, [], ◌∷◌, length, Bool, true, false, ◌==◌, ◌&&◌, is_some, Option, Some, None, Ok, Err, codes, length-append}
use Rattle.std.specs.Prelude.{if◌then◌else◌}
use Rattle.mdb_datum.specs.Bytes.{Bytes}
use Rattle.mdb_schema.specs.History.{History}
use Rattle.mdb_schema.specs.Schema.{DbSchema}
use Rattle.mdb_schema.specs.Tests.{needed, passed}
use Rattle.client_script.specs.declared.line.Line.{Line}
use Rattle.run_check.specs.Commits.{Committed, Working, all_commits, bases, commit_in, commit_numbered, commits_of, history_of, no_work, numbers, with_commit, working_after}
use Rattle.run_check.specs.FirstBad.{Found, found_in}
use Rattle.run_check.specs.Output.{Output, output_in}
use Rattle.run_check.specs.Mode.{mode_after}
use Rattle.run_check.specs.Shape.{Place, Printed, Taken, answer_in, at_end, before_others, further_from, is_further, is_heading, line_from, may_answer, shape, take_client, take_clients, take_further, take_line, take_replies, take_reply, take_rows}
use Rattle.run_check.specs.TextLines.{TextLine, begun_with, number_behind, text_lines}
use Rattle.run_check.specs.declared.mode.Mode.{Mode}
use Rattle.run_check.specs.declared.mode.Mode.TheVariants.{Idle}
use Rattle.run_check.proofs.Outcomes.{IfOk, after_any, ok_so, ok_then}

-- ---- lines

few_lines : (bs : Bytes) → length (text_lines bs) ≤ length bs
few_lines [] = omega arith
few_lines (b ∷ bs) = by (b == 10) (few_lines bs)
  where
    begun : (ls : List TextLine) → length ls ≤ length bs → length (begun_with b ls) ≤ suc (length bs)
    begun [] le = omega arith
    begun (l ∷ ls) le = omega (arith, le)

    by : (t : Bool) → length (text_lines bs) ≤ length bs → length (if t then record { text = []; ended = true } ∷ text_lines bs else begun_with b (text_lines bs)) ≤ suc (length bs)
    by true le = omega (arith, le)
    by false le = begun (text_lines bs) le

-- so many lines fewer are left, or less
Leaves : {A : Type 0} → ℕ → (A → ℕ) → A × Place → Type 0
Leaves n count t = count t.0 + length t.1.lines ≤ n

abbrev one : Bytes → ℕ
one b = 1

abbrev none : Bytes → ℕ
none b = 0

line_leaves : (n : ℕ) (ls : List TextLine) → IfOk (Leaves (length ls) one) (line_from n ls)
unfolding Leaves
line_leaves n [] = tt
line_leaves n (l ∷ ls) = by l.ended
  where
    by : (t : Bool) → IfOk (Leaves (suc (length ls)) one) (if t then Ok (l.text, record { next = n + 1; lines = ls }) else Err n)
    by true = omega arith
    by false = tt

rows_leave : (k : ℕ) (at : Place) → IfOk (Leaves (length at.lines) none) (take_rows k at)
unfolding Leaves
rows_leave zero at = omega arith
rows_leave (suc k) at =
    ok_then (Leaves (length at.lines) one) (Leaves (length at.lines) none) (take_line at) _ (line_leaves at.next at.lines)
    (λ line le. after_any (Leaves (length at.lines) none) (passed at.next (is_further line.0)) _
    (λ good. ok_then (Leaves (length line.1.lines) none) (Leaves (length at.lines) none) (take_rows k line.1) _ (rows_leave k line.1) (λ others le'. omega (arith, le, le'))))

further_leaves : (n : ℕ) (ls : List TextLine) → Leaves (length ls) none (further_from n ls)
unfolding Leaves
further_leaves n [] = omega arith
further_leaves n (l ∷ ls) = by (l.ended && is_further l.text) (further_leaves (n + 1) ls)
  where
    by : (t : Bool) → 0 + length (further_from (n + 1) ls).1.lines ≤ length ls → 0 + length (if t then before_others l.text (further_from (n + 1) ls) else ([], record { next = n; lines = l ∷ ls })).1.lines ≤ suc (length ls)
    by true le = omega (arith, le)
    by false le = omega arith

-- so many lines, or as many as there are where the answer tells a commit
abbrev pub rows_or : Place → Bool → Option ℕ → Taken Bytes
rows_or at t (Some k) = take_rows k at
rows_or at t None = if t then Ok (further_from at.next at.lines) else Ok ([], at)

rows_or_leave : (at : Place) (t : Bool) (o : Option ℕ) → IfOk (Leaves (length at.lines) none) (rows_or at t o)
unfolding Leaves
rows_or_leave at t (Some k) = rows_leave k at
rows_or_leave at true None = further_leaves at.next at.lines
rows_or_leave at false None = omega arith

answer_leaves : (answer : Bytes) (at : Place) → IfOk (Leaves (length at.lines) none) (take_further answer at)
answer_leaves answer at = rows_or_leave at (is_some (number_behind (codes "commit @") answer)) (number_behind (codes "rows ") answer)

-- ---- replies

abbrev one_reply : Printed → ℕ
one_reply p = 1

reply_leaves : (mode : Mode) (l : Line) (at : Place) → IfOk (Leaves (length at.lines) one_reply) (take_reply mode l at)
unfolding Leaves
reply_leaves mode l at =
    ok_then (Leaves (length at.lines) one) (Leaves (length at.lines) one_reply) (take_line at) _ (line_leaves at.next at.lines)
    (λ line le. after_any (Leaves (length at.lines) one_reply) (needed at.next (answer_in l.number line.0)) _
    (λ answer. after_any (Leaves (length at.lines) one_reply) (passed at.next (may_answer mode l.command answer)) _
    (λ good. ok_then (Leaves (length line.1.lines) none) (Leaves (length at.lines) one_reply) (take_further answer line.1) _ (answer_leaves answer line.1) (λ further le'. omega (arith, le, le')))))

abbrev size : List Printed → ℕ
size ps = length ps

replies_leave : (mode : Mode) (ls : List Line) (at : Place) → IfOk (Leaves (length at.lines) size) (take_replies mode ls at)
unfolding Leaves
replies_leave mode [] at = omega arith
replies_leave mode (l ∷ ls) at =
    ok_then (Leaves (length at.lines) one_reply) (Leaves (length at.lines) size) (take_reply mode l at) _ (reply_leaves mode l at)
    (λ first le. ok_then (Leaves (length first.1.lines) size) (Leaves (length at.lines) size) (take_replies (mode_after mode l.command) ls first.1) _ (replies_leave (mode_after mode l.command) ls first.1) (λ others le'. omega (arith, le, le')))

client_leaves : (k : ℕ) (word : Bytes) (script : List Line) (at : Place) → IfOk (Leaves (length at.lines) size) (take_client k word script at)
unfolding Leaves
client_leaves k word script at =
    ok_then (Leaves (length at.lines) one) (Leaves (length at.lines) size) (take_line at) _ (line_leaves at.next at.lines)
    (λ line le. after_any (Leaves (length at.lines) size) (passed at.next (is_heading k word line.0)) _
    (λ headed. ok_so (Leaves (length line.1.lines) size) (Leaves (length at.lines) size) (take_replies Idle script line.1) (replies_leave Idle script line.1) (λ t le'. omega (arith, le, le'))))

-- the replies of all clients
abbrev pub counted : List (List Printed) → ℕ
counted [] = 0
counted (ps ∷ pss) = length ps + counted pss

clients_leave : (k : ℕ) (ws : List Bytes) (ss : List (List Line)) (at : Place) → IfOk (Leaves (length at.lines) counted) (take_clients k ws ss at)
unfolding Leaves
clients_leave k [] ss at = omega arith
clients_leave k (w ∷ ws) [] at = omega arith
clients_leave k (w ∷ ws) (s ∷ ss) at =
    ok_then (Leaves (length at.lines) size) (Leaves (length at.lines) counted) (take_client k w s at) _ (client_leaves k w s at)
    (λ first le. ok_then (Leaves (length first.1.lines) counted) (Leaves (length at.lines) counted) (take_clients (k + 1) ws ss first.1) _ (clients_leave (k + 1) ws ss first.1) (λ others le'. omega (arith, le, le')))

pub shape_counts : (names : List Bytes) (scripts : List (List Line)) (out : Bytes) → IfOk (λ pss. counted pss ≤ length out) (shape names scripts out)
unfolding Leaves
shape_counts names scripts out =
    let start : Place = record { next = 1; lines = text_lines out } in
    let few = few_lines out in
    ok_then (Leaves (length (text_lines out)) counted) (λ pss. counted pss ≤ length out) (take_clients 1 names scripts start) _ (clients_leave 1 names scripts start)
    (λ found le. after_any (λ pss. counted pss ≤ length out) (at_end found.1) _ (λ ended. omega (arith, le, few)))

-- ---- commits

commit_few : (client : ℕ) (w : Working) (p : Printed) (o : Option ℕ) → length (commit_in client w p o) ≤ 1
commit_few client w p None = omega arith
commit_few client w p (Some m) = omega arith

commits_few : (client : ℕ) (w : Working) (ls : List Line) (ps : List Printed) → length (commits_of client w ls ps) ≤ length ps
commits_few client w [] ps = omega arith
commits_few client w (l ∷ ls) [] = omega arith
commits_few client w (l ∷ ls) (p ∷ ps) =
    let more = length-append (commit_in client w p (number_behind (codes "commit @") p.text)) (commits_of client (working_after w l.command p.text) ls ps) in
    let first = commit_few client w p (number_behind (codes "commit @") p.text) in
    let others = commits_few client (working_after w l.command p.text) ls ps in
    omega (arith, more, first, others)

all_few : (k : ℕ) (ss : List (List Line)) (pss : List (List Printed)) → length (all_commits k ss pss) ≤ counted pss
all_few k [] pss = omega arith
all_few k (s ∷ ss) [] = omega arith
all_few k (s ∷ ss) (ps ∷ pss) =
    let more = length-append (commits_of k no_work s ps) (all_commits (k + 1) ss pss) in
    let first = commits_few k no_work s ps in
    let others = all_few (k + 1) ss pss in
    omega (arith, more, first, others)

with_commit_few : (schema : DbSchema) (H : History) (o : Option Committed) → length (with_commit schema H o) ≤ suc (length H)
with_commit_few schema H None = omega arith
with_commit_few schema H (Some c) = rw (length-append H) (omega arith)

pub history_few : (schema : DbSchema) (cs : List Committed) (n : ℕ) → length (history_of schema cs n) ≤ n
history_few schema cs zero = omega arith
history_few schema cs (suc n) =
    let more = with_commit_few schema (history_of schema cs n) (commit_numbered (suc n) cs) in
    let first = history_few schema cs n in
    omega (arith, more, first)

output_few : (names : List Bytes) (scripts : List (List Line)) (out : Bytes) → IfOk (λ (o : Output). length o.commits ≤ length out) (output_in names scripts out)
output_few names scripts out =
    ok_then (λ pss. counted pss ≤ length out) (λ (o : Output). length o.commits ≤ length out) (shape names scripts out) _ (shape_counts names scripts out)
    (λ pss le. let cs : List Committed = all_commits 1 scripts pss in
    after_any (λ (o : Output). length o.commits ≤ length out) (numbers (length cs) [] cs) _
    (λ numbered. after_any (λ (o : Output). length o.commits ≤ length out) (bases cs) _
    (λ based. let commits = all_few 1 scripts pss in omega (arith, commits, le))))

-- a text that passes the first three tests tells of no more commits than it has bytes
pub found_few : (schema : DbSchema) (names : List Bytes) (scripts : List (List Line)) (out : Bytes) → IfOk (λ (f : Found). length f.history ≤ length out) (found_in schema names scripts out)
found_few schema names scripts out =
    ok_then (λ (o : Output). length o.commits ≤ length out) (λ (f : Found). length f.history ≤ length out) (output_in names scripts out) _ (output_few names scripts out)
    (λ o le. let few = history_few schema o.commits (length o.commits) in omega (arith, few, le))
