-- The lines of the transactions that a text's commits end are no more than its replies: a commit is told
-- at a line `commit` alone, where a write transaction is open.
use Rattle.std.proofs.Common.{arith, ◌≡◌, refl, ap, subst, sym, ◌∙◌, ℕ, zero, suc, ◌+◌, ◌≤◌, List, [], ◌∷◌, ◌++◌, length, Bool, true, false, ◌==◌, ◌&&◌, ◌||◌, is_some, Option, Some, None, option_map, codes, length-append}
use Rattle.std.specs.Bool.{⊤}
use Rattle.std.specs.Prelude.{if◌then◌else◌, option_and_then}
use Rattle.std.specs.Str.{bytes_eq}
use Rattle.std.proofs.lemmas.Bool.{eqb-true}
use Rattle.std.proofs.lemmas.List.Sums.{sum_by-cons}
use Rattle.mdb_datum.specs.Bytes.{Bytes}
use Rattle.mdb_schema.proofs.PassedTests.{passed_holds}
use Rattle.mdb_schema.specs.Tests.{needed, passed}
use Rattle.mdb_schema.specs.declared.ask.Ask.{Ask}
use Rattle.mdb_schema.specs.declared.ask.Ask.TheVariants.{First, Last, Get, GetReverse, Lower, ReverseLower, Longest}
use Rattle.client_script.specs.declared.command.AskCommand.TheVariants as ask_line
use Rattle.client_script.specs.declared.command.Command.{Command}
use Rattle.client_script.specs.declared.command.Command.TheVariants as command
use Rattle.client_script.specs.declared.command.NameCommand.TheVariants as name_line
use Rattle.client_script.specs.declared.command.TransactionCommand.TheVariants as transaction_line
use Rattle.client_script.specs.declared.command.WatchesCommand.TheVariants as watches_line
use Rattle.client_script.specs.declared.command.WriteCommand.{WriteCommand}
use Rattle.client_script.specs.declared.command.WriteCommand.TheVariants as write_line
use Rattle.client_script.specs.declared.line.Line.{Line}
use Rattle.run_check.specs.Commits.{Working, all_commits, commit_in, commits_of, no_work, working_after}
use Rattle.run_check.specs.Forms.{has_form}
use Rattle.run_check.specs.Mode.{mode_after, order_rule}
use Rattle.run_check.specs.Shape.{Place, Printed, answer_in, at_end, before_others, further_from, is_further, is_heading, is_refusal, may_answer, shape, take_client, take_clients, take_further, take_line, take_replies, take_reply, take_rows}
use Rattle.run_check.specs.TextLines.{Numbered, TextLine, behind, number_behind, number_first, text_lines}
use Rattle.run_check.specs.declared.mode.Mode.{Mode}
use Rattle.run_check.specs.declared.mode.Mode.TheVariants.{Idle, Reads, Writes}
use Rattle.run_check.proofs.CommitsRead.{working_mode}
use Rattle.run_check.proofs.HistoryFound.{all_lines, all_lines-append, lines_of}
use Rattle.run_check.proofs.Outcomes.{IfOk, after_any, ok_known, ok_then}
use Rattle.run_check.proofs.ShapeCounts.{counted, rows_or}

-- ---- which lines tell a commit

-- a form begins with `c` at a line `commit` alone
ask_other : (a : Ask) (rest : Bytes) → has_form (command.Ask (ask_line.Question (record { ask = a; table = []; index = []; args = [] }))) (99 ∷ rest) ≡ false
ask_other First rest = refl
ask_other Last rest = refl
ask_other Longest rest = refl
ask_other Get rest = refl
ask_other GetReverse rest = refl
ask_other Lower rest = refl
ask_other ReverseLower rest = refl

-- a line that begins with `c` may answer this command in this mode
data TellsCommit : Mode → Command → Type 0 where
  at_commit : TellsCommit Writes (command.Transaction transaction_line.Commit)

module _ (mode : Mode) (c : Command) (rest : Bytes) where
  judged : Bool → Option Bytes → Bool
  judged form None = is_refusal (99 ∷ rest) || form
  judged form (Some rule) = bytes_eq (99 ∷ rest) (codes "refused " ++ rule)

  no_answer : has_form c (99 ∷ rest) ≡ false → may_answer mode c (99 ∷ rest) ≡ true → ⊥
  unfolding judged
  no_answer form may = of (order_rule mode c) (may_same may)
    where
      may_same : may_answer mode c (99 ∷ rest) ≡ true → judged false (order_rule mode c) ≡ true
      may_same e = sym (ap (λ (b : Bool). judged b (order_rule mode c)) form) ∙ e

      of : (o : Option Bytes) → judged false o ≡ true → ⊥
      of None e = cc
      of (Some rule) e = cc

  only_refused : (rule : Bytes) → order_rule mode c ≡ Some rule → may_answer mode c (99 ∷ rest) ≡ true → ⊥
  unfolding judged
  only_refused rule is may = told (sym (ap (judged (has_form c (99 ∷ rest))) is) ∙ may)
    where
      told : judged (has_form c (99 ∷ rest)) (Some rule) ≡ true → ⊥
      told e = cc

commit_line : (mode : Mode) (c : Command) (rest : Bytes) → may_answer mode c (99 ∷ rest) ≡ true → TellsCommit mode c
commit_line Writes (command.Transaction transaction_line.Commit) rest may = at_commit
commit_line Idle (command.Transaction transaction_line.Commit) rest may = absurd (only_refused Idle (command.Transaction transaction_line.Commit) rest (codes "no-transaction") refl may)
commit_line Reads (command.Transaction transaction_line.Commit) rest may = absurd (only_refused Reads (command.Transaction transaction_line.Commit) rest (codes "read-only") refl may)
commit_line mode (command.Transaction transaction_line.Read) rest may = absurd (no_answer mode (command.Transaction transaction_line.Read) rest refl may)
commit_line mode (command.Transaction transaction_line.Write) rest may = absurd (no_answer mode (command.Transaction transaction_line.Write) rest refl may)
commit_line mode (command.Transaction transaction_line.End) rest may = absurd (no_answer mode (command.Transaction transaction_line.End) rest refl may)
commit_line mode (command.Transaction transaction_line.Abort) rest may = absurd (no_answer mode (command.Transaction transaction_line.Abort) rest refl may)
commit_line mode (command.Write (write_line.Insert table row)) rest may = absurd (no_answer mode (command.Write (write_line.Insert table row)) rest refl may)
commit_line mode (command.Write (write_line.Delete table row)) rest may = absurd (no_answer mode (command.Write (write_line.Delete table row)) rest refl may)
commit_line mode (command.Write (write_line.DeleteAll q)) rest may = absurd (no_answer mode (command.Write (write_line.DeleteAll q)) rest refl may)
commit_line mode (command.Write (write_line.DeletePrefix q)) rest may = absurd (no_answer mode (command.Write (write_line.DeletePrefix q)) rest refl may)
commit_line mode (command.Defer text) rest may = absurd (no_answer mode (command.Defer text) rest refl may)
commit_line mode (command.Ask (ask_line.Question q)) rest may = absurd (no_answer mode (command.Ask (ask_line.Question q)) rest (ask_other q.ask rest) may)
commit_line mode (command.Ask (ask_line.InSnapshot name q)) rest may = absurd (no_answer mode (command.Ask (ask_line.InSnapshot name q)) rest (ask_other q.ask rest) may)
commit_line mode (command.Name (name_line.Snapshot name)) rest may = absurd (no_answer mode (command.Name (name_line.Snapshot name)) rest refl may)
commit_line mode (command.Name (name_line.Watch name q)) rest may = absurd (no_answer mode (command.Name (name_line.Watch name q)) rest (ask_other q.ask rest) may)
commit_line mode (command.Name (name_line.WatchIn name snapshot q)) rest may = absurd (no_answer mode (command.Name (name_line.WatchIn name snapshot q)) rest (ask_other q.ask rest) may)
commit_line mode (command.Size set) rest may = absurd (no_answer mode (command.Size set) rest refl may)
commit_line mode (command.Watches (watches_line.Check name)) rest may = absurd (no_answer mode (command.Watches (watches_line.Check name)) rest refl may)
commit_line mode (command.Watches (watches_line.Add set name)) rest may = absurd (no_answer mode (command.Watches (watches_line.Add set name)) rest refl may)
commit_line mode (command.Watches (watches_line.AddLimit set limit name other)) rest may = absurd (no_answer mode (command.Watches (watches_line.AddLimit set limit name other)) rest refl may)
commit_line mode (command.Watches (watches_line.Wait set)) rest may = absurd (no_answer mode (command.Watches (watches_line.Wait set)) rest refl may)
commit_line mode (command.Watches (watches_line.WaitUntil set until)) rest may = absurd (no_answer mode (command.Watches (watches_line.WaitUntil set until)) rest refl may)

-- what follows the first line is nothing, or begins with a line feed
abbrev IsMore : Bytes → Type 0
IsMore [] = ⊤
IsMore (b ∷ bs) = b ≡ 10

abbrev TakenMore : Bytes × Place → Type 0
TakenMore t = IsMore t.0

rows_more : (k : ℕ) (at : Place) → IfOk TakenMore (take_rows k at)
rows_more zero at = tt
rows_more (suc k) at = after_any TakenMore (take_line at) _ (λ line. after_any TakenMore (passed at.next (is_further line.0)) _ (λ good. after_any TakenMore (take_rows k line.1) _ (λ others. refl)))

further_more : (n : ℕ) (ls : List TextLine) → TakenMore (further_from n ls)
further_more n [] = tt
further_more n (l ∷ ls) = by (l.ended && is_further l.text)
  where
    by : (t : Bool) → TakenMore (if t then before_others l.text (further_from (n + 1) ls) else ([], record { next = n; lines = l ∷ ls }))
    by true = refl
    by false = tt

more_or : (at : Place) (t : Bool) (o : Option ℕ) → IfOk TakenMore (rows_or at t o)
more_or at t (Some k) = rows_more k at
more_or at true None = further_more at.next at.lines
more_or at false None = tt

answer_more : (answer : Bytes) (at : Place) → IfOk TakenMore (take_further answer at)
answer_more answer at = more_or at (is_some (number_behind (codes "commit @") answer)) (number_behind (codes "rows ") answer)

none_some : (m : ℕ) → None ≡ Some m → ⊥
none_some m e = cc

-- a text that tells a commit begins with `c`
begins_c : (answer more : Bytes) (m : ℕ) → IsMore more → number_behind (codes "commit @") (answer ++ more) ≡ Some m → (rest : Bytes) × (answer ≡ 99 ∷ rest)
begins_c [] [] m feed e = cc
begins_c [] (b ∷ more) m feed e = absurd (feed_first e)
  where
    feed_first : number_behind (codes "commit @") (b ∷ more) ≡ Some m → ⊥
    feed_first e' = none_some m (sym (ap (λ (x : ℕ). number_behind (codes "commit @") (x ∷ more)) feed) ∙ e')
begins_c (b ∷ answer) more m feed e = (answer, by (b == 99) refl e)
  where
    by : (t : Bool) → (b == 99) ≡ t → option_map (λ (n : Numbered). n.number) (option_and_then number_first (if t then behind (codes "ommit @") (answer ++ more) else None)) ≡ Some m → b ∷ answer ≡ 99 ∷ answer
    by true is e' = ap (λ (x : ℕ). x ∷ answer) (eqb-true b 99 is)
    by false is e' = cc

-- a reply that tells a commit stands at such a line
abbrev OnlyCommit : Mode → Command → Printed × Place → Type 0
OnlyCommit mode c t = (m : ℕ) → number_behind (codes "commit @") t.0.text ≡ Some m → TellsCommit mode c

reply_commits : (mode : Mode) (l : Line) (at : Place) → IfOk (OnlyCommit mode l.command) (take_reply mode l at)
reply_commits mode l at =
    after_any (OnlyCommit mode l.command) (take_line at) _ (λ line. after_any (OnlyCommit mode l.command) (needed at.next (answer_in l.number line.0)) _
    (λ answer. ok_known (OnlyCommit mode l.command) (passed at.next (may_answer mode l.command answer)) _
    (λ good is. ok_then TakenMore (OnlyCommit mode l.command) (take_further answer line.1) _ (answer_more answer line.1)
    (λ further feed m e. let begins = begins_c answer further.0 m feed e in
    commit_line mode l.command begins.0 (subst (λ (a : Bytes). may_answer mode l.command a ≡ true) begins.1 (passed_holds at.next (may_answer mode l.command answer) good is))))))

-- ---- so the lines are spread over the replies

-- the lines of what is open
abbrev open_lines : Mode → List WriteCommand → ℕ
open_lines Idle ls = 0
open_lines Reads ls = 0
open_lines Writes ls = length ls

open_less : (m : Mode) (ls : List WriteCommand) → open_lines m ls ≤ length ls
open_less Idle ls = omega arith
open_less Reads ls = omega arith
open_less Writes ls = omega arith

-- a line adds one at most
open_more : (w : Working) (c : Command) (text : Bytes) → open_lines (working_after w c text).mode (working_after w c text).lines ≤ open_lines w.mode w.lines + 1
open_more w c text = of w.mode w.begun w.lines c
  where
    of : (m : Mode) (b : Option ℕ) (ls : List WriteCommand) (c : Command) → open_lines (working_after (record { mode = m; begun = b; lines = ls }) c text).mode (working_after (record { mode = m; begun = b; lines = ls }) c text).lines ≤ open_lines m ls + 1
    of Idle b ls (command.Transaction transaction_line.Write) = omega arith
    of Reads b ls (command.Transaction transaction_line.Write) = omega arith
    of Writes b ls (command.Transaction transaction_line.Write) = omega arith
    of Writes b ls (command.Write line) = let more = length-append ls (line ∷ []) in omega (arith, more)
    of m b ls c = omega arith

-- at the line that tells a commit, they are its lines, and none is open behind it
commit_spread : (client : ℕ) (w : Working) (mode : Mode) (c : Command) (p : Printed) → w.mode ≡ mode → ((m : ℕ) → number_behind (codes "commit @") p.text ≡ Some m → TellsCommit mode c) → all_lines (commit_in client w p (number_behind (codes "commit @") p.text)) + open_lines (working_after w c p.text).mode (working_after w c p.text).lines ≤ open_lines w.mode w.lines + 1
commit_spread client w mode c p is only = of (number_behind (codes "commit @") p.text) only
  where
    ends : (m : Mode) (d : Command) → TellsCommit m d → mode ≡ m → c ≡ d → (n : ℕ) → all_lines (commit_in client w p (Some n)) + open_lines (working_after w c p.text).mode (working_after w c p.text).lines ≤ open_lines w.mode w.lines + 1
    ends _ _ at_commit mode_is c_is n =
        let size : all_lines (commit_in client w p (Some n)) ≡ length w.lines + 0 = sum_by-cons lines_of (record { line = p.line; client = client; number = n; begun = w.begun; lines = w.lines }) [] in
        let open_now : open_lines w.mode w.lines ≡ length w.lines = ap (λ (m : Mode). open_lines m w.lines) (is ∙ mode_is) in
        let after : (working_after w c p.text).mode ≡ Idle = working_mode w c p.text ∙ ap (mode_after w.mode) c_is ∙ ap (λ (m : Mode). mode_after m (command.Transaction transaction_line.Commit)) (is ∙ mode_is) in
        let none : open_lines (working_after w c p.text).mode (working_after w c p.text).lines ≡ 0 = ap (λ (m : Mode). open_lines m (working_after w c p.text).lines) after in
        omega (arith, size, open_now, none)

    of : (o : Option ℕ) → ((m : ℕ) → o ≡ Some m → TellsCommit mode c) → all_lines (commit_in client w p o) + open_lines (working_after w c p.text).mode (working_after w c p.text).lines ≤ open_lines w.mode w.lines + 1
    of None only' = let more = open_more w c p.text in omega (arith, more)
    of (Some n) only' = ends mode c (only' n refl) refl refl n

abbrev Spread : ℕ → Working → List Line → List Printed × Place → Type 0
Spread client w ls t = all_lines (commits_of client w ls t.0) ≤ open_lines w.mode w.lines + length t.0

replies_spread : (client : ℕ) (w : Working) (mode : Mode) (ls : List Line) (at : Place) → w.mode ≡ mode → IfOk (Spread client w ls) (take_replies mode ls at)
replies_spread client w mode [] at is = omega arith
replies_spread client w mode (l ∷ ls) at is =
    ok_then (OnlyCommit mode l.command) (Spread client w (l ∷ ls)) (take_reply mode l at) _ (reply_commits mode l at)
    (λ first only. ok_then (Spread client (working_after w l.command first.0.text) ls) (Spread client w (l ∷ ls)) (take_replies (mode_after mode l.command) ls first.1) _ (replies_spread client (working_after w l.command first.0.text) (mode_after mode l.command) ls first.1 (working_mode w l.command first.0.text ∙ ap (λ (m : Mode). mode_after m l.command) is))
    (λ others le. let one = commit_spread client w mode l.command first.0 is only in
    let both = all_lines-append (commit_in client w first.0 (number_behind (codes "commit @") first.0.text)) (commits_of client (working_after w l.command first.0.text) ls others.0) in
    omega (arith, le, one, both)))

client_spread : (client k : ℕ) (word : Bytes) (ls : List Line) (at : Place) → IfOk (Spread client no_work ls) (take_client k word ls at)
client_spread client k word ls at = after_any (Spread client no_work ls) (take_line at) _ (λ line. after_any (Spread client no_work ls) (passed at.next (is_heading k word line.0)) _ (λ headed. replies_spread client no_work Idle ls line.1 refl))

abbrev AllSpread : ℕ → List (List Line) → List (List Printed) × Place → Type 0
AllSpread k ss t = all_lines (all_commits k ss t.0) ≤ counted t.0

clients_spread : (k : ℕ) (ws : List Bytes) (ss : List (List Line)) (at : Place) → IfOk (AllSpread k ss) (take_clients k ws ss at)
clients_spread k [] [] at = omega arith
clients_spread k [] (s ∷ ss) at = omega arith
clients_spread k (w ∷ ws) [] at = omega arith
clients_spread k (w ∷ ws) (s ∷ ss) at =
    ok_then (Spread k no_work s) (AllSpread k (s ∷ ss)) (take_client k w s at) _ (client_spread k k w s at)
    (λ first le. ok_then (AllSpread (k + 1) ss) (AllSpread k (s ∷ ss)) (take_clients (k + 1) ws ss first.1) _ (clients_spread (k + 1) ws ss first.1)
    (λ others le'. let both = all_lines-append (commits_of k no_work s first.0) (all_commits (k + 1) ss others.0) in omega (arith, le, le', both)))

pub shape_spread : (names : List Bytes) (scripts : List (List Line)) (out : Bytes) → IfOk (λ pss. all_lines (all_commits 1 scripts pss) ≤ counted pss) (shape names scripts out)
shape_spread names scripts out =
    let start : Place = record { next = 1; lines = text_lines out } in
    ok_then (AllSpread 1 scripts) (λ pss. all_lines (all_commits 1 scripts pss) ≤ counted pss) (take_clients 1 names scripts start) _ (clients_spread 1 names scripts start)
    (λ found le. after_any (λ pss. all_lines (all_commits 1 scripts pss) ≤ counted pss) (at_end found.1) _ (λ ended. le))
