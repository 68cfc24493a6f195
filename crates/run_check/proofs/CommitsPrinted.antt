-- Commits, as replies print them one after the other.
use Rattle.std.proofs.Common.{arith, ◌≡◌, refl, ap, subst, sym, ◌∙◌, ℕ, zero, suc, ◌+◌, ◌-◌, ◌<◌, ◌≤◌, List, [], ◌∷◌, ◌++◌, length, take, drop, map, get_or, Bool, true, false, Option, Some, None, append_assoc, append-nil, get_or-drop, length-drop}
use Rattle.std.specs.Prelude.{codes, slice_get, unwrap_or}
use Rattle.std.proofs.Math.Seq.{take-suc}
use Rattle.std.proofs.Math.ListN.{drop_of_length-le}
use Rattle.std.proofs.lemmas.Option.{get_or_from_slice_get, slice_get_within}
use Rattle.std.specs.declared.alloc.Global.{Global}
use Rattle.std.specs.declared.vec.Vec.{Vec}
use Rattle.mdb_datum.specs.Bytes.{Bytes}
use Rattle.mdb_datum.proofs.ListPlaces.{drop_at}
use Rattle.client_script.specs.declared.command.Command.{Command}
use Rattle.client_script.specs.declared.command.Command.TheVariants as command
use Rattle.client_script.specs.declared.command.TransactionCommand.TheVariants as transaction_line
use Rattle.client_script.specs.declared.command.WriteCommand.{WriteCommand}
use Rattle.client_script.specs.declared.line.Line.{Line}
use Rattle.run_check.specs.Commits.{Committed, Working, all_commits, commits_of, no_work, working_after}
use Rattle.run_check.specs.Mode.{mode_after}
use Rattle.run_check.specs.Shape as plain
use Rattle.run_check.specs.TextLines.{number_behind}
use Rattle.run_check.specs.declared.commits.Committed as commits
use Rattle.run_check.specs.declared.commits.Working as work
use Rattle.run_check.specs.declared.mode.Mode.{Mode}
use Rattle.run_check.specs.declared.mode.Mode.TheVariants.{Idle, Reads, Writes}
use Rattle.run_check.specs.declared.shape.Printed.{Printed}
use Rattle.run_check.specs.CommitView.{committed_of, printed_commit, script_at, work_after, working_of, write_of, writes_between, writes_of}
use Rattle.run_check.specs.Reads.{lists_of}
use Rattle.run_check.specs.Views.{printed_of}

-- nothing stands past the end
pub length_none : {A : Type 0} (xs : List A) (at : ℕ) → slice_get xs at ≡ None → length xs ≤ at
length_none [] at none = omega arith
length_none (x ∷ xs) zero none = cc
length_none (x ∷ xs) (suc at) none = let rest = length_none xs at none in omega (arith, rest)

-- ---- the lines of a transaction

writes_joined : (xs ys : List Line) → writes_of (xs ++ ys) ≡ writes_of xs ++ writes_of ys
writes_joined [] ys = refl
writes_joined (l ∷ xs) ys =
    ap (λ (ws : List WriteCommand). write_of l.command ++ ws) (writes_joined xs ys)
    ∙ sym (append_assoc (write_of l.command) (writes_of xs) (writes_of ys))

-- none stands between a place and itself
pub no_writes : (at : ℕ) (script : List Line) → writes_between at at script ≡ []
no_writes at script = let none : at - at ≡ 0 = omega arith in ap (λ (n : ℕ). writes_of (take n (drop at script))) none

pub one_more_write : (first at : ℕ) (script : List Line) (l : Line) → slice_get script at ≡ Some l → first ≤ at → writes_between first (at + 1) script ≡ writes_between first at script ++ write_of l.command
one_more_write first at script l there le =
    let within : at < length script = slice_get_within script at l there in
    let rest : List Line = drop first script in
    let long : length rest ≡ length script - first = length-drop first script in
    let count : at + 1 - first ≡ suc (at - first) = omega (arith, le) in
    let place : first + (at - first) ≡ at = omega (arith, le) in
    let inside : at - first < length rest = omega (arith, long, within, le) in
    let line : get_or rest (at - first) l ≡ l =
    get_or-drop first script (at - first) l ∙ ap (λ (n : ℕ). get_or script n l) place ∙ get_or_from_slice_get script at l l there in
    ap (λ (n : ℕ). writes_of (take n rest)) count
    ∙ ap writes_of (take-suc rest (at - first) l inside ∙ ap (λ (x : Line). take (at - first) rest ++ x ∷ []) line)
    ∙ writes_joined (take (at - first) rest) (l ∷ [])
    ∙ ap (λ (ws : List WriteCommand). writes_of (take (at - first) rest) ++ ws) (append-nil (write_of l.command))

-- ---- what is open

abbrev open_with : Mode → Option ℕ → List WriteCommand → Working
open_with mode begun lines = record { mode = mode; begun = begun; lines = lines }

abbrev is_transaction : Command → Bool
is_transaction (command.Transaction line) = true
is_transaction c = false

-- most lines leave the mode
mode_stays : (mode : Mode) (c : Command) → is_transaction c ≡ false → mode ≡ mode_after mode c
mode_stays Idle (command.Transaction line) other = cc
mode_stays Idle c other = refl
mode_stays Reads (command.Transaction line) other = cc
mode_stays Reads c other = refl
mode_stays Writes (command.Transaction line) other = cc
mode_stays Writes c other = refl

abbrev work_with : Mode → Option ℕ → ℕ → work.Working
work_with mode begun first = record { mode = mode; begun = begun; first = first }

work_is : (c : Command) (mode : Mode) (begun : Option ℕ) (first at : ℕ) (script : List Line) (text : Bytes) → writes_between first (at + 1) script ≡ writes_between first at script ++ write_of c → working_of script (at + 1) (work_after (work_with mode begun first) (at + 1) c text) ≡ working_after (open_with mode begun (writes_between first at script)) c text
work_is (command.Transaction transaction_line.Write) Idle begun first at script text is =
    ap (open_with Writes (number_behind (codes "write @") text)) (no_writes (at + 1) script)
work_is (command.Transaction transaction_line.Write) Reads begun first at script text is =
    ap (open_with Reads begun) (is ∙ append-nil (writes_between first at script))
work_is (command.Transaction transaction_line.Write) Writes begun first at script text is =
    ap (open_with Writes begun) (is ∙ append-nil (writes_between first at script))
work_is (command.Transaction line) mode begun first at script text is =
    ap (open_with (mode_after mode (command.Transaction line)) begun) (is ∙ append-nil (writes_between first at script))
work_is (command.Write line) mode begun first at script text is = ap (open_with mode begun) is
work_is c mode begun first at script text is =
    ap (open_with mode begun) (is ∙ append-nil (writes_between first at script))
    ∙ ap (λ (m : Mode). open_with m begun (writes_between first at script)) (mode_stays mode c refl)

first_within : (c : Command) (mode : Mode) (begun : Option ℕ) (first at : ℕ) (text : Bytes) → first ≤ at → (work_after (work_with mode begun first) (at + 1) c text).first ≤ at + 1
first_within (command.Transaction transaction_line.Write) Idle begun first at text le = omega arith
first_within (command.Transaction transaction_line.Write) mode begun first at text le = omega (arith, le)
first_within (command.Transaction line) mode begun first at text le = omega (arith, le)
first_within c mode begun first at text le = omega (arith, le)

-- ---- the commits of a client

no_replies : (client : ℕ) (w : Working) (ls : List Line) → commits_of client w ls [] ≡ []
no_replies client w [] = refl
no_replies client w (l ∷ ls) = refl

-- behind so many lines
pub record AreAdded (client : ℕ) (script : List Line) (replies : List Printed) (old : List commits.Committed) (k : ℕ) (working : work.Working) (now : List commits.Committed) : Type 0 where
  pub first : working.first ≤ k
  pub whole : (scripts : List (List Line)) → script_at scripts client ≡ script → map (committed_of scripts) old ++ commits_of (client + 1) no_work script (map printed_of replies) ≡ map (committed_of scripts) now ++ commits_of (client + 1) (working_of script k working) (drop k script) (map printed_of (drop k replies))

pub none_added_yet : (client : ℕ) (script : List Line) (replies : List Printed) (old : List commits.Committed) → AreAdded client script replies old 0 (work_with Idle None 0) old
none_added_yet client script replies old = record { first = omega arith; whole = λ scripts same. refl }

module _ (client : ℕ) (script : List Line) (replies : List Printed) (old : List commits.Committed) (k : ℕ) (working : work.Working) (now : List commits.Committed) (so_far : AreAdded client script replies old k working now) where
  abbrev left : List Line → List plain.Printed → List Committed
  left ls ps = commits_of (client + 1) (working_of script k working) ls ps

  pub one_more_added : (l : Line) (p : Printed) (next : work.Working) (more : List commits.Committed) → slice_get script k ≡ Some l → slice_get replies k ≡ Some p → next ≡ work_after working (k + 1) l.command p.text.now → ((scripts : List (List Line)) → map (committed_of scripts) more ≡ map (committed_of scripts) now ++ printed_commit (client + 1) (working_of (script_at scripts client) k working) (printed_of p)) → AreAdded client script replies old (k + 1) next more
  one_more_added l p next more line reply is_next is_more = record {
    first = subst (λ (w : work.Working). w.first ≤ k + 1) (sym is_next) (first_within l.command working.mode working.begun working.first k p.text.now so_far.first);
    whole = λ scripts same.
        let view : commits.Committed → Committed = committed_of scripts in
        let printed = printed_commit (client + 1) (working_of script k working) (printed_of p) in
        let rest : Working → List Committed = λ w. commits_of (client + 1) w (drop (k + 1) script) (map printed_of (drop (k + 1) replies)) in
        let step : map view more ≡ map view now ++ printed =
        is_more scripts ∙ ap (λ (s : List Line). map view now ++ printed_commit (client + 1) (working_of s k working) (printed_of p)) same in
        let opened : working_of script (k + 1) next ≡ working_after (working_of script k working) l.command p.text.now =
        ap (working_of script (k + 1)) is_next
        ∙ work_is l.command working.mode working.begun working.first k script p.text.now (one_more_write working.first k script l line so_far.first) in
        so_far.whole scripts same
        ∙ ap (λ (ls : List Line). map view now ++ left ls (map printed_of (drop k replies))) (drop_at script k l line)
        ∙ ap (λ (ps : List Printed). map view now ++ left (l ∷ drop (k + 1) script) (map printed_of ps)) (drop_at replies k p reply)
        ∙ sym (append_assoc (map view now) printed (rest (working_after (working_of script k working) l.command p.text.now)))
        ∙ ap (λ (cs : List Committed). cs ++ rest (working_after (working_of script k working) l.command p.text.now)) (sym step)
        ∙ ap (λ (w : Working). map view more ++ rest w) (sym opened);
  }

  pub no_more_replies : length replies ≤ k → (scripts : List (List Line)) → script_at scripts client ≡ script → map (committed_of scripts) now ≡ map (committed_of scripts) old ++ commits_of (client + 1) no_work script (map printed_of replies)
  no_more_replies le scripts same =
      let view : commits.Committed → Committed = committed_of scripts in
      sym (
      so_far.whole scripts same
      ∙ ap (λ (ps : List Printed). map view now ++ left (drop k script) (map printed_of ps)) (drop_of_length-le replies le)
      ∙ ap (λ (cs : List Committed). map view now ++ cs) (no_replies (client + 1) (working_of script k working) (drop k script))
      ∙ append-nil (map view now)
      )

  pub no_more_lines : length script ≤ k → (scripts : List (List Line)) → script_at scripts client ≡ script → map (committed_of scripts) now ≡ map (committed_of scripts) old ++ commits_of (client + 1) no_work script (map printed_of replies)
  no_more_lines le scripts same =
      let view : commits.Committed → Committed = committed_of scripts in
      sym (
      so_far.whole scripts same
      ∙ ap (λ (ls : List Line). map view now ++ left ls (map printed_of (drop k replies))) (drop_of_length-le script le)
      ∙ append-nil (map view now)
      )

-- ---- the commits of all clients

no_lists : (k : ℕ) (ss : List (List Line)) → all_commits k ss [] ≡ []
no_lists k [] = refl
no_lists k (s ∷ ss) = refl

-- behind so many clients
pub record AreAllAdded (scripts : List (List Line)) (clients : List (Vec Printed Global)) (k : ℕ) (now : List commits.Committed) : Type 0 where
  pub whole : all_commits 1 scripts (lists_of clients) ≡ map (committed_of scripts) now ++ all_commits (k + 1) (drop k scripts) (lists_of (drop k clients))

pub no_client_yet : (scripts : List (List Line)) (clients : List (Vec Printed Global)) → AreAllAdded scripts clients 0 []
no_client_yet scripts clients = record { whole = refl }

module _ (scripts : List (List Line)) (clients : List (Vec Printed Global)) (k : ℕ) (now : List commits.Committed) (so_far : AreAllAdded scripts clients k now) where
  abbrev view : List commits.Committed → List Committed
  view cs = map (committed_of scripts) cs

  pub one_client_more : (script : List Line) (replies : Vec Printed Global) (more : List commits.Committed) → slice_get scripts k ≡ Some script → slice_get clients k ≡ Some replies → ((others : List (List Line)) → script_at others k ≡ script → map (committed_of others) more ≡ map (committed_of others) now ++ commits_of (k + 1) no_work script (map printed_of replies.items)) → AreAllAdded scripts clients (k + 1) more
  one_client_more script replies more there told is_more =
      let same : script_at scripts k ≡ script = ap (λ (o : Option (List Line)). unwrap_or o []) there in
      let printed = commits_of (k + 1) no_work script (map printed_of replies.items) in
      let rest = all_commits (k + 1 + 1) (drop (k + 1) scripts) (lists_of (drop (k + 1) clients)) in
      record {
        whole =
            so_far.whole
            ∙ ap (λ (ss : List (List Line)). view now ++ all_commits (k + 1) ss (lists_of (drop k clients))) (drop_at scripts k script there)
            ∙ ap (λ (vs : List (Vec Printed Global)). view now ++ all_commits (k + 1) (script ∷ drop (k + 1) scripts) (lists_of vs)) (drop_at clients k replies told)
            ∙ sym (append_assoc (view now) printed rest)
            ∙ ap (λ (cs : List Committed). cs ++ rest) (sym (is_more scripts same));
      }

  pub no_more_scripts : length scripts ≤ k → view now ≡ all_commits 1 scripts (lists_of clients)
  no_more_scripts le =
      sym (
      so_far.whole
      ∙ ap (λ (ss : List (List Line)). view now ++ all_commits (k + 1) ss (lists_of (drop k clients))) (drop_of_length-le scripts le)
      ∙ append-nil (view now)
      )

  pub no_more_clients : length clients ≤ k → view now ≡ all_commits 1 scripts (lists_of clients)
  no_more_clients le =
      sym (
      so_far.whole
      ∙ ap (λ (vs : List (Vec Printed Global)). view now ++ all_commits (k + 1) (drop k scripts) (lists_of vs)) (drop_of_length-le clients le)
      ∙ ap (λ (cs : List Committed). view now ++ cs) (no_lists (k + 1) (drop k scripts))
      ∙ append-nil (view now)
      )
