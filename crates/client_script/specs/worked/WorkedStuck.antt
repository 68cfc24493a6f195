-- Worked checks of stuck output: clients that wait in vain, and near ones that don't.
use Rattle.std.specs.Prelude.{◌≡◌, ◌≢◌, ◌≤◌, ◌++◌, ℕ, zero, suc, List, [], ◌∷◌, Option, Some, None, Ok, Err, codes, refl}
use Rattle.std.proofs.Common.{arith, ap, subst, sym, ◌∙◌, lit≤, inl}
use Rattle.mdb_datum.specs.Bytes.{Bytes}
use Rattle.mdb_datum.specs.Doc.{text}
use Rattle.mdb_schema.proofs.Membership.{Contains-nil}
use Rattle.mdb_schema.specs.Guarded.{IsGuarded}
use Rattle.mdb_schema.specs.History.{History}
use Rattle.mdb_schema.specs.Query.{Query}
use Rattle.mdb_schema.specs.Write.{put}
use Rattle.mdb_schema.specs.declared.answer.Answer.TheVariants.{Many}
use Rattle.mdb_schema.specs.declared.ask.Ask.TheVariants.{Get}
use Rattle.mdb_schema.specs.worked.Apart.{apart, asked_code}
use Rattle.mdb_schema.specs.worked.Sample.{only_name, query, sample}
use Rattle.client_script.specs.Client.{Client, Judged, Transaction, Watch, at_start, closed, reading, writing}
use Rattle.client_script.specs.Reply.{Reply, answered, ended, output_text, read_at, sized}
use Rattle.client_script.specs.Session.{Runs}
use Rattle.client_script.specs.Stuck.{AreUnmoved, HaltedSession, IsHalted, Stop, Stuck, WaitsInVain, first_stop, stuck_text}
use Rattle.client_script.specs.Turn.{name_turn, outcome}
use Rattle.client_script.specs.Watching.{awaited_by}
use Rattle.client_script.specs.declared.command.Command.{Command}
use Rattle.client_script.specs.declared.command.Command.TheVariants as command
use Rattle.client_script.specs.declared.command.NameCommand.TheVariants as name_line
use Rattle.client_script.specs.declared.command.TransactionCommand.TheVariants as transaction_line
use Rattle.client_script.specs.declared.command.WatchesCommand.{WatchesCommand}
use Rattle.client_script.specs.declared.command.WatchesCommand.TheVariants as watches_line
use Rattle.client_script.specs.declared.command.WriteCommand.TheVariants as write_line
use Rattle.client_script.specs.declared.line.Line.{Line}

-- ---- a client that waits for a note of a name, line by line

abbrev note : Bytes → Query
note name = query Get (codes "notes") (codes "id") (text name ∷ [])

abbrev first_lines : Bytes → List Line
first_lines name =
    record { number = 1; command = command.Transaction transaction_line.Read }
    ∷ record { number = 2; command = command.Name (name_line.Watch (codes "w") (note name)) }
    ∷ record { number = 3; command = command.Transaction transaction_line.End }
    ∷ record { number = 4; command = command.Watches (watches_line.Add (codes "s") (codes "w")) }
    ∷ []

abbrev wait_line : Line
wait_line = record { number = 5; command = command.Watches (watches_line.Wait (codes "s")) }

-- the note of another name, which is put once the wait is over
abbrev put_lines : Bytes → List Line
put_lines name =
    record { number = 6; command = command.Transaction transaction_line.Write }
    ∷ record { number = 7; command = command.Write (write_line.Insert (codes "notes") (only_name name)) }
    ∷ record { number = 8; command = command.Transaction transaction_line.Commit }
    ∷ []

-- it waits for the one note, and then puts the other
abbrev script : Bytes → Bytes → List Line
script awaited own = first_lines awaited ++ wait_line ∷ put_lines own

-- what it is told of its first lines where nothing is stored
abbrev told : List Reply
told = read_at 0 ∷ answered (Many []) ∷ ended ∷ sized 1 ∷ []

abbrev watch_of : Bytes → Watch
watch_of name = record { name = codes "w"; query = note name; number = 0 }

-- what it then knows
abbrev waiting : Bytes → Client
waiting name = record at_start {
  watching = record {
    watches = watch_of name ∷ [];
    sets = record {
      name = codes "s";
      members = watch_of name ∷ [];
      added = watch_of name ∷ [];
    } ∷ [];
  };
}

-- ---- two clients, each of which waits for the note that the other is to put

abbrev names : List Bytes
names = codes "one" ∷ codes "two" ∷ []

abbrev scripts : List (List Line)
scripts = script (codes "b") (codes "a") ∷ script (codes "a") (codes "b") ∷ []

abbrev both_told : List (List Reply)
both_told = told ∷ told ∷ []

-- what a client knows between the lines
abbrev reading_none : Client
reading_none = record at_start { transaction = reading 0 }

abbrev watching : Bytes → Transaction → Client
watching name t = record at_start {
  transaction = t;
  watching = record { watches = watch_of name ∷ []; sets = [] };
}

-- the watch's question finds nothing where nothing is stored
abbrev FindsNone : Bytes → Type 0
FindsNone name =
    outcome reading_none (name_turn sample [] reading_none (name_line.Watch (codes "w") (note name)))
    ≡ (answered (Many []), watching name (reading 0))

told_so : (client : ℕ) (name : Bytes) → FindsNone name → Runs sample [] client at_start (first_lines name) told (waiting name)
told_so client name finds = (
  reading_none,
  record { now = 0; not_older = lit≤ tt; there = lit≤ tt; says = refl; entry = tt },
  (
    watching name (reading 0),
    record { now = 0; not_older = lit≤ tt; there = lit≤ tt; says = finds; entry = tt },
    (
      watching name closed,
      record { now = 0; not_older = lit≤ tt; there = lit≤ tt; says = refl; entry = tt },
      (
        waiting name,
        record {
          now = 0;
          not_older = lit≤ tt;
          there = lit≤ tt;
          says = inl (record { new = λ among. Contains-nil among.like among.there; reply = refl; kept = refl });
          entry = tt;
        },
        refl,
      ),
    ),
  ),
)

-- with no commit, no answer has changed
unmoved_of_none : (q : Query) → IsGuarded sample [] q 0 0
unmoved_of_none q zero low high = refl
unmoved_of_none q (suc j) low high = absurd (none high)
  where
    none : suc j ≤ 0 → ⊥
    none le = omega arith

halted : (client : ℕ) (awaited own : Bytes) → FindsNone awaited → HaltedSession sample [] client (script awaited own) told
halted client awaited own finds = record {
  first = first_lines awaited;
  left = wait_line ∷ put_lines own;
  parts = refl;
  end = waiting awaited;
  runs = told_so client awaited finds;
  halted = record {
    wait = watches_line.Wait (codes "s");
    line = refl;
    awaited = watch_of awaited ∷ [];
    judged = refl;
    unmoved = (unmoved_of_none (note awaited), tt);
  };
}

pub two_that_wait_for_each_other_are_stuck : Stuck sample names scripts (output_text 1 names scripts both_told ++ stuck_text (record { client = 1; line = 5 }))
two_that_wait_for_each_other_are_stuck = record {
  replies = both_told;
  named = refl;
  stop = record { client = 1; line = 5 };
  stopped = refl;
  written = refl;
  history = [];
  numbers = record { moves = []; below = tt; is = refl };
  sessions = (halted 1 (codes "b") (codes "a") refl, (halted 2 (codes "a") (codes "b") refl, tt));
}

-- a client that is alone waits in vain
pub one_that_waits_alone_is_stuck : Stuck sample (codes "one" ∷ []) (script (codes "b") (codes "a") ∷ []) (output_text 1 (codes "one" ∷ []) (script (codes "b") (codes "a") ∷ []) (told ∷ []) ++ stuck_text (record { client = 1; line = 5 }))
one_that_waits_alone_is_stuck = record {
  replies = told ∷ [];
  named = refl;
  stop = record { client = 1; line = 5 };
  stopped = refl;
  written = refl;
  history = [];
  numbers = record { moves = []; below = tt; is = refl };
  sessions = (halted 1 (codes "b") (codes "a") refl, tt);
}

-- ---- the last line names the first client that has a line left

abbrev stop_code : Option Stop → Bytes
stop_code None = []
stop_code (Some stop) = stop.client ∷ stop.line ∷ []

pub the_last_client_is_not_named : first_stop 1 scripts both_told ≢ Some (record { client = 2; line = 5 })
the_last_client_is_not_named = apart stop_code tt refl

-- a client that has no line left is passed over
pub ended_client_is_passed_over : first_stop 1 (first_lines (codes "b") ∷ script (codes "a") (codes "b") ∷ []) both_told ≡ Some (record { client = 2; line = 5 })
ended_client_is_passed_over = refl

-- ---- clients that don't wait in vain

abbrev wait_in : Command → WatchesCommand
wait_in (command.Watches w) = w
wait_in c = watches_line.Check []

abbrev awaited_in : Judged (List Watch) → List Watch
awaited_in (Ok ws) = ws
awaited_in (Err rule) = []

-- what a line in vain waits for is known by its command
known : (H : History) (v : Client) (wait : WatchesCommand) (number : ℕ) (ws : List Watch) → awaited_by wait v ≡ Ok ws → WaitsInVain sample H v (record { number = number; command = command.Watches wait }) → AreUnmoved sample H ws
known H v wait number ws judged w =
    subst (λ (l : List Watch). AreUnmoved sample H l) (sym (ap awaited_in (sym judged ∙ (ap (λ (c : Command). awaited_by (wait_in c) v) w.line ∙ w.judged)))) w.unmoved

abbrev put_b : History
put_b = record { caller = 2; writes = put (codes "notes") (only_name (codes "b")) ∷ [] } ∷ []

-- a commit has put what the client waits for
pub changed_answer_is_not_awaited_in_vain : WaitsInVain sample put_b (waiting (codes "b")) wait_line → ⊥
changed_answer_is_not_awaited_in_vain w =
    apart asked_code tt refl ((known put_b (waiting (codes "b")) (watches_line.Wait (codes "s")) 5 (watch_of (codes "b") ∷ []) refl w).0 1 (lit≤ tt) (lit≤ tt))

-- a commit of something else leaves it waiting in vain
pub other_answer_is_awaited_in_vain : WaitsInVain sample put_b (waiting (codes "a")) wait_line
other_answer_is_awaited_in_vain = record {
  wait = watches_line.Wait (codes "s");
  line = refl;
  awaited = watch_of (codes "a") ∷ [];
  judged = refl;
  unmoved = (same, tt);
}
  where
    same : IsGuarded sample put_b (note (codes "a")) 0 1
    same zero low high = refl
    same (suc zero) low high = refl
    same (suc (suc j)) low high = absurd (none high)
      where
        none : suc (suc j) ≤ 1 → ⊥
        none le = omega arith

abbrev is_of_watches : Command → Bytes
is_of_watches (command.Watches w) = 1 ∷ []
is_of_watches c = 0 ∷ []

-- a client whose next line is no wait may go on, as one that begins to write once another has ended
pub writer_does_not_wait : (H : History) (v : Client) → IsHalted sample H v (put_lines (codes "a")) → ⊥
writer_does_not_wait H v w = apart is_of_watches tt refl w.line

abbrev judged_code : Judged (List Watch) → Bytes
judged_code (Ok ws) = 1 ∷ []
judged_code (Err rule) = 0 ∷ []

-- a wait within a write transaction is refused, so the client may go on
abbrev writer : Client
writer = record (waiting (codes "b")) { transaction = writing (record { number = 0; writes = []; texts = [] }) }

pub refused_wait_is_not_in_vain : (H : History) → WaitsInVain sample H writer wait_line → ⊥
refused_wait_is_not_in_vain H w =
    apart judged_code tt refl (ap (λ (c : Command). awaited_by (wait_in c) writer) w.line ∙ w.judged)
