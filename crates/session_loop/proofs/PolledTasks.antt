-- What is known of a session, and of what was noted, behind a poll.
use Rattle.std.proofs.Common.{arith, ◌≡◌, refl, ap, sym, ◌∙◌, subst, inl, inr, ℕ, List, ◌∷◌, [], ◌++◌, length, map, Option, Some, Ok, slice_get}
use Rattle.std.proofs.lemmas.List.{append_assoc, length-append, length-map}
use Rattle.std.specs.Prelude.{unwrap_or}
use Rattle.client_script.specs.Client.{Watch}
use Rattle.client_script.specs.Legal.{number_printed, printed}
use Rattle.client_script.specs.Reply.{Reply}
use Rattle.client_script.specs.declared.command.Command.{Command}
use Rattle.client_script.specs.declared.command.Command.TheVariants as command
use Rattle.client_script.specs.declared.command.TransactionCommand.TheVariants as transaction_line
use Rattle.client_session.specs.Answered.{commit_at}
use Rattle.client_session.specs.Progress.{Progress}
use Rattle.client_session.specs.Steps.{AnswersStep, IsBlocked}
use Rattle.client_session.specs.Waiting.{AreWatchesOf}
use Rattle.client_session.specs.declared.stepped.Stepped.{Stepped}
use Rattle.client_session.specs.declared.stepped.Stepped.TheVariants as stepped
use Rattle.mdb_schema.specs.History.{Commit, History}
use Rattle.mem_txn.specs.Database.{Caller, Database, IsOf}
use Rattle.mem_txn.specs.Held.{HeldWatch}
use Rattle.session_loop.specs.Polls.{AnswersPoll, GoesOn, HasTold, StepsAgain}
use Rattle.session_loop.specs.declared.polled.Polled.{Polled}
use Rattle.session_loop.specs.declared.polled.Polled.TheVariants as polled
use Rattle.session_loop.specs.declared.task.State.{State}
use Rattle.session_loop.specs.inner.Tasks.{IsInLoop, IsUnspent, StandsAt, state_after}
use Rattle.watch_future.specs.Cells.{AreOfBook, cells_of}
use Rattle.watch_set.specs.Checks.{with_until}
use Rattle.watch_set.specs.Members.{watches_of}
use Rattle.watch_word.specs.Logs.{Cell}

-- ---- a blocked step makes no commit

-- what it leaves of the pass
record Leaves (old new : Caller) : Type 0 where
  own : new.own ≡ old.own
  book : new.book ≡ old.book

leaves : (callers : ℕ) (old new : Progress) (c : Command) → IsBlocked callers old new c → Leaves old.caller new.caller
leaves callers old new (command.Transaction transaction_line.Write) (n, some, other, few, is) =
    record { own = ap (λ (p : Caller). p.own) is; book = ap (λ (p : Caller). p.book) is }
leaves callers old new (command.Transaction transaction_line.Read) none = absurd none
leaves callers old new (command.Transaction transaction_line.End) none = absurd none
leaves callers old new (command.Transaction transaction_line.Commit) none = absurd none
leaves callers old new (command.Transaction transaction_line.Abort) none = absurd none
leaves callers old new (command.Watches w) waits = let later = waits.later in record { own = waits.own; book = later.book }
leaves callers old new (command.Write x) none = absurd none
leaves callers old new (command.Defer x) none = absurd none
leaves callers old new (command.Ask x) none = absurd none
leaves callers old new (command.Name x) none = absurd none
leaves callers old new (command.Size x) none = absurd none

-- ---- each commit that is made is told

printed_both : (rs ss : List Reply) → printed (rs ++ ss) ≡ printed rs ++ printed ss
printed_both [] ss = refl
printed_both (r ∷ rs) ss = ap (λ (ms : List ℕ). number_printed r ++ ms) (printed_both rs ss) ∙ sym (append_assoc (number_printed r) (printed rs) (printed ss))

as_many_made : (H : History) (ms : List ℕ) (made : List Commit) → map (commit_at H) ms ≡ map Some made → length ms ≡ length made
as_many_made H ms made e = sym (length-map ms (commit_at H)) ∙ ap length e ∙ length-map made Some

step_counts : (callers : ℕ) (old new : Progress) (told : Stepped) → AnswersStep callers old new (Ok told) → old.commits ≡ length old.caller.own → new.commits ≡ length new.caller.own
step_counts callers old new (stepped.Answered line) (l, next, more, answered, once) counted =
    let t = answered.tells in
    let before = t.told_before in
    let behind = t.told in
    let old_count = before.counted in
    let new_count = behind.counted in
    let split = ap length (printed_both t.before t.replies) in
    let both = length-append (printed t.before) (printed t.replies) in
    let many = as_many_made new.caller.seen (printed t.replies) answered.made answered.told in
    let own = ap length answered.own in
    let long = length-append old.caller.own answered.made in
    omega (arith, old_count, new_count, split, both, many, own, long, counted)
step_counts callers old new (stepped.Blocked line) (l, next, blocked, same) counted =
    let left = leaves callers old new l.command blocked in
    ap (λ (s : Progress). s.commits) same ∙ counted ∙ sym (ap length left.own)
step_counts callers old new stepped.Ended (all, same) counted =
    ap (λ (s : Progress). s.commits) same ∙ counted ∙ sym (ap (λ (s : Progress). length s.caller.own) same)

-- ---- what was noted is of the database's cells

pub cells_book : (db : Database) (p : Caller) (ws : List Watch) (hs : List HeldWatch) → p.book ≡ db.book → AreWatchesOf p ws hs → AreOfBook db.book (cells_of hs)
cells_book db p [] [] is are = tt
cells_book db p [] (h ∷ hs) is are = absurd are
cells_book db p (w ∷ ws) [] is are = absurd are
cells_book db p (w ∷ ws) (h ∷ hs) is are = let held = are.0.held in (held.book ∙ is, cells_book db p ws hs is are.1)

none_noted : (db : Database) (noted : List Cell) → Some noted ≡ Some [] → AreOfBook db.book noted
none_noted db noted is = subst (AreOfBook db.book) (sym (ap (λ (o : Option (List Cell)). unwrap_or o []) is)) tt

module _ (db : Database) (old new : Progress) (own : IsOf db old.caller) where
  all_noted : (noted : List Cell) (line : ℕ) (told : Stepped) → StepsAgain db.callers old new line (Some []) (Some noted) told → AreOfBook db.book noted
  all_noted noted line told s =
      let notes = s.notes in
      let waits = notes.waits in
      let hs = with_until (watches_of notes.members) notes.until in
      let is : noted ≡ cells_of hs = ap (λ (o : Option (List Cell)). unwrap_or o []) notes.noted in
      let first = s.blocked in
      let left = leaves db.callers old s.mid first.0.command first.2 in
      let book : s.mid.caller.book ≡ db.book = left.book ∙ own.2 in
      subst (AreOfBook db.book) (sym is) (cells_book db s.mid.caller waits.awaited hs book waits.watches)

  noted_book : (noted : List Cell) (told : Polled) → AnswersPoll db.callers old new (Some []) (Some noted) (Ok told) → AreOfBook db.book noted
  noted_book noted (polled.Answered line) (inl (none, step)) = none_noted db noted none
  noted_book noted (polled.Answered line) (inr s) = all_noted noted line (stepped.Answered line) s
  noted_book noted (polled.Parked line) s = all_noted noted line (stepped.Blocked line) s
  noted_book noted (polled.Held line) (none, step, waits) = none_noted db noted none
  noted_book noted polled.Ended (none, step) = none_noted db noted none

-- ---- a poll

module _ (callers : ℕ) (old new : Progress) (before after : Option (List Cell)) where
  again_counts : (line : ℕ) (told : Stepped) → StepsAgain callers old new line before after told → old.commits ≡ length old.caller.own → new.commits ≡ length new.caller.own
  again_counts line told s counted = step_counts callers s.mid new told s.again (step_counts callers old s.mid (stepped.Blocked line) s.blocked counted)

  poll_counts : (told : Polled) → AnswersPoll callers old new before after (Ok told) → old.commits ≡ length old.caller.own → new.commits ≡ length new.caller.own
  poll_counts (polled.Answered line) (inl (none, step)) counted = step_counts callers old new (stepped.Answered line) step counted
  poll_counts (polled.Answered line) (inr s) counted = again_counts line (stepped.Answered line) s counted
  poll_counts (polled.Parked line) s counted = again_counts line (stepped.Blocked line) s counted
  poll_counts (polled.Held line) (none, step, waits) counted = step_counts callers old new (stepped.Blocked line) step counted
  poll_counts polled.Ended (none, step) counted = step_counts callers old new stepped.Ended step counted

  poll_stands : (told : Polled) → AnswersPoll callers old new before after (Ok told) → HasTold new → StandsAt new (state_after told)
  poll_stands (polled.Answered line) p told = tt
  poll_stands (polled.Parked line) s told =
      let (l, next, blocked, same) = s.again in
      (l, ap (λ (x : Progress). slice_get x.script x.answered) same ∙ next.0, next.1)
  poll_stands (polled.Held line) p told = tt
  poll_stands polled.Ended (none, step) told = record {
    all = ap (λ (x : Progress). x.answered) step.1 ∙ step.0 ∙ sym (ap (λ (x : Progress). length x.script) step.1);
    told = told;
  }

-- the session and its task are as they have to be
pub polled_in_loop : (db : Database) (old new : Progress) (noted : List Cell) (told : Polled) (after : State) → IsUnspent db old → GoesOn old new → HasTold new → AnswersPoll db.callers old new (Some []) (Some noted) (Ok told) → after ≡ state_after told
    → IsInLoop db new (record { state = after; notes = noted })
polled_in_loop db old new noted told after unspent on has p is =
    let own = unspent.own in
    let running = unspent.running in
    let later = on.later in
    record {
      unspent = record {
        own = (later.database ∙ own.0, later.schema ∙ own.1, later.book ∙ own.2);
        running = record { same = refl; found = has.found; counted = poll_counts db.callers old new (Some []) (Some noted) told p running.counted };
      };
      stands = subst (StandsAt new) (sym is) (poll_stands db.callers old new (Some []) (Some noted) told p has);
      noted = noted_book db old new own noted told p;
    }
