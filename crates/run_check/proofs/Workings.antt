-- What a client's lines tell of its open transaction: what is open, on which commit it stands, and the
-- writes that its lines make.
use Rattle.std.proofs.Common.{◌≡◌, refl, ap, subst, sym, ◌∙◌, ℕ, ◌^◌, ◌<◌, List, [], ◌∷◌, ◌++◌, length, not, is_some, is_ok, Bool, true, Option, Some, Ok, Err, decimal, codes, append_assoc, append-nil}
use Rattle.std.specs.Bool.{⊤}
use Rattle.std.specs.Prelude.{if◌then◌else◌, nat_lt}
use Rattle.mdb_datum.specs.Bytes.{Bytes}
use Rattle.mdb_datum.specs.Row.{Fields}
use Rattle.mdb_schema.proofs.HistorySteps.{after_writes-append}
use Rattle.mdb_schema.specs.Answer.{Asked, ask}
use Rattle.mdb_schema.specs.History.{History, after_writes, state_at}
use Rattle.mdb_schema.specs.Query.{Query}
use Rattle.mdb_schema.specs.Schema.{DbSchema}
use Rattle.mdb_schema.specs.State.{State}
use Rattle.mdb_schema.specs.Tests.{◌>>=◌, passed}
use Rattle.mdb_schema.specs.Watchable.{is_watchable}
use Rattle.mdb_schema.specs.Wipe.{wipe, wipe_by_prefix}
use Rattle.mdb_schema.specs.Write.{Stepped, Write, put, remove, step}
use Rattle.client_script.specs.Client.{Client, Judged, Sight, Snapshot, Transaction, Watching, Writing, closed, reading, sight_of, snapshot_named, some_open, state_seen, watch_named, writing}
use Rattle.client_script.specs.Reply.{Reply, deleted, reply_text, wiped, write_at}
use Rattle.client_script.specs.Session.{IsAnswered}
use Rattle.client_script.specs.Spent.{IsSpent, IsWriteTold, by_turn, without_ids}
use Rattle.client_script.specs.Turn.{Turn, ask_turn, asked, asked_watched, commit_limit, defer_turn, indexes_of, insert_reply, name_turn, outcome, question_turn, set_called, size_turn, snapshot_called, step_turn, stepped, transaction_turn, watch_turn, wipe_turn, with_transaction, write_turn}
use Rattle.client_script.specs.declared.command.AskCommand.{AskCommand}
use Rattle.client_script.specs.declared.command.AskCommand.TheVariants as ask_line
use Rattle.client_script.specs.declared.command.Command.{Command}
use Rattle.client_script.specs.declared.command.Command.TheVariants as command
use Rattle.client_script.specs.declared.command.NameCommand.{NameCommand}
use Rattle.client_script.specs.declared.command.NameCommand.TheVariants as name_line
use Rattle.client_script.specs.declared.command.TransactionCommand.{TransactionCommand}
use Rattle.client_script.specs.declared.command.TransactionCommand.TheVariants as transaction_line
use Rattle.client_script.specs.declared.command.WatchesCommand.{WatchesCommand}
use Rattle.client_script.specs.declared.command.WriteCommand.{WriteCommand}
use Rattle.client_script.specs.declared.command.WriteCommand.TheVariants as write_line
use Rattle.client_script.proofs.WatchLines.{aside}
use Rattle.run_check.specs.Commits as commits
use Rattle.run_check.specs.Commits.{Working, accepted, accepted_line, accepted_step, followed, working_after}
use Rattle.run_check.specs.Mode.{mode_after}
use Rattle.run_check.specs.declared.mode.Mode.{Mode}
use Rattle.run_check.specs.declared.mode.Mode.TheVariants.{Idle, Reads, Writes}
use Rattle.run_check.specs.TextLines.{number_behind}
use Rattle.run_check.proofs.Outcomes.{IfOk, after_any}
use Rattle.run_check.proofs.ToldRules.{Agrees}
use Rattle.run_check.proofs.WrittenNumbers.{number_after}

-- ---- what is open

abbrev pub kind : Transaction → Mode
kind closed = Idle
kind (reading n) = Reads
kind (writing t) = Writes

pub kind_agrees : (t : Transaction) → Agrees (kind t) t
kind_agrees closed = tt
kind_agrees (reading n) = tt
kind_agrees (writing t) = tt

-- ---- the writes of lines, one after the other

pub accepted-more : (schema : DbSchema) (s : State) (ls : List WriteCommand) (line : WriteCommand) → accepted schema s (ls ++ line ∷ []) ≡ accepted schema s ls ++ accepted_line schema (after_writes schema s (accepted schema s ls)) line
accepted-more schema s [] line = append-nil (accepted_line schema s line)
accepted-more schema s (l ∷ ls) line =
    let first : List Write = accepted_line schema s l in
    let next : State = after_writes schema s first in
    ap (λ (ws : List Write). first ++ ws) (accepted-more schema next ls line)
    ∙ sym (append_assoc first (accepted schema next ls) (accepted_line schema (after_writes schema next (accepted schema next ls)) line))
    ∙ ap (λ (x : State). (first ++ accepted schema next ls) ++ accepted_line schema x line) (sym (after_writes-append schema s first (accepted schema next ls)))

module _ (schema : DbSchema) (H : History) where
  -- what was begun, and the lines since then, are those of the transaction
  abbrev pub WorksFor : Option ℕ → List WriteCommand → Transaction → Type 0
  WorksFor begun lines closed = ⊤
  WorksFor begun lines (reading n) = ⊤
  WorksFor begun lines (writing t) = (begun ≡ Some t.number) × (t.writes ≡ accepted schema (state_at schema H t.number) lines)

  pub record Works (w : Working) (v : Client) : Type 0 where
    pub mode : w.mode ≡ kind v.transaction
    pub lines : WorksFor w.begun w.lines v.transaction

  client : ℕ → Transaction → List Snapshot → Watching → Client
  client last t ss g = record { last = last; transaction = t; snapshots = ss; watching = g }

  work : Transaction → Option ℕ → List WriteCommand → Working
  work t b ls = record { mode = kind t; begun = b; lines = ls }

  begun_told : (now : ℕ) → now < 2 ^ 64 → number_behind (codes "write @") (codes "write @" ++ decimal now) ≡ Some now
  begun_told now small = ap (λ (x : Bytes). number_behind (codes "write @") (codes "write @" ++ x)) (sym (append-nil (decimal now))) ∙ number_after (codes "write @") [] now small tt

  module _ (last : ℕ) (ss : List Snapshot) (g : Watching) (b : Option ℕ) (ls : List WriteCommand) where
    -- ---- lines that begin and end transactions

    After : Transaction → Command → Reply × Client → Type 0
    After t c p = Works (working_after (work t b ls) c (reply_text p.0)) p.1

    transaction_works : (now : ℕ) (t : Transaction) (c : TransactionCommand) → nat_lt now commit_limit ≡ true → now < 2 ^ 64 → WorksFor b ls t → After t (command.Transaction c) (outcome (client last t ss g) (transaction_turn schema H now (client last t ss g) c))
    unfolding client work After
    transaction_works now closed transaction_line.Read few small works = record { mode = refl; lines = tt }
    transaction_works now (reading n) transaction_line.Read few small works = record { mode = refl; lines = tt }
    transaction_works now (writing t) transaction_line.Read few small works = record { mode = refl; lines = works }
    transaction_works now closed transaction_line.Write few small works =
        let v : Client = record { last = last; transaction = closed; snapshots = ss; watching = g } in
        subst (λ (x : Bool). Works (working_after (record { mode = Idle; begun = b; lines = ls }) (command.Transaction transaction_line.Write) (reply_text (outcome v (passed (codes "commits-spent") x >>= (λ u. Ok (write_at now, with_transaction now (writing (record { number = now; writes = []; texts = [] })) v)))).0)) (outcome v (passed (codes "commits-spent") x >>= (λ u. Ok (write_at now, with_transaction now (writing (record { number = now; writes = []; texts = [] })) v)))).1) (sym few)
        (record { mode = refl; lines = (begun_told now small, refl) })
    transaction_works now (reading n) transaction_line.Write few small works = record { mode = refl; lines = tt }
    transaction_works now (writing t) transaction_line.Write few small works = record { mode = refl; lines = works }
    transaction_works now closed transaction_line.End few small works = record { mode = refl; lines = tt }
    transaction_works now (reading n) transaction_line.End few small works = record { mode = refl; lines = tt }
    transaction_works now (writing t) transaction_line.End few small works = record { mode = refl; lines = works }
    transaction_works now closed transaction_line.Commit few small works = record { mode = refl; lines = tt }
    transaction_works now (reading n) transaction_line.Commit few small works = record { mode = refl; lines = tt }
    transaction_works now (writing t) transaction_line.Commit few small works = record { mode = refl; lines = tt }
    transaction_works now closed transaction_line.Abort few small works = record { mode = refl; lines = tt }
    transaction_works now (reading n) transaction_line.Abort few small works = record { mode = refl; lines = tt }
    transaction_works now (writing t) transaction_line.Abort few small works = record { mode = refl; lines = tt }

    -- ---- lines that write

    -- a transaction with more writes
    abbrev wrote : Writing → List Write → Transaction
    wrote t ws = writing (record { number = t.number; writes = t.writes ++ ws; texts = t.texts })

    same_writes : (t : Writing) → writing t ≡ wrote t []
    same_writes t = ap (λ (ws : List Write). writing (record { number = t.number; writes = ws; texts = t.texts })) (sym (append-nil t.writes))

    step_adds : (t : Writing) (w : Write) (table : Bytes) (reply : Option Fields → Reply) → (outcome (client last (writing t) ss g) (step_turn schema H (client last (writing t) ss g) w table reply)).1.transaction ≡ wrote t (accepted_step schema (state_seen schema H (sight_of t)) w)
    unfolding client
    step_adds t w table reply = of (step schema (state_seen schema H (sight_of t)) w)
      where
        v : Client
        v = record { last = last; transaction = writing t; snapshots = ss; watching = g }

        of : (s : Stepped) → (outcome (record { last = last; transaction = writing t; snapshots = ss; watching = g }) (stepped (indexes_of schema table) s >>= (λ was. Ok (reply was, record { last = last; transaction = wrote t (w ∷ []); snapshots = ss; watching = g })))).1.transaction ≡ wrote t (if is_ok s then w ∷ [] else [])
        of (Ok after) = refl
        of (Err r) = same_writes t

    wipe_adds : (t : Writing) (wiping : State → Asked (List Write)) → (outcome (client last (writing t) ss g) (wipe_turn wiping schema H (client last (writing t) ss g))).1.transaction ≡ wrote t (commits.wiped (wiping (state_seen schema H (sight_of t))))
    unfolding client
    wipe_adds t wiping = of (wiping (state_seen schema H (sight_of t)))
      where
        of : (a : Asked (List Write)) → (outcome (record { last = last; transaction = writing t; snapshots = ss; watching = g }) (asked a >>= (λ gone. Ok (wiped (length gone), record { last = last; transaction = wrote t gone; snapshots = ss; watching = g })))).1.transaction ≡ wrote t (commits.wiped a)
        of (Ok gone) = refl
        of (Err r) = same_writes t

    write_adds : (t : Writing) (line : WriteCommand) → (outcome (client last (writing t) ss g) (write_turn schema H (client last (writing t) ss g) line)).1.transaction ≡ wrote t (accepted_line schema (state_seen schema H (sight_of t)) line)
    write_adds t (write_line.Insert table row) = step_adds t (put table row) table insert_reply
    write_adds t (write_line.Delete table row) = step_adds t (remove table row) table (λ was. deleted)
    write_adds t (write_line.DeleteAll q) = wipe_adds t (λ s. wipe schema s q)
    write_adds t (write_line.DeletePrefix q) = wipe_adds t (λ s. wipe_by_prefix schema s q)

    line_works : (t : Writing) (line : WriteCommand) (u : Transaction) → WorksFor b ls (writing t) → u ≡ wrote t (accepted_line schema (state_seen schema H (sight_of t)) line) → (kind (writing t) ≡ kind u) × WorksFor b (ls ++ line ∷ []) u
    line_works t line u works is =
        let base : State = state_at schema H t.number in
        let lines : t.writes ++ accepted_line schema (state_seen schema H (sight_of t)) line ≡ accepted schema base (ls ++ line ∷ []) =
        ap (λ (ws : List Write). ws ++ accepted_line schema (after_writes schema base ws) line) works.1 ∙ sym (accepted-more schema base ls line) in
        (ap kind (sym is), subst (WorksFor b (ls ++ line ∷ [])) (sym is) (works.0, lines))

    write_works : (t : Transaction) (line : WriteCommand) → WorksFor b ls t → After t (command.Write line) (outcome (client last t ss g) (write_turn schema H (client last t ss g) line))
    unfolding client work After
    write_works closed (write_line.Insert table row) works = record { mode = refl; lines = tt }
    write_works closed (write_line.Delete table row) works = record { mode = refl; lines = tt }
    write_works closed (write_line.DeleteAll q) works = record { mode = refl; lines = tt }
    write_works closed (write_line.DeletePrefix q) works = record { mode = refl; lines = tt }
    write_works (reading n) (write_line.Insert table row) works = record { mode = refl; lines = tt }
    write_works (reading n) (write_line.Delete table row) works = record { mode = refl; lines = tt }
    write_works (reading n) (write_line.DeleteAll q) works = record { mode = refl; lines = tt }
    write_works (reading n) (write_line.DeletePrefix q) works = record { mode = refl; lines = tt }
    write_works (writing t) line works =
        let after = line_works t line (outcome (client last (writing t) ss g) (write_turn schema H (client last (writing t) ss g) line)).1.transaction works (write_adds t line) in
        record { mode = after.0; lines = after.1 }

    -- ---- lines that leave the transaction, or its writes

    defer_works : (t : Transaction) (text : Bytes) → WorksFor b ls t → After t (command.Defer text) (outcome (client last t ss g) (defer_turn (client last t ss g) text))
    unfolding client work After
    defer_works closed text works = record { mode = refl; lines = tt }
    defer_works (reading n) text works = record { mode = refl; lines = tt }
    defer_works (writing t) text works = record { mode = refl; lines = works }

    left_works : (t : Transaction) (c : Command) (r : Reply) (next : Client) → mode_after (kind t) c ≡ kind t → working_after (work t b ls) c (reply_text r) ≡ record { mode = mode_after (kind t) c; begun = b; lines = ls } → WorksFor b ls t → next.transaction ≡ t → After t c (r, next)
    unfolding work After
    left_works t c r next mode is works same =
        subst (λ (w : Working). Works w next) (sym is)
        (record { mode = mode ∙ sym (ap kind same); lines = subst (WorksFor b ls) (sym same) works })

-- ---- what questions leave

Leaves : Client → Reply × Client → Type 0
Leaves v p = p.1.transaction ≡ v.transaction

left_by : (v : Client) (t : Turn) (r : Reply) (next : Client) → IfOk (Leaves v) t → outcome v t ≡ (r, next) → next.transaction ≡ v.transaction
unfolding Leaves
left_by v (Ok p) r next left is = ap (λ (q : Reply × Client). q.1.transaction) (sym is) ∙ left
left_by v (Err rule) r next left is = ap (λ (q : Reply × Client). q.1.transaction) (sym is)

module _ (schema : DbSchema) (H : History) (v : Client) where
  question_leaves : (sight : Judged Sight) (q : Query) → IfOk (Leaves v) (question_turn schema H v sight q)
  unfolding Leaves
  question_leaves sight q = after_any (Leaves v) sight _ (λ s. after_any (Leaves v) (asked (ask schema (state_seen schema H s) q)) _ (λ a. refl))

  ask_leaves : (a : AskCommand) → IfOk (Leaves v) (ask_turn schema H v a)
  ask_leaves (ask_line.Question q) = question_leaves (some_open v.transaction) q
  ask_leaves (ask_line.InSnapshot name q) = question_leaves (snapshot_called name v) q

  watch_leaves : (sight : Judged Sight) (name : Bytes) (q : Query) → IfOk (Leaves v) (watch_turn schema H v sight name q)
  unfolding Leaves
  watch_leaves sight name q = after_any (Leaves v) sight _ (λ s. after_any (Leaves v) (passed (codes "name-taken") (not (is_some (watch_named name v.watching.watches)))) _ (λ u. after_any (Leaves v) (passed (codes "uncommitted") (not s.uncommitted)) _ (λ u'. after_any (Leaves v) (asked_watched (is_watchable q.ask) (ask schema (state_seen schema H s) q)) _ (λ a. refl))))

  name_leaves : (n : NameCommand) → IfOk (Leaves v) (name_turn schema H v n)
  unfolding Leaves
  name_leaves (name_line.Snapshot name) = after_any (Leaves v) (some_open v.transaction) _ (λ s. after_any (Leaves v) (passed (codes "name-taken") (not (is_some (snapshot_named name v.snapshots)))) _ (λ u. refl))
  name_leaves (name_line.Watch name q) = watch_leaves (some_open v.transaction) name q
  name_leaves (name_line.WatchIn name snapshot q) = watch_leaves (snapshot_called snapshot v) name q

  size_leaves : (set : Bytes) → IfOk (Leaves v) (size_turn v set)
  unfolding Leaves
  size_leaves set = after_any (Leaves v) (set_called set v) _ (λ s. refl)

-- the order of the lines says the same behind them
ask_mode : (t : Transaction) (a : AskCommand) → mode_after (kind t) (command.Ask a) ≡ kind t
ask_mode closed a = refl
ask_mode (reading n) a = refl
ask_mode (writing t) a = refl

name_mode : (t : Transaction) (n : NameCommand) → mode_after (kind t) (command.Name n) ≡ kind t
name_mode closed n = refl
name_mode (reading k) n = refl
name_mode (writing t) n = refl

size_mode : (t : Transaction) (set : Bytes) → mode_after (kind t) (command.Size set) ≡ kind t
size_mode closed set = refl
size_mode (reading n) set = refl
size_mode (writing t) set = refl

watches_mode : (t : Transaction) (w : WatchesCommand) → mode_after (kind t) (command.Watches w) ≡ kind t
watches_mode closed w = refl
watches_mode (reading n) w = refl
watches_mode (writing t) w = refl

-- ---- any line

module _ (schema : DbSchema) (H : History) (client_number now : ℕ) (few : nat_lt now commit_limit ≡ true) (small : now < 2 ^ 64) (v : Client) (b : Option ℕ) (ls : List WriteCommand) (works : WorksFor schema H b ls v.transaction) (r : Reply) (next : Client) (unspent : (w : WriteCommand) → IsSpent schema H v w r next → ⊥) where
  -- the lines so far, of what is open
  abbrev so_far : Working
  so_far = record { mode = kind v.transaction; begun = b; lines = ls }

  Then : Command → Type 0
  Then c = Works schema H (working_after so_far c (reply_text r)) next

  written_works : (w : WriteCommand) → IsWriteTold schema H v w r next → Then (command.Write w)
  unfolding Then After client work
  written_works w (by_turn is) = subst (λ (p : Reply × Client). Works schema H (working_after so_far (command.Write w) (reply_text p.0)) p.1) is (write_works schema H v.last v.snapshots v.watching b ls v.transaction w works)
  written_works w (without_ids s) = absurd (unspent w s)

  told_works : (c : Command) → IsAnswered schema H client_number now v c r next → Then c
  unfolding Then After client work
  told_works (command.Transaction c) is = subst (λ (p : Reply × Client). Works schema H (working_after so_far (command.Transaction c) (reply_text p.0)) p.1) is (transaction_works schema H v.last v.snapshots v.watching b ls now v.transaction c few small works)
  told_works (command.Write w) is = written_works w is
  told_works (command.Defer text) is = subst (λ (p : Reply × Client). Works schema H (working_after so_far (command.Defer text) (reply_text p.0)) p.1) is (defer_works schema H v.last v.snapshots v.watching b ls v.transaction text works)
  told_works (command.Ask a) is = left_works schema H v.last v.snapshots v.watching b ls v.transaction (command.Ask a) r next (ask_mode v.transaction a) refl works (left_by v (ask_turn schema H v a) r next (ask_leaves schema H v a) is)
  told_works (command.Name n) is = left_works schema H v.last v.snapshots v.watching b ls v.transaction (command.Name n) r next (name_mode v.transaction n) refl works (left_by v (name_turn schema H v n) r next (name_leaves schema H v n) is)
  told_works (command.Size set) is = left_works schema H v.last v.snapshots v.watching b ls v.transaction (command.Size set) r next (size_mode v.transaction set) refl works (left_by v (size_turn v set) r next (size_leaves schema H v set) is)
  told_works (command.Watches w) is = left_works schema H v.last v.snapshots v.watching b ls v.transaction (command.Watches w) r next (watches_mode v.transaction w) refl works (aside now v schema H client_number w r next is).transaction

  pub next_works : (c : Command) (w : Working) → w.mode ≡ kind v.transaction → w.begun ≡ b → w.lines ≡ ls → IsAnswered schema H client_number now v c r next → Works schema H (working_after w c (reply_text r)) next
  unfolding Then
  next_works c w mode begun lines is = subst (λ (x : Working). Works schema H (working_after x c (reply_text r)) next) (sym same) (told_works c is)
    where
      make : Mode → Option ℕ → List WriteCommand → Working
      make m o l = record { mode = m; begun = o; lines = l }

      same : w ≡ record { mode = kind v.transaction; begun = b; lines = ls }
      same = ap (λ (m : Mode). record { mode = m; begun = w.begun; lines = w.lines }) mode ∙ ap (λ (o : Option ℕ). record { mode = kind v.transaction; begun = o; lines = w.lines }) begun ∙ ap (λ (l : List WriteCommand). record { mode = kind v.transaction; begun = b; lines = l }) lines
