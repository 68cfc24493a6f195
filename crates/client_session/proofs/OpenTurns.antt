-- The turns that begin and end transactions.
use Rattle.std.proofs.Common.{arith, lt-ltb, ◌≡◌, refl, ap, subst, sym, ◌∙◌, ℕ, ◌+◌, ◌<◌, ◌≤◌, ◌^◌, List, [], ◌∷◌, ◌++◌, length, inl, inr, Result, Ok, Err, IfOk, OnErr}
use Rattle.std.specs.Prelude.{codes, map, nat_lt}
use Rattle.std.specs.declared.alloc.AllocError.{AllocError}
use Rattle.std.proofs.lemmas.List.{append-nil, length-append}
use Rattle.mdb_datum.specs.Bytes.{Bytes}
use Rattle.watch_word.specs.Logs as logs
use Rattle.watch_word.specs.Logs.{Log}
use Rattle.mdb_schema.specs.History.{History}
use Rattle.mem_txn.specs.CellHistory.{Forest}
use Rattle.mem_txn.proofs.OneHistory.{later_itself}
use Rattle.mem_txn.specs.DbTxn.{DbTxn, after_commit, new_txn}
use Rattle.mem_txn.specs.Checked.{IsBeginning}
use Rattle.mem_txn.proofs.SeenBegins.{begins_itself}
use Rattle.mem_txn.specs.Database.{Caller, HasRead, HasSeen, Reading, reading_of}
use Rattle.mem_txn.specs.Transactions.{AnswersBegin, AnswersTry, HasWon, IsCommitted, IsRefused, txn_of, items_of, deferred_items}
use Rattle.mem_txn.specs.declared.outcome.BeginRefused.{BeginRefused}
use Rattle.mem_txn.specs.declared.outcome.Committed.{Committed}
use Rattle.mem_txn.specs.declared.outcome.Tried.{Tried}
use Rattle.mem_txn.specs.declared.outcome.Tried.TheVariants as tried
use Rattle.mem_txn.specs.declared.txn_error.BeginError.TheVariants as begin_errors
use Rattle.mem_txn.specs.declared.write_txn.WriteTxn.{WriteTxn}
use Rattle.client_script.specs.Client.{Client, Transaction, closed, reading, writing}
use Rattle.client_script.specs.Reply.{Reply, read_at, write_at, ended, committed, aborted, refused}
use Rattle.client_script.specs.Turn.{changed_row, commit_limit, outcome, transaction_turn}
use Rattle.client_script.specs.declared.command.Command.TheVariants as command
use Rattle.client_script.specs.declared.command.TransactionCommand.{TransactionCommand}
use Rattle.client_script.specs.declared.command.TransactionCommand.TheVariants as transaction_line
use Rattle.client_session.specs.Answered.{IsLater}
use Rattle.client_session.specs.Counts.{count_told}
use Rattle.client_session.specs.Steps.{HasDoneOnce}
use Rattle.client_session.specs.declared.open.Open.{Open}
use Rattle.client_session.specs.declared.open.Open.TheVariants as opens
use Rattle.client_session.specs.declared.reply.Reply.TheVariants as replies
use Rattle.client_session.specs.inner.ReplyOf.{reply_of}
use Rattle.client_session.specs.inner.OpenView.{Grows, IsNumbered, Looks, LooksAndTurns, Stands, TurnsTo, WasRead, caller_of, transaction_of}
use Rattle.client_session.proofs.ToldCounts.{TellsNone, among_none}
use Rattle.mdb_schema.specs.Schema.{DbSchema}

-- a caller that has seen no more
no_more : (p : Caller) → p ≡ record p { seen = p.seen ++ []; trees = p.trees ++ []; own = p.own ++ [] }
no_more p = λ i. record p { seen = sym (append-nil p.seen) i; trees = sym (append-nil p.trees) i; own = sym (append-nil p.own) i }

-- what is the same caller has made no commit
pub none_made : (p q : Caller) (cs : History) → cs ≡ [] → q ≡ p → (trees : List Forest) × (q ≡ record p { seen = p.seen ++ cs; trees = p.trees ++ trees; own = p.own ++ cs; log = q.log }) × logs.IsLater p.log q.log
none_made p q cs none same =
    let more : p ≡ record p { seen = p.seen ++ cs; trees = p.trees ++ []; own = p.own ++ cs } =
    no_more p ∙ ap (λ (ds : History). let r : Caller = record p { seen = p.seen ++ ds; trees = p.trees ++ []; own = p.own ++ ds } in r) (sym none) in (
      [],
      subst (λ (x : Caller). x ≡ record p { seen = p.seen ++ cs; trees = p.trees ++ []; own = p.own ++ cs; log = x.log }) (sym same) more,
      subst (λ (x : Caller). logs.IsLater p.log x.log) (sym same) (later_itself p.log),
    )

-- what is read at once is read from what the caller has seen
was_read : (p : Caller) → WasRead p (reading_of p)
was_read p = (p, begins_itself p, refl)

read_turns : (pass : Caller) → TurnsTo (command.Transaction transaction_line.Read) (opens.Nothing pass) (opens.Reading pass (reading_of pass)) (read_at (length pass.seen))
read_turns pass = record {
  turns = λ v is le. record {
    next = record { last = length pass.seen; transaction = reading (length pass.seen); snapshots = v.snapshots; watching = v.watching };
    says = rw is refl;
    transaction = refl;
    snapshots = refl;
    watching = refl;
    last = search (arith);
  };
  stands = (search (arith), refl, was_read pass);
  grows = none_made pass pass [] refl refl;
  numbered = refl;
}

pub later_self : (p : Caller) → IsLater p p
later_self p = record { number = refl; database = refl; schema = refl; book = refl; seen = ([], append-nil p.seen); trees = ([], append-nil p.trees); counts = ([], append-nil p.counts); tries = ([], append-nil p.tries); log = later_itself p.log }

pub later_same : (p q : Caller) → q ≡ p → IsLater p q
later_same p q same = subst (λ (r : Caller). IsLater p r) (sym same) (later_self p)

-- so what was seen before is its beginning
pub beginning_later : (p q : Caller) → IsLater p q → IsBeginning p q
beginning_later p q later = record { schema = later.schema; book = later.book; seen = later.seen; trees = later.trees }

-- what holds at all holds after an error
pub on_err : {A E P : Type 0} → (r : Result A E) → P → OnErr r P
on_err (Ok x) holds = tt
on_err (Err e) holds = holds

pub later_seen : (old new : Caller) → HasSeen old new → IsLater old new
later_seen old new seen = record {
  number = ap (λ (p : Caller). p.number) seen.others;
  database = ap (λ (p : Caller). p.database) seen.others;
  schema = ap (λ (p : Caller). p.schema) seen.others;
  book = ap (λ (p : Caller). p.book) seen.others;
  seen = seen.seen;
  trees = seen.trees;
  counts = seen.counts;
  tries = seen.tries;
  log = seen.log;
}

-- a caller that has looked
looked : (old new : Caller) (n : ℕ) → HasSeen old new → HasRead old new n → Looks (opens.Nothing old) (opens.Nothing new)
looked old new n seen read = record {
  later = later_seen old new seen;
  own = ap (λ (p : Caller). p.own) seen.others;
  read = n ∷ [];
  counts = read.1;
  transaction = refl;
  stands = tt;
}

pub begun_read : (self : Open) (old new : Caller) (txn : Reading) (n : ℕ) → self ≡ opens.Nothing old → HasSeen old new → HasRead old new txn.view.number → txn ≡ reading_of new → n ≡ txn.view.number → LooksAndTurns transaction_line.Read self (opens.Reading new txn) (read_at n)
unfolding looked
begun_read self old new txn n is seen read sees number = subst (λ (s : Open). LooksAndTurns transaction_line.Read s (opens.Reading new txn) (read_at n)) (sym is) (record {
  at = opens.Nothing new;
  looks = looked old new txn.view.number seen read;
  turns =
      subst (λ (k : ℕ). TurnsTo (command.Transaction transaction_line.Read) (opens.Nothing new) (opens.Reading new txn) (read_at k)) (sym (number ∙ ap (λ (x : Reading). x.view.number) sees))
      (subst (λ (x : Reading). TurnsTo (command.Transaction transaction_line.Read) (opens.Nothing new) (opens.Reading new x) (read_at (length new.seen))) (sym sees) (read_turns new));
  loads = λ v is' le. inl (number, tt);
})

end_turns : (pass : Caller) (txn : Reading) → TurnsTo (command.Transaction transaction_line.End) (opens.Reading pass txn) (opens.Nothing pass) ended
end_turns pass txn = record {
  turns = λ v is le. record {
    next = record { last = v.last; transaction = closed; snapshots = v.snapshots; watching = v.watching };
    says = rw is refl;
    transaction = refl;
    snapshots = refl;
    watching = refl;
    last = le;
  };
  stands = tt;
  grows = none_made pass pass [] refl refl;
  numbered = refl;
}

pub ended_turns : (self : Open) (pass : Caller) (txn : Reading) → self ≡ opens.Reading pass txn → TurnsTo (command.Transaction transaction_line.End) self (opens.Nothing pass) ended
ended_turns self pass txn is = subst (λ (s : Open). TurnsTo (command.Transaction transaction_line.End) s (opens.Nothing pass) ended) (sym is) (end_turns pass txn)

-- what a new write transaction is to its client
new_writing : ℕ → Transaction
new_writing n = writing (record { number = n; writes = []; texts = [] })

write_turns : (old : Caller) (txn : WriteTxn Bytes) → length old.seen < 2 ^ 63 → txn_of txn ≡ new_txn old → items_of txn ≡ [] → TurnsTo (command.Transaction transaction_line.Write) (opens.Nothing old) (opens.Writing txn) (write_at (length old.seen))
unfolding new_writing
write_turns old txn few changes items = record {
  turns = λ v is le. record {
    next = record { last = length old.seen; transaction = new_writing (length old.seen); snapshots = v.snapshots; watching = v.watching };
    says = rw (is, lt-ltb (length old.seen) commit_limit few) refl;
    transaction = sym (ap (λ (c : DbTxn). writing (record { number = length c.caller.seen; writes = c.writes; texts = items_of txn })) changes ∙ ap (λ (texts : List Bytes). writing (record { number = length old.seen; writes = []; texts = texts })) items);
    snapshots = refl;
    watching = refl;
    last = subst (λ (c : DbTxn). length old.seen ≤ length c.caller.seen) (sym changes) (search (arith));
  };
  stands = ap (λ (c : DbTxn). c.spoiled) changes;
  grows = none_made old (txn_of txn).caller [] refl (ap (λ (c : DbTxn). c.caller) changes);
  numbered = refl;
}

pub begun_write : (self : Open) (old : Caller) (txn : WriteTxn Bytes) (n : ℕ) → self ≡ opens.Nothing old → HasSeen old (txn_of txn).caller → HasRead old (txn_of txn).caller (length (txn_of txn).caller.seen) → length (txn_of txn).caller.seen < 2 ^ 63 → txn_of txn ≡ new_txn (txn_of txn).caller → items_of txn ≡ [] → n ≡ length (txn_of txn).caller.seen
    → LooksAndTurns transaction_line.Write self (opens.Writing txn) (write_at n)
unfolding looked
begun_write self old txn n is seen read few changes items number =
    let new = (txn_of txn).caller in
    subst (λ (s : Open). LooksAndTurns transaction_line.Write s (opens.Writing txn) (write_at n)) (sym is) (record {
      at = opens.Nothing new;
      looks = looked old new (length new.seen) seen read;
      turns = subst (λ (k : ℕ). TurnsTo (command.Transaction transaction_line.Write) (opens.Nothing new) (opens.Writing txn) (write_at k)) (sym number) (write_turns new txn few changes items);
      loads = λ v is' le. inl (number, tt);
    })

-- a history that can have no further commit
spent_turns : (pass : Caller) → length pass.seen ≡ 2 ^ 63 → TurnsTo (command.Transaction transaction_line.Write) (opens.Nothing pass) (opens.Nothing pass) (refused (codes "commits-spent"))
spent_turns pass spent = record {
  turns = λ v is le. record {
    next = v;
    says = rw (is, ap (λ (n : ℕ). nat_lt n commit_limit) spent) refl;
    transaction = is;
    snapshots = refl;
    watching = refl;
    last = le;
  };
  stands = tt;
  grows = none_made pass pass [] refl refl;
  numbered = refl;
}

pub spent_write : (self : Open) (old : Caller) (r : BeginRefused) → self ≡ opens.Nothing old → r.cause ≡ begin_errors.CommitsSpent → HasSeen old r.pass → IsRefused old r.pass r.cause → LooksAndTurns transaction_line.Write self (opens.Nothing r.pass) (refused (codes "commits-spent"))
spent_write self old r is cause seen why =
    let spent : IsRefused old r.pass begin_errors.CommitsSpent = subst (IsRefused old r.pass) cause why in
    subst (λ (s : Open). LooksAndTurns transaction_line.Write s (opens.Nothing r.pass) (refused (codes "commits-spent"))) (sym is) (record {
      at = opens.Nothing r.pass;
      looks = looked old r.pass (length r.pass.seen) seen spent.0;
      turns = spent_turns r.pass spent.1;
      loads = λ v is' le. tt;
    })

pub try_began : (callers : ℕ) (p : Caller) (t : Tried Bytes) (txn : WriteTxn Bytes) → t ≡ tried.Begun txn → AnswersTry callers p (Ok t) → AnswersBegin p (Ok txn) × HasWon p (txn_of txn).caller
try_began callers p t txn is answers = subst (λ (x : Tried Bytes). AnswersTry callers p (Ok x)) is answers

-- the one try found the turn free
pub won_from : (self : Open) (old new : Caller) → self ≡ opens.Nothing old → HasWon old new → HasDoneOnce (command.Transaction transaction_line.Write) (caller_of self) new
won_from self old new is won = inr (subst (λ (s : Open). HasWon (caller_of s) new) (sym is) won)

abort_turns : (pass : Caller) (txn : WriteTxn Bytes) → pass ≡ (txn_of txn).caller → TurnsTo (command.Transaction transaction_line.Abort) (opens.Writing txn) (opens.Nothing pass) aborted
abort_turns pass txn same = record {
  turns = λ v is le. record {
    next = record { last = v.last; transaction = closed; snapshots = v.snapshots; watching = v.watching };
    says = rw is refl;
    transaction = refl;
    snapshots = refl;
    watching = refl;
    last = subst (λ (p : Caller). v.last ≤ length p.seen) (sym same) le;
  };
  stands = tt;
  grows = none_made (txn_of txn).caller pass [] refl same;
  numbered = refl;
}

pub aborted_turns : (self : Open) (pass : Caller) (txn : WriteTxn Bytes) → self ≡ opens.Writing txn → pass ≡ (txn_of txn).caller → TurnsTo (command.Transaction transaction_line.Abort) self (opens.Nothing pass) aborted
aborted_turns self pass txn is same = subst (λ (s : Open). TurnsTo (command.Transaction transaction_line.Abort) s (opens.Nothing pass) aborted) (sym is) (abort_turns pass txn same)

-- the reply to a commit
abbrev said_by : WriteTxn Bytes → Committed Bytes → Reply
said_by txn c = committed c.receipt.number (map (changed_row (txn_of txn).caller.schema) c.receipt.changes) (deferred_items c.receipt.items)

commit_turns : (txn : WriteTxn Bytes) (c : Committed Bytes) → IsCommitted txn c → TurnsTo (command.Transaction transaction_line.Commit) (opens.Writing txn) (opens.Nothing c.pass) (said_by txn c)
commit_turns txn c is_committed = record {
  turns = λ v is le. record {
    next = record { last = length (txn_of txn).caller.seen + 1; transaction = closed; snapshots = v.snapshots; watching = v.watching };
    says = rw (is, is_committed.number, is_committed.changes, is_committed.items) refl;
    transaction = refl;
    snapshots = refl;
    watching = refl;
    last = rw (is_committed.pass, length-append (txn_of txn).caller.seen _) (search (arith));
  };
  stands = tt;
  grows = (is_committed.trees ∷ [], is_committed.pass ∙ ap (λ (l : Log). after_commit (txn_of txn) is_committed.trees l) (sym (ap (λ (p : Caller). p.log) is_committed.pass)), subst (λ (p : Caller). logs.IsLater (txn_of txn).caller.log p.log) (sym is_committed.pass) is_committed.later);
  numbered = numbers is_committed.number;
}
  where
    told : ℕ → List (ℕ × ℕ)
    told n = (n, (txn_of txn).caller.number) ∷ []

    numbers : c.receipt.number ≡ length (txn_of txn).caller.seen + 1 → told c.receipt.number ≡ told (length (txn_of txn).caller.seen + 1)
    numbers e = ap told e

committed_turns : (self : Open) (txn : WriteTxn Bytes) (c : Committed Bytes) → self ≡ opens.Writing txn → IsCommitted txn c → TurnsTo (command.Transaction transaction_line.Commit) self (opens.Nothing c.pass) (reply_of (caller_of self).schema (replies.Committed c.receipt))
committed_turns self txn c is is_committed = subst (λ (s : Open). TurnsTo (command.Transaction transaction_line.Commit) s (opens.Nothing c.pass) (reply_of (caller_of s).schema (replies.Committed c.receipt))) (sym is) (commit_turns txn c is_committed)

pub committed_result : (self : Open) (txn : WriteTxn Bytes) (c : Committed Bytes) (result : Open × Result replies.the_data AllocError) → self ≡ opens.Writing txn → IsCommitted txn c → result ≡ (opens.Nothing c.pass, Ok (replies.Committed c.receipt)) → IfOk result.1 (λ r. TurnsTo (command.Transaction transaction_line.Commit) self result.0 (reply_of (caller_of self).schema r))
committed_result self txn c result is is_committed gives = subst (λ (p : Open × Result replies.the_data AllocError). IfOk p.1 (λ r. TurnsTo (command.Transaction transaction_line.Commit) self p.0 (reply_of (caller_of self).schema r))) (sym gives) (committed_turns self txn c is is_committed)

-- ---- a command that looks at no further commits

pub looks_self : (o : Open) → Stands o → Looks o o
looks_self o stands = record {
  later = later_self (caller_of o);
  own = refl;
  read = [];
  counts = sym (append-nil (caller_of o).counts);
  transaction = refl;
  stands = stands;
}

-- and breaks a rule
refused_once : (t : TransactionCommand) (o : Open) (rule : Bytes) → Stands o → TurnsTo (command.Transaction t) o o (refused rule) → LooksAndTurns t o o (refused rule)
refused_once t o rule stands turns = record { at = o; looks = looks_self o stands; turns = turns; loads = λ v same le. tt }

-- a transaction is open, and so none begins
open_turns : (t : TransactionCommand) (o : Open) → Stands o → Grows (caller_of o) (caller_of o) (transaction_of o) (refused (codes "transaction-open"))
    → IsNumbered (caller_of o) (transaction_of o) (refused (codes "transaction-open"))
    → ((v : Client) → v.transaction ≡ transaction_of o → outcome v (transaction_turn (caller_of o).schema (caller_of o).seen (length (caller_of o).seen) v t) ≡ (refused (codes "transaction-open"), v))
    → LooksAndTurns t o o (refused (codes "transaction-open"))
open_turns t o stands grows numbered says = refused_once t o (codes "transaction-open") stands (record {
  turns = λ v is le. record { next = v; says = says v is; transaction = is; snapshots = refl; watching = refl; last = le };
  stands = stands;
  grows = grows;
  numbered = numbered;
})

pub read_refused : (o : Open) → Stands o → ((p : Caller) → o ≡ opens.Nothing p → ⊥) → LooksAndTurns transaction_line.Read o o (refused (codes "transaction-open"))
read_refused (opens.Nothing p) stands not = absurd (not p refl)
read_refused (opens.Reading p txn) stands not = open_turns transaction_line.Read (opens.Reading p txn) stands (none_made p p [] refl refl) refl (λ v is. rw is refl)
read_refused (opens.Writing txn) stands not = open_turns transaction_line.Read (opens.Writing txn) stands (none_made (txn_of txn).caller (txn_of txn).caller [] refl refl) refl (λ v is. rw is refl)

pub write_refused : (o : Open) → Stands o → ((p : Caller) → o ≡ opens.Nothing p → ⊥) → LooksAndTurns transaction_line.Write o o (refused (codes "transaction-open"))
write_refused (opens.Nothing p) stands not = absurd (not p refl)
write_refused (opens.Reading p txn) stands not = open_turns transaction_line.Write (opens.Reading p txn) stands (none_made p p [] refl refl) refl (λ v is. rw is refl)
write_refused (opens.Writing txn) stands not = open_turns transaction_line.Write (opens.Writing txn) stands (none_made (txn_of txn).caller (txn_of txn).caller [] refl refl) refl (λ v is. rw is refl)

-- ---- a rule is broken

nothing_turns : (t : TransactionCommand) (p : Caller) (rule : Bytes) → ((v : Client) → v.transaction ≡ closed → outcome v (transaction_turn p.schema p.seen (length p.seen) v t) ≡ (refused rule, v)) → TurnsTo (command.Transaction t) (opens.Nothing p) (opens.Nothing p) (refused rule)
nothing_turns t p rule says = record {
  turns = λ v is le. record { next = v; says = says v is; transaction = is; snapshots = refl; watching = refl; last = le };
  stands = tt;
  grows = none_made p p [] refl refl;
  numbered = refl;
}

pub nothing_refused : (t : TransactionCommand) (self : Open) (p : Caller) (rule : Bytes) → self ≡ opens.Nothing p → ((v : Client) → v.transaction ≡ closed → outcome v (transaction_turn p.schema p.seen (length p.seen) v t) ≡ (refused rule, v)) → TurnsTo (command.Transaction t) self (opens.Nothing p) (refused rule)
nothing_refused t self p rule is says = subst (λ (o : Open). TurnsTo (command.Transaction t) o (opens.Nothing p) (refused rule)) (sym is) (nothing_turns t p rule says)

reading_turns : (t : TransactionCommand) (p : Caller) (txn : Reading) (rule : Bytes) → Stands (opens.Reading p txn) → ((v : Client) → v.transaction ≡ reading txn.view.number → outcome v (transaction_turn p.schema p.seen (length p.seen) v t) ≡ (refused rule, v)) → TurnsTo (command.Transaction t) (opens.Reading p txn) (opens.Reading p txn) (refused rule)
reading_turns t p txn rule stands says = record {
  turns = λ v is le. record { next = v; says = says v is; transaction = is; snapshots = refl; watching = refl; last = le };
  stands = stands;
  grows = none_made p p [] refl refl;
  numbered = refl;
}

pub reading_refused : (t : TransactionCommand) (self : Open) (p : Caller) (txn : Reading) (rule : Bytes) → self ≡ opens.Reading p txn → Stands self → ((v : Client) → v.transaction ≡ reading txn.view.number → outcome v (transaction_turn p.schema p.seen (length p.seen) v t) ≡ (refused rule, v)) → TurnsTo (command.Transaction t) self (opens.Reading p txn) (refused rule)
reading_refused t self p txn rule is stands says = subst (λ (o : Open). TurnsTo (command.Transaction t) o (opens.Reading p txn) (refused rule)) (sym is) (reading_turns t p txn rule (subst Stands is stands) says)

pub end_refused : (o : Open) → Stands o → ((p : Caller) → o ≡ opens.Nothing p → ⊥) → ((p : Caller) (txn : Reading) → o ≡ opens.Reading p txn → ⊥) → TurnsTo (command.Transaction transaction_line.End) o o (refused (codes "write-open"))
end_refused (opens.Nothing p) stands not nor = absurd (not p refl)
end_refused (opens.Reading p txn) stands not nor = absurd (nor p txn refl)
end_refused (opens.Writing txn) stands not nor = record {
  turns = λ v is le. record { next = v; says = rw is refl; transaction = is; snapshots = refl; watching = refl; last = le };
  stands = stands;
  grows = none_made (txn_of txn).caller (txn_of txn).caller [] refl refl;
  numbered = refl;
}

-- ---- turns that look at no further commits

turns_once : (t : TransactionCommand) (o o' : Open) (r : Reply) → TellsNone (command.Transaction t) → Stands o → TurnsTo (command.Transaction t) o o' r → LooksAndTurns t o o' r
turns_once t o o' r none stands turns = record {
  at = o;
  looks = looks_self o stands;
  turns = turns;
  loads = λ v same le.
      let p = caller_of o in
      let told = turns.turns v same le in
      among_none (count_told r) (looks_self o stands).read (none p.schema p.seen p.number (length p.seen) v told.next r told.says);
}

pub told_once : (t t' : TransactionCommand) (o o' : Open) (s : DbSchema) (told : Result replies.the_data AllocError) → t' ≡ t → TellsNone (command.Transaction t) → Stands o → IfOk told (λ r. TurnsTo (command.Transaction t) o o' (reply_of s r)) → IfOk told (λ r. LooksAndTurns t' o o' (reply_of s r))
told_once t t' o o' s (Ok r) is none stands turns = subst (λ (x : TransactionCommand). LooksAndTurns x o o' (reply_of s r)) (sym is) (turns_once t o o' (reply_of s r) none stands turns)
told_once t t' o o' s (Err e) is none stands turns = tt

pub told_pair : (t t' : TransactionCommand) (o : Open) (s : DbSchema) (turn : Open × replies.the_data) (result : Open × Result replies.the_data AllocError) → t' ≡ t → TellsNone (command.Transaction t) → Stands o → result ≡ (turn.0, Ok turn.1) → TurnsTo (command.Transaction t) o turn.0 (reply_of s turn.1) → IfOk result.1 (λ r. LooksAndTurns t' o result.0 (reply_of s r))
told_pair t t' o s turn result is none stands gives turns = subst (λ (p : Open × Result replies.the_data AllocError). IfOk p.1 (λ r. LooksAndTurns t' o p.0 (reply_of s r))) (sym gives) (subst (λ (x : TransactionCommand). LooksAndTurns x o turn.0 (reply_of s turn.1)) (sym is) (turns_once t o turn.0 (reply_of s turn.1) none stands turns))
