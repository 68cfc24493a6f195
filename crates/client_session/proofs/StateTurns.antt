-- From the turn of what is open to the reply of a session's state.
use Rattle.std.proofs.Common.{arith, ◌≡◌, refl, ap, subst, sym, ◌∙◌, ℕ, ◌≤◌, false, List, [], ◌∷◌, ◌++◌, length, map, Option, Some, None, Result, Ok, Err, IfOk, IsErr, MatchOption, cond, slice_get}
use Rattle.std.specs.Prelude.{OnOk, option_map, is_some, if◌then◌else◌, Bool, true}
use Rattle.std.specs.BTreeMap.{get_by_text}
use Rattle.std.specs.Str.{bytes_eq}
use Rattle.std.specs.Bool.{⊤}
use Rattle.mem_txn.specs.DbTxn.{present_view}
use Rattle.mem_txn.specs.Transactions.{AnswersSnapshot, txn_of, items_of}
use Rattle.mem_txn.specs.declared.write_txn.WriteTxn.{WriteTxn}
use Rattle.mdb_datum.specs.Bytes.{Bytes}
use Rattle.mdb_schema.specs.History.{Commit, History}
use Rattle.mdb_schema.specs.Schema.{DbSchema}
use Rattle.mem_txn.specs.CellHistory.{CellHistory, Forest}
use Rattle.mem_txn.specs.Checked.{IsBeginning}
use Rattle.mem_txn.specs.Database.{Caller, Reading, View, cells_seen}
use Rattle.client_script.proofs.LongerHistory.{no_entry, answered_longer, answered_within}
use Rattle.client_script.specs.Client.{Transaction, closed, reading, writing, Writing, Client, Sight, Snapshot, snapshot_named, state_seen, some_open}
use Rattle.client_script.specs.Reply as said
use Rattle.client_script.specs.Session.{IsAnswered, IsEntry, Answers}
use Rattle.client_script.specs.Legal.{number_printed}
use Rattle.client_script.specs.RefusedWord.{question_word}
use Rattle.client_script.specs.Turn.{ask_turn, name_turn, outcome, snapshot_reply, with_snapshot}
use Rattle.client_script.specs.declared.command.AskCommand.TheVariants as ask_line
use Rattle.client_script.specs.declared.command.Command.TheVariants as command
use Rattle.client_script.specs.declared.command.NameCommand.TheVariants as name_line
use Rattle.client_script.specs.declared.command.TransactionCommand.{TransactionCommand}
use Rattle.client_script.specs.declared.command.TransactionCommand.TheVariants as transaction_line
use Rattle.mdb_schema.specs.Answer as asked
use Rattle.mdb_schema.specs.Answer.{Asked, ask}
use Rattle.mdb_schema.specs.Query.{Query}
use Rattle.mdb_schema.specs.ErrorsTold.{AnswersAsk, ask_error}
use Rattle.mdb_schema.specs.declared.answer.Answer.{Answer}
use Rattle.mdb_schema.specs.declared.ask_error.AskError.{AskError}
use Rattle.client_session.specs.Cells.{TellsCells}
use Rattle.client_session.specs.Counts.{count_told}
use Rattle.client_session.specs.Steps.{HasDoneOnce}
use Rattle.client_session.proofs.CellsTold.{rows_cells}
use Rattle.client_session.proofs.ToldCounts.{IsOfRows, TellsNone, among_none, rows_tell}
use Rattle.client_session.proofs.FollowsOn.{follows_then, holds_on, knows_on, seen_more, within_more}
use Rattle.client_session.proofs.SnapshotSteps.{seen_step}
use Rattle.client_session.proofs.OpenTurns.{looks_self, none_made}
use Rattle.client_session.proofs.RequestTurns.{none_numbered, answer_makes, refused_makes}
use Rattle.client_script.specs.declared.rule.Rule.TheVariants as rules
use Rattle.client_script.specs.declared.command.Command.{Command}
use Rattle.client_session.specs.declared.session_state.SessionState.{SessionState}
use Rattle.client_session.specs.declared.any_snapshot.AnySnapshot.{AnySnapshot}
use Rattle.client_session.specs.declared.any_snapshot.AnySnapshot.TheVariants as kinds
use Rattle.client_session.specs.declared.named.Named.{Named}
use Rattle.client_session.specs.declared.«open».Open.{Open}
use Rattle.client_session.specs.declared.«open».Open.TheVariants as opens
use Rattle.client_session.specs.declared.reply.Reply.TheVariants as replied_by
use Rattle.client_session.specs.inner.ReplyOf.{reply_of}
use Rattle.std.specs.declared.alloc.AllocError.{AllocError}
use Rattle.client_session.specs.inner.StateView.{Follows, IsHeldUp, IsSnapshotOf, LooksAndReplies, Presents, RepliesTo, StepsTo, view_of}
use Rattle.client_session.specs.inner.SnapshotView.{snapshot_view, seen_in}
use Rattle.client_session.specs.inner.OpenView.{Grows, IsNumbered, LooksAndTurns, TriesWrite, TurnsTo, caller_of, transaction_of, Stands, made}
use Rattle.client_session.specs.inner.WatchingView.{Holds, IsReadBy, Knows}
use Rattle.client_script.proofs.OneClient.{snapshot_prints}
use Rattle.client_script.proofs.RuleNames.{rule_of_question, question_same}
use Rattle.client_script.specs.RuleName.{question_rule, rule_name}
use Rattle.mdb_schema.proofs.Membership.{same_key}

-- ---- the entry of a commit

entry_behind : (H : History) (c : Commit) → slice_get (H ++ c ∷ []) (length H) ≡ Some c
entry_behind [] c = refl
entry_behind (h ∷ H) c = entry_behind H c

entry_made : (H : History) (n : ℕ) (x : Writing) (r : said.Reply) → x.number ≡ length H → IsEntry (H ++ made n (writing x) r) n (writing x) r
entry_made H n x (said.committed m changed texts) stands = subst (λ (k : ℕ). slice_get (H ++ record { caller = n; writes = x.writes } ∷ []) k ≡ Some (record { caller = n; writes = x.writes })) (sym stands) (entry_behind H (record { caller = n; writes = x.writes }))
entry_made H n x (said.read_at n') stands = tt
entry_made H n x (said.write_at n') stands = tt
entry_made H n x said.ended stands = tt
entry_made H n x said.aborted stands = tt
entry_made H n x said.inserted stands = tt
entry_made H n x said.replaced stands = tt
entry_made H n x said.deleted stands = tt
entry_made H n x (said.wiped k) stands = tt
entry_made H n x said.deferred stands = tt
entry_made H n x (said.answered a) stands = tt
entry_made H n x (said.snapshot_at n') stands = tt
entry_made H n x (said.snapshot_within n') stands = tt
entry_made H n x (said.quiet_at n') stands = tt
entry_made H n x (said.fired_at n') stands = tt
entry_made H n x (said.sized k) stands = tt
entry_made H n x (said.woken_by name n') stands = tt
entry_made H n x (said.stopped_at n') stands = tt
entry_made H n x (said.refused rule) stands = tt

none_told : (n : ℕ) (ms : List ℕ) → map {B = ℕ × ℕ} (λ m. (m, n)) ms ≡ [] → ms ≡ []
none_told n [] none = refl
none_told n (m ∷ ms) none = cc

entry_of : (o : Open) (r : said.Reply) → IsNumbered (caller_of o) (transaction_of o) r → IsEntry ((caller_of o).seen ++ made (caller_of o).number (transaction_of o) r) (caller_of o).number (transaction_of o) r
entry_of (opens.Nothing pass) r numbered = no_entry (pass.seen ++ made pass.number closed r) pass.number closed r (none_told pass.number (number_printed r) numbered)
entry_of (opens.Reading pass txn) r numbered = no_entry (pass.seen ++ made pass.number (reading txn.view.number) r) pass.number (reading txn.view.number) r (none_told pass.number (number_printed r) numbered)
entry_of (opens.Writing txn) r numbered = entry_made (txn_of txn).caller.seen (txn_of txn).caller.number (record { number = length (txn_of txn).caller.seen; writes = (txn_of txn).writes; texts = items_of txn }) r refl

-- ---- a line that looks at no further commits

pub replies_at_once : (c : Command) (d d' : SessionState) (r : said.Reply) → TellsNone c → Stands d.«open» → RepliesTo c d d' r → LooksAndReplies c d d' r
replies_at_once c d d' r none stands replies = record {
  at = d;
  looks = looks_self d.«open» stands;
  snapshots = refl;
  watching = refl;
  replied = λ v before follows. replies v follows;
  loads = λ v follows.
      let step = replies v follows in
      let a = step.answers in
      among_none (count_told r) (looks_self d.«open» stands).read (none (caller_of d.«open»).schema (caller_of d'.«open»).seen (caller_of d.«open»).number a.now v step.next r a.says);
}

-- ---- a line's reply

module _ (c : Command) (d d' : SessionState) (r : said.Reply) (cells : (J : CellHistory) (v next : Client) → TellsCells J v c r next) (to : TurnsTo c d.«open» d'.«open» r) (same : d'.snapshots ≡ d.snapshots) (watching : d'.watching ≡ d.watching) where
  p : Caller
  p = caller_of d.«open»

  more : History
  more = made p.number (transaction_of d.«open») r

  trees : List Forest
  trees = to.grows.0

  grown : caller_of d'.«open» ≡ record p { seen = p.seen ++ more; trees = p.trees ++ trees; own = p.own ++ more; log = (caller_of d'.«open»).log }
  unfolding p more trees
  grown = to.grows.1

  seen_grown : (caller_of d'.«open»).seen ≡ p.seen ++ more
  seen_grown = ap (λ (q : Caller). q.seen) grown

  begins : IsBeginning p (caller_of d'.«open»)
  begins = record {
    schema = ap (λ (q : Caller). q.schema) grown;
    book = ap (λ (q : Caller). q.book) grown;
    seen = (more, sym seen_grown);
    trees = (trees, sym (ap (λ (q : Caller). q.trees) grown));
  }

  longer : length p.seen ≤ length (caller_of d'.«open»).seen
  longer = seen_more p (caller_of d'.«open») begins

  pub replies : RepliesTo c d d' r
  unfolding p more
  replies v follows =
      let t = to.turns v follows.transaction follows.last in
      let answers : Answers p.schema (caller_of d'.«open»).seen p.number v c r t.next = record {
        now = length p.seen;
        not_older = follows.last;
        there = longer;
        says = subst (λ (H : History). IsAnswered p.schema H p.number (length p.seen) v c r t.next) (sym seen_grown) (answered_longer p.schema p.seen more p.number (length p.seen) v c r t.next follows.last (search (arith)) follows.within t.says);
        entry = subst (λ (H : History). IsEntry H p.number v.transaction r) (sym seen_grown) (subst (λ (x : Transaction). IsEntry (p.seen ++ more) p.number x r) (sym follows.transaction) (entry_of d.«open» r to.numbered));
      } in
      record {
        next = t.next;
        answers = answers;
        cells = cells (cells_seen (caller_of d'.«open»)) v t.next;
        follows = follows_then d d' v t.next begins t.transaction t.last (answered_within p.schema (caller_of d'.«open»).seen p.number v c r t.next (within_more (length p.seen) (length (caller_of d'.«open»).seen) v longer follows.within) answers) t.snapshots same (knows_on d d' v t.next begins watching t.watching follows.knows) (holds_on d d' begins watching follows.holds) to.stands follows;
        grows = to.grows;
        numbered = to.numbered;
      }

-- ---- the goals of a session's state

-- the state with this open, and all else as it was
abbrev pub state_with : SessionState → Open → SessionState
state_with d o = record { «open» = o; snapshots = d.snapshots; watching = d.watching }

-- a line of rows
pub replies_told : (c c' : Command) (d : SessionState) (o : Open) (s s' : DbSchema) (told : Result replied_by.the_data AllocError) → c' ≡ c → s ≡ s' → IsOfRows c → IfOk told (λ r. TurnsTo c d.«open» o (reply_of s r)) → IfOk told (λ r. RepliesTo c' d (state_with d o) (reply_of s' r))
replies_told c c' d o s s' (Ok r) is same rows to = subst (λ (x : Command). RepliesTo x d (state_with d o) (reply_of s' r)) (sym is) (subst (λ (x : DbSchema). RepliesTo c d (state_with d o) (reply_of x r)) same (replies c d (state_with d o) (reply_of s r) (λ J v next. rows_cells J v c (reply_of s r) next rows) to refl refl))
replies_told c c' d o s s' (Err e) is same rows to = tt

pub once_told : (c c' : Command) (d d' : SessionState) (s : DbSchema) (told : Result replied_by.the_data AllocError) → c' ≡ c → TellsNone c → Stands d.«open» → IfOk told (λ r. RepliesTo c d d' (reply_of s r)) → IfOk told (λ r. LooksAndReplies c' d d' (reply_of s r))
once_told c c' d d' s (Ok r) is none stands to = subst (λ (x : Command). LooksAndReplies x d d' (reply_of s r)) (sym is) (replies_at_once c d d' (reply_of s r) none stands to)
once_told c c' d d' s (Err e) is none stands to = tt

pub rows_told : (c c' : Command) (d : SessionState) (o : Open) (s s' : DbSchema) (told : Result replied_by.the_data AllocError) → c' ≡ c → s ≡ s' → IsOfRows c → Stands d.«open» → IfOk told (λ r. TurnsTo c d.«open» o (reply_of s r)) → IfOk told (λ r. LooksAndReplies c' d (state_with d o) (reply_of s' r))
rows_told c c' d o s s' told is same rows stands to = once_told c c' d (state_with d o) s' told is (rows_tell c rows) stands (replies_told c c d o s s' told refl same rows to)

-- a line that begins or ends a transaction
pub looked_told : (t : TransactionCommand) (c : Command) (d : SessionState) (o : Open) (s s' : DbSchema) (told : Result replied_by.the_data AllocError) → c ≡ command.Transaction t → s ≡ s' → IfOk told (λ r. LooksAndTurns t d.«open» o (reply_of s r)) → IfOk told (λ r. LooksAndReplies c d (state_with d o) (reply_of s' r))
looked_told t c d o s s' (Ok r) is same to =
    let at : SessionState = state_with d to.at in
    let reply : RepliesTo (command.Transaction t) at (state_with d o) (reply_of s r) = replies (command.Transaction t) at (state_with d o) (reply_of s r) (λ J v next. tt) to.turns refl refl in
    subst (λ (x : Command). LooksAndReplies x d (state_with d o) (reply_of s' r)) (sym is) (subst (λ (x : DbSchema). LooksAndReplies (command.Transaction t) d (state_with d o) (reply_of x r)) same (record { at = at; looks = to.looks; snapshots = refl; watching = refl; replied = λ v before follows. reply v follows; loads = λ v follows. to.loads v follows.transaction follows.last }))
looked_told t c d o s s' (Err e) is same to = tt

-- a `write` that makes one try
pub tried_told : (n : ℕ) (c : Command) (d : SessionState) (o : Open) (s s' : DbSchema) (told : Result (Option replied_by.the_data) AllocError) → c ≡ command.Transaction transaction_line.Write → s ≡ s' → IfOk told (λ r. TriesWrite n d.«open» o (option_map (reply_of s) r)) → IfOk told (λ r. StepsTo n c d (state_with d o) (option_map (reply_of s') r))
tried_told n c d o s s' (Ok (Some r)) is same tries = (
  looked_told transaction_line.Write c d o s s' (Ok r) is same tries.0,
  subst (λ (x : Command). HasDoneOnce x (caller_of d.«open») (caller_of o)) (sym is) tries.1,
)
tried_told n c d o s s' (Ok None) is same tries = subst (λ (x : Command). IsHeldUp n x d (state_with d o)) (sym is) (record { looks = tries.0; snapshots = refl; watching = refl; why = tries.1 })
tried_told n c d o s s' (Err e) is same tries = tt

-- ---- snapshots

-- a reply that tells no commit makes none
pub none_grown : (p : Caller) (t : Transaction) (r : said.Reply) → made p.number t r ≡ [] → Grows p p t r
none_grown p t r makes = none_made p p (made p.number t r) makes refl

snapshot_makes : (t' : Transaction) (s : Sight) (n : ℕ) (t : Transaction) → made n t (snapshot_reply t' s) ≡ []
snapshot_makes closed s n closed = refl
snapshot_makes closed s n (reading m) = refl
snapshot_makes closed s n (writing t) = refl
snapshot_makes (reading k) s n closed = refl
snapshot_makes (reading k) s n (reading m) = refl
snapshot_makes (reading k) s n (writing t) = refl
snapshot_makes (writing k) s n closed = refl
snapshot_makes (writing k) s n (reading m) = refl
snapshot_makes (writing k) s n (writing t) = refl

-- a line that changes nothing
pub kept_state : (c : Command) (d : SessionState) (r : said.Reply) → IsOfRows c → Stands d.«open» → number_printed r ≡ [] → ((n : ℕ) (t : Transaction) → made n t r ≡ []) → ((v : Client) → Follows d v → (let p = caller_of d.«open» in IsAnswered p.schema p.seen p.number (length p.seen) v c r v)) → RepliesTo c d d r
kept_state c d r rows stands none makes says v follows = record {
  next = v;
  answers = record {
    now = length (caller_of d.«open»).seen;
    not_older = follows.last;
    there = search (arith);
    says = says v follows;
    entry = no_entry (caller_of d.«open»).seen (caller_of d.«open»).number v.transaction r none;
  };
  cells = rows_cells (cells_seen (caller_of d.«open»)) v c r v rows;
  follows = follows;
  grows = none_grown (caller_of d.«open») (transaction_of d.«open») r (makes (caller_of d.«open»).number (transaction_of d.«open»));
  numbered = none_numbered (caller_of d.«open») (transaction_of d.«open») r none (makes (caller_of d.«open»).number (transaction_of d.«open»));
}

-- the snapshot of a name, by what it sees
record Found (p : Caller) (found : Option Sight) (view : View) : Type 0 where
  sight : Sight
  is : found ≡ Some sight
  sees : view_of p sight ≡ view

found_sight : (p : Caller) (found : Option Sight) (view : View) → Some view ≡ option_map (view_of p) found → Found p found view
found_sight p None view e = cc
found_sight p (Some s) view e = record { sight = s; is = refl; sees = cc }

snapshot_says : (d : SessionState) (v : Client) (name : Bytes) (q : Query) (view : View) (why : asked.AskRefusal) → Follows d v → seen_in d.snapshots name ≡ Some view → ask view.schema view.state q ≡ Err why → outcome v (ask_turn (caller_of d.«open»).schema (caller_of d.«open»).seen v (ask_line.InSnapshot name q)) ≡ (said.refused (question_word why), v)
snapshot_says d v name q view why follows there refuses =
    let found = found_sight (caller_of d.«open») (snapshot_named name v.snapshots) view (sym there ∙ follows.snapshots name) in
    let told : ask (caller_of d.«open»).schema (state_seen (caller_of d.«open»).schema (caller_of d.«open»).seen found.sight) q ≡ Err why = ap (λ (x : View). ask x.schema x.state q) found.sees ∙ refuses in
    rw (found.is, told) refl

snapshot_tells : (d : SessionState) (v : Client) (name : Bytes) (q : Query) (view : View) (a : Answer) → Follows d v → seen_in d.snapshots name ≡ Some view → ask view.schema view.state q ≡ Ok a → outcome v (ask_turn (caller_of d.«open»).schema (caller_of d.«open»).seen v (ask_line.InSnapshot name q)) ≡ (said.answered a, v)
snapshot_tells d v name q view a follows there tells =
    let found = found_sight (caller_of d.«open») (snapshot_named name v.snapshots) view (sym there ∙ follows.snapshots name) in
    let told : ask (caller_of d.«open»).schema (state_seen (caller_of d.«open»).schema (caller_of d.«open»).seen found.sight) q ≡ Ok a = ap (λ (x : View). ask x.schema x.state q) found.sees ∙ tells in
    rw (found.is, told) refl

-- a question of a snapshot that is answered
pub snapshot_answered : (d : SessionState) (name : Bytes) (q : Query) (view : View) (a : Answer) → Stands d.«open» → seen_in d.snapshots name ≡ Some view → AnswersAsk (ask view.schema view.state q) (Ok a) → RepliesTo (command.Ask (ask_line.InSnapshot name q)) d d (said.answered a)
snapshot_answered d name q view a stands there answers = of (ask view.schema view.state q) refl answers
  where
    of : (x : Asked Answer) → ask view.schema view.state q ≡ x → AnswersAsk x (Ok a) → RepliesTo (command.Ask (ask_line.InSnapshot name q)) d d (said.answered a)
    of (Err why) is told = cc
    of (Ok b) is told =
        let same : a ≡ b = cc in
        kept_state (command.Ask (ask_line.InSnapshot name q)) d (said.answered a) tt stands refl (answer_makes a) (λ v follows. snapshot_tells d v name q view a follows there (is ∙ ap Ok (sym same)))

no_rule : {A : Type 0} (P : A → Type 0) (r : Result A AllocError) → IsErr r → IfOk r P
no_rule P (Ok x) is = cc
no_rule P (Err e) is = tt

abbrev RefusedState : Command → SessionState → Option rules.the_data → Type 0
RefusedState c d None = ⊤
RefusedState c d (Some rule) = RepliesTo c d d (said.refused (rule_name (caller_of d.«open»).schema rule))

pub snapshot_refused : (d : SessionState) (name : Bytes) (q : Query) (view : View) (e : AskError) (rule : Option rules.the_data) (result : Result replied_by.the_data AllocError) → Stands d.«open» → seen_in d.snapshots name ≡ Some view → AnswersAsk (ask view.schema view.state q) (Err e) → rule ≡ question_rule e → MatchOption rule (IsErr result) (λ r. result ≡ Ok (replied_by.Refused r)) → IfOk result (λ r. RepliesTo (command.Ask (ask_line.InSnapshot name q)) d d (reply_of (caller_of d.«open»).schema r))
snapshot_refused d name q view e rule result stands there answers rule_is told = of (ask view.schema view.state q) refl answers
  where
    C : Command
    C = command.Ask (ask_line.InSnapshot name q)

    by_rule : (x : Option rules.the_data) → rule ≡ x → RefusedState C d x → IfOk result (λ r. RepliesTo C d d (reply_of (caller_of d.«open»).schema r))
    by_rule None is turns = no_rule (λ r. RepliesTo C d d (reply_of (caller_of d.«open»).schema r)) result (subst (λ (y : Option rules.the_data). MatchOption y (IsErr result) (λ r. result ≡ Ok (replied_by.Refused r))) is told)
    by_rule (Some x) is turns = subst (λ (y : Result replied_by.the_data AllocError). IfOk y (λ r. RepliesTo C d d (reply_of (caller_of d.«open»).schema r))) (sym (subst (λ (y : Option rules.the_data). MatchOption y (IsErr result) (λ r. result ≡ Ok (replied_by.Refused r))) is told)) turns

    refuses : (why : asked.AskRefusal) → ask view.schema view.state q ≡ Err why → RepliesTo C d d (said.refused (question_word why))
    refuses why is = kept_state C d (said.refused (question_word why)) tt stands refl (refused_makes (question_word why)) (λ v follows. snapshot_says d v name q view why follows there is)

    of : (x : Asked Answer) → ask view.schema view.state q ≡ x → AnswersAsk x (Err e) → IfOk result (λ r. RepliesTo C d d (reply_of (caller_of d.«open»).schema r))
    of (Ok a) is e_is = by_rule None (rule_is ∙ ap question_rule e_is) tt
    of (Err why) is e_is =
        let e_told : e ≡ ask_error why = cc in
        by_rule (Some (rules.Question (ask_error why))) (rule_is ∙ ap question_rule e_told ∙ rule_of_question why) (subst (λ (b : Bytes). RepliesTo C d d (said.refused b)) (sym (question_same why)) (refuses why is))

abbrev or_else : Option Sight → Option Sight → Option Sight
or_else None y = y
or_else (Some x) y = Some x

-- a name that no snapshot has
not_named : (p : Caller) (found : Option Sight) → is_some (option_map (view_of p) found) ≡ false → found ≡ None
not_named p None none = refl
not_named p (Some s) none = cc

-- one more snapshot under a new name
named_more : (q name : Bytes) (s : Sight) (ss : List Snapshot) → snapshot_named q (ss ++ record { name = name; sight = s } ∷ []) ≡ or_else (snapshot_named q ss) (if bytes_eq name q then Some s else None)
named_more q name s [] = refl
named_more q name s (x ∷ ss) = one (bytes_eq x.name q) (named_more q name s ss)
  where
    one : (b : Bool) → snapshot_named q (ss ++ record { name = name; sight = s } ∷ []) ≡ or_else (snapshot_named q ss) (if bytes_eq name q then Some s else None) → (if b then Some x.sight else snapshot_named q (ss ++ record { name = name; sight = s } ∷ [])) ≡ or_else (if b then Some x.sight else snapshot_named q ss) (if bytes_eq name q then Some s else None)
    one true later = refl
    one false later = later

snapshot_found : (p : Caller) (same : Bool) (s : Sight) (view : View) (found : Option Sight) → view ≡ view_of p s → (same ≡ true → found ≡ None) → cond same (Some view) (option_map (view_of p) found) ≡ option_map (view_of p) (or_else found (if same then Some s else None))
snapshot_found p true s view found sees none = rw (none refl) (ap Some sees)
snapshot_found p false s view None sees none = refl
snapshot_found p false s view (Some x) sees none = refl

-- the snapshot is of what is seen, and the others are as before
snapshot_more : (p : Caller) (same : Bool) (k : AnySnapshot) (s : Sight) (old : Option AnySnapshot) (found : Option Sight) → IsSnapshotOf p (Some k) (Some s) → (same ≡ true → found ≡ None) → IsSnapshotOf p old found → IsSnapshotOf p (cond same (Some k) old) (or_else found (if same then Some s else None))
snapshot_more p true k s old found new none is = subst (λ (x : Option Sight). IsSnapshotOf p (Some k) (or_else x (Some s))) (sym (none refl)) new
snapshot_more p false k s old None new none is = is
snapshot_more p false k s old (Some x) new none is = is

module _ (d : SessionState) (o : Open) (snaps : Named AnySnapshot) (name : Bytes) (s : Sight) (k : AnySnapshot) (r : said.Reply) (opened : some_open (transaction_of d.«open») ≡ Ok s) (caller : caller_of o ≡ caller_of d.«open») (same : transaction_of o ≡ transaction_of d.«open») (stands : Stands o) (free : is_some (seen_in d.snapshots name) ≡ false) (kept : (q : Bytes) → get_by_text snaps.kept q ≡ cond (bytes_eq name q) (Some k) (get_by_text d.snapshots.kept q)) (sees : snapshot_view k ≡ view_of (caller_of d.«open») s) (keeps : IsSnapshotOf (caller_of d.«open») (Some k) (Some s)) (reply : r ≡ snapshot_reply (transaction_of d.«open») s) where
  holder : Caller
  holder = caller_of d.«open»

  d' : SessionState
  d' = record { «open» = o; snapshots = snaps; watching = d.watching }

  none : number_printed r ≡ []
  none = ap number_printed reply ∙ snapshot_prints (transaction_of d.«open») s

  makes : made holder.number (transaction_of d.«open») r ≡ []
  unfolding holder
  makes = ap (made holder.number (transaction_of d.«open»)) reply ∙ snapshot_makes (transaction_of d.«open») s holder.number (transaction_of d.«open»)

  unnamed : (v : Client) → Follows d v → snapshot_named name v.snapshots ≡ None
  unnamed v follows = not_named (caller_of d.«open») (snapshot_named name v.snapshots) (ap is_some (sym (follows.snapshots name)) ∙ free)

  not_there : (v : Client) → Follows d v → (q : Bytes) → bytes_eq name q ≡ true → snapshot_named q v.snapshots ≡ None
  not_there v follows q is = subst (λ (x : Bytes). snapshot_named x v.snapshots ≡ None) (same_key name q is) (unnamed v follows)

  answers : (v : Client) → Follows d v → Answers holder.schema (caller_of o).seen holder.number v (command.Name (name_line.Snapshot name)) r (with_snapshot name s v)
  unfolding holder
  answers v follows =
      let free_name = unnamed v follows in
      let told : outcome v (name_turn holder.schema holder.seen v (name_line.Snapshot name)) ≡ (snapshot_reply (transaction_of d.«open») s, with_snapshot name s v) = rw (follows.transaction, opened, free_name) refl in
      record {
        now = length holder.seen;
        not_older = follows.last;
        there = rw caller (search (arith));
        says = ap (λ (q : Caller). outcome v (name_turn holder.schema q.seen v (name_line.Snapshot name))) caller ∙ told ∙ ap (λ (x : said.Reply). (x, with_snapshot name s v)) (sym reply);
        entry = no_entry (caller_of o).seen holder.number v.transaction r none;
      }

  snapshot_follows : (v : Client) → Follows d v → Follows d' (with_snapshot name s v)
  unfolding holder d'
  snapshot_follows v follows = record {
    transaction = follows.transaction ∙ sym same;
    last = rw caller follows.last;
    within = answered_within holder.schema (caller_of o).seen holder.number v (command.Name (name_line.Snapshot name)) r (with_snapshot name s v) (rw caller follows.within) (answers v follows);
    snapshots = λ q.
        seen_step (get_by_text snaps.kept q) (bytes_eq name q) k (get_by_text d.snapshots.kept q) (kept q)
        ∙ ap (cond (bytes_eq name q) (Some (snapshot_view k))) (follows.snapshots q)
        ∙ snapshot_found holder (bytes_eq name q) s (snapshot_view k) (snapshot_named q v.snapshots) sees (not_there v follows q)
        ∙ ap (option_map (view_of holder)) (sym (named_more q name s v.snapshots))
        ∙ ap (λ (x : Caller). option_map (view_of x) (snapshot_named q (v.snapshots ++ record { name = name; sight = s } ∷ []))) (sym caller);
    kept = λ q.
        subst (λ (x : Caller). IsSnapshotOf x (get_by_text snaps.kept q) (snapshot_named q (v.snapshots ++ record { name = name; sight = s } ∷ []))) (sym caller)
        (subst (λ (x : Option AnySnapshot). IsSnapshotOf holder x (snapshot_named q (v.snapshots ++ record { name = name; sight = s } ∷ []))) (sym (kept q))
        (subst (λ (x : Option Sight). IsSnapshotOf holder (cond (bytes_eq name q) (Some k) (get_by_text d.snapshots.kept q)) x) (sym (named_more q name s v.snapshots))
        (snapshot_more holder (bytes_eq name q) k s (get_by_text d.snapshots.kept q) (snapshot_named q v.snapshots) keeps (not_there v follows q) (follows.kept q))));
    knows = subst (λ (x : Caller). Knows x d.watching v.watching) (sym caller) follows.knows;
    holds = subst (λ (x : Caller). Holds x d.watching) (sym caller) follows.holds;
    stands = stands;
  }

  pub keep_replies : RepliesTo (command.Name (name_line.Snapshot name)) d (record { «open» = o; snapshots = snaps; watching = d.watching }) r
  unfolding holder d'
  keep_replies v follows = record {
    next = with_snapshot name s v;
    answers = answers v follows;
    cells = tt;
    follows = snapshot_follows v follows;
    grows = subst (λ (x : Caller). Grows holder x (transaction_of d.«open») r) (sym caller) (none_grown holder (transaction_of d.«open») r makes);
    numbered = none_numbered holder (transaction_of d.«open») r none makes;
  }

-- the two sorts of snapshots
pub present_reading : (o : Open) (pass : Caller) (txn kept : Reading) (n : ℕ) → o ≡ opens.Reading pass txn → Stands o → kept ≡ txn → n ≡ txn.view.number → Presents o (kinds.Committed kept) (said.snapshot_at n)
present_reading o pass txn kept n is stands same number =
    let s : Sight = record { number = txn.view.number; writes = []; uncommitted = false } in
    let here : Stands (opens.Reading pass txn) = subst Stands is stands in
    let by : IsReadBy pass txn s = record { committed = refl; writes = refl; number = refl; read = here.2 } in
    record {
      sight = s;
      opened = ap (λ (x : Open). some_open (transaction_of x)) is;
      sees = ap (λ (r : Reading). r.view) same ∙ here.1 ∙ sym (ap (λ (x : Open). view_of (caller_of x) s) is);
      keeps = subst (λ (x : Open). IsReadBy (caller_of x) kept s) (sym is) (subst (λ (r : Reading). IsReadBy pass r s) (sym same) by);
      reply = ap said.snapshot_at number ∙ sym (ap (λ (x : Open). snapshot_reply (transaction_of x) s) is);
    }

pub present_writing : (o : Open) (txn : WriteTxn Bytes) (kept : View) (n : ℕ) → o ≡ opens.Writing txn → Stands o → AnswersSnapshot (txn_of txn).spoiled (present_view (txn_of txn)) (Ok kept) → n ≡ length (txn_of txn).caller.seen → Presents o (kinds.Uncommitted kept) (said.snapshot_within n)
present_writing o txn kept n is stands answers number =
    let s : Sight = record { number = length (txn_of txn).caller.seen; writes = (txn_of txn).writes; uncommitted = true } in
    let sound : (txn_of txn).spoiled ≡ false = subst Stands is stands in
    let sees : kept ≡ present_view (txn_of txn) = subst (λ b. AnswersSnapshot b (present_view (txn_of txn)) (Ok kept)) sound answers in
    record {
      sight = s;
      opened = ap (λ (x : Open). some_open (transaction_of x)) is;
      sees = sees ∙ sym (ap (λ (x : Open). view_of (caller_of x) s) is);
      keeps = refl;
      reply = ap said.snapshot_within number ∙ sym (ap (λ (x : Open). snapshot_reply (transaction_of x) s) is);
    }

-- a snapshot under a new name
pub new_snapshot : (d : SessionState) (o : Open) (snaps : Named AnySnapshot) (name : Bytes) (k : AnySnapshot) (r : said.Reply) → Presents d.«open» k r → caller_of o ≡ caller_of d.«open» → transaction_of o ≡ transaction_of d.«open» → Stands o → is_some (seen_in d.snapshots name) ≡ false → ((q : Bytes) → get_by_text snaps.kept q ≡ cond (bytes_eq name q) (Some k) (get_by_text d.snapshots.kept q)) → RepliesTo (command.Name (name_line.Snapshot name)) d (record { «open» = o; snapshots = snaps; watching = d.watching }) r
new_snapshot d o snaps name k r present caller same stands free kept = keep_replies d o snaps name present.sight k r present.opened caller same stands free kept present.sees present.keeps present.reply

-- the same of a snapshot that is kept with its reply, where there was memory
pub present_snapshot : (d : SessionState) (o : Open) (snaps : Named AnySnapshot) (name : Bytes) (k : AnySnapshot) (s : DbSchema) (y : replied_by.the_data) (told : Result replied_by.the_data AllocError) → Presents d.«open» k (reply_of s y) → caller_of o ≡ caller_of d.«open» → transaction_of o ≡ transaction_of d.«open» → Stands o → is_some (seen_in d.snapshots name) ≡ false
    → IfOk told (λ r. r ≡ y) → OnOk told ((q : Bytes) → get_by_text snaps.kept q ≡ cond (bytes_eq name q) (Some k) (get_by_text d.snapshots.kept q))
    → IfOk told (λ r. RepliesTo (command.Name (name_line.Snapshot name)) d (record { «open» = o; snapshots = snaps; watching = d.watching }) (reply_of s r))
present_snapshot d o snaps name k s y (Ok r) present caller same stands free is kept =
    subst (λ (x : replied_by.the_data). RepliesTo (command.Name (name_line.Snapshot name)) d (record { «open» = o; snapshots = snaps; watching = d.watching }) (reply_of s x)) (sym is)
    (new_snapshot d o snaps name k (reply_of s y) present caller same stands free kept)
present_snapshot d o snaps name k s y (Err e) present caller same stands free is kept = tt
