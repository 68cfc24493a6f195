-- What a line is told that asks a question whose watch is kept.
use Rattle.std.proofs.Common.{◌≡◌, ◌∙◌, ◌≤◌, ◌&&◌, inl, inr, ℕ, Bool, true, false, not, List, length, Option, Some, None, Result, Ok, Err, Decides, refl, sym, ap, subst, codes}
use Rattle.std.specs.Prelude.{is_some, option_and_then, option_map, slice_get}
use Rattle.std.specs.Result.{IsErrAnd}
use Rattle.std.proofs.lemmas.Bool.{and_parts, false≢true}
use Rattle.mdb_datum.specs.Bytes.{Bytes}
use Rattle.mdb_datum.specs.Pairs.{first_item, last_item}
use Rattle.mdb_datum.specs.Row.{Fields, Pair}
use Rattle.mdb_schema.specs.Answer.{AskRefusal, Asked, answer, ask, ask_rows, bad_argument, is_exact, lookup_of, no_prefix_name, picked, not_unique, unknown_index, unknown_table}
use Rattle.mdb_schema.specs.Entries.{entries}
use Rattle.mdb_schema.specs.History.{History, after_writes, state_at}
use Rattle.mdb_schema.specs.Query.{Query}
use Rattle.mdb_schema.specs.ErrorsTold.{ask_error}
use Rattle.mdb_schema.specs.Schema.{DbSchema, TableSchema, table_place}
use Rattle.mdb_schema.specs.State.{IsLawfulState, State, Table}
use Rattle.mdb_schema.specs.Tests.{◌>>=◌, needed, passed}
use Rattle.mdb_schema.specs.Watchable.{HasFound, is_for_one, is_watchable}
use Rattle.mdb_schema.specs.declared.answer.Answer.{Answer}
use Rattle.mdb_schema.specs.declared.answer.Answer.TheVariants.{One}
use Rattle.mdb_schema.specs.declared.ask.Ask.{Ask}
use Rattle.mdb_schema.specs.declared.ask.Ask.TheVariants.{First, Last, Get, GetReverse, Lower, ReverseLower, Longest}
use Rattle.mdb_schema.specs.declared.ask_error.AskError.{AskError}
use Rattle.mdb_schema.proofs.LawfulStates.{state_at_lawful, writes_keep}
use Rattle.client_script.specs.Client as plain
use Rattle.client_script.specs.Client.{Judged}
use Rattle.client_script.specs.RefusedWord.{question_word}
use Rattle.client_script.specs.Reply.{answered}
use Rattle.client_script.specs.Turn.{Turn, asked_watched, watch_turn, with_watch}
use Rattle.client_script.specs.declared.rule.Rule.{Rule}
use Rattle.client_script.specs.RuleName.{rule_name}
use Rattle.client_script.proofs.RuleNames.{question_same}
use Rattle.run_check.specs.declared.client.Client.{Client}
use Rattle.run_check.specs.declared.lookup.Lookup as code
use Rattle.client_script.specs.declared.rule.Rule.TheVariants as rules
use Rattle.run_check.specs.declared.session.Refused.{Refused}
use Rattle.run_check.specs.declared.session.Refused.TheVariants as refusals
use Rattle.run_check.specs.declared.session.Sessions.{Sessions}
use Rattle.run_check.specs.declared.sight.Own.{Own}
use Rattle.run_check.specs.declared.sight.Sight.{Sight}
use Rattle.run_check.specs.declared.store.Store.{Store}
use Rattle.run_check.specs.declared.watching.Watch.{Watch}
use Rattle.run_check.specs.inner.AnswerView.{answer_at, has_row}
use Rattle.run_check.specs.inner.ClientView.{known, sight_known}
use Rattle.run_check.specs.inner.AskedView.{question_refused}
use Rattle.run_check.specs.inner.EditView.{seen_of}
use Rattle.run_check.specs.inner.LookupView.{IsLookup, TellsNoLookup, looked_up}
use Rattle.run_check.specs.inner.NamedView.{place_in}
use Rattle.run_check.specs.inner.SessionView.{IsKnown, IsSoundWatch, TurnTold}
use Rattle.run_check.specs.inner.StoreView.{Begun, IsSightOf, StandsFor, first_writes, state_seen}
use Rattle.run_check.proofs.GuardedAnswers.{rows_at}
use Rattle.run_check.proofs.AnswerSeen.{answer_is, index_there}
use Rattle.run_check.proofs.QuestionsTold.{ask_refused, refused_by}
use Rattle.run_check.proofs.WatchesKept.{IsOther, lookup_other, other_then, watch_there}

-- ---- rules, in their order

-- of a question that isn't watched, in a table that is there
unwatched : (a : Asked Answer) → IsOther a → asked_watched false a ≡ Err (codes "unwatchable")
unwatched (Ok a) is = refl
unwatched (Err unknown_table) is = absurd is
unwatched (Err no_prefix_name) is = refl
unwatched (Err unknown_index) is = refl
unwatched (Err not_unique) is = refl
unwatched (Err (bad_argument r)) is = refl

watched : (why : AskRefusal) → asked_watched true (Err why) ≡ Err (question_word why)
watched unknown_table = refl
watched no_prefix_name = refl
watched unknown_index = refl
watched not_unique = refl
watched (bad_argument r) = refl

no_table : (b : Bool) → asked_watched b (Err unknown_table) ≡ Err (codes "unknown-table")
no_table true = refl
no_table false = refl

abbrev made : ℕ → TableSchema → List Fields → Table
made place t rows = record { place = place; schema = t; rows = rows }

abbrev rows_there : State → ℕ → TableSchema → Option Table
rows_there s place t = option_map (made place t) (slice_get s place)

abbrev asks_at : Query → Option Table → Asked Answer
asks_at q o = needed unknown_table o >>= (λ (t : Table). ask_rows t.schema t.rows q)

ask_other : (schema : DbSchema) (s : State) (q : Query) (place : ℕ) (t : TableSchema) → IsLawfulState schema s → table_place q.table schema ≡ Some place → slice_get schema place ≡ Some t → IsOther (ask schema s q)
ask_other schema s q place t lawful named there =
    let r = rows_at schema s place t lawful there in
    subst IsOther
    (sym (ap (λ (o : Option ℕ). asks_at q (option_and_then (λ (p : ℕ). option_and_then (rows_there s p) (slice_get schema p)) o)) named
    ∙ ap (λ (o : Option TableSchema). asks_at q (option_and_then (rows_there s place) o)) there
    ∙ ap (λ (o : Option (List Fields)). asks_at q (option_map (made place t) o)) r.1))
    (other_then (lookup_of t q) (λ at. Ok (answer q.ask (is_exact at.index q) at.key (entries t at.index r.0))) (lookup_other t q) (λ at. tt))

module _ (schema : DbSchema) (H : History) (txns : List Begun) (v : Client) (s : Sight) (name : Bytes) (q : Query) (paired : length v.watching.watches.names ≡ length v.watching.watches.values.items) (o : Option ℕ) (place : o ≡ place_in name v.watching.watches.names) where
  abbrev turn_here : Turn
  turn_here = watch_turn schema H (known txns v) (Ok (sight_known txns s)) name q

  abbrev turn_by : Bool → Bool → Judged Answer → Turn
  turn_by taken own a =
      passed (codes "name-taken") (not taken) >>= (λ free. passed (codes "uncommitted") (not own) >>= (λ settled. a >>= (λ (x : Answer). Ok (answered x, with_watch name q s.commits (known txns v)))))

  abbrev seen : State
  seen = state_seen schema H txns s

  lawful : IsLawfulState schema seen
  lawful = writes_keep schema (state_at schema H s.commits) (first_writes txns s.own) (state_at_lawful schema H s.commits)

  abbrev judged : Judged Answer
  judged = asked_watched (is_watchable q.ask) (ask schema seen q)

  turn_is : turn_here ≡ turn_by (is_some o) (is_some s.own) judged
  turn_is = ap (λ (t : Bool). turn_by t (is_some s.own) judged) (watch_there name v.watching.watches.names v.watching.watches.values.items paired ∙ ap is_some (sym place))

  pub name_taken : is_some o ≡ true → turn_here ≡ Err (codes "name-taken")
  name_taken taken = turn_is ∙ ap (λ (t : Bool). turn_by t (is_some s.own) judged) taken

  module _ (free : is_some o ≡ false) where
    turn_free : turn_here ≡ turn_by false (is_some s.own) judged
    turn_free = turn_is ∙ ap (λ (t : Bool). turn_by t (is_some s.own) judged) free

    pub uncommitted : is_some s.own ≡ true → turn_here ≡ Err (codes "uncommitted")
    uncommitted own = turn_free ∙ ap (λ (t : Bool). turn_by false t judged) own

    module _ (settled : is_some s.own ≡ false) where
      pub turn_asked : turn_here ≡ (judged >>= (λ (x : Answer). Ok (answered x, with_watch name q s.commits (known txns v))))
      turn_asked = turn_free ∙ ap (λ (t : Bool). turn_by false t judged) settled

      pub unknown : table_place q.table schema ≡ None → turn_here ≡ Err (codes "unknown-table")
      unknown none =
          let looked : looked_up schema q ≡ Err unknown_table = ap (λ (p : Option ℕ). needed unknown_table p >>= (λ (at : ℕ). needed unknown_table (slice_get schema at) >>= (λ (t : TableSchema). lookup_of t q))) none in
          turn_asked
          ∙ ap (λ (a : Asked Answer). asked_watched (is_watchable q.ask) a >>= (λ (x : Answer). Ok (answered x, with_watch name q s.commits (known txns v)))) (ask_refused schema seen lawful q unknown_table looked)
          ∙ ap (λ (a : Judged Answer). a >>= (λ (x : Answer). Ok (answered x, with_watch name q s.commits (known txns v)))) (no_table (is_watchable q.ask))

      pub unwatchable : (at : ℕ) (t : TableSchema) → table_place q.table schema ≡ Some at → slice_get schema at ≡ Some t → is_watchable q.ask ≡ false → turn_here ≡ Err (codes "unwatchable")
      unwatchable at t named there other =
          turn_asked
          ∙ ap (λ (b : Bool). asked_watched b (ask schema seen q) >>= (λ (x : Answer). Ok (answered x, with_watch name q s.commits (known txns v)))) other
          ∙ ap (λ (a : Judged Answer). a >>= (λ (x : Answer). Ok (answered x, with_watch name q s.commits (known txns v)))) (unwatched (ask schema seen q) (ask_other schema seen q at t lawful named there))

      module _ (watchable : is_watchable q.ask ≡ true) where
        pub question_refuses : (why : AskRefusal) → looked_up schema q ≡ Err why → turn_here ≡ Err (question_word why)
        question_refuses why looked =
            turn_asked
            ∙ ap (λ (b : Bool). asked_watched b (ask schema seen q) >>= (λ (x : Answer). Ok (answered x, with_watch name q s.commits (known txns v)))) watchable
            ∙ ap (λ (a : Asked Answer). asked_watched true a >>= (λ (x : Answer). Ok (answered x, with_watch name q s.commits (known txns v)))) (ask_refused schema seen lawful q why looked)
            ∙ ap (λ (a : Judged Answer). a >>= (λ (x : Answer). Ok (answered x, with_watch name q s.commits (known txns v)))) (watched why)

        pub question_answers : (a : Answer) → ask schema seen q ≡ Ok a → turn_here ≡ Ok (answered a, with_watch name q s.commits (known txns v))
        question_answers a is =
            turn_asked
            ∙ ap (λ (b : Bool). asked_watched b (ask schema seen q) >>= (λ (x : Answer). Ok (answered x, with_watch name q s.commits (known txns v)))) watchable
            ∙ ap (λ (b : Asked Answer). asked_watched true b >>= (λ (x : Answer). Ok (answered x, with_watch name q s.commits (known txns v)))) is

-- ---- the entry that it looks up

some_there : (o : Option Fields) → is_some o ≡ true → (row : Fields) × (o ≡ Some row)
some_there None there = absurd (false≢true there)
some_there (Some row) there = (row, refl)

-- an answer that has a row is one row, to a question for one
row_of_one : (a : Ask) (exact : Bool) (key : Bytes) (es : List Pair) → is_watchable a ≡ true → has_row (answer a exact key es) ≡ true → (is_for_one a ≡ true) × (row : Fields) × (answer a exact key es ≡ One (Some row))
row_of_one First exact key es watchable has = let r = some_there (first_item (picked exact key es)) has in (refl, r.0, ap One r.1)
row_of_one Last exact key es watchable has = let r = some_there (last_item (picked exact key es)) has in (refl, r.0, ap One r.1)
row_of_one Get exact key es watchable has = absurd (false≢true has)
row_of_one GetReverse exact key es watchable has = absurd (false≢true has)
row_of_one Lower exact key es watchable has = absurd (false≢true watchable)
row_of_one ReverseLower exact key es watchable has = absurd (false≢true watchable)
row_of_one Longest exact key es watchable has = absurd (false≢true watchable)

both_true : (a b : Bool) → a ≡ true → b ≡ true → (a && b) ≡ true
both_true a b first second = ap (λ (x : Bool). x && b) first ∙ second

none_own : (o : Option Own) → is_some o ≡ false → o ≡ None
none_own None settled = refl
none_own (Some own) settled = absurd (false≢true (sym settled))

module _ (schema : DbSchema) (H : History) (txns : List Begun) (st : Store) (stands : StandsFor schema H txns st) (q : Query) (l : code.Lookup) (look : IsLookup schema q l) (s : Sight) (sight : IsSightOf H txns s) (settled : is_some s.own ≡ false) (watchable : is_watchable q.ask ≡ true) (a : Answer) (is : ask schema (state_seen schema H txns s) q ≡ Ok a) where
  committed : state_seen schema H txns s ≡ state_at schema H s.commits
  committed = ap (λ (o : Option Own). after_writes schema (state_at schema H s.commits) (first_writes txns o)) (none_own s.own settled)

  asked_then : ask schema (state_at schema H s.commits) q ≡ Ok a
  asked_then = ap (λ (x : State). ask schema x q) (sym committed) ∙ is

  ok_same : (x y : Answer) → ◌≡◌ {A = Asked Answer} (Ok x) (Ok y) → x ≡ y
  ok_same x y e = cc

  pub found_decides : (b : Bool) → b ≡ has_row a → Decides (l.exact && b) (HasFound schema H q s.commits look.at)
  found_decides b has = (
    (λ e.
        let parts = and_parts l.exact b e in
        let es = seen_of s (index_there schema H txns st stands q l look s sight).0 in
        let same : a ≡ answer_at q.ask l es = ok_same a (answer_at q.ask l es) (sym is ∙ answer_is schema H txns st stands q l look s sight) in
        let r = row_of_one q.ask l.exact l.key.items es watchable (ap has_row (sym same) ∙ sym has ∙ parts.1) in
        record {
          one = both_true (is_for_one q.ask) (is_exact look.at.index q) r.0 (sym look.exact ∙ parts.0);
          row = r.1;
          found = asked_then ∙ ap Ok (same ∙ r.2);
        }),
    (λ h.
        let one = and_parts (is_for_one q.ask) (is_exact look.at.index q) h.one in
        let same : a ≡ One (Some h.row) = ok_same a (One (Some h.row)) (sym asked_then ∙ h.found) in
        both_true l.exact b (look.exact ∙ one.1) (has ∙ ap has_row same)),
  )

  pub watch_sound : (w : Watch) (b : Bool) → b ≡ has_row a → w.query.now ≡ q → w.number ≡ s.commits → w.at ≡ l → w.has_found ≡ (l.exact && b) → IsSoundWatch schema H w
  watch_sound w b has query number at found =
      let Here : Query → ℕ → code.Lookup → Bool → Type 0 = λ x n y t. (n ≤ length H) × (is_watchable x.ask ≡ true) × (z : IsLookup schema x y) × Decides t (HasFound schema H x n z.at) in
      let all : Here w.query.now w.number w.at w.has_found =
      subst (λ (x : Query). Here x w.number w.at w.has_found) (sym query)
      (subst (λ (n : ℕ). Here q n w.at w.has_found) (sym number)
      (subst (λ (y : code.Lookup). Here q s.commits y w.has_found) (sym at)
      (subst (λ (t : Bool). Here q s.commits l t) (sym found) (sight.there, watchable, look, found_decides b has)))) in
      record { there = all.0; watchable = all.1; looked = all.2; found = all.3 }

-- ---- a line that a rule refuses

pub refused_told : (schema : DbSchema) (H : History) (txns : List Begun) (t : Turn) (before : plain.Client) (old : Bytes) (s : Sessions) (v : Client) (rule : Rule) (r : Result (Unit {0}) Refused) → IsErrAnd r (λ e. e ≡ refusals.By rule) → t ≡ Err (rule_name schema rule) → known txns v ≡ before → IsKnown schema H txns s v
    → TurnTold schema H t before old s v r
refused_told schema H txns t before old s v rule (Ok u) is told same k = absurd is
refused_told schema H txns t before old s v rule (Err e) is told same k = subst (λ (x : Refused). TurnTold schema H t before old s v (Err x)) (sym is) (told, txns, same, k)

-- so is one whose question breaks a rule
pub question_told_so : (schema : DbSchema) (H : History) (txns : List Begun) (t : Turn) (before : plain.Client) (old : Bytes) (s : Sessions) (v : Client) (q : Query) (error : AskError) (r : Result (Unit {0}) Refused) → IsErrAnd r (λ e. e ≡ question_refused error) → TellsNoLookup schema q error
    → ((why : AskRefusal) → looked_up schema q ≡ Err why → t ≡ Err (question_word why)) → known txns v ≡ before → IsKnown schema H txns s v → TurnTold schema H t before old s v r
question_told_so schema H txns t before old s v q error (Ok u) is none told same k = absurd is
question_told_so schema H txns t before old s v q error (Err e) is (inl memory) told same k =
    subst (λ (x : Refused). TurnTold schema H t before old s v (Err x)) (sym (is ∙ ap question_refused memory)) tt
question_told_so schema H txns t before old s v q error (Err e) is (inr n) told same k =
    refused_told schema H txns t before old s v (rules.Question (ask_error n.0)) (Err e) (is ∙ ap question_refused n.2 ∙ refused_by n.0) (told n.0 n.1 ∙ ap Err (sym (question_same n.0))) same k

pub err_is : {A E : Type 0} (r : Result A E) (x y : E) → IsErrAnd r (λ e. e ≡ x) → x ≡ y → IsErrAnd r (λ e. e ≡ y)
err_is r x y is same = subst (λ z. IsErrAnd r (λ e. e ≡ z)) same is
