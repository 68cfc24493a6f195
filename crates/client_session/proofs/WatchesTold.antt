-- What lines of watches are told that look at no further commits.
use Rattle.std.proofs.Common.{◌≡◌, ◌∙◌, ◌++◌, ℕ, Bool, true, false, cond, List, [], ◌∷◌, length, Option, Some, None, Result, Ok, Err, MatchOption, IsErr, IfOk, refl, sym, ap, subst, ◌⊎◌, inl, inr, arith}
use Rattle.std.specs.Prelude.{codes, if◌then◌else◌, is_some, nat_lt, not, option_map}
use Rattle.std.specs.BTreeMap.{get_by_text}
use Rattle.std.specs.Str.{bytes_eq}
use Rattle.std.specs.declared.alloc.AllocError.{AllocError}
use Rattle.mdb_datum.specs.Bytes.{Bytes}
use Rattle.mdb_schema.specs.Answer as asked
use Rattle.mdb_schema.specs.Answer.{Asked, ask}
use Rattle.mdb_schema.specs.History.{after_writes, state_at}
use Rattle.mdb_schema.specs.Query.{Query}
use Rattle.mdb_schema.specs.ErrorsTold.{ask_error}
use Rattle.mdb_schema.specs.Schema.{DbSchema}
use Rattle.mdb_schema.specs.State.{State}
use Rattle.mdb_schema.specs.Tests.{◌>>=◌, passed}
use Rattle.mdb_schema.specs.Watchable.{is_watchable}
use Rattle.mdb_schema.specs.Write.{Write}
use Rattle.mdb_schema.specs.declared.answer.Answer.{Answer}
use Rattle.mdb_schema.specs.declared.ask_error.AskError.{AskError}
use Rattle.mdb_schema.specs.declared.ask_error.AskError.TheVariants as ask_errors
use Rattle.mdb_schema.proofs.Membership.{same_key}
use Rattle.mem_txn.specs.Checked.{IdsTellCells, IsHeldBy}
use Rattle.mem_txn.specs.Database.{Caller, Reading, cells_seen, reading_of}
use Rattle.mem_txn.specs.Held.{AnswersHeld, HeldWatch, IsHeldOf, tells_own}
use Rattle.mem_txn.proofs.HeldAlong.{asked_is_held, held_longer, state_longer}
use Rattle.watch_set.specs.Members as set_specs
use Rattle.watch_set.specs.Members.{Member, chosen}
use Rattle.client_script.specs.Client.{Client, Judged, Sight, Watch, set_named, state_seen, watch_named}
use Rattle.client_script.specs.Reply.{Reply, answered, refused}
use Rattle.client_script.specs.Turn.{Turn, asked_watched, outcome, watch_turn, with_watch}
use Rattle.client_script.specs.Watching.{limit_judged, limited, watch_called}
use Rattle.client_script.specs.declared.rule.Rule.{Rule}
use Rattle.client_script.specs.RuleName.{question_rule, question_name, rule_name}
use Rattle.client_script.proofs.RuleNames.{question_same}
use Rattle.client_script.specs.declared.command.WatchesCommand.TheVariants as watches_line
use Rattle.client_session.specs.Cells.{WatchTellsCells}
use Rattle.client_session.specs.declared.reply.Reply as own
use Rattle.client_session.specs.declared.reply.Reply.TheVariants as replies
use Rattle.client_script.specs.declared.rule.Rule.TheVariants as rules
use Rattle.client_session.specs.declared.watching.Watching.{Watching}
use Rattle.client_session.specs.inner.ReplyOf.{reply_of}
use Rattle.client_session.specs.inner.SetsKept.{PutsBack, Sets, members_in}
use Rattle.client_session.specs.inner.WatchingView.{AsksWatch, Holds, IsReadBy, IsSeenIn, IsSetOf, Knows, WatchTold, watch_of}
use Rattle.client_session.proofs.IndexPlaces.{ok_once, some_once}
use Rattle.client_session.proofs.LooksTold.{called_none, called_watch, judged_not, judged_so, unknown}
use Rattle.client_session.proofs.SetsJoined.{AddsTo, count_known, put_added, set_added}
use Rattle.client_session.proofs.WatchesNamed.{watches_more}

-- ---- the answer to a question with its watch

-- it is answered only where it may be watched
given : (w : Bool) (told : Asked Answer) (a : Answer) (h : HeldWatch) → AnswersHeld (tells_own told w) told (Ok (a, h)) → asked_watched w told ≡ Ok a
given w (Err asked.unknown_table) a h is = cc
given true (Err asked.no_prefix_name) a h is = cc
given true (Err asked.unknown_index) a h is = cc
given true (Err asked.not_unique) a h is = cc
given true (Err (asked.bad_argument why)) a h is = cc
given true (Ok b) a h is = ap (λ (x : Answer). Ok x) (sym is)
given false (Err asked.no_prefix_name) a h is = cc
given false (Err asked.unknown_index) a h is = cc
given false (Err asked.not_unique) a h is = cc
given false (Err (asked.bad_argument why)) a h is = cc
given false (Ok b) a h is = cc

err_same : {X E : Type 0} (e f : E) → ◌≡◌ {A = Result X E} (Err e) (Err f) → e ≡ f
err_same {X} {E} e f is = ap (λ (r : Result X E). of r) is
  where
    of : Result X E → E
    of (Ok x) = e
    of (Err g) = g

-- else its rule is told, or there was no memory
not_given : (w : Bool) (told : Asked Answer) (e : AskError) → AnswersHeld (tells_own told w) told (Err e) → (e ≡ ask_errors.Memory) ⊎ (asked_watched w told ≡ Err (question_name e))
not_given w (Err asked.unknown_table) e is = inr (ap (λ (x : AskError). Err (question_name x)) (sym (err_same e ask_errors.UnknownTable is)))
not_given true (Err asked.no_prefix_name) e is = inr (ap (λ (x : AskError). Err (question_name x)) (sym (err_same e ask_errors.NoPrefixName is)))
not_given true (Err asked.unknown_index) e is = inr (ap (λ (x : AskError). Err (question_name x)) (sym (err_same e ask_errors.UnknownIndex is)))
not_given true (Err asked.not_unique) e is = inr (ap (λ (x : AskError). Err (question_name x)) (sym (err_same e ask_errors.NotUnique is)))
not_given true (Err (asked.bad_argument why)) e is =
    inr (ap (λ (word : Bytes). Err word) (sym (question_same (asked.bad_argument why)) ∙ ap question_name (sym (err_same e (ask_error (asked.bad_argument why)) is))))
not_given true (Ok a) e is = inl is
not_given false (Err asked.no_prefix_name) e is = inr (ap (λ (x : AskError). Err (question_name x)) (sym (err_same e ask_errors.Unwatchable is)))
not_given false (Err asked.unknown_index) e is = inr (ap (λ (x : AskError). Err (question_name x)) (sym (err_same e ask_errors.Unwatchable is)))
not_given false (Err asked.not_unique) e is = inr (ap (λ (x : AskError). Err (question_name x)) (sym (err_same e ask_errors.Unwatchable is)))
not_given false (Err (asked.bad_argument why)) e is = inr (ap (λ (x : AskError). Err (question_name x)) (sym (err_same e ask_errors.Unwatchable is)))
not_given false (Ok a) e is = inr (ap (λ (x : AskError). Err (question_name x)) (sym (err_same e ask_errors.Unwatchable is)))

of_question : (e : AskError) (rule : Rule) (schema : DbSchema) → ◌≡◌ {A = Option Rule} (Some (rules.Question e)) (Some rule) → rule_name schema rule ≡ question_name e
of_question e rule schema is = ap (rule_name schema) (sym (some_once (Some (rules.Question e)) (rules.Question e) rule refl is))

rule_named : (e : AskError) (rule : Rule) (schema : DbSchema) → question_rule e ≡ Some rule → rule_name schema rule ≡ question_name e
rule_named ask_errors.Memory rule schema is = cc
rule_named ask_errors.UnknownTable rule schema is = of_question ask_errors.UnknownTable rule schema is
rule_named ask_errors.Unwatchable rule schema is = of_question ask_errors.Unwatchable rule schema is
rule_named ask_errors.NoPrefixName rule schema is = of_question ask_errors.NoPrefixName rule schema is
rule_named ask_errors.UnknownIndex rule schema is = of_question ask_errors.UnknownIndex rule schema is
rule_named ask_errors.NotUnique rule schema is = of_question ask_errors.NotUnique rule schema is
rule_named ask_errors.NoPrefixForm rule schema is = of_question ask_errors.NoPrefixForm rule schema is
rule_named ask_errors.ArgCount rule schema is = of_question ask_errors.ArgCount rule schema is
rule_named ask_errors.ArgKind rule schema is = of_question ask_errors.ArgKind rule schema is
rule_named ask_errors.OutOfRange rule schema is = of_question ask_errors.OutOfRange rule schema is
rule_named ask_errors.BadUuid rule schema is = of_question ask_errors.BadUuid rule schema is
rule_named ask_errors.TooLong rule schema is = of_question ask_errors.TooLong rule schema is

-- a reply that tells a rule, where there is one
pub refused_so : (rule : Option Rule) (result : Result own.Reply AllocError) (Q : own.Reply → Type 0) → MatchOption rule (IsErr result) (λ (y : Rule). result ≡ Ok (replies.Refused y)) → ((y : Rule) → rule ≡ Some y → Q (replies.Refused y)) → IfOk result Q
refused_so None (Ok x) Q told each = cc
refused_so None (Err e) Q told each = tt
refused_so (Some y) (Err e) Q told each = tt
refused_so (Some y) (Ok x) Q told each = subst Q (sym (ok_once (Ok x) x (replies.Refused y) refl told)) (each y refl)

-- ---- a question of what is read

-- the rows that the client sees are those that are read
one_answer : (p : Caller) (r : Reading) (s : Sight) (q : Query) → IsReadBy p r s → ask p.schema (state_seen p.schema p.seen s) q ≡ ask r.view.schema r.view.state q
one_answer p r s q is =
    let read = is.read in
    let at = read.0 in
    let begins = read.1 in
    let same : r ≡ reading_of at = read.2 in
    let number : s.number ≡ length at.seen = sym is.number ∙ ap (λ (x : Reading). x.view.number) same in
    let state : state_seen p.schema p.seen s ≡ state_at p.schema p.seen (length at.seen) =
    ap (λ (ws : List Write). after_writes p.schema (state_at p.schema p.seen s.number) ws) is.writes ∙ ap (λ (n : ℕ). state_at p.schema p.seen n) number in
    let seen : state_at p.schema p.seen (length at.seen) ≡ state_at p.schema at.seen (length at.seen) = state_longer p.schema at.seen p.seen (length at.seen) begins.seen (omega arith) in
    ap (λ (x : State). ask p.schema x q) (state ∙ seen) ∙ ap (λ (x : DbSchema). ask x (state_at x at.seen (length at.seen)) q) begins.schema
    ∙ ap (λ (x : Reading). ask x.view.schema x.view.state q) (sym same)

none_there : {X : Type 0} (o : Option X) → is_some o ≡ false → o ≡ None
none_there None e = refl
none_there (Some x) e = cc

some_there : {X : Type 0} (f : X → Watch) (o : Option X) → is_some o ≡ true → is_some (option_map f o) ≡ true
some_there f None e = cc
some_there f (Some x) e = refl

one_watch : (p : Caller) (b : Bool) (h x : HeldWatch) (o : Option HeldWatch) → IsHeldBy p h → (o ≡ Some x → IsHeldBy p x) → cond b (Some h) o ≡ Some x → IsHeldBy p x
one_watch p true h x o own before there = subst (IsHeldBy p) (some_once (Some h) h x refl there) own
one_watch p false h x o own before there = before there

module _ (p : Caller) (v : Client) (s : Sight) (name : Bytes) (q : Query) where
  abbrev told_answer : Asked Answer
  told_answer = ask p.schema (state_seen p.schema p.seen s) q

  abbrev by_answer : Judged Answer → Turn
  by_answer j = j >>= (λ a. Ok (answered a, with_watch name q s.number v))

  abbrev by_committed : Bool → Turn
  by_committed b = passed (codes "uncommitted") b >>= (λ committed. by_answer (asked_watched (is_watchable q.ask) told_answer))

  abbrev by_name : Option Watch → Turn
  by_name o = passed (codes "name-taken") (not (is_some o)) >>= (λ free. by_committed (not s.uncommitted))

  by_taken : (o : Option Watch) → is_some o ≡ true → outcome v (by_name o) ≡ (refused (codes "name-taken"), v)
  by_taken None e = cc
  by_taken (Some w) e = refl

  abbrev asks : Turn
  asks = watch_turn p.schema p.seen v (Ok s) name q

  module _ (old : Watching) (knows : Knows p old v.watching) (holds : Holds p old) where
    pub name_taken : is_some (get_by_text old.watches.kept name) ≡ true → AsksWatch p old v s name q (refused (codes "name-taken"))
    name_taken there = record {
      next = v;
      says = by_taken (watch_named name v.watching.watches) (ap is_some (knows.watches name) ∙ some_there (watch_of name) (get_by_text old.watches.kept name) there);
      knows = knows;
      holds = holds;
    }

    module _ (none : is_some (get_by_text old.watches.kept name) ≡ false) where
      no_watch : get_by_text old.watches.kept name ≡ None
      no_watch = none_there (get_by_text old.watches.kept name) none

      unnamed : watch_named name v.watching.watches ≡ None
      unnamed = knows.watches name ∙ ap (λ (o : Option HeldWatch). option_map (watch_of name) o) no_watch

      pub not_committed : IsSeenIn p None s → AsksWatch p old v s name q (refused (codes "uncommitted"))
      not_committed is = record {
        next = v;
        says = ap (λ (o : Option Watch). outcome v (by_name o)) unnamed ∙ ap (λ (b : Bool). outcome v (by_committed (not b))) is;
        knows = knows;
        holds = holds;
      }

      module _ (r : Reading) (read : IsReadBy p r s) where
        walked : outcome v asks ≡ outcome v (by_answer (asked_watched (is_watchable q.ask) (ask r.view.schema r.view.state q)))
        walked =
            ap (λ (o : Option Watch). outcome v (by_name o)) unnamed ∙ ap (λ (b : Bool). outcome v (by_committed (not b))) read.committed
            ∙ ap (λ (x : Asked Answer). outcome v (by_answer (asked_watched (is_watchable q.ask) x))) (one_answer p r s q read)

        pub watch_refused : (e : AskError) (rule : Rule) → (let x = ask r.view.schema r.view.state q in AnswersHeld (tells_own x (is_watchable q.ask)) x (Err e)) → question_rule e ≡ Some rule → AsksWatch p old v s name q (reply_of p.schema (replies.Refused rule))
        watch_refused e rule is rule_is = of (not_given (is_watchable q.ask) (ask r.view.schema r.view.state q) e is)
          where
            of : (e ≡ ask_errors.Memory) ⊎ (asked_watched (is_watchable q.ask) (ask r.view.schema r.view.state q) ≡ Err (question_name e)) → AsksWatch p old v s name q (reply_of p.schema (replies.Refused rule))
            of (inl memory) =
                let none_of : ◌≡◌ {A = Option Rule} (Some rule) None = sym rule_is ∙ ap question_rule memory in
                cc
            of (inr word) = record {
              next = v;
              says = walked ∙ ap (λ (j : Judged Answer). outcome v (by_answer j)) word ∙ ap (λ (n : Bytes). (refused n, v)) (sym (rule_named e rule p.schema rule_is));
              knows = knows;
              holds = holds;
            }

        read_held : (h : HeldWatch) → IsHeldOf r q h → IsHeldBy p h
        read_held h is =
            let was = read.read in
            held_longer p was.0 h was.1 (asked_is_held was.0 q h (subst (λ (x : Reading). IsHeldOf x q h) was.2 is))

        pub watch_kept : (new : Watching) (a : Answer) (h : HeldWatch) → (let x = ask r.view.schema r.view.state q in AnswersHeld (tells_own x (is_watchable q.ask)) x (Ok (a, h))) → IsHeldOf r q h
            → ((n : Bytes) → get_by_text new.watches.kept n ≡ cond (bytes_eq name n) (Some h) (get_by_text old.watches.kept n)) → new.sets ≡ old.sets → AsksWatch p new v s name q (answered a)
        watch_kept new a h is of kept sets = record {
          next = with_watch name q s.number v;
          says = walked ∙ ap (λ (j : Judged Answer). outcome v (by_answer j)) (given (is_watchable q.ask) (ask r.view.schema r.view.state q) a h is);
          knows = record {
            watches = λ n.
                ap (λ (w : Watch). watch_named n (v.watching.watches ++ w ∷ [])) own_watch
                ∙ watches_more watch_of (λ m x. refl) name h v.watching.watches n (get_by_text old.watches.kept n)
                (λ same. ap (λ (m : Bytes). get_by_text old.watches.kept m) (sym (same_key name n same)) ∙ no_watch) (knows.watches n)
                ∙ ap (λ (o : Option HeldWatch). option_map (watch_of n) o) (sym (kept n));
            sets = λ n. subst (λ (x : Sets). IsSetOf p (get_by_text x.kept n) (set_named n v.watching.sets)) (sym sets) (knows.sets n);
          };
          holds = record {
            watches = λ n x there. one_watch p (bytes_eq name n) h x (get_by_text old.watches.kept n) (read_held h of) (holds.watches n x) (sym (kept n) ∙ there);
            sets = λ n ms there. holds.sets n ms (ap (λ (x : Sets). get_by_text x.kept n) (sym sets) ∙ there);
          };
        }
          where
            own_watch : record { name = name; query = q; number = s.number } ≡ watch_of name h
            own_watch = (λ i. record { name = name; query = sym of.query i; number = (sym read.number ∙ sym of.number) i })

-- ---- a watch added to a set

module _ (p : Caller) (now : ℕ) (old new : Watching) (v : Client) (ids : IdsTellCells p) (knows : Knows p old v.watching) (holds : Holds p old) (set : Bytes) where
  pub add_unknown : (name : Bytes) → get_by_text old.watches.kept name ≡ None → WatchTold p now old v (watches_line.Add set name) (refused unknown)
  add_unknown name none = record {
    next = v;
    says = judged_not v (watch_called name v) unknown _ (called_none p old v name knows none);
    cells = tt;
    knows = knows;
    holds = holds;
  }

  pub add_told : (name : Bytes) (h : HeldWatch) (r : own.Reply) → get_by_text old.watches.kept name ≡ Some h → new.watches ≡ old.watches → AddsTo old.sets new.sets set name h r → WatchTold p now new v (watches_line.Add set name) (reply_of p.schema r)
  add_told name h r there watches adds =
      let a = set_added p old new v set name h r ids knows holds (holds.watches name h there) watches adds in
      record {
        next = a.next;
        says = judged_so v (watch_called name v) (watch_of name h) (reply_of p.schema r) a.next _ (called_watch p old v name h knows there) a.added;
        cells = subst (λ (x : Reply). WatchTellsCells (cells_seen p) v (watches_line.Add set name) x a.next) (sym (ap (reply_of p.schema) adds.reply)) a.each;
        knows = a.knows;
        holds = a.holds;
      }

  module _ (limit : ℕ) (name other : Bytes) where
    abbrev with_other : Watch → Judged Watch → Judged Watch
    with_other w j = j >>= (λ o. Ok (limited set limit w o v))

    abbrev with_first : Judged Watch → Judged Watch
    with_first j = j >>= (λ w. with_other w (watch_called other v))

    limit_missed : (o : Option HeldWatch) → get_by_text old.watches.kept name ≡ o → (o ≡ None) ⊎ (get_by_text old.watches.kept other ≡ None) → limit_judged v set limit name other ≡ Err unknown
    limit_missed None there none = ap with_first (called_none p old v name knows there)
    limit_missed (Some h) there (inl none) = cc
    limit_missed (Some h) there (inr none) = ap with_first (called_watch p old v name h knows there) ∙ ap (with_other (watch_of name h)) (called_none p old v other knows none)

    pub limit_unknown : (get_by_text old.watches.kept name ≡ None) ⊎ (get_by_text old.watches.kept other ≡ None) → WatchTold p now old v (watches_line.AddLimit set limit name other) (refused unknown)
    limit_unknown none = record {
      next = v;
      says = judged_not v (limit_judged v set limit name other) unknown _ (limit_missed (get_by_text old.watches.kept name) refl none);
      cells = tt;
      knows = knows;
      holds = holds;
    }

    module _ (h o : HeldWatch) (there : get_by_text old.watches.kept name ≡ Some h) (beside : get_by_text old.watches.kept other ≡ Some o) where
      limit_found : (b : Bool) → nat_lt (length (members_in old.sets set)) limit ≡ b → limit_judged v set limit name other ≡ Ok (if b then watch_of name h else watch_of other o)
      limit_found b is =
          ap with_first (called_watch p old v name h knows there) ∙ ap (with_other (watch_of name h)) (called_watch p old v other o knows beside)
          ∙ ap (λ (n : ℕ). Ok (if nat_lt n limit then watch_of name h else watch_of other o)) (count_known p old v set knows) ∙ ap (λ (c : Bool). Ok (if c then watch_of name h else watch_of other o)) is

      -- the watch that was chosen is added under its name
      limit_added : (b : Bool) → nat_lt (length (members_in old.sets set)) limit ≡ b → (who : Bytes) (x : HeldWatch) → (if b then watch_of name h else watch_of other o) ≡ watch_of who x → get_by_text old.watches.kept who ≡ Some x
          → (r : own.Reply) → new.watches ≡ old.watches → AddsTo old.sets new.sets set who x r → WatchTold p now new v (watches_line.AddLimit set limit name other) (reply_of p.schema r)
      limit_added b is who x chosen at r watches adds =
          let a = set_added p old new v set who x r ids knows holds (holds.watches who x at) watches adds in
          record {
            next = a.next;
            says = judged_so v (limit_judged v set limit name other) (watch_of who x) (reply_of p.schema r) a.next _ (limit_found b is ∙ ap (λ (w : Watch). Ok w) chosen) a.added;
            cells = subst (λ (y : Reply). WatchTellsCells (cells_seen p) v (watches_line.AddLimit set limit name other) y a.next) (sym (ap (reply_of p.schema) adds.reply)) a.each;
            knows = a.knows;
            holds = a.holds;
          }

      module _ (mid : Sets) (found ms : List Member) (r : own.Reply) where
        abbrev chosen_of : Bool → Member
        chosen_of b = if b then record { name = name; held = h } else record { name = other; held = o }

        abbrev one_more : Member → List Member
        one_more m = set_specs.with_watch m.name m.held (members_in old.sets set)

        limit_either : (b : Bool) → nat_lt (length (members_in old.sets set)) limit ≡ b → new.watches ≡ old.watches → ((q : Bytes) → get_by_text mid.kept q ≡ cond (bytes_eq set q) None (get_by_text old.sets.kept q)) → ms ≡ one_more (chosen_of b) → PutsBack mid new.sets set ms r
            → WatchTold p now new v (watches_line.AddLimit set limit name other) (reply_of p.schema r)
        limit_either true is watches left more puts = limit_added true is name h refl there r watches (put_added old.sets mid new.sets set name h ms r left more puts)
        limit_either false is watches left more puts = limit_added false is other o refl beside r watches (put_added old.sets mid new.sets set other o ms r left more puts)

        -- the set that was taken out has a watch more, and was put back
        pub limit_told : new.watches ≡ old.watches → ((q : Bytes) → get_by_text mid.kept q ≡ cond (bytes_eq set q) None (get_by_text old.sets.kept q)) → found ≡ members_in old.sets set
            → (let m = chosen limit found (record { name = name; held = h }) (record { name = other; held = o }) in ms ≡ set_specs.with_watch m.name m.held found) → PutsBack mid new.sets set ms r
            → WatchTold p now new v (watches_line.AddLimit set limit name other) (reply_of p.schema r)
        limit_told watches left is more puts =
            limit_either (nat_lt (length (members_in old.sets set)) limit) refl watches left
            (subst (λ (xs : List Member). let m = chosen limit xs (record { name = name; held = h }) (record { name = other; held = o }) in ms ≡ set_specs.with_watch m.name m.held xs) is more) puts
