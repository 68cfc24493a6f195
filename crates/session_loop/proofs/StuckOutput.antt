-- Where no session can go on, the text of their answers is a stuck output; where all have answered
-- each line, it is a legal one.
use Rattle.std.proofs.Common.{arith, ◌≡◌, refl, ap, sym, ◌∙◌, subst, ℕ, zero, suc, ◌+◌, ◌<◌, ◌≤◌, true, false, List, ◌∷◌, [], ◌++◌, drop, length, map, take, Option, Some, Ok, IsPermutation, slice_get}
use Rattle.std.specs.List.{enumerate_from}
use Rattle.std.proofs.Math.Seq.{drop-length, take-length}
use Rattle.std.proofs.lemmas.List.{append-nil, length-append, length-map, take-append-drop}
use Rattle.std.proofs.lemmas.List.Sorted.{length_permutation}
use Rattle.std.proofs.lemmas.Option.{slice_get_within}
use mathlib.Core.List.{IsPrefix}
use Rattle.client_script.proofs.LongerHistory.{runs_longer, start_within}
use Rattle.client_script.specs.Client.{Client, Watch, at_start}
use Rattle.client_script.specs.Legal.{Legal, all_printed, callers, printed}
use Rattle.client_script.specs.Reply.{Reply, heading, line_text, lines_text, output_text}
use Rattle.client_script.specs.Session.{Runs, Session, Sessions}
use Rattle.client_script.specs.Stuck.{AreUnmoved, HaltedSession, HaltedSessions, IsHalted, Stop, Stuck, WaitsInVain, first_stop, stop_or, stuck_text}
use Rattle.client_script.specs.declared.command.Command.{Command}
use Rattle.client_script.specs.declared.command.Command.TheVariants as command
use Rattle.client_script.specs.declared.line.Line.{Line}
use Rattle.client_session.proofs.ManyClients.{HaveMade, TellAllMade, TellsAllMade, Told, all_answered_lines, all_numbers, answered_lines, caller_of, replies_told, sessions_made, tell}
use Rattle.client_session.proofs.PlacesByCaller.{by_callers}
use Rattle.client_session.specs.Answered.{AreMade, AreTold, commit_at}
use Rattle.client_session.specs.Clients.{callers_back, headed}
use Rattle.client_session.specs.Progress.{Progress}
use Rattle.client_session.specs.Waiting.{AreWatchesOf, IsWatchOf, WaitsFor, awaited_at, client_at}
use Rattle.mdb_datum.specs.Bytes.{Bytes}
use Rattle.mdb_datum.proofs.ListPlaces.{drop_at}
use Rattle.mdb_schema.specs.Guarded.{IsGuarded}
use Rattle.mdb_schema.specs.History.{Commit, History}
use Rattle.mdb_schema.specs.Query.{Query}
use Rattle.mdb_schema.specs.Schema.{DbSchema}
use Rattle.mem_txn.specs.CellHistory.{AreComplete, CellHistory, Forest, HasFirings, IsUnfired, WatchesHold}
use Rattle.mem_txn.specs.Checked.{HeldLonger, IsBeginning, IsHeldBy}
use Rattle.mem_txn.specs.Database.{AreOf, Caller, Database, HaveSeenTrees, IsOf, IsWhole, cells_seen, commits_by}
use Rattle.mem_txn.specs.Held.{HeldWatch}
use Rattle.watch_set.specs.Checks.{with_until}
use Rattle.watch_set.specs.Members.{Member, watches_of}
use Rattle.watch_word.specs.Logs.{Cell, Log, has_fired}
use Rattle.session_loop.specs.inner.Rest.{AreAtRest, AreDone, AreRunning, FindsRest, IsAtRest, IsRunning, NoneFired, commits_told, done, first_left, waits}

-- ---- what none of the commits fires is unmoved

module _ (p : Caller) (log : Log) (firings : HasFirings (cells_seen p) (length p.seen) log) (holds : WatchesHold (cells_seen p)) where
  unfired : (c : Cell) (v : ℕ) → has_fired c log ≡ false → IsUnfired (cells_seen p) c v (length p.seen)
  unfired c v none j low high is =
      let there : has_fired c log ≡ true = firings j high c is in
      cc

  guarded : (h : HeldWatch) → IsHeldBy p h → (let spot = h.spot in has_fired spot.watch log ≡ false) → IsGuarded p.schema p.seen h.query h.number (length p.seen)
  guarded h held none = (holds h.query h.number (length p.seen) h.spot.watch held.seen (omega arith) held.cell (unfired h.spot.watch h.number none)).1

  -- the watches of a pass that has seen a beginning
  unmoved : (q : Caller) → IsBeginning q p → HeldLonger p → (ws : List Watch) (hs : List HeldWatch) → AreWatchesOf q ws hs → NoneFired log hs → AreUnmoved p.schema p.seen ws
  unmoved q begins longer [] [] are none = tt
  unmoved q begins longer [] (h ∷ hs) are none = absurd are
  unmoved q begins longer (w ∷ ws) [] are none = absurd are
  unmoved q begins longer (w ∷ ws) (h ∷ hs) are none = (one are.0, unmoved q begins longer ws hs are.1 none.1)
    where
      one : IsWatchOf q w h → IsGuarded p.schema p.seen w.query w.number (length p.seen)
      one is =
          subst (λ (n : ℕ). IsGuarded p.schema p.seen w.query n (length p.seen)) is.number
          (subst (λ (x : Query). IsGuarded p.schema p.seen x h.number (length p.seen)) is.query
          (guarded h (longer q h begins is.held) none.0))

-- ---- what a session at rest has told

abbrev told_at : (log : Log) (t : Progress) → IsAtRest log t → (replies : List Reply) × AreTold t replies
told_at log t (done all replies told) = (replies, told)
told_at log t (waits members until w none) = (w.at.replies, w.at.told)

-- no more was made than was told
none_earlier : (earlier made : List Commit) (count told : ℕ) → count ≡ length (earlier ++ made) → count ≡ told → told ≡ length made → earlier ≡ []
none_earlier [] made count told a b c = refl
none_earlier (e ∷ es) made count told a b c =
    let long = length-append es made in
    absurd (omega (arith, a, b, c, long))

as_many_told : (H : History) (ms : List ℕ) (made : List Commit) → map (commit_at H) ms ≡ map Some made → length ms ≡ length made
as_many_told H ms made e = sym (length-map ms (commit_at H)) ∙ ap length e ∙ length-map made Some

abbrev tells_all : (schema : DbSchema) (k : ℕ) (script : List Line) (t : Progress) → IsRunning script t → t.caller.schema ≡ schema → t.caller.number ≡ k → (h : (replies : List Reply) × AreTold t replies) → TellsAllMade schema k t
tells_all schema k script t running same number h =
    let p = t.caller in
    let told = h.1 in
    let made : AreMade p h.0 = told.made running.found in
    let many = as_many_told p.seen (printed h.0) made.made made.told in
    let none : made.earlier ≡ [] = none_earlier made.earlier made.made t.commits (length (printed h.0)) (running.counted ∙ ap length made.own) told.counted many in
    let own : p.own ≡ made.made = made.own ∙ ap (λ (cs : List Commit). cs ++ made.made) none in
    record {
      number = number;
      replies = h.0;
      session =
          subst (λ (n : ℕ). Session schema p.seen n (answered_lines t) h.0) number
          (subst (λ (x : DbSchema). Session x p.seen p.number (answered_lines t) h.0) same told.session);
      written = told.written;
      told = made.told ∙ ap (map Some) (sym own);
      rising = made.rising;
    }

-- the clients, numbered from k, are those of these sessions
abbrev pub AreNumbered : DbSchema → ℕ → List Progress → Type 0
AreNumbered schema k [] = Unit {0}
AreNumbered schema k (t ∷ ts) = (t.caller.schema ≡ schema) × (t.caller.number ≡ k) × AreNumbered schema (k + 1) ts

abbrev tell_all : (schema : DbSchema) (log : Log) (k : ℕ) (scripts : List (List Line)) (ts : List Progress) → AreRunning scripts ts → AreNumbered schema k ts → AreAtRest log ts → TellAllMade schema k ts
tell_all schema log k scripts [] running named rest = tt
tell_all schema log k [] (t ∷ ts) running named rest = absurd running
tell_all schema log k (s ∷ ss) (t ∷ ts) running named rest =
    (tells_all schema k s t running.0 named.0 named.1 (told_at log t rest.0), tell_all schema log (k + 1) ss ts running.1 named.2 rest.1)

-- the replies that they are told
abbrev replies_at : (schema : DbSchema) (log : Log) (k : ℕ) (scripts : List (List Line)) (ts : List Progress) → AreRunning scripts ts → AreNumbered schema k ts → AreAtRest log ts → List (List Reply)
replies_at schema log k scripts ts running named rest = replies_told schema k ts (tell_all schema log k scripts ts running named rest)

-- ---- where each session stands in the whole history

-- each pass has seen a beginning of what p has seen
abbrev pub HaveBegun : Caller → List Progress → Type 0
HaveBegun p [] = Unit {0}
HaveBegun p (t ∷ ts) = IsBeginning t.caller p × HaveBegun p ts

module _ (schema : DbSchema) (H : History) (p : Caller) (log : Log) (all : p.seen ≡ H) (same : p.schema ≡ schema) (firings : HasFirings (cells_seen p) (length p.seen) log) (holds : WatchesHold (cells_seen p)) (longer : HeldLonger p) where
  waits_in_vain : (t : Progress) (members : List Member) (until : Option HeldWatch) (w : WaitsFor t members until) → NoneFired log (with_until (watches_of members) until) → IsBeginning t.caller p → WaitsInVain schema H (client_at t w.at) w.at.line
  waits_in_vain t members until w none begins = by_command w.at.line.command refl w.judged
    where
      still : AreUnmoved schema H w.awaited
      still =
          subst (λ (x : DbSchema). AreUnmoved x H w.awaited) same
          (subst (λ (G : History). AreUnmoved p.schema G w.awaited) all
          (unmoved p log firings holds t.caller begins longer w.awaited (with_until (watches_of members) until) w.watches none))

      by_command : (c : Command) → w.at.line.command ≡ c → awaited_at c (client_at t w.at) ≡ Ok w.awaited → WaitsInVain schema H (client_at t w.at) w.at.line
      by_command (command.Transaction x) is judged = cc
      by_command (command.Write x) is judged = cc
      by_command (command.Defer x) is judged = cc
      by_command (command.Ask x) is judged = cc
      by_command (command.Name x) is judged = cc
      by_command (command.Size x) is judged = cc
      by_command (command.Watches x) is judged = record { wait = x; line = is; awaited = w.awaited; judged = judged; unmoved = still }

  halted : (t : Progress) (rest : IsAtRest log t) → IsBeginning t.caller p → IsHalted schema H ((told_at log t rest).1.session.0) (drop t.answered t.script)
  halted t (done all_answered replies told) begins =
      let none : drop t.answered t.script ≡ [] = ap (λ (n : ℕ). drop n t.script) all_answered ∙ drop-length t.script in
      subst (IsHalted schema H told.session.0) (sym none) tt
  halted t (waits members until w none) begins =
      let next = drop_at t.script t.answered w.at.line w.at.next in
      subst (IsHalted schema H (client_at t w.at)) (sym next) (waits_in_vain t members until w none begins)

  halted_session : (k : ℕ) (script : List Line) (t : Progress) (rest : IsAtRest log t) → t.script ≡ script → t.caller.schema ≡ schema → t.caller.number ≡ k → IsPrefix t.caller.seen H → IsBeginning t.caller p → HaltedSession schema H k script (told_at log t rest).0
  halted_session k script t rest is of number seen begins = record {
    first = answered_lines t;
    left = drop t.answered t.script;
    parts = sym is ∙ sym (take-append-drop t.answered t.script);
    end = h.1.session.0;
    runs =
        subst (λ (G : History). Runs schema G k at_start (answered_lines t) h.0 h.1.session.0) seen.1
        (subst (λ (n : ℕ). Runs schema (q.seen ++ seen.0) n at_start (answered_lines t) h.0 h.1.session.0) number
        (subst (λ (x : DbSchema). Runs x (q.seen ++ seen.0) q.number at_start (answered_lines t) h.0 h.1.session.0) of
        (runs_longer q.schema q.seen seen.0 q.number at_start (answered_lines t) h.0 h.1.session.0 (start_within (length q.seen)) h.1.session.1)));
    halted = halted t rest begins;
  }
    where
      q : Caller
      q = t.caller

      h : (replies : List Reply) × AreTold t replies
      h = told_at log t rest

  -- all of them
  halted_all : (k : ℕ) (scripts : List (List Line)) (ts : List Progress) (running : AreRunning scripts ts) (named : AreNumbered schema k ts) (rest : AreAtRest log ts) (made : HaveMade H ts) → HaveBegun p ts
      → HaltedSessions schema H k scripts (replies_at schema log k scripts ts running named rest)
  halted_all k [] [] running named rest made begins = tt
  halted_all k [] (t ∷ ts) running named rest made begins = absurd running
  halted_all k (s ∷ ss) [] running named rest made begins = absurd running
  halted_all k (s ∷ ss) (t ∷ ts) running named rest made begins = (
    halted_session k s t rest.0 running.0.same named.0 named.1 made.1 begins.0,
    halted_all (k + 1) ss ts running.1 named.2 rest.1 made.2 begins.1,
  )

-- ---- the text

as_many_replies : (schema : DbSchema) (H : History) (k : ℕ) (v : Client) (ls : List Line) (rs : List Reply) (end : Client) → Runs schema H k v ls rs end → length rs ≡ length ls
as_many_replies schema H k v [] [] end runs = refl
as_many_replies schema H k v [] (r ∷ rs) end runs = absurd runs
as_many_replies schema H k v (l ∷ ls) [] end runs = absurd runs
as_many_replies schema H k v (l ∷ ls) (r ∷ rs) end (next, a, runs) = ap suc (as_many_replies schema H k next ls rs end runs)

taken_long : {A : Type 0} (n : ℕ) (xs : List A) → n ≤ length xs → length (take n xs) ≡ n
taken_long zero xs le = refl
taken_long (suc n) [] le = absurd (omega (arith, le))
taken_long (suc n) (x ∷ xs) le = ap suc (taken_long n xs (omega (arith, le)))

within_script : (log : Log) (t : Progress) → IsAtRest log t → t.answered ≤ length t.script
within_script log t (done all replies told) = omega (arith, all)
within_script log t (waits members until w none) =
    let there = slice_get_within t.script t.answered w.at.line w.at.next in
    omega (arith, there)

-- a reply to each line that is answered
as_many_answered : (log : Log) (t : Progress) (rest : IsAtRest log t) → length (told_at log t rest).0 ≡ t.answered
as_many_answered log t rest =
    let h = told_at log t rest in
    let q = t.caller in
    as_many_replies q.schema q.seen q.number at_start (answered_lines t) h.0 h.1.session.0 h.1.session.1
    ∙ taken_long t.answered t.script (within_script log t rest)

-- the text of replies to the first lines is that of the whole script
lines_cut : (n : ℕ) (s : List Line) (rs : List Reply) → length rs ≤ n → lines_text (take n s) rs ≡ lines_text s rs
lines_cut zero [] rs le = refl
lines_cut zero (l ∷ ls) [] le = refl
lines_cut zero (l ∷ ls) (r ∷ rs) le = absurd (omega (arith, le))
lines_cut (suc n) [] rs le = refl
lines_cut (suc n) (l ∷ ls) [] le = refl
lines_cut (suc n) (l ∷ ls) (r ∷ rs) le = ap (λ (b : Bytes). line_text l.number r ++ b) (lines_cut n ls rs (omega (arith, le)))

output_cut : (schema : DbSchema) (log : Log) (k : ℕ) (names : List Bytes) (scripts : List (List Line)) (ts : List Progress) (running : AreRunning scripts ts) (named : AreNumbered schema k ts) (rest : AreAtRest log ts)
    → (let replies = replies_at schema log k scripts ts running named rest in output_text k names (all_answered_lines ts) replies ≡ output_text k names scripts replies)
output_cut schema log k [] scripts ts running named rest = refl
output_cut schema log k (w ∷ ws) [] [] running named rest = refl
output_cut schema log k (w ∷ ws) [] (t ∷ ts) running named rest = absurd running
output_cut schema log k (w ∷ ws) (s ∷ ss) [] running named rest = absurd running
output_cut schema log k (w ∷ ws) (s ∷ ss) (t ∷ ts) running named rest =
    let rs = (told_at log t rest.0).0 in
    let many = as_many_answered log t rest.0 in
    let one : lines_text (answered_lines t) rs ≡ lines_text s rs = lines_cut t.answered t.script rs (omega (arith, many)) ∙ ap (λ (ls : List Line). lines_text ls rs) running.0.same in
    let others = output_cut schema log (k + 1) ws ss ts running.1 named.2 rest.1 in
    λ i. let b : Bytes = heading k w ++ (one i ++ others i) in b

-- the first client that has a line left
stops_are : (schema : DbSchema) (log : Log) (k : ℕ) (scripts : List (List Line)) (ts : List Progress) (running : AreRunning scripts ts) (named : AreNumbered schema k ts) (rest : AreAtRest log ts)
    → first_stop k scripts (replies_at schema log k scripts ts running named rest) ≡ first_left k ts
stops_are schema log k [] [] running named rest = refl
stops_are schema log k [] (t ∷ ts) running named rest = absurd running
stops_are schema log k (s ∷ ss) [] running named rest = absurd running
stops_are schema log k (s ∷ ss) (t ∷ ts) running named rest =
    let many = as_many_answered log t rest.0 in
    let line : slice_get s (length (told_at log t rest.0).0) ≡ slice_get t.script t.answered = ap (slice_get s) many ∙ ap (λ (ls : List Line). slice_get ls t.answered) (sym running.0.same) in
    let others = stops_are schema log (k + 1) ss ts running.1 named.2 rest.1 in
    λ i. let stop : Option Stop = stop_or (others i) k (line i) in stop

-- ---- how many commits there are

counted_all : (schema : DbSchema) (log : Log) (k : ℕ) (scripts : List (List Line)) (ts : List Progress) (running : AreRunning scripts ts) (named : AreNumbered schema k ts) (rest : AreAtRest log ts)
    → length (all_printed k (replies_at schema log k scripts ts running named rest)) ≡ commits_told ts
counted_all schema log k scripts [] running named rest = refl
counted_all schema log k [] (t ∷ ts) running named rest = absurd running
counted_all schema log k (s ∷ ss) (t ∷ ts) running named rest =
    let h = told_at log t rest.0 in
    let replies = replies_at schema log (k + 1) ss ts running.1 named.2 rest.1 in
    let ms : List (ℕ × ℕ) = map (λ m. (m, k)) (printed h.0) in
    let both = length-append ms (all_printed (k + 1) replies) in
    let one : length ms ≡ length (printed h.0) = length-map (printed h.0) (λ m. (m, k)) in
    let own = h.1.counted in
    let others = counted_all schema log (k + 1) ss ts running.1 named.2 rest.1 in
    omega (arith, both, one, own, others)

enumerated_long : (n : ℕ) (xs : List ℕ) → length (enumerate_from n xs) ≡ length xs
enumerated_long n [] = refl
enumerated_long n (x ∷ xs) = ap suc (enumerated_long (n + 1) xs)

nothing_more : {A : Type 0} (xs ys zs : List A) → xs ++ ys ≡ zs → length xs ≡ length zs → xs ≡ zs
nothing_more xs [] zs is long = sym (append-nil xs) ∙ is
nothing_more xs (y ∷ ys) zs is long =
    let both = length-append xs (y ∷ ys) in
    let all = ap length is in
    absurd (omega (arith, both, all, long))

-- ---- the passes of the sessions, in the whole history

trees_both : (trees : List Forest) (ps qs : List Caller) → HaveSeenTrees trees (ps ++ qs) → HaveSeenTrees trees ps × HaveSeenTrees trees qs
trees_both trees [] qs h = (tt, h)
trees_both trees (p ∷ ps) qs h = let rest = trees_both trees ps qs h.1 in ((h.0, rest.0), rest.1)

own_both : (db : Database) (ps qs : List Caller) → AreOf db (ps ++ qs) → AreOf db ps × AreOf db qs
own_both db [] qs h = (tt, h)
own_both db (p ∷ ps) qs h = let rest = own_both db ps qs h.1 in ((h.0, rest.0), rest.1)

begun_all : (db : Database) (H : History) (p : Caller) (trees : List Forest) (ts : List Progress) → IsOf db p → p.seen ≡ H → p.trees ≡ trees → AreOf db (callers_back ts) → HaveSeenTrees trees (callers_back ts) → HaveMade H ts → HaveBegun p ts
begun_all db H p trees [] own seen same of saw made = tt
begun_all db H p trees (t ∷ ts) own seen same of saw made =
    let owned = own_both db (callers_back ts) (t.caller ∷ []) of in
    let saw_trees = trees_both trees (callers_back ts) (t.caller ∷ []) saw in
    let its = owned.1.0 in (
      record {
        schema = own.1 ∙ sym its.1;
        book = own.2 ∙ sym its.2;
        seen = subst (IsPrefix t.caller.seen) (sym seen) made.1;
        trees = subst (IsPrefix t.caller.trees) (sym same) saw_trees.1.0;
      },
      begun_all db H p trees ts own seen same owned.0 saw_trees.0 made.2,
    )

-- ---- sessions that have answered each line

rest_of_done : (log : Log) (ts : List Progress) → AreDone ts → AreAtRest log ts
rest_of_done log [] all = tt
rest_of_done log (t ∷ ts) all = (done all.0 all.1.0 all.1.1, rest_of_done log ts all.2)

done_lines : (scripts : List (List Line)) (ts : List Progress) → AreRunning scripts ts → AreDone ts → all_answered_lines ts ≡ scripts
done_lines [] [] running all = refl
done_lines [] (t ∷ ts) running all = absurd running
done_lines (s ∷ ss) [] running all = absurd running
done_lines (s ∷ ss) (t ∷ ts) running all =
    let one : answered_lines t ≡ s = ap (λ (n : ℕ). take n t.script) all.0 ∙ take-length t.script ∙ running.0.same in
    let others = done_lines ss ts running.1 all.2 in
    λ i. let lines : List (List Line) = one i ∷ others i in lines

-- ---- the theorem

-- The database was closed with the pass that has found all at rest, which made no commit itself.
module _ (db : Database) (scripts : List (List Line)) (p : Caller) (ts : List Progress) (J : CellHistory) (callers_are : db.callers ≡ length scripts + 1) (whole : IsWhole db (p ∷ callers_back ts) J) (number : p.number ≡ length scripts + 1) (none : p.own ≡ [])
    (running : AreRunning scripts ts) (named : AreNumbered db.schema 1 ts) (log : Log) (rest : AreAtRest log ts) (many : length ts ≡ length scripts) where
  made : HaveMade J.commits ts
  made = sessions_made db scripts 1 callers_are (p ∷ []) ts J whole

  abbrev replies : List (List Reply)
  replies = replies_at db.schema log 1 scripts ts running named rest

  told : Told db.schema J.commits 1 ts replies
  told = tell db.schema J.commits 1 ts (tell_all db.schema log 1 scripts ts running named rest) made

  no_further : (c : ℕ) → length scripts < c → c ≤ length scripts + 1 → commits_by c J.commits ≡ []
  no_further c low high =
      let is : c ≡ p.number = omega (arith, low, high, number) in
      ap (λ (n : ℕ). commits_by n J.commits) is ∙ whole.own.0 ∙ none

  numbers : IsPermutation (enumerate_from 1 (callers J.commits)) (all_printed 1 replies)
  numbers = all_numbers db scripts 1 callers_are (p ∷ []) ts J whole replies (told.numbers ∙ ap (λ (n : ℕ). by_callers caller_of 1 n 1 J.commits) many) no_further

  as_many : length J.commits ≡ commits_told ts
  as_many =
      sym (length-map J.commits (λ (c : Commit). c.caller))
      ∙ sym (enumerated_long 1 (callers J.commits))
      ∙ sym (length_permutation (enumerate_from 1 (callers J.commits)) (all_printed 1 replies) numbers)
      ∙ counted_all db.schema log 1 scripts ts running named rest

  -- where it counts as many, it has seen the whole history
  seen_all : length p.seen ≡ commits_told ts → p.seen ≡ J.commits
  seen_all counted = nothing_more p.seen whole.own.1.0 J.commits whole.own.1.1 (counted ∙ sym as_many)

  trees_all : length p.seen ≡ commits_told ts → AreComplete (cells_seen p) → p.trees ≡ J.trees
  trees_all counted complete =
      let seen = ap length (seen_all counted) in
      let there = whole.complete in
      nothing_more p.trees whole.trees.0.0 J.trees whole.trees.0.1 (omega (arith, complete, seen, there))

  stuck_after : length p.seen ≡ commits_told ts → HasFirings (cells_seen p) (length p.seen) log → AreComplete (cells_seen p) → WatchesHold (cells_seen p) → HeldLonger p → (names : List Bytes) (stop : Stop) (out : Bytes) → length names ≡ length scripts → first_left 1 ts ≡ Some stop → out ≡ headed 1 names ts ++ stuck_text stop
      → Stuck db.schema names scripts out
  stuck_after counted firings complete holds longer names stop out each first is =
      let own = whole.passes.0 in
      let seen = seen_all counted in
      let begins = begun_all db J.commits p J.trees ts own seen (trees_all counted complete) whole.passes.1 whole.trees.1 made in
      record {
        replies = replies;
        named = each;
        stop = stop;
        stopped = stops_are db.schema log 1 scripts ts running named rest ∙ first;
        written = is ∙ ap (λ (b : Bytes). b ++ stuck_text stop) (told.written names ∙ output_cut db.schema log 1 names scripts ts running named rest);
        history = J.commits;
        numbers = numbers;
        sessions = halted_all db.schema J.commits p log seen own.1 firings holds longer 1 scripts ts running named rest made begins;
      }

  legal_after : all_answered_lines ts ≡ scripts → (names : List Bytes) (out : Bytes) → length names ≡ length scripts → out ≡ headed 1 names ts → Legal db.schema names scripts out
  legal_after lines names out each is = record {
    replies = replies;
    named = each;
    written = is ∙ told.written names ∙ ap (λ (ss : List (List Line)). output_text 1 names ss replies) lines;
    history = J.commits;
    numbers = numbers;
    sessions = subst (λ (ss : List (List Line)). Sessions db.schema J.commits 1 ss replies) lines told.sessions;
  }

module _ (db : Database) (scripts : List (List Line)) (p : Caller) (ts : List Progress) (J : CellHistory) (callers_are : db.callers ≡ length scripts + 1) (whole : IsWhole db (p ∷ callers_back ts) J) (number : p.number ≡ length scripts + 1) (none : p.own ≡ [])
    (running : AreRunning scripts ts) (named : AreNumbered db.schema 1 ts) (many : length ts ≡ length scripts) (names : List Bytes) (out : Bytes) (each : length names ≡ length scripts) where
  pub stuck : FindsRest p ts → AreComplete (cells_seen p) → WatchesHold (cells_seen p) → HeldLonger p → (stop : Stop) → first_left 1 ts ≡ Some stop → out ≡ headed 1 names ts ++ stuck_text stop → Stuck db.schema names scripts out
  stuck found complete holds longer stop first is = stuck_after db scripts p ts J callers_are whole number none running named found.log found.rest many found.all found.firings complete holds longer names stop out each first is

  pub legal : AreDone ts → out ≡ headed 1 names ts → Legal db.schema names scripts out
  legal all is = legal_after db scripts p ts J callers_are whole number none running named p.log (rest_of_done p.log ts all) many (done_lines scripts ts running all) names out each is
