-- The sessions of all clients of a database have made its whole history.
use Rattle.std.proofs.Common.{arith, ◌≡◌, refl, ap, sym, ◌∙◌, subst, inl, inr, ℕ, zero, suc, ◌+◌, ◌-◌, ◌<◌, ◌≤◌, Bool, true, false, List, ◌∷◌, [], ◌++◌, drop, length, map, take, Option, Some, IsPermutation, slice_get}
use Rattle.std.specs.Prelude.{◌==◌, if◌then◌else◌}
use Rattle.std.specs.List.{enumerate_from}
use Rattle.std.proofs.Math.Seq.{take-length}
use Rattle.std.proofs.lemmas.Bool.Decides.{nat_tests}
use Rattle.std.proofs.lemmas.List.{length-append}
use mathlib.Core.List.{IsPrefix}
use mathlib.Core.Logic.{dite}
use native.Mathlib.Decide.{dec_le}
use Rattle.mdb_datum.specs.Bytes.{Bytes}
use Rattle.mdb_schema.specs.History.{Commit, History}
use Rattle.mdb_schema.specs.Schema.{DbSchema}
use Rattle.mem_txn.specs.CellHistory.{CellHistory, Forest}
use Rattle.mem_txn.specs.Database.{AreAll, AreIn, AreNamed, AreOf, Caller, Callers, Database, HasPass, IsOf, IsWhole, commits_by, new_callers, new_pass, new_passes}
use Rattle.client_script.proofs.LongerHistory.{session_longer}
use Rattle.client_script.specs.Legal.{Legal, all_printed, callers, printed}
use Rattle.client_script.specs.Reply.{Reply, heading, lines_text, output_text}
use Rattle.client_script.specs.Session.{Session, Sessions}
use Rattle.client_script.specs.declared.line.Line.{Line}
use Rattle.client_session.proofs.FromTheStart.{told_from_new}
use Rattle.client_session.proofs.PlacesByCaller.{AreAmong, all_counted, by_callers, places, places_are}
use Rattle.client_session.specs.Answered.{AreRising, HasAnswered, IsLater, commit_at}
use Rattle.client_session.specs.Clients.{AreLater, AreOpened, ArePassesLater, AreReady, TellOwn, new_sessions, callers_back, headed}
use Rattle.client_session.specs.Progress.{Progress, new_session}
use Rattle.client_session.proofs.OneMoreLine.{rising_wider}

-- ---- the passes of a new database

-- so many of them, numbered from k
abbrev pub passes_from : Database → Forest → ℕ → ℕ → List Caller
passes_from db opening k zero = []
passes_from db opening k (suc count) = new_pass db opening k ∷ passes_from db opening (k + 1) count

last_of : (db : Database) (opening : Forest) (k count : ℕ) → passes_from db opening k (suc count) ≡ passes_from db opening k count ++ new_pass db opening (k + count) ∷ []
last_of db opening k zero =
    let same : k ≡ k + 0 = omega arith in
    ap (λ (n : ℕ). new_pass db opening n ∷ []) same
last_of db opening k (suc count) =
    let same : k + 1 + count ≡ k + suc count = omega arith in
    ap (λ (ps : List Caller). new_pass db opening k ∷ ps) (last_of db opening (k + 1) count)
    ∙ ap (λ (n : ℕ). passes_from db opening k (suc count) ++ new_pass db opening n ∷ []) same

from_first : (db : Database) (opening : Forest) (count : ℕ) → new_passes db opening count ≡ passes_from db opening 1 count
from_first db opening zero = refl
from_first db opening (suc count) =
    let same : suc count ≡ 1 + count = omega arith in
    ap (λ (ps : List Caller). ps ++ new_pass db opening (suc count) ∷ []) (from_first db opening count)
    ∙ ap (λ (n : ℕ). passes_from db opening 1 count ++ new_pass db opening n ∷ []) same
    ∙ sym (last_of db opening 1 count)

length_from : (db : Database) (opening : Forest) (k count : ℕ) → length (passes_from db opening k count) ≡ count
length_from db opening k zero = refl
length_from db opening k (suc count) = ap suc (length_from db opening (k + 1) count)

new_length : (db : Database) (opening : Forest) (count : ℕ) → length (new_passes db opening count) ≡ count
new_length db opening count = ap length (from_first db opening count) ∙ length_from db opening 1 count

-- those behind the first ones
rest_from : (db : Database) (opening : Forest) (k further : ℕ) (scripts : List (List Line)) → drop (length scripts) (passes_from db opening k (length scripts + further)) ≡ passes_from db opening (k + length scripts) further
rest_from db opening k further [] =
    let none : 0 + further ≡ further = omega arith in
    let same : k ≡ k + 0 = omega arith in
    ap (passes_from db opening k) none ∙ ap (λ (n : ℕ). passes_from db opening n further) same
rest_from db opening k further (s ∷ ss) =
    let more : suc (length ss) + further ≡ suc (length ss + further) = omega arith in
    let same : k + 1 + length ss ≡ k + suc (length ss) = omega arith in
    ap (λ (n : ℕ). drop (suc (length ss)) (passes_from db opening k n)) more
    ∙ rest_from db opening (k + 1) further ss
    ∙ ap (λ (n : ℕ). passes_from db opening n further) same

-- ---- the sessions before and behind their run

-- those of a new database, numbered from k
abbrev pub sessions_from : Database → Forest → ℕ → List (List Line) → List Progress
sessions_from db opening k scripts = new_sessions (passes_from db opening k (length scripts)) scripts

first_sessions : (db : Database) (opening : Forest) (k further : ℕ) (scripts : List (List Line)) → new_sessions (passes_from db opening k (length scripts + further)) scripts ≡ sessions_from db opening k scripts
first_sessions db opening k further [] = none (passes_from db opening k (0 + further))
  where
    none : (ps : List Caller) → new_sessions ps [] ≡ []
    none [] = refl
    none (p ∷ ps) = refl
first_sessions db opening k further (s ∷ ss) =
    let more : suc (length ss) + further ≡ suc (length ss + further) = omega arith in
    ap (λ (n : ℕ). new_sessions (passes_from db opening k n) (s ∷ ss)) more
    ∙ ap (λ (ts : List Progress). new_session k s (new_pass db opening k) ∷ ts) (first_sessions db opening (k + 1) further ss)

ready_from : (db : Database) (opening : Forest) (k : ℕ) (scripts : List (List Line)) → AreReady db (sessions_from db opening k scripts)
ready_from db opening k [] = tt
ready_from db opening k (s ∷ ss) = ((refl, refl, refl), ready_from db opening (k + 1) ss)

long_from : (db : Database) (opening : Forest) (k : ℕ) (scripts : List (List Line)) → length (sessions_from db opening k scripts) ≡ length scripts
long_from db opening k [] = refl
long_from db opening k (s ∷ ss) = ap suc (long_from db opening (k + 1) ss)

pub later_long : (ss ts : List Progress) → AreLater ss ts → length ts ≡ length ss
later_long [] [] l = refl
later_long [] (t ∷ ts) l = absurd l
later_long (s ∷ ss) [] l = absurd l
later_long (s ∷ ss) (t ∷ ts) l = ap suc (later_long ss ts l.1)

passes_long : (ps qs : List Caller) → ArePassesLater ps qs → length qs ≡ length ps
passes_long [] [] l = refl
passes_long [] (q ∷ qs) l = absurd l
passes_long (p ∷ ps) [] l = absurd l
passes_long (p ∷ ps) (q ∷ qs) l = ap suc (passes_long ps qs l.1)

back_long : (ts : List Progress) → length (callers_back ts) ≡ length ts
back_long [] = refl
back_long (t ∷ ts) =
    let long = length-append (callers_back ts) (t.caller ∷ []) in
    let rest = back_long ts in
    omega (arith, long, rest)

-- ---- they belong to the database

of_both : (db : Database) (ps qs : List Caller) → AreOf db ps → AreOf db qs → AreOf db (ps ++ qs)
of_both db [] qs a b = b
of_both db (p ∷ ps) qs a b = (a.0, of_both db ps qs a.1 b)

of_later : (db : Database) (p q : Caller) → IsOf db p → IsLater p q → IsOf db q
of_later db p q own l = (l.database ∙ own.0, l.schema ∙ own.1, l.book ∙ own.2)

back_of : (db : Database) (ss ts : List Progress) → AreReady db ss → AreLater ss ts → AreOf db (callers_back ts)
back_of db [] [] ready l = tt
back_of db [] (t ∷ ts) ready l = absurd l
back_of db (s ∷ ss) [] ready l = absurd l
back_of db (s ∷ ss) (t ∷ ts) ready l =
    of_both db (callers_back ts) (t.caller ∷ []) (back_of db ss ts ready.1 l.1) (of_later db s.caller t.caller ready.0 l.0, tt)

passes_of : (db : Database) (opening : Forest) (k count : ℕ) (qs : List Caller) → ArePassesLater (passes_from db opening k count) qs → AreOf db qs
passes_of db opening k zero [] l = tt
passes_of db opening k zero (q ∷ qs) l = absurd l
passes_of db opening k (suc count) [] l = absurd l
passes_of db opening k (suc count) (q ∷ qs) l = (of_later db (new_pass db opening k) q (refl, refl, refl) l.0, passes_of db opening (k + 1) count qs l.1)

-- ---- each caller has its pass

has_left : (c : ℕ) (ps qs : List Caller) → HasPass c ps → HasPass c (ps ++ qs)
has_left c [] qs h = absurd h
has_left c (p ∷ ps) qs (inl is) = inl is
has_left c (p ∷ ps) qs (inr h) = inr (has_left c ps qs h)

has_right : (c : ℕ) (ps qs : List Caller) → HasPass c qs → HasPass c (ps ++ qs)
has_right c [] qs h = h
has_right c (p ∷ ps) qs h = inr (has_right c ps qs h)

has_back : (db : Database) (opening : Forest) (k : ℕ) (scripts : List (List Line)) (ts : List Progress) → AreLater (sessions_from db opening k scripts) ts
    → (c : ℕ) → k ≤ c → c < k + length scripts → HasPass c (callers_back ts)
has_back db opening k [] ts l c low high = absurd (omega (arith, low, high))
has_back db opening k (s ∷ ss) [] l c low high = absurd l
has_back db opening k (s ∷ ss) (t ∷ ts) l c low high = dite (dec_le c k)
    (λ le. has_right c (callers_back ts) (t.caller ∷ []) (inl (l.0.number ∙ omega (arith, le, low))))
    (λ more. has_left c (callers_back ts) (t.caller ∷ []) (has_back db opening (k + 1) ss ts l.1 c (omega (arith, more)) (omega (arith, high))))

has_further : (db : Database) (opening : Forest) (k count : ℕ) (qs : List Caller) → ArePassesLater (passes_from db opening k count) qs → (c : ℕ) → k ≤ c → c < k + count → HasPass c qs
has_further db opening k zero qs l c low high = absurd (omega (arith, low, high))
has_further db opening k (suc count) [] l c low high = absurd l
has_further db opening k (suc count) (q ∷ qs) l c low high = dite (dec_le c k)
    (λ le. inl (l.0.number ∙ omega (arith, le, low)))
    (λ more. inr (has_further db opening (k + 1) count qs l.1 c (omega (arith, more)) (omega (arith, high))))

-- ---- what each session has made

pub in_both : (H : History) (ps qs : List Caller) → AreIn H (ps ++ qs) → AreIn H ps × AreIn H qs
in_both H [] qs i = (tt, i)
in_both H (p ∷ ps) qs i = let rest = in_both H ps qs i.2 in ((i.0, i.1, rest.0), rest.1)

-- each pass has its own commits in the history, and has seen a beginning of it
abbrev pub HaveMade : History → List Progress → Type 0
HaveMade H [] = Unit {0}
HaveMade H (t ∷ ts) = (commits_by t.caller.number H ≡ t.caller.own) × IsPrefix t.caller.seen H × HaveMade H ts

have_made : (H : History) (ts : List Progress) → AreIn H (callers_back ts) → HaveMade H ts
have_made H [] i = tt
have_made H (t ∷ ts) i = let both = in_both H (callers_back ts) (t.caller ∷ []) i in (both.1.0, both.1.1, have_made H ts both.0)

-- ---- what each session has told

-- the lines of a session that are answered
abbrev pub answered_lines : Progress → List Line
answered_lines t = take t.answered t.script

abbrev pub all_answered_lines : List Progress → List (List Line)
all_answered_lines [] = []
all_answered_lines (t ∷ ts) = answered_lines t ∷ all_answered_lines ts

-- the replies to these lines tell all commits that the pass of client k has made
pub record TellsAllMade (schema : DbSchema) (k : ℕ) (t : Progress) : Type 0 where
  pub number : t.caller.number ≡ k
  pub replies : List Reply
  pub session : Session schema t.caller.seen k (answered_lines t) replies
  pub written : t.text ≡ lines_text (answered_lines t) replies
  pub told : map (commit_at t.caller.seen) (printed replies) ≡ map Some t.caller.own
  pub rising : AreRising 0 (printed replies) (length t.caller.seen)

-- so of all clients, numbered from k
abbrev pub TellAllMade : DbSchema → ℕ → List Progress → Type 0
TellAllMade schema k [] = Unit {0}
TellAllMade schema k (t ∷ ts) = TellsAllMade schema k t × TellAllMade schema (k + 1) ts

-- a session that began with no line answered, and has answered each
module _ (db : Database) (opening : Forest) (k : ℕ) (script : List Line) (t : Progress) (same : t.script ≡ script) (all : t.answered ≡ length script) where
  pub lines_are : answered_lines t ≡ script
  lines_are = ap (take t.answered) same ∙ ap (λ (n : ℕ). take n script) all ∙ take-length script

  pub answered_is_told : HasAnswered (new_session k script (new_pass db opening k)) t → TellsAllMade db.schema k t
  answered_is_told h =
      let told = told_from_new k script (new_pass db opening k) t same all h in
      record {
        number = told.later.number;
        replies = told.replies;
        session = subst (λ (ls : List Line). Session db.schema t.caller.seen k ls told.replies) (sym lines_are) told.session;
        written = told.written ∙ ap (λ (ls : List Line). lines_text ls told.replies) (sym lines_are);
        told = told.told ∙ ap (map Some) (sym told.own);
        rising = told.rising;
      }

-- ---- the numbers that a session prints

get_front : (H more : History) (n : ℕ) → n < length H → slice_get (H ++ more) n ≡ slice_get H n
get_front [] more n less = absurd (omega (arith, less))
get_front (c ∷ H) more zero less = refl
get_front (c ∷ H) more (suc n) less = get_front H more n (omega (arith, less))

rising_long : (low high : ℕ) (ms : List ℕ) → AreRising low ms high → low ≤ high
rising_long low high [] r = r
rising_long low high (m ∷ ms) r = let a = r.0 in let b = rising_long m high ms r.1 in omega (arith, a, b)

same_commits : (H more : History) (low : ℕ) (ms : List ℕ) → AreRising low ms (length H) → map (commit_at (H ++ more)) ms ≡ map (commit_at H) ms
same_commits H more low [] r = refl
same_commits H more low (m ∷ ms) r =
    let first = r.0 in
    let last = rising_long m (length H) ms r.1 in
    let one : commit_at (H ++ more) m ≡ commit_at H m = get_front H more (m - 1) (omega (arith, first, last)) in
    let rest = same_commits H more m ms r.1 in
    λ i. let all : List (Option Commit) = one i ∷ rest i in all

abbrev pub caller_of : Commit → ℕ
caller_of c = c.caller

module _ (schema : DbSchema) (H : History) (k : ℕ) (t : Progress) (own : commits_by t.caller.number H ≡ t.caller.own) (seen : IsPrefix t.caller.seen H) (h : TellsAllMade schema k t) where
  -- the commits that it tells are the client's own in the whole history
  own_told : map (commit_at H) (printed h.replies) ≡ map Some (commits_by k H)
  own_told =
      let p = t.caller in
      let ms = printed h.replies in
      let wider : map (commit_at H) ms ≡ map (commit_at p.seen) ms = subst (λ (G : History). map (commit_at G) ms ≡ map (commit_at p.seen) ms) seen.1 (same_commits p.seen seen.0 0 ms h.rising) in
      let made : p.own ≡ commits_by k H = sym own ∙ ap (λ (n : ℕ). commits_by n H) h.number in
      wider ∙ h.told ∙ ap (λ (cs : List Commit). map Some cs) made

  -- they are the numbers of the client's commits in the whole history
  numbers_are : printed h.replies ≡ places (λ (c : Commit). caller_of c == k) 1 H
  numbers_are =
      let p = t.caller in
      let ms = printed h.replies in
      let long = length-append p.seen seen.0 in
      let all = ap length seen.1 in
      let rising : AreRising 0 ms (length H) = rising_wider 0 (length p.seen) (length H) ms (omega (arith, long, all)) h.rising in
      places_are (λ (c : Commit). caller_of c == k) H ms rising own_told

  session_in : Session schema H k (answered_lines t) h.replies
  session_in = subst (λ (G : History). Session schema G k (answered_lines t) h.replies) seen.1 (session_longer schema t.caller.seen seen.0 k (answered_lines t) h.replies h.session)

-- ---- the whole output

-- the replies that they are told
abbrev pub replies_told : (schema : DbSchema) (k : ℕ) (ts : List Progress) → TellAllMade schema k ts → List (List Reply)
replies_told schema k [] told = []
replies_told schema k (t ∷ ts) told = told.0.replies ∷ replies_told schema (k + 1) ts told.1

-- these are the replies of the sessions, numbered from k, in the whole history
pub record Told (schema : DbSchema) (H : History) (k : ℕ) (ts : List Progress) (replies : List (List Reply)) : Type 0 where
  pub sessions : Sessions schema H k (all_answered_lines ts) replies
  pub written : (names : List Bytes) → headed k names ts ≡ output_text k names (all_answered_lines ts) replies
  pub numbers : all_printed k replies ≡ by_callers caller_of k (length ts) 1 H
  pub own : TellOwn H k replies

no_names : (k : ℕ) (names : List Bytes) → headed k names [] ≡ output_text k names [] []
no_names k [] = refl
no_names k (w ∷ ws) = refl

pub tell : (schema : DbSchema) (H : History) (k : ℕ) (ts : List Progress) (told : TellAllMade schema k ts) → HaveMade H ts → Told schema H k ts (replies_told schema k ts told)
tell schema H k [] told made = record { sessions = tt; written = no_names k; numbers = refl; own = tt }
tell schema H k (t ∷ ts) told made =
    let h = told.0 in
    let others = replies_told schema (k + 1) ts told.1 in
    let rest = tell schema H (k + 1) ts told.1 made.2 in
    let numbers = numbers_are schema H k t made.0 made.1 h in
    record {
      sessions = (session_in schema H k t made.0 made.1 h, rest.sessions);
      written = both h.replies others h.written rest.written;
      numbers = λ i. let r : List (ℕ × ℕ) = map (λ m. (m, k)) (numbers i) ++ rest.numbers i in r;
      own = (own_told schema H k t made.0 made.1 h, rest.own);
    }
  where
    both : (rs : List Reply) (rss : List (List Reply)) → t.text ≡ lines_text (answered_lines t) rs → ((names : List Bytes) → headed (k + 1) names ts ≡ output_text (k + 1) names (all_answered_lines ts) rss)
        → (names : List Bytes) → headed k names (t ∷ ts) ≡ output_text k names (all_answered_lines (t ∷ ts)) (rs ∷ rss)
    both rs rss is others [] = refl
    both rs rss is others (w ∷ ws) = λ i. let b : Bytes = heading k w ++ (is i ++ others ws i) in b

-- each commit is made by one of the first n callers, where none is by those behind them
among : (n all : ℕ) (H : History) → AreNamed all H → ((c : ℕ) → n < c → c ≤ all → commits_by c H ≡ []) → AreAmong caller_of 1 n H
among n all [] named none = tt
among n all (c ∷ H) named none = (omega (arith, named.0), few, among n all H named.2 none_behind)
  where
    -- a commit that is there is one of its caller
    its_own : (x : Commit) (xs : History) → commits_by x.caller (x ∷ xs) ≡ [] → ⊥
    its_own x xs e =
        let own : (x.caller == x.caller) ≡ true = grind (arith, nat_tests) in
        let there : commits_by x.caller (x ∷ xs) ≡ x ∷ commits_by x.caller xs = ap (λ (b : Bool). if b then x ∷ commits_by x.caller xs else commits_by x.caller xs) own in
        let none : x ∷ commits_by x.caller xs ≡ [] = sym there ∙ e in
        cc

    few : c.caller < 1 + n
    few = dite (dec_le c.caller n) (λ le. omega (arith, le)) (λ more. absurd (its_own c H (none c.caller (omega (arith, more)) named.1)))

    none_behind : (m : ℕ) → n < m → m ≤ all → commits_by m H ≡ []
    none_behind m low high = by_first (c.caller == m) (none m low high)
      where
        by_first : (b : Bool) → (if b then c ∷ commits_by m H else commits_by m H) ≡ [] → commits_by m H ≡ []
        by_first true e = cc
        by_first false e = e

-- ---- the call's steps

-- there is a pass for each script, and one for each further caller
pub as_many_passes : (db : Database) (opening : Forest) (count : ℕ) (all : Callers) → all ≡ new_callers db opening count → length all.passes ≡ count
as_many_passes db opening count all are = ap (λ (c : Callers). length c.passes) are ∙ new_length db opening count

-- the sessions of these scripts on a new database
module _ (db : Database) (scripts : List (List Line)) (further : ℕ) (left : Callers) (items : List Progress) (opened : AreOpened db scripts further left items) where
  all_from : opened.all.passes ≡ passes_from db opened.opening 1 (length scripts + further)
  all_from = ap (λ (c : Callers). c.passes) opened.are_all ∙ from_first db opened.opening (length scripts + further)

  pub items_are : items ≡ sessions_from db opened.opening 1 scripts
  items_are = opened.sessions ∙ ap (λ (ps : List Caller). new_sessions ps scripts) all_from ∙ first_sessions db opened.opening 1 further scripts

  pub left_are : left.passes ≡ passes_from db opened.opening (1 + length scripts) further
  left_are = ap (λ (c : Callers). c.passes) opened.rest ∙ ap (drop (length scripts)) all_from ∙ rest_from db opened.opening 1 further scripts

  left_made : left.made ≡ length scripts + further
  left_made = ap (λ (c : Callers). c.made) opened.rest ∙ ap (λ (c : Callers). c.made) opened.are_all

  pub all_ready : AreReady db items
  all_ready = subst (AreReady db) (sym items_are) (ready_from db opened.opening 1 scripts)

  pub as_many : length items ≡ length scripts
  as_many = ap length items_are ∙ long_from db opened.opening 1 scripts

  -- behind their run
  module _ (ts : List Progress) (later : AreLater items ts) where
    pub later_from : AreLater (sessions_from db opened.opening 1 scripts) ts
    later_from = subst (λ (ss : List Progress). AreLater ss ts) items_are later

    pub as_many_after : length ts ≡ length scripts
    as_many_after = later_long items ts later ∙ as_many

    pub all_of : AreOf db (callers_back ts)
    all_of = back_of db items ts all_ready later

    -- with the passes that no session has
    module _ (passes : Callers) (are : ArePassesLater left.passes passes.passes) (made : passes.made ≡ left.made) where
      further_later : ArePassesLater (passes_from db opened.opening (1 + length scripts) further) passes.passes
      further_later = subst (λ (ps : List Caller). ArePassesLater ps passes.passes) left_are are

      further_long : length passes.passes ≡ further
      further_long = passes_long left.passes passes.passes are ∙ ap length left_are ∙ length_from db opened.opening (1 + length scripts) further

      pub room_back : length passes.passes + length ts ≤ passes.made
      room_back = omega (arith, further_long, as_many_after, made, left_made)

      -- with all passes again
      module _ (given : Callers) (back : given ≡ record passes { passes = passes.passes ++ callers_back ts }) where
        pub given_are : given.passes ≡ passes.passes ++ callers_back ts
        given_are = ap (λ (c : Callers). c.passes) back

        pub some_given : 1 ≤ length scripts → 0 < length given.passes
        some_given some =
            let long : length given.passes ≡ length (passes.passes ++ callers_back ts) = ap length given_are in
            let both = length-append passes.passes (callers_back ts) in
            let many = back_long ts in
            omega (arith, long, both, many, some, as_many_after)

        pub given_of : AreOf db given.passes
        given_of = subst (AreOf db) (sym given_are) (of_both db passes.passes (callers_back ts) (passes_of db opened.opening (1 + length scripts) further passes.passes further_later) all_of)

        pub given_all : AreAll db.callers given.passes
        given_all = subst (AreAll db.callers) (sym given_are) has
          where
            has : AreAll db.callers (passes.passes ++ callers_back ts)
            has c low high = dite (dec_le c (length scripts))
                (λ le. has_right c passes.passes (callers_back ts) (has_back db opened.opening 1 scripts ts later_from c (omega (arith, low)) (omega (arith, le))))
                (λ more. has_left c passes.passes (callers_back ts) (has_further db opened.opening (1 + length scripts) further passes.passes further_later c (omega (arith, more)) (omega (arith, high, opened.callers))))

-- ---- the whole history, of which these passes and sessions are back

module _ (db : Database) (scripts : List (List Line)) (further : ℕ) (callers_are : db.callers ≡ length scripts + further) (passes : List Caller) (ts : List Progress) (J : CellHistory) (whole : IsWhole db (passes ++ callers_back ts) J) where
  pub sessions_made : HaveMade J.commits ts
  sessions_made = have_made J.commits ts (in_both J.commits passes (callers_back ts) whole.own).1

  pub named_all : AreNamed (length scripts + further) J.commits
  named_all = subst (λ (n : ℕ). AreNamed n J.commits) callers_are whole.named

  -- the numbers that the sessions print are those of all commits, where no other pass has made one
  pub all_numbers : (replies : List (List Reply)) → all_printed 1 replies ≡ by_callers caller_of 1 (length scripts) 1 J.commits → ((c : ℕ) → length scripts < c → c ≤ length scripts + further → commits_by c J.commits ≡ [])
      → IsPermutation (enumerate_from 1 (callers J.commits)) (all_printed 1 replies)
  all_numbers replies are none =
      let within : AreAmong caller_of 1 (length scripts) J.commits = among (length scripts) (length scripts + further) J.commits named_all none in
      subst (IsPermutation (enumerate_from 1 (callers J.commits))) (sym are) (all_counted caller_of 1 (length scripts) 1 J.commits within)

-- the sessions of all passes have answered each line: their text is a legal output
pub all_legal : (db : Database) (scripts : List (List Line)) (ts : List Progress) (J : CellHistory) → db.callers ≡ length scripts → IsWhole db (callers_back ts) J → length ts ≡ length scripts → all_answered_lines ts ≡ scripts
    → (replies : List (List Reply)) → Told db.schema J.commits 1 ts replies → (names : List Bytes) (out : Bytes) → length names ≡ length scripts → out ≡ headed 1 names ts → Legal db.schema names scripts out
all_legal db scripts ts J callers_are whole long lines replies told names out named is = record {
  replies = replies;
  named = named;
  written = is ∙ told.written names ∙ ap (λ (ss : List (List Line)). output_text 1 names ss replies) lines;
  history = J.commits;
  numbers = all_numbers db scripts 0 (callers_are ∙ omega arith) [] ts J whole replies (told.numbers ∙ ap (λ (n : ℕ). by_callers caller_of 1 n 1 J.commits) long) none;
  sessions = subst (λ (ss : List (List Line)). Sessions db.schema J.commits 1 ss replies) lines told.sessions;
}
  where
    none : (c : ℕ) → length scripts < c → c ≤ length scripts + 0 → commits_by c J.commits ≡ []
    none c low high = absurd (omega (arith, low, high))
