-- What a list of values tells as a history, and what the calls of the front make of a pass as its
-- caller.
use Rattle.std.proofs.Common.{◌≡◌, ◌∙◌, ◌+◌, ◌^◌, ◌<◌, ◌≤◌, ◌++◌, ℕ, zero, suc, [], ◌∷◌, List, Bool, true, false, inl, inr, ⊎_elim, map, length, sym, ap, refl, subst, arith, ne_eqb}
use Rattle.std.specs.Prelude.{if◌then◌else◌, ◌==◌}
use mathlib.Core.List.{IsPrefix}
use Rattle.std.proofs.lemmas.List.{map-append, length-append, length-map, append-nil}
use Rattle.db_front.specs.Commits as front
use Rattle.db_front.specs.Passes.{FrontId, Known, AreIdle, IsNumber, fresh, all_fresh}
use Rattle.db_front.specs.Passes as front_passes
use Rattle.mdb_schema.specs.History.{Commit, History}
use Rattle.mdb_schema.specs.Schema.{DbSchema}
use Rattle.watch_word.specs.Logs.{IsLater, Log}
use Rattle.mem_txn.specs.CellHistory.{CellHistory}
use Rattle.mem_txn.specs.Checked.{Hears}
use Rattle.mem_txn.specs.Database.{AreAll, AreIn, AreMade, AreNamed, AreOf, Caller, Database, HasMade, HasPass, HasRead, HasSeen, HaveSeenTrees, IsWhole, commits_by, new_pass, new_passes}
use Rattle.mem_txn.specs.inner.Steps.{AreSteps}
use Rattle.mem_txn.specs.inner.Versions.{AreTokens, Forest, IsBegun, IsBookOf, IsToken, StandsFor, Version, Versions, book_in, caller_of, entry_of, history_in, opening, schema_in}
use Rattle.radix_node.specs.Ids.{Book, Counter}

-- a log is as late as itself
pub later_itself : (log : Log) → IsLater log log
later_itself log = (refl, ([], append-nil log.fired))

-- ---- longer lists

pub prefix-map : {X Y : Type 0} (f : X → Y) (xs ys : List X) → IsPrefix xs ys → IsPrefix (map f xs) (map f ys)
prefix-map f xs ys p = (map f p.0, sym (map-append f xs p.0) ∙ ap (map f) p.1)

pub begun_longer : (old new : Versions) → IsBegun old → IsPrefix old new → IsBegun new
begun_longer [] new begun p = absurd begun
begun_longer (e ∷ es) new begun p = subst IsBegun p.1 begun

pub schema_longer : (old new : Versions) → IsBegun old → IsPrefix old new → schema_in new ≡ schema_in old
schema_longer [] new begun p = absurd begun
schema_longer (e ∷ es) new begun p = ap schema_in (sym p.1)

pub history_longer : (old new : Versions) → IsBegun old → IsPrefix old new → IsPrefix (history_in old) (history_in new)
history_longer [] new begun p = absurd begun
history_longer (e ∷ es) new begun p = subst (λ (h : Versions). IsPrefix (map entry_of es) (history_in h)) p.1 (map entry_of p.0, sym (map-append entry_of es p.0))

-- the book of a list's cells is that of a longer list
pub book_longer : (old new : Versions) (b : Book) → IsBookOf old b → IsPrefix old new → IsBookOf new b
book_longer [] new b is p = absurd is
book_longer (e ∷ es) new b is p = subst (λ (h : Versions). IsBookOf h b) p.1 is

pub book_same : (old new : Versions) → IsBegun old → IsPrefix old new → book_in new ≡ book_in old
book_same [] new begun p = absurd begun
book_same (e ∷ es) new begun p = ap book_in (sym p.1)

-- the trees of the values
abbrev pub trees_in : Versions → List Forest
trees_in h = map (λ (e : ℕ × Version). e.1.trees) h

-- the trees with those of one value more
pub trees_more : (h : Versions) (n : ℕ) (v : Version) → trees_in (h ++ (n, v) ∷ []) ≡ trees_in h ++ v.trees ∷ []
trees_more h n v = map-append (λ (e : ℕ × Version). e.1.trees) h ((n, v) ∷ [])

pub history_length : (h : Versions) → IsBegun h → length (history_in h) + 1 ≡ length h
history_length [] begun = absurd begun
history_length (e ∷ es) begun = let n = length-map es entry_of in omega (arith, n)

-- ---- one more commit

-- the number of the commit that a list ends with
pub number_shown : (h more : Versions) (e : ℕ × Version) (n : ℕ) → IsBegun h → more ≡ h ++ e ∷ [] → n ≡ length (history_in h) → n + 1 + 1 ≡ length more
number_shown h more e n begun made is =
    let all = history_length h begun in
    let longer : length more ≡ length h + 1 = ap length made ∙ length-append h (e ∷ []) in
    omega (arith, all, longer, is)

pub next_in : (h : Versions) (n : ℕ) (v : Version) → IsBegun h → history_in (h ++ (n, v) ∷ []) ≡ history_in h ++ record { caller = n; writes = v.writes } ∷ []
next_in [] n v begun = absurd begun
next_in (e ∷ es) n v begun = map-append entry_of es ((n, v) ∷ [])

-- a pass that has made a commit, whose turn has ended, and that keeps a log
made_of : (k k' k'' made : Known Version) (v : Version) (log : Log) → k' ≡ record k { seen = k.seen ++ (k.number, v) ∷ []; mine = k.mine ++ (k.number, v) ∷ []; stage = 2 } → k'' ≡ record k' { stage = 0 } → made ≡ record k'' { log = log }
    → made ≡ record k { seen = k.seen ++ (k.number, v) ∷ []; mine = k.mine ++ (k.number, v) ∷ []; stage = 0; log = log }
made_of k k' k'' made v log shown left kept =
    kept
    ∙ (ap (λ (z : Known Version). let r : Known Version = record z { log = log } in r) left
    ∙ ap (λ (z : Known Version). let r : Known Version = record z { stage = 0; log = log } in r) shown)

-- the caller after its commit, the end of its turn, and once it keeps the log
pub committed : (k k' k'' made : Known Version) (v : Version) (log : Log) → IsBegun k.seen → k' ≡ record k { seen = k.seen ++ (k.number, v) ∷ []; mine = k.mine ++ (k.number, v) ∷ []; stage = 2 } → k'' ≡ record k' { stage = 0 } → made ≡ record k'' { log = log }
    → caller_of made ≡ record (caller_of k) { seen = (caller_of k).seen ++ record { caller = k.number; writes = v.writes } ∷ []; trees = (caller_of k).trees ++ v.trees ∷ []; own = (caller_of k).own ++ record { caller = k.number; writes = v.writes } ∷ []; log = log }
committed k k' k'' made v log begun shown left kept =
    let c : Commit = record { caller = k.number; writes = v.writes } in
    let more : IsPrefix k.seen (k.seen ++ (k.number, v) ∷ []) = ((k.number, v) ∷ [], refl) in
    let schema : schema_in (k.seen ++ (k.number, v) ∷ []) ≡ schema_in k.seen = schema_longer k.seen (k.seen ++ (k.number, v) ∷ []) begun more in
    let list : history_in (k.seen ++ (k.number, v) ∷ []) ≡ history_in k.seen ++ c ∷ [] = next_in k.seen k.number v begun in
    let book : book_in (k.seen ++ (k.number, v) ∷ []) ≡ book_in k.seen = book_same k.seen (k.seen ++ (k.number, v) ∷ []) begun more in
    let own : map entry_of (k.mine ++ (k.number, v) ∷ []) ≡ map entry_of k.mine ++ c ∷ [] = map-append entry_of k.mine ((k.number, v) ∷ []) in
    ap caller_of (made_of k k' k'' made v log shown left kept)
    ∙ (λ i. let r : Caller = record { number = k.number; database = k.table; schema = schema i; book = book i; seen = list i; trees = trees_more k.seen k.number v i; own = own i; counts = k.counts; tries = k.tries; log = log } in r)

pub committed_token : (k k' k'' made : Known Version) (v : Version) (log : Log) → IsToken 1 k → AreSteps (k.seen ++ (k.number, v) ∷ []) → IsBookOf (k.seen ++ (k.number, v) ∷ []) log.book → k' ≡ record k { seen = k.seen ++ (k.number, v) ∷ []; mine = k.mine ++ (k.number, v) ∷ []; stage = 2 } → k'' ≡ record k' { stage = 0 } → made ≡ record k'' { log = log } → IsToken 0 made
committed_token k k' k'' made v log token steps book shown left kept =
    subst (IsToken 0) (sym (made_of k k' k'' made v log shown left kept))
    (record { at = refl; named = token.named; few = token.few; begun = begun_longer k.seen (k.seen ++ (k.number, v) ∷ []) token.begun ((k.number, v) ∷ [], refl); steps = steps; log = book })

-- ---- a pass that has seen more

pub number_room : (old new : Known Version) (n : ℕ) → IsNumber old new n → length new.seen ≤ 2 ^ 63 + 1
number_room old new n is = let count = is.0 in let few = is.2 in omega (arith, count, few)

module _ (stage : ℕ) (old new : Known Version) (token : IsToken stage old) (seen : IsPrefix old.seen new.seen) where
  few_seen : length new.seen ≤ 2 ^ 63 + 1 → length (history_in new.seen) ≤ 2 ^ 63
  few_seen room = let count = history_length new.seen (begun_longer old.seen new.seen token.begun seen) in omega (arith, count, room)

  pub has_seen : length new.seen ≤ 2 ^ 63 + 1 → new.number ≡ old.number → new.table ≡ old.table → new.mine ≡ old.mine → IsPrefix old.counts new.counts → IsPrefix old.tries new.tries → new.log ≡ old.log → HasSeen (caller_of old) (caller_of new)
  has_seen room number table mine counts tries log = record {
    seen = history_longer old.seen new.seen token.begun seen;
    trees = prefix-map (λ (e : ℕ × Version). e.1.trees) old.seen new.seen seen;
    few = few_seen room;
    counts = counts;
    tries = tries;
    log = subst (IsLater old.log) (sym log) (later_itself old.log);
    others = λ i. let r : Caller = record { number = number i; database = table i; schema = schema_longer old.seen new.seen token.begun seen i; book = book_same old.seen new.seen token.begun seen i; seen = history_in new.seen; trees = trees_in new.seen; own = map entry_of (mine i); counts = new.counts; tries = new.tries; log = new.log } in r;
  }

  pub has_read : (n : ℕ) → IsNumber old new n → HasRead (caller_of old) (caller_of new) n
  has_read n is = let count = history_length new.seen (begun_longer old.seen new.seen token.begun seen) in let told = is.0 in (omega (arith, count, told), is.1)

  pub token_at : (stage' : ℕ) → new.number ≡ old.number → new.stage ≡ stage' → AreSteps new.seen → new.log ≡ old.log → IsToken stage' new
  token_at stage' number at steps log = record {
    at = at;
    named = subst (λ (n : ℕ). 0 < n) (sym number) token.named;
    few = subst (λ (n : ℕ). n ≤ 64) (sym number) token.few;
    begun = begun_longer old.seen new.seen token.begun seen;
    steps = steps;
    log = book_longer old.seen new.seen new.log.book (subst (λ (l : Log). IsBookOf old.seen l.book) (sym log) token.log) seen;
  }

-- the two sorts of steps that see more
pub looked : (old new : Known Version) → IsToken 0 old → new ≡ record old { seen = new.seen; counts = new.counts } → IsPrefix old.seen new.seen → length new.seen ≤ 2 ^ 63 + 1 → IsPrefix old.counts new.counts → HasSeen (caller_of old) (caller_of new)
looked old new token is seen room counts =
    has_seen 0 old new token seen room (ap (λ (k : Known Version). k.number) is) (ap (λ (k : Known Version). k.table) is) (ap (λ (k : Known Version). k.mine) is) counts ([], append-nil old.tries ∙ sym (ap (λ (k : Known Version). k.tries) is)) (ap (λ (k : Known Version). k.log) is)

pub turned : (old new : Known Version) → IsToken 0 old → new ≡ record old { seen = new.seen; counts = new.counts; tries = new.tries; stage = new.stage } → IsPrefix old.seen new.seen → length new.seen ≤ 2 ^ 63 + 1 → IsPrefix old.counts new.counts → IsPrefix old.tries new.tries
    → HasSeen (caller_of old) (caller_of new)
turned old new token is seen room counts tries =
    has_seen 0 old new token seen room (ap (λ (k : Known Version). k.number) is) (ap (λ (k : Known Version). k.table) is) (ap (λ (k : Known Version). k.mine) is) counts tries (ap (λ (k : Known Version). k.log) is)

pub numbered : (old new : Known Version) (n : ℕ) → IsToken 0 old → IsPrefix old.seen new.seen → IsNumber old new n → HasRead (caller_of old) (caller_of new) (length (caller_of new).seen)
numbered old new n token seen is = let read = has_read 0 old new token seen n is in subst (λ (k : ℕ). HasRead (caller_of old) (caller_of new) k) read.0 read

-- ---- a pass that keeps a later log

pub hears_of : (old new : Known Version) → new ≡ record old { log = new.log } → IsLater old.log new.log → Hears (caller_of old) (caller_of new)
hears_of old new is later = record { later = later; others = ap caller_of is }

pub token_kept : (stage : ℕ) (old new : Known Version) → IsToken stage old → new ≡ record old { log = new.log } → IsLater old.log new.log → IsToken stage new
token_kept stage old new token is later =
    subst (IsToken stage) (sym is)
    (record { at = token.at; named = token.named; few = token.few; begun = token.begun; steps = token.steps; log = subst (IsBookOf old.seen) (sym later.0) token.log })

-- ---- the passes of a new database

append_tokens : (ks : List (Known Version)) (k : Known Version) → AreTokens ks → IsToken 0 k → AreTokens (ks ++ k ∷ [])
append_tokens [] k all token = (token, tt)
append_tokens (j ∷ ks) k all token = (all.0, append_tokens ks k all.1 token)

module _ (t : FrontId) (schema : DbSchema) (trees : Forest) (ids : Counter) (log : Log) where
  abbrev first : Version
  first = opening schema trees ids

  pub fresh_tokens : AreSteps ((0, opening schema trees ids) ∷ []) → log.book ≡ ids.book → (n : ℕ) → n ≤ 64 → AreTokens (all_fresh t first log n)
  fresh_tokens steps book zero few = tt
  fresh_tokens steps book (suc n) few =
      append_tokens (all_fresh t first log n) (fresh t first log (suc n)) (fresh_tokens steps book n (omega (arith, few))) (record { at = refl; named = omega arith; few = few; begun = refl; steps = steps; log = book })

  pub fresh_callers : (db : Database) → db.database ≡ t → db.schema ≡ schema → db.book ≡ ids.book → log ≡ record { book = ids.book; fired = [] } → (n : ℕ) → map caller_of (all_fresh t first log n) ≡ new_passes db trees n
  fresh_callers db here same book empty zero = refl
  fresh_callers db here same book empty (suc n) =
      let log_is : log ≡ record { book = db.book; fired = [] } = empty ∙ (λ i. let l : Log = record { book = sym book i; fired = [] } in l) in
      let last : caller_of (fresh t first log (suc n)) ≡ new_pass db trees (suc n) = λ i. let r : Caller = record { number = suc n; database = sym here i; schema = sym same i; book = sym book i; seen = []; trees = trees ∷ []; own = []; counts = []; tries = []; log = log_is i } in r in
      map-append caller_of (all_fresh t first log n) (fresh t first log (suc n) ∷ [])
      ∙ (λ i. fresh_callers db here same book empty n i ++ last i ∷ [])

-- ---- lists of passes

pub given_tokens : (ks ks' : List (Known Version)) (k : Known Version) → AreTokens ks → IsToken 0 k → ks' ≡ ks ++ k ∷ [] → AreTokens ks'
given_tokens ks ks' k all token is = subst AreTokens (sym is) (append_tokens ks k all token)

pub idle_of : (db : Database) (t : FrontId) (ks : List (Known Version)) → db.database ≡ t → AreTokens ks → AreOf db (map caller_of ks) → AreIdle t ks
idle_of db t [] here tokens own = tt
idle_of db t (k ∷ ks) here tokens own = (own.0.0 ∙ here, tokens.0.at, idle_of db t ks here tokens.1 own.1)

-- ---- the end

entries_by : (c : ℕ) (es : Versions) → commits_by c (map entry_of es) ≡ map entry_of (front.commits_by c es)
entries_by c [] = refl
entries_by c (e ∷ es) = at (e.0 == c) (entries_by c es)
  where
    at : (b : Bool) → commits_by c (map entry_of es) ≡ map entry_of (front.commits_by c es)
        → (if b then entry_of e ∷ commits_by c (map entry_of es) else commits_by c (map entry_of es)) ≡ map entry_of (if b then e ∷ front.commits_by c es else front.commits_by c es)
    at true q = ap (λ (z : History). entry_of e ∷ z) q
    at false q = q

own_in : (c : ℕ) (h : Versions) → 0 < c → IsBegun h → commits_by c (history_in h) ≡ map entry_of (front.commits_by c h)
own_in c [] pos begun = absurd begun
own_in c (e ∷ es) pos begun =
    let first : e.0 ≡ 0 = ap (λ z. z.0) begun in
    let other : (e.0 == c) ≡ false = ne_eqb e.0 c (λ same. omega (arith, first, same, pos)) in
    entries_by c es ∙ ap (λ (b : Bool). map entry_of (if b then e ∷ front.commits_by c es else front.commits_by c es)) (sym other)

named_in : (n : ℕ) (es : Versions) → front.AreNamed n es → AreNamed n (map entry_of es)
named_in n [] named = tt
named_in n (e ∷ es) named = (named.0, named.1, named_in n es named.2)

all_in : (h : Versions) (ks : List (Known Version)) → IsBegun h → AreTokens ks → front_passes.AreIn h ks → AreIn (history_in h) (map caller_of ks)
all_in h [] begun tokens own = tt
all_in h (k ∷ ks) begun tokens own = (
  own_in k.number h tokens.0.named begun ∙ ap (map entry_of) own.0,
  history_longer k.seen h tokens.0.begun own.1,
  all_in h ks begun tokens.1 own.2,
)

-- each caller that has a pass here has one there
all_callers : (c : ℕ) (ks : List (Known Version)) → HasPass c (map caller_of ks) → front_passes.HasPass c ks
all_callers c [] has = absurd has
all_callers c (k ∷ ks) has = ⊎_elim (λ e. inl e) (λ r. inr (all_callers c ks r)) has

pub all_tokens : (n : ℕ) (ks : List (Known Version)) → AreAll n (map caller_of ks) → front_passes.AreAll n ks
all_tokens n ks all c pos few = all_callers c ks (all c pos few)

has_made : (H : History) (ps : List Caller) (c : ℕ) → HasPass c ps → AreIn H ps → HasMade H ps c
has_made H [] c has own = absurd has
has_made H (p ∷ ps) c has own = ⊎_elim (λ e. inl (e, subst (λ k. commits_by k H ≡ p.own) e own.0)) (λ r. inr (has_made H ps c r own.2)) has

each_made : (n : ℕ) (H : History) (ps : List Caller) → AreAll n ps → AreIn H ps → AreMade n H ps
each_made n H ps all own c pos few = has_made H ps c (all c pos few) own

-- the one history of the database, with its trees
abbrev pub whole_of : Database → Versions → CellHistory
whole_of db h = record { schema = db.schema; commits = history_in h; trees = trees_in h }

pub schema_of_all : (db : Database) (h : Versions) (ks : List (Known Version)) → 0 < length ks → AreTokens ks → AreOf db (map caller_of ks) → front_passes.AreIn h ks → schema_in h ≡ db.schema
schema_of_all db h [] some tokens own all = absurd (omega (arith, some))
schema_of_all db h (k ∷ ks) some tokens own all = schema_longer k.seen h tokens.0.begun all.1 ∙ own.0.1

trees_in_all : (h : Versions) (ks : List (Known Version)) → front_passes.AreIn h ks → HaveSeenTrees (trees_in h) (map caller_of ks)
trees_in_all h [] own = tt
trees_in_all h (k ∷ ks) own = (prefix-map (λ (e : ℕ × Version). e.1.trees) k.seen h own.1, trees_in_all h ks own.2)

pub book_of_all : (db : Database) (h : Versions) (ks : List (Known Version)) → 0 < length ks → AreTokens ks → AreOf db (map caller_of ks) → front_passes.AreIn h ks → book_in h ≡ db.book
book_of_all db h [] some tokens own all = absurd (omega (arith, some))
book_of_all db h (k ∷ ks) some tokens own all = book_same k.seen h tokens.0.begun all.1 ∙ own.0.2

pub closed : (db : Database) (h : Versions) (ks : List (Known Version)) (v : Version) (n : ℕ) → 0 < length ks → AreAll db.callers (map caller_of ks) → AreTokens ks → AreOf db (map caller_of ks) → front.IsHistory db.callers h → front_passes.AreIn h ks
    → n + 1 ≡ length h → n ≤ 2 ^ 63 → StandsFor h v → IsWhole db (map caller_of ks) (whole_of db h)
closed db h ks v n some each tokens own history all count few stands =
    let length_is = history_length h stands.begun in
    let trees_are = length-map h (λ (e : ℕ × Version). e.1.trees) in
    let ours = all_in h ks stands.begun tokens all in
    let named : AreNamed db.callers (history_in h) = subst (λ (g : Versions). AreNamed db.callers (history_in g)) (sym history.2) (named_in db.callers history.1 history.3) in
    record {
      passes = own;
      schema = refl;
      named = named;
      own = ours;
      trees = trees_in_all h ks all;
      made = each_made db.callers (history_in h) (map caller_of ks) each ours;
      few = omega (arith, length_is, count, few);
      complete = omega (arith, length_is, trees_are);
    }
