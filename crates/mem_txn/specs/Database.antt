-- A database and its callers, as contracts see them.
use Rattle.std.specs.Prelude.{◌≡◌, ◌++◌, ◌<◌, ◌≤◌, ◌^◌, ℕ, zero, suc, List, [], ◌∷◌, length}
use mathlib.Core.List.{IsPrefix}
use Rattle.db_front.specs.AnyPass as any
use Rattle.db_front.specs.Passes.{FrontId}
use Rattle.mdb_schema.specs.History.{Commit, History, state_at}
use Rattle.mdb_schema.specs.Schema.{DbSchema}
use Rattle.mdb_schema.specs.State.{State}
use Rattle.radix_node.specs.Ids.{Book}
use Rattle.watch_word.specs.Logs.{IsLater, Log}
use Rattle.mem_txn.specs.CellHistory.{AreComplete, CellHistory, Forest, trees_after}

-- a database: which one it is, how many callers it has, its schema, and the book of its cells
pub record Database : Type 0 where
  pub database : FrontId
  pub callers : ℕ
  pub schema : DbSchema
  pub book : Book

-- A caller's pass: its number, its database with the schema and the book of its cells, the commits
-- that it has seen, with the trees at the opening and after each of them, its own commits, the
-- counts of commits that it has read, what its tries for the writer's turn found, and the log of
-- firings as far as it has seen it.
pub record Caller : Type 0 where
  pub number : ℕ
  pub database : FrontId
  pub schema : DbSchema
  pub book : Book
  pub seen : History
  pub trees : List Forest
  pub own : List Commit
  pub counts : List ℕ
  pub tries : List ℕ
  pub log : Log

-- the commits that are a caller's own
abbrev pub commits_by : ℕ → History → List Commit
commits_by number H = any.commits_by (λ (c : Commit). c.caller) number H

-- the state after the commits that a caller has seen
abbrev pub state_seen : Caller → State
state_seen p = state_at p.schema p.seen (length p.seen)

-- the commits that a caller has seen, with their trees
abbrev pub cells_seen : Caller → CellHistory
cells_seen p = record { schema = p.schema; commits = p.seen; trees = p.trees }

-- the pass belongs to the database
abbrev pub IsOf : Database → Caller → Type 0
IsOf db p = (p.database ≡ db.database) × (p.schema ≡ db.schema) × (p.book ≡ db.book)

abbrev pub AreOf : Database → List Caller → Type 0
AreOf db [] = Unit {0}
AreOf db (p ∷ ps) = IsOf db p × AreOf db ps

-- a state to be asked, and the number of the commit on which it stands
pub record View : Type 0 where
  pub schema : DbSchema
  pub number : ℕ
  pub state : State

-- the state after these commits, to be asked
abbrev pub view_after : DbSchema → History → View
view_after schema H =
    record { schema = schema; number = length H; state = state_at schema H (length H) }

-- the state after the commits that a caller has seen, to be asked
abbrev pub view_seen : Caller → View
view_seen p = view_after p.schema p.seen

-- a state that is read, its trees, and the book of their cells
pub record Reading : Type 0 where
  pub view : View
  pub trees : Forest
  pub book : Book

-- the state after all commits of a history, in its last trees, to be read
abbrev pub reading_after : Database → CellHistory → Reading
reading_after db J = record {
  view = view_after db.schema J.commits;
  trees = trees_after J (length J.commits);
  book = db.book;
}

-- the state after the commits that a caller has seen, to be read
abbrev pub reading_of : Caller → Reading
reading_of p = record {
  view = view_seen p;
  trees = trees_after (cells_seen p) (length p.seen);
  book = p.book;
}

-- the passes that nobody has taken, and how many the database was made with
pub record Callers : Type 0 where
  pub passes : List Caller
  pub made : ℕ

-- a pass that has done nothing, where these are the trees at the opening; nothing has fired
abbrev pub new_pass : Database → Forest → ℕ → Caller
new_pass db trees number = record {
  number = number;
  database = db.database;
  schema = db.schema;
  book = db.book;
  seen = [];
  trees = trees ∷ [];
  own = [];
  counts = [];
  tries = [];
  log = record { book = db.book; fired = [] };
}

-- so many of them, numbered from 1
abbrev pub new_passes : Database → Forest → ℕ → List Caller
new_passes db trees zero = []
new_passes db trees (suc count) =
    new_passes db trees count ++ new_pass db trees (suc count) ∷ []

-- the passes of a new database of so many callers
abbrev pub new_callers : Database → Forest → ℕ → Callers
new_callers db trees count = record { passes = new_passes db trees count; made = count }

-- ---- what a call does to a pass

-- the pass has seen as much or more, of the log too, and may have read counts and made tries; all
-- else is as before
pub record HasSeen (old new : Caller) : Type 0 where
  pub seen : IsPrefix old.seen new.seen
  pub trees : IsPrefix old.trees new.trees
  pub few : length new.seen ≤ 2 ^ 63
  pub counts : IsPrefix old.counts new.counts
  pub tries : IsPrefix old.tries new.tries
  pub log : IsLater old.log new.log
  pub others : new ≡ record old {
    seen = new.seen;
    trees = new.trees;
    counts = new.counts;
    tries = new.tries;
    log = new.log;
  }

-- the number of the commits that the pass now has seen is a count that it read in this call, its
-- last
abbrev pub HasRead : Caller → Caller → ℕ → Type 0
HasRead old new number = (number ≡ length new.seen) × (new.counts ≡ old.counts ++ number ∷ [])

-- ---- the end of a database

-- each commit is made by one of the callers 1 to n
abbrev pub AreNamed : ℕ → History → Type 0
AreNamed n [] = Unit {0}
AreNamed n (c ∷ cs) = (0 < c.caller) × (c.caller ≤ n) × AreNamed n cs

-- The words on passes are those of `db_front`, at callers and their commits.

-- each pass's own commits are those of its caller in the history, of which it has seen a beginning
abbrev pub AreIn : History → List Caller → Type 0
AreIn H ps = any.AreIn (λ (p : Caller). p.number) (λ p. p.own) (λ p. p.seen) (λ c. c.caller) H ps

-- caller c has a pass in the list
abbrev pub HasPass : ℕ → List Caller → Type 0
HasPass c ps = any.HasPass (λ (p : Caller). p.number) c ps

-- each of the callers 1 to n has a pass in the list
abbrev pub AreAll : ℕ → List Caller → Type 0
AreAll n ps = any.AreAll (λ (p : Caller). p.number) n ps

-- caller c has a pass in the list, whose own commits are all those of c in the history
abbrev pub HasMade : History → List Caller → ℕ → Type 0
HasMade H ps c =
    any.HasMade (λ (p : Caller). p.number) (λ p. p.own) (λ p. p.seen) (λ c. c.caller) H ps c

-- the commits in the history of each of the callers 1 to n are those that its pass made
abbrev pub AreMade : ℕ → History → List Caller → Type 0
AreMade n H ps =
    any.AreMade (λ (p : Caller). p.number) (λ p. p.own) (λ p. p.seen) (λ c. c.caller) n H ps

-- the trees that each pass has seen are a beginning of these
abbrev pub HaveSeenTrees : List Forest → List Caller → Type 0
HaveSeenTrees trees [] = Unit {0}
HaveSeenTrees trees (p ∷ ps) = IsPrefix p.trees trees × HaveSeenTrees trees ps

-- The whole history of a database with its trees, when these passes are back. It is one for all of
-- them: what each has seen, commits and trees, is a beginning of it.
pub record IsWhole (db : Database) (ps : List Caller) (J : CellHistory) : Type 0 where
  pub passes : AreOf db ps
  pub schema : J.schema ≡ db.schema
  pub named : AreNamed db.callers J.commits
  pub own : AreIn J.commits ps
  pub trees : HaveSeenTrees J.trees ps
  pub made : AreMade db.callers J.commits ps
  pub few : length J.commits ≤ 2 ^ 63
  pub complete : AreComplete J
