-- How the logic stores what contracts see of a database, its callers and their transactions.
use Rattle.std.specs.Prelude.{◌≡◌, ℕ, Bool, true, false, List, [], refl}
use Rattle.std.specs.Coded.{Coded, code_by, coded×, coded_ℕ, coded_bool, coded_list}
use Rattle.db_front.specs.Passes.{FrontId}
use Rattle.db_front.specs.Codes.{front_coded, no_front}
use Rattle.radix_node.specs.Codes.{book_coded}
use Rattle.mdb_datum.specs.Row.{Fields}
use Rattle.mdb_datum.specs.Codes.{fields_code}
use Rattle.mdb_encode.specs.Bytes.{Bytes}
use Rattle.mdb_schema.specs.History.{Commit, History}
use Rattle.mdb_schema.specs.Schema.{DbSchema}
use Rattle.mdb_schema.specs.State.{State}
use Rattle.mdb_schema.specs.Write.{Write, put, remove}
use Rattle.mdb_schema.specs.Codes.{name_code, schema_code}
use Rattle.mdb_schema.specs.QueryCodes.{rows_code}
use Rattle.radix_node.specs.Ids.{Book, Counter}
use Rattle.table_index.specs.Table.{TableChange}
use Rattle.table_index.specs.Codes.{table_change_code, trees_code}
use Rattle.watch_word.specs.Logs.{Log}
use Rattle.mem_txn.specs.DbTxn.{DbTxn}
use Rattle.mem_txn.specs.CellHistory.{Forest}
use Rattle.mem_txn.specs.Database.{Caller, Callers, Database, Reading, View}
use Rattle.mem_txn.specs.inner.VersionTables.{Tables}
use Rattle.mem_txn.specs.inner.Values.{Version, ViewWithTrees}
use Rattle.mem_txn.specs.inner.Versions.{Turned}

-- whether a write is a put, with the name of its table and its row
abbrev pub Parts : Type 0
Parts = Bool × (Bytes × Fields)

abbrev pub write_parts : Write → Parts
write_parts (put name row) = (true, (name, row))
write_parts (remove name row) = (false, (name, row))

abbrev pub write_by : Bool → Bytes → Fields → Write
write_by true name row = put name row
write_by false name row = remove name row

pub write_back : (w : Write) → write_by (write_parts w).0 (write_parts w).1.0 (write_parts w).1.1 ≡ w
write_back (put name row) = refl
write_back (remove name row) = refl

abbrev pub write_code : Coded Write
write_code = code_by Parts (coded× coded_bool (coded× name_code fields_code)) write_parts
    (λ p. write_by p.0 p.1.0 p.1.1) write_back

abbrev pub writes_code : Coded (List Write)
writes_code = coded_list write_code

abbrev pub commit_code : Coded Commit
commit_code = code_by (ℕ × List Write) (coded× coded_ℕ writes_code)
    (λ c. (c.caller, c.writes)) (λ p. record { caller = p.0; writes = p.1 }) (λ _. refl)

abbrev pub state_code : Coded State
state_code = coded_list rows_code

abbrev pub history_code : Coded History
history_code = coded_list commit_code

abbrev pub counts_code : Coded (List ℕ)
counts_code = coded_list coded_ℕ

abbrev pub forest_code : Coded Forest
forest_code = coded_list trees_code

-- a log's book, and the keys of the cells that have fired
abbrev pub log_code : Coded Log
log_code = code_by (Book × List ℕ) (coded× book_coded counts_code)
    (λ l. (l.book, l.fired)) (λ p. record { book = p.0; fired = p.1 }) (λ _. refl)

-- a caller's number and database, its commits with the trees, and its counts, tries and log
abbrev pub CallerParts : Type 0
CallerParts =
    (ℕ × (FrontId × (DbSchema × Book)))
    × ((History × (History × List Forest)) × (List ℕ × (List ℕ × Log)))

abbrev pub caller_parts : Caller → CallerParts
caller_parts c = (
  (c.number, (c.database, (c.schema, c.book))),
  ((c.seen, (c.own, c.trees)), (c.counts, (c.tries, c.log))),
)

abbrev pub caller_from : CallerParts → Caller
caller_from p = record {
  number = p.0.0;
  database = p.0.1.0;
  schema = p.0.1.1.0;
  book = p.0.1.1.1;
  seen = p.1.0.0;
  trees = p.1.0.1.1;
  own = p.1.0.1.0;
  counts = p.1.1.0;
  tries = p.1.1.1.0;
  log = p.1.1.1.1;
}

abbrev pub caller_code : Coded Caller
caller_code = code_by CallerParts
    (coded× (coded× coded_ℕ (coded× front_coded (coded× schema_code book_coded)))
    (coded× (coded× history_code (coded× history_code (coded_list forest_code)))
    (coded× counts_code (coded× counts_code log_code))))
    caller_parts caller_from (λ _. refl)

abbrev pub no_book : Book
no_book = record { number = 0; log_name = 0; cells_name = 0 }

-- a caller that is none
abbrev pub no_caller : Caller
no_caller = record {
  number = 0;
  database = no_front;
  schema = [];
  book = no_book;
  seen = [];
  trees = [];
  own = [];
  counts = [];
  tries = [];
  log = record { book = no_book; fired = [] };
}

abbrev pub callers_code : Coded Callers
callers_code = code_by (List Caller × ℕ) (coded× (coded_list caller_code) coded_ℕ)
    (λ c. (c.passes, c.made)) (λ p. record { passes = p.0; made = p.1 }) (λ _. refl)

abbrev pub database_code : Coded Database
database_code = code_by ((FrontId × ℕ) × (DbSchema × Book))
    (coded× (coded× front_coded coded_ℕ) (coded× schema_code book_coded))
    (λ d. ((d.database, d.callers), (d.schema, d.book)))
    (λ p. record { database = p.0.0; callers = p.0.1; schema = p.1.0; book = p.1.1 })
    (λ _. refl)

abbrev pub view_code : Coded View
view_code = code_by (DbSchema × (ℕ × State)) (coded× schema_code (coded× coded_ℕ state_code))
    (λ v. (v.schema, (v.number, v.state)))
    (λ p. record { schema = p.0; number = p.1.0; state = p.1.1 }) (λ _. refl)

abbrev pub counter_code : Coded Counter
counter_code = code_by (Book × ℕ) (coded× book_coded coded_ℕ)
    (λ i. (i.book, i.next)) (λ p. record { book = p.0; next = p.1 }) (λ _. refl)

abbrev pub view_with_trees_code : Coded ViewWithTrees
view_with_trees_code = code_by (View × Forest) (coded× view_code forest_code)
    (λ v. (v.view, v.trees)) (λ p. record { view = p.0; trees = p.1 }) (λ _. refl)

abbrev pub version_code : Coded Version
version_code = code_by ((View × Forest) × (List Write × Counter))
    (coded× (coded× view_code forest_code) (coded× writes_code counter_code))
    (λ v. ((v.view, v.trees), (v.writes, v.ids)))
    (λ p. record { view = p.0.0; trees = p.0.1; writes = p.1.0; ids = p.1.1 }) (λ _. refl)

abbrev pub turned_code : Coded Turned
turned_code = code_by (Caller × Version) (coded× caller_code version_code)
    (λ t. (t.caller, t.base)) (λ p. record { caller = p.0; base = p.1 }) (λ _. refl)

abbrev pub reading_code : Coded Reading
reading_code = code_by (View × (Forest × Book)) (coded× view_code (coded× forest_code book_coded))
    (λ r. (r.view, (r.trees, r.book)))
    (λ p. record { view = p.0; trees = p.1.0; book = p.1.1 }) (λ _. refl)

abbrev pub db_txn_code : Coded DbTxn
db_txn_code = code_by (Caller × (List Write × Bool))
    (coded× caller_code (coded× writes_code coded_bool))
    (λ t. (t.caller, (t.writes, t.spoiled)))
    (λ p. record { caller = p.0; writes = p.1.0; spoiled = p.1.1 }) (λ _. refl)

abbrev pub tables_code : Coded Tables
tables_code = code_by (List TableChange × Counter)
    (coded× (coded_list table_change_code) counter_code)
    (λ t. (t.tables, t.ids)) (λ p. record { tables = p.0; ids = p.1 }) (λ _. refl)
