-- The answers to a client's lines, and their text.
use Rattle.std.specs.Prelude.{◌+◌, ℕ, List, [], ◌∷◌, ◌++◌, length, Option, Some, None, codes, decimal}
use Rattle.mdb_datum.specs.Bytes.{Bytes}
use Rattle.mdb_datum.specs.Row.{Fields}
use Rattle.mdb_datum.specs.Written.{row_text}
use Rattle.mdb_schema.specs.declared.answer.Answer.{Answer}
use Rattle.mdb_schema.specs.declared.answer.Answer.TheVariants.{One, Many}
use Rattle.client_script.specs.declared.line.Line.{Line}

-- what became of a row of a tracked table, by the table's name: the row before and the row after, if
-- there is one
pub record Changed : Type 0 where
  pub table : Bytes
  pub before : Option Fields
  pub after : Option Fields

pub data Reply : Type 0 where
  -- the number of the commit on which a transaction stands
  read_at : ℕ → Reply
  write_at : ℕ → Reply
  ended : Reply
  -- the number of a new commit, what it changed in tracked tables, and the deferred texts, the last
  -- first
  committed : ℕ → List Changed → List Bytes → Reply
  aborted : Reply
  inserted : Reply
  replaced : Reply
  deleted : Reply
  -- how many rows a wipe took out
  wiped : ℕ → Reply
  deferred : Reply
  answered : Answer → Reply
  -- the number of the commit on which a snapshot stands; in a write transaction it has the
  -- transaction's writes so far as well
  snapshot_at : ℕ → Reply
  snapshot_within : ℕ → Reply
  -- a watch is quiet, or has fired, after so many commits
  quiet_at : ℕ → Reply
  fired_at : ℕ → Reply
  -- how many watches a set has
  sized : ℕ → Reply
  -- the name of a set's watch that has fired, after so many commits
  woken_by : Bytes → ℕ → Reply
  -- the watch that cancels a wait has fired, after so many commits
  stopped_at : ℕ → Reply
  -- the name of the rule that the line breaks
  refused : Bytes → Reply

-- a further line of an answer
abbrev pub further : Bytes → Bytes
further text = 10 ∷ 32 ∷ 32 ∷ text

-- a row, or that there is none
abbrev pub row_or_none : Option Fields → Bytes
row_or_none None = codes "none"
row_or_none (Some r) = row_text r

-- changed TABLE BEFORE AFTER
abbrev pub change_text : Changed → Bytes
change_text c =
    codes "changed "
    ++ (c.table ++ (32 ∷ (row_or_none c.before ++ (32 ∷ row_or_none c.after))))

-- a line for each change
abbrev pub changed_lines : List Changed → Bytes
changed_lines [] = []
changed_lines (c ∷ cs) = further (change_text c) ++ changed_lines cs

-- a line for each deferred text
abbrev pub did_lines : List Bytes → Bytes
did_lines [] = []
did_lines (t ∷ ts) = further (codes "did " ++ t) ++ did_lines ts

-- a line for each row
abbrev pub row_lines : List Fields → Bytes
row_lines [] = []
row_lines (r ∷ rs) = further (row_text r) ++ row_lines rs

abbrev pub answer_text : Answer → Bytes
answer_text (One None) = codes "none"
answer_text (One (Some r)) = codes "row " ++ row_text r
answer_text (Many rs) = codes "rows " ++ (decimal (length rs) ++ row_lines rs)

abbrev pub reply_text : Reply → Bytes
reply_text (read_at n) = codes "read @" ++ decimal n
reply_text (write_at n) = codes "write @" ++ decimal n
reply_text ended = codes "ended"
reply_text (committed n changed texts) =
    codes "commit @" ++ (decimal n ++ (changed_lines changed ++ did_lines texts))
reply_text aborted = codes "aborted"
reply_text inserted = codes "inserted"
reply_text replaced = codes "replaced"
reply_text deleted = codes "deleted"
reply_text (wiped k) = codes "deleted " ++ decimal k
reply_text deferred = codes "deferred"
reply_text (answered a) = answer_text a
reply_text (snapshot_at n) = codes "snapshot @" ++ decimal n
reply_text (snapshot_within n) = codes "snapshot @" ++ (decimal n ++ codes "+")
reply_text (quiet_at n) = codes "quiet @" ++ decimal n
reply_text (fired_at n) = codes "fired @" ++ decimal n
reply_text (sized k) = codes "size " ++ decimal k
reply_text (woken_by name n) = codes "fired " ++ (name ++ (codes " @" ++ decimal n))
reply_text (stopped_at n) = codes "stopped @" ++ decimal n
reply_text (refused rule) = codes "refused " ++ rule

-- LINE: ANSWER
abbrev pub line_text : ℕ → Reply → Bytes
line_text number r = decimal number ++ (codes ": " ++ (reply_text r ++ 10 ∷ []))

abbrev pub lines_text : List Line → List Reply → Bytes
lines_text [] rs = []
lines_text (l ∷ ls) [] = []
lines_text (l ∷ ls) (r ∷ rs) = line_text l.number r ++ lines_text ls rs

-- client K WORD
abbrev pub heading : ℕ → Bytes → Bytes
heading k word = codes "client " ++ (decimal k ++ (32 ∷ (word ++ 10 ∷ [])))

-- for each client in order its heading and its answers
abbrev pub output_text : ℕ → List Bytes → List (List Line) → List (List Reply) → Bytes
output_text k (w ∷ ws) (s ∷ ss) (rs ∷ rss) =
    heading k w ++ (lines_text s rs ++ output_text (k + 1) ws ss rss)
output_text k ws ss rss = []
