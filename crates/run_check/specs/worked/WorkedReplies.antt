-- Worked outputs with a reply that its client can't be told, near ones to a legal output; and that
-- output itself.
use Rattle.std.specs.Prelude.{◌≡◌, ◌≢◌, ◌≤◌, ◌+◌, ◌++◌, pos, ℕ, zero, suc, List, [], ◌∷◌, length, T, false, ⊤, codes, refl}
use Rattle.std.specs.Str.{bytes_eq}
use Rattle.std.proofs.Common.{arith, lit<, lit≤, inl, inr}
use Rattle.std.proofs.lemmas.Fmt.{decimal_digit}
use Rattle.mdb_datum.proofs.OnLiterals.{reading_on_literals}
use Rattle.mdb_datum.specs.Bytes.{Bytes}
use Rattle.mdb_datum.specs.Doc.{text, whole}
use Rattle.mdb_datum.specs.Row.{Fields}
use Rattle.mdb_schema.specs.History.{History}
use Rattle.mdb_schema.specs.Write.{put}
use Rattle.mdb_schema.specs.worked.Apart.{apart}
use Rattle.mdb_schema.specs.worked.Sample.{query}
use Rattle.mdb_schema.specs.declared.ask.Ask.TheVariants.{First}
use Rattle.client_script.specs.Alone.{Request, to_transact, to_write, to_ask, as_command}
use Rattle.client_script.specs.Client.{Client, at_start}
use Rattle.client_script.specs.Reply.{Reply, reply_text}
use Rattle.client_script.specs.Legal.{Legal}
use Rattle.client_script.specs.Session.{IsEntry, Runs}
use Rattle.client_script.specs.declared.command.AskCommand.TheVariants as ask_line
use Rattle.client_script.specs.declared.command.TransactionCommand.TheVariants as transaction_line
use Rattle.client_script.specs.declared.command.WriteCommand.TheVariants as write_line
use Rattle.client_script.specs.declared.line.Line.{Line}
use Rattle.run_check.specs.FirstBad.{IsTold, AreToldUpTo}
use Rattle.run_check.specs.Shape.{Printed}
use Rattle.run_check.specs.worked.Rows.{one_table, one_name, ann, ann_out, ann_with, script, BadForOne}
use Rattle.run_check.specs.worked.ToldTexts.{said, told_text, answered_so}

-- ---- what is told first

-- a request, after how many commits it is answered, and the text of that answer
record Step : Type 0 where
  now : ℕ
  request : Request
  text : Bytes

-- the steps are told so
abbrev AreSteps : History → Client → List Step → Type 0
AreSteps H v [] = ⊤
AreSteps H v (s ∷ ss) =
    (v.last ≤ s.now) × (s.now ≤ length H) × (reply_text (said one_table H 1 s.now v s.request).0 ≡ s.text)
    × IsEntry H 1 v.transaction (said one_table H 1 s.now v s.request).0
    × AreSteps H (said one_table H 1 s.now v s.request).1 ss

abbrev after_steps : History → Client → List Step → Client
after_steps H v [] = v
after_steps H v (s ∷ ss) = after_steps H (said one_table H 1 s.now v s.request).1 ss

-- their lines from a number on, and these as they stand in the text
abbrev lines_from : ℕ → List Step → List Line → List Line
lines_from n [] ls = ls
lines_from n (s ∷ ss) ls = record { number = n; command = as_command s.request } ∷ lines_from (n + 1) ss ls

abbrev printed_from : ℕ → List Step → List Printed → List Printed
printed_from n [] ps = ps
printed_from n (s ∷ ss) ps = record { line = n; text = s.text } ∷ printed_from (n + 1) ss ps

one_told : (H : History) (v : Client) (s : Step) → v.last ≤ s.now → s.now ≤ length H → reply_text (said one_table H 1 s.now v s.request).0 ≡ s.text → IsEntry H 1 v.transaction (said one_table H 1 s.now v s.request).0 → IsTold one_table H 1 v (as_command s.request) s.text (said one_table H 1 s.now v s.request).1
one_told H v s not_older there printed entry = record {
  reply = (said one_table H 1 s.now v s.request).0;
  printed = printed;
  answers = record {
    now = s.now;
    not_older = not_older;
    there = there;
    says = answered_so one_table H 1 s.now v (said one_table H 1 s.now v s.request).1 s.request (said one_table H 1 s.now v s.request).0 refl;
    entry = entry;
  };
}

-- a step that can't be told behind others is the first bad one, whatever follows
untold_behind : (H : History) (line n m : ℕ) (v : Client) (ss : List Step) (bad : Step) (others : List Step) → AreSteps H v ss → ((next : Client) → IsTold one_table H 1 (after_steps H v ss) (as_command bad.request) bad.text next → ⊥) → m + length ss ≡ line → AreToldUpTo one_table H 1 v (lines_from n (ss ++ bad ∷ others) []) (printed_from m (ss ++ bad ∷ others) []) line
untold_behind H line n m v [] bad others steps untold at = inl (untold, omega (arith, at))
untold_behind H line n m v (s ∷ ss) bad others (not_older, there, printed, entry, later) untold at =
    inr (
      (said one_table H 1 s.now v s.request).1,
      one_told H v s not_older there printed entry,
      untold_behind H line (n + 1) (m + 1) (said one_table H 1 s.now v s.request).1 ss bad others later untold (omega (arith, at)),
    )

-- a request can't be told so that is told neither its turn's text nor that there are too few ids
not_told : (H : History) (v : Client) (q : Request) (line : Bytes) → ((now : ℕ) → v.last ≤ now → now ≤ length H → reply_text (said one_table H 1 now v q).0 ≢ line) → codes "refused ids-spent" ≢ line → (next : Client) → IsTold one_table H 1 v (as_command q) line next → ⊥
not_told H v q line other has_ids next told =
    let is = told_text one_table H 1 v next q line told in
    elim is.is [ inl e ↦ other is.now is.not_older is.there e | inr e ↦ has_ids e ]

-- ---- a client that writes a row and reads it back

abbrev ann_row : Fields
ann_row = (codes "age", whole (pos 3)) ∷ (codes "name", text (codes "ann")) ∷ []

abbrev history : History
history = record { caller = 1; writes = put (codes "t") ann_row ∷ [] } ∷ []

abbrev first_of : Bytes → Request
first_of name = to_ask (ask_line.Question (query First (codes "t") (codes "id") (text name ∷ [])))

abbrev write : Request
write = to_transact transaction_line.Write

abbrev insert : Request
insert = to_write (write_line.Insert (codes "t") ann_row)

abbrev read : Request
read = to_transact transaction_line.Read

abbrev step : ℕ → Request → Bytes → Step
step now request line = record { now = now; request = request; text = line }

abbrev begun : List Step
begun = step 0 write (codes "write @0") ∷ []

abbrev committed_one : List Step
committed_one =
    step 0 write (codes "write @0")
    ∷ step 0 insert (codes "inserted")
    ∷ step 0 (to_transact transaction_line.Commit) (codes "commit @1")
    ∷ []

abbrev reading_one : List Step
reading_one = committed_one ++ step 1 read (codes "read @1") ∷ []

abbrev ann_found : Bytes
ann_found = codes "row {\"age\":3,\"name\":\"ann\"}"

abbrev asked_one : List Step
asked_one =
    reading_one
    ++ step 1 (first_of (codes "ann")) ann_found
    ∷ step 1 (first_of (codes "bob")) (codes "none")
    ∷ []

all_told : AreSteps history at_start asked_one
unfolding reading_on_literals
all_told = (lit≤ tt, lit≤ tt, rw (decimal_digit 0 (lit< tt)) refl, tt, (lit≤ tt, lit≤ tt, refl, tt, (lit≤ tt, lit≤ tt, rw (decimal_digit 1 (lit< tt)) refl, refl, (lit≤ tt, lit≤ tt, rw (decimal_digit 1 (lit< tt)) refl, tt, (lit≤ tt, lit≤ tt, rw (decimal_digit 3 (lit< tt)) refl, tt, (lit≤ tt, lit≤ tt, refl, tt, tt))))))

-- the first steps of those that are told
first_steps : (H : History) (v : Client) (ss others : List Step) → AreSteps H v (ss ++ others) → AreSteps H v ss
first_steps H v [] others steps = tt
first_steps H v (s ∷ ss) others (not_older, there, printed, entry, later) =
    (not_older, there, printed, entry, first_steps H (said one_table H 1 s.now v s.request).1 ss others later)

-- the steps behind those
abbrev behind_reading : List Step
behind_reading = step 1 (first_of (codes "bob")) (codes "none") ∷ []

abbrev behind_commit : List Step
behind_commit = step 1 (first_of (codes "ann")) ann_found ∷ behind_reading

abbrev behind_begun : List Step
behind_begun =
    step 0 (to_transact transaction_line.Commit) (codes "commit @1")
    ∷ step 1 read (codes "read @1")
    ∷ behind_commit

-- two texts that are computed to be different
other_text : {a b : Bytes} → T (bytes_eq a a) → bytes_eq a b ≡ false → a ≢ b
other_text same other = apart (λ (bs : Bytes). bs) same other

-- a row that was never written
pub other_row : BadForOne ann (ann_with 6 (codes "5: row {\"age\":4,\"name\":\"ann\"}")) 6
unfolding reading_on_literals
other_row = inl (untold_behind history 6 1 2 at_start reading_one (step 1 (first_of (codes "ann")) (codes "row {\"age\":4,\"name\":\"ann\"}")) behind_reading (first_steps history at_start reading_one behind_commit all_told) untold refl)
  where
    untold : (next : Client) → IsTold one_table history 1 (after_steps history at_start reading_one) (as_command (first_of (codes "ann"))) (codes "row {\"age\":4,\"name\":\"ann\"}") next → ⊥
    untold = not_told history _ (first_of (codes "ann")) _ (λ now le there. rw (decimal_digit 3 (lit< tt)) (other_text tt refl)) (other_text tt refl)

-- an older commit than the client was told of
pub older_read : BadForOne ann (ann_with 5 (codes "4: read @0")) 5
unfolding reading_on_literals
older_read = inl (untold_behind history 5 1 2 at_start committed_one (step 1 read (codes "read @0")) behind_commit (first_steps history at_start committed_one (step 1 read (codes "read @1") ∷ behind_commit) all_told) untold refl)
  where
    untold : (next : Client) → IsTold one_table history 1 (after_steps history at_start committed_one) (as_command read) (codes "read @0") next → ⊥
    untold = not_told history _ read _ (λ now le there. let is : now ≡ 1 = omega (arith, le, there) in rw (is, decimal_digit 1 (lit< tt)) (other_text tt refl)) (other_text tt refl)

-- a commit that isn't there
pub later_read : BadForOne ann (ann_with 5 (codes "4: read @2")) 5
unfolding reading_on_literals
later_read = inl (untold_behind history 5 1 2 at_start committed_one (step 1 read (codes "read @2")) behind_commit (first_steps history at_start committed_one (step 1 read (codes "read @1") ∷ behind_commit) all_told) untold refl)
  where
    untold : (next : Client) → IsTold one_table history 1 (after_steps history at_start committed_one) (as_command read) (codes "read @2") next → ⊥
    untold = not_told history _ read _ (λ now le there. let is : now ≡ 1 = omega (arith, le, there) in rw (is, decimal_digit 1 (lit< tt)) (other_text tt refl)) (other_text tt refl)

-- a row that takes the place of none is told as one that does
pub told_as_replaced : BadForOne ann (ann_with 3 (codes "2: replaced")) 3
unfolding reading_on_literals
told_as_replaced = inl (untold_behind history 3 1 2 at_start begun (step 0 insert (codes "replaced")) behind_begun (first_steps history at_start begun (step 0 insert (codes "inserted") ∷ behind_begun) all_told) untold refl)
  where
    untold : (next : Client) → IsTold one_table history 1 (after_steps history at_start begun) (as_command insert) (codes "replaced") next → ⊥
    untold = not_told history _ insert _ (λ now le there. other_text tt refl) (other_text tt refl)

-- a refusal by no rule that the line breaks passes the first three tests; the writes of that
-- transaction are in the history
pub other_refusal : BadForOne ann (ann_with 2 (codes "1: refused whatever")) 2
unfolding reading_on_literals
other_refusal = inl (inl (not_told history at_start write (codes "refused whatever") other (other_text tt refl), refl))
  where
    other : (now : ℕ) → 0 ≤ now → now ≤ 1 → reply_text (said one_table history 1 now at_start write).0 ≢ codes "refused whatever"
    other zero le there = rw (decimal_digit 0 (lit< tt)) (other_text tt refl)
    other (suc zero) le there = rw (decimal_digit 1 (lit< tt)) (other_text tt refl)
    other (suc (suc now)) le there = absurd (omega (arith, there))

-- ---- the output itself

abbrev replies_to : History → Client → List Step → List Reply
replies_to H v [] = []
replies_to H v (s ∷ ss) =
    (said one_table H 1 s.now v s.request).0 ∷ replies_to H (said one_table H 1 s.now v s.request).1 ss

-- steps are a session
session_of : (H : History) (n : ℕ) (v : Client) (ss : List Step) → AreSteps H v ss → (end : Client) × Runs one_table H 1 v (lines_from n ss []) (replies_to H v ss) end
unfolding one_told
session_of H n v [] steps = (v, refl)
session_of H n v (s ∷ ss) (not_older, there, printed, entry, others) =
    let rest = session_of H (n + 1) (said one_table H 1 s.now v s.request).1 ss others in (
      rest.0,
      (
        (said one_table H 1 s.now v s.request).1,
        (one_told H v s not_older there printed entry).answers,
        rest.1,
      ),
    )

pub ann_is_legal : Legal one_table one_name (script ann ∷ []) ann_out
unfolding reading_on_literals
ann_is_legal = record {
  replies = replies_to history at_start asked_one ∷ [];
  named = refl;
  written = rw (decimal_digit 0 (lit< tt), decimal_digit 1 (lit< tt), decimal_digit 2 (lit< tt), decimal_digit 3 (lit< tt), decimal_digit 4 (lit< tt), decimal_digit 5 (lit< tt), decimal_digit 6 (lit< tt)) refl;
  history = history;
  numbers = record { moves = []; below = tt; is = refl };
  sessions = (session_of history 1 at_start asked_one all_told, tt);
}
