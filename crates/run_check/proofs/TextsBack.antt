-- What was read of a text gives the text again.
use Rattle.std.proofs.Common.{arith, ◌≡◌, refl, ap, sym, ◌∙◌, ℕ, zero, suc, ◌+◌, ◌^◌, ◌<◌, ◌≤◌, List, [], ◌∷◌, ◌++◌, length, take, drop, get_or, not, Bool, true, false, ◌==◌, ◌&&◌, is_some, Option, Some, None, option_map, Ok, Err, decimal, codes, append_assoc, append-nil, take-append-drop, unwrap_or}
use Rattle.std.specs.Bool.{⊤}
use Rattle.std.specs.List.{list_all, prefix_len, take_while}
use Rattle.std.specs.Prelude.{if◌then◌else◌, nat_lt, option_and_then}
use Rattle.std.specs.Str.{bytes_eq}
use Rattle.std.specs.Str.Parse.{AllDigits, digits_value}
use Rattle.std.proofs.lemmas.Bool.{and_parts, eqb-true}
use Rattle.std.proofs.lemmas.Bool.Decides.{nat_tests}
use Rattle.std.proofs.lemmas.Fmt.{decimal-digits_value}
use Rattle.std.proofs.lemmas.Slice.Eq.{bytes_eq-Decides}
use Rattle.mdb_datum.specs.Bytes.{Bytes}
use Rattle.mdb_schema.proofs.PassedTests.{needed_some, passed_holds}
use Rattle.mdb_schema.specs.Tests.{needed, passed}
use Rattle.client_script.specs.Parts.{is_digit}
use Rattle.client_script.specs.Reply.{heading}
use Rattle.client_script.specs.declared.line.Line.{Line}
use Rattle.run_check.specs.Mode.{mode_after}
use Rattle.run_check.specs.Shape.{Place, Printed, answer_in, at_end, before_others, behind_number, further_from, is_further, is_heading, line_from, may_answer, rest_where, shape, take_client, take_clients, take_further, take_line, take_replies, take_reply, take_rows}
use Rattle.run_check.specs.TextLines.{TextLine, begun_with, behind, holds_of, is_written, number_behind, number_of, text_lines}
use Rattle.run_check.specs.declared.mode.Mode.{Mode}
use Rattle.run_check.specs.declared.mode.Mode.TheVariants.{Idle}
use Rattle.run_check.proofs.Decimals.{digit_is, first_pass}
use Rattle.run_check.proofs.Outcomes.{IfOk, after_any, ok_known, ok_so, ok_then}
use Rattle.run_check.proofs.ShapeCounts.{rows_or}

-- ---- numbers

read_digits : (ds : Bytes) → list_all is_digit ds ≡ true → AllDigits 10 ds
read_digits [] all = tt
read_digits (d ∷ ds) all =
    let parts : (is_digit d ≡ true) × (list_all is_digit ds ≡ true) = and_parts (is_digit d) (list_all is_digit ds) all in
    let value = digit_is d parts.0 in
    let digit : is_digit d ≡ true = parts.0 in
    let high : d ≤ 57 = grind (arith, nat_tests, digit) in
    (omega (arith, value, high), read_digits ds parts.1)

-- digits that are written as a number are those of that number
written_some : (ds : Bytes) → is_written ds ≡ true → 0 < length ds
written_some [] e = cc
written_some (b ∷ ds) e = omega arith

written_first : (ds : Bytes) → is_written ds ≡ true → get_or ds 0 0 ≡ 48 → length ds ≡ 1
written_first [] e first = cc
written_first (b ∷ []) e first = refl
written_first (b ∷ c ∷ ds) e first = absurd (apart (b == 48) refl e)
  where
    apart : (t : Bool) → (b == 48) ≡ t → not t ≡ true → ⊥
    apart true is e' = cc
    apart false is e' = let is' : (b == 48) ≡ true = grind (arith, nat_tests, first) in absurd (clash (sym is ∙ is'))
      where
        clash : false ≡ true → ⊥
        clash e'' = cc

number_back : (ds : Bytes) (n : ℕ) → list_all is_digit ds ≡ true → number_of ds ≡ Some n → decimal n ≡ ds
number_back ds n all e = of (is_written ds) refl (nat_lt (digits_value 10 ds) (2 ^ 64)) refl e
  where
    of : (t : Bool) → is_written ds ≡ t → (u : Bool) → nat_lt (digits_value 10 ds) (2 ^ 64) ≡ u → (if t then (if u then Some (digits_value 10 ds) else None) else None) ≡ Some n → decimal n ≡ ds
    of true written true fits e' =
        let same : digits_value 10 ds ≡ n = ap (λ (o : Option ℕ). unwrap_or o n) e' in
        let small : digits_value 10 ds < 2 ^ 64 = grind (arith, nat_tests, fits) in
        ap decimal (sym same) ∙ decimal-digits_value {P = AllDigits 10} {v = digits_value 10} (record { from = λ xs d. d; to = λ xs d. d; same = λ xs d. refl }) ds (read_digits ds all) (written_some ds written) (written_first ds written) small
    of true written false fits e' = cc
    of false written u fits e' = cc

-- what follows a number follows its digits
number_splits : (n : ℕ) (bs rest : Bytes) → behind_number n bs ≡ Some rest → bs ≡ decimal n ++ rest
number_splits n bs rest e = of (number_of (take_while is_digit bs)) refl e
  where
    ds : Bytes
    ds = take (prefix_len is_digit bs) bs

    found : (m : ℕ) (t : Bool) → number_of (take (prefix_len is_digit bs) bs) ≡ Some m → (m == n) ≡ t → (if t then Some (drop (prefix_len is_digit bs) bs) else None) ≡ Some rest → bs ≡ decimal n ++ rest
    found m true read is e' =
        let same : m ≡ n = eqb-true m n is in
        let digits : decimal m ≡ take (prefix_len is_digit bs) bs = number_back (take (prefix_len is_digit bs) bs) m (first_pass is_digit bs) read in
        let left : drop (prefix_len is_digit bs) bs ≡ rest = ap (λ (o : Option Bytes). unwrap_or o rest) e' in
        sym (take-append-drop (prefix_len is_digit bs) bs)
        ∙ ap (λ (x : Bytes). x ++ drop (prefix_len is_digit bs) bs) (sym digits ∙ ap decimal same)
        ∙ ap (λ (x : Bytes). decimal n ++ x) left
    found m false read is e' = cc

    of : (o : Option ℕ) → number_of (take (prefix_len is_digit bs) bs) ≡ o → option_and_then (rest_where n) (option_map (λ m. record { number = m; rest = drop (prefix_len is_digit bs) bs }) o) ≡ Some rest → bs ≡ decimal n ++ rest
    of None read e' = cc
    of (Some m) read e' = found m (m == n) read refl e'

some_bytes : (a b : Bytes) → Some a ≡ Some b → a ≡ b
some_bytes a b e = ap (λ (o : Option Bytes). unwrap_or o a) e

pub behind_back : (w bs r : Bytes) → behind w bs ≡ Some r → bs ≡ w ++ r
behind_back [] bs r e = some_bytes bs r e
behind_back (c ∷ w) [] r e = cc
behind_back (c ∷ w) (b ∷ bs) r e = of (b == c) refl (behind_back w bs r) e
  where
    of : (t : Bool) → (b == c) ≡ t → (behind w bs ≡ Some r → bs ≡ w ++ r) → (if t then behind w bs else None) ≡ Some r → b ∷ bs ≡ c ∷ (w ++ r)
    of true is rest e' = ap (λ (x : ℕ). x ∷ bs) (eqb-true b c is) ∙ ap (λ (xs : Bytes). c ∷ xs) (rest e')
    of false is rest e' = cc

-- LINE: ANSWER
pub answer_back : (n : ℕ) (line answer : Bytes) → answer_in n line ≡ Some answer → line ≡ decimal n ++ (codes ": " ++ answer)
answer_back n line answer e = of (behind_number n line) refl e
  where
    of : (o : Option Bytes) → behind_number n line ≡ o → option_and_then (behind (codes ": ")) o ≡ Some answer → line ≡ decimal n ++ (codes ": " ++ answer)
    of None is e' = cc
    of (Some r) is e' = number_splits n line r is ∙ ap (λ (x : Bytes). decimal n ++ x) (behind_back (codes ": ") r answer e')

-- client K WORD
heading_back : (k : ℕ) (word line : Bytes) → is_heading k word line ≡ true → line ≡ codes "client " ++ (decimal k ++ (32 ∷ word))
heading_back k word line e = of (behind (codes "client ") line) refl e
  where
    ends : (r : Bytes) (o : Option Bytes) → behind_number k r ≡ o → holds_of (λ rest. bytes_eq rest (32 ∷ word)) o ≡ true → r ≡ decimal k ++ (32 ∷ word)
    ends r None is e' = cc
    ends r (Some rest) is e' = number_splits k r rest is ∙ ap (λ (x : Bytes). decimal k ++ x) ((bytes_eq-Decides rest (32 ∷ word)).0 e')

    of : (o : Option Bytes) → behind (codes "client ") line ≡ o → holds_of (λ rest. bytes_eq rest (32 ∷ word)) (option_and_then (behind_number k) o) ≡ true → line ≡ codes "client " ++ (decimal k ++ (32 ∷ word))
    of None is e' = cc
    of (Some r) is e' = behind_back (codes "client ") line r is ∙ ap (λ (x : Bytes). codes "client " ++ x) (ends r (behind_number k r) refl e')

-- ---- lines

-- the text of lines
abbrev pub untext : List TextLine → Bytes
untext [] = []
untext (l ∷ ls) = l.text ++ (if l.ended then 10 ∷ untext ls else untext ls)

pub untext_lines : (bs : Bytes) → untext (text_lines bs) ≡ bs
untext_lines [] = refl
untext_lines (b ∷ bs) = by (b == 10) refl (untext_lines bs)
  where
    begun : (ls : List TextLine) → untext (begun_with b ls) ≡ b ∷ untext ls
    begun [] = refl
    begun (l ∷ ls) = refl

    by : (t : Bool) → (b == 10) ≡ t → untext (text_lines bs) ≡ bs → untext (if t then record { text = []; ended = true } ∷ text_lines bs else begun_with b (text_lines bs)) ≡ b ∷ bs
    by true is rest = ap (λ (x : Bytes). 10 ∷ x) rest ∙ ap (λ (x : ℕ). x ∷ bs) (sym (eqb-true b 10 is))
    by false is rest = begun (text_lines bs) ∙ ap (λ (x : Bytes). b ∷ x) rest

-- a line that was taken, and its line feed, come before the others
LineOf : List TextLine → Bytes × Place → Type 0
LineOf ls t = untext ls ≡ t.0 ++ 10 ∷ untext t.1.lines

line_back : (n : ℕ) (ls : List TextLine) → IfOk (LineOf ls) (line_from n ls)
unfolding LineOf
line_back n [] = tt
line_back n (l ∷ ls) = by l.ended
  where
    by : (t : Bool) → IfOk (λ (x : Bytes × Place). l.text ++ (if t then 10 ∷ untext ls else untext ls) ≡ x.0 ++ 10 ∷ untext x.1.lines) (if t then Ok (l.text, record { next = n + 1; lines = ls }) else Err n)
    by true = refl
    by false = tt

-- further lines come before the others, each behind a line feed
MoreOf : List TextLine → Bytes × Place → Type 0
MoreOf ls t = 10 ∷ untext ls ≡ t.0 ++ 10 ∷ untext t.1.lines

rows_back : (k : ℕ) (at : Place) → IfOk (MoreOf at.lines) (take_rows k at)
unfolding LineOf MoreOf
rows_back zero at = refl
rows_back (suc k) at =
    ok_then (LineOf at.lines) (MoreOf at.lines) (take_line at) _ (line_back at.next at.lines)
    (λ line is. after_any (MoreOf at.lines) (passed at.next (is_further line.0)) _
    (λ good. ok_then (MoreOf line.1.lines) (MoreOf at.lines) (take_rows k line.1) _ (rows_back k line.1)
    (λ others rest. ap (λ (x : Bytes). 10 ∷ x) (is ∙ ap (λ (x : Bytes). line.0 ++ x) rest ∙ sym (append_assoc line.0 others.0 (10 ∷ untext others.1.lines))))))

further_back : (n : ℕ) (ls : List TextLine) → MoreOf ls (further_from n ls)
unfolding MoreOf
further_back n [] = refl
further_back n (l ∷ ls) = by l.ended (is_further l.text) (further_back (n + 1) ls)
  where
    by : (t u : Bool) → 10 ∷ untext ls ≡ (further_from (n + 1) ls).0 ++ 10 ∷ untext (further_from (n + 1) ls).1.lines → 10 ∷ (l.text ++ (if t then 10 ∷ untext ls else untext ls)) ≡ (if t && u then before_others l.text (further_from (n + 1) ls) else ([], record { next = n; lines = record { text = l.text; ended = t } ∷ ls })).0 ++ 10 ∷ untext (if t && u then before_others l.text (further_from (n + 1) ls) else ([], record { next = n; lines = record { text = l.text; ended = t } ∷ ls })).1.lines
    by true true rest = ap (λ (x : Bytes). 10 ∷ (l.text ++ x)) rest ∙ ap (λ (x : Bytes). 10 ∷ x) (sym (append_assoc l.text (further_from (n + 1) ls).0 (10 ∷ untext (further_from (n + 1) ls).1.lines)))
    by true false rest = refl
    by false u rest = refl

more_or_back : (at : Place) (t : Bool) (o : Option ℕ) → IfOk (MoreOf at.lines) (rows_or at t o)
unfolding MoreOf
more_or_back at t (Some k) = rows_back k at
more_or_back at true None = further_back at.next at.lines
more_or_back at false None = refl

answer_more_back : (answer : Bytes) (at : Place) → IfOk (MoreOf at.lines) (take_further answer at)
answer_more_back answer at = more_or_back at (is_some (number_behind (codes "commit @") answer)) (number_behind (codes "rows ") answer)

-- ---- replies

-- LINE: ANSWER
abbrev pub line_with : ℕ → Bytes → Bytes
line_with n text = decimal n ++ (codes ": " ++ (text ++ 10 ∷ []))

ReplyOf : ℕ → List TextLine → Printed × Place → Type 0
ReplyOf n ls t = untext ls ≡ line_with n t.0.text ++ untext t.1.lines

line_again : (n : ℕ) (answer further rest : Bytes) → (decimal n ++ (codes ": " ++ answer)) ++ (further ++ 10 ∷ rest) ≡ line_with n (answer ++ further) ++ rest
line_again n answer further rest =
    append_assoc (decimal n) (codes ": " ++ answer) (further ++ 10 ∷ rest)
    ∙ ap (λ (x : Bytes). decimal n ++ (codes ": " ++ x)) (sym (append_assoc answer further (10 ∷ rest)) ∙ sym (append_assoc (answer ++ further) (10 ∷ []) rest))
    ∙ sym (append_assoc (decimal n) (codes ": " ++ ((answer ++ further) ++ 10 ∷ [])) rest)

reply_back : (mode : Mode) (l : Line) (at : Place) → IfOk (ReplyOf l.number at.lines) (take_reply mode l at)
unfolding LineOf MoreOf ReplyOf
reply_back mode l at =
    ok_then (LineOf at.lines) (ReplyOf l.number at.lines) (take_line at) _ (line_back at.next at.lines)
    (λ line is. ok_known (ReplyOf l.number at.lines) (needed at.next (answer_in l.number line.0)) _
    (λ answer found. after_any (ReplyOf l.number at.lines) (passed at.next (may_answer mode l.command answer)) _
    (λ good. ok_then (MoreOf line.1.lines) (ReplyOf l.number at.lines) (take_further answer line.1) _ (answer_more_back answer line.1)
    (λ further rest.
    is
    ∙ ap (λ (x : Bytes). x ++ 10 ∷ untext line.1.lines) (answer_back l.number line.0 answer (needed_some at.next (answer_in l.number line.0) answer found))
    ∙ ap (λ (x : Bytes). (decimal l.number ++ (codes ": " ++ answer)) ++ x) rest
    ∙ line_again l.number answer further.0 (untext further.1.lines)))))

-- the lines of a client
abbrev pub lines_with : List Line → List Printed → Bytes
lines_with [] ps = []
lines_with (l ∷ ls) [] = []
lines_with (l ∷ ls) (p ∷ ps) = line_with l.number p.text ++ lines_with ls ps

RepliesOf : List Line → List TextLine → List Printed × Place → Type 0
RepliesOf ls ts t = untext ts ≡ lines_with ls t.0 ++ untext t.1.lines

replies_back : (mode : Mode) (ls : List Line) (at : Place) → IfOk (RepliesOf ls at.lines) (take_replies mode ls at)
unfolding ReplyOf RepliesOf
replies_back mode [] at = refl
replies_back mode (l ∷ ls) at =
    ok_then (ReplyOf l.number at.lines) (RepliesOf (l ∷ ls) at.lines) (take_reply mode l at) _ (reply_back mode l at)
    (λ first is. ok_then (RepliesOf ls first.1.lines) (RepliesOf (l ∷ ls) at.lines) (take_replies (mode_after mode l.command) ls first.1) _ (replies_back (mode_after mode l.command) ls first.1)
    (λ others rest. is ∙ ap (λ (x : Bytes). line_with l.number first.0.text ++ x) rest ∙ sym (append_assoc (line_with l.number first.0.text) (lines_with ls others.0) (untext others.1.lines))))

abbrev pub client_with : ℕ → Bytes → List Line → List Printed → Bytes
client_with k w ls ps = heading k w ++ lines_with ls ps

ClientOf : ℕ → Bytes → List Line → List TextLine → List Printed × Place → Type 0
ClientOf k w ls ts t = untext ts ≡ client_with k w ls t.0 ++ untext t.1.lines

heading_again : (k : ℕ) (w rest : Bytes) → (codes "client " ++ (decimal k ++ (32 ∷ w))) ++ 10 ∷ rest ≡ heading k w ++ rest
heading_again k w rest =
    sym (append_assoc (codes "client " ++ (decimal k ++ (32 ∷ w))) (10 ∷ []) rest)
    ∙ ap (λ (x : Bytes). x ++ rest) (append_assoc (codes "client ") (decimal k ++ (32 ∷ w)) (10 ∷ []) ∙ ap (λ (x : Bytes). codes "client " ++ x) (append_assoc (decimal k) (32 ∷ w) (10 ∷ [])))

client_back : (k : ℕ) (w : Bytes) (ls : List Line) (at : Place) → IfOk (ClientOf k w ls at.lines) (take_client k w ls at)
unfolding LineOf RepliesOf ClientOf
client_back k w ls at =
    ok_then (LineOf at.lines) (ClientOf k w ls at.lines) (take_line at) _ (line_back at.next at.lines)
    (λ line is. ok_known (ClientOf k w ls at.lines) (passed at.next (is_heading k w line.0)) _
    (λ good head. ok_so (RepliesOf ls line.1.lines) (ClientOf k w ls at.lines) (take_replies Idle ls line.1) (replies_back Idle ls line.1)
    (λ t rest.
    is
    ∙ ap (λ (x : Bytes). x ++ 10 ∷ untext line.1.lines) (heading_back k w line.0 (passed_holds at.next (is_heading k w line.0) good head))
    ∙ heading_again k w (untext line.1.lines)
    ∙ ap (λ (x : Bytes). heading k w ++ x) rest
    ∙ sym (append_assoc (heading k w) (lines_with ls t.0) (untext t.1.lines)))))

abbrev pub output_with : ℕ → List Bytes → List (List Line) → List (List Printed) → Bytes
output_with k (w ∷ ws) (s ∷ ss) (ps ∷ pss) = client_with k w s ps ++ output_with (k + 1) ws ss pss
output_with k ws ss pss = []

-- each client has its replies, where each has a name
abbrev pub AreAsMany : List (List Line) → List (List Printed) → Type 0
AreAsMany [] [] = ⊤
AreAsMany [] (ps ∷ pss) = ⊥
AreAsMany (s ∷ ss) [] = ⊥
AreAsMany (s ∷ ss) (ps ∷ pss) = AreAsMany ss pss

OutputOf : ℕ → List Bytes → List (List Line) → List TextLine → List (List Printed) × Place → Type 0
OutputOf k ws ss ts t = (untext ts ≡ output_with k ws ss t.0 ++ untext t.1.lines) × AreAsMany ss t.0

clients_back : (k : ℕ) (ws : List Bytes) (ss : List (List Line)) (at : Place) → length ws ≡ length ss → IfOk (OutputOf k ws ss at.lines) (take_clients k ws ss at)
unfolding ClientOf OutputOf
clients_back k [] [] at named = (refl, tt)
clients_back k [] (s ∷ ss) at named = absurd (omega (arith, named))
clients_back k (w ∷ ws) [] at named = absurd (omega (arith, named))
clients_back k (w ∷ ws) (s ∷ ss) at named =
    ok_then (ClientOf k w s at.lines) (OutputOf k (w ∷ ws) (s ∷ ss) at.lines) (take_client k w s at) _ (client_back k w s at)
    (λ first is. ok_then (OutputOf (k + 1) ws ss first.1.lines) (OutputOf k (w ∷ ws) (s ∷ ss) at.lines) (take_clients (k + 1) ws ss first.1) _ (clients_back (k + 1) ws ss first.1 (omega (arith, named)))
    (λ others rest. (is ∙ ap (λ (x : Bytes). client_with k w s first.0 ++ x) rest.0 ∙ sym (append_assoc (client_with k w s first.0) (output_with (k + 1) ws ss others.0) (untext others.1.lines)), rest.1)))

-- the text is that of what was read
end_back : (at : Place) → IfOk (λ (u : Unit {0}). untext at.lines ≡ []) (at_end at)
end_back at = by at.lines
  where
    by : (ls : List TextLine) → IfOk (λ (u : Unit {0}). untext ls ≡ []) (at_end (record { next = at.next; lines = ls }))
    by [] = refl
    by (l ∷ ls) = tt

pub shape_back : (names : List Bytes) (scripts : List (List Line)) (out : Bytes) → length names ≡ length scripts → IfOk (λ pss. (out ≡ output_with 1 names scripts pss) × AreAsMany scripts pss) (shape names scripts out)
unfolding OutputOf
shape_back names scripts out named =
    let start : Place = record { next = 1; lines = text_lines out } in
    let Q : List (List Printed) → Type 0 = λ pss. (out ≡ output_with 1 names scripts pss) × AreAsMany scripts pss in
    ok_then (OutputOf 1 names scripts (text_lines out)) Q (take_clients 1 names scripts start) _ (clients_back 1 names scripts start named)
    (λ found is. ok_then (λ (u : Unit {0}). untext found.1.lines ≡ []) Q (at_end found.1) _ (end_back found.1)
    (λ u none. (sym (untext_lines out) ∙ is.0 ∙ ap (λ (x : Bytes). output_with 1 names scripts found.0 ++ x) none ∙ append-nil (output_with 1 names scripts found.0), is.1)))
