-- The text of an output has its shape, where each reply may stand there.
use Rattle.std.proofs.Common.{arith, ◌≡◌, refl, ap, subst, sym, ◌∙◌, ℕ, suc, ◌+◌, ◌^◌, ◌<◌, ◌≤◌, List, [], ◌∷◌, ◌++◌, length, map, Bool, true, false, ◌==◌, ◌&&◌, is_some, Option, Some, None, Ok, decimal, codes, append_assoc, append-nil}
use Rattle.std.specs.Bool.{⊤}
use Rattle.std.specs.Prelude.{if◌then◌else◌}
use Rattle.std.proofs.lemmas.Bool.{and_right, eqb-true, false_from_ne_true}
use Rattle.mdb_datum.specs.Bytes.{Bytes}
use Rattle.mdb_datum.specs.Row.{Fields}
use Rattle.mdb_datum.specs.Written.{row_text}
use Rattle.mdb_schema.specs.Tests.{◌>>=◌, passed}
use Rattle.mdb_schema.specs.declared.answer.Answer.TheVariants.{One, Many}
use Rattle.client_script.specs.Reply.{Reply, read_at, write_at, ended, committed, aborted, inserted, replaced, deleted, wiped, deferred, answered, snapshot_at, snapshot_within, quiet_at, fired_at, sized, woken_by, stopped_at, refused, heading, line_text, lines_text, output_text, reply_text}
use Rattle.client_script.specs.declared.line.Line.{Line}
use Rattle.run_check.specs.Mode.{mode_after}
use Rattle.run_check.specs.Shape.{Place, Printed, Taken, answer_in, before_others, further_from, is_further, may_answer, shape, take_client, take_clients, take_further, take_replies, take_reply, take_rows}
use Rattle.run_check.specs.TextLines.{TextLine, begun_with, behind, number_behind, text_lines}
use Rattle.run_check.specs.declared.mode.Mode.{Mode}
use Rattle.run_check.specs.declared.mode.Mode.TheVariants.{Idle}
use Rattle.run_check.proofs.IndentedTexts.{BeginsBlank, IsCleanReply}
use Rattle.run_check.proofs.OutputCut.{line_is, lines_dark, output_dark}
use Rattle.run_check.proofs.PlainTexts.{decimal_flat, is_flat, lacks_both}
use Rattle.run_check.proofs.ReplyLines.{first_line, further_line, head_text, joined, reply_lines, reply_parts, rows_of}
use Rattle.run_check.proofs.WrittenNumbers.{answer_read, heading_read, number_after}

-- ---- further lines

-- these bytes are taken, and these lines are left
pub data IsTaken {A : Type 0} (P : A → Type 0) (ls : List TextLine) (r : Taken A) : Type 0 where
  taken : (a : A) (m : ℕ) → P a → r ≡ Ok (a, record { next = m; lines = ls }) → IsTaken P ls r

abbrev Is : Bytes → Bytes → Type 0
Is bs a = a ≡ bs

rows_taken : (ts : List Bytes) (n : ℕ) (ls : List TextLine) → IsTaken (Is (joined ts)) ls (take_rows (length ts) (record { next = n; lines = map further_line ts ++ ls }))
rows_taken [] n ls = taken [] n refl refl
rows_taken (t ∷ ts) n ls = of (rows_taken ts (n + 1) ls)
  where
    of : IsTaken (Is (joined ts)) ls (take_rows (length ts) (record { next = n + 1; lines = map further_line ts ++ ls })) → IsTaken (Is (joined (t ∷ ts))) ls (take_rows (suc (length ts)) (record { next = n; lines = map further_line (t ∷ ts) ++ ls }))
    of (taken a m is e) =
        taken (10 ∷ ((32 ∷ 32 ∷ t) ++ a)) m (ap (λ (x : Bytes). 10 ∷ ((32 ∷ 32 ∷ t) ++ x)) is)
        (ap (λ (r : Taken Bytes). r >>= (λ others. Ok (10 ∷ ((32 ∷ 32 ∷ t) ++ others.0), others.1))) e)

-- the first line isn't a further one
abbrev StopsFurther : List TextLine → Type 0
StopsFurther [] = ⊤
StopsFurther (l ∷ ls) = (l.ended && is_further l.text) ≡ false

stops : (x : Bytes) → (BeginsBlank x → ⊥) → StopsFurther (text_lines x)
stops [] dark = tt
stops (b ∷ x) dark = by (b == 10)
  where
    other : (b == 32) ≡ false
    other = false_from_ne_true (b == 32) (λ e. dark (eqb-true b 32 e))

    no_further : (rest : Bytes) → is_further (b ∷ rest) ≡ false
    no_further rest = ap (λ (t : Bool). is_some (if t then behind (codes " ") rest else None)) other

    begun : (ls : List TextLine) → StopsFurther (begun_with b ls)
    begun [] = refl
    begun (l ∷ ls) = and_right l.ended (is_further (b ∷ l.text)) (no_further l.text)

    by : (t : Bool) → StopsFurther (if t then record { text = []; ended = true } ∷ text_lines x else begun_with b (text_lines x))
    by true = refl
    by false = begun (text_lines x)

all_taken : (ts : List Bytes) (n : ℕ) (ls : List TextLine) → StopsFurther ls → IsTaken (Is (joined ts)) ls (Ok (further_from n (map further_line ts ++ ls)))
all_taken [] n [] stop = taken [] n refl refl
all_taken [] n (l ∷ ls) stop = taken [] n refl (ap (λ (t : Bool). Ok (if t then before_others l.text (further_from (n + 1) ls) else ([], record { next = n; lines = l ∷ ls }))) stop)
all_taken (t ∷ ts) n ls stop = of (all_taken ts (n + 1) ls stop)
  where
    of : IsTaken (Is (joined ts)) ls (Ok (further_from (n + 1) (map further_line ts ++ ls))) → IsTaken (Is (joined (t ∷ ts))) ls (Ok (further_from n (map further_line (t ∷ ts) ++ ls)))
    of (taken a m is e) =
        taken (10 ∷ ((32 ∷ 32 ∷ t) ++ a)) m (ap (λ (x : Bytes). 10 ∷ ((32 ∷ 32 ∷ t) ++ x)) is)
        (ap (λ (r : Taken Bytes). r >>= (λ others. Ok (before_others (32 ∷ 32 ∷ t) others))) e)

-- what a reply's first line tells of the others; `rows k` is below 2^64
abbrev pub HasFewRows : Reply → Type 0
HasFewRows (answered (Many rows)) = length rows < 2 ^ 64
HasFewRows (committed n changed texts) = n < 2 ^ 64
HasFewRows r = ⊤

none_taken : (n : ℕ) (ls : List TextLine) → IsTaken (Is []) ls (Ok ([], record { next = n; lines = ls }))
none_taken n ls = taken [] n refl refl

rows_or : Bool → Place → Option ℕ → Taken Bytes
rows_or commits at (Some k) = take_rows k at
rows_or commits at None = if commits then Ok (further_from at.next at.lines) else Ok ([], at)

length_map : (rows : List Fields) → length (map row_text rows) ≡ length rows
length_map [] = refl
length_map (r ∷ rows) = ap suc (length_map rows)

counted_rows : (rows : List Fields) (n : ℕ) (ls : List TextLine) → length rows < 2 ^ 64 → IsTaken (Is (joined (map row_text rows))) ls (take_further (codes "rows " ++ decimal (length rows)) (record { next = n; lines = map further_line (map row_text rows) ++ ls }))
unfolding rows_or
counted_rows rows n ls few =
    let at : Place = record { next = n; lines = map further_line (map row_text rows) ++ ls } in
    let answer : Bytes = codes "rows " ++ decimal (length rows) in
    let told : number_behind (codes "rows ") answer ≡ Some (length rows) = ap (λ (x : Bytes). number_behind (codes "rows ") (codes "rows " ++ x)) (sym (append-nil (decimal (length rows)))) ∙ number_after (codes "rows ") [] (length rows) few tt in
    let is : take_further answer at ≡ take_rows (length (map row_text rows)) at = ap (rows_or (is_some (number_behind (codes "commit @") answer)) at) told ∙ ap (λ (k : ℕ). take_rows k at) (sym (length_map rows)) in
    subst (IsTaken (Is (joined (map row_text rows))) ls) (sym is) (rows_taken (map row_text rows) n ls)

commit_rows : (number : ℕ) (ts : List Bytes) (n : ℕ) (ls : List TextLine) → number < 2 ^ 64 → StopsFurther ls → IsTaken (Is (joined ts)) ls (take_further (codes "commit @" ++ decimal number) (record { next = n; lines = map further_line ts ++ ls }))
commit_rows number ts n ls few stop =
    let at : Place = record { next = n; lines = map further_line ts ++ ls } in
    let answer : Bytes = codes "commit @" ++ decimal number in
    let told : number_behind (codes "commit @") answer ≡ Some number = ap (λ (x : Bytes). number_behind (codes "commit @") (codes "commit @" ++ x)) (sym (append-nil (decimal number))) ∙ number_after (codes "commit @") [] number few tt in
    let is : take_further answer at ≡ Ok (further_from n (map further_line ts ++ ls)) = ap (λ (o : Option ℕ). if is_some o then Ok (further_from n (map further_line ts ++ ls)) else Ok ([], at)) told in
    subst (IsTaken (Is (joined ts)) ls) (sym is) (all_taken ts n ls stop)

further_taken : (r : Reply) (n : ℕ) (ls : List TextLine) → HasFewRows r → StopsFurther ls → IsTaken (Is (joined (rows_of r))) ls (take_further (head_text r) (record { next = n; lines = map further_line (rows_of r) ++ ls }))
further_taken (committed number changed texts) n ls few stop = commit_rows number (rows_of (committed number changed texts)) n ls few stop
further_taken (answered (Many rows)) n ls few stop = counted_rows rows n ls few
further_taken (answered (One None)) n ls few stop = none_taken n ls
further_taken (answered (One (Some row))) n ls few stop = none_taken n ls
further_taken (read_at k) n ls few stop = none_taken n ls
further_taken (write_at k) n ls few stop = none_taken n ls
further_taken ended n ls few stop = none_taken n ls
further_taken aborted n ls few stop = none_taken n ls
further_taken inserted n ls few stop = none_taken n ls
further_taken replaced n ls few stop = none_taken n ls
further_taken deleted n ls few stop = none_taken n ls
further_taken (wiped k) n ls few stop = none_taken n ls
further_taken deferred n ls few stop = none_taken n ls
further_taken (snapshot_at k) n ls few stop = none_taken n ls
further_taken (snapshot_within k) n ls few stop = none_taken n ls
further_taken (quiet_at k) n ls few stop = none_taken n ls
further_taken (fired_at k) n ls few stop = none_taken n ls
further_taken (sized k) n ls few stop = none_taken n ls
further_taken (woken_by name k) n ls few stop = none_taken n ls
further_taken (stopped_at k) n ls few stop = none_taken n ls
further_taken (refused rule) n ls few stop = none_taken n ls

-- ---- replies

-- a reply that may stand at a line
pub record MayStand (mode : Mode) (l : Line) (r : Reply) : Type 0 where
  pub number : l.number < 2 ^ 64
  pub clean : IsCleanReply r
  pub rows : HasFewRows r
  pub form : may_answer mode l.command (head_text r) ≡ true

abbrev pub MayAllStand : Mode → List Line → List Reply → Type 0
MayAllStand mode [] [] = ⊤
MayAllStand mode [] (r ∷ rs) = ⊥
MayAllStand mode (l ∷ ls) [] = ⊥
MayAllStand mode (l ∷ ls) (r ∷ rs) = MayStand mode l r × MayAllStand (mode_after mode l.command) ls rs

abbrev pub MayStandIn : List (List Line) → List (List Reply) → Type 0
MayStandIn [] [] = ⊤
MayStandIn [] (rs ∷ rss) = ⊥
MayStandIn (s ∷ ss) [] = ⊥
MayStandIn (s ∷ ss) (rs ∷ rss) = MayAllStand Idle s rs × MayStandIn ss rss

-- these are the texts of the replies
abbrev pub ArePrinted : List Reply → List Printed → Type 0
ArePrinted [] [] = ⊤
ArePrinted [] (p ∷ ps) = ⊥
ArePrinted (r ∷ rs) [] = ⊥
ArePrinted (r ∷ rs) (p ∷ ps) = (p.text ≡ reply_text r) × ArePrinted rs ps

abbrev pub AllPrinted : List (List Reply) → List (List Printed) → Type 0
AllPrinted [] [] = ⊤
AllPrinted [] (ps ∷ pss) = ⊥
AllPrinted (rs ∷ rss) [] = ⊥
AllPrinted (rs ∷ rss) (ps ∷ pss) = ArePrinted rs ps × AllPrinted rss pss

-- where the lines are those of a text
lines_at : ℕ → Bytes → Place
lines_at n x = record { next = n; lines = text_lines x }

reply_taken : (mode : Mode) (l : Line) (r : Reply) (n : ℕ) (x : Bytes) → MayStand mode l r → (BeginsBlank x → ⊥) → IsTaken (λ (p : Printed). p.text ≡ reply_text r) (text_lines x) (take_reply mode l (lines_at n (line_text l.number r ++ x)))
unfolding lines_at
reply_taken mode l r n x may dark = of (further_taken r (n + 1) (text_lines x) may.rows (stops x dark))
  where
    front : Bytes
    front = decimal l.number ++ codes ": "

    first : Bytes
    first = front ++ head_text r

    after : Place
    after = record { next = n + 1; lines = map further_line (rows_of r) ++ text_lines x }

    lines : text_lines (line_text l.number r ++ x) ≡ record { text = (decimal l.number ++ codes ": ") ++ head_text r; ended = true } ∷ (map further_line (rows_of r) ++ text_lines x)
    lines =
        ap text_lines (line_is l.number r x ∙ sym (append_assoc (decimal l.number) (codes ": ") (reply_text r ++ 10 ∷ x)))
        ∙ reply_lines (decimal l.number ++ codes ": ") r x (lacks_both 10 (decimal l.number) (codes ": ") (decimal_flat l.number) refl) may.clean

    answer : answer_in l.number ((decimal l.number ++ codes ": ") ++ head_text r) ≡ Some (head_text r)
    answer = ap (answer_in l.number) (append_assoc (decimal l.number) (codes ": ") (head_text r)) ∙ answer_read l.number (head_text r) may.number

    of : IsTaken (Is (joined (rows_of r))) (text_lines x) (take_further (head_text r) (record { next = n + 1; lines = map further_line (rows_of r) ++ text_lines x })) → IsTaken (λ (p : Printed). p.text ≡ reply_text r) (text_lines x) (take_reply mode l (record { next = n; lines = text_lines (line_text l.number r ++ x) }))
    of (taken a m is e) =
        taken (record { line = n; text = head_text r ++ a }) m (ap (λ (y : Bytes). head_text r ++ y) is ∙ sym (reply_parts r))
        (ap (λ (ls : List TextLine). take_reply mode l (record { next = n; lines = ls })) lines ∙ rw (answer, may.form, e) refl)

replies_taken : (mode : Mode) (ls : List Line) (rs : List Reply) (n : ℕ) (x : Bytes) → MayAllStand mode ls rs → (BeginsBlank x → ⊥) → IsTaken (ArePrinted rs) (text_lines x) (take_replies mode ls (lines_at n (lines_text ls rs ++ x)))
unfolding lines_at
replies_taken mode [] [] n x may dark = taken [] n tt refl
replies_taken mode [] (r ∷ rs) n x may dark = absurd may
replies_taken mode (l ∷ ls) [] n x may dark = absurd may
replies_taken mode (l ∷ ls) (r ∷ rs) n x may dark = of (reply_taken mode l r n (lines_text ls rs ++ x) may.0 (lines_dark ls rs x dark)) (λ m. replies_taken (mode_after mode l.command) ls rs m x may.1 dark)
  where
    of : IsTaken (λ (p : Printed). p.text ≡ reply_text r) (text_lines (lines_text ls rs ++ x)) (take_reply mode l (record { next = n; lines = text_lines (line_text l.number r ++ (lines_text ls rs ++ x)) })) → ((m : ℕ) → IsTaken (ArePrinted rs) (text_lines x) (take_replies (mode_after mode l.command) ls (record { next = m; lines = text_lines (lines_text ls rs ++ x) }))) → IsTaken (ArePrinted (r ∷ rs)) (text_lines x) (take_replies mode (l ∷ ls) (record { next = n; lines = text_lines ((line_text l.number r ++ lines_text ls rs) ++ x) }))
    of (taken p m is e) others = both (others m)
      where
        both : IsTaken (ArePrinted rs) (text_lines x) (take_replies (mode_after mode l.command) ls (record { next = m; lines = text_lines (lines_text ls rs ++ x) })) → IsTaken (ArePrinted (r ∷ rs)) (text_lines x) (take_replies mode (l ∷ ls) (record { next = n; lines = text_lines ((line_text l.number r ++ lines_text ls rs) ++ x) }))
        both (taken ps k all e') =
            taken (p ∷ ps) k (is, all)
            (ap (λ (y : Bytes). take_replies mode (l ∷ ls) (record { next = n; lines = text_lines y })) (append_assoc (line_text l.number r) (lines_text ls rs) x) ∙ rw (e, e') refl)

client_taken : (k : ℕ) (w : Bytes) (ls : List Line) (rs : List Reply) (n : ℕ) (x : Bytes) → k < 2 ^ 64 → is_flat w ≡ true → MayAllStand Idle ls rs → (BeginsBlank x → ⊥) → IsTaken (ArePrinted rs) (text_lines x) (take_client k w ls (lines_at n (heading k w ++ (lines_text ls rs ++ x))))
unfolding lines_at
client_taken k w ls rs n x small flat may dark =
    subst (λ (ts : List TextLine). IsTaken (ArePrinted rs) (text_lines x) (take_client k w ls (record { next = n; lines = ts }))) (sym lines)
    (subst (λ (t : Bool). IsTaken (ArePrinted rs) (text_lines x) (passed n t >>= (λ headed. take_replies Idle ls (record { next = n + 1; lines = text_lines (lines_text ls rs ++ x) })))) (sym (heading_read k w small))
    (replies_taken Idle ls rs (n + 1) x may dark))
  where
    rest : Bytes
    rest = lines_text ls rs ++ x

    line : Bytes
    line = codes "client " ++ (decimal k ++ (32 ∷ w))

    whole : heading k w ++ (lines_text ls rs ++ x) ≡ (codes "client " ++ (decimal k ++ (32 ∷ w))) ++ 10 ∷ (lines_text ls rs ++ x)
    whole =
        ap (λ (y : Bytes). (codes "client " ++ y) ++ (lines_text ls rs ++ x)) (sym (append_assoc (decimal k) (32 ∷ w) (10 ∷ [])))
        ∙ ap (λ (y : Bytes). y ++ (lines_text ls rs ++ x)) (sym (append_assoc (codes "client ") (decimal k ++ (32 ∷ w)) (10 ∷ [])))
        ∙ append_assoc (codes "client " ++ (decimal k ++ (32 ∷ w))) (10 ∷ []) (lines_text ls rs ++ x)

    lines : text_lines (heading k w ++ (lines_text ls rs ++ x)) ≡ record { text = codes "client " ++ (decimal k ++ (32 ∷ w)); ended = true } ∷ text_lines (lines_text ls rs ++ x)
    lines = ap text_lines whole ∙ first_line (codes "client " ++ (decimal k ++ (32 ∷ w))) (lines_text ls rs ++ x) (lacks_both 10 (codes "client ") (decimal k ++ (32 ∷ w)) refl (lacks_both 10 (decimal k) (32 ∷ w) (decimal_flat k) flat))

-- no word has a line feed
abbrev pub AreFlatWords : List Bytes → Type 0
AreFlatWords [] = ⊤
AreFlatWords (w ∷ ws) = (is_flat w ≡ true) × AreFlatWords ws

clients_taken : (k : ℕ) (ws : List Bytes) (ss : List (List Line)) (rss : List (List Reply)) (n : ℕ) → k + length ss < 2 ^ 64 → length ws ≡ length ss → AreFlatWords ws → MayStandIn ss rss → IsTaken (AllPrinted rss) [] (take_clients k ws ss (lines_at n (output_text k ws ss rss)))
unfolding lines_at
clients_taken k [] [] [] n small named flat may = taken [] n tt refl
clients_taken k [] [] (rs ∷ rss) n small named flat may = absurd may
clients_taken k [] (s ∷ ss) rss n small named flat may = absurd (omega (arith, named))
clients_taken k (w ∷ ws) [] rss n small named flat may = absurd (omega (arith, named))
clients_taken k (w ∷ ws) (s ∷ ss) [] n small named flat may = absurd may
clients_taken k (w ∷ ws) (s ∷ ss) (rs ∷ rss) n small named flat may =
    of (client_taken k w s rs n (output_text (k + 1) ws ss rss) (omega (arith, small)) flat.0 may.0 (output_dark (k + 1) ws ss rss))
    (λ m. clients_taken (k + 1) ws ss rss m (omega (arith, small)) (omega (arith, named)) flat.1 may.1)
  where
    of : IsTaken (ArePrinted rs) (text_lines (output_text (k + 1) ws ss rss)) (take_client k w s (record { next = n; lines = text_lines (heading k w ++ (lines_text s rs ++ output_text (k + 1) ws ss rss)) })) → ((m : ℕ) → IsTaken (AllPrinted rss) [] (take_clients (k + 1) ws ss (record { next = m; lines = text_lines (output_text (k + 1) ws ss rss) }))) → IsTaken (AllPrinted (rs ∷ rss)) [] (take_clients k (w ∷ ws) (s ∷ ss) (record { next = n; lines = text_lines (heading k w ++ (lines_text s rs ++ output_text (k + 1) ws ss rss)) }))
    of (taken ps m all e) others = both (others m)
      where
        both : IsTaken (AllPrinted rss) [] (take_clients (k + 1) ws ss (record { next = m; lines = text_lines (output_text (k + 1) ws ss rss) })) → IsTaken (AllPrinted (rs ∷ rss)) [] (take_clients k (w ∷ ws) (s ∷ ss) (record { next = n; lines = text_lines (heading k w ++ (lines_text s rs ++ output_text (k + 1) ws ss rss)) }))
        both (taken pss j all' e') = taken (ps ∷ pss) j (all, all') (rw (e, e') refl)

-- so the text is read as those replies
pub output_read : (ws : List Bytes) (ss : List (List Line)) (rss : List (List Reply)) → length ss ≤ 64 → length ws ≡ length ss → AreFlatWords ws → MayStandIn ss rss → (pss : List (List Printed)) × (shape ws ss (output_text 1 ws ss rss) ≡ Ok pss) × AllPrinted rss pss
unfolding lines_at
output_read ws ss rss few named flat may = of (clients_taken 1 ws ss rss 1 (omega (arith, few)) named flat may)
  where
    of : IsTaken (AllPrinted rss) [] (take_clients 1 ws ss (record { next = 1; lines = text_lines (output_text 1 ws ss rss) })) → (pss : List (List Printed)) × (shape ws ss (output_text 1 ws ss rss) ≡ Ok pss) × AllPrinted rss pss
    of (taken pss m all e) = (pss, rw e refl, all)
