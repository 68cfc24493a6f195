-- Replies and clients, taken one after the other.
use Rattle.std.proofs.Common.{arith, ◌≡◌, refl, ap, subst, sym, ◌∙◌, ℕ, ◌+◌, ◌≤◌, List, [], ◌∷◌, ◌++◌, length, drop, map, Bool, true, false, Some, Ok, Err, Result, append-nil}
use Rattle.std.specs.Prelude.{if◌then◌else◌, nat_eq, slice_get}
use Rattle.std.specs.Result.{IsErrAnd}
use Rattle.std.proofs.Math.ListN.{drop_of_length-le}
use Rattle.std.proofs.lemmas.Bool.Decides.{nat_tests}
use Rattle.std.proofs.lemmas.List.{map-append}
use Rattle.std.specs.declared.alloc.Global.{Global}
use Rattle.std.specs.declared.vec.Vec.{Vec}
use Rattle.mdb_datum.specs.Bytes.{Bytes}
use Rattle.mdb_datum.proofs.ListPlaces.{drop_at}
use Rattle.mdb_schema.specs.Tests.{◌>>=◌}
use Rattle.client_script.specs.declared.line.Line.{Line}
use Rattle.run_check.specs.Mode.{mode_after}
use Rattle.run_check.specs.Shape as plain
use Rattle.run_check.specs.Shape.{Read, Taken, at_end, is_heading, shape, take_client, take_clients, take_line, take_replies, take_reply}
use Rattle.run_check.specs.TextLines.{begun_with, text_lines, TextLine}
use Rattle.run_check.specs.declared.mode.Mode.{Mode}
use Rattle.run_check.specs.declared.mode.Mode.TheVariants.{Idle}
use Rattle.run_check.specs.declared.place.Place.{Place}
use Rattle.run_check.specs.declared.shape.Printed.{Printed}
use Rattle.run_check.specs.declared.stop.Stop.{Stop}
use Rattle.run_check.specs.declared.stop.Stop.TheVariants as stops
use Rattle.run_check.specs.inner.Further.{with_front}
use Rattle.run_check.specs.Reads.{Reads, lists_of}
use Rattle.run_check.specs.Views.{place_of, printed_of, taken_of}
use Rattle.run_check.proofs.FurtherRows.{no_front, twice}

-- ---- what ends a reading

pub stops_bad : {A B : Type 0} (view : A → B) (read : Read B) (result : Result A Stop) (line : ℕ) → IsErrAnd result (λ stop. stop ≡ stops.Bad line) → read ≡ Err line → Reads view read result
stops_bad view read (Ok x) line stop bad = absurd stop
stops_bad view read (Err s) line stop bad = subst (λ (t : Stop). Reads view read (Err t)) (sym stop) bad

-- what ends one reading ends another, of which it is a part
pub stops_on : {A B C D : Type 0} (part_view : A → B) (part : Read B) (stop : Stop) (view : C → D) (read : Read D) (result : Result C Stop) → ((line : ℕ) → part ≡ Err line → read ≡ Err line) → Reads part_view part (Err stop) → IsErrAnd result (λ s. s ≡ stop) → Reads view read result
stops_on part_view part stop view read (Ok x) so ends is = absurd is
stops_on part_view part stops.Memory view read (Err s) so ends is = subst (λ (t : Stop). Reads view read (Err t)) (sym is) tt
stops_on part_view part (stops.Bad line) view read (Err s) so ends is = subst (λ (t : Stop). Reads view read (Err t)) (sym is) (so line ends)

-- a reading that is another one
pub reads_same : {A B : Type 0} (view : A → B) (read other : Read B) (result : Result A Stop) → other ≡ read → Reads view read result → Reads view other result
reads_same view read other result is reads = subst (λ (r : Read _). Reads view r result) (sym is) reads

-- ---- one before others

abbrev before_rest : {A : Type 0} → A → Taken (List A) → Taken (List A)
before_rest x r = r >>= (λ others. Ok (x ∷ others.0, others.1))

one_before : {A : Type 0} (x : A) (r : Taken (List A)) → before_rest x r ≡ with_front (x ∷ []) r
one_before x (Ok t) = refl
one_before x (Err bad) = refl

-- ---- replies

abbrev more_replies : Mode → List Line → Taken plain.Printed → Taken (List plain.Printed)
more_replies mode ls r = r >>= (λ first. before_rest first.0 (take_replies mode ls first.1))

reply_then : (mode : Mode) (l : Line) (ls : List Line) (at behind : plain.Place) (p : plain.Printed) → take_reply mode l at ≡ Ok (p, behind) → take_replies mode (l ∷ ls) at ≡ with_front (p ∷ []) (take_replies (mode_after mode l.command) ls behind)
reply_then mode l ls at behind p taken =
    ap (more_replies (mode_after mode l.command) ls) taken
    ∙ one_before p (take_replies (mode_after mode l.command) ls behind)

reply_bad : (mode : Mode) (l : Line) (ls : List Line) (at : plain.Place) (bad : ℕ) → take_reply mode l at ≡ Err bad → take_replies mode (l ∷ ls) at ≡ Err bad
reply_bad mode l ls at bad missing = ap (more_replies (mode_after mode l.command) ls) missing

-- behind the replies to so many lines
pub record AreReplied (script : List Line) (at : Place) (k : ℕ) (mode : Mode) (replies : List Printed) (place : Place) : Type 0 where
  pub whole : take_replies Idle script (place_of at) ≡ with_front (map printed_of replies) (take_replies mode (drop k script) (place_of place))

pub no_reply_yet : (script : List Line) (at : Place) → AreReplied script at 0 Idle [] at
no_reply_yet script at = record { whole = no_front (take_replies Idle script (place_of at)) }

module _ (script : List Line) (at place : Place) (k : ℕ) (mode : Mode) (replies : List Printed) (line : Line) (there : slice_get script k ≡ Some line) (so_far : AreReplied script at k mode replies place) where
  from_line : take_replies Idle script (place_of at) ≡ with_front (map printed_of replies) (take_replies mode (line ∷ drop (k + 1) script) (place_of place))
  from_line =
      so_far.whole
      ∙ ap (λ (ls : List Line). with_front (map printed_of replies) (take_replies mode ls (place_of place))) (drop_at script k line there)

  pub one_more_reply : (next : Place) (after : Mode) (printed : Printed) (more : List Printed) → take_reply mode line (place_of place) ≡ Ok (taken_of (printed, next)) → after ≡ mode_after mode line.command → more ≡ replies ++ printed ∷ [] → AreReplied script at (k + 1) after more next
  one_more_reply next after printed more taken is_after is_more =
      let rest = take_replies (mode_after mode line.command) (drop (k + 1) script) (place_of next) in
      let front = map printed_of replies in
      let all : map printed_of more ≡ front ++ printed_of printed ∷ [] = ap (map printed_of) is_more ∙ map-append printed_of replies (printed ∷ []) in
      record {
        whole =
            from_line
            ∙ ap (with_front front) (reply_then mode line (drop (k + 1) script) (place_of place) (place_of next) (printed_of printed) taken)
            ∙ twice front (printed_of printed ∷ []) rest
            ∙ ap (λ (ps : List plain.Printed). with_front ps rest) (sym all)
            ∙ ap (λ (m : Mode). with_front (map printed_of more) (take_replies m (drop (k + 1) script) (place_of next))) (sym is_after);
      }

  pub reply_refused : (bad : ℕ) → take_reply mode line (place_of place) ≡ Err bad → take_replies Idle script (place_of at) ≡ Err bad
  reply_refused bad missing =
      from_line ∙ ap (with_front (map printed_of replies)) (reply_bad mode line (drop (k + 1) script) (place_of place) bad missing)

pub all_replied : (script : List Line) (at place : Place) (k : ℕ) (mode : Mode) (replies : List Printed) → length script ≤ k → AreReplied script at k mode replies place → take_replies Idle script (place_of at) ≡ Ok (map printed_of replies, place_of place)
all_replied script at place k mode replies le so_far =
    let with_place : List plain.Printed → Taken (List plain.Printed) = λ ps. Ok (ps, place_of place) in
    so_far.whole
    ∙ ap (λ (ls : List Line). with_front (map printed_of replies) (take_replies mode ls (place_of place))) (drop_of_length-le script le)
    ∙ ap with_place (append-nil (map printed_of replies))

-- ---- a client

pub client_headed : (k : ℕ) (word line : Bytes) (script : List Line) (at behind : plain.Place) → take_line at ≡ Ok (line, behind) → is_heading k word line ≡ true → take_client k word script at ≡ take_replies Idle script behind
client_headed k word line script at behind taken headed = rw (taken, headed) refl

pub client_not_headed : (k : ℕ) (word line : Bytes) (script : List Line) (at behind : plain.Place) → take_line at ≡ Ok (line, behind) → is_heading k word line ≡ false → take_client k word script at ≡ Err at.next
client_not_headed k word line script at behind taken other = rw (taken, other) refl

pub client_missing : (k : ℕ) (word : Bytes) (script : List Line) (at : plain.Place) (bad : ℕ) → take_line at ≡ Err bad → take_client k word script at ≡ Err bad
client_missing k word script at bad missing = rw missing refl

-- ---- clients

abbrev more_clients : ℕ → List Bytes → List (List Line) → Taken (List plain.Printed) → Taken (List (List plain.Printed))
more_clients k ws ss r = r >>= (λ first. before_rest first.0 (take_clients k ws ss first.1))

client_then : (k : ℕ) (w : Bytes) (ws : List Bytes) (s : List Line) (ss : List (List Line)) (at behind : plain.Place) (ps : List plain.Printed) → take_client k w s at ≡ Ok (ps, behind) → take_clients k (w ∷ ws) (s ∷ ss) at ≡ with_front (ps ∷ []) (take_clients (k + 1) ws ss behind)
client_then k w ws s ss at behind ps taken =
    ap (more_clients (k + 1) ws ss) taken ∙ one_before ps (take_clients (k + 1) ws ss behind)

client_bad : (k : ℕ) (w : Bytes) (ws : List Bytes) (s : List Line) (ss : List (List Line)) (at : plain.Place) (bad : ℕ) → take_client k w s at ≡ Err bad → take_clients k (w ∷ ws) (s ∷ ss) at ≡ Err bad
client_bad k w ws s ss at bad missing = ap (more_clients (k + 1) ws ss) missing

-- a text that ends behind what was taken
abbrev ended : Taken (List (List plain.Printed)) → Read (List (List plain.Printed))
ended r = r >>= (λ found. at_end found.1 >>= (λ none. Ok found.0))

-- the place before all of a text
abbrev first_place : Bytes → plain.Place
first_place out = record { next = 1; lines = text_lines out }

-- behind so many clients
pub record AreHeard (words : List Bytes) (scripts : List (List Line)) (out : Bytes) (k : ℕ) (clients : List (Vec Printed Global)) (place : Place) : Type 0 where
  pub whole : take_clients 1 words scripts (record { next = 1; lines = text_lines out }) ≡ with_front (lists_of clients) (take_clients (k + 1) (drop k words) (drop k scripts) (place_of place))

pub none_heard_yet : (words : List Bytes) (scripts : List (List Line)) (out : Bytes) (start : Place) → start.next ≡ 1 → start.rest.now ≡ out → AreHeard words scripts out 0 [] start
none_heard_yet words scripts out start first all =
    let at : place_of start ≡ first_place out = ap (λ (n : ℕ). record { next = n; lines = text_lines start.rest.now }) first ∙ ap first_place all in
    record {
      whole =
          no_front (take_clients 1 words scripts (first_place out))
          ∙ ap (λ (p : plain.Place). with_front [] (take_clients 1 words scripts p)) (sym at);
    }

module _ (words : List Bytes) (scripts : List (List Line)) (out : Bytes) (k : ℕ) (clients : List (Vec Printed Global)) (place : Place) (word : Bytes) (script : List Line) (named : slice_get words k ≡ Some word) (there : slice_get scripts k ≡ Some script) (so_far : AreHeard words scripts out k clients place) where
  from_client : take_clients 1 words scripts (first_place out) ≡ with_front (lists_of clients) (take_clients (k + 1) (word ∷ drop (k + 1) words) (script ∷ drop (k + 1) scripts) (place_of place))
  from_client =
      so_far.whole
      ∙ ap (λ (ws : List Bytes). with_front (lists_of clients) (take_clients (k + 1) ws (drop k scripts) (place_of place))) (drop_at words k word named)
      ∙ ap (λ (ss : List (List Line)). with_front (lists_of clients) (take_clients (k + 1) (word ∷ drop (k + 1) words) ss (place_of place))) (drop_at scripts k script there)

  pub one_more_client : (next : Place) (replies : Vec Printed Global) (more : List (Vec Printed Global)) → take_client (k + 1) word script (place_of place) ≡ Ok (map printed_of replies.items, place_of next) → more ≡ clients ++ replies ∷ [] → AreHeard words scripts out (k + 1) more next
  one_more_client next replies more taken is_more =
      let rest = take_clients (k + 1 + 1) (drop (k + 1) words) (drop (k + 1) scripts) (place_of next) in
      let list = map printed_of replies.items in
      let all : lists_of more ≡ lists_of clients ++ list ∷ [] = ap lists_of is_more ∙ map-append (λ (v : Vec Printed Global). map printed_of v.items) clients (replies ∷ []) in
      record {
        whole =
            from_client
            ∙ ap (with_front (lists_of clients)) (client_then (k + 1) word (drop (k + 1) words) script (drop (k + 1) scripts) (place_of place) (place_of next) list taken)
            ∙ twice (lists_of clients) (list ∷ []) rest
            ∙ ap (λ (pss : List (List plain.Printed)). with_front pss rest) (sym all);
      }

  pub client_refused : (bad : ℕ) → take_client (k + 1) word script (place_of place) ≡ Err bad → shape words scripts out ≡ Err bad
  client_refused bad missing =
      ap ended (from_client ∙ ap (with_front (lists_of clients)) (client_bad (k + 1) word (drop (k + 1) words) script (drop (k + 1) scripts) (place_of place) bad missing))

-- ---- the end

abbrev all_before : List (List plain.Printed) → plain.Place → Read (List (List plain.Printed))
all_before pss at = at_end at >>= (λ none. Ok pss)

no_lines : (n : ℕ) (bs : Bytes) → nat_eq (length bs) 0 ≡ true → at_end (record { next = n; lines = text_lines bs }) ≡ Ok tt
no_lines n [] none = refl
no_lines n (b ∷ bs) none = absurd (grind (arith, nat_tests, none))

some_begun : (n b : ℕ) (ls : List TextLine) → at_end (record { next = n; lines = begun_with b ls }) ≡ Err n
some_begun n b [] = refl
some_begun n b (l ∷ ls) = refl

some_lines : (n : ℕ) (bs : Bytes) → nat_eq (length bs) 0 ≡ false → at_end (record { next = n; lines = text_lines bs }) ≡ Err n
some_lines n [] some = absurd (grind (arith, nat_tests, some))
some_lines n (b ∷ bs) some = of (nat_eq b 10)
  where
    of : (t : Bool) → at_end (record { next = n; lines = (if t then record { text = []; ended = true } ∷ text_lines bs else begun_with b (text_lines bs)) }) ≡ Err n
    of true = refl
    of false = some_begun n b (text_lines bs)

module _ (words : List Bytes) (scripts : List (List Line)) (out : Bytes) (k : ℕ) (clients : List (Vec Printed Global)) (place : Place) (le : length words ≤ k) (so_far : AreHeard words scripts out k clients place) where
  whole_heard : shape words scripts out ≡ all_before (lists_of clients) (place_of place)
  whole_heard =
      ap ended so_far.whole
      ∙ ap (λ (ws : List Bytes). ended (with_front (lists_of clients) (take_clients (k + 1) ws (drop k scripts) (place_of place)))) (drop_of_length-le words le)
      ∙ ap (λ (pss : List (List plain.Printed)). all_before pss (place_of place)) (append-nil (lists_of clients))

  pub all_heard : nat_eq (length place.rest.now) 0 ≡ true → shape words scripts out ≡ Ok (lists_of clients)
  all_heard none = whole_heard ∙ ap (λ (r : Read (Unit {0})). r >>= (λ (u : Unit {0}). Ok (lists_of clients))) (no_lines place.next place.rest.now none)

  pub more_follows : nat_eq (length place.rest.now) 0 ≡ false → shape words scripts out ≡ Err place.next
  more_follows some = whole_heard ∙ ap (λ (r : Read (Unit {0})). r >>= (λ (u : Unit {0}). Ok (lists_of clients))) (some_lines place.next place.rest.now some)
