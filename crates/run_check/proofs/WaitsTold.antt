-- Lines that wait, as the code carries them out.
use Rattle.std.proofs.Common.{arith, get_or, ◌≡◌, ◌≢◌, refl, ap, subst, sym, ◌∙◌, ℕ, suc, zero, ◌^◌, ◌<◌, ◌≤◌, List, [], ◌∷◌, ◌++◌, length, take, Bool, true, false, Option, Some, None, Ok, decimal, codes, append_assoc}
use Rattle.std.specs.Bool.{Decides}
use Rattle.std.specs.Borrow.{Bor}
use Rattle.std.specs.Option.{option_copied}
use Rattle.std.specs.Prelude.{IfSome, IsSome, is_some, nat_lt, option_and_then, slice_get, if◌then◌else◌}
use Rattle.std.specs.List.{cons_option}
use Rattle.std.proofs.lemmas.Bool.Decides.{nat_tests}
use Rattle.std.proofs.lemmas.Option.{same_Some, slice_get-get_or, slice_get_past}
use Rattle.mdb_datum.specs.Bytes.{Bytes}
use Rattle.mdb_datum.proofs.ListPlaces.{there_within}
use Rattle.mdb_schema.proofs.PassedTests.{needed_some}
use Rattle.mdb_schema.specs.History.{History}
use Rattle.mdb_schema.specs.Schema.{DbSchema}
use Rattle.mdb_schema.specs.Watchable.{IsTouched}
use Rattle.client_script.specs.Client as plain
use Rattle.client_script.specs.Client.{Judged, no_write_open, set_named}
use Rattle.client_script.specs.Reply.{reply_text, woken_by}
use Rattle.client_script.specs.Turn.{set_called}
use Rattle.client_script.specs.Watching.{AreUnchanged, told_number, until_judged, wait_judged, watch_called}
use Rattle.client_script.specs.declared.command.Command.TheVariants as command
use Rattle.client_script.specs.declared.command.WatchesCommand.{WatchesCommand}
use Rattle.client_script.specs.declared.command.WatchesCommand.TheVariants as watches_line
use Rattle.run_check.specs.TextLines.{number_behind}
use Rattle.run_check.specs.declared.client.Client.{Client}
use Rattle.run_check.specs.declared.session.Sessions.{Sessions}
use Rattle.run_check.specs.declared.member.Woken.{Woken}
use Rattle.run_check.specs.declared.watching.Set.{Set}
use Rattle.run_check.specs.inner.ClientView.{known, watches_at, watches_known}
use Rattle.run_check.specs.inner.Decided.{AreNamed, IsDecided, IsFirstNamed, NamesTell}
use Rattle.run_check.specs.inner.SessionView.{IsDue, IsKnown, IsWaitFor, TellsMade}
use Rattle.run_check.specs.inner.StoreView.{Begun}
use Rattle.run_check.specs.inner.WaitView.{ArePlaced, IsEnd, IsWokenMember, TellsMember}
use Rattle.run_check.proofs.DecidedNumbers.{IsPresent, its_number}
use Rattle.run_check.proofs.DecidedWaits.{IsStoppedText, IsWokenAt, IsWokenText}
use Rattle.run_check.proofs.DecidedWakes.{IsFirstWoken, stop_decided, until_decided, until_undecided, wait_decided, wait_undecided, woken_at_first}
use Rattle.run_check.proofs.FirstMembers.{AllWithin, kept_place}
use Rattle.run_check.proofs.MembersTold.{IsKeptSet}
use Rattle.run_check.proofs.NumbersTold.{IsNumberSaid, IsSaid, none_said, number_said, said_known, with_text}
use Rattle.run_check.proofs.Outcomes.{came_of}

none_some : {A : Type 0} (a : A) → None ≡ Some a → ⊥
none_some a e = cc

some_given : (o : Option ℕ) → IsSome o → o ≡ None → ⊥
some_given None some none = cc
some_given (Some n) some none = cc

false_true : false ≡ true → ⊥
false_true e = cc

-- the number that is lent at a place
pub copied_at : (xs : List ℕ) (i : ℕ) (r : Option (Bor ℕ)) → is_some r ≡ nat_lt i (length xs) → IfSome r (λ (x : Bor ℕ). x.now ≡ get_or xs i x.now) → option_copied r ≡ slice_get xs i
copied_at xs i None there is =
    let past : length xs ≤ i = grind (arith, nat_tests, there) in
    sym (slice_get_past xs i past)
copied_at xs i (Some x) there is =
    let within : i < length xs = grind (arith, nat_tests, there) in
    let some : ℕ → Option ℕ = λ n. Some n in
    ap some is ∙ sym (slice_get-get_or xs i x.now within)

-- ---- either line that waits

abbrev set_of : plain.WatchSet → Judged (plain.WatchSet × plain.Watch) → plain.WatchSet
set_of s (Ok p) = p.0
set_of s x = s

-- it waits for the members of a set that has a name
pub wait_set : (v : plain.Client) (name : Bytes) (s : plain.WatchSet) → wait_judged v name ≡ Ok s → set_named name v.watching.sets ≡ Some s
wait_set v name s is = needed_some (codes "unknown-name") (set_named name v.watching.sets) s (came_of (no_write_open v.transaction) (λ free. set_called name v) s is).2

until_set : (v : plain.Client) (name until : Bytes) (s : plain.WatchSet) (u : plain.Watch) → until_judged v name until ≡ Ok (s, u) → wait_judged v name ≡ Ok s
until_set v name until s u is =
    let first = came_of (wait_judged v name) _ (s, u) is in
    let second = came_of (watch_called until v) _ (s, u) first.2 in
    first.1 ∙ ap (λ (r : Judged (plain.WatchSet × plain.Watch)). ok_set (set_of s r)) second.2
  where
    ok_set : plain.WatchSet → Judged plain.WatchSet
    ok_set x = Ok x

pub waits_for : (v : plain.Client) (line : WatchesCommand) (s : plain.WatchSet) (u : Option plain.Watch) → IsWaitFor v line s u → (name : Bytes) × (set_named name v.watching.sets ≡ Some s)
waits_for v (watches_line.Wait name) s None is = (name, wait_set v name s is)
waits_for v (watches_line.Wait name) s (Some u) is = absurd is
waits_for v (watches_line.WaitUntil name until) s None is = absurd is
waits_for v (watches_line.WaitUntil name until) s (Some u) is = (name, wait_set v name s (until_set v name until s u is))
waits_for v (watches_line.Check name) s u is = absurd is
waits_for v (watches_line.Add set name) s u is = absurd is
waits_for v (watches_line.AddLimit set limit name other) s u is = absurd is

module _ (schema : DbSchema) (H : History) (small : length H ≤ 2 ^ 24) (v : plain.Client) (client : ℕ) (s : plain.WatchSet) (named : AreNamed s.members) (tell : NamesTell s.members) (text : Bytes) where
  pub either_woken : (line : WatchesCommand) (u : Option plain.Watch) → IsWaitFor v line s u → (rest after : Bytes) (place : ℕ) (member : plain.Watch) (n : ℕ) → text ≡ codes "fired " ++ rest → IsFirstNamed s.members rest after place member → number_behind (codes " @") (codes " @" ++ after) ≡ Some n → IsPresent schema H v client n → IsWokenAt schema H v client s place n member → IsDecided schema H client v (command.Watches line) text (reply_text (woken_by member.name n)) (told_number n v)
  either_woken (watches_line.Wait set) None is rest after place member n begins first found here woken = wait_decided schema H small v client s named tell set is text rest after place member n begins first found here woken
  either_woken (watches_line.Wait set) (Some u) is rest after place member n begins first found here woken = absurd is
  either_woken (watches_line.WaitUntil set until) None is rest after place member n begins first found here woken = absurd is
  either_woken (watches_line.WaitUntil set until) (Some u) is rest after place member n begins first found here woken = until_decided schema H small v client s named tell set until u is text rest after place member n begins first found here woken
  either_woken (watches_line.Check name) u is rest after place member n begins first found here woken = absurd is
  either_woken (watches_line.Add set name) u is rest after place member n begins first found here woken = absurd is
  either_woken (watches_line.AddLimit set limit name other) u is rest after place member n begins first found here woken = absurd is

  pub either_stopped : (line : WatchesCommand) (u : Option plain.Watch) → IsWaitFor v line s u → (w : plain.Watch) → u ≡ Some w → (n : ℕ) → number_behind (codes "stopped @") text ≡ Some n → IsPresent schema H v client n → IsTouched schema H w.query w.number n → AreUnchanged schema H client s.members v.last → IsDecided schema H client v (command.Watches line) text (codes "stopped @" ++ decimal n) (told_number n v)
  either_stopped (watches_line.Wait set) None is w same n found here fired quiet = absurd (none_some w same)
  either_stopped (watches_line.Wait set) (Some u) is w same n found here fired quiet = absurd is
  either_stopped (watches_line.WaitUntil set until) None is w same n found here fired quiet = absurd is
  either_stopped (watches_line.WaitUntil set until) (Some u) is w same n found here fired quiet =
      stop_decided schema H small v client s named tell set until u is text n found here (subst (λ (x : plain.Watch). IsTouched schema H x.query x.number n) (sym (same_Some u w same)) fired) quiet
  either_stopped (watches_line.Check name) u is w same n found here fired quiet = absurd is
  either_stopped (watches_line.Add set name) u is w same n found here fired quiet = absurd is
  either_stopped (watches_line.AddLimit set limit name other) u is w same n found here fired quiet = absurd is

  -- where it may be told neither
  pub either_undecided : (line : WatchesCommand) (u : Option plain.Watch) → IsWaitFor v line s u → text ≢ [] → ((other : plain.Client) → IsWokenText schema H v client s text other → ⊥) → ((w : plain.Watch) (other : plain.Client) → u ≡ Some w → IsStoppedText schema H v client s w text other → ⊥) → (next : plain.Client) → IsDecided schema H client v (command.Watches line) text [] next
  either_undecided (watches_line.Wait set) None is some no_woken no_stop next = wait_undecided schema H small v client s named tell set is text some no_woken next
  either_undecided (watches_line.Wait set) (Some u) is some no_woken no_stop next = absurd is
  either_undecided (watches_line.WaitUntil set until) None is some no_woken no_stop next = absurd is
  either_undecided (watches_line.WaitUntil set until) (Some u) is some no_woken no_stop next = until_undecided schema H small v client s named tell set until u is text some no_woken (λ other stop. no_stop u other refl stop) next
  either_undecided (watches_line.Check name) u is some no_woken no_stop next = absurd is
  either_undecided (watches_line.Add set name) u is some no_woken no_stop next = absurd is
  either_undecided (watches_line.AddLimit set limit name other) u is some no_woken no_stop next = absurd is

-- ---- what stays where a number is told

module _ (v w : Client) (n : ℕ) (client : w ≡ record v { last = n }) where
  -- the sets stay
  pub set_stays : (set : ℕ) (o : Option Set) → slice_get w.watching.sets.values.items set ≡ o → slice_get v.watching.sets.values.items set ≡ o
  set_stays set o is = ap (λ (x : Client). slice_get x.watching.sets.values.items set) (sym client) ∙ is

  -- and so do the places of watches
  pub places_stay : (places others : List ℕ) → others ≡ places → AllWithin (length (watches_known v.watching)) places → ArePlaced (watches_known w.watching) others
  places_stay places others same within =
      subst (λ (ps : List ℕ). ArePlaced (watches_known w.watching) ps) (sym same)
      (subst (λ (x : Client). ArePlaced (watches_known x.watching) places) (sym client) within)

-- the first of some places are among them
first_listed : (places : List ℕ) (k i at : ℕ) → slice_get (take k places) i ≡ Some at → slice_get places i ≡ Some at
first_listed places zero i at listed = absurd (none_some at listed)
first_listed [] (suc k) i at listed = listed
first_listed (p ∷ places) (suc k) zero at listed = listed
first_listed (p ∷ places) (suc k) (suc i) at listed = first_listed places k i at listed

pub first_within : (count k : ℕ) (places : List ℕ) → AllWithin count places → AllWithin count (take k places)
first_within count k places within = λ i at listed. within i at (first_listed places k i at listed)

-- the first of the watches at places are those at the first places
pub taken_at : (ws : List plain.Watch) (places : List ℕ) (k : ℕ) → AllWithin (length ws) places → watches_at ws (take k places) ≡ take k (watches_at ws places)
taken_at ws places zero within = refl
taken_at ws [] (suc k) within = refl
taken_at ws (p ∷ places) (suc k) within =
    let found = there_within ws p (within zero p refl) in
    ap (λ (o : Option plain.Watch). cons_option o (watches_at ws (take k places))) found.1
    ∙ ap (λ (l : List plain.Watch). found.0 ∷ l) (taken_at ws places k (λ i at listed. within (suc i) at listed))
    ∙ sym (ap (λ (o : Option plain.Watch). take (suc k) (cons_option o (watches_at ws places))) found.1)

module _ (schema : DbSchema) (H : History) (txns : List Begun) (s : Sessions) (v : Client) (knows : IsKnown schema H txns s v) (caller : ℕ) (text : Bytes) (due : IsDue schema H caller (known txns v) text)
    (line : WatchesCommand) (set : plain.WatchSet) (u : Option plain.Watch) (waits : IsWaitFor (known txns v) line set u) where
  members : AreNamed set.members × NamesTell set.members
  members = let found = waits_for (known txns v) line set u waits in due.members found.0 set found.1

  -- a text that decides was made
  made : (t : Sessions) (w : Client) (n : ℕ) (new : Bytes) → IsKnown schema H txns t w → w ≡ record v { last = n } → t.text.items ≡ new → IsDecided schema H caller (known txns v) (command.Watches line) text new (told_number n (known txns v)) → TellsMade schema H caller (command.Watches line) text t.text.items (known txns v) t w
  made t w n new still client is decided = record {
    txns = txns;
    decided = subst (λ (x : Bytes). IsDecided schema H caller (known txns v) (command.Watches line) text x (known txns w)) (sym is)
        (subst (λ (y : Client). IsDecided schema H caller (known txns v) (command.Watches line) text new (known txns y)) (sym client) decided);
    keeps = λ e. still;
  }

  -- none was, where none may be told
  none_made : (t : Sessions) (w : Client) (n : ℕ) → IsKnown schema H txns t w → w ≡ record v { last = n } → t.text.items ≡ [] → ((other : plain.Client) → IsWokenText schema H (known txns v) caller set text other → ⊥) → ((x : plain.Watch) (other : plain.Client) → u ≡ Some x → IsStoppedText schema H (known txns v) caller set x text other → ⊥) → TellsMade schema H caller (command.Watches line) text t.text.items (known txns v) t w
  none_made t w n still client none no_woken no_stop =
      made t w n [] still client none (either_undecided schema H due.few (known txns v) caller set members.0 members.1 text line u waits due.some no_woken no_stop (told_number n (known txns v)))

  -- ---- the watch that cancels

  module _ (some : IsSome (number_behind (codes "stopped @") text)) (empty : s.text.items ≡ []) (mid : Sessions) (w : Client) (o : Option ℕ) (said : IsSaid (codes "stopped @") text s v mid w o) where
    no_woken : (other : plain.Client) → IsWokenText schema H (known txns v) caller set text other → ⊥
    no_woken other x = some_given (number_behind (codes "stopped @") text) some (ap (number_behind (codes "stopped @")) x.printed)

    stop_number : (x : plain.Watch) (other : plain.Client) (t : IsStoppedText schema H (known txns v) caller set x text other) → number_behind (codes "stopped @") text ≡ Some t.number
    stop_number x other t = its_number schema H (known txns v) caller due.few (codes "stopped @") text t.number t.present t.printed

    pub stop_known : IsKnown schema H txns mid w
    stop_known = said_known schema H txns s v knows (codes "stopped @") text mid w o said

    pub stop_unsaid : o ≡ None → TellsMade schema H caller (command.Watches line) text mid.text.items (known txns v) mid w
    stop_unsaid unsaid =
        let none = none_said schema H txns s v knows (codes "stopped @") text mid w o said unsaid in
        none_made mid w v.last stop_known none.same (none.text_is ∙ empty) no_woken
        (λ x other same t. none.none t.number (stop_number x other t) t.present.not_older t.present.there)

    module _ (n : ℕ) (some_said : o ≡ Some n) (place : ℕ) (x : Set) (kept : IsKeptSet v place set x) (until : Option ℕ) (cancels : option_and_then (slice_get (watches_known v.watching)) until ≡ u) (t : Sessions) (check : t ≡ record mid { text = t.text }) (may : Bool) (is : t.text.items ≡ (if may then mid.text.items else [])) (decides : Decides may (IsEnd schema H caller (watches_known w.watching) x.members.items v.last until n)) where
      number : IsNumberSaid H (codes "stopped @") text s v mid w n
      number = number_said schema H txns s v knows (codes "stopped @") text mid w o said n some_said

      here : IsPresent schema H (known txns v) caller n
      here = record { not_older = number.not_older; there = number.there }

      still : IsKnown schema H txns t w
      still = with_text schema H txns mid w stop_known t check

      ends : Decides may (IsEnd schema H caller (watches_known v.watching) x.members.items v.last until n)
      ends = subst (λ (y : Client). Decides may (IsEnd schema H caller (watches_known y.watching) x.members.items v.last until n)) number.after decides

      pub stop_said : TellsMade schema H caller (command.Watches line) text t.text.items (known txns v) t w
      stop_said = of may refl
        where
          of : (b : Bool) → may ≡ b → TellsMade schema H caller (command.Watches line) text t.text.items (known txns v) t w
          of true so =
              let end = ends.0 so in
              made t w n (codes "stopped @" ++ decimal n) still number.after
              (is ∙ ap (λ (b : Bool). if b then mid.text.items else []) so ∙ number.text_is ∙ ap (λ (old : Bytes). old ++ (codes "stopped @" ++ decimal n)) empty)
              (either_stopped schema H due.few (known txns v) caller set members.0 members.1 text line u waits end.fired.0 (sym cancels ∙ end.fired.1) n number.found here end.fired.2
              (subst (λ (ms : List plain.Watch). AreUnchanged schema H caller ms v.last) (sym kept.members) end.quiet))
          of false not =
              none_made t w n still number.after (is ∙ ap (λ (b : Bool). if b then mid.text.items else []) not) no_woken
              (λ y other same stop. false_true (sym not ∙ ends.1 (an_end y other same stop)))
            where
              an_end : (y : plain.Watch) (other : plain.Client) → u ≡ Some y → IsStoppedText schema H (known txns v) caller set y text other → IsEnd schema H caller (watches_known v.watching) x.members.items v.last until n
              an_end y other same stop =
                  let one : stop.number ≡ n = same_Some stop.number n (sym (stop_number y other stop) ∙ number.found) in
                  record {
                    fired = (y, cancels ∙ same, subst (λ (m : ℕ). IsTouched schema H y.query y.number m) one stop.fired);
                    quiet = subst (λ (ms : List plain.Watch). AreUnchanged schema H caller ms v.last) kept.members stop.quiet;
                  }

  -- ---- a member

  module _ (none : number_behind (codes "stopped @") text ≡ None) where
    no_stop : (x : plain.Watch) (other : plain.Client) → u ≡ Some x → IsStoppedText schema H (known txns v) caller set x text other → ⊥
    no_stop x other same t = none_some t.number (sym none ∙ its_number schema H (known txns v) caller due.few (codes "stopped @") text t.number t.present t.printed)

    pub woken_unnamed : s.text.items ≡ [] → TellsMember set.members text None → TellsMade schema H caller (command.Watches line) text s.text.items (known txns v) s v
    woken_unnamed empty unnamed =
        none_made s v v.last knows refl empty
        (λ other w. unnamed (w.member.name ++ (codes " @" ++ decimal w.number)) (decimal w.number) w.place w.member w.printed w.woken.there refl)
        no_stop

    module _ (m : Woken) (named : IsWokenMember set.members text m) (spoken : Sessions) (before : spoken ≡ record s { text = spoken.text }) (mid : Sessions) (w : Client) (o : Option ℕ) (said : IsSaid (codes " @") m.behind.now spoken v mid w o) where
      first_woken : (other : plain.Client) → IsWokenText schema H (known txns v) caller set text other → IsFirstWoken schema H due.few (known txns v) caller set members.0 members.1 named.after m.place named.member
      first_woken other x = woken_at_first schema H due.few (known txns v) caller set members.0 members.1 text named.rest named.after m.place named.member named.begins named.first other x

      first_number : (other : plain.Client) (x : IsWokenText schema H (known txns v) caller set text other) → number_behind (codes " @") m.behind.now ≡ Some (first_woken other x).number
      first_number other x =
          let first = first_woken other x in
          ap (number_behind (codes " @")) named.behind
          ∙ its_number schema H (known txns v) caller due.few (codes " @") (codes " @" ++ named.after) first.number first.present (ap (λ (y : Bytes). codes " @" ++ y) first.printed)

      spoken_known : IsKnown schema H txns spoken v
      spoken_known = with_text schema H txns s v knows spoken before

      pub woken_known : IsKnown schema H txns mid w
      woken_known = said_known schema H txns spoken v spoken_known (codes " @") m.behind.now mid w o said

      module _ (t : Sessions) (check : t ≡ record mid { text = t.text }) where
        left_known : IsKnown schema H txns t w
        left_known = with_text schema H txns mid w woken_known t check

        pub woken_unsaid : o ≡ None → t.text.items ≡ [] → TellsMade schema H caller (command.Watches line) text t.text.items (known txns v) t w
        woken_unsaid unsaid empty =
            let no_number = none_said schema H txns spoken v spoken_known (codes " @") m.behind.now mid w o said unsaid in
            none_made t w v.last left_known no_number.same empty
            (λ other x. let first = first_woken other x in no_number.none first.number (first_number other x) first.present.not_older first.present.there)
            no_stop

        module _ (n : ℕ) (some_said : o ≡ Some n) (word : spoken.text.items ≡ codes "fired " ++ m.name.now) (place : ℕ) (x : Set) (kept : IsKeptSet v place set x) (front : List ℕ) (front_is : front ≡ take m.place x.members.items) (fired : Option ℕ) (at : fired ≡ slice_get x.members.items m.place) (may : Bool) (is : t.text.items ≡ (if may then mid.text.items else [])) (decides : Decides may (IsEnd schema H caller (watches_known w.watching) front v.last fired n)) where
          told : IsNumberSaid H (codes " @") m.behind.now spoken v mid w n
          told = number_said schema H txns spoken v spoken_known (codes " @") m.behind.now mid w o said n some_said

          present : IsPresent schema H (known txns v) caller n
          present = record { not_older = told.not_older; there = told.there }

          woken_ends : Decides may (IsEnd schema H caller (watches_known v.watching) front v.last fired n)
          woken_ends = subst (λ (y : Client). Decides may (IsEnd schema H caller (watches_known y.watching) front v.last fired n)) told.after decides

          -- the member and those before it, by their places
          member_at : option_and_then (slice_get (watches_known v.watching)) fired ≡ Some named.member
          member_at =
              ap (option_and_then (slice_get (watches_known v.watching))) at
              ∙ sym (kept_place (watches_known v.watching) x.members.items kept.within m.place)
              ∙ ap (λ (ms : List plain.Watch). slice_get ms m.place) (sym kept.members)
              ∙ named.first.there

          front_at : watches_at (watches_known v.watching) front ≡ take m.place set.members
          front_at =
              ap (watches_at (watches_known v.watching)) front_is
              ∙ taken_at (watches_known v.watching) x.members.items m.place kept.within
              ∙ ap (take m.place) (sym kept.members)

          number_is : number_behind (codes " @") (codes " @" ++ named.after) ≡ Some n
          number_is = ap (number_behind (codes " @")) (sym named.behind) ∙ told.found

          reply_is : mid.text.items ≡ reply_text (woken_by named.member.name n)
          reply_is =
              told.text_is
              ∙ ap (λ (y : Bytes). y ++ (codes " @" ++ decimal n)) (word ∙ ap (λ (y : Bytes). codes "fired " ++ y) named.name)
              ∙ append_assoc (codes "fired ") named.member.name (codes " @" ++ decimal n)

          pub woken_said : TellsMade schema H caller (command.Watches line) text t.text.items (known txns v) t w
          woken_said = of may refl
            where
              of : (b : Bool) → may ≡ b → TellsMade schema H caller (command.Watches line) text t.text.items (known txns v) t w
              of true so =
                  let end = woken_ends.0 so in
                  let same : end.fired.0 ≡ named.member = same_Some end.fired.0 named.member (sym end.fired.1 ∙ member_at) in
                  made t w n (reply_text (woken_by named.member.name n)) left_known told.after
                  (is ∙ ap (λ (b : Bool). if b then mid.text.items else []) so ∙ reply_is)
                  (either_woken schema H due.few (known txns v) caller set members.0 members.1 text line u waits named.rest named.after m.place named.member n named.begins named.first number_is present (record {
                    there = named.first.there;
                    fired = subst (λ (y : plain.Watch). IsTouched schema H y.query y.number n) same end.fired.2;
                    quiet = subst (λ (ms : List plain.Watch). AreUnchanged schema H caller ms v.last) front_at end.quiet;
                  }))
              of false not =
                  none_made t w n left_known told.after (is ∙ ap (λ (b : Bool). if b then mid.text.items else []) not)
                  (λ other y. false_true (sym not ∙ woken_ends.1 (an_end other y))) no_stop
                where
                  an_end : (other : plain.Client) → IsWokenText schema H (known txns v) caller set text other → IsEnd schema H caller (watches_known v.watching) front v.last fired n
                  an_end other y =
                      let first = first_woken other y in
                      let one : first.number ≡ n = same_Some first.number n (sym (first_number other y) ∙ told.found) in
                      record {
                        fired = (named.member, member_at, subst (λ (k : ℕ). IsTouched schema H named.member.query named.member.number k) one first.woken.fired);
                        quiet = subst (λ (ms : List plain.Watch). AreUnchanged schema H caller ms v.last) (sym front_at) first.woken.quiet;
                      }
