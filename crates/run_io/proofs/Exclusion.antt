-- Where a cause is there, and no fault excuses it, no other answer comes but want of memory.
use Rattle.std.proofs.Common.{◌≡◌, ◌∙◌, refl, sym, ap, subst, inl, inr, ℕ, List, ◌∷◌, Ok, Err}
use Rattle.std.specs.Prelude.{◌⊎◌, IsTrue, Result}
use Rattle.mdb_datum.specs.Bytes.{Bytes}
use Rattle.mdb_ports.specs.Faults.{Rose}
use Rattle.run_io.specs.Causes.{HasNoExcuse, LeadsTo, absent, too_large, whole}
use Rattle.run_io.specs.Inputs.{inputs_in}
use Rattle.run_io.specs.Loads.{Loads, IsRead, IsUnread}
use Rattle.run_io.specs.Observed.{Observed, AreWhole, IsReached, IsTooLarge, IsAbsent}
use Rattle.run_io.specs.declared.inputs.Inputs.{Inputs}
use Rattle.run_io.specs.declared.load_error.LoadError.{LoadError}
use Rattle.run_io.specs.declared.load_error.LoadError.TheVariants.{Memory, Read, TooLarge, Schema, Script}
use Rattle.run_io.proofs.InOrder.{IsNotWhole, large_not_whole, absent_not_whole, absent_not_large, absent_where_told, contents_once, reached_whole, reached_once}

-- a file that can't be read isn't there
pub unread_absent : (seen : Observed) (names : List Bytes) (file : ℕ) (r : IsUnread seen names file) → HasNoExcuse seen → IsAbsent seen.told r.name
unread_absent seen names file r plain = by_fault plain.no_fault
  where
    by_fault : (Rose seen.before seen.now → ⊥) ⊎ IsTrue seen.reliable → IsAbsent seen.told r.name
    by_fault (inl none) = absurd (none r.rose)
    by_fault (inr sure) = absent_where_told seen.told r.name plain.tells (r.absent sure)

module _ (seen : Observed) (names : List Bytes) (plain : HasNoExcuse seen) where
  -- where all files were read, none that is reached isn't whole
  never_past : (file : ℕ) (name : Bytes) (answer : Result Inputs LoadError) → IsReached seen.told names file name → IsNotWhole seen.told name → IsRead seen names answer → ⊥
  never_past file name answer reached not r = reached_whole seen.told names (r.schema ∷ r.clients) file name r.read.whole reached not

  -- the same bytes come to the same answer
  pub read_once : (schema : Bytes) (clients : List Bytes) (answer : Result Inputs LoadError) → AreWhole seen.told names (schema ∷ clients) → IsRead seen names answer → answer ≡ inputs_in schema clients
  read_once schema clients answer w r =
      let same = contents_once seen.told names (r.schema ∷ r.clients) (schema ∷ clients) plain.tells r.read.whole w in
      let first : r.schema ≡ schema = cc in
      let rest : r.clients ≡ clients = cc in
      sym r.comes ∙ (λ i. inputs_in (first i) (rest i))

  absent_answered : (file : ℕ) (name : Bytes) (r : Result Inputs LoadError) → IsReached seen.told names file name → IsAbsent seen.told name → Loads seen names r → (r ≡ Err (Read file)) ⊎ (r ≡ Err Memory)
  absent_answered file name (Ok inputs) reached gone h = absurd (never_past file name (Ok inputs) reached (absent_not_whole seen.told name gone) h)
  absent_answered file name (Err Memory) reached gone h = inr refl
  absent_answered file name (Err (Read f)) reached gone h =
      let away = unread_absent seen names f h plain in
      let at = reached_once seen.told names f file h.name name h.reached reached (absent_not_whole seen.told h.name away) (absent_not_whole seen.told name gone) in
      inl (ap (λ n. Err (Read n)) at.0)
  absent_answered file name (Err (TooLarge f)) reached gone h =
      let at = reached_once seen.told names file f name h.name reached h.reached (absent_not_whole seen.told name gone) (large_not_whole seen.told h.name plain.tells h.large) in
      absurd (absent_not_large seen.told h.name (subst (λ (m : Bytes). IsAbsent seen.told m) at.1 gone) h.large)
  absent_answered file name (Err (Schema e)) reached gone h = absurd (never_past file name (Err (Schema e)) reached (absent_not_whole seen.told name gone) h)
  absent_answered file name (Err (Script client e)) reached gone h = absurd (never_past file name (Err (Script client e)) reached (absent_not_whole seen.told name gone) h)

  large_answered : (file : ℕ) (name : Bytes) (r : Result Inputs LoadError) → IsReached seen.told names file name → IsTooLarge seen.told name → Loads seen names r → (r ≡ Err (TooLarge file)) ⊎ (r ≡ Err Memory)
  large_answered file name (Ok inputs) reached large h = absurd (never_past file name (Ok inputs) reached (large_not_whole seen.told name plain.tells large) h)
  large_answered file name (Err Memory) reached large h = inr refl
  large_answered file name (Err (Read f)) reached large h =
      let away = unread_absent seen names f h plain in
      let at = reached_once seen.told names f file h.name name h.reached reached (absent_not_whole seen.told h.name away) (large_not_whole seen.told name plain.tells large) in
      absurd (absent_not_large seen.told name (subst (λ (m : Bytes). IsAbsent seen.told m) at.1 away) large)
  large_answered file name (Err (TooLarge f)) reached large h =
      let at = reached_once seen.told names f file h.name name h.reached reached (large_not_whole seen.told h.name plain.tells h.large) (large_not_whole seen.told name plain.tells large) in
      inl (ap (λ n. Err (TooLarge n)) at.0)
  large_answered file name (Err (Schema e)) reached large h = absurd (never_past file name (Err (Schema e)) reached (large_not_whole seen.told name plain.tells large) h)
  large_answered file name (Err (Script client e)) reached large h = absurd (never_past file name (Err (Script client e)) reached (large_not_whole seen.told name plain.tells large) h)

  whole_answered : (schema : Bytes) (clients : List Bytes) (r : Result Inputs LoadError) → AreWhole seen.told names (schema ∷ clients) → Loads seen names r → (r ≡ inputs_in schema clients) ⊎ (r ≡ Err Memory)
  whole_answered schema clients (Ok inputs) w h = inl (read_once schema clients (Ok inputs) w h)
  whole_answered schema clients (Err Memory) w h = inr refl
  whole_answered schema clients (Err (Read f)) w h =
      absurd (reached_whole seen.told names (schema ∷ clients) f h.name w h.reached (absent_not_whole seen.told h.name (unread_absent seen names f h plain)))
  whole_answered schema clients (Err (TooLarge f)) w h =
      absurd (reached_whole seen.told names (schema ∷ clients) f h.name w h.reached (large_not_whole seen.told h.name plain.tells h.large))
  whole_answered schema clients (Err (Schema e)) w h = inl (read_once schema clients (Err (Schema e)) w h)
  whole_answered schema clients (Err (Script client e)) w h = inl (read_once schema clients (Err (Script client e)) w h)

  -- an answer, or want of memory, is what is called for
  called : (r answer found : Result Inputs LoadError) → answer ≡ found → (r ≡ found) ⊎ (r ≡ Err Memory) → (r ≡ answer) ⊎ (r ≡ Err Memory)
  called r answer found is (inl same) = inl (same ∙ sym is)
  called r answer found is (inr short) = inr short

  pub load_called : (r answer : Result Inputs LoadError) → Loads seen names r → LeadsTo seen.told names answer → (r ≡ answer) ⊎ (r ≡ Err Memory)
  load_called r answer h (absent file name reached gone is) = called r answer (Err (Read file)) is (absent_answered file name r reached gone h)
  load_called r answer h (too_large file name reached large is) = called r answer (Err (TooLarge file)) is (large_answered file name r reached large h)
  load_called r answer h (whole schema clients w is) = called r answer (inputs_in schema clients) is (whole_answered schema clients r w h)
