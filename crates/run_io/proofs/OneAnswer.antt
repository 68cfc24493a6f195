-- The files that a command names lead to one answer, and so to one status.
use Rattle.std.proofs.Common.{◌≡◌, ◌∙◌, refl, sym, ap, subst, ℕ, List, ◌∷◌, Option, Some, None, Ok, Err}
use Rattle.std.specs.Prelude.{IsSome, Result}
use Rattle.mdb_datum.specs.Bytes.{Bytes}
use Rattle.mdb_ports.specs.Files.{Contents}
use Rattle.run_io.specs.Causes as load
use Rattle.run_io.specs.Causes.{LeadsTo}
use Rattle.run_io.specs.Inputs.{inputs_in, schema_error}
use Rattle.run_io.specs.Named.{Named, in_order}
use Rattle.run_io.specs.Observed.{Observed, AreWhole, IsAbsent, IsReached, IsTooLarge}
use Rattle.run_io.specs.RefusalCauses.{CallsForRefusal, AreLawful, absent, too_large, broken, broken_script}
use Rattle.run_io.specs.declared.inputs.Inputs.{Inputs}
use Rattle.run_io.specs.declared.load_error.LoadError.{LoadError}
use Rattle.run_io.specs.declared.load_error.LoadError.TheVariants.{Memory, Read, TooLarge, Schema, Script}
use Rattle.run_io.proofs.InOrder.{large_not_whole, absent_not_whole, absent_not_large, contents_once, reached_whole, reached_once}

-- ---- one answer to the files

abbrev pub Loaded : Type 0
Loaded = Result Inputs LoadError

-- the answers that name a file
abbrev unread : ℕ → Loaded
unread file = Err (Read file)

abbrev overlong : ℕ → Loaded
overlong file = Err (TooLarge file)

module _ (told : Option Contents) (names : List Bytes) (tells : IsSome told) where
  -- one that isn't there and one that is too large aren't both reached
  apart : (i j : ℕ) (m n : Bytes) → IsReached told names i m → IsReached told names j n → IsAbsent told m → IsTooLarge told n → ⊥
  apart i j m n r s gone large =
      let at = reached_once told names i j m n r s (absent_not_whole told m gone) (large_not_whole told n tells large) in
      absent_not_large told n (subst (λ (x : Bytes). IsAbsent told x) at.1 gone) large

  -- where all are whole, none that is reached isn't there, or is too large
  none_gone : (schema : Bytes) (clients : List Bytes) (i : ℕ) (n : Bytes) → AreWhole told names (schema ∷ clients) → IsReached told names i n → IsAbsent told n → ⊥
  none_gone schema clients i n w r gone = reached_whole told names (schema ∷ clients) i n w r (absent_not_whole told n gone)

  none_large : (schema : Bytes) (clients : List Bytes) (i : ℕ) (n : Bytes) → AreWhole told names (schema ∷ clients) → IsReached told names i n → IsTooLarge told n → ⊥
  none_large schema clients i n w r large = reached_whole told names (schema ∷ clients) i n w r (large_not_whole told n tells large)

  -- the bytes come to one answer
  same_inputs : (s t : Bytes) (cs ds : List Bytes) → AreWhole told names (s ∷ cs) → AreWhole told names (t ∷ ds) → inputs_in s cs ≡ inputs_in t ds
  same_inputs s t cs ds w v =
      let same = contents_once told names (s ∷ cs) (t ∷ ds) tells w v in
      let first : s ≡ t = cc in
      let rest : cs ≡ ds = cc in
      λ i. inputs_in (first i) (rest i)

  one_answer : (a b : Loaded) → LeadsTo told names a → LeadsTo told names b → a ≡ b
  one_answer a b (load.absent i m r gone is) (load.absent j n s lost are) =
      let at = reached_once told names i j m n r s (absent_not_whole told m gone) (absent_not_whole told n lost) in
      let same : unread i ≡ unread j = ap unread at.0 in
      is ∙ same ∙ sym are
  one_answer a b (load.absent i m r gone is) (load.too_large j n s large are) = absurd (apart i j m n r s gone large)
  one_answer a b (load.absent i m r gone is) (load.whole t cs w are) = absurd (none_gone t cs i m w r gone)
  one_answer a b (load.too_large i m r large is) (load.absent j n s gone are) = absurd (apart j i n m s r gone large)
  one_answer a b (load.too_large i m r large is) (load.too_large j n s long are) =
      let at = reached_once told names i j m n r s (large_not_whole told m tells large) (large_not_whole told n tells long) in
      let same : overlong i ≡ overlong j = ap overlong at.0 in
      is ∙ same ∙ sym are
  one_answer a b (load.too_large i m r large is) (load.whole t cs w are) = absurd (none_large t cs i m w r large)
  one_answer a b (load.whole t cs w is) (load.absent i m r gone are) = absurd (none_gone t cs i m w r gone)
  one_answer a b (load.whole t cs w is) (load.too_large i m r large are) = absurd (none_large t cs i m w r large)
  one_answer a b (load.whole s cs w is) (load.whole t ds v are) = is ∙ same_inputs s t cs ds w v ∙ sym are

-- ---- one status of a command's files

-- the status under which an answer is told
abbrev pub status_of : Loaded → ℕ
status_of (Ok inputs) = 0
status_of (Err Memory) = 4
status_of (Err (Read file)) = 5
status_of (Err (TooLarge file)) = 7
status_of (Err (Schema e)) = 2
status_of (Err (Script client e)) = 3

-- the files that a command names lead to an answer of this status
pub record LeadsToStatus (command : Option Named) (seen : Observed) (status : ℕ) : Type 0 where
  pub named : Named
  pub is_named : command ≡ Some named
  pub tells : IsSome seen.told
  pub answer : Loaded
  pub leads : LeadsTo seen.told (in_order named) answer
  pub has_status : status ≡ status_of answer

-- a command names one list of files, or none
pub named_once : (command : Option Named) (a b : Named) → command ≡ Some a → command ≡ Some b → a ≡ b
named_once command a b e f = let h : Some a ≡ Some b = sym e ∙ f in cc

pub never_named : (command : Option Named) (named : Named) → command ≡ None → command ≡ Some named → ⊥
never_named command named e f = let h : None ≡ Some named = sym e ∙ f in cc

pub leads_once : (command : Option Named) (seen : Observed) (s t : ℕ) → LeadsToStatus command seen s → LeadsToStatus command seen t → s ≡ t
leads_once command seen s t a b =
    let same = named_once command a.named b.named a.is_named b.is_named in
    let here : LeadsTo seen.told (in_order b.named) a.answer = subst (λ (n : Named). LeadsTo seen.told (in_order n) a.answer) same a.leads in
    a.has_status ∙ ap status_of (one_answer seen.told (in_order b.named) b.tells a.answer b.answer here b.leads) ∙ sym b.has_status

-- what calls for a refusal leads to its status
pub refusal_leads : (command : Option Named) (seen : Observed) (status : ℕ) → CallsForRefusal command seen status → LeadsToStatus command seen status
refusal_leads command seen status (absent is named name r gone) =
    let tells = subst (λ (t : Option Contents). IsSome t) (sym gone.tells) refl in
    record { named = named; is_named = r.is_named; tells = tells; answer = Err (Read r.file); leads = load.absent r.file name r.reached gone refl; has_status = is }
refusal_leads command seen status (too_large is named name r large plain) =
    record { named = named; is_named = r.is_named; tells = plain.tells; answer = Err (TooLarge r.file); leads = load.too_large r.file name r.reached large refl; has_status = is }
refusal_leads command seen status (broken is named rule f plain) =
    record { named = named; is_named = f.is_named; tells = plain.tells; answer = Err (Schema (schema_error rule)); leads = load.whole f.schema f.clients f.whole (sym f.comes); has_status = is }
refusal_leads command seen status (broken_script is named client rule f plain) =
    record { named = named; is_named = f.is_named; tells = plain.tells; answer = Err (Script client rule); leads = load.whole f.schema f.clients f.whole (sym f.comes); has_status = is }

-- and so do lawful files, to the status 0
pub lawful_leads : (command : Option Named) (seen : Observed) (status : ℕ) → status ≡ 0 → AreLawful command seen → LeadsToStatus command seen status
lawful_leads command seen status is l =
    let f = l.finds in
    record { named = l.named; is_named = f.is_named; tells = l.no_excuse.tells; answer = Ok l.inputs; leads = load.whole f.schema f.clients f.whole (sym f.comes); has_status = is }
