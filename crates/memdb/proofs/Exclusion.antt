-- Where a cause is there, no other status is answered.
use Rattle.std.proofs.Common.{arith, ◌≡◌, ◌∙◌, refl, sym, ap, subst, inl, inr, ℕ, List, ◌∷◌, Option, Some, None, Ok, Err}
use Rattle.std.specs.Prelude.{◌⊎◌, IsSome}
use Rattle.mdb_datum.specs.Bytes.{Bytes}
use Rattle.mdb_ports.specs.Files.{Contents}
use Rattle.memdb.specs.Causes as cause
use Rattle.memdb.specs.Causes.{CallsFor, FindsInputs, no_command, no_output, large_output, output, lawful, statuses_for}
use Rattle.memdb.specs.CheckOutcome as check
use Rattle.memdb.specs.CheckOutcome.{ChecksAs, HasInputs}
use Rattle.memdb.specs.Made.{Numbers}
use Rattle.memdb.specs.Outcome as outcome
use Rattle.memdb.specs.Outcome.{IsAnswer, checked, done, usage}
use Rattle.memdb.specs.Words.{Checked, check_named, files_named, numbers_named, run_named}
use Rattle.memdb.proofs.CheckedOutput.{run_files}
use Rattle.memdb.proofs.OneCommand.{check_inputs, checked_once, numbers_once, one_command, run_or_check}
use Rattle.run_io.specs.Causes.{HasNoExcuse}
use Rattle.run_io.specs.Causes as load
use Rattle.run_io.specs.Inputs.{inputs_in, schema_error}
use Rattle.run_io.specs.Named.{Named, in_order}
use Rattle.run_io.specs.Observed.{Observed, AreWhole, IsAbsent, IsPast, IsWholeWithin, output_limit}
use Rattle.run_io.specs.OneFile.{HasFailed, WasPast, WasRead}
use Rattle.run_io.specs.RefusalCauses as refusal
use Rattle.run_io.specs.RefusalCauses.{AreLawful, CallsForRefusal}
use Rattle.run_io.specs.Refusals as refused
use Rattle.run_io.specs.Refusals.{IsRefused}
use Rattle.run_io.specs.Statuses.{IsOneOf}
use Rattle.run_io.specs.declared.load_error.LoadError.TheVariants.{Schema, Script}
use Rattle.run_io.proofs.InOrder.{absent_not_large, absent_not_whole, contents_once, large_not_whole, reached_whole}
use Rattle.run_io.proofs.LoadedStatus.{HasLoaded, lawful_comes, read_loaded, refusal_comes, refused_loaded}
use Rattle.run_io.proofs.OneAnswer.{LeadsToStatus, leads_once, named_once, never_named, refusal_leads}
use Rattle.run_io.proofs.OneFile.{failed_absent}

-- ---- the inputs of a check

pub inputs_found : (words : List Bytes) (seen : Observed) → HasInputs (check_named words) seen → FindsInputs (check_named words) seen
inputs_found words seen h = record {
  files = h.files;
  is_check = h.is_check;
  inputs = h.inputs;
  finds = record { is_named = refl; schema = h.schema; clients = h.clients; whole = h.whole; comes = h.comes };
}

module _ (words : List Bytes) (seen : Observed) (of : FindsInputs (check_named words) seen) where
  -- they lead to no refusal
  pub inputs_lead : IsSome seen.told → LeadsToStatus (files_named words) seen 0
  inputs_lead tells = record {
    named = of.files.inputs;
    is_named = check_inputs words of.files of.is_check;
    tells = tells;
    answer = Ok of.inputs;
    leads = load.whole of.finds.schema of.finds.clients of.finds.whole (sym of.finds.comes);
    has_status = refl;
  }

  inputs_lawful : HasNoExcuse seen → AreLawful (files_named words) seen
  inputs_lawful plain = record {
    named = of.files.inputs;
    inputs = of.inputs;
    finds = record { is_named = check_inputs words of.files of.is_check; schema = of.finds.schema; clients = of.finds.clients; whole = of.finds.whole; comes = of.finds.comes };
    no_excuse = plain;
  }

-- a refusal has another status than 0
pub refusal_not_zero : (command : Option Named) (seen : Observed) (status : ℕ) → CallsForRefusal command seen status → status ≡ 0 → ⊥
refusal_not_zero command seen status (refusal.absent is named name r gone) zero = omega (arith, is, zero)
refusal_not_zero command seen status (refusal.too_large is named name r large plain) zero = omega (arith, is, zero)
refusal_not_zero command seen status (refusal.broken is named rule f plain) zero = omega (arith, is, zero)
refusal_not_zero command seen status (refusal.broken_script is named client rule f plain) zero = omega (arith, is, zero)

-- so what calls for one isn't there
pub no_refusal : (words : List Bytes) (seen : Observed) (status : ℕ) → FindsInputs (check_named words) seen → CallsForRefusal (files_named words) seen status → ⊥
no_refusal words seen status of r =
    let leads = refusal_leads (files_named words) seen status r in
    refusal_not_zero (files_named words) seen status r (leads_once (files_named words) seen status 0 leads (inputs_lead words seen of leads.tells))

-- ---- what is answered

-- what an output was answered
data OutputStatus (seen : Observed) (name : Bytes) (status : ℕ) : Type 0 where
  was_read : (status ≡ 10) ⊎ (status ≡ 0) → (bytes : Bytes) → WasRead output_limit seen name bytes → OutputStatus seen name status
  had_failed : status ≡ 5 → HasFailed seen name → OutputStatus seen name status
  was_past : status ≡ 7 → WasPast output_limit seen name → OutputStatus seen name status

-- by the words: they are numbers, or no command, or name files that were loaded, refused or checked
data StatusByWords (words : List Bytes) (seen : Observed) (status : ℕ) : Type 0 where
  to_numbers : status ≡ 0 → (n : Numbers) → numbers_named words ≡ Some n → StatusByWords words seen status
  to_none : status ≡ 1 → files_named words ≡ None → numbers_named words ≡ None → StatusByWords words seen status
  to_run : (named : Named) → run_named words ≡ Some named → HasLoaded (files_named words) seen status → StatusByWords words seen status
  to_refusal : (text : Bytes) → IsRefused (files_named words) seen status text → StatusByWords words seen status
  to_output : (of : HasInputs (check_named words) seen) → OutputStatus seen of.files.output status → StatusByWords words seen status

by_check : (words : List Bytes) (seen : Observed) (status : ℕ) (text : Bytes) → ChecksAs (check_named words) seen status text → StatusByWords words seen status
by_check words seen status text (check.legal is l) = to_output l.of.lawful (was_read (inr is) l.of.output l.of.read)
by_check words seen status text (check.bad is b) = to_output b.of.lawful (was_read (inl is) b.of.output b.of.read)
by_check words seen status text (check.cannot_read is r) = to_output r.lawful (had_failed is r.cause)
by_check words seen status text (check.too_large is l) = to_output l.lawful (was_past is l.cause)

by_answer : (words : List Bytes) (seen : Observed) (status : ℕ) (text : Bytes) → IsAnswer words seen status text → StatusByWords words seen status
by_answer words seen status text (done is d) =
    let named = run_files words d.named d.read.is_named in
    to_run d.named d.read.is_named (read_loaded (files_named words) seen status d.named d.inputs is (record { is_named = named; reads = d.read.reads }))
by_answer words seen status text (outcome.made is m) = to_numbers is m.numbers m.command
by_answer words seen status text (checked c) = by_check words seen status text c
by_answer words seen status text (usage is u) = to_none is u.no_files u.no_make
by_answer words seen status text (outcome.refused r) = to_refusal text r

-- what is refused has another status than 0
refused_not_zero : (command : Option Named) (seen : Observed) (status : ℕ) (text : Bytes) → IsRefused command seen status text → status ≡ 0 → ⊥
refused_not_zero command seen status text (refused.broken_schema is b) zero = omega (arith, is, zero)
refused_not_zero command seen status text (refused.broken_script is b) zero = omega (arith, is, zero)
refused_not_zero command seen status text (refused.cannot_read is r) zero = omega (arith, is, zero)
refused_not_zero command seen status text (refused.too_large is l) zero = omega (arith, is, zero)

abbrev told_where_absent : (seen : Observed) (name : Bytes) → IsAbsent seen.told name → IsSome seen.told
told_where_absent seen name gone = subst (λ (t : Option Contents). IsSome t) (sym gone.tells) refl

-- ---- each cause

module _ (words : List Bytes) (seen : Observed) where
  no_command_usage : (status : ℕ) → StatusByWords words seen status → files_named words ≡ None → numbers_named words ≡ None → status ≡ 1
  no_command_usage status (to_numbers is n make) none no_make = absurd (numbers_once words n no_make make)
  no_command_usage status (to_none is no_run not_made) none no_make = is
  no_command_usage status (to_run named run h) none no_make = absurd (never_named (files_named words) named none (run_files words named run))
  no_command_usage status (to_refusal text r) none no_make = let h = refused_loaded (files_named words) seen status text r in absurd (never_named (files_named words) h.named none h.is_named)
  no_command_usage status (to_output of s) none no_make = absurd (never_named (files_named words) of.files.inputs none (check_inputs words of.files of.is_check))

  -- words that are a `make` are answered by it
  made_answered : (status : ℕ) (n : Numbers) → StatusByWords words seen status → numbers_named words ≡ Some n → status ≡ 0
  made_answered status n (to_numbers is m makes) make = is
  made_answered status n (to_none is no_run no_make) make = absurd (numbers_once words n no_make make)
  made_answered status n (to_run named run h) make = absurd (one_command words named n (run_files words named run) make)
  made_answered status n (to_refusal text r) make = let h = refused_loaded (files_named words) seen status text r in absurd (one_command words h.named n h.is_named make)
  made_answered status n (to_output of s) make = absurd (one_command words of.files.inputs n (check_inputs words of.files of.is_check) make)

  refusal_answered : (status called : ℕ) → StatusByWords words seen status → CallsForRefusal (files_named words) seen called → status ≡ called
  refusal_answered status called (to_numbers is n make) r =
      let f = refusal_leads (files_named words) seen called r in
      absurd (one_command words f.named n f.is_named make)
  refusal_answered status called (to_none is no_run no_make) r =
      let f = refusal_leads (files_named words) seen called r in
      absurd (never_named (files_named words) f.named no_run f.is_named)
  refusal_answered status called (to_run named run h) r = refusal_comes (files_named words) seen status called h r
  refusal_answered status called (to_refusal text f) r = refusal_comes (files_named words) seen status called (refused_loaded (files_named words) seen status text f) r
  refusal_answered status called (to_output of s) r = absurd (no_refusal words seen called (inputs_found words seen of) r)

  lawful_answered : (status called : ℕ) → StatusByWords words seen status → called ≡ 0 → AreLawful (run_named words) seen → status ≡ called
  lawful_answered status called by are l = of_files by (record { named = l.named; inputs = l.inputs; finds = record { is_named = named; schema = l.finds.schema; clients = l.finds.clients; whole = l.finds.whole; comes = l.finds.comes }; no_excuse = l.no_excuse })
    where
      named : files_named words ≡ Some l.named
      named = run_files words l.named l.finds.is_named

      of_files : StatusByWords words seen status → AreLawful (files_named words) seen → status ≡ called
      of_files (to_numbers is n make) f = absurd (one_command words l.named n named make)
      of_files (to_none is none no_make) f = absurd (never_named (files_named words) l.named none named)
      of_files (to_run n run h) f = lawful_comes (files_named words) seen status called h are f
      of_files (to_refusal text r) f = lawful_comes (files_named words) seen status called (refused_loaded (files_named words) seen status text r) are f
      of_files (to_output of s) f = absurd (run_or_check words l.named of.files l.finds.is_named of.is_check)

  -- ---- an output, where the inputs are lawful

  module _ (of : FindsInputs (check_named words) seen) where
    named : files_named words ≡ Some of.files.inputs
    named = check_inputs words of.files of.is_check

    -- it is of the file that the words name
    same_output : (h : HasInputs (check_named words) seen) → h.files.output ≡ of.files.output
    same_output h = ap (λ (c : Checked). c.output) (checked_once (check_named words) h.files of.files h.is_check of.is_check)

    output_status : (status : ℕ) (h : HasInputs (check_named words) seen) → OutputStatus seen h.files.output status → OutputStatus seen of.files.output status
    output_status status h s = subst (λ (name : Bytes). OutputStatus seen name status) (same_output h) s

    -- without an excuse nothing else is answered
    by_status : HasNoExcuse seen → (status : ℕ) → StatusByWords words seen status → OutputStatus seen of.files.output status
    by_status plain status (to_numbers is n make) = absurd (one_command words of.files.inputs n named make)
    by_status plain status (to_none is none no_make) = absurd (never_named (files_named words) of.files.inputs none named)
    by_status plain status (to_run n run h) = absurd (run_or_check words n of.files run of.is_check)
    by_status plain status (to_refusal text r) =
        let zero = lawful_comes (files_named words) seen status 0 (refused_loaded (files_named words) seen status text r) refl (inputs_lawful words seen of plain) in
        absurd (refused_not_zero (files_named words) seen status text r zero)
    by_status plain status (to_output h s) = output_status status h s

    large_answered : (status : ℕ) → IsPast output_limit seen.told of.files.output → HasNoExcuse seen → OutputStatus seen of.files.output status → status ≡ 7
    large_answered status large plain (was_read is bytes r) = absurd (large_not_whole seen.told of.files.output plain.tells large bytes r.whole)
    large_answered status large plain (had_failed is f) = absurd (absent_not_large seen.told of.files.output (failed_absent seen of.files.output f plain) large)
    large_answered status large plain (was_past is p) = is

    whole_answered : (status : ℕ) (bytes : Bytes) → IsWholeWithin output_limit seen.told of.files.output bytes → HasNoExcuse seen → OutputStatus seen of.files.output status → (status ≡ 10) ⊎ (status ≡ 0)
    whole_answered status bytes whole plain (was_read is b r) = is
    whole_answered status bytes whole plain (had_failed is f) = absurd (absent_not_whole seen.told of.files.output (failed_absent seen of.files.output f plain) bytes whole)
    whole_answered status bytes whole plain (was_past is p) = absurd (large_not_whole seen.told of.files.output plain.tells p.large bytes whole)

    -- a file that isn't there is one that can't be read, as is each whose call failed before it
    gone_answered : (status : ℕ) → IsAbsent seen.told of.files.output → StatusByWords words seen status → status ≡ 5
    gone_answered status gone (to_numbers is n make) = absurd (one_command words of.files.inputs n named make)
    gone_answered status gone (to_none is none no_make) = absurd (never_named (files_named words) of.files.inputs none named)
    gone_answered status gone (to_run n run h) = absurd (run_or_check words n of.files run of.is_check)
    gone_answered status gone (to_refusal text r) = by_refusal r
      where
        tells : IsSome seen.told
        tells = told_where_absent seen of.files.output gone

        -- the files of a refusal are those of the check
        same_files : (n : Named) → files_named words ≡ Some n → n ≡ of.files.inputs
        same_files n is = named_once (files_named words) n of.files.inputs is named

        whole_of : (n : Named) → files_named words ≡ Some n → AreWhole seen.told (in_order n) (of.finds.schema ∷ of.finds.clients)
        whole_of n is = subst (λ (m : Named). AreWhole seen.told (in_order m) (of.finds.schema ∷ of.finds.clients)) (sym (same_files n is)) of.finds.whole

        by_refusal : IsRefused (files_named words) seen status text → status ≡ 5
        by_refusal (refused.cannot_read is c) = is
        by_refusal (refused.too_large is l) =
            absurd (reached_whole seen.told (in_order l.named) (of.finds.schema ∷ of.finds.clients) l.file l.cause.name (whole_of l.named l.is_named) l.cause.reached (large_not_whole seen.told l.cause.name tells l.cause.large))
        by_refusal (refused.broken_schema is b) =
            let same = contents_once seen.told (in_order b.named) (b.read.reads.schema ∷ b.read.reads.clients) (of.finds.schema ∷ of.finds.clients) tells b.read.reads.read.whole (whole_of b.named b.read.is_named) in
            let first : b.read.reads.schema ≡ of.finds.schema = cc in
            let rest : b.read.reads.clients ≡ of.finds.clients = cc in
            let comes : inputs_in b.read.reads.schema b.read.reads.clients ≡ inputs_in of.finds.schema of.finds.clients = λ i. inputs_in (first i) (rest i) in
            let not : Err (Schema (schema_error b.rule)) ≡ Ok of.inputs = sym b.read.reads.comes ∙ comes ∙ of.finds.comes in
            cc
        by_refusal (refused.broken_script is b) =
            let same = contents_once seen.told (in_order b.named) (b.read.reads.schema ∷ b.read.reads.clients) (of.finds.schema ∷ of.finds.clients) tells b.read.reads.read.whole (whole_of b.named b.read.is_named) in
            let first : b.read.reads.schema ≡ of.finds.schema = cc in
            let rest : b.read.reads.clients ≡ of.finds.clients = cc in
            let comes : inputs_in b.read.reads.schema b.read.reads.clients ≡ inputs_in of.finds.schema of.finds.clients = λ i. inputs_in (first i) (rest i) in
            let not : Err (Script b.client b.rule) ≡ Ok of.inputs = sym b.read.reads.comes ∙ comes ∙ of.finds.comes in
            cc
    gone_answered status gone (to_output h s) = by_output (output_status status h s)
      where
        by_output : OutputStatus seen of.files.output status → status ≡ 5
        by_output (was_read is bytes r) = absurd (absent_not_whole seen.told of.files.output gone bytes r.whole)
        by_output (had_failed is f) = is
        by_output (was_past is p) = absurd (absent_not_large seen.told of.files.output gone p.large)

  -- ---- all together

  whole_comes : (status called : ℕ) → called ≡ 10 → (status ≡ 10) ⊎ (status ≡ 0) → IsOneOf (statuses_for called) status
  whole_comes status called is (inl ten) = inl (ten ∙ sym is)
  whole_comes status called is (inr zero) = subst (λ (n : ℕ). IsOneOf (statuses_for n) status) (sym is) (inr (inr (inr (inl zero))))

  by_cause : (status called : ℕ) → StatusByWords words seen status → CallsFor words seen called → IsOneOf (statuses_for called) status
  by_cause status called by (no_command is none no_make) = inl (no_command_usage status by none no_make ∙ sym is)
  by_cause status called by (cause.refused r) = inl (refusal_answered status called by r)
  by_cause status called by (cause.made is n make) = inl (made_answered status n by make ∙ sym is)
  by_cause status called by (lawful is l) = inl (lawful_answered status called by is l)
  by_cause status called by (no_output is of gone) = inl (gone_answered of status gone by ∙ sym is)
  by_cause status called by (large_output is of large plain) = inl (large_answered of status large plain (by_status of plain status by) ∙ sym is)
  by_cause status called by (output is of bytes whole plain) = whole_comes status called is (whole_answered of status bytes whole plain (by_status of plain status by))

pub called_for : (words : List Bytes) (seen : Observed) (status called : ℕ) (text : Bytes) → IsAnswer words seen status text → CallsFor words seen called → IsOneOf (statuses_for called) status
called_for words seen status called text a c = by_cause words seen status called (by_answer words seen status text a) c
