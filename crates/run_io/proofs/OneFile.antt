-- Where a cause is there for an answer to one file, no other comes but want of memory.
use Rattle.std.proofs.Common.{◌≡◌, ◌∙◌, arith, refl, sym, ap, inl, inr, ℕ, Bool, true, false, length, Option, Some, None, Ok, Err}
use Rattle.std.proofs.lemmas.Bool.Decides.{nat_tests}
use Rattle.std.specs.Prelude.{◌⊎◌, IsSome, IsTrue, Result, Vec, nat_le}
use Rattle.std.specs.declared.alloc.Global.{Global}
use Rattle.mdb_datum.specs.Bytes.{Bytes}
use Rattle.mdb_ports.specs.Faults.{Rose}
use Rattle.mdb_ports.specs.Files.{Contents}
use Rattle.run_io.specs.Causes.{HasNoExcuse}
use Rattle.run_io.specs.Observed.{Observed, IsWholeWithin, IsPast, IsAbsent}
use Rattle.run_io.specs.OneFile.{HasFailed, LeadsToBytes, LoadsFile, absent, answered_bytes, bytes_of, too_large, whole}
use Rattle.run_io.specs.declared.output_error.OutputError.{OutputError}
use Rattle.run_io.specs.declared.output_error.OutputError.TheVariants.{Memory, Read, TooLarge}
use Rattle.run_io.proofs.InOrder.{whole_once, large_not_whole, absent_not_whole, absent_not_large, absent_where_told}

-- a file at which a call failed isn't there
pub failed_absent : (seen : Observed) (name : Bytes) → HasFailed seen name → HasNoExcuse seen → IsAbsent seen.told name
failed_absent seen name f plain = by_fault plain.no_fault
  where
    by_fault : (Rose seen.before seen.now → ⊥) ⊎ IsTrue seen.reliable → IsAbsent seen.told name
    by_fault (inl none) = absurd (none f.rose)
    by_fault (inr sure) = absent_where_told seen.told name plain.tells (f.absent sure)

module _ (limit : ℕ) (seen : Observed) (name : Bytes) (plain : HasNoExcuse seen) where
  abbrev Answered : Result (Vec ℕ Global) OutputError → Result Bytes OutputError → Type 0
  Answered r answer = (answered_bytes r ≡ answer) ⊎ (r ≡ Err Memory)

  absent_answered : (r : Result (Vec ℕ Global) OutputError) → IsAbsent seen.told name → LoadsFile bytes_of limit seen name r → Answered r (Err Read)
  absent_answered (Ok v) gone h = absurd (absent_not_whole seen.told name gone v.items h.whole)
  absent_answered (Err Memory) gone h = inr refl
  absent_answered (Err Read) gone h = inl refl
  absent_answered (Err TooLarge) gone h = absurd (absent_not_large seen.told name gone h.large)

  large_answered : (r : Result (Vec ℕ Global) OutputError) → IsPast limit seen.told name → LoadsFile bytes_of limit seen name r → Answered r (Err TooLarge)
  large_answered (Ok v) large h = absurd (large_not_whole seen.told name plain.tells large v.items h.whole)
  large_answered (Err Memory) large h = inr refl
  large_answered (Err Read) large h = absurd (absent_not_large seen.told name (failed_absent seen name h plain) large)
  large_answered (Err TooLarge) large h = inl refl

  whole_answered : (r : Result (Vec ℕ Global) OutputError) (bytes : Bytes) → IsWholeWithin limit seen.told name bytes → LoadsFile bytes_of limit seen name r → Answered r (Ok bytes)
  whole_answered (Ok v) bytes w h = inl (ap Ok (whole_once seen.told name v.items bytes plain.tells h.whole w))
  whole_answered (Err Memory) bytes w h = inr refl
  whole_answered (Err Read) bytes w h = absurd (absent_not_whole seen.told name (failed_absent seen name h plain) bytes w)
  whole_answered (Err TooLarge) bytes w h = absurd (large_not_whole seen.told name plain.tells h.large bytes w)

  called : (r : Result (Vec ℕ Global) OutputError) (answer found : Result Bytes OutputError) → answer ≡ found → Answered r found → Answered r answer
  called r answer found is (inl same) = inl (same ∙ sym is)
  called r answer found is (inr short) = inr short

  pub file_called : (r : Result (Vec ℕ Global) OutputError) (answer : Result Bytes OutputError) → LoadsFile bytes_of limit seen name r → LeadsToBytes limit seen.told name answer → Answered r answer
  file_called r answer h (absent gone is) = called r answer (Err Read) is (absent_answered r gone h)
  file_called r answer h (too_large large is) = called r answer (Err TooLarge) is (large_answered r large h)
  file_called r answer h (whole bytes w is) = called r answer (Ok bytes) is (whole_answered r bytes w h)

-- ---- what is found of one file

pub data FoundFile (limit : ℕ) (told : Option Contents) (name : Bytes) : Type 0 where
  is_gone : IsAbsent told name → FoundFile limit told name
  is_large : IsPast limit told name → FoundFile limit told name
  is_whole : (bytes : Bytes) → IsWholeWithin limit told name bytes → FoundFile limit told name

pub file_found : (limit : ℕ) (told : Option Contents) (name : Bytes) → IsSome told → FoundFile limit told name
file_found limit None name h = cc
file_found limit (Some contents) name h = by_content (contents name) refl
  where
    by_length : (bytes : Bytes) (b : Bool) → contents name ≡ Some bytes → nat_le (length bytes) limit ≡ b → FoundFile limit (Some contents) name
    by_length bytes true e is = is_whole bytes (record { there = e; fits = grind (arith, nat_tests) })
    by_length bytes false e is = is_large (record { bytes = bytes; there = e; longer = grind (arith, nat_tests) })

    by_content : (o : Option Bytes) → contents name ≡ o → FoundFile limit (Some contents) name
    by_content None e = is_gone (record { files = contents; tells = refl; none = e })
    by_content (Some bytes) e = by_length bytes (nat_le (length bytes) limit) e refl
