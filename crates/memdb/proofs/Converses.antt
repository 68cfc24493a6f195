-- What the clause `comes` of `run` gives, cause by cause.
use Rattle.std.proofs.Common.{◌≡◌, refl, inl, inr, ℕ, List, [], ◌∷◌, None, Err}
use Rattle.client_script.specs.declared.script_error.ScriptError.{ScriptError}
use Rattle.mdb_datum.specs.Bytes.{Bytes}
use Rattle.mdb_ports.specs.Faults.{Rose}
use Rattle.mdb_schema.specs.Broken.{Broken}
use Rattle.memdb.specs.Causes.{CallsFor, FindsInputs, no_command, output, refused, lawful, statuses_for}
use Rattle.memdb.specs.Words.{check_named, files_named, numbers_named, run_named}
use Rattle.run_io.specs.Causes.{HasNoExcuse}
use Rattle.run_io.specs.Inputs.{schema_error}
use Rattle.run_io.specs.Named.{Named}
use Rattle.run_io.specs.Observed.{Observed, IsTooLarge, IsWholeWithin, output_limit}
use Rattle.run_io.specs.RefusalCauses.{AreLawful, Finds, Reaches, too_large, broken, broken_script}
use Rattle.run_io.specs.Statuses.{IsOneOf}
use Rattle.run_io.specs.declared.load_error.LoadError.TheVariants.{Schema, Script}

module _ (words : List Bytes) (seen : Observed) (result : ℕ) (comes : (status : ℕ) → CallsFor words seen status → IsOneOf (statuses_for status) result) where
  usage_comes : files_named words ≡ None → numbers_named words ≡ None → IsOneOf (1 ∷ 4 ∷ 6 ∷ []) result
  usage_comes none no_make = comes 1 (no_command refl none no_make)

  too_large_comes : (named : Named) (name : Bytes) → Reaches (files_named words) seen named name → IsTooLarge seen.told name → HasNoExcuse seen → IsOneOf (7 ∷ 4 ∷ 6 ∷ []) result
  too_large_comes named name r l plain = comes 7 (refused (too_large refl named name r l plain))

  broken_schema_comes : (named : Named) (rule : Broken) → Finds (files_named words) seen named (Err (Schema (schema_error rule))) → HasNoExcuse seen → IsOneOf (2 ∷ 4 ∷ 6 ∷ []) result
  broken_schema_comes named rule f plain = comes 2 (refused (broken refl named rule f plain))

  broken_script_comes : (named : Named) (client : ℕ) (rule : ScriptError) → Finds (files_named words) seen named (Err (Script client rule)) → HasNoExcuse seen → IsOneOf (3 ∷ 4 ∷ 6 ∷ []) result
  broken_script_comes named client rule f plain = comes 3 (refused (broken_script refl named client rule f plain))

  -- where no write failed, lawful inputs are answered, but for want of memory
  lawful_is_answered : (before now : ℕ) → (result ≡ 6 → Rose before now) → (Rose before now → ⊥) →
      AreLawful (run_named words) seen → IsOneOf (0 ∷ 4 ∷ []) result
  lawful_is_answered before now cut quiet l = without_six (comes 0 (lawful refl l))
    where
      without_six : IsOneOf (0 ∷ 4 ∷ 6 ∷ []) result → IsOneOf (0 ∷ 4 ∷ []) result
      without_six (inl is) = inl is
      without_six (inr (inl is)) = inr (inl is)
      without_six (inr (inr (inl is))) = absurd (quiet (cut is))
      without_six (inr (inr (inr none))) = absurd none

  -- and a whole output is checked
  output_is_checked : (before now : ℕ) → (result ≡ 6 → Rose before now) → (Rose before now → ⊥) →
      (of : FindsInputs (check_named words) seen) (bytes : Bytes) → IsWholeWithin output_limit seen.told of.files.output bytes → HasNoExcuse seen → IsOneOf (10 ∷ 4 ∷ 0 ∷ []) result
  output_is_checked before now cut quiet of bytes w plain = without_six (comes 10 (output refl of bytes w plain))
    where
      without_six : IsOneOf (10 ∷ 4 ∷ 6 ∷ 0 ∷ []) result → IsOneOf (10 ∷ 4 ∷ 0 ∷ []) result
      without_six (inl is) = inl is
      without_six (inr (inl is)) = inr (inl is)
      without_six (inr (inr (inl is))) = absurd (quiet (cut is))
      without_six (inr (inr (inr zero))) = inr (inr zero)
