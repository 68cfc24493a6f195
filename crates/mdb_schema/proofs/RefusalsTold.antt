-- The error that tells the refusal of a write, test by test.
use Rattle.std.proofs.Common.{◌≡◌, ◌∙◌, ℕ, List, Some, Ok, Err, drop, slice_get, refl, sym, ap, subst, inl, inr}
use Rattle.mdb_encode.specs.KeyAnswers.{AnswersKeys, key_error}
use Rattle.mdb_encode.specs.KeyRefusal.{KeyRefusal, wrong_kind, out_of_range, bad_uuid, too_many, too_long}
use Rattle.mdb_encode.specs.Keys.{Keyed}
use Rattle.mdb_encode.specs.declared.error.KeyError.{KeyError}
use Rattle.mdb_schema.specs.ErrorsTold.{TellsRefusal, told_at, write_error}
use Rattle.mdb_schema.specs.Tests.{◌>>=◌, each}
use Rattle.mdb_schema.specs.Write.{Tested, bad_key, keys_at}
use Rattle.mdb_schema.specs.declared.write_error.WriteError.{WriteError}
use Rattle.mdb_schema.proofs.Each.{behind, each_stops}
use Rattle.mdb_schema.proofs.PassedTests.{goes_on}

-- ---- the keys of a row in one index

told_key : (place : ℕ) (r : KeyRefusal) → told_at place (key_error r) ≡ write_error (bad_key place r)
told_key place wrong_kind = refl
told_key place out_of_range = refl
told_key place bad_uuid = refl
told_key place too_many = refl
told_key place too_long = refl

pub keys_refused : (place : ℕ) (k : Keyed) (e : KeyError) → AnswersKeys k (Err e) → TellsRefusal (keys_at place k) (told_at place e)
keys_refused place (Ok js) e h = inl (ap (told_at place) h)
keys_refused place (Err r) e h = let same : e ≡ key_error r = cc in inr (bad_key place r, refl, ap (told_at place) same ∙ told_key place r)

-- ---- tests one after the other

-- what the first test refuses is refused
pub told_on : {A B : Type 0} (r : Tested A) (f : A → Tested B) (e : WriteError) → TellsRefusal r e → TellsRefusal (r >>= f) e
told_on {A} r f e told = elim told [
  | inl memory ↦ inl memory
  | inr why ↦ inr (why.0, ap (λ (x : Tested A). x >>= f) why.1, why.2)
]

-- what a later test refuses is refused
pub told_later : {A B : Type 0} (r : Tested A) (f : A → Tested B) (x : A) (e : WriteError) → r ≡ Ok x → TellsRefusal (f x) e → TellsRefusal (r >>= f) e
told_later {A} {B} r f x e passes told = subst (λ (q : Tested B). TellsRefusal q e) (sym (goes_on r f x passes)) told

-- what one refuses the list refuses
pub told_at_place : {A B : Type 0} (f : A → Tested B) (done : List B) (xs : List A) (at : ℕ) (x : A) (e : WriteError) → Some x ≡ slice_get xs at
    → each f xs ≡ behind done (each f (drop at xs)) → TellsRefusal (f x) e → TellsRefusal (each f xs) e
told_at_place f done xs at x e there walked told = elim told [
  | inl memory ↦ inl memory
  | inr why ↦ inr (why.0, walked ∙ each_stops f done xs at x why.0 there why.1, why.2)
]
