-- A walk over a list by place, where the first that breaks a rule ends it.
use Rattle.std.proofs.Common.{◌≡◌, ◌≤◌, length, ℕ, ◌+◌, List, [], ◌∷◌, ◌++◌, drop, ap, sym, ◌∙◌, refl, append_assoc, Some}
use Rattle.std.specs.Prelude.{Result, Ok, Err}
use Rattle.std.specs.List.{slice_get}
use Rattle.std.proofs.lemmas.List.{drop_all, append-nil}
use Rattle.mdb_datum.proofs.ListPlaces.{drop_at}
use Rattle.mdb_schema.specs.Broken.{◌>>=◌, each, Checked, Broken}
use Rattle.mdb_schema.specs.SchemaAnswer.{AnswersSchema}
use Rattle.mdb_schema.specs.inner.IndexerAnswer.{IsIndexerResult}
use Rattle.mdb_schema.specs.inner.ListAnswer.{AnswersList}
use Rattle.mdb_schema.specs.declared.error.SchemaError.{SchemaError}
use Rattle.mdb_schema.specs.declared.error.SchemaError.TheVariants as schema_error
use Rattle.mdb_schema.specs.declared.error.IndexerError.{IndexerError}
use Rattle.mdb_schema.specs.declared.error.IndexerError.TheVariants as indexer_error

-- what stands so far, and the rest behind it
abbrev pub behind : {B E : Type 0} → List B → Result (List B) E → Result (List B) E
behind done (Ok ys) = Ok (done ++ ys)
behind done (Err e) = Err e

pub each_more : {A B E : Type 0} (f : A → Result B E) (done : List B) (xs : List A) (at : ℕ) (x : A) (y : B) → Some x ≡ slice_get xs at → f x ≡ Ok y → behind done (each f (drop at xs)) ≡ behind (done ++ y ∷ []) (each f (drop (at + 1) xs))
each_more {A} {B} {E} f done xs at x y there found =
    ap (λ l. behind done (each f l)) (drop_at xs at x (sym there)) ∙ ap (λ (r : Result B E). behind done (r >>= (λ z. each f (drop (at + 1) xs) >>= (λ zs. Ok (z ∷ zs))))) found ∙ step (each f (drop (at + 1) xs))
  where
    step : (r : Result (List B) E) → behind done (r >>= (λ zs. Ok (y ∷ zs))) ≡ behind (done ++ y ∷ []) r
    step (Ok zs) = ap Ok (sym (append_assoc done (y ∷ []) zs))
    step (Err e) = refl

pub each_stops : {A B E : Type 0} (f : A → Result B E) (done : List B) (xs : List A) (at : ℕ) (x : A) (e : E) → Some x ≡ slice_get xs at → f x ≡ Err e → behind done (each f (drop at xs)) ≡ Err e
each_stops {A} {B} {E} f done xs at x e there found =
    ap (λ l. behind done (each f l)) (drop_at xs at x (sym there)) ∙ ap (λ (r : Result B E). behind done (r >>= (λ z. each f (drop (at + 1) xs) >>= (λ zs. Ok (z ∷ zs))))) found

-- the refusal of one is that of the list
pub refused_at : {A B C D : Type 0} (view : C → B) (lists : D → List B) (f : A → Checked B) (done : List B) (xs : List A) (at : ℕ) (x : A) (e : IndexerError) → Some x ≡ slice_get xs at → each f xs ≡ behind done (each f (drop at xs)) → IsIndexerResult view (f x) (Err e) → IsIndexerResult lists (each f xs) (Err e)
refused_at view lists f done xs at x indexer_error.Memory there walked told = tt
refused_at view lists f done xs at x (indexer_error.Broken r) there walked told = walked ∙ each_stops f done xs at x r there told

pub named_refusal_at : {A B : Type 0} (f : A → Result B Broken) (done : List B) (xs : List A) (at : ℕ) (x : A) (e : SchemaError) → Some x ≡ slice_get xs at → each f xs ≡ behind done (each f (drop at xs)) → AnswersSchema (f x) (Err e) → AnswersList (each f xs) (Err e)
named_refusal_at f done xs at x schema_error.Memory there walked told = tt
named_refusal_at f done xs at x (schema_error.Broken r t i) there walked told = walked ∙ each_stops f done xs at x (record { rule = r; table = t; index = i }) there told

-- one more, at the end of what the code holds
pub each_pushed : {A B E : Type 0} (f : A → Result B E) (done more : List B) (xs : List A) (at : ℕ) (x : A) (y : B) → Some x ≡ slice_get xs at → f x ≡ Ok y → each f xs ≡ behind done (each f (drop at xs)) → more ≡ done ++ y ∷ [] → each f xs ≡ behind more (each f (drop (at + 1) xs))
each_pushed f done more xs at x y there found walked pushed =
    walked ∙ each_more f done xs at x y there found ∙ ap (λ ys. behind ys (each f (drop (at + 1) xs))) (sym pushed)

-- all have been walked
pub each_done : {A B E : Type 0} (f : A → Result B E) (done : List B) (xs : List A) (at : ℕ) → length xs ≤ at → each f xs ≡ behind done (each f (drop at xs)) → each f xs ≡ Ok done
each_done f done xs at long walked =
    walked ∙ ap (λ l. behind done (each f l)) (drop_all at xs long) ∙ ap Ok (append-nil done)
