-- The keys of a row as the code holds them, test by test.
use Rattle.std.proofs.Common.{◌≡◌, ◌∙◌, ◌+◌, ◌++◌, ℕ, List, [], ◌∷◌, map, take, drop, slice_get, Some, Result, Ok, Err, sym, ap, subst}
use Rattle.std.specs.declared.alloc.Global.{Global}
use Rattle.std.specs.declared.vec.Vec.{Vec}
use Rattle.std.proofs.lemmas.List.{map_more, map_push}
use Rattle.std.proofs.lemmas.Option.{get_or_from_slice_get, slice_get_within}
use Rattle.mdb_datum.specs.Bytes.{Bytes}
use Rattle.mdb_datum.specs.Row.{Fields}
use Rattle.mdb_schema.specs.ErrorsTold.{TellsRefusal}
use Rattle.mdb_schema.specs.Schema.{TableSchema}
use Rattle.mdb_schema.specs.Tests.{each}
use Rattle.mdb_schema.specs.Write.{Tested, Placed, id_of, indexes_of, takes}
use Rattle.mdb_schema.specs.declared.write_error.WriteError.{WriteError}
use Rattle.mdb_schema.proofs.Each.{behind, each_more}
use Rattle.mdb_schema.proofs.RefusalsTold.{told_later, told_on}
use Rattle.run_check.specs.declared.keys.RowKeys.{RowKeys}
use Rattle.run_check.specs.inner.KeyView.{AnswersBy, AnswersRowKeys, bytes_of, keys_of, row_tests}

-- an error that `?` hands on
pub handed_on : {A B : Type 0} (view : A → B) (told : Tested B) (r : Result A WriteError) (e : WriteError) → r ≡ Err e → TellsRefusal told e → AnswersBy view told r
handed_on {A} view told r e is tells = subst (λ (x : Result A WriteError). AnswersBy view told x) (sym is) tells

-- ---- in each index

-- one more list of keys at the end of what the code holds
pub list_pushed : (f : Placed → Tested (List Bytes)) (done more : List (Vec (Vec ℕ Global) Global)) (xs : List Placed) (at : ℕ) (x : Placed) (y : Vec (Vec ℕ Global) Global)
    → Some x ≡ slice_get xs at → f x ≡ Ok (keys_of y) → each f xs ≡ behind (map keys_of done) (each f (drop at xs)) → more ≡ done ++ y ∷ []
    → each f xs ≡ behind (map keys_of more) (each f (drop (at + 1) xs))
list_pushed f done more xs at x y there found walked pushed =
    walked ∙ each_more f (map keys_of done) xs at x (keys_of y) there found
    ∙ ap (λ (ys : List (List Bytes)). behind ys (each f (drop (at + 1) xs))) (sym (map_push keys_of done y) ∙ ap (map keys_of) (sym pushed))

-- one more key
pub key_pushed : (f : Bytes → Bytes) (xs : List Bytes) (done more : List (Vec ℕ Global)) (at : ℕ) (x : Bytes) (y : Vec ℕ Global)
    → map bytes_of done ≡ map f (take at xs) → Some x ≡ slice_get xs at → y.items ≡ f x → more ≡ done ++ y ∷ [] → map bytes_of more ≡ map f (take (at + 1) xs)
key_pushed f xs done more at x y before there key pushed =
    let within = slice_get_within xs at x (sym there) in
    ap (map bytes_of) pushed ∙ map_push bytes_of done y
    ∙ ap (λ (ks : List Bytes). ks ++ y.items ∷ []) before
    ∙ ap (λ (k : Bytes). map f (take at xs) ++ k ∷ []) (key ∙ ap f (sym (get_or_from_slice_get xs at x x (sym there))))
    ∙ sym (map_more f xs at x within)

-- ---- all keys of a row

module _ (t : TableSchema) (row : Fields) where
  pub rule_of_id : (e : WriteError) → TellsRefusal (id_of t row) e → TellsRefusal (row_tests t row) e
  rule_of_id e told = told_on (id_of t row) (λ (id : Bytes). each (takes row) (indexes_of t)) e told

  pub keys_handed_on : (r : Result RowKeys WriteError) (e : WriteError) → r ≡ Err e → TellsRefusal (row_tests t row) e → AnswersRowKeys t row r
  keys_handed_on r e is tells = subst (λ (x : Result RowKeys WriteError). AnswersRowKeys t row x) (sym is) tells

  pub rule_of_index : (id : Bytes) (e : WriteError) → id_of t row ≡ Ok id → TellsRefusal (each (takes row) (indexes_of t)) e → TellsRefusal (row_tests t row) e
  rule_of_index id e known told = told_later (id_of t row) (λ (id : Bytes). each (takes row) (indexes_of t)) id e known told
