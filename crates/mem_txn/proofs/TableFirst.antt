-- A table never answers that it isn't there, so its question is told its own answer where it may be
-- watched, and only there.
use Rattle.std.proofs.Common.{◌≡◌, refl, List, [], ◌∷◌, Bool, true, false, not, Option, Some, None, Ok, Err, slice_get}
use Rattle.std.specs.Prelude.{◌||◌}
use Rattle.mdb_datum.specs.Doc.{Doc}
use Rattle.mdb_datum.specs.Row.{Fields}
use Rattle.mdb_encode.specs.ArgRefusal.{arg_count}
use Rattle.mdb_encode.specs.Arguments.{Argued}
use Rattle.mdb_schema.specs.Answer.{Asked, argument, ask_rows, bad_argument, has_argument, key_asked, lookup_of, may_ask, may_name, needs_argument, no_prefix_name, not_unique, own_name, unknown_index, unknown_table}
use Rattle.mdb_schema.specs.Query.{Query}
use Rattle.mdb_schema.specs.Schema.{IndexSchema, TableSchema, index_place}
use Rattle.mdb_schema.specs.Tests.{◌>>=◌, needed, passed}
use Rattle.mem_txn.specs.Held.{tells_own}

module _ (b : Bool) where
  Own : {A : Type 0} → Asked A → Type 0
  Own j = tells_own j b ≡ b

  own_then : {A B : Type 0} (j : Asked A) (f : A → Asked B) → Own j → ((a : A) → Own (f a)) → Own (j >>= f)
  unfolding Own
  own_then (Ok a) f own each = each a
  own_then (Err unknown_table) f own each = own
  own_then (Err no_prefix_name) f own each = refl
  own_then (Err unknown_index) f own each = refl
  own_then (Err not_unique) f own each = refl
  own_then (Err (bad_argument r)) f own each = refl

  argued : (a : Argued) → Own (argument a)
  unfolding Own
  argued (Ok k) = refl
  argued (Err e) = refl

  key_own : (i : IndexSchema) (q : Query) (ds : List Doc) → Own (key_asked i q ds)
  unfolding Own
  key_own i q [] = refl
  key_own i q (d ∷ ds) = argued _

  named_own : (ok : Bool) → Own (passed no_prefix_name ok)
  unfolding Own
  named_own true = refl
  named_own false = refl

  unique_own : (ok : Bool) → Own (passed not_unique ok)
  unfolding Own
  unique_own true = refl
  unique_own false = refl

  counted_own : (ok : Bool) → Own (passed (bad_argument arg_count) ok)
  unfolding Own
  counted_own true = refl
  counted_own false = refl

  index_own : {A : Type 0} (o : Option A) → Own (needed unknown_index o)
  unfolding Own
  index_own (Some x) = refl
  index_own None = refl

  pub rows_tell_own : (t : TableSchema) (rows : List Fields) (q : Query) → tells_own (ask_rows t rows q) b ≡ b
  unfolding Own
  rows_tell_own t rows q =
      own_then (lookup_of t q) _
      (own_then (passed no_prefix_name (may_name q.ask q)) _ (named_own (may_name q.ask q)) (λ named.
      own_then (needed unknown_index (index_place (own_name q.index) t.indexes)) _ (index_own (index_place (own_name q.index) t.indexes)) (λ place.
      own_then (needed unknown_index (slice_get t.indexes place)) _ (index_own (slice_get t.indexes place)) (λ i.
      own_then (passed not_unique (may_ask q.ask i)) _ (unique_own (may_ask q.ask i)) (λ able.
      own_then (passed (bad_argument arg_count) (not (needs_argument q.ask) || has_argument q)) _ (counted_own (not (needs_argument q.ask) || has_argument q)) (λ enough.
      own_then (key_asked i q q.args) _ (key_own i q q.args) (λ k. refl)))))))
      (λ at. refl)
