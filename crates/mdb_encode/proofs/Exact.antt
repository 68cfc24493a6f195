-- An exact question never lacks a prefix form.
use Rattle.std.proofs.Common.{◌≢◌, ◌++◌, ◌==◌, ℕ, List, [], ◌∷◌, length, nat_lt, Bool, true, false, Option, Some, None, Result, Ok, Err, if◌then◌else◌, refl}
use Rattle.mdb_datum.specs.Doc.{Doc, flag, whole, text}
use Rattle.mdb_encode.specs.Bytes.{Bytes}
use Rattle.mdb_encode.specs.Indexer.{Indexer, str, str_list, str_map, uint, sint, truth, uuid, is_set, equals, compound, PartList, no_parts, part}
use Rattle.mdb_encode.specs.Arguments.{Argued, arg_or, one, text_arg, uint_arg, sint_arg, truth_arg, uuid_arg, then_with, map_arg, raw_arg, joined_arg, part_count, limited_arg}
use Rattle.mdb_encode.specs.Keys.{longest_key}
use Rattle.mdb_encode.specs.KeyAnswers.{AnswersKey}
use Rattle.mdb_encode.specs.declared.error.ArgError.{ArgError}
use Rattle.mdb_encode.specs.declared.error.ArgError.TheVariants.{NoPrefixForm}
use Rattle.mdb_encode.specs.ArgRefusal.{arg_count, arg_out_of_range, arg_bad_uuid, arg_too_long, no_prefix_form}

abbrev IsExact : Argued → Type 0
IsExact a = a ≢ Err no_prefix_form

range_exact : (o : Option Bytes) → IsExact (arg_or arg_out_of_range o)
range_exact None = λ e. cc
range_exact (Some k) = λ e. cc

bad_exact : (o : Option Bytes) → IsExact (arg_or arg_bad_uuid o)
bad_exact None = λ e. cc
bad_exact (Some k) = λ e. cc

text_exact : (fold : Bool) (d : Doc) → IsExact (text_arg fold d)
text_exact fold (text s) = λ e. cc
text_exact fold _ = λ e. cc

uint_exact : (w : ℕ) (d : Doc) → IsExact (uint_arg w d)
uint_exact w (whole z) = range_exact _
uint_exact w _ = λ e. cc

sint_exact : (w : ℕ) (d : Doc) → IsExact (sint_arg w d)
sint_exact w (whole z) = range_exact _
sint_exact w _ = λ e. cc

truth_exact : (d : Doc) → IsExact (truth_arg d)
truth_exact (flag b) = λ e. cc
truth_exact _ = λ e. cc

uuid_exact : (d : Doc) → IsExact (uuid_arg d)
uuid_exact (text s) = bad_exact _
uuid_exact _ = λ e. cc

one_exact : (of_doc : Doc → Argued) → ((d : Doc) → IsExact (of_doc d)) → (args : List Doc)
    → IsExact (one of_doc args)
one_exact of_doc exact [] = λ e. cc
one_exact of_doc exact (d ∷ []) = exact d
one_exact of_doc exact (d ∷ f ∷ rest) = λ e. cc

then_exact : (a : Argued) (next : Bytes → Argued) → IsExact a → ((k : Bytes) → IsExact (next k))
    → IsExact (then_with a next)
then_exact (Ok k) next here later = later k
then_exact (Err e) next here later = here

map_exact : (fold : Bool) (args : List Doc) → IsExact (map_arg fold args)
map_exact fold [] = λ e. cc
map_exact fold (name ∷ []) = text_exact fold name
map_exact fold (name ∷ value ∷ []) =
    then_exact (text_arg fold name) _ (text_exact fold name) (λ n. then_exact (text_arg fold value) _ (text_exact fold value) (λ v e. cc))
map_exact fold (name ∷ value ∷ more ∷ rest) = λ e. cc

chosen_exact : (b : Bool) (a : Argued) → IsExact a → IsExact (if b then a else Err arg_count)
chosen_exact true a exact = exact
chosen_exact false a exact = λ e. cc

mutual
  pub raw_arg_exact : (i : Indexer) (args : List Doc) → IsExact (raw_arg i args)
  raw_arg_exact (str name fold) args = one_exact (text_arg fold) (text_exact fold) args
  raw_arg_exact (str_list name fold) args = one_exact (text_arg fold) (text_exact fold) args
  raw_arg_exact (str_map name fold) args = map_exact fold args
  raw_arg_exact (uint name w) args = one_exact (uint_arg w) (uint_exact w) args
  raw_arg_exact (sint name w) args = one_exact (sint_arg w) (sint_exact w) args
  raw_arg_exact (truth name) args = one_exact truth_arg truth_exact args
  raw_arg_exact (uuid name) args = one_exact uuid_arg uuid_exact args
  raw_arg_exact (is_set name) args = one_exact truth_arg truth_exact args
  raw_arg_exact (equals name scalar) args = one_exact truth_arg truth_exact args
  raw_arg_exact (compound parts allow_missing) args =
      chosen_exact (length args == part_count parts) (joined_arg [] parts args) (joined_exact [] parts args)

  joined_exact : (so_far : Bytes) (parts : PartList) (args : List Doc)
      → IsExact (joined_arg so_far parts args)
  joined_exact so_far no_parts args = λ e. cc
  joined_exact so_far (part i is) [] = λ e. cc
  joined_exact so_far (part i is) (d ∷ ds) =
      then_exact (raw_arg i (d ∷ [])) _ (raw_arg_exact i (d ∷ [])) (λ k. joined_exact (so_far ++ k) is ds)

long_exact : (b : Bool) (k : Bytes) → IsExact (if b then Err arg_too_long else Ok k)
long_exact true k = λ e. cc
long_exact false k = λ e. cc

limited_exact : (a : Argued) → IsExact a → IsExact (limited_arg a)
limited_exact (Err e) exact = exact
limited_exact (Ok k) exact = long_exact (nat_lt longest_key (length k)) k

-- so its answer is another one
told_exact : (a : Argued) (answer : Result Bytes ArgError) → IsExact a → AnswersKey a answer
    → answer ≢ Err NoPrefixForm
told_exact (Ok k) (Ok found) exact answers = λ e. cc
told_exact (Ok k) (Err error) exact answers = λ e. cc
told_exact (Err no_prefix_form) answer exact answers = absurd (exact refl)
told_exact (Err _) answer exact answers = λ e. cc

pub answer_exact : (i : Indexer) (args : List Doc) (answer : Result Bytes ArgError)
    → AnswersKey (limited_arg (raw_arg i args)) answer → answer ≢ Err NoPrefixForm
answer_exact i args answer answers =
    told_exact (limited_arg (raw_arg i args)) answer (limited_exact (raw_arg i args) (raw_arg_exact i args)) answers

pub joined_answer_exact : (parts : PartList) (args : List Doc) (answer : Result Bytes ArgError)
    → AnswersKey (limited_arg (joined_arg [] parts args)) answer → answer ≢ Err NoPrefixForm
joined_answer_exact parts args answer answers =
    told_exact (limited_arg (joined_arg [] parts args)) answer (limited_exact (joined_arg [] parts args) (joined_exact [] parts args)) answers
