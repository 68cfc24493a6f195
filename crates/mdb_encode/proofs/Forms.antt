-- Arguments one by one.
use Rattle.std.proofs.Common.{◌≡◌, ◌++◌, ◌+◌, ◌<◌, ◌≤◌, ◌≢◌, ℕ, zero, suc, List, [], ◌∷◌, length, drop, Bool, true, false, Some, Ok, Err, refl, sym, ap, ◌∙◌, arith, ◌==◌, ◌&&◌, if◌then◌else◌, tests, rules, length-drop}
use Rattle.std.proofs.lemmas.Bool.Decides.{nat_tests}
use Rattle.std.specs.List.{slice_get}
use Rattle.mdb_datum.specs.Doc.{Doc}
use Rattle.mdb_datum.proofs.ListPlaces.{drop_at}
use Rattle.mdb_encode.specs.Bytes.{Bytes}
use Rattle.mdb_encode.specs.Indexer.{Indexer, PartList, no_parts, part}
use Rattle.mdb_encode.specs.Arguments.{Argued, one, raw_arg, raw_pre, joined_arg, joined_pre, then_with, part_count}
use Rattle.mdb_encode.specs.inner.ArgReading.{joined_form}
use Rattle.mdb_encode.specs.Kind.{part_list, part_indexer}
use Rattle.mdb_encode.specs.declared.kind.part.Part.{Part}
use Rattle.mdb_encode.specs.declared.kind.part.Part.TheVariants as of_part
use Rattle.mdb_encode.specs.ArgRefusal.{arg_count}

joined_arg_end : (so_far : Bytes) (ps : PartList) → joined_arg so_far ps [] ≡ Ok so_far
joined_arg_end so_far no_parts = refl
joined_arg_end so_far (part i is) = refl

joined_pre_end : (so_far : Bytes) (ps : PartList) → joined_pre so_far ps [] ≡ Ok so_far
joined_pre_end so_far no_parts = refl
joined_pre_end so_far (part i is) = refl

form_end : (is_prefix : Bool) (so_far : Bytes) (ps : PartList)
    → joined_form is_prefix so_far ps [] ≡ Ok so_far
form_end true so_far ps = joined_pre_end so_far ps
form_end false so_far ps = joined_arg_end so_far ps

drop_all : {X : Type 0} (xs : List X) (n : ℕ) → length xs ≤ n → drop n xs ≡ []
drop_all [] zero h = refl
drop_all [] (suc n) h = refl
drop_all (x ∷ xs) zero h = absurd (omega arith)
drop_all (x ∷ xs) (suc n) h = drop_all xs n (omega arith)

-- behind the last argument nothing is added
pub joined_form_end : (is_prefix : Bool) (so_far : Bytes) (ps : PartList) (args : List Doc) (n : ℕ)
    → n ≡ length args → joined_form is_prefix so_far ps (drop n args) ≡ Ok so_far
joined_form_end is_prefix so_far ps args n e =
    ap (joined_form is_prefix so_far ps) (drop_all args n (omega arith))
    ∙ form_end is_prefix so_far ps

no_more : (so_far : Bytes) (ps : PartList) (a : Argued)
    → then_with a (λ k. Ok (so_far ++ k)) ≡ then_with a (λ k. joined_pre (so_far ++ k) ps [])
no_more so_far ps (Err e) = refl
no_more so_far ps (Ok k) = sym (joined_pre_end (so_far ++ k) ps)

-- one argument, where `rest` is what comes behind it
form_step : (is_prefix last : Bool) (so_far : Bytes) (i : Indexer) (ps : PartList) (d : Doc) (rest : List Doc)
    → last ≡ (is_prefix && (length (d ∷ rest) == 1))
    → joined_form is_prefix so_far (part i ps) (d ∷ rest)
    ≡ then_with (if last then raw_pre i (d ∷ []) else raw_arg i (d ∷ []))
    (λ k. joined_form is_prefix (so_far ++ k) ps rest)
form_step false last so_far i ps d rest e = rw e refl
form_step true last so_far i ps d [] e = rw e (no_more so_far ps (raw_pre i (d ∷ [])))
form_step true last so_far i ps d (x ∷ rest) e =
    let more : (length (d ∷ x ∷ rest) == 1) ≡ false = search (tests, rules) in
    let middle : last ≡ false = e ∙ more in
    rw middle refl

-- one argument of a compound index
pub joined_form_at : (is_prefix last : Bool) (so_far : Bytes) (is : List Indexer) (args : List Doc) (at : ℕ) (i : Indexer) (d : Doc) (a : Argued)
    → slice_get is at ≡ Some i → slice_get args at ≡ Some d
    → last ≡ (is_prefix && (length (drop at args) == 1))
    → a ≡ (if last then raw_pre i (d ∷ []) else raw_arg i (d ∷ []))
    → joined_form is_prefix so_far (part_list (drop at is)) (drop at args)
    ≡ then_with a (λ k.
    joined_form is_prefix (so_far ++ k) (part_list (drop (at + 1) is)) (drop (at + 1) args))
joined_form_at is_prefix last so_far is args at i d a part_there arg_there is_last read =
    let left = drop_at args at d arg_there in
    ap (λ l. joined_form is_prefix so_far (part_list l) (drop at args)) (drop_at is at i part_there)
    ∙ ap (λ l. joined_form is_prefix so_far (part i (part_list (drop (at + 1) is))) l) left
    ∙ form_step is_prefix last so_far i (part_list (drop (at + 1) is)) d (drop (at + 1) args) (is_last ∙ ap (λ l. is_prefix && (length l == 1)) left)
    ∙ ap (λ b. then_with b (λ k. joined_form is_prefix (so_far ++ k) (part_list (drop (at + 1) is)) (drop (at + 1) args))) (sym read)

-- the last place
pub last_place : (args : List Doc) (at : ℕ) → at < length args
    → (at + 1 == length args) ≡ (length (drop at args) == 1)
last_place args at there = grind (arith, nat_tests, length-drop)

-- the only argument
pub only_arg : (args : List Doc) (d : Doc) → length args ≡ 1 → slice_get args 0 ≡ Some d
    → args ≡ d ∷ []
only_arg [] d one there = cc
only_arg (x ∷ []) d one there = cc
only_arg (x ∷ y ∷ rest) d one there = absurd (omega arith)

pub one_other : (of_doc : Doc → Argued) (args : List Doc) → length args ≢ 1
    → one of_doc args ≡ Err arg_count
one_other of_doc [] other = refl
one_other of_doc (d ∷ []) other = absurd (other refl)
one_other of_doc (d ∷ e ∷ rest) other = refl

-- another number of arguments
pub other_count : (p : Part) (args : List Doc) → length args ≢ 1
    → raw_arg (part_indexer p) args ≡ Err arg_count
other_count (of_part.Str f fold) args other = one_other _ args other
other_count (of_part.Uint f w) args other = one_other _ args other
other_count (of_part.Sint f w) args other = one_other _ args other
other_count (of_part.Flag f) args other = one_other _ args other
other_count (of_part.Uuid f) args other = one_other _ args other
other_count (of_part.IsSet f) args other = one_other _ args other
other_count (of_part.Equals f s) args other = one_other _ args other

pub part_count_list : (is : List Indexer) → part_count (part_list is) ≡ length is
part_count_list [] = refl
part_count_list (i ∷ is) = ap suc (part_count_list is)
