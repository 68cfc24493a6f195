-- Prefixes of texts and of their keys.
use Rattle.std.proofs.Common.{◌≡◌, ◌++◌, ◌<◌, ℕ, zero, suc, [], ◌∷◌, length, drop, Bool, true, false, nat_eq, nat_lt, if◌then◌else◌, Ok, Err, IsTrue, refl, sym, ap, ◌∙◌, arith, append_assoc}
use Rattle.std.specs.Char.{to_ascii_lowercase}
use Rattle.std.specs.Str.{str_to_ascii_lowercase}
use Rattle.std.proofs.lemmas.Bool.{and_parts, and_from, eqb-true, eq-eqb}
use Rattle.std.proofs.lemmas.Bool.Decides.{nat_tests}
use Rattle.std.proofs.lemmas.List.{map-append}
use Rattle.mdb_encode.specs.Bytes.{Bytes, is_prefix}
use Rattle.mdb_encode.specs.Keys.{folded, text_key, longest_key}
use Rattle.mdb_encode.specs.Laws.{IsZeroFree, NoneInside, PrefixesBegin}
use Rattle.mdb_encode.specs.ArgRefusal.{arg_too_long}

-- what follows a prefix
prefix_rest : (a b : Bytes) → IsTrue (is_prefix a b) → b ≡ a ++ drop (length a) b
prefix_rest [] b h = refl
prefix_rest (x ∷ a) [] h = cc
prefix_rest (x ∷ a) (y ∷ b) h =
    let parts = and_parts (nat_eq x y) (is_prefix a b) h in
    let first : x ≡ y = eqb-true x y parts.0 in
    let rest : b ≡ a ++ drop (length a) b = prefix_rest a b parts.1 in
    cc

prefix_append : (a rest : Bytes) → IsTrue (is_prefix a (a ++ rest))
prefix_append [] rest = refl
prefix_append (x ∷ a) rest = and_from (nat_eq x x) _ (eq-eqb x x refl) (prefix_append a rest)

-- something that is followed is a prefix
followed_prefix : (a b rest : Bytes) → b ≡ a ++ rest → IsTrue (is_prefix a b)
followed_prefix a b rest e = ap (is_prefix a) e ∙ prefix_append a rest

folded_append : (fold : Bool) (s t : Bytes) → folded fold (s ++ t) ≡ folded fold s ++ folded fold t
folded_append true s t = map-append to_ascii_lowercase s t
folded_append false s t = refl

rest_free : (b : ℕ) (s : Bytes) → IsZeroFree (b ∷ s) → IsZeroFree s
rest_free b s free k d h = free (suc k) d (omega arith)

first_free : (b : ℕ) (s : Bytes) → IsZeroFree (b ∷ s) → 0 < b
first_free b s free = free 0 b (omega arith)

lower_positive : (c : ℕ) → 0 < c → 0 < to_ascii_lowercase c
lower_positive c h = grind (arith, nat_tests)

-- folding makes no byte 00
lower_zero_free : (s : Bytes) → IsZeroFree s → IsZeroFree (str_to_ascii_lowercase s)
lower_zero_free [] free k d h = absurd (omega arith)
lower_zero_free (c ∷ s) free zero d h = lower_positive c (first_free c s free)
lower_zero_free (c ∷ s) free (suc k) d h = lower_zero_free s (rest_free c s free) k d (omega arith)

folded_zero_free : (fold : Bool) (s : Bytes) → IsZeroFree s → IsZeroFree (folded fold s)
folded_zero_free true s free = lower_zero_free s free
folded_zero_free false s free = free

-- a text that goes on with an end byte where another one ends is that text
same_ended : (s t rest : Bytes) → IsZeroFree s → IsZeroFree t → t ++ 0 ∷ [] ≡ (s ++ 0 ∷ []) ++ rest
    → s ≡ t
same_ended [] [] rest free free' e = refl
same_ended [] (y ∷ t) rest free free' e =
    let zero_first : y ≡ 0 = cc in
    let some : 0 < y = first_free y t free' in
    absurd (omega arith)
same_ended (x ∷ s) [] rest free free' e =
    let zero_first : 0 ≡ x = cc in
    let some : 0 < x = first_free x s free in
    absurd (omega arith)
same_ended (x ∷ s) (y ∷ t) rest free free' e =
    let same_first : y ≡ x = cc in
    let same_rest : t ++ 0 ∷ [] ≡ (s ++ 0 ∷ []) ++ rest = cc in
    let same : s ≡ t = same_ended s t rest (rest_free x s free) (rest_free y t free') same_rest in
    cc

pub none_inside : NoneInside
none_inside fold s t free free' h =
    ap (λ x. x ++ 0 ∷ []) (same_ended (folded fold s) (folded fold t) _ (folded_zero_free fold s free) (folded_zero_free fold t free') (prefix_rest (text_key fold s) (text_key fold t) h))

kept : (b : Bool) (k p : Bytes) → (if b then Err arg_too_long else Ok k) ≡ Ok p → k ≡ p
kept true k p e = cc
kept false k p e = cc

pub prefixes_begin : PrefixesBegin
prefixes_begin name fold s t p k inside first second =
    let rest = drop (length s) t in
    let prefix_is : folded fold s ≡ p =
    kept (nat_lt longest_key (length (folded fold s))) _ p first in
    let key_is : text_key fold t ≡ k =
    kept (nat_lt longest_key (length (text_key fold t))) _ k second in
    let whole : text_key fold t ≡ folded fold s ++ (folded fold rest ++ 0 ∷ []) =
    ap (λ x. folded fold x ++ 0 ∷ []) (prefix_rest s t inside)
    ∙ ap (λ x. x ++ 0 ∷ []) (folded_append fold s rest)
    ∙ append_assoc (folded fold s) (folded fold rest) (0 ∷ []) in
    followed_prefix p k (folded fold rest ++ 0 ∷ []) (sym key_is ∙ whole ∙ ap (λ x. x ++ (folded fold rest ++ 0 ∷ [])) prefix_is)
