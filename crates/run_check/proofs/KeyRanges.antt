-- Which keys lie between the bounds of a range.
use Rattle.std.proofs.Common.{◌≡◌, ◌∙◌, ◌+◌, ◌<◌, ◌≤◌, ◌&&◌, ◌++◌, ◌⊎◌, ℕ, suc, Bool, true, false, cond, not, [], ◌∷◌, Option, Some, None, Less, Equal, Greater, arith, refl, sym, ap, inl, inr}
use Rattle.std.specs.Prelude.{if◌then◌else◌, nat_eq, nat_lt}
use Rattle.std.specs.BTreeMap.Range.{range_contains}
use Rattle.std.specs.Ordering.{is_ge, is_gt, is_le, is_lt, nat_cmp, ordering_reverse, ordering_then}
use Rattle.std.specs.declared.cmp.Ordering.{Ordering}
use Rattle.std.specs.declared.ops.Bound.{Bound}
use Rattle.std.specs.declared.ops.Bound.TheVariants.{Included, Excluded, Unbounded}
use Rattle.std.proofs.lemmas.Bool.{cases_order, eq-eqb, le-ltb, lt-ltb, ltb-false, ne_eqb}
use Rattle.mdb_datum.proofs.ByteOrder.{byte_order_total}
use Rattle.mdb_datum.specs.Bytes.{Bytes, byte_order, is_prefix}
use Rattle.run_check.specs.inner.IndexView.{AreBytes, IsForward, Means, end_of}

-- ---- at least a key, and at most

turned_ge : (a b : Bytes) → is_ge (byte_order b a) ≡ is_le (byte_order a b)
turned_ge a b = ap is_ge (byte_order_total.antisymm b a) ∙ of (byte_order a b)
  where
    of : (o : Ordering) → is_ge (ordering_reverse o) ≡ is_le o
    of Less = refl
    of Equal = refl
    of Greater = refl

turned_le : (a b : Bytes) → is_le (byte_order b a) ≡ not (is_lt (byte_order a b))
turned_le a b = ap is_le (byte_order_total.antisymm b a) ∙ of (byte_order a b)
  where
    of : (o : Ordering) → is_le (ordering_reverse o) ≡ not (is_lt o)
    of Less = refl
    of Equal = refl
    of Greater = refl

and_true : (b : Bool) → (b && true) ≡ b
and_true true = refl
and_true false = refl

pub means_at_least : (key from : Bytes) → from ≡ key → Means (record { from = Included from; to = Unbounded }) (λ k. is_ge (byte_order k key))
means_at_least key from is k bytes =
    and_true (is_le (byte_order from k)) ∙ ap (λ b. is_le (byte_order b k)) is ∙ sym (turned_ge key k)

pub means_at_most : (key to : Bytes) → to ≡ key → Means (record { from = Unbounded; to = Included to }) (λ k. is_le (byte_order k key))
means_at_most key to is k bytes = ap (λ b. not (is_lt (byte_order b k))) is ∙ sym (turned_le key k)

-- ---- those that begin with a prefix

abbrev end_bound : Option Bytes → Bound Bytes
end_bound None = Unbounded
end_bound (Some end) = Excluded end

abbrev until_end : Bytes → Option Bytes → Bool
until_end k None = true
until_end k (Some end) = is_lt (byte_order k end)

abbrev end_behind : ℕ → Option Bytes → Option Bytes
end_behind b None = if nat_lt b 255 then Some ((b + 1) ∷ []) else None
end_behind b (Some end) = Some (b ∷ end)

cmp_less : (a b : ℕ) → a < b → nat_cmp a b ≡ Less
cmp_less a b lt = ap (λ t. cond t Less (cond (nat_eq a b) Equal Greater)) (lt-ltb a b lt)

cmp_equal : (a : ℕ) → nat_cmp a a ≡ Equal
cmp_equal a =
    ap (λ t. cond t Less (cond (nat_eq a a) Equal Greater)) (le-ltb a a (omega arith))
    ∙ ap (λ t. cond t Equal Greater) (eq-eqb a a refl)

cmp_greater : (a b : ℕ) → b < a → nat_cmp a b ≡ Greater
cmp_greater a b lt =
    ap (λ t. cond t Less (cond (nat_eq a b) Equal Greater)) (le-ltb a b (omega arith))
    ∙ ap (λ t. cond t Equal Greater) (ne_eqb a b (λ e. omega arith))

-- a key lies between a prefix and its end exactly where it begins with it
within_prefix : (p k : Bytes) → AreBytes k → (is_le (byte_order p k) && until_end k (end_of p)) ≡ is_prefix p k
within_prefix [] k bytes = of k
  where
    of : (k : Bytes) → (is_le (byte_order [] k) && true) ≡ true
    of [] = refl
    of (c ∷ cs) = refl
within_prefix (b ∷ bs) [] bytes = refl
within_prefix (b ∷ bs) (c ∷ cs) bytes =
    of (cases_order b c) (end_of bs) (within_prefix bs cs (λ x d. bytes x (suc d.0, omega (arith, d.1), d.2)))
  where
    of : (b ≡ c) ⊎ ((b < c) ⊎ (c < b)) → (o : Option Bytes) → (is_le (byte_order bs cs) && until_end cs o) ≡ is_prefix bs cs
        → (is_le (ordering_then (nat_cmp b c) (byte_order bs cs)) && until_end (c ∷ cs) (end_behind b o)) ≡ (nat_eq b c && is_prefix bs cs)
    of (inl same) o later =
        ap (λ t. is_le (ordering_then t (byte_order bs cs)) && until_end (c ∷ cs) (end_behind b o)) (ap (nat_cmp b) (sym same) ∙ cmp_equal b)
        ∙ ap (λ t. is_le (byte_order bs cs) && t) (ending o) ∙ later
        ∙ sym (ap (λ t. t && is_prefix bs cs) (eq-eqb b c same))
      where
        full : (t : Bool) → until_end (c ∷ cs) (if t then Some ((b + 1) ∷ []) else None) ≡ true
        full true = ap (λ t. is_lt (ordering_then t (byte_order cs []))) (cmp_less c (b + 1) (omega arith))
        full false = refl

        ending : (o : Option Bytes) → until_end (c ∷ cs) (end_behind b o) ≡ until_end cs o
        ending None = full (nat_lt b 255)
        ending (Some end) = ap (λ t. is_lt (ordering_then t (byte_order cs end))) (ap (nat_cmp c) same ∙ cmp_equal c)
    of (inr (inl lt)) o later =
        ap (λ t. is_le (ordering_then t (byte_order bs cs)) && until_end (c ∷ cs) (end_behind b o)) (cmp_less b c lt)
        ∙ ending o ∙ sym (ap (λ t. t && is_prefix bs cs) (ne_eqb b c (λ e. omega arith)))
      where
        short : (cs : Bytes) → is_lt (byte_order cs []) ≡ false
        short [] = refl
        short (x ∷ xs) = refl

        past : (b + 1 ≡ c) ⊎ ((b + 1 < c) ⊎ (c < b + 1)) → is_lt (ordering_then (nat_cmp c (b + 1)) (byte_order cs [])) ≡ false
        past (inl same) = ap (λ t. is_lt (ordering_then t (byte_order cs []))) (ap (nat_cmp c) same ∙ cmp_equal c) ∙ short cs
        past (inr (inl more)) = ap (λ t. is_lt (ordering_then t (byte_order cs []))) (cmp_greater c (b + 1) more)
        past (inr (inr less)) = absurd (omega arith)

        full : (t : Bool) → nat_lt b 255 ≡ t → until_end (c ∷ cs) (if t then Some ((b + 1) ∷ []) else None) ≡ false
        full true e = past (cases_order (b + 1) c)
        full false e = absurd (omega (arith, ltb-false b 255 e, bytes c (0, omega arith, refl)))

        ending : (o : Option Bytes) → until_end (c ∷ cs) (end_behind b o) ≡ false
        ending None = full (nat_lt b 255) refl
        ending (Some end) = ap (λ t. is_lt (ordering_then t (byte_order cs end))) (cmp_greater c b lt)
    of (inr (inr lt)) o later =
        ap (λ t. is_le (ordering_then t (byte_order bs cs)) && until_end (c ∷ cs) (end_behind b o)) (cmp_greater b c lt)
        ∙ sym (ap (λ t. t && is_prefix bs cs) (ne_eqb b c (λ e. omega arith)))

not_past : (k : Bytes) (o : Option Bytes) → range_contains byte_order Unbounded (end_bound o) k ≡ until_end k o
not_past k None = refl
not_past k (Some end) = ap not (of (byte_order end k)) ∙ twice (is_lt (byte_order k end))
  where
    twice : (b : Bool) → not (not b) ≡ b
    twice true = refl
    twice false = refl

    of : (o : Ordering) → is_le (byte_order end k) ≡ not (is_lt (byte_order k end))
    of o = turned_le k end

pub means_prefix : (prefix from : Bytes) (end : Option Bytes) → from ≡ prefix → end ≡ end_of prefix
    → Means (record { from = Included from; to = end_bound end }) (is_prefix prefix)
means_prefix prefix from end is until k bytes =
    ap (λ b. is_le (byte_order b k) && range_contains byte_order Unbounded (end_bound end) k) is
    ∙ ap (λ b. is_le (byte_order prefix k) && b) (not_past k end ∙ ap (until_end k) until) ∙ within_prefix prefix k bytes

-- the end is behind the prefix
end_later : (p end : Bytes) → end_of p ≡ Some end → byte_order p end ≡ Less
end_later [] end e = absurd (none e)
  where
    none : None ≡ Some end → ⊥
    none h = cc
end_later (b ∷ bs) end e = of (end_of bs) refl e (end_later bs)
  where
    of : (o : Option Bytes) → end_of bs ≡ o → end_behind b o ≡ Some end → ((end : Bytes) → end_of bs ≡ Some end → byte_order bs end ≡ Less)
        → byte_order (b ∷ bs) end ≡ Less
    of (Some rest) at is later =
        ap (byte_order (b ∷ bs)) (sym (same_some (b ∷ rest) end is)) ∙ ap (λ t. ordering_then t (byte_order bs rest)) (cmp_equal b) ∙ later rest at
      where
        same_some : (x y : Bytes) → Some x ≡ Some y → x ≡ y
        same_some x y h = cc
    of None at is later = full (nat_lt b 255) is
      where
        none : None ≡ Some end → ⊥
        none h = cc

        same_some : (x y : Bytes) → Some x ≡ Some y → x ≡ y
        same_some x y h = cc

        full : (t : Bool) → (if t then Some ((b + 1) ∷ []) else None) ≡ Some end → byte_order (b ∷ bs) end ≡ Less
        full true is =
            ap (byte_order (b ∷ bs)) (sym (same_some ((b + 1) ∷ []) end is)) ∙ ap (λ t. ordering_then t (byte_order bs [])) (cmp_less b (b + 1) (omega arith))
        full false is = absurd (none is)

pub forward_prefix : (prefix from end : Bytes) → from ≡ prefix → Some end ≡ end_of prefix → IsForward (Included from) (Excluded end)
forward_prefix prefix from end is until =
    ap is_gt (ap (λ b. byte_order b end) is ∙ end_later prefix end (sym until))

-- ---- the end, from the last byte on

pub end_of-full : (xs : Bytes) (b : ℕ) → 255 ≤ b → end_of (xs ++ b ∷ []) ≡ end_of xs
end_of-full [] b full = ap (λ t. if t then Some ((b + 1) ∷ []) else None) (le-ltb b 255 full)
end_of-full (x ∷ xs) b full = ap (end_behind x) (end_of-full xs b full)

pub end_of-push : (xs : Bytes) (b : ℕ) → b < 255 → end_of (xs ++ b ∷ []) ≡ Some (xs ++ (b + 1) ∷ [])
end_of-push [] b lt = ap (λ t. if t then Some ((b + 1) ∷ []) else None) (lt-ltb b 255 lt)
end_of-push (x ∷ xs) b lt = ap (end_behind x) (end_of-push xs b lt)
