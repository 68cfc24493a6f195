-- What is seen in slots under keys that rise.
use Rattle.std.proofs.Common.{◌≡◌, ◌∙◌, ◌++◌, ℕ, suc, Bool, true, false, cond, List, [], ◌∷◌, map, Option, Some, None, Contains, Less, arith, refl, sym, ap, append_assoc}
use Rattle.std.specs.Prelude.{option_and_then}
use Rattle.std.specs.declared.alloc.Global.{Global}
use Rattle.std.specs.declared.vec.Vec.{Vec}
use Rattle.std.specs.FinMap as finite
use Rattle.std.specs.FinMap.Entries as pairs
use Rattle.std.specs.FinMap.Entries.{where_key}
use Rattle.std.specs.Ordering.{eq_by_cmp, is_eq, is_lt}
use Rattle.std.proofs.lemmas.Bool.{and_from, and_parts}
use Rattle.std.proofs.lemmas.List.{append-nil, map-append, reverse-append}
use Rattle.mdb_datum.proofs.ByteOrder.{byte_order_total, equal_from_is_eq, less_from_is_lt, same_from_byte_order}
use Rattle.mdb_datum.specs.Bytes.{Bytes, byte_order}
use Rattle.mdb_datum.specs.Pairs.{first_item, last_item, rows_of}
use Rattle.mdb_datum.specs.Row.{Fields, Pair}
use Rattle.run_check.specs.declared.sight.Sight.{Sight}
use Rattle.run_check.specs.inner.IndexView.{AreBytes, KeyRange, Means, is_within, pair_seen, pairs_seen, slot_of}
use Rattle.run_check.specs.inner.SlotView.{Versions, row_seen}

abbrev pub Es : Type 0
Es = List (Bytes × Versions)

-- ---- keys that rise

module _ {X : Type 0} where
  -- a key that stands before all isn't there
  pub find-below : (key : Bytes) (es : List (Bytes × X)) → pairs.below_all byte_order key es ≡ true → finite.find byte_order key es ≡ None
  find-below key [] h = refl
  find-below key (e ∷ es) h =
      let w = and_parts (is_lt (byte_order key e.0)) (pairs.below_all byte_order key es) h in
      ap (λ o. cond (is_eq o) (Some e.1) (finite.find byte_order key es)) (less_from_is_lt (byte_order key e.0) w.0)
      ∙ find-below key es w.1

  -- one that stands before a key that stands before all does so itself
  pub below_less : (key k : Bytes) (es : List (Bytes × X)) → byte_order key k ≡ Less → pairs.below_all byte_order k es ≡ true → pairs.below_all byte_order key es ≡ true
  below_less key k [] lt h = refl
  below_less key k (e ∷ es) lt h =
      let w = and_parts (is_lt (byte_order k e.0)) (pairs.below_all byte_order k es) h in
      and_from (is_lt (byte_order key e.0)) (pairs.below_all byte_order key es)
      (ap is_lt (byte_order_total.trans key k e.0 lt (less_from_is_lt (byte_order k e.0) w.0))) (below_less key k es lt w.1)

  pub below_head : (e : Bytes × X) (es : List (Bytes × X)) → finite.is_sorted byte_order (e ∷ es) ≡ true → pairs.below_all byte_order e.0 es ≡ true
  below_head e es h = (and_parts (pairs.below_all byte_order e.0 es) (finite.is_sorted byte_order es) h).0

  pub sorted_tail : (e : Bytes × X) (es : List (Bytes × X)) → finite.is_sorted byte_order (e ∷ es) ≡ true → finite.is_sorted byte_order es ≡ true
  sorted_tail e es h = (and_parts (pairs.below_all byte_order e.0 es) (finite.is_sorted byte_order es) h).1

-- ---- the row under a key

pub find-pairs_seen : (s : Sight) (key : Bytes) (es : Es) → finite.is_sorted byte_order es ≡ true
    → finite.find byte_order key (pairs_seen s es) ≡ option_and_then (row_seen s) (finite.find byte_order key es)
find-pairs_seen s key [] h = refl
find-pairs_seen s key (e ∷ es) h =
    of (eq_by_cmp byte_order key e.0) refl (row_seen s e.1) refl (find-pairs_seen s key es (sorted_tail e es h))
  where
    of : (b : Bool) → eq_by_cmp byte_order key e.0 ≡ b → (o : Option Fields) → row_seen s e.1 ≡ o
        → finite.find byte_order key (pairs_seen s es) ≡ option_and_then (row_seen s) (finite.find byte_order key es)
        → finite.find byte_order key (pair_seen e.0 o ++ pairs_seen s es) ≡ option_and_then (row_seen s) (cond b (Some e.1) (finite.find byte_order key es))
    of true tie (Some r) is later =
        ap (λ b. cond b (Some r) (finite.find byte_order key (pairs_seen s es))) tie ∙ sym is
    of true tie None is later =
        let same = same_from_byte_order key e.0 (equal_from_is_eq (byte_order key e.0) tie) in
        later ∙ ap (λ k. option_and_then (row_seen s) (finite.find byte_order k es)) same
        ∙ ap (option_and_then (row_seen s)) (find-below e.0 es (below_head e es h)) ∙ sym is
    of false tie (Some r) is later =
        ap (λ b. cond b (Some r) (finite.find byte_order key (pairs_seen s es))) tie ∙ later
    of false tie None is later = later

-- ---- the keys of what is seen rise

below-pairs_seen : (s : Sight) (key : Bytes) (es : Es) → pairs.below_all byte_order key es ≡ true → pairs.below_all byte_order key (pairs_seen s es) ≡ true
below-pairs_seen s key [] h = refl
below-pairs_seen s key (e ∷ es) h =
    let w = and_parts (is_lt (byte_order key e.0)) (pairs.below_all byte_order key es) h in
    of (row_seen s e.1) w.0 (below-pairs_seen s key es w.1)
  where
    of : (o : Option Fields) → is_lt (byte_order key e.0) ≡ true → pairs.below_all byte_order key (pairs_seen s es) ≡ true
        → pairs.below_all byte_order key (pair_seen e.0 o ++ pairs_seen s es) ≡ true
    of None lt later = later
    of (Some r) lt later = and_from (is_lt (byte_order key e.0)) (pairs.below_all byte_order key (pairs_seen s es)) lt later

pub sorted-pairs_seen : (s : Sight) (es : Es) → finite.is_sorted byte_order es ≡ true → finite.is_sorted byte_order (pairs_seen s es) ≡ true
sorted-pairs_seen s [] h = refl
sorted-pairs_seen s (e ∷ es) h =
    of (row_seen s e.1) (below-pairs_seen s e.0 es (below_head e es h)) (sorted-pairs_seen s es (sorted_tail e es h))
  where
    of : (o : Option Fields) → pairs.below_all byte_order e.0 (pairs_seen s es) ≡ true → finite.is_sorted byte_order (pairs_seen s es) ≡ true
        → finite.is_sorted byte_order (pair_seen e.0 o ++ pairs_seen s es) ≡ true
    of None low later = later
    of (Some r) low later = and_from (pairs.below_all byte_order e.0 (pairs_seen s es)) (finite.is_sorted byte_order (pairs_seen s es)) low later

-- ---- of some keys

pub pairs_seen-where : (s : Sight) (p : Bytes → Bool) (es : Es) → pairs_seen s (where_key byte_order p es) ≡ where_key byte_order p (pairs_seen s es)
pairs_seen-where s p [] = refl
pairs_seen-where s p (e ∷ es) = of (p e.0) refl (row_seen s e.1) refl (pairs_seen-where s p es)
  where
    of : (b : Bool) → p e.0 ≡ b → (o : Option Fields) → row_seen s e.1 ≡ o
        → pairs_seen s (where_key byte_order p es) ≡ where_key byte_order p (pairs_seen s es)
        → pairs_seen s (cond b (e ∷ where_key byte_order p es) (where_key byte_order p es)) ≡ where_key byte_order p (pair_seen e.0 o ++ pairs_seen s es)
    of true pass None is later = ap (λ o. pair_seen e.0 o ++ pairs_seen s (where_key byte_order p es)) is ∙ later
    of true pass (Some r) is later =
        ap (λ o. pair_seen e.0 o ++ pairs_seen s (where_key byte_order p es)) is ∙ ap (λ ps. (e.0, r) ∷ ps) later
        ∙ ap (λ b. cond b ((e.0, r) ∷ where_key byte_order p (pairs_seen s es)) (where_key byte_order p (pairs_seen s es))) (sym pass)
    of false pass None is later = later
    of false pass (Some r) is later =
        later ∙ ap (λ b. cond b ((e.0, r) ∷ where_key byte_order p (pairs_seen s es)) (where_key byte_order p (pairs_seen s es))) (sym pass)

where_alike : (p q : Bytes → Bool) (es : Es) → ((e : Bytes × Versions) → Contains es e → p e.0 ≡ q e.0) → where_key byte_order p es ≡ where_key byte_order q es
where_alike p q [] h = refl
where_alike p q (e ∷ es) h =
    ap (λ b. cond b (e ∷ where_key byte_order p es) (where_key byte_order p es)) (h e (0, omega arith, refl))
    ∙ ap (λ fs. cond (q e.0) (e ∷ fs) fs) (where_alike p q es (λ f c. h f (suc c.0, omega (arith, c.1), c.2)))

-- those that a range means
pub pairs_meant : (s : Sight) (r : KeyRange) (meant : Bytes → Bool) (es fs : Es) → Means r meant → ((e : Bytes × Versions) → Contains es e → AreBytes e.0)
    → fs ≡ where_key byte_order (is_within r) es → pairs_seen s fs ≡ where_key byte_order meant (pairs_seen s es)
pairs_meant s r meant es fs means bytes is =
    ap (pairs_seen s) (is ∙ where_alike (is_within r) meant es (λ e c. means e.0 (bytes e c))) ∙ pairs_seen-where s meant es

-- ---- at the ends

pub first-some : (s : Sight) (e : Bytes × Versions) (es : Es) (r : Fields) → row_seen s e.1 ≡ Some r → pairs_seen s (e ∷ es) ≡ (e.0, r) ∷ pairs_seen s es
first-some s e es r is = ap (λ o. pair_seen e.0 o ++ pairs_seen s es) is

pub first-none : (s : Sight) (e : Bytes × Versions) (es : Es) → row_seen s e.1 ≡ None → pairs_seen s (e ∷ es) ≡ pairs_seen s es
first-none s e es is = ap (λ o. pair_seen e.0 o ++ pairs_seen s es) is

pairs_seen-push : (s : Sight) (es : Es) (e : Bytes × Versions) → pairs_seen s (es ++ e ∷ []) ≡ pairs_seen s es ++ pair_seen e.0 (row_seen s e.1)
pairs_seen-push s [] e = append-nil (pair_seen e.0 (row_seen s e.1))
pairs_seen-push s (f ∷ es) e =
    ap (λ ps. pair_seen f.0 (row_seen s f.1) ++ ps) (pairs_seen-push s es e)
    ∙ sym (append_assoc (pair_seen f.0 (row_seen s f.1)) (pairs_seen s es) (pair_seen e.0 (row_seen s e.1)))

pub last-some : (s : Sight) (es : Es) (e : Bytes × Versions) (r : Fields) → row_seen s e.1 ≡ Some r → pairs_seen s (es ++ e ∷ []) ≡ pairs_seen s es ++ (e.0, r) ∷ []
last-some s es e r is = pairs_seen-push s es e ∙ ap (λ o. pairs_seen s es ++ pair_seen e.0 o) is

pub last-none : (s : Sight) (es : Es) (e : Bytes × Versions) → row_seen s e.1 ≡ None → pairs_seen s (es ++ e ∷ []) ≡ pairs_seen s es
last-none s es e is = pairs_seen-push s es e ∙ ap (λ o. pairs_seen s es ++ pair_seen e.0 o) is ∙ append-nil (pairs_seen s es)

pub last_item-push : {A : Type 0} (xs : List A) (x : A) → last_item (xs ++ x ∷ []) ≡ Some x
last_item-push xs x = ap first_item (reverse-append xs (x ∷ []))

-- ---- slots as a map's entries, taken from one end

abbrev pub Entries : Type 0
Entries = List (Vec ℕ Global × Versions)

abbrev pub entries_seen : Sight → Entries → List Pair
entries_seen s es = pairs_seen s (map slot_of es)

module _ (s : Sight) (all : Entries) where
  module _ (e : Vec ℕ Global × Versions) (rest : Entries) (is : all ≡ e ∷ rest) where
    pub seen-first : (r : Fields) → row_seen s e.1 ≡ Some r → entries_seen s all ≡ (e.0.items, r) ∷ entries_seen s rest
    seen-first r row = ap (entries_seen s) is ∙ first-some s (slot_of e) (map slot_of rest) r row

    pub seen-skip_first : row_seen s e.1 ≡ None → entries_seen s all ≡ entries_seen s rest
    seen-skip_first none = ap (entries_seen s) is ∙ first-none s (slot_of e) (map slot_of rest) none

  module _ (front : Entries) (e : Vec ℕ Global × Versions) (is : all ≡ front ++ e ∷ []) where
    pub seen-last : (r : Fields) → row_seen s e.1 ≡ Some r → entries_seen s all ≡ entries_seen s front ++ (e.0.items, r) ∷ []
    seen-last r row =
        ap (entries_seen s) is ∙ ap (pairs_seen s) (map-append slot_of front (e ∷ []))
        ∙ last-some s (map slot_of front) (slot_of e) r row

    pub seen-skip_last : row_seen s e.1 ≡ None → entries_seen s all ≡ entries_seen s front
    seen-skip_last none =
        ap (entries_seen s) is ∙ ap (pairs_seen s) (map-append slot_of front (e ∷ []))
        ∙ last-none s (map slot_of front) (slot_of e) none

pub last_row-push : (ps : List Pair) (p : Pair) → last_item (rows_of (ps ++ p ∷ [])) ≡ Some p.1
last_row-push ps p = ap last_item (map-append (λ (q : Pair). q.1) ps (p ∷ [])) ∙ last_item-push (rows_of ps) p.1

pub seen-last_row : (s : Sight) (all front : Entries) (e : Vec ℕ Global × Versions) (r : Fields) → all ≡ front ++ e ∷ []
    → row_seen s e.1 ≡ Some r → last_item (rows_of (entries_seen s all)) ≡ Some r
seen-last_row s all front e r is row =
    ap (λ ps. last_item (rows_of ps)) (seen-last s all front e is r row) ∙ last_row-push (entries_seen s front) (e.0.items, r)
