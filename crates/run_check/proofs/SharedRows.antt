-- Entries of one index, of two tables of lawful rows: where the rows that are picked of them are the
-- same, so are their keys.
use Rattle.std.proofs.Common.{◌≡◌, ◌∙◌, ◌++◌, ◌⊎◌, zero, suc, Bool, true, false, cond, List, [], ◌∷◌, Option, Some, None, Contains, Less, Equal, Greater, arith, refl, sym, ap, subst, inl, inr}
use Rattle.std.specs.FinMap as finite
use Rattle.std.specs.FinMap.Entries as pairs
use Rattle.std.specs.FinMap.Entries.{where_key}
use Rattle.std.specs.Ordering.{is_eq}
use Rattle.mdb_datum.proofs.ByteOrder.{T_from_true, byte_order_itself, same_from_byte_order, true_from_T, turned}
use Rattle.mdb_datum.specs.Bytes.{Bytes, byte_order, is_prefix}
use Rattle.mdb_datum.specs.Pairs.{first_item, last_item, rows_of, with_prefix}
use Rattle.mdb_datum.specs.Row.{Fields, Pair}
use Rattle.mdb_schema.specs.Entries.{entries}
use Rattle.mdb_schema.specs.Schema.{IndexSchema, TableSchema}
use Rattle.mdb_schema.specs.State.{AreLawfulRows}
use Rattle.mdb_schema.proofs.EntriesOfRows.{apart_in, entry_at-row, entry_at-some}
use Rattle.mdb_schema.proofs.EntryEdits.{same_pairs}
use Rattle.run_check.proofs.IndexLooks.{above_head, find_from_there, there_from_find}
use Rattle.run_check.proofs.PicksSame.{ends, same_some}
use Rattle.run_check.proofs.SlotsSeen.{below_head, last_item-push, last_row-push, sorted_tail}

abbrev found : Bytes → List Pair → Option Fields
found q ps = finite.find byte_order q ps

-- a row that two lists of pairs both have stands in them under the same keys
abbrev pub Shares : List Pair → List Pair → Type 0
Shares ps qs = (q p : Bytes) (r : Fields) → found q ps ≡ Some r → found p qs ≡ Some r → found q qs ≡ Some r

-- ---- all rows

row_of : (ps : List Pair) (p : Pair) → Contains ps p → Contains (rows_of ps) p.1
row_of [] p c = absurd (omega (arith, c.1))
row_of (x ∷ ps) p (zero, lt, is) = (0, omega arith, ap (λ (q : Pair). q.1) is)
row_of (x ∷ ps) p (suc k, lt, is) = let w = row_of ps p (k, omega arith, is) in (suc w.0, omega (arith, w.1), w.2)

key_of_row : (qs : List Pair) (r : Fields) → Contains (rows_of qs) r → (q : Bytes) × Contains qs (q, r)
key_of_row [] r c = absurd (omega (arith, c.1))
key_of_row (x ∷ qs) r (zero, lt, is) = (x.0, (0, omega arith, λ j. (x.0, is j)))
key_of_row (x ∷ qs) r (suc k, lt, is) = let w = key_of_row qs r (k, omega arith, is) in (w.0, (suc w.1.0, omega (arith, w.1.1), w.1.2))

half : (ps qs : List Pair) → finite.is_sorted byte_order qs ≡ true → Shares ps qs → rows_of ps ≡ rows_of qs
    → (q : Bytes) (r : Fields) → found q ps ≡ Some r → found q qs ≡ Some r
half ps qs rise here same q r h =
    let w = key_of_row qs r (subst (λ (rs : List Fields). Contains rs r) same (row_of ps (q, r) (there_from_find q r ps h))) in
    here q w.0 r h (find_from_there w.0 r qs rise w.1)

both_found : (f g : Option Fields) → ((r : Fields) → f ≡ Some r → g ≡ Some r) → ((r : Fields) → g ≡ Some r → f ≡ Some r) → f ≡ g
both_found None None h k = refl
both_found None (Some r) h k = k r refl
both_found (Some r) g h k = sym (h r refl)

pub pairs_of_rows : (ps qs : List Pair) → finite.is_sorted byte_order ps ≡ true → finite.is_sorted byte_order qs ≡ true → Shares ps qs → Shares qs ps
    → rows_of ps ≡ rows_of qs → ps ≡ qs
pairs_of_rows ps qs rise_p rise_q here there same =
    same_pairs ps qs rise_p rise_q
    (λ q. both_found (found q ps) (found q qs) (λ r. half ps qs rise_q here same q r) (λ r. half qs ps rise_p there (sym same) q r))

-- ---- the first and the last

-- a key that is there stands no further to the front than the first one
first_least : (p : Pair) (ps : List Pair) → finite.is_sorted byte_order (p ∷ ps) ≡ true → (q : Bytes) (r : Fields) → found q (p ∷ ps) ≡ Some r
    → (p.0 ≡ q) ⊎ (byte_order p.0 q ≡ Less)
first_least p ps rise q r h = of (there_from_find q r (p ∷ ps) h)
  where
    of : Contains (p ∷ ps) (q, r) → (p.0 ≡ q) ⊎ (byte_order p.0 q ≡ Less)
    of (zero, lt, is) = inl (ap (λ (x : Pair). x.0) is)
    of (suc k, lt, is) = inr (above_head p.0 ps (below_head p ps rise) q r (k, omega arith, is))

-- nor behind the last one
last_greatest : (front : List Pair) (p : Pair) → finite.is_sorted byte_order (front ++ p ∷ []) ≡ true → (q : Bytes) (r : Fields) → found q (front ++ p ∷ []) ≡ Some r
    → (p.0 ≡ q) ⊎ (byte_order q p.0 ≡ Less)
last_greatest [] p rise q r h = of (first_least p [] rise q r h) (there_from_find q r (p ∷ []) h)
  where
    of : (p.0 ≡ q) ⊎ (byte_order p.0 q ≡ Less) → Contains (p ∷ []) (q, r) → (p.0 ≡ q) ⊎ (byte_order q p.0 ≡ Less)
    of w (zero, lt, is) = inl (ap (λ (x : Pair). x.0) is)
    of w (suc k, lt, is) = absurd (omega arith)
last_greatest (f ∷ front) p rise q r h = of (there_from_find q r (f ∷ front ++ p ∷ []) h) (last_greatest front p (sorted_tail f (front ++ p ∷ []) rise) q r)
  where
    of : Contains (f ∷ (front ++ p ∷ [])) (q, r) → (found q (front ++ p ∷ []) ≡ Some r → (p.0 ≡ q) ⊎ (byte_order q p.0 ≡ Less)) → (p.0 ≡ q) ⊎ (byte_order q p.0 ≡ Less)
    of (zero, lt, is) later =
        inr (ap (λ k. byte_order k p.0) (sym (ap (λ (x : Pair). x.0) is))
        ∙ above_head f.0 (front ++ p ∷ []) (below_head f (front ++ p ∷ []) rise) p.0 p.1 (end front))
      where
        end : (front : List Pair) → Contains (front ++ p ∷ []) (p.0, p.1)
        end [] = (0, omega arith, refl)
        end (g ∷ front) = let w = end front in (suc w.0, omega (arith, w.1), w.2)
    of (suc k, lt, is) later = later (find_from_there q r (front ++ p ∷ []) (sorted_tail f (front ++ p ∷ []) rise) (k, omega arith, is))

-- two keys, neither of which is behind the other
neither : (a b : Bytes) → (a ≡ b) ⊎ (byte_order a b ≡ Less) → (b ≡ a) ⊎ (byte_order b a ≡ Less) → a ≡ b
neither a b (inl same) k = same
neither a b (inr less) (inl same) = sym same
neither a b (inr less) (inr more) = absurd (clash (sym more ∙ turned a b Less less))
  where
    clash : Less ≡ Greater → ⊥
    clash e = cc

itself : (p : Pair) (ps : List Pair) → found p.0 (p ∷ ps) ≡ Some p.1
itself p ps = ap (λ o. cond (is_eq o) (Some p.1) (found p.0 ps)) (byte_order_itself p.0)

pub first_of_rows : (ps qs : List Pair) → finite.is_sorted byte_order ps ≡ true → finite.is_sorted byte_order qs ≡ true → Shares ps qs → Shares qs ps
    → first_item (rows_of ps) ≡ first_item (rows_of qs) → first_item ps ≡ first_item qs
first_of_rows [] [] rise_p rise_q here there same = refl
first_of_rows [] (q ∷ qs) rise_p rise_q here there same = cc
first_of_rows (p ∷ ps) [] rise_p rise_q here there same = cc
first_of_rows (p ∷ ps) (q ∷ qs) rise_p rise_q here there same =
    let row : p.1 ≡ q.1 = same_some p.1 q.1 same in
    let q_here : found q.0 (p ∷ ps) ≡ Some q.1 = there q.0 p.0 q.1 (itself q qs) (itself p ps ∙ ap Some row) in
    let p_there : found p.0 (q ∷ qs) ≡ Some p.1 = here p.0 q.0 p.1 (itself p ps) (itself q qs ∙ ap Some (sym row)) in
    let key : p.0 ≡ q.0 = neither p.0 q.0 (first_least p ps rise_p q.0 q.1 q_here) (first_least q qs rise_q p.0 p.1 p_there) in
    λ j. Some (key j, row j)

last_itself : (front : List Pair) (p : Pair) → finite.is_sorted byte_order (front ++ p ∷ []) ≡ true → found p.0 (front ++ p ∷ []) ≡ Some p.1
last_itself front p rise = find_from_there p.0 p.1 (front ++ p ∷ []) rise (end front)
  where
    end : (front : List Pair) → Contains (front ++ p ∷ []) (p.0, p.1)
    end [] = (0, omega arith, refl)
    end (g ∷ front) = let w = end front in (suc w.0, omega (arith, w.1), w.2)

pub last_of_rows : (ps qs : List Pair) → finite.is_sorted byte_order ps ≡ true → finite.is_sorted byte_order qs ≡ true → Shares ps qs → Shares qs ps
    → last_item (rows_of ps) ≡ last_item (rows_of qs) → last_item ps ≡ last_item qs
last_of_rows ps qs rise_p rise_q here there same = of (ends ps) (ends qs)
  where
    of : (ps ≡ []) ⊎ ((front : List Pair) × (p : Pair) × (ps ≡ front ++ p ∷ [])) → (qs ≡ []) ⊎ ((front : List Pair) × (p : Pair) × (qs ≡ front ++ p ∷ []))
        → last_item ps ≡ last_item qs
    of (inl none) (inl also) = ap last_item none ∙ sym (ap last_item also)
    of (inl none) (inr (front, q, is)) =
        absurd (gone (sym (ap (λ xs. last_item (rows_of xs)) none) ∙ same ∙ ap (λ xs. last_item (rows_of xs)) is ∙ last_row-push front q))
      where
        gone : last_item (rows_of []) ≡ Some q.1 → ⊥
        gone e = cc
    of (inr (front, p, is)) (inl none) =
        absurd (gone (sym (ap (λ xs. last_item (rows_of xs)) none) ∙ sym same ∙ ap (λ xs. last_item (rows_of xs)) is ∙ last_row-push front p))
      where
        gone : last_item (rows_of []) ≡ Some p.1 → ⊥
        gone e = cc
    of (inr (front, p, is)) (inr (back, q, at)) =
        let rise_p2 = ap (finite.is_sorted byte_order) (sym is) ∙ rise_p in
        let rise_q2 = ap (finite.is_sorted byte_order) (sym at) ∙ rise_q in
        let row : p.1 ≡ q.1 = same_some p.1 q.1 (sym (ap (λ xs. last_item (rows_of xs)) is ∙ last_row-push front p) ∙ same
        ∙ ap (λ xs. last_item (rows_of xs)) at ∙ last_row-push back q) in
        let p_in : found p.0 ps ≡ Some p.1 = ap (found p.0) is ∙ last_itself front p rise_p2 in
        let q_in : found q.0 qs ≡ Some q.1 = ap (found q.0) at ∙ last_itself back q rise_q2 in
        let q_here : found q.0 ps ≡ Some q.1 = there q.0 p.0 q.1 q_in (p_in ∙ ap Some row) in
        let p_there : found p.0 qs ≡ Some p.1 = here p.0 q.0 p.1 p_in (q_in ∙ ap Some (sym row)) in
        let key : p.0 ≡ q.0 = neither p.0 q.0
        (turn p.0 q.0 (last_greatest back q rise_q2 p.0 p.1 (ap (found p.0) (sym at) ∙ p_there)))
        (turn q.0 p.0 (last_greatest front p rise_p2 q.0 q.1 (ap (found q.0) (sym is) ∙ q_here))) in
        let pair : Some p ≡ Some q = λ j. Some (key j, row j) in
        ap last_item is ∙ last_item-push front p ∙ pair ∙ sym (ap last_item at ∙ last_item-push back q)
      where
        turn : (a b : Bytes) → (b ≡ a) ⊎ (byte_order a b ≡ Less) → (a ≡ b) ⊎ (byte_order a b ≡ Less)
        turn a b (inl e) = inl (sym e)
        turn a b (inr e) = inr e

-- ---- entries that begin with a key

prefix_alike : (key q x : Bytes) → byte_order q x ≡ Equal → is_prefix key x ≡ is_prefix key q
prefix_alike key q x e = ap (is_prefix key) (sym (same_from_byte_order q x e))

found_prefix : (key q : Bytes) (es : List Pair) → found q (with_prefix key es) ≡ cond (is_prefix key q) (found q es) None
found_prefix key q es = pairs.find-where_key byte_order (is_prefix key) q (prefix_alike key q) es

pub sorted_prefix : (key : Bytes) (es : List Pair) → finite.is_sorted byte_order es ≡ true → finite.is_sorted byte_order (with_prefix key es) ≡ true
sorted_prefix key es h = true_from_T _ (pairs.is_sorted-where_key byte_order (is_prefix key) es (T_from_true _ h))

pub share_rows : (t : TableSchema) (i : IndexSchema) (key : Bytes) (rows others : List Fields) → AreLawfulRows t others → Contains t.indexes i
    → Shares (with_prefix key (entries t i rows)) (with_prefix key (entries t i others))
share_rows t i key rows others lawful within q p r h k =
    of (is_prefix key q) refl (sym (found_prefix key q (entries t i rows)) ∙ h) (is_prefix key p) (sym (found_prefix key p (entries t i others)) ∙ k)
  where
    of : (b : Bool) → is_prefix key q ≡ b → cond b (found q (entries t i rows)) None ≡ Some r → (c : Bool) → cond c (found p (entries t i others)) None ≡ Some r
        → found q (with_prefix key (entries t i others)) ≡ Some r
    of false e h c k = cc
    of true e h false k = cc
    of true e h true k =
        let here = entry_at-some t i q rows r h in
        let there = entry_at-some t i p others r k in
        found_prefix key q (entries t i others) ∙ ap (λ b. cond b (found q (entries t i others)) None) e
        ∙ entry_at-row t i q others r (apart_in t i others lawful within) there.0 here.1
