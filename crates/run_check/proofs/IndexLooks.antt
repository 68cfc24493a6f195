-- What looks at an index answer, from what its slots do.
use Rattle.std.proofs.Common.{◌≡◌, ◌∙◌, ◌≤◌, ◌++◌, ℕ, zero, suc, Bool, true, false, cond, List, [], ◌∷◌, map, Option, Some, None, Result, Ok, Err, IfOk, Contains, Decides, Less, arith, refl, sym, ap, subst}
use Rattle.std.specs.Prelude.{option_and_then, unwrap_or}
use Rattle.std.specs.BTreeMap.{is_at}
use Rattle.std.specs.BTreeMap.Range.{entries_between, range_contains}
use Rattle.std.specs.declared.cmp.Ordering.{Ordering}
use Rattle.std.specs.declared.ops.Bound.{Bound}
use Rattle.std.specs.declared.ops.Bound.TheVariants.{Included, Excluded, Unbounded}
use Rattle.std.specs.declared.alloc.Global.{Global}
use Rattle.std.specs.declared.vec.Vec.{Vec}
use Rattle.std.specs.FinMap as finite
use Rattle.std.specs.FinMap.Entries as pairs
use Rattle.std.specs.FinMap.Entries.{where_key}
use Rattle.std.specs.Map.{lookup}
use Rattle.std.specs.Ordering.{eq_by_cmp, is_eq, is_lt}
use Rattle.std.proofs.lemmas.Bool.{and_parts}
use Rattle.mdb_datum.proofs.ByteOrder.{T_from_true, byte_order_itself, equal_from_is_eq, less_from_is_lt, same_from_byte_order, true_from_T, turned}
use Rattle.mdb_datum.specs.Bytes.{Bytes, byte_order}
use Rattle.mdb_datum.specs.Pairs.{first_item}
use Rattle.mdb_datum.specs.Row.{Fields, Pair}
use Rattle.run_check.proofs.PicksSame.{first_same_row}
use Rattle.run_check.proofs.SlotsSeen.{Entries, Es, below_head, find-pairs_seen, pairs_meant, sorted_tail}
use Rattle.run_check.specs.declared.sight.Sight.{Sight}
use Rattle.run_check.specs.inner.IndexView.{AreAllSame, AreKeys, AreSame, IsKeyWritten, IsPickSame, IsPickedSame, IsRowSame, KeyRange, KeyVersions, Means, after_commit, bytes_of, is_within, meant_pairs, pair_seen, pairs_seen, slot_of}
use Rattle.run_check.specs.inner.SlotView.{IsSame, IsVersionAt, IsWrittenIn, Versions, row_after, row_seen}

-- ---- the slot of a key

pub lookup-slots : (key : Bytes) (es : Entries) → lookup (is_at (λ (k : Vec ℕ Global). byte_order key k.items)) es ≡ finite.find byte_order key (map slot_of es)
lookup-slots key [] = refl
lookup-slots key (e ∷ es) = ap (λ o. cond (is_eq (byte_order key e.0.items)) (Some e.1) o) (lookup-slots key es)

-- the order of a map's keys
abbrev pub by : Vec ℕ Global → Vec ℕ Global → Ordering
by a b = byte_order a.items b.items

-- the entries of a map between two bounds
pub slots_between : (lo hi : Bound (Vec ℕ Global)) (es : Entries)
    → map slot_of (entries_between (λ (a b : Vec ℕ Global). byte_order a.items b.items) lo hi es)
    ≡ where_key byte_order (is_within (record { from = bytes_of lo; to = bytes_of hi })) (map slot_of es)
slots_between lo hi [] = refl
slots_between lo hi (e ∷ es) = of (inside lo hi e.0) (slots_between lo hi es)
  where
    inside : (lo hi : Bound (Vec ℕ Global)) (k : Vec ℕ Global) → range_contains by lo hi k ≡ range_contains byte_order (bytes_of lo) (bytes_of hi) k.items
    inside (Included a) (Included b) k = refl
    inside (Included a) (Excluded b) k = refl
    inside (Included a) Unbounded k = refl
    inside (Excluded a) (Included b) k = refl
    inside (Excluded a) (Excluded b) k = refl
    inside (Excluded a) Unbounded k = refl
    inside Unbounded (Included b) k = refl
    inside Unbounded (Excluded b) k = refl
    inside Unbounded Unbounded k = refl

    of : range_contains by lo hi e.0 ≡ range_contains byte_order (bytes_of lo) (bytes_of hi) e.0.items
        → map slot_of (entries_between by lo hi es) ≡ where_key byte_order (is_within (record { from = bytes_of lo; to = bytes_of hi })) (map slot_of es)
        → map slot_of (cond (range_contains by lo hi e.0) (e ∷ entries_between by lo hi es) (entries_between by lo hi es))
        ≡ cond (range_contains byte_order (bytes_of lo) (bytes_of hi) e.0.items) (slot_of e ∷ where_key byte_order (is_within (record { from = bytes_of lo; to = bytes_of hi })) (map slot_of es))
        (where_key byte_order (is_within (record { from = bytes_of lo; to = bytes_of hi })) (map slot_of es))
    of same later =
        outside (range_contains by lo hi e.0) ∙ ap (λ b. cond b (slot_of e ∷ map slot_of (entries_between by lo hi es)) (map slot_of (entries_between by lo hi es))) same
        ∙ ap (λ fs. cond (range_contains byte_order (bytes_of lo) (bytes_of hi) e.0.items) (slot_of e ∷ fs) fs) later
      where
        outside : (b : Bool) → map slot_of (cond b (e ∷ entries_between by lo hi es) (entries_between by lo hi es))
            ≡ cond b (slot_of e ∷ map slot_of (entries_between by lo hi es)) (map slot_of (entries_between by lo hi es))
        outside true = refl
        outside false = refl

pub slots_in_range : (a b lo hi : Bound (Vec ℕ Global)) (es fs : Entries) (r : KeyRange) (all : Es)
    → fs ≡ entries_between by a b es → a ≡ lo → b ≡ hi → record { from = bytes_of lo; to = bytes_of hi } ≡ r → map slot_of es ≡ all
    → map slot_of fs ≡ where_key byte_order (is_within r) all
slots_in_range a b lo hi es fs r all is from to range same =
    ap (λ (gs : Entries). map slot_of gs) (is ∙ ap (λ l. entries_between by l b es) from ∙ ap (λ h. entries_between by lo h es) to)
    ∙ slots_between lo hi es ∙ ap (λ t. where_key byte_order (is_within t) (map slot_of es)) range
    ∙ ap (λ gs. where_key byte_order (is_within r) gs) same

module _ {X : Type 0} where
  pub there_from_find : (key : Bytes) (x : X) (es : List (Bytes × X)) → finite.find byte_order key es ≡ Some x → Contains es (key, x)
  there_from_find key x [] h = absurd (none h)
    where
      none : None ≡ Some x → ⊥
      none e = cc
  there_from_find key x (e ∷ es) h = of (eq_by_cmp byte_order key e.0) refl h (there_from_find key x es)
    where
      of : (b : Bool) → eq_by_cmp byte_order key e.0 ≡ b → cond b (Some e.1) (finite.find byte_order key es) ≡ Some x
          → (finite.find byte_order key es ≡ Some x → Contains es (key, x)) → Contains (e ∷ es) (key, x)
      of true tie is later =
          let k : e.0 ≡ key = sym (same_from_byte_order key e.0 (equal_from_is_eq (byte_order key e.0) tie)) in
          let v : e.1 ≡ x = ap (λ o. unwrap_or o x) is in
          (0, omega arith, λ i. (k i, v i))
      of false tie is later = let c = later is in (suc c.0, omega (arith, c.1), c.2)

  pub above_head : (k : Bytes) (es : List (Bytes × X)) → pairs.below_all byte_order k es ≡ true → (key : Bytes) (x : X) → Contains es (key, x) → byte_order k key ≡ Less
  above_head k [] h key x c = absurd (omega (arith, c.1))
  above_head k (e ∷ es) h key x (zero, lt, is) =
      let w = and_parts (is_lt (byte_order k e.0)) (pairs.below_all byte_order k es) h in
      ap (λ (p : Bytes × X). byte_order k p.0) (sym is) ∙ less_from_is_lt (byte_order k e.0) w.0
  above_head k (e ∷ es) h key x (suc i, lt, is) =
      let w = and_parts (is_lt (byte_order k e.0)) (pairs.below_all byte_order k es) h in
      above_head k es w.1 key x (i, omega arith, is)

  pub find_from_there : (key : Bytes) (x : X) (es : List (Bytes × X)) → finite.is_sorted byte_order es ≡ true → Contains es (key, x) → finite.find byte_order key es ≡ Some x
  find_from_there key x [] h c = absurd (omega (arith, c.1))
  find_from_there key x (e ∷ es) h (zero, lt, is) =
      ap (λ o. cond (is_eq o) (Some e.1) (finite.find byte_order key es))
      (ap (λ (p : Bytes × X). byte_order key p.0) is ∙ byte_order_itself key) ∙ ap (λ (p : Bytes × X). Some p.1) is
  find_from_there key x (e ∷ es) h (suc i, lt, is) =
      let less = above_head e.0 es (below_head e es h) key x (i, omega arith, is) in
      ap (λ o. cond (is_eq o) (Some e.1) (finite.find byte_order key es)) (turned e.0 key Less less)
      ∙ find_from_there key x es (sorted_tail e es h) (i, omega arith, is)

module _ (x : KeyVersions) (key : Bytes) (sorted : finite.is_sorted byte_order x.slots ≡ true) where
  pub written_in_slot : (after last : ℕ) (y : Versions) (r : Bool) → finite.find byte_order key x.slots ≡ Some y
      → Decides r (IsWrittenIn after last y) → Decides r (IsKeyWritten key after last x)
  written_in_slot after last y r is decides = ((λ e. there (decides.0 e)), (λ h. decides.1 (back h)))
    where
      there : IsWrittenIn after last y → IsKeyWritten key after last x
      there (j, at, low, high) = (j, (y, there_from_find key y x.slots is, at), low, high)

      back : IsKeyWritten key after last x → IsWrittenIn after last y
      back (j, (z, c, at), low, high) =
          let same : z ≡ y = ap (λ o. unwrap_or o y) (sym (find_from_there key z x.slots sorted c) ∙ is) in
          (j, subst (λ w. IsVersionAt w j) same at, low, high)

  pub unwritten : (after last : ℕ) → finite.find byte_order key x.slots ≡ None → IsKeyWritten key after last x → ⊥
  unwritten after last is (j, (z, c, at), low, high) = none (sym (find_from_there key z x.slots sorted c) ∙ is)
    where
      none : Some z ≡ None → ⊥
      none e = cc

  row_of_slot : (y : Versions) → finite.find byte_order key x.slots ≡ Some y → (j : ℕ)
      → finite.find byte_order key (pairs_seen (after_commit j) x.slots) ≡ row_after j None y.commits
  row_of_slot y is j = find-pairs_seen (after_commit j) key x.slots sorted ∙ ap (option_and_then (row_seen (after_commit j))) is

  pub same_in_slot : (first last : ℕ) (y : Versions) (r : Bool) → finite.find byte_order key x.slots ≡ Some y
      → Decides r (IsSame first last y) → Decides r (IsRowSame key first last x)
  same_in_slot first last y r is decides = (
    (λ e j low high. row_of_slot y is j ∙ decides.0 e j low high ∙ sym (row_of_slot y is first)),
    (λ h. decides.1 (λ j low high. sym (row_of_slot y is j) ∙ h j low high ∙ row_of_slot y is first)),
  )

  pub same_in_none : (first last : ℕ) → finite.find byte_order key x.slots ≡ None → IsRowSame key first last x
  same_in_none first last is j low high = at j ∙ sym (at first)
    where
      at : (n : ℕ) → finite.find byte_order key (pairs_seen (after_commit n) x.slots) ≡ None
      at n = find-pairs_seen (after_commit n) key x.slots sorted ∙ ap (option_and_then (row_seen (after_commit n))) is

-- ---- all rows of some slots

pairs_of_same : (first last : ℕ) (es : Es) → AreAllSame first last es → (j : ℕ) → first ≤ j → j ≤ last
    → pairs_seen (after_commit j) es ≡ pairs_seen (after_commit first) es
pairs_of_same first last [] h j low high = refl
pairs_of_same first last (e ∷ es) h j low high =
    ap (λ o. pair_seen e.0 o ++ pairs_seen (after_commit j) es) (h.0 j low high)
    ∙ ap (λ ps. pair_seen e.0 (row_after first None e.1.commits) ++ ps) (pairs_of_same first last es h.1 j low high)

same_of_pairs : (first last : ℕ) (es : Es) → finite.is_sorted byte_order es ≡ true
    → ((j : ℕ) → first ≤ j → j ≤ last → pairs_seen (after_commit j) es ≡ pairs_seen (after_commit first) es) → AreAllSame first last es
same_of_pairs first last [] sorted h = tt
same_of_pairs first last (e ∷ es) sorted h = (head, same_of_pairs first last es (sorted_tail e es sorted) rest)
  where
    head : IsSame first last e.1
    head = first_same_row first last e es sorted (λ j low high. ap first_item (h j low high))

    rest : (j : ℕ) → first ≤ j → j ≤ last → pairs_seen (after_commit j) es ≡ pairs_seen (after_commit first) es
    rest j low high = of (row_after first None e.1.commits) (ap (λ o. pair_seen e.0 o ++ pairs_seen (after_commit j) es) (sym (head j low high)) ∙ h j low high)
      where
        of : (o : Option Fields) → pair_seen e.0 o ++ pairs_seen (after_commit j) es ≡ pair_seen e.0 o ++ pairs_seen (after_commit first) es
            → pairs_seen (after_commit j) es ≡ pairs_seen (after_commit first) es
        of None same = same
        of (Some r) same = ap (λ (ps : List Pair). tail ps) same
          where
            tail : List Pair → List Pair
            tail [] = []
            tail (p ∷ ps) = ps

module _ (x : KeyVersions) (keys : KeyRange) (meant : Bytes → Bool) (means : Means keys meant) (order : AreKeys x.slots)
    (fs : Es) (is : fs ≡ where_key byte_order (is_within keys) x.slots) where
  pub seen_meant : (s : Sight) → pairs_seen s fs ≡ meant_pairs meant s x
  seen_meant s = pairs_meant s keys meant x.slots fs means order.bytes is

  pub all_same_decides : (first last : ℕ) (r : Bool) → finite.is_sorted byte_order fs ≡ true → Decides r (AreAllSame first last fs) → Decides r (AreSame meant first last x)
  all_same_decides first last r sorted decides = (
    (λ e j low high. sym (seen_meant (after_commit j)) ∙ pairs_of_same first last fs (decides.0 e) j low high ∙ seen_meant (after_commit first)),
    (λ h. decides.1 (same_of_pairs first last fs sorted (λ j low high. seen_meant (after_commit j) ∙ h j low high ∙ sym (seen_meant (after_commit first))))),
  )

  pub picked_same_decides : (pick : List Pair → Option Pair) (first last : ℕ) (r : Bool) → Decides r (IsPickSame pick first last fs)
      → Decides r (IsPickedSame pick meant first last x)
  picked_same_decides pick first last r decides = (
    (λ e j low high. ap pick (sym (seen_meant (after_commit j))) ∙ decides.0 e j low high ∙ ap pick (seen_meant (after_commit first))),
    (λ h. decides.1 (λ j low high. ap pick (seen_meant (after_commit j)) ∙ h j low high ∙ ap pick (sym (seen_meant (after_commit first))))),
  )

-- what holds of a list that was made
pub if_made : {A E : Type 0} (r : Result A E) (P Q : A → Type 0) → ((x : A) → P x → Q x) → IfOk r P → IfOk r Q
if_made (Ok x) P Q so h = so x h
if_made (Err e) P Q so h = tt

pub sorted_within : (p : Bytes → Bool) (es fs : Es) → fs ≡ where_key byte_order p es → finite.is_sorted byte_order es ≡ true → finite.is_sorted byte_order fs ≡ true
sorted_within p es fs is h =
    ap (finite.is_sorted byte_order) is
    ∙ true_from_T _ (pairs.is_sorted-where_key byte_order p es (T_from_true _ h))
