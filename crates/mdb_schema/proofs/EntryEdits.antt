-- What stands under a key after edits of the entries of an index, and that they stay sorted.
use Rattle.std.proofs.Common.{◌≡◌, ◌∙◌, ◌||◌, ◌&&◌, List, [], ◌∷◌, Bool, true, false, not, cond, filter, Option, Some, None, refl, sym, ap}
use Rattle.std.specs.Prelude.{if◌then◌else◌, IsTrue}
use Rattle.std.specs.FinMap as finite
use Rattle.std.specs.FinMap.Entries as pairs
use Rattle.std.specs.Ordering.{eq_by_cmp}
use Rattle.std.specs.Str.{bytes_eq}
use Rattle.std.proofs.lemmas.Cmp.{nat_list_cmp_total}
use Rattle.std.proofs.lemmas.Map.Text.{is_eq-slice_cmp}
use Rattle.mdb_datum.specs.Row.{Fields, Pair}
use Rattle.mdb_encode.specs.Bytes.{Bytes, byte_order}
use Rattle.mdb_schema.specs.Entries.{with_entries}
use Rattle.mdb_schema.specs.Write.{is_among}
use Rattle.mdb_schema.specs.Edits.{without, without_all, put_all, stale_keys}
use Rattle.mdb_schema.proofs.Membership.{bytes_eq-comm, same_key}
use Rattle.mdb_datum.proofs.ByteOrder.{same_from_byte_order, T_from_true, true_from_T}

-- the row under a key
abbrev pub entry_at : Bytes → List Pair → Option Fields
entry_at q es = finite.find byte_order q es

-- the keys rise
abbrev pub AreSorted : List Pair → Type 0
AreSorted es = IsTrue (finite.is_sorted byte_order es)

-- ---- sorted

pub sorted-put : (k : Bytes) (row : Fields) (es : List Pair) → AreSorted es → AreSorted (finite.put byte_order k row es)
sorted-put k row es h = true_from_T _ (pairs.is_sorted-put byte_order nat_list_cmp_total k row es (T_from_true _ h))

pub sorted-without : (k : Bytes) (es : List Pair) → AreSorted es → AreSorted (without k es)
sorted-without k es h = true_from_T _ (pairs.is_sorted-where_key byte_order (λ x. not (eq_by_cmp byte_order k x)) es (T_from_true _ h))

pub sorted-with_entries : (ks : List Bytes) (row : Fields) (es : List Pair) → AreSorted es → AreSorted (with_entries ks row es)
sorted-with_entries [] row es h = h
sorted-with_entries (k ∷ ks) row es h = sorted-put k row (with_entries ks row es) (sorted-with_entries ks row es h)

pub sorted-put_all : (ks : List Bytes) (row : Fields) (es : List Pair) → AreSorted es → AreSorted (put_all ks row es)
sorted-put_all [] row es h = h
sorted-put_all (k ∷ ks) row es h = sorted-put_all ks row (finite.put byte_order k row es) (sorted-put k row es h)

pub sorted-without_all : (ks : List Bytes) (es : List Pair) → AreSorted es → AreSorted (without_all ks es)
sorted-without_all [] es h = h
sorted-without_all (k ∷ ks) es h = sorted-without_all ks (without k es) (sorted-without k es h)

-- sorted entries are told by what stands under each key
pub same_pairs : (es fs : List Pair) → AreSorted es → AreSorted fs → ((q : Bytes) → entry_at q es ≡ entry_at q fs) → es ≡ fs
same_pairs es fs g h same = pairs.same_entries byte_order nat_list_cmp_total same_from_byte_order es fs (T_from_true _ g) (T_from_true _ h) same

-- ---- under a key

cond_not : {A : Type 0} (b : Bool) (x y : A) → cond (not b) x y ≡ cond b y x
cond_not true x y = refl
cond_not false x y = refl

cond_or : {A : Type 0} (a b : Bool) (x y : A) → cond a x (cond b x y) ≡ cond (a || b) x y
cond_or true b x y = refl
cond_or false b x y = refl

cond_or_back : {A : Type 0} (a b : Bool) (x y : A) → cond b x (cond a x y) ≡ cond (a || b) x y
cond_or_back true true x y = refl
cond_or_back true false x y = refl
cond_or_back false b x y = refl

pub bytes_eq-turned : (a b : Bytes) → bytes_eq a b ≡ bytes_eq b a
bytes_eq-turned a b = sym (bytes_eq-comm a b (bytes_eq a b) refl)

module _ (q : Bytes) where
  pub entry_at-put : (k : Bytes) (row : Fields) (es : List Pair) → entry_at q (finite.put byte_order k row es) ≡ (if bytes_eq q k then Some row else entry_at q es)
  entry_at-put k row es =
      pairs.find-put byte_order nat_list_cmp_total q k row es
      ∙ ap (λ (b : Bool). cond b (Some row) (entry_at q es)) (is_eq-slice_cmp q k)

  pub entry_at-without : (k : Bytes) (es : List Pair) → entry_at q (without k es) ≡ (if bytes_eq q k then None else entry_at q es)
  entry_at-without k es =
      let other = λ (x : Bytes). not (eq_by_cmp byte_order k x) in
      pairs.find-where_key byte_order other q (λ x e. ap other (sym (same_from_byte_order q x e))) es
      ∙ cond_not (eq_by_cmp byte_order k q) (entry_at q es) None
      ∙ ap (λ (b : Bool). cond b None (entry_at q es)) (is_eq-slice_cmp k q ∙ bytes_eq-turned k q)

  pub entry_at-with_entries : (ks : List Bytes) (row : Fields) (es : List Pair) → entry_at q (with_entries ks row es) ≡ (if is_among ks q then Some row else entry_at q es)
  entry_at-with_entries [] row es = refl
  entry_at-with_entries (k ∷ ks) row es =
      entry_at-put k row (with_entries ks row es)
      ∙ ap (λ (o : Option Fields). cond (bytes_eq q k) (Some row) o) (entry_at-with_entries ks row es)
      ∙ cond_or (bytes_eq q k) (is_among ks q) (Some row) (entry_at q es)

  pub entry_at-put_all : (ks : List Bytes) (row : Fields) (es : List Pair) → entry_at q (put_all ks row es) ≡ (if is_among ks q then Some row else entry_at q es)
  entry_at-put_all [] row es = refl
  entry_at-put_all (k ∷ ks) row es =
      entry_at-put_all ks row (finite.put byte_order k row es)
      ∙ ap (λ (o : Option Fields). cond (is_among ks q) (Some row) o) (entry_at-put k row es)
      ∙ cond_or_back (bytes_eq q k) (is_among ks q) (Some row) (entry_at q es)

  pub entry_at-without_all : (ks : List Bytes) (es : List Pair) → entry_at q (without_all ks es) ≡ (if is_among ks q then None else entry_at q es)
  entry_at-without_all [] es = refl
  entry_at-without_all (k ∷ ks) es =
      entry_at-without_all ks (without k es)
      ∙ ap (λ (o : Option Fields). cond (is_among ks q) None o) (entry_at-without k es)
      ∙ cond_or_back (bytes_eq q k) (is_among ks q) None (entry_at q es)

  -- what a test keeps
  pub is_among-filter : (f : Bytes → Bool) (ks : List Bytes) → is_among (filter f ks) q ≡ (f q && is_among ks q)
  is_among-filter f [] = none (f q)
    where
      none : (b : Bool) → false ≡ (b && false)
      none true = refl
      none false = refl
  is_among-filter f (k ∷ ks) = of (bytes_eq q k) (f k) (f q) refl (λ here. ap f (sym (same_key q k here))) (is_among-filter f ks)
    where
      of : (b c d : Bool) → bytes_eq q k ≡ b → (b ≡ true → c ≡ d) → is_among (filter f ks) q ≡ (d && is_among ks q)
          → is_among (cond c (k ∷ filter f ks) (filter f ks)) q ≡ (d && (b || is_among ks q))
      of true true d here same later = ap (λ (b : Bool). b || is_among (filter f ks) q) here ∙ ap (λ (z : Bool). z && true) (same refl)
      of true false d here same later = later ∙ ap (λ (z : Bool). z && is_among ks q) (sym (same refl)) ∙ ap (λ (z : Bool). z && true) (same refl)
      of false true d other same later = ap (λ (b : Bool). b || is_among (filter f ks) q) other ∙ later
      of false false d other same later = later

  pub is_among-stale_keys : (new old : List Bytes) → is_among (stale_keys new old) q ≡ (not (is_among new q) && is_among old q)
  is_among-stale_keys new old = is_among-filter (λ k. not (is_among new k)) old
