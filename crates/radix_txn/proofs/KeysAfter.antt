-- Which keys there are after a write.
use Rattle.std.proofs.Common.{◌≡◌, ◌≢◌, ◌↔◌, inl, inr, ◌∷◌, ◌∙◌, Bool, not, true, false, cond, List, [], map, refl, sym, ap, Less, Equal, Greater, length, ◌≤◌, arith}
use Rattle.std.specs.FinMap.Entries as entries
use Rattle.std.specs.Ordering.{eq_by_cmp}
use Rattle.std.proofs.lemmas.Bool.{false≢true, false_from_ne_true}
use Rattle.mdb_datum.specs.Bytes.{Bytes, byte_order, is_prefix}
use Rattle.mdb_datum.specs.Row.{Fields, Pair}
use Rattle.radix_node.specs.Pairs.{put, with_prefix, without, without_prefix}
use Rattle.radix_node.specs.Paths.{Has, HasKey}
use Rattle.mdb_datum.proofs.ByteOrder.{same_from_byte_order, equal_from_is_eq}

-- ---- a put

module _ (key k : Bytes) (row : Fields) (other : k ≢ key) where
  put_back : (ps : List Pair) → HasKey k (put key row ps) → HasKey k ps
  put_back [] (inl e) = absurd (other e)
  put_back [] (inr h) = h
  put_back (p ∷ ps) h =
      elim (byte_order key p.0) as (λ o. HasKey k (entries.by_order o ((key, row) ∷ p ∷ ps) ((p.0, row) ∷ ps) (p ∷ put key row ps)) → HasKey k (p ∷ ps)) [
        | Less ↦ λ g. elim g [ inl e ↦ absurd (other e) | inr i ↦ i ]
        | Equal ↦ λ g. g
        | Greater ↦ λ g. elim g [ inl e ↦ inl e | inr i ↦ inr (put_back ps i) ]
      ] h

  put_on : (ps : List Pair) → HasKey k ps → HasKey k (put key row ps)
  put_on [] h = absurd h
  put_on (p ∷ ps) h =
      elim (byte_order key p.0) as (λ o. HasKey k (entries.by_order o ((key, row) ∷ p ∷ ps) ((p.0, row) ∷ ps) (p ∷ put key row ps))) [
        | Less ↦ inr h
        | Equal ↦ h
        | Greater ↦ elim h [ inl e ↦ inl e | inr i ↦ inr (put_on ps i) ]
      ]

  pub keys_put : (ps : List Pair) → HasKey k ps ↔ HasKey k (put key row ps)
  keys_put ps = (put_on ps, put_back ps)

-- ---- what passes a test

module _ (f : Bytes → Bool) (k : Bytes) where
  pub filtered_back : (ps : List Pair) → HasKey k (entries.where_key byte_order f ps) → HasKey k ps × (f k ≡ true)
  filtered_back [] h = absurd h
  filtered_back (p ∷ ps) h =
      elim (f p.0) as (λ b. f p.0 ≡ b → HasKey k (cond b (p ∷ entries.where_key byte_order f ps) (entries.where_key byte_order f ps)) → HasKey k (p ∷ ps) × (f k ≡ true)) [
        | true ↦ λ e g. elim g [
          | inl same ↦ (inl same, ap f same ∙ e)
          | inr i ↦ let w = filtered_back ps i in (inr w.0, w.1)
        ]
        | false ↦ λ e g. let w = filtered_back ps g in (inr w.0, w.1)
      ] refl h

  pub filtered_on : (ps : List Pair) → f k ≡ true → HasKey k ps → HasKey k (entries.where_key byte_order f ps)
  filtered_on [] t h = absurd h
  filtered_on (p ∷ ps) t h =
      elim (f p.0) as (λ b. f p.0 ≡ b → HasKey k (cond b (p ∷ entries.where_key byte_order f ps) (entries.where_key byte_order f ps))) [
        | true ↦ λ e. elim h [ inl same ↦ inl same | inr i ↦ inr (filtered_on ps t i) ]
        | false ↦ λ e. elim h [ inl same ↦ absurd (false≢true (sym e ∙ ap f (sym same) ∙ t)) | inr i ↦ filtered_on ps t i ]
      ] refl

pub keys_without : (key k : Bytes) → k ≢ key → (ps : List Pair) → HasKey k ps ↔ HasKey k (without key ps)
keys_without key k other ps =
    let off : eq_by_cmp byte_order key k ≡ false = false_from_ne_true _ (λ e. other (sym (same_from_byte_order key k (equal_from_is_eq (byte_order key k) e)))) in
    let test : Bytes → Bool = λ z. not (eq_by_cmp byte_order key z) in
    (filtered_on test k ps (ap not off), λ h. (filtered_back test k ps h).0)

pub keys_without_prefix : (prefix k : Bytes) → is_prefix prefix k ≡ false → (ps : List Pair) → HasKey k ps ↔ HasKey k (without_prefix prefix ps)
keys_without_prefix prefix k off ps =
    let test : Bytes → Bool = λ z. not (is_prefix prefix z) in
    (filtered_on test k ps (ap not off), λ h. (filtered_back test k ps h).0)

-- ---- the keys of pairs

abbrev pub keys_of : List Pair → List Bytes
keys_of ps = map (λ (p : Pair). p.0) ps

pub key_there : (k : Bytes) (ps : List Pair) → HasKey k ps → Has k (keys_of ps)
key_there k [] h = h
key_there k (p ∷ ps) (inl e) = inl e
key_there k (p ∷ ps) (inr h) = inr (key_there k ps h)

-- where all pairs stay, none has the prefix
shorter : (prefix : Bytes) (ps : List Pair) → length (without_prefix prefix ps) ≤ length ps
shorter prefix [] = omega arith
shorter prefix (p ∷ ps) =
    let rest = shorter prefix ps in
    elim (is_prefix prefix p.0) as (λ b. length (cond (not b) (p ∷ without_prefix prefix ps) (without_prefix prefix ps)) ≤ length (p ∷ ps)) [
      | true ↦ omega (arith, rest)
      | false ↦ omega (arith, rest)
    ]

pub none_begin : (prefix : Bytes) (ps : List Pair) → length (without_prefix prefix ps) ≡ length ps → with_prefix prefix ps ≡ []
none_begin prefix [] e = refl
none_begin prefix (p ∷ ps) e =
    elim (is_prefix prefix p.0) as (λ b. length (cond (not b) (p ∷ without_prefix prefix ps) (without_prefix prefix ps)) ≡ length (p ∷ ps) → cond b (p ∷ with_prefix prefix ps) (with_prefix prefix ps) ≡ []) [
      | true ↦ λ f. let few = shorter prefix ps in absurd (omega (arith, f, few))
      | false ↦ λ f. none_begin prefix ps (omega (arith, f))
    ] e

-- a key with the prefix is among those that have it
pub key_begins : (prefix k : Bytes) (ps : List Pair) → HasKey k ps → is_prefix prefix k ≡ true → Has k (keys_of (with_prefix prefix ps))
key_begins prefix k ps h e = key_there k (with_prefix prefix ps) (filtered_on (is_prefix prefix) k ps e h)
