-- Writes of keys in one index, one after the other.
use Rattle.std.proofs.Common.{◌≡◌, ◌⊎◌, ◌<◌, ◌∙◌, ◌+◌, ◌++◌, ◌∷◌, [], ℕ, List, Bool, true, false, Option, Some, None, not, length, get_or, map, take, refl, sym, ap, subst, inl, inr, arith, Contains}
use Rattle.std.specs.Prelude.{if◌then◌else◌}
use Rattle.std.specs.FinMap as finite
use Rattle.std.specs.declared.alloc.Global.{Global}
use Rattle.std.specs.declared.vec.Vec.{Vec}
use Rattle.std.proofs.lemmas.List.{append-nil, map_push, take_more}
use Rattle.std.proofs.lemmas.List.Elements.{Contains-append_cases, Contains-append_left, Contains-append_right, filter-append}
use Rattle.mdb_datum.specs.Bytes.{Bytes, byte_order}
use Rattle.mdb_datum.specs.Row.{Fields, Pair}
use Rattle.mdb_schema.specs.Edits.{put_all, stale_keys, without, without_all}
use Rattle.mdb_schema.specs.Write.{is_among}
use Rattle.mdb_schema.proofs.Membership.{Contains-cons_cases, Contains-first, Contains-nil}
use Rattle.run_check.specs.declared.sight.Stamp.{Stamp}
use Rattle.run_check.specs.declared.sight.Stamp.TheVariants as stamps
use Rattle.run_check.specs.inner.EditView.{IsEdited, IsIn, IsOut, IsReplaced, seen_of}
use Rattle.run_check.specs.inner.IndexView.{IsCommit, IsWritten, KeyVersions, MayWrite, sees, with_pair}
use Rattle.run_check.specs.inner.KeyView.{bytes_of}

-- ---- edits, one after the other

same_if : (b : Bool) (es : List Pair) → es ≡ (if b then es else es)
same_if true es = refl
same_if false es = refl

if_then : (f g : List Pair → List Pair) (b : Bool) (x y z : List Pair) → y ≡ (if b then f x else x) → z ≡ (if b then g y else y) → z ≡ (if b then g (f x) else x)
if_then f g true x y z first second = second ∙ ap g first
if_then f g false x y z first second = second ∙ first

-- either an old one or a new one, in two steps
joined : {P Q : Type 0} (ws vs : List Bytes) (k : Bytes) → P ⊎ (Contains (ws ++ vs) k × Q) → (P ⊎ (Contains ws k × Q)) ⊎ (Contains vs k × Q)
joined ws vs k (inl old) = inl (inl old)
joined ws vs k (inr new) = elim (Contains-append_cases ws vs k new.0) [ inl first ↦ inl (inr (first, new.1)) | inr second ↦ inr (second, new.1) ]

split : {P Q : Type 0} (ws vs : List Bytes) (k : Bytes) → (P ⊎ (Contains ws k × Q)) ⊎ (Contains vs k × Q) → P ⊎ (Contains (ws ++ vs) k × Q)
split ws vs k (inl (inl old)) = inl old
split ws vs k (inl (inr first)) = inr (Contains-append_left ws vs k first.0, first.1)
split ws vs k (inr second) = inr (Contains-append_right ws vs k second.0, second.1)

-- the same of any key
joined_any : {P Q : Type 0} (ws vs : List Bytes) → P ⊎ (((k : Bytes) × Contains (ws ++ vs) k) × Q) → (P ⊎ (((k : Bytes) × Contains ws k) × Q)) ⊎ (((k : Bytes) × Contains vs k) × Q)
joined_any ws vs (inl old) = inl (inl old)
joined_any ws vs (inr new) = elim (Contains-append_cases ws vs new.0.0 new.0.1) [
  | inl first ↦ inl (inr ((new.0.0, first), new.1))
  | inr second ↦ inr ((new.0.0, second), new.1)
]

split_any : {P Q : Type 0} (ws vs : List Bytes) → (P ⊎ (((k : Bytes) × Contains ws k) × Q)) ⊎ (((k : Bytes) × Contains vs k) × Q) → P ⊎ (((k : Bytes) × Contains (ws ++ vs) k) × Q)
split_any ws vs (inl (inl old)) = inl old
split_any ws vs (inl (inr first)) = inr ((first.0.0, Contains-append_left ws vs first.0.0 first.0.1), first.1)
split_any ws vs (inr second) = inr ((second.0.0, Contains-append_right ws vs second.0.0 second.0.1), second.1)

-- a first step that is one of two, told by what was there before it
through : {P P' Q : Type 0} → (P → P') → P ⊎ Q → P' ⊎ Q
through f (inl x) = inl (f x)
through f (inr y) = inr y

module _ (stamp : Stamp) where
  pub nothing_edited : (x : KeyVersions) → IsEdited stamp (λ es. es) [] x x
  nothing_edited x = record {
    seen = λ s. same_if (sees s stamp) (seen_of s x);
    versions = λ k j. (inl, λ h. elim h [ inl old ↦ old | inr new ↦ absurd (Contains-nil k new.0) ]);
    own = λ k o. (inl, λ h. elim h [ inl old ↦ old | inr new ↦ absurd (Contains-nil k new.0) ]);
    touched = λ j. (inl, λ h. elim h [ inl old ↦ old | inr new ↦ absurd (Contains-nil new.0.0 new.0.1) ]);
  }

  pub edited_then : (f g : List Pair → List Pair) (ws vs : List Bytes) (x y z : KeyVersions) → IsEdited stamp f ws x y → IsEdited stamp g vs y z → IsEdited stamp (λ es. g (f es)) (ws ++ vs) x z
  edited_then f g ws vs x y z first second = record {
    seen = λ s. if_then f g (sees s stamp) (seen_of s x) (seen_of s y) (seen_of s z) (first.seen s) (second.seen s);
    versions = λ k j. (
      λ h. split ws vs k (through (first.versions k j).0 ((second.versions k j).0 h)),
      λ h. (second.versions k j).1 (through (first.versions k j).1 (joined ws vs k h)),
    );
    own = λ k o. (
      λ h. split ws vs k (through (first.own k o).0 ((second.own k o).0 h)),
      λ h. (second.own k o).1 (through (first.own k o).1 (joined ws vs k h)),
    );
    touched = λ j. (
      λ h. split_any ws vs (through (first.touched j).0 ((second.touched j).0 h)),
      λ h. (second.touched j).1 (through (first.touched j).1 (joined_any ws vs h)),
    );
  }

  pub edited_as : (f g : List Pair → List Pair) (ws vs : List Bytes) (x y : KeyVersions) → ((es : List Pair) → f es ≡ g es) → ws ≡ vs → IsEdited stamp f ws x y → IsEdited stamp g vs x y
  edited_as f g ws vs x y same keys edited =
      subst (λ (e : List Pair → List Pair). IsEdited stamp e vs x y) (λ i. λ es. same es i)
      (subst (λ (ks : List Bytes). IsEdited stamp f ks x y) keys edited)

  only : {Q : Type 0} (key k : Bytes) → Contains (key ∷ []) k × Q → (k ≡ key) × Q
  only key k w = elim (Contains-cons_cases key [] k w.0) [ inl same ↦ (sym same, w.1) | inr none ↦ absurd (Contains-nil k none) ]

  alone : {Q : Type 0} (key k : Bytes) → (k ≡ key) × Q → Contains (key ∷ []) k × Q
  alone key k w = (subst (λ (b : Bytes). Contains (key ∷ []) b) (sym w.0) (Contains-first key []), w.1)

  also : {P Q Q' : Type 0} → (Q → Q') → P ⊎ Q → P ⊎ Q'
  also f (inl x) = inl x
  also f (inr y) = inr (f y)

  -- one write
  pub edited_once : (key : Bytes) (row : Option Fields) (x y : KeyVersions) → IsWritten stamp key row x y → IsEdited stamp (with_pair key row) (key ∷ []) x y
  edited_once key row x y w = record {
    seen = w.seen;
    versions = λ k j. (λ h. also (alone key k) ((w.versions k j).0 h), λ h. (w.versions k j).1 (also (only key k) h));
    own = λ k o. (λ h. also (alone key k) ((w.own k o).0 h), λ h. (w.own k o).1 (also (only key k) h));
    touched = λ j. (
      λ h. also (λ (c : IsCommit stamp j). ((key, Contains-first key []), c)) ((w.touched j).0 h),
      λ h. (w.touched j).1 (also (λ (p : ((k : Bytes) × Contains (key ∷ []) k) × IsCommit stamp j). p.1) h),
    );
  }

-- the next write may come after others of its stamp
pub may_go_on : (stamp : Stamp) (f : List Pair → List Pair) (ws : List Bytes) (x y : KeyVersions) → IsEdited stamp f ws x y → MayWrite stamp x → MayWrite stamp y
may_go_on (stamps.Commit n) f ws x y e m = record {
  versions = λ key j h. elim ((e.versions key j).0 h) [ inl old ↦ m.versions key j old | inr new ↦ omega (arith, new.1) ];
  touched = λ j h. elim ((e.touched j).0 h) [ inl old ↦ m.touched j old | inr new ↦ omega (arith, new.1) ];
  none_own = λ key o h. elim ((e.own key o).0 h) [ inl old ↦ m.none_own key o old | inr new ↦ new.1 ];
}
may_go_on (stamps.Own own) f ws x y e m = λ key o h. elim ((e.own key o).0 h) [
  | inl old ↦ m key o old
  | inr new ↦ (omega (arith, new.1.0), λ same. omega (arith, new.1.1))
]

-- ---- keys that are taken out, and put in

without_last : (ws : List Bytes) (k : Bytes) (es : List Pair) → without k (without_all ws es) ≡ without_all (ws ++ k ∷ []) es
without_last [] k es = refl
without_last (w ∷ ws) k es = without_last ws k (without w es)

put_last : (ws : List Bytes) (k : Bytes) (row : Fields) (es : List Pair) → finite.put byte_order k row (put_all ws row es) ≡ put_all (ws ++ k ∷ []) row es
put_last [] k row es = refl
put_last (w ∷ ws) k row es = put_last ws k row (finite.put byte_order w row es)

module _ (stamp : Stamp) where
  pub none_out : (x : KeyVersions) → IsOut stamp [] x x
  none_out x = nothing_edited stamp x

  pub none_in : (row : Fields) (x : KeyVersions) → IsIn stamp row [] x x
  none_in row x = nothing_edited stamp x

  out_more : (ws : List Bytes) (k : Bytes) (x y z : KeyVersions) → IsOut stamp ws x y → IsWritten stamp k None y z → IsOut stamp (ws ++ k ∷ []) x z
  out_more ws k x y z so_far next =
      edited_as stamp (λ es. without k (without_all ws es)) (without_all (ws ++ k ∷ [])) (ws ++ k ∷ []) (ws ++ k ∷ []) x z (without_last ws k) refl
      (edited_then stamp (without_all ws) (without k) ws (k ∷ []) x y z so_far (edited_once stamp k None y z next))

  in_more : (row : Fields) (ws : List Bytes) (k : Bytes) (x y z : KeyVersions) → IsIn stamp row ws x y → IsWritten stamp k (Some row) y z → IsIn stamp row (ws ++ k ∷ []) x z
  in_more row ws k x y z so_far next =
      edited_as stamp (λ es. finite.put byte_order k row (put_all ws row es)) (put_all (ws ++ k ∷ []) row) (ws ++ k ∷ []) (ws ++ k ∷ []) x z (put_last ws k row) refl
      (edited_then stamp (put_all ws row) (finite.put byte_order k row) ws (k ∷ []) x y z so_far (edited_once stamp k (Some row) y z next))

  -- a row in the place of another
  pub replaced_by : (row : Fields) (new old : List Bytes) (x y z : KeyVersions) → IsOut stamp (stale_keys new old) x y → IsIn stamp row new y z → IsReplaced stamp row new old x z
  replaced_by row new old x y z out into = edited_then stamp (without_all (stale_keys new old)) (put_all new row) (stale_keys new old) new x y z out into

  -- ---- the loops over them

  module _ (keys : List (Vec ℕ Global)) (at : ℕ) (key : Vec ℕ Global) (within : at < length keys) (there : key ≡ get_or keys at key) where
    one_more : map bytes_of (take (at + 1) keys) ≡ map bytes_of (take at keys) ++ key.items ∷ []
    one_more =
        ap (map bytes_of) (take_more keys at key within ∙ ap (λ (k : Vec ℕ Global). take at keys ++ k ∷ []) (sym there))
        ∙ map_push bytes_of (take at keys) key

    pub in_step : (row : Fields) (x y z : KeyVersions) → IsIn stamp row (map bytes_of (take at keys)) x y → IsWritten stamp key.items (Some row) y z → IsIn stamp row (map bytes_of (take (at + 1) keys)) x z
    in_step row x y z so_far next =
        subst (λ (ws : List Bytes). IsIn stamp row ws x z) (sym one_more) (in_more row (map bytes_of (take at keys)) key.items x y z so_far next)

    stale_more : (kept : List Bytes) (b : Bool) → is_among kept key.items ≡ b → stale_keys kept (map bytes_of (take (at + 1) keys)) ≡ stale_keys kept (map bytes_of (take at keys)) ++ (if not b then key.items ∷ [] else [])
    stale_more kept b among =
        ap (stale_keys kept) one_more
        ∙ filter-append (λ k. not (is_among kept k)) (map bytes_of (take at keys)) (key.items ∷ [])
        ∙ ap (λ (c : Bool). stale_keys kept (map bytes_of (take at keys)) ++ (if not c then key.items ∷ [] else [])) among

    pub out_step : (kept : List Bytes) (x y z : KeyVersions) → is_among kept key.items ≡ false → IsOut stamp (stale_keys kept (map bytes_of (take at keys))) x y → IsWritten stamp key.items None y z
        → IsOut stamp (stale_keys kept (map bytes_of (take (at + 1) keys))) x z
    out_step kept x y z other so_far next =
        subst (λ (ws : List Bytes). IsOut stamp ws x z) (sym (stale_more kept false other)) (out_more (stale_keys kept (map bytes_of (take at keys))) key.items x y z so_far next)

    pub kept_step : (kept : List Bytes) (x y : KeyVersions) → is_among kept key.items ≡ true → IsOut stamp (stale_keys kept (map bytes_of (take at keys))) x y
        → IsOut stamp (stale_keys kept (map bytes_of (take (at + 1) keys))) x y
    kept_step kept x y own so_far =
        subst (λ (ws : List Bytes). IsOut stamp ws x y) (sym (stale_more kept true own ∙ append-nil (stale_keys kept (map bytes_of (take at keys))))) so_far

-- without a row in its place all keys are stale
pub stale_none : (ks : List Bytes) → stale_keys [] ks ≡ ks
stale_none [] = refl
stale_none (k ∷ ks) = ap (λ (l : List Bytes). k ∷ l) (stale_none ks)

-- ---- the same by other names of keys

pub replaced_as : (stamp : Stamp) (row : Fields) (ns ns' os os' : List Bytes) (x x' y : KeyVersions) → ns ≡ ns' → os ≡ os' → x ≡ x' → IsReplaced stamp row ns os x y → IsReplaced stamp row ns' os' x' y
replaced_as stamp row ns ns' os os' x x' y news olds same h =
    subst (λ (z : KeyVersions). IsReplaced stamp row ns' os' z y) same
    (subst (λ (ks : List Bytes). IsReplaced stamp row ns' ks x y) olds (subst (λ (ks : List Bytes). IsReplaced stamp row ks os x y) news h))

pub out_as : (stamp : Stamp) (ks ks' : List Bytes) (x x' y : KeyVersions) → ks ≡ ks' → x ≡ x' → IsOut stamp (stale_keys [] ks) x y → IsOut stamp ks' x' y
out_as stamp ks ks' x x' y keys same h =
    subst (λ (z : KeyVersions). IsOut stamp ks' z y) same (subst (λ (l : List Bytes). IsOut stamp l x y) (stale_none ks ∙ keys) h)
