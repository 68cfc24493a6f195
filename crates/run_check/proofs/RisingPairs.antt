-- Pairs whose keys rise are told by what is among them.
use Rattle.std.proofs.Common.{◌≡◌, ◌∙◌, ◌++◌, List, [], ◌∷◌, Contains, Less, refl, sym, ap, inl, inr}
use Rattle.std.specs.Prelude.{⊤}
use Rattle.std.proofs.lemmas.List.Elements.{Contains-append_cases}
use Rattle.mdb_datum.specs.Bytes.{Bytes, byte_order}
use Rattle.mdb_datum.proofs.ByteOrder.{byte_order_itself, turned}
use Rattle.mdb_schema.proofs.Membership.{Contains-cons_cases, Contains-first, Contains-later, Contains-nil}

not_below_itself : (k : Bytes) → byte_order k k ≡ Less → ⊥
not_below_itself k less = let same = byte_order_itself k in absurd (let h = sym less ∙ same in cc)

not_both : (j k : Bytes) → byte_order j k ≡ Less → byte_order k j ≡ Less → ⊥
not_both j k less back = let h = sym back ∙ turned j k Less less in cc

module _ {X : Type 0} where
  -- each is below all behind it
  abbrev pub Rise : List (Bytes × X) → Type 0
  Rise [] = ⊤
  Rise (e ∷ es) = ((f : Bytes × X) → Contains es f → byte_order e.0 f.0 ≡ Less) × Rise es

  pub rise_append : (es fs : List (Bytes × X)) → Rise es → Rise fs → ((e f : Bytes × X) → Contains es e → Contains fs f → byte_order e.0 f.0 ≡ Less) → Rise (es ++ fs)
  rise_append [] fs first second below = second
  rise_append (e ∷ es) fs first second below = (
    λ f h. elim (Contains-append_cases es fs f h) [ inl own ↦ first.0 f own | inr other ↦ below e f (Contains-first e es) other ],
    rise_append es fs first.1 second (λ g f h k. below g f (Contains-later e es g h) k),
  )

  -- what is among those behind the first, where the other list begins with the same
  behind_first : (e f : Bytes × X) (es fs : List (Bytes × X)) → f ≡ e → Rise (e ∷ es) → (x : Bytes × X) → Contains es x → Contains (f ∷ fs) x → Contains fs x
  behind_first e f es fs same rise x h k = elim (Contains-cons_cases f fs x k) [
    | inl is ↦ absurd (not_below_itself e.0 (ap (λ (y : Bytes × X). byte_order e.0 y.0) (sym same ∙ is) ∙ rise.0 x h))
    | inr within ↦ within
  ]

  firsts_same : (e f : Bytes × X) (es fs : List (Bytes × X)) → Rise (e ∷ es) → Rise (f ∷ fs) → Contains (f ∷ fs) e → Contains (e ∷ es) f → f ≡ e
  firsts_same e f es fs rise rise' h k = elim (Contains-cons_cases f fs e h) [
    | inl same ↦ same
    | inr later ↦ elim (Contains-cons_cases e es f k) [ inl same ↦ sym same | inr later' ↦ absurd (not_both e.0 f.0 (rise.0 f later') (rise'.0 e later)) ]
  ]

  pub same_rising : (es fs : List (Bytes × X)) → Rise es → Rise fs → ((x : Bytes × X) → Contains es x → Contains fs x) → ((x : Bytes × X) → Contains fs x → Contains es x) → es ≡ fs
  same_rising [] [] rise rise' forth back = refl
  same_rising [] (f ∷ fs) rise rise' forth back = absurd (Contains-nil f (back f (Contains-first f fs)))
  same_rising (e ∷ es) [] rise rise' forth back = absurd (Contains-nil e (forth e (Contains-first e es)))
  same_rising (e ∷ es) (f ∷ fs) rise rise' forth back =
      let same = firsts_same e f es fs rise rise' (forth e (Contains-first e es)) (back f (Contains-first f fs)) in
      let rest = same_rising es fs rise.1 rise'.1
      (λ x h. behind_first e f es fs same rise x h (forth x (Contains-later e es x h)))
      (λ x h. behind_first f e fs es (sym same) rise' x h (back x (Contains-later f fs x h))) in
      λ j. sym same j ∷ rest j
