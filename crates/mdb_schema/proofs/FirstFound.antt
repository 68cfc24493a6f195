-- The first of a list that passes a test, by what the list contains.
use Rattle.std.proofs.Common.{◌≡◌, ◌∙◌, List, [], ◌∷◌, Bool, true, false, cond, Option, Some, None, Contains, refl, sym, ap, subst, inl, inr}
use Rattle.std.specs.List.{find}
use Rattle.std.proofs.lemmas.Bool.{cond-false, both_ways, false_from_ne_true}
use Rattle.mdb_schema.proofs.Membership.{Contains-nil, Contains-first, Contains-later, Contains-cons_cases}

module _ {X : Type 0} (p : X → Bool) where
  pub find-some : (xs : List X) (x : X) → find p xs ≡ Some x → Contains xs x × (p x ≡ true)
  find-some [] x e = cc
  find-some (y ∷ xs) x e = of (p y) refl e (λ later. find-some xs x later)
    where
      of : (b : Bool) → p y ≡ b → cond b (Some y) (find p xs) ≡ Some x → (find p xs ≡ Some x → Contains xs x × (p x ≡ true)) → Contains (y ∷ xs) x × (p x ≡ true)
      of true here e later =
          let same : y ≡ x = cc in
          (subst (λ (z : X). Contains (y ∷ xs) z) same (Contains-first y xs), ap p (sym same) ∙ here)
      of false other e later = let w = later e in (Contains-later y xs x w.0, w.1)

  pub find-none : (xs : List X) (x : X) → find p xs ≡ None → Contains xs x → p x ≡ false
  find-none [] x e h = absurd (Contains-nil x h)
  find-none (y ∷ xs) x e h = of (p y) refl e (λ later within. find-none xs x later within)
    where
      of : (b : Bool) → p y ≡ b → cond b (Some y) (find p xs) ≡ None → (find p xs ≡ None → Contains xs x → p x ≡ false) → p x ≡ false
      of true here e later = cc
      of false other e later = elim (Contains-cons_cases y xs x h) [
        | inl same ↦ ap p (sym same) ∙ other
        | inr within ↦ later e within
      ]

  pub find-nothing : (xs : List X) → ((x : X) → Contains xs x → p x ≡ false) → find p xs ≡ None
  find-nothing [] none = refl
  find-nothing (y ∷ xs) none =
      cond-false (p y) (Some y) (find p xs) (none y (Contains-first y xs))
      ∙ find-nothing xs (λ x h. none x (Contains-later y xs x h))

  -- one that passes is found where it is the only one
  pub find-only : (xs : List X) (x : X) → Contains xs x → p x ≡ true → ((y : X) → Contains xs y → p y ≡ true → y ≡ x) → find p xs ≡ Some x
  find-only xs x h pass only = of (find p xs) refl
    where
      of : (o : Option X) → find p xs ≡ o → find p xs ≡ Some x
      of None e = absurd (both_ways (p x) (find-none xs x e h) pass)
      of (Some y) e = let w = find-some xs y e in e ∙ ap Some (only y w.0 w.1)

  -- the same is found in two lists, where the same pass in both, and at most one
  pub find-alike : (xs ys : List X) → ((x y : X) → Contains xs x → Contains xs y → p x ≡ true → p y ≡ true → x ≡ y)
      → ((x : X) → Contains xs x → p x ≡ true → Contains ys x) → ((x : X) → Contains ys x → p x ≡ true → Contains xs x) → find p xs ≡ find p ys
  find-alike xs ys one to from = of (find p xs) refl
    where
      of : (o : Option X) → find p xs ≡ o → find p xs ≡ find p ys
      of None e = e ∙ sym (find-nothing ys (λ y h. false_from_ne_true (p y) (λ pass. both_ways (p y) (find-none xs y e (from y h pass)) pass)))
      of (Some x) e =
          let w = find-some xs x e in
          e ∙ sym (find-only ys x (to x w.0 w.1) w.1 (λ y h pass. one y x (from y h pass) w.0 pass w.1))
