-- Pairs kept by a test of their keys.
use Rattle.std.proofs.Common.{◌≡◌, ◌++◌, ◌∷◌, ◌∙◌, ℕ, Bool, true, false, cond, List, [], refl, ap}
use Rattle.std.proofs.lemmas.List.Elements.{filter-append}
use Rattle.std.specs.FinMap.Entries as entries
use Rattle.mdb_datum.specs.Bytes.{byte_order}
use Rattle.mdb_datum.specs.Row.{Pair}
use Rattle.radix_node.proofs.KeyOrder.{Each}

module _ (f : List ℕ → Bool) where
  abbrev pub kept : List Pair → List Pair
  kept ps = entries.where_key byte_order f ps

  pub keeps : (ps : List Pair) → Each (λ q. f q ≡ true) ps → kept ps ≡ ps
  keeps [] h = refl
  keeps (p ∷ ps) h = ap (λ b. cond b (p ∷ kept ps) (kept ps)) h.0 ∙ ap (λ (qs : List Pair). p ∷ qs) (keeps ps h.1)

  pub drops : (ps : List Pair) → Each (λ q. f q ≡ false) ps → kept ps ≡ []
  drops [] h = refl
  drops (p ∷ ps) h = ap (λ b. cond b (p ∷ kept ps) (kept ps)) h.0 ∙ drops ps h.1

  pub kept_three : (xs ys zs as_1 as_2 as_3 : List Pair) → kept xs ≡ as_1 → kept ys ≡ as_2 → kept zs ≡ as_3 → kept (xs ++ (ys ++ zs)) ≡ as_1 ++ (as_2 ++ as_3)
  kept_three xs ys zs as_1 as_2 as_3 d e g =
      filter-append (λ (p : Pair). f p.0) xs (ys ++ zs)
      ∙ ap (λ (w : List Pair). kept xs ++ w) (filter-append (λ (p : Pair). f p.0) ys zs)
      ∙ (λ i. d i ++ (e i ++ g i))
