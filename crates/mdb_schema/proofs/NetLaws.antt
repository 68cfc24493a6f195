-- The net of two lists of rows leads from the one to the other, and there is none where they are
-- the same.
use Rattle.std.proofs.Common.{◌≡◌, ◌⊎◌, ◌∙◌, List, [], ◌∷◌, map, Bool, true, false, not, if◌then◌else◌, Option, Some, None, Contains, Less, Equal, refl, sym, ap, subst, inl, inr}
use Rattle.std.specs.Ordering.{match_ordering}
use Rattle.std.specs.Str.{bytes_eq}
use Rattle.std.proofs.lemmas.Bool.{cond-true, cond-false}
use Rattle.mdb_datum.specs.Row.{Fields, Pair}
use Rattle.mdb_datum.specs.Same.{has_same_members}
use Rattle.mdb_datum.proofs.ByteOrder.{byte_order_itself, same_from_byte_order, turned}
use Rattle.mdb_datum.proofs.SameDocs.{Decides-has_same_members}
use Rattle.mdb_encode.specs.Bytes.{Bytes, byte_order}
use Rattle.mdb_schema.specs.Net.{Net, differ, net, net_at, rows_of_both, with_net, with_nets}
use Rattle.mdb_schema.specs.Schema.{TableSchema}
use Rattle.mdb_schema.specs.State.{id_key, with_row, without_row}
use Rattle.mdb_schema.specs.NetOfPairs.{come, gone, net_of_pairs, replaced}
use Rattle.mdb_schema.proofs.IdEntries.{id_pairs}
use Rattle.mdb_schema.proofs.Membership.{Contains-first, Contains-from_filter, Contains-from_map, Contains-later, bytes_eq-itself}
use Rattle.mdb_schema.proofs.NetMerged.{IsLow, by_fronts, net-both, net-come, net-gone, net-of_pairs, with_row-lowest}
use Rattle.mdb_schema.proofs.RowsById.{AreRising, apart_from_less, rising-first, row_at-some}

-- ---- of the same rows

itself : (ps : List Pair) → net_of_pairs ps ps ≡ []
itself [] = refl
itself (p ∷ ps) =
    ap (λ o. match_ordering o (gone p.1 ∷ net_of_pairs ps (p ∷ ps)) (replaced p.1 p.1 (net_of_pairs ps ps)) (come p.1 ∷ net_of_pairs (p ∷ ps) ps)) (byte_order_itself p.0)
    ∙ ap (λ (b : Bool). if not b then record { before = Some p.1; after = Some p.1 } ∷ net_of_pairs ps ps else net_of_pairs ps ps) ((Decides-has_same_members p.1 p.1).1 refl)
    ∙ itself ps

module _ (t : TableSchema) where
  pub net-itself : (rows : List Fields) → AreRising t rows → net t rows rows ≡ []
  net-itself rows rising = net-of_pairs t rows rows rising rising ∙ itself (id_pairs t rows)

  -- ---- made on the old rows

  -- a row is below those of a change
  abbrev Precedes : Fields → Net → Type 0
  Precedes p n = (x : Fields) → (n.before ≡ Some x) ⊎ (n.after ≡ Some x) → byte_order (id_key t p) (id_key t x) ≡ Less

  with_row-later : (p r : Fields) (rows : List Fields) → byte_order (id_key t p) (id_key t r) ≡ Less → with_row t r (p ∷ rows) ≡ p ∷ with_row t r rows
  with_row-later p r rows less = ap (λ o. match_ordering o (r ∷ p ∷ rows) (r ∷ rows) (p ∷ with_row t r rows)) (turned (id_key t p) (id_key t r) Less less)

  without_row-later : (p r : Fields) (rows : List Fields) → byte_order (id_key t p) (id_key t r) ≡ Less → without_row t (id_key t r) (p ∷ rows) ≡ p ∷ without_row t (id_key t r) rows
  without_row-later p r rows less = cond-false (bytes_eq (id_key t p) (id_key t r)) rows (p ∷ without_row t (id_key t r) rows) (apart_from_less (id_key t p) (id_key t r) less)

  with_net-later : (p : Fields) (before after : Option Fields) (rows : List Fields) → Precedes p (record { before = before; after = after })
      → with_net t (record { before = before; after = after }) (p ∷ rows) ≡ p ∷ with_net t (record { before = before; after = after }) rows
  with_net-later p None None rows low = refl
  with_net-later p (Some b) None rows low = without_row-later p b rows (low b (inl refl))
  with_net-later p None (Some a) rows low = with_row-later p a rows (low a (inr refl))
  with_net-later p (Some b) (Some a) rows low = with_row-later p a rows (low a (inr refl))

  with_nets-later : (p : Fields) (ns : List Net) (rows : List Fields) → ((n : Net) → Contains ns n → Precedes p n) → with_nets t ns (p ∷ rows) ≡ p ∷ with_nets t ns rows
  with_nets-later p [] rows low = refl
  with_nets-later p (n ∷ ns) rows low =
      ap (with_net t n) (with_nets-later p ns rows (λ m h. low m (Contains-later n ns m h)))
      ∙ with_net-later p n.before n.after (with_nets t ns rows) (low n (Contains-first n ns))

  -- below all rows is below those of each change
  precedes_net : (p : Fields) (old new : List Fields) → IsLow t p old → IsLow t p new → (n : Net) → Contains (net t old new) n → Precedes p n
  precedes_net p old new low low' n h =
      let kept = Contains-from_filter (λ (m : Net). differ m.before m.after) (map (λ (r : Fields). net_at t old new (id_key t r)) (rows_of_both t old new)) n h in
      let made = Contains-from_map (λ (r : Fields). net_at t old new (id_key t r)) (rows_of_both t old new) n kept.0 in
      λ x which. elim which [
        | inl was ↦ low x (row_at-some t (id_key t made.0) old x (ap (λ (m : Net). m.before) made.2 ∙ was)).0
        | inr is ↦ low' x (row_at-some t (id_key t made.0) new x (ap (λ (m : Net). m.after) made.2 ∙ is)).0
      ]

  -- the old rows with the net made are the new ones
  abbrev Leads : List Fields → List Fields → Type 0
  Leads old new = with_nets t (net t old new) old ≡ new

  leads-come : (q : Fields) (old new : List Fields) → AreRising t old → AreRising t (q ∷ new) → IsLow t q old → Leads old new → Leads old (q ∷ new)
  leads-come q old new _ rising low so_far =
      ap (λ ns. with_nets t ns old) (net-come t q old new rising low) ∙ ap (with_row t q) so_far ∙ with_row-lowest t q new (rising-first t q new rising)

  leads-gone : (p : Fields) (old new : List Fields) → AreRising t (p ∷ old) → AreRising t new → IsLow t p new → Leads old new → Leads (p ∷ old) new
  leads-gone p old new rising _ low so_far =
      ap (λ ns. with_nets t ns (p ∷ old)) (net-gone t p old new rising low)
      ∙ ap (without_row t (id_key t p)) (with_nets-later p (net t old new) old (precedes_net p old new (rising-first t p old rising) low))
      ∙ cond-true (bytes_eq (id_key t p) (id_key t p)) (with_nets t (net t old new) old) (p ∷ without_row t (id_key t p) (with_nets t (net t old new) old)) (bytes_eq-itself (id_key t p))
      ∙ so_far

  leads-both : (p q : Fields) (old new : List Fields) → AreRising t (p ∷ old) → AreRising t (q ∷ new) → byte_order (id_key t p) (id_key t q) ≡ Equal → Leads old new → Leads (p ∷ old) (q ∷ new)
  leads-both p q old new rising rising' tie so_far =
      ap (λ ns. with_nets t ns (p ∷ old)) (net-both t p q old new rising rising' tie) ∙ of (has_same_members p q) refl
    where
      low : IsLow t p new
      low x h = subst (λ (k : Bytes). byte_order k (id_key t x) ≡ Less) (sym (same_from_byte_order (id_key t p) (id_key t q) tie)) (rising-first t q new rising' x h)

      later : with_nets t (net t old new) (p ∷ old) ≡ p ∷ new
      later = with_nets-later p (net t old new) old (precedes_net p old new (rising-first t p old rising) low) ∙ ap (λ rows. p ∷ rows) so_far

      of : (b : Bool) → has_same_members p q ≡ b
          → with_nets t (if not b then record { before = Some p; after = Some q } ∷ net t old new else net t old new) (p ∷ old) ≡ q ∷ new
      of true same = later ∙ ap (λ r. r ∷ new) ((Decides-has_same_members p q).0 same)
      of false other = ap (with_row t q) later ∙ ap (λ o. match_ordering o (q ∷ p ∷ new) (q ∷ new) (p ∷ with_row t q new)) (turned (id_key t p) (id_key t q) Equal tie)

  pub net-leads : (old new : List Fields) → AreRising t old → AreRising t new → with_nets t (net t old new) old ≡ new
  net-leads = by_fronts t Leads refl leads-come leads-gone leads-both

  pub no_net : (old new : List Fields) → AreRising t old → AreRising t new → net t old new ≡ [] → old ≡ new
  no_net old new rising rising' none = sym (ap (λ ns. with_nets t ns old) none) ∙ net-leads old new rising rising'

  pub net-same : (old new : List Fields) → AreRising t old → old ≡ new → net t old new ≡ []
  net-same old new rising same = ap (net t old) (sym same) ∙ net-itself old rising
