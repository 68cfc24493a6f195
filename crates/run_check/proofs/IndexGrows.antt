-- An index stands for one write more.
use Rattle.std.proofs.Common.{◌≡◌, ◌⊎◌, ◌∙◌, ℕ, List, [], Some, slice_get, Contains, refl, sym, ap, inl, inr}
use Rattle.mdb_datum.specs.Bytes.{Bytes}
use Rattle.mdb_datum.specs.Row.{Fields}
use Rattle.mdb_schema.specs.Entries.{entries}
use Rattle.mdb_schema.specs.History.{History}
use Rattle.mdb_schema.specs.Schema.{DbSchema, IndexSchema, TableSchema}
use Rattle.mdb_schema.specs.State.{State}
use Rattle.mdb_schema.specs.Write.{Write}
use Rattle.mdb_schema.proofs.Membership.{Contains-nil}
use Rattle.run_check.specs.declared.sight.Sight.{Sight}
use Rattle.run_check.specs.declared.sight.Stamp.{Stamp}
use Rattle.run_check.specs.inner.EditView.{IsKeyOfAny, IsWrittenIn, seen_of}
use Rattle.run_check.specs.inner.GrowView.{IsGrown, rows_touched, stepped_by}
use Rattle.run_check.specs.inner.IndexView.{IsCommit, KeyVersions}
use Rattle.run_check.specs.inner.StoreView.{Begun, IsIndexOf, IsSightOf, Wrote, state_seen}

-- what is written in no row is as it was
pub nothing_written : (t : TableSchema) (i : IndexSchema) (rows : List Fields) (stamp : Stamp) (x : KeyVersions) → IsWrittenIn t i rows rows [] stamp x x
nothing_written t i rows stamp x = record {
  seen = λ s is was. was;
  unseen = λ s is. refl;
  versions = λ k j. (inl, λ h. elim h [ inl old ↦ old | inr new ↦ absurd (Contains-nil new.0.0 new.0.1) ]);
  own = λ k o. (inl, λ h. elim h [ inl old ↦ old | inr new ↦ absurd (Contains-nil new.0.0 new.0.1) ]);
  commits = λ j. (inl, λ h. elim h [ inl old ↦ old | inr new ↦ absurd (Contains-nil new.0.1.0 new.0.1.1) ]);
}

first_of_two : {P P' Q : Type 0} → (P → P') → P ⊎ Q → P' ⊎ Q
first_of_two f (inl x) = inl (f x)
first_of_two f (inr y) = inr y

module _ (schema : DbSchema) (H : History) (txns : List Begun) (H' : History) (txns' : List Begun) (stamp : Stamp) (base : State) (w : Write) (grown : IsGrown schema H txns H' txns' stamp base w)
    (place : ℕ) (t : TableSchema) (i : IndexSchema) (x y : KeyVersions) (index : IsIndexOf schema H txns place t i x) (before after : List Fields)
    (was : slice_get base place ≡ Some before) (now : slice_get (stepped_by schema base w) place ≡ Some after) (written : IsWrittenIn t i before after (rows_touched schema base w t.name) stamp x y) where
  seen_after : (s : Sight) (rows : List Fields) → IsSightOf H' txns' s → slice_get (state_seen schema H' txns' s) place ≡ Some rows → seen_of s y ≡ entries t i rows
  seen_after s rows sight there = elim (grown.sights s sight) [
    | inl u ↦ written.unseen s u.unseen ∙ index.seen s rows u.sight (ap (λ (st : State). slice_get st place) (sym u.same) ∙ there)
    | inr n ↦
        let same : after ≡ rows = let h = sym now ∙ ap (λ (st : State). slice_get st place) (sym n.now) ∙ there in cc in
        written.seen s n.seen (n.same place t i x index ∙ index.seen n.before before n.sight (ap (λ (st : State). slice_get st place) n.base_seen ∙ was))
        ∙ ap (entries t i) same
  ]

  joined : (j : ℕ) → Contains x.touched j ⊎ (((k : Bytes) × IsKeyOfAny t i (rows_touched schema base w t.name) k) × IsCommit stamp j) → (key : Bytes) × Wrote schema H' t i j key
  joined j (inl old) = let k = (index.touched j).0 old in (k.0, (grown.wrote t i j k.0).1 (inl k.1))
  joined j (inr new) = (new.0.0, (grown.wrote t i j new.0.0).1 (inr (new.0.1, new.1)))

  split : (j : ℕ) (key : Bytes) → Wrote schema H t i j key ⊎ (IsKeyOfAny t i (rows_touched schema base w t.name) key × IsCommit stamp j)
      → Contains x.touched j ⊎ (((k : Bytes) × IsKeyOfAny t i (rows_touched schema base w t.name) k) × IsCommit stamp j)
  split j key (inl old) = inl ((index.touched j).1 (key, old))
  split j key (inr new) = inr ((key, new.0), new.1)

  pub index_grows : IsIndexOf schema H' txns' place t i y
  index_grows = record {
    seen = seen_after;
    written = λ key j. (
      λ h. (grown.wrote t i j key).1 (first_of_two (index.written key j).0 ((written.versions key j).0 h)),
      λ h. (written.versions key j).1 (first_of_two (index.written key j).1 ((grown.wrote t i j key).0 h)),
    );
    own = λ key o h. elim ((written.own key o).0 h) [ inl old ↦ grown.own o (inl (index.own key o old)) | inr new ↦ grown.own o (inr new.1) ];
    touched = λ j. (λ h. joined j ((written.commits j).0 h), λ k. (written.commits j).1 (split j k.0 ((grown.wrote t i j k.0).0 k.1)));
  }
