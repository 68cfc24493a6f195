-- A store stands for a commit without writes behind its history, and for a transaction without writes.
use Rattle.std.proofs.Common.{◌≡◌, ◌<◌, ◌≤◌, ◌∙◌, ◌+◌, ◌-◌, ◌++◌, ◌&&◌, ℕ, List, [], ◌∷◌, Bool, true, false, Option, Some, None, length, nat_eq, nat_le, nat_lt, slice_get, take, Contains, refl, sym, ap, subst, arith, length-append}
use Rattle.std.specs.Prelude.{if◌then◌else◌}
use Rattle.std.proofs.lemmas.Bool.Decides.{nat_tests}
use Rattle.std.proofs.lemmas.List.{take_all}
use Rattle.std.proofs.lemmas.Option.{slice_get_within}
use Rattle.mdb_datum.specs.Bytes.{Bytes}
use Rattle.mdb_datum.specs.Row.{Fields}
use Rattle.mdb_datum.proofs.ListPlaces.{get_first}
use Rattle.mdb_schema.specs.Entries.{entries}
use Rattle.mdb_schema.specs.History.{Commit, History, after_writes, state_at}
use Rattle.mdb_schema.specs.Schema.{DbSchema, IndexSchema, TableSchema}
use Rattle.mdb_schema.specs.State.{State}
use Rattle.mdb_schema.specs.Touched.{Touch, rows_written}
use Rattle.mdb_schema.specs.Write.{Write}
use Rattle.mdb_schema.proofs.Membership.{Contains-nil}
use Rattle.run_check.specs.declared.sight.Own.{Own}
use Rattle.run_check.specs.declared.sight.Sight.{Sight}
use Rattle.run_check.specs.declared.slot.OwnVersion as own_version
use Rattle.run_check.specs.declared.slot.Version as version
use Rattle.run_check.specs.declared.store.Store.{Store}
use Rattle.run_check.specs.inner.EditView.{seen_of}
use Rattle.run_check.specs.inner.GrowView.{IsMade}
use Rattle.run_check.specs.inner.IndexView.{KeyVersions}
use Rattle.run_check.specs.inner.SlotView.{Versions, is_of, latest, own_row, row_after, row_or}
use Rattle.run_check.specs.inner.StoreView.{Begun, IsIndexOf, IsSightOf, StandsFor, Wrote, first_writes, state_seen}
use Rattle.run_check.proofs.CommitGrows.{get_last, none_made, state_early, state_last}
use Rattle.run_check.proofs.SeenSame.{both_see, pairs_same, row_after_same}

-- ---- a commit

module _ (schema : DbSchema) (H : History) (c : Commit) (none : c.writes ≡ []) where
  abbrev longer : History
  longer = H ++ c ∷ []

  early : (t : TableSchema) (i : IndexSchema) (j : ℕ) (key : Bytes) → Wrote schema H t i j key → Wrote schema longer t i j key
  early t i j key wrote =
      let within = slice_get_within H (j - 1) wrote.1 wrote.2 in (
        wrote.0,
        wrote.1,
        get_first H (c ∷ []) (j - 1) within ∙ wrote.2,
        subst (λ (s : State). Touch schema s wrote.1.writes t i key) (sym (state_early schema H c (j - 1) (omega (arith, within)))) wrote.3,
      )

  back : (t : TableSchema) (i : IndexSchema) (j : ℕ) (key : Bytes) → Wrote schema longer t i j key → Wrote schema H t i j key
  back t i j key wrote = of (nat_lt (j - 1) (length H)) refl
    where
      of : (b : Bool) → nat_lt (j - 1) (length H) ≡ b → Wrote schema H t i j key
      of true e =
          let within : j - 1 < length H = grind (arith, nat_tests) in (
            wrote.0,
            wrote.1,
            sym (get_first H (c ∷ []) (j - 1) within) ∙ wrote.2,
            subst (λ (s : State). Touch schema s wrote.1.writes t i key) (state_early schema H c (j - 1) (omega (arith, within))) wrote.3,
          )
      of false e =
          let late : length H ≤ j - 1 = grind (arith, nat_tests) in
          let within = slice_get_within longer (j - 1) wrote.1 wrote.2 in
          let place : j - 1 ≡ length H = omega (arith, within, late, length-append H (c ∷ [])) in
          let same : c ≡ wrote.1 = let h = sym (get_last H c) ∙ ap (slice_get longer) (sym place) ∙ wrote.2 in cc in
          let touch = wrote.3 in
          absurd (Contains-nil touch.0 (subst (λ (ws : List Write). Contains (rows_written schema (state_at schema longer (j - 1)) ws t.name) touch.0) (ap (λ (d : Commit). d.writes) (sym same) ∙ none) touch.1))

  module _ (place : ℕ) (t : TableSchema) (i : IndexSchema) (x : KeyVersions) (index : IsIndexOf schema H [] place t i x) where
    -- no version is of the new commit
    version_early : (e : Bytes × Versions) → Contains x.slots e → (v : version.Version) → Contains e.1.commits v → v.commit ≤ length H
    version_early e h v g =
        let wrote = (index.written e.0 v.commit).0 (e.1, h, (v, g, refl)) in
        let within = slice_get_within H (v.commit - 1) wrote.1 wrote.2 in
        let some = wrote.0 in
        omega (arith, within, some)

    plain : (G : History) (s : Sight) → state_seen schema G [] s ≡ state_at schema G s.commits
    plain G s = ap (after_writes schema (state_at schema G s.commits)) (none_made s.own)

    no_own : (s : Sight) → IsSightOf longer [] s → (o : Own) → s.own ≡ Some o → ⊥
    no_own s sight o e = let h = sight.own o e in let is = h.2 in cc

    seen_longer : (s : Sight) (rows : List Fields) → IsSightOf longer [] s → slice_get (state_seen schema longer [] s) place ≡ Some rows → (b : Bool) → nat_le s.commits (length H) ≡ b → seen_of s x ≡ entries t i rows
    seen_longer s rows sight there true e =
        let below : s.commits ≤ length H = grind (arith, nat_tests) in
        index.seen s rows (record { there = below; own = λ o own. absurd (no_own s sight o own) })
        (ap (λ (st : State). slice_get st place) (plain H s ∙ sym (plain longer s ∙ state_early schema H c s.commits below)) ∙ there)
    seen_longer s rows sight there false e =
        let above : length H < s.commits = grind (arith, nat_tests) in
        let last : s.commits ≡ length H + 1 = omega (arith, above, sight.there, length-append H (c ∷ [])) in
        let before : Sight = record { commits = length H; own = s.own } in
        let state : state_seen schema longer [] s ≡ state_seen schema H [] before =
        plain longer s ∙ state_last schema H c s.commits last ∙ ap (after_writes schema (state_at schema H (length H))) none ∙ sym (plain H before) in
        pairs_same s before x.slots
        (λ f h. ap (λ (o : Option Fields). own_row s.own o f.1.own)
        (row_after_same s.commits (length H) None f.1.commits (λ v g. both_see v.commit s.commits (length H) (omega (arith, version_early f h v g, above)) (version_early f h v g))))
        ∙ index.seen before rows (record { there = omega arith; own = λ o own. absurd (no_own s sight o own) })
        (ap (λ (st : State). slice_get st place) (sym state) ∙ there)

    pub index_begins : IsIndexOf schema longer [] place t i x
    index_begins = record {
      seen = λ s rows sight there. seen_longer s rows sight there (nat_le s.commits (length H)) refl;
      written = λ key j. (λ h. early t i j key ((index.written key j).0 h), λ w. (index.written key j).1 (back t i j key w));
      own = index.own;
      touched = λ j. (
        λ h. let k = (index.touched j).0 h in (k.0, early t i j k.0 k.1),
        λ k. (index.touched j).1 (k.0, back t i j k.0 k.1),
      );
    }

  pub commit_begins : (st : Store) → StandsFor schema H [] st → StandsFor schema longer [] st
  commit_begins st stands = record {
    tables = stands.tables;
    indexes = stands.indexes;
    each = λ place at t i x is index there. index_begins place t i x (stands.each place at t i x is index there);
  }

-- ---- a transaction

-- of no writes there is no row
not_of : (o : Own) (v : own_version.OwnVersion) → o.writes ≡ 0 → is_of o v ≡ false
not_of o v none =
    let below : nat_lt v.write o.writes ≡ false = grind (arith, nat_tests) in
    ap (λ (c : Bool). nat_eq v.txn o.txn && c) below ∙ no_more (nat_eq v.txn o.txn)
  where
    no_more : (c : Bool) → (c && false) ≡ false
    no_more true = refl
    no_more false = refl

none_latest : (o : Own) → o.writes ≡ 0 → (was : Option own_version.OwnVersion) (vs : List own_version.OwnVersion) → latest o was vs ≡ was
none_latest o none was [] = refl
none_latest o none was (v ∷ vs) = ap (λ (c : Bool). latest o (if c then Some v else was) vs) (not_of o v none) ∙ none_latest o none was vs

no_row : (o : Own) → o.writes ≡ 0 → (was : Option Fields) (vs : List own_version.OwnVersion) → own_row (Some o) was vs ≡ was
no_row o none was vs = ap (row_or was) (none_latest o none None vs)

module _ (schema : DbSchema) (H : History) (txns : List Begun) (b : Begun) (none : b.writes ≡ []) where
  abbrev begun : List Begun
  begun = txns ++ b ∷ []

  still_made : (o : Own) → IsMade txns o → IsMade begun o
  still_made o made = (made.0, made.1, get_first txns (b ∷ []) (o.txn - 1) (slice_get_within txns (o.txn - 1) made.1 made.2) ∙ made.2, made.3)

  first_same : (o : Own) → slice_get begun (o.txn - 1) ≡ slice_get txns (o.txn - 1) → first_writes begun (Some o) ≡ first_writes txns (Some o)
  first_same o same = rw same refl

  first_none : (o : Own) → slice_get begun (o.txn - 1) ≡ Some b → first_writes begun (Some o) ≡ []
  first_none o there =
      let is : first_writes begun (Some o) ≡ take o.writes b.writes = rw there refl in
      let empty : length b.writes ≡ 0 = ap (λ (ws : List Write). length ws) none in
      is ∙ take_all o.writes b.writes (omega (arith, empty)) ∙ none

  module _ (place : ℕ) (t : TableSchema) (i : IndexSchema) (x : KeyVersions) (index : IsIndexOf schema H txns place t i x) where
    by_own : (k : ℕ) (own : Option Own) (rows : List Fields) → IsSightOf H begun (record { commits = k; own = own }) → slice_get (state_seen schema H begun (record { commits = k; own = own })) place ≡ Some rows
        → seen_of (record { commits = k; own = own }) x ≡ entries t i rows
    by_own k None rows sight there = index.seen (record { commits = k; own = None }) rows (record { there = sight.there; own = λ o e. cc }) there
    by_own k (Some o) rows sight there = of (nat_lt (o.txn - 1) (length txns)) refl
      where
        begins : (0 < o.txn) × (d : Begun) × (slice_get begun (o.txn - 1) ≡ Some d) × (d.number ≡ k) × (o.writes ≤ length d.writes)
        begins = sight.own o refl

        of : (c : Bool) → nat_lt (o.txn - 1) (length txns) ≡ c → seen_of (record { commits = k; own = Some o }) x ≡ entries t i rows
        of true e =
            let within : o.txn - 1 < length txns = grind (arith, nat_tests) in
            let same = get_first txns (b ∷ []) (o.txn - 1) within in
            index.seen (record { commits = k; own = Some o }) rows
            (record {
              there = sight.there;
              own = λ p q. let is : o ≡ p = cc in
                  subst (λ (y : Own). (0 < y.txn) × (d : Begun) × (slice_get txns (y.txn - 1) ≡ Some d) × (d.number ≡ k) × (y.writes ≤ length d.writes)) is (begins.0, begins.1, sym same ∙ begins.2, begins.3, begins.4);
            })
            (ap (λ (ws : List Write). slice_get (after_writes schema (state_at schema H k) ws) place) (sym (first_same o same)) ∙ there)
        of false e =
            let late : length txns ≤ o.txn - 1 = grind (arith, nat_tests) in
            let within = slice_get_within begun (o.txn - 1) begins.1 begins.2 in
            let last : o.txn - 1 ≡ length txns = omega (arith, within, late, length-append txns (b ∷ [])) in
            let there_b : slice_get begun (o.txn - 1) ≡ Some b = ap (slice_get begun) last ∙ get_last txns b in
            let same : b ≡ begins.1 = let h = sym there_b ∙ begins.2 in cc in
            let empty : length b.writes ≡ 0 = ap (λ (ws : List Write). length ws) none in
            let long : length b.writes ≡ length begins.1.writes = ap (λ (d : Begun). length d.writes) same in
            let no_writes : o.writes ≡ 0 = omega (arith, begins.4, long, empty) in
            pairs_same (record { commits = k; own = Some o }) (record { commits = k; own = None }) x.slots
            (λ f h. no_row o no_writes (row_after k None f.1.commits) f.1.own)
            ∙ index.seen (record { commits = k; own = None }) rows (record { there = sight.there; own = λ p q. cc })
            (ap (λ (ws : List Write). slice_get (after_writes schema (state_at schema H k) ws) place) (sym (first_none o there_b)) ∙ there)

    pub index_of_begun : IsIndexOf schema H begun place t i x
    index_of_begun = record {
      seen = λ s rows sight there. by_own s.commits s.own rows sight there;
      written = index.written;
      own = λ key o h. still_made o (index.own key o h);
      touched = index.touched;
    }

  pub transaction_begins : (st : Store) → StandsFor schema H txns st → StandsFor schema H begun st
  transaction_begins st stands = record {
    tables = stands.tables;
    indexes = stands.indexes;
    each = λ place at t i x is index there. index_of_begun place t i x (stands.each place at t i x is index there);
  }
