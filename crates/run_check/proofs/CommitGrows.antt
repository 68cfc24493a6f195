-- The commit that is being made has one write more.
use Rattle.std.proofs.Common.{◌≡◌, ◌⊎◌, ◌<◌, ◌≤◌, ◌∙◌, ◌+◌, ◌-◌, ◌++◌, ℕ, List, [], ◌∷◌, Bool, true, false, Option, Some, None, length, nat_le, nat_lt, slice_get, Contains, refl, sym, ap, subst, inl, inr, arith, length-append}
use Rattle.std.proofs.lemmas.Bool.Decides.{nat_tests}
use Rattle.std.proofs.lemmas.List.{append-nil, append_assoc, take-append-le, take_all}
use Rattle.std.proofs.lemmas.List.Elements.{Contains-append_cases, Contains-append_left, Contains-append_right}
use Rattle.std.proofs.lemmas.Option.{slice_get_within}
use Rattle.mdb_datum.specs.Bytes.{Bytes}
use Rattle.mdb_datum.specs.Row.{Fields}
use Rattle.mdb_datum.proofs.ListPlaces.{get_first}
use Rattle.mdb_schema.specs.History.{Commit, History, after_commits, after_writes, state_at, state_or}
use Rattle.mdb_schema.specs.Schema.{DbSchema, IndexSchema, TableSchema}
use Rattle.mdb_schema.specs.State.{State, empty_state}
use Rattle.mdb_schema.specs.Touched.{Touch, rows_of_step, rows_written}
use Rattle.mdb_schema.specs.Write.{Write, step}
use Rattle.mdb_schema.proofs.HistorySteps.{after_commits-more, after_writes-append}
use Rattle.run_check.specs.declared.sight.Own.{Own}
use Rattle.run_check.specs.declared.sight.Sight.{Sight}
use Rattle.run_check.specs.declared.sight.Stamp.TheVariants as stamps
use Rattle.run_check.specs.inner.EditView.{IsKeyOfAny}
use Rattle.run_check.specs.inner.GrowView.{IsGrown, IsMade, IsNowSeen, IsUnseen, rows_touched, stepped_by}
use Rattle.run_check.specs.inner.IndexView.{IsCommit}
use Rattle.run_check.specs.inner.StoreView.{IsSightOf, Wrote, first_writes, state_seen}

-- ---- lists with one more at the end

pub get_last : {X : Type 0} (xs : List X) (y : X) → slice_get (xs ++ y ∷ []) (length xs) ≡ Some y
get_last [] y = refl
get_last (x ∷ xs) y = get_last xs y

-- ---- states

module _ (schema : DbSchema) (H : History) (c : Commit) where
  pub state_early : (k : ℕ) → k ≤ length H → state_at schema (H ++ c ∷ []) k ≡ state_at schema H k
  state_early k h = ap (after_commits schema (empty_state schema)) (take-append-le k H (c ∷ []) h)

  pub state_last : (k : ℕ) → k ≡ length H + 1 → state_at schema (H ++ c ∷ []) k ≡ after_writes schema (state_at schema H (length H)) c.writes
  state_last k e =
      ap (after_commits schema (empty_state schema)) (take_all k (H ++ c ∷ []) (omega (arith, e, length-append H (c ∷ []))))
      ∙ after_commits-more schema (empty_state schema) H c
      ∙ ap (λ (G : History). after_writes schema (after_commits schema (empty_state schema) G) c.writes) (sym (take_all (length H) H (omega arith)))

pub written-append : (schema : DbSchema) (s : State) (ws vs : List Write) (name : Bytes) → rows_written schema s (ws ++ vs) name ≡ rows_written schema s ws name ++ rows_written schema (after_writes schema s ws) vs name
written-append schema s [] vs name = refl
written-append schema s (w ∷ ws) vs name =
    ap (λ (rs : List Fields). rows_of_step name w (step schema s w) ++ rs) (written-append schema (state_or s (step schema s w)) ws vs name)
    ∙ sym (append_assoc (rows_of_step name w (step schema s w)) (rows_written schema (state_or s (step schema s w)) ws name) (rows_written schema (after_writes schema s (w ∷ ws)) vs name))

-- the rows of one more write
pub written_last : (schema : DbSchema) (s : State) (ws : List Write) (w : Write) (name : Bytes) → rows_written schema s (ws ++ w ∷ []) name ≡ rows_written schema s ws name ++ rows_touched schema (after_writes schema s ws) w name
written_last schema s ws w name =
    written-append schema s ws (w ∷ []) name
    ∙ ap (λ (rs : List Fields). rows_written schema s ws name ++ rs) (append-nil (rows_of_step name w (step schema (after_writes schema s ws) w)))

-- without transactions there are no writes of any
pub none_made : (o : Option Own) → first_writes [] o ≡ []
none_made None = refl
none_made (Some own) = refl

-- ---- one write more

module _ (schema : DbSchema) (H : History) (c : Commit) (w : Write) where
  abbrev pub more : Commit
  more = record { caller = c.caller; writes = c.writes ++ w ∷ [] }

  abbrev pub number : ℕ
  number = length H + 1

  abbrev pub made_on : State
  made_on = state_at schema (H ++ c ∷ []) (length H + 1)

  abbrev start : State
  start = state_at schema H (length H)

  base_is : made_on ≡ after_writes schema start c.writes
  base_is = state_last schema H c (length H + 1) refl

  state_now : (k : ℕ) → k ≡ length H + 1 → state_at schema (H ++ more ∷ []) k ≡ stepped_by schema made_on w
  state_now k e =
      state_last schema H more k e ∙ after_writes-append schema start c.writes (w ∷ [])
      ∙ ap (λ (s : State). stepped_by schema s w) (sym base_is)

  no_own : (G : History) (s : Sight) → IsSightOf G [] s → (o : Own) → s.own ≡ Some o → ⊥
  no_own G s sight o e = let h = sight.own o e in let is = h.2 in cc

  sight_before : (s : Sight) → IsSightOf (H ++ more ∷ []) [] s → IsSightOf (H ++ c ∷ []) [] s
  sight_before s sight = record {
    there = omega (arith, sight.there, length-append H (c ∷ []), length-append H (more ∷ []));
    own = λ o e. absurd (no_own (H ++ more ∷ []) s sight o e);
  }

  seen_plain : (G : History) (s : Sight) → state_seen schema G [] s ≡ state_at schema G s.commits
  seen_plain G s = ap (after_writes schema (state_at schema G s.commits)) (none_made s.own)

  sight_case : (s : Sight) → IsSightOf (H ++ more ∷ []) [] s → (b : Bool) → nat_le number s.commits ≡ b
      → IsUnseen schema (H ++ c ∷ []) [] (H ++ more ∷ []) [] (stamps.Commit number) s ⊎ IsNowSeen schema (H ++ c ∷ []) [] (H ++ more ∷ []) [] (stamps.Commit number) made_on w s
  sight_case s sight false e =
      let early : s.commits ≤ length H = grind (arith, nat_tests) in
      inl (record {
        unseen = e;
        sight = sight_before s sight;
        same = seen_plain (H ++ more ∷ []) s ∙ state_early schema H more s.commits early ∙ sym (seen_plain (H ++ c ∷ []) s ∙ state_early schema H c s.commits early);
      })
  sight_case s sight true e =
      let reached : number ≤ s.commits = grind (arith, nat_tests) in
      let last : s.commits ≡ length H + 1 = omega (arith, reached, sight.there, length-append H (more ∷ [])) in
      inr (record {
        seen = e;
        before = s;
        sight = sight_before s sight;
        base_seen = seen_plain (H ++ c ∷ []) s ∙ ap (state_at schema (H ++ c ∷ [])) last;
        now = seen_plain (H ++ more ∷ []) s ∙ state_now s.commits last;
        same = λ place t i x index. refl;
      })

  -- ---- the keys that commits wrote

  module _ (t : TableSchema) (i : IndexSchema) (key : Bytes) where
    early_wrote : (d e : Commit) (j : ℕ) → j - 1 < length H → Wrote schema (H ++ d ∷ []) t i j key → Wrote schema (H ++ e ∷ []) t i j key
    early_wrote d e j early wrote = (
      wrote.0,
      wrote.1,
      get_first H (e ∷ []) (j - 1) early ∙ sym (get_first H (d ∷ []) (j - 1) early) ∙ wrote.2,
      subst (λ (s : State). Touch schema s wrote.1.writes t i key) (state_early schema H d (j - 1) (omega (arith, early)) ∙ sym (state_early schema H e (j - 1) (omega (arith, early)))) wrote.3,
    )

    -- what the last commit wrote
    last_wrote : (d : Commit) (j : ℕ) → length H ≤ j - 1 → Wrote schema (H ++ d ∷ []) t i j key → (j ≡ number) × Touch schema start d.writes t i key
    last_wrote d j late wrote =
        let within = slice_get_within (H ++ d ∷ []) (j - 1) wrote.1 wrote.2 in
        let place : j - 1 ≡ length H = omega (arith, within, late, length-append H (d ∷ [])) in
        let positive = wrote.0 in
        let is_last : j ≡ length H + 1 = omega (arith, positive, place) in
        let same : d ≡ wrote.1 = let h = sym (get_last H d) ∙ ap (slice_get (H ++ d ∷ [])) (sym place) ∙ wrote.2 in cc in (
          is_last,
          subst (λ (e : Commit). Touch schema start e.writes t i key) (sym same)
              (subst (λ (s : State). Touch schema s wrote.1.writes t i key) (ap (state_at schema (H ++ d ∷ [])) place ∙ state_early schema H d (length H) (omega arith)) wrote.3),
        )

    wrote_last : (d : Commit) (j : ℕ) → j ≡ number → Touch schema start d.writes t i key → Wrote schema (H ++ d ∷ []) t i j key
    wrote_last d j is_last touch =
        let place : length H ≡ j - 1 = omega (arith, is_last) in (
          omega (arith, is_last),
          d,
          ap (slice_get (H ++ d ∷ [])) (sym place) ∙ get_last H d,
          subst (λ (s : State). Touch schema s d.writes t i key) (sym (ap (state_at schema (H ++ d ∷ [])) (sym place) ∙ state_early schema H d (length H) (omega arith))) touch,
        )

    abbrev new_keys : Type 0
    new_keys = IsKeyOfAny t i (rows_touched schema made_on w t.name) key

    touched_rows : rows_written schema start more.writes t.name ≡ rows_written schema start c.writes t.name ++ rows_touched schema made_on w t.name
    touched_rows =
        written_last schema start c.writes w t.name
        ∙ ap (λ (s : State). rows_written schema start c.writes t.name ++ rows_touched schema s w t.name) (sym base_is)

    touch_split : Touch schema start more.writes t i key → Touch schema start c.writes t i key ⊎ new_keys
    touch_split touch = elim (Contains-append_cases (rows_written schema start c.writes t.name) (rows_touched schema made_on w t.name) touch.0 (subst (λ (rs : List Fields). Contains rs touch.0) touched_rows touch.1)) [
      | inl old ↦ inl (touch.0, old, touch.2)
      | inr new ↦ inr (touch.0, new, touch.2)
    ]

    touch_old : Touch schema start c.writes t i key → Touch schema start more.writes t i key
    touch_old touch = (touch.0, subst (λ (rs : List Fields). Contains rs touch.0) (sym touched_rows) (Contains-append_left (rows_written schema start c.writes t.name) (rows_touched schema made_on w t.name) touch.0 touch.1), touch.2)

    touch_new : new_keys → Touch schema start more.writes t i key
    touch_new touch = (touch.0, subst (λ (rs : List Fields). Contains rs touch.0) (sym touched_rows) (Contains-append_right (rows_written schema start c.writes t.name) (rows_touched schema made_on w t.name) touch.0 touch.1), touch.2)

    forth : (j : ℕ) → Wrote schema (H ++ more ∷ []) t i j key → Wrote schema (H ++ c ∷ []) t i j key ⊎ (new_keys × IsCommit (stamps.Commit number) j)
    forth j wrote = of (nat_lt (j - 1) (length H)) refl
      where
        of : (b : Bool) → nat_lt (j - 1) (length H) ≡ b → Wrote schema (H ++ c ∷ []) t i j key ⊎ (new_keys × IsCommit (stamps.Commit number) j)
        of true e = let early : j - 1 < length H = grind (arith, nat_tests) in inl (early_wrote more c j early wrote)
        of false e =
            let late : length H ≤ j - 1 = grind (arith, nat_tests) in
            let last = last_wrote more j late wrote in
            elim (touch_split last.1) [ inl old ↦ inl (wrote_last c j last.0 old) | inr new ↦ inr (new, last.0) ]

    back : (j : ℕ) → Wrote schema (H ++ c ∷ []) t i j key ⊎ (new_keys × IsCommit (stamps.Commit number) j) → Wrote schema (H ++ more ∷ []) t i j key
    back j (inr new) = wrote_last more j new.1 (touch_new new.0)
    back j (inl wrote) = of (nat_lt (j - 1) (length H)) refl
      where
        of : (b : Bool) → nat_lt (j - 1) (length H) ≡ b → Wrote schema (H ++ more ∷ []) t i j key
        of true e = let early : j - 1 < length H = grind (arith, nat_tests) in early_wrote c more j early wrote
        of false e =
            let late : length H ≤ j - 1 = grind (arith, nat_tests) in
            let last = last_wrote c j late wrote in
            wrote_last more j last.0 (touch_old last.1)

  not_made : (o : Own) → IsMade [] o → ⊥
  not_made o made = let is = made.2 in cc

  pub commit_grown : IsGrown schema (H ++ c ∷ []) [] (H ++ more ∷ []) [] (stamps.Commit number) made_on w
  commit_grown = record {
    sights = λ s sight. sight_case s sight (nat_le number s.commits) refl;
    wrote = λ t i j key. (forth t i key j, back t i key j);
    own = λ o h. elim h [ inl made ↦ absurd (not_made o made) | inr none ↦ absurd none ];
  }
