-- A transaction has one write more.
use Rattle.std.proofs.Common.{◌≡◌, ◌≢◌, ◌⊎◌, ◌<◌, ◌≤◌, ◌∙◌, ◌+◌, ◌-◌, ◌++◌, ◌&&◌, ℕ, List, [], ◌∷◌, Bool, true, false, Option, Some, None, length, nat_eq, nat_lt, set, slice_get, take, refl, sym, ap, subst, inl, inr, arith, length-append}
use Rattle.std.proofs.lemmas.Bool.Decides.{nat_tests}
use Rattle.std.proofs.lemmas.List.{take-append-le, take_all}
use Rattle.mdb_schema.specs.History.{History, after_writes, state_at}
use Rattle.mdb_schema.specs.Schema.{DbSchema, IndexSchema, TableSchema}
use Rattle.mdb_schema.specs.State.{State}
use Rattle.mdb_schema.specs.Write.{Write}
use Rattle.mdb_schema.proofs.HistorySteps.{after_writes-append}
use Rattle.mdb_schema.proofs.Tables.{slice_get-set_other, slice_get-set_same}
use Rattle.run_check.specs.declared.sight.Own.{Own}
use Rattle.run_check.specs.declared.sight.Sight.{Sight}
use Rattle.run_check.specs.declared.sight.Stamp.TheVariants as stamps
use Rattle.run_check.specs.inner.EditView.{seen_of}
use Rattle.run_check.specs.inner.GrowView.{IsGrown, IsMade, IsNowSeen, IsUnseen, stepped_by}
use Rattle.run_check.specs.inner.IndexView.{KeyVersions}
use Rattle.run_check.specs.inner.SlotView.{row_after}
use Rattle.run_check.specs.inner.StoreView.{Begun, IsIndexOf, IsSightOf, first_writes, state_seen}
use Rattle.run_check.proofs.SeenSame.{before_last, pairs_same, own_row_same}

-- ---- the writes of the transaction

first_are : (txns : List Begun) (o : Own) (b : Begun) → slice_get txns (o.txn - 1) ≡ Some b → first_writes txns (Some o) ≡ take o.writes b.writes
first_are txns o b there = rw there refl

first_same : (txns txns' : List Begun) (o : Own) → slice_get txns' (o.txn - 1) ≡ slice_get txns (o.txn - 1) → first_writes txns' (Some o) ≡ first_writes txns (Some o)
first_same txns txns' o same = rw same refl

module _ (schema : DbSchema) (H : History) (txns : List Begun) (txn : ℕ) (b : Begun) (w : Write) (positive : 0 < txn) (begun : slice_get txns (txn - 1) ≡ Some b) (stands : b.number ≤ length H) where
  abbrev pub longer : Begun
  longer = record { number = b.number; writes = b.writes ++ w ∷ [] }

  abbrev pub with_write : List Begun
  with_write = set txns (txn - 1) longer

  abbrev pub stamp : Own
  stamp = record { txn = txn; writes = length b.writes }

  abbrev pub present : Sight
  present = record { commits = b.number; own = Some stamp }

  abbrev pub made_on : State
  made_on = state_seen schema H txns present

  at_own : slice_get with_write (txn - 1) ≡ Some longer
  at_own = slice_get-set_same txns (txn - 1) longer b begun

  at_other : (n : ℕ) → 0 < n → n ≢ txn → slice_get with_write (n - 1) ≡ slice_get txns (n - 1)
  at_other n some apart =
      let place : n - 1 ≢ txn - 1 = λ same. apart (omega (arith, same, some, positive)) in
      slice_get-set_other txns (txn - 1) (n - 1) longer place

  -- ---- what is seen

  present_there : IsSightOf H txns present
  present_there = record {
    there = stands;
    own = λ o e. let same : stamp ≡ o = cc in subst (λ (x : Own). (0 < x.txn) × (t : Begun) × (slice_get txns (x.txn - 1) ≡ Some t) × (t.number ≡ b.number) × (x.writes ≤ length t.writes)) same (positive, b, begun, refl, omega arith);
  }

  base_writes : made_on ≡ after_writes schema (state_at schema H b.number) b.writes
  base_writes = ap (after_writes schema (state_at schema H b.number)) (first_are txns stamp b begun ∙ take_all (length b.writes) b.writes (omega arith))

  abbrev last : Own
  last = record { txn = txn; writes = length b.writes + 1 }

  -- in each index the present sight sees what the next one saw before the write
  seen_alike : (place : ℕ) (t : TableSchema) (i : IndexSchema) (x : KeyVersions) → IsIndexOf schema H txns place t i x → seen_of (record { commits = b.number; own = Some last }) x ≡ seen_of present x
  seen_alike place t i x index =
      pairs_same (record { commits = b.number; own = Some last }) present x.slots
      (λ e h. own_row_same last stamp (row_after b.number None e.1.commits) e.1.own
      (λ v g. before_last txn (length b.writes) v (λ same.
      let made = index.own e.0 (record { txn = v.txn; writes = v.write }) (e.1, h, (v, g, refl, refl)) in
      let is : made.1 ≡ b = let k = sym made.2 ∙ ap (λ (n : ℕ). slice_get txns (n - 1)) same ∙ begun in cc in
      subst (λ (d : Begun). v.write < length d.writes) is made.3)))

  abbrev Case : Sight → Type 0
  Case s = IsUnseen schema H txns H with_write (stamps.Own stamp) s ⊎ IsNowSeen schema H txns H with_write (stamps.Own stamp) made_on w s

  abbrev HasBegun : List Begun → ℕ → Own → Type 0
  HasBegun ts k o = (0 < o.txn) × (t : Begun) × (slice_get ts (o.txn - 1) ≡ Some t) × (t.number ≡ k) × (o.writes ≤ length t.writes)

  sight_from : (k : ℕ) (o : Own) → k ≤ length H → HasBegun txns k o → IsSightOf H txns (record { commits = k; own = Some o })
  sight_from k o there begins = record {
    there = there;
    own = λ x e. let same : o ≡ x = cc in subst (λ (y : Own). HasBegun txns k y) same begins;
  }

  not_of : (k : ℕ) (o : Own) → nat_eq txn o.txn ≡ false → k ≤ length H → HasBegun with_write k o → Case (record { commits = k; own = Some o })
  not_of k o other there begins =
      let apart : o.txn ≢ txn = λ same. let e : nat_eq txn o.txn ≡ true = grind (arith, nat_tests) in let h = sym other ∙ e in cc in
      let same = at_other o.txn begins.0 apart in
      inl (record {
        unseen = ap (λ (c : Bool). c && nat_lt (length b.writes) o.writes) other;
        sight = sight_from k o there (begins.0, begins.1, sym same ∙ begins.2, begins.3, begins.4);
        same = ap (after_writes schema (state_at schema H k)) (first_same txns with_write o same);
      })

  of_own : (k : ℕ) (o : Own) → o.txn ≡ txn → (c : Bool) → nat_lt (length b.writes) o.writes ≡ c → k ≤ length H → HasBegun with_write k o → Case (record { commits = k; own = Some o })
  of_own k o own false early there begins =
      let is : longer ≡ begins.1 = let h = sym at_own ∙ ap (λ (n : ℕ). slice_get with_write (n - 1)) (sym own) ∙ begins.2 in cc in
      let number : b.number ≡ k = ap (λ (d : Begun). d.number) is ∙ begins.3 in
      let few : o.writes ≤ length b.writes = grind (arith, nat_tests) in
      let there_own : slice_get txns (o.txn - 1) ≡ Some b = ap (λ (n : ℕ). slice_get txns (n - 1)) own ∙ begun in
      let now_own : slice_get with_write (o.txn - 1) ≡ Some longer = ap (λ (n : ℕ). slice_get with_write (n - 1)) own ∙ at_own in
      inl (record {
        unseen = (λ j. nat_eq txn o.txn && early j) ∙ no_more (nat_eq txn o.txn);
        sight = sight_from k o there (begins.0, b, there_own, number, few);
        same = ap (after_writes schema (state_at schema H k)) (first_are with_write o longer now_own ∙ take-append-le o.writes b.writes (w ∷ []) few ∙ sym (first_are txns o b there_own));
      })
    where
      no_more : (c : Bool) → (c && false) ≡ false
      no_more true = refl
      no_more false = refl
  of_own k o own true late there begins =
      let is : longer ≡ begins.1 = let h = sym at_own ∙ ap (λ (n : ℕ). slice_get with_write (n - 1)) (sym own) ∙ begins.2 in cc in
      let number : b.number ≡ k = ap (λ (d : Begun). d.number) is ∙ begins.3 in
      let reached : length b.writes < o.writes = grind (arith, nat_tests) in
      let long : length longer.writes ≡ length begins.1.writes = ap (λ (d : Begun). length d.writes) is in
      let all : o.writes ≡ length b.writes + 1 = omega (arith, reached, begins.4, long, length-append b.writes (w ∷ [])) in
      let now_own : slice_get with_write (o.txn - 1) ≡ Some longer = ap (λ (n : ℕ). slice_get with_write (n - 1)) own ∙ at_own in
      let whole : first_writes with_write (Some o) ≡ b.writes ++ w ∷ [] =
      first_are with_write o longer now_own ∙ take_all o.writes (b.writes ++ w ∷ []) (omega (arith, all, length-append b.writes (w ∷ []))) in
      let eq : nat_eq txn o.txn ≡ true = grind (arith, nat_tests) in
      let sight_is : record { commits = k; own = Some o } ≡ record { commits = b.number; own = Some last } = λ j. record { commits = sym number j; own = Some (record { txn = own j; writes = all j }) } in
      inr (record {
        seen = (λ j. eq j && late j);
        before = present;
        sight = present_there;
        base_seen = refl;
        now =
            (λ j. after_writes schema (state_at schema H (sym number j)) (whole j))
            ∙ after_writes-append schema (state_at schema H b.number) b.writes (w ∷ [])
            ∙ ap (λ (s : State). stepped_by schema s w) (sym base_writes);
        same = λ place t i x index. ap (λ (s : Sight). seen_of s x) sight_is ∙ seen_alike place t i x index;
      })

  by_own : (k : ℕ) (own : Option Own) → IsSightOf H with_write (record { commits = k; own = own }) → Case (record { commits = k; own = own })
  by_own k None sight = inl (record { unseen = refl; sight = record { there = sight.there; own = λ x e. cc }; same = refl })
  by_own k (Some o) sight = of (nat_eq txn o.txn) refl
    where
      of : (c : Bool) → nat_eq txn o.txn ≡ c → Case (record { commits = k; own = Some o })
      of false e = not_of k o e sight.there (sight.own o refl)
      of true e = let own : o.txn ≡ txn = grind (arith, nat_tests) in of_own k o own (nat_lt (length b.writes) o.writes) refl sight.there (sight.own o refl)

  -- ---- what is made

  still_made : (o : Own) → IsMade txns o → IsMade with_write o
  still_made o made = of (nat_eq o.txn txn) refl
    where
      of : (c : Bool) → nat_eq o.txn txn ≡ c → IsMade with_write o
      of true e =
          let own : o.txn ≡ txn = grind (arith, nat_tests) in
          let is : made.1 ≡ b = let k = sym made.2 ∙ ap (λ (n : ℕ). slice_get txns (n - 1)) own ∙ begun in cc in
          let few : o.writes < length b.writes = subst (λ (d : Begun). o.writes < length d.writes) is made.3 in
          (made.0, longer, ap (λ (n : ℕ). slice_get with_write (n - 1)) own ∙ at_own, omega (arith, few, length-append b.writes (w ∷ [])))
      of false e =
          let apart : o.txn ≢ txn = λ same. let f : nat_eq o.txn txn ≡ true = grind (arith, nat_tests) in let h = sym e ∙ f in cc in
          (made.0, made.1, at_other o.txn made.0 apart ∙ made.2, made.3)

  now_made : (o : Own) → (o.txn ≡ txn) × (o.writes ≡ length b.writes) → IsMade with_write o
  now_made o same = (
    omega (arith, same.0, positive),
    longer,
    ap (λ (n : ℕ). slice_get with_write (n - 1)) same.0 ∙ at_own,
    omega (arith, same.1, length-append b.writes (w ∷ [])),
  )

  pub transaction_grown : IsGrown schema H txns H with_write (stamps.Own stamp) made_on w
  transaction_grown = record {
    sights = λ s sight. by_own s.commits s.own sight;
    wrote = λ t i j key. (inl, λ h. elim h [ inl old ↦ old | inr new ↦ absurd new.1 ]);
    own = λ o h. elim h [ inl made ↦ still_made o made | inr now ↦ now_made o now ];
  }
