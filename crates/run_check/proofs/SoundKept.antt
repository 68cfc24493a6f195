-- What holds of a client holds after a line that begins or ends a transaction, or adds to one.
use Rattle.std.proofs.Common.{arith, ◌≡◌, ◌∙◌, ◌≤◌, ◌<◌, ◌+◌, ◌-◌, ◌++◌, ◌∷◌, ℕ, true, false, List, [], length, map, Option, Some, None, refl, sym, ap, subst, length-append}
use Rattle.std.specs.Prelude.{slice_get}
use Rattle.std.specs.List.Sorted.{IsStrictlySortedBy}
use Rattle.std.specs.declared.alloc.Global.{Global}
use Rattle.std.specs.declared.vec.Vec.{Vec}
use Rattle.std.proofs.lemmas.Bool.{false≢true}
use Rattle.std.proofs.lemmas.Option.{slice_get_within}
use Rattle.mdb_datum.specs.Bytes.{byte_order}
use Rattle.mdb_datum.specs.Row.{Fields}
use Rattle.mdb_datum.proofs.ListPlaces.{get_first}
use Rattle.mdb_schema.specs.History.{History, after_writes, state_at}
use Rattle.mdb_schema.specs.Net.{differ}
use Rattle.mdb_schema.specs.Schema.{DbSchema}
use Rattle.mdb_schema.specs.Write.{Write}
use Rattle.mdb_schema.proofs.Membership.{Contains-nil}
use Rattle.run_check.specs.declared.client.Client.{Client}
use Rattle.run_check.specs.declared.client.Open.TheVariants as opens
use Rattle.run_check.specs.declared.client.Writing.{Writing}
use Rattle.run_check.specs.declared.sight.Own.{Own}
use Rattle.run_check.specs.declared.sight.Sight.{Sight}
use Rattle.run_check.specs.inner.ChangeView.{row_in}
use Rattle.run_check.specs.inner.ClientView.{changed_of}
use Rattle.run_check.specs.inner.SessionView.{IsSound}
use Rattle.run_check.specs.inner.StoreView.{Begun, IsSightOf, first_writes}
use Rattle.run_check.specs.inner.WritingView.{IsCarried}
use Rattle.run_check.proofs.ChangeLines.{differ_told}
use Rattle.run_check.proofs.CommitGrows.{get_last}

-- ---- one client

module _ (schema : DbSchema) (H : History) (txns : List Begun) (v : Client) (sound : IsSound schema H txns v) (n : ℕ) (within : n ≤ length H) where
  pub sound_closed : IsSound schema H txns (record v { last = n; «open» = opens.Nothing })
  sound_closed = record {
    last = within;
    reading = λ m e. cc;
    writing = λ w e. cc;
    carried = λ w e. cc;
    snapshots = sound.snapshots;
    watches = sound.watches;
    sets = sound.sets;
  }

  pub sound_reading : IsSound schema H txns (record v { last = n; «open» = opens.Reading n })
  sound_reading = record {
    last = within;
    reading = λ m e. let same : n ≡ m = cc in subst (λ (k : ℕ). k ≤ length H) same within;
    writing = λ w e. cc;
    carried = λ w e. cc;
    snapshots = sound.snapshots;
    watches = sound.watches;
    sets = sound.sets;
  }

-- with other texts to hand out
module _ (schema : DbSchema) (H : History) (txns : List Begun) (v : Client) (sound : IsSound schema H txns v) (w x : Writing) (was : v.«open» ≡ opens.Writing w) (number : x.number ≡ w.number) (own : x.own ≡ w.own) (changed : x.changed ≡ w.changed) where
  abbrev sight_at : ℕ → Own → Sight
  sight_at n o = record { commits = n; own = Some o }

  its_sight : IsSightOf H txns (record { commits = x.number; own = Some x.own })
  its_sight = subst (λ (n : ℕ). IsSightOf H txns (record { commits = n; own = Some x.own })) (sym number) (subst (λ (o : Own). IsSightOf H txns (record { commits = w.number; own = Some o })) (sym own) (sound.writing w was))

  its_carrying : IsCarried schema H txns x.number x.own (changed_of x)
  its_carrying =
      subst (λ (n : ℕ). IsCarried schema H txns n x.own (changed_of x)) (sym number)
      (subst (λ (o : Own). IsCarried schema H txns w.number o (changed_of x)) (sym own)
      (subst (λ (c : _). IsCarried schema H txns w.number w.own (map (λ (key : Vec ℕ Global). key.items) c.keys)) (sym changed) (sound.carried w was)))

  pub sound_writing : IsSound schema H txns (record v { «open» = opens.Writing x })
  sound_writing = record {
    last = sound.last;
    reading = λ m e. cc;
    writing = λ y e. let same : x ≡ y = cc in subst (λ (z : Writing). IsSightOf H txns (record { commits = z.number; own = Some z.own })) same its_sight;
    carried = λ y e. let same : x ≡ y = cc in subst (λ (z : Writing). IsCarried schema H txns z.number z.own (changed_of z)) same its_carrying;
    snapshots = sound.snapshots;
    watches = sound.watches;
    sets = sound.sets;
  }

-- ---- a transaction more

-- a row doesn't differ from itself
none_differs : (o : Option Fields) → differ o o ≡ false
none_differs None = refl
none_differs (Some row) = sym (differ_told true row row ((λ e. refl), (λ e. refl)))

none_rise : IsStrictlySortedBy byte_order []
unfolding IsStrictlySortedBy
none_rise = tt

sight_more : (H : History) (txns : List Begun) (b : Begun) (s : Sight) → IsSightOf H txns s → IsSightOf H (txns ++ b ∷ []) s
sight_more H txns b s sight = record {
  there = sight.there;
  own = λ x e.
      let o = sight.own x e in
      (o.0, o.1, get_first txns (b ∷ []) (x.txn - 1) (slice_get_within txns (x.txn - 1) o.1 o.2) ∙ o.2, o.3, o.4);
}

module _ (schema : DbSchema) (H : History) (txns : List Begun) (v : Client) (sound : IsSound schema H txns v) (n begun : ℕ) (within : n ≤ length H) (w : Writing) (number : w.number ≡ n) (own : w.own ≡ record { txn = begun; writes = 0 }) (changed : w.changed.keys ≡ []) (next : begun ≡ length txns + 1) where
  abbrev here : Begun
  here = record { number = w.number; writes = [] }

  abbrev more : List Begun
  more = txns ++ here ∷ []

  txn_is : w.own.txn ≡ length txns + 1
  txn_is = ap (λ (o : Own). o.txn) own ∙ next

  none_made : w.own.writes ≡ 0
  none_made = ap (λ (o : Own). o.writes) own

  there : slice_get more (w.own.txn - 1) ≡ Some here
  there = ap (slice_get more) (omega (arith, txn_is)) ∙ get_last txns here

  pub begun_sight : IsSightOf H more (record { commits = w.number; own = Some w.own })
  begun_sight = record {
    there = omega (arith, number, within);
    own = λ x e. let same : w.own ≡ x = cc in
        subst (λ (o : Own). (0 < o.txn) × (t : Begun) × (slice_get more (o.txn - 1) ≡ Some t) × (t.number ≡ w.number) × (o.writes ≤ length t.writes)) same
        (omega (arith, txn_is), here, there, refl, omega (arith, none_made));
  }

  no_writes : first_writes more (Some w.own) ≡ []
  no_writes = rw there (rw none_made refl)

  none_changed : changed_of w ≡ []
  none_changed = ap (map (λ (key : Vec ℕ Global). key.items)) changed

  pub begun_carried : IsCarried schema H more w.number w.own (changed_of w)
  begun_carried = subst (IsCarried schema H more w.number w.own) (sym none_changed) (record {
    there = omega (arith, number, within);
    last = omega (arith, txn_is, length-append txns (here ∷ []));
    begun = here;
    is = there;
    on = refl;
    all = none_made;
    tracked = λ k c. absurd (Contains-nil k c);
    rise = none_rise;
    cover = λ place id t is tracked d.
        absurd (false≢true (sym (none_differs (row_in schema (state_at schema H w.number) place id))
        ∙ ap (λ (ws : List Write). differ (row_in schema (state_at schema H w.number) place id) (row_in schema (after_writes schema (state_at schema H w.number) ws) place id)) (sym no_writes) ∙ d));
  })

  pub sound_begun : IsSound schema H more (record v { last = n; «open» = opens.Writing w })
  sound_begun = record {
    last = within;
    reading = λ m e. cc;
    writing = λ x e. let same : w ≡ x = cc in subst (λ (z : Writing). IsSightOf H more (record { commits = z.number; own = Some z.own })) same begun_sight;
    carried = λ x e. let same : w ≡ x = cc in subst (λ (z : Writing). IsCarried schema H more z.number z.own (changed_of z)) same begun_carried;
    snapshots = λ k s at. sight_more H txns here s (sound.snapshots k s at);
    watches = sound.watches;
    sets = sound.sets;
  }
