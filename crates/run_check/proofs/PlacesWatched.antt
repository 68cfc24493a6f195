-- What may be told of watches at places, by what the code keeps of them.
use Rattle.std.proofs.Common.{arith, ◌≡◌, refl, ap, subst, sym, ◌∙◌, ℕ, zero, suc, ◌<◌, List, [], ◌∷◌, length, get_or, Bool, true, false, Option, Some, None, Decides}
use Rattle.std.specs.Prelude.{option_and_then, slice_get}
use Rattle.std.specs.List.{cons_option}
use Rattle.std.proofs.lemmas.Option.{same_Some, slice_get-get_or}
use Rattle.mdb_datum.proofs.ListPlaces.{there_within}
use Rattle.mdb_schema.specs.Guarded.{IsUnchanged}
use Rattle.mdb_schema.specs.History.{History}
use Rattle.mdb_schema.specs.Schema.{DbSchema}
use Rattle.mdb_schema.specs.Watchable.{IsTouched}
use Rattle.client_script.specs.Client as plain
use Rattle.client_script.specs.Watching.{AreUnchanged}
use Rattle.run_check.specs.declared.watching.Watch.{Watch}
use Rattle.run_check.specs.declared.watching.Watching.{Watching}
use Rattle.run_check.specs.inner.ClientView.{watch_known, watches_at, watches_known}
use Rattle.run_check.specs.inner.WaitView.{ArePlaced, HasFiredAt, IsEnd}
use Rattle.run_check.proofs.WatchesKnown.{named_at, named_from}

-- ---- one watch

false_true : false ≡ true → ⊥
false_true e = cc

some_none : {A : Type 0} (a : A) → None ≡ Some a → ⊥
some_none a e = cc

module _ (x : Watching) (paired : length x.watches.names ≡ length x.watches.values.items) where
  absent : (at : ℕ) (y : plain.Watch) → slice_get x.watches.values.items at ≡ None → slice_get (watches_known x) at ≡ Some y → ⊥
  absent at y none known =
      let found = named_from watch_known x.watches.names x.watches.values.items at y known in
      some_none found.value (sym none ∙ found.there)

  module _ (schema : DbSchema) (H : History) (n : ℕ) where
    pub fired_decides : (place : Option ℕ) (at : ℕ) (w : Watch) (r : Bool) → place ≡ Some at → slice_get x.watches.values.items at ≡ Some w → Decides r (IsTouched schema H w.query.now w.number n) → Decides r (HasFiredAt schema H (watches_known x) place n)
    fired_decides place at w r is there decides =
        let found = named_at watch_known x.watches.names x.watches.values.items at w paired there in
        let here : option_and_then (slice_get (watches_known x)) place ≡ Some (watch_known found.0 w) = ap (option_and_then (slice_get (watches_known x))) is ∙ found.1 in (
          λ e. (watch_known found.0 w, here, decides.0 e),
          λ f. decides.1 (subst (λ (y : plain.Watch). IsTouched schema H y.query y.number n) (same_Some f.0 (watch_known found.0 w) (sym f.1 ∙ here)) f.2),
        )

    pub none_fired : (place : Option ℕ) (at : ℕ) → place ≡ Some at → slice_get x.watches.values.items at ≡ None → Decides false (HasFiredAt schema H (watches_known x) place n)
    none_fired place at is none = (
      λ e. absurd (false_true e),
      λ f. absurd (absent at f.0 none (sym (ap (option_and_then (slice_get (watches_known x))) is) ∙ f.1)),
    )

-- what is decided of a place where a watch is known is decided of that
pub fired_there : (schema : DbSchema) (H : History) (ws : List plain.Watch) (n at : ℕ) (w : plain.Watch) (r : Bool) → slice_get ws at ≡ Some w → Decides r (HasFiredAt schema H ws (Some at) n) → Decides r (IsTouched schema H w.query w.number n)
fired_there schema H ws n at w r there decides = (
  λ e. let f = decides.0 e in subst (λ (y : plain.Watch). IsTouched schema H y.query y.number n) (same_Some f.0 w (sym f.1 ∙ there)) f.2,
  λ touched. decides.1 (w, there, touched),
)

-- ---- watches at places

-- the watch at a place, if one is there, may be told to be quiet after so many commits
abbrev pub IsQuietAt : DbSchema → History → ℕ → List plain.Watch → ℕ → ℕ → Type 0
IsQuietAt schema H client ws place n =
    (w : plain.Watch) → slice_get ws place ≡ Some w → IsUnchanged schema H client w.query w.number n

module _ (schema : DbSchema) (H : History) (client : ℕ) (ws : List plain.Watch) (n : ℕ) where
  pub all_quiet : (places : List ℕ) → ((k : ℕ) → k < length places → IsQuietAt schema H client ws (get_or places k 0) n) → AreUnchanged schema H client (watches_at ws places) n
  all_quiet [] each = tt
  all_quiet (p ∷ places) each = of (slice_get ws p) refl (all_quiet places (λ k below. each (suc k) (omega (arith, below))))
    where
      of : (o : Option plain.Watch) → slice_get ws p ≡ o → AreUnchanged schema H client (watches_at ws places) n → AreUnchanged schema H client (cons_option o (watches_at ws places)) n
      of None is rest = rest
      of (Some w) is rest = (each zero (omega arith) w is, rest)

  pub each_quiet : (places : List ℕ) (k : ℕ) → k < length places → AreUnchanged schema H client (watches_at ws places) n → IsQuietAt schema H client ws (get_or places k 0) n
  each_quiet [] k below all = absurd (omega (arith, below))
  each_quiet (p ∷ places) k below all = of (λ j within rest. each_quiet places j within rest) (slice_get ws p) refl k below all
    where
      of : ((j : ℕ) → j < length places → AreUnchanged schema H client (watches_at ws places) n → IsQuietAt schema H client ws (get_or places j 0) n) → (o : Option plain.Watch) → slice_get ws p ≡ o → (k : ℕ) → k < length (p ∷ places) → AreUnchanged schema H client (cons_option o (watches_at ws places)) n → IsQuietAt schema H client ws (get_or (p ∷ places) k 0) n
      of later None is zero below all = λ w there. absurd (some_none w (sym is ∙ there))
      of later None is (suc k) below all = later k (omega (arith, below)) all
      of later (Some x) is zero below all = λ w there. subst (λ (y : plain.Watch). IsUnchanged schema H client y.query y.number n) (same_Some x w (sym is ∙ there)) all.0
      of later (Some x) is (suc k) below all = later k (omega (arith, below)) all.1

  -- one that isn't quiet decides, and so do all that are
  pub one_apart : (places : List ℕ) (k : ℕ) (r : Bool) → ArePlaced ws places → k < length places → r ≡ false → ((w : plain.Watch) → slice_get ws (get_or places k 0) ≡ Some w → Decides r (IsUnchanged schema H client w.query w.number n)) → Decides false (AreUnchanged schema H client (watches_at ws places) n)
  one_apart places k r placed below apart decides =
      let found = there_within ws (get_or places k 0) (placed k (get_or places k 0) (slice_get-get_or places k 0 below)) in (
        λ e. absurd (false_true e),
        λ all. absurd (false_true (sym apart ∙ (decides found.0 found.1).1 (each_quiet places k below all found.0 found.1))),
      )

  pub none_apart : (places : List ℕ) → ((k : ℕ) → k < length places → IsQuietAt schema H client ws (get_or places k 0) n) → Decides true (AreUnchanged schema H client (watches_at ws places) n)
  none_apart places each = (λ e. all_quiet places each, λ all. refl)

  -- ---- the end of a wait

  module _ (quiet : List ℕ) (place : Option ℕ) (number : ℕ) where
    pub not_fired : (r : Bool) → r ≡ false → Decides r (HasFiredAt schema H ws place number) → Decides false (IsEnd schema H client ws quiet n place number)
    not_fired r apart decides = (λ e. absurd (false_true e), λ end. absurd (false_true (sym apart ∙ decides.1 end.fired)))

    pub end_decides : (f r : Bool) → f ≡ true → Decides f (HasFiredAt schema H ws place number) → Decides r (AreUnchanged schema H client (watches_at ws quiet) n) → Decides r (IsEnd schema H client ws quiet n place number)
    end_decides f r is fired decides = (λ e. record { fired = fired.0 is; quiet = decides.0 e }, λ end. decides.1 end.quiet)
