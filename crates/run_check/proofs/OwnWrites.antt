-- Writes of an open transaction, one after the other, in the check's store.
use Rattle.std.proofs.Common.{◌≡◌, ◌<◌, ◌≤◌, ◌∙◌, ◌+◌, ◌-◌, ◌++◌, ℕ, List, [], ◌∷◌, Some, length, set, slice_get, refl, sym, ap, subst, arith, append-nil, append_assoc, length-append, take_all}
use Rattle.std.proofs.lemmas.List.{length-set}
use Rattle.std.proofs.lemmas.Option.{slice_get_within}
use Rattle.mdb_datum.specs.Bytes.{Bytes}
use Rattle.mdb_datum.specs.Row.{Fields}
use Rattle.mdb_datum.proofs.ListPlaces.{there_within}
use Rattle.mdb_schema.specs.Entries.{entries}
use Rattle.mdb_schema.specs.History.{History, after_writes, state_at}
use Rattle.mdb_schema.specs.Schema.{DbSchema, IndexSchema, TableSchema}
use Rattle.mdb_schema.specs.State.{IsLawfulState, State}
use Rattle.mdb_schema.specs.Write.{Write}
use Rattle.mdb_schema.proofs.HistorySteps.{after_writes-append}
use Rattle.mdb_schema.proofs.LawfulStates.{state_at_lawful, writes_keep}
use Rattle.mdb_schema.proofs.Tables.{rows_lawful, slice_get-set_other, slice_get-set_same}
use Rattle.run_check.specs.declared.sight.Own.{Own}
use Rattle.run_check.specs.declared.sight.Sight.{Sight}
use Rattle.run_check.specs.declared.sight.Stamp.TheVariants as stamps
use Rattle.run_check.specs.declared.store.Store.{Store}
use Rattle.run_check.specs.inner.EditView.{AreReady, AreSeen, seen_of}
use Rattle.run_check.specs.inner.GrowView.{IsGrown}
use Rattle.run_check.specs.inner.StoreView.{Begun, IsSightOf, StandsFor, first_writes, indexes_at}
use Rattle.run_check.specs.inner.WritingView.{HaveMore, IsCarried, state_now}
use Rattle.run_check.proofs.CommitWrites.{maps_same, state_long}
use Rattle.run_check.proofs.TransactionGrows.{transaction_grown}

-- ---- the transactions that have begun

pub more_none : (txn : ℕ) (txns : List Begun) → HaveMore txn [] txns txns
more_none txn txns = record {
  long = refl;
  here = λ b e. e ∙ ap (λ (ws : List Write). Some (record { number = b.number; writes = ws })) (sym (append-nil b.writes));
  others = λ k apart. refl;
}

pub more_then : (txn : ℕ) (ws vs : List Write) (old mid new : List Begun) → HaveMore txn ws old mid → HaveMore txn vs mid new → HaveMore txn (ws ++ vs) old new
more_then txn ws vs old mid new first second = record {
  long = second.long ∙ first.long;
  here = λ b e.
      second.here (record { number = b.number; writes = b.writes ++ ws }) (first.here b e)
      ∙ ap (λ (us : List Write). Some (record { number = b.number; writes = us })) (append_assoc b.writes ws vs);
  others = λ k apart. second.others k apart ∙ first.others k apart;
}

pub more_one : (txn : ℕ) (txns : List Begun) (b : Begun) (w : Write) → slice_get txns (txn - 1) ≡ Some b → HaveMore txn (w ∷ []) txns (set txns (txn - 1) (record { number = b.number; writes = b.writes ++ w ∷ [] }))
more_one txn txns b w there =
    let longer : Begun = record { number = b.number; writes = b.writes ++ w ∷ [] } in
    record {
      long = length-set txns (txn - 1) longer;
      here = λ c e.
          let same : b ≡ c = let h = sym there ∙ e in cc in
          slice_get-set_same txns (txn - 1) longer b there ∙ ap (λ (d : Begun). Some (record { number = d.number; writes = d.writes ++ w ∷ [] })) same;
      others = λ k apart. slice_get-set_other txns (txn - 1) k longer apart;
    }

-- ---- what is seen

first_whole : (txns : List Begun) (own : Own) (b : Begun) → slice_get txns (own.txn - 1) ≡ Some b → own.writes ≡ length b.writes → first_writes txns (Some own) ≡ b.writes
first_whole txns own b there all = rw there (take_all own.writes b.writes (omega (arith, all)))

state_of : (schema : DbSchema) (H : History) (txns : List Begun) (number : ℕ) (own : Own) (b : Begun) → slice_get txns (own.txn - 1) ≡ Some b → own.writes ≡ length b.writes → state_now schema H txns number own ≡ after_writes schema (state_at schema H number) b.writes
state_of schema H txns number own b there all = ap (after_writes schema (state_at schema H number)) (first_whole txns own b there all)

pub now_lawful : (schema : DbSchema) (H : History) (txns : List Begun) (number : ℕ) (own : Own) → IsLawfulState schema (state_now schema H txns number own)
now_lawful schema H txns number own = writes_keep schema (state_at schema H number) (first_writes txns (Some own)) (state_at_lawful schema H number)

-- ---- an open transaction

module _ (schema : DbSchema) (H : History) (txns : List Begun) (number : ℕ) (own : Own) (changed : List Bytes) (carried : IsCarried schema H txns number own changed) where
  abbrev base : State
  base = state_now schema H txns number own

  abbrev here : Sight
  here = record { commits = number; own = Some own }

  pub positive : 0 < own.txn
  positive = let within = slice_get_within txns (own.txn - 1) carried.begun carried.is in omega (arith, within, carried.last)

  pub carried_sight : IsSightOf H txns (record { commits = number; own = Some own })
  carried_sight = record {
    there = carried.there;
    own = λ x e. let same : own ≡ x = cc in
        subst (λ (y : Own). (0 < y.txn) × (t : Begun) × (slice_get txns (y.txn - 1) ≡ Some t) × (t.number ≡ number) × (y.writes ≤ length t.writes)) same
        (positive, carried.begun, carried.is, carried.on, omega (arith, carried.all));
  }

  -- what is seen after writes of it
  module _ (ws : List Write) (now : List Begun) (more : HaveMore own.txn ws txns now) (next : Own) (after : List Bytes) (then_carried : IsCarried schema H now number next after) where
    same_txn : next.txn ≡ own.txn
    same_txn = then_carried.last ∙ more.long ∙ sym carried.last

    made_longer : then_carried.begun ≡ record { number = carried.begun.number; writes = carried.begun.writes ++ ws }
    made_longer =
        let longer : Begun = record { number = carried.begun.number; writes = carried.begun.writes ++ ws } in
        let there : slice_get now (next.txn - 1) ≡ Some longer = ap (λ (n : ℕ). slice_get now (n - 1)) same_txn ∙ more.here carried.begun carried.is in
        let h = sym then_carried.is ∙ there in
        cc

    pub own_txn : next.txn ≡ own.txn
    own_txn = same_txn

    pub own_writes : next.writes ≡ own.writes + length ws
    own_writes =
        let long : length then_carried.begun.writes ≡ length (carried.begun.writes ++ ws) = ap (λ (b : Begun). length b.writes) made_longer in
        omega (arith, then_carried.all, carried.all, long, length-append carried.begun.writes ws)

    pub first_more : first_writes now (Some next) ≡ first_writes txns (Some own) ++ ws
    first_more =
        first_whole now next then_carried.begun then_carried.is then_carried.all
        ∙ ap (λ (b : Begun). b.writes) made_longer
        ∙ ap (λ (us : List Write). us ++ ws) (sym (first_whole txns own carried.begun carried.is carried.all))

    pub state_more : state_now schema H now number next ≡ after_writes schema (state_now schema H txns number own) ws
    state_more = ap (after_writes schema (state_at schema H number)) first_more ∙ after_writes-append schema (state_at schema H number) (first_writes txns (Some own)) ws

  -- ---- with the store

  module _ (st : Store) (stands : StandsFor schema H txns st) (place : ℕ) (t : TableSchema) (there : slice_get schema place ≡ Some t) where
    pub rows_there : (rows : List Fields) × (slice_get base place ≡ Some rows)
    rows_there = there_within base place (omega (arith, slice_get_within schema place t there, state_long schema base (now_lawful schema H txns number own)))

    pub are_seen : (rows : List Fields) → slice_get base place ≡ Some rows → AreSeen t rows (record { commits = number; own = Some own }) (indexes_at st place)
    are_seen rows held = record {
      lawful = rows_lawful schema base place t rows (now_lawful schema H txns number own) there held;
      held = maps_same (seen_of here) (λ (i : IndexSchema). entries t i rows) (indexes_at st place) t.indexes (stands.indexes place t there)
          (λ at x i is index. (stands.each place at t i x there index is).seen here rows carried_sight held);
    }

    pub are_ready : AreReady (stamps.Own own) (indexes_at st place)
    are_ready at x is =
        let i = there_within t.indexes at (omega (arith, slice_get_within (indexes_at st place) at x is, stands.indexes place t there)) in
        let index = stands.each place at t i.0 x there i.1 is in
        λ key o has.
        let made = index.own key o has in
        let within = slice_get_within txns (o.txn - 1) made.1 made.2 in (
          omega (arith, within, carried.last),
          λ same.
              let is_b : made.1 ≡ carried.begun = let h = sym made.2 ∙ ap (λ (n : ℕ). slice_get txns (n - 1)) same ∙ carried.is in cc in
              let few : o.writes < length carried.begun.writes = subst (λ (b : Begun). o.writes < length b.writes) is_b made.3 in
              omega (arith, few, carried.all),
        )

  -- ---- one write

  module _ (w : Write) where
    abbrev pub longer : Begun
    longer = record { number = carried.begun.number; writes = carried.begun.writes ++ w ∷ [] }

    abbrev pub with_one : List Begun
    with_one = set txns (own.txn - 1) longer

    abbrev pub one_more : Own
    one_more = record { txn = own.txn; writes = own.writes + 1 }

    pub own_grown : IsGrown schema H txns H with_one (stamps.Own own) (state_now schema H txns number own) w
    own_grown =
        subst (λ (x : ℕ × ℕ). IsGrown schema H txns H with_one (stamps.Own (record { txn = own.txn; writes = x.1 })) (state_now schema H txns x.0 (record { txn = own.txn; writes = x.1 })) w)
        (λ j. (carried.on j, sym carried.all j))
        (transaction_grown schema H txns own.txn carried.begun w positive carried.is (omega (arith, carried.on, carried.there)))

    pub state_one : state_now schema H with_one number one_more ≡ after_writes schema (state_now schema H txns number own) (w ∷ [])
    state_one =
        state_of schema H with_one number one_more longer (slice_get-set_same txns (own.txn - 1) longer carried.begun carried.is) (omega (arith, carried.all, length-append carried.begun.writes (w ∷ [])))
        ∙ after_writes-append schema (state_at schema H number) carried.begun.writes (w ∷ [])
        ∙ ap (λ (s : State). after_writes schema s (w ∷ [])) (sym (state_of schema H txns number own carried.begun carried.is carried.all))
