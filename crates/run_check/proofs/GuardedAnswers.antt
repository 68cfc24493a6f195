-- What watches are told, by what the index says in which their question looks.
use Rattle.std.proofs.Common.{◌≡◌, ◌∙◌, ◌<◌, ◌≤◌, ◌+◌, ◌-◌, ◌&&◌, ◌++◌, ℕ, zero, suc, Bool, true, false, cond, List, [], ◌∷◌, length, get_or, map, reverse, Option, Some, None, Ok, Contains, Decides, arith, refl, sym, ap, subst}
use Rattle.std.specs.Prelude.{slice_get, unwrap_or, option_map}
use Rattle.std.specs.FinMap as finite
use Rattle.std.proofs.lemmas.Bool.{and_parts, false≢true}
use Rattle.std.proofs.lemmas.List.{map-append, reverse-append, reverse-reverse}
use Rattle.mdb_datum.specs.Bytes.{Bytes, byte_order, is_prefix}
use Rattle.mdb_datum.specs.Pairs.{first_item, last_item, rows_of, with_prefix}
use Rattle.mdb_datum.specs.Row.{Fields, Pair}
use Rattle.mdb_schema.specs.Answer.{Asked, Lookup, answer, ask, ask_rows, is_exact, lookup_of, picked, unknown_table}
use Rattle.mdb_schema.specs.Entries.{entries}
use Rattle.mdb_schema.specs.Guarded.{IsGuarded, IsUnchanged}
use Rattle.mdb_schema.specs.History.{History, IsMadeBy, state_at}
use Rattle.mdb_schema.specs.Query.{Query}
use Rattle.mdb_schema.specs.Schema.{DbSchema, IndexSchema, TableSchema}
use Rattle.mdb_schema.specs.State.{AreLawfulRows, IsLawfulState, State, Table}
use Rattle.mdb_schema.specs.Tests.{◌>>=◌, needed}
use Rattle.mdb_schema.specs.Touched.{Touch}
use Rattle.mdb_schema.specs.Watchable.{HasFound, IsTouched, is_for_one, is_watchable}
use Rattle.mdb_schema.specs.declared.answer.Answer.{Answer}
use Rattle.mdb_schema.specs.declared.answer.Answer.TheVariants.{One, Many}
use Rattle.mdb_schema.specs.declared.ask.Ask.{Ask}
use Rattle.mdb_schema.specs.declared.ask.Ask.TheVariants.{First, Last, Get, GetReverse, Lower, ReverseLower, Longest}
use Rattle.mdb_schema.proofs.EntriesOfRows.{sorted-entries}
use Rattle.mdb_schema.proofs.LawfulStates.{state_at_lawful}
use Rattle.mdb_schema.proofs.Tables.{rows_lawful, table_at-some}
use Rattle.run_check.proofs.AnswerRows.{first_exact, last_exact}
use Rattle.run_check.proofs.SharedRows.{first_of_rows, last_of_rows, pairs_of_rows, share_rows, sorted_prefix}
use Rattle.run_check.specs.declared.lookup.Lookup as code
use Rattle.run_check.specs.declared.sight.Own.{Own}
use Rattle.run_check.specs.inner.GuardView.{IsMeantSame, IsWatchedAt}
use Rattle.run_check.specs.inner.IndexView.{AreSame, HasVersion, IsKeyWritten, IsRowSame, IsTouchedIn, KeyVersions, after_commit, pairs_seen}
use Rattle.run_check.specs.inner.StoreView.{Begun, IsSightOf, Wrote}

-- what a question means that asks for neither end is all that its keys mean
pub all_meant_same : (a : Ask) (meant : Bytes → Bool) (first last : ℕ) (x : KeyVersions) (r : Bool) → (a ≡ First → ⊥) → (a ≡ Last → ⊥) → Decides r (AreSame meant first last x) → Decides r (IsMeantSame a meant first last x)
all_meant_same First meant first last x r one other decides = absurd (one refl)
all_meant_same Last meant first last x r one other decides = absurd (other refl)
all_meant_same Get meant first last x r one other decides = decides
all_meant_same GetReverse meant first last x r one other decides = decides
all_meant_same Lower meant first last x r one other decides = decides
all_meant_same ReverseLower meant first last x r one other decides = decides
all_meant_same Longest meant first last x r one other decides = decides

-- ---- an index of lawful rows after each commit

abbrev After : ℕ → KeyVersions → List Pair
After j x = pairs_seen (after_commit j) x.slots

-- after a commit the pairs are the entries of some lawful rows
pub record IsOfRows (t : TableSchema) (i : IndexSchema) (ps : List Pair) : Type 0 where
  pub rows : List Fields
  pub lawful : AreLawfulRows t rows
  pub held : ps ≡ entries t i rows

module _ (t : TableSchema) (i : IndexSchema) (within : Contains t.indexes i) (key : Bytes) (ps qs : List Pair) (p : IsOfRows t i ps) (q : IsOfRows t i qs) where
  rise : (xs : List Pair) → IsOfRows t i xs → finite.is_sorted byte_order xs ≡ true
  rise xs x = ap (finite.is_sorted byte_order) x.held ∙ sorted-entries t i x.rows

  -- the rows that begin with a key are the same just where the pairs are
  pub same_all : rows_of (with_prefix key ps) ≡ rows_of (with_prefix key qs) → with_prefix key ps ≡ with_prefix key qs
  same_all h =
      ap (with_prefix key) p.held
      ∙ pairs_of_rows (with_prefix key (entries t i p.rows)) (with_prefix key (entries t i q.rows))
      (sorted_prefix key _ (sorted-entries t i p.rows)) (sorted_prefix key _ (sorted-entries t i q.rows))
      (share_rows t i key p.rows q.rows q.lawful within) (share_rows t i key q.rows p.rows p.lawful within)
      (sym (ap (λ es. rows_of (with_prefix key es)) p.held) ∙ h ∙ ap (λ es. rows_of (with_prefix key es)) q.held)
      ∙ sym (ap (with_prefix key) q.held)

  pub same_first : first_item (rows_of (with_prefix key ps)) ≡ first_item (rows_of (with_prefix key qs)) → first_item (with_prefix key ps) ≡ first_item (with_prefix key qs)
  same_first h =
      ap (λ es. first_item (with_prefix key es)) p.held
      ∙ first_of_rows (with_prefix key (entries t i p.rows)) (with_prefix key (entries t i q.rows))
      (sorted_prefix key _ (sorted-entries t i p.rows)) (sorted_prefix key _ (sorted-entries t i q.rows))
      (share_rows t i key p.rows q.rows q.lawful within) (share_rows t i key q.rows p.rows p.lawful within)
      (sym (ap (λ es. first_item (rows_of (with_prefix key es))) p.held) ∙ h ∙ ap (λ es. first_item (rows_of (with_prefix key es))) q.held)
      ∙ sym (ap (λ es. first_item (with_prefix key es)) q.held)

  pub same_last : last_item (rows_of (with_prefix key ps)) ≡ last_item (rows_of (with_prefix key qs)) → last_item (with_prefix key ps) ≡ last_item (with_prefix key qs)
  same_last h =
      ap (λ es. last_item (with_prefix key es)) p.held
      ∙ last_of_rows (with_prefix key (entries t i p.rows)) (with_prefix key (entries t i q.rows))
      (sorted_prefix key _ (sorted-entries t i p.rows)) (sorted_prefix key _ (sorted-entries t i q.rows))
      (share_rows t i key p.rows q.rows q.lawful within) (share_rows t i key q.rows p.rows p.lawful within)
      (sym (ap (λ es. last_item (rows_of (with_prefix key es))) p.held) ∙ h ∙ ap (λ es. last_item (rows_of (with_prefix key es))) q.held)
      ∙ sym (ap (λ es. last_item (with_prefix key es)) q.held)

-- the first row of a list of pairs goes by the first pair
first_row : (ps : List Pair) → first_item (rows_of ps) ≡ option_map (λ (p : Pair). p.1) (first_item ps)
first_row [] = refl
first_row (p ∷ ps) = refl

map-reverse : (ps : List Pair) → map (λ (p : Pair). p.1) (reverse ps) ≡ reverse (map (λ (p : Pair). p.1) ps)
map-reverse [] = refl
map-reverse (p ∷ ps) =
    ap (map (λ (q : Pair). q.1)) (reverse-append (p ∷ []) ps) ∙ map-append (λ (q : Pair). q.1) (reverse ps) (p ∷ [])
    ∙ ap (λ rs. rs ++ p.1 ∷ []) (map-reverse ps) ∙ sym (reverse-append (p.1 ∷ []) (map (λ (q : Pair). q.1) ps))

last_row : (ps : List Pair) → last_item (rows_of ps) ≡ option_map (λ (p : Pair). p.1) (last_item ps)
last_row ps = ap first_item (sym (map-reverse ps)) ∙ first_row (reverse ps)

one_same : (a b : Option Fields) → One a ≡ One b → a ≡ b
one_same a b e = ap one e
  where
    one : Answer → Option Fields
    one (One r) = r
    one (Many rs) = None

many_same : (a b : List Fields) → Many a ≡ Many b → a ≡ b
many_same a b e = ap many e
  where
    many : Answer → List Fields
    many (One r) = []
    many (Many rs) = rs

-- ---- the answer to a question, after each commit

module _ (t : TableSchema) (i : IndexSchema) (within : Contains t.indexes i) (exact : Bool) (key : Bytes) (x : KeyVersions) (first last : ℕ)
    (of_rows : (j : ℕ) → j ≤ last → IsOfRows t i (After j x)) where
  abbrev AreAnswersSame : Ask → Type 0
  AreAnswersSame a = (j : ℕ) → first ≤ j → j ≤ last → answer a exact key (After j x) ≡ answer a exact key (After first x)

  rising : (j : ℕ) → j ≤ last → finite.is_sorted byte_order (After j x) ≡ true
  rising j low = let r = of_rows j low in ap (finite.is_sorted byte_order) r.held ∙ sorted-entries t i r.rows

  -- it looks up one row
  pub row_decides : (a : Ask) (b : Bool) → (exact && is_for_one a) ≡ true → Decides b (IsRowSame key first last x) → Decides b (AreAnswersSame a)
  row_decides First b one decides =
      let e = (and_parts exact true one).0 in
      let at : (j : ℕ) → j ≤ last → finite.find byte_order key (After j x) ≡ first_item (picked exact key (After j x)) = λ j low. first_exact exact key (After j x) e (rising j low) in (
        (λ t j low high. ap One (sym (at j high) ∙ decides.0 t j low high ∙ at first (omega arith))),
        (λ h. decides.1 (λ j low high. at j high ∙ one_same _ _ (h j low high) ∙ sym (at first (omega arith)))),
      )
  row_decides Last b one decides =
      let e = (and_parts exact true one).0 in
      let at : (j : ℕ) → j ≤ last → finite.find byte_order key (After j x) ≡ last_item (picked exact key (After j x)) = λ j low. last_exact exact key (After j x) e (rising j low) in (
        (λ t j low high. ap One (sym (at j high) ∙ decides.0 t j low high ∙ at first (omega arith))),
        (λ h. decides.1 (λ j low high. at j high ∙ one_same _ _ (h j low high) ∙ sym (at first (omega arith)))),
      )
  row_decides Get b one decides = absurd (false≢true (and_parts exact false one).1)
  row_decides GetReverse b one decides = absurd (false≢true (and_parts exact false one).1)
  row_decides Lower b one decides = absurd (false≢true (and_parts exact false one).1)
  row_decides ReverseLower b one decides = absurd (false≢true (and_parts exact false one).1)
  row_decides Longest b one decides = absurd (false≢true (and_parts exact false one).1)

  not_exact : (c : Bool) → (c && true) ≡ false → c ≡ false
  not_exact true e = e
  not_exact false e = refl

  -- it is for the pairs that begin with the key
  pub meant_decides : (a : Ask) (b : Bool) → is_watchable a ≡ true → (exact && is_for_one a) ≡ false → Decides b (IsMeantSame a (is_prefix key) first last x) → Decides b (AreAnswersSame a)
  meant_decides First b watched many decides =
      let e = not_exact exact many in
      let at : (j : ℕ) → first_item (picked exact key (After j x)) ≡ first_item (rows_of (with_prefix key (After j x))) = λ j. ap (λ c. first_item (picked c key (After j x))) e in (
        (λ t j low high. ap One (at j ∙ first_row (with_prefix key (After j x)) ∙ ap (option_map (λ (p : Pair). p.1)) (decides.0 t j low high)
            ∙ sym (first_row (with_prefix key (After first x))) ∙ sym (at first))),
        (λ h. decides.1 (λ j low high. same_first t i within key (After j x) (After first x) (of_rows j high) (of_rows first (omega arith))
            (sym (at j) ∙ one_same _ _ (h j low high) ∙ at first))),
      )
  meant_decides Last b watched many decides =
      let e = not_exact exact many in
      let at : (j : ℕ) → last_item (picked exact key (After j x)) ≡ last_item (rows_of (with_prefix key (After j x))) = λ j. ap (λ c. last_item (picked c key (After j x))) e in (
        (λ t j low high. ap One (at j ∙ last_row (with_prefix key (After j x)) ∙ ap (option_map (λ (p : Pair). p.1)) (decides.0 t j low high)
            ∙ sym (last_row (with_prefix key (After first x))) ∙ sym (at first))),
        (λ h. decides.1 (λ j low high. same_last t i within key (After j x) (After first x) (of_rows j high) (of_rows first (omega arith))
            (sym (at j) ∙ one_same _ _ (h j low high) ∙ at first))),
      )
  meant_decides Get b watched many decides = (
    (λ t j low high. ap (λ ps. Many (rows_of ps)) (decides.0 t j low high)),
    (λ h. decides.1 (λ j low high. same_all t i within key (After j x) (After first x) (of_rows j high) (of_rows first (omega arith)) (many_same _ _ (h j low high)))),
  )
  meant_decides GetReverse b watched many decides = (
    (λ t j low high. ap (λ ps. Many (reverse (rows_of ps))) (decides.0 t j low high)),
    (λ h. decides.1 (λ j low high. same_all t i within key (After j x) (After first x) (of_rows j high) (of_rows first (omega arith))
        (sym (reverse-reverse (rows_of (with_prefix key (After j x)))) ∙ ap reverse (many_same _ _ (h j low high)) ∙ reverse-reverse (rows_of (with_prefix key (After first x)))))),
  )
  meant_decides Lower b watched many decides = absurd (false≢true watched)
  meant_decides ReverseLower b watched many decides = absurd (false≢true watched)
  meant_decides Longest b watched many decides = absurd (false≢true watched)

-- ---- a watch

pub rows_at : (schema : DbSchema) (s : State) (place : ℕ) (t : TableSchema) → IsLawfulState schema s → slice_get schema place ≡ Some t → (rows : List Fields) × (slice_get s place ≡ Some rows)
rows_at [] s place t lawful e = absurd (none e)
  where
    none : slice_get [] place ≡ Some t → ⊥
    none h = cc
rows_at (u ∷ us) [] place t lawful e = absurd lawful
rows_at (u ∷ us) (rows ∷ s) zero t lawful e = (rows, refl)
rows_at (u ∷ us) (rows ∷ s) (suc place) t lawful e = rows_at us s place t lawful.1 e

there_get : {A : Type 0} (xs : List A) (n : ℕ) (x : A) → slice_get xs n ≡ Some x → Contains xs x
there_get [] n x h = absurd (none h)
  where
    none : slice_get [] n ≡ Some x → ⊥
    none e = cc
there_get (y ∷ xs) zero x h = (0, omega arith, ap (λ o. unwrap_or o x) h)
there_get (y ∷ xs) (suc n) x h = let w = there_get xs n x h in (suc w.0, omega (arith, w.1), w.2)

module _ (schema : DbSchema) (H : History) (txns : List Begun) (q : Query) (l : code.Lookup) (xs : List KeyVersions) (w : IsWatchedAt schema H txns q l xs) where
  abbrev table : TableSchema
  table = w.lookup.table

  abbrev index : IndexSchema
  index = w.lookup.at.index

  pub indexed : Contains table.indexes index
  indexed = there_get table.indexes l.index index w.lookup.index

  sight : (j : ℕ) → j ≤ length H → IsSightOf H txns (after_commit j)
  sight j low = record { there = low; own = λ o e. absurd (none o e) }
    where
      none : (o : Own) → None ≡ Some o → ⊥
      none o e = cc

  pub of_rows : (j : ℕ) → j ≤ length H → IsOfRows table index (After j w.index)
  of_rows j low =
      let lawful = state_at_lawful schema H j in
      let r = rows_at schema (state_at schema H j) l.table table lawful w.lookup.there in
      record {
        rows = r.0;
        lawful = rows_lawful schema (state_at schema H j) l.table table r.0 lawful w.lookup.there r.1;
        held = w.stands.seen (after_commit j) r.0 (sight j low) r.1;
      }

  pub answer_after : (j : ℕ) → j ≤ length H → ask schema (state_at schema H j) q ≡ Ok (answer q.ask l.exact l.key.items (After j w.index))
  answer_after j low =
      let r = rows_at schema (state_at schema H j) l.table table (state_at_lawful schema H j) w.lookup.there in
      let here : Table = record { place = l.table; schema = table; rows = r.0 } in
      ap (λ o. needed unknown_table o >>= (λ (x : Table). ask_rows x.schema x.rows q))
      (table_at-some schema (state_at schema H j) q.table here (record { place = w.lookup.named; schema = w.lookup.there; rows = r.1 }))
      ∙ ap (λ o. o >>= (λ at. Ok (answer q.ask (is_exact at.index q) at.key (entries table at.index r.0)))) w.lookup.looked
      ∙ ap (λ es. Ok (answer q.ask (is_exact index q) w.lookup.at.key es)) (sym (w.stands.seen (after_commit j) r.0 (sight j low) r.1))
      ∙ ap (λ b. Ok (answer q.ask b w.lookup.at.key (After j w.index))) (sym w.lookup.exact)
      ∙ ap (λ k. Ok (answer q.ask l.exact k (After j w.index))) (sym w.lookup.key)

  ok_same : (a b : Answer) → ◌≡◌ {A = Asked Answer} (Ok a) (Ok b) → a ≡ b
  ok_same a b e = cc

  -- the index decides whether the answers are the same
  pub guarded_decides : (first last : ℕ) (b : Bool) → last ≤ length H
      → Decides b ((j : ℕ) → first ≤ j → j ≤ last → answer q.ask l.exact l.key.items (After j w.index) ≡ answer q.ask l.exact l.key.items (After first w.index))
      → Decides b (IsGuarded schema H q first last)
  guarded_decides first last b within decides = (
    (λ t j low high. answer_after j (omega arith) ∙ ap Ok (decides.0 t j low high) ∙ sym (answer_after first (omega arith))),
    (λ h. decides.1 (λ j low high. ok_same _ _ (sym (answer_after j (omega arith)) ∙ h j low high ∙ answer_after first (omega arith)))),
  )

  pub guarded_by_row : (first last : ℕ) (b : Bool) → last ≤ length H → (l.exact && is_for_one q.ask) ≡ true → Decides b (IsRowSame l.key.items first last w.index)
      → Decides b (IsGuarded schema H q first last)
  guarded_by_row first last b within one decides =
      guarded_decides first last b within
      (row_decides table index indexed l.exact l.key.items w.index first last (λ j low. of_rows j (omega arith)) q.ask b one decides)

  pub guarded_by_keys : (first last : ℕ) (b : Bool) → last ≤ length H → (l.exact && is_for_one q.ask) ≡ false
      → Decides b (IsMeantSame q.ask (is_prefix l.key.items) first last w.index) → Decides b (IsGuarded schema H q first last)
  guarded_by_keys first last b within many decides =
      guarded_decides first last b within
      (meant_decides table index indexed l.exact l.key.items w.index first last (λ j low. of_rows j (omega arith)) q.ask b w.watchable many decides)

  -- ---- quiet

  pub quiet_decides : (caller v n : ℕ) (own b : Bool) → Decides own (IsMadeBy H caller n) → Decides b (IsGuarded schema H q v (cond own n (n - 1)))
      → Decides b (IsUnchanged schema H caller q v n)
  quiet_decides caller v n true b made decides =
      ((λ t. record { before_last = λ j low high. decides.0 t j low (omega arith); own = λ m. decides.0 t }), (λ h. decides.1 (h.own (made.0 refl))))
  quiet_decides caller v n false b made decides =
      ((λ t. record { before_last = decides.0 t; own = λ m. absurd (false≢true (made.1 m)) }), (λ h. decides.1 h.before_last))

pub one_index : {A : Type 0} (xs : List A) (n : ℕ) (x y : A) → slice_get xs n ≡ Some y → x ≡ get_or xs n x → y ≡ x
one_index [] n x y h at = absurd (none h)
  where
    none : slice_get [] n ≡ Some y → ⊥
    none e = cc
one_index (z ∷ xs) zero x y h at = ap (λ o. unwrap_or o y) (sym h) ∙ sym at
one_index (z ∷ xs) (suc n) x y h at = one_index xs n x y h at

pub quiet_within : (n : ℕ) (own : Bool) → cond own n (n - 1) ≤ n
quiet_within n true = omega arith
quiet_within n false = omega arith

-- ---- fired

module _ (schema : DbSchema) (H : History) (txns : List Begun) (q : Query) (l : code.Lookup) (xs : List KeyVersions) (w : IsWatchedAt schema H txns q l xs) (v n : ℕ) where
  abbrev at : Lookup
  at = w.lookup.at

  touched_by : (key : Bytes) → (HasFound schema H q v at → key ≡ at.key) → (j : ℕ) → Wrote schema H w.lookup.table at.index j key → v < j → j ≤ n → IsTouched schema H q v n
  touched_by key own j wrote low high = record {
    place = l.table;
    named = w.lookup.named;
    table = w.lookup.table;
    there = w.lookup.there;
    at = at;
    looked = w.lookup.looked;
    before = j - 1;
    since = omega (arith, wrote.0);
    reached = omega (arith, wrote.0);
    commit = wrote.1;
    made = wrote.2;
    key = key;
    touched = wrote.3;
    own = own;
  }

  same_ok : (a b : Lookup) → ◌≡◌ {A = Asked Lookup} (Ok a) (Ok b) → a ≡ b
  same_ok a b e = cc

  -- what was touched is in this index
  wrote_there : (t : IsTouched schema H q v n) → Wrote schema H w.lookup.table at.index (t.before + 1) t.key × (HasFound schema H q v at → t.key ≡ at.key)
  wrote_there t =
      let place : t.place ≡ l.table = ap (λ o. unwrap_or o l.table) (sym t.named ∙ w.lookup.named) in
      let table : t.table ≡ w.lookup.table = ap (λ o. unwrap_or o t.table) (sym t.there ∙ ap (slice_get schema) place ∙ w.lookup.there) in
      let looked : t.at ≡ at = same_ok t.at at (sym t.looked ∙ ap (λ u. lookup_of u q) table ∙ w.lookup.looked) in
      let back : (t.before + 1) - 1 ≡ t.before = omega arith in (
        (
          omega arith,
          t.commit,
          ap (slice_get H) back ∙ t.made,
          subst (λ b. Touch schema (state_at schema H b) t.commit.writes w.lookup.table at.index t.key) (sym back)
              (subst (λ u. Touch schema (state_at schema H t.before) t.commit.writes u at.index t.key) table
              (subst (λ (a : Lookup). Touch schema (state_at schema H t.before) t.commit.writes t.table a.index t.key) looked t.touched)),
        ),
        λ f. t.own (subst (λ (a : Lookup). HasFound schema H q v a) (sym looked) f) ∙ ap (λ (a : Lookup). a.key) looked,
      )

  pub fired_at_key : (b : Bool) → HasFound schema H q v at → Decides b (IsKeyWritten l.key.items v n w.index) → Decides b (IsTouched schema H q v n)
  fired_at_key b found decides = (
    (λ t. let k = decides.0 t in touched_by l.key.items (λ f. w.lookup.key) k.0 ((w.stands.written l.key.items k.0).0 k.1) k.2 k.3),
    (λ t. let r = wrote_there t in
        let key = r.1 found ∙ sym w.lookup.key in
        decides.1 (t.before + 1, subst (λ (k : Bytes). HasVersion w.index k (t.before + 1)) key ((w.stands.written t.key (t.before + 1)).1 r.0), omega (arith, t.since), omega (arith, t.reached))),
  )

  pub fired_at_any : (b : Bool) → (HasFound schema H q v at → ⊥) → Decides b (IsTouchedIn v n w.index) → Decides b (IsTouched schema H q v n)
  fired_at_any b lost decides = (
    (λ t. let k = decides.0 t in let wrote = (w.stands.touched k.0).0 k.1 in touched_by wrote.0 (λ f. absurd (lost f)) k.0 wrote.1 k.2 k.3),
    (λ t. let r = wrote_there t in
        decides.1 (t.before + 1, (w.stands.touched (t.before + 1)).1 (t.key, r.0), omega (arith, t.since), omega (arith, t.reached))),
  )
