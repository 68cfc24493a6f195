-- The steps of a wipe: its beginning, each row that is listed, and its end.
use Rattle.std.proofs.Common.{◌≡◌, ◌≢◌, ◌∙◌, ◌||◌, ◌++◌, ◌<◌, ℕ, List, [], ◌∷◌, map, filter, drop, set, length, slice_get, codes, Bool, true, false, not, cond, Option, Some, None, Result, Ok, Err, OnOk, option_map, is_some, Contains, eq-eqb, eqb-true, refl, sym, ap, subst, inl, inr, arith}
use Rattle.std.specs.Prelude.{nat_eq, unwrap_or}
use Rattle.std.proofs.lemmas.Bool.{or_right, both_ways, not_from_false, false_from_ne_true}
use Rattle.std.proofs.lemmas.List.{append-nil, append_assoc, length-map, map-set}
use Rattle.std.proofs.lemmas.Option.{slice_get-map}
use Rattle.mdb_datum.specs.Bytes.{is_prefix}
use Rattle.mdb_datum.specs.Pairs.{first_item, rows_of, with_prefix}
use Rattle.mdb_datum.specs.Row.{Fields, Pair}
use Rattle.mdb_datum.proofs.ListPlaces.{there_within}
use Rattle.mdb_encode.specs.Bytes.{Bytes}
use Rattle.mdb_schema.specs.Entries.{entries}
use Rattle.mdb_schema.specs.LawfulSchema.{IsLawfulTable}
use Rattle.mdb_schema.specs.Schema.{IndexSchema, TableSchema, index_place}
use Rattle.mdb_schema.specs.State.{id_key, full_keys, row_at, without_row, AreLawfulRows}
use Rattle.mdb_schema.specs.Wipe.{once, without_rows}
use Rattle.mdb_schema.specs.Write.{is_among}
use Rattle.mdb_schema.specs.Edits.{without_all, full_keys_of}
use Rattle.mdb_schema.proofs.EntriesAfter.{entries-without_row}
use Rattle.mdb_schema.proofs.EntriesOfRows.{apart_in, Contains-entries, Contains-from_entries}
use Rattle.mdb_schema.proofs.IdEntries.{id_pairs, entries-id, row_at-entries}
use Rattle.mdb_schema.proofs.IdKeys.{IdIndex, id_index}
use Rattle.mdb_schema.proofs.LawfulRows.{without_row_lawful}
use Rattle.mdb_schema.proofs.ListedRows.{entries-rows, where_key-rows, once-contains}
use Rattle.mdb_schema.proofs.Membership.{Contains-later, Contains-slice_get, Contains-map, Contains-filter, Contains-from_filter, filter-all, is_among-from}
use Rattle.mdb_schema.proofs.RowsById.{AreRising}
use Rattle.mdb_schema.proofs.RowsLeft.{without_rows-cases}
use Rattle.radix_node.specs.Pairs.{without_prefix}
use Rattle.radix_txn.specs.Txn.{Txn, txn_pairs}
use Rattle.table_index.specs.inner.IndexTrees.{AreSound, AreTrees, nodes_of, rows_held}
use Rattle.table_index.specs.inner.TreeEdits.{without_each}
use Rattle.table_index.specs.inner.Wipes.{listed_at, listed_from, cut_at, holds, holds_at, is_there, IsMoved, IsStored, IsTaking, IsWiped, MovesNext}
use Rattle.table_index.proofs.CutTrees.{without_each-cut, length-cut_at, slice_get-cut_at, set-cut_at, cut_at-nothing}
use Rattle.table_index.proofs.RowsOfTrees.{AreTrees-from, rows_held-rows}
use Rattle.table_index.proofs.OneByOne.{taken_of, left_of, taken_of-there, taken_of-out, left_of-there, left_of-out, taken_of-once, left_of-without, Follow, follow_listed, follow_rising, rising-filter}
use Rattle.table_index.proofs.StoredRows.{pairs_of-nodes, tree_entries}
use Rattle.table_index.proofs.WriteResults.{edited_entries}

-- the entries of each index
abbrev pub all_entries : TableSchema → List Fields → List (List Pair)
all_entries t rows = map (λ (i : IndexSchema). entries t i rows) t.indexes

-- the tree of the index `id` is the one that was cut
abbrev pub cuts_id : TableSchema → ℕ → Bool
cuts_id t cut = nat_eq (unwrap_or (index_place (codes "id") t.indexes) 0) cut

-- how far a wipe of listed rows has come: what the trees hold, the rows still to come, and those
-- that are out
pub record Stands (t : TableSchema) (cut : ℕ) (key : Bytes) (all listed removed rest : List Fields) (txns : List Txn) : Type 0 where
  pub rows : List Fields
  pub lawful : AreLawfulRows t rows
  pub held : map txn_pairs txns ≡ cut_at key (all_entries t rows) cut
  pub stored : (r : Fields) → Contains rest r → IsStored t r
  pub follow : Follow (cuts_id t cut) t rows rest
  pub taken : removed ++ taken_of t rows rest ≡ taken_of t all listed
  pub left : left_of t rows rest ≡ left_of t all listed

pub first_rest : (xs : List Fields) (x : Fields) → first_item xs ≡ Some x → xs ≡ x ∷ drop 1 xs
first_rest [] x e = cc
first_rest (y ∷ xs) x e = let same : y ≡ x = cc in ap (λ (z : Fields). z ∷ xs) same

pub no_more : (xs : List Fields) → first_item xs ≡ None → xs ≡ []
no_more [] e = refl
no_more (x ∷ xs) e = cc

module _ (t : TableSchema) (table : IsLawfulTable t) (cut : ℕ) (key : Bytes) where
  -- ---- whether a row is still there

  apart_from : (a b : ℕ) → nat_eq a b ≡ false → a ≢ b
  apart_from a b e same = both_ways (nat_eq a b) e (eq-eqb a b same)

  cuts_id-place : (at : IdIndex t) → cuts_id t cut ≡ nat_eq at.place cut
  cuts_id-place at = ap (λ (o : Option ℕ). nat_eq (unwrap_or o 0) cut) at.placed

  -- the tree of the index `id`, where another one was cut
  id_tree : (rows : List Fields) (at : IdIndex t) → nat_eq at.place cut ≡ false → slice_get (cut_at key (all_entries t rows) cut) at.place ≡ Some (entries t at.index rows)
  id_tree rows at other =
      slice_get-cut_at key (all_entries t rows) cut at.place (apart_from at.place cut other)
      ∙ slice_get-map (λ (i : IndexSchema). entries t i rows) t.indexes at.place
      ∙ ap (option_map (λ (i : IndexSchema). entries t i rows)) at.there

  pub there-told : (rows : List Fields) (id : Bytes) → AreLawfulRows t rows → is_there t cut id (cut_at key (all_entries t rows) cut) ≡ (cuts_id t cut || is_some (row_at t id rows))
  there-told rows id lawful =
      let at = id_index t table in
      let es = cut_at key (all_entries t rows) cut in
      ap (holds_at cut id es) at.placed
      ∙ of at (nat_eq at.place cut) refl
      ∙ ap (λ (b : Bool). b || is_some (row_at t id rows)) (sym (cuts_id-place at))
    where
      of : (at : IdIndex t) (b : Bool) → nat_eq at.place cut ≡ b
          → (b || holds id (slice_get (cut_at key (all_entries t rows) cut) at.place)) ≡ (b || is_some (row_at t id rows))
      of at true e = refl
      of at false e = ap (holds id) (id_tree rows at e) ∙ ap is_some (sym (row_at-entries t at id rows lawful))

  -- ---- one listed row

  -- the entries after the removal of a row that is there
  entries_after : (rows : List Fields) (r : Fields) → AreLawfulRows t rows → row_at t (id_key t r) rows ≡ Some r → (i : IndexSchema) → Contains t.indexes i
      → entries t i (without_row t (id_key t r) rows) ≡ without_all (full_keys t i r) (entries t i rows)
  entries_after rows r lawful here i within =
      entries-without_row t i rows lawful.rising (apart_in t i rows lawful within) (id_key t r)
      ∙ ap (λ (o : Option Fields). without_all (full_keys_of t i o) (entries t i rows)) here

  held_after : (rows : List Fields) (r : Fields) (es : List (List Pair)) → AreLawfulRows t rows → row_at t (id_key t r) rows ≡ Some r → es ≡ cut_at key (all_entries t rows) cut
      → without_each (map (λ (i : IndexSchema). full_keys t i r) t.indexes) es ≡ cut_at key (all_entries t (without_row t (id_key t r) rows)) cut
  held_after rows r es lawful here held =
      let kss = map (λ (i : IndexSchema). full_keys t i r) t.indexes in
      ap (without_each kss) held
      ∙ without_each-cut key kss (all_entries t rows) cut
      ∙ ap (λ (l : List (List Pair)). cut_at key l cut)
      (edited_entries without_all (λ (i : IndexSchema). full_keys t i r) (λ (i : IndexSchema). entries t i rows) (λ (i : IndexSchema). entries t i (without_row t (id_key t r) rows)) t.indexes
      (entries_after rows r lawful here))

  module _ (all listed removed : List Fields) (r : Fields) (rest : List Fields) (before after : List Txn) where
    told_here : (s : Stands t cut key all listed removed (r ∷ rest) before) (taken : Bool) → IsTaking t cut r taken before after → taken ≡ (cuts_id t cut || is_some (row_at t (id_key t r) s.rows))
    told_here s taken did = did.told ∙ ap (is_there t cut (id_key t r)) s.held ∙ there-told s.rows (id_key t r) s.lawful

    -- it is still there
    row_out : (s : Stands t cut key all listed removed (r ∷ rest) before) (taken : Bool) → IsTaking t cut r taken before after → taken ≡ true → row_at t (id_key t r) s.rows ≡ Some r
        → Follow (cuts_id t cut) t (without_row t (id_key t r) s.rows) rest → Stands t cut key all listed (removed ++ r ∷ []) rest after
    row_out s taken did is_taken here later = record {
      rows = without_row t (id_key t r) s.rows;
      lawful = without_row_lawful t (id_key t r) s.rows s.lawful;
      held =
          did.pairs
          ∙ ap (λ (b : Bool). cond b (without_each (map (λ (i : IndexSchema). full_keys t i r) t.indexes) (map txn_pairs before)) (map txn_pairs before)) is_taken
          ∙ held_after s.rows r (map txn_pairs before) s.lawful here s.held;
      stored = λ x h. s.stored x (Contains-later r rest x h);
      follow = later;
      taken = append_assoc removed (r ∷ []) (taken_of t (without_row t (id_key t r) s.rows) rest) ∙ ap (λ (l : List Fields). removed ++ l) (sym (taken_of-there t s.rows r rest r here)) ∙ s.taken;
      left = sym (left_of-there t s.rows r rest r here) ∙ s.left;
    }

    -- it is out already
    row_left : (s : Stands t cut key all listed removed (r ∷ rest) before) (taken : Bool) → IsTaking t cut r taken before after → taken ≡ false → row_at t (id_key t r) s.rows ≡ None
        → Follow (cuts_id t cut) t s.rows rest → Stands t cut key all listed removed rest after
    row_left s taken did is_out out later = record {
      rows = s.rows;
      lawful = s.lawful;
      held =
          did.pairs
          ∙ ap (λ (b : Bool). cond b (without_each (map (λ (i : IndexSchema). full_keys t i r) t.indexes) (map txn_pairs before)) (map txn_pairs before)) is_out
          ∙ s.held;
      stored = λ x h. s.stored x (Contains-later r rest x h);
      follow = later;
      taken = ap (λ (l : List Fields). removed ++ l) (sym (taken_of-out t s.rows r rest out)) ∙ s.taken;
      left = sym (left_of-out t s.rows r rest out) ∙ s.left;
    }

    pub taken_step : Stands t cut key all listed removed (r ∷ rest) before → IsTaking t cut r true before after → Stands t cut key all listed (removed ++ r ∷ []) rest after
    taken_step s did = elim s.follow [
      | inl f ↦ row_out s true did refl f.0 f.1
      | inr f ↦ absurd (both_ways (cuts_id t cut || is_some (row_at t (id_key t r) s.rows))
          (ap (λ (b : Bool). b || is_some (row_at t (id_key t r) s.rows)) f.0 ∙ ap is_some f.1) (sym (told_here s true did)))
    ]

    pub skipped_step : Stands t cut key all listed removed (r ∷ rest) before → IsTaking t cut r false before after → Stands t cut key all listed removed rest after
    skipped_step s did = elim s.follow [
      | inl f ↦ absurd (both_ways (cuts_id t cut || is_some (row_at t (id_key t r) s.rows)) (sym (told_here s false did))
          (or_right (cuts_id t cut) (is_some (row_at t (id_key t r) s.rows)) (ap is_some f.0)))
      | inr f ↦ row_left s false did refl f.1 f.2
    ]

  -- ---- the beginning

  -- the rows that the index `id` lists rise
  rows_of-id_pairs : (p : Bytes → Bool) (rows : List Fields) → rows_of (filter (λ (e : Pair). p e.0) (id_pairs t rows)) ≡ filter (λ (r : Fields). p (id_key t r)) rows
  rows_of-id_pairs p [] = refl
  rows_of-id_pairs p (r ∷ rows) = of (p (id_key t r)) (rows_of-id_pairs p rows)
    where
      of : (b : Bool) → rows_of (filter (λ (e : Pair). p e.0) (id_pairs t rows)) ≡ filter (λ (x : Fields). p (id_key t x)) rows
          → rows_of (cond b ((id_key t r, r) ∷ filter (λ (e : Pair). p e.0) (id_pairs t rows)) (filter (λ (e : Pair). p e.0) (id_pairs t rows)))
          ≡ cond b (r ∷ filter (λ (x : Fields). p (id_key t x)) rows) (filter (λ (x : Fields). p (id_key t x)) rows)
      of true later = ap (λ (l : List Fields). r ∷ l) later
      of false later = later

  module _ (rows : List Fields) (lawful : AreLawfulRows t rows) (i : IndexSchema) (there : slice_get t.indexes cut ≡ Some i) where
    abbrev listing : List Fields
    listing = rows_of (with_prefix key (entries t i rows))

    listing_within : (x : Fields) → Contains listing x → Contains rows x
    listing_within x h = entries-rows t i rows x (where_key-rows (is_prefix key) (entries t i rows) x h)

    -- the index `id` lists the rows whose `id` key begins so
    pub listing_of_id : nat_eq (id_index t table).place cut ≡ true → rows_of (with_prefix key (entries t i rows)) ≡ filter (λ (r : Fields). is_prefix key (id_key t r)) rows
    listing_of_id e =
        let at = id_index t table in
        let place : at.place ≡ cut = eqb-true at.place cut e in
        let found : Some i ≡ Some at.index = sym there ∙ ap (slice_get t.indexes) (sym place) ∙ at.there in
        let same : i ≡ at.index = cc in
        ap (λ (j : IndexSchema). rows_of (with_prefix key (entries t j rows))) same
        ∙ ap (λ (es : List Pair). rows_of (with_prefix key es)) (entries-id t at rows lawful)
        ∙ rows_of-id_pairs (is_prefix key) rows

    listing_rising : nat_eq (id_index t table).place cut ≡ true → AreRising t listing
    listing_rising e = subst (λ (l : List Fields). AreRising t l) (sym (listing_of_id e)) (rising-filter t (λ (r : Fields). is_prefix key (id_key t r)) rows lawful.rising)

    follow_first : Follow (cuts_id t cut) t rows listing
    follow_first =
        let at = id_index t table in
        subst (λ (b : Bool). Follow b t rows listing) (sym (cuts_id-place at)) (of (nat_eq at.place cut) refl)
      where
        of : (b : Bool) → nat_eq (id_index t table).place cut ≡ b → Follow b t rows listing
        of true e = follow_rising t rows listing lawful.rising (listing_rising e) listing_within
        of false e = follow_listed t rows listing lawful.rising listing_within

    pub first_step : (after : List Txn) → map txn_pairs after ≡ cut_at key (all_entries t rows) cut → Stands t cut key rows listing [] listing after
    first_step after held = record {
      rows = rows;
      lawful = lawful;
      held = held;
      stored = λ x h i k. lawful.taken i x k (listing_within x h);
      follow = follow_first;
      taken = refl;
      left = refl;
    }

    -- ---- the end

    abbrev gone : List Fields
    gone = once t listing

    abbrev left : List Fields
    left = without_rows t (once t listing) rows

    -- no row that is left has a key there that begins with the key
    none_left : (e : Pair) → Contains (entries t i left) e → is_prefix key e.0 ≡ false
    none_left e h = false_from_ne_true (is_prefix key e.0) (λ begins.
        let w = Contains-from_entries t i e.0 left e.1 h in
        let old = without_rows-cases t gone rows e.1 w.0 in
        let entry = Contains-entries t i e.0 rows e.1 (apart_in t i rows lawful (Contains-slice_get t.indexes cut i there)) old.0 w.1 in
        let listed = Contains-map (λ (p : Pair). p.1) (with_prefix key (entries t i rows)) e (Contains-filter (λ (p : Pair). is_prefix key p.0) (entries t i rows) e entry begins) in
        let out = once-contains t rows listing lawful.rising listing_within e.1 listed in
        both_ways (is_among (map (id_key t) gone) (id_key t e.1)) old.1 (is_among-from (map (id_key t) gone) (id_key t e.1) (Contains-map (id_key t) gone e.1 out)))

    nothing_cut : cut_at key (all_entries t left) cut ≡ all_entries t left
    nothing_cut = cut_at-nothing key (λ (j : IndexSchema). entries t j left) t.indexes cut (λ j e.
        let found : Some i ≡ Some j = sym there ∙ e in
        let same : i ≡ j = cc in
        subst (λ (k : IndexSchema). without_prefix key (entries t k left) ≡ entries t k left) same
        (filter-all (λ (p : Pair). not (is_prefix key p.0)) (entries t i left) (λ p h. not_from_false (is_prefix key p.0) (none_left p h))))

    pub last_step : (before : List Txn) (removed : List Fields) (after : List Txn) → rows ≡ rows_held t (nodes_of before) → Stands t cut key rows listing removed [] after → AreSound after
        → IsWiped t (once t listing) removed before after
    last_step before removed after is s sound =
        let taken = taken_of-once t rows listing lawful.rising listing_within in
        let now : s.rows ≡ left = s.left ∙ left_of-without t rows listing lawful.rising ∙ ap (λ (g : List Fields). without_rows t g rows) taken in
        let kept : AreLawfulRows t left = subst (λ (l : List Fields). AreLawfulRows t l) now s.lawful in
        let held = pairs_of-nodes after ∙ s.held ∙ ap (λ (l : List Fields). cut_at key (all_entries t l) cut) now ∙ nothing_cut in
        let all_out : removed ≡ taken_of t rows listing = sym (append-nil removed) ∙ s.taken in
        record {
          each = all_out ∙ taken;
          held = AreTrees-from t left (nodes_of after) table kept held;
          rows = rows_held-rows t left (nodes_of after) table kept held ∙ ap (without_rows t gone) is;
          sound = sound;
        }

-- ---- the same, as the code meets it

pub listed_there : (key : Bytes) (listed : List Fields) (o : Option Txn) (x : Txn) → listed ≡ listed_from key o → o ≡ Some x → listed ≡ rows_of (with_prefix key (txn_pairs x))
listed_there key listed o x is there = is ∙ ap (listed_from key) there

pub on_ok : {T E : Type 0} {P Q : Type 0} (r : Result T E) → (P → Q) → OnOk r P → OnOk r Q
on_ok (Ok x) f h = f h
on_ok (Err e) f h = h

-- the trees, of which one was cut
pub cut_one : (key : Bytes) (txns : List Txn) (place : ℕ) (x y : Txn) → slice_get txns place ≡ Some x → txn_pairs y ≡ without_prefix key (txn_pairs x)
    → map txn_pairs (set txns place y) ≡ cut_at key (map txn_pairs txns) place
cut_one key txns place x y there edit =
    map-set txn_pairs txns place y ∙ ap (set (map txn_pairs txns) place) edit
    ∙ set-cut_at key (map txn_pairs txns) place (txn_pairs x) (slice_get-map txn_pairs txns place ∙ ap (option_map txn_pairs) there)

-- the pairs of a tree are the entries of its index
pub pairs_at : (t : TableSchema) (rows : List Fields) (txns : List Txn) (place : ℕ) (x : Txn) (i : IndexSchema) → map txn_pairs txns ≡ all_entries t rows
    → slice_get txns place ≡ Some x → slice_get t.indexes place ≡ Some i → txn_pairs x ≡ entries t i rows
pairs_at t rows txns place x i held there found =
    let e : Some (txn_pairs x) ≡ Some (entries t i rows) =
    sym (ap (option_map txn_pairs) there) ∙ sym (slice_get-map txn_pairs txns place) ∙ ap (λ (es : List (List Pair)). slice_get es place) held
    ∙ slice_get-map (λ (j : IndexSchema). entries t j rows) t.indexes place ∙ ap (option_map (λ (j : IndexSchema). entries t j rows)) found in
    cc

-- there is a tree for each index
pub tree_count : (t : TableSchema) (cut : ℕ) (key : Bytes) (all listed removed rest : List Fields) (txns : List Txn) → Stands t cut key all listed removed rest txns → length txns ≡ length t.indexes
tree_count t cut key all listed removed rest txns s =
    sym (length-map txns txn_pairs) ∙ ap length s.held ∙ length-cut_at key (all_entries t s.rows) cut ∙ length-map t.indexes (λ (i : IndexSchema). entries t i s.rows)

module _ (t : TableSchema) (table : IsLawfulTable t) (cut : ℕ) (key : Bytes) (all listed removed : List Fields) (before after : List Txn) where
  row_moved : (r : Fields) (rest gone : List Fields) → Stands t cut key all listed removed (r ∷ rest) before → IsMoved t cut r before after removed gone → Stands t cut key all listed gone rest after
  row_moved r rest gone s m = of m.taken m.taking m.gone
    where
      of : (b : Bool) → IsTaking t cut r b before after → gone ≡ cond b (removed ++ r ∷ []) removed → Stands t cut key all listed gone rest after
      of true did is = subst (λ (l : List Fields). Stands t cut key all listed l rest after) (sym is) (taken_step t table cut key all listed removed r rest before after s did)
      of false did is = subst (λ (l : List Fields). Stands t cut key all listed l rest after) (sym is) (skipped_step t table cut key all listed removed r rest before after s did)

  pub next_moved : (more : Bool) (rest later gone : List Fields) → Stands t cut key all listed removed rest before → MovesNext t cut more rest later before after removed gone → Stands t cut key all listed gone later after
  next_moved more [] later gone s m =
      let same = subst (λ (xs : List Txn). Stands t cut key all listed removed [] xs) (sym m.2) s in
      let out = subst (λ (l : List Fields). Stands t cut key all listed l [] after) (sym m.3) same in
      subst (λ (l : List Fields). Stands t cut key all listed gone l after) (sym m.1) out
  next_moved more (r ∷ rest) later gone s m = subst (λ (l : List Fields). Stands t cut key all listed gone l after) (sym m.1) (row_moved r rest gone s m.2)

module _ (t : TableSchema) (cut : ℕ) (more : Bool) where
  pub moved_sound : (rest later : List Fields) (before after : List Txn) (old new : List Fields) → AreSound before → MovesNext t cut more rest later before after old new → AreSound after
  moved_sound [] later before after old new sound m = subst AreSound (sym m.2) sound
  moved_sound (r ∷ rest) later before after old new sound m = let moved = m.2 in moved.taking.sound

  pub later_in : (rest later : List Fields) (before after : List Txn) (old new : List Fields) → MovesNext t cut more rest later before after old new → (x : Fields) → Contains later x → Contains rest x
  later_in [] later before after old new m x h = subst (λ (l : List Fields). Contains l x) m.1 h
  later_in (r ∷ rest) later before after old new m x h = Contains-later r rest x (subst (λ (l : List Fields). Contains l x) m.1 h)

  pub fewer_later : (rest later : List Fields) (before after : List Txn) (old new : List Fields) → more ≡ true → MovesNext t cut more rest later before after old new → length later < length rest
  fewer_later [] later before after old new one m = cc
  fewer_later (r ∷ rest) later before after old new one m = omega (arith, ap (λ (l : List Fields). length l) m.1)

  pub none_later : (rest later : List Fields) (before after : List Txn) (old new : List Fields) → more ≡ false → MovesNext t cut more rest later before after old new → later ≡ []
  none_later [] later before after old new none m = m.1
  none_later (r ∷ rest) later before after old new none m = cc

module _ (t : TableSchema) (table : IsLawfulTable t) (cut : ℕ) (key : Bytes) (txns : List Txn) (trees : AreTrees t (nodes_of txns)) (within : cut < length t.indexes)
    (x : Txn) (there : slice_get txns cut ≡ Some x) (listed : List Fields) (is : listed ≡ rows_of (with_prefix key (txn_pairs x))) where
  abbrev rows : List Fields
  rows = rows_held t (nodes_of txns)

  held : map txn_pairs txns ≡ all_entries t rows
  held = tree_entries t txns table trees

  named : (i : IndexSchema) × (slice_get t.indexes cut ≡ Some i)
  named = there_within t.indexes cut within

  listed_is : (i : IndexSchema) → slice_get t.indexes cut ≡ Some i → listed ≡ rows_of (with_prefix key (entries t i rows))
  listed_is i found = is ∙ ap (λ (es : List Pair). rows_of (with_prefix key es)) (pairs_at t rows txns cut x i held there found)

  -- the rows are those of the definition
  pub listed_is_at : listed ≡ listed_at t (rows_held t (nodes_of txns)) (slice_get t.indexes cut) key
  listed_is_at = let n = named in listed_is n.0 n.1 ∙ sym (ap (λ (o : Option IndexSchema). listed_at t rows o key) n.1)

  -- each index takes each of them
  pub listed_stored : (r : Fields) → Contains listed r → IsStored t r
  listed_stored r h i within =
      let n = named in
      trees.lawful.taken i r within (listing_within t table cut key rows trees.lawful n.0 n.1 r (subst (λ (l : List Fields). Contains l r) (listed_is n.0 n.1) h))

  -- where the index `id` lists them, the `id` key of each begins with the key
  pub listed_begin : nat_eq (id_index t table).place cut ≡ true → (r : Fields) → Contains listed r → is_prefix key (id_key t r) ≡ true
  listed_begin e r h =
      let n = named in
      let is : listed ≡ filter (λ (x : Fields). is_prefix key (id_key t x)) rows = listed_is n.0 n.1 ∙ listing_of_id t table cut key rows trees.lawful n.0 n.1 e in
      (Contains-from_filter (λ (x : Fields). is_prefix key (id_key t x)) rows r (subst (λ (l : List Fields). Contains l r) is h)).1

  -- each of them is taken once
  pub taken_once : taken_of t (rows_held t (nodes_of txns)) listed ≡ once t listed
  taken_once =
      let n = named in
      subst (λ (l : List Fields). taken_of t rows l ≡ once t l) (sym (listed_is n.0 n.1))
      (taken_of-once t rows (rows_of (with_prefix key (entries t n.0 rows))) trees.lawful.rising (listing_within t table cut key rows trees.lawful n.0 n.1))

  pub wipe_begins : (after : List Txn) → map txn_pairs after ≡ cut_at key (map txn_pairs txns) cut → Stands t cut key (rows_held t (nodes_of txns)) listed [] listed after
  wipe_begins after was_cut =
      let n = named in
      let now : map txn_pairs after ≡ cut_at key (all_entries t rows) cut = was_cut ∙ ap (λ (es : List (List Pair)). cut_at key es cut) held in
      subst (λ (l : List Fields). Stands t cut key rows l [] l after) (sym (listed_is n.0 n.1)) (first_step t table cut key rows trees.lawful n.0 n.1 after now)

  pub wipe_ends : (removed rest : List Fields) (after : List Txn) → Stands t cut key (rows_held t (nodes_of txns)) listed removed rest after → rest ≡ [] → AreSound after
      → IsWiped t (once t (listed_at t (rows_held t (nodes_of txns)) (slice_get t.indexes cut) key)) removed txns after
  wipe_ends removed rest after s none sound =
      let n = named in
      let done = subst (λ (l : List Fields). Stands t cut key rows l removed [] after) (listed_is n.0 n.1)
      (subst (λ (l : List Fields). Stands t cut key rows listed removed l after) none s) in
      subst (λ (o : Option IndexSchema). IsWiped t (once t (listed_at t rows o key)) removed txns after) (sym n.1)
      (last_step t table cut key rows trees.lawful n.0 n.1 txns removed after refl done sound)
