-- A wipe from its beginning to its end, as the code meets it.
use Rattle.std.proofs.Common.{◌≡◌, ◌∙◌, ◌<◌, ◌≤◌, ◌+◌, ◌*◌, ◌^◌, ℕ, Bool, List, [], Some, length, slice_get, map, refl, sym, ap, subst, arith}
use Rattle.mdb_datum.specs.Pairs.{rows_of, with_prefix}
use Rattle.mdb_datum.specs.Row.{Fields}
use Rattle.mdb_datum.proofs.ListPlaces.{there_within}
use Rattle.mdb_encode.specs.Bytes.{Bytes}
use Rattle.mdb_schema.specs.LawfulSchema.{IsLawfulTable}
use Rattle.mdb_schema.specs.Schema.{TableSchema}
use Rattle.mdb_schema.specs.Wipe.{once}
use Rattle.watch_word.specs.Logs.{Log}
use Rattle.radix_node.specs.Ids.{Counter}
use Rattle.radix_txn.specs.Txn.{Txn, txn_pairs}
use Rattle.table_index.specs.Table.{AreLeft}
use Rattle.table_index.specs.declared.wipe_error.WipeError.{WipeError}
use Rattle.table_index.specs.inner.Drawn.{HaveDrawn, ids_of_row}
use Rattle.table_index.specs.inner.IndexTrees.{AreSound, AreTrees, nodes_of, rows_held}
use Rattle.table_index.specs.inner.Wipes.{GivesUp, IsCut, IsWiped, MovesNext, is_next_there, listed_at, listed_from}
use Rattle.table_index.proofs.DrawnIds.{more_drawn, then_drawn}
use Rattle.table_index.proofs.OneByOne.{taken_of}
use Rattle.table_index.proofs.OnlyTree.{all_out, cuts_only}
use Rattle.table_index.proofs.StoredRows.{same_count}
use Rattle.table_index.proofs.WipeIds.{one_if, next_ahead, moved_count, row_left, moved_few, all_few}
use Rattle.table_index.proofs.WipeSteps.{Stands, listed_begin, listed_is_at, taken_once, wipe_begins, wipe_ends}

module _ (t : TableSchema) (table : IsLawfulTable t) (place : ℕ) (key : Bytes) (txns : List Txn) (held : AreTrees t (nodes_of txns)) (within : place < length t.indexes) where
  abbrev all : List Fields
  all = rows_held t (nodes_of txns)

  -- the rows that the definition lists
  abbrev defined : List Fields
  defined = listed_at t all (slice_get t.indexes place) key

  tree : (x : Txn) × (slice_get txns place ≡ Some x)
  tree = let count = same_count t txns table held in there_within txns place (omega (arith, count, within))

  from_is_at : listed_from key (slice_get txns place) ≡ defined
  from_is_at = listed_is_at t table place key txns held within tree.0 tree.1 (listed_from key (slice_get txns place)) (ap (listed_from key) tree.1)

  -- ---- a wipe that doesn't begin

  pub gives_up : (next : ℕ) (e : WipeError) (after : List Txn) → GivesUp next (length (once t (listed_from key (slice_get txns place)))) e txns after → GivesUp next (length (once t defined)) e txns after
  gives_up next e after h = subst (λ (l : List Fields). GivesUp next (length (once t l)) e txns after) from_is_at h

  pub cut_few : (log : Log) (ids new : Counter) (after : List Txn) → HaveDrawn log (4096 * length (once t (listed_from key (slice_get txns place)))) ids new txns after → HaveDrawn log (2 ^ 26 * length (once t defined)) ids new txns after
  cut_few log ids new after h =
      let drawn = subst (λ (l : List Fields). HaveDrawn log (4096 * length (once t l)) ids new txns after) from_is_at h in
      more_drawn log (4096 * length (once t defined)) (2 ^ 26 * length (once t defined)) ids new txns after (omega arith) drawn

  -- ---- one that does

  module _ (listed : List Fields) (next : ℕ) (begun : List Txn) (cut : IsCut t place key listed next txns begun) where
    listed_is : listed ≡ rows_of (with_prefix key (txn_pairs tree.0))
    listed_is = cut.rows ∙ ap (listed_from key) tree.1

    listed_defined : once t listed ≡ once t defined
    listed_defined = ap (once t) (cut.rows ∙ from_is_at)

    each_once : length (taken_of t all listed) ≡ length (once t listed)
    each_once = ap (λ (l : List Fields). length l) (taken_once t table place key txns held within tree.0 tree.1 listed listed_is)

    pub stands_first : (removed : List Fields) → removed ≡ [] → Stands t place key all listed removed listed begun
    stands_first removed none =
        subst (λ (l : List Fields). Stands t place key all listed l listed begun) (sym none) (wipe_begins t table place key txns held within tree.0 tree.1 listed listed_is begun cut.pairs)

    pub drawn_first : (removed : List Fields) (log : Log) (ids new : Counter) → HaveDrawn log (4096 * length (once t (listed_from key (slice_get txns place)))) ids new txns begun
        → HaveDrawn log (4096 * length (once t listed) + 2 ^ 25 * length removed) ids new txns begun
    drawn_first removed log ids new h =
        let n = length (once t listed) in
        let drawn = subst (λ (l : List Fields). HaveDrawn log (4096 * length (once t l)) ids new txns begun) (sym cut.rows) h in
        more_drawn log (4096 * n) (4096 * n + 2 ^ 25 * length removed) ids new txns begun (omega arith) drawn

    module _ (removed rest : List Fields) (before : List Txn) (log : Log) (ids now : Counter) (s : Stands t place key all listed removed rest before)
        (drawn : HaveDrawn log (4096 * length (once t listed) + 2 ^ 25 * length removed) ids now txns before) where
      ahead : length removed + one_if (is_next_there t place rest (map txn_pairs before)) ≤ length (once t listed)
      ahead = omega (arith, next_ahead t table place key all listed removed rest before s, each_once)

      -- there are ids for the next row, if it is still there
      pub left_for : AreLeft ids.next (length (once t listed)) → now.next + ids_of_row (is_next_there t place rest (map txn_pairs before)) ≤ 2 ^ 63
      left_for left = row_left (length (once t listed)) ids.next now.next (length removed) (is_next_there t place rest (map txn_pairs before)) ahead left drawn.few

      module _ (after : List Txn) (new : Counter) (more_ids : HaveDrawn log (ids_of_row (is_next_there t place rest (map txn_pairs before))) now new before after) where
        pub drawn_more : (more : Bool) (later gone : List Fields) → MovesNext t place more rest later before after removed gone → HaveDrawn log (4096 * length (once t listed) + 2 ^ 25 * length gone) ids new txns after
        drawn_more more later gone moved =
            let n = length (once t listed) in
            let there = is_next_there t place rest (map txn_pairs before) in
            then_drawn log (4096 * n + 2 ^ 25 * length removed) (ids_of_row there) (4096 * n + 2 ^ 25 * length gone) ids now new txns before after drawn more_ids
            (moved_few n (length removed) (length gone) there (moved_count t place more rest later before after removed gone moved))

        pub drawn_all : HaveDrawn log (2 ^ 26 * length (once t defined)) ids new txns after
        drawn_all =
            let n = length (once t listed) in
            let there = is_next_there t place rest (map txn_pairs before) in
            subst (λ (l : List Fields). HaveDrawn log (2 ^ 26 * length l) ids new txns after) listed_defined
            (then_drawn log (4096 * n + 2 ^ 25 * length removed) (ids_of_row there) (2 ^ 26 * n) ids now new txns before after drawn more_ids (all_few n (length removed) there ahead))

    pub wiped_last : (removed rest : List Fields) (after : List Txn) → Stands t place key all listed removed rest after → rest ≡ [] → AreSound after → AreLeft next (length (once t defined)) × IsWiped t (once t defined) removed txns after
    wiped_last removed rest after s none sound = (
      subst (λ (l : List Fields). AreLeft next (length l)) listed_defined cut.left,
      wipe_ends t table place key txns held within tree.0 tree.1 listed listed_is removed rest after s none sound,
    )

    -- where there is no other index, the cut takes out all
    pub wiped_alone : length t.indexes ≡ 1 → (taken : List Fields) → taken ≡ listed → AreLeft next (length (once t defined)) × IsWiped t (once t defined) taken txns begun
    wiped_alone one taken is =
        let begin = listed_begin t table place key txns held within tree.0 tree.1 listed listed_is (cuts_only t table one place within) in
        let out = all_out t table one place within key all listed begun cut.sound [] listed begin (stands_first [] refl) in
        wiped_last taken [] begun (subst (λ (l : List Fields). Stands t place key all listed l [] begun) (sym is) out) refl cut.sound
