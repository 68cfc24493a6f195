-- A wipe of a table that has the index `id` alone: the cut of its tree takes out each row's keys.
use Rattle.std.proofs.Common.{◌≡◌, ◌∙◌, ◌++◌, ◌<◌, ℕ, zero, suc, List, [], ◌∷◌, map, length, true, not, Contains, eq-eqb, sym, ap, subst, inl, inr, arith}
use Rattle.std.specs.Ordering.{eq_by_cmp}
use Rattle.std.specs.Prelude.{nat_eq}
use Rattle.std.proofs.lemmas.Bool.{both_ways, not-true, not_from_false, false_from_ne_true}
use Rattle.std.proofs.lemmas.List.{append-nil, append_assoc}
use Rattle.std.proofs.lemmas.Option.{slice_get_within}
use Rattle.mdb_datum.specs.Bytes.{is_prefix}
use Rattle.mdb_datum.specs.Row.{Fields, Pair}
use Rattle.mdb_datum.proofs.ByteOrder.{equal_from_is_eq, same_from_byte_order}
use Rattle.mdb_encode.specs.Bytes.{Bytes, byte_order}
use Rattle.mdb_schema.specs.Edits.{without_all}
use Rattle.mdb_schema.specs.Entries.{entries}
use Rattle.mdb_schema.specs.LawfulSchema.{IsLawfulTable}
use Rattle.mdb_schema.specs.Schema.{IndexSchema, TableSchema}
use Rattle.mdb_schema.specs.State.{full_keys, id_key}
use Rattle.mdb_schema.proofs.IdEntries.{full_keys-id}
use Rattle.mdb_schema.proofs.IdKeys.{id_index}
use Rattle.mdb_schema.proofs.Membership.{Contains-cons_cases, Contains-first, Contains-from_filter, Contains-later, Contains-nil, filter-all}
use Rattle.radix_node.specs.Pairs.{without_prefix}
use Rattle.radix_txn.specs.Txn.{Txn, txn_pairs}
use Rattle.table_index.specs.inner.IndexTrees.{AreSound}
use Rattle.table_index.specs.inner.TreeEdits.{without_each}
use Rattle.table_index.specs.inner.Wipes.{IsTaking, cut_at}
use Rattle.table_index.proofs.ListedKeys.{there_uncut}
use Rattle.table_index.proofs.WipeSteps.{Stands, taken_step}

-- a key that begins with the one of the cut is out already
key_out : (key k : Bytes) (es : List Pair) → is_prefix key k ≡ true → without_all (k ∷ []) (without_prefix key es) ≡ without_prefix key es
key_out key k es begins = filter-all (λ (e : Pair). not (eq_by_cmp byte_order k e.0)) (without_prefix key es) (λ e h.
    let kept = not-true (is_prefix key e.0) (Contains-from_filter (λ (x : Pair). not (is_prefix key x.0)) es e h).1 in
    not_from_false (eq_by_cmp byte_order k e.0) (false_from_ne_true (eq_by_cmp byte_order k e.0) (λ tied.
    let same : k ≡ e.0 = same_from_byte_order k e.0 (equal_from_is_eq (byte_order k e.0) tied) in
    both_ways (is_prefix key e.0) kept (ap (is_prefix key) (sym same) ∙ begins))))

-- the only index
only : (is : List IndexSchema) (i j : IndexSchema) → length is ≡ 1 → Contains is i → Contains is j → i ≡ j
only [] i j one h k = absurd (Contains-nil i h)
only (x ∷ []) i j one h k = elim (Contains-cons_cases x [] i h) [
  | inl a ↦ elim (Contains-cons_cases x [] j k) [ inl b ↦ sym a ∙ b | inr none ↦ absurd (Contains-nil j none) ]
  | inr none ↦ absurd (Contains-nil i none)
]
only (x ∷ y ∷ is) i j one h k = absurd (omega (arith, one))

-- edits of the only tree that leave it as it is after the cut
tree_kept : (key : Bytes) (keys : IndexSchema → List Bytes) (pairs : IndexSchema → List Pair) (is : List IndexSchema) (cut : ℕ) → length is ≡ 1 → cut < length is
    → ((i : IndexSchema) → Contains is i → without_all (keys i) (without_prefix key (pairs i)) ≡ without_prefix key (pairs i))
    → without_each (map keys is) (cut_at key (map pairs is) cut) ≡ cut_at key (map pairs is) cut
tree_kept key keys pairs [] cut one within kept = absurd (omega (arith, within))
tree_kept key keys pairs (i ∷ []) zero one within kept = ap (λ (es : List Pair). es ∷ []) (kept i (Contains-first i []))
tree_kept key keys pairs (i ∷ []) (suc cut) one within kept = absurd (omega (arith, within))
tree_kept key keys pairs (i ∷ j ∷ is) cut one within kept = absurd (omega (arith, one))

module _ (t : TableSchema) (table : IsLawfulTable t) (one : length t.indexes ≡ 1) (cut : ℕ) (within : cut < length t.indexes) where
  -- it is that of the index `id`
  pub cuts_only : nat_eq (id_index t table).place cut ≡ true
  cuts_only =
      let at = id_index t table in
      let placed = slice_get_within t.indexes at.place at.index at.there in
      eq-eqb at.place cut (omega (arith, one, within, placed))

  module _ (key : Bytes) (all listed : List Fields) (txns : List Txn) (sound : AreSound txns) where
    -- the next row is out already
    is_out : (removed : List Fields) (r : Fields) (rest : List Fields) → is_prefix key (id_key t r) ≡ true → Stands t cut key all listed removed (r ∷ rest) txns → IsTaking t cut r true txns txns
    is_out removed r rest begins s =
        let at = id_index t table in
        let keys = λ (i : IndexSchema). full_keys t i r in
        let pairs = λ (i : IndexSchema). entries t i s.rows in
        let own : without_all (full_keys t at.index r) (without_prefix key (entries t at.index s.rows)) ≡ without_prefix key (entries t at.index s.rows) =
        ap (λ (ks : List Bytes). without_all ks (without_prefix key (entries t at.index s.rows))) (full_keys-id t at r (s.stored r (Contains-first r rest) at.index at.within))
        ∙ key_out key (id_key t r) (entries t at.index s.rows) begins in
        let kept = tree_kept key keys pairs t.indexes cut one within (λ i h.
        subst (λ (j : IndexSchema). without_all (full_keys t j r) (without_prefix key (entries t j s.rows)) ≡ without_prefix key (entries t j s.rows)) (only t.indexes at.index i one at.within h) own) in
        record {
          told = there_uncut t cut (id_key t r) (map txn_pairs txns) at.place at.placed cuts_only;
          pairs = sym (ap (without_each (map keys t.indexes)) s.held ∙ kept ∙ sym s.held);
          sound = sound;
        }

    -- so is each that is listed
    pub all_out : (removed rest : List Fields) → ((r : Fields) → Contains rest r → is_prefix key (id_key t r) ≡ true) → Stands t cut key all listed removed rest txns
        → Stands t cut key all listed (removed ++ rest) [] txns
    all_out removed [] begin s = subst (λ (l : List Fields). Stands t cut key all listed l [] txns) (sym (append-nil removed)) s
    all_out removed (r ∷ rest) begin s =
        let next = taken_step t table cut key all listed removed r rest txns txns s (is_out removed r rest (begin r (Contains-first r rest)) s) in
        subst (λ (l : List Fields). Stands t cut key all listed l [] txns) (append_assoc removed (r ∷ []) rest)
        (all_out (removed ++ r ∷ []) rest (λ x h. begin x (Contains-later r rest x h)) next)
