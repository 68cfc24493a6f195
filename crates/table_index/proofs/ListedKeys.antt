-- A listed row: whether it is still there, and the keys that are taken out with it.
use Rattle.std.proofs.Common.{◌≡◌, ◌∙◌, ◌||◌, ◌++◌, ◌∷◌, [], ℕ, List, map, length, slice_get, codes, Bool, true, false, Option, Some, None, is_some, Ok, refl, sym, ap, subst, inl, inr}
use Rattle.std.specs.Borrow.{Bor}
use Rattle.std.specs.Prelude.{nat_eq, option_copied}
use Rattle.std.proofs.lemmas.List.{length-map}
use Rattle.mdb_datum.specs.Row.{Fields, Pair}
use Rattle.mdb_encode.specs.Bytes.{Bytes}
use Rattle.mdb_schema.specs.LawfulSchema.{IsLawfulTable}
use Rattle.mdb_schema.specs.Schema.{IndexSchema, TableSchema, index_place}
use Rattle.mdb_schema.specs.State.{id_key, full_keys}
use Rattle.mdb_schema.specs.Tests.{each}
use Rattle.mdb_schema.specs.Write.{Tested, id_of, indexes_of, full_keys_at}
use Rattle.mdb_schema.proofs.IdKeys.{id_index, id_of-key, id_of-taken}
use Rattle.mdb_schema.specs.declared.write_error.WriteError.{WriteError}
use Rattle.mdb_schema.specs.ErrorsTold.{TellsRefusal}
use Rattle.mdb_schema.proofs.FullKeys.{found_keys, keys_of_taken}
use Rattle.radix_node.specs.Pairs.{find}
use Rattle.radix_txn.specs.Txn.{Txn, txn_pairs}
use Rattle.table_index.specs.inner.IndexTrees.{AreSound}
use Rattle.table_index.specs.inner.TreeEdits.{is_memory, without_each}
use Rattle.table_index.specs.inner.Wipes.{holds, holds_at, is_there, IsMoved, IsOut, IsStored, IsTaking}

-- ---- what the tree of the index `id` tells

pub is_some-copied : {A : Type 0} (o : Option (Bor A)) → is_some (option_copied o) ≡ is_some o
is_some-copied None = refl
is_some-copied (Some x) = refl

module _ (t : TableSchema) (cut : ℕ) (id : Bytes) (es : List (List Pair)) where
  pub there_nowhere : index_place (codes "id") t.indexes ≡ None → false ≡ is_there t cut id es
  there_nowhere none = sym (ap (holds_at cut id es) none)

  module _ (place : ℕ) (placed : index_place (codes "id") t.indexes ≡ Some place) where
    pub there_uncut : nat_eq place cut ≡ true → true ≡ is_there t cut id es
    there_uncut e = sym (ap (holds_at cut id es) placed ∙ ap (λ (b : Bool). b || holds id (slice_get es place)) e)

    pub there_told : nat_eq place cut ≡ false → (pairs : List Pair) → slice_get es place ≡ Some pairs → is_some (find id pairs) ≡ is_there t cut id es
    there_told e pairs there =
        sym (ap (holds_at cut id es) placed
        ∙ ap (λ (b : Bool). b || holds id (slice_get es place)) e
        ∙ ap (holds id) there)

-- ---- its keys

module _ (t : TableSchema) (row : Fields) (id : Bytes) (known : id_of t row ≡ Ok id) where
  pub listed_keys : (kss : List (List Bytes)) → each (full_keys_at id row) (indexes_of t) ≡ Ok kss → kss ≡ map (λ (i : IndexSchema). full_keys t i row) t.indexes
  listed_keys kss e = found_keys t row kss (subst (λ (k : Bytes). each (full_keys_at k row) (indexes_of t) ≡ Ok kss) (sym (id_of-key t row id known)) e)

  pub listed_count : (kss : List (List Bytes)) → each (full_keys_at id row) (indexes_of t) ≡ Ok kss → length kss ≡ length t.indexes
  listed_count kss e = ap length (listed_keys kss e) ∙ length-map t.indexes (λ (i : IndexSchema). full_keys t i row)

  pub keys_out : (before after : List Txn) (kss : List (List Bytes)) → each (full_keys_at id row) (indexes_of t) ≡ Ok kss → map txn_pairs after ≡ without_each kss (map txn_pairs before) → AreSound after
      → IsOut t row before after
  keys_out before after kss e edits sound = record {
    pairs = edits ∙ ap (λ (x : List (List Bytes)). without_each x (map txn_pairs before)) (listed_keys kss e);
    sound = sound;
  }

  -- it is taken out
  pub taking_done : (cut : ℕ) (before after : List Txn) → true ≡ is_there t cut id (map txn_pairs before) → IsOut t row before after → IsTaking t cut row true before after
  taking_done cut before after there out = record {
    told = there ∙ ap (λ (k : Bytes). is_there t cut k (map txn_pairs before)) (sym (id_of-key t row id known));
    pairs = out.pairs;
    sound = out.sound;
  }

-- ---- the rows that are out

module _ (t : TableSchema) (cut : ℕ) (row : Fields) (before after : List Txn) (gone : List Fields) (taken : Bool) (did : IsTaking t cut row taken before after) where
  pub not_moved : taken ≡ false → IsMoved t cut row before after gone gone
  not_moved e = record {
    taken = false;
    taking = subst (λ (b : Bool). IsTaking t cut row b before after) e did;
    gone = refl;
  }

  pub moved : (new : List Fields) → taken ≡ true → new ≡ gone ++ row ∷ [] → IsMoved t cut row before after gone new
  moved new e is = record {
    taken = true;
    taking = subst (λ (b : Bool). IsTaking t cut row b before after) e did;
    gone = is;
  }

-- ---- a stored row's keys aren't refused

memory_alone : {A : Type 0} (told : Tested A) (x : A) (e : WriteError) → told ≡ Ok x → TellsRefusal told e → is_memory e ≡ true
memory_alone told x e kept tells = elim tells [
  | inl memory ↦ ap is_memory memory
  | inr why ↦ absurd (let refused = why.1 in cc)
]

module _ (t : TableSchema) (row : Fields) (stored : IsStored t row) (e : WriteError) where
  pub stored_id : IsLawfulTable t → TellsRefusal (id_of t row) e → is_memory e ≡ true
  stored_id table tells =
      let at = id_index t table in
      memory_alone (id_of t row) (id_key t row) e (id_of-taken t at row (stored at.index at.within)) tells

  pub stored_keys : (id : Bytes) → TellsRefusal (each (full_keys_at id row) (indexes_of t)) e → is_memory e ≡ true
  stored_keys id tells =
      let kept = keys_of_taken t id row stored in
      memory_alone (each (full_keys_at id row) (indexes_of t)) kept.0 e kept.1 tells
