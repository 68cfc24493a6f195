-- What stands after a write, and what a write is refused for.
use Rattle.std.proofs.Common.{◌≡◌, List, [], ◌∷◌, map, Option, Ok, Contains, refl, sym, ap, inl, inr}
use Rattle.mdb_datum.specs.Row.{Fields, Pair}
use Rattle.mdb_schema.specs.LawfulSchema.{IsLawfulTable}
use Rattle.mdb_schema.specs.Schema.{IndexSchema, TableSchema}
use Rattle.mdb_schema.specs.State.{AreLawfulRows}
use Rattle.mdb_schema.specs.Tests.{◌>>=◌}
use Rattle.mdb_schema.specs.Write.{Tested, Changed}
use Rattle.mdb_schema.proofs.Membership.{Contains-first, Contains-later}
use Rattle.mdb_schema.specs.declared.write_error.WriteError.{WriteError}
use Rattle.mdb_schema.specs.ErrorsTold.{TellsRefusal}
use Rattle.radix_txn.specs.Txn.{Txn}
use Rattle.table_index.specs.inner.IndexTrees.{AreSound, Hold, nodes_of}
use Rattle.table_index.specs.inner.TreeEdits.{IsWritten, edited_each}
use Rattle.table_index.proofs.RowsOfTrees.{AreTrees-from, rows_held-rows}

-- an edit of the entries of each index
pub edited_entries : {K : Type 0} (edit : K → List Pair → List Pair) (f : IndexSchema → K) (before after : IndexSchema → List Pair) (is : List IndexSchema)
    → ((i : IndexSchema) → Contains is i → after i ≡ edit (f i) (before i)) → edited_each edit (map f is) (map before is) ≡ map after is
edited_entries edit f before after [] same = refl
edited_entries edit f before after (i ∷ is) same =
    λ j. sym (same i (Contains-first i is)) j ∷ edited_entries edit f before after is (λ k h. same k (Contains-later i is k h)) j

-- the trees hold the rows that a write leaves
pub written : (t : TableSchema) (told : Tested Changed) (left : List Fields) (old : Option Fields) (after : List Txn) → IsLawfulTable t → told ≡ Ok (left, old)
    → AreLawfulRows t left → Hold t left (nodes_of after) → AreSound after → IsWritten t told old after
written t told left old after table done lawful held sound = record {
  left = left;
  done = done;
  held = AreTrees-from t left (nodes_of after) table lawful held;
  rows = rows_held-rows t left (nodes_of after) table lawful held;
  sound = sound;
}

-- what the first test refuses is refused
pub told_on : {A B : Type 0} (r : Tested A) (f : A → Tested B) (e : WriteError) → TellsRefusal r e → TellsRefusal (r >>= f) e
told_on {A} r f e told = elim told [
  | inl memory ↦ inl memory
  | inr why ↦ inr (why.0, ap (λ (x : Tested A). x >>= f) why.1, why.2)
]
