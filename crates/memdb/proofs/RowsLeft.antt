-- In whatever order the clients' commits are made, the rows that they leave are as many as the
-- summary says, and so is the sum of their ages.
use Rattle.std.proofs.Common.{◌≡◌, ◌∙◌, ◌+◌, ℕ, suc, List, [], ◌∷◌, length, Ok, arith, refl, sym, ap, subst}
use Rattle.std.proofs.Math.Seq.{take-length}
use Rattle.mdb_datum.specs.Pairs.{rows_of, with_prefix}
use Rattle.mdb_datum.specs.Row.{Fields, Pair}
use Rattle.mdb_schema.specs.Answer.{ask}
use Rattle.mdb_schema.specs.Entries.{entries}
use Rattle.mdb_schema.specs.History.{History, after_commits, state_at}
use Rattle.mdb_schema.specs.State.{State, AreLawfulRows, IsLawfulState}
use Rattle.mdb_schema.specs.declared.answer.Answer.TheVariants.{Many}
use Rattle.mdb_schema.proofs.IdEntries.{rows_of-entries}
use Rattle.mdb_schema.proofs.LawfulStates.{state_at_lawful}
use Rattle.mdb_schema.proofs.RowsById.{rising-nil}
use Rattle.mem_txn.specs.Database.{AreNamed}
use Rattle.memdb.specs.Made.{Numbers, AreInRange, Item, all_items, last_items, ages}
use Rattle.memdb.specs.inner.MadeInputs.{made_schema, row_of, all_rows, age_in}
use Rattle.memdb.proofs.MadeHistory.{HasMadeItems}
use Rattle.memdb.proofs.MadeItem.{item_table}
use Rattle.memdb.specs.inner.MadeLeft.{AreLeft}
use Rattle.memdb.proofs.ClientItems.{items_of, last_adds_up, lengths_add_up, same_in_order, length-items_from}
use Rattle.memdb.proofs.CommittedItems.{all_told, told_are, each_puts, told_made, after_told}
use Rattle.memdb.proofs.ItemTotals.{total, total-length, total-ages, totals_of_items, after_items}
use Rattle.memdb.proofs.MadeStep.{id_index, id_place}

-- ---- the answer

-- each key begins with the empty prefix
all_pairs : (es : List Pair) → with_prefix [] es ≡ es
all_pairs [] = refl
all_pairs (e ∷ es) = ap (λ (l : List Pair). e ∷ l) (all_pairs es)

all_answered : (rows : List Fields) → AreLawfulRows item_table rows
    → ask made_schema (rows ∷ []) all_rows ≡ Ok (Many rows)
all_answered rows lawful =
    ap (λ (rs : List Fields). Ok (Many rs))
    (ap rows_of (all_pairs (entries item_table id_index rows)) ∙ rows_of-entries item_table id_place rows lawful)

-- ---- what is left

total-items : (xs : List Item) → total (λ x. x.age) xs ≡ ages xs
total-items [] = refl
total-items (x ∷ xs) = ap (λ (n : ℕ). x.age + n) (total-items xs)

length-told : (H : History) → length (items_of (all_told H)) ≡ length H
length-told [] = refl
length-told (c ∷ H) = ap suc (length-told H)

module _ (n : Numbers) (H : History) (range : AreInRange n) (named : AreNamed n.clients H)
    (has : HasMadeItems n H) where
  abbrev put_items : List Item
  put_items = items_of (all_told H)

  abbrev left : List Fields
  left = after_items [] put_items

  table_left : state_at made_schema H (length H) ≡ left ∷ []
  table_left =
      ap (after_commits made_schema ([] ∷ [])) (take-length H) ∙ after_told [] H (each_puts n H range named has)

  left_lawful : AreLawfulRows item_table left
  left_lawful = (subst (IsLawfulState made_schema) table_left (state_at_lawful made_schema H (length H))).0

  -- a sum over the rows that are left
  total_left : (w : Fields → ℕ) → total w left ≡ total (λ x. w (row_of x)) (last_items (all_items n))
  total_left w =
      let few = range.few_clients in
      totals_of_items w put_items (told_made H (each_puts n H range named has)) (rising-nil item_table)
      ∙ same_in_order (λ xs. total (λ x. w (row_of x)) (last_items xs)) (last_adds_up (λ x. w (row_of x))) n
      n.clients 1 (all_told H) (omega arith) (told_are n H named has)

  pub made_rows : AreLeft n H
  made_rows =
      let few = range.few_clients in record {
        commits = sym (length-told H)
            ∙ same_in_order (λ xs. length xs) lengths_add_up n n.clients 1 (all_told H) (omega arith)
            (told_are n H named has)
            ∙ length-items_from n 1 n.clients;
        rows = left;
        answer = ap (λ (s : State). ask made_schema s all_rows) table_left ∙ all_answered left left_lawful;
        count = total-length left ∙ total_left (λ r. 1) ∙ sym (total-length (last_items (all_items n)));
        sum = total-ages left ∙ total_left age_in ∙ total-items (last_items (all_items n));
      }
