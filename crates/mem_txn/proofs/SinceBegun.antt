-- What was opened and written in the tables of a transaction since it began, write after write.
use Rattle.std.proofs.Common.{◌≡◌, ◌≤◌, ◌∙◌, ◌++◌, ℕ, List, [], ◌∷◌, slice_get, slice_set, get_or, Bool, true, Option, Some, Ok, Contains, option_map, append_assoc, inl, inr, refl, sym, ap, subst}
use Rattle.std.specs.Prelude.{if◌then◌else◌, option_to_list}
use Rattle.std.specs.Str.{bytes_eq}
use Rattle.std.proofs.lemmas.List.{map-set}
use Rattle.std.proofs.lemmas.List.Elements.{All-contains, All-set, Contains-append_cases, Contains-append_left, Contains-append_right}
use Rattle.std.proofs.lemmas.Option.{slice_get-map}
use Rattle.mdb_datum.specs.Row.{Fields}
use Rattle.mdb_encode.specs.Bytes.{Bytes}
use Rattle.mdb_schema.specs.History.{after_writes, state_or}
use Rattle.mdb_schema.specs.Schema.{DbSchema, IndexSchema, TableSchema}
use Rattle.mdb_schema.specs.State.{State}
use Rattle.mdb_schema.specs.Touched.{row_put, rows_of_step, rows_written}
use Rattle.mdb_schema.specs.Wipe.{removals}
use Rattle.mdb_schema.specs.Write.{Stepped, Write, remove, step, table_of}
use Rattle.mdb_schema.proofs.Membership.{Contains-first, Contains-later, Contains-nil, Contains-slice_get, bytes_eq-itself, each_of_cons}
use Rattle.mdb_schema.proofs.Removals.{AreRemoved}
use Rattle.mdb_schema.proofs.Tables.{slice_set-same}
use Rattle.radix_node.specs.Cells.{CellTree}
use Rattle.table_index.specs.Table.{TableChange}
use Rattle.table_index.specs.Written.{EachWrote, HasWritten, IsKeyOf}
use Rattle.mem_txn.specs.CellHistory.{Forest}
use Rattle.mem_txn.specs.inner.VersionTables.{Adds, AreChangesOf, HasChanged, Tables}

-- ---- more rows

-- keys of a kind are keys of a wider one
each_wrote_more : (kind wider : IndexSchema → Bytes → Type 0) → ((i : IndexSchema) (k : Bytes) → kind i k → wider i k) → (is : List IndexSchema) (start trees : List CellTree) → EachWrote kind is start trees → EachWrote wider is start trees
each_wrote_more kind wider wide [] [] [] h = tt
each_wrote_more kind wider wide [] [] (t ∷ ts) h = absurd h
each_wrote_more kind wider wide [] (s ∷ ss) ts h = absurd h
each_wrote_more kind wider wide (i ∷ is) [] ts h = absurd h
each_wrote_more kind wider wide (i ∷ is) (s ∷ ss) [] h = absurd h
each_wrote_more kind wider wide (i ∷ is) (s ∷ ss) (t ∷ ts) h = (record { keys = h.0.keys; each = λ k w. wide i k (h.0.each k w); written = h.0.written }, each_wrote_more kind wider wide is ss ts h.1)

pub written_more : (rows more : List Fields) (t : TableChange) → ((r : Fields) → Contains rows r → Contains more r) → HasWritten rows t → HasWritten more t
written_more rows more t all h = each_wrote_more (IsKeyOf t.schema rows) (IsKeyOf t.schema more) (λ i k w. (w.0, all w.0 w.1, w.2)) t.schema.indexes t.start t.trees h

changed_more : (first : ℕ) (rows more : List Fields) (t : TableChange) → ((r : Fields) → Contains rows r → Contains more r) → HasChanged first rows t → HasChanged first more t
changed_more first rows more t all h = record { opened = h.opened; written = written_more rows more t all h.written }

-- the table at a place is written
module _ (first : ℕ) (start : Forest) (rows more : Bytes → List Fields) (all : (name : Bytes) (r : Fields) → Contains (rows name) r → Contains (more name) r)
    (tables : List TableChange) (before : AreChangesOf first start rows tables) (place : ℕ) (old new : TableChange) (there : slice_get tables place ≡ Some old) (same : new.start ≡ old.start) where
  abbrev started : TableChange → List CellTree
  started t = t.start

  start_there : slice_get start place ≡ Some new.start
  start_there = ap (λ (f : Forest). slice_get f place) (sym before.starts) ∙ slice_get-map started tables place ∙ ap (option_map started) there ∙ ap Some (sym same)

  changes_set : HasChanged first (more new.schema.name) new → AreChangesOf first start more (slice_set tables place new)
  changes_set h = record {
    starts = map-set started tables place new ∙ ap (λ (f : Forest). slice_set f place new.start) before.starts ∙ slice_set-same start place new.start start_there;
    changed = All-set (λ (t : TableChange). HasChanged first (more t.schema.name) t) tables place new h
        (λ k d w. let t : TableChange = get_or tables k d in changed_more first (rows t.schema.name) (more t.schema.name) t (all t.schema.name) (before.changed k d w));
  }

-- ---- the rows of writes

pub rows_written-append : (schema : DbSchema) (s : State) (ws vs : List Write) (name : Bytes) → rows_written schema s (ws ++ vs) name ≡ rows_written schema s ws name ++ rows_written schema (after_writes schema s ws) vs name
rows_written-append schema s [] vs name = refl
rows_written-append schema s (w ∷ ws) vs name =
    let here = rows_of_step name w (step schema s w) in
    let after = state_or s (step schema s w) in
    ap (λ (rows : List Fields). here ++ rows) (rows_written-append schema after ws vs name)
    ∙ sym (append_assoc here (rows_written schema after ws name) (rows_written schema (after_writes schema after ws) vs name))

-- a write of the table of a name
pub rows_of_one : (w : Write) (name : Bytes) (s : Stepped) (after : State × Option Fields) → s ≡ Ok after → table_of w ≡ name → rows_of_step name w s ≡ row_put w ++ option_to_list after.1
rows_of_one w name s after is named =
    let yes : bytes_eq (table_of w) name ≡ true = subst (λ (n : Bytes). bytes_eq (table_of w) n ≡ true) named (bytes_eq-itself (table_of w)) in
    ap (rows_of_step name w) is ∙ ap (λ (b : Bool). if b then row_put w ++ option_to_list after.1 else []) yes

-- each row that removals take out
pub removed_rows : (schema : DbSchema) (name : Bytes) (gone : List Fields) (s : State) → AreRemoved schema s name gone → (r : Fields) → Contains gone r → Contains (rows_written schema s (removals name gone) name) r
removed_rows schema name [] s removed = λ r h. absurd (Contains-nil r h)
removed_rows schema name (g ∷ gone) s removed =
    let u : State = removed.0 in
    let one : rows_of_step name (remove name g) (step schema s (remove name g)) ≡ g ∷ [] = rows_of_one (remove name g) name (step schema s (remove name g)) (u, Some g) removed.1 refl in
    let after : state_or s (step schema s (remove name g)) ≡ u = ap (state_or s) removed.1 in
    let rest : List Fields = rows_written schema u (removals name gone) name in
    let all : rows_written schema s (removals name (g ∷ gone)) name ≡ g ∷ rest =
    ap (λ (rows : List Fields). rows ++ rows_written schema (state_or s (step schema s (remove name g))) (removals name gone) name) one
    ∙ ap (λ (t : State). g ∷ rows_written schema t (removals name gone) name) after in
    each_of_cons (λ (r : Fields). Contains (rows_written schema s (removals name (g ∷ gone)) name) r) g gone (subst (λ (rows : List Fields). Contains rows g) (sym all) (Contains-first g rest))
    (λ r h. subst (λ (rows : List Fields). Contains rows r) (sym all) (Contains-later g rest r (removed_rows schema name gone u removed.2 r h)))

-- ---- one write more

-- a write of the table at a place, and the rows that it adds
pub record AddsAt (rows : List Fields) (place : ℕ) (old new : Tables) : Type 0 where
  pub before : TableChange
  pub after : TableChange
  pub there : slice_get old.tables place ≡ Some before
  pub set : new.tables ≡ slice_set old.tables place after
  pub schema : after.schema ≡ before.schema
  pub start : after.start ≡ before.start
  pub adds : Adds rows old.ids before after

module _ (first : ℕ) (start : Forest) (schema : DbSchema) (s : State) (ws vs ws' : List Write) (joined : ws' ≡ ws ++ vs) (place : ℕ) (old new : Tables)
    (before : AreChangesOf first start (rows_written schema s ws) old.tables) (later : first ≤ old.ids.next) (rows : List Fields) (a : AddsAt rows place old new) where
  abbrev sofar : Bytes → List Fields
  sofar name = rows_written schema s ws name

  abbrev added : Bytes → List Fields
  added name = rows_written schema (after_writes schema s ws) vs name

  all_rows : (name : Bytes) → rows_written schema s ws' name ≡ sofar name ++ added name
  all_rows name = ap (λ (l : List Write). rows_written schema s l name) joined ∙ rows_written-append schema s ws vs name

  row_kept : (name : Bytes) (r : Fields) → Contains (sofar name) r → Contains (rows_written schema s ws' name) r
  row_kept name r h = subst (λ (l : List Fields). Contains l r) (sym (all_rows name)) (Contains-append_left (sofar name) (added name) r h)

  row_more : (name : Bytes) (r : Fields) → Contains (added name) r → Contains (rows_written schema s ws' name) r
  row_more name r h = subst (λ (l : List Fields). Contains l r) (sym (all_rows name)) (Contains-append_right (sofar name) (added name) r h)

  -- the tables have changed so with the writes that join
  pub since_more : ((r : Fields) → Contains rows r → Contains (rows_written schema (after_writes schema s ws) vs a.before.schema.name) r) → AreChangesOf first start (rows_written schema s ws') new.tables
  since_more told =
      let name : Bytes = a.before.schema.name in
      let was : HasChanged first (sofar name) a.before = All-contains (λ (t : TableChange). HasChanged first (sofar t.schema.name) t) old.tables a.before before.changed (Contains-slice_get old.tables place a.before a.there) in
      let both : (r : Fields) → Contains (rows ++ sofar name) r → Contains (rows_written schema s ws' name) r =
      λ r h. elim (Contains-append_cases rows (sofar name) r h) [ inl new ↦ row_more name r (told r new) | inr old ↦ row_kept name r old ] in
      let now : HasChanged first (rows_written schema s ws' name) a.after = record {
        opened = a.adds.opened first later was.opened;
        written = written_more (rows ++ sofar name) (rows_written schema s ws' name) a.after both (a.adds.written (sofar name) was.written);
      } in
      let named : HasChanged first (rows_written schema s ws' a.after.schema.name) a.after = subst (λ (n : Bytes). HasChanged first (rows_written schema s ws' n) a.after) (ap (λ (t : TableSchema). t.name) (sym a.schema)) now in
      subst (λ (ts : List TableChange). AreChangesOf first start (rows_written schema s ws') ts) (sym a.set)
      (changes_set first start sofar (rows_written schema s ws') row_kept old.tables before place a.before a.after a.there a.start named)
