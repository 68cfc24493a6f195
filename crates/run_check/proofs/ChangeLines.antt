-- The lines that tell the changes of a commit.
use Rattle.std.proofs.Common.{◌≡◌, ◌∙◌, ◌++◌, ◌∷◌, [], ℕ, List, Bool, true, not, map, slice_get, Option, Some, None, Result, Ok, Err, OnOk, Decides, refl, sym, ap, subst}
use Rattle.std.specs.Prelude.{codes, if◌then◌else◌}
use Rattle.std.specs.Borrow.{Bor}
use Rattle.std.specs.declared.alloc.AllocError.{AllocError}
use Rattle.std.specs.declared.alloc.Global.{Global}
use Rattle.std.specs.declared.vec.Vec.{Vec}
use Rattle.std.proofs.lemmas.Bool.Decides.{same_from_decides}
use Rattle.std.proofs.lemmas.List.{append_assoc, append-nil}
use Rattle.mdb_datum.specs.Bytes.{Bytes}
use Rattle.mdb_datum.specs.Row.{Fields}
use Rattle.mdb_datum.specs.Same.{has_same_members}
use Rattle.mdb_datum.proofs.SameDocs.{Decides-has_same_members}
use Rattle.mdb_schema.specs.Net.{differ}
use Rattle.mdb_schema.specs.Schema.{DbSchema, TableSchema}
use Rattle.mdb_schema.specs.State.{State, row_at}
use Rattle.client_script.specs.Reply.{Changed, change_text, changed_lines, further, row_or_none}
use Rattle.client_script.specs.Turn.{name_of}
use Rattle.run_check.specs.inner.KeyView.{bytes_of}
use Rattle.run_check.specs.inner.ChangeView.{change_of, changes_of, row_in, row_of, told_change}

pub differ_told : (r : Bool) (a b : Fields) → Decides r (a ≡ b) → not r ≡ differ (Some a) (Some b)
differ_told r a b decides = ap not (same_from_decides r (has_same_members a b) decides (Decides-has_same_members a b))

-- a text that is added in four steps
four_steps : (r : Result (Unit {0}) AllocError) (out a b c d w x y z : Bytes) → a ≡ out ++ w → b ≡ a ++ x → c ≡ b ++ y → OnOk r (d ≡ c ++ z) → OnOk r (d ≡ out ++ (w ++ (x ++ (y ++ z))))
four_steps (Ok u) out a b c d w x y z first second third last =
    last
    ∙ ap (λ (t : Bytes). t ++ z) (third ∙ ap (λ (t : Bytes). t ++ y) (second ∙ ap (λ (t : Bytes). t ++ x) first))
    ∙ append_assoc ((out ++ w) ++ x) y z
    ∙ append_assoc (out ++ w) x (y ++ z)
    ∙ append_assoc out w (x ++ (y ++ z))
four_steps (Err e) out a b c d w x y z first second third last = tt

-- a row that differs has one line
one_line : (table : Bytes) (before after : Option Fields) → differ before after ≡ true → changed_lines (told_change table before after) ≡ further (change_text (record { table = table; before = before; after = after }))
one_line table before after differs =
    let c : Changed = record { table = table; before = before; after = after } in
    ap (λ (b : Bool). changed_lines (if b then c ∷ [] else [])) differs ∙ append-nil (further (change_text c))

pub change_written : (r : Result (Unit {0}) AllocError) (out a b c d table : Bytes) (before after : Option Fields) → differ before after ≡ true → a ≡ out ++ (10 ∷ 32 ∷ 32 ∷ codes "changed ") → b ≡ a ++ table → c ≡ b ++ 32 ∷ row_or_none before → OnOk r (d ≡ c ++ 32 ∷ row_or_none after)
    → OnOk r (d ≡ out ++ changed_lines (told_change table before after))
change_written r out a b c d table before after differs first second third last =
    subst (λ (t : Bytes). OnOk r (d ≡ out ++ t)) (sym (one_line table before after differs))
    (four_steps r out a b c d (10 ∷ 32 ∷ 32 ∷ codes "changed ") table (32 ∷ row_or_none before) (32 ∷ row_or_none after) first second third last)

-- ---- the row of a key

module _ (schema : DbSchema) (place : ℕ) (t : TableSchema) (there : slice_get schema place ≡ Some t) where
  pub row_there : (state : State) (rows : List Fields) (id : Bytes) → slice_get state place ≡ Some rows → row_in schema state place id ≡ row_at t id rows
  row_there state rows id held = λ j. row_of id (there j) (held j)

  pub key_told : (old new : State) (before after : Option Fields) (key id : Bytes) → key ≡ place ∷ id → before ≡ row_in schema old place id → after ≡ row_in schema new place id → told_change t.name before after ≡ change_of schema old new key
  key_told old new before after key id is was now =
      (λ j. told_change (sym (ap name_of there) j) (was j) (now j)) ∙ ap (change_of schema old new) (sym is)

pub no_table_told : (schema : DbSchema) (old new : State) (key id : Bytes) (place : ℕ) → key ≡ place ∷ id → slice_get schema place ≡ None → change_of schema old new key ≡ []
no_table_told schema old new key id place is none =
    ap (change_of schema old new) is
    ∙ (λ j. told_change (name_of (none j)) (row_of id (none j) (slice_get old place)) (row_of id (none j) (slice_get new place)))

-- ---- one more key

lines_joined : (cs ds : List Changed) → changed_lines (cs ++ ds) ≡ changed_lines cs ++ changed_lines ds
lines_joined [] ds = refl
lines_joined (c ∷ cs) ds = ap (λ (t : Bytes). further (change_text c) ++ t) (lines_joined cs ds) ∙ sym (append_assoc (further (change_text c)) (changed_lines cs) (changed_lines ds))

changes_last : (schema : DbSchema) (old new : State) (ks : List Bytes) (k : Bytes) → changes_of schema old new (ks ++ k ∷ []) ≡ changes_of schema old new ks ++ change_of schema old new k
changes_last schema old new [] k = append-nil (change_of schema old new k)
changes_last schema old new (j ∷ ks) k = ap (λ (cs : List Changed). change_of schema old new j ++ cs) (changes_last schema old new ks k) ∙ sym (append_assoc (change_of schema old new j) (changes_of schema old new ks) (change_of schema old new k))

pub one_more_key : (schema : DbSchema) (old new : State) (ks : List Bytes) (k : Bytes) (start out more : Bytes) → out ≡ start ++ changed_lines (changes_of schema old new ks) → more ≡ out ++ changed_lines (change_of schema old new k)
    → more ≡ start ++ changed_lines (changes_of schema old new (ks ++ k ∷ []))
one_more_key schema old new ks k start out more so_far added =
    added ∙ ap (λ (t : Bytes). t ++ changed_lines (change_of schema old new k)) so_far
    ∙ append_assoc start (changed_lines (changes_of schema old new ks)) (changed_lines (change_of schema old new k))
    ∙ ap (λ (t : Bytes). start ++ t) (sym (lines_joined (changes_of schema old new ks) (change_of schema old new k)) ∙ ap changed_lines (sym (changes_last schema old new ks k)))

-- keys behind references
pub shown_keys : (ks : List (Bor (Vec ℕ Global))) → map (λ (k : Bor (Vec ℕ Global)). k.now.items) ks ≡ map bytes_of (map (λ (k : Bor (Vec ℕ Global)). k.now) ks)
shown_keys [] = refl
shown_keys (k ∷ ks) = ap (λ (l : List Bytes). k.now.items ∷ l) (shown_keys ks)
