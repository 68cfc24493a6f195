-- One more line of an answer.
use Rattle.std.proofs.Common.{◌≡◌, ap, sym, ◌∙◌, ℕ, ◌+◌, List, [], ◌∷◌, ◌++◌, drop, length, take, refl, Some, slice_get, Result, Ok, Err, OnOk}
use Rattle.std.specs.Prelude.{codes}
use Rattle.std.specs.declared.alloc.AllocError.{AllocError}
use Rattle.std.proofs.lemmas.List.{append_assoc}
use Rattle.mdb_datum.specs.Bytes.{Bytes}
use Rattle.mdb_datum.specs.Row.{Fields}
use Rattle.mdb_datum.specs.Written.{row_text}
use Rattle.mdb_datum.proofs.ListPlaces.{drop_at}
use Rattle.client_script.specs.Reply.{Changed, change_text, changed_lines, did_lines, further, row_lines}

pub did_step : (out more : Bytes) (texts : List Bytes) (at : ℕ) (text : Bytes) (whole : Bytes) → slice_get texts at ≡ Some text → more ≡ out ++ further (codes "did " ++ text) → out ++ did_lines (drop at texts) ≡ whole → more ++ did_lines (drop (at + 1) texts) ≡ whole
did_step out more texts at text whole there added so_far =
    ap (λ (b : Bytes). b ++ did_lines (drop (at + 1) texts)) added
    ∙ append_assoc out (further (codes "did " ++ text)) (did_lines (drop (at + 1) texts))
    ∙ ap (λ (b : Bytes). out ++ b) (sym (ap did_lines (drop_at texts at text there)))
    ∙ so_far

pub row_step : (out more : Bytes) (rows : List Fields) (at : ℕ) (row : Fields) (whole : Bytes) → slice_get rows at ≡ Some row → more ≡ out ++ further (row_text row) → out ++ row_lines (drop at rows) ≡ whole → more ++ row_lines (drop (at + 1) rows) ≡ whole
row_step out more rows at row whole there added so_far =
    ap (λ (b : Bytes). b ++ row_lines (drop (at + 1) rows)) added
    ∙ append_assoc out (further (row_text row)) (row_lines (drop (at + 1) rows))
    ∙ ap (λ (b : Bytes). out ++ b) (sym (ap row_lines (drop_at rows at row there)))
    ∙ so_far

pub change_step : (out more : Bytes) (changes : List Changed) (at : ℕ) (change : Changed) (whole : Bytes) → slice_get changes at ≡ Some change → more ≡ out ++ further (change_text change) → out ++ changed_lines (drop at changes) ≡ whole → more ++ changed_lines (drop (at + 1) changes) ≡ whole
change_step out more changes at change whole there added so_far =
    ap (λ (b : Bytes). b ++ changed_lines (drop (at + 1) changes)) added
    ∙ append_assoc out (further (change_text change)) (changed_lines (drop (at + 1) changes))
    ∙ ap (λ (b : Bytes). out ++ b) (sym (ap changed_lines (drop_at changes at change there)))
    ∙ so_far

-- a text that is added in four steps
pub four_steps : (r : Result (Unit {0}) AllocError) (out a b c d w x y z : Bytes) → a ≡ out ++ w → b ≡ a ++ x → c ≡ b ++ y → OnOk r (d ≡ c ++ z) → OnOk r (d ≡ out ++ (w ++ (x ++ (y ++ z))))
four_steps (Ok u) out a b c d w x y z first second third last =
    last
    ∙ ap (λ (t : Bytes). t ++ z) (third ∙ ap (λ (t : Bytes). t ++ y) (second ∙ ap (λ (t : Bytes). t ++ x) first))
    ∙ append_assoc ((out ++ w) ++ x) y z
    ∙ append_assoc (out ++ w) x (y ++ z)
    ∙ append_assoc out w (x ++ (y ++ z))
four_steps (Err e) out a b c d w x y z first second third last = tt

-- ---- what was there stays

-- it is still there after two steps that each leave what was there before
pub kept_still : (old mid new : Bytes) → take (length old) mid ≡ old → take (length mid) new ≡ mid → take (length old) new ≡ old
kept_still [] mid new kept kept' = refl
kept_still (b ∷ old) [] new kept kept' = cc
kept_still (b ∷ old) (m ∷ mid) [] kept kept' = cc
kept_still (b ∷ old) (m ∷ mid) (n ∷ new) kept kept' =
    let before : take (length old) mid ≡ old = cc in
    let after : take (length mid) new ≡ mid = cc in
    let rest : take (length old) new ≡ old = kept_still old mid new before after in
    cc
