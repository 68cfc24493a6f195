-- What the single key of a row tells of its member.
use Rattle.std.proofs.Common.{◌≡◌, ℕ, [], ◌∷◌, Bool, true, false, Option, Some, None, ℤ, Ok, Err, if◌then◌else◌, refl, sym, ap, ◌∙◌}
use Rattle.std.specs.List.{list_any}
use Rattle.std.specs.declared.cmp.Ordering.TheVariants.{Equal}
use Rattle.std.specs.Cmp.{int_cmp_is, int_ranked}
use Rattle.mdb_datum.specs.Doc.{Doc, whole}
use Rattle.mdb_encode.specs.Bytes.{Bytes}
use Rattle.mdb_encode.specs.Indexer.{uint, sint}
use Rattle.mdb_encode.specs.Keys.{value_at, unsigned_key, signed_key, key_or, uint_keys, sint_keys, limited, is_too_long}
use Rattle.mdb_encode.specs.Laws.{KeepOrder, TellsMember}
use Rattle.mdb_encode.specs.KeyRefusal.{out_of_range, too_long}
use Rattle.mdb_encode.proofs.Order.{unsigned_order, signed_order}

-- numbers with the same key are the same
same_number : (key_of : ℕ → ℤ → Option Bytes) → KeepOrder key_of → (w : ℕ) (x y : ℤ) (k : Bytes)
    → key_of w x ≡ Some k → key_of w y ≡ Some k → x ≡ y
same_number key_of order w x y k first second =
    int_ranked x y Equal (int_cmp_is x x Equal refl ∙ sym (order w x x k k first first) ∙ order w x y k k first second)

short_key : (b : Bool) (j k : Bytes) → (if b then Err too_long else Ok (j ∷ [])) ≡ Ok (k ∷ [])
    → j ≡ k
short_key true j k e = cc
short_key false j k e = cc

-- the only key that is given is that of the number
only_key : (o : Option Bytes) (k : Bytes) → limited (key_or out_of_range o) ≡ Ok (k ∷ [])
    → o ≡ Some k
only_key None k e = cc
only_key (Some j) k e = ap Some (short_key (list_any is_too_long (j ∷ [])) j k e)

uint_whole : (w : ℕ) (d : Doc) (k : Bytes) → limited (uint_keys w d) ≡ Ok (k ∷ [])
    → (z : ℤ) × (d ≡ whole z) × (unsigned_key w z ≡ Some k)
uint_whole w (whole z) k e = (z, refl, only_key (unsigned_key w z) k e)
uint_whole w _ k e = cc

sint_whole : (w : ℕ) (d : Doc) (k : Bytes) → limited (sint_keys w d) ≡ Ok (k ∷ [])
    → (z : ℤ) × (d ≡ whole z) × (signed_key w z ≡ Some k)
sint_whole w (whole z) k e = (z, refl, only_key (signed_key w z) k e)
sint_whole w _ k e = cc

pub tells_unsigned : (w : ℕ) → TellsMember (λ name. uint name w)
tells_unsigned w name row other same =
    let a = uint_whole w (value_at name row) same.0 same.1 in
    let b = uint_whole w (value_at name other) same.0 same.2 in
    a.1 ∙ ap whole (same_number unsigned_key unsigned_order w a.0 b.0 same.0 a.2 b.2) ∙ sym b.1

pub tells_signed : (w : ℕ) → TellsMember (λ name. sint name w)
tells_signed w name row other same =
    let a = sint_whole w (value_at name row) same.0 same.1 in
    let b = sint_whole w (value_at name other) same.0 same.2 in
    a.1 ∙ ap whole (same_number signed_key signed_order w a.0 b.0 same.0 a.2 b.2) ∙ sym b.1
