-- An indexer that isn't of several keys gives a row one key at most.
use Rattle.std.proofs.Common.{◌≡◌, ◌≢◌, ◌++◌, ℕ, List, [], ◌∷◌, length, Bool, true, false, Option, Some, None, Ok, Err, refl, subst}
use Rattle.std.specs.Prelude.{if◌then◌else◌, nat_lt, ⊤}
use Rattle.std.specs.List.{list_any}
use Rattle.mdb_datum.specs.Doc.{Doc, nil, flag, whole, text, list, object}
use Rattle.mdb_datum.specs.Row.{Fields}
use Rattle.mdb_encode.specs.Bytes.{Bytes}
use Rattle.mdb_encode.specs.Indexer.{Indexer, str, str_list, str_map, uint, sint, truth, uuid, is_set, equals, compound, PartList, no_parts, part}
use Rattle.mdb_encode.specs.KeyRefusal.{KeyRefusal, bad_uuid, out_of_range, too_many, too_long}
use Rattle.mdb_encode.specs.Keys.{Keyed, keys, raw_keys, joined_keys, limited, most_keys, is_too_long, value_at, str_keys, uint_keys, sint_keys, truth_keys, uuid_keys, key_or, after_part, unsigned_key, signed_key}
use Rattle.mdb_schema.specs.Reading.{is_multi}

-- a refusal, no key or one
abbrev IsSingle : Keyed → Type 0
IsSingle (Err e) = ⊤
IsSingle (Ok []) = ⊤
IsSingle (Ok (k ∷ [])) = ⊤
IsSingle (Ok (k ∷ l ∷ ks)) = ⊥

single-key_or : (e : KeyRefusal) (o : Option Bytes) → IsSingle (key_or e o)
single-key_or e None = tt
single-key_or e (Some k) = tt

single-str : (fold : Bool) (d : Doc) → IsSingle (str_keys fold d)
single-str fold nil = tt
single-str fold (flag b) = tt
single-str fold (whole z) = tt
single-str fold (text []) = tt
single-str fold (text (b ∷ s)) = tt
single-str fold (list ds) = tt
single-str fold (object fs) = tt

single-uint : (w : ℕ) (d : Doc) → IsSingle (uint_keys w d)
single-uint w nil = tt
single-uint w (flag b) = tt
single-uint w (whole z) = single-key_or out_of_range (unsigned_key w z)
single-uint w (text s) = tt
single-uint w (list ds) = tt
single-uint w (object fs) = tt

single-sint : (w : ℕ) (d : Doc) → IsSingle (sint_keys w d)
single-sint w nil = tt
single-sint w (flag b) = tt
single-sint w (whole z) = single-key_or out_of_range (signed_key w z)
single-sint w (text s) = tt
single-sint w (list ds) = tt
single-sint w (object fs) = tt

single-truth : (d : Doc) → IsSingle (truth_keys d)
single-truth nil = tt
single-truth (flag b) = tt
single-truth (whole z) = tt
single-truth (text s) = tt
single-truth (list ds) = tt
single-truth (object fs) = tt

single-uuid : (d : Doc) → IsSingle (uuid_keys d)
single-uuid nil = tt
single-uuid (flag b) = tt
single-uuid (whole z) = tt
single-uuid (text []) = tt
single-uuid (text (b ∷ s)) = single-key_or bad_uuid _
single-uuid (list ds) = tt
single-uuid (object fs) = tt

single-joined : (allow : Bool) (so_far : Bytes) (parts : PartList) (row : Fields) → IsSingle (joined_keys allow so_far parts row)
single-joined allow so_far no_parts row = tt
single-joined allow so_far (part i is) row = of allow (raw_keys i row) (λ key. joined_keys allow key is row) (λ key. single-joined allow key is row)
  where
    of : (a : Bool) (k : Keyed) (next : Bytes → Keyed) → ((key : Bytes) → IsSingle (next key)) → IsSingle (after_part a so_far k next)
    of a (Err e) next later = tt
    of true (Ok []) next later = tt
    of false (Ok []) next later = tt
    of a (Ok (k ∷ ks)) next later = later (so_far ++ k)

single-raw : (i : Indexer) (row : Fields) → is_multi i ≡ false → IsSingle (raw_keys i row)
single-raw (str name fold) row e = single-str fold (value_at name row)
single-raw (str_list name fold) row e = cc
single-raw (str_map name fold) row e = cc
single-raw (uint name w) row e = single-uint w (value_at name row)
single-raw (sint name w) row e = single-sint w (value_at name row)
single-raw (truth name) row e = single-truth (value_at name row)
single-raw (uuid name) row e = single-uuid (value_at name row)
single-raw (is_set name) row e = tt
single-raw (equals name scalar) row e = tt
single-raw (compound parts allow) row e = single-joined allow [] parts row

single-limited : (k : Keyed) → IsSingle k → IsSingle (limited k)
single-limited (Err e) s = tt
single-limited (Ok ks) s = of (nat_lt most_keys (length ks)) (list_any is_too_long ks)
  where
    of : (a b : Bool) → IsSingle (if a then Err too_many else if b then Err too_long else Ok ks)
    of true b = tt
    of false true = tt
    of false false = s

-- where there is a key, it is the only one
pub one_key : (i : Indexer) (row : Fields) (ks : List Bytes) → is_multi i ≡ false → keys i row ≡ Ok ks → ks ≢ [] → (k : Bytes) × (ks ≡ k ∷ [])
one_key i row ks single e some = of ks (subst (λ (k : Keyed). IsSingle k) e (single-limited (raw_keys i row) (single-raw i row single))) some
  where
    of : (ks : List Bytes) → IsSingle (Ok ks) → ks ≢ [] → (k : Bytes) × (ks ≡ k ∷ [])
    of [] s some = absurd (some refl)
    of (k ∷ []) s some = (k, refl)
    of (k ∷ l ∷ ks) s some = absurd s
