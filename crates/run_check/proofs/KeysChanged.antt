-- The keys that a transaction has changed, as bytes in order.
use Rattle.std.proofs.Common.{◌≡◌, refl, ap, ℕ, List, [], ◌∷◌, map, Ordering}
use Rattle.std.specs.BTreeSet.{insert_key}
use Rattle.std.specs.Cmp.Lexicographic.{slice_cmp}
use Rattle.std.specs.Ordering.{match_ordering, nat_cmp}
use Rattle.std.specs.declared.alloc.Global.{Global}
use Rattle.std.specs.declared.cmp.Ordering.TheVariants.{Less, Equal, Greater}
use Rattle.std.specs.declared.vec.Vec.{Vec}
use Rattle.mdb_datum.specs.Bytes.{Bytes}

abbrev bytes_of : Vec ℕ Global → Bytes
bytes_of key = key.items

abbrev compared : Vec ℕ Global → Vec ℕ Global → Ordering
compared a b = slice_cmp nat_cmp a.items b.items

pub key_inserted : (ks : List (Vec ℕ Global)) (k : Vec ℕ Global) → map bytes_of (insert_key compared ks k) ≡ insert_key (slice_cmp nat_cmp) (map bytes_of ks) k.items
key_inserted [] k = refl
key_inserted (x ∷ ks) k = of (compared k x) (key_inserted ks k)
  where
    of : (o : Ordering) → map bytes_of (insert_key compared ks k) ≡ insert_key (slice_cmp nat_cmp) (map bytes_of ks) k.items → map bytes_of (match_ordering o (k ∷ x ∷ ks) (x ∷ ks) (x ∷ insert_key compared ks k)) ≡ match_ordering o (k.items ∷ x.items ∷ map bytes_of ks) (x.items ∷ map bytes_of ks) (x.items ∷ insert_key (slice_cmp nat_cmp) (map bytes_of ks) k.items)
    of Less rest = refl
    of Equal rest = refl
    of Greater rest = ap (λ (l : List Bytes). x.items ∷ l) rest
