-- How many rows a list has, each counted once, by the `id` keys that were seen.
use Rattle.std.proofs.Common.{◌≡◌, ◌∙◌, ◌≤◌, ◌+◌, ◌||◌, ◌++◌, ◌∷◌, [], ℕ, suc, List, length, drop, Bool, true, false, cond, Some, None, Ok, Contains, refl, sym, ap, subst, arith}
use Rattle.std.specs.Str.{bytes_eq}
use Rattle.mdb_datum.specs.Bytes.{is_prefix}
use Rattle.mdb_datum.specs.Pairs.{first_item, rows_of, with_prefix}
use Rattle.mdb_datum.specs.Row.{Fields, Pair}
use Rattle.mdb_encode.specs.Bytes.{Bytes}
use Rattle.mdb_schema.specs.Schema.{TableSchema}
use Rattle.mdb_schema.specs.State.{id_key}
use Rattle.mdb_schema.specs.Wipe.{once, once_after}
use Rattle.mdb_schema.specs.Write.{id_of, is_among}
use Rattle.mdb_schema.proofs.IdKeys.{id_of-key}
use Rattle.mdb_schema.proofs.Membership.{Contains-first, Contains-later}
use Rattle.radix_node.specs.Cells.{CellTree, plain_of}
use Rattle.radix_node.specs.Nodes.{pairs_of}
use Rattle.table_index.specs.inner.Wipes.{IsStored, rows_under}
use Rattle.table_index.proofs.WipeSteps.{first_rest, no_more}

-- the keys so far, in another order than in the definition, and the rows that are still to be
-- counted
pub record Counts (t : TableSchema) (all rest : List Fields) (seen : List Bytes) : Type 0 where
  pub keys : List Bytes
  pub same : (k : Bytes) → is_among seen k ≡ is_among keys k
  pub count : length seen + length (once_after t keys rest) ≡ length (once t all)
  pub stored : (r : Fields) → Contains rest r → IsStored t r

pub counts_first : (t : TableSchema) (all : List Fields) (seen : List Bytes) → seen ≡ [] → ((r : Fields) → Contains all r → IsStored t r) → Counts t all all seen
counts_first t all seen none stored = record {
  keys = [];
  same = λ k. ap (λ (ks : List Bytes). is_among ks k) none;
  count = let empty : length seen ≡ 0 = ap length none in omega (arith, empty);
  stored = stored;
}

or_turned : (a b : Bool) → (a || (b || false)) ≡ (b || a)
or_turned true true = refl
or_turned true false = refl
or_turned false true = refl
or_turned false false = refl

among_end : (ks : List Bytes) (id k : Bytes) → is_among (ks ++ id ∷ []) k ≡ (is_among ks k || (bytes_eq k id || false))
among_end [] id k = refl
among_end (j ∷ ks) id k = of (bytes_eq k j) (among_end ks id k)
  where
    of : (b : Bool) → is_among (ks ++ id ∷ []) k ≡ (is_among ks k || (bytes_eq k id || false)) → (b || is_among (ks ++ id ∷ []) k) ≡ ((b || is_among ks k) || (bytes_eq k id || false))
    of true later = refl
    of false later = later

length_end : (ks : List Bytes) (id : Bytes) → length (ks ++ id ∷ []) ≡ suc (length ks)
length_end [] id = refl
length_end (k ∷ ks) id = ap suc (length_end ks id)

module _ (t : TableSchema) (all : List Fields) (r : Fields) (rs : List Fields) (seen : List Bytes) (id : Bytes) (known : id_of t r ≡ Ok id) (c : Counts t all (r ∷ rs) seen) where
  key : id_key t r ≡ id
  key = id_of-key t r id known

  -- the row's key was seen, or not
  told : (b : Bool) → is_among seen id ≡ b → once_after t c.keys (r ∷ rs) ≡ cond b (once_after t c.keys rs) (r ∷ once_after t (id ∷ c.keys) rs)
  told b is =
      let among : is_among c.keys (id_key t r) ≡ b = ap (is_among c.keys) key ∙ sym (c.same id) ∙ is in
      ap (λ (a : Bool). cond a (once_after t c.keys rs) (r ∷ once_after t (id_key t r ∷ c.keys) rs)) among
      ∙ ap (λ (k : Bytes). cond b (once_after t c.keys rs) (r ∷ once_after t (k ∷ c.keys) rs)) key

  counts_seen : is_among seen id ≡ true → Counts t all rs seen
  counts_seen is = record {
    keys = c.keys;
    same = c.same;
    count = ap (λ (l : List Fields). length seen + length l) (sym (told true is)) ∙ c.count;
    stored = λ x h. c.stored x (Contains-later r rs x h);
  }

  counts_new : is_among seen id ≡ false → (more : List Bytes) → more ≡ seen ++ id ∷ [] → Counts t all rs more
  counts_new is more added =
      let before : length seen + length (r ∷ once_after t (id ∷ c.keys) rs) ≡ length (once t all) = ap (λ (l : List Fields). length seen + length l) (sym (told false is)) ∙ c.count in
      let longer : length more ≡ suc (length seen) = ap length added ∙ length_end seen id in
      record {
        keys = id ∷ c.keys;
        same = λ k.
            ap (λ (ks : List Bytes). is_among ks k) added ∙ among_end seen id k ∙ or_turned (is_among seen k) (bytes_eq k id) ∙ ap (λ (b : Bool). bytes_eq k id || b) (c.same k);
        count = omega (arith, before, longer);
        stored = λ x h. c.stored x (Contains-later r rs x h);
      }

-- ---- the same, as the code meets it

module _ (t : TableSchema) (all rest : List Fields) (seen : List Bytes) (r : Fields) (first : first_item rest ≡ Some r) (c : Counts t all rest seen) where
  now : Counts t all (r ∷ drop 1 rest) seen
  now = subst (λ (l : List Fields). Counts t all l seen) (first_rest rest r first) c

  pub counted_stored : IsStored t r
  counted_stored = now.stored r (Contains-first r (drop 1 rest))

  module _ (later : List Fields) (next : later ≡ drop 1 rest) (id : Bytes) (known : id_of t r ≡ Ok id) where
    seen_before : is_among seen id ≡ true → Counts t all later seen
    seen_before is = subst (λ (l : List Fields). Counts t all l seen) (sym next) (counts_seen t all r (drop 1 rest) seen id known now is)

    seen_first : is_among seen id ≡ false → (more : List Bytes) → more ≡ seen ++ id ∷ [] → Counts t all later more
    seen_first is more added = subst (λ (l : List Fields). Counts t all l more) (sym next) (counts_new t all r (drop 1 rest) seen id known now is more added)

    -- the key is added where it wasn't seen
    pub seen_next : (more : List Bytes) → more ≡ cond (is_among seen id) seen (seen ++ id ∷ []) → Counts t all later more
    seen_next more added = of (is_among seen id) refl
      where
        by : (b : Bool) → is_among seen id ≡ b → more ≡ cond b seen (seen ++ id ∷ [])
        by b is = added ∙ ap (λ (a : Bool). cond a seen (seen ++ id ∷ [])) is

        of : (b : Bool) → is_among seen id ≡ b → Counts t all later more
        of true is = subst (λ (s : List Bytes). Counts t all later s) (sym (by true is)) (seen_before is)
        of false is = seen_first is more (by false is)

pub counted_all : (t : TableSchema) (all rest : List Fields) (seen : List Bytes) → first_item rest ≡ None → Counts t all rest seen → length seen ≡ length (once t all)
counted_all t all rest seen none c =
    let end : length seen + length (once_after t c.keys []) ≡ length (once t all) = ap (λ (l : List Fields). length seen + length (once_after t c.keys l)) (sym (no_more rest none)) ∙ c.count in
    omega (arith, end)

-- there are at most as many as rows
once_within : (t : TableSchema) (seen : List Bytes) (rs : List Fields) → length (once_after t seen rs) ≤ length rs
once_within t seen [] = omega arith
once_within t seen (r ∷ rs) = of (is_among seen (id_key t r)) (once_within t seen rs) (once_within t (id_key t r ∷ seen) rs)
  where
    of : (b : Bool) → length (once_after t seen rs) ≤ length rs → length (once_after t (id_key t r ∷ seen) rs) ≤ length rs
        → length (cond b (once_after t seen rs) (r ∷ once_after t (id_key t r ∷ seen) rs)) ≤ length (r ∷ rs)
    of true skipped taken = omega (arith, skipped)
    of false skipped taken = omega (arith, taken)

once_few : (t : TableSchema) (rs : List Fields) → length (once t rs) ≤ length rs
once_few t rs = once_within t [] rs

-- and one, if there is a row
pub once_more : (t : TableSchema) (rs : List Fields) (n : ℕ) → n ≡ length rs → 1 ≤ n → 1 ≤ length (once t rs)
once_more t [] n is some = absurd (omega (arith, is, some))
once_more t (r ∷ rs) n is some = omega arith

-- a tree lists at most as many rows under a key as it has keys
under_within : (key : Bytes) (es : List Pair) → length (rows_of (with_prefix key es)) ≤ length es
under_within key [] = omega arith
under_within key (e ∷ es) = of (is_prefix key e.0) (under_within key es)
  where
    of : (b : Bool) → length (rows_of (with_prefix key es)) ≤ length es → length (rows_of (cond b (e ∷ with_prefix key es) (with_prefix key es))) ≤ length (e ∷ es)
    of true later = omega (arith, later)
    of false later = omega (arith, later)

pub once_under : (t : TableSchema) (key : Bytes) (tree : CellTree) → length (once t (rows_under key tree)) ≤ length (pairs_of (plain_of tree))
once_under t key tree = omega (arith, once_few t (rows_under key tree), under_within key (pairs_of (plain_of tree)))
