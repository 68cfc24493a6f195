-- A made row is put into the one table, whatever rows are there.
use Rattle.std.proofs.Common.{◌≡◌, ◌∙◌, ◌++◌, ◌<◌, ◌≤◌, ◌%◌, ℕ, List, [], ◌∷◌, length, Bool, true, false, if◌then◌else◌, codes, decimal, drop, ◌||◌, Some, None, Ok, Err, Contains, arith, refl, sym, ap, subst, inl, inr}
use Rattle.std.specs.Prelude.{nat_lt, pos, negsuc}
use Rattle.std.proofs.Math.Nat.{mod-lt}
use Rattle.std.proofs.lemmas.Bool.{le-ltb, lt-ltb}
use Rattle.std.proofs.lemmas.Fmt.{length-decimal-le}
use Rattle.std.proofs.lemmas.List.{length-append}
use Rattle.std.proofs.Math.Seq.{drop-append_seam}
use Rattle.mdb_datum.specs.Doc.{Doc, nil, flag, whole, text, list, object}
use Rattle.mdb_datum.specs.Row.{Fields}
use Rattle.mdb_encode.specs.Bytes.{Bytes}
use Rattle.mdb_encode.specs.Indexer.{Indexer, str, uint}
use Rattle.mdb_encode.specs.KeyRefusal.{too_long, out_of_range}
use Rattle.mdb_encode.specs.Keys.{Keyed, keys, ended, big_endian, is_too_long, value_at, uint_keys, key_or, limited}
use Rattle.mdb_schema.specs.Schema.{IndexSchema}
use Rattle.mdb_schema.specs.State.{Table, id_key, full_key, full_keys, keys_or_none, first_key, row_at, with_row, Takes, SharesKey}
use Rattle.mdb_schema.specs.Write.{put, put_row, step}
use Rattle.mdb_schema.proofs.IdKeys.{IdIndex, id_of-taken}
use Rattle.mdb_schema.proofs.LawfulStates.{step_in-from}
use Rattle.mdb_schema.proofs.Membership.{Contains-nil, Contains-first, Contains-later, Contains-cons_cases, Contains-from_map, no_tie}
use Rattle.mdb_schema.proofs.OneKey.{one_key}
use Rattle.mdb_schema.proofs.Writes.{MayPut, put_answer}
use Rattle.memdb.specs.Made.{Item, item_of}
use Rattle.memdb.specs.inner.MadeInputs.{made_schema, row_of}
use Rattle.memdb.proofs.MadeItem.{IsItem, item_table}

-- ---- the rows of the clients

pub is_item : (client v : ℕ) → client ≤ 64 → IsItem (item_of client v)
is_item client v few =
    let by = length-decimal-le 2 client (omega arith) (omega arith) (omega arith) in
    let m : v % 100 < 100 = mod-lt v (omega arith) in
    let of = length-decimal-le 2 (v % 100) (omega arith) m (omega arith) in
    let name = length-append (codes "k") (decimal client ++ (codes "-" ++ decimal (v % 100))) in
    let rest = length-append (decimal client) (codes "-" ++ decimal (v % 100)) in
    let last = length-append (codes "-") (decimal (v % 100)) in
    record {
      age = mod-lt v (omega arith);
      some_name = omega (arith, name);
      short_name = omega (arith, by, of, name, rest, last);
    }

-- ---- the two indexes

abbrev pub by_age : Indexer
by_age = uint (codes "age") 2

abbrev pub by_name : Indexer
by_name = str (codes "name") false

abbrev pub age_index : IndexSchema
age_index = record {
  name = codes "age";
  unique = false;
  allow_missing = false;
  indexer = by_age;
}

abbrev pub id_index : IndexSchema
id_index = record {
  name = codes "id";
  unique = true;
  allow_missing = false;
  indexer = by_name;
}

-- the index `id` of the table
abbrev pub id_place : IdIndex item_table
id_place = record {
  index = id_index;
  place = 1;
  named = refl;
  placed = refl;
  there = refl;
  within = Contains-later age_index (id_index ∷ []) id_index (Contains-first id_index []);
  name = refl;
  rules = record { single = refl; unique = refl; always = refl };
}

-- what holds of both indexes holds of each
pub at_both : (P : IndexSchema → Type 0) → P age_index → P id_index
    → (i : IndexSchema) → Contains item_table.indexes i → P i
at_both P age id i h = elim (Contains-cons_cases age_index (id_index ∷ []) i h) [
  | inl first ↦ subst P first age
  | inr later ↦ elim (Contains-cons_cases id_index [] i later) [
    | inl second ↦ subst P second id
    | inr none ↦ absurd (Contains-nil i none)
  ]
]

-- ---- the keys of a made row

-- one key is not too many, and no longer than a key may be
short_enough : (k : Bytes) → length k ≤ 1024 → limited (Ok (k ∷ [])) ≡ Ok (k ∷ [])
short_enough k short = of (is_too_long k) (le-ltb 1024 (length k) short)
  where
    of : (b : Bool) → b ≡ false → (if b || false then Err too_long else Ok (k ∷ [])) ≡ Ok (k ∷ [])
    of false e = refl
    of true e = cc

name_key : (s : Bytes) (age : ℕ) → 1 ≤ length s → length s ≤ 1023
    → keys by_name (row_of (record { name = s; age = age })) ≡ Ok (ended s ∷ [])
name_key [] age some short = absurd (omega arith)
name_key (b ∷ s) age some short = short_enough (ended (b ∷ s)) (let n = length-append (b ∷ s) (0 ∷ []) in omega arith)

pub name_keys : (x : Item) → IsItem x → keys by_name (row_of x) ≡ Ok (ended x.name ∷ [])
name_keys x is = name_key x.name x.age is.some_name is.short_name

-- the keys of an age that fits or doesn't
abbrev age_told : ℕ → Bool → Keyed
age_told n fits = limited (key_or out_of_range (if fits then Some (big_endian 2 n) else None))

pub age_keys : (x : Item) → IsItem x → keys by_age (row_of x) ≡ Ok (big_endian 2 x.age ∷ [])
age_keys x is =
    ap (age_told x.age) (lt-ltb x.age 65536 is.age)
    ∙ short_enough (big_endian 2 x.age) (omega arith)

-- the `id` key of a made row is its name with the end byte
pub id_key-item : (x : Item) → IsItem x → id_key item_table (row_of x) ≡ ended x.name
id_key-item x is = ap first_key (name_keys x is)

-- ---- each index takes it

pub item_taken : (x : Item) → IsItem x → (i : IndexSchema) → Contains item_table.indexes i → Takes (row_of x) i
item_taken x is = at_both (Takes (row_of x))
    (record { found = big_endian 2 x.age ∷ []; lawful = age_keys x is; enough = inr (λ e. cc) })
    (record { found = ended x.name ∷ []; lawful = name_keys x is; enough = inr (λ e. cc) })

-- ---- no other row has its keys

-- each key of an age has two bytes
two_bytes_told : (n : ℕ) (fits : Bool) (k : Bytes) → Contains (keys_or_none (age_told n fits)) k → length k ≡ 2
two_bytes_told n false k h = absurd (Contains-nil k h)
two_bytes_told n true k h = elim (Contains-cons_cases (big_endian 2 n) [] k h) [
  | inl same ↦ ap length (sym same)
  | inr none ↦ absurd (Contains-nil k none)
]

two_bytes : (d : Doc) (k : Bytes) → Contains (keys_or_none (limited (uint_keys 2 d))) k → length k ≡ 2
two_bytes (whole (pos n)) k h = two_bytes_told n (nat_lt n 65536) k h
two_bytes (whole (negsuc n)) k h = absurd (Contains-nil k h)
two_bytes nil k h = absurd (Contains-nil k h)
two_bytes (flag b) k h = absurd (Contains-nil k h)
two_bytes (text s) k h = absurd (Contains-nil k h)
two_bytes (list ds) k h = absurd (Contains-nil k h)
two_bytes (object fs) k h = absurd (Contains-nil k h)

-- what follows as many bytes is the same
same_behind : (a b s t : Bytes) → length a ≡ length b → a ++ s ≡ b ++ t → s ≡ t
same_behind a b s t long same =
    sym (drop-append_seam a s) ∙ ap (drop (length a)) same ∙ ap (λ (n : ℕ). drop n (b ++ t)) long ∙ drop-append_seam b t

-- a full key of the ages is two bytes and the `id` key
age_full_key : (row : Fields) (k : Bytes) → Contains (full_keys item_table age_index row) k
    → (a : Bytes) × (length a ≡ 2) × (a ++ id_key item_table row ≡ k)
age_full_key row k h =
    let of = full_key age_index (id_key item_table row) in
    let w = Contains-from_map of (keys_or_none (keys by_age row)) k h in
    (w.0, two_bytes (value_at (codes "age") row) w.0 w.1, w.2)

-- one key at most stands for a row in the index `id`, and it is its `id` key
id_full_key : (row : Fields) (k : Bytes) → Contains (full_keys item_table id_index row) k → id_key item_table row ≡ k
id_full_key row k h =
    let stored = full_key id_index (id_key item_table row) in
    let w = Contains-from_map stored (keys_or_none (keys by_name row)) k h in
    of (keys by_name row) refl w.0 w.1 ∙ w.2
  where
    first : (ks : List Bytes) → keys by_name row ≡ Ok ks → (q : Bytes) → Contains ks q
        → first_key (Ok ks) ≡ q
    first [] e q h = absurd (Contains-nil q h)
    first (j ∷ js) e q h =
        let one = one_key by_name row (j ∷ js) refl e (λ e. cc) in
        elim (Contains-cons_cases one.0 [] q (subst (λ (l : List Bytes). Contains l q) one.1 h)) [
          | inl same ↦ ap (λ (l : List Bytes). first_key (Ok l)) one.1 ∙ same
          | inr none ↦ absurd (Contains-nil q none)
        ]

    of : (o : Keyed) → keys by_name row ≡ o → (q : Bytes) → Contains (keys_or_none o) q → first_key o ≡ q
    of (Err r) e q h = absurd (Contains-nil q h)
    of (Ok ks) e q h = first ks e q h

-- rows that share a key have one `id` key
pub one_id : (i : IndexSchema) (row other : Fields) → Contains item_table.indexes i → SharesKey item_table i row other
    → id_key item_table other ≡ id_key item_table row
one_id i row other within = at_both
    (λ j. SharesKey item_table j row other → id_key item_table other ≡ id_key item_table row)
    (λ shared.
    let a = age_full_key row shared.0 shared.1 in
    let b = age_full_key other shared.0 shared.2 in
    same_behind b.0 a.0 (id_key item_table other) (id_key item_table row) (b.1 ∙ sym a.1) (b.2 ∙ sym a.2))
    (λ shared. id_full_key other shared.0 shared.2 ∙ sym (id_full_key row shared.0 shared.1))
    i within

-- ---- the step

may_put : (rows : List Fields) (x : Item) → IsItem x → MayPut item_table (row_of x) rows
may_put rows x is = record {
  id = id_of-taken item_table id_place (row_of x) (item_taken x is id_index id_place.within);
  taken = item_taken x is;
  free = λ i within other there apart shared.
      no_tie (id_key item_table other) (id_key item_table (row_of x)) apart (one_id i (row_of x) other within shared);
}

abbrev table_of_rows : List Fields → Table
table_of_rows rows = record { place = 0; schema = item_table; rows = rows }

pub step_item : (rows : List Fields) (x : Item) → IsItem x
    → step made_schema (rows ∷ []) (put (codes "items") (row_of x))
    ≡ Ok (with_row item_table (row_of x) rows ∷ [], row_at item_table (id_key item_table (row_of x)) rows)
step_item rows x is =
    step_in-from made_schema (rows ∷ []) (codes "items")
    (λ (t : Table). put_row t.schema (row_of x) t.rows) (table_of_rows rows)
    (with_row item_table (row_of x) rows, row_at item_table (id_key item_table (row_of x)) rows)
    (record {
      there = record { place = refl; schema = refl; rows = refl };
      change = put_answer item_table (row_of x) rows (may_put rows x is);
    })
