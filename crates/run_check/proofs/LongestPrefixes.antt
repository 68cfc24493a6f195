-- The pair of the longest key that is a prefix of a key.
use Rattle.std.proofs.Common.{◌≡◌, ◌∙◌, ◌<◌, ◌≤◌, ◌&&◌, ◌++◌, ◌⊎◌, ℕ, Bool, true, false, cond, List, [], ◌∷◌, length, Option, Some, None, arith, refl, sym, ap, subst, inl, inr}
use Rattle.std.specs.Prelude.{if◌then◌else◌, nat_eq, nat_lt, option_map}
use Rattle.std.specs.FinMap as finite
use Rattle.std.specs.Ordering.{eq_by_cmp, is_eq}
use Rattle.std.proofs.lemmas.Bool.{and_from, and_parts, cases_lt, eq-eqb, eqb-true, false≢true, le-ltb, lt-ltb}
use Rattle.mdb_datum.proofs.ByteOrder.{byte_order_itself, equal_from_is_eq, same_from_byte_order}
use Rattle.mdb_datum.specs.Bytes.{Bytes, byte_order, is_prefix}
use Rattle.mdb_datum.specs.Pairs.{longer, longest_pair, prefixes_of}
use Rattle.mdb_datum.specs.Row.{Fields, Pair}

-- ---- prefixes

pub prefix_itself : (k : Bytes) → is_prefix k k ≡ true
prefix_itself [] = refl
prefix_itself (b ∷ bs) = and_from (nat_eq b b) (is_prefix bs bs) (eq-eqb b b refl) (prefix_itself bs)

prefix_length : (a b : Bytes) → is_prefix a b ≡ true → length a ≤ length b
prefix_length [] b h = omega arith
prefix_length (x ∷ a) [] h = absurd (false≢true h)
prefix_length (x ∷ a) (y ∷ b) h = let w = prefix_length a b (and_parts (nat_eq x y) (is_prefix a b) h).1 in omega (arith, w)

prefix_whole : (a b : Bytes) → is_prefix a b ≡ true → length b ≤ length a → a ≡ b
prefix_whole [] [] h le = refl
prefix_whole [] (y ∷ b) h le = absurd (omega arith)
prefix_whole (x ∷ a) [] h le = absurd (false≢true h)
prefix_whole (x ∷ a) (y ∷ b) h le =
    let w = and_parts (nat_eq x y) (is_prefix a b) h in
    ap (λ z. z ∷ a) (eqb-true x y w.0) ∙ ap (λ c. y ∷ c) (prefix_whole a b w.1 (omega arith))

-- of a key with one byte more: those of the key, and itself
prefix_push : (a b : Bytes) (x : ℕ) → (a ≡ b ++ x ∷ [] → ⊥) → is_prefix a (b ++ x ∷ []) ≡ is_prefix a b
prefix_push [] b x other = refl
prefix_push (y ∷ a) [] x other = of a other
  where
    of : (a : Bytes) → (y ∷ a ≡ x ∷ [] → ⊥) → (nat_eq y x && is_prefix a []) ≡ false
    of [] other = tie (nat_eq y x) refl
      where
        tie : (b : Bool) → nat_eq y x ≡ b → (b && true) ≡ false
        tie true e = absurd (other (ap (λ z. z ∷ []) (eqb-true y x e)))
        tie false e = refl
    of (z ∷ a) other = none (nat_eq y x)
      where
        none : (b : Bool) → (b && false) ≡ false
        none true = refl
        none false = refl
prefix_push (y ∷ a) (z ∷ b) x other = of (nat_eq y z) refl (prefix_push a b x)
  where
    of : (t : Bool) → nat_eq y z ≡ t → ((a ≡ b ++ x ∷ [] → ⊥) → is_prefix a (b ++ x ∷ []) ≡ is_prefix a b)
        → (t && is_prefix a (b ++ x ∷ [])) ≡ (t && is_prefix a b)
    of true e later = later (λ same. other (ap (λ w. w ∷ a) (eqb-true y z e) ∙ ap (λ c. z ∷ c) same))
    of false e later = refl

pub no_bytes : (k : Bytes) → length k ≡ 0 → k ≡ []
no_bytes [] h = refl
no_bytes (b ∷ bs) h = absurd (omega arith)

-- ---- no pair has the key itself

not_tied : (key : Bytes) (p : Pair) (ps : List Pair) → finite.find byte_order key (p ∷ ps) ≡ None → (p.0 ≡ key → ⊥) × (finite.find byte_order key ps ≡ None)
not_tied key p ps h = of (eq_by_cmp byte_order key p.0) refl h
  where
    of : (b : Bool) → eq_by_cmp byte_order key p.0 ≡ b → cond b (Some p.1) (finite.find byte_order key ps) ≡ None → (p.0 ≡ key → ⊥) × (finite.find byte_order key ps ≡ None)
    of true tie none = absurd (some none)
      where
        some : Some p.1 ≡ None → ⊥
        some e = cc
    of false tie none = ((λ same. false≢true (sym tie ∙ ap (λ k. is_eq (byte_order key k)) same ∙ ap is_eq (byte_order_itself key))), none)

pub prefixes_shorter : (key : Bytes) (x : ℕ) (ps : List Pair) → finite.find byte_order (key ++ x ∷ []) ps ≡ None → prefixes_of (key ++ x ∷ []) ps ≡ prefixes_of key ps
prefixes_shorter key x [] h = refl
prefixes_shorter key x (p ∷ ps) h =
    let w = not_tied (key ++ x ∷ []) p ps h in
    ap (λ b. cond b (p ∷ prefixes_of (key ++ x ∷ []) ps) (prefixes_of (key ++ x ∷ []) ps)) (prefix_push p.0 key x w.0)
    ∙ ap (λ qs. cond (is_prefix p.0 key) (p ∷ qs) qs) (prefixes_shorter key x ps w.1)

pub prefixes_none : (ps : List Pair) → finite.find byte_order [] ps ≡ None → prefixes_of [] ps ≡ []
prefixes_none [] h = refl
prefixes_none (p ∷ ps) h =
    let w = not_tied [] p ps h in
    ap (λ b. cond b (p ∷ prefixes_of [] ps) (prefixes_of [] ps)) (of p.0 w.0) ∙ prefixes_none ps w.1
  where
    of : (k : Bytes) → (k ≡ [] → ⊥) → is_prefix k [] ≡ false
    of [] other = absurd (other refl)
    of (b ∷ bs) other = refl

-- ---- one pair has it

-- the longest is no longer than the key
abbrev IsShort : Bytes → Option Pair → Type 0
IsShort key None = Unit {0}
IsShort key (Some q) = length q.0 ≤ length key

longest_short : (key : Bytes) (ps : List Pair) → IsShort key (longest_pair (prefixes_of key ps))
longest_short key [] = tt
longest_short key (p ∷ ps) = of (is_prefix p.0 key) refl (longest_pair (prefixes_of key ps)) refl (longest_short key ps)
  where
    pick : (q : Pair) (b : Bool) → length p.0 ≤ length key → length q.0 ≤ length key → length (if b then q else p).0 ≤ length key
    pick q true short rest = rest
    pick q false short rest = short

    of : (b : Bool) → is_prefix p.0 key ≡ b → (o : Option Pair) → longest_pair (prefixes_of key ps) ≡ o → IsShort key (longest_pair (prefixes_of key ps))
        → IsShort key (longest_pair (cond b (p ∷ prefixes_of key ps) (prefixes_of key ps)))
    of false e o is rest = rest
    of true e None is rest = subst (λ (r : Option Pair). IsShort key (Some (longer p r))) (sym is) (prefix_length p.0 key e)
    of true e (Some q) is rest =
        subst (λ (r : Option Pair). IsShort key (Some (longer p r))) (sym is)
        (pick q (nat_lt (length p.0) (length q.0)) (prefix_length p.0 key e) (subst (IsShort key) is rest))

longest_found : (key : Bytes) (r : Fields) (ps : List Pair) → finite.find byte_order key ps ≡ Some r
    → (q : Pair) × (longest_pair (prefixes_of key ps) ≡ Some q) × (q.0 ≡ key) × (q.1 ≡ r)
longest_found key r [] h = absurd (none h)
  where
    none : None ≡ Some r → ⊥
    none e = cc
longest_found key r (p ∷ ps) h =
    of (eq_by_cmp byte_order key p.0) refl h (is_prefix p.0 key) refl (longest_pair (prefixes_of key ps)) refl (longest_short key ps) (longest_found key r ps)
  where
    Found : List Pair → Type 0
    Found qs = (q : Pair) × (longest_pair qs ≡ Some q) × (q.0 ≡ key) × (q.1 ≡ r)

    of : (t : Bool) → eq_by_cmp byte_order key p.0 ≡ t → cond t (Some p.1) (finite.find byte_order key ps) ≡ Some r
        → (b : Bool) → is_prefix p.0 key ≡ b → (o : Option Pair) → longest_pair (prefixes_of key ps) ≡ o → IsShort key (longest_pair (prefixes_of key ps))
        → (finite.find byte_order key ps ≡ Some r → (q : Pair) × (longest_pair (prefixes_of key ps) ≡ Some q) × (q.0 ≡ key) × (q.1 ≡ r))
        → (q : Pair) × (longest_pair (cond b (p ∷ prefixes_of key ps) (prefixes_of key ps)) ≡ Some q) × (q.0 ≡ key) × (q.1 ≡ r)
    of true tie is b e o most short later =
        (p, ap (λ b. longest_pair (cond b (p ∷ prefixes_of key ps) (prefixes_of key ps))) (sym e ∙ whole) ∙ ap Some (first o most short), same, row)
      where
        same : p.0 ≡ key
        same = sym (same_from_byte_order key p.0 (equal_from_is_eq (byte_order key p.0) tie))

        row : p.1 ≡ r
        row = cc

        whole : is_prefix p.0 key ≡ true
        whole = ap (λ k. is_prefix k key) same ∙ prefix_itself key

        first : (o : Option Pair) → longest_pair (prefixes_of key ps) ≡ o → IsShort key (longest_pair (prefixes_of key ps)) → longer p (longest_pair (prefixes_of key ps)) ≡ p
        first None at short = ap (longer p) at
        first (Some q) at short =
            let le = subst (IsShort key) at short in
            ap (longer p) at ∙ ap (λ b. if b then q else p) (le-ltb (length p.0) (length q.0) (omega (arith, le, ap (λ (k : Bytes). length k) same)))
    of false tie is false e o most short later = later is
    of false tie is true e o most short later = bigger (later is)
      where
        bigger : (q : Pair) × (longest_pair (prefixes_of key ps) ≡ Some q) × (q.0 ≡ key) × (q.1 ≡ r)
            → (q : Pair) × (Some (longer p (longest_pair (prefixes_of key ps))) ≡ Some q) × (q.0 ≡ key) × (q.1 ≡ r)
        bigger (q, at, same, row) = (q, ap (λ o. Some (longer p o)) at ∙ ap (λ b. Some (if b then q else p)) (lt-ltb (length p.0) (length q.0) shorter), same, row)
          where
            shorter : length p.0 < length q.0
            shorter = less (prefix_length p.0 key e) (ap (λ (k : Bytes). length k) same)
              where
                less : length p.0 ≤ length key → length q.0 ≡ length key → length p.0 < length q.0
                less le eq = strict (cases_lt (length p.0) (length key)) le eq
                  where
                    strict : (length p.0 < length key) ⊎ (length key ≤ length p.0) → length p.0 ≤ length key → length q.0 ≡ length key → length p.0 < length q.0
                    strict (inl lt) le eq = omega (arith, lt, eq)
                    strict (inr ge) le eq =
                        absurd (false≢true (sym tie ∙ ap (λ k. is_eq (byte_order key k)) (prefix_whole p.0 key e ge) ∙ ap is_eq (byte_order_itself key)))

pub longest_row : (key : Bytes) (r : Fields) (ps : List Pair) → finite.find byte_order key ps ≡ Some r
    → option_map (λ (e : Pair). e.1) (longest_pair (prefixes_of key ps)) ≡ Some r
longest_row key r ps h = let w = longest_found key r ps h in ap (option_map (λ (e : Pair). e.1)) w.1 ∙ ap Some w.3
