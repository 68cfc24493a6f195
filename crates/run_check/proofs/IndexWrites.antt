-- What a write of a key leaves of an index: of what every sight has, and of which writes made versions.
use Rattle.std.proofs.Common.{◌≡◌, ◌∙◌, ◌<◌, ◌≤◌, ◌++◌, ◌⊎◌, ℕ, zero, suc, Bool, true, false, cond, List, [], ◌∷◌, map, get_or, Option, Some, None, Contains, Less, Equal, Greater, arith, refl, sym, ap, subst, inl, inr}
use Rattle.std.specs.Prelude.{◌↔◌, if◌then◌else◌, nat_eq, nat_le, option_and_then, unwrap_or}
use Rattle.std.specs.FinMap as finite
use Rattle.std.specs.FinMap.Entries as pairs
use Rattle.std.specs.Ordering.{eq_by_cmp, is_eq}
use Rattle.std.specs.Str.{bytes_eq}
use Rattle.std.proofs.lemmas.Bool.{cases_lt, eqb-true, le-leb, lt-leb}
use Rattle.std.proofs.lemmas.Cmp.{nat_list_cmp_total}
use Rattle.std.proofs.lemmas.Map.Text.{is_eq-slice_cmp}
use Rattle.std.proofs.lemmas.List.{get_or_default}
use Rattle.std.proofs.lemmas.List.Elements.{Contains-append_left, Contains-push, Contains-push_cases}
use Rattle.mdb_datum.proofs.ByteOrder.{T_from_true, byte_order_itself, equal_from_is_eq, same_from_byte_order, true_from_T}
use Rattle.mdb_datum.specs.Bytes.{Bytes, byte_order}
use Rattle.mdb_datum.specs.Row.{Fields, Pair}
use Rattle.mdb_schema.proofs.EntryEdits.{entry_at-put, entry_at-without, same_pairs, sorted-put, sorted-without}
use Rattle.mdb_schema.proofs.Membership.{same_key}
use Rattle.std.specs.BTreeMap.{insert_entry, is_at}
use Rattle.std.specs.Map.{set_value}
use Rattle.std.specs.Ordering.{match_ordering}
use Rattle.std.specs.declared.alloc.Global.{Global}
use Rattle.std.specs.declared.cmp.Ordering.{Ordering}
use Rattle.std.specs.declared.vec.Vec.{Vec}
use Rattle.run_check.proofs.IndexLooks.{by, find_from_there, there_from_find}
use Rattle.run_check.proofs.SlotsSeen.{Entries, Es, below_head, below_less, find-below, find-pairs_seen, sorted-pairs_seen, sorted_tail}
use Rattle.run_check.specs.declared.sight.Own.{Own}
use Rattle.run_check.specs.declared.sight.Sight.{Sight}
use Rattle.run_check.specs.declared.sight.Stamp.{Stamp}
use Rattle.run_check.specs.declared.sight.Stamp.TheVariants as stamps
use Rattle.run_check.specs.declared.slot.OwnVersion as own_version
use Rattle.run_check.specs.declared.slot.Version as version
use Rattle.run_check.specs.inner.IndexView.{AreBytes, AreKeys, HasOwn, HasVersion, IsCommit, IsOwn, IsWritten, KeyVersions, MayWrite, pairs_after, pairs_seen, sees, slot_at, slot_of, with_slot}
use Rattle.run_check.specs.inner.SlotView.{IsLatest, IsOwnAt, IsVersionAt, Versions, is_of, latest, no_versions, own_row, own_version_of, put_version, row_after, row_or, row_seen, with_version}

-- ---- a slot after a write

abbrev Vs : Type 0
Vs = List version.Version

-- a sight of fewer commits has the row that it had
after-fewer : (n : ℕ) (row : Option Fields) (m : ℕ) (was : Option Fields) (vs : Vs) → m < n → row_after m was (with_version n row vs) ≡ row_after m was vs
after-fewer n row m was [] lt = ap (λ b. if b then row else was) (lt-leb n m lt)
after-fewer n row m was (v ∷ []) lt = of (nat_eq v.commit n) refl
  where
    new : version.Version
    new = record { commit = n; row = row }

    of : (b : Bool) → nat_eq v.commit n ≡ b → row_after m was (if b then new ∷ [] else v ∷ new ∷ []) ≡ row_after m was (v ∷ [])
    of true e =
        ap (λ b. if b then row else was) (lt-leb n m lt)
        ∙ sym (ap (λ b. if b then v.row else was) (lt-leb v.commit m (omega (arith, eqb-true v.commit n e))))
    of false e = ap (λ o. if nat_le v.commit m then o else was) (ap (λ b. if b then row else v.row) (lt-leb n m lt))
after-fewer n row m was (v ∷ w ∷ vs) lt = ap (λ o. if nat_le v.commit m then o else was) (after-fewer n row m v.row (w ∷ vs) lt)

-- one of as many has the row that was written
after-more : (n : ℕ) (row : Option Fields) (m : ℕ) (was : Option Fields) (vs : Vs) → n ≤ m → ((v : version.Version) → Contains vs v → v.commit ≤ n)
    → row_after m was (with_version n row vs) ≡ row
after-more n row m was [] le below = ap (λ b. if b then row else was) (le-leb n m le)
after-more n row m was (v ∷ []) le below = of (nat_eq v.commit n)
  where
    new : version.Version
    new = record { commit = n; row = row }

    of : (b : Bool) → row_after m was (if b then new ∷ [] else v ∷ new ∷ []) ≡ row
    of true = ap (λ b. if b then row else was) (le-leb n m le)
    of false =
        ap (λ b. if b then (if nat_le n m then row else v.row) else was) (le-leb v.commit m (omega (arith, below v (0, omega arith, refl))))
        ∙ ap (λ b. if b then row else v.row) (le-leb n m le)
after-more n row m was (v ∷ w ∷ vs) le below =
    ap (λ b. if b then row_after m v.row (with_version n row (w ∷ vs)) else was) (le-leb v.commit m (omega (arith, below v (0, omega arith, refl))))
    ∙ after-more n row m v.row (w ∷ vs) le (λ u c. below u (suc c.0, omega (arith, c.1), c.2))

latest-push : (own : Own) (was : Option own_version.OwnVersion) (ws : List own_version.OwnVersion) (w : own_version.OwnVersion)
    → latest own was (ws ++ w ∷ []) ≡ (if is_of own w then Some w else latest own was ws)
latest-push own was [] w = refl
latest-push own was (v ∷ ws) w = latest-push own (if is_of own v then Some v else was) ws w

-- a write of a slot may come next; one of a commit while no transaction has written there
abbrev pub MayPut : Stamp → Versions → Type 0
MayPut (stamps.Commit n) x = IsLatest (stamps.Commit n) x × (x.own ≡ [])
MayPut (stamps.Own own) x = IsLatest (stamps.Own own) x

row_seen-put : (s : Sight) (stamp : Stamp) (row : Option Fields) (x : Versions) → MayPut stamp x
    → row_seen s (put_version stamp row x) ≡ (if sees s stamp then row else row_seen s x)
row_seen-put s (stamps.Commit n) row x may =
    no_own s.own (row_after s.commits None (with_version n row x.commits)) x.own may.1 ∙ of (cases_lt s.commits n)
    ∙ ap (λ o. if nat_le n s.commits then row else o) (sym (no_own s.own (row_after s.commits None x.commits) x.own may.1))
  where
    no_own : (o : Option Own) (was : Option Fields) (ws : List own_version.OwnVersion) → ws ≡ [] → own_row o was ws ≡ was
    no_own None was ws none = refl
    no_own (Some own) was ws none = ap (λ vs. row_or was (latest own None vs)) none

    of : (s.commits < n) ⊎ (n ≤ s.commits) → row_after s.commits None (with_version n row x.commits) ≡ (if nat_le n s.commits then row else row_after s.commits None x.commits)
    of (inl lt) =
        after-fewer n row s.commits None x.commits lt
        ∙ sym (ap (λ b. if b then row else row_after s.commits None x.commits) (lt-leb n s.commits lt))
    of (inr ge) =
        after-more n row s.commits None x.commits ge may.0
        ∙ sym (ap (λ b. if b then row else row_after s.commits None x.commits) (le-leb n s.commits ge))
row_seen-put s (stamps.Own own) row x may = of s.own
  where
    was : Option Fields
    was = row_after s.commits None x.commits

    of : (o : Option Own) → own_row o was (x.own ++ own_version_of own row ∷ []) ≡ (if sees (record { commits = s.commits; own = o }) (stamps.Own own) then row else own_row o was x.own)
    of None = refl
    of (Some o) = ap (row_or was) (latest-push o None x.own (own_version_of own row)) ∙ choose (is_of o (own_version_of own row))
      where
        choose : (b : Bool) → row_or was (if b then Some (own_version_of own row) else latest o None x.own) ≡ (if b then row else row_or was (latest o None x.own))
        choose true = refl
        choose false = refl

-- ---- the slots after it

find-with_slot : (stamp : Stamp) (key : Bytes) (row : Option Fields) (es : Es) (q : Bytes)
    → finite.find byte_order q (with_slot stamp key row es) ≡ (if eq_by_cmp byte_order q key then Some (put_version stamp row (slot_at key es)) else finite.find byte_order q es)
find-with_slot stamp key row es q = pairs.find-put byte_order nat_list_cmp_total q key (put_version stamp row (slot_at key es)) es

pub sorted-with_slot : (stamp : Stamp) (key : Bytes) (row : Option Fields) (es : Es) → finite.is_sorted byte_order es ≡ true
    → finite.is_sorted byte_order (with_slot stamp key row es) ≡ true
sorted-with_slot stamp key row es h =
    true_from_T _ (pairs.is_sorted-put byte_order nat_list_cmp_total key (put_version stamp row (slot_at key es)) es (T_from_true _ h))

seen-slot_at : (s : Sight) (key : Bytes) (es : Es) → row_seen s (slot_at key es) ≡ option_and_then (row_seen s) (finite.find byte_order key es)
seen-slot_at s key es = of (finite.find byte_order key es)
  where
    nothing : (o : Option Own) → own_row o None [] ≡ None
    nothing None = refl
    nothing (Some own) = refl

    of : (o : Option Versions) → row_seen s (unwrap_or o no_versions) ≡ option_and_then (row_seen s) o
    of None = nothing s.own
    of (Some y) = refl

tie_is_eq : (q key : Bytes) → eq_by_cmp byte_order q key ≡ bytes_eq q key
tie_is_eq q key = is_eq-slice_cmp q key

sorted-pairs_after : (b : Bool) (key : Bytes) (row : Option Fields) (ps : List Pair) → finite.is_sorted byte_order ps ≡ true → finite.is_sorted byte_order (pairs_after b key row ps) ≡ true
sorted-pairs_after false key row ps h = h
sorted-pairs_after true key None ps h = sorted-without key ps h
sorted-pairs_after true key (Some row) ps h = sorted-put key row ps h

find-pairs_after : (b : Bool) (key : Bytes) (row : Option Fields) (ps : List Pair) (q : Bytes)
    → finite.find byte_order q (pairs_after b key row ps) ≡ (if bytes_eq q key then (if b then row else finite.find byte_order q ps) else finite.find byte_order q ps)
find-pairs_after false key row ps q = same (bytes_eq q key)
  where
    same : (c : Bool) → finite.find byte_order q ps ≡ (if c then finite.find byte_order q ps else finite.find byte_order q ps)
    same true = refl
    same false = refl
find-pairs_after true key None ps q = entry_at-without q key ps
find-pairs_after true key (Some row) ps q = entry_at-put q key row ps

pub seen-with_slot : (s : Sight) (stamp : Stamp) (key : Bytes) (row : Option Fields) (es : Es) → finite.is_sorted byte_order es ≡ true → MayPut stamp (slot_at key es)
    → pairs_seen s (with_slot stamp key row es) ≡ pairs_after (sees s stamp) key row (pairs_seen s es)
seen-with_slot s stamp key row es sorted may =
    same_pairs (pairs_seen s (with_slot stamp key row es)) (pairs_after (sees s stamp) key row (pairs_seen s es))
    (sorted-pairs_seen s (with_slot stamp key row es) (sorted-with_slot stamp key row es sorted))
    (sorted-pairs_after (sees s stamp) key row (pairs_seen s es) (sorted-pairs_seen s es sorted)) at
  where
    at : (q : Bytes) → finite.find byte_order q (pairs_seen s (with_slot stamp key row es)) ≡ finite.find byte_order q (pairs_after (sees s stamp) key row (pairs_seen s es))
    at q =
        find-pairs_seen s q (with_slot stamp key row es) (sorted-with_slot stamp key row es sorted)
        ∙ ap (option_and_then (row_seen s)) (find-with_slot stamp key row es q ∙ ap (λ b. if b then Some (put_version stamp row (slot_at key es)) else finite.find byte_order q es) (tie_is_eq q key))
        ∙ of (bytes_eq q key) refl ∙ sym (find-pairs_after (sees s stamp) key row (pairs_seen s es) q)
      where
        of : (b : Bool) → bytes_eq q key ≡ b
            → option_and_then (row_seen s) (if b then Some (put_version stamp row (slot_at key es)) else finite.find byte_order q es)
            ≡ (if b then (if sees s stamp then row else finite.find byte_order q (pairs_seen s es)) else finite.find byte_order q (pairs_seen s es))
        of true e =
            row_seen-put s stamp row (slot_at key es) may
            ∙ ap (λ o. if sees s stamp then row else o)
            (seen-slot_at s key es ∙ sym (find-pairs_seen s key es sorted) ∙ ap (λ k. finite.find byte_order k (pairs_seen s es)) (sym (same_key q key e)))
        of false e = sym (find-pairs_seen s q es sorted)

-- ---- a map's entries after a write

-- an entry's value is written
pub set-put : (key : Bytes) (w : Versions) (es : Entries) (y : Versions) → finite.is_sorted byte_order (map slot_of es) ≡ true → finite.find byte_order key (map slot_of es) ≡ Some y
    → map slot_of (set_value (is_at (λ (k : Vec ℕ Global). byte_order key k.items)) es w) ≡ finite.put byte_order key w (map slot_of es)
set-put key w [] y sorted found = absurd (none found)
  where
    none : None ≡ Some y → ⊥
    none e = cc
set-put key w (e ∷ es) y sorted found = of (byte_order key e.0.items) refl (set-put key w es y (sorted_tail (slot_of e) (map slot_of es) sorted))
  where
    of : (o : Ordering) → byte_order key e.0.items ≡ o
        → (finite.find byte_order key (map slot_of es) ≡ Some y → map slot_of (set_value (is_at (λ (k : Vec ℕ Global). byte_order key k.items)) es w) ≡ finite.put byte_order key w (map slot_of es))
        → map slot_of (cond (is_eq o) ((e.0, w) ∷ es) (e ∷ set_value (is_at (λ (k : Vec ℕ Global). byte_order key k.items)) es w))
        ≡ pairs.by_order o ((key, w) ∷ map slot_of (e ∷ es)) ((e.0.items, w) ∷ map slot_of es) (slot_of e ∷ finite.put byte_order key w (map slot_of es))
    of Equal is later = refl
    of Greater is later =
        ap (λ fs. slot_of e ∷ fs) (later (sym (ap (λ o. cond (is_eq o) (Some e.1) (finite.find byte_order key (map slot_of es))) is) ∙ found))
    of Less is later =
        absurd (gone (sym (ap (λ o. cond (is_eq o) (Some e.1) (finite.find byte_order key (map slot_of es))) is ∙ find-below key (map slot_of es)
        (below_less key e.0.items (map slot_of es) is (below_head (slot_of e) (map slot_of es) sorted))) ∙ found))
      where
        gone : None ≡ Some y → ⊥
        gone e = cc

-- an entry is put in
pub insert-put : (k : Vec ℕ Global) (w : Versions) (es : Entries) → map slot_of (insert_entry by es k w) ≡ finite.put byte_order k.items w (map slot_of es)
insert-put k w [] = refl
insert-put k w (e ∷ es) = of (byte_order k.items e.0.items) (insert-put k w es)
  where
    of : (o : Ordering) → map slot_of (insert_entry by es k w) ≡ finite.put byte_order k.items w (map slot_of es)
        → map slot_of (match_ordering o ((k, w) ∷ e ∷ es) ((e.0, w) ∷ es) (e ∷ insert_entry by es k w))
        ≡ pairs.by_order o ((k.items, w) ∷ map slot_of (e ∷ es)) ((e.0.items, w) ∷ map slot_of es) (slot_of e ∷ finite.put byte_order k.items w (map slot_of es))
    of Less later = refl
    of Equal later = refl
    of Greater later = ap (λ fs. slot_of e ∷ fs) later

pub keys-put : (key : Bytes) (w : Versions) (es : Es) → AreBytes key → AreKeys es → AreKeys (finite.put byte_order key w es)
keys-put key w es bytes h = record {
  rise = sorted;
  bytes = λ e c. of e (eq_by_cmp byte_order e.0 key) refl (sym (pairs.find-put byte_order nat_list_cmp_total e.0 key w es) ∙ find_from_there e.0 e.1 (finite.put byte_order key w es) sorted c);
}
  where
    sorted : finite.is_sorted byte_order (finite.put byte_order key w es) ≡ true
    sorted = true_from_T _ (pairs.is_sorted-put byte_order nat_list_cmp_total key w es (T_from_true _ h.rise))

    of : (e : Bytes × Versions) (b : Bool) → eq_by_cmp byte_order e.0 key ≡ b → cond b (Some w) (finite.find byte_order e.0 es) ≡ Some e.1 → AreBytes e.0
    of e true tie is = subst (λ (k : Bytes). AreBytes k) (sym (same_from_byte_order e.0 key (equal_from_is_eq (byte_order e.0 key) tie))) bytes
    of e false tie is = h.bytes e (there_from_find e.0 e.1 es is)

slot_there : (key : Bytes) (es : Es) (o : Option Versions) → o ≡ finite.find byte_order key es → unwrap_or o no_versions ≡ slot_at key es
slot_there key es o is = ap (λ p. unwrap_or p no_versions) is

pub latest_there : (stamp : Stamp) (key : Bytes) (es : Es) (o : Option Versions) → o ≡ finite.find byte_order key es → IsLatest stamp (slot_at key es) → IsLatest stamp (unwrap_or o no_versions)
latest_there stamp key es o is h = subst (λ y. IsLatest stamp y) (sym (slot_there key es o is)) h

-- the two ways of a write into a map
pub written_through : (stamp : Stamp) (key : Bytes) (row : Option Fields) (es fs : Entries) (w y : Versions) → finite.is_sorted byte_order (map slot_of es) ≡ true
    → Some y ≡ finite.find byte_order key (map slot_of es) → fs ≡ set_value (is_at (λ (k : Vec ℕ Global). byte_order key k.items)) es w → w ≡ put_version stamp row y
    → map slot_of fs ≡ with_slot stamp key row (map slot_of es)
written_through stamp key row es fs w y sorted found is put =
    ap (λ (gs : Entries). map slot_of gs) is ∙ set-put key w es y sorted (sym found)
    ∙ ap (λ v. finite.put byte_order key v (map slot_of es)) (put ∙ ap (put_version stamp row) (slot_there key (map slot_of es) (Some y) found))

pub put_in : (stamp : Stamp) (key : Bytes) (row : Option Fields) (k : Vec ℕ Global) (es gs fs : Entries) (w : Versions)
    → None ≡ finite.find byte_order key (map slot_of es) → fs ≡ insert_entry by gs k w → gs ≡ es → k.items ≡ key → w ≡ put_version stamp row no_versions
    → map slot_of fs ≡ with_slot stamp key row (map slot_of es)
put_in stamp key row k es gs fs w none is left bytes put =
    ap (λ (hs : Entries). map slot_of hs) (is ∙ ap (λ hs. insert_entry by hs k w) left) ∙ insert-put k w es
    ∙ ap (λ b. finite.put byte_order b w (map slot_of es)) bytes
    ∙ ap (λ v. finite.put byte_order key v (map slot_of es)) (put ∙ ap (put_version stamp row) (slot_there key (map slot_of es) None none))

-- and the keys after them
pub keys_through : (key : Bytes) (es fs : Entries) (w y : Versions) → AreBytes key → AreKeys (map slot_of es)
    → Some y ≡ finite.find byte_order key (map slot_of es) → fs ≡ set_value (is_at (λ (k : Vec ℕ Global). byte_order key k.items)) es w → AreKeys (map slot_of fs)
keys_through key es fs w y bytes h found is =
    subst (λ (gs : Es). AreKeys gs) (sym (ap (λ (gs : Entries). map slot_of gs) is ∙ set-put key w es y h.rise (sym found)))
    (keys-put key w (map slot_of es) bytes h)

pub keys_with : (stamp : Stamp) (key : Bytes) (row : Option Fields) (es fs : Es) → AreBytes key → AreKeys es → fs ≡ with_slot stamp key row es → AreKeys fs
keys_with stamp key row es fs bytes h is =
    subst (λ (gs : Es). AreKeys gs) (sym is) (keys-put key (put_version stamp row (slot_at key es)) es bytes h)

pub bytes_fit : (key : List ℕ) → ((i : ℕ) → get_or key i 0 < 256) → AreBytes key
bytes_fit key fit b c = omega (arith, fit c.0, c.2, get_or_default key c.0 0 b c.1)

-- ---- which writes made versions

there_head : {A : Type 0} (x : A) (xs : List A) → Contains (x ∷ xs) x
there_head x xs = (0, omega arith, refl)

there_tail : {A : Type 0} (x y : A) (xs : List A) → Contains xs y → Contains (x ∷ xs) y
there_tail x y xs c = (suc c.0, omega (arith, c.1), c.2)

there_cases : {A : Type 0} (x y : A) (xs : List A) → Contains (x ∷ xs) y → (x ≡ y) ⊎ Contains xs y
there_cases x y xs (zero, lt, is) = inl is
there_cases x y xs (suc k, lt, is) = inr (k, omega arith, is)

there_none : {A : Type 0} (y : A) → Contains [] y → ⊥
there_none y c = absurd (omega (arith, c.1))

version_new : (n : ℕ) (row : Option Fields) (vs : Vs) → (v : version.Version) × Contains (with_version n row vs) v × (v.commit ≡ n)
version_new n row [] = (record { commit = n; row = row }, there_head _ [], refl)
version_new n row (v ∷ []) = of (nat_eq v.commit n)
  where
    new : version.Version
    new = record { commit = n; row = row }

    of : (b : Bool) → (w : version.Version) × Contains (if b then new ∷ [] else v ∷ new ∷ []) w × (w.commit ≡ n)
    of true = (new, there_head new [], refl)
    of false = (new, there_tail v new (new ∷ []) (there_head new []), refl)
version_new n row (v ∷ w ∷ vs) = let r = version_new n row (w ∷ vs) in (r.0, there_tail v r.0 _ r.1, r.2)

version_kept : (n : ℕ) (row : Option Fields) (vs : Vs) (v : version.Version) → Contains vs v → (w : version.Version) × Contains (with_version n row vs) w × (w.commit ≡ v.commit)
version_kept n row [] v c = absurd (there_none v c)
version_kept n row (u ∷ []) v c = of (there_cases u v [] c) (nat_eq u.commit n) refl
  where
    new : version.Version
    new = record { commit = n; row = row }

    of : (u ≡ v) ⊎ Contains [] v → (b : Bool) → nat_eq u.commit n ≡ b → (w : version.Version) × Contains (if b then new ∷ [] else u ∷ new ∷ []) w × (w.commit ≡ v.commit)
    of (inr none) b e = absurd (there_none v none)
    of (inl same) true e = (new, there_head new [], sym (eqb-true u.commit n e) ∙ ap (λ (w : version.Version). w.commit) same)
    of (inl same) false e = (u, there_head u (new ∷ []), ap (λ (w : version.Version). w.commit) same)
version_kept n row (u ∷ w ∷ vs) v c = of (there_cases u v (w ∷ vs) c) (version_kept n row (w ∷ vs) v)
  where
    of : (u ≡ v) ⊎ Contains (w ∷ vs) v → (Contains (w ∷ vs) v → (x : version.Version) × Contains (with_version n row (w ∷ vs)) x × (x.commit ≡ v.commit))
        → (x : version.Version) × Contains (u ∷ with_version n row (w ∷ vs)) x × (x.commit ≡ v.commit)
    of (inl same) later = (u, there_head u _, ap (λ (x : version.Version). x.commit) same)
    of (inr d) later = let r = later d in (r.0, there_tail u r.0 _ r.1, r.2)

version_from : (n : ℕ) (row : Option Fields) (vs : Vs) (v : version.Version) → Contains (with_version n row vs) v → Contains vs v ⊎ (v.commit ≡ n)
version_from n row [] v c = of (there_cases _ v [] c)
  where
    of : (record { commit = n; row = row } ≡ v) ⊎ Contains [] v → Contains [] v ⊎ (v.commit ≡ n)
    of (inl same) = inr (sym (ap (λ (x : version.Version). x.commit) same))
    of (inr none) = inl none
version_from n row (u ∷ []) v c = of (nat_eq u.commit n) c
  where
    new : version.Version
    new = record { commit = n; row = row }

    last : (new ≡ v) ⊎ Contains [] v → Contains (u ∷ []) v ⊎ (v.commit ≡ n)
    last (inl same) = inr (sym (ap (λ (x : version.Version). x.commit) same))
    last (inr none) = absurd (there_none v none)

    first : (u ≡ v) ⊎ Contains (new ∷ []) v → Contains (u ∷ []) v ⊎ (v.commit ≡ n)
    first (inl same) = inl (0, omega arith, same)
    first (inr d) = last (there_cases new v [] d)

    of : (b : Bool) → Contains (if b then new ∷ [] else u ∷ new ∷ []) v → Contains (u ∷ []) v ⊎ (v.commit ≡ n)
    of true d = last (there_cases new v [] d)
    of false d = first (there_cases u v (new ∷ []) d)
version_from n row (u ∷ w ∷ vs) v c = of (there_cases u v (with_version n row (w ∷ vs)) c) (version_from n row (w ∷ vs) v)
  where
    of : (u ≡ v) ⊎ Contains (with_version n row (w ∷ vs)) v → (Contains (with_version n row (w ∷ vs)) v → Contains (w ∷ vs) v ⊎ (v.commit ≡ n)) → Contains (u ∷ w ∷ vs) v ⊎ (v.commit ≡ n)
    of (inl same) later = inl (0, omega arith, same)
    of (inr d) later = behind (later d)
      where
        behind : Contains (w ∷ vs) v ⊎ (v.commit ≡ n) → Contains (u ∷ w ∷ vs) v ⊎ (v.commit ≡ n)
        behind (inl e) = inl (there_tail u v (w ∷ vs) e)
        behind (inr e) = inr e

-- of a slot

slot_version_from : (stamp : Stamp) (row : Option Fields) (x : Versions) (j : ℕ) → IsVersionAt (put_version stamp row x) j → IsVersionAt x j ⊎ IsCommit stamp j
slot_version_from (stamps.Commit n) row x j (v, c, at) = of (version_from n row x.commits v c)
  where
    of : Contains x.commits v ⊎ (v.commit ≡ n) → IsVersionAt x j ⊎ (j ≡ n)
    of (inl d) = inl (v, d, at)
    of (inr e) = inr (sym at ∙ e)
slot_version_from (stamps.Own own) row x j h = inl h

slot_version_kept : (stamp : Stamp) (row : Option Fields) (x : Versions) (j : ℕ) → IsVersionAt x j → IsVersionAt (put_version stamp row x) j
slot_version_kept (stamps.Commit n) row x j (v, c, at) = let r = version_kept n row x.commits v c in (r.0, r.1, r.2 ∙ at)
slot_version_kept (stamps.Own own) row x j h = h

slot_version_new : (stamp : Stamp) (row : Option Fields) (x : Versions) (j : ℕ) → IsCommit stamp j → IsVersionAt (put_version stamp row x) j
slot_version_new (stamps.Commit n) row x j is = let r = version_new n row x.commits in (r.0, r.1, r.2 ∙ sym is)
slot_version_new (stamps.Own own) row x j is = absurd is

slot_own_from : (stamp : Stamp) (row : Option Fields) (x : Versions) (o : Own) → IsOwnAt (put_version stamp row x) o → IsOwnAt x o ⊎ IsOwn stamp o
slot_own_from (stamps.Commit n) row x o h = inl h
slot_own_from (stamps.Own own) row x o (v, c, txn, write) = of (Contains-push_cases x.own (own_version_of own row) v c)
  where
    of : Contains x.own v ⊎ (own_version_of own row ≡ v) → IsOwnAt x o ⊎ ((o.txn ≡ own.txn) × (o.writes ≡ own.writes))
    of (inl d) = inl (v, d, txn, write)
    of (inr same) =
        inr (sym txn ∙ sym (ap (λ (w : own_version.OwnVersion). w.txn) same), sym write ∙ sym (ap (λ (w : own_version.OwnVersion). w.write) same))

slot_own_kept : (stamp : Stamp) (row : Option Fields) (x : Versions) (o : Own) → IsOwnAt x o → IsOwnAt (put_version stamp row x) o
slot_own_kept (stamps.Commit n) row x o h = h
slot_own_kept (stamps.Own own) row x o (v, c, txn, write) = (v, Contains-append_left x.own (own_version_of own row ∷ []) v c, txn, write)

slot_own_new : (stamp : Stamp) (row : Option Fields) (x : Versions) (o : Own) → IsOwn stamp o → IsOwnAt (put_version stamp row x) o
slot_own_new (stamps.Commit n) row x o is = absurd is
slot_own_new (stamps.Own own) row x o (txn, write) = (own_version_of own row, Contains-push x.own (own_version_of own row), sym txn, sym write)

-- of an index: whatever is told of a slot, of which an empty slot has nothing

module _ (stamp : Stamp) (key : Bytes) (row : Option Fields) (old new : KeyVersions) (sorted : finite.is_sorted byte_order old.slots ≡ true)
    (is : new.slots ≡ with_slot stamp key row old.slots)
    (At : Versions → Type 0) (Is : Type 0) (nothing : At no_versions → ⊥)
    (from : (x : Versions) → At (put_version stamp row x) → At x ⊎ Is) (kept : (x : Versions) → At x → At (put_version stamp row x))
    (made : (x : Versions) → Is → At (put_version stamp row x)) where
  abbrev Has : KeyVersions → Bytes → Type 0
  Has x k = (y : Versions) × Contains x.slots (k, y) × At y

  found_new : (k : Bytes) → finite.find byte_order k new.slots ≡ (if eq_by_cmp byte_order k key then Some (put_version stamp row (slot_at key old.slots)) else finite.find byte_order k old.slots)
  found_new k = ap (finite.find byte_order k) is ∙ find-with_slot stamp key row old.slots k

  new_sorted : finite.is_sorted byte_order new.slots ≡ true
  new_sorted = ap (finite.is_sorted byte_order) is ∙ sorted-with_slot stamp key row old.slots sorted

  has_slot : (o : Option Versions) → finite.find byte_order key old.slots ≡ o → At (unwrap_or o no_versions) → Has old key
  has_slot None e h = absurd (nothing h)
  has_slot (Some y) e h = (y, there_from_find key y old.slots e, h)

  has_from : (k : Bytes) → Has new k → Has old k ⊎ ((k ≡ key) × Is)
  has_from k (y, c, at) = of (eq_by_cmp byte_order k key) refl (sym (found_new k) ∙ find_from_there k y new.slots new_sorted c)
    where
      of : (b : Bool) → eq_by_cmp byte_order k key ≡ b → (if b then Some (put_version stamp row (slot_at key old.slots)) else finite.find byte_order k old.slots) ≡ Some y
          → Has old k ⊎ ((k ≡ key) × Is)
      of false tie e = inl (y, there_from_find k y old.slots e, at)
      of true tie e =
          let same = same_from_byte_order k key (equal_from_is_eq (byte_order k key) tie) in
          let put : y ≡ put_version stamp row (slot_at key old.slots) = ap (λ o. unwrap_or o y) (sym e) in
          cases same (from (slot_at key old.slots) (subst At put at))
        where
          cases : k ≡ key → At (slot_at key old.slots) ⊎ Is → Has old k ⊎ ((k ≡ key) × Is)
          cases same (inl h) = inl (subst (Has old) (sym same) (has_slot (finite.find byte_order key old.slots) refl h))
          cases same (inr h) = inr (same, h)

  at_key : At (put_version stamp row (slot_at key old.slots)) → (k : Bytes) → k ≡ key → Has new k
  at_key h k same =
      subst (Has new) (sym same) (
        put_version stamp row (slot_at key old.slots),
        there_from_find key _ new.slots
            (found_new key ∙ ap (λ o. if is_eq o then Some (put_version stamp row (slot_at key old.slots)) else finite.find byte_order key old.slots) (byte_order_itself key)),
        h,
      )

  has_kept : (k : Bytes) → Has old k ⊎ ((k ≡ key) × Is) → Has new k
  has_kept k (inr (same, h)) = at_key (made (slot_at key old.slots) h) k same
  has_kept k (inl (y, c, at)) = of (eq_by_cmp byte_order k key) refl (find_from_there k y old.slots sorted c)
    where
      of : (b : Bool) → eq_by_cmp byte_order k key ≡ b → finite.find byte_order k old.slots ≡ Some y → Has new k
      of false tie e = (
        y,
        there_from_find k y new.slots
            (found_new k ∙ ap (λ b. if b then Some (put_version stamp row (slot_at key old.slots)) else finite.find byte_order k old.slots) tie ∙ e),
        at,
      )
      of true tie e =
          let same = same_from_byte_order k key (equal_from_is_eq (byte_order k key) tie) in
          let slot : y ≡ slot_at key old.slots = ap (λ o. unwrap_or o no_versions) (sym e ∙ ap (λ q. finite.find byte_order q old.slots) same) in
          at_key (kept (slot_at key old.slots) (subst At slot at)) k same

-- a write of a slot may come where one of the index may
pub may_put : (stamp : Stamp) (x : KeyVersions) (key : Bytes) → MayWrite stamp x → MayPut stamp (slot_at key x.slots)
may_put (stamps.Commit n) x key may = of (finite.find byte_order key x.slots) refl
  where
    of : (o : Option Versions) → finite.find byte_order key x.slots ≡ o → MayPut (stamps.Commit n) (unwrap_or o no_versions)
    of None e = ((λ v c. absurd (there_none v c)), refl)
    of (Some y) e = (
      (λ v c. may.versions key v.commit (y, there_from_find key y x.slots e, (v, c, refl))),
      none y.own (λ v c. may.none_own key (record { txn = v.txn; writes = v.write }) (y, there_from_find key y x.slots e, (v, c, refl, refl))),
    )
      where
        none : (ws : List own_version.OwnVersion) → ((v : own_version.OwnVersion) → Contains ws v → ⊥) → ws ≡ []
        none [] h = refl
        none (v ∷ ws) h = absurd (h v (there_head v ws))
may_put (stamps.Own own) x key may = of (finite.find byte_order key x.slots) refl
  where
    of : (o : Option Versions) → finite.find byte_order key x.slots ≡ o → MayPut (stamps.Own own) (unwrap_or o no_versions)
    of None e = λ v c. absurd (there_none v c)
    of (Some y) e = λ v c. may key (record { txn = v.txn; writes = v.write }) (y, there_from_find key y x.slots e, (v, c, refl, refl))

pub latest_of_put : (stamp : Stamp) (x : Versions) → MayPut stamp x → IsLatest stamp x
latest_of_put (stamps.Commit n) x h = h.0
latest_of_put (stamps.Own own) x h = h

pub is_written : (stamp : Stamp) (key : Bytes) (row : Option Fields) (old new : KeyVersions) → finite.is_sorted byte_order old.slots ≡ true → MayWrite stamp old
    → new.slots ≡ with_slot stamp key row old.slots → ((j : ℕ) → Contains new.touched j ↔ (Contains old.touched j ⊎ IsCommit stamp j)) → IsWritten stamp key row old new
is_written stamp key row old new sorted may is touched = record {
  seen = λ s. ap (pairs_seen s) is ∙ seen-with_slot s stamp key row old.slots sorted (may_put stamp old key may);
  versions = λ k j. (
    has_from stamp key row old new sorted is (λ x. IsVersionAt x j) (IsCommit stamp j) (λ h. there_none h.0 h.1) (λ x. slot_version_from stamp row x j) (λ x. slot_version_kept stamp row x j) (λ x. slot_version_new stamp row x j) k,
    has_kept stamp key row old new sorted is (λ x. IsVersionAt x j) (IsCommit stamp j) (λ h. there_none h.0 h.1) (λ x. slot_version_from stamp row x j) (λ x. slot_version_kept stamp row x j) (λ x. slot_version_new stamp row x j) k,
  );
  own = λ k o. (
    has_from stamp key row old new sorted is (λ x. IsOwnAt x o) (IsOwn stamp o) (λ h. there_none h.0 h.1) (λ x. slot_own_from stamp row x o) (λ x. slot_own_kept stamp row x o) (λ x. slot_own_new stamp row x o) k,
    has_kept stamp key row old new sorted is (λ x. IsOwnAt x o) (IsOwn stamp o) (λ h. there_none h.0 h.1) (λ x. slot_own_from stamp row x o) (λ x. slot_own_kept stamp row x o) (λ x. slot_own_new stamp row x o) k,
  );
  touched = touched;
}

-- another write of the same stamp may follow
pub may_again : (stamp : Stamp) (key : Bytes) (row : Option Fields) (old new : KeyVersions) → MayWrite stamp old → IsWritten stamp key row old new → MayWrite stamp new
may_again (stamps.Commit n) key row old new may w = record {
  versions = λ k j h. version k j ((w.versions k j).0 h);
  touched = λ j h. touch j ((w.touched j).0 h);
  none_own = λ k o h. gone k o ((w.own k o).0 h);
}
  where
    version : (k : Bytes) (j : ℕ) → HasVersion old k j ⊎ ((k ≡ key) × (j ≡ n)) → j ≤ n
    version k j (inl h) = may.versions k j h
    version k j (inr h) = omega (arith, h.1)

    touch : (j : ℕ) → Contains old.touched j ⊎ (j ≡ n) → j ≤ n
    touch j (inl h) = may.touched j h
    touch j (inr h) = omega (arith, h)

    gone : (k : Bytes) (o : Own) → HasOwn old k o ⊎ ((k ≡ key) × ⊥) → ⊥
    gone k o (inl h) = may.none_own k o h
    gone k o (inr h) = h.1
may_again (stamps.Own own) key row old new may w = λ k o h. of k o ((w.own k o).0 h)
  where
    of : (k : Bytes) (o : Own) → HasOwn old k o ⊎ ((k ≡ key) × ((o.txn ≡ own.txn) × (o.writes ≡ own.writes))) → (o.txn ≤ own.txn) × (o.txn ≡ own.txn → o.writes ≤ own.writes)
    of k o (inl h) = may k o h
    of k o (inr h) = (omega (arith, h.1.0), λ e. omega (arith, h.1.1))

pub touch_may : (n : ℕ) (stamp : Stamp) (x : KeyVersions) → stamp ≡ stamps.Commit n → MayWrite stamp x → (j : ℕ) → Contains x.touched j → j ≤ n
touch_may n stamp x is may j there = let now : MayWrite (stamps.Commit n) x = subst (λ s. MayWrite s x) is may in now.touched j there
