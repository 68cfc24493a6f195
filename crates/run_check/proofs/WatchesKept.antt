-- A watch more that a client keeps, and what it is told of its question.
use Rattle.std.proofs.Common.{arith, ◌≡◌, ◌∙◌, ◌<◌, ◌+◌, ◌++◌, ◌∷◌, ◌⊎◌, inl, inr, ℕ, zero, suc, Bool, true, false, List, [], length, Option, Some, None, Ok, Err, refl, sym, ap, subst, length-append}
use Rattle.std.specs.Prelude.{filter_map, if◌then◌else◌, is_some, option_map, slice_get, ⊤}
use Rattle.std.specs.List.{cons_option}
use Rattle.std.specs.Str.{bytes_eq}
use Rattle.mdb_datum.specs.Bytes.{Bytes}
use Rattle.mdb_datum.specs.Doc.{Doc}
use Rattle.mdb_datum.proofs.ListPlaces.{get_first}
use Rattle.mdb_encode.specs.Arguments.{Argued, arg, pre}
use Rattle.mdb_schema.specs.Answer as asked
use Rattle.mdb_schema.specs.Answer.{AskRefusal, Asked, Lookup, argument, ask, bad_argument, has_argument, is_exact, key_asked, lookup_of, may_ask, may_name, needs_argument, no_prefix_name, not_unique, own_name, unknown_index, unknown_table}
use Rattle.mdb_schema.specs.History.{History}
use Rattle.mdb_schema.specs.Query.{Query}
use Rattle.mdb_schema.specs.Schema.{DbSchema, IndexSchema, TableSchema, index_place}
use Rattle.mdb_schema.specs.Tests.{◌>>=◌, needed, passed}
use Rattle.client_script.specs.Client as plain
use Rattle.client_script.specs.Client.{Judged, watch_named}
use Rattle.client_script.specs.Turn.{with_watch}
use Rattle.run_check.specs.declared.client.Client.{Client}
use Rattle.run_check.specs.declared.watching.Set.{Set}
use Rattle.run_check.specs.declared.watching.Watch.{Watch}
use Rattle.run_check.specs.inner.ClientView.{known, set_known, watch_known, watches_at, watches_known}
use Rattle.run_check.specs.inner.NamedView.{each_named, place_in}
use Rattle.run_check.specs.inner.SessionView.{IsSound, IsSoundSet, IsSoundWatch}
use Rattle.run_check.specs.inner.StoreView.{Begun}
use Rattle.run_check.proofs.NamedFound.{named_more}
use Rattle.run_check.proofs.SnapshotsTold.{named_length}

-- ---- names of watches

some_next : (o : Option ℕ) → is_some (option_map suc o) ≡ is_some o
some_next None = refl
some_next (Some n) = refl

pub watch_there : (name : Bytes) (ns : List Bytes) (vs : List Watch) → length ns ≡ length vs → is_some (watch_named name (each_named watch_known ns vs)) ≡ is_some (place_in name ns)
watch_there name [] vs same = refl
watch_there name (n ∷ ns) [] same = absurd (omega (arith, same))
watch_there name (n ∷ ns) (v ∷ vs) same = of (bytes_eq n name) (watch_there name ns vs (omega (arith, same)))
  where
    of : (t : Bool) → is_some (watch_named name (each_named watch_known ns vs)) ≡ is_some (place_in name ns)
        → is_some (if t then Some (watch_known n v) else watch_named name (each_named watch_known ns vs)) ≡ is_some (if t then Some 0 else option_map suc (place_in name ns))
    of true rest = refl
    of false rest = rest ∙ sym (some_next (place_in name ns))

-- ---- a watch more

-- places of those before are of the same watches
places_stay : {A : Type 0} (ws : List A) (x : A) (places : List ℕ) → ((k at : ℕ) → slice_get places k ≡ Some at → at < length ws) → filter_map (slice_get (ws ++ x ∷ [])) places ≡ filter_map (slice_get ws) places
places_stay ws x [] within = refl
places_stay {A} ws x (p ∷ places) within =
    ap (λ (o : Option A). cons_option o (filter_map (slice_get (ws ++ x ∷ [])) places)) (get_first ws (x ∷ []) p (within zero p refl))
    ∙ ap (cons_option (slice_get ws p)) (places_stay ws x places (λ k at there. within (suc k) at there))

abbrev Sets : List plain.Watch → List Bytes → List Set → List plain.WatchSet
Sets ws ns vs = each_named (set_known ws) ns vs

sets_stay : (ws : List plain.Watch) (x : plain.Watch) (ns : List Bytes) (vs : List Set) → ((k : ℕ) (s : Set) → slice_get vs k ≡ Some s → IsSoundSet (length ws) s) → Sets (ws ++ x ∷ []) ns vs ≡ Sets ws ns vs
sets_stay ws x [] vs sound = refl
sets_stay ws x (n ∷ ns) [] sound = refl
sets_stay ws x (n ∷ ns) (v ∷ vs) sound =
    let here = sound 0 v refl in
    ap (λ (ms : List plain.Watch). record { name = n; members = ms; added = watches_at (ws ++ x ∷ []) v.added.items } ∷ Sets (ws ++ x ∷ []) ns vs) (places_stay ws x v.members.items here.members)
    ∙ ap (λ (more : List plain.Watch). record { name = n; members = watches_at ws v.members.items; added = more } ∷ Sets (ws ++ x ∷ []) ns vs) (places_stay ws x v.added.items here.added)
    ∙ ap (λ (ss : List plain.WatchSet). set_known ws n v ∷ ss) (sets_stay ws x ns vs (λ k s there. sound (suc k) s there))

-- what stands at a place of a list with one more
pub at_more : {A : Type 0} (vs : List A) (x v : A) (k : ℕ) → slice_get (vs ++ x ∷ []) k ≡ Some v → (slice_get vs k ≡ Some v) ⊎ (x ≡ v)
at_more [] x v zero there = inr cc
at_more [] x v (suc k) there = absurd (none k there)
  where
    none : (n : ℕ) → slice_get [] n ≡ Some v → ⊥
    none n e = cc
at_more (y ∷ vs) x v zero there = inl there
at_more (y ∷ vs) x v (suc k) there = at_more vs x v k there

module _ (schema : DbSchema) (H : History) (txns : List Begun) (v k : Client) (sound : IsSound schema H txns v) (name : Bytes) (w : Watch) (paired : length v.watching.watches.names ≡ length v.watching.watches.values.items)
    (same : k ≡ record v { watching = record v.watching { watches = k.watching.watches } }) (names : k.watching.watches.names ≡ v.watching.watches.names ++ name ∷ []) (values : k.watching.watches.values.items ≡ v.watching.watches.values.items ++ w ∷ []) where
  abbrev before : List plain.Watch
  before = watches_known v.watching

  long : length before ≡ length v.watching.watches.values.items
  long = named_length watch_known v.watching.watches.names v.watching.watches.values.items paired

  all : watches_known k.watching ≡ before ++ watch_known name w ∷ []
  all =
      ap (λ (ns : List Bytes). each_named watch_known ns k.watching.watches.values.items) names
      ∙ ap (each_named watch_known (v.watching.watches.names ++ name ∷ [])) values
      ∙ named_more watch_known v.watching.watches.names v.watching.watches.values.items name w paired

  sets_here : (j : ℕ) (s : Set) → slice_get v.watching.sets.values.items j ≡ Some s → IsSoundSet (length before) s
  sets_here j s there = subst (λ (n : ℕ). IsSoundSet n s) (sym long) (sound.sets j s there)

  pub known_more : known txns k ≡ with_watch name w.query.now w.number (known txns v)
  known_more =
      let with_all : List plain.Watch → plain.Client = λ ws. record (known txns v) { watching = record { watches = ws; sets = Sets ws v.watching.sets.names v.watching.sets.values.items } } in
      let with_sets : List plain.WatchSet → plain.Client = λ ss. record (known txns v) { watching = record { watches = before ++ watch_known name w ∷ []; sets = ss } } in
      ap (known txns) same ∙ ap with_all all ∙ ap with_sets (sets_stay before (watch_known name w) v.watching.sets.names v.watching.sets.values.items sets_here)

  pub sound_watch : IsSoundWatch schema H w → IsSound schema H txns k
  sound_watch here =
      let count : length k.watching.watches.values.items ≡ length v.watching.watches.values.items + 1 = ap length values ∙ length-append v.watching.watches.values.items (w ∷ []) in
      subst (IsSound schema H txns) (sym same) (record {
        last = sound.last;
        reading = sound.reading;
        writing = sound.writing;
        carried = sound.carried;
        snapshots = sound.snapshots;
        watches = λ j x there. of j x (at_more v.watching.watches.values.items w x j (ap (λ (vs : List Watch). slice_get vs j) (sym values) ∙ there));
        sets = λ j s there. record {
          members = λ p at is. omega (arith, (sound.sets j s there).members p at is, count);
          added = λ p at is. omega (arith, (sound.sets j s there).added p at is, count);
        };
      })
    where
      of : (j : ℕ) (x : Watch) → (slice_get v.watching.watches.values.items j ≡ Some x) ⊎ (w ≡ x) → IsSoundWatch schema H x
      of j x (inl there) = sound.watches j x there
      of j x (inr is) = subst (IsSoundWatch schema H) is here

-- ---- the rules of a watch's question

-- the table is there
abbrev pub IsOther : {A : Type 0} → Asked A → Type 0
IsOther (Err unknown_table) = ⊥
IsOther a = ⊤

pub other_then : {A B : Type 0} (j : Asked A) (f : A → Asked B) → IsOther j → ((a : A) → IsOther (f a)) → IsOther (j >>= f)
other_then (Ok a) f is h = h a
other_then (Err unknown_table) f is h = absurd is
other_then (Err no_prefix_name) f is h = tt
other_then (Err unknown_index) f is h = tt
other_then (Err not_unique) f is h = tt
other_then (Err (bad_argument r)) f is h = tt

passed_other : (r : AskRefusal) (b : Bool) → IsOther {A = Unit {0}} (Err r) → IsOther (passed r b)
passed_other r true is = tt
passed_other r false is = is

needed_other : {A : Type 0} (r : AskRefusal) (o : Option A) → IsOther {A = A} (Err r) → IsOther (needed r o)
needed_other r None is = is
needed_other r (Some a) is = tt

argument_other : (a : Argued) → IsOther (argument a)
argument_other (Ok k) = tt
argument_other (Err e) = tt

key_other : (i : IndexSchema) (q : Query) (ds : List Doc) → IsOther (key_asked i q ds)
key_other i q [] = tt
key_other i q (d ∷ ds) = argument_other (if asked.is_prefix_name q.index then pre i.indexer (d ∷ ds) else arg i.indexer (d ∷ ds))

pub lookup_other : (t : TableSchema) (q : Query) → IsOther (lookup_of t q)
lookup_other t q =
    other_then (passed no_prefix_name (may_name q.ask q)) _ (passed_other no_prefix_name (may_name q.ask q) tt)
    (λ u. other_then (needed unknown_index (index_place (own_name q.index) t.indexes)) _ (needed_other unknown_index (index_place (own_name q.index) t.indexes) tt)
    (λ place. other_then (needed unknown_index (slice_get t.indexes place)) _ (needed_other unknown_index (slice_get t.indexes place) tt)
    (λ i. other_then (passed not_unique (may_ask q.ask i)) _ (passed_other not_unique (may_ask q.ask i) tt)
    (λ u'. other_then (passed (bad_argument _) _) _ (passed_other (bad_argument _) _ tt)
    (λ u''. other_then (key_asked i q q.args) _ (key_other i q q.args) (λ k. tt))))))
