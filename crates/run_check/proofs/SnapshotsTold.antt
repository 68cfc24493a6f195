-- Lines that keep snapshots, and that tell sizes, as the code carries them out.
use Rattle.std.proofs.Common.{arith, ◌≡◌, refl, ap, subst, sym, ◌∙◌, ℕ, suc, zero, ◌<◌, List, [], ◌∷◌, ◌++◌, length, not, Bool, true, false, Option, Some, None, Result, Ok, Err, IfErr, OnOk, decimal, codes, append-nil}
use Rattle.std.specs.Prelude.{filter_map, is_some, option_and_then, option_map, slice_get}
use Rattle.std.specs.List.{cons_option}
use Rattle.mdb_datum.specs.Bytes.{Bytes}
use Rattle.mdb_datum.proofs.ListPlaces.{there_within}
use Rattle.mdb_schema.specs.History.{History}
use Rattle.mdb_schema.specs.Schema.{DbSchema}
use Rattle.mdb_schema.specs.Tests.{◌>>=◌, needed, passed}
use Rattle.client_script.specs.Client as plain
use Rattle.client_script.specs.Client.{Judged, some_open, snapshot_named}
use Rattle.client_script.specs.Reply.{Reply, reply_text, sized}
use Rattle.client_script.specs.Turn.{Turn, size_turn, snapshot_reply, snapshot_turn, with_snapshot}
use Rattle.run_check.specs.declared.client.Client.{Client}
use Rattle.run_check.specs.declared.session.Refused.{Refused}
use Rattle.run_check.specs.declared.session.Refused.TheVariants as refusals
use Rattle.run_check.specs.declared.sight.Own.{Own}
use Rattle.run_check.specs.declared.sight.Sight.{Sight}
use Rattle.run_check.specs.declared.watching.Set.{Set}
use Rattle.run_check.specs.inner.ClientView.{known, set_known, sight_known, snapshot_known, watch_known, watches_at, watches_known}
use Rattle.run_check.specs.inner.NamedView.{each_named, place_in, value_named}
use Rattle.run_check.specs.inner.SessionView.{IsSound, TellsTurn, snapshot_text}
use Rattle.run_check.specs.inner.StoreView.{Begun}
use Rattle.run_check.proofs.NamedFound.{named_more, set_found, snapshot_there}

-- ---- any line

-- a reply that was added whole, or for which there was no memory
pub tells : (schema : DbSchema) (t : Turn) (before after : plain.Client) (old new made : Bytes) (reply : Reply) (r : Result (Unit {0}) Refused) → OnOk r (new ≡ old ++ made) → IfErr r (λ e. e ≡ refusals.Memory) → t ≡ Ok (reply, after) → reply_text reply ≡ made → TellsTurn schema t before after old new r
tells schema t before after old new made reply (Ok u) said short is printed = record {
  reply = reply;
  is = is;
  text = said ∙ ap (λ (x : Bytes). old ++ x) (sym printed);
}
tells schema t before after old new made reply (Err e) said short is printed =
    subst (λ (x : Refused). TellsTurn schema t before after old new (Err x)) (sym short) tt

-- ---- snapshots

abbrev is_uncommitted : Judged plain.Sight → Bool
is_uncommitted (Ok s) = s.uncommitted
is_uncommitted (Err rule) = false

abbrev plus_where : Bool → Bytes
plus_where true = codes "+"
plus_where false = []

text_is : (s : Sight) → snapshot_text s ≡ codes "snapshot @" ++ (decimal s.commits ++ plus_where (is_some s.own))
text_is s = of s.own
  where
    of : (o : Option Own) → snapshot_text (record { commits = s.commits; own = o }) ≡ codes "snapshot @" ++ (decimal s.commits ++ plus_where (is_some o))
    of None = refl
    of (Some own) = refl

snapshot_printed : (t : plain.Transaction) (p : plain.Sight) → Ok p ≡ some_open t → reply_text (snapshot_reply t p) ≡ codes "snapshot @" ++ (decimal p.number ++ plus_where p.uncommitted)
snapshot_printed plain.closed p seen = cc
snapshot_printed (plain.reading n) p seen =
    let none : p.uncommitted ≡ false = ap is_uncommitted seen in
    ap (λ (x : Bytes). codes "snapshot @" ++ x) (sym (append-nil (decimal p.number)))
    ∙ ap (λ (b : Bool). codes "snapshot @" ++ (decimal p.number ++ plus_where b)) (sym none)
snapshot_printed (plain.writing t) p seen =
    let some : p.uncommitted ≡ true = ap is_uncommitted seen in
    ap (λ (b : Bool). codes "snapshot @" ++ (decimal p.number ++ plus_where b)) (sym some)

module _ (txns : List Begun) (v : Client) (name : Bytes) (s : Sight) (seen : Ok (sight_known txns s) ≡ some_open (known txns v).transaction) (paired : length v.snapshots.names ≡ length v.snapshots.values.items) (o : Option ℕ) (place : o ≡ place_in name v.snapshots.names) where
  abbrev behind : Judged plain.Sight → Bool → Turn
  behind r t = r >>= (λ p. passed (codes "name-taken") (not t) >>= (λ free. Ok (snapshot_reply (known txns v).transaction p, with_snapshot name p (known txns v))))

  turn_is : snapshot_turn (known txns v) name ≡ behind (Ok (sight_known txns s)) (is_some o)
  turn_is =
      ap (λ (r : Judged plain.Sight). behind r (is_some (snapshot_named name (known txns v).snapshots))) (sym seen)
      ∙ ap (behind (Ok (sight_known txns s))) (snapshot_there txns name v.snapshots.names v.snapshots.values.items o paired place)

  pub snapshot_taken : is_some o ≡ true → snapshot_turn (known txns v) name ≡ Err (codes "name-taken")
  snapshot_taken taken = turn_is ∙ ap (behind (Ok (sight_known txns s))) taken

  pub snapshot_kept : (schema : DbSchema) (x : Client) (old new : Bytes) (r : Result (Unit {0}) Refused) → is_some o ≡ false → x ≡ record v { snapshots = x.snapshots } → x.snapshots.names ≡ v.snapshots.names ++ name ∷ [] → x.snapshots.values.items ≡ v.snapshots.values.items ++ s ∷ [] → OnOk r (new ≡ old ++ snapshot_text s) → IfErr r (λ e. e ≡ refusals.Memory) → TellsTurn schema (snapshot_turn (known txns v) name) (known txns v) (known txns x) old new r
  snapshot_kept schema x old new r free same names values said short =
      let f : Bytes → Sight → plain.Snapshot = snapshot_known txns in
      let with_list : List plain.Snapshot → plain.Client = λ l. record (known txns v) { snapshots = l } in
      let list : each_named f x.snapshots.names x.snapshots.values.items ≡ each_named f v.snapshots.names v.snapshots.values.items ++ f name s ∷ [] =
      ap (λ (ns : List Bytes). each_named f ns x.snapshots.values.items) names
      ∙ ap (each_named f (v.snapshots.names ++ name ∷ [])) values
      ∙ named_more f v.snapshots.names v.snapshots.values.items name s paired in
      let after : known txns x ≡ with_snapshot name (sight_known txns s) (known txns v) = ap (known txns) same ∙ ap with_list list in
      let told : plain.Client → Turn = λ y. Ok (snapshot_reply (known txns v).transaction (sight_known txns s), y) in
      tells schema (snapshot_turn (known txns v) name) (known txns v) (known txns x) old new (snapshot_text s) (snapshot_reply (known txns v).transaction (sight_known txns s)) r said short
      (turn_is ∙ ap (behind (Ok (sight_known txns s))) free ∙ ap told (sym after))
      (snapshot_printed (known txns v).transaction (sight_known txns s) seen ∙ sym (text_is s))

-- ---- sizes

-- places that are there have all their watches
pub all_there : {A : Type 0} (ws : List A) (places : List ℕ) → ((k at : ℕ) → slice_get places k ≡ Some at → at < length ws) → length (filter_map (slice_get ws) places) ≡ length places
all_there ws [] within = refl
all_there {A} ws (p ∷ places) within =
    let found = there_within ws p (within zero p refl) in
    ap (λ (o : Option A). length (cons_option o (filter_map (slice_get ws) places))) found.1
    ∙ ap suc (all_there ws places (λ k at there. within (suc k) at there))

pub named_length : {A B : Type 0} (f : Bytes → A → B) (ns : List Bytes) (vs : List A) → length ns ≡ length vs → length (each_named f ns vs) ≡ length vs
named_length f [] [] same = refl
named_length f [] (v ∷ vs) same = absurd (omega (arith, same))
named_length f (n ∷ ns) [] same = absurd (omega (arith, same))
named_length f (n ∷ ns) (v ∷ vs) same = ap suc (named_length f ns vs (omega (arith, same)))

-- what has a name stands at a place
pub value_at : {A : Type 0} (vs : List A) (o : Option ℕ) (v : A) → option_and_then (slice_get vs) o ≡ Some v → (k : ℕ) × (slice_get vs k ≡ Some v)
value_at vs None v found = cc
value_at vs (Some k) v found = (k, found)

module _ (txns : List Begun) (v : Client) (set : Bytes) (paired : length v.watching.sets.names ≡ length v.watching.sets.values.items) where
  abbrev sized_by : Option plain.WatchSet → Turn
  sized_by o = needed (codes "unknown-name") o >>= (λ s. Ok (sized (length s.members), known txns v))

  size_is : (o : Option Set) → o ≡ value_named set v.watching.sets.names v.watching.sets.values.items → size_turn (known txns v) set ≡ sized_by (option_map (set_known (watches_known v.watching) set) o)
  size_is o found =
      ap sized_by (set_found (watches_known v.watching) set v.watching.sets.names v.watching.sets.values.items paired ∙ ap (option_map (set_known (watches_known v.watching) set)) (sym found))

  pub size_none : None ≡ value_named set v.watching.sets.names v.watching.sets.values.items → size_turn (known txns v) set ≡ Err (codes "unknown-name")
  size_none found = size_is None found

  pub size_some : (schema : DbSchema) (H : History) (s : Set) → IsSound schema H txns v → length v.watching.watches.names ≡ length v.watching.watches.values.items → Some s ≡ value_named set v.watching.sets.names v.watching.sets.values.items → size_turn (known txns v) set ≡ Ok (sized (length s.members.items), known txns v)
  size_some schema H s sound watches found =
      let at = value_at v.watching.sets.values.items (place_in set v.watching.sets.names) s (sym found) in
      let there = sound.sets at.0 s at.1 in
      let long = named_length watch_known v.watching.watches.names v.watching.watches.values.items watches in
      let all : length (watches_at (watches_known v.watching) s.members.items) ≡ length s.members.items =
      all_there (watches_known v.watching) s.members.items (λ k p is. let within = there.members k p is in omega (arith, within, long)) in
      let told : ℕ → Turn = λ n. Ok (sized n, known txns v) in
      size_is (Some s) found ∙ ap told all
