-- A client that was told nothing: the check is ready for it after any line of another.
use Rattle.std.proofs.Common.{arith, ◌≡◌, ap, refl, subst, sym, ◌∙◌, ℕ, ◌≤◌, List, [], ◌∷◌, length, Some, slice_get}
use Rattle.mdb_datum.specs.Bytes.{Bytes}
use Rattle.mdb_schema.specs.History.{History}
use Rattle.mdb_schema.specs.Schema.{DbSchema}
use Rattle.client_script.specs.Client as plain
use Rattle.client_script.specs.Client.{at_start}
use Rattle.run_check.specs.declared.client.Client.{Client}
use Rattle.run_check.specs.declared.client.Open.{Open}
use Rattle.run_check.specs.declared.client.Open.TheVariants as opens
use Rattle.run_check.specs.declared.client.Writing.{Writing}
use Rattle.run_check.specs.declared.session.Sessions.{Sessions}
use Rattle.run_check.specs.inner.CheckView.{IsReady}
use Rattle.run_check.specs.inner.ClientView.{known, set_known, snapshot_known, transaction_known, watch_known, watches_known}
use Rattle.run_check.specs.inner.NamedView.{each_named}
use Rattle.run_check.specs.inner.SessionView.{IsKnown, IsSound}
use Rattle.run_check.specs.inner.StoreView.{Begun}

-- what was known of one client, but for that client, is known for any
pub ready_again : (schema : DbSchema) (H : History) (txns : List Begun) (s : Sessions) (v : Client) → IsKnown schema H txns s v → IsReady schema H txns s
ready_again schema H txns s v all = λ other sound. record {
  schema_is = all.schema_is;
  lawful = all.lawful;
  stands = all.stands;
  begun = all.begun;
  counted = all.counted;
  placed = all.placed;
  made = all.made;
  sound = sound;
}

-- ---- nothing is kept of it

-- no value has a name
none_named : {A B : Type 0} (f : Bytes → A → B) (names : List Bytes) (values : List A) → length names ≡ length values → each_named f names values ≡ [] → values ≡ []
none_named f [] [] paired none = refl
none_named f [] (v ∷ values) paired none = absurd (omega (arith, paired))
none_named f (n ∷ names) [] paired none = refl
none_named f (n ∷ names) (v ∷ values) paired none = cc

none_there : {A : Type 0} (values : List A) (k : ℕ) (x : A) → values ≡ [] → slice_get values k ≡ Some x → ⊥
none_there [] k x none at = cc
none_there (v ∷ values) k x none at = cc

none_open : (txns : List Begun) (o : Open) → transaction_known txns o ≡ plain.closed → o ≡ opens.Nothing
none_open txns opens.Nothing closed = refl
none_open txns (opens.Reading n) closed = cc
none_open txns (opens.Writing w) closed = cc

pub sound_at_start : (schema : DbSchema) (H : History) (txns : List Begun) (v : Client) → known txns v ≡ at_start → IsSound schema H txns v
sound_at_start schema H txns v start =
    let last : v.last ≡ 0 = ap (λ (x : plain.Client). x.last) start in
    let opened : v.«open» ≡ opens.Nothing = none_open txns v.«open» (ap (λ (x : plain.Client). x.transaction) start) in
    let snapshots = none_named (snapshot_known txns) v.snapshots.names v.snapshots.values.items (v.snapshots.paired ∙ v.snapshots.values.ok.0) (ap (λ (x : plain.Client). x.snapshots) start) in
    let watches = none_named watch_known v.watching.watches.names v.watching.watches.values.items (v.watching.watches.paired ∙ v.watching.watches.values.ok.0) (ap (λ (x : plain.Client). x.watching.watches) start) in
    let sets = none_named (set_known (watches_known v.watching)) v.watching.sets.names v.watching.sets.values.items (v.watching.sets.paired ∙ v.watching.sets.values.ok.0) (ap (λ (x : plain.Client). x.watching.sets) start) in
    record {
      last = subst (λ (n : ℕ). n ≤ length H) (sym last) (omega arith);
      reading = λ n is. absurd (other_reading n (sym is ∙ opened));
      writing = λ w is. absurd (other_writing w (sym is ∙ opened));
      carried = λ w is. absurd (other_writing w (sym is ∙ opened));
      snapshots = λ k s at. absurd (none_there v.snapshots.values.items k s snapshots at);
      watches = λ k w at. absurd (none_there v.watching.watches.values.items k w watches at);
      sets = λ k s at. absurd (none_there v.watching.sets.values.items k s sets at);
    }
  where
    other_reading : (n : ℕ) → opens.Reading n ≡ opens.Nothing → ⊥
    other_reading n e = cc

    other_writing : (w : Writing) → opens.Writing w ≡ opens.Nothing → ⊥
    other_writing w e = cc

-- so the check knows what it does
pub known_at_start : (schema : DbSchema) (H : History) (txns : List Begun) (s : Sessions) (v : Client) → known txns v ≡ at_start → IsReady schema H txns s → IsKnown schema H txns s v
known_at_start schema H txns s v start ready = ready v (sound_at_start schema H txns v start)
