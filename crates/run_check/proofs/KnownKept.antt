-- The check knows what a client does after a line that begins or ends a transaction.
use Rattle.std.proofs.Common.{arith, ◌≡◌, ◌∙◌, ◌≤◌, ◌+◌, ◌++◌, ◌∷◌, ℕ, true, List, [], length, Option, Some, Result, Ok, Err, IfOk, refl, sym, ap, subst, length-append}
use Rattle.std.specs.Prelude.{unwrap_or}
use Rattle.mdb_datum.specs.Bytes.{Bytes}
use Rattle.mdb_schema.specs.History.{History}
use Rattle.mdb_schema.specs.Schema.{DbSchema}
use Rattle.run_check.specs.declared.client.Client.{Client}
use Rattle.run_check.specs.declared.client.Open.{Open}
use Rattle.run_check.specs.declared.client.Open.TheVariants as opens
use Rattle.run_check.specs.declared.client.Writing.{Writing}
use Rattle.run_check.specs.declared.session.Sessions.{Sessions}
use Rattle.run_check.specs.inner.ClientView.{begun_then, is_closed}
use Rattle.run_check.specs.inner.SessionView.{IsKnown, IsSound, SaysNumber}
use Rattle.run_check.specs.inner.StoreView.{Begun, StandsFor}
use Rattle.run_check.proofs.LineTold.{still_known}
use Rattle.run_check.proofs.LinesTold.{begins, said_some}
use Rattle.run_check.proofs.SoundKept.{sound_begun, sound_closed, sound_reading}
use Rattle.run_check.proofs.StoreBegins.{transaction_begins}

-- ---- what the check knows of another client, or after another transaction

pub known_sound : (schema : DbSchema) (H : History) (txns : List Begun) (s : Sessions) (v x : Client) → IsKnown schema H txns s v → IsSound schema H txns x → IsKnown schema H txns s x
known_sound schema H txns s v x k sound = record {
  schema_is = k.schema_is;
  lawful = k.lawful;
  stands = k.stands;
  begun = k.begun;
  counted = k.counted;
  placed = k.placed;
  made = k.made;
  sound = sound;
}

pub known_after : (schema : DbSchema) (H : History) (txns : List Begun) (s new : Sessions) (v x : Client) → new ≡ record s { text = new.text } → IsKnown schema H txns s v → IsSound schema H txns x → IsKnown schema H txns new x
known_after schema H txns s new v x kept k sound = still_known schema H txns s new x kept (known_sound schema H txns s v x k sound)

known_begun : (schema : DbSchema) (H : History) (txns more : List Begun) (s new : Sessions) (v x : Client) → new ≡ record s { text = new.text; begun = new.begun } → new.begun ≡ length more → StandsFor schema H more s.store → IsKnown schema H txns s v → IsSound schema H more x → IsKnown schema H more new x
known_begun schema H txns more s new v x kept begun stands k sound = subst (λ (y : Sessions). IsKnown schema H more y x) (sym kept) (record {
  schema_is = k.schema_is;
  lawful = k.lawful;
  stands = stands;
  begun = begun;
  counted = k.counted;
  placed = k.placed;
  made = k.made;
  sound = sound;
})

-- ---- a number that was told

module _ (schema : DbSchema) (H : History) (txns : List Begun) (s new : Sessions) (v k : Client) (known : IsKnown schema H txns s v) (word text made_old made_new : Bytes) (n : ℕ) (told : Option ℕ) (is : told ≡ Some n) (says : SaysNumber word text v.last (length s.order.now) made_old made_new told) (after : k ≡ record v { last = unwrap_or told v.last }) where
  last : k ≡ record v { last = n }
  last = after ∙ ap (λ (o : Option ℕ). record v { last = unwrap_or o v.last }) is

  there : n ≤ length H
  there = let said = said_some word text v.last (length s.order.now) n made_old made_new told is says in subst (λ (m : ℕ). n ≤ m) known.counted said.2

  pub read_keeps : new ≡ record s { text = new.text } → IsKnown schema H txns new (record k { «open» = opens.Reading n })
  read_keeps kept =
      subst (λ (x : Client). IsKnown schema H txns new (record x { «open» = opens.Reading n })) (sym last)
      (known_after schema H txns s new v (record v { last = n; «open» = opens.Reading n }) kept known (sound_reading schema H txns v known.sound n there))

  pub begin_keeps : new ≡ record s { text = new.text; begun = new.begun } → is_closed v.«open» ≡ true → (w : Writing) → w.number ≡ n → w.own ≡ record { txn = new.begun; writes = 0 } → w.changed.keys ≡ [] → new.begun ≡ s.begun + 1
      → IsKnown schema H (begun_then txns v.«open» (opens.Writing w)) new (record k { «open» = opens.Writing w })
  begin_keeps kept closed w number own changed next =
      let b : Begun = record { number = w.number; writes = [] } in
      let more : List Begun = txns ++ b ∷ [] in
      let count : new.begun ≡ length txns + 1 = omega (arith, next, known.begun) in
      subst (λ (ts : List Begun). IsKnown schema H ts new (record k { «open» = opens.Writing w })) (sym (begins txns v.«open» w closed))
      (subst (λ (x : Client). IsKnown schema H more new (record x { «open» = opens.Writing w })) (sym last)
      (known_begun schema H txns more s new v (record v { last = n; «open» = opens.Writing w }) kept (omega (arith, count, length-append txns (b ∷ [])))
      (transaction_begins schema H txns b refl s.store known.stands) known (sound_begun schema H txns v known.sound n new.begun there w number own changed count)))

-- none begins where the client is as it was
pub begun_same : (schema : DbSchema) (H : History) (txns : List Begun) (s : Sessions) (v : Client) → IsKnown schema H txns s v → IsKnown schema H (begun_then txns v.«open» v.«open») s v
begun_same schema H txns s v k = subst (λ (ts : List Begun). IsKnown schema H ts s v) (sym (same v.«open»)) k
  where
    same : (o : Open) → begun_then txns o o ≡ txns
    same opens.Nothing = refl
    same (opens.Reading n) = refl
    same (opens.Writing w) = refl

-- ---- a transaction that is over

pub closed_keeps : (schema : DbSchema) (H : History) (txns : List Begun) (s new : Sessions) (v : Client) (n : ℕ) → n ≤ length H → new ≡ record s { text = new.text } → IsKnown schema H txns s v → IsKnown schema H txns new (record v { last = n; «open» = opens.Nothing })
closed_keeps schema H txns s new v n within kept k =
    known_after schema H txns s new v (record v { last = n; «open» = opens.Nothing }) kept k (sound_closed schema H txns v k.sound n within)

pub whatever : {A E : Type 0} (r : Result A E) (P : Type 0) → P → IfOk r (λ x. P)
whatever (Ok x) P p = p
whatever (Err e) P p = tt
