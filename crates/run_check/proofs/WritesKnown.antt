-- What the check knows of a client after a line that writes rows.
use Rattle.std.proofs.Common.{◌≡◌, ◌≢◌, ◌<◌, ◌≤◌, ◌∙◌, ◌-◌, ◌++◌, ℕ, suc, List, [], ◌∷◌, Bool, true, false, Option, None, Some, Result, Ok, Err, length, map, nat_eq, slice_get, take, refl, sym, ap, subst, arith, append-nil, length-append}
use Rattle.std.specs.Borrow.{Bor}
use Rattle.std.specs.Prelude.{is_some}
use Rattle.std.proofs.lemmas.Bool.Decides.{nat_tests}
use Rattle.std.proofs.lemmas.List.{take-append-le}
use Rattle.mdb_datum.specs.Bytes.{Bytes}
use Rattle.mdb_datum.specs.Row.{Fields}
use Rattle.mdb_schema.specs.Answer.{Asked}
use Rattle.mdb_schema.specs.History.{History}
use Rattle.mdb_schema.specs.Schema.{DbSchema}
use Rattle.mdb_schema.specs.State.{State}
use Rattle.mdb_schema.specs.Tests.{◌>>=◌}
use Rattle.mdb_schema.specs.Wipe.{wipe, wipe_by_prefix}
use Rattle.mdb_schema.specs.Write.{Write, put, remove, step}
use Rattle.client_script.specs.Client as plain
use Rattle.client_script.specs.Client.{Judged, sight_of, state_seen, write_open}
use Rattle.client_script.specs.Reply.{Reply, deleted, wiped}
use Rattle.client_script.specs.Turn.{Turn, asked, indexes_of, insert_reply, step_turn, stepped, wipe_turn, with_writes, write_turn}
use Rattle.client_script.specs.declared.command.WriteCommand.{WriteCommand}
use Rattle.client_script.specs.declared.command.WriteCommand.TheVariants as write_lines
use Rattle.run_check.specs.declared.client.Client.{Client}
use Rattle.run_check.specs.declared.client.Open.{Open}
use Rattle.run_check.specs.declared.client.Open.TheVariants as opens
use Rattle.run_check.specs.declared.client.Writing.{Writing}
use Rattle.run_check.specs.declared.session.Refused.{Refused}
use Rattle.run_check.specs.declared.session.Refused.TheVariants as refusals
use Rattle.run_check.specs.declared.session.Sessions.{Sessions}
use Rattle.run_check.specs.declared.sight.Own.{Own}
use Rattle.run_check.specs.declared.sight.Sight.{Sight}
use Rattle.run_check.specs.inner.ClientView.{changed_of, known, sight_known, snapshot_known, transaction_known, watching_known, writing_known}
use Rattle.run_check.specs.inner.NamedView.{each_named}
use Rattle.run_check.specs.inner.SessionView.{AreKnown, IsKnown, IsSound, TurnTold}
use Rattle.run_check.specs.inner.StoreView.{Begun, IsSightOf, first_writes}
use Rattle.run_check.specs.inner.WritingView.{AreWriting, HasMore, HaveMore, IsCarried, IsWriting, TellsWrite, Told, state_now, told_write}
use Rattle.run_check.proofs.OwnWipes.{has_first}
use Rattle.run_check.proofs.OwnWrites.{carried_sight}

-- ---- sights that were kept

module _ (H : History) (txn : ℕ) (ws : List Write) (old new : List Begun) (more : HaveMore txn ws old new) where
  abbrev HasBegun : List Begun → ℕ → Own → Type 0
  HasBegun ts n o = (0 < o.txn) × (t : Begun) × (slice_get ts (o.txn - 1) ≡ Some t) × (t.number ≡ n) × (o.writes ≤ length t.writes)

  begun_still : (n : ℕ) (o : Own) → HasBegun old n o → HasBegun new n o × (first_writes new (Some o) ≡ first_writes old (Some o))
  begun_still n o (some, t, there, number, few) = of (nat_eq (o.txn - 1) (txn - 1)) refl
    where
      of : (b : Bool) → nat_eq (o.txn - 1) (txn - 1) ≡ b → HasBegun new n o × (first_writes new (Some o) ≡ first_writes old (Some o))
      of true e =
          let same : o.txn - 1 ≡ txn - 1 = grind (arith, nat_tests) in
          let longer : Begun = record { number = t.number; writes = t.writes ++ ws } in
          let now : slice_get new (o.txn - 1) ≡ Some longer = ap (slice_get new) same ∙ more.here t (ap (slice_get old) (sym same) ∙ there) in
          let before : first_writes old (Some o) ≡ take o.writes t.writes = rw there refl in
          let after : first_writes new (Some o) ≡ take o.writes (t.writes ++ ws) = rw now refl in (
            (some, longer, now, number, omega (arith, few, length-append t.writes ws)),
            after ∙ take-append-le o.writes t.writes ws few ∙ sym before,
          )
      of false e =
          let apart : o.txn - 1 ≢ txn - 1 = λ same. let f : nat_eq (o.txn - 1) (txn - 1) ≡ true = grind (arith, nat_tests) in let h = sym e ∙ f in cc in
          let now = more.others (o.txn - 1) apart in (
            (some, t, now ∙ there, number, few),
            rw now refl,
          )

  still_sight : (s : Sight) → IsSightOf H old s → IsSightOf H new s
  still_sight s sight = record { there = sight.there; own = λ x e. (begun_still s.commits x (sight.own x e)).0 }

  same_first : (n : ℕ) (o : Option Own) → ((x : Own) → o ≡ Some x → HasBegun old n x) → first_writes new o ≡ first_writes old o
  same_first n None begun = refl
  same_first n (Some x) begun = (begun_still n x (begun x refl)).1

  sight_same : (s : Sight) → IsSightOf H old s → sight_known new s ≡ sight_known old s
  sight_same s sight = ap (λ (us : List Write). record { number = s.commits; writes = us; uncommitted = is_some s.own }) (same_first s.commits s.own sight.own)

  snapshots_same : (ns : List Bytes) (vs : List Sight) → ((k : ℕ) (s : Sight) → slice_get vs k ≡ Some s → IsSightOf H old s) → each_named (snapshot_known new) ns vs ≡ each_named (snapshot_known old) ns vs
  snapshots_same [] vs sights = refl
  snapshots_same (n ∷ ns) [] sights = refl
  snapshots_same (n ∷ ns) (v ∷ vs) sights =
      ap (λ (s : plain.Sight). record { name = n; sight = s } ∷ each_named (snapshot_known new) ns vs) (sight_same v (sights 0 v refl))
      ∙ ap (λ (ss : List plain.Snapshot). record { name = n; sight = sight_known old v } ∷ ss) (snapshots_same ns vs (λ k s there. sights (suc k) s there))

-- ---- a line's turn

-- what is told of a value, and then of what that is told as
told_on : {A B C E : Type 0} (r : Result A E) (f : A → B) (g : B → C) → (let q : Result B E = r >>= (λ (a : A). Ok (f a)) in let p : Result C E = q >>= (λ (b : B). Ok (g b)) in p) ≡ (r >>= (λ (a : A). Ok (g (f a))))
told_on (Ok a) f g = refl
told_on (Err e) f g = refl

module _ (schema : DbSchema) (H : History) (txns : List Begun) (v : Client) (w : Writing) (was : v.«open» ≡ opens.Writing w) where
  abbrev base : State
  base = state_now schema H txns w.number w.own

  abbrev its_writing : plain.Writing
  its_writing = writing_known txns w

  abbrev on : Told → Turn
  on told = told >>= (λ (p : Reply × List Write). Ok (p.0, with_writes p.1 its_writing (known txns v)))

  is_open : write_open (known txns v).transaction ≡ Ok its_writing
  is_open = ap (λ (o : Open). write_open (transaction_known txns o)) was

  step_is : (one : Write) (table : Bytes) (reply : Option Fields → Reply) → step_turn schema H (known txns v) one table reply
      ≡ on (stepped (indexes_of schema table) (step schema base one) >>= (λ (o : Option Fields). Ok (reply o, one ∷ [])))
  step_is one table reply =
      ap (λ (j : Judged plain.Writing). let t : Turn = j >>= (λ (t : plain.Writing). stepped (indexes_of schema table) (step schema (state_seen schema H (sight_of t)) one) >>= (λ (o : Option Fields). Ok (reply o, with_writes (one ∷ []) t (known txns v)))) in t) is_open
      ∙ sym (told_on (stepped (indexes_of schema table) (step schema base one)) (λ (o : Option Fields). (reply o, one ∷ [])) (λ (p : Reply × List Write). (p.0, with_writes p.1 its_writing (known txns v))))

  wipe_is : (wiping : State → Asked (List Write)) → wipe_turn wiping schema H (known txns v) ≡ on (asked (wiping base) >>= (λ (gone : List Write). Ok (wiped (length gone), gone)))
  wipe_is wiping =
      ap (λ (j : Judged plain.Writing). let t : Turn = j >>= (λ (t : plain.Writing). asked (wiping (state_seen schema H (sight_of t))) >>= (λ (gone : List Write). Ok (wiped (length gone), with_writes gone t (known txns v)))) in t) is_open
      ∙ sym (told_on (asked (wiping base)) (λ (gone : List Write). (wiped (length gone), gone)) (λ (p : Reply × List Write). (p.0, with_writes p.1 its_writing (known txns v))))

  pub turn_is : (line : WriteCommand) → write_turn schema H (known txns v) line ≡ on (told_write schema base line)
  turn_is (write_lines.Insert table row) = step_is (put table row) table insert_reply
  turn_is (write_lines.Delete table row) = step_is (remove table row) table (λ o. deleted)
  turn_is (write_lines.DeleteAll q) = wipe_is (λ s. wipe schema s q)
  turn_is (write_lines.DeletePrefix q) = wipe_is (λ s. wipe_by_prefix schema s q)

-- ---- what is known then

module _ (schema : DbSchema) (H : History) (txns : List Begun) (s : Sessions) (v : Client) (k : IsKnown schema H txns s v) (w : Writing) (was : v.«open» ≡ opens.Writing w) where
  pub known_writing : IsWriting schema H txns s w
  known_writing = record { schema_is = k.schema_is; lawful = k.lawful; stands = k.stands; carried = k.sound.carried w was }

  module _ (ws : List Write) (new : Sessions) (x : Writing) (has : HasMore schema H txns ws w new x) where
    abbrev after : Client
    after = record v { «open» = opens.Writing x }

    writing_is : writing_known has.now x ≡ record { number = w.number; writes = first_writes txns (Some w.own) ++ ws; texts = map (λ (text : Bor Bytes). text.now) w.texts.items }
    writing_is =
        ap (λ (y : Writing). record { number = y.number; writes = first_writes has.now (Some x.own); texts = map (λ (text : Bor Bytes). text.now) y.texts.items }) has.kept
        ∙ ap (λ (us : List Write). record { number = w.number; writes = us; texts = map (λ (text : Bor Bytes). text.now) w.texts.items }) (has_first schema H txns s w known_writing ws new x has)

    known_with : known has.now after ≡ with_writes ws (writing_known txns w) (known txns v)
    known_with =
        ap (λ (t : plain.Writing). record { last = v.last; transaction = plain.writing t; snapshots = each_named (snapshot_known has.now) v.snapshots.names v.snapshots.values.items; watching = watching_known v.watching }) writing_is
        ∙ ap (λ (ss : List plain.Snapshot). record {
          last = v.last;
          transaction = plain.writing (record { number = w.number; writes = first_writes txns (Some w.own) ++ ws; texts = map (λ (text : Bor Bytes). text.now) w.texts.items });
          snapshots = ss;
          watching = watching_known v.watching;
        }) (snapshots_same H w.own.txn ws txns has.now has.more v.snapshots.names v.snapshots.values.items k.sound.snapshots)

    still_sound : IsSound schema H has.now after
    still_sound = record {
      last = k.sound.last;
      reading = λ n e. cc;
      writing = λ y e. let same : x ≡ y = cc in
          subst (λ (z : Writing). IsSightOf H has.now (record { commits = z.number; own = Some z.own })) same
          (carried_sight schema H has.now x.number x.own (changed_of x) has.writing.carried);
      carried = λ y e. let same : x ≡ y = cc in subst (λ (z : Writing). IsCarried schema H has.now z.number z.own (changed_of z)) same has.writing.carried;
      snapshots = λ n z there. still_sight H w.own.txn ws txns has.now has.more z (k.sound.snapshots n z there);
      watches = k.sound.watches;
      sets = k.sound.sets;
    }

    still_known : new ≡ record s { store = new.store; text = new.text } → IsKnown schema H has.now new after
    still_known kept = subst (λ (z : Sessions). IsKnown schema H has.now z after) (sym kept) (record {
      schema_is = k.schema_is;
      lawful = k.lawful;
      stands = has.writing.stands;
      begun = k.begun ∙ sym has.more.long;
      counted = k.counted;
      placed = k.placed;
      made = k.made;
      sound = still_sound;
    })

  -- the line is told
  pub line_told : (line : WriteCommand) (new : Sessions) (x : Writing) (r : Result (Unit {0}) Refused) → new ≡ record s { store = new.store; text = new.text } → TellsWrite schema H txns (told_write schema (state_now schema H txns w.number w.own) line) w s.text.items new x r
      → TurnTold schema H (write_turn schema H (known txns v) line) (known txns v) s.text.items new (record v { «open» = opens.Writing x }) r
  line_told line new x (Ok u) kept (reply, ws, is, said, has) = (
    has.now,
    record {
      reply = reply;
      is = turn_is schema H txns v w was line ∙ ap (on schema H txns v w was) is ∙ ap (λ (c : plain.Client). Ok (reply, c)) (sym (known_with ws new x has));
      text = said;
    },
    still_known ws new x has kept,
  )
  line_told line new x (Err refusals.Memory) kept told = tt
  line_told line new x (Err (refusals.By rule)) kept (is, has) = (
    turn_is schema H txns v w was line ∙ ap (on schema H txns v w was) is,
    has.now,
    known_with [] new x has ∙ none_more,
    still_known [] new x has kept,
  )
    where
      none_more : with_writes [] (writing_known txns w) (known txns v) ≡ known txns v
      none_more =
          ap (λ (us : List Write). record (known txns v) { transaction = plain.writing (record (writing_known txns w) { writes = us }) }) (append-nil (first_writes txns (Some w.own)))
          ∙ ap (λ (o : Open). record (known txns v) { transaction = transaction_known txns o }) (sym was)

pub are_writing : (s : Sessions) (v : Client) (w : Writing) → AreKnown s v → v.«open» ≡ opens.Writing w → AreWriting s w
are_writing s v w all was = (all.0, all.1, all.2, known_writing all.0 all.1 all.2 s v all.3 w was)
