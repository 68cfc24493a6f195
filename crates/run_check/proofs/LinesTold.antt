-- Lines whose text decides, as the code carries them out.
use Rattle.std.proofs.Common.{arith, ◌≡◌, ◌≢◌, refl, ap, subst, sym, ◌∙◌, ℕ, suc, ◌+◌, ◌-◌, ◌^◌, ◌<◌, ◌≤◌, List, [], ◌∷◌, ◌++◌, length, map, take, true, Option, Some, None, decimal, codes, append-nil, length-append, unwrap_or}
use Rattle.std.specs.Prelude.{is_some, slice_get}
use Rattle.std.specs.Borrow.{Bor}
use Rattle.std.proofs.lemmas.Option.{slice_get_within}
use Rattle.mdb_datum.specs.Bytes.{Bytes}
use Rattle.mdb_datum.proofs.ListPlaces.{get_first}
use Rattle.mdb_schema.specs.History.{History}
use Rattle.mdb_schema.specs.Schema.{DbSchema}
use Rattle.mdb_schema.specs.Write.{Write}
use Rattle.client_script.specs.Client as plain
use Rattle.client_script.specs.Turn.{with_transaction}
use Rattle.client_script.specs.declared.command.Command.TheVariants as command
use Rattle.client_script.specs.declared.command.TransactionCommand.TheVariants as transaction_line
use Rattle.run_check.specs.declared.client.Client.{Client}
use Rattle.run_check.specs.declared.client.Open.{Open}
use Rattle.run_check.specs.declared.client.Open.TheVariants as opens
use Rattle.run_check.specs.declared.client.Writing.{Writing}
use Rattle.run_check.specs.declared.sight.Own.{Own}
use Rattle.run_check.specs.declared.sight.Sight.{Sight}
use Rattle.run_check.specs.inner.ClientView.{begun_then, is_closed, known, sight_known, snapshot_known, transaction_known, watching_known, writing_known}
use Rattle.run_check.specs.inner.Decided.{IsDecided}
use Rattle.run_check.specs.inner.NamedView.{each_named}
use Rattle.run_check.specs.inner.SessionView.{IsSound, SaysNumber}
use Rattle.run_check.specs.inner.StoreView.{Begun, IsSightOf, first_writes}
use Rattle.run_check.proofs.DecidedNumbers.{begin_decided, begin_undecided, read_decided, read_undecided}

-- ---- what a word and a number say

pub said_some : (word text : Bytes) (last count n : ℕ) (old new : Bytes) (told : Option ℕ) → told ≡ Some n → SaysNumber word text last count old new told → SaysNumber word text last count old new (Some n)
said_some word text last count n old new told is says = subst (SaysNumber word text last count old new) is says

pub said_none : (word text : Bytes) (last count : ℕ) (old new : Bytes) (told : Option ℕ) → told ≡ None → SaysNumber word text last count old new told → SaysNumber word text last count old new None
said_none word text last count old new told is says = subst (SaysNumber word text last count old new) is says

-- nothing is open
closed_known : (txns : List Begun) (o : Open) → is_closed o ≡ true → transaction_known txns o ≡ plain.closed
closed_known txns opens.Nothing closed = refl
closed_known txns (opens.Reading n) closed = cc
closed_known txns (opens.Writing w) closed = cc

-- ---- read

module _ (schema : DbSchema) (H : History) (txns : List Begun) (client : ℕ) (small : length H ≤ 2 ^ 24) (v : Client) (closed : is_closed v.«open» ≡ true) (text old new : Bytes) (count : ℕ) (all : count ≡ length H) where
  pub read_says : (n : ℕ) (told : Option ℕ) (k : Client) → told ≡ Some n → SaysNumber (codes "read @") text v.last count old new told → k ≡ record v { last = unwrap_or told v.last } → (made : Bytes) × (new ≡ old ++ made) × IsDecided schema H client (known txns v) (command.Transaction transaction_line.Read) text made (known txns (record k { «open» = opens.Reading n }))
  read_says n told k is says after =
      let said = said_some (codes "read @") text v.last count n old new told is says in
      let last : k ≡ record v { last = n } = after ∙ ap (λ (o : Option ℕ). record v { last = unwrap_or o v.last }) is in
      let there : n ≤ length H = subst (λ (m : ℕ). n ≤ m) all said.2 in
      let Told : Client → Type 0 = λ x. (made : Bytes) × (new ≡ old ++ made) × IsDecided schema H client (known txns v) (command.Transaction transaction_line.Read) text made (known txns (record x { «open» = opens.Reading n })) in
      subst Told (sym last) (codes "read @" ++ decimal n, said.3, read_decided schema H (known txns v) client small (closed_known txns v.«open» closed) text n said.0 (record { not_older = said.1; there = there }))

  pub read_says_none : text ≢ [] → (told : Option ℕ) (k : Client) → told ≡ None → SaysNumber (codes "read @") text v.last count old new told → k ≡ record v { last = unwrap_or told v.last } → (made : Bytes) × (new ≡ old ++ made) × IsDecided schema H client (known txns v) (command.Transaction transaction_line.Read) text made (known txns k)
  read_says_none some told k is says after =
      let said = said_none (codes "read @") text v.last count old new told is says in (
        [],
        said.1 ∙ sym (append-nil old),
        read_undecided schema H (known txns v) client small (closed_known txns v.«open» closed) text some
            (λ n found here. said.0 n found here.not_older (subst (λ (m : ℕ). n ≤ m) (sym all) here.there)) (known txns k),
      )

-- ---- one more transaction has begun

abbrev taken : ℕ → Option Begun → List Write
taken n None = []
taken n (Some t) = take n t.writes

first_is : (txns : List Begun) (o : Own) → first_writes txns (Some o) ≡ taken o.writes (slice_get txns (o.txn - 1))
first_is txns o = refl

none_taken : (t : Option Begun) → taken 0 t ≡ []
none_taken None = refl
none_taken (Some t) = refl

-- nothing was written yet
nothing_written : (txns : List Begun) (o : Own) → o.writes ≡ 0 → first_writes txns (Some o) ≡ []
nothing_written txns o none =
    first_is txns o
    ∙ ap (λ (n : ℕ). taken n (slice_get txns (o.txn - 1))) none
    ∙ none_taken (slice_get txns (o.txn - 1))

abbrev with_writes : ℕ → List Write → plain.Sight
with_writes n ws = record { number = n; writes = ws; uncommitted = true }

abbrev sight_with : ℕ → List Begun → Option Own → plain.Sight
sight_with n txns o = record { number = n; writes = first_writes txns o; uncommitted = is_some o }

-- what is seen stays
sight_stays : (H : History) (txns : List Begun) (b : Begun) (s : Sight) → IsSightOf H txns s → sight_known (txns ++ b ∷ []) s ≡ sight_known txns s
sight_stays H txns b s sound = of s.own sound.own
  where
    of : (o : Option Own) → ((x : Own) → o ≡ Some x → (0 < x.txn) × (t : Begun) × (slice_get txns (x.txn - 1) ≡ Some t) × (t.number ≡ s.commits) × (x.writes ≤ length t.writes)) → sight_with s.commits (txns ++ b ∷ []) o ≡ sight_with s.commits txns o
    of None own = refl
    of (Some x) own =
        let t = (own x refl).1 in
        let there : slice_get txns (x.txn - 1) ≡ Some t = (own x refl).2 in
        let within : x.txn - 1 < length txns = slice_get_within txns (x.txn - 1) t there in
        ap (λ (o : Option Begun). with_writes s.commits (taken x.writes o)) (get_first txns (b ∷ []) (x.txn - 1) within)

abbrev Snapshots : List Begun → List Bytes → List Sight → List plain.Snapshot
Snapshots txns ns vs = each_named (snapshot_known txns) ns vs

snapshots_stay : (H : History) (txns : List Begun) (b : Begun) (ns : List Bytes) (vs : List Sight) → ((k : ℕ) (s : Sight) → slice_get vs k ≡ Some s → IsSightOf H txns s) → Snapshots (txns ++ b ∷ []) ns vs ≡ Snapshots txns ns vs
snapshots_stay H txns b [] vs sound = refl
snapshots_stay H txns b (n ∷ ns) [] sound = refl
snapshots_stay H txns b (n ∷ ns) (v ∷ vs) sound =
    ap (λ (s : plain.Sight). record { name = n; sight = s } ∷ Snapshots (txns ++ b ∷ []) ns vs) (sight_stays H txns b v (sound 0 v refl))
    ∙ ap (λ (ss : List plain.Snapshot). record { name = n; sight = sight_known txns v } ∷ ss) (snapshots_stay H txns b ns vs (λ k s there. sound (suc k) s there))

-- ---- write

begun_known : (schema : DbSchema) (H : History) (txns : List Begun) (v k : Client) (w : Writing) (n begun : ℕ) → IsSound schema H txns v → k ≡ record v { last = n } → w.number ≡ n → w.own ≡ record { txn = begun; writes = 0 } → w.texts.items ≡ [] → known (txns ++ record { number = w.number; writes = [] } ∷ []) (record k { «open» = opens.Writing w }) ≡ with_transaction n (plain.writing (record { number = n; writes = []; texts = [] })) (known txns v)
begun_known schema H txns v k w n begun sound after number own texts =
    let b : Begun = record { number = w.number; writes = [] } in
    let more : List Begun = txns ++ b ∷ [] in
    let none : first_writes more (Some w.own) ≡ [] = nothing_written more w.own (ap (λ (o : Own). o.writes) own) in
    let text : map (λ (t : Bor Bytes). t.now) w.texts.items ≡ [] = ap (map (λ (t : Bor Bytes). t.now)) texts in
    let with_text : List Bytes → plain.Writing = λ ts. record { number = w.number; writes = first_writes more (Some w.own); texts = ts } in
    let with_none : List Write → plain.Writing = λ ws. record { number = w.number; writes = ws; texts = [] } in
    let with_number : ℕ → plain.Writing = λ m. record { number = m; writes = []; texts = [] } in
    let is : writing_known more w ≡ record { number = n; writes = []; texts = [] } = ap with_text text ∙ ap with_none none ∙ ap with_number number in
    let whole : plain.Writing → List plain.Snapshot → plain.Client = λ t ss. record { last = n; transaction = plain.writing t; snapshots = ss; watching = watching_known v.watching } in
    ap (λ (x : Client). known more (record x { «open» = opens.Writing w })) after
    ∙ ap (λ (t : plain.Writing). whole t (Snapshots more v.snapshots.names v.snapshots.values.items)) is
    ∙ ap (whole (record { number = n; writes = []; texts = [] })) (snapshots_stay H txns b v.snapshots.names v.snapshots.values.items sound.snapshots)

-- a transaction begins only where none is open
pub begins : (txns : List Begun) (o : Open) (w : Writing) → is_closed o ≡ true → begun_then txns o (opens.Writing w) ≡ txns ++ record { number = w.number; writes = [] } ∷ []
begins txns opens.Nothing w closed = refl
begins txns (opens.Reading n) w closed = cc
begins txns (opens.Writing x) w closed = cc

-- and none does where none is open behind
pub begins_none : (txns : List Begun) (o p : Open) → is_closed p ≡ true → begun_then txns o p ≡ txns
begins_none txns opens.Nothing opens.Nothing closed = refl
begins_none txns opens.Nothing (opens.Reading n) closed = cc
begins_none txns opens.Nothing (opens.Writing w) closed = cc
begins_none txns (opens.Reading n) p closed = refl
begins_none txns (opens.Writing w) p closed = refl

pub begins_more : (txns : List Begun) (o : Open) (w : Writing) (count next : ℕ) → is_closed o ≡ true → next ≡ count + 1 → count ≡ length txns → next ≡ length (begun_then txns o (opens.Writing w))
begins_more txns o w count next closed more all =
    let long : length (txns ++ record { number = w.number; writes = [] } ∷ []) ≡ length txns + 1 = length-append txns (record { number = w.number; writes = [] } ∷ []) in
    let is = ap length (begins txns o w closed) in
    omega (arith, long, is, more, all)

module _ (schema : DbSchema) (H : History) (txns : List Begun) (client : ℕ) (small : length H ≤ 2 ^ 24) (v : Client) (sound : IsSound schema H txns v) (closed : is_closed v.«open» ≡ true) (text old new : Bytes) (count : ℕ) (all : count ≡ length H) where
  pub begin_says : (n begun : ℕ) (w : Writing) (told : Option ℕ) (k : Client) → told ≡ Some n → w.number ≡ n → w.own ≡ record { txn = begun; writes = 0 } → w.texts.items ≡ [] → SaysNumber (codes "write @") text v.last count old new told → k ≡ record v { last = unwrap_or told v.last } → (made : Bytes) × (new ≡ old ++ made) × IsDecided schema H client (known txns v) (command.Transaction transaction_line.Write) text made (known (begun_then txns v.«open» (opens.Writing w)) (record k { «open» = opens.Writing w }))
  begin_says n begun w told k is number own texts says after =
      let said = said_some (codes "write @") text v.last count n old new told is says in
      let last : k ≡ record v { last = n } = after ∙ ap (λ (o : Option ℕ). record v { last = unwrap_or o v.last }) is in
      let there : n ≤ length H = subst (λ (m : ℕ). n ≤ m) all said.2 in
      let next : known (begun_then txns v.«open» (opens.Writing w)) (record k { «open» = opens.Writing w }) ≡ with_transaction n (plain.writing (record { number = n; writes = []; texts = [] })) (known txns v) =
      ap (λ (x : List Begun). known x (record k { «open» = opens.Writing w })) (begins txns v.«open» w closed)
      ∙ begun_known schema H txns v k w n begun sound last number own texts in
      let Told : plain.Client → Type 0 = λ x. (made : Bytes) × (new ≡ old ++ made) × IsDecided schema H client (known txns v) (command.Transaction transaction_line.Write) text made x in
      subst Told (sym next) (codes "write @" ++ decimal n, said.3, begin_decided schema H (known txns v) client small (closed_known txns v.«open» closed) text n said.0 (record { not_older = said.1; there = there }))

  pub begin_says_none : text ≢ [] → (told : Option ℕ) (k : Client) → told ≡ None → SaysNumber (codes "write @") text v.last count old new told → k ≡ record v { last = unwrap_or told v.last } → (made : Bytes) × (new ≡ old ++ made) × IsDecided schema H client (known txns v) (command.Transaction transaction_line.Write) text made (known (begun_then txns v.«open» k.«open») k)
  begin_says_none some told k is says after =
      let said = said_none (codes "write @") text v.last count old new told is says in (
        [],
        said.1 ∙ sym (append-nil old),
        begin_undecided schema H (known txns v) client small (closed_known txns v.«open» closed) text some
            (λ n found here. said.0 n found here.not_older (subst (λ (m : ℕ). n ≤ m) (sym all) here.there)) (known (begun_then txns v.«open» k.«open») k),
      )
