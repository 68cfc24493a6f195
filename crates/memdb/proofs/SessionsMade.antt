-- In a history of made clients, which tell just their own commits, each has committed its rows.
use Rattle.std.proofs.Common.{arith, ◌≡◌, refl, ap, subst, sym, ◌∙◌, ℕ, zero, suc, ◌+◌, ◌-◌, ◌*◌, ◌^◌, ◌<◌, ◌≤◌, inl, inr, List, [], ◌∷◌, length, map, Option, Some, None, codes}
use Rattle.std.proofs.lemmas.Bool.{cases_lt}
use Rattle.mdb_datum.specs.Row.{Fields}
use Rattle.mdb_schema.proofs.LawfulStates.{state_at_lawful, writes_keep}
use Rattle.mdb_schema.specs.History.{Commit, History, state_at, writes_in}
use Rattle.mdb_schema.specs.State.{State, IsLawfulState, id_key, row_at, with_row}
use Rattle.mdb_schema.specs.Write.{put, step}
use Rattle.client_script.specs.Client.{Sight, at_start, state_seen}
use Rattle.client_script.specs.Legal.{printed}
use Rattle.client_script.specs.Reply.{Reply}
use Rattle.client_script.specs.Session.{Session, Sessions}
use Rattle.client_script.specs.Turn.{commit_limit}
use Rattle.client_session.specs.Answered.{commit_at}
use Rattle.client_session.specs.Clients.{TellOwn}
use Rattle.mem_txn.specs.Database.{commits_by}
use Rattle.memdb.proofs.MadeStep.{is_item, step_item}
use Rattle.memdb.proofs.RoundsTold.{AreEverPut, IsEverPut, rounds_told}
use Rattle.memdb.proofs.SmallHistory.{all_light, session_light, weights, weights_are, weigh, weigh_some}
use Rattle.memdb.specs.Made.{Item, Numbers, drawn, item_of, items_behind, items_by}
use Rattle.memdb.proofs.MadeHistory.{MadeAreKept, commit_of}
use Rattle.memdb.specs.inner.MadeInputs.{made_schema, made_script, row_of, scripts_from}
use Rattle.memdb.proofs.MadeItem.{IsItem, item_table}

-- ---- a made row is put, whatever is seen

-- a state has the rows of one table
one_table : (s : State) → IsLawfulState made_schema s → (rows : List Fields) × (s ≡ rows ∷ [])
one_table [] lawful = absurd lawful
one_table (rows ∷ []) lawful = (rows, refl)
one_table (rows ∷ other ∷ s) lawful = absurd lawful.1

-- what is seen is lawful
seen_lawful : (H : History) (s : Sight) → IsLawfulState made_schema (state_seen made_schema H s)
seen_lawful H s =
    writes_keep made_schema (state_at made_schema H s.number) s.writes (state_at_lawful made_schema H s.number)

-- so the step puts it
ever_put : (H : History) (x : Item) → IsItem x → IsEverPut made_schema H x
ever_put H x is s =
    let one = one_table (state_seen made_schema H s) (seen_lawful H s) in (
      (with_row item_table (row_of x) one.0 ∷ [], row_at item_table (id_key item_table (row_of x)) one.0),
      ap (λ (o : State). step made_schema o (put (codes "items") (row_of x))) one.1 ∙ step_item one.0 x is,
    )

-- and all rows of a client
are_ever_put : (H : History) (number client place rounds : ℕ) → client ≤ 64
    → AreEverPut made_schema H (items_behind number client place rounds)
are_ever_put H number client place zero few = tt
are_ever_put H number client place (suc rounds) few = (
  ever_put H (item_of client (drawn number (suc place))) (is_item client (drawn number (suc place)) few),
  are_ever_put H number client (suc place) rounds few,
)

-- ---- each client

-- the session of a client, which tells just its own commits
record IsClient (n : Numbers) (H : History) (client : ℕ) : Type 0 where
  replies : List Reply
  session : Session made_schema H client (made_script n client) replies
  own : map (commit_at H) (printed replies) ≡ map Some (commits_by client H)

-- each client has one
client_of : (n : Numbers) (H : History) (k more : ℕ) (rss : List (List Reply))
    → Sessions made_schema H k (scripts_from n k more) rss → TellOwn H k rss
    → (client : ℕ) → k ≤ client → client < k + more → IsClient n H client
client_of n H k zero rss sessions own client low high = absurd (none low high)
  where
    none : k ≤ client → client < k + 0 → ⊥
    none low high = omega arith
client_of n H k (suc more) [] sessions own client low high = absurd sessions
client_of n H k (suc more) (rs ∷ rss) (session, others) (own, owns) client low high = elim (cases_lt k client) [
  | inl lt ↦ client_of n H (k + 1) more rss others owns client (omega arith) (omega arith)
  | inr le ↦ subst (IsClient n H) (same le) (record { replies = rs; session = session; own = own })
]
  where
    same : client ≤ k → k ≡ client
    same le = omega arith

-- ---- the history is small

-- the commits of a client and their writes are at most one for each of its lines
client_light : (n : Numbers) (H : History) (client : ℕ) → n.count ≤ 1000 → IsClient n H client
    → weights (commits_by client H) ≤ 6000
client_light n H client few c =
    let before = (client - 1) * n.count in
    let light = session_light made_schema H client 0 n.number before n.count c.replies c.session in
    omega (arith, light, same, few)
  where
    same : weigh (map (commit_at H) (printed c.replies)) ≡ weights (commits_by client H)
    same = ap weigh c.own ∙ weigh_some (commits_by client H)

-- ---- so each client has committed its rows

-- the commits that places hold
somes : List (Option Commit) → List Commit
somes [] = []
somes (None ∷ cs) = somes cs
somes (Some c ∷ cs) = c ∷ somes cs

-- of places that hold commits they are these
somes_of : (cs : List Commit) → somes (map Some cs) ≡ cs
unfolding somes
somes_of [] = refl
somes_of (c ∷ cs) = ap (λ (ds : List Commit). c ∷ ds) (somes_of cs)

-- so places that hold the same hold the same commits
same_somes : (cs ds : List Commit) → map Some cs ≡ map Some ds → cs ≡ ds
same_somes cs ds same = sym (somes_of cs) ∙ ap somes same ∙ somes_of ds

-- so small a history has room for each of their commits
pub made_history : MadeAreKept
made_history n H rss range named sessions own client low high =
    same_somes (commits_by client H) (map (commit_of client) (items_by n client)) (sym mine.own ∙ tells)
  where
    each : (k : ℕ) → 1 ≤ k → k ≤ n.clients → IsClient n H k
    each k l h = client_of n H 1 n.clients rss sessions own k l (omega arith)

    small : weights H ≤ 64 * 6000
    small =
        let clients = range.few_clients in
        let light = all_light n.clients 6000 H named (λ k l h. client_light n H k range.few_rounds (each k l h)) in
        omega (arith, light, clients)

    few_commits : length H < commit_limit
    few_commits = let size = weights_are H in omega (arith, small, size)

    few_writes : writes_in H + 1 < 2 ^ 36
    few_writes = let size = weights_are H in omega (arith, small, size)

    few_clients : client ≤ 64
    few_clients = let clients = range.few_clients in omega (arith, high, clients)

    mine : IsClient n H client
    mine = each client low high

    items : List Item
    items = items_by n client

    tells : map (commit_at H) (printed mine.replies) ≡ map Some (map (commit_of client) items)
    tells =
        let puts = are_ever_put H n.number client ((client - 1) * n.count) n.count few_clients in
        rounds_told made_schema H client few_commits few_writes 0 items mine.replies at_start mine.session.0
        puts refl mine.session.1
