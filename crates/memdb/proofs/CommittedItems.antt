-- The commits of the clients as rows, each with the number of its client, and the table after them.
use Rattle.std.proofs.Common.{◌≡◌, ◌∙◌, ◌<◌, ◌≤◌, ◌==◌, ℕ, List, [], ◌∷◌, map, filter, Bool, true, false, cond, codes, Option, Some, Contains, arith, refl, sym, ap, subst, inl, inr}
use Rattle.std.proofs.lemmas.Bool.{eq-eqb}
use Rattle.mdb_datum.specs.Doc.{Doc, text, member}
use Rattle.mdb_datum.specs.Row.{Fields}
use Rattle.mdb_encode.specs.Bytes.{Bytes}
use Rattle.mdb_schema.specs.History.{Commit, History, state_or, after_writes, after_commits}
use Rattle.mdb_schema.specs.State.{State}
use Rattle.mdb_schema.specs.Write.{Write, put, remove, Stepped}
use Rattle.mdb_schema.proofs.Membership.{Contains-nil, Contains-first, Contains-later, Contains-cons_cases, Contains-from_map, Contains-filter}
use Rattle.mem_txn.specs.Database.{AreNamed, commits_by}
use Rattle.memdb.specs.Made.{Numbers, AreInRange, Item, items_by}
use Rattle.memdb.specs.inner.MadeInputs.{made_schema, age_in}
use Rattle.memdb.proofs.MadeHistory.{commit_of, HasMadeItems}
use Rattle.memdb.proofs.MadeItem.{IsItem}
use Rattle.memdb.proofs.ClientItems.{Tagged, items_of, is_of, tag, AreOf}
use Rattle.memdb.proofs.ItemTotals.{AreMade, after_items}
use Rattle.memdb.proofs.MadeNames.{items_by-by}
use Rattle.memdb.proofs.MadeStep.{is_item, step_item}

-- ---- a commit as a row

abbrev row_written : List Write → Fields
row_written [] = []
row_written (put name row ∷ ws) = row
row_written (remove name row ∷ ws) = row

abbrev name_told : Option Doc → Bytes
name_told (Some (text s)) = s
name_told d = []

abbrev item_written : List Write → Item
item_written ws = record { name = name_told (member (codes "name") (row_written ws)); age = age_in (row_written ws) }

abbrev pub told : Commit → Tagged
told c = (c.caller, item_written c.writes)

abbrev pub all_told : History → List Tagged
all_told H = map told H

-- ---- the rows of each client

filter-told : (client : ℕ) (H : History) → filter (is_of client) (all_told H) ≡ all_told (commits_by client H)
filter-told client [] = refl
filter-told client (c ∷ H) = of (c.caller == client) (filter-told client H)
  where
    of : (b : Bool) → filter (is_of client) (all_told H) ≡ all_told (commits_by client H)
        → cond b (told c ∷ filter (is_of client) (all_told H)) (filter (is_of client) (all_told H))
        ≡ all_told (cond b (c ∷ commits_by client H) (commits_by client H))
    of true later = ap (λ (l : List Tagged). told c ∷ l) later
    of false later = later

told-made : (client : ℕ) (xs : List Item) → all_told (map (commit_of client) xs) ≡ map (tag client) xs
told-made client [] = refl
told-made client (x ∷ xs) = ap (λ (l : List Tagged). (client, x) ∷ l) (told-made client xs)

caller_named : (n : ℕ) (H : History) (c : Commit) → AreNamed n H → Contains H c → (0 < c.caller) × (c.caller ≤ n)
caller_named n [] c named h = absurd (Contains-nil c h)
caller_named n (d ∷ H) c named h = elim (Contains-cons_cases d H c h) [
  | inl same ↦ subst (λ (z : Commit). (0 < z.caller) × (z.caller ≤ n)) same (named.0, named.1)
  | inr later ↦ caller_named n H c named.2 later
]

pub told_are : (n : Numbers) (H : History) → AreNamed n.clients H → HasMadeItems n H → AreOf n 1 n.clients (all_told H)
told_are n H named has = record {
  tags = λ p h.
      let w = Contains-from_map told H p h in
      let caller : w.0.caller ≡ p.0 = ap (λ (q : Tagged). q.0) w.2 in
      let range = caller_named n.clients H w.0 named w.1 in
      let least = range.0 in
      let most = range.1 in
      (omega arith, omega arith);
  own = λ client least most.
      filter-told client H ∙ ap all_told (has client least (omega arith)) ∙ told-made client (items_by n client);
}

-- ---- each commit is a row's

-- the commit puts a made row, and nothing else
pub record Puts (c : Commit) : Type 0 where
  pub item : Item
  pub made : IsItem item
  pub is : commit_of c.caller item ≡ c

pub each_puts : (n : Numbers) (H : History) → AreInRange n → AreNamed n.clients H → HasMadeItems n H
    → (c : Commit) → Contains H c → Puts c
each_puts n H range named has c h =
    let within = caller_named n.clients H c named h in
    let least = within.0 in
    let most = within.1 in
    let few = range.few_clients in
    let kept = Contains-filter (λ (d : Commit). d.caller == c.caller) H c h (eq-eqb c.caller c.caller refl) in
    let there = subst (λ (l : List Commit). Contains l c) (has c.caller (omega arith) most) kept in
    let w = Contains-from_map (commit_of c.caller) (items_by n c.caller) c there in
    let by = items_by-by n c.caller w.0 w.1 in
    record {
      item = w.0;
      made = subst IsItem (sym by.1) (is_item c.caller by.0 (omega arith));
      is = w.2;
    }

-- the row that is told is that one
told_item : (c : Commit) (puts : Puts c) → (told c).1 ≡ puts.item
told_item c puts = ap (λ (d : Commit). (told d).1) (sym puts.is)

pub told_made : (H : History) → ((c : Commit) → Contains H c → Puts c) → AreMade (items_of (all_told H))
told_made [] puts = tt
told_made (c ∷ H) puts =
    let first = puts c (Contains-first c H) in
    (subst IsItem (sym (told_item c first)) first.made, told_made H (λ d h. puts d (Contains-later c H d h)))

-- ---- the table after them

after_one : (rows : List Fields) (c : Commit) → Puts c
    → after_writes made_schema (rows ∷ []) c.writes ≡ after_items rows ((told c).1 ∷ []) ∷ []
after_one rows c puts =
    subst (λ (d : Commit). after_writes made_schema (rows ∷ []) d.writes ≡ after_items rows ((told d).1 ∷ []) ∷ [])
    puts.is
    (ap (λ (r : Stepped). state_or (rows ∷ []) r) (step_item rows puts.item puts.made))

pub after_told : (rows : List Fields) (H : History) → ((c : Commit) → Contains H c → Puts c)
    → after_commits made_schema (rows ∷ []) H ≡ after_items rows (items_of (all_told H)) ∷ []
after_told rows [] puts = refl
after_told rows (c ∷ H) puts =
    ap (λ (s : State). after_commits made_schema s H) (after_one rows c (puts c (Contains-first c H)))
    ∙ after_told (after_items rows ((told c).1 ∷ [])) H (λ d h. puts d (Contains-later c H d h))
