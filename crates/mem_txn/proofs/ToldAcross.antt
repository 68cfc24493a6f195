-- What a commit's log tells whoever holds a watch.
use Rattle.std.proofs.Common.{◌≡◌, ◌∙◌, ◌≤◌, ℕ, List, [], ◌∷◌, length, slice_get, Contains, inl, inr, refl, sym, ap, subst, arith}
use mathlib.Core.List.{IsPrefix}
use Rattle.mdb_datum.proofs.ListPlaces.{there_within}
use Rattle.mdb_schema.specs.Answer.{ask}
use Rattle.mdb_schema.specs.History.{History, state_at}
use Rattle.mdb_schema.specs.Schema.{DbSchema}
use Rattle.mdb_schema.proofs.Membership.{Contains-cons_cases, Contains-nil}
use Rattle.mem_txn.specs.CellHistory.{Forest, cell_at, forest_or_none, question_cell}
use Rattle.mem_txn.specs.Checked.{IsBeginning}
use Rattle.mem_txn.specs.Database.{AreIn, AreOf, Caller, Database, HaveSeenTrees, cells_seen}
use Rattle.mem_txn.specs.Told.{TellsWhoeverHolds}
use Rattle.mem_txn.proofs.HeldAlong.{at_prefix, held_longer, prefix_twice, state_longer}

-- ---- one pass of the list

seen_of : (H : History) (ps : List Caller) (p : Caller) → AreIn H ps → Contains ps p → IsPrefix p.seen H
seen_of H [] p own within = absurd (Contains-nil p within)
seen_of H (first ∷ ps) p own within = elim (Contains-cons_cases first ps p within) [
  | inl is ↦ subst (λ (c : Caller). IsPrefix c.seen H) is own.1
  | inr rest ↦ seen_of H ps p own.2 rest
]

trees_of : (trees : List Forest) (ps : List Caller) (p : Caller) → HaveSeenTrees trees ps → Contains ps p → IsPrefix p.trees trees
trees_of trees [] p seen within = absurd (Contains-nil p within)
trees_of trees (first ∷ ps) p seen within = elim (Contains-cons_cases first ps p within) [
  | inl is ↦ subst (λ (c : Caller). IsPrefix c.trees trees) is seen.0
  | inr rest ↦ trees_of trees ps p seen.1 rest
]

schema_of : (db : Database) (ps : List Caller) (p : Caller) → AreOf db ps → Contains ps p → p.schema ≡ db.schema
schema_of db [] p own within = absurd (Contains-nil p within)
schema_of db (first ∷ ps) p own within = elim (Contains-cons_cases first ps p within) [
  | inl is ↦ subst (λ (c : Caller). c.schema ≡ db.schema) is own.0.1
  | inr rest ↦ schema_of db ps p own.1 rest
]

-- ---- the law

pub tells_whoever_holds : TellsWhoeverHolds
tells_whoever_holds db ps J whole p q made in_p in_q begins complete log tells h held asked changed =
    let v = h.number in
    let K = cells_seen made in
    -- the history with the words of the pass that holds the watch
    let all : Caller = record q { seen = J.commits; trees = J.trees } in
    let from_q : IsBeginning q all = record { schema = refl; book = refl; seen = seen_of J.commits ps q whole.own in_q; trees = trees_of J.trees ps q whole.trees in_q } in
    let here = held_longer all q h from_q held in
    let seen : IsPrefix made.seen J.commits = prefix_twice made.seen p.seen J.commits begins.seen (seen_of J.commits ps p whole.own in_p) in
    let trees : IsPrefix made.trees J.trees = prefix_twice made.trees p.trees J.trees begins.trees (trees_of J.trees ps p whole.trees in_p) in
    let made_schema : made.schema ≡ db.schema = sym begins.schema ∙ schema_of db ps p whole.passes in_p in
    let same_q : q.schema ≡ made.schema = schema_of db ps q whole.passes in_q ∙ sym made_schema in
    let same_j : J.schema ≡ made.schema = whole.schema ∙ sym made_schema in
    let state : (j : ℕ) → j ≤ length made.seen → (s : DbSchema) → s ≡ made.schema → state_at s J.commits j ≡ state_at made.schema made.seen j = λ j few s is.
    ap (λ (x : DbSchema). state_at x J.commits j) is ∙ state_longer made.schema made.seen J.commits j seen few in
    -- the cell is the question's in what the committing pass had seen
    let there = there_within made.trees v (omega (arith, complete, asked)) in
    let forest : slice_get J.trees v ≡ slice_get made.trees v = at_prefix made.trees J.trees v there.0 trees there.1 ∙ sym there.1 in
    let cells : cell_at (cells_seen all) h.query v ≡ cell_at K h.query v = λ i. question_cell (same_q i) (state v asked q.schema same_q i) (forest_or_none (forest i)) h.query in
    -- and so is its answer
    let answer : (j : ℕ) → j ≤ length made.seen → ask J.schema (state_at J.schema J.commits j) h.query ≡ ask made.schema (state_at made.schema made.seen j) h.query = λ j few.
    λ i. ask (same_j i) (state j few J.schema same_j i) h.query in
    tells h.query v h.spot.watch asked (sym cells ∙ here.cell)
    (λ guarded. changed (λ j from to. answer j to ∙ (guarded j from to ∙ sym (answer v asked))))
