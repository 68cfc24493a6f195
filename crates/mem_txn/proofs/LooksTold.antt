-- What a check finds tells what it promises.
use Rattle.std.proofs.Common.{◌≡◌, ◌∙◌, ◌+◌, ◌-◌, ◌≤◌, ◌++◌, ℕ, zero, suc, List, [], ◌∷◌, length, map, slice_get, Bool, Option, Some, None, true, false, inl, inr, refl, sym, ap, subst, arith}
use Rattle.std.specs.Prelude.{IfNone, IfSome}
use mathlib.Core.Logic.{dite}
use native.Mathlib.Decide.{dec_le}
use Rattle.db_front.specs.Commits as front
use Rattle.db_front.specs.Passes.{AllOrAllButLast, Known}
use Rattle.mdb_schema.specs.Guarded.{IsGuarded}
use Rattle.mdb_schema.specs.History.{Commit, IsMadeBy}
use Rattle.table_index.specs.Watched.{is_watchable}
use Rattle.watch_word.specs.Logs.{Cell, IsLater, Log, has_fired}
use Rattle.mem_txn.specs.CellHistory.{HasFirings, WatchesHold, asked_in, cell_at, question_cell, state_after, table_in, trees_after}
use Rattle.mem_txn.specs.Checked.{HasHeard, IdsTellCells, IsFired, IsHeldBy, IsLate, IsQuiet, IsLookAt, number_of}
use Rattle.mem_txn.specs.Database.{Caller, cells_seen, view_seen}
use Rattle.mem_txn.specs.Held.{HeldWatch}
use Rattle.mem_txn.specs.declared.look.Look.{Look}
use Rattle.mem_txn.specs.declared.look.Look.TheVariants as look
use Rattle.mem_txn.specs.inner.Looks.{Finds}
use Rattle.mem_txn.specs.inner.Steps.{HasLastFirings}
use Rattle.mem_txn.specs.inner.Values.{ViewWithTrees}
use Rattle.mem_txn.specs.inner.Versions.{IsBegun, Version, Versions, caller_of, entry_of, history_in}
use Rattle.mem_txn.proofs.AlongHistory.{watched_if}
use Rattle.mem_txn.proofs.HeardAlong.{fewer, later_has}
use Rattle.mem_txn.proofs.HeldAlong.{held_asked, spot_again}
use Rattle.mem_txn.proofs.OneHistory.{history_length}
use Rattle.mem_txn.proofs.StepsAlong.{firings_seen}

-- ---- what is told

-- the state that a caller has seen, with its trees
abbrev pub shown_to : Caller → ViewWithTrees
shown_to p = record { view = view_seen p; trees = trees_after (cells_seen p) (length p.seen) }

module _ (p : Caller) (h : HeldWatch) (held : IsHeldBy p h) (holds : WatchesHold (cells_seen p)) where
  -- a question whose cell isn't in a log of firings has the same answer after each of the commits
  guard : (n : ℕ) (log : Log) → n ≤ length p.seen → HasFirings (cells_seen p) n log → has_fired h.spot.watch log ≡ false → IsGuarded p.schema p.seen h.query h.number n
  guard n log few has quiet =
      dite (dec_le h.number n)
      (λ low. (holds h.query h.number n h.spot.watch low few held.cell (λ j from to fires. let told = has j to h.spot.watch fires in (let wrong : false ≡ true = sym quiet ∙ told in cc))).1)
      (λ high j from to. absurd (omega (arith, high, from, to)))

  quiet_told : (at : ℕ) → at ≡ length p.seen → HasHeard p → has_fired h.spot.watch p.log ≡ false → IsQuiet p h at
  quiet_told at all heard quiet =
      let fired : HasFirings (cells_seen p) (at - 1) p.log = subst (λ (n : ℕ). HasFirings (cells_seen p) (n - 1) p.log) (sym all) heard.fired in
      let own : IsMadeBy p.seen p.number at → HasFirings (cells_seen p) at p.log = subst (λ (n : ℕ). IsMadeBy p.seen p.number n → HasFirings (cells_seen p) n p.log) (sym all) heard.fired_own in
      record {
        quiet = quiet;
        fired = fired;
        fired_own = own;
        unchanged = record {
          before_last = guard (at - 1) p.log (omega (arith, all)) fired quiet;
          own = λ o. guard at p.log (omega (arith, all)) (own o) quiet;
        };
      }

  fired_told : (at : ℕ) (c : Cell) → at ≡ length p.seen → has_fired h.spot.watch p.log ≡ true → cell_at (cells_seen p) h.query at ≡ Some c → (c ≡ h.spot.watch → ⊥) → IsFired p h at
  fired_told at c all fired there differs =
      let J = cells_seen p in
      let other : cell_at J h.query at ≡ Some h.spot.watch → ⊥ = λ e. (let both : Some c ≡ Some h.spot.watch = sym there ∙ e in differs cc) in
      let low : h.number ≤ at = omega (arith, all, held.seen) in
      record {
        later = dite (dec_le at h.number)
            (λ high. let same : at ≡ h.number = omega (arith, low, high) in absurd (other (ap (cell_at J h.query) same ∙ held.cell)))
            (λ less. omega (arith, less));
        log = fired;
        other = other;
        fired = λ none. other (holds h.query h.number at h.spot.watch low (omega (arith, all)) held.cell none).0;
      }

  -- ---- the cell that is found there

  -- the watch of the same question at the end
  abbrev there_now : Cell → HeldWatch
  there_now c =
      let s = h.spot in
      record { query = h.query; spot = record { index = s.index; key = s.key; exact = s.exact; watch = c }; number = length p.seen }

  -- is held
  now_held : (c : Cell) → cell_at (cells_seen p) h.query (length p.seen) ≡ Some c → c.book ≡ p.book → IsHeldBy p (there_now c)
  now_held c there book =
      let J = cells_seen p in
      let q = h.query in
      let n = length p.seen in
      let found = table_in p.schema (state_after J n) (trees_after J n) q.table in
      let w = watched_if (is_watchable q.ask) (asked_in q found) c there in
      record {
        seen = omega arith;
        looked = spot_again p.schema (state_after J n) (trees_after J n) q h.spot (held_asked p h held) c w.1;
        cell = there;
        book = book;
      }

  -- where it has the id of the watch's cell it is that cell
  late_told : IdsTellCells p → (c : Cell) → has_fired h.spot.watch p.log ≡ true → cell_at (cells_seen p) h.query (length p.seen) ≡ Some c → c.book ≡ p.book → c.id ≡ h.spot.watch.id → IsLate p h
  late_told ids c fired there book same = record {
    log = fired;
    same = let one = ids (there_now c) h (now_held c there book) held same in there ∙ ap (λ (d : Cell). Some d) one.cell;
  }

  module _ (heard : HasHeard p) (v : ViewWithTrees) (shown : v ≡ shown_to p) (fired : Bool) (is : fired ≡ has_fired h.spot.watch p.log) where
    -- the cell that a state has is the question's after all commits
    at_end : (c : Cell) → question_cell v.view.schema v.view.state v.trees h.query ≡ Some c → cell_at (cells_seen p) h.query (length p.seen) ≡ Some c
    at_end c there = subst (λ (w : ViewWithTrees). question_cell w.view.schema w.view.state w.trees h.query ≡ Some c) shown there

    -- its number is that of all commits
    all_of : (at : ℕ) → at ≡ v.view.number → at ≡ length p.seen
    all_of at number = number ∙ ap (λ (w : ViewWithTrees). w.view.number) shown

    -- what is found is told
    pub found_told : (o : Option Look) → Finds v fired h o → IfSome o (λ l. (number_of l ≡ length p.seen) × IsLookAt p h l)
    found_told None found = tt
    found_told (Some (look.Quiet at)) found = let all = all_of at found.0 in (all, quiet_told at all heard (sym is ∙ found.1))
    found_told (Some (look.Fired at)) found =
        let all = all_of at found.0 in (
          all,
          fired_told at found.2 all (sym is ∙ found.1) (ap (cell_at (cells_seen p) h.query) all ∙ at_end found.2 found.3) found.4,
        )

    -- and where nothing is, the watch is late
    pub found_late : IdsTellCells p → ((c : Cell) → question_cell v.view.schema v.view.state v.trees h.query ≡ Some c → c.book ≡ p.book) → (o : Option Look) → Finds v fired h o → IfNone o (IsLate p h)
    found_late ids book None found = late_told ids found.1 (sym is ∙ found.0) (at_end found.1 found.2) (book found.1 found.2) found.3
    found_late ids book (Some l) found = tt

-- ---- the log that is shown

-- the last commit of a list, by its caller
last_by : (es : Versions) (n : ℕ) (commit : Commit) → slice_get (map entry_of es) n ≡ Some commit → length es ≡ suc n → (r : Versions) × (x : Version) × (es ≡ r ++ (commit.caller, x) ∷ [])
last_by [] n commit there count = cc
last_by (e ∷ es) (suc n) commit there count = let rest = last_by es n commit there (omega (arith, count)) in (e ∷ rest.0, rest.1, ap (λ (fs : Versions). e ∷ fs) rest.2)
last_by (e ∷ []) zero commit there count = let same : entry_of e ≡ commit = cc in ([], e.1, λ i. ((same i).caller, e.1) ∷ [])
last_by (e ∷ f ∷ es) zero commit there count = absurd (omega (arith, count))

-- it is the caller's own where it is told so
own_last : (h : Versions) (p : Caller) (at : ℕ) → IsBegun h → p.seen ≡ history_in h → at + 1 ≡ length h → IsMadeBy p.seen p.number at → front.IsLastOf p.number h
own_last [] p at begun seen count own = absurd begun
own_last (e ∷ es) p at begun seen count own =
    let counted = own.0 in
    let there : slice_get (map entry_of es) (at - 1) ≡ Some own.1 = subst (λ (cs : List Commit). slice_get cs (at - 1) ≡ Some own.1) seen own.2 in
    let last = last_by es (at - 1) own.1 there (omega (arith, count, counted)) in
    (e ∷ last.0, last.1, ap (λ (fs : Versions). e ∷ fs) last.2 ∙ ap (λ (c : ℕ). e ∷ (last.0 ++ (c, last.1) ∷ [])) own.3)

-- a caller that keeps a log later than the one that is shown has heard
pub log_shown : (k : Known Version) (number finished : ℕ) (log later : Log) → IsBegun k.seen → number + 1 ≡ length k.seen → AllOrAllButLast finished number → front.HasFirstFirings HasLastFirings finished k.seen log → (front.IsLastOf k.number k.seen → finished ≡ number) → IsLater log later → HasHeard (caller_of (record k { log = later }))
log_shown k number finished log later begun count or has own is =
    let J = cells_seen (caller_of k) in
    let n = length (history_in k.seen) in
    let commits = history_length k.seen begun in
    let few : finished ≤ number = elim or [
      | inl same ↦ omega (arith, same)
      | inr less ↦ omega (arith, less)
    ] in
    let low : n - 1 ≤ finished = elim or [
      | inl same ↦ omega (arith, same, commits, count)
      | inr less ↦ omega (arith, less, commits, count)
    ] in
    let all : HasFirings J finished later = later_has J finished log later is (firings_seen k finished log (omega (arith, count, few)) has) in
    record {
      fired = fewer J (n - 1) finished later low all;
      fired_own = λ o. let last = own (own_last k.seen (caller_of k) n begun refl commits o) in fewer J n finished later (omega (arith, last, commits, count)) all;
    }
