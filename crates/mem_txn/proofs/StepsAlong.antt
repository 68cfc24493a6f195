-- Lists of values, each made of the one before it, and the logs that have what their commits fire.
use Rattle.std.proofs.Common.{◌≡◌, ◌∙◌, ◌+◌, ◌-◌, ◌^◌, ◌<◌, ◌≤◌, ◌++◌, ◌⊎◌, ℕ, zero, suc, List, [], ◌∷◌, Some, None, true, inl, inr, ⊎_elim, length, map, take, slice_get, option_map, sym, ap, refl, subst, arith}
use Rattle.std.specs.Prelude.{All}
use mathlib.Core.List.{IsPrefix}
use mathlib.Core.Logic.{dite}
use native.Mathlib.Decide.{dec_le}
use Rattle.std.proofs.lemmas.List.{length-append, length-take-le, take_all, take-append-le}
use Rattle.std.proofs.lemmas.List.Elements.{All-contains}
use Rattle.std.proofs.lemmas.Option.{slice_get-map, slice_get_past}
use Rattle.mdb_datum.proofs.ListPlaces.{there_within}
use Rattle.db_front.specs.Commits as front
use Rattle.db_front.specs.Passes.{Known}
use Rattle.db_front.specs.Passes as front_passes
use Rattle.mdb_schema.specs.History.{Commit, after_writes, state_at, writes_in}
use Rattle.mdb_schema.specs.Schema.{DbSchema}
use Rattle.mdb_schema.proofs.Membership.{Contains-slice_get}
use Rattle.notify_walk.specs.Fired.{HaveFired}
use Rattle.notify_walk.proofs.Firings.{still_fired}
use Rattle.radix_node.specs.Cells as trees
use Rattle.radix_node.specs.Ids.{Book, Counter}
use Rattle.radix_node.specs.Paths.{Has}
use Rattle.radix_node.proofs.OneBook.{all_are, each_is}
use Rattle.table_index.specs.Watched.{HoldsRows}
use Rattle.watch_word.specs.Logs.{Cell, IsLater, Log, has_fired}
use Rattle.mem_txn.specs.CellHistory as cells
use Rattle.mem_txn.specs.CellHistory.{FiresIn, forest_or_none, trees_after}
use Rattle.mem_txn.specs.Database.{AreOf, Database, Reading, View, cells_seen, reading_after, reading_of, view_after}
use Rattle.mem_txn.specs.inner.Commits.{IsNext}
use Rattle.mem_txn.specs.inner.Firing.{AreGone}
use Rattle.mem_txn.specs.inner.Steps.{AreSteps, HasLastFirings, IsStep, tables_of}
use Rattle.mem_txn.specs.inner.VersionTables.{AreAllWithin, AreWithin}
use Rattle.mem_txn.specs.inner.Versions.{AreFew, AreTokens, Forest, IsBegun, IsBookOf, StandsFor, Version, Versions, book_in, caller_of, history_in, opening, schema_in}
use Rattle.mem_txn.proofs.OneHistory.{begun_longer, book_longer, book_of_all, history_length, next_in, schema_longer, schema_of_all, trees_in, whole_of}
use Rattle.mem_txn.proofs.StatesAfter.{state_seen-more}
use Rattle.mdb_schema.proofs.HistorySteps.{writes_in-more}

-- ---- places in a list with one item more

module _ {X : Type 0} where
  -- the items before the new one stay at their places
  pub at_before : (xs : List X) (x : X) (n : ℕ) → n < length xs → slice_get (xs ++ x ∷ []) n ≡ slice_get xs n
  at_before [] x n less = absurd (omega (arith, less))
  at_before (y ∷ xs) x zero less = refl
  at_before (y ∷ xs) x (suc n) less = at_before xs x n (omega (arith, less))

  -- the new one is at the end
  pub at_last : (xs : List X) (x : X) → slice_get (xs ++ x ∷ []) (length xs) ≡ Some x
  at_last [] x = refl
  at_last (y ∷ xs) x = at_last xs x

  -- an item is one of those before, or the last
  pub before_or_last : (xs : List X) (x e : X) (n : ℕ) → slice_get (xs ++ x ∷ []) n ≡ Some e → ((n < length xs) × (slice_get xs n ≡ Some e)) ⊎ ((n ≡ length xs) × (e ≡ x))
  before_or_last [] x e zero there = inr (refl, cc)
  before_or_last [] x e (suc n) there = absurd (cc there)
  before_or_last (y ∷ xs) x e zero there = inl (omega arith, there)
  before_or_last (y ∷ xs) x e (suc n) there = ⊎_elim (λ p. inl (omega (arith, p.0), p.1)) (λ p. inr (omega (arith, p.0), p.1)) (before_or_last xs x e n there)

  -- a place without an item is past the end
  pub none_past : (xs : List X) (n : ℕ) → slice_get xs n ≡ None → length xs ≤ n
  none_past [] n none = omega arith
  none_past (x ∷ xs) zero none = absurd (cc none)
  none_past (x ∷ xs) (suc n) none = let rest = none_past xs n none in omega (arith, rest)

  -- the items of a beginning are at their places
  pub at_take : (n : ℕ) (xs : List X) (k : ℕ) → k < n → slice_get (take n xs) k ≡ slice_get xs k
  at_take zero xs k less = absurd (omega (arith, less))
  at_take (suc n) [] k less = refl
  at_take (suc n) (x ∷ xs) zero less = refl
  at_take (suc n) (x ∷ xs) (suc k) less = at_take n xs k (omega (arith, less))

  -- two items in a row are two of those before, or the last two
  pub two_in_a_row : (xs r : List X) (d x e f : X) (n : ℕ) → xs ≡ r ++ d ∷ [] → slice_get (xs ++ x ∷ []) n ≡ Some e → slice_get (xs ++ x ∷ []) (suc n) ≡ Some f
      → ((suc n < length xs) × (slice_get xs n ≡ Some e) × (slice_get xs (suc n) ≡ Some f)) ⊎ ((suc n ≡ length xs) × (e ≡ d) × (f ≡ x))
  two_in_a_row xs r d x e f n last first second = ⊎_elim
      (λ p. let less : suc n < length xs = p.0 in inl (less, sym (at_before xs x n (omega (arith, less))) ∙ first, p.1))
      (λ p. let count : suc n ≡ length xs = p.0 in
      let all : length xs ≡ length r + 1 = ap length last ∙ length-append r (d ∷ []) in
      let place : n ≡ length r = omega (arith, count, all) in
      let there : slice_get xs n ≡ Some d = ap (λ (ys : List X). slice_get ys n) last ∙ ap (slice_get (r ++ d ∷ [])) place ∙ at_last r d in
      let same : Some e ≡ Some d = sym first ∙ at_before xs x n (omega (arith, count)) ∙ there in
      let is : e ≡ d = cc in
      inr (count, is, p.1))
      (before_or_last xs x f (suc n) second)

-- ---- one value more

module _ (h : Versions) (c : ℕ) (v : Version) (begun : IsBegun h) where
  abbrev more : Versions
  more = h ++ (c, v) ∷ []

  -- the list is a beginning of the longer one
  longer : IsPrefix h more
  longer = ((c, v) ∷ [], refl)

  -- a value before the new one stands for the same commits
  view_more : (n : ℕ) (w : Version) → n < length h → w.view ≡ view_after (schema_in h) (take n (history_in h)) → w.view ≡ view_after (schema_in more) (take n (history_in more))
  view_more n w less is =
      let count = history_length h begun in
      let commit : Commit = record { caller = c; writes = v.writes } in
      let schema : schema_in more ≡ schema_in h = schema_longer h more begun longer in
      let list : take n (history_in more) ≡ take n (history_in h) = ap (take n) (next_in h c v begun) ∙ take-append-le n (history_in h) (commit ∷ []) (omega (arith, count, less)) in
      is ∙ (λ i. view_after (sym schema i) (sym list i))

  -- the new value stands for all of them
  view_last : v.view ≡ view_after (schema_in more) (history_in more) → (n : ℕ) → n ≡ length h → v.view ≡ view_after (schema_in more) (take n (history_in more))
  view_last is n count =
      let all = history_length more (begun_longer h more begun longer) in
      let longer_by = length-append h ((c, v) ∷ []) in
      is ∙ ap (view_after (schema_in more)) (sym (take_all n (history_in more) (omega (arith, all, longer_by, count))))

  module _ (r : Versions) (d : ℕ) (base : Version) (last : h ≡ r ++ (d, base) ∷ []) where
    -- the last value before the new one is at the end of the list
    base_at : slice_get h (length r) ≡ Some (d, base)
    base_at = ap (λ (g : Versions). slice_get g (length r)) last ∙ at_last r (d, base)

    -- a step more
    pub steps_more : AreSteps h → v.view ≡ view_after (schema_in more) (history_in more) → AreAllWithin v.ids v.trees → All HoldsRows (tables_of v) → IsStep base v → AreSteps more
    steps_more steps view within held step = record {
      views = λ n e there. ⊎_elim
          (λ p. view_more n e.1 p.0 (steps.views n e p.1))
          (λ p. ap (λ (x : ℕ × Version). x.1.view) p.1 ∙ view_last view n p.0)
          (before_or_last h (c, v) e n there);
      within = λ n e there. ⊎_elim
          (λ p. steps.within n e p.1)
          (λ p. subst (λ (x : ℕ × Version). AreAllWithin x.1.ids x.1.trees) (sym p.1) within)
          (before_or_last h (c, v) e n there);
      held = λ n e there. ⊎_elim
          (λ p. steps.held n e p.1)
          (λ p. subst (λ (x : ℕ × Version). All HoldsRows (tables_of x.1)) (sym p.1) held)
          (before_or_last h (c, v) e n there);
      books = λ n e there. ⊎_elim
          (λ p. book_longer h more e.1.ids.book (steps.books n e p.1) longer)
          (λ p. subst (λ (x : ℕ × Version). IsBookOf more x.1.ids.book) (sym p.1) (book_longer h more v.ids.book (subst (IsBookOf h) (sym step.book) (steps.books (length r) (d, base) base_at)) longer))
          (before_or_last h (c, v) e n there);
      steps = λ n e f first second. ⊎_elim
          (λ p. steps.steps n e f p.1 p.2)
          (λ p. subst (λ (x : ℕ × Version). IsStep x.1 f.1) (sym p.1) (subst (λ (x : ℕ × Version). IsStep base x.1) (sym p.2) step))
          (two_in_a_row h r (d, base) (c, v) e f n last first second);
    }

    -- a log that has what the new commit fires, of the book
    fired_last : (log : Log) → IsBookOf h log.book → ((cell : Cell) → FiresIn base.trees v.trees cell → has_fired cell log ≡ true) → HasLastFirings more log
    fired_last log of fired = record {
      of = book_longer h more log.book of longer;
      fired = λ n e f first second none cell fires. ⊎_elim
          (λ p. let past = none_past more (suc (suc n)) none in
          let count = length-append h ((c, v) ∷ []) in
          absurd (omega (arith, p.0, past, count)))
          (λ p. fired cell (subst (λ (x : ℕ × Version). FiresIn x.1.trees v.trees cell) p.1 (subst (λ (x : ℕ × Version). FiresIn e.1.trees x.1.trees cell) p.2 fires)))
          (two_in_a_row h r (d, base) (c, v) e f n last first second);
    }

    -- the same of each commit
    pub firings_more : (n : ℕ) (log : Log) → n + 1 ≡ length h → front.HasFirstFirings HasLastFirings n h log → IsBookOf h log.book → ((cell : Cell) → FiresIn base.trees v.trees cell → has_fired cell log ≡ true) → front.HasFirstFirings HasLastFirings (length more - 1) more log
    firings_more n log count has of fired k le =
        let longer_by = length-append h ((c, v) ∷ []) in
        dite (dec_le k n)
        (λ low. subst (λ (g : Versions). HasLastFirings g log) (sym (take-append-le (suc k) h ((c, v) ∷ []) (omega (arith, low, count)))) (has k low))
        (λ high. subst (λ (g : Versions). HasLastFirings g log) (sym (take_all (suc k) more (omega (arith, high, longer_by, count)))) (fired_last log of fired))

-- ---- the log

-- a later log has what one commit fires
fired_later : (h : Versions) (old new : Log) → IsLater old new → HasLastFirings h old → HasLastFirings h new
fired_later h old new later has = record {
  of = subst (IsBookOf h) (sym later.0) has.of;
  fired = λ n e f first second none c fires. still_fired c old new later (has.fired n e f first second none c fires);
}

-- what a log has, each later one has
pub firings_later : (n : ℕ) (h : Versions) (old new : Log) → IsLater old new → front.HasFirstFirings HasLastFirings n h old → front.HasFirstFirings HasLastFirings n h new
firings_later n h old new later has k le = fired_later (take (suc k) h) old new later (has k le)

-- the log is of the list's book
pub log_of : (n : ℕ) (h : Versions) (log : Log) → IsBegun h → front.HasFirstFirings HasLastFirings n h log → IsBookOf h log.book
log_of n [] log begun has = absurd begun
log_of n (e ∷ es) log begun has = let first : HasLastFirings (e ∷ []) log = has 0 (omega arith) in first.of

-- the trees after a commit are those of its value
trees_at : (h : Versions) (n : ℕ) (x : ℕ × Version) → slice_get h n ≡ Some x → forest_or_none (slice_get (trees_in h) n) ≡ x.1.trees
trees_at h n x there = ap forest_or_none (slice_get-map (λ (y : ℕ × Version). y.1.trees) h n ∙ ap (option_map (λ (y : ℕ × Version). y.1.trees)) there)

-- it has what the commits of a caller fire, as far as its list has them
pub firings_seen : (k : Known Version) (n : ℕ) (log : Log) → n + 1 ≤ length k.seen → front.HasFirstFirings HasLastFirings n k.seen log → cells.HasFirings (cells_seen (caller_of k)) n log
firings_seen k n log count has j less c fires =
    let h = k.seen in
    let e = there_within h j (omega (arith, less, count)) in
    let f = there_within h (suc j) (omega (arith, less, count)) in
    let here : HasLastFirings (take (suc (suc j)) h) log = has (suc j) (omega (arith, less)) in
    let first : slice_get (take (suc (suc j)) h) j ≡ Some e.0 = at_take (suc (suc j)) h j (omega arith) ∙ e.1 in
    let second : slice_get (take (suc (suc j)) h) (suc j) ≡ Some f.0 = at_take (suc (suc j)) h (suc j) (omega arith) ∙ f.1 in
    let size = length-take-le (suc (suc j)) h (omega (arith, less, count)) in
    let none : slice_get (take (suc (suc j)) h) (suc (suc j)) ≡ None = slice_get_past (take (suc (suc j)) h) (suc (suc j)) (omega (arith, size)) in
    here.fired j e.0 f.0 first second none c (subst (λ (t : Forest). FiresIn e.0.1.trees t c) (trees_at h (suc j) f.0 f.1) (subst (λ (t : Forest). FiresIn t (trees_after (cells_seen (caller_of k)) (suc j)) c) (trees_at h j e.0 e.1) fires))

-- ---- the value before the first commit

module _ (schema : DbSchema) (trees : Forest) (ids : Counter) (within : AreAllWithin ids trees) where
  abbrev first : Version
  first = opening schema trees ids

  -- the list has one value
  only : (n : ℕ) (e : ℕ × Version) → slice_get ((0, first) ∷ []) n ≡ Some e → (n ≡ 0) × (e ≡ (0, first))
  only zero e there = (refl, cc)
  only (suc n) e there = absurd (cc there)

  -- no steps so far
  pub steps_begin : All HoldsRows (tables_of first) → AreSteps ((0, first) ∷ [])
  steps_begin held = record {
    views = λ n e there. let is = only n e there in subst (λ (x : ℕ × Version). x.1.view ≡ view_after schema (take n [])) (sym is.1) (subst (λ (m : ℕ). first.view ≡ view_after schema (take m [])) (sym is.0) refl);
    within = λ n e there. subst (λ (x : ℕ × Version). AreAllWithin x.1.ids x.1.trees) (sym (only n e there).1) within;
    held = λ n e there. subst (λ (x : ℕ × Version). All HoldsRows (tables_of x.1)) (sym (only n e there).1) held;
    books = λ n e there. ap (λ (x : ℕ × Version). x.1.ids.book) (only n e there).1;
    steps = λ n e f here there. absurd (cc there);
  }

  -- the opening value stands for no commits
  pub opening_stands : All HoldsRows (tables_of first) → ids.next ≤ 2 ^ 11 → StandsFor ((0, first) ∷ []) first
  opening_stands held few = record {
    begun = refl;
    last = (0, [], refl);
    view = refl;
    book = refl;
    within = within;
    held = held;
    few = omega (arith, few);
    steps = steps_begin held;
  }

  -- any log of the book serves it
  pub opening_fired : (log : Log) → log.book ≡ ids.book → HasLastFirings ((0, first) ∷ []) log
  opening_fired log of = record { of = of; fired = λ n e f here there. absurd (cc there) }

-- ---- the value after one commit more

pub next_stands : (k : Known Version) (base v : Version) → StandsFor k.seen base → IsNext (record { caller = caller_of k; base = base }) v → StandsFor (k.seen ++ (k.number, v) ∷ []) v
next_stands k base v stands next =
    let h = k.seen in
    let begun = stands.begun in
    let c : Commit = record { caller = k.number; writes = v.writes } in
    let more : IsPrefix h (h ++ (k.number, v) ∷ []) = ((k.number, v) ∷ [], refl) in
    let schema : schema_in (h ++ (k.number, v) ∷ []) ≡ schema_in h = schema_longer h (h ++ (k.number, v) ∷ []) begun more in
    let list : history_in (h ++ (k.number, v) ∷ []) ≡ history_in h ++ c ∷ [] = next_in h k.number v begun in
    let count : length (history_in h) + 1 ≡ length (history_in h ++ c ∷ []) = sym (length-append (history_in h) (c ∷ [])) in
    let state : after_writes (schema_in h) (state_at (schema_in h) (history_in h) (length (history_in h))) v.writes ≡ state_at (schema_in h) (history_in h ++ c ∷ []) (length (history_in h ++ c ∷ [])) = sym (state_seen-more (schema_in h) (history_in h) c) in
    let seen : v.view ≡ view_after (schema_in h) (history_in h ++ c ∷ []) = next.view ∙ (λ i. let r : View = record { schema = schema_in h; number = count i; state = state i } in r) in
    let view : v.view ≡ view_after (schema_in (h ++ (k.number, v) ∷ [])) (history_in (h ++ (k.number, v) ∷ [])) = seen ∙ (λ i. view_after (sym schema i) (sym list i)) in
    let writes : writes_in (history_in h) + length v.writes ≡ writes_in (history_in (h ++ (k.number, v) ∷ [])) = sym (ap writes_in list ∙ writes_in-more (history_in h) c) in
    record {
      begun = begun_longer h (h ++ (k.number, v) ∷ []) begun more;
      last = (k.number, h, refl);
      view = view;
      book = book_longer h (h ++ (k.number, v) ∷ []) v.ids.book (subst (IsBookOf h) (sym next.step.book) stands.book) more;
      within = next.within;
      held = next.held;
      few = subst (λ (n : ℕ). AreFew n v.ids) writes next.few;
      steps = steps_more h k.number v begun stands.last.1 stands.last.0 base stands.last.2 stands.steps view next.within next.held next.step;
    }

-- ---- the cells that a commit fires

-- they are of the book of the trees that they left
pub gone_of : (ids : Counter) (old new : Forest) (told : List Cell) → AreAllWithin ids old → AreGone old new told → trees.AreCellsOf ids.book told
gone_of ids old new told within gone = all_are ids.book told (λ c h. fires_of c (gone.gone c h))
  where
    fires_of : (c : Cell) → FiresIn old new c → c.book ≡ ids.book
    fires_of c f =
        let here : AreWithin ids f.before = All-contains (AreWithin ids) old f.before within.within (Contains-slice_get old f.table f.before f.was) in
        let tree : trees.AreOf ids.book f.fires.before = All-contains (trees.AreOf ids.book) f.before f.fires.before here.of (Contains-slice_get f.before f.index f.fires.before f.fires.was) in
        each_is ids.book (trees.cells_of f.fires.before) tree c f.fires.fires.left

-- each cell of the list has fired
fired_each : (log : Log) (told : List Cell) → HaveFired log told → (c : Cell) → Has c told → has_fired c log ≡ true
fired_each log [] all c h = absurd h
fired_each log (d ∷ told) all c (inl same) = subst (λ (x : Cell). has_fired x log ≡ true) (sym same) all.0
fired_each log (d ∷ told) all c (inr h) = fired_each log told all.1 c h

-- what a commit fires has fired, where all that was told has
pub gone_fired : (log : Log) (old new : Forest) (told : List Cell) → AreGone old new told → HaveFired log told → (c : Cell) → FiresIn old new c → has_fired c log ≡ true
gone_fired log old new told gone all c fires = fired_each log told all c (gone.all c fires)

-- a list has one book
pub same_book : (h : Versions) (a b : Book) → IsBookOf h a → IsBookOf h b → a ≡ b
same_book [] a b of of' = absurd of
same_book (e ∷ es) a b of of' = of ∙ sym of'

-- it is the book that callers see
pub book_is : (h : Versions) (b : Book) → IsBookOf h b → b ≡ book_in h
book_is [] b of = absurd of
book_is (e ∷ es) b of = of

-- ---- what a caller reads

-- the trees of the value that stands for a list are the last
pub last_trees : (h : Versions) (v : Version) → StandsFor h v → v.trees ≡ forest_or_none (slice_get (trees_in h) (length (history_in h)))
last_trees h v stands =
    let c = stands.last.0 in
    let r = stands.last.1 in
    let all = history_length h stands.begun in
    let size : length h ≡ length r + 1 = ap length stands.last.2 ∙ length-append r ((c, v) ∷ []) in
    let place : length (history_in h) ≡ length r = omega (arith, all, size) in
    let there : slice_get h (length (history_in h)) ≡ Some (c, v) = ap (slice_get h) place ∙ ap (λ (g : Versions). slice_get g (length r)) stands.last.2 ∙ at_last r (c, v) in
    sym (trees_at h (length (history_in h)) (c, v) there)

-- the value that stands for what a caller has seen is what it reads
pub reads : (k : Known Version) (v : Version) → StandsFor k.seen v → record { view = v.view; trees = v.trees; book = v.ids.book } ≡ reading_of (caller_of k)
reads k v stands =
    let forest = last_trees k.seen v stands in
    λ i. let t : Reading = record { view = stands.view i; trees = forest i; book = book_is k.seen v.ids.book stands.book i } in t

-- when all passes are back, the value is what is read of the whole history
pub read_whole : (db : Database) (h : Versions) (ks : List (Known Version)) (v : Version) → 0 < length ks → AreTokens ks → AreOf db (map caller_of ks) → front_passes.AreIn h ks → StandsFor h v
    → record { view = v.view; trees = v.trees; book = v.ids.book } ≡ reading_after db (whole_of db h)
read_whole db h ks v some tokens own all stands =
    let schema = schema_of_all db h ks some tokens own all in
    let forest = last_trees h v stands in
    let book = book_is h v.ids.book stands.book ∙ book_of_all db h ks some tokens own all in
    let view : v.view ≡ view_after db.schema (history_in h) = stands.view ∙ ap (λ (s : DbSchema). view_after s (history_in h)) schema in
    λ i. let t : Reading = record { view = view i; trees = forest i; book = book i } in t

-- ---- the turn of a caller that makes a commit

module _ (k : Known Version) (base v : Version) (stands : StandsFor k.seen base) where
  -- the number of the value is that of all commits
  pub all_seen : base.view.number + 1 ≡ length k.seen
  all_seen = ap (λ (w : View). w.number + 1) stands.view ∙ history_length k.seen stands.begun

  module _ (k' : Known Version) (made : k'.seen ≡ k.seen ++ (k.number, v) ∷ []) (old new : Log) (told : List Cell) (has : front.HasFirstFirings HasLastFirings base.view.number k.seen old) (later : IsLater old new) (gone : AreGone base.trees v.trees told) (fired : HaveFired new told) where
    -- the log has what all commits fire
    pub turn_fires : front.HasFirstFirings HasLastFirings (length k'.seen - 1) k'.seen new
    turn_fires =
        let has' = firings_later base.view.number k.seen old new later has in
        subst (λ (h : Versions). front.HasFirstFirings HasLastFirings (length h - 1) h new) (sym made)
        (firings_more k.seen k.number v stands.begun stands.last.1 stands.last.0 base stands.last.2 base.view.number new all_seen has' (log_of base.view.number k.seen new stands.begun has')
        (gone_fired new base.trees v.trees told gone fired))

    -- the longer list has an opening value too
    begun_so : IsBegun k'.seen
    begun_so = subst IsBegun (sym made) (begun_longer k.seen (k.seen ++ (k.number, v) ∷ []) stands.begun ((k.number, v) ∷ [], refl))

    -- the same of what the caller has seen then
    pub turn_fires_seen : cells.HasFirings (cells_seen (caller_of k')) (length (history_in k'.seen)) new
    turn_fires_seen =
        let count = history_length k'.seen begun_so in
        let n : length k'.seen - 1 ≡ length (history_in k'.seen) = omega (arith, count) in
        firings_seen k' (length (history_in k'.seen)) new (omega (arith, count)) (subst (λ (m : ℕ). front.HasFirstFirings HasLastFirings m k'.seen new) n turn_fires)

    -- the log is of the caller's book
    pub turn_of_book : IsBookOf k'.seen new.book
    turn_of_book = log_of (length k'.seen - 1) k'.seen new begun_so turn_fires

    pub turn_book : new.book ≡ book_in k'.seen
    turn_book = book_is k'.seen new.book turn_of_book

-- so has the log of a turn of what its caller has seen
pub turn_heard : (k : Known Version) (base : Version) (log : Log) → StandsFor k.seen base → front.HasFirstFirings HasLastFirings base.view.number k.seen log → cells.HasFirings (cells_seen (caller_of k)) (length (history_in k.seen)) log
turn_heard k base log stands has =
    let all = all_seen k base base stands in
    subst (λ n. cells.HasFirings (cells_seen (caller_of k)) n log) (ap (λ (w : View). w.number) stands.view) (firings_seen k base.view.number log (omega (arith, all)) has)
