-- A check of a watch in the state that a pass has read.
use Rattle.std.proofs.Common.{◌≡◌, ◌∙◌, Bool, Option, length, sym, ap, subst}
use Rattle.std.specs.Prelude.{IfNone, IfSome}
use Rattle.db_front.specs.Passes.{Known}
use Rattle.watch_word.specs.Logs.{Cell, IsLater, Log, has_fired}
use Rattle.mem_txn.specs.Checked.{HasHeard, Hears, IsHeldBy, IsLate, IsLookAt, number_of}
use Rattle.mem_txn.specs.Database.{Caller, Reading, reading_of}
use Rattle.mem_txn.specs.Held.{HeldWatch}
use Rattle.mem_txn.specs.declared.look.Look.{Look}
use Rattle.mem_txn.specs.inner.Looks.{CellsAreOfBook, Finds}
use Rattle.mem_txn.specs.inner.Values.{ViewWithTrees}
use Rattle.mem_txn.specs.inner.Versions.{IsToken, Version, caller_of}
use Rattle.mem_txn.proofs.AlongHistory.{watches_hold}
use Rattle.mem_txn.proofs.HeardAlong.{heard_later, held_heard}
use Rattle.mem_txn.proofs.LooksTold.{found_late, found_told, shown_to}
use Rattle.mem_txn.proofs.OneHistory.{hears_of, token_kept}
use Rattle.mem_txn.proofs.OneIdOneCell.{ids_tell}
use Rattle.mem_txn.proofs.StepsAlong.{book_is}

-- the watch is of the log's book
pub watch_book : (k : Known Version) → IsToken 0 k → (h : HeldWatch) → IsHeldBy (caller_of k) h → h.spot.watch.book ≡ k.log.book
watch_book k token h held = held.book ∙ sym (book_is k.seen k.log.book token.log)

module _ (old new : Known Version) (token : IsToken 0 old) {p : Caller} (view : caller_of old ≡ p) {log : Log} (is_log : log ≡ old.log)
    (front : Log) (kept : new ≡ record old { log = front }) (after : IsLater log front) (h : HeldWatch) (held : IsHeldBy p h) where
  later : IsLater old.log front
  later = subst (λ (l : Log). IsLater l front) is_log after

  -- the log that is kept
  is_kept : new.log ≡ front
  is_kept = ap (λ (k : Known Version). k.log) kept

  keeps_its_log : new ≡ record old { log = new.log }
  keeps_its_log = kept ∙ ap (λ (l : Log). let k : Known Version = record old { log = l } in k) (sym is_kept)

  keeps_later : IsLater old.log new.log
  keeps_later = subst (IsLater old.log) (sym is_kept) later

  -- the pass then has heard more
  pub check_hears : Hears (caller_of old) (caller_of new)
  check_hears = hears_of old new keeps_its_log keeps_later

  pub check_token : IsToken 0 new
  check_token = token_kept 0 old new token keeps_its_log keeps_later

  module _ (heard : HasHeard p) where
    pub check_heard : HasHeard (caller_of new)
    check_heard = heard_later (caller_of old) (caller_of new) check_hears (subst HasHeard (sym view) heard)

    module _ (r : Reading) (reads : r ≡ reading_of p) (fired : Bool) {watch : Cell} (watches : watch ≡ h.spot.watch)
        (is : fired ≡ has_fired watch front)
        {seen : ViewWithTrees} (sees : seen ≡ record { view = r.view; trees = r.trees }) (o : Option Look)
        (finds : Finds seen fired h o) where
      read : r ≡ reading_of (caller_of old)
      read = reads ∙ ap reading_of (sym view)

      found : Finds (record { view = r.view; trees = r.trees }) fired h o
      found = subst (λ (v : ViewWithTrees). Finds v fired h o) sees finds

      -- the state is the one that it has seen
      abbrev shown : ViewWithTrees
      shown = record { view = r.view; trees = r.trees }

      is_shown : shown ≡ shown_to (caller_of new)
      is_shown =
          ap (λ (x : Reading). let v : ViewWithTrees = record { view = x.view; trees = x.trees } in v) read
          ∙ ap (λ (k : Known Version). shown_to (caller_of k)) (sym kept)

      fired_now : fired ≡ has_fired h.spot.watch new.log
      fired_now = is ∙ ap (λ (w : Cell). has_fired w front) watches ∙ ap (has_fired h.spot.watch) (sym is_kept)

      held_now : IsHeldBy (caller_of new) h
      held_now = held_heard (caller_of old) (caller_of new) h check_hears (subst (λ (q : Caller). IsHeldBy q h) (sym view) held)

      -- what is found is told
      pub check_told : IfSome o (λ l. (number_of l ≡ length (caller_of new).seen) × IsLookAt (caller_of new) h l)
      check_told =
          found_told (caller_of new) h held_now (watches_hold new check_token.begun check_token.steps) check_heard shown is_shown fired fired_now o found

      -- where nothing is found the watch is late
      pub check_late : CellsAreOfBook r → IfNone o (IsLate (caller_of new) h)
      check_late books =
          let book : r.book ≡ (caller_of new).book = ap (λ (x : Reading). x.book) read ∙ ap (λ (k : Known Version). (caller_of k).book) (sym kept) in
          found_late (caller_of new) h held_now (watches_hold new check_token.begun check_token.steps) check_heard shown is_shown fired fired_now (ids_tell new check_token.begun check_token.steps) (λ c there. books h.query c there ∙ book) o found
