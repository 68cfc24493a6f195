-- What a pass has seen and heard once it has read a state and keeps the log that was shown.
use Rattle.std.proofs.Common.{◌≡◌, ◌∙◌, ℕ, sym, ap, subst}
use Rattle.db_front.specs.Commits as front
use Rattle.db_front.specs.Passes.{HasLooked, IsNumber, Known, TellsFinished}
use Rattle.watch_word.specs.Logs.{IsLater, Log}
use Rattle.mem_txn.specs.Checked.{HasHeard}
use Rattle.mem_txn.specs.Database.{HasRead, HasSeen, reading_of}
use Rattle.mem_txn.specs.inner.Steps.{HasLastFirings}
use Rattle.mem_txn.specs.inner.Versions.{IsBegun, IsToken, StandsFor, Version, caller_of}
use Rattle.mem_txn.proofs.HeardAlong.{heard_seen}
use Rattle.mem_txn.proofs.LooksTold.{log_shown}
use Rattle.mem_txn.proofs.OneHistory.{begun_longer, has_read, hears_of, looked, token_at, token_kept}
use Rattle.mem_txn.proofs.StepsAlong.{log_of, reads, same_book}

module _ (old mid : Known Version) (token : IsToken 0 old) (look : HasLooked old mid) (stood : (v : Version) × StandsFor mid.seen v) where
  -- after the look
  pub looked_token : IsToken 0 mid
  looked_token =
      token_at 0 old mid token look.seen 0 (ap (λ (k : Known Version). k.number) look.others) (ap (λ (k : Known Version). k.stage) look.others ∙ token.at) stood.1.steps (ap (λ (k : Known Version). k.log) look.others)

  pub looked_seen : HasSeen (caller_of old) (caller_of mid)
  looked_seen = looked old mid token look.others look.seen look.room look.counts

  begun : IsBegun mid.seen
  begun = begun_longer old.seen mid.seen token.begun look.seen

  module _ (number finished : ℕ) (log : Log) (is : IsNumber old mid number) (told : TellsFinished old mid number finished) (has : front.HasFirstFirings HasLastFirings finished mid.seen log) where
    -- the log that is shown is of its book
    pub shown_book : log.book ≡ mid.log.book
    shown_book = same_book mid.seen log.book mid.log.book (log_of finished mid.seen log begun has) looked_token.log

    module _ (new : Known Version) (kept : new ≡ record mid { log = new.log }) (later : IsLater mid.log new.log) (heard : IsLater log new.log) where
      -- after it keeps a log that is later than both
      pub read_token : IsToken 0 new
      read_token = token_kept 0 mid new looked_token kept later

      pub read_seen : HasSeen (caller_of old) (caller_of new)
      read_seen = heard_seen (caller_of old) (caller_of mid) (caller_of new) looked_seen (hears_of mid new kept later)

      pub read_number : HasRead (caller_of old) (caller_of new) number
      read_number = subst (λ (k : Known Version). HasRead (caller_of old) (caller_of k) number) (sym kept) (has_read 0 old mid token look.seen number is)

      pub read_heard : HasHeard (caller_of new)
      read_heard =
          subst (λ (k : Known Version). HasHeard (caller_of k)) (sym kept)
          (log_shown mid number finished log new.log begun is.0 told.near has
          (λ last. told.own token.at (subst (λ (n : ℕ). front.IsLastOf n mid.seen) (ap (λ (k : Known Version). k.number) look.others) last)) heard)

      pub read_value : (v : Version) → StandsFor mid.seen v → record { view = v.view; trees = v.trees; book = v.ids.book } ≡ reading_of (caller_of new)
      read_value v stands = reads mid v stands ∙ ap (λ (k : Known Version). reading_of (caller_of k)) (sym kept)
