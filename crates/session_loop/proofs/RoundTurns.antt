-- Session by session: what a turn leaves of those in the loop, and how the turns of a round add up.
use Rattle.std.proofs.Common.{◌≡◌, ◌<◌, refl, ap, sym, ◌∙◌, subst, ℕ, zero, suc, List, [], ◌∷◌, length, slice_get, slice_index_or, slice_set, Option, Some}
use Rattle.std.proofs.lemmas.Option.{slice_get_read}
use Rattle.client_session.specs.Clients.{AreLater}
use Rattle.client_session.specs.Progress.{Progress}
use Rattle.mem_txn.specs.Database.{Database}
use Rattle.client_session.proofs.OneMoreLine.{later_again}
use Rattle.session_loop.proofs.LoopEnds.{as_many_tasks}
use Rattle.session_loop.specs.Polls.{GoesOn}
use Rattle.session_loop.specs.declared.polled.Polled.{Polled}
use Rattle.session_loop.specs.declared.round.Round.{Round}
use Rattle.session_loop.specs.declared.task.Task.{Task}
use Rattle.session_loop.specs.inner.Tasks.{AreInLoop, IsInLoop, scripts_of}
use Rattle.session_loop.specs.inner.Turns.{TakeTurns, TakesTurn, round_after}

-- ---- one session and its task in the place of others

in_loop_there : (db : Database) (ss : List Progress) (ts : List Task) (at : ℕ) (s : Progress) (t : Task) → AreInLoop db ss ts → slice_get ss at ≡ Some s → slice_get ts at ≡ Some t → IsInLoop db s t
in_loop_there db [] ts at s t i e f = cc
in_loop_there db (x ∷ ss) [] at s t i e f = absurd i
in_loop_there db (x ∷ ss) (y ∷ ts) zero s t i e f =
    let same : x ≡ s = cc in
    let its : y ≡ t = cc in
    subst (λ (p : Progress). IsInLoop db p t) same (subst (IsInLoop db x) its i.0)
in_loop_there db (x ∷ ss) (y ∷ ts) (suc at) s t i e f = in_loop_there db ss ts at s t i.1 e f

still_in_loop : (db : Database) (ss : List Progress) (ts : List Task) (at : ℕ) (s : Progress) (t : Task) → AreInLoop db ss ts → IsInLoop db s t → AreInLoop db (slice_set ss at s) (slice_set ts at t)
still_in_loop db [] [] at s t i new = tt
still_in_loop db [] (y ∷ ts) at s t i new = absurd i
still_in_loop db (x ∷ ss) [] at s t i new = absurd i
still_in_loop db (x ∷ ss) (y ∷ ts) zero s t i new = (new, i.1)
still_in_loop db (x ∷ ss) (y ∷ ts) (suc at) s t i new = (i.0, still_in_loop db ss ts at s t i.1 new)

later_there : (ss ts : List Progress) (at : ℕ) (old new : Progress) → AreLater ss ts → slice_get ts at ≡ Some old → GoesOn old new → AreLater ss (slice_set ts at new)
later_there [] [] at old new l e on = tt
later_there [] (t ∷ ts) at old new l e on = absurd l
later_there (s ∷ ss) [] at old new l e on = absurd l
later_there (s ∷ ss) (t ∷ ts) zero old new l e on =
    let same : t ≡ old = cc in
    (later_again s.caller t.caller new.caller l.0 (subst (λ (p : Progress). GoesOn p new) (sym same) on).later, l.1)
later_there (s ∷ ss) (t ∷ ts) (suc at) old new l e on = (l.0, later_there ss ts at old new l.1 e on)

scripts_there : (ss : List Progress) (at : ℕ) (old new : Progress) → slice_get ss at ≡ Some old → GoesOn old new → scripts_of (slice_set ss at new) ≡ scripts_of ss
scripts_there [] at old new e on = refl
scripts_there (s ∷ ss) zero old new e on =
    let same : s ≡ old = cc in
    ap (λ ls. ls ∷ scripts_of ss) (on.script ∙ sym (ap (λ (p : Progress). p.script) same))
scripts_there (s ∷ ss) (suc at) old new e on = ap (λ ls. s.script ∷ ls) (scripts_there ss at old new e on)

-- ---- the turns of a round, so far

-- the first sessions took their turns, and the others are as they were
abbrev pub TookTurns : Database → ℕ → List Progress → List Progress → List Task → List Task → Round → Round
    → Type 0
TookTurns db zero ss ts before after first last = (ts ≡ ss) × (after ≡ before) × (last ≡ first)
TookTurns db (suc n) (s ∷ ss) (t ∷ ts) (b ∷ before) (a ∷ after) first last =
    (told : Option Polled) × TakesTurn db s t b a told
    × TookTurns db n ss ts before after (round_after first told) last
TookTurns db (suc n) ss ts before after first last = ⊥

one_more_turn : (db : Database) (n : ℕ) (ss ts : List Progress) (before after : List Task) (first last : Round) (s t : Progress) (b a : Task) (told : Option Polled) → TookTurns db n ss ts before after first last → slice_get ts n ≡ Some s → slice_get after n ≡ Some b → TakesTurn db s t b a told
    → TookTurns db (suc n) ss (slice_set ts n t) before (slice_set after n a) first (round_after last told)
one_more_turn db zero ss ts before after first last s t b a told took e f turn = by_lists ss ts before after took.0 took.1 e f
  where
    by_lists : (ss ts : List Progress) (before after : List Task) → ts ≡ ss → after ≡ before → slice_get ts zero ≡ Some s → slice_get after zero ≡ Some b → TookTurns db (suc zero) ss (slice_set ts zero t) before (slice_set after zero a) first (round_after last told)
    by_lists ss [] before after same its e f = cc
    by_lists ss (y ∷ ts) before [] same its e f = cc
    by_lists [] (y ∷ ts) before (z ∷ after) same its e f = cc
    by_lists (x ∷ ss) (y ∷ ts) [] (z ∷ after) same its e f = cc
    by_lists (x ∷ ss) (y ∷ ts) (w ∷ before) (z ∷ after) same its e f =
        let here : x ≡ s = cc in
        let there : w ≡ b = cc in
        let rest : ts ≡ ss = cc in
        let others : after ≡ before = cc in (
          told,
          subst (λ (p : Progress). TakesTurn db p t w a told) (sym here) (subst (λ (q : Task). TakesTurn db s t q a told) (sym there) turn),
          (rest, others, ap (λ (r : Round). round_after r told) took.2),
        )
one_more_turn db (suc n) (x ∷ ss) (y ∷ ts) (w ∷ before) (z ∷ after) first last s t b a told took e f turn =
    (took.0, took.1, one_more_turn db n ss ts before after (round_after first took.0) last s t b a told took.2 e f turn)
one_more_turn db (suc n) [] ts before after first last s t b a told took e f turn = absurd took
one_more_turn db (suc n) (x ∷ ss) [] before after first last s t b a told took e f turn = absurd took
one_more_turn db (suc n) (x ∷ ss) (y ∷ ts) [] after first last s t b a told took e f turn = absurd took
one_more_turn db (suc n) (x ∷ ss) (y ∷ ts) (w ∷ before) [] first last s t b a told took e f turn = absurd took

-- at the end all took theirs
pub all_took_turns : (db : Database) (ss ts : List Progress) (before after : List Task) (first last : Round) → AreInLoop db ss before → TookTurns db (length before) ss ts before after first last → TakeTurns db ss ts before after first last
all_took_turns db [] ts [] after first last i took = by_lists ts after took.0 took.1
  where
    by_lists : (ts : List Progress) (after : List Task) → ts ≡ [] → after ≡ [] → TakeTurns db [] ts [] after first last
    by_lists [] [] e f = took.2
    by_lists [] (a ∷ after) e f = cc
    by_lists (t ∷ ts) after e f = cc
all_took_turns db [] ts (b ∷ before) after first last i took = absurd i
all_took_turns db (s ∷ ss) ts [] after first last i took = absurd i
all_took_turns db (s ∷ ss) [] (b ∷ before) after first last i took = absurd took
all_took_turns db (s ∷ ss) (t ∷ ts) (b ∷ before) [] first last i took = absurd took
all_took_turns db (s ∷ ss) (t ∷ ts) (b ∷ before) (a ∷ after) first last i took =
    (took.0, took.1, all_took_turns db ss ts before after (round_after first took.0) last i.1 took.2)

-- ---- the turn of the session at a place, as the code reads it

module _ (db : Database) (ss : List Progress) (ts : List Task) (at : ℕ) (inside : AreInLoop db ss ts) (few : at < length ts) where
  pub within : at < length ss
  within = subst (λ (n : ℕ). at < n) (as_many_tasks db ss ts inside) few

  module _ (s : Progress) (t : Task) (s_is : s ≡ slice_index_or ss at s) (t_is : t ≡ slice_index_or ts at t) where
    session_there : slice_get ss at ≡ Some s
    session_there = slice_get_read ss (length ss) at s refl within s_is

    task_there : slice_get ts at ≡ Some t
    task_there = slice_get_read ts (length ts) at t refl few t_is

    pub its_turn : IsInLoop db (slice_index_or ss at s) (slice_index_or ts at t)
    its_turn =
        subst (λ (p : Progress). IsInLoop db p (slice_index_or ts at t)) s_is
        (subst (IsInLoop db s) t_is (in_loop_there db ss ts at s t inside session_there task_there))

    module _ (new : Progress) (on : GoesOn (slice_index_or ss at s) new) where
      goes_on : GoesOn s new
      goes_on = subst (λ (p : Progress). GoesOn p new) (sym s_is) on

      pub later_after : (begun : List Progress) → AreLater begun ss → AreLater begun (slice_set ss at new)
      later_after begun later = later_there begun ss at s new later session_there goes_on

      pub scripts_after : scripts_of (slice_set ss at new) ≡ scripts_of ss
      scripts_after = scripts_there ss at s new session_there goes_on

      module _ (after : Task) where
        pub inside_after : IsInLoop db new after → AreInLoop db (slice_set ss at new) (slice_set ts at after)
        inside_after i = still_in_loop db ss ts at new after inside i

        pub turns_after : (begun : List Progress) (before : List Task) (first last : Round) (told : Option Polled) → TookTurns db at begun ss before ts first last → TakesTurn db (slice_index_or ss at s) new (slice_index_or ts at t) after told
            → TookTurns db (suc at) begun (slice_set ss at new) before (slice_set ts at after) first (round_after last told)
        turns_after begun before first last told took turn =
            one_more_turn db at begun ss before ts first last s new t after told took session_there task_there
            (subst (λ (p : Progress). TakesTurn db p new t after told) (sym s_is) (subst (λ (q : Task). TakesTurn db (slice_index_or ss at s) new q after told) (sym t_is) turn))
