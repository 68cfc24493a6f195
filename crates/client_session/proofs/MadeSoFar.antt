-- The commits that replies tell are those that the pass has made.
use Rattle.std.proofs.Common.{arith, ◌≡◌, refl, ap, subst, sym, ◌∙◌, ℕ, suc, ◌+◌, ◌≤◌, ◌<◌, ◌^◌, List, [], ◌∷◌, ◌++◌, length, map, take, Option, Some}
use Rattle.std.proofs.lemmas.List.{append_assoc, length-append, length-take-le, map-append}
use Rattle.mdb_schema.specs.History.{Commit, History}
use Rattle.mem_txn.specs.CellHistory.{CellHistory}
use Rattle.mem_txn.specs.Database.{Caller, cells_seen}
use Rattle.client_script.specs.Client.{Client, at_start}
use Rattle.client_script.specs.Legal.{number_printed, printed}
use Rattle.client_script.specs.Reply.{Reply}
use Rattle.client_script.specs.declared.line.Line.{Line}
use Rattle.client_script.proofs.PrintedCounts.{printed_few}
use Rattle.client_session.proofs.OneMoreLine.{rising_wider, told_longer}
use Rattle.client_session.specs.Answered.{AreMade, AreRising, IsLater, commit_at}
use Rattle.client_session.specs.Cells.{RunsByCells}
use Rattle.client_session.specs.declared.session_state.SessionState.{SessionState}
use Rattle.client_session.specs.inner.Carried.{CarriedOn}
use Rattle.client_session.specs.inner.OpenView.{caller_of}
use Rattle.client_session.specs.inner.Transcript.{Transcript}

pub printed_both : (rs ss : List Reply) → printed (rs ++ ss) ≡ printed rs ++ printed ss
printed_both [] ss = refl
printed_both (r ∷ rs) ss = ap (λ (ms : List ℕ). number_printed r ++ ms) (printed_both rs ss) ∙ sym (append_assoc (number_printed r) (printed rs) (printed ss))

as_many_lines : (J : CellHistory) (n : ℕ) (v : Client) (ls : List Line) (rs : List Reply) (end : Client) → RunsByCells J n v ls rs end → length rs ≡ length ls
as_many_lines J n v [] [] end runs = refl
as_many_lines J n v [] (r ∷ rs) end runs = absurd runs
as_many_lines J n v (l ∷ ls) [] end runs = absurd runs
as_many_lines J n v (l ∷ ls) (r ∷ rs) end (next, a, told, runs) = ap suc (as_many_lines J n next ls rs end runs)

-- so there is room for one more
pub room_for_one : (J : CellHistory) (n : ℕ) (script : List Line) (at count : ℕ) (rs : List Reply) (end : Client) → RunsByCells J n at_start (take at script) rs end → count ≡ length (printed rs) → at ≤ length script → at + 1 < 2 ^ 64 → count + 1 < 2 ^ 64
room_for_one J n script at count rs end runs counted within few =
    let few_printed = printed_few rs in
    let lines = as_many_lines J n at_start (take at script) rs end runs in
    let taken = length-take-le at script within in
    omega (arith, counted, few_printed, lines, taken, few)

pub room_carried : (pass : Caller) (script : List Line) (from at : ℕ) (old : Transcript) (d : SessionState) (t : Transcript) → CarriedOn pass script from at old d t → at ≤ length script → at + 1 < 2 ^ 64 → t.commits + 1 < 2 ^ 64
room_carried pass script from at old d t on within few =
    let c = on.carried in
    room_for_one (cells_seen (caller_of d.«open»)) pass.number script at t.commits (on.before.replies ++ c.replies) c.client c.runs c.counted within few

-- ---- commits told before and after

rising_from : (low mid high : ℕ) (ms : List ℕ) → low ≤ mid → AreRising mid ms high → AreRising low ms high
rising_from low mid high [] le rising = omega (arith, le, rising)
rising_from low mid high (m ∷ ms) le rising = let lt = rising.0 in (omega (arith, le, lt), rising.1)

rising_both : (low mid high : ℕ) (ms ns : List ℕ) → AreRising low ms mid → AreRising mid ns high → AreRising low (ms ++ ns) high
rising_both low mid high [] ns one two = rising_from low mid high ns one two
rising_both low mid high (m ∷ ms) ns one two = (one.0, rising_both m mid high ms ns one.1 two)

module _ (pass new : Caller) (later : IsLater pass new) (before : List Reply) (was : AreMade pass before) where
  told_still : map (commit_at new.seen) (printed before) ≡ map Some was.made
  told_still = subst (λ (H : History). map (commit_at H) (printed before) ≡ map Some was.made) later.seen.1 (told_longer pass.seen later.seen.0 (printed before) was.made was.told)

  -- more was told since
  pub made_both : (replies : List Reply) (made : List Commit) → new.own ≡ pass.own ++ made → map (commit_at new.seen) (printed replies) ≡ map Some made → AreRising (length pass.seen) (printed replies) (length new.seen) → AreMade new (before ++ replies)
  made_both replies made own told rising = record {
    earlier = was.earlier;
    made = was.made ++ made;
    own = own ∙ ap (λ (cs : List Commit). cs ++ made) was.own ∙ append_assoc was.earlier was.made made;
    told =
        ap (map (commit_at new.seen)) (printed_both before replies)
        ∙ map-append (commit_at new.seen) (printed before) (printed replies)
        ∙ ap (λ (os : List (Option Commit)). os ++ map (commit_at new.seen) (printed replies)) told_still
        ∙ ap (λ (os : List (Option Commit)). map Some was.made ++ os) told
        ∙ sym (map-append Some was.made made);
    rising = subst (λ (ms : List ℕ). AreRising 0 ms (length new.seen)) (sym (printed_both before replies)) (rising_both 0 (length pass.seen) (length new.seen) (printed before) (printed replies) was.rising rising);
  }

  -- nothing was told since
  pub made_still : new.own ≡ pass.own → AreMade new before
  made_still own = record {
    earlier = was.earlier;
    made = was.made;
    own = own ∙ was.own;
    told = told_still;
    rising = rising_wider 0 (length pass.seen) (length new.seen) (printed before) (omega (arith, long, whole)) was.rising;
  }
    where
      long : length (pass.seen ++ later.seen.0) ≡ length pass.seen + length later.seen.0
      long = length-append pass.seen later.seen.0

      whole : length (pass.seen ++ later.seen.0) ≡ length new.seen
      whole = ap length later.seen.1
