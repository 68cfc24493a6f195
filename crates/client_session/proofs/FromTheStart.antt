-- What a session has told that began with no line answered, and has answered them all.
use Rattle.std.proofs.Common.{◌≡◌, refl, ap, subst, ◌∙◌, ℕ, List, [], ◌∷◌, ◌++◌, length, map, take, Some}
use Rattle.std.proofs.Math.Seq.{take-length}
use Rattle.mdb_schema.specs.History.{Commit, History}
use Rattle.mdb_schema.specs.Schema.{DbSchema}
use Rattle.mem_txn.specs.Database.{Caller}
use Rattle.client_script.specs.Client.{Client, at_start}
use Rattle.client_script.specs.Legal.{printed}
use Rattle.client_script.specs.Reply.{Reply, lines_text}
use Rattle.client_script.specs.Session.{Runs, Session}
use Rattle.client_script.specs.declared.line.Line.{Line}
use Rattle.client_session.specs.Answered.{AreRising, HasAnswered, IsLater, commit_at}
use Rattle.client_session.specs.Counts.{AreAmong, counts_told}
use Rattle.client_session.specs.Progress.{Progress, new_session}

-- the replies to a whole script, all of which were told since this pass
pub record HasToldAll (script : List Line) (old : Caller) (t : Progress) : Type 0 where
  pub replies : List Reply
  pub session : Session old.schema t.caller.seen old.number script replies
  pub written : t.text ≡ lines_text script replies
  pub later : IsLater old t.caller
  pub read : List ℕ
  pub counts : t.caller.counts ≡ old.counts ++ read
  pub loads : AreAmong (counts_told replies) read
  pub made : List Commit
  pub own : t.caller.own ≡ old.own ++ made
  pub told : map (commit_at t.caller.seen) (printed replies) ≡ map Some made
  pub rising : AreRising (length old.seen) (printed replies) (length t.caller.seen)

-- no lines have no replies
none_before : (schema : DbSchema) (H : History) (n : ℕ) (replies : List Reply) (end : Client) → Runs schema H n at_start [] replies end → replies ≡ []
none_before schema H n [] end runs = refl
none_before schema H n (r ∷ rs) end runs = absurd runs

pub told_from_the_start : (s t : Progress) → s.answered ≡ 0 → t.script ≡ s.script → t.answered ≡ length s.script → HasAnswered s t → HasToldAll s.script s.caller t
told_from_the_start s t start same all h =
    let p = s.caller in
    let q = t.caller in
    let first = h.tells.told_before.session in
    let none : h.tells.before ≡ [] = none_before p.schema p.seen p.number h.tells.before first.0 (subst (λ (n : ℕ). Runs p.schema p.seen p.number at_start (take n s.script) h.tells.before first.0) start first.1) in
    let lines : take t.answered t.script ≡ s.script = ap (λ (ls : List Line). take t.answered ls) same ∙ ap (λ (n : ℕ). take n s.script) all ∙ take-length s.script in
    let replies : h.tells.before ++ h.tells.replies ≡ h.tells.replies = ap (λ (rs : List Reply). rs ++ h.tells.replies) none in
    let session : Session q.schema q.seen q.number s.script h.tells.replies =
    subst (λ (ls : List Line). Session q.schema q.seen q.number ls h.tells.replies) lines
    (subst (λ (rs : List Reply). Session q.schema q.seen q.number (take t.answered t.script) rs) replies h.tells.told.session) in
    record {
      replies = h.tells.replies;
      session =
          subst (λ (x : DbSchema). Session x q.seen p.number s.script h.tells.replies) h.tells.later.schema
          (subst (λ (n : ℕ). Session q.schema q.seen n s.script h.tells.replies) h.tells.later.number session);
      written = h.tells.told.written ∙ ap (lines_text (take t.answered t.script)) replies ∙ ap (λ (ls : List Line). lines_text ls h.tells.replies) lines;
      later = h.tells.later;
      read = h.tells.read;
      counts = h.tells.counts;
      loads = h.tells.loads;
      made = h.made;
      own = h.own;
      told = h.told;
      rising = h.rising;
    }

-- so of a new session
pub told_from_new : (client : ℕ) (script : List Line) (caller : Caller) (t : Progress) → t.script ≡ script → t.answered ≡ length script → HasAnswered (new_session client script caller) t → HasToldAll script caller t
told_from_new client script caller t same all h = told_from_the_start (new_session client script caller) t refl same all h
