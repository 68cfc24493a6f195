-- A text that passes the four tests is legal.
use Rattle.std.proofs.Common.{arith, ◌≡◌, refl, ap, ap₂, subst, sym, ◌∙◌, ℕ, ◌+◌, ◌^◌, ◌<◌, ◌≤◌, List, [], ◌∷◌, ◌++◌, length, map, Option, Ok, codes, IsPermutation, append_assoc}
use Rattle.std.specs.Bool.{⊤}
use Rattle.std.specs.List.{enumerate_from}
use Rattle.std.proofs.lemmas.List.{map-append}
use Rattle.mdb_datum.specs.Bytes.{Bytes}
use Rattle.mdb_schema.proofs.Membership.{Contains-first}
use Rattle.mdb_schema.specs.History.{History}
use Rattle.mdb_schema.specs.Schema.{DbSchema}
use Rattle.client_script.specs.Client.{Client, at_start}
use Rattle.client_script.specs.Legal.{Legal, all_printed, callers, number_printed, printed}
use Rattle.client_script.specs.Reply.{Reply, read_at, write_at, ended, committed, aborted, inserted, replaced, deleted, wiped, deferred, answered, snapshot_at, snapshot_within, quiet_at, fired_at, sized, woken_by, stopped_at, refused, heading, lines_text, output_text, reply_text}
use Rattle.client_script.specs.Session.{Runs, Sessions}
use Rattle.client_script.specs.declared.line.Line.{Line}
use Rattle.run_check.specs.Commits.{Committed, Working, all_commits, commit_in, commits_of, no_work, working_after}
use Rattle.run_check.specs.FirstBad.{AreTold, Found, found_in}
use Rattle.run_check.specs.Shape.{Printed}
use Rattle.run_check.specs.TextLines.{number_behind}
use Rattle.run_check.proofs.CommitsRead.{commit_of, commit_read}
use Rattle.run_check.proofs.FoundTells.{IsFoundBy, found_callers, found_tells}
use Rattle.run_check.proofs.Outcomes.{IfOk}
use Rattle.run_check.proofs.RepliesRead.{AllPrinted, ArePrinted}
use Rattle.run_check.proofs.SameReplies.{PrintsSmall}
use Rattle.run_check.proofs.TextHistory.{prints_small}
use Rattle.run_check.proofs.TextsBack.{AreAsMany, line_with, lines_with, output_with, shape_back}
use Rattle.run_check.proofs.ShapeCounts.{found_few}

-- ---- the replies that are told

-- replies of these texts, which are a session
record AreHeard (schema : DbSchema) (H : History) (client : ℕ) (v : Client) (ls : List Line) (ps : List Printed) : Type 0 where
  replies : List Reply
  texts : ArePrinted replies ps
  end : Client
  runs : Runs schema H client v ls replies end

told_heard : (schema : DbSchema) (H : History) (client : ℕ) (v : Client) (ls : List Line) (ps : List Printed) → AreTold schema H client v ls ps → AreHeard schema H client v ls ps
told_heard schema H client v [] [] told = record { replies = []; texts = tt; end = v; runs = refl }
told_heard schema H client v [] (p ∷ ps) told = absurd told
told_heard schema H client v (l ∷ ls) [] told = absurd told
told_heard schema H client v (l ∷ ls) (p ∷ ps) (next, one, others) =
    let rest : AreHeard schema H client next ls ps = told_heard schema H client next ls ps others in
    record { replies = one.reply ∷ rest.replies; texts = (sym one.printed, rest.texts); end = rest.end; runs = (next, one.answers, rest.runs) }

-- every client is told its replies
abbrev pub AreAllTold : DbSchema → History → ℕ → List (List Line) → List (List Printed) → Type 0
AreAllTold schema H k [] pss = ⊤
AreAllTold schema H k (s ∷ ss) [] = ⊤
AreAllTold schema H k (s ∷ ss) (ps ∷ pss) = AreTold schema H k at_start s ps × AreAllTold schema H (k + 1) ss pss

record AreAllHeard (schema : DbSchema) (H : History) (k : ℕ) (ss : List (List Line)) (pss : List (List Printed)) : Type 0 where
  replies : List (List Reply)
  texts : AllPrinted replies pss
  sessions : Sessions schema H k ss replies

all_heard : (schema : DbSchema) (H : History) (k : ℕ) (ss : List (List Line)) (pss : List (List Printed)) → AreAsMany ss pss → AreAllTold schema H k ss pss → AreAllHeard schema H k ss pss
all_heard schema H k [] [] many told = record { replies = []; texts = tt; sessions = tt }
all_heard schema H k [] (ps ∷ pss) many told = absurd many
all_heard schema H k (s ∷ ss) [] many told = absurd many
all_heard schema H k (s ∷ ss) (ps ∷ pss) many told =
    let one : AreHeard schema H k at_start s ps = told_heard schema H k at_start s ps told.0 in
    let rest : AreAllHeard schema H (k + 1) ss pss = all_heard schema H (k + 1) ss pss many told.1 in
    record { replies = one.replies ∷ rest.replies; texts = (one.texts, rest.texts); sessions = ((one.end, one.runs), rest.sessions) }

-- ---- the text is theirs

lines_same : (schema : DbSchema) (H : History) (client : ℕ) (v end : Client) (ls : List Line) (rs : List Reply) (ps : List Printed) → Runs schema H client v ls rs end → ArePrinted rs ps → lines_with ls ps ≡ lines_text ls rs
lines_same schema H client v end [] rs ps runs texts = refl
lines_same schema H client v end (l ∷ ls) [] ps runs texts = absurd runs
lines_same schema H client v end (l ∷ ls) (r ∷ rs) [] runs texts = absurd texts
lines_same schema H client v end (l ∷ ls) (r ∷ rs) (p ∷ ps) (next, a, runs) texts = ap₂ (λ (x y : Bytes). x ++ y) (ap (line_with l.number) texts.0) (lines_same schema H client next end ls rs ps runs texts.1)

output_same : (schema : DbSchema) (H : History) (k : ℕ) (ws : List Bytes) (ss : List (List Line)) (rss : List (List Reply)) (pss : List (List Printed)) → Sessions schema H k ss rss → AllPrinted rss pss → output_with k ws ss pss ≡ output_text k ws ss rss
output_same schema H k [] ss rss pss sessions texts = refl
output_same schema H k (w ∷ ws) [] rss pss sessions texts = refl
output_same schema H k (w ∷ ws) (s ∷ ss) [] pss sessions texts = absurd sessions
output_same schema H k (w ∷ ws) (s ∷ ss) (rs ∷ rss) [] sessions texts = absurd texts
output_same schema H k (w ∷ ws) (s ∷ ss) (rs ∷ rss) (ps ∷ pss) (session, others) texts =
    append_assoc (heading k w) (lines_with s ps) (output_with (k + 1) ws ss pss)
    ∙ ap₂ (λ (x y : Bytes). heading k w ++ (x ++ y)) (lines_same schema H k at_start session.0 s rs ps session.1 texts.0) (output_same schema H (k + 1) ws ss rss pss others texts.1)

-- ---- and so are the commits

commit_told_as : (r : Reply) → PrintsSmall r → number_behind (codes "commit @") (reply_text r) ≡ commit_of r
commit_told_as r small = commit_read r (λ n changed texts is. subst PrintsSmall is small n (Contains-first n []))

-- the number of each with its client
abbrev pairs : List Committed → List (ℕ × ℕ)
pairs cs = map {A = Committed} {B = ℕ × ℕ} (λ c. (c.number, c.client)) cs

one_pair : (client : ℕ) (w : Working) (p : Printed) (r : Reply) → pairs (commit_in client w p (commit_of r)) ≡ map {A = ℕ} {B = ℕ × ℕ} (λ m. (m, client)) (number_printed r)
one_pair client w p (committed n changed texts) = refl
one_pair client w p (read_at n) = refl
one_pair client w p (write_at n) = refl
one_pair client w p ended = refl
one_pair client w p aborted = refl
one_pair client w p inserted = refl
one_pair client w p replaced = refl
one_pair client w p deleted = refl
one_pair client w p (wiped k) = refl
one_pair client w p deferred = refl
one_pair client w p (answered a) = refl
one_pair client w p (snapshot_at n) = refl
one_pair client w p (snapshot_within n) = refl
one_pair client w p (quiet_at n) = refl
one_pair client w p (fired_at n) = refl
one_pair client w p (sized k) = refl
one_pair client w p (woken_by name n) = refl
one_pair client w p (stopped_at n) = refl
one_pair client w p (refused rule) = refl

module _ (schema : DbSchema) (H : History) (few : length H < 2 ^ 64) where
  runs_pairs : (client : ℕ) (v end : Client) (w : Working) (ls : List Line) (rs : List Reply) (ps : List Printed) → Runs schema H client v ls rs end → ArePrinted rs ps → pairs (commits_of client w ls ps) ≡ map {A = ℕ} {B = ℕ × ℕ} (λ m. (m, client)) (printed rs)
  runs_pairs client v end w [] [] [] runs texts = refl
  runs_pairs client v end w [] [] (p ∷ ps) runs texts = absurd texts
  runs_pairs client v end w [] (r ∷ rs) ps runs texts = absurd runs
  runs_pairs client v end w (l ∷ ls) [] ps runs texts = absurd runs
  runs_pairs client v end w (l ∷ ls) (r ∷ rs) [] runs texts = absurd texts
  runs_pairs client v end w (l ∷ ls) (r ∷ rs) (p ∷ ps) (next, a, runs) texts =
      let found : number_behind (codes "commit @") p.text ≡ commit_of r = ap (number_behind (codes "commit @")) texts.0 ∙ commit_told_as r (prints_small schema H client v next l.command r few a) in
      map-append {A = Committed} {B = ℕ × ℕ} (λ c. (c.number, c.client)) (commit_in client w p (number_behind (codes "commit @") p.text)) (commits_of client (working_after w l.command p.text) ls ps)
      ∙ ap₂ (λ (x y : List (ℕ × ℕ)). x ++ y) (ap (λ (o : Option ℕ). pairs (commit_in client w p o)) found ∙ one_pair client w p r) (runs_pairs client next end (working_after w l.command p.text) ls rs ps runs texts.1)
      ∙ sym (map-append {A = ℕ} {B = ℕ × ℕ} (λ m. (m, client)) (number_printed r) (printed rs))

  sessions_pairs : (k : ℕ) (ss : List (List Line)) (rss : List (List Reply)) (pss : List (List Printed)) → Sessions schema H k ss rss → AllPrinted rss pss → pairs (all_commits k ss pss) ≡ all_printed k rss
  sessions_pairs k [] [] [] sessions texts = refl
  sessions_pairs k [] [] (ps ∷ pss) sessions texts = absurd texts
  sessions_pairs k [] (rs ∷ rss) pss sessions texts = absurd sessions
  sessions_pairs k (s ∷ ss) [] pss sessions texts = absurd sessions
  sessions_pairs k (s ∷ ss) (rs ∷ rss) [] sessions texts = absurd texts
  sessions_pairs k (s ∷ ss) (rs ∷ rss) (ps ∷ pss) (session, others) texts =
      map-append {A = Committed} {B = ℕ × ℕ} (λ c. (c.number, c.client)) (commits_of k no_work s ps) (all_commits (k + 1) ss pss)
      ∙ ap₂ (λ (x y : List (ℕ × ℕ)). x ++ y) (runs_pairs k at_start session.0 no_work s rs ps session.1 texts.0) (sessions_pairs (k + 1) ss rss pss others texts.1)

-- ---- so the text is legal

pub passed_legal : (schema : DbSchema) (names : List Bytes) (scripts : List (List Line)) (out : Bytes) → length names ≡ length scripts → length out ≤ 2 ^ 24 → (found : Found) → found_in schema names scripts out ≡ Ok found → AreAllTold schema found.history 1 scripts found.replies → Legal schema names scripts out
passed_legal schema names scripts out named small found is told =
    let t : IsFoundBy schema names scripts out found = found_tells schema names scripts out found is in
    let back : (out ≡ output_with 1 names scripts found.replies) × AreAsMany scripts found.replies = subst (IfOk (λ pss. (out ≡ output_with 1 names scripts pss) × AreAsMany scripts pss)) t.shaped (shape_back names scripts out named) in
    let heard : AreAllHeard schema found.history 1 scripts found.replies = all_heard schema found.history 1 scripts found.replies back.1 told in
    let size : length found.history ≤ length out = subst (IfOk (λ (f : Found). length f.history ≤ length out)) is (found_few schema names scripts out) in
    record {
      replies = heard.replies;
      named = named;
      written = back.0 ∙ output_same schema found.history 1 names scripts heard.replies found.replies heard.sessions heard.texts;
      history = found.history;
      numbers = subst (λ (ps : List (ℕ × ℕ)). IsPermutation (enumerate_from 1 (callers found.history)) ps) (sessions_pairs schema found.history (omega (arith, size, small)) 1 scripts heard.replies found.replies heard.sessions heard.texts) (found_callers schema names scripts out found is);
      sessions = heard.sessions;
    }
