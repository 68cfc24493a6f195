-- The commits that a legal text tells are those of its history: their numbers, the commits on which
-- they stand, and what they write.
use Rattle.std.proofs.Common.{arith, ◌≡◌, refl, ap, ap₂, subst, sym, ◌∙◌, ℕ, suc, ◌+◌, ◌^◌, ◌<◌, ◌≤◌, List, [], ◌∷◌, ◌++◌, length, map, true, ◌==◌, Option, Some, None, slice_get, codes}
use Rattle.std.specs.Bool.{⊤}
use Rattle.std.specs.Prelude.{nat_lt}
use Rattle.std.proofs.lemmas.Bool.Decides.{nat_tests}
use Rattle.std.proofs.lemmas.List.{map-append}
use Rattle.mdb_datum.specs.Bytes.{Bytes}
use Rattle.mdb_schema.proofs.Membership.{Contains-first}
use Rattle.mdb_schema.specs.History.{History, state_at}
use Rattle.mdb_schema.specs.LawfulSchema.{IsLawfulSchema}
use Rattle.mdb_schema.specs.Schema.{DbSchema}
use Rattle.mdb_schema.specs.declared.answer.Answer.TheVariants.{One, Many}
use Rattle.client_script.specs.Client.{Client, Writing, at_start, writing}
use Rattle.client_script.specs.Legal.{number_printed, printed}
use Rattle.client_script.specs.Reply.{Changed, Reply, read_at, write_at, ended, committed, aborted, inserted, replaced, deleted, wiped, deferred, answered, snapshot_at, snapshot_within, quiet_at, fired_at, sized, woken_by, stopped_at, refused, changed_lines, did_lines, reply_text}
use Rattle.client_script.specs.Session.{Answers, IsCommit, Runs, Sessions}
use Rattle.client_script.specs.Spent.{IsSpent}
use Rattle.client_script.specs.Turn.{commit_limit}
use Rattle.client_script.specs.declared.command.Command.{Command}
use Rattle.client_script.specs.declared.command.Command.TheVariants as command
use Rattle.client_script.specs.declared.command.TransactionCommand.TheVariants as transaction_line
use Rattle.client_script.specs.declared.command.WriteCommand.{WriteCommand}
use Rattle.client_script.specs.declared.line.Line.{Line}
use Rattle.client_script.proofs.LongerHistory.{start_within}
use Rattle.client_script.proofs.OneHistory.{commit_told}
use Rattle.run_check.specs.Commits.{Committed, Working, accepted, all_commits, commit_in, commits_of, no_work, stands_before, working_after}
use Rattle.run_check.specs.Mode.{mode_after}
use Rattle.run_check.specs.Shape.{Printed}
use Rattle.run_check.specs.TextLines.{number_behind}
use Rattle.run_check.specs.declared.mode.Mode.{Mode}
use Rattle.run_check.specs.declared.mode.Mode.TheVariants.{Idle, Reads, Writes}
use Rattle.run_check.proofs.CleanClients.{answered_clean}
use Rattle.run_check.proofs.CleanNames.{IsCleanCommand, IsCleanSchema, start_clean}
use Rattle.run_check.proofs.CountedReplies.{IsFew}
use Rattle.run_check.proofs.FewWritten.{replies_in}
use Rattle.run_check.proofs.LineNumbers.{AllBelow, AreBelow}
use Rattle.run_check.proofs.OutputCut.{AreCleanLines, AreCleanScripts}
use Rattle.run_check.proofs.RepliesRead.{AllPrinted, ArePrinted, HasFewRows, MayAllStand, MayStand, MayStandIn}
use Rattle.run_check.proofs.ReplyForms.{line_may}
use Rattle.run_check.proofs.SmallReplies.{AreFew, next_few, reply_small, unspent}
use Rattle.run_check.proofs.TextSizes.{AllShort, AreShort}
use Rattle.run_check.proofs.ToldRules.{Agrees}
use Rattle.run_check.proofs.Workings.{Works, WorksFor, kind_agrees, next_works}
use Rattle.run_check.proofs.WrittenForms.{IsSmall}
use Rattle.run_check.proofs.WrittenNumbers.{EndsNumber, number_after}

-- ---- the number of a commit in a text

-- the commit that a reply prints
abbrev pub commit_of : Reply → Option ℕ
commit_of (committed n changed texts) = Some n
commit_of r = None

pub ends_number : (changed : List Changed) (texts : List Bytes) → EndsNumber (changed_lines changed ++ did_lines texts)
ends_number [] [] = tt
ends_number [] (t ∷ texts) = refl
ends_number (c ∷ changed) texts = refl

pub commit_read : (r : Reply) → ((n : ℕ) (changed : List Changed) (texts : List Bytes) → r ≡ committed n changed texts → n < 2 ^ 64) → number_behind (codes "commit @") (reply_text r) ≡ commit_of r
commit_read (committed n changed texts) small = number_after (codes "commit @") (changed_lines changed ++ did_lines texts) n (small n changed texts refl) (ends_number changed texts)
commit_read (answered (One None)) small = refl
commit_read (answered (Many rows)) small = refl
commit_read r small = refl

commit_number : (r : Reply) → IsSmall r → number_behind (codes "commit @") (reply_text r) ≡ commit_of r
commit_number r small = commit_read r (λ n changed texts is. subst IsSmall is small)

-- small replies have few rows
few_rows : (r : Reply) → IsSmall r → HasFewRows r
few_rows (committed n changed texts) small = small
few_rows (answered (Many rows)) small = small
few_rows r small = tt

-- what is open behind a line, by the lines alone
pub working_mode : (w : Working) (c : Command) (text : Bytes) → (working_after w c text).mode ≡ mode_after w.mode c
working_mode w c text = of w.mode w.begun w.lines c
  where
    of : (m : Mode) (b : Option ℕ) (ls : List WriteCommand) (c : Command) → (working_after (record { mode = m; begun = b; lines = ls }) c text).mode ≡ mode_after m c
    of Idle b ls (command.Transaction transaction_line.Write) = refl
    of Reads b ls (command.Transaction transaction_line.Write) = refl
    of Writes b ls (command.Transaction transaction_line.Write) = refl
    of m b ls c = refl

-- ---- commits that are those of the history

abbrev pub numbers_of : List Committed → List ℕ
numbers_of cs = map (λ (c : Committed). c.number) cs

-- the numbers that all clients were told
abbrev pub all_numbers : List (List Reply) → List ℕ
all_numbers [] = []
all_numbers (rs ∷ rss) = printed rs ++ all_numbers rss

module _ (schema : DbSchema) (H : History) where
  pub record IsRight (c : Committed) : Type 0 where
    pub place : ℕ
    pub number : c.number ≡ suc place
    pub entry : slice_get H place ≡ Some (record { caller = c.client; writes = accepted schema (state_at schema H place) c.lines })
    pub begun : stands_before c.begun c.number ≡ true

  abbrev pub AllRight : List Committed → Type 0
  AllRight [] = ⊤
  AllRight (c ∷ cs) = IsRight c × AllRight cs

  both_right : (cs ds : List Committed) → AllRight cs → AllRight ds → AllRight (cs ++ ds)
  both_right [] ds all others = others
  both_right (c ∷ cs) ds all others = (all.0, both_right cs ds all.1 others)

  -- a line's commit
  commit_right : (client : ℕ) (v next : Client) (w : Working) (c : Command) (r : Reply) (p : Printed) → Works schema H w v → Answers schema H client v c r next → AllRight (commit_in client w p (commit_of r)) × (numbers_of (commit_in client w p (commit_of r)) ≡ number_printed r)
  commit_right client v next w c (committed m changed texts) p works a =
      let one = commit_told schema H client v next c (committed m changed texts) m a (Contains-first m []) in
      let t : Writing = one.0 in
      let number : t.number + 1 ≡ m = one.2 in
      let up : m ≡ suc t.number = sym number ∙ search (arith) in
      let made : IsCommit H client (writing t) = subst (IsCommit H client) one.1 a.entry in
      let lines : WorksFor schema H w.begun w.lines (writing t) = subst (WorksFor schema H w.begun w.lines) one.1 works.lines in
      let follows : (t.number + 1 == m) ≡ true = grind (arith, nat_tests, number) in (
        (
          record {
            place = t.number;
            number = up;
            entry = made ∙ ap (λ ws. Some (record { caller = client; writes = ws })) lines.1;
            begun = ap (λ (o : Option ℕ). stands_before o m) lines.0 ∙ follows;
          },
          tt,
        ),
        refl,
      )
  commit_right client v next w c (read_at n) p works a = (tt, refl)
  commit_right client v next w c (write_at n) p works a = (tt, refl)
  commit_right client v next w c ended p works a = (tt, refl)
  commit_right client v next w c aborted p works a = (tt, refl)
  commit_right client v next w c inserted p works a = (tt, refl)
  commit_right client v next w c replaced p works a = (tt, refl)
  commit_right client v next w c deleted p works a = (tt, refl)
  commit_right client v next w c (wiped k) p works a = (tt, refl)
  commit_right client v next w c deferred p works a = (tt, refl)
  commit_right client v next w c (answered x) p works a = (tt, refl)
  commit_right client v next w c (snapshot_at n) p works a = (tt, refl)
  commit_right client v next w c (snapshot_within n) p works a = (tt, refl)
  commit_right client v next w c (quiet_at n) p works a = (tt, refl)
  commit_right client v next w c (fired_at n) p works a = (tt, refl)
  commit_right client v next w c (sized k) p works a = (tt, refl)
  commit_right client v next w c (woken_by name n) p works a = (tt, refl)
  commit_right client v next w c (stopped_at n) p works a = (tt, refl)
  commit_right client v next w c (refused rule) p works a = (tt, refl)

  -- ---- the lines of a client, one after the other

  -- its commits are right, and their numbers are those that it was told
  abbrev AreRightFor : List Reply → List Committed → Type 0
  AreRightFor rs cs = AllRight cs × (numbers_of cs ≡ printed rs)

  module _ (laws : IsLawfulSchema schema) (names : IsCleanSchema schema) (few : AreFew schema H) where
    pub before_limit : (now : ℕ) → now ≤ length H → (nat_lt now commit_limit ≡ true) × (now < 2 ^ 64)
    before_limit now le =
        let small = few.commits in
        let lt : now < 2 ^ 63 = omega (arith, le, small) in
        (grind (arith, nat_tests, lt), omega (arith, lt))

    -- what is known of a line that was told so
    line_known : (client n : ℕ) (v next : Client) (w : Working) (l : Line) (r : Reply) → n < 2 ^ 24 → IsFew schema laws H n v → Works schema H w v → IsCleanCommand l.command → l.number < 2 ^ 64 → length (reply_text r) ≤ 2 ^ 24 → Answers schema H client v l.command r next → MayStand w.mode l r × IsSmall r × IsFew schema laws H (suc n) next × Works schema H (working_after w l.command (reply_text r)) next
    line_known client n v next w l r lines known works plain number short a =
        let small : IsSmall r = reply_small schema laws names H few n lines v known client l.command r next plain a short in
        let limit = before_limit a.now a.there in
        let none : (x : WriteCommand) → IsSpent schema H v x r next → ⊥ = unspent schema laws names H few n lines v known client l.command r next in (
          record {
            number = number;
            clean = (answered_clean schema names H v known.clean client a.now l.command r next plain a.says).0;
            rows = few_rows r small;
            form = line_may schema H w.mode v (subst (λ (m : Mode). Agrees m v.transaction) (sym works.mode) (kind_agrees v.transaction)) client a.now l.command r next limit.0 small none a.says;
          },
          small,
          next_few schema laws names H few n lines v known client l.command r next plain a,
          next_works schema H client a.now limit.0 limit.1 v w.begun w.lines works.lines r next none l.command w works.mode refl refl a.says,
        )

    runs_read : (client n : ℕ) (v end : Client) (w : Working) (mode : Mode) (ls : List Line) (rs : List Reply) (ps : List Printed) → n + length rs ≤ 2 ^ 24 → IsFew schema laws H n v → Works schema H w v → w.mode ≡ mode → AreCleanLines ls → AreBelow (2 ^ 64) ls → AreShort (2 ^ 24) rs → Runs schema H client v ls rs end → MayAllStand mode ls rs × (ArePrinted rs ps → AreRightFor rs (commits_of client w ls ps))
    runs_read client n v end w mode [] [] [] lines known works is plain below short runs = (tt, λ texts. (tt, refl))
    runs_read client n v end w mode [] [] (p ∷ ps) lines known works is plain below short runs = (tt, λ texts. (tt, refl))
    runs_read client n v end w mode [] (r ∷ rs) ps lines known works is plain below short runs = absurd runs
    runs_read client n v end w mode (l ∷ ls) [] ps lines known works is plain below short runs = absurd runs
    runs_read client n v end w mode (l ∷ ls) (r ∷ rs) [] lines known works is plain below short (next, a, runs) =
        let line = line_known client n v next w l r (omega (arith, lines)) known works plain.0 below.0 short.0 a in
        let rest = runs_read client (suc n) next end (working_after w l.command (reply_text r)) (mode_after mode l.command) ls rs [] (omega (arith, lines)) line.2 line.3 (working_mode w l.command (reply_text r) ∙ ap (λ (m : Mode). mode_after m l.command) is) plain.1 below.1 short.1 runs in
        ((subst (λ (m : Mode). MayStand m l r) is line.0, rest.0), λ texts. absurd texts)
    runs_read client n v end w mode (l ∷ ls) (r ∷ rs) (p ∷ ps) lines known works is plain below short (next, a, runs) =
        let line = line_known client n v next w l r (omega (arith, lines)) known works plain.0 below.0 short.0 a in
        let rest = runs_read client (suc n) next end (working_after w l.command (reply_text r)) (mode_after mode l.command) ls rs ps (omega (arith, lines)) line.2 line.3 (working_mode w l.command (reply_text r) ∙ ap (λ (m : Mode). mode_after m l.command) is) plain.1 below.1 short.1 runs in
        ((subst (λ (m : Mode). MayStand m l r) is line.0, rest.0), λ texts. right line.1 texts (rest.1 texts.1))
      where
        right : IsSmall r → (p.text ≡ reply_text r) × ArePrinted rs ps → AreRightFor rs (commits_of client (working_after w l.command (reply_text r)) ls ps) → AreRightFor (r ∷ rs) (commits_of client w (l ∷ ls) (p ∷ ps))
        right small texts others =
            let one = commit_right client v next w l.command r p works a in
            let cs : List Committed = commit_in client w p (commit_of r) in
            let ds : List Committed = commits_of client (working_after w l.command (reply_text r)) ls ps in
            let whole : AreRightFor (r ∷ rs) (cs ++ ds) = (both_right cs ds one.0 others.0, map-append (λ (c : Committed). c.number) cs ds ∙ ap₂ (λ (x y : List ℕ). x ++ y) one.1 others.1) in
            let found : number_behind (codes "commit @") p.text ≡ commit_of r = ap (number_behind (codes "commit @")) texts.0 ∙ commit_number r small in
            subst (λ (o : Option ℕ). AreRightFor (r ∷ rs) (commit_in client w p o ++ commits_of client (working_after w l.command p.text) ls ps)) (sym found)
            (subst (λ (text : Bytes). AreRightFor (r ∷ rs) (cs ++ commits_of client (working_after w l.command text) ls ps)) (sym texts.0) whole)

    pub sessions_read : (k : ℕ) (ls : List (List Line)) (rss : List (List Reply)) (pss : List (List Printed)) → replies_in rss ≤ 2 ^ 24 → AreCleanScripts ls → AllBelow (2 ^ 64) ls → AllShort (2 ^ 24) rss → Sessions schema H k ls rss → MayStandIn ls rss × (AllPrinted rss pss → AllRight (all_commits k ls pss) × (numbers_of (all_commits k ls pss) ≡ all_numbers rss))
    sessions_read k [] [] pss lines plain below short sessions = (tt, λ texts. (tt, refl))
    sessions_read k [] (rs ∷ rss) pss lines plain below short sessions = absurd sessions
    sessions_read k (l ∷ ls) [] pss lines plain below short sessions = absurd sessions
    sessions_read k (l ∷ ls) (rs ∷ rss) [] lines plain below short (session, others) =
        let one = runs_read k 0 at_start session.0 no_work Idle l rs [] (omega (arith, lines)) start start_works refl plain.0 below.0 short.0 session.1 in
        let rest = sessions_read (k + 1) ls rss [] (omega (arith, lines)) plain.1 below.1 short.1 others in
        ((one.0, rest.0), λ texts. absurd texts)
      where
        start : IsFew schema laws H 0 at_start
        start = record { within = start_within (length H); clean = start_clean; bound = tt; members = tt }

        start_works : Works schema H no_work at_start
        start_works = record { mode = refl; lines = tt }
    sessions_read k (l ∷ ls) (rs ∷ rss) (ps ∷ pss) lines plain below short (session, others) =
        let one = runs_read k 0 at_start session.0 no_work Idle l rs ps (omega (arith, lines)) start start_works refl plain.0 below.0 short.0 session.1 in
        let rest = sessions_read (k + 1) ls rss pss (omega (arith, lines)) plain.1 below.1 short.1 others in
        ((one.0, rest.0), λ texts. both (one.1 texts.0) (rest.1 texts.1))
      where
        start : IsFew schema laws H 0 at_start
        start = record { within = start_within (length H); clean = start_clean; bound = tt; members = tt }

        start_works : Works schema H no_work at_start
        start_works = record { mode = refl; lines = tt }

        both : AreRightFor rs (commits_of k no_work l ps) → AllRight (all_commits (k + 1) ls pss) × (numbers_of (all_commits (k + 1) ls pss) ≡ all_numbers rss) → AllRight (all_commits k (l ∷ ls) (ps ∷ pss)) × (numbers_of (all_commits k (l ∷ ls) (ps ∷ pss)) ≡ all_numbers (rs ∷ rss))
        both first rest = (both_right (commits_of k no_work l ps) (all_commits (k + 1) ls pss) first.0 rest.0, map-append (λ (c : Committed). c.number) (commits_of k no_work l ps) (all_commits (k + 1) ls pss) ∙ ap₂ (λ (x y : List ℕ). x ++ y) first.1 rest.1)
