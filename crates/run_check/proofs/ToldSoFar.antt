-- The fourth test, line by line and client by client.
use Rattle.std.proofs.Common.{arith, ◌≡◌, refl, ap, subst, sym, ℕ, zero, suc, ◌+◌, ◌^◌, ◌<◌, ◌≤◌, inl, inr, List, [], ◌∷◌, ◌++◌, length, drop, Contains, Option, Some, slice_get, codes, unwrap_or}
use Rattle.mdb_schema.proofs.Membership.{Contains-first, Contains-later}
use Rattle.mdb_schema.specs.History.{History}
use Rattle.mdb_schema.specs.LawfulSchema.{IsLawfulSchema}
use Rattle.mdb_schema.specs.Schema.{DbSchema}
use Rattle.client_script.specs.Client.{Client, at_start}
use Rattle.client_script.specs.declared.line.Line.{Line}
use Rattle.run_check.specs.Commits.{Committed, Working, commit_in, commits_of, no_work, working_after}
use Rattle.run_check.specs.FirstBad.{AreTold, AreToldUpTo, IsFirstUntold, IsTold}
use Rattle.run_check.specs.Shape.{Printed}
use Rattle.run_check.specs.TextLines.{number_behind}
use Rattle.run_check.proofs.CleanNames.{IsCleanCommand, IsCleanSchema}
use Rattle.run_check.proofs.KnownClients.{IsKnown, next_known, start_known}
use Rattle.run_check.proofs.PassedLegal.{AreAllTold}
use Rattle.run_check.proofs.SmallReplies.{AreFew}

-- a list from a place on
drop_there : {A : Type 0} (xs : List A) (i : ℕ) (x : A) → slice_get xs i ≡ Some x → drop i xs ≡ x ∷ drop (suc i) xs
drop_there [] i x at = cc
drop_there (y ∷ xs) zero x at = ap (λ z. z ∷ xs) (ap (λ o. unwrap_or o y) at)
drop_there (y ∷ xs) (suc i) x at = drop_there xs i x at

drop_past : {A : Type 0} (xs : List A) (i : ℕ) → length xs ≤ i → drop i xs ≡ []
drop_past [] zero le = refl
drop_past [] (suc i) le = refl
drop_past (x ∷ xs) zero le = absurd (omega (arith, le))
drop_past (x ∷ xs) (suc i) le = drop_past xs i (omega (arith, le))

-- ---- the lines of a client

module _ (schema : DbSchema) (laws : IsLawfulSchema schema) (H : History) (client : ℕ) (ls : List Line) (ps : List Printed) where
  -- the first i replies are told so, after which the client knows `v`, with the lines of `w` open
  pub record IsToldSoFar (i : ℕ) (w : Working) (v : Client) : Type 0 where
    pub known : IsKnown schema laws H i w v
    -- what is told from here on, or up to a line, is so of the whole
    pub all : AreTold schema H client v (drop i ls) (drop i ps) → AreTold schema H client at_start ls ps
    pub up_to : (line : ℕ) → AreToldUpTo schema H client v (drop i ls) (drop i ps) line → AreToldUpTo schema H client at_start ls ps line
    -- the commits from here on are some of the whole
    pub commits : (c : Committed) → Contains (commits_of client w (drop i ls) (drop i ps)) c → Contains (commits_of client no_work ls ps) c

  pub none_told_yet : IsToldSoFar 0 no_work at_start
  none_told_yet = record { known = start_known schema laws H; all = λ told. told; up_to = λ line told. told; commits = λ c here. here }

  commits_behind : (cs ds : List Committed) (c : Committed) → Contains ds c → Contains (cs ++ ds) c
  commits_behind [] ds c here = here
  commits_behind (x ∷ cs) ds c here = Contains-later x (cs ++ ds) c (commits_behind cs ds c here)

  pub one_told : IsCleanSchema schema → AreFew schema H → (i : ℕ) → i < 2 ^ 24 → (w : Working) (v next : Client) (l : Line) (p : Printed) → IsToldSoFar i w v → slice_get ls i ≡ Some l → slice_get ps i ≡ Some p → IsCleanCommand l.command → IsTold schema H client v l.command p.text next → IsToldSoFar (suc i) (working_after w l.command p.text) next
  one_told names few i lines w v next l p so_far at at' plain told =
      let line : drop i ls ≡ l ∷ drop (suc i) ls = drop_there ls i l at in
      let reply : drop i ps ≡ p ∷ drop (suc i) ps = drop_there ps i p at' in
      record {
        known = next_known schema laws names H few i lines w v so_far.known client l.command p.text next plain told;
        all = λ rest. so_far.all (subst (λ xs. AreTold schema H client v xs (drop i ps)) (sym line) (subst (λ ys. AreTold schema H client v (l ∷ drop (suc i) ls) ys) (sym reply) (next, told, rest)));
        up_to = λ bad rest. so_far.up_to bad (subst (λ xs. AreToldUpTo schema H client v xs (drop i ps) bad) (sym line) (subst (λ ys. AreToldUpTo schema H client v (l ∷ drop (suc i) ls) ys bad) (sym reply) (inr (next, told, rest))));
        commits = λ c here. so_far.commits c (subst (λ xs. Contains (commits_of client w xs (drop i ps)) c) (sym line) (subst (λ ys. Contains (commits_of client w (l ∷ drop (suc i) ls) ys) c) (sym reply) (commits_behind (commit_in client w p (number_behind (codes "commit @") p.text)) (commits_of client (working_after w l.command p.text) (drop (suc i) ls) (drop (suc i) ps)) c here)));
      }

  -- a text that can't be told is the first
  pub one_untold : (i : ℕ) (w : Working) (v : Client) (l : Line) (p : Printed) → IsToldSoFar i w v → slice_get ls i ≡ Some l → slice_get ps i ≡ Some p → ((next : Client) → IsTold schema H client v l.command p.text next → ⊥) → AreToldUpTo schema H client at_start ls ps p.line
  one_untold i w v l p so_far at at' untold =
      so_far.up_to p.line (subst (λ xs. AreToldUpTo schema H client v xs (drop i ps) p.line) (sym (drop_there ls i l at)) (subst (λ ys. AreToldUpTo schema H client v (l ∷ drop (suc i) ls) ys p.line) (sym (drop_there ps i p at')) (inl (untold, refl))))

  -- at the end all are told
  pub all_told : (i : ℕ) (w : Working) (v : Client) → IsToldSoFar i w v → length ls ≤ i → length ps ≤ i → AreTold schema H client at_start ls ps
  all_told i w v so_far le le' =
      so_far.all (subst (λ xs. AreTold schema H client v xs (drop i ps)) (sym (drop_past ls i le)) (subst (λ ys. AreTold schema H client v [] ys) (sym (drop_past ps i le')) tt))

  -- the commit that the next reply tells is one of them
  pub next_commit : (i : ℕ) (w : Working) (v : Client) (l : Line) (p : Printed) (m : ℕ) → IsToldSoFar i w v → slice_get ls i ≡ Some l → slice_get ps i ≡ Some p → number_behind (codes "commit @") p.text ≡ Some m → Contains (commits_of client no_work ls ps) (record { line = p.line; client = client; number = m; begun = w.begun; lines = w.lines })
  next_commit i w v l p m so_far at at' found =
      let c : Committed = record { line = p.line; client = client; number = m; begun = w.begun; lines = w.lines } in
      let here : Contains (commit_in client w p (Some m) ++ commits_of client (working_after w l.command p.text) (drop (suc i) ls) (drop (suc i) ps)) c = Contains-first c (commits_of client (working_after w l.command p.text) (drop (suc i) ls) (drop (suc i) ps)) in
      so_far.commits c (subst (λ xs. Contains (commits_of client w xs (drop i ps)) c) (sym (drop_there ls i l at)) (subst (λ ys. Contains (commits_of client w (l ∷ drop (suc i) ls) ys) c) (sym (drop_there ps i p at')) (subst (λ (o : Option ℕ). Contains (commit_in client w p o ++ commits_of client (working_after w l.command p.text) (drop (suc i) ls) (drop (suc i) ps)) c) (sym found) here)))

-- ---- the clients

module _ (schema : DbSchema) (H : History) (ss : List (List Line)) (pss : List (List Printed)) where
  -- the first k clients are told all
  pub record AreToldSoFar (k : ℕ) : Type 0 where
    pub all : AreAllTold schema H (1 + k) (drop k ss) (drop k pss) → AreAllTold schema H 1 ss pss
    pub first : (line : ℕ) → IsFirstUntold schema H (1 + k) (drop k ss) (drop k pss) line → IsFirstUntold schema H 1 ss pss line

  pub no_client_told_yet : AreToldSoFar 0
  no_client_told_yet = record { all = λ told. told; first = λ line told. told }

  pub client_told : (k : ℕ) (s : List Line) (ps : List Printed) → AreToldSoFar k → slice_get ss k ≡ Some s → slice_get pss k ≡ Some ps → AreTold schema H (1 + k) at_start s ps → AreToldSoFar (suc k)
  client_told k s ps so_far at at' told = record {
    all = λ rest. so_far.all (subst (λ xs. AreAllTold schema H (1 + k) xs (drop k pss)) (sym (drop_there ss k s at)) (subst (λ ys. AreAllTold schema H (1 + k) (s ∷ drop (suc k) ss) ys) (sym (drop_there pss k ps at')) (told, subst (λ (n : ℕ). AreAllTold schema H n (drop (suc k) ss) (drop (suc k) pss)) more rest)));
    first = λ line rest. so_far.first line (subst (λ xs. IsFirstUntold schema H (1 + k) xs (drop k pss) line) (sym (drop_there ss k s at)) (subst (λ ys. IsFirstUntold schema H (1 + k) (s ∷ drop (suc k) ss) ys line) (sym (drop_there pss k ps at')) (inr (told, subst (λ (n : ℕ). IsFirstUntold schema H n (drop (suc k) ss) (drop (suc k) pss) line) more rest))));
  }
    where
      more : 1 + suc k ≡ 1 + k + 1
      more = omega arith

  pub client_untold : (k line : ℕ) (s : List Line) (ps : List Printed) → AreToldSoFar k → slice_get ss k ≡ Some s → slice_get pss k ≡ Some ps → AreToldUpTo schema H (1 + k) at_start s ps line → IsFirstUntold schema H 1 ss pss line
  client_untold k line s ps so_far at at' told = so_far.first line (subst (λ xs. IsFirstUntold schema H (1 + k) xs (drop k pss) line) (sym (drop_there ss k s at)) (subst (λ ys. IsFirstUntold schema H (1 + k) (s ∷ drop (suc k) ss) ys line) (sym (drop_there pss k ps at')) (inl told)))

  pub clients_told : (k : ℕ) → AreToldSoFar k → length ss ≤ k → AreAllTold schema H 1 ss pss
  clients_told k so_far le = so_far.all (subst (λ xs. AreAllTold schema H (1 + k) xs (drop k pss)) (sym (drop_past ss k le)) tt)
