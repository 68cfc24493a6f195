-- What a client is told that is alone is legal output.
use Rattle.std.proofs.Common.{arith, ◌≡◌, refl, ap, subst, sym, ◌∙◌, ℕ, suc, ◌+◌, List, [], ◌∷◌, ◌++◌, length, map, Some, slice_get, IsPermutation}
use Rattle.std.specs.List.{enumerate_from}
use Rattle.std.proofs.lemmas.List.{append-nil, length-append, append_assoc, map-append, length-map}
use Rattle.std.proofs.lemmas.List.Sorted.{IsPermutation-refl}
use Rattle.mdb_datum.specs.Bytes.{Bytes}
use Rattle.mdb_schema.specs.History.{Commit, History}
use Rattle.mdb_schema.specs.Schema.{DbSchema}
use Rattle.client_script.specs.Alone.{Request, as_command, AreRequests, turn, alone, then_told, joined, commit_printed}
use Rattle.client_script.specs.Client.{Writing, Transaction, writing, Client, at_start}
use Rattle.client_script.specs.Legal.{Legal, printed, number_printed, callers}
use Rattle.client_script.specs.Reply.{Reply, output_text}
use Rattle.client_script.specs.Session.{IsAnswered, IsEntry, Runs}
use Rattle.client_script.specs.Turn.{outcome}
use Rattle.client_script.specs.declared.command.Command.{Command}
use Rattle.client_script.specs.declared.line.Line.{Line}
use Rattle.client_script.specs.Within.{IsWithin}
use Rattle.client_script.proofs.EachTurn.{turn_answers}
use Rattle.client_script.proofs.LongerHistory.{no_entry, next_within, turn_longer, start_within}
use Rattle.client_script.proofs.OneClient.{IsOn, StandsOn, TellsCommit, Keeps, same, commits, keeps, within_up}

-- what is told from a history on: it grows by the commits that are printed, numbered on, and the
-- replies are a session of the grown history
record Lives (schema : DbSchema) (ls : List Line) (H : History) (v : Client) (told : List Reply × History) : Type 0 where
  more : History
  grown : told.1 ≡ H ++ more
  end : Client
  runs : Runs schema told.1 1 v ls told.0 end
  numbers : map (λ m. (m, 1)) (printed told.0) ≡ enumerate_from (length H + 1) (callers more)

enumerate_both : {A : Type 0} (n k : ℕ) (xs ys : List A) → n + length xs ≡ k → enumerate_from n (xs ++ ys) ≡ enumerate_from n xs ++ enumerate_from k ys
enumerate_both n k [] ys e = ap (λ (m : ℕ). enumerate_from m ys) (here e)
  where
    here : n + 0 ≡ k → n ≡ k
    here e = omega arith
enumerate_both n k (x ∷ xs) ys e = ap (λ (ps : List (ℕ × _)). (n, x) ∷ ps) (enumerate_both (n + 1) k xs ys (omega arith))

-- the entry behind a list
entry_behind : (H more : History) (c : Commit) → slice_get (H ++ c ∷ more) (length H) ≡ Some c
entry_behind [] more c = refl
entry_behind (h ∷ H) more c = entry_behind H more c

module _ (schema : DbSchema) (H : History) (v : Client) (l : Line) (ls : List Line) (q : Request) (r : Reply) (next : Client) where
  -- the first line and the others
  first : (told : List Reply × History) (cs : History) → v.last ≡ length H → IsWithin (length H) v → l.command ≡ as_command q → outcome v (turn schema H (length H) v q) ≡ (r, next) → ((more : History) → told.1 ≡ H ++ (cs ++ more) → IsEntry told.1 1 v.transaction r) → map (λ m. (m, 1)) (number_printed r) ≡ enumerate_from (length H + 1) (callers cs) → Lives schema ls (H ++ cs) next told → Lives schema (l ∷ ls) H v (joined r told)
  first told cs last within known says entry number lives =
      let grown : told.1 ≡ H ++ (cs ++ lives.more) = lives.grown ∙ append_assoc H cs lives.more in
      record {
        more = cs ++ lives.more;
        grown = grown;
        end = lives.end;
        runs = (
          next,
          record {
            now = length H;
            not_older = search (arith, last);
            there = rw (grown, length-append H (cs ++ lives.more)) (search (arith));
            says = subst (λ (c : Command). IsAnswered schema told.1 1 (length H) v c r next) (sym known) (turn_answers schema told.1 1 (length H) v q r next (ap (λ (G : History). outcome v (turn schema G (length H) v q)) grown ∙ ap (outcome v) (turn_longer schema H (cs ++ lives.more) (length H) v q within) ∙ says));
            entry = entry lives.more grown;
          },
          lives.runs,
        );
        numbers =
            map-append (λ m. (m, 1)) (number_printed r) (printed told.0)
            ∙ ap (λ (ps : List (ℕ × ℕ)). ps ++ map (λ m. (m, 1)) (printed told.0)) number
            ∙ ap (λ (ps : List (ℕ × ℕ)). enumerate_from (length H + 1) (callers cs) ++ ps) lives.numbers
            ∙ sym (ap (enumerate_from (length H + 1)) (map-append (λ (c : Commit). c.caller) cs lives.more) ∙ enumerate_both (length H + 1) (length (H ++ cs) + 1) (callers cs) (callers lives.more) (rw (length-append H cs, length-map cs (λ (c : Commit). c.caller)) (omega arith)));
      }

  first_same : (told : List Reply × History) → v.last ≡ length H → IsWithin (length H) v → l.command ≡ as_command q → outcome v (turn schema H (length H) v q) ≡ (r, next) → number_printed r ≡ [] → Lives schema ls H next told → Lives schema (l ∷ ls) H v (joined r told)
  first_same told last within known says none lives = first told [] last within known says (λ more grown. no_entry told.1 1 v.transaction r none) (ap (map (λ m. (m, 1))) none) (subst (λ (G : History). Lives schema ls G next told) (sym (append-nil H)) lives)

  first_commit : (told : List Reply × History) (t : Writing) → v.transaction ≡ writing t → t.number ≡ length H → TellsCommit (suc (length H)) r → v.last ≡ length H → IsWithin (length H) v → l.command ≡ as_command q → outcome v (turn schema H (length H) v q) ≡ (r, next) → Lives schema ls (H ++ record { caller = 1; writes = t.writes } ∷ []) next told → Lives schema (l ∷ ls) H v (joined r told)
  first_commit told t is stands commit last within known says lives = first told (record { caller = 1; writes = t.writes } ∷ []) last within known says (λ more grown. entry more grown) (ap (λ (x : Reply). map (λ m. (m, 1)) (number_printed x)) commit.is ∙ number) lives
    where
      numbered : List ℕ → List (ℕ × ℕ)
      numbered ms = map (λ m. (m, 1)) ms

      number : numbered (suc (length H) ∷ []) ≡ numbered ((length H + 1) ∷ [])
      number = ap (λ (m : ℕ). numbered (m ∷ [])) (search (arith))

      entry : (more : History) → told.1 ≡ H ++ (record { caller = 1; writes = t.writes } ∷ more) → IsEntry told.1 1 v.transaction r
      entry more grown = subst (λ (x : Transaction). IsEntry told.1 1 x r) (sym is) (subst (λ (x : Reply). IsEntry told.1 1 (writing t) x) (sym commit.is) (subst (λ (n : ℕ). slice_get told.1 n ≡ Some (record { caller = 1; writes = t.writes })) (sym stands) (ap (λ (G : History). slice_get G (length H)) grown ∙ entry_behind H more (record { caller = 1; writes = t.writes }))))

alone_lives : (schema : DbSchema) (ls : List Line) (qs : List Request) (H : History) (v : Client) → AreRequests ls qs → IsOn (length H) v → IsWithin (length H) v → Lives schema ls H v (alone schema qs H v)
alone_lives schema [] (q ∷ qs) H v known on within = absurd known
alone_lives schema (l ∷ ls) [] H v known on within = absurd known
alone_lives schema [] [] H v known on within = record { more = []; grown = sym (append-nil H); end = v; runs = refl; numbers = refl }
alone_lives schema (l ∷ ls) (q ∷ qs) H v known on within = one (outcome v (turn schema H (length H) v q)) refl (keeps (length H) schema H v q on) (next_within (length H) schema H (length H) v q (search (arith)) within) (λ G next. alone_lives schema ls qs G next known.1)
  where
    one : (p : Reply × Client) → outcome v (turn schema H (length H) v q) ≡ p → Keeps (length H) v p → IsWithin (length H) p.1 → ((G : History) (next : Client) → IsOn (length G) next → IsWithin (length G) next → Lives schema ls G next (alone schema qs G next)) → Lives schema (l ∷ ls) H v (then_told (alone schema qs) H v.transaction p)
    one (r, next) says (same none makes on') within' others =
        subst (λ (G : History). Lives schema (l ∷ ls) H v (joined r (alone schema qs G next))) (sym (ap (λ (cs : History). H ++ cs) makes ∙ append-nil H))
        (first_same schema H v l ls q r next (alone schema qs H next) on.last within known.0 says none (others H next on' within'))
    one (r, next) says (commits t is commit on') within' others =
        subst (λ (cs : History). Lives schema (l ∷ ls) H v (joined r (alone schema qs (H ++ cs) next))) (sym (ap (λ (x : Transaction). commit_printed r x) is ∙ ap (λ (x : Reply). commit_printed x (writing t)) commit.is))
        (first_commit schema H v l ls q r next (alone schema qs (H ++ c ∷ []) next) t is (subst (StandsOn (length H)) is on.transaction) commit on.last within known.0 says (others (H ++ c ∷ []) next (subst (λ (n : ℕ). IsOn n next) size on') (subst (λ (n : ℕ). IsWithin n next) size (within_up (length H) next within'))))
      where
        c : Commit
        c = record { caller = 1; writes = t.writes }

        size : suc (length H) ≡ length (H ++ c ∷ [])
        size = rw (length-append H (c ∷ [])) (search (arith))

-- the replies to a client that is alone, and their text, are legal
pub alone_is_legal : (schema : DbSchema) (name : Bytes) (script : List Line) (requests : List Request) → AreRequests script requests → Legal schema (name ∷ []) (script ∷ []) (output_text 1 (name ∷ []) (script ∷ []) ((alone schema requests [] at_start).0 ∷ []))
alone_is_legal schema name script requests known =
    let told = alone schema requests [] at_start in
    let lives = alone_lives schema script requests [] at_start known (record { last = refl; transaction = tt }) (start_within 0) in
    record {
      replies = told.0 ∷ [];
      named = refl;
      written = refl;
      history = told.1;
      numbers = subst (λ (ps : List (ℕ × ℕ)). IsPermutation (enumerate_from 1 (callers told.1)) ps) (sym (append-nil (map (λ m. (m, 1)) (printed told.0)) ∙ lives.numbers ∙ ap (λ (G : History). enumerate_from 1 (callers G)) (sym lives.grown))) (IsPermutation-refl _);
      sessions = ((lives.end, lives.runs), tt);
    }
