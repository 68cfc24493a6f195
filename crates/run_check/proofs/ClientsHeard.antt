-- The clients of a text that passes the first three tests, as the code checks them one after the other.
use Rattle.std.proofs.Common.{arith, ◌≡◌, ap, refl, subst, sym, ◌∙◌, ℕ, zero, suc, ◌+◌, ◌-◌, ◌<◌, ◌≤◌, List, [], ◌∷◌, length, map, Option, Some, None, Result, Ok, Err, slice_get, get_or, IsErrAnd, option_map}
use Rattle.std.specs.declared.alloc.Global.{Global}
use Rattle.std.specs.declared.vec.Vec.{Vec}
use Rattle.std.proofs.lemmas.List.{length-map}
use Rattle.std.proofs.lemmas.Option.{slice_get-map, slice_get_read, slice_get_within}
use Rattle.mdb_datum.specs.Bytes.{Bytes}
use Rattle.mdb_schema.specs.History.{History, IsMadeBy}
use Rattle.mdb_schema.specs.LawfulSchema.{IsLawfulSchema}
use Rattle.mdb_schema.specs.Schema.{DbSchema}
use Rattle.mdb_schema.specs.Tests.{◌>>=◌}
use Rattle.client_script.specs.Client.{at_start}
use Rattle.client_script.specs.declared.line.Line.{Line}
use Rattle.run_check.specs.Checked.{IsChecked}
use Rattle.run_check.specs.CommitView.{committed_of}
use Rattle.run_check.specs.Commits as plain
use Rattle.run_check.specs.Commits.{commit_numbered, history_of}
use Rattle.run_check.specs.FirstBad.{AreTold, AreToldUpTo, Found, IsFirstBad, found_by, found_in}
use Rattle.run_check.specs.Output.{output_in}
use Rattle.run_check.specs.Output as outputs
use Rattle.run_check.specs.OutputView.{output_of}
use Rattle.run_check.specs.Reads.{Reads, lists_of}
use Rattle.run_check.specs.Shape as shapes
use Rattle.run_check.specs.Shape.{Read}
use Rattle.run_check.specs.Views.{printed_of}
use Rattle.run_check.specs.declared.commits.Committed.{Committed}
use Rattle.run_check.specs.declared.output.Output.{Output}
use Rattle.run_check.specs.declared.session.Sessions.{Sessions}
use Rattle.run_check.specs.declared.shape.Printed.{Printed}
use Rattle.run_check.specs.declared.stop.Stop.{Stop}
use Rattle.run_check.specs.declared.stop.Stop.TheVariants as stops
use Rattle.run_check.specs.inner.CheckView.{ClientChecked, IsHeard, IsOutputOf, IsReady, Judges}
use Rattle.run_check.specs.inner.HistoryView.{HasMade}
use Rattle.run_check.specs.inner.StoreView.{Begun, StandsFor}
use Rattle.run_check.proofs.FoundTells.{found_tells}
use Rattle.run_check.proofs.HistoryFound.{entry_found}
use Rattle.run_check.proofs.LawsProved.{legal_has_no_bad_line}
use Rattle.run_check.proofs.Outcomes.{IfOk}
use Rattle.run_check.proofs.ShapeTells.{AreRepliesTo, shape_tells}
use Rattle.run_check.proofs.ToldSoFar.{AreToldSoFar, client_told, client_untold, clients_told, no_client_told_yet}
use Rattle.run_check.proofs.VerdictsFound.{bad_by_replies, bad_by_tests, legal_by_all}

-- as many lists of replies as scripts
as_many : (ss : List (List Line)) (pss : List (List shapes.Printed)) → AreRepliesTo ss pss → length pss ≡ length ss
as_many [] [] all = refl
as_many [] (ps ∷ pss) all = absurd all
as_many (s ∷ ss) [] all = absurd all
as_many (s ∷ ss) (ps ∷ pss) all = ap suc (as_many ss pss all.2)

script_there : (ss : List (List Line)) (k : ℕ) → slice_get ss k ≡ None → k < length ss → ⊥
script_there [] k none low = omega (arith, low)
script_there (s ∷ ss) zero none low = cc
script_there (s ∷ ss) (suc k) none low = script_there ss k none (omega (arith, low))

-- the replies of a client, as they are kept
pub replies_there : (clients read : List (Vec Printed Global)) (k : ℕ) (replies : Vec Printed Global) (items : List Printed) → read ≡ clients → k < length read → replies ≡ get_or read k replies → items ≡ replies.items → slice_get (lists_of clients) k ≡ Some (map printed_of items)
replies_there clients read k replies items all low is same =
    let printed : List Printed → Option (List shapes.Printed) = λ xs. Some (map printed_of xs) in
    let there : slice_get clients k ≡ Some replies = ap (λ (xs : List (Vec Printed Global)). slice_get xs k) (sym all) ∙ slice_get_read read (length read) k replies refl low is in
    slice_get-map (λ (v : Vec Printed Global). map printed_of v.items) clients k ∙ ap (option_map (λ (v : Vec Printed Global). map printed_of v.items)) there ∙ ap printed (sym same)

-- ---- verdicts

module _ (schema : DbSchema) (names : List Bytes) (scripts : List (List Line)) (out : Bytes) where
  -- a line that is bad
  pub bad_judged : IsLawfulSchema schema → IsChecked names scripts out → (line : ℕ) → IsFirstBad schema names scripts out line → Judges schema names scripts out (Err (stops.Bad line))
  bad_judged lawful checked line bad = (λ legal. legal_has_no_bad_line schema names scripts out line lawful checked legal bad, bad)

  -- why one of the first three tests ends
  pub tests_judge : IsLawfulSchema schema → IsChecked names scripts out → (stop : Stop) → Reads (output_of scripts) (output_in names scripts out) (Err stop) → Judges schema names scripts out (Err stop)
  tests_judge lawful checked stops.Memory told = tt
  tests_judge lawful checked (stops.Bad line) told = bad_judged lawful checked line (bad_by_tests schema names scripts out line (ap (λ (r : Read outputs.Output). r >>= (λ (output : outputs.Output). found_as (found_by schema output))) told))
    where
      found_as : Found → Read Found
      found_as f = Ok f

  -- it is handed on
  pub judged_on : (stop : Stop) (result : Result (Unit {0}) Stop) → Judges schema names scripts out (Err stop) → IsErrAnd result (λ s. s ≡ stop) → Judges schema names scripts out result
  judged_on stop (Ok u) judged is = absurd is
  judged_on stop (Err s) judged is = subst (λ (t : Stop). Judges schema names scripts out (Err t)) (sym is) judged

-- ---- the clients

-- the one at a place has this script, and was told these replies
pub record IsNext (scripts : List (List Line)) (o : Output) (k : ℕ) (script : List Line) (ps : List shapes.Printed) : Type 0 where
  pub script_is : slice_get scripts k ≡ Some script
  pub replies_are : slice_get (lists_of o.clients.items) k ≡ Some ps

-- what a check of it tells, whatever text it is of
abbrev Hears : DbSchema → ℕ → List Line → List shapes.Printed → Sessions → Sessions → Result (Unit {0}) Stop → Type 0
Hears schema k script ps s s' r = (f : Found) (txns : List Begun) → IsReady schema f.history txns s → IsHeard schema f k script ps → ClientChecked schema f.history (k + 1) script ps s' r

module _ (schema : DbSchema) (names : List Bytes) (scripts : List (List Line)) (out : Bytes) (o : Output) (is : IsOutputOf names scripts out o) where
  -- what was found
  abbrev pub found : Found
  found = found_by schema (output_of scripts o)

  pub found_is : found_in schema names scripts out ≡ Ok (found_by schema (output_of scripts o))
  found_is = ap (λ (r : Read outputs.Output). r >>= (λ (output : outputs.Output). found_as (found_by schema output))) is.read
    where
      found_as : Found → Read Found
      found_as f = Ok f

  abbrev commits : List plain.Committed
  commits = map (committed_of scripts) o.commits.items

  -- ---- before the first client

  pub ready_at_start : IsLawfulSchema schema → (s : Sessions) → s.schema.now ≡ schema → s.commits.now ≡ o.commits.items → s.order.now ≡ o.order.items → s.begun ≡ 0 → HasMade schema (map (committed_of scripts) o.commits.items) (length o.commits.items) s.store → IsReady schema (found_by schema (output_of scripts o)).history [] s
  ready_at_start lawful s schema_is commits_are order_is begun made = λ v sound.
      let same : length o.commits.items ≡ length commits = sym (length-map o.commits.items (committed_of scripts)) in
      let size = made.0 in
      let whole = is.ordered.whole in
      let listed = ap length order_is in
      let sized : length (history_of schema commits (length commits)) ≡ length commits = subst (λ (n : ℕ). length (history_of schema commits n) ≡ n) same made.0 in
      record {
        schema_is = schema_is;
        lawful = lawful;
        stands = subst (λ (n : ℕ). StandsFor schema (history_of schema commits n) [] s.store) same made.1;
        begun = begun;
        counted = listed ∙ whole ∙ sym sized;
        placed = λ m at there.
            let low : at < length commits = is.ordered.within m at (ap (λ (xs : List ℕ). slice_get xs m) (sym order_is) ∙ there) in
            let many = ap length commits_are in
            omega (arith, low, same, many);
        made = λ m at c there here. entry m at c (ap (λ (xs : List ℕ). slice_get xs m) (sym order_is) ∙ there) (ap (λ (xs : List Committed). slice_get xs at) (sym commits_are) ∙ here);
        sound = sound;
      }
    where
      entry : (m at : ℕ) (c : Committed) → slice_get o.order.items m ≡ Some at → slice_get o.commits.items at ≡ Some c → IsMadeBy (history_of schema commits (length commits)) (c.client + 1) (m + 1)
      entry m at c there here =
          let low = slice_get_within o.order.items m at there in
          let whole = is.ordered.whole in
          let next : suc m ≡ m + 1 = omega arith in
          let this : slice_get commits at ≡ Some (committed_of scripts c) = slice_get-map (committed_of scripts) o.commits.items at ∙ ap (option_map (committed_of scripts)) here in
          let numbered : commit_numbered (suc m) commits ≡ Some (committed_of scripts c) = ap (λ (n : ℕ). commit_numbered n commits) next ∙ is.ordered.each m at there ∙ this in
          let made = entry_found schema commits is.ordered.numbered m (omega (arith, low, whole)) (committed_of scripts c) numbered in
          let back : m + 1 - 1 ≡ m = omega arith in (
            omega arith,
            _,
            ap (slice_get (history_of schema commits (length commits))) back ∙ made,
            refl,
          )

  -- ---- client by client

  -- a client that comes next
  pub next_heard : IsLawfulSchema schema → (k : ℕ) (script : List Line) (ps : List shapes.Printed) → IsNext scripts o k script ps → IsHeard schema (found_by schema (output_of scripts o)) k script ps
  next_heard lawful k script ps next = record {
    names = names;
    scripts = scripts;
    out = out;
    lawful = lawful;
    checked = is.checked;
    passes = found_is;
    script_is = next.script_is;
    replies_are = next.replies_are;
  }

  pub all_heard : length o.clients.items ≡ length scripts
  all_heard = sym (length-map o.clients.items (λ (v : Vec Printed Global). map printed_of v.items)) ∙ as_many scripts (lists_of o.clients.items) (subst (IfOk (AreRepliesTo scripts)) (found_tells schema names scripts out (found_by schema (output_of scripts o)) found_is).shaped (shape_tells names scripts out is.checked.named))

-- the first k clients were told all of their replies so, and the check is ready for the next
pub record AreCheckedTo (schema : DbSchema) (scripts : List (List Line)) (o : Output) (k : ℕ) (s : Sessions) : Type 0 where
  pub txns : List Begun
  pub ready : IsReady schema (found_by schema (output_of scripts o)).history txns s
  pub so_far : AreToldSoFar schema (found_by schema (output_of scripts o)).history scripts (lists_of o.clients.items) k

module _ (schema : DbSchema) (names : List Bytes) (scripts : List (List Line)) (out : Bytes) (o : Output) (is : IsOutputOf names scripts out o) where
  abbrev H : History
  H = (found_by schema (output_of scripts o)).history

  pub none_checked_yet : (s : Sessions) → IsReady schema (found_by schema (output_of scripts o)).history [] s → AreCheckedTo schema scripts o 0 s
  none_checked_yet s ready = record { txns = []; ready = ready; so_far = no_client_told_yet schema H scripts (lists_of o.clients.items) }

  -- the next client was told all
  pub one_checked_more : IsLawfulSchema schema → (k : ℕ) (s s' : Sessions) (script : List Line) (ps : List shapes.Printed) → AreCheckedTo schema scripts o k s → IsNext scripts o k script ps → (u : Unit {0}) → Hears schema k script ps s s' (Ok u) → AreCheckedTo schema scripts o (k + 1) s'
  one_checked_more lawful k s s' script ps so_far next u hears =
      let number : k + 1 ≡ 1 + k = omega arith in
      let told = hears (found_by schema (output_of scripts o)) so_far.txns so_far.ready (next_heard schema names scripts out o is lawful k script ps next) in
      record {
        txns = told.0;
        ready = told.2;
        so_far = subst (AreToldSoFar schema H scripts (lists_of o.clients.items)) (search (arith))
            (client_told schema H scripts (lists_of o.clients.items) k script ps so_far.so_far next.script_is next.replies_are (subst (λ (n : ℕ). AreTold schema H n at_start script ps) number told.1));
      }

  -- it can't be told one, or there was no memory
  pub one_not_checked : IsLawfulSchema schema → (k : ℕ) (s s' : Sessions) (script : List Line) (ps : List shapes.Printed) → AreCheckedTo schema scripts o k s → IsNext scripts o k script ps → (stop : Stop) → Hears schema k script ps s s' (Err stop) → Judges schema names scripts out (Err stop)
  one_not_checked lawful k s s' script ps so_far next stops.Memory hears = tt
  one_not_checked lawful k s s' script ps so_far next (stops.Bad line) hears =
      let number : k + 1 ≡ 1 + k = omega arith in
      let told = hears (found_by schema (output_of scripts o)) so_far.txns so_far.ready (next_heard schema names scripts out o is lawful k script ps next) in
      bad_judged schema names scripts out lawful is.checked line
      (bad_by_replies schema names scripts out (found_by schema (output_of scripts o)) (found_is schema names scripts out o is) line
      (client_untold schema H scripts (lists_of o.clients.items) k line script ps so_far.so_far next.script_is next.replies_are (subst (λ (n : ℕ). AreToldUpTo schema H n at_start script ps line) number told)))

  -- all were told all
  pub all_checked : (k : ℕ) (s : Sessions) → AreCheckedTo schema scripts o k s → length o.clients.items ≤ k → Judges schema names scripts out (Ok tt)
  all_checked k s so_far le =
      let many = all_heard schema names scripts out o is in
      legal_by_all schema names scripts out (found_by schema (output_of scripts o)) (found_is schema names scripts out o is) is.checked.named is.checked.small (clients_told schema H scripts (lists_of o.clients.items) k so_far.so_far (omega (arith, le, many)))

  pub no_script_less : (k : ℕ) → slice_get scripts k ≡ None → k < length o.clients.items → Judges schema names scripts out (Ok tt)
  no_script_less k none low =
      let many = all_heard schema names scripts out o is in
      absurd (script_there scripts k none (omega (arith, low, many)))
