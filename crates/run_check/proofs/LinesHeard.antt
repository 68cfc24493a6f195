-- The lines of a client as the code compares them with a text that passes the first three tests.
use Rattle.std.proofs.Common.{arith, ◌≡◌, ◌≢◌, ap, refl, subst, sym, ℕ, zero, suc, ◌+◌, ◌^◌, ◌<◌, ◌≤◌, List, [], ◌∷◌, length, map, Bool, true, false, Option, Some, None, Ok, Err, slice_get, get_or, unwrap_or}
use Rattle.std.proofs.lemmas.List.{length-map}
use Rattle.std.proofs.lemmas.Option.{get_or_from_slice_get, slice_get_within}
use Rattle.mdb_datum.specs.Bytes.{Bytes}
use Rattle.mdb_schema.specs.Schema.{DbSchema}
use Rattle.client_script.specs.Client as plain
use Rattle.client_script.specs.Client.{at_start, set_named}
use Rattle.client_script.specs.declared.command.Command.TheVariants as command
use Rattle.client_script.specs.declared.line.Line.{Line}
use Rattle.run_check.specs.Checked.{IsRead}
use Rattle.run_check.specs.Commits.{Working, no_work, working_after}
use Rattle.run_check.specs.FirstBad.{AreTold, AreToldUpTo, Found, IsTold}
use Rattle.run_check.specs.Shape.{Printed, shape}
use Rattle.run_check.specs.Views.{printed_of}
use Rattle.run_check.specs.declared.client.Client.{Client}
use Rattle.run_check.specs.declared.session.Sessions.{Sessions}
use Rattle.run_check.specs.declared.shape.Printed as kept
use Rattle.run_check.specs.declared.stop.Stop.TheVariants as stops
use Rattle.run_check.specs.inner.CheckView.{ClientChecked, IsHeard, IsReady}
use Rattle.run_check.specs.inner.ClientView.{known}
use Rattle.run_check.specs.inner.Decided.{AreNamed}
use Rattle.run_check.specs.inner.SessionView.{AnswersTold, AreKnown, IsDue, IsKnown}
use Rattle.run_check.specs.inner.StoreView.{Begun}
use Rattle.run_check.proofs.CleanNames.{IfThere, IsCleanCommand, IsCleanSchema, set_found}
use Rattle.run_check.proofs.CleanScripts.{lawful_clean, read_clean}
use Rattle.run_check.proofs.ClientBegins.{known_at_start, ready_again}
use Rattle.run_check.proofs.CommitsDecided.{committed_entry}
use Rattle.run_check.proofs.FoundTells.{found_are_few, found_tells}
use Rattle.run_check.proofs.KnownClients.{FromIn, from_tells, set_from}
use Rattle.run_check.proofs.Outcomes.{IfOk}
use Rattle.run_check.proofs.OutputCut.{AreCleanLines}
use Rattle.run_check.proofs.ShapeCounts.{counted, shape_counts}
use Rattle.run_check.proofs.ShapeTells.{AreRepliesTo, AreSome, shape_tells}
use Rattle.run_check.proofs.SmallReplies.{AreFew, unspent}
use Rattle.run_check.proofs.ToldSoFar.{IsToldSoFar, all_told, none_told_yet, one_told, one_untold}

-- ---- one of many

clean_line : (ls : List Line) (i : ℕ) (l : Line) → AreCleanLines ls → slice_get ls i ≡ Some l → IsCleanCommand l.command
clean_line [] i l clean at = cc
clean_line (x ∷ ls) zero l clean at = subst (λ (y : Line). IsCleanCommand y.command) (ap (λ o. unwrap_or o x) at) clean.0
clean_line (x ∷ ls) (suc i) l clean at = clean_line ls i l clean.1 at

some_text : (ps : List Printed) (i : ℕ) (p : Printed) → AreSome ps → slice_get ps i ≡ Some p → p.text ≢ []
some_text [] i p some at = cc
some_text (x ∷ ps) zero p some at = subst (λ (y : Printed). y.text ≢ []) (ap (λ o. unwrap_or o x) at) some.0
some_text (x ∷ ps) (suc i) p some at = some_text ps i p some.1 at

replies_to : (ss : List (List Line)) (pss : List (List Printed)) (k : ℕ) (s : List Line) (ps : List Printed) → AreRepliesTo ss pss → slice_get ss k ≡ Some s → slice_get pss k ≡ Some ps → (length ps ≡ length s) × AreSome ps
replies_to [] pss k s ps all at at' = cc
replies_to (x ∷ ss) [] k s ps all at at' = cc
replies_to (x ∷ ss) (y ∷ pss) zero s ps all at at' =
    subst (λ (xs : List Line). (length ps ≡ length xs) × AreSome ps) (ap (λ o. unwrap_or o x) at)
    (subst (λ (ys : List Printed). (length ys ≡ length x) × AreSome ys) (ap (λ o. unwrap_or o y) at') (all.0, all.1))
replies_to (x ∷ ss) (y ∷ pss) (suc k) s ps all at at' = replies_to ss pss k s ps all.2 at at'

few_replies : (pss : List (List Printed)) (k : ℕ) (ps : List Printed) → slice_get pss k ≡ Some ps → length ps ≤ counted pss
few_replies [] k ps at = cc
few_replies (x ∷ pss) zero ps at = subst (λ (ys : List Printed). length ys ≤ length x + counted pss) (ap (λ o. unwrap_or o x) at) (omega arith)
few_replies (x ∷ pss) (suc k) ps at = let le = few_replies pss k ps at in omega (arith, le)

named_in : (name : Bytes) (s : plain.WatchSet) (o : Option plain.WatchSet) → o ≡ Some s → IfThere (λ (x : plain.WatchSet). AreNamed x.members) o → AreNamed s.members
named_in name s o is there = subst (IfThere (λ (x : plain.WatchSet). AreNamed x.members)) is there

-- the reply at a place of those that the code keeps
pub reply_at : (replies : List kept.Printed) (i : ℕ) (none : kept.Printed) → i < length replies → slice_get (map printed_of replies) i ≡ Some (printed_of (get_or replies i none))
reply_at [] i none low = absurd (omega (arith, low))
reply_at (p ∷ replies) zero none low = refl
reply_at (p ∷ replies) (suc i) none low = reply_at replies i none (omega (arith, low))

line_there : (ls : List Line) (i : ℕ) → slice_get ls i ≡ None → i < length ls → ⊥
line_there [] i none low = omega (arith, low)
line_there (l ∷ ls) zero none low = cc
line_there (l ∷ ls) (suc i) none low = line_there ls i none (omega (arith, low))

-- ---- the lines of a client

module _ (schema : DbSchema) (found : Found) (k : ℕ) (ls : List Line) (ps : List Printed) (heard : IsHeard schema found k ls ps) where
  abbrev clean : IsCleanSchema schema
  clean = lawful_clean schema heard.lawful

  abbrev few : AreFew schema found.history
  few = found_are_few schema heard.names heard.scripts heard.out found heard.passes heard.lawful heard.checked.small

  shaped : shape heard.names heard.scripts heard.out ≡ Ok found.replies
  shaped = (found_tells schema heard.names heard.scripts heard.out found heard.passes).shaped

  -- a reply to each line, of which no text is empty
  pub as_many : (length ps ≡ length ls) × AreSome ps
  as_many = replies_to heard.scripts found.replies k ls ps (subst (IfOk (AreRepliesTo heard.scripts)) shaped (shape_tells heard.names heard.scripts heard.out heard.checked.named)) heard.script_is heard.replies_are

  few_lines : length ps ≤ 2 ^ 24
  few_lines =
      let all : counted found.replies ≤ length heard.out = subst (IfOk (λ pss. counted pss ≤ length heard.out)) shaped (shape_counts heard.names heard.scripts heard.out) in
      let le = few_replies found.replies k ps heard.replies_are in
      let small = heard.checked.small in
      omega (arith, all, le, small)

  read : IsRead ls
  read = subst IsRead (get_or_from_slice_get heard.scripts k ls [] heard.script_is) (heard.checked.read k [] (slice_get_within heard.scripts k ls heard.script_is))

  -- a line that the client is told next
  pub due : (i : ℕ) (w : Working) (v : plain.Client) (l : Line) (p : Printed) → IsToldSoFar schema heard.lawful found.history (1 + k) ls ps i w v → slice_get ls i ≡ Some l → slice_get ps i ≡ Some p → IsDue schema found.history (1 + k) v p.text
  due i w v l p so_far at at' = record {
    lawful = heard.lawful;
    few = few.commits;
    some = some_text ps i p as_many.1 at';
    unspent = λ x r next spent. unspent schema heard.lawful clean found.history few i (let low = slice_get_within ps i p at' in let le = few_lines in omega (arith, low, le)) v so_far.known.few (1 + k) (command.Write x) r next x spent;
    members = λ name s there. (
      named_in name s (set_named name v.watching.sets) there (set_found name v.watching.sets so_far.known.few.clean.sets),
      from_tells v.watching.watches s.members (subst (FromIn v.watching.watches) there (set_from v.watching.watches name v.watching.sets so_far.known.members)),
    );
    committed = λ t opened same. committed_entry schema heard.lawful clean heard.names heard.scripts heard.out heard.checked.small found heard.passes k ls ps heard.script_is heard.replies_are i w v l p so_far at at' t opened same;
  }

  -- the first i replies were told so, and the check knows what the client does then
  pub record IsToldTo (i : ℕ) (s : Sessions) (v : Client) : Type 0 where
    pub txns : List Begun
    pub work : Working
    pub so_far : IsToldSoFar schema heard.lawful found.history (1 + k) ls ps i work (known txns v)
    pub known : IsKnown schema found.history txns s v

  pub told_none_yet : (txns : List Begun) (s : Sessions) (v : Client) → IsReady schema found.history txns s → known txns v ≡ at_start → IsToldTo 0 s v
  told_none_yet txns s v ready start = record {
    txns = txns;
    work = no_work;
    so_far = subst (IsToldSoFar schema heard.lawful found.history (1 + k) ls ps 0 no_work) (sym start) (none_told_yet schema heard.lawful found.history (1 + k) ls ps);
    known = known_at_start schema found.history txns s v start ready;
  }

  pub are_known : (i : ℕ) (s : Sessions) (v : Client) → IsToldTo i s v → AreKnown s v
  are_known i s v told = (schema, found.history, told.txns, told.known)

  -- ---- the next line

  module _ (i : ℕ) (s : Sessions) (v : Client) (told : IsToldTo i s v) (l : Line) (p : Printed) (at : slice_get ls i ≡ Some l) (at' : slice_get ps i ≡ Some p) where
    number : 1 + k ≡ k + 1
    number = omega arith

    pub is_due : IsDue schema found.history (k + 1) (known told.txns v) p.text
    is_due = subst (λ (n : ℕ). IsDue schema found.history n (known told.txns v) p.text) number (due i told.work (known told.txns v) l p told.so_far at at')

    -- it may be told
    pub one_told_more : (s' : Sessions) (v' : Client) (b : Bool) → b ≡ true → AnswersTold schema found.history (k + 1) l.command p.text (known told.txns v) s' v' (Ok b) → IsToldTo (i + 1) s' v'
    one_told_more s' v' b is answers =
        let may = subst (λ (x : Bool). AnswersTold schema found.history (k + 1) l.command p.text (known told.txns v) s' v' (Ok x)) is answers in
        let low = slice_get_within ps i p at' in
        let le = few_lines in
        let this : IsTold schema found.history (1 + k) (known told.txns v) l.command p.text (known may.0 v') = subst (λ (n : ℕ). IsTold schema found.history n (known told.txns v) l.command p.text (known may.0 v')) (sym number) may.1 in
        record {
          txns = may.0;
          work = working_after told.work l.command p.text;
          so_far = subst (λ (n : ℕ). IsToldSoFar schema heard.lawful found.history (1 + k) ls ps n (working_after told.work l.command p.text) (known may.0 v')) (search (arith))
              (one_told schema heard.lawful found.history (1 + k) ls ps clean few i (omega (arith, low, le)) told.work (known told.txns v) (known may.0 v') l p told.so_far at at' (clean_line ls i l (read_clean ls read) at) this);
          known = may.2;
        }

    -- it can't be told
    pub one_is_untold : (s' : Sessions) (v' : Client) (b : Bool) → b ≡ false → AnswersTold schema found.history (k + 1) l.command p.text (known told.txns v) s' v' (Ok b) → ClientChecked schema found.history (k + 1) ls ps s' (Err (stops.Bad p.line))
    one_is_untold s' v' b is answers =
        let none = subst (λ (x : Bool). AnswersTold schema found.history (k + 1) l.command p.text (known told.txns v) s' v' (Ok x)) is answers in
        subst (λ (n : ℕ). AreToldUpTo schema found.history n at_start ls ps p.line) number
        (one_untold schema heard.lawful found.history (1 + k) ls ps i told.work (known told.txns v) l p told.so_far at at'
        (λ next this. none next (subst (λ (n : ℕ). IsTold schema found.history n (known told.txns v) l.command p.text next) number this)))

  -- all were told
  pub all_are_told : (i : ℕ) (s : Sessions) (v : Client) → IsToldTo i s v → length ps ≤ i → ClientChecked schema found.history (k + 1) ls ps s (Ok tt)
  all_are_told i s v told le =
      let many = as_many.0 in
      let number : 1 + k ≡ k + 1 = omega arith in (
        told.txns,
        subst (λ (n : ℕ). AreTold schema found.history n at_start ls ps) number (all_told schema heard.lawful found.history (1 + k) ls ps i told.work (known told.txns v) told.so_far (omega (arith, le, many)) le),
        ready_again schema found.history told.txns s v told.known,
      )

-- there are no fewer lines than replies
pub no_line_less : (schema : DbSchema) (found : Found) (k : ℕ) (ls : List Line) (replies : List kept.Printed) (heard : IsHeard schema found k ls (map printed_of replies)) (i : ℕ) (s : Sessions) → slice_get ls i ≡ None → i < length replies → ClientChecked schema found.history (k + 1) ls (map printed_of replies) s (Ok tt)
no_line_less schema found k ls replies heard i s none low =
    let many = (as_many schema found k ls (map printed_of replies) heard).0 in
    let same = length-map replies printed_of in
    absurd (line_there ls i none (omega (arith, many, same, low)))
