-- Where the watches and the sets stand that a line names, or the rule that the line breaks.
use Rattle.std.specs.Prelude.{◌≡◌, ℕ, Some, Result, Ok, Err, slice_get}
use Rattle.mdb_datum.specs.Bytes.{Bytes}
use Rattle.mdb_schema.specs.Schema.{DbSchema}
use Rattle.client_script.specs.Client as plain
use Rattle.client_script.specs.Client.{Judged, set_named, watch_named}
use Rattle.client_script.specs.RuleName.{rule_name}
use Rattle.client_script.specs.declared.rule.Rule.{Rule}
use Rattle.run_check.specs.declared.watching.Watching.{Watching}
use Rattle.run_check.specs.inner.ClientView.{watches_known, watching_known}

-- the watch of a name stands at this place
pub record IsWatchAt (name : Bytes) (v : Watching) (place : ℕ) : Type 0 where
  pub watch : plain.Watch
  pub named : watch_named name (watches_known v) ≡ Some watch
  pub there : slice_get (watches_known v) place ≡ Some watch

-- the set of a name stands at this place
pub record IsSetAt (name : Bytes) (v : Watching) (place : ℕ) : Type 0 where
  pub set : plain.WatchSet
  pub named : set_named name (watching_known v).sets ≡ Some set
  pub there : slice_get (watching_known v).sets place ≡ Some set

-- ---- as lines are judged

-- the code tells what is judged: its error is the rule, and its value stands for what was found
abbrev pub TellsJudged : {A B : Type 0} → DbSchema → (A → B → Type 0) → Judged A → Result B Rule → Type 0
TellsJudged {A} schema P judged (Ok b) = (a : A) × (judged ≡ Ok a) × P a b
TellsJudged {A} schema P judged (Err rule) = judged ≡ Err (rule_name schema rule)

-- a watch stands at a place
abbrev pub IsPlaceOf : Watching → plain.Watch → ℕ → Type 0
IsPlaceOf v watch place = slice_get (watches_known v) place ≡ Some watch

-- a set does
abbrev pub IsSetPlaceOf : Watching → plain.WatchSet → ℕ → Type 0
IsSetPlaceOf v set place = slice_get (watching_known v).sets place ≡ Some set

-- both do
abbrev pub ArePlacesOf : Watching → plain.WatchSet × plain.Watch → ℕ × ℕ → Type 0
ArePlacesOf v both places = IsSetPlaceOf v both.0 places.0 × IsPlaceOf v both.1 places.1
