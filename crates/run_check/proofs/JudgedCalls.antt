-- How lines are judged that name watches and sets, test by test.
use Rattle.std.proofs.Common.{◌≡◌, ◌∙◌, ℕ, Result, Ok, Err, ap, subst, sym}
use Rattle.mdb_datum.specs.Bytes.{Bytes}
use Rattle.mdb_schema.specs.Schema.{DbSchema}
use Rattle.mdb_schema.specs.Tests.{◌>>=◌}
use Rattle.client_script.specs.Client as plain
use Rattle.client_script.specs.Client.{Judged, no_write_open}
use Rattle.client_script.specs.RuleName.{rule_name}
use Rattle.client_script.specs.Turn.{set_called}
use Rattle.client_script.specs.Watching.{check_judged, limit_judged, limited, until_judged, wait_judged, watch_called}
use Rattle.client_script.specs.declared.rule.Rule.{Rule}
use Rattle.run_check.specs.inner.CalledView.{TellsJudged}

-- a rule that `?` hands on
pub rule_handed : {A B : Type 0} (schema : DbSchema) (P : A → B → Type 0) (judged : Judged A) (rule : Rule) (r : Result B Rule) → r ≡ Err rule → judged ≡ Err (rule_name schema rule) → TellsJudged schema P judged r
rule_handed schema P judged rule r is broken = subst (λ (x : Result _ Rule). TellsJudged schema P judged x) (sym is) broken

module _ (v : plain.Client) where
  -- where no write transaction is open, the name decides
  module _ (name : Bytes) where
    abbrev after_free : Judged (Unit {0}) → Judged plain.Watch
    after_free j = j >>= (λ free. watch_called name v)

    pub check_open : (rule : Bytes) → Err rule ≡ no_write_open v.transaction → check_judged v name ≡ Err rule
    check_open rule is = sym (ap after_free is)

    pub check_free : (u : Unit {0}) → Ok u ≡ no_write_open v.transaction → check_judged v name ≡ watch_called name v
    check_free u free = sym (ap after_free free)

  module _ (set : Bytes) where
    abbrev set_after_free : Judged (Unit {0}) → Judged plain.WatchSet
    set_after_free j = j >>= (λ free. set_called set v)

    pub wait_open : (rule : Bytes) → Err rule ≡ no_write_open v.transaction → wait_judged v set ≡ Err rule
    wait_open rule is = sym (ap set_after_free is)

    pub wait_free : (u : Unit {0}) → Ok u ≡ no_write_open v.transaction → wait_judged v set ≡ set_called set v
    wait_free u free = sym (ap set_after_free free)

    -- the set, and then the watch that cancels
    module _ (until : Bytes) where
      abbrev Both : Judged plain.WatchSet → Judged (plain.WatchSet × plain.Watch)
      Both j = j >>= (λ s. watch_called until v >>= (λ w. Ok (s, w)))

      abbrev With : plain.WatchSet → Judged plain.Watch → Judged (plain.WatchSet × plain.Watch)
      With s j = j >>= (λ w. Ok (s, w))

      pub until_breaks : (rule : Bytes) → wait_judged v set ≡ Err rule → until_judged v set until ≡ Err rule
      until_breaks rule is = ap Both is

      pub until_unknown : (s : plain.WatchSet) (rule : Bytes) → wait_judged v set ≡ Ok s → watch_called until v ≡ Err rule → until_judged v set until ≡ Err rule
      until_unknown s rule is none = ap Both is ∙ ap (With s) none

      pub until_found : (s : plain.WatchSet) (w : plain.Watch) → wait_judged v set ≡ Ok s → watch_called until v ≡ Ok w → until_judged v set until ≡ Ok (s, w)
      until_found s w is named = ap Both is ∙ ap (With s) named

    -- the one watch, and then the other
    module _ (limit : ℕ) (name other : Bytes) where
      abbrev First : Judged plain.Watch → Judged plain.Watch
      First j = j >>= (λ w. watch_called other v >>= (λ o. Ok (limited set limit w o v)))

      abbrev Second : plain.Watch → Judged plain.Watch → Judged plain.Watch
      Second w j = j >>= (λ o. Ok (limited set limit w o v))

      pub limit_unknown : (rule : Bytes) → watch_called name v ≡ Err rule → limit_judged v set limit name other ≡ Err rule
      limit_unknown rule is = ap First is

      pub other_unknown : (w : plain.Watch) (rule : Bytes) → watch_called name v ≡ Ok w → watch_called other v ≡ Err rule → limit_judged v set limit name other ≡ Err rule
      other_unknown w rule is none = ap First is ∙ ap (Second w) none

      pub limit_found : (w o : plain.Watch) → watch_called name v ≡ Ok w → watch_called other v ≡ Ok o → limit_judged v set limit name other ≡ Ok (limited set limit w o v)
      limit_found w o is found = ap First is ∙ ap (Second w) found
