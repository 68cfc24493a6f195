use Rattle.std.proofs.Common.{◌≡◌, ◌∙◌, ◌||◌, Ok, true, sym, ap, inr, refl}
use Rattle.mdb_schema.specs.Write.{has_key, missing}
use Rattle.mdb_schema.proofs.FullKeys.{ended_keys, enough_here, has_enough, may_miss, missing_here}
use Rattle.run_check.proofs.keys.full_keys_in.Goals as goal
use Rattle.run_check.proofs.keys.full_keys_in.Goals.{else-not-allow_missing-via-then-not-allow_missing+else-len-eq0, else-not-allow_missing-via-else-not-allow_missing}

pub returns-then-len-eq0 : goal.returns-then-len-eq0
returns-then-len-eq0 c =
    inr (
      missing c.args.place,
      missing_here c.args.id.now c.args.row.now c.args.place c.args.index.now c.in_ok-keys.keys c.in_ok-keys.ensures
          (sym c.allow_missing.ensures ∙ c.if-not-allow_missing.true) (sym c.len.ensures ∙ c.if-len-eq0.true),
      refl,
    )

pub returns : goal.returns
returns c =
    let i = c.args.index.now in
    let enough : (i.allow_missing || has_key c.in_ok-keys.keys) ≡ true = elim c.else-not-allow_missing.branch [
      | else-not-allow_missing-via-then-not-allow_missing+else-len-eq0 w ↦ has_enough i.allow_missing c.in_ok-keys.keys (λ none. w.if-len-eq0.false (w.len.ensures ∙ none))
      | else-not-allow_missing-via-else-not-allow_missing w ↦ may_miss i.allow_missing c.in_ok-keys.keys (sym c.allow_missing.ensures ∙ w.if-not-allow_missing.false)
    ] in
    enough_here c.args.id.now c.args.row.now c.args.place i c.in_ok-keys.keys c.in_ok-keys.ensures enough
    ∙ ap Ok (sym (c.in_ok-with_ending.ensures ∙ ended_keys i c.args.id.now c.ending.result.now c.in_ok-keys.keys c.ending.ensures))
