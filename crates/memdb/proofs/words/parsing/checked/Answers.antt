-- The last word is parted from those before it.
use Rattle.std.proofs.Common.{arith, inl, inr, ◌≡◌, ◌≤◌, ◌∙◌, sym, ap, ap₂, subst, true, length, map, Some, option_map}
use Rattle.std.proofs.lemmas.Bool.Decides.{nat_tests}
use Rattle.std.specs.List.{list_all}
use Rattle.memdb.specs.inner.CommandLine.{HasClients, to_check}
use Rattle.run_io.specs.Named.{Named, may_name_a_file}
use Rattle.memdb.proofs.AskedWords.{no_check, some_check}
use Rattle.memdb.proofs.words.parsing.checked.Goals as goal

pub returns-then-is_empty : goal.returns-then-is_empty
returns-then-is_empty c =
    let s = c.in-Some-split_first in
    no_check c.args.words.now c.in-Some.inputs.now s.clients.now s.schema.now c.in-Some.output.now c.in-Some.ensures.cases.0 s.ensures.cases.0 (elim c.then-is_empty.either [
      | inl empty ↦ inl (sym c.is_empty.ensures ∙ empty)
      | inr over ↦ inr over.1
    ])

pub invariant_of-result : goal.invariant_of-result
invariant_of-result c =
    let s = c.in-Some-split_first in
    let not = c.if-is_empty.false in
    let is = c.is_empty.ensures in
    let some : 1 ≤ length s.clients.now = grind (arith, nat_tests) in
    let told = some_check c.args.words.now c.in-Some.inputs.now s.clients.now s.schema.now c.in-Some.output.now c.in-Some.ensures.cases.0 s.ensures.cases.0 some (omega (arith, c.if-clients-gt64.false)) in
    let plain : list_all may_name_a_file (map (λ w. w.now) s.clients.now) ≡ true = subst HasClients (ap (option_map to_check) told) c.requires.clients in
    record { plain = ap (λ (n : Named). list_all may_name_a_file n.clients) c.in_ok-inputs.ensures ∙ plain }

pub returns : goal.returns
returns c =
    let s = c.in-Some-split_first in
    let not = c.if-is_empty.false in
    let is = c.is_empty.ensures in
    let some : 1 ≤ length s.clients.now = grind (arith, nat_tests) in
    let told = some_check c.args.words.now c.in-Some.inputs.now s.clients.now s.schema.now c.in-Some.output.now c.in-Some.ensures.cases.0 s.ensures.cases.0 some (omega (arith, c.if-clients-gt64.false)) in
    ap₂ (λ n o. Some (to_check (record { inputs = n; output = o }))) c.in_ok-inputs.ensures c.in_ok-output.ensures
    ∙ sym (ap (option_map to_check) told)
