use Rattle.std.proofs.Common.{◌≡◌, ◌+◌, ◌++◌, ◌∙◌, ap, subst, codes, Result, Err}
use Rattle.std.specs.Bool.{Decides}
use Rattle.std.proofs.lemmas.Bool.Decides.{Decides-eqb}
use Rattle.std.proofs.lemmas.Slice.Eq.{slice_eq-Decides}
use Rattle.mdb_datum.specs.Bytes.{Bytes}
use Rattle.mdb_schema.specs.Schema.{DbSchema}
use Rattle.client_script.specs.RuleName.{rule_name}
use Rattle.run_check.specs.declared.session.Refused.{Refused}
use Rattle.run_check.specs.inner.ClientView.{known}
use Rattle.run_check.proofs.LineTold.{made_besides, made_tells, other_text, refusal_told}
use Rattle.run_check.proofs.session.Sessions.is_told.Goals as goal

pub returns-in-Ok : goal.returns-in-Ok
returns-in-Ok c = record {
  told = λ schema H txns knows due.
      let before = known txns c.args.knows.now in
      let text = c.args.text.now in
      let tells = c.in-Ok.ensures.told schema H txns (other_text schema H txns c.args.self.now c.args.knows.now c.clear.new.self knows) due c.clear.ensures.items in
      let same = slice_eq-Decides Decides-eqb c.as_slice.result.now text c.eq.result c.eq.ensures in
      made_tells schema H (c.args.client + 1) c.args.command.now text before c.carry_out.new.self c.carry_out.new.knows c.carry_out.new.self.text.items tells c.eq.result
      (subst (λ (bs : Bytes). Decides c.eq.result (bs ≡ text)) c.as_slice.ensures.value same);
}

pub returns-in_ok-write-in-Err-By : goal.returns-in_ok-write-in-Err-By
returns-in_ok-write-in-Err-By c = record {
  told = λ schema H txns knows due.
      let before = known txns c.args.knows.now in
      let text = c.args.text.now in
      let client = c.args.client + 1 in
      let tells = c.carry_out.ensures.told schema H txns (other_text schema H txns c.args.self.now c.args.knows.now c.clear.new.self knows) due c.clear.ensures.items in
      let failed : Refused → Result (Unit {0}) Refused = λ e. Err e in
      let made = refusal_told schema H client c.args.command.now text before c.carry_out.new.self c.carry_out.new.knows c.in-Err-By.rule c.carry_out.result (c.in-Err-By.is ∙ ap failed c.in-Err-By.field-0-is) tells in
      let wrote : DbSchema → Bytes = λ x. codes "refused " ++ rule_name x c.in-Err-By.rule in
      let written : c.write.new.out.items ≡ wrote schema = c.in_ok-write-in-Err-By.ensures.text ∙ ap (λ (bs : Bytes). bs ++ wrote c.args.self.now.schema.now) c.clear-in-Err-By.ensures.items ∙ ap wrote knows.schema_is in
      let same = slice_eq-Decides Decides-eqb c.as_slice-in-Err-By.result.now text c.eq-in-Err-By.result c.eq-in-Err-By.ensures in
      made_tells schema H client c.args.command.now text before (record c.carry_out.new.self { text = c.write.new.out }) c.carry_out.new.knows (wrote schema)
      (made_besides schema H client c.args.command.now text before c.carry_out.new.self c.carry_out.new.knows (wrote schema) c.write.new.out made) c.eq-in-Err-By.result
      (subst (λ (bs : Bytes). Decides c.eq-in-Err-By.result (bs ≡ text)) (c.as_slice-in-Err-By.ensures.value ∙ written) same);
}
