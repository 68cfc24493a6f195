use Rattle.std.proofs.Common.{◌∙◌, sym, ap, subst, Some, None, map, option_map}
use Rattle.std.proofs.lemmas.Result.{IfOk-weaker}
use Rattle.clap.specs.Words.{found_of}
use Rattle.memdb.specs.inner.CommandLine.{HasClients, to_check}
use Rattle.memdb.proofs.AskedWords.{level_check}
use Rattle.memdb.proofs.words.parsing.read_check.Goals as goal

pub returns-in_default : goal.returns-in_default
returns-in_default c = ap (option_map to_check) (level_check (found_of c.args.found.now) None
    (ap (option_map (λ s. map (λ v. v.now) s.now)) (sym c.in_default.is) ∙ c.get_strs.ensures))

pub checked-requires : goal.checked-requires
checked-requires c =
    let told = level_check (found_of c.args.found.now) (Some (map (λ v. v.now) c.in-Some.files.now))
    (ap (option_map (λ s. map (λ v. v.now) s.now)) (sym c.in-Some.is) ∙ c.get_strs.ensures) in
    record { clients = subst HasClients (sym (ap (option_map to_check) told)) c.requires.clients }

pub returns : goal.returns
returns c =
    let told = level_check (found_of c.args.found.now) (Some (map (λ v. v.now) c.in-Some.files.now))
    (ap (option_map (λ s. map (λ v. v.now) s.now)) (sym c.in-Some.is) ∙ c.get_strs.ensures) in
    IfOk-weaker c.checked.result _ _ (λ r is. is ∙ ap (option_map to_check) told) c.checked.ensures
