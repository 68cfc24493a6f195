use Rattle.std.proofs.Common.{◌∙◌, sym, refl, ap, Some, None, map, option_map}
use Rattle.clap.specs.Words.{found_of}
use Rattle.memdb.specs.inner.CommandLine.{to_run}
use Rattle.memdb.proofs.AskedWords.{clients_found, level_files}
use Rattle.memdb.proofs.words.parsing.read_run.Goals as goal

pub returns-in_default : goal.returns-in_default
returns-in_default c =
    ap (option_map to_run) (level_files (found_of c.args.found.now) None _ (ap (option_map (λ s. s.now)) (sym c.in_default.is) ∙ c.get_str.ensures) refl)

pub returns-in_default-get_strs : goal.returns-in_default-get_strs
returns-in_default-get_strs c = ap (option_map to_run) (level_files (found_of c.args.found.now) (Some c.in-Some.schema.now) None
    (ap (option_map (λ s. s.now)) (sym c.in-Some.is) ∙ c.get_str.ensures)
    (ap (option_map (λ s. map (λ v. v.now) s.now)) (sym c.in_default-get_strs.is) ∙ c.get_strs.ensures))

pub named-requires-clause-some : goal.named-requires-clause-some
named-requires-clause-some c = (clients_found (found_of c.args.found.now) c.in-Some.schema.now c.in-Some-get_strs.clients.now
    (ap (option_map (λ s. s.now)) (sym c.in-Some.is) ∙ c.get_str.ensures)
    (ap (option_map (λ s. map (λ v. v.now) s.now)) (sym c.in-Some-get_strs.is) ∙ c.get_strs.ensures) c.requires.clients).0

pub named-requires-clause-few : goal.named-requires-clause-few
named-requires-clause-few c = (clients_found (found_of c.args.found.now) c.in-Some.schema.now c.in-Some-get_strs.clients.now
    (ap (option_map (λ s. s.now)) (sym c.in-Some.is) ∙ c.get_str.ensures)
    (ap (option_map (λ s. map (λ v. v.now) s.now)) (sym c.in-Some-get_strs.is) ∙ c.get_strs.ensures) c.requires.clients).1

pub returns : goal.returns
returns c = ap (λ n. Some (to_run n)) c.in_ok-named.ensures
    ∙ ap (option_map to_run) (level_files (found_of c.args.found.now) (Some c.in-Some.schema.now) (Some (map (λ v. v.now) c.in-Some-get_strs.clients.now))
    (ap (option_map (λ s. s.now)) (sym c.in-Some.is) ∙ c.get_str.ensures)
    (ap (option_map (λ s. map (λ v. v.now) s.now)) (sym c.in-Some-get_strs.is) ∙ c.get_strs.ensures))
