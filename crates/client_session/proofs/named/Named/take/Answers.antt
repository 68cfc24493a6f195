use Rattle.std.proofs.Common.{rules, ◌≡◌, subst, None, cond}
use Rattle.std.specs.BTreeMap.{get_by_text}
use Rattle.std.specs.Str.{bytes_eq}
use Rattle.std.proofs.lemmas.Map.Text.{btree_map_updates_text}
use Rattle.mdb_datum.specs.Bytes.{Bytes}
use Rattle.client_session.proofs.named.Named.take.Goals as goal

pub returns-clause-left : goal.returns-clause-left
returns-clause-left g c =
    let bytes : c.as_str.result.now ≡ c.args.name.now = search (rules) in
    subst (λ (b : Bytes). (q : Bytes) → get_by_text c.remove.new.self q ≡ cond (bytes_eq b q) None (get_by_text c.args.self.now.kept q)) bytes
    (btree_map_updates_text c.as_str.result.now c.args.self.now.kept c.remove.new.self None c.remove.ensures.updates)
