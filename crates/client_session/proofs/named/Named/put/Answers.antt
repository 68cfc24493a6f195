use Rattle.std.proofs.Common.{Some}
use Rattle.std.specs.Prelude.{string_bytes}
use Rattle.std.proofs.lemmas.Map.Text.{btree_map_updates_text}
use Rattle.client_session.proofs.named.Named.put.Goals as goal

pub returns-clause-kept : goal.returns-clause-kept
returns-clause-kept g c =
    btree_map_updates_text (string_bytes c.args.name) c.args.self.now.kept c.insert.new.self (Some c.args.value) c.in_ok-insert.ensures.updates
