use Rattle.std.proofs.Common.{rules, ◌≡◌, ap, ◌∙◌, None, Some, length}
use Rattle.std.specs.Prelude.{string_bytes}
use Rattle.std.proofs.lemmas.Map.Text.{btree_map_updates_text}
use Rattle.run_check.specs.inner.NamedView.{place_in}
use Rattle.run_check.specs.inner.PlacesOfNames.{texts_of}
use Rattle.run_check.proofs.NamesAdded.{one_more_name}
use Rattle.run_check.proofs.names.Names.add.Goals as goal

pub invariant_of-self-2 : goal.invariant_of-self-2
invariant_of-self-2 c =
    let key = string_bytes c.in_ok-key.key in
    let list = c.self.inside.list.items in
    let is : key ≡ c.args.name.now = search (rules) in
    let free : place_in c.args.name.now (texts_of list) ≡ None = ap (place_in c.args.name.now) c.self.view_is ∙ c.requires in
    let place : c.len.result ≡ length list = search (rules) in
    one_more_name c.self.inside.places c.insert.new.self list c.push.new.self.items c.args.name key c.len.result is place free (search (rules)) (btree_map_updates_text key c.self.inside.places c.insert.new.self (Some c.len.result) c.in_ok-insert.ensures.updates) c.self.invariant
