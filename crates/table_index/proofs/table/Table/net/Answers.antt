use Rattle.std.proofs.Common.{◌≡◌, List, IfOk, arith, subst}
use Rattle.mdb_schema.specs.Net.{Net}
use Rattle.table_index.proofs.TableNets.{cells_tell, in_new, tables_net, tree_there}
use Rattle.table_index.proofs.table.Table.net.Goals as goal

pub index-old-requires : goal.index-old-requires
index-old-requires c =
    let trees = c.self.inside.trees in
    let within = tree_there c.self.inside.def trees.items c.self.invariant c.id_place-place.result c.id_place-place.ensures.within in
    omega (arith, within, trees.ok.0)

pub index-new-requires : goal.index-new-requires
index-new-requires c =
    let trees = c.newer.inside.trees in
    let within =
    in_new c.self.inside.def c.newer.inside.def c.self.inside.trees.items trees.items c.args.self.now c.args.newer.now c.self.invariant c.newer.invariant c.self.view_is c.newer.view_is c.requires.schema c.id_place-place.result c.id_place-place.ensures.within in
    omega (arith, within, trees.ok.0)

pub net_of_trees-requires : goal.net_of_trees-requires
net_of_trees-requires c =
    cells_tell c.self.inside.def c.newer.inside.def c.self.inside.trees.items c.newer.inside.trees.items c.args.self.now c.args.newer.now c.self.invariant c.newer.invariant c.self.view_is c.newer.view_is c.requires.schema c.id_place-place.result c.id_place-place.ensures.within
    c.index-old.result.now c.index-new.result.now c.index-old.ensures c.index-new.ensures c.requires.cells

pub returns : goal.returns
returns c =
    subst (λ (ns : List Net). IfOk c.net_of_trees.result (λ n. n ≡ ns))
    (tables_net c.self.inside.def c.newer.inside.def c.self.inside.trees.items c.newer.inside.trees.items c.args.self.now c.args.newer.now c.self.invariant c.newer.invariant c.self.view_is c.newer.view_is c.requires.schema c.id_place-place.result c.id_place-place.ensures.within
    c.index-old.result.now c.index-new.result.now c.index-old.ensures c.index-new.ensures c.len.ensures.lawful c.id_place-place.ensures.placed)
    c.net_of_trees.ensures
