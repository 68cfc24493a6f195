-- A binary search finds the place.
use Rattle.std.proofs.Common.{rules}
use Rattle.std.proofs.lemmas.Fn.{always_returns_same}
use Rattle.radix_node.proofs.EdgeSearch.{compared, place_found}
use Rattle.radix_node.proofs.edges.Edges.find.Goals as goal

pub returns : goal.returns
returns c =
    let facts = c.binary_search_by.ensures in
    let by_label = facts.position (compared c.args.label) (always_returns_same _ _ _ (λ a r f called. (search rules, search rules))) in
    place_found c.args.label c.args.self.now c.deref.result.now c.binary_search_by.result c.deref.ensures.value c.requires.rising facts.bound by_label
