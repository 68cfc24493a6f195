-- A split, a merge and a delete by prefix on small trees, worked out.
use Rattle.std.specs.Prelude.{◌≡◌, ◌∷◌, [], Some, None, refl}
use Rattle.mdb_datum.specs.Row.{Fields}
use Rattle.radix_node.specs.Nodes.{no_nodes, node, Plain}
use Rattle.radix_node.specs.Seek.{seek_plain}
use Rattle.radix_txn.specs.inner.Edits.{insert_plain, remove_plain}
use Rattle.radix_txn.specs.declared.target.Target.TheVariants.{Key, Prefix}

-- no keys
abbrev bare : Plain
bare = record { leaf = None; nodes = no_nodes }

-- the key 1 2 3 with a row, then 1 2 4 with it: the node is split after 1 2
abbrev two_keys : Fields → Plain
two_keys row = insert_plain (1 ∷ 2 ∷ 4 ∷ []) row (insert_plain (1 ∷ 2 ∷ 3 ∷ []) row bare)

split : (row : Fields) → two_keys row ≡ record { leaf = None; nodes = node (1 ∷ 2 ∷ []) None (node (3 ∷ []) (Some (1 ∷ 2 ∷ 3 ∷ [], row)) no_nodes (node (4 ∷ []) (Some (1 ∷ 2 ∷ 4 ∷ [], row)) no_nodes no_nodes)) no_nodes }
split row = refl

-- without 1 2 3 the node above is merged with the one that is left
merged : (row : Fields) → remove_plain Key (1 ∷ 2 ∷ 3 ∷ []) (two_keys row) ≡ record { leaf = None; nodes = node (1 ∷ 2 ∷ 4 ∷ []) (Some (1 ∷ 2 ∷ 4 ∷ [], row)) no_nodes no_nodes }
merged row = refl

-- without what begins with 1 nothing is left
emptied : (row : Fields) → remove_plain Prefix (1 ∷ []) (two_keys row) ≡ bare
emptied row = refl

-- at the path of the split there is no row
unfound : (row : Fields) → seek_plain (1 ∷ 2 ∷ []) (two_keys row) ≡ None
unfound row = refl
