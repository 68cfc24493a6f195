-- How the logic stores what a transaction stands for.
use Rattle.std.specs.Prelude.{Bool, refl}
use Rattle.std.specs.Coded.{Coded, code_by, coded×, coded_bool}
use Rattle.radix_node.specs.Cells.{CellTree}
use Rattle.radix_node.specs.Codes.{tree_code}
use Rattle.radix_txn.specs.Txn.{Txn}

abbrev pub txn_code : Coded Txn
txn_code =
    code_by (CellTree × (CellTree × Bool)) (coded× tree_code (coded× tree_code coded_bool))
    (λ t. (t.start, (t.tree, t.spoiled))) (λ p. record { start = p.0; tree = p.1.0; spoiled = p.1.1 }) (λ _. refl)
