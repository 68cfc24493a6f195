-- A delete keeps the shape.
use Rattle.std.proofs.Common.{◌<◌, ◌++◌, ◌∷◌, ℕ, List, [], Option, None, Less, Equal, Greater}
use Rattle.std.specs.FinMap.Entries as entries
use Rattle.mdb_datum.specs.Row.{Pair}
use Rattle.radix_node.specs.Nodes.{Nodes, no_nodes, node, Plain, part, first_order}
use Rattle.radix_node.specs.Shape.{FirstBytes, IsShaped, HasShape}
use Rattle.radix_txn.specs.declared.target.Target.{Target}
use Rattle.radix_txn.specs.declared.target.Target.TheVariants.{Key, Prefix}
use Rattle.radix_txn.specs.inner.Edits.{cut, ended, remove, remove_plain}
use Rattle.radix_txn.proofs.Settle.{first_settled, shaped_settled}

shaped_ended : (target : Target) (path : List ℕ) (under : Nodes) → IsShaped path under → IsShaped path (ended target under)
shaped_ended Key path under s = s
shaped_ended Prefix path under s = tt

module _ (b : ℕ) (p : List ℕ) (leaf : Option Pair) (under below later : Nodes) where
  first_cut : (target : Target) (P : ℕ → Type 0) (q k : List ℕ) → P b → FirstBytes P later → FirstBytes P (cut target q k (b ∷ p) leaf under below later)
  first_cut target P [] [] h f = first_settled P b p None (ended target under) later h f
  first_cut target P [] (x ∷ k) h f = first_settled P b p leaf below later h f
  first_cut Key P (y ∷ q) [] h f = (h, f)
  first_cut Prefix P (y ∷ q) [] h f = f
  first_cut target P (y ∷ q) (x ∷ k) h f = (h, f)

  shaped_cut : (target : Target) (path q k : List ℕ) → IsShaped path (node (b ∷ p) leaf under later) → IsShaped (path ++ b ∷ p) below → IsShaped path (cut target q k (b ∷ p) leaf under below later)
  shaped_cut target path [] [] s inner = shaped_settled path b p None (ended target under) later tt (shaped_ended target (path ++ b ∷ p) under s.under) s.apart s.later
  shaped_cut target path [] (x ∷ k) s inner = shaped_settled path b p leaf below later s.keyed inner s.apart s.later
  shaped_cut Key path (y ∷ q) [] s inner = s
  shaped_cut Prefix path (y ∷ q) [] s inner = s.later
  shaped_cut target path (y ∷ q) (x ∷ k) s inner = s

first_remove : (target : Target) (P : ℕ → Type 0) (rest : List ℕ) (ns : Nodes) → FirstBytes P ns → FirstBytes P (remove target rest ns)
first_remove target P rest no_nodes f = tt
first_remove target P rest (node [] leaf under later) f = absurd f
first_remove target P rest (node (b ∷ p) leaf under later) f =
    let parts = part (b ∷ p) rest in
    elim (first_order rest (b ∷ p)) as (λ o. FirstBytes P (entries.by_order o (node (b ∷ p) leaf under later) (cut target parts.1 parts.2 (b ∷ p) leaf under (remove target parts.2 under) later) (node (b ∷ p) leaf under (remove target rest later)))) [
      | Less ↦ f
      | Equal ↦ first_cut b p leaf under (remove target parts.2 under) later target P parts.1 parts.2 f.0 f.1
      | Greater ↦ (f.0, first_remove target P rest later f.1)
    ]

shaped_remove : (target : Target) (path rest : List ℕ) (ns : Nodes) → IsShaped path ns → IsShaped path (remove target rest ns)
shaped_remove target path rest no_nodes s = tt
shaped_remove target path rest (node [] leaf under later) s = absurd s
shaped_remove target path rest (node (b ∷ p) leaf under later) s =
    let parts = part (b ∷ p) rest in
    elim (first_order rest (b ∷ p)) as (λ o. IsShaped path (entries.by_order o (node (b ∷ p) leaf under later) (cut target parts.1 parts.2 (b ∷ p) leaf under (remove target parts.2 under) later) (node (b ∷ p) leaf under (remove target rest later)))) [
      | Less ↦ s
      | Equal ↦ shaped_cut b p leaf under (remove target parts.2 under) later target path parts.1 parts.2 s (shaped_remove target (path ++ b ∷ p) parts.2 under s.under)
      | Greater ↦ record { keyed = s.keyed; branching = s.branching; under = s.under; apart = first_remove target (λ c. b < c) rest later s.apart; later = shaped_remove target path rest later s.later }
    ]

pub shape_remove : (target : Target) (key : List ℕ) (t : Plain) → HasShape t → HasShape (remove_plain target key t)
shape_remove target [] t s = record { keyed = tt; nodes = shaped_ended target [] t.nodes s.nodes }
shape_remove target (x ∷ k) t s = record { keyed = s.keyed; nodes = shaped_remove target [] (x ∷ k) t.nodes s.nodes }
