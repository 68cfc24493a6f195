-- The closure borrows six things. Each is shown by itself, and then their tuple.
use base.Fml.{Lft}
use denote.Param.{param}
use denote.Param.Send.{IsSend, arg_send, param_send, sendable}
use denote.Ref.{NamedLft, ShrRef}
use denote.Struct.Field.{mut_ref_field, shr_ref_field}
use denote.Struct.Tuple.{TupleAt}
use mathlib.Core.List.{[], ◌∷◌}
use mir.Syntax.{Lifetime, Sym}
use Rattle.std.specs.contracts.alloc.Global
use Rattle.std.specs.contracts.option.Option
use Rattle.mem_txn.proofs.Threads.{db_lent, heap_lent, pass_lent, read_lent}
use Rattle.mem_txn.specs.contracts.db.Db
use Rattle.mem_txn.specs.contracts.pass.Pass
use Rattle.mem_txn.specs.contracts.read_txn.ReadTxn
use Rattle.txn_tests.proofs.txns.four_callers.four_run.Goals as goal

pub join_mut-first-requires-send-F : goal.join_mut-first-requires-send-F
join_mut-first-requires-send-F g c κs within =
    let runtime_lent : (ℓ : Lifetime) (κ : Lft) → IsSend (ShrRef ℓ κ (param 0 g.row.R)) =
    λ ℓ κ. search (sendable, c.type_bounds.sync-R) depth 20
    in
    let all_lent :
    (ν : Sym) (r h d k p q : NamedLft)
    → IsSend (TupleAt ν ((shr_ref_field r (param 0 g.row.R) tt).row
    ∷ (shr_ref_field h Global.the_row tt).row ∷ (shr_ref_field d Db.the_row tt).row
    ∷ (shr_ref_field k ReadTxn.the_row tt).row
    ∷ (mut_ref_field p (Option.the_row Pass.the_row) tt).row ∷ (mut_ref_field q (Option.the_row Pass.the_row) tt).row ∷ [])) =
    λ ν r h d k p q. search (sendable, runtime_lent, heap_lent, db_lent, read_lent, pass_lent) depth 20
    in
    search (param_send, arg_send, all_lent)
