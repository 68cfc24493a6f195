-- What made clients leave when all are done.
use Rattle.std.proofs.Common.{◌≡◌, refl, ap, subst, ℕ, zero, suc, ◌+◌, length}
use Rattle.mem_txn.specs.Database.{AreNamed, View}
use Rattle.memdb.specs.Made.{AreInRange, Numbers}
use Rattle.memdb.specs.inner.LastState.{IsLast, IsLastMade}
use Rattle.memdb.specs.inner.MadeInputs.{made_schema, made_scripts, scripts_from}
use Rattle.memdb.proofs.RowsLeft.{made_rows}
use Rattle.memdb.proofs.SessionsMade.{made_history}

scripts_long : (n : Numbers) (k more : ℕ) → length (scripts_from n k more) ≡ more
scripts_long n k zero = refl
scripts_long n k (suc more) = ap suc (scripts_long n (k + 1) more)

-- a script for each client
pub as_many_scripts : (n : Numbers) → length (made_scripts n) ≡ n.clients
as_many_scripts n = scripts_long n 1 n.clients

-- the sessions of made scripts leave what made clients leave
pub last_made : (n : Numbers) (view : View) → AreInRange n → IsLast made_schema (made_scripts n) view → IsLastMade n view
last_made n view range last =
    let named : AreNamed n.clients last.history = subst (λ (m : ℕ). AreNamed m last.history) (as_many_scripts n) last.named in
    record {
      range = range;
      history = last.history;
      left = made_rows n last.history range named (made_history n last.history last.replies range named last.sessions last.own);
      view = last.view;
    }
