use Rattle.std.proofs.Common.{subst}
use Rattle.std.specs.Arc.{arc_value}
use Rattle.mem_txn.specs.inner.Looks.{CellsAreOfBook}
use Rattle.mem_txn.specs.inner.Versions.{Version}
use Rattle.mem_txn.proofs.CellsWatched.{question_of_book}
use Rattle.mem_txn.proofs.read_txn.ReadTxn.view.Goals as goal

pub returns-clause-books : goal.returns-clause-books
returns-clause-books c =
    let v : Version = arc_value c.self.inside.version in
    subst CellsAreOfBook c.self.view_is (λ q cell there. question_of_book v.ids cell v.trees c.self.invariant.within q v.view.schema v.view.state there)
