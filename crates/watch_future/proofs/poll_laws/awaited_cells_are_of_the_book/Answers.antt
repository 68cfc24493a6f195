use Rattle.watch_future.proofs.PollsAgain.{awaited_of_book}
use Rattle.watch_future.proofs.poll_laws.awaited_cells_are_of_the_book.Goals as goal

pub returns : goal.returns
returns c = awaited_of_book _ _ _ _ c.requires
