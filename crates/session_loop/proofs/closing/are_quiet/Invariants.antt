use Rattle.std.proofs.Common.{drop}
use Rattle.session_loop.specs.inner.Rest.{NoneFired}
use Rattle.watch_set.specs.Members.{watches_of}
use Rattle.session_loop.proofs.closing.are_quiet.Given as goal

-- if none of the others has fired, none of all has
abbrev pub invariant-loop-place : goal.invariant-loop-place
invariant-loop-place l = NoneFired l.front (watches_of (drop l.place l.set)) → NoneFired l.front (watches_of l.set)
