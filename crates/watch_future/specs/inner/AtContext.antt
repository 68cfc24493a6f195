-- Notes at a context.
use Rattle.std.specs.Prelude.{◌≡◌, ◌<◌, List, [], ◌∷◌, length}
use Rattle.std.specs.Global.{Global}
use Rattle.std.specs.declared.vec.Vec.{Vec}
use Rattle.futures.specs.Task.{Hears, Holds, IsArmed}
use Rattle.futures.specs.declared.task.context.Context.{Context}
use Rattle.watch_future.specs.Facts.{Fact}
use Rattle.watch_future.specs.Facts.Fact.{lent, in_context, in_order}
use Rattle.watch_future.specs.declared.cx_notes.CxNotes.{CxNotes}
use Rattle.watch_future.specs.declared.noted_watch.NotedWatch.{NotedWatch}

abbrev pub Noting : Type 0
Noting = CxNotes (Vec NotedWatch Global)

-- the poll has registered at the source of each
abbrev pub AreHeard : Context → List NotedWatch → Type 0
AreHeard cx [] = Unit {0}
AreHeard cx (k ∷ ks) = Hears cx k.source.id × AreHeard cx ks

-- the poll has registered at each source that is kept
pub record IsInOrder (n : Noting) : Type 0 where
  pub armed : 0 < length n.kept.items → IsArmed n.cx.now
  pub heard : AreHeard n.cx.now n.kept.items

abbrev pub lasts_at : Noting → Fact → Type 0
lasts_at n (lent g) = n.cx.ghost_name ≡ g
lasts_at n (in_context f) = Holds n.cx.now f
lasts_at n in_order = IsInOrder n
