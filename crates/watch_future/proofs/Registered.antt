-- Sources that a poll has registered at.
use Rattle.std.proofs.Common.{◌≡◌, ◌∙◌, ◌<◌, ◌++◌, inl, inr, ℕ, List, [], ◌∷◌, length, Option, Some, Result, sym, ap, subst, arith}
use Rattle.futures.specs.Poll.{OnPending}
use Rattle.futures.specs.declared.task.Poll.{Poll}
use Rattle.futures.specs.declared.task.Poll.TheVariants.{Ready, Pending}
use Rattle.futures.specs.Task.{Covers, Hears, IsArmed, Keeps, Lasting}
use Rattle.futures.specs.declared.task.context.Context.{Context}
use Rattle.watch_future.specs.inner.AtContext.{AreHeard, IsInOrder, Noting, lasts_at}
use Rattle.watch_future.specs.Cells.{with_cells}
use Rattle.watch_future.specs.Facts.{Fact}
use Rattle.watch_future.specs.Facts.Fact.{lent, in_context, in_order}
use Rattle.watch_future.specs.NotedWatches.{HasSource, cells_noted}
use Rattle.watch_future.specs.Polls.{NotesPoll}
use Rattle.watch_future.specs.declared.noted_watch.NotedWatch.{NotedWatch}
use Rattle.std.specs.declared.alloc.AllocError.{AllocError}
use Rattle.watch_set.specs.declared.woken.Woken.{Woken}
use Rattle.watch_word.specs.Logs.{Cell}

pub heard_longer : (old new : Context) (ks : List NotedWatch) → Keeps old new → AreHeard old ks → AreHeard new ks
heard_longer old new [] keeps all = tt
heard_longer old new (k ∷ ks) keeps all = (keeps (Lasting.hears k.source.id) all.0, heard_longer old new ks keeps all.1)

pub one_heard : (cx : Context) (ks : List NotedWatch) (k : NotedWatch) → AreHeard cx ks → Hears cx k.source.id → AreHeard cx (ks ++ k ∷ [])
one_heard cx [] k all one = (one, tt)
one_heard cx (x ∷ xs) k all one = (all.0, one_heard cx xs k all.1 one)

hears-each : (cx : Context) (ks : List NotedWatch) → AreHeard cx ks → (s : ℕ) → HasSource ks s → Hears cx s
hears-each cx [] all s none = absurd none
hears-each cx (k ∷ ks) all s (inl same) = subst (Hears cx) (sym same) all.0
hears-each cx (k ∷ ks) all s (inr there) = hears-each cx ks all.1 s there

-- where the reference and the context's facts stay, and the order too, all lasts
pub all_last : (old new : Noting) → new.cx.ghost_name ≡ old.cx.ghost_name → Keeps old.cx.now new.cx.now → (IsInOrder old → IsInOrder new)
    → (f : Fact) → lasts_at old f → lasts_at new f
all_last old new same keeps order (lent g) is = same ∙ is
all_last old new same keeps order (in_context f) is = keeps f is
all_last old new same keeps order in_order is = order is

-- one more source that was registered at
pub order_more : (old new : Noting) (k : NotedWatch) → Keeps old.cx.now new.cx.now → IsArmed new.cx.now → Hears new.cx.now k.source.id
    → new.kept.items ≡ old.kept.items ++ k ∷ [] → IsInOrder old → IsInOrder new
order_more old new k keeps armed one more order = record {
  armed = λ _. armed;
  heard = subst (AreHeard new.cx.now) (sym more) (one_heard new.cx.now old.kept.items k (heard_longer old.cx.now new.cx.now old.kept.items keeps order.heard) one);
}

-- and none
pub order_same : (old new : Noting) → Keeps old.cx.now new.cx.now → new.kept.items ≡ old.kept.items → IsInOrder old → IsInOrder new
order_same old new keeps same order = record {
  armed = λ some. keeps Lasting.armed (order.armed (subst (λ (l : List NotedWatch). 0 < length l) same some));
  heard = subst (AreHeard new.cx.now) (sym same) (heard_longer old.cx.now new.cx.now old.kept.items keeps order.heard);
}

some-is : {A : Type 0} (a b : A) → Some a ≡ Some b → a ≡ b
some-is a b e = cc

pub kept_all : (ks : List NotedWatch) (cs : List Cell) (told : Option (List Cell)) → told ≡ Some [] → Some (cells_noted ks) ≡ with_cells cs told → cells_noted ks ≡ cs
kept_all ks cs told start e = some-is (cells_noted ks) cs (e ∙ ap (with_cells cs) start)

some-kept : (ks : List NotedWatch) (cs : List Cell) → cells_noted ks ≡ cs → 0 < length cs → 0 < length ks
some-kept [] cs e some = absurd (let none = subst (λ (l : List Cell). 0 < length l) (sym e) some in omega (arith, none))
some-kept (k ∷ ks) cs e some = omega arith

pub covers_all : (n : Noting) (cs : List Cell) → IsInOrder n → cells_noted n.kept.items ≡ cs → 0 < length cs → Covers n.cx.now (HasSource n.kept.items)
covers_all n cs order e some = (order.armed (some-kept n.kept.items cs e some), hears-each n.cx.now n.kept.items order.heard)

-- where nothing is kept
pub order_none : (n : Noting) → n.kept.items ≡ [] → IsInOrder n
order_none n none = record {
  armed = λ some. absurd (let nothing = subst (λ (l : List NotedWatch). 0 < length l) none some in omega (arith, nothing));
  heard = subst (AreHeard n.cx.now) (sym none) tt;
}

pub noted_then : (told : Poll (Result Woken AllocError)) (old new : Noting) (cs : List Cell) → old.kept.items ≡ []
    → NotesPoll told cs (Some (cells_noted old.kept.items)) (Some (cells_noted new.kept.items))
    → OnPending told (cells_noted new.kept.items ≡ cs)
noted_then (Ready x) old new cs none noted = tt
noted_then Pending old new cs none noted =
    kept_all new.kept.items cs (Some (cells_noted old.kept.items)) (ap (λ (l : List NotedWatch). let told : Option (List Cell) = Some (cells_noted l) in told) none) noted

pub covers_then : (told : Poll (Result Woken AllocError)) (old new : Noting) (cs : List Cell) → old.kept.items ≡ [] → IsInOrder new
    → NotesPoll told cs (Some (cells_noted old.kept.items)) (Some (cells_noted new.kept.items))
    → 0 < length cs
    → OnPending told (Covers new.cx.now (HasSource new.kept.items))
covers_then (Ready x) old new cs none order noted some = tt
covers_then Pending old new cs none order noted some = covers_all new cs order
    (kept_all new.kept.items cs (Some (cells_noted old.kept.items)) (ap (λ (l : List NotedWatch). let told : Option (List Cell) = Some (cells_noted l) in told) none) noted) some
