use Rattle.std.proofs.Common.{◌≡◌, ◌∙◌, ◌++◌, ℕ, List, map, sym, ap, subst}
use Rattle.std.specs.Borrow.{Bor}
use Rattle.std.specs.declared.alloc.Global.{Global}
use Rattle.std.specs.declared.vec.Vec.{Vec}
use Rattle.std.proofs.lemmas.Iterator.Consumers.{YieldsList-end, YieldsList-from_rest}
use Rattle.std.proofs.lemmas.List.{map_push}
use Rattle.mdb_datum.specs.Bytes.{Bytes}
use Rattle.client_script.specs.Reply.{changed_lines}
use Rattle.run_check.specs.declared.sight.Sight.{Sight}
use Rattle.run_check.specs.inner.ChangeView.{ShowsState, change_of, changes_of}
use Rattle.run_check.specs.inner.KeyView.{bytes_of}
use Rattle.run_check.proofs.ChangeLines.{one_more_key, shown_keys}
use Rattle.run_check.proofs.changes.write_changes.Goals as goal

pub loop-key-preserved : goal.loop-key-preserved
loop-key-preserved c = λ old new was now.
    let schema = c.args.schema.now in
    let bytes = λ (k : Bor (Vec ℕ Global)). k.now.items in
    one_more_key schema old new (map bytes c.loop-key.yielded) c.in-Some.key.now.items c.args.out.now.items c.loop-key.out.items c.write_key.new.out.items (c.loop-key.invariant old new was now)
    (c.in_ok-write_key.ensures old new was now ∙ ap (λ (k : Bytes). c.loop-key.out.items ++ changed_lines (change_of schema old new k)) c.deref.ensures.value)
    ∙ ap (λ (ks : List Bytes). c.args.out.now.items ++ changed_lines (changes_of schema old new ks)) (sym (map_push bytes c.loop-key.yielded c.in-Some.key))

pub returns : goal.returns
returns c = λ old new was now.
    let schema = c.args.schema.now in
    let keys = c.args.writing.now.changed.keys in
    let whole : map (λ (k : Bor (Vec ℕ Global)). k.now) c.loop-key.yielded ≡ keys =
    (YieldsList-end (YieldsList-from_rest {shows = λ (k : Bor (Vec ℕ Global)). k.now} keys (c.into_iter-key-iterator.ensures.into_iter_gives ∙ c.iter-key-items.ensures.rest)) c.loop-key.yielded _ c.loop-key.yielded_by _ _ c.in-None.is c.next.ensures.steps).0 in
    c.loop-key.invariant old new
    (subst (λ (s : Sight). ShowsState schema old s c.args.store.now) (sym c.after-first.ensures) was)
    (subst (λ (s : Sight). ShowsState schema new s c.args.store.now) (sym c.sight-last.ensures) now)
    ∙ ap (λ (ks : List Bytes). c.args.out.now.items ++ changed_lines (changes_of schema old new ks)) (shown_keys c.loop-key.yielded ∙ ap (map bytes_of) whole)
