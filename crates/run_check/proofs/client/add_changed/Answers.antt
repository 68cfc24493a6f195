use Rattle.std.proofs.Common.{rules, ◌≡◌, ◌∷◌, ap, ◌∙◌, ℕ, map}
use Rattle.std.specs.BTreeSet.{insert_key}
use Rattle.std.specs.Cmp.Lexicographic.{slice_cmp}
use Rattle.std.specs.Ordering.{nat_cmp}
use Rattle.std.specs.declared.alloc.Global.{Global}
use Rattle.std.specs.declared.vec.Vec.{Vec}
use Rattle.run_check.specs.inner.ClientView.{changed_of}
use Rattle.run_check.proofs.KeysChanged.{key_inserted}
use Rattle.run_check.proofs.client.add_changed.Goals as goal

pub returns-clause-added : goal.returns-clause-added
returns-clause-added c =
    let is : c.in_ok-key.key.items ≡ c.args.table ∷ c.args.id.now = search rules in
    ap (map (λ (v : Vec ℕ Global). v.items)) c.in_ok-insert.ensures.keys
    ∙ key_inserted c.args.writing.now.changed.keys c.in_ok-key.key
    ∙ ap (insert_key (slice_cmp nat_cmp) (changed_of c.args.writing.now)) is
