use Rattle.std.proofs.Common.{◌∙◌, ap, refl, sym}
use Rattle.std.proofs.lemmas.Result.{IfOk-weaker}
use Rattle.watch_set.specs.Members.{with_watch}
use Rattle.client_session.specs.inner.SetsKept.{PutsBack}
use Rattle.client_session.proofs.SetsJoined.{put_added}
use Rattle.client_session.proofs.WatchesTold.{add_told, add_unknown}
use Rattle.client_session.proofs.watching.Watching.add.Goals as goal

pub returns-in_default : goal.returns-in_default
returns-in_default c p now v ids knows holds =
    let g = c.args.self.now in
    add_unknown p now g g v ids knows holds c.args.set.now c.args.name.now (sym c.in_default.ensures)

pub returns : goal.returns
returns c =
    let g = c.args.self.now in
    let set = c.args.set.now in
    let name = c.args.name.now in
    let h = c.in-Some.held.now in
    let mid = c.taken-members.new.sets in
    let new = c.put_back.new.sets in
    let ms = c.add.new.self in
    IfOk-weaker c.put_back.result (λ r. PutsBack mid new set ms r) _
    (λ r puts p now v ids knows holds. add_told p now g (record { watches = g.watches; sets = new }) v ids knows holds set name h r (sym c.in-Some.ensures) refl
    (put_added g.sets mid new set name h ms r c.taken-members.ensures.left (c.in_ok-add.ensures.set ∙ ap (with_watch name h) c.taken-members.ensures.members) puts))
    c.put_back.ensures
