use Rattle.std.proofs.Common.{◌≡◌, ◌⊎◌, inl, inr, None, refl, subst, sym}
use Rattle.std.specs.BTreeMap.{get_by_text}
use Rattle.client_script.specs.Reply.{refused}
use Rattle.client_script.specs.declared.command.WatchesCommand.TheVariants as watches_line
use Rattle.client_session.specs.declared.watching.Watching.{Watching}
use Rattle.client_session.specs.inner.WatchingView.{WatchTold}
use Rattle.client_session.proofs.LooksTold.{unknown}
use Rattle.std.proofs.lemmas.Result.{IfOk-weaker}
use Rattle.client_session.specs.inner.SetsKept.{PutsBack}
use Rattle.client_session.proofs.WatchesTold.{limit_told, limit_unknown}
use Rattle.client_session.proofs.watching.Watching.add_limit.Goals as goal
use Rattle.client_session.proofs.watching.Watching.add_limit.Goals.{in_default-via-in-Some+in_default, in_default-via-in_default}

pub returns-in_default : goal.returns-in_default
returns-in_default c p now v ids knows holds =
    let g = c.args.self.now in
    let set = c.args.set.now in
    let name = c.args.name.now in
    let other = c.args.other.now in
    let told : (get_by_text g.watches.kept name ≡ None) ⊎ (get_by_text g.watches.kept other ≡ None) → WatchTold p now g v (watches_line.AddLimit set c.args.limit name other) (refused unknown) =
    limit_unknown p now g g v ids knows holds set c.args.limit name other in
    let same : (h : Watching) → h ≡ g → WatchTold p now g v (watches_line.AddLimit set c.args.limit name other) (refused unknown) → WatchTold p now h v (watches_line.AddLimit set c.args.limit name other) (refused unknown) =
    λ h is. subst (λ (x : Watching). WatchTold p now x v (watches_line.AddLimit set c.args.limit name other) (refused unknown)) (sym is) in
    elim c.in_default.branch [
      | in_default-via-in-Some+in_default w ↦ same c.in_default.self w.self-is (told (inr (sym w.in_default.ensures')))
      | in_default-via-in_default w ↦ same c.in_default.self w.self-is (told (inl (sym w.in_default.ensures)))
    ]

pub returns : goal.returns
returns c =
    let g = c.args.self.now in
    let set = c.args.set.now in
    let name = c.args.name.now in
    let other = c.args.other.now in
    let h = c.in-Some-Some.held.now in
    let o = c.in-Some-Some.alternative.now in
    let mid = c.taken-members.new.sets in
    let new = c.put_back.new.sets in
    let ms = c.add_with_limit.new.self in
    IfOk-weaker c.put_back.result (λ r. PutsBack mid new set ms r) _
    (λ r puts p now v ids knows holds. limit_told p now g (record { watches = g.watches; sets = new }) v ids knows holds set c.args.limit name other h o (sym c.in-Some-Some.ensures) (sym c.in-Some-Some.ensures') mid c.taken-members.result ms r refl c.taken-members.ensures.left c.taken-members.ensures.members c.in_ok-add_with_limit.ensures.set puts)
    c.put_back.ensures
