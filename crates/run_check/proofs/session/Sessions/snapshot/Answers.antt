use Rattle.std.proofs.Common.{◌∙◌, sym, refl}
use Rattle.run_check.specs.declared.client.Client.{Client}
use Rattle.run_check.proofs.KnownKept.{known_after, whatever}
use Rattle.run_check.proofs.SightsSeen.{open_sight}
use Rattle.run_check.proofs.SnapshotKept.{sound_snapshot}
use Rattle.run_check.proofs.SnapshotsTold.{snapshot_kept, snapshot_taken}
use Rattle.run_check.proofs.session.Sessions.snapshot.Goals as goal

pub returns-then-is_some-clause-told : goal.returns-then-is_some-clause-told
returns-then-is_some-clause-told c = λ schema txns.
    let v = c.args.knows.now in (
      snapshot_taken txns v c.args.name.now c.in_ok-sight.sight (c.in_ok-sight.ensures.told schema txns) (v.snapshots.paired ∙ v.snapshots.values.ok.0) c.place.result c.place.ensures (sym c.is_some.ensures ∙ c.if-is_some.true),
      refl,
    )

pub returns-clause-told : goal.returns-clause-told
returns-clause-told c = λ schema txns.
    let v = c.args.knows.now in
    snapshot_kept txns v c.args.name.now c.in_ok-sight.sight (c.in_ok-sight.ensures.told schema txns) (v.snapshots.paired ∙ v.snapshots.values.ok.0) c.place.result c.place.ensures schema (record v { snapshots = c.add.new.self }) c.args.self.now.text.items c.say_snapshot.new.self.text.items c.say_snapshot.result (sym c.is_some.ensures ∙ c.if-is_some.false) refl c.in_ok-add.ensures.names c.in_ok-add.ensures.values c.say_snapshot.ensures.said c.say_snapshot.ensures.short

pub returns-clause-keeps : goal.returns-clause-keeps
returns-clause-keeps c = λ schema H txns k.
    let s = c.args.self.now in
    let v = c.args.knows.now in
    let after : Client = record v { snapshots = c.add.new.self } in
    whatever c.say_snapshot.result _
    (known_after schema H txns s c.say_snapshot.new.self v after c.say_snapshot.ensures.kept k
    (sound_snapshot schema H txns v after k.sound c.in_ok-sight.sight (open_sight schema H txns v c.in_ok-sight.sight k.sound c.in_ok-sight.ensures.seen) refl c.in_ok-add.ensures.values))
