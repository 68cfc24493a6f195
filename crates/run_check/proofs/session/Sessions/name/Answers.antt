use Rattle.std.proofs.Common.{◌≡◌, ap, ◌∙◌, subst, sym, refl, Err}
use Rattle.client_script.specs.Client as plain
use Rattle.client_script.specs.Client.{Judged}
use Rattle.client_script.specs.Turn.{Turn, name_turn, watch_turn}
use Rattle.client_script.specs.declared.command.NameCommand.{NameCommand}
use Rattle.client_script.specs.RuleName.{rule_name}
use Rattle.run_check.specs.inner.ClientView.{known}
use Rattle.run_check.specs.inner.SessionView.{TurnTold}
use Rattle.run_check.proofs.LineTold.{turn_told_or_refused}
use Rattle.run_check.proofs.SightsSeen.{open_sight}
use Rattle.run_check.proofs.WatchesAsked.{refused_told}
use Rattle.run_check.proofs.session.Sessions.name.Goals as goal

pub returns-in-Snapshot : goal.returns-in-Snapshot
returns-in-Snapshot c = record {
  told = λ schema H txns laws k.
      let v = c.args.knows.now in
      let old = c.args.self.now.text.items in
      subst (λ (l : NameCommand). TurnTold schema H (name_turn schema H (known txns v) l) (known txns v) old c.snapshot.new.self c.snapshot.new.knows c.snapshot.result) (sym c.in-Snapshot.is)
      (turn_told_or_refused schema H txns _ (known txns v) old c.snapshot.new.self c.snapshot.new.knows c.snapshot.result (c.snapshot.ensures.told schema txns) (c.snapshot.ensures.keeps schema H txns k) (c.snapshot.ensures.refuses schema H txns k));
}

pub returns-in_ok-sight-in-Watch : goal.returns-in_ok-sight-in-Watch
returns-in_ok-sight-in-Watch c = record {
  told = λ schema H txns laws k.
      let v = c.args.knows.now in
      let old = c.args.self.now.text.items in
      let sight = c.in_ok-sight-in-Watch.sight in
      let name = c.in-Watch.name in
      let q = c.in-Watch.query in
      subst (λ (l : NameCommand). TurnTold schema H (name_turn schema H (known txns v) l) (known txns v) old c.watch.new.self c.watch.new.knows c.watch.result) (sym c.in-Watch.is)
      (subst (λ (j : Judged plain.Sight). TurnTold schema H (watch_turn schema H (known txns v) j name q) (known txns v) old c.watch.new.self c.watch.new.knows c.watch.result) (c.in_ok-sight-in-Watch.ensures.told schema txns)
      (c.watch.ensures.told schema H txns laws k (open_sight schema H txns v sight k.sound c.in_ok-sight-in-Watch.ensures.seen)));
}

pub returns-in_ok-sight-in-WatchIn : goal.returns-in_ok-sight-in-WatchIn
returns-in_ok-sight-in-WatchIn c = record {
  told = λ schema H txns laws k.
      let v = c.args.knows.now in
      let old = c.args.self.now.text.items in
      let sight = c.in_ok-sight-in-WatchIn.sight in
      let kept = c.in_ok-sight-in-WatchIn.ensures.kept in
      let name = c.in-WatchIn.name in
      let q = c.in-WatchIn.query in
      subst (λ (l : NameCommand). TurnTold schema H (name_turn schema H (known txns v) l) (known txns v) old c.watch-in-WatchIn.new.self c.watch-in-WatchIn.new.knows c.watch-in-WatchIn.result) (sym c.in-WatchIn.is)
      (subst (λ (j : Judged plain.Sight). TurnTold schema H (watch_turn schema H (known txns v) j name q) (known txns v) old c.watch-in-WatchIn.new.self c.watch-in-WatchIn.new.knows c.watch-in-WatchIn.result) (c.in_ok-sight-in-WatchIn.ensures.told schema txns)
      (c.watch-in-WatchIn.ensures.told schema H txns laws k (k.sound.snapshots kept.0 sight kept.1)));
}

pub returns-in_err-sight-in-WatchIn : goal.returns-in_err-sight-in-WatchIn
returns-in_err-sight-in-WatchIn c = record {
  told = λ schema H txns laws k.
      let s = c.args.self.now in
      let v = c.args.knows.now in
      let name = c.in-WatchIn.name in
      let q = c.in-WatchIn.query in
      let rule = c.in_err-sight-in-WatchIn.field-0.0 in
      let r = c.from_residual-in_err-sight-in-WatchIn.result in
      let refused : Judged plain.Sight → Turn = λ j. watch_turn schema H (known txns v) j name q in
      let told : refused (Err (rule_name schema rule)) ≡ name_turn schema H (known txns v) c.args.line.now = ap refused (c.in_err-sight-in-WatchIn.ensures.told schema txns) ∙ ap (name_turn schema H (known txns v)) (sym c.in-WatchIn.is) in
      refused_told schema H txns (name_turn schema H (known txns v) c.args.line.now) (known txns v) s.text.items s v rule r c.from_residual-in_err-sight-in-WatchIn.ensures.1 (sym told) refl k;
}
