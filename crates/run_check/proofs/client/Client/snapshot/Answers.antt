use Rattle.std.proofs.Common.{◌≡◌, ap, sym, ◌∙◌, length, None, Option, Some, option_map}
use Rattle.std.specs.Borrow.{Bor}
use Rattle.std.specs.Prelude.{codes}
use Rattle.run_check.specs.declared.sight.Sight.{Sight}
use Rattle.run_check.specs.inner.NamedView.{place_in}
use Rattle.run_check.proofs.NamedFound.{snapshot_told}
use Rattle.run_check.proofs.SnapshotsTold.{value_at}
use Rattle.run_check.proofs.client.Client.snapshot.Goals as goal

pub returns-in-Some-clause-told : goal.returns-in-Some-clause-told
returns-in-Some-clause-told c = λ schema txns.
    let kept = c.args.self.now.snapshots in
    let found : Some c.in-Some.sight.now ≡ _ = sym (ap (option_map (λ (s : Bor Sight). s.now)) c.in-Some.is) ∙ c.get.ensures in
    let paired : length kept.names ≡ length kept.values.items = kept.paired ∙ kept.values.ok.0 in
    sym (snapshot_told txns c.args.name.now (codes "unknown-name") kept.names kept.values.items (Some c.in-Some.sight.now) paired found)

pub returns-in-None-clause-told : goal.returns-in-None-clause-told
returns-in-None-clause-told c = λ schema txns.
    let kept = c.args.self.now.snapshots in
    let none : Option Sight = None in
    let found : none ≡ _ = sym (ap (option_map (λ (s : Bor Sight). s.now)) c.in-None.is) ∙ c.get.ensures in
    let paired : length kept.names ≡ length kept.values.items = kept.paired ∙ kept.values.ok.0 in
    sym (snapshot_told txns c.args.name.now (codes "unknown-name") kept.names kept.values.items none paired found)

pub returns-in-Some-clause-kept : goal.returns-in-Some-clause-kept
returns-in-Some-clause-kept c =
    let kept = c.args.self.now.snapshots in
    let found : Some c.in-Some.sight.now ≡ _ = sym (ap (option_map (λ (s : Bor Sight). s.now)) c.in-Some.is) ∙ c.get.ensures in
    value_at kept.values.items (place_in c.args.name.now kept.names) c.in-Some.sight.now (sym found)
