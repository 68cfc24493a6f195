use Rattle.std.proofs.Common.{◌≡◌, ◌∙◌, sym, None}
use Rattle.run_check.specs.inner.NamedView.{place_in}
use Rattle.run_check.proofs.NamesAdded.{place_of_new}
use Rattle.run_check.proofs.WatchesAmong.{set_made}
use Rattle.run_check.proofs.watching.Watching.set_place.Goals as goal

pub returns-in-None-clause-there : goal.returns-in-None-clause-there
returns-in-None-clause-there c =
    let sets = c.args.self.now.sets in
    place_of_new c.add.result c.args.name.now sets.names c.add.new.self.names _ (sym c.in-None.is ∙ c.place.ensures) (sets.paired ∙ sets.values.ok.0) c.add.ensures.place c.add.ensures.names

pub returns-in-None-clause-made : goal.returns-in-None-clause-made
returns-in-None-clause-made c =
    let sets = c.args.self.now.sets in
    set_made (place_in c.args.name.now sets.names ≡ None) c.add.result c.args.name.now sets.names c.add.new.self.names sets.values.items c.add.new.self.values.items c.new.result c.new.ensures.members c.new.ensures.added c.add.ensures.names c.add.ensures.values
