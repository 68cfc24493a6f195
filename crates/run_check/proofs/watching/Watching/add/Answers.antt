use Rattle.run_check.proofs.WatchesAmong.{added_there, told_there}
use Rattle.run_check.proofs.watching.Watching.add.Goals as goal

pub returns-clause-told : goal.returns-clause-told
returns-clause-told c = told_there c.args.self.now.watches.values.items c.args.self.now.sets.values.items c.args.set c.args.place c.args.size c.index_mut.result.now c.add.result c.index_mut.ensures.value c.add.ensures.told

pub returns-clause-added : goal.returns-clause-added
returns-clause-added c = added_there c.args.self.now.sets.values.items c.args.set c.args.place c.args.size c.index_mut.result.now c.add.new.self c.add.result c.index_mut.ensures.value c.add.ensures.members c.add.ensures.added
