use Rattle.std.proofs.Common.{◌≡◌, ◌∙◌, false, set, ap}
use Rattle.std.proofs.lemmas.List.{set-get_or}
use Rattle.std.proofs.lemmas.List.Elements.{All-get_or}
use Rattle.radix_txn.specs.Txn.{Txn}
use Rattle.table_index.proofs.cut.stand_at.Goals as goal

pub stand-requires : goal.stand-requires
stand-requires c = record { sound = All-get_or (λ (x : Txn). x.spoiled ≡ false) c.args.txns.now c.args.place c.index-txns-place.result c.requires.place c.requires.sound }

pub returns-clause-unchanged : goal.returns-clause-unchanged
returns-clause-unchanged c = ap (set c.args.txns.now c.args.place) c.stand.ensures.unchanged ∙ set-get_or c.args.txns.now c.args.place c.index-txns-place.result
