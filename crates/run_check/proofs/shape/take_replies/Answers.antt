use Rattle.run_check.specs.Reads.{replies_of}
use Rattle.run_check.specs.Shape.{take_replies}
use Rattle.run_check.specs.Views.{place_of}
use Rattle.run_check.specs.declared.mode.Mode.TheVariants.{Idle}
use Rattle.run_check.specs.declared.place.Place.{Place}
use Rattle.run_check.proofs.RepliesTaken.{stops_on}
use Rattle.run_check.proofs.shape.take_replies.Goals as goal

pub returns-in_err-behind : goal.returns-in_err-behind
returns-in_err-behind c =
    let told = take_replies Idle c.args.script.now (place_of c.args.start) in
    stops_on (λ (place : Place). replies_of (c.add_replies.new.replies, place)) told c.in_err-behind.field-0.0 replies_of told c.from_residual.result (λ line bad. bad) c.in_err-behind.ensures c.from_residual.ensures.1
